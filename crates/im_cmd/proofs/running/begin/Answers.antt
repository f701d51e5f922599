use Rattle.std.proofs.Common.{Bor, ap}
use Rattle.std.specs.Prelude.{ℕ, List, option_map}
use Rattle.im_cmd_lines.specs.Refusals.{refused_of}
use Rattle.im_cmd.proofs.Stages.{begins_resumed, resume_refused}
use Rattle.im_cmd.proofs.running.begin.Goals as goal

pub returns-in-Ok : goal.returns-in-Ok
returns-in-Ok g c = begins_resumed _ _ _ c.in-Some.name.now _ _ _ (ap (option_map (λ (file : Bor (List ℕ)). file.now)) c.in-Some.is) c.in-Ok.ensures

pub returns-in-Err : goal.returns-in-Err
returns-in-Err g c = resume_refused _ _ _ _ c.in-Some.name.now _ _ (ap (option_map (λ (file : Bor (List ℕ)). file.now)) c.in-Some.is) (refused_of c.in-Err.refusal) c.in-Err.ensures

pub returns-in-Ok-begin_anew : goal.returns-in-Ok-begin_anew
returns-in-Ok-begin_anew g c = rw c.in-None.is (c.in-Ok-begin_anew.ensures c.args.image_name.now)

pub returns-in-Err-begin_anew : goal.returns-in-Err-begin_anew
returns-in-Err-begin_anew g c = rw c.in-None.is (c.in-Err-begin_anew.ensures c.args.image_name.now)
