use Rattle.std.proofs.Common.{Bor, ap}
use Rattle.std.specs.Prelude.{ℕ, List, option_map}
use Rattle.im_cmd_lines.specs.Refusals.{refused_of}
use Rattle.im_cmd.proofs.Stages.{saved_named, storing_refused}
use Rattle.im_cmd.proofs.saving.save_memory.Goals as goal

pub returns-in-Ok : goal.returns-in-Ok
returns-in-Ok g c = saved_named _ c.in-Some.name.now _ _ _ _ (ap (option_map (λ (file : Bor (List ℕ)). file.now)) c.in-Some.is) c.in-Ok.ensures

pub returns-in-Err : goal.returns-in-Err
returns-in-Err g c = storing_refused _ c.in-Some.name.now _ _ _ _ (ap (option_map (λ (file : Bor (List ℕ)). file.now)) c.in-Some.is) (refused_of c.in-Err.refusal) c.in-Err.ensures
