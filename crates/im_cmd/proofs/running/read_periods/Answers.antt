use Rattle.std.proofs.Common.{Bor, ap}
use Rattle.std.specs.Prelude.{ℕ, List, option_map}
use Rattle.im_cmd_words.specs.Named.{options_meaning}
use Rattle.im_cmd_lines.specs.Refusals.{refused_of}
use Rattle.im_cmd.specs.Stages.{trace_refused}
use Rattle.im_cmd.proofs.Stages.{no_periods, periods_named}
use Rattle.im_cmd.proofs.running.read_periods.Goals as goal

pub returns-in-Ok : goal.returns-in-Ok
returns-in-Ok g c = periods_named (options_meaning c.args.options) c.in-Some.name.now _ _ _ (ap (option_map (λ (file : Bor (List ℕ)). file.now)) c.in-Some.is) c.in-Ok.ensures

pub returns-in-Err : goal.returns-in-Err
returns-in-Err g c = trace_refused c.in-Some.name.now (refused_of c.in-Err.refusal) (ap (option_map (λ (file : Bor (List ℕ)). file.now)) c.in-Some.is) c.in-Err.ensures

pub returns-in-Err-OutOfMemory : goal.returns-in-Err-OutOfMemory
returns-in-Err-OutOfMemory g c = no_periods _ (g.H.Shelf.state c.args.shelf.now)
