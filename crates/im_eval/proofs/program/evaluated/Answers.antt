use Rattle.std.proofs.Common.{◌≤◌, arith}
use Rattle.std.proofs.lemmas.Result.{IfOk-weaker}
use Rattle.im_typed.specs.ProgramOf.{program_of}
use Rattle.im_typed.specs.Programs.{run_of_main, start}
use Rattle.im_eval.specs.Settings.{small_setting}
use Rattle.im_eval.proofs.program.evaluated.Goals as goal

pub returns : goal.returns
returns c =
    let g = small_setting (program_of c.args.prog.now) c.args.frames.now c.args.stack c.args.cap in
    let fuel = c.args.fuel in
    let input = c.args.input.now in
    let le : fuel ≤ fuel = omega arith in
    IfOk-weaker c.conclude.result _ _
    (λ outcome h live. h (run_of_main g fuel input fuel) (c.run_main-end.ensures fuel (start g input fuel) c.in_ok-machine.ensures le) live) c.conclude.ensures
