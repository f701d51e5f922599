use Rattle.std.proofs.lemmas.Result.{IfOk-weaker}
use Rattle.im_typed.specs.ProgramOf.{program_of}
use Rattle.im_eval.proofs.Telling.{tells}
use Rattle.im_eval.proofs.program.eval_framed.Goals as goal

pub returns : goal.returns
returns c =
    IfOk-weaker c.evaluated.result _ _
    (λ outcome h. tells (program_of c.args.prog.now) c.args.frames.now c.args.stack c.args.cap c.args.input.now c.args.fuel outcome c.requires.typed c.bytes_law.ensures h) c.evaluated.ensures
