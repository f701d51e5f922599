use Rattle.std.proofs.Common.{◌≡◌, ◌∙◌, ap, subst, ℕ, List, map}
use Rattle.std.proofs.lemmas.Result.{IfOk-weaker}
use Rattle.im_typed.specs.declared.program.Func.{Func}
use Rattle.im_typed.specs.Frames.{sizes_in}
use Rattle.im_typed.specs.ProgramOf.{func_of, program_of}
use Rattle.im_typed.specs.Programs.{meaning}
use Rattle.im_eval_machine.specs.Endings.{told}
use Rattle.im_eval.proofs.Telling.{framed}
use Rattle.im_eval.proofs.program.eval.Goals as goal

pub returns : goal.returns
returns c =
    let prog = c.args.prog.now in
    let frames = c.args.frames.now.frames.items in
    let sizes =
    c.deref-2.ensures.value ∙ c.in_ok-sizes.ensures prog.types
    ∙ ap (λ (fs : List Func). sizes_in frames (map (func_of prog.types) fs)) c.deref.ensures.value in
    IfOk-weaker c.eval_framed.result _ _
    (λ outcome h. subst (λ (bytes : List ℕ). told outcome ≡ meaning (framed (program_of prog) bytes c.args.stack c.args.cap) c.args.input.now c.args.fuel) sizes h) c.eval_framed.ensures
