use Rattle.std.proofs.Common.{◌≡◌, ◌∙◌, ap, subst, ℕ, List, map}
use Rattle.std.proofs.lemmas.Result.{IfOk-weaker}
use Rattle.im_typed.specs.declared.frames.Frame.{Frame}
use Rattle.im_typed.specs.ProgramOf.{program_of}
use Rattle.im_eval_machine.specs.Endings.{told}
use Rattle.im_keeps_source.specs.Laws.{meaning_of}
use Rattle.im_cmd.proofs.Evaluations.{known}
use Rattle.im_cmd.proofs.evaluating.outcome_of.Goals as goal

pub eval_framed-requires-clause-typed : goal.eval_framed-requires-clause-typed
eval_framed-requires-clause-typed c = c.requires.typed

pub eval_framed-requires-clause-known : goal.eval_framed-requires-clause-known
eval_framed-requires-clause-known c = known _ c.requires.known

pub returns : goal.returns
returns c =
    let sizes =
    c.deref-2.ensures.value ∙ c.in_ok-sizes.ensures ∙ ap (λ (fs : List Frame). map (λ (f : Frame). f.size) fs) c.deref.ensures.value in
    IfOk-weaker c.eval_framed.result _ _
    (λ outcome h. h ∙ (λ i. meaning_of (program_of c.args.whole.now.prog) (sizes i) (c.image.view_is i) c.args.input.now (c.from-fuel.ensures i)))
    c.eval_framed.ensures
