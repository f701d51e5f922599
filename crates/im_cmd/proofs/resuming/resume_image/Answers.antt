use Rattle.std.proofs.Common.{ap, sym, ◌∙◌}
use Rattle.im_image.specs.Contents.{ImageValue}
use Rattle.im_cmd_lines.specs.Refusals.{refused_of}
use Rattle.im_cmd.specs.Memories.{memory_unread}
use Rattle.im_cmd.proofs.Stages.{form_refused_as, memory_unheld, resumes_on_as}
use Rattle.im_cmd.proofs.resuming.resume_image.Goals as goal

pub returns-in-Err : goal.returns-in-Err
returns-in-Err g c = memory_unread (refused_of c.in-Err.refusal) c.in-Err.ensures

pub returns-in-Err-resume_text : goal.returns-in-Err-resume_text
returns-in-Err-resume_text g c =
    memory_unheld _ c.args.image.now c.args.name.now c.in-Ok.text.items _ _ c.in-Ok.ensures (refused_of c.in-Err-resume_text.refusal) (rw c.deref.ensures.value at c.in-Err-resume_text.ensures)

pub returns-then-differs : goal.returns-then-differs
returns-then-differs g c =
    form_refused_as c.args.image_name.now c.args.image.now c.args.name.now c.in-Ok.text.items c.in-Ok-resume_text.machine _ _ c.image.inside.form c.output_form-form.result c.in-Ok.ensures
    (rw c.deref.ensures.value at c.in-Ok-resume_text.ensures) (ap (λ (i : ImageValue). i.form) c.image.view_is) c.output_form-form.ensures (sym c.differs.ensures ∙ c.if-differs.true)

pub returns : goal.returns
returns g c =
    resumes_on_as c.args.image.now c.args.name.now c.in-Ok.text.items c.in-Ok-resume_text.machine _ _ c.image.inside.form c.output_form-form.result c.in-Ok.ensures
    (rw c.deref.ensures.value at c.in-Ok-resume_text.ensures) (ap (λ (i : ImageValue). i.form) c.image.view_is) c.output_form-form.ensures (sym c.differs.ensures ∙ c.if-differs.false)
