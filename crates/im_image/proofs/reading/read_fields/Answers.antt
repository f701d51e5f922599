use Rattle.std.proofs.Common.{◌≡◌, None, sym, subst, ◌∙◌, arith}
use Rattle.std.proofs.lemmas.Result.{err_from_is_err_and}
use Rattle.im_image.specs.Contents.{IsImage}
use Rattle.im_image.specs.Faults.{fault_of}
use Rattle.im_image.proofs.Front.{fault_in_front, behind_front, made}
use Rattle.im_image.proofs.Taken.{image_taken}
use Rattle.im_image.proofs.Unmet.{same_fault}
use Rattle.im_image.proofs.reading.read_fields.Goals as goal

pub returns-in_err-header-clause-wrong : goal.returns-in_err-header-clause-wrong
returns-in_err-header-clause-wrong c =
    let p = err_from_is_err_and c.from_residual.result c.from_residual.ensures.1 in
    rw (p.1, p.2) (fault_in_front c.args.bytes.now c.in_err-header.field-0.0 c.in_err-header.ensures.wrong)

pub returns-in_err-objects-clause-wrong : goal.returns-in_err-objects-clause-wrong
returns-in_err-objects-clause-wrong c =
    let p = err_from_is_err_and c.from_residual-in_err-objects.result c.from_residual-in_err-objects.ensures.1 in
    let h = c.in_ok-header.header in
    rw (p.1, p.2) (same_fault c.in_err-objects.field-0.0 _ _ (behind_front c.args.bytes.now h c.objects_place-objects_place.result c.in_ok-header.ensures.header c.objects_place-objects_place.ensures c.in_ok-header.ensures.right) c.in_err-objects.ensures.wrong)

pub invariant_of-result : goal.invariant_of-result
invariant_of-result c =
    let h = c.in_ok-header.header in
    let text = c.args.bytes.now in
    let none : fault_of text ≡ None = sym (behind_front text h c.objects_place-objects_place.result c.in_ok-header.ensures.header c.objects_place-objects_place.ensures c.in_ok-header.ensures.right) ∙ c.in_ok-objects.ensures.right in
    let e = made text h c.in_ok-header.form c.in_ok-words.words.items c.in_ok-statics.statics.items c.in_ok-objects.objects.items c.words_place.result c.statics_place-statics_place.result c.objects_place-objects_place.result c.in_ok-header.ensures.header c.in_ok-header.ensures.form c.words_place.ensures c.statics_place-statics_place.ensures c.objects_place-objects_place.ensures c.in_ok-words.ensures.words c.in_ok-statics.ensures.items c.in_ok-objects.ensures.objects in
    subst IsImage (sym e) (image_taken text (λ i. omega (arith, c.type_inv.bytes i)) none).0

pub returns-clause-fields : goal.returns-clause-fields
returns-clause-fields c =
    made c.args.bytes.now c.in_ok-header.header c.in_ok-header.form c.in_ok-words.words.items c.in_ok-statics.statics.items c.in_ok-objects.objects.items c.words_place.result c.statics_place-statics_place.result c.objects_place-objects_place.result c.in_ok-header.ensures.header c.in_ok-header.ensures.form c.words_place.ensures c.statics_place-statics_place.ensures c.objects_place-objects_place.ensures c.in_ok-words.ensures.words c.in_ok-statics.ensures.items c.in_ok-objects.ensures.objects

pub returns-clause-right : goal.returns-clause-right
returns-clause-right c =
    sym (behind_front c.args.bytes.now c.in_ok-header.header c.objects_place-objects_place.result c.in_ok-header.ensures.header c.objects_place-objects_place.ensures c.in_ok-header.ensures.right) ∙ c.in_ok-objects.ensures.right
