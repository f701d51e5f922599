use Rattle.std.proofs.lemmas.Result.{err_from_is_err_and}
use Rattle.im_image.proofs.Front.{wrong_header, wrong_form, wrong_room, right_front}
use Rattle.im_image.proofs.reading.read_front.Goals as goal

pub returns-in_err-header-clause-wrong : goal.returns-in_err-header-clause-wrong
returns-in_err-header-clause-wrong c =
    let p = err_from_is_err_and c.from_residual.result c.from_residual.ensures.1 in
    rw (p.1, p.2) (wrong_header c.args.bytes.now c.in_err-header.field-0.0 c.in_err-header.ensures.wrong)

pub returns-in_err-form-clause-wrong : goal.returns-in_err-form-clause-wrong
returns-in_err-form-clause-wrong c =
    let p = err_from_is_err_and c.from_residual-in_err-form.result c.from_residual-in_err-form.ensures.1 in
    rw (p.1, p.2) (wrong_form c.args.bytes.now c.in_ok-header.header c.in_err-form.field-0.0 c.in_ok-header.ensures.header c.in_ok-header.ensures.right c.in_err-form.ensures.wrong)

pub returns-then-bytes-objects_place-clause-wrong : goal.returns-then-bytes-objects_place-clause-wrong
returns-then-bytes-objects_place-clause-wrong c =
    rw c.short.ensures (wrong_room c.args.bytes.now c.in_ok-header.header c.objects_place.result c.in_ok-header.ensures.header c.objects_place.ensures c.in_ok-header.ensures.right c.in_ok-form.ensures.right c.if-bytes-objects_place.true)

pub returns-clause-right : goal.returns-clause-right
returns-clause-right c =
    (right_front c.args.bytes.now c.in_ok-header.header c.objects_place.result c.in_ok-header.ensures.header c.objects_place.ensures c.in_ok-header.ensures.right c.in_ok-form.ensures.right c.if-bytes-objects_place.false).1
