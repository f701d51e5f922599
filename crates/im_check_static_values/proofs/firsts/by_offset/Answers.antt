use Rattle.std.proofs.Common.{pos, sym, ap, ◌∙◌, take, get_or}
use Rattle.std.proofs.lemmas.List.{take_more}
use Rattle.im_typed.specs.declared.program.Constant.TheVariants.{Number}
use Rattle.im_check_static_values.specs.declared.given.Given.{Given}
use Rattle.im_check_static_values.specs.Given.{first_or, given_at, given_by}
use Rattle.im_check_static_values.proofs.GivenValues.{given_behind}
use Rattle.im_check_static_values.proofs.firsts.by_offset.Goals as goal

pub loop-one-preserved : goal.loop-one-preserved
loop-one-preserved c = λ types k.
    let l = c.loop-one in
    let gs = c.args.given.now in
    let d : Given = record { offset = 0; value = Number (pos 0) } in
    let g = get_or gs l.one-index d in
    c.in_ok-keep.ensures types k
    ∙ ap (λ o. first_or o (given_by types k g)) (l.invariant types k)
    ∙ sym (given_behind types k (take l.one-index gs) g)
    ∙ ap (given_at types k) (sym (take_more gs l.one-index d c.loop-one-test.true))
