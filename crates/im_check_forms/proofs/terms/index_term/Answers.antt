use Rattle.std.proofs.Common.{refl, sym, ap, inl, ◌∙◌}
use Rattle.im_ctype.specs.Table.{structs_of}
use Rattle.im_check_operations.specs.im_rules.Conversions as cv
use Rattle.im_check_forms.proofs.Made.{of_two}
use Rattle.im_check_forms.proofs.terms.index_term.Goals as goal

pub returns-then-not-is_indexed : goal.returns-then-not-is_indexed
returns-then-not-is_indexed c =
    let n = sym (c.is_indexed.ensures) ∙ c.if-not-is_indexed.true in
    rw c.refused.ensures (inl (refl, n), refl)

pub returns : goal.returns
returns c =
    let t = c.args.table.now in
    let n = sym (c.is_indexed.ensures) ∙ c.if-not-is_indexed.false in
    ((n, tt), c.in_ok-made.ensures t ∙ ap cv.pointed (c.in_ok-pointer.ensures ∙ of_two (cv.sum (structs_of t)) c.in_ok-left.ensures c.in_ok-right.ensures))
