use Rattle.std.proofs.Common.{refl, sym, ap, inl, ◌∙◌}
use Rattle.im_ctype.specs.Table.{structs_of}
use Rattle.im_check_operations.specs.im_rules.Conversions as cv
use Rattle.im_check_operations.specs.im_rules.Terms as r
use Rattle.im_check_forms.proofs.Made.{of_two}
use Rattle.im_check_forms.proofs.terms.binary_term.Goals as goal

pub returns-then-not-allows : goal.returns-then-not-allows
returns-then-not-allows c =
    let n = sym (c.allows.ensures) ∙ c.if-not-allows.true in
    rw c.refused.ensures (inl (sym c.rule_of.ensures, n), refl)

pub returns : goal.returns
returns c =
    let t = c.args.table.now in
    let n = sym (c.allows.ensures) ∙ c.if-not-allows.false in
    ((n, tt), ap r.value (c.in_ok-made.ensures ∙ of_two (cv.operation (structs_of t) c.args.op) c.in_ok-left.ensures c.in_ok-right.ensures))
