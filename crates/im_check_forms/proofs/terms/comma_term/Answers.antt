use Rattle.std.proofs.Common.{ap, ◌∙◌}
use Rattle.im_check_operations.specs.im_rules.Conversions as cv
use Rattle.im_check_operations.specs.im_rules.Terms as r
use Rattle.im_check_forms.proofs.Made.{of_two}
use Rattle.im_check_forms.proofs.terms.comma_term.Goals as goal

pub returns : goal.returns
returns c =
    let t = c.args.table.now in
    ap r.value (c.in_ok-made.ensures t ∙ of_two cv.joined c.in_ok-left.ensures c.in_ok-right.ensures)
