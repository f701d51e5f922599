use Rattle.std.proofs.Common.{ap}
use Rattle.im_check_statement_forms.specs.Opening.{with_scope}
use Rattle.im_check_statement_forms.proofs.scopes.opened.Goals as goal

pub returns : goal.returns
returns c = (record { is = ap (λ es. with_scope es c.args.body.now) c.in_ok-open.ensures.grown; scopes = c.in_ok-open.ensures.scopes }, c.mark-mark.ensures)
