use Rattle.im_check_statement_forms.proofs.Rows.{switch-of}
use Rattle.im_check_statement_forms.proofs.made.switch_of.Goals as goal

pub returns : goal.returns
returns c = λ types. switch-of types c.args.value c.args.cases c.args.otherwise c.args.block
