use Rattle.im_check_statement_forms.proofs.Rows.{block-of}
use Rattle.im_check_statement_forms.proofs.made.block_made.Goals as goal

pub returns : goal.returns
returns c = λ types. block-of types _
