use Rattle.std.proofs.Common.{sym}
use Rattle.std.proofs.lemmas.List.{length-map}
use Rattle.im_check_operands.specs.Shape.{term_in}
use Rattle.im_check_name_forms.proofs.Passed.{counted, nat_eq_of}
use Rattle.im_check_name_forms.proofs.calls.takes.Goals as goal

pub returns-clause-value : goal.returns-clause-value
returns-clause-value c = λ types f constant returned. nat_eq_of (sym (length-map c.args.arguments.now (term_in types))) (sym (counted c.args.parameters.now))
