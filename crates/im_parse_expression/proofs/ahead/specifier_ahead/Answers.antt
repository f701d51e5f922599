use Rattle.im_parse_expression.proofs.NextWord.{goes_begins, goes_typed, goes_untyped, isnt_so, named_goes, no, same_as}
use Rattle.im_parse_expression.proofs.ahead.specifier_ahead.Goals as goal

pub returns-then-not-typed : goal.returns-then-not-typed
returns-then-not-typed c = same_as c.begins_specifiers.ensures (goes_untyped c.if-not-typed.true) goes_begins

pub returns-then-has_name : goal.returns-then-has_name
returns-then-has_name c = no (named_goes c.if-not-typed.false (c.has_name.ensures.0 c.if-has_name.true))

pub returns : goal.returns
returns c = same_as c.begins_specifiers-2.ensures (goes_typed (isnt_so c.has_name.ensures c.if-has_name.false)) goes_begins
