-- The expression and the string that an initialiser is. Private contracts alone speak of these.
use Rattle.std.specs.Prelude.{Option, Some, None}
use Rattle.im_check_stop.specs.im_word.Words.{Name}
use Rattle.im_ctree.specs.Tree as t

-- the bytes of a string literal
abbrev pub text_of : t.Expression → Option Name
text_of (t.string_literal at s) = Some s
text_of e = None

-- the expression that stands alone in braces
abbrev pub only_expression : t.Initializers → Option t.Expression
only_expression (t.more_initializers (t.value_initializer e) t.no_initializers) = Some e
only_expression is = None

abbrev pub expression_alone : t.Initializer → Option t.Expression
expression_alone (t.value_initializer e) = Some e
expression_alone (t.braced_initializer at is) = only_expression is

abbrev pub text_if : Option t.Expression → Option Name
text_if None = None
text_if (Some e) = text_of e

abbrev pub string_alone : t.Initializer → Option Name
string_alone i = text_if (expression_alone i)
