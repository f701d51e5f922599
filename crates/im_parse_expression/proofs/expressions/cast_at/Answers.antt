use Rattle.im_parse_expression.proofs.Exits.{isnt}
use Rattle.im_parse_expression.specs.Casts.{untyped}
use Rattle.im_parse_expression.proofs.expressions.cast_at.Goals as goal

pub returns-else-begins_specifiers : goal.returns-else-begins_specifiers
returns-else-begins_specifiers c =
    untyped c.in_ok-inside.ensures (isnt c.begins_specifiers.result c.if-begins_specifiers.false c.begins_specifiers.ensures)
