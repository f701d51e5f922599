use Rattle.std.proofs.Common.{ap, sym, ◌∙◌}
use Rattle.im_word.specs.Shown.{shown}
use Rattle.im_parse_expression.proofs.Operators.{word_stands, no_word}
use Rattle.im_parse_expression.proofs.look.specifier_word_at.Goals as goal

pub returns-in_err-word-in-Keyword : goal.returns-in_err-word-in-Keyword
returns-in_err-word-in-Keyword c = let p = c.from_residual-in_err-word-in-Keyword.ensures in rw p (no_word (rw (ap shown c.in-Keyword.is) at c.in_ok-found.ensures) (sym c.in_err-word-in-Keyword.ensures))

pub returns-in_ok-word-in-Keyword : goal.returns-in_ok-word-in-Keyword
returns-in_ok-word-in-Keyword c = word_stands (rw (ap shown c.in-Keyword.is) at c.in_ok-found.ensures) (sym c.in_ok-word-in-Keyword.ensures)
