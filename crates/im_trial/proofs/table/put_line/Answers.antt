use Rattle.std.proofs.Common.{map, None, sym, ◌∙◌, arith}
use Rattle.std.proofs.lemmas.Str.Pattern.{strip_prefix_char}
use Rattle.im_trial.specs.Tables.{said_of}
use Rattle.im_trial.proofs.Below.{no_row_puts}
use Rattle.im_trial.proofs.table.put_line.Goals as goal

pub returns-else-is_row : goal.returns-else-is_row
returns-else-is_row c =
    no_row_puts (map said_of c.args.rows.now.items) c.args.line.now (sym c.is_row.ensures ∙ c.if-is_row.false) (strip_prefix_char 124 c.args.line.now None c.in_default.ensures.cases (omega arith))
