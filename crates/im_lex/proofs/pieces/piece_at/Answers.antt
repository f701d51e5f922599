use Rattle.im_lex.proofs.Fronts.{next_blank}
use Rattle.im_lex.proofs.pieces.piece_at.Goals as goal

pub returns-in-Blank : goal.returns-in-Blank
returns-in-Blank c = next_blank c.args.text.now c.requires c.in-Blank.ensures.opens c.args.starts_line

pub returns-in-Name : goal.returns-in-Name
returns-in-Name c = c.name_piece.ensures c.args.starts_line
