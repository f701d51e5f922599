use Rattle.im_lex.proofs.Fronts.{next_number, no_number}
use Rattle.im_lex.proofs.pieces.number_piece.Goals as goal

pub returns-in-Some : goal.returns-in-Some
returns-in-Some c = next_number c.args.text.now c.number_end-length.result c.requires c.number_end-length.ensures _ c.in-Some.ensures

pub returns-in-None : goal.returns-in-None
returns-in-None c = (no_number c.args.text.now c.number_end-length.result c.requires c.number_end-length.ensures c.in-None.ensures, c.requires)
