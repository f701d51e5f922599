use Rattle.im_lex.proofs.Fronts.{next_name, next_keyword}
use Rattle.im_lex.proofs.pieces.name_piece.Goals as goal

pub returns-in-Some : goal.returns-in-Some
returns-in-Some c = next_keyword c.args.text.now c.name_end-length.result c.requires c.name_end-length.ensures _ c.in-Some.ensures

pub returns-in-None : goal.returns-in-None
returns-in-None c = next_name c.args.text.now c.name_end-length.result c.requires c.name_end-length.ensures c.in-None.ensures
