use Rattle.im_lex.proofs.Readings.{one_cut, one_list, apart}
use Rattle.im_lex.proofs.lexing.one_reading.Goals as goal

pub returns-clause-tokens : goal.returns-clause-tokens
returns-clause-tokens c = one_list

pub returns-clause-place : goal.returns-clause-place
returns-clause-place c = λ text a b g h. (one_cut text 0 g.pieces h.pieces a b g.cut h.cut g.none h.none).1

pub returns-clause-apart : goal.returns-clause-apart
returns-clause-apart c = apart
