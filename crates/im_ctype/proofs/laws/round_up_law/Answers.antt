use Rattle.std.proofs.Common.{arith}
use Rattle.im_ctype.proofs.Rounded.{rounded-least, rounded-multiple}
use Rattle.im_ctype.proofs.laws.round_up_law.Goals as goal

pub returns-clause-reaches : goal.returns-clause-reaches
returns-clause-reaches c = λ n align. omega arith

pub returns-clause-multiple : goal.returns-clause-multiple
returns-clause-multiple c = λ n align h. rounded-multiple n align h

pub returns-clause-least : goal.returns-clause-least
returns-clause-least c = λ n align m h le e. rounded-least n align m h le e
