use Rattle.im_rules_sound.proofs.Calls.{subscripts, calls}
use Rattle.im_rules_sound.proofs.laws.calls_law.Goals as goal

pub returns-clause-subscripts : goal.returns-clause-subscripts
returns-clause-subscripts c = λ g f known x y hx hy mx my small e. subscripts g f known x y hx hy mx my small e

pub returns-clause-calls : goal.returns-clause-calls
returns-clause-calls c = λ g f known c k t xs sound h e. calls g f known c k t xs sound h e
