use Rattle.im_check_externals.proofs.Reached.{of_declared, of_defined}
use Rattle.im_check_externals.proofs.unit.external.Goals as goal

pub returns-in_ok-declaration-in-Declaration : goal.returns-in_ok-declaration-in-Declaration
returns-in_ok-declaration-in-Declaration c = rw c.in-Declaration.is (of_declared c.declaration.new.firsts c.args.done.now c.in_ok-declaration-in-Declaration.ensures)

pub returns-in_ok-push-in-Function : goal.returns-in_ok-push-in-Function
returns-in_ok-push-in-Function c = rw c.in-Function.is (of_defined c.push.new.self c.args.done.now c.in_ok-push-in-Function.ensures.items c.in_ok-defined-in-Function.ensures)
