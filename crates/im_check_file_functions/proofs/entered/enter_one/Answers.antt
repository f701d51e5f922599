use Rattle.im_check_place.specs.Contexts.{context_of}
use Rattle.im_check_file_functions.proofs.Entering.{entered_so}
use Rattle.im_check_declarators.specs.Shape.{declared_of}
use Rattle.im_check_file_functions.proofs.entered.enter_one.Goals as goal

pub returns : goal.returns
returns c =
    let tags = rw c.deref.ensures.value at (c.in_ok-mention.ensures.scopes (context_of c.args.place.now)) in
    entered_so c.args.number c.args.written.now (declared_of c.args.y.now) tags c.in_ok-mention.ensures.grown c.in_ok-declare.ensures.scopes c.in_ok-declare.ensures.grown
