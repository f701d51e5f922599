use Rattle.std.proofs.Common.{subst}
use Rattle.im_check_declarators.specs.Shape.{declared_of}
use Rattle.im_check_file_functions.specs.Bodies.{IsEntered}
use Rattle.im_check_file_functions.proofs.Entering.{next, entered_none, entered_more, entered_all}
use Rattle.im_check_file_functions.proofs.entered.enter.Goals as goal

pub loop-i-init : goal.loop-i-init
loop-i-init c = entered_none _ _ _

pub loop-i-preserved : goal.loop-i-preserved
loop-i-preserved c =
    let i = c.loop-i.i in
    let y = c.index-formals-i.result in
    let p = c.index-written-i.result in
    let at = next c.args.written.now i p c.if-i-written.false c.index-written-i.is in
    let at' = next c.args.formals.now i y c.loop-i-test.true c.index-formals-i.is in
    entered_more at at' c.loop-i.invariant (subst (λ n. IsEntered n p (declared_of y) c.loop-i.place c.enter_one.new.place) c.in_ok-number.ensures c.in_ok-enter_one.ensures)

pub returns : goal.returns
returns c = entered_all c.loop-i-test.false c.loop-i.invariant
