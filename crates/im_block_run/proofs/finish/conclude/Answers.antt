use Rattle.std.proofs.Common.{ℤ, subst, rules}
use mir.Syntax.{w128}
use Rattle.std.proofs.lemmas.Int.{to_z-of_z}
use Rattle.std.specs.Prelude.{pos, IfOk, IfSome}
use mir.Val.{SFits}
use Rattle.im_block_run.proofs.Telling.{TellsEnd, ended}
use Rattle.im_block_run.proofs.finish.conclude.Goals as goal

pub returns-in-Undefined : goal.returns-in-Undefined
returns-in-Undefined c = rw c.in-Undefined.is (λ r h. h)

pub returns-in-MoreFuel : goal.returns-in-MoreFuel
returns-in-MoreFuel c = rw c.in-MoreFuel.is (λ r h. h)

pub returns-in-StackExhausted : goal.returns-in-StackExhausted
returns-in-StackExhausted c = rw c.in-StackExhausted.is (ended c.args.unit.now 1 (pos 0) c.args.state c.end_of.result c.end_of.ensures)

pub returns-in-Returned : goal.returns-in-Returned
returns-in-Returned c =
    let n = c.in-Returned.number.value in
    let f : SFits w128 n = search rules in
    let e = to_z-of_z w128 n f in
    let u = c.args.unit.now in
    let a = c.args.state in
    let r = c.end_of-in-Returned.result in
    rw c.in-Returned.is (ended u 0 n a r (subst (λ (z : ℤ). IfOk r (λ found. IfSome found (TellsEnd u 0 z a))) e c.end_of-in-Returned.ensures))
