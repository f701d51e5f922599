use Rattle.std.specs.Prelude.{None}
use Rattle.std.proofs.Common.{refl, [], ◌∷◌, ℤ, subst, rules}
use Rattle.std.specs.Int.{w128}
use Rattle.std.proofs.lemmas.Int.{to_z-of_z}
use mir.Val.{SFits}
use Rattle.im_store.specs.Checks.{Fine}
use Rattle.im_store.specs.Objects as o
use Rattle.im_block.specs.Meaning as m
use Rattle.im_block_run.specs.Shown.{Follows, setting_of}
use Rattle.im_block_run.proofs.lines.perform.Goals as goal

pub returns-in-Put : goal.returns-in-Put
returns-in-Put c =
    let f : SFits w128 c.in-Put.number = search rules in
    let e = to_z-of_z w128 c.in-Put.number f in
    let u = c.args.code.unit.now in
    rw c.in-Put.is (λ s h. subst (λ (z : ℤ). Follows u c.put.result c.put.new.state (m.computes c.in-Put.to (Fine (o.Number z)) s.frame.spot.rest s)) e (c.put.ensures u s h))

pub returns-in-Copy : goal.returns-in-Copy
returns-in-Copy c = rw c.in-Copy.is (λ s h. c.copy.ensures c.args.code.unit.now s h)

pub returns-in-Convert : goal.returns-in-Convert
returns-in-Convert c = rw c.in-Convert.is (λ s h. c.convert.ensures c.args.code.unit.now s h)

pub returns-in-Unary : goal.returns-in-Unary
returns-in-Unary c = rw c.in-Unary.is (λ s h. c.unary.ensures c.args.code.unit.now s h)

pub returns-in-Not : goal.returns-in-Not
returns-in-Not c = rw c.in-Not.is (λ s h. c.negate.ensures c.args.code.unit.now s h)

pub returns-in-Compute : goal.returns-in-Compute
returns-in-Compute c = rw c.in-Compute.is (λ s h. c.compute.ensures c.args.code.unit.now s h)

pub returns-in-Compare : goal.returns-in-Compare
returns-in-Compare c = rw c.in-Compare.is (λ s h. c.compare.ensures c.args.code.unit.now s h)

pub returns-in-Move : goal.returns-in-Move
returns-in-Move c = rw c.in-Move.is (λ s h. c.move_by.ensures c.args.code.unit.now s h)

pub returns-in-Distance : goal.returns-in-Distance
returns-in-Distance c = rw c.in-Distance.is (λ s h. c.subtract.ensures c.args.code.unit.now s h)

pub returns-in-Address : goal.returns-in-Address
returns-in-Address c = rw c.in-Address.is (λ s h. c.address.ensures c.args.code.unit.now s h)

pub returns-in-PutNull : goal.returns-in-PutNull
returns-in-PutNull c = rw c.in-PutNull.is (λ s h. c.computes.ensures c.args.code.unit.now (Fine o.Null) s h refl)

pub returns-in-Read : goal.returns-in-Read
returns-in-Read c = rw c.in-Read.is (λ s h. c.reads.ensures c.args.code.unit.now _ s h)

pub returns-in-Write : goal.returns-in-Write
returns-in-Write c = rw c.in-Write.is (λ s h. c.writes.ensures c.args.code.unit.now _ s h)

pub returns-in-Cut : goal.returns-in-Cut
returns-in-Cut c = rw c.in-Cut.is (λ s h. (s, m.Cuts ∷ [], refl, h))

pub returns-in-Call : goal.returns-in-Call
returns-in-Call c = rw c.in-Call.is (λ s h. c.call.ensures s h)

pub returns-in-Serve : goal.returns-in-Serve
returns-in-Serve c = rw c.in-Serve.is (λ s h. c.serve.ensures (setting_of c.args.code.setting) s h refl)
