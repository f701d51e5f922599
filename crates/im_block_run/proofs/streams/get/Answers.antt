use Rattle.std.proofs.Common.{◌∙◌, ap, sym}
use Rattle.std.specs.Prelude.{ℤ}
use Rattle.std.proofs.lemmas.List.{nil_from_length}
use Rattle.im_store.specs.Objects as o
use Rattle.im_block.specs.Meaning as m
use Rattle.im_block_run.proofs.Serving.{gets-none, gets-byte, with-input}
use Rattle.im_block_run.proofs.States.{follows-as}
use Rattle.im_block_run.proofs.streams.get.Goals as goal

pub returns-in_default : goal.returns-in_default
returns-in_default c = λ g s h.
    let u = c.args.unit.now in
    follows-as u c.give.result c.give.new.state _ _ (gets-none u g s c.args.to s.fuel (h.running.input ∙ nil_from_length c.args.state.now.input.now c.in_default.ensures.cases)) (c.give.ensures g s h)

pub returns : goal.returns
returns c = λ g s h.
    let u = c.args.unit.now in
    let to = c.args.to in
    let byte = c.in-Some.byte.now in
    let left = c.in-Some.rest in
    let next : m.State = record s { input = left.now } in
    let at : ℤ → m.Next = λ z. m.served u g to (o.Number z) s.frame.spot.rest left.now s.output s.fuel s in
    follows-as u c.give-2.result c.give-2.new.state _ _ (gets-byte u g s to s.fuel byte left.now (h.running.input ∙ c.in-Some.ensures.cases.0) ∙ ap at (sym c.byte_number-number.ensures)) (c.give-2.ensures g next (with-input c.args.state.now s left h))
