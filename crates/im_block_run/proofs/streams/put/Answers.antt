use Rattle.std.proofs.Common.{◌∙◌, ◌≡◌, ◌++◌, ◌∷◌, [], ap, sym, arith, length, false, true}
use Rattle.std.specs.Prelude.{nat_lt, ℤ}
use Rattle.std.proofs.lemmas.Bool.{lt-ltb, le-ltb}
use Rattle.im_store.specs.Objects as o
use Rattle.im_block.specs.Meaning as m
use Rattle.im_block_run.proofs.Serving.{puts-full, puts-byte, with-output}
use Rattle.im_block_run.proofs.States.{follows-as}
use Rattle.im_block_run.proofs.streams.put.Goals as goal

pub returns-then-len-capacity : goal.returns-then-len-capacity
returns-then-len-capacity c = λ g s h capacity.
    let u = c.args.unit.now in
    let full = c.if-len-capacity.true in
    let len = c.len.ensures in
    let same = ap length h.running.output in
    let no : nat_lt (length s.output) g.capacity ≡ false = le-ltb _ _ (omega arith) in
    follows-as u c.give.result c.give.new.state _ _ (puts-full u g s c.args.to s.fuel c.args.byte no) (c.give.ensures g s h)

pub returns : goal.returns
returns c = λ g s h capacity.
    let u = c.args.unit.now in
    let to = c.args.to in
    let some = c.if-len-capacity.false in
    let len = c.len.ensures in
    let same = ap length h.running.output in
    let yes : nat_lt (length s.output) g.capacity ≡ true = lt-ltb _ _ (omega arith) in
    let next : m.State = record s { output = s.output ++ c.args.byte ∷ [] } in
    let at : ℤ → m.Next = λ z. m.served u g to (o.Number z) s.frame.spot.rest s.input (s.output ++ c.args.byte ∷ []) s.fuel s in
    follows-as u c.give-2.result c.give-2.new.state _ _ (puts-byte u g s to s.fuel c.args.byte yes ∙ ap at (sym c.byte_number.ensures))
    (c.give-2.ensures g next (with-output c.args.state.now s c.push.new.self c.args.byte h c.in_ok-push.ensures.items))
