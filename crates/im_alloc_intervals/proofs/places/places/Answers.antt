use Rattle.std.proofs.Common.{◌≡◌, ◌<◌, ◌-◌, ◌+◌, List, Some, suc, length, refl, sym, ap, ◌∙◌, arith}
use Rattle.std.specs.Prelude.{slice_get}
use Rattle.std.proofs.lemmas.Option.{slice_get_read}
use Rattle.im_block.specs.declared.code.Block.{Block}
use Rattle.im_block.specs.declared.code.Line.{Line}
use Rattle.im_alloc_intervals.proofs.Placing.{places_step, places_end}
use Rattle.im_alloc_intervals.proofs.places.places.Goals as goal

pub loop-left-preserved : goal.loop-left-preserved
loop-left-preserved c =
    let l = c.loop-left in
    let blocks = c.args.blocks.now in
    let block : Block = c.index-blocks-left.result in
    let pos : 0 < l.left = (let t = c.loop-left-test.true in omega arith) in
    let lt : l.left - 1 < length blocks = (let w = l.invariant.within in omega arith) in
    let at : slice_get blocks (l.left - 1) ≡ Some block = slice_get_read blocks (length blocks) (l.left - 1) block refl lt c.index-blocks-left.is in
    let is = c.in_ok-next.ensures.sum ∙ ap (λ (z : List Line). l.next + suc (length z)) c.deref.ensures.value ∙ ap (λ (b : Block). l.next + suc (length b.lines.items)) (sym c.index-blocks-left.is) in
    places_step blocks l.places.items l.next l.left c.in_ok-next.next block pos at l.invariant is c.in_ok-next.ensures.small

pub returns : goal.returns
returns c = places_end c.args.blocks.now c.loop-left.places.items c.loop-left.next c.loop-left.left (let t = c.loop-left-test.false in omega arith) c.loop-left.invariant
