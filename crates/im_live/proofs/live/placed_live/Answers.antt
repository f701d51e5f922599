use Rattle.std.proofs.Common.{◌≡◌, suc, ◌+◌, ◌<◌, ◌++◌, length, take, get_or, ap, sym, subst, ◌∙◌, arith}
use Rattle.im_live.specs.Words.{starts_have, ArePoints, AllPoints}
use Rattle.im_live.proofs.Pointed.{points_more}
use Rattle.im_live.proofs.live.placed_live.Goals as goal

pub loop-block-preserved : goal.loop-block-preserved
loop-block-preserved c =
    let blocks = c.args.function.now.blocks.items in
    let k = c.loop-block.block-index in
    let q : suc k ≡ k + 1 = omega arith in
    let code = c.deref-block-items.ensures.value in
    let words = c.loop-block.words.items in
    let these = c.in_ok-these.these.items in
    let live = starts_have c.in_ok-live.live.items in
    let block = c.block-item.result in
    let lt : k < length blocks = subst (λ z. k < length z) code c.loop-block-test.true in
    let is : block ≡ get_or blocks k block = c.block-item.is ∙ ap (λ z. get_or z k block) code in
    let one : ArePoints live block.lines.items block.exit these = subst (λ z. ArePoints (starts_have z) block.lines.items block.exit these) c.deref.ensures.value c.in_ok-these.ensures in
    let grown : c.extend_from_slice.new.self.items ≡ words ++ these = c.in_ok-extend_from_slice.ensures.items ∙ ap (λ z. words ++ z) c.deref-in-loop-block.ensures.value in
    subst (λ z. AllPoints live (take (k + 1) blocks) z) (sym grown) (subst (λ z. AllPoints live (take z blocks) (words ++ these)) q (points_more live blocks k block words these lt is c.loop-block.invariant one))
