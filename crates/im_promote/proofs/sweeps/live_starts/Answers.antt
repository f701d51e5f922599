use Rattle.std.proofs.Common.{◌≡◌, ◌<◌, ◌-◌, ◌*◌, ◌^◌, length, sym, subst, ◌∙◌}
use Rattle.std.specs.Prelude.{sum}
use Rattle.std.proofs.lemmas.List.{with_items_is}
use Rattle.im_promote.specs.Words.{AreClosed, AreWords}
use Rattle.im_promote.proofs.Sweeping.{less_left}
use Rattle.im_promote.proofs.sweeps.live_starts.Goals as goal

pub settle-smaller : goal.settle-smaller
settle-smaller c =
    let words = c.settle.words in
    let new = c.sweep.new.starts in
    let blocks = c.args.blocks.now in
    let was = c.deref_mut.ensures.value in
    let inv = c.settle.invariant in
    let count : length new ≡ length blocks = c.sweep.ensures.count in
    let same : length new ≡ words.len = count ∙ sym inv.0 ∙ sym words.ok.0 in
    let less : sum words.items < sum new = subst (λ z. sum z < sum new) was c.settle-test.ensures.news in
    let small : AreWords new = c.sweep.ensures.small (subst AreWords (sym was) inv.1) in
    subst (λ z. length blocks * 2 ^ 32 - sum z < length blocks * 2 ^ 32 - sum words.items) (sym (with_items_is words new same)) (less_left (length blocks) words.items new count small less)

pub returns-clause-closed : goal.returns-clause-closed
returns-clause-closed c =
    let words = c.settle.words in
    let new = c.sweep.new.starts in
    let blocks = c.args.blocks.now in
    let inv = c.settle.invariant in
    let count : length new ≡ length blocks = c.sweep.ensures.count in
    let same : length new ≡ words.len = count ∙ sym inv.0 ∙ sym words.ok.0 in
    let closed : AreClosed c.args.base blocks new = c.settle-test.ensures.idle in
    subst (λ z. AreClosed c.args.base blocks z) (sym (with_items_is words new same)) closed
