use Rattle.std.proofs.Common.{◌≡◌, ◌<◌, ◌-◌, ◌*◌, ◌^◌, length, sym, subst, ◌∙◌}
use Rattle.std.specs.Prelude.{sum}
use Rattle.std.proofs.lemmas.List.{with_items_is}
use Rattle.im_block_live.specs.Words.{AreStarts, AreRead, AreClosed, AreWords}
use Rattle.im_block_live.proofs.Sweeping.{less_left}
use Rattle.im_block_live.proofs.sweeps.starts.Goals as goal

pub settle-smaller : goal.settle-smaller
settle-smaller c =
    let words = c.settle.words in
    let new = c.sweep.new.starts in
    let blocks = c.args.blocks.now in
    let was = c.deref_mut.ensures.value in
    let inv = c.settle.invariant in
    let count : length new ≡ length blocks = c.sweep.ensures.count in
    let same : length new ≡ words.len = count ∙ sym inv.0 ∙ sym words.ok.0 in
    let less : sum words.items < sum new = subst (λ z. sum z < sum new) was c.settle-test.ensures.news in
    let small : AreWords new = c.sweep.ensures.small (subst AreWords (sym was) inv.2) in
    subst (λ z. length blocks * 2 ^ 32 - sum z < length blocks * 2 ^ 32 - sum words.items) (sym (with_items_is words new same)) (less_left (length blocks) words.items new count small less)

pub returns : goal.returns
returns c =
    let words = c.settle.words in
    let new = c.sweep.new.starts in
    let blocks = c.args.blocks.now in
    let was = c.deref_mut.ensures.value in
    let inv = c.settle.invariant in
    let count : length new ≡ length blocks = c.sweep.ensures.count in
    let same : length new ≡ words.len = count ∙ sym inv.0 ∙ sym words.ok.0 in
    let read : AreRead c.args.base blocks new = c.sweep.ensures.read (subst (λ z. AreRead c.args.base blocks z) (sym was) inv.1) in
    let closed : AreClosed c.args.base blocks new = c.settle-test.ensures.idle in
    subst (λ z. AreStarts c.args.base blocks z) (sym (with_items_is words new same)) (record { count = count; read = read; closed = closed })
