use Rattle.std.proofs.Common.{◌≡◌, ◌<◌, ◌-◌, ◌*◌, ◌^◌, length, ap, sym, subst, ◌∙◌}
use Rattle.std.specs.Prelude.{sum}
use Rattle.std.proofs.lemmas.List.{with_items_is}
use Rattle.im_live.specs.Reads.{IsLive}
use Rattle.im_live.specs.Words.{starts_have, AreRead, AreClosed, AreWords}
use Rattle.im_live.proofs.Sweeping.{less_left, live_of}
use Rattle.im_live.proofs.live.starts.Goals as goal

pub settle-smaller : goal.settle-smaller
settle-smaller c =
    let words = c.settle.words in
    let new = c.sweep.new.starts in
    let blocks = c.args.function.now.blocks.items in
    let was = c.deref_mut.ensures.value in
    let inv = c.settle.invariant in
    let count : length new ≡ length blocks = c.sweep.ensures.count ∙ ap length c.deref.ensures.value in
    let same : length new ≡ words.len = count ∙ sym inv.0 ∙ sym words.ok.0 in
    let less : sum words.items < sum new = subst (λ z. sum z < sum new) was c.settle-test.ensures.news in
    let small : AreWords new = c.sweep.ensures.small (subst AreWords (sym was) inv.2) in
    subst (λ z. length blocks * 2 ^ 32 - sum z < length blocks * 2 ^ 32 - sum words.items) (sym (with_items_is words new same)) (less_left (length blocks) words.items new count small less)

pub returns-clause-exact : goal.returns-clause-exact
returns-clause-exact c =
    let words = c.settle.words in
    let new = c.sweep.new.starts in
    let blocks = c.args.function.now.blocks.items in
    let was = c.deref_mut.ensures.value in
    let inv = c.settle.invariant in
    let code = c.deref.ensures.value in
    let count : length new ≡ length blocks = c.sweep.ensures.count ∙ ap length code in
    let same : length new ≡ words.len = count ∙ sym inv.0 ∙ sym words.ok.0 in
    let read : AreRead blocks new = subst (λ z. AreRead z new) code (c.sweep.ensures.read (subst (λ z. AreRead c.deref.result.now z) (sym was) (subst (λ z. AreRead z words.items) (sym code) inv.1))) in
    let closed : AreClosed blocks new = subst (λ z. AreClosed z new) code c.settle-test.ensures.idle in
    subst (λ z. IsLive blocks (starts_have z)) (sym (with_items_is words new same)) (live_of blocks new count read closed)
