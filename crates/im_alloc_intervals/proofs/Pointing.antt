-- Words of a block's points are what lives in the block.
use Rattle.std.proofs.Common.{◌≡◌, ◌<◌, ◌≤◌, ◌+◌, ℕ, Bool, true, List, Option, Some, None, length, refl, sym, ap, ◌∙◌, subst, drop, arith}
use Rattle.std.specs.Prelude.{slice_index}
use Rattle.std.proofs.lemmas.Option.{slice_get_within}
use Rattle.im_block.specs.declared.code.Block.{Block}
use Rattle.im_alloc_relation.specs.Live.{lives}
use Rattle.im_block_live.specs.Words.{starts_have, ArePoints}
use Rattle.im_alloc_intervals.specs.Marks.{Adds, Flags, IsBit, IsBitOf}
use Rattle.im_alloc_intervals.specs.Lines.{result_of, IsBehind, CrossedBy, IsAcross}
use Rattle.im_alloc_intervals.specs.Tables.{IsLivingAt, IsCrossingAt}
use Rattle.im_alloc_intervals.proofs.Adding.{Table, adds_same, flags_same}

module _ (base place : ℕ) (starts words : List ℕ) (block : Block) (points : ArePoints base starts block.lines.items block.exit words) where
  bit_of : (i j v : ℕ) → i ≤ length block.lines.items → j < 32 → v ≡ base + j → lives (starts_have starts j) (drop i block.lines.items) block.exit v ≡ true → IsBit 32 base (slice_index words i) v
  bit_of i j v le lt is e = record {
    j = j;
    small = lt;
    is = is;
    bit = points.each i j le lt ∙ ap (λ (z : ℕ). lives (starts_have starts j) (drop i block.lines.items) block.exit z) (sym is) ∙ e;
  }

  lives_of : (i v : ℕ) (k : IsBit 32 base (slice_index words i) v) → i ≤ length block.lines.items → lives (starts_have starts k.j) (drop i block.lines.items) block.exit v ≡ true
  lives_of i v k le = ap (λ (z : ℕ). lives (starts_have starts k.j) (drop i block.lines.items) block.exit z) k.is ∙ sym (points.each i k.j le k.small) ∙ k.bit

  pub living_of : (a b : Table) → Adds (IsBitOf base words place) a b → Adds (IsLivingAt base starts block place) a b
  living_of a b x =
      adds_same (IsLivingAt base starts block place) (IsBitOf base words place) a b x
      (λ v p lt k. (let c = points.count in let le = k.inside in record { i = k.i; inside = omega arith; is = k.is; bit = bit_of k.i k.j v k.inside k.small k.register k.living }))
      (λ v p k. (let c = points.count in let less = k.inside in let le : k.i ≤ length block.lines.items = omega arith in
      record { i = k.i; j = k.bit.j; inside = le; small = k.bit.small; is = k.is; register = k.bit.is; living = lives_of k.i v k.bit le }))

  crossing_from : (v k : ℕ) → CrossedBy base words block.lines.items k v → IsCrossingAt base starts block v
  crossing_from v k c = by (result_of c.line) refl c.behind
    where
      by : (o : Option ℕ) → result_of c.line ≡ o → IsBehind base (slice_index words (k + 1)) o v → IsCrossingAt base starts block v
      by None is b = absurd b
      by (Some to) is b =
          let lt = slice_get_within block.lines.items k c.line c.at in
          record {
            i = k;
            j = b.0.j;
            line = c.line;
            to = to;
            at = c.at;
            call = is;
            small = b.0.small;
            register = b.0.is;
            living = lives_of (k + 1) v b.0 (omega arith);
            other = b.1;
          }

  pub crossing_of : (a b : List Bool) → Flags (IsAcross base words block.lines.items) a b → Flags (IsCrossingAt base starts block) a b
  crossing_of a b x =
      flags_same (IsCrossingAt base starts block) (IsAcross base words block.lines.items) a b x
      (λ v small k. (let lt = slice_get_within block.lines.items k.i k.line k.at in (
        k.i,
        record {
          line = k.line;
          at = k.at;
          behind = subst (λ (o : Option ℕ). IsBehind base (slice_index words (k.i + 1)) o v) (sym k.call) (bit_of (k.i + 1) k.j v (omega arith) k.small k.register k.living, k.other);
        },
      )))
      (λ v k. crossing_from v k.0 k.1)
