-- What lives by the starts of blocks lives by paths, and the other way.
use Rattle.std.proofs.Common.{◌≡◌, ℕ, zero, suc, inl, inr, Bool, true, List, [], ◌∷◌, Some, None, sym, subst}
use Rattle.std.specs.Prelude.{◌==◌, ◌&&◌, ◌||◌, not, slice_get}
use Rattle.im_block.specs.declared.code.Line.{Line}
use Rattle.im_block.specs.declared.code.Exit.{Exit}
use Rattle.im_block.specs.declared.code.Exit.TheVariants.{Jump, Turn, Branch, Return}
use Rattle.im_block.specs.declared.code.Block.{Block}
use Rattle.im_alloc_relation.specs.Live.{uses, sets, exit_lives, lives}
use Rattle.im_block_live.specs.Reads.{lives_in, reads_first, IsLive}
use Rattle.im_alloc_intervals.specs.Leaves.{LivesBefore}
use Rattle.im_alloc_intervals.proofs.Lives.{both_true, both_are, or_cases, or_left, or_right}

module _ (f g : ℕ → ℕ → Bool) (v : ℕ) (le : (b : ℕ) → f b v ≡ true → g b v ≡ true) where
  exit_more : (exit : Exit) → exit_lives f exit v ≡ true → exit_lives g exit v ≡ true
  exit_more (Jump b) e = le b e
  exit_more (Turn b) e = le b e
  exit_more (Branch on a b) e = elim (or_cases (v == on || f a v) (f b v) e) [
    | inl x ↦ or_left (v == on || g a v) (g b v) (elim (or_cases (v == on) (f a v) x) [ inl y ↦ or_left (v == on) (g a v) y | inr y ↦ or_right (v == on) (g a v) (le a y) ])
    | inr y ↦ or_right (v == on || g a v) (g b v) (le b y)
  ]
  exit_more (Return from) e = e

  pub lives_more : (lines : List Line) (exit : Exit) → lives f lines exit v ≡ true → lives g lines exit v ≡ true
  lives_more [] exit e = exit_more exit e
  lives_more (line ∷ lines) exit e = elim (or_cases (uses line v) (not (sets line v) && lives f lines exit v) e) [
    | inl x ↦ or_left (uses line v) (not (sets line v) && lives g lines exit v) x
    | inr y ↦ (let c = both_true (not (sets line v)) (lives f lines exit v) y in
        or_right (uses line v) (not (sets line v) && lives g lines exit v) (both_are (not (sets line v)) (lives g lines exit v) c.0 (lives_more lines exit c.1)))
  ]

module _ (blocks : List Block) (f : ℕ → ℕ → Bool) (v : ℕ) (known : (b : ℕ) → f b v ≡ true → (n : ℕ) × (reads_first blocks n b v ≡ true)) where
  exit_found : (exit : Exit) → exit_lives f exit v ≡ true → LivesBefore blocks [] exit v
  exit_found (Jump b) e = known b e
  exit_found (Turn b) e = known b e
  exit_found (Branch on a b) e = elim (or_cases (v == on || f a v) (f b v) e) [
    | inl x ↦ elim (or_cases (v == on) (f a v) x) [
      | inl y ↦ (0, or_left (v == on || reads_first blocks 0 a v) (reads_first blocks 0 b v) (or_left (v == on) (reads_first blocks 0 a v) y))
      | inr y ↦ (let k = known a y in (k.0, or_left (v == on || reads_first blocks k.0 a v) (reads_first blocks k.0 b v) (or_right (v == on) (reads_first blocks k.0 a v) k.1)))
    ]
    | inr y ↦ (let k = known b y in (k.0, or_right (v == on || reads_first blocks k.0 a v) (reads_first blocks k.0 b v) k.1))
  ]
  exit_found (Return from) e = (0, e)

  pub lives_found : (lines : List Line) (exit : Exit) → lives f lines exit v ≡ true → LivesBefore blocks lines exit v
  lives_found [] exit e = exit_found exit e
  lives_found (line ∷ lines) exit e = elim (or_cases (uses line v) (not (sets line v) && lives f lines exit v) e) [
    | inl x ↦ (0, or_left (uses line v) (not (sets line v) && lives (reads_first blocks 0) lines exit v) x)
    | inr y ↦ (let c = both_true (not (sets line v)) (lives f lines exit v) y in
        let k = lives_found lines exit c.1 in
        (k.0, or_right (uses line v) (not (sets line v) && lives (reads_first blocks k.0) lines exit v) (both_are (not (sets line v)) (lives (reads_first blocks k.0) lines exit v) c.0 k.1)))
  ]

-- the same, with what lives at the starts of blocks
module _ (blocks : List Block) (live : ℕ → ℕ → Bool) (is_live : IsLive blocks live) where
  pub by_paths : (v : ℕ) (lines : List Line) (exit : Exit) → lives live lines exit v ≡ true → LivesBefore blocks lines exit v
  by_paths v lines exit e = lives_found blocks live v (λ b t. is_live.some b v t) lines exit e

  pub by_starts : (v : ℕ) (lines : List Line) (exit : Exit) → LivesBefore blocks lines exit v → lives live lines exit v ≡ true
  by_starts v lines exit k = lives_more (reads_first blocks k.0) live v (λ b t. is_live.all b v k.0 t) lines exit k.1

  -- at the start of a block
  pub at_start : (b v : ℕ) (block : Block) → slice_get blocks b ≡ Some block → live b v ≡ true → lives live block.lines.items block.exit v ≡ true
  at_start b v block at t = by (is_live.some b v t)
    where
      by : (n : ℕ) × (reads_first blocks n b v ≡ true) → lives live block.lines.items block.exit v ≡ true
      by (zero, e) = absurd cc
      by (suc n, e) = by_starts v block.lines.items block.exit (n, subst (λ z. lives_in (reads_first blocks n) z v ≡ true) at e)

  pub at_none : (b v : ℕ) → slice_get blocks b ≡ None → live b v ≡ true → ⊥
  at_none b v at t = by (is_live.some b v t)
    where
      by : (n : ℕ) × (reads_first blocks n b v ≡ true) → ⊥
      by (zero, e) = absurd cc
      by (suc n, e) = (let f : lives_in (reads_first blocks n) None v ≡ true = subst (λ z. lives_in (reads_first blocks n) z v ≡ true) at e in absurd cc)

  pub closed : (b v : ℕ) (block : Block) → slice_get blocks b ≡ Some block → lives live block.lines.items block.exit v ≡ true → live b v ≡ true
  closed b v block at e =
      let k = by_paths v block.lines.items block.exit e in
      is_live.all b v (suc k.0) (subst (λ z. lives_in (reads_first blocks k.0) z v ≡ true) (sym at) k.1)
