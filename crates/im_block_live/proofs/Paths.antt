-- Paths that read a register first: found from those at the starts of blocks, and all there are.
use Rattle.std.proofs.Common.{◌≡◌, ℕ, zero, suc, ◌+◌, ◌<◌, ◌⊎◌, inl, inr, Bool, true, false, List, [], ◌∷◌, Option, Some, None, refl, ap, ◌∙◌, subst}
use Rattle.std.specs.Prelude.{◌==◌, ◌&&◌, ◌||◌, not, slice_get, slice_index}
use Rattle.im_block.specs.declared.code.Line.{Line}
use Rattle.im_block.specs.declared.code.Exit.{Exit}
use Rattle.im_block.specs.declared.code.Exit.TheVariants.{Jump, Turn, Branch, Return}
use Rattle.im_block.specs.declared.code.Block.{Block}
use Rattle.im_alloc_relation.specs.Live.{uses, sets, exit_lives, lives}
use Rattle.im_block_live.specs.Reads.{lives_in, reads_first}
use Rattle.im_block_live.specs.Words.{has, starts_have, AreClosed}

pub either : (a b : Bool) → (a || b) ≡ true → (a ≡ true) ⊎ (b ≡ true)
either true b h = inl refl
either false b h = inr h

pub or_left : (a b : Bool) → a ≡ true → (a || b) ≡ true
or_left a b e = ap (λ z. z || b) e

pub or_right : (a b : Bool) → b ≡ true → (a || b) ≡ true
or_right true b e = refl
or_right false b e = e

both : (a b : Bool) → (a && b) ≡ true → (a ≡ true) × (b ≡ true)
both true b h = (refl, h)
both false b h = absurd cc

both_are : (a b : Bool) → a ≡ true → b ≡ true → (a && b) ≡ true
both_are a b e f = ap (λ z. z && b) e ∙ f

module _ (f g : ℕ → ℕ → Bool) (v : ℕ) (le : (b : ℕ) → f b v ≡ true → g b v ≡ true) where
  exit_more : (exit : Exit) → exit_lives f exit v ≡ true → exit_lives g exit v ≡ true
  exit_more (Jump b) e = le b e
  exit_more (Turn b) e = le b e
  exit_more (Branch on a b) e = elim (either (v == on || f a v) (f b v) e) [
    | inl x ↦ or_left (v == on || g a v) (g b v) (elim (either (v == on) (f a v) x) [ inl y ↦ or_left (v == on) (g a v) y | inr y ↦ or_right (v == on) (g a v) (le a y) ])
    | inr y ↦ or_right (v == on || g a v) (g b v) (le b y)
  ]
  exit_more (Return from) e = e

  pub lives_more : (lines : List Line) (exit : Exit) → lives f lines exit v ≡ true → lives g lines exit v ≡ true
  lives_more [] exit e = exit_more exit e
  lives_more (line ∷ lines) exit e = elim (either (uses line v) (not (sets line v) && lives f lines exit v) e) [
    | inl x ↦ or_left (uses line v) (not (sets line v) && lives g lines exit v) x
    | inr y ↦ (let c = both (not (sets line v)) (lives f lines exit v) y in
        or_right (uses line v) (not (sets line v) && lives g lines exit v) (both_are (not (sets line v)) (lives g lines exit v) c.0 (lives_more lines exit c.1)))
  ]

-- ---- found: where each start has a path, so has what lives before lines

abbrev Found : List Block → List Line → Exit → ℕ → Type 0
Found blocks lines exit v = (n : ℕ) × (lives (reads_first blocks n) lines exit v ≡ true)

module _ (blocks : List Block) (f : ℕ → ℕ → Bool) (v : ℕ) (known : (b : ℕ) → f b v ≡ true → (n : ℕ) × (reads_first blocks n b v ≡ true)) where
  exit_found : (exit : Exit) → exit_lives f exit v ≡ true → Found blocks [] exit v
  exit_found (Jump b) e = known b e
  exit_found (Turn b) e = known b e
  exit_found (Branch on a b) e = elim (either (v == on || f a v) (f b v) e) [
    | inl x ↦ elim (either (v == on) (f a v) x) [
      | inl y ↦ (0, or_left (v == on || reads_first blocks 0 a v) (reads_first blocks 0 b v) (or_left (v == on) (reads_first blocks 0 a v) y))
      | inr y ↦ (let k = known a y in (k.0, or_left (v == on || reads_first blocks k.0 a v) (reads_first blocks k.0 b v) (or_right (v == on) (reads_first blocks k.0 a v) k.1)))
    ]
    | inr y ↦ (let k = known b y in (k.0, or_right (v == on || reads_first blocks k.0 a v) (reads_first blocks k.0 b v) k.1))
  ]
  exit_found (Return from) e = (0, e)

  pub lives_found : (lines : List Line) (exit : Exit) → lives f lines exit v ≡ true → Found blocks lines exit v
  lives_found [] exit e = exit_found exit e
  lives_found (line ∷ lines) exit e = elim (either (uses line v) (not (sets line v) && lives f lines exit v) e) [
    | inl x ↦ (0, or_left (uses line v) (not (sets line v) && lives (reads_first blocks 0) lines exit v) x)
    | inr y ↦ (let c = both (not (sets line v)) (lives f lines exit v) y in
        let k = lives_found lines exit c.1 in
        (k.0, or_right (uses line v) (not (sets line v) && lives (reads_first blocks k.0) lines exit v) (both_are (not (sets line v)) (lives (reads_first blocks k.0) lines exit v) c.0 k.1)))
  ]

-- ---- all of them

pub all_read : (base : ℕ) (blocks : List Block) (starts : List ℕ) → AreClosed base blocks starts → (n b j : ℕ) → j < 32 → reads_first blocks n b (base + j) ≡ true → has (slice_index starts b) j ≡ true
all_read base blocks starts closed zero b j lt e = absurd cc
all_read base blocks starts closed (suc n) b j lt e = by (λ q f. all_read base blocks starts closed n q j lt f) (slice_get blocks b) refl
  where
    by : ((q : ℕ) → reads_first blocks n q (base + j) ≡ true → has (slice_index starts q) j ≡ true) → (o : Option Block) → slice_get blocks b ≡ o → has (slice_index starts b) j ≡ true
    by k None is = (let f : lives_in (reads_first blocks n) None (base + j) ≡ true = subst (λ z. lives_in (reads_first blocks n) z (base + j) ≡ true) is e in absurd cc)
    by k (Some block) is = closed b j block is lt
        (lives_more (reads_first blocks n) (starts_have starts j) (base + j) k block.lines.items block.exit
        (subst (λ z. lives_in (reads_first blocks n) z (base + j) ≡ true) is e))
