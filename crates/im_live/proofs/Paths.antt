-- Paths that read a register first: found from those at the starts of blocks, and all there are.
use Rattle.std.proofs.Common.{◌≡◌, ℕ, zero, suc, ◌<◌, ◌⊎◌, inl, inr, Bool, true, false, List, [], ◌∷◌, Option, Some, None, refl, ap, ◌∙◌, subst}
use Rattle.std.specs.Prelude.{◌==◌, ◌&&◌, ◌||◌, not, slice_get}
use Rattle.im_block.specs.declared.code.Line.{Line}
use Rattle.im_block.specs.declared.code.Exit.{Exit}
use Rattle.im_block.specs.declared.code.Exit.TheVariants.{Jump, Turn, Branch, Return}
use Rattle.im_block.specs.declared.code.Block.{Block}
use Rattle.im_live.specs.Reads.{reads, writes, exit_live, lives_before, lives_in, reads_first}
use Rattle.im_live.specs.Words.{starts_have, AreClosed}

pub either : (a b : Bool) → (a || b) ≡ true → (a ≡ true) ⊎ (b ≡ true)
either true b h = inl refl
either false b h = inr h

pub or_left : (a b : Bool) → a ≡ true → (a || b) ≡ true
or_left a b e = ap (λ z. z || b) e

pub or_right : (a b : Bool) → b ≡ true → (a || b) ≡ true
or_right true b e = refl
or_right false b e = e

both : (a b : Bool) → (a && b) ≡ true → (a ≡ true) × (b ≡ true)
both true b h = (refl, h)
both false b h = absurd cc

both_are : (a b : Bool) → a ≡ true → b ≡ true → (a && b) ≡ true
both_are a b e f = ap (λ z. z && b) e ∙ f

module _ (f g : ℕ → ℕ → Bool) (r : ℕ) (le : (b : ℕ) → f b r ≡ true → g b r ≡ true) where
  exit_more : (exit : Exit) → exit_live f exit r ≡ true → exit_live g exit r ≡ true
  exit_more (Jump b) e = le b e
  exit_more (Turn b) e = le b e
  exit_more (Branch on a b) e = elim (either (r == on) (f a r || f b r) e) [
    | inl x ↦ or_left (r == on) (g a r || g b r) x
    | inr y ↦ or_right (r == on) (g a r || g b r) (elim (either (f a r) (f b r) y) [ inl x ↦ or_left (g a r) (g b r) (le a x) | inr x ↦ or_right (g a r) (g b r) (le b x) ])
  ]
  exit_more (Return from) e = e

  pub lives_more : (lines : List Line) (exit : Exit) → lives_before f lines exit r ≡ true → lives_before g lines exit r ≡ true
  lives_more [] exit e = exit_more exit e
  lives_more (line ∷ lines) exit e = elim (either (reads line r) (not (writes line r) && lives_before f lines exit r) e) [
    | inl x ↦ or_left (reads line r) (not (writes line r) && lives_before g lines exit r) x
    | inr y ↦ (let c = both (not (writes line r)) (lives_before f lines exit r) y in
        or_right (reads line r) (not (writes line r) && lives_before g lines exit r) (both_are (not (writes line r)) (lives_before g lines exit r) c.0 (lives_more lines exit c.1)))
  ]

-- ---- found: where each start has a path, so has what lives before lines

abbrev Found : List Block → List Line → Exit → ℕ → Type 0
Found blocks lines exit r = (n : ℕ) × (lives_before (reads_first blocks n) lines exit r ≡ true)

module _ (blocks : List Block) (f : ℕ → ℕ → Bool) (r : ℕ) (known : (b : ℕ) → f b r ≡ true → (n : ℕ) × (reads_first blocks n b r ≡ true)) where
  exit_found : (exit : Exit) → exit_live f exit r ≡ true → Found blocks [] exit r
  exit_found (Jump b) e = known b e
  exit_found (Turn b) e = known b e
  exit_found (Branch on a b) e = elim (either (r == on) (f a r || f b r) e) [
    | inl x ↦ (0, or_left (r == on) (reads_first blocks 0 a r || reads_first blocks 0 b r) x)
    | inr y ↦ elim (either (f a r) (f b r) y) [
      | inl x ↦ (let k = known a x in (k.0, or_right (r == on) (reads_first blocks k.0 a r || reads_first blocks k.0 b r) (or_left (reads_first blocks k.0 a r) (reads_first blocks k.0 b r) k.1)))
      | inr x ↦ (let k = known b x in (k.0, or_right (r == on) (reads_first blocks k.0 a r || reads_first blocks k.0 b r) (or_right (reads_first blocks k.0 a r) (reads_first blocks k.0 b r) k.1)))
    ]
  ]
  exit_found (Return from) e = (0, e)

  pub lives_found : (lines : List Line) (exit : Exit) → lives_before f lines exit r ≡ true → Found blocks lines exit r
  lives_found [] exit e = exit_found exit e
  lives_found (line ∷ lines) exit e = elim (either (reads line r) (not (writes line r) && lives_before f lines exit r) e) [
    | inl x ↦ (0, or_left (reads line r) (not (writes line r) && lives_before (reads_first blocks 0) lines exit r) x)
    | inr y ↦ (let c = both (not (writes line r)) (lives_before f lines exit r) y in
        let k = lives_found lines exit c.1 in
        (k.0, or_right (reads line r) (not (writes line r) && lives_before (reads_first blocks k.0) lines exit r) (both_are (not (writes line r)) (lives_before (reads_first blocks k.0) lines exit r) c.0 k.1)))
  ]

-- ---- all of them

pub all_read : (blocks : List Block) (starts : List ℕ) → AreClosed blocks starts → (n b r : ℕ) → r < 32 → reads_first blocks n b r ≡ true → starts_have starts b r ≡ true
all_read blocks starts closed zero b r lt e = absurd cc
all_read blocks starts closed (suc n) b r lt e = by (λ q f. all_read blocks starts closed n q r lt f) (slice_get blocks b) refl
  where
    by : ((q : ℕ) → reads_first blocks n q r ≡ true → starts_have starts q r ≡ true) → (o : Option Block) → slice_get blocks b ≡ o → starts_have starts b r ≡ true
    by k None is = (let f : lives_in (reads_first blocks n) None r ≡ true = subst (λ z. lives_in (reads_first blocks n) z r ≡ true) is e in absurd cc)
    by k (Some block) is = closed b r block is lt
        (lives_more (reads_first blocks n) (starts_have starts) r k block.lines.items block.exit
        (subst (λ z. lives_in (reads_first blocks n) z r ≡ true) is e))
