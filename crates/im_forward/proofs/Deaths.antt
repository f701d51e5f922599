-- A register that doesn't live before a line, by the lines from there on.
use Rattle.std.proofs.Common.{◌≡◌, ℕ, suc, ◌≤◌, Bool, true, false, List, Some, refl, ap, ◌∙◌, length, drop}
use Rattle.std.specs.Prelude.{◌&&◌, ◌||◌, not, slice_get}
use Rattle.std.proofs.lemmas.List.{drop_all}
use Rattle.im_block.specs.declared.code.Line.{Line}
use Rattle.im_block.specs.declared.code.Exit.{Exit}
use Rattle.im_alloc_relation.specs.Live.{uses, sets, exit_lives, lives}
use Rattle.im_forward.proofs.Straightening.{from_place}

module _ (live : ℕ → ℕ → Bool) (exit : Exit) (lines : List Line) (first r : ℕ) where
  -- it doesn't live at the first line if it doesn't at this one
  abbrev pub DiesBy : ℕ → Type 0
  DiesBy i = lives live (drop i lines) exit r ≡ false → lives live (drop first lines) exit r ≡ false

  unused : (x : Line) (rest : Bool) → uses x r ≡ false → (not (sets x r) && rest) ≡ false → (uses x r || (not (sets x r) && rest)) ≡ false
  unused x rest u e = ap (λ z. z || (not (sets x r) && rest)) u ∙ e

  none : (b : Bool) → (b && false) ≡ false
  none true = refl
  none false = refl

  pub dies_on : (i : ℕ) (x : Line) → slice_get lines i ≡ Some x → uses x r ≡ false → DiesBy i → DiesBy (suc i)
  dies_on i x at u h dead =
      h (ap (λ z. lives live z exit r) (from_place lines i x at)
      ∙ unused x (lives live (drop (suc i) lines) exit r) u (ap (λ z. not (sets x r) && z) dead ∙ none (not (sets x r))))

  pub dies_here : (i : ℕ) (x : Line) → slice_get lines i ≡ Some x → uses x r ≡ false → sets x r ≡ true → DiesBy i → lives live (drop first lines) exit r ≡ false
  dies_here i x at u s h =
      h (ap (λ z. lives live z exit r) (from_place lines i x at)
      ∙ unused x (lives live (drop (suc i) lines) exit r) u (ap (λ z. not z && lives live (drop (suc i) lines) exit r) s))

  pub dies_last : (i : ℕ) → length lines ≤ i → exit_lives live exit r ≡ false → DiesBy i → lives live (drop first lines) exit r ≡ false
  dies_last i past dead h = h (ap (λ z. lives live z exit r) (drop_all i lines past) ∙ dead)
