-- One line back: from what lives behind it to what lives before it.
use Rattle.std.proofs.Common.{◌≡◌, ◌≢◌, ℕ, zero, suc, ◌+◌, ◌-◌, ◌<◌, ◌≤◌, Bool, true, false, List, [], ◌∷◌, ◌++◌, length, get_or, set, drop, take, append_assoc, append-nil, subst, arith, refl, sym, ap, ◌∙◌}
use Rattle.std.specs.Prelude.{◌==◌, ◌&&◌, ◌||◌, not}
use Rattle.std.proofs.lemmas.Bool.Decides.{nat_tests}
use Rattle.std.proofs.lemmas.List.{drop_more, length-set, get_or_default, get_or-set_same, get_or-set_other}
use Rattle.im_live.proofs.Bits.{same_of}
use Rattle.im_block.specs.declared.code.Line.{Line}
use Rattle.im_block.specs.declared.code.Exit.{Exit}
use Rattle.im_live.specs.Reads.{reads, writes, lives_before}
use Rattle.im_block.specs.declared.code.Block.{Block}
use Rattle.im_live.specs.Words.{has, ArePoints, AllPoints}

abbrev pub Lives : (ℕ → ℕ → Bool) → List Line → Exit → ℕ → Type 0
Lives live lines exit word = (r : ℕ) → r < 32 → has word r ≡ lives_before live lines exit r

pub drop_all : {X : Type 0} (xs : List X) → drop (length xs) xs ≡ []
drop_all [] = refl
drop_all (x ∷ xs) = drop_all xs

pub one_back : (live : ℕ → ℕ → Bool) (lines : List Line) (exit : Exit) (k : ℕ) (line : Line) (word new : ℕ) → k < length lines → line ≡ get_or lines k line → Lives live (drop (k + 1) lines) exit word
    → ((r : ℕ) → r < 32 → has new r ≡ (reads line r || (not (writes line r) && has word r))) → Lives live (drop k lines) exit new
one_back live lines exit k line word new lt is behind made r small =
    made r small ∙ ap (λ z. reads line r || (not (writes line r) && z)) (behind r small)
    ∙ ap (λ z. lives_before live (z ∷ drop (k + 1) lines) exit r) is
    ∙ sym (ap (λ z. lives_before live z exit r) (drop_more lines k line lt))

abbrev pub PointsFrom : (ℕ → ℕ → Bool) → List Line → Exit → List ℕ → ℕ → Type 0
PointsFrom live lines exit words left =
    (length words ≡ length lines + 1) × (left ≤ length lines) × ((j : ℕ) → left ≤ j → j ≤ length lines → Lives live (drop j lines) exit (get_or words j 0))

pub points_step : (live : ℕ → ℕ → Bool) (lines : List Line) (exit : Exit) (words : List ℕ) (left : ℕ) (line : Line) (behind new : ℕ) → 0 < left → PointsFrom live lines exit words left → behind ≡ get_or words left behind → line ≡ get_or lines (left - 1) line
    → ((r : ℕ) → r < 32 → has new r ≡ (reads line r || (not (writes line r) && has behind r))) → PointsFrom live lines exit (set words (left - 1) new) (left - 1)
points_step live lines exit words left line behind new pos inv b l made =
    (length-set words (left - 1) new ∙ inv.0, (let a = inv.1 in omega arith), (λ j lo hi. by j lo hi (j == left - 1) refl))
  where
    back : left - 1 + 1 ≡ left
    back = omega arith

    within : left < length words
    within = let a = inv.0 in let c = inv.1 in omega arith

    behind_is : Lives live (drop (left - 1 + 1) lines) exit behind
    behind_is = subst (λ z. Lives live (drop z lines) exit behind) (sym back) (subst (λ z. Lives live (drop left lines) exit z) (get_or_default words left 0 behind within ∙ sym b) (inv.2 left (omega arith) inv.1))

    by : (j : ℕ) → left - 1 ≤ j → j ≤ length lines → (t : Bool) → (j == left - 1) ≡ t → Lives live (drop j lines) exit (get_or (set words (left - 1) new) j 0)
    by j lo hi true e =
        let s : j ≡ left - 1 = same_of j (left - 1) e in
        subst (λ z. Lives live (drop z lines) exit (get_or (set words (left - 1) new) z 0)) (sym s)
        (subst (λ z. Lives live (drop (left - 1) lines) exit z) (sym (get_or-set_same words (left - 1) new 0 (let w = within in omega arith)))
        (one_back live lines exit (left - 1) line behind new (let a = inv.1 in omega arith) l behind_is made))
    by j lo hi false e =
        let ne : j ≢ left - 1 = (λ s. (let t : (j == left - 1) ≡ true = grind (arith, nat_tests) in absurd cc)) in
        subst (λ z. Lives live (drop j lines) exit z) (sym (get_or-set_other words (left - 1) j new 0 ne)) (inv.2 j (omega arith) hi)

pub points_more : (live : ℕ → ℕ → Bool) (blocks : List Block) (k : ℕ) (block : Block) (words these : List ℕ) → k < length blocks → block ≡ get_or blocks k block → AllPoints live (take k blocks) words → ArePoints live block.lines.items block.exit these → AllPoints live (take (suc k) blocks) (words ++ these)
points_more live [] k block words these lt is all one = absurd (omega arith)
points_more live (x ∷ xs) zero block words these lt is all one =
    (these, [], ap (λ z. z ++ these) all ∙ sym (append-nil these), subst (λ (z : Block). ArePoints live z.lines.items z.exit these) is one, refl)
points_more live (x ∷ xs) (suc k) block words these lt is all one =
    (all.0, all.1 ++ these, ap (λ z. z ++ these) all.2 ∙ append_assoc all.0 all.1 these, all.3, points_more live xs k block all.1 these (omega arith) is all.4 one)
