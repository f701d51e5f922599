-- One word more on the way through the words, with their runs of brackets.
use Rattle.std.proofs.Common.{◌≡◌, ℕ, suc, ◌+◌, ◌<◌, ◌≤◌, nat_lt, true, false, List, sym, ap, ◌∙◌, refl, subst, arith, add-one}
use Rattle.std.proofs.lemmas.Bool.{ltb-true, ltb-false}
use Rattle.im_word.specs.Words.{Word}
use Rattle.im_parse.specs.declared.dimensions.Sign.{Sign}
use Rattle.im_parse.specs.Dimensions.{sign_at, innermost, runs_behind, runs_before, dimensions_at}

runs_there : (words : List Word) (i : ℕ) (runs new : List ℕ) (word : Sign) → runs ≡ runs_before words i → word ≡ sign_at words i → new ≡ runs_behind word runs → new ≡ runs_before words (suc i)
runs_there words i runs new word r w made =
    let there : runs_behind word runs ≡ runs_before words (suc i) = λ j. runs_behind (w j) (r j) in
    made ∙ there

pub runs_next : (words : List Word) (i : ℕ) (runs new : List ℕ) (word : Sign) → runs ≡ runs_before words i → word ≡ sign_at words i → new ≡ runs_behind word runs → new ≡ runs_before words (i + 1)
runs_next words i runs new word r w made = runs_there words i runs new word r w made ∙ ap (runs_before words) (sym (add-one i))

pub run_here : (words : List Word) (i : ℕ) (runs new : List ℕ) (word : Sign) → runs ≡ runs_before words i → word ≡ sign_at words i → new ≡ runs_behind word runs → innermost new ≡ dimensions_at words i
run_here words i runs new word r w made = ap innermost (runs_there words i runs new word r w made)

pub below_next : (words : List Word) (i more : ℕ) → more ≡ dimensions_at words i → more ≤ 512 → ((k : ℕ) → k < i → dimensions_at words k ≤ 512) → (k : ℕ) → k < i + 1 → dimensions_at words k ≤ 512
below_next words i more here few below k less = elim (nat_lt k i) as (λ b. nat_lt k i ≡ b → dimensions_at words k ≤ 512) [
  | true ↦ λ e. below k (ltb-true k i e)
  | false ↦ λ e. (
      let le = ltb-false k i e in
      let same : i ≡ k = omega (arith, le, less) in
      subst (λ n. dimensions_at words n ≤ 512) same (subst (λ n. n ≤ 512) here few))
] refl
