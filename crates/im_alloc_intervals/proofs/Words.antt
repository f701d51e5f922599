-- Words at positions side by side.
use Rattle.std.proofs.Common.{◌≡◌, ◌≢◌, ◌<◌, ◌≤◌, ◌+◌, ℕ, false, List, length, inl, inr, ⊎_elim, sym, ap, ◌∙◌, subst, arith}
use Rattle.std.specs.Prelude.{slice_index, ◌==◌}
use Rattle.std.proofs.lemmas.Bool.{cases_eq}
use Rattle.std.proofs.lemmas.Nat.Bits.{bit_at-zero}
use Rattle.im_block_live.specs.Words.{has}
use Rattle.im_alloc_intervals.specs.Marks.{Adds, IsBit, IsBitAt, IsBitOf}
use Rattle.im_alloc_intervals.proofs.Adding.{Table, adds_none, adds_more, adds_same}

no_bit : (bits base v : ℕ) → IsBit bits base 0 v → ⊥
no_bit bits base v k = let e : has 0 k.j ≡ false = ap (λ z. z == 1) (bit_at-zero k.j) in let t = k.bit in absurd cc

abbrev pub Below : ℕ → List ℕ → ℕ → ℕ → ℕ → ℕ → Type 0
Below base words start i v q = (k : IsBitOf base words start v q) × (k.i < i)

pub words_none : (base start : ℕ) (words : List ℕ) (a : Table) → Adds (λ v q. Below base words start 0 v q) a a
words_none base start words a = adds_none (λ v q. Below base words start 0 v q) a (λ v q k. let lt = k.1 in absurd (omega arith))

pub words_step : (base start : ℕ) (words : List ℕ) (i word : ℕ) (a b c : Table) → i < length words → slice_index words i ≡ word → Adds (λ v q. Below base words start i v q) a b → Adds (IsBitAt base word (start + i)) b c → Adds (λ v q. Below base words start (i + 1) v q) a c
words_step base start words i word a b c within is x y =
    adds_more (λ v q. Below base words start (i + 1) v q) (λ v q. Below base words start i v q) (IsBitAt base word (start + i)) a b c x y
    (λ v q lt k. ⊎_elim
    (λ (e : k.0.i ≡ i). inr (subst (λ z. IsBit 32 base z v) (ap (λ z. slice_index words z) e ∙ is) k.0.bit, k.0.is ∙ ap (λ z. start + z) e))
    (λ (ne : k.0.i ≢ i). (let less = k.1 in inl (k.0, omega arith)))
    (cases_eq k.0.i i))
    (λ v q k. (let less = k.1 in (k.0, omega arith)))
    (λ v q k. (record { i = i; inside = within; is = k.1; bit = subst (λ z. IsBit 32 base z v) (sym is) k.0 }, omega arith))

pub no_word : (base word p : ℕ) (a b : Table) → word ≡ 0 → b ≡ a → Adds (IsBitAt base word p) a b
no_word base word p a b zero_is same = subst (λ z. Adds (IsBitAt base word p) a z) (sym same) (adds_none (IsBitAt base word p) a (λ v q k. no_bit 32 base v (subst (λ z. IsBit 32 base z v) zero_is k.0)))

pub words_all : (base start : ℕ) (words : List ℕ) (i : ℕ) (a b : Table) → length words ≤ i → Adds (λ v q. Below base words start i v q) a b → Adds (IsBitOf base words start) a b
words_all base start words i a b le x =
    adds_same (IsBitOf base words start) (λ v q. Below base words start i v q) a b x
    (λ v q lt k. (let inside = k.inside in (k, omega arith)))
    (λ v q k. k.0)
