-- The least entry: it depends on x5 to x31 alone, is an entry, and saves what lives.
use Rattle.std.proofs.Common.{◌≡◌, ◌≢◌, ℕ, zero, suc, ◌+◌, ◌<◌, ◌≤◌, ◌⊎◌, inl, inr, Bool, true, false, refl, sym, ap, ◌∙◌, subst, ⊎_elim, arith}
use Rattle.std.specs.Prelude.{◌==◌, if◌then◌else◌}
use Rattle.std.proofs.lemmas.Bool.{cases_lt}
use Rattle.im_live.specs.Entries.{greatest, entry_of}

pub greatest_same : (f g : ℕ → Bool) (n : ℕ) → n ≤ 27 → ((r : ℕ) → r < 32 → f r ≡ g r) → greatest f n ≡ greatest g n
greatest_same f g zero le same = refl
greatest_same f g (suc n) le same =
    ap (λ b. if b then n + 5 else greatest f n) (same (n + 5) (omega arith))
    ∙ ap (λ z. if g (n + 5) then n + 5 else z) (greatest_same f g n (omega arith) same)

pub greatest_within : (f : ℕ → Bool) (n : ℕ) → (4 ≤ greatest f n) × (greatest f n ≤ n + 4)
greatest_within f zero = (omega arith, omega arith)
greatest_within f (suc n) = by (greatest_within f n) (f (n + 5))
  where
    by : (4 ≤ greatest f n) × (greatest f n ≤ n + 4) → (b : Bool) → (4 ≤ (if b then n + 5 else greatest f n)) × ((if b then n + 5 else greatest f n) ≤ suc n + 4)
    by k true = (omega arith, omega arith)
    by k false = let a = k.0 in let c = k.1 in (omega arith, omega arith)

pub greatest_saves : (f : ℕ → Bool) (n r : ℕ) → r < n + 5 → f r ≡ true → 5 ≤ r → r ≤ greatest f n
greatest_saves f zero r lt e five = absurd (omega arith)
greatest_saves f (suc n) r lt e five = by (λ l. greatest_saves f n r l e five) (f (n + 5)) refl
  where
    by : (r < n + 5 → r ≤ greatest f n) → (b : Bool) → f (n + 5) ≡ b → r ≤ (if b then n + 5 else greatest f n)
    by k true h = omega arith
    by k false h = k (let ne : r ≢ n + 5 = (λ q. (let t : f r ≡ false = ap f q ∙ h in absurd cc)) in omega arith)

pub entry_within : (f : ℕ → Bool) → (3 < entry_of f) × (entry_of f < 32)
entry_within f = let k = greatest_within f 27 in let a = k.0 in let b = k.1 in (omega arith, omega arith)

pub entry_saves : (f : ℕ → Bool) (r : ℕ) → r < 32 → f r ≡ true → r ≤ entry_of f
entry_saves f r lt e = ⊎_elim (λ (l : r < 5). (let k = (greatest_within f 27).0 in omega arith)) (λ (l : 5 ≤ r). greatest_saves f 27 r (omega arith) e l) (cases_lt r 5)
