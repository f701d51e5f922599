-- Registers by their numbers.
use Rattle.std.proofs.Common.{◌≡◌, ℕ, ◌+◌, ◌-◌, ◌<◌, ◌≤◌, ◌==◌, ◌&&◌, List, Bool, true, false, get_or, length, refl, sym, ap, ◌∙◌, arith}
use Rattle.std.specs.Prelude.{set, nat_le, nat_lt, if◌then◌else◌}
use Rattle.std.proofs.lemmas.Bool.{eqb-true, eqb-false, leb-true, leb-false, ltb-true, ltb-false, le-leb, lt-ltb, le-ltb}
use Rattle.std.proofs.lemmas.List.{get_or-set_same, get_or-set_other}
use Rattle.im_block.specs.Meaning.{passed, with_register}
use Rattle.im_store.specs.Objects as o
use Rattle.im_eval_store.specs.declared.value.Value.{Value}
use Rattle.im_eval_store.specs.declared.value.Value.TheVariants.{Unset}
use Rattle.im_eval_store.specs.Shown.{shown}
use Rattle.im_eval_store.proofs.Finding.{if-true, if-false, by-test}
use Rattle.im_block_run.specs.Shown.{have}

pub put-in : (xs ys : List Value) (k : ℕ) (v : Value) → k < length ys → ((r : ℕ) → get_or ys r Unset ≡ get_or xs r Unset)
    → (r : ℕ) → get_or (set ys k v) r Unset ≡ (if r == k then v else get_or xs r Unset)
put-in xs ys k v lt h r =
    by-test (r == k)
    (λ t.
    ap (λ j. get_or (set ys k v) j Unset) (eqb-true r k t)
    ∙ get_or-set_same ys k v Unset lt
    ∙ sym (if-true (r == k) v (get_or xs r Unset) t))
    (λ t.
    get_or-set_other ys k r v Unset (eqb-false r k t)
    ∙ h r
    ∙ sym (if-false (r == k) v (get_or xs r Unset) t))

-- a register that was set
pub set-as : (xs ys : List Value) (k : ℕ) (v : Value) (registers : ℕ → o.Value) → ((r : ℕ) → get_or ys r Unset ≡ (if r == k then v else get_or xs r Unset)) → ((r : ℕ) → registers r ≡ have xs r)
    → (r : ℕ) → with_register registers k (shown v) r ≡ have ys r
set-as xs ys k v registers new h r =
    by-test (r == k)
    (λ t. if-true (r == k) (shown v) (registers r) t ∙ sym (ap shown (new r ∙ if-true (r == k) v (get_or xs r Unset) t)))
    (λ t. if-false (r == k) (shown v) (registers r) t ∙ h r ∙ sym (ap shown (new r ∙ if-false (r == k) v (get_or xs r Unset) t)))

-- registers that were passed
pub passed-as : (xs ys : List Value) (to first count : ℕ) (registers : ℕ → o.Value) → ((r : ℕ) → get_or ys r Unset ≡ (if nat_le to r && nat_lt r (to + count) then get_or xs (first + (r - to)) Unset else Unset)) → ((r : ℕ) → registers r ≡ have xs r)
    → (r : ℕ) → passed to first count registers r ≡ have ys r
passed-as xs ys to first count registers new h r =
    by-test (nat_le to r && nat_lt r (to + count))
    (λ t.
    if-true (nat_le to r && nat_lt r (to + count)) (registers (first + (r - to))) o.Unset t
    ∙ h (first + (r - to))
    ∙ sym (ap shown (new r ∙ if-true (nat_le to r && nat_lt r (to + count)) (get_or xs (first + (r - to)) Unset) Unset t)))
    (λ t.
    if-false (nat_le to r && nat_lt r (to + count)) (registers (first + (r - to))) o.Unset t
    ∙ sym (ap shown (new r ∙ if-false (nat_le to r && nat_lt r (to + count)) (get_or xs (first + (r - to)) Unset) Unset t)))

-- one register more was passed
pub passed-more : (xs : List Value) (to first k r : ℕ) (old new : Value) → old ≡ (if nat_le to r && nat_lt r (to + k) then get_or xs (first + (r - to)) Unset else Unset) → new ≡ (if r == to + k then get_or xs (first + k) Unset else old)
    → new ≡ (if nat_le to r && nat_lt r (to + (k + 1)) then get_or xs (first + (r - to)) Unset else Unset)
passed-more xs to first k r old new was now =
    by-test (r == to + k)
    (λ t.
    let e = eqb-true r (to + k) t in
    let low : nat_le to r ≡ true = le-leb to r (omega arith) in
    let high : nat_lt r (to + (k + 1)) ≡ true = lt-ltb r (to + (k + 1)) (omega arith) in
    let at : k ≡ r - to = omega arith in
    now
    ∙ if-true (r == to + k) (get_or xs (first + k) Unset) old t
    ∙ ap (λ j. get_or xs (first + j) Unset) at
    ∙ sym (if-true (nat_le to r && nat_lt r (to + (k + 1))) (get_or xs (first + (r - to)) Unset) Unset (both (nat_le to r) (nat_lt r (to + (k + 1))) low high)))
    (λ t.
    now
    ∙ if-false (r == to + k) (get_or xs (first + k) Unset) old t
    ∙ was
    ∙ ap (λ b. if nat_le to r && b then get_or xs (first + (r - to)) Unset else Unset) (same t))
  where
    both : (b d : Bool) → b ≡ true → d ≡ true → (b && d) ≡ true
    both true true e f = refl
    both true false e f = absurd (cc)
    both false d e f = absurd (cc)

    above : to + k ≤ r → (r ≡ to + k → ⊥) → to + (k + 1) ≤ r
    above le apart =
        by-test (nat_le (to + (k + 1)) r)
        (λ l. leb-true (to + (k + 1)) r l)
        (λ l. let lt = leb-false (to + (k + 1)) r l in absurd (apart (omega arith)))

    same : (r == to + k) ≡ false → nat_lt r (to + k) ≡ nat_lt r (to + (k + 1))
    same t =
        let apart = eqb-false r (to + k) t in
        by-test (nat_lt r (to + k))
        (λ l. let lt = ltb-true r (to + k) l in l ∙ sym (lt-ltb r (to + (k + 1)) (omega arith)))
        (λ l. let le = ltb-false r (to + k) l in l ∙ sym (le-ltb r (to + (k + 1)) (above le apart)))
