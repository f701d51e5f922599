-- Marks that a write leaves.
use Rattle.std.proofs.Common.{◌≡◌, ℕ, ◌+◌, ◌/◌, ◌%◌, ◌<◌, ◌≤◌, ◌⊎◌, inl, inr, List, Bool, true, false, length, get_or, set, cond, refl, sym, ◌∙◌, arith}
use Rattle.std.specs.Prelude.{nat_lt, if◌then◌else◌}
use Rattle.std.proofs.lemmas.Bool.{cases_lt}
use Rattle.std.proofs.lemmas.Bool.Decides.{nat_tests}
use Rattle.std.proofs.lemmas.List.{get_or-set_same, get_or-set_other, get_or_past}
use Rattle.im_num.specs.Bytes.{bytes_of}
use Rattle.im_mem.specs.Memory.{Mem, is_place, written, stored}
use Rattle.im_mem.proofs.Words.{written-below, written-above, length-bytes_of}
use Rattle.im_mem_paged.specs.Marks.{UnmarkedAreZero, KeepsMarks, MarksAll, MarksBytes, MarksPageOf}

true-false : {X : Type 0} (b : Bool) → b ≡ true → b ≡ false → X
true-false true t f = absurd (grind (arith, f))
true-false false t f = absurd (grind (arith, t))

-- bytes are written, and their pages are marked
pub written-unmarked : (m : Mem) (old new : List Bool) (a : ℕ) (bs : List ℕ) → UnmarkedAreZero m old → KeepsMarks old new
    → MarksBytes a (length bs) new → UnmarkedAreZero (written m a bs) new
written-unmarked m old new a bs zero keeps all k inside unmarked =
    let before : m k ≡ 0 = zero k inside (keeps (k / 4096) unmarked) in
    elim (cases_lt k a) [
      | inl below ↦ written-below m a k bs below ∙ before
      | inr from ↦ elim (cases_lt k (a + length bs)) [
        | inl within ↦ true-false (get_or new (k / 4096) true) (all k from within) unmarked
        | inr above ↦ written-above m a k bs above ∙ before
      ]
    ]

-- one page more is marked
pub set-keeps : (marks : List Bool) (p : ℕ) → p < length marks → KeepsMarks marks (set marks p true)
set-keeps marks p there page unmarked =
    elim (cases_lt page p) [
      | inl below ↦ sym (get_or-set_other marks p page true true (omega arith)) ∙ unmarked
      | inr from ↦ elim (cases_lt p page) [
        | inl above ↦ sym (get_or-set_other marks p page true true (omega arith)) ∙ unmarked
        | inr same ↦ let e : page ≡ p = omega arith in true-false (get_or (set marks p true) page true) (rw e (get_or-set_same marks p true true there)) unmarked
      ]
    ]

pub set-marks : (marks : List Bool) (first end : ℕ) → end < length marks → MarksAll first end marks → MarksAll first (end + 1) (set marks end true)
set-marks marks first end there all page from below =
    elim (cases_lt page end) [
      | inl lower ↦ get_or-set_other marks end page true true (omega arith) ∙ all page from lower
      | inr same ↦ let e : page ≡ end = omega arith in rw e (get_or-set_same marks end true true there)
    ]

-- all pages from the first one up to the last one of the bytes are marked, or all that there are
pub bytes-marked : (marks : List Bool) (at count first behind end page : ℕ) → first ≡ at / 4096 → behind ≡ (at + count + 4095) / 4096 → (behind ≤ end) ⊎ (length marks ≤ end) → end ≤ page → MarksAll first page marks
    → MarksBytes at count marks
bytes-marked marks at count first behind end page e0 e1 (inr whole) done all k from below =
    elim (cases_lt (k / 4096) (length marks)) [
      | inl within ↦ all (k / 4096) (omega (arith, e0)) (omega arith)
      | inr past ↦ get_or_past marks (k / 4096) true past
    ]
bytes-marked marks at count first behind end page e0 e1 (inl most) done all k from below = all (k / 4096) (omega (arith, e0)) (omega (arith, e1))

pub end-reached : (behind len end : ℕ) → end ≡ (if nat_lt behind len then behind else len) → (behind ≤ end) ⊎ (len ≤ end)
end-reached behind len end e =
    elim (cases_lt end behind) [
      | inl low ↦ inr (grind (arith, nat_tests))
      | inr high ↦ inl high
    ]

-- an access that is made lies in one page
place-sizes : (a n : ℕ) → is_place a n ≡ true → (n ≡ 1) ⊎ ((n ≡ 2) ⊎ (n ≡ 4))
place-sizes a n place = grind (arith, nat_tests)

one-page : (a n k : ℕ) → is_place a n ≡ true → a ≤ k → k < a + n → k / 4096 ≡ a / 4096
one-page a n k place from below =
    elim (place-sizes a n place) [
      | inl one ↦ omega arith
      | inr more ↦ elim more [
        | inl two ↦ let even : a % 2 ≡ 0 = grind (arith, nat_tests) in omega arith
        | inr four ↦ let whole : a % 4 ≡ 0 = grind (arith, nat_tests) in omega arith
      ]
    ]

place-marks : (marks : List Bool) (a n : ℕ) → is_place a n ≡ true → MarksPageOf a marks → MarksBytes a n marks
place-marks marks a n place marked k from below = rw (one-page a n k place from below) marked

-- a store, and the page of its bytes is marked
store-cases : (b : Bool) (m n : Mem) (marks : List Bool) → (b ≡ true → UnmarkedAreZero n marks) → UnmarkedAreZero m marks → UnmarkedAreZero (cond b n m) marks
store-cases true m n marks p q = p refl
store-cases false m n marks p q = q

pub stored-unmarked : (m : Mem) (old new : List Bool) (a n w : ℕ) → UnmarkedAreZero m old → KeepsMarks old new → MarksPageOf a new → UnmarkedAreZero (stored m a n w) new
stored-unmarked m old new a n w zero keeps page =
    store-cases (is_place a n) m (written m a (bytes_of n w)) new
    (λ place. written-unmarked m old new a (bytes_of n w) zero keeps (λ k from below. place-marks new a n place page k from (omega (arith, length-bytes_of n w))))
    (λ k inside unmarked. zero k inside (keeps (k / 4096) unmarked))
