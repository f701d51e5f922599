-- Pages in memory, and those that aren't zero.
use Rattle.std.proofs.Common.{◌≡◌, ℕ, zero, suc, ◌+◌, ◌*◌, ◌<◌, ◌≤◌, inl, inr, Bool, true, false, cond, List, [], ◌∷◌, length, get_or, refl, sym, ap, ◌∙◌, arith}
use Rattle.std.specs.Prelude.{◌==◌, ◌&&◌, if◌then◌else◌}
use Rattle.std.proofs.lemmas.Bool.{eq-eqb, eqb-true, cases_lt}
use Rattle.im_mem.specs.Memory.{Mem, written, bytes_from}
use Rattle.im_mem.proofs.Words.{written-below}
use Rattle.im_mem_paged.specs.Pages.{IsZeroPage, page_of, are_zero, pages_of}
use Rattle.im_mem_paged.proofs.Memories.{page-zero}

-- ---- bytes of a memory

written-here : (b : Mem) (a v : ℕ) (k : ℕ) → k ≡ a → cond (k == a) v (b k) ≡ v
written-here b a v k e = let same : (k == a) ≡ true = eq-eqb k a e in rw same refl

-- bytes of one memory are written to another
written-from : (b m : Mem) (a n k : ℕ) → a ≤ k → k < a + n → written b a (bytes_from m a n) k ≡ m k
written-from b m a zero k low high = absurd (omega arith)
written-from b m a (suc n) k low high =
    elim (cases_lt a k) [
      | inl above ↦ written-from (λ i. cond (i == a) (m a) (b i)) m (a + 1) n k (omega arith) (omega arith)
      | inr same ↦ let e : k ≡ a = omega arith in
          written-below (λ i. cond (i == a) (m a) (b i)) (a + 1) k (bytes_from m (a + 1) n) (omega arith) ∙ written-here b a (m a) k e ∙ ap m (sym e)
    ]

length-bytes_from : (m : Mem) (a n : ℕ) → length (bytes_from m a n) ≡ n
length-bytes_from m a zero = refl
length-bytes_from m a (suc n) = ap suc (length-bytes_from m (a + 1) n)

bytes_from-alike : (m n : Mem) (a c : ℕ) → ((k : ℕ) → a ≤ k → k < a + c → m k ≡ n k) → bytes_from m a c ≡ bytes_from n a c
bytes_from-alike m n a zero h = refl
bytes_from-alike m n a (suc c) h =
    ap (λ (v : ℕ). v ∷ bytes_from m (a + 1) c) (h a (omega arith) (omega arith))
    ∙ ap (λ (vs : List ℕ). n a ∷ vs) (bytes_from-alike m n (a + 1) c (λ k low high. h k (omega arith) (omega arith)))

bytes_from-written : (b : Mem) (a : ℕ) (bs : List ℕ) → bytes_from (written b a bs) a (length bs) ≡ bs
bytes_from-written b a [] = refl
bytes_from-written b a (x ∷ xs) =
    let next = λ (i : ℕ). cond (i == a) x (b i) in
    let first : written next (a + 1) xs a ≡ x = written-below next (a + 1) a xs (omega arith) ∙ written-here b a x a refl in
    ap (λ (v : ℕ). v ∷ bytes_from (written next (a + 1) xs) (a + 1) (length xs)) first ∙ ap (λ (vs : List ℕ). x ∷ vs) (bytes_from-written next (a + 1) xs)

pub and_true : (a b : Bool) → (a && b) ≡ true → (a ≡ true) × (b ≡ true)
and_true true b e = (refl, e)
and_true false b e = absurd cc

zero-bytes : (m : Mem) (a n k : ℕ) → are_zero (bytes_from m a n) ≡ true → a ≤ k → k < a + n → m k ≡ 0
zero-bytes m a zero k e low high = absurd (omega arith)
zero-bytes m a (suc n) k e low high =
    let both = and_true (m a == 0) (are_zero (bytes_from m (a + 1) n)) e in
    elim (cases_lt a k) [
      | inl above ↦ zero-bytes m (a + 1) n k both.1 (omega arith) (omega arith)
      | inr same ↦ let here : k ≡ a = omega arith in ap m here ∙ eqb-true _ _ both.0
    ]

-- ---- one page

pub length-page : (m : Mem) (page : ℕ) → length (page_of m page) ≡ 4096
unfolding page_of
length-page m page = length-bytes_from m (4096 * page) 4096

pub page-written : (b m : Mem) (page k : ℕ) → 4096 * page ≤ k → k < 4096 * page + 4096 → written b (4096 * page) (page_of m page) k ≡ m k
unfolding page_of
page-written b m page k low high = written-from b m (4096 * page) 4096 k low high

pub page-alike : (m n : Mem) (page : ℕ) → ((k : ℕ) → 4096 * page ≤ k → k < 4096 * page + 4096 → m k ≡ n k) → page_of m page ≡ page_of n page
unfolding page_of
page-alike m n page h = bytes_from-alike m n (4096 * page) 4096 h

pub page-of-written : (b : Mem) (page : ℕ) (bs : List ℕ) → length bs ≡ 4096 → page_of (written b (4096 * page) bs) page ≡ bs
unfolding page_of
page-of-written b page bs len = ap (λ (n : ℕ). bytes_from (written b (4096 * page) bs) (4096 * page) n) (sym len) ∙ bytes_from-written b (4096 * page) bs

pub page-is-zero : (m : Mem) (page : ℕ) → are_zero (page_of m page) ≡ true → IsZeroPage m page
unfolding page_of
page-is-zero m page e = λ k low high. zero-bytes m (4096 * page) 4096 k e low high

-- ---- the pages that aren't zero

length-either : (b : Bool) (x n : ℕ) (rest : List ℕ) → length rest ≤ n → length (if b then rest else x ∷ rest) ≤ suc n
length-either true x n rest h = omega arith
length-either false x n rest h = omega arith

pub length-pages_of : (n first : ℕ) (m : Mem) → length (pages_of n first m) ≤ n
unfolding pages_of
length-pages_of zero first m = omega arith
length-pages_of (suc n) first m = length-either (are_zero (page_of m first)) first n (pages_of n (first + 1) m) (length-pages_of n (first + 1) m)

abbrev AllBelow : ℕ → List ℕ → Type 0
AllBelow bound xs = (i : ℕ) → i < length xs → get_or xs i 0 < bound

below-more : (x bound : ℕ) (rest : List ℕ) → x < bound → AllBelow bound rest → (i : ℕ) → i < length (x ∷ rest) → get_or (x ∷ rest) i 0 < bound
below-more x bound rest lt h zero there = lt
below-more x bound rest lt h (suc i) there = h i (omega arith)

below-either : (b : Bool) (x bound : ℕ) (rest : List ℕ) → x < bound → AllBelow bound rest → AllBelow bound (if b then rest else x ∷ rest)
below-either true x bound rest lt h = h
below-either false x bound rest lt h = below-more x bound rest lt h

pub pages-below : (n first bound : ℕ) (m : Mem) → first + n ≤ bound → AllBelow bound (pages_of n first m)
unfolding pages_of
pages-below zero first bound m le = λ i there. absurd (omega arith)
pages-below (suc n) first bound m le = below-either (are_zero (page_of m first)) first bound (pages_of n (first + 1) m) (omega arith) (pages-below n (first + 1) bound m (omega arith))

pub skip-page : (n first : ℕ) (m : Mem) → are_zero (page_of m first) ≡ true → pages_of (suc n) first m ≡ pages_of n (first + 1) m
unfolding pages_of
skip-page n first m e = rw e refl

pub take-page : (n first : ℕ) (m : Mem) → are_zero (page_of m first) ≡ false → pages_of (suc n) first m ≡ first ∷ pages_of n (first + 1) m
unfolding pages_of
take-page n first m e = rw e refl

pub zero-pages : (n first : ℕ) (m : Mem) → ((k : ℕ) → 4096 * first ≤ k → m k ≡ 0) → pages_of n first m ≡ []
unfolding pages_of
zero-pages zero first m h = refl
zero-pages (suc n) first m h = skip-page n first m (page-zero m first (λ k low high. h k low)) ∙ zero-pages n (first + 1) m (λ k low. h k (omega arith))

pub skip-pages : (d n first : ℕ) (m : Mem) → ((k : ℕ) → 4096 * first ≤ k → k < 4096 * (first + d) → m k ≡ 0) → pages_of (d + n) first m ≡ pages_of n (first + d) m
skip-pages zero n first m h =
    let count : 0 + n ≡ n = omega arith in
    let same : first ≡ first + 0 = omega arith in
    ap (λ (x : ℕ). pages_of x first m) count ∙ ap (λ (x : ℕ). pages_of n x m) same
skip-pages (suc d) n first m h =
    let count : suc d + n ≡ suc (d + n) = omega arith in
    let same : first + 1 + d ≡ first + suc d = omega arith in
    ap (λ (x : ℕ). pages_of x first m) count
    ∙ skip-page (d + n) first m (page-zero m first (λ k low high. h k low (omega arith)))
    ∙ skip-pages d n (first + 1) m (λ k low high. h k (omega arith) (omega arith))
    ∙ ap (λ (x : ℕ). pages_of n x m) same
