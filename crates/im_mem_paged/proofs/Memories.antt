-- What stays a memory, and the pages of one.
use Rattle.std.proofs.Common.{◌≡◌, ℕ, zero, suc, ◌+◌, ◌-◌, ◌*◌, ◌/◌, ◌<◌, ◌≤◌, Bool, true, false, cond, List, [], ◌∷◌, ◌++◌, length, get_or, refl, sym, ap, ◌∙◌, append_assoc, arith}
use Rattle.std.specs.Prelude.{◌==◌, if◌then◌else◌}
use Rattle.std.proofs.lemmas.Bool.{eq-eqb}
use Rattle.std.proofs.lemmas.Bool.Decides.{nat_tests}
use Rattle.std.proofs.lemmas.List.{append-nil}
use Rattle.im_num.specs.Bytes.{bytes_of}
use Rattle.im_mem.specs.Map.{memory_size}
use Rattle.im_mem.specs.Memory.{Mem, is_place, written, stored, zeroed, bytes_from}
use Rattle.im_mem.proofs.Words.{written-above, length-bytes_of}
use Rattle.im_mem_paged.specs.Pages.{IsMemory, IsZeroPage, page_of, are_zero, pages_of}

-- ---- writes

pub zeroed-memory : (m : Mem) → m ≡ zeroed → IsMemory m
zeroed-memory m e = record {
  bytes = λ k. let z : m k ≡ 0 = ap (λ (f : Mem). f k) e in omega arith;
  inside = λ k past. ap (λ (f : Mem). f k) e;
}

written-bytes : (m : Mem) (a : ℕ) (bs : List ℕ) → ((k : ℕ) → m k < 256) → ((i : ℕ) → get_or bs i 0 < 256) → (k : ℕ) → written m a bs k < 256
written-bytes m a [] h fits k = h k
written-bytes m a (b ∷ bs) h fits k = written-bytes (λ i. cond (i == a) b (m i)) (a + 1) bs (λ i. one i) (λ i. fits (suc i)) k
  where
    one : (i : ℕ) → cond (i == a) b (m i) < 256
    one i = let s = h i in let t : b < 256 = fits 0 in grind (arith, nat_tests)

pub written-memory : (m : Mem) (a : ℕ) (bs : List ℕ) → IsMemory m → a + length bs ≤ memory_size → ((i : ℕ) → get_or bs i 0 < 256) → IsMemory (written m a bs)
written-memory m a bs is room fits = record {
  bytes = written-bytes m a bs is.bytes fits;
  inside = λ k past. written-above m a k bs (omega arith) ∙ is.inside k past;
}

bytes_of-bytes : (n w i : ℕ) → get_or (bytes_of n w) i 0 < 256
bytes_of-bytes zero w i = omega arith
bytes_of-bytes (suc n) w zero = omega arith
bytes_of-bytes (suc n) w (suc i) = bytes_of-bytes n (w / 256) i

place-room : (a n : ℕ) → is_place a n ≡ true → a + n ≤ memory_size
place-room a n e = grind (arith, nat_tests)

either-memory : (b : Bool) (n m : Mem) → (b ≡ true → IsMemory n) → IsMemory m → IsMemory (cond b n m)
either-memory true n m h k = h refl
either-memory false n m h k = k

pub stored-memory : (m : Mem) (a n w : ℕ) → IsMemory m → IsMemory (stored m a n w)
stored-memory m a n w is =
    either-memory (is_place a n) (written m a (bytes_of n w)) m
    (λ place. written-memory m a (bytes_of n w) is (let room = place-room a n place in omega (arith, length-bytes_of n w)) (bytes_of-bytes n w))
    is

pub stored-nowhere : (m : Mem) (a n w : ℕ) → is_place a n ≡ false → stored m a n w ≡ m
stored-nowhere m a n w refused = rw refused refl

-- ---- pages

-- bytes of 0 are zero
bytes-zero : (m : Mem) (a n : ℕ) → ((k : ℕ) → a ≤ k → k < a + n → m k ≡ 0) → are_zero (bytes_from m a n) ≡ true
bytes-zero m a zero h = refl
bytes-zero m a (suc n) h =
    let first : (m a == 0) ≡ true = eq-eqb _ _ (h a (omega arith) (omega arith)) in
    rw first (bytes-zero m (a + 1) n (λ k from below. h k (omega arith) (omega arith)))

pub page-zero : (m : Mem) (page : ℕ) → IsZeroPage m page → are_zero (page_of m page) ≡ true
unfolding page_of
page-zero m page h = bytes-zero m (4096 * page) 4096 h

pub page-at : (m : Mem) (page : ℕ) (bytes : List ℕ) → bytes ≡ bytes_from m (4096 * page) 4096 → bytes ≡ page_of m page
unfolding page_of
page-at m page bytes e = e

-- the pages that aren't zero, found up to a page
pub record PagesFound (m : Mem) (count page : ℕ) (pages : List ℕ) : Type 0 where
  pub rest : pages ++ pages_of (count - page) page m ≡ pages_of count 0 m

pub pages-start : (m : Mem) (count : ℕ) → PagesFound m count 0 []
pages-start m count = let k : count - 0 ≡ count = omega arith in record { rest = rw k refl }

-- one page more, which is zero, or is found
one-page : (b : Bool) (page : ℕ) (rest : List ℕ) → b ≡ true → (if b then rest else page ∷ rest) ≡ rest
one-page true page rest e = refl
one-page false page rest e = absurd (grind (arith, e))

one-found : (b : Bool) (page : ℕ) (rest : List ℕ) → b ≡ false → (if b then rest else page ∷ rest) ≡ page ∷ rest
one-found false page rest e = refl
one-found true page rest e = absurd (grind (arith, e))

pub pages-skip : (m : Mem) (count page : ℕ) (pages : List ℕ) → page < count → are_zero (page_of m page) ≡ true → PagesFound m count page pages → PagesFound m count (page + 1) pages
unfolding pages_of
pages-skip m count page pages below zero-page found =
    let k : count - page ≡ suc (count - (page + 1)) = omega arith in
    let rest = pages_of (count - (page + 1)) (page + 1) m in
    let one : pages_of (count - page) page m ≡ rest = rw k (one-page (are_zero (page_of m page)) page rest zero-page) in
    record { rest = ap (λ (x : List ℕ). pages ++ x) (sym one) ∙ found.rest }

pub pages-more : (m : Mem) (count page : ℕ) (pages more : List ℕ) → page < count → are_zero (page_of m page) ≡ false → more ≡ pages ++ page ∷ [] → PagesFound m count page pages → PagesFound m count (page + 1) more
unfolding pages_of
pages-more m count page pages more below nonzero more-is found =
    let k : count - page ≡ suc (count - (page + 1)) = omega arith in
    let rest = pages_of (count - (page + 1)) (page + 1) m in
    let one : pages_of (count - page) page m ≡ page ∷ rest = rw k (one-found (are_zero (page_of m page)) page rest nonzero) in
    record { rest = ap (λ (x : List ℕ). x ++ rest) more-is ∙ append_assoc pages (page ∷ []) rest ∙ ap (λ (x : List ℕ). pages ++ x) (sym one) ∙ found.rest }

pub pages-end : (m : Mem) (count page : ℕ) (pages : List ℕ) → count ≤ page → PagesFound m count page pages → pages ≡ pages_of count 0 m
unfolding pages_of
pages-end m count page pages ends found =
    let k : count - page ≡ 0 = omega arith in
    let none : pages ++ pages_of (count - page) page m ≡ pages = rw k (append-nil pages) in
    sym none ∙ found.rest
