-- The order in which blocks are laid: each block of a function stands in it once.
use Rattle.std.proofs.Common.{◌≡◌, ◌<◌, ◌≤◌, ◌⊎◌, inl, inr, ℕ, zero, suc, ◌+◌, ◌-◌, Bool, true, false, List, [], ◌∷◌, ◌++◌, Option, Some, None, length, get_or, refl, sym, ap, ◌∙◌, subst, append_assoc, eq-eqb, arith}
use Rattle.std.specs.Prelude.{◌==◌, if◌then◌else◌, slice_get, All}
use Rattle.std.proofs.lemmas.Bool.Decides.{nat_tests}
use Rattle.im_block.specs.declared.code.Block.{Block}
use Rattle.im_block.specs.Shape.{sum_of, sum_below, placed_block_cost}
use Rattle.im_select.specs.Emitted.{others_below, laid_order}

pub same_number : (a b : ℕ) → (a == b) ≡ true → a ≡ b
same_number a b h = grind (arith, nat_tests)

pub itself : (a : ℕ) → (a == a) ≡ true
itself a = grind (arith, nat_tests)

-- a number of a list
abbrev pub Among : List ℕ → ℕ → Type 0
Among [] b = ⊥
Among (x ∷ rest) b = (x ≡ b) ⊎ Among rest b

-- no number twice
abbrev pub Distinct : List ℕ → Type 0
Distinct [] = Unit {0}
Distinct (x ∷ rest) = ((b : ℕ) → Among rest b → (x == b) ≡ false) × Distinct rest

pub all_among : (P : ℕ → Type 0) (xs : List ℕ) → ((b : ℕ) → Among xs b → P b) → All P xs
all_among P [] h = λ i d l. absurd (omega arith)
all_among P (x ∷ xs) h = λ i d l. at (all_among P xs (λ b a. h b (inr a))) i d l
  where
    at : All P xs → (i d : ℕ) → i < length (x ∷ xs) → P (get_or (x ∷ xs) i d)
    at rest zero d l = h x (inl refl)
    at rest (suc i) d l = rest i d (omega arith)

-- ---- the others are those below n that aren't the entry

pub others_are : (entry n b : ℕ) → Among (others_below entry n) b → (b < n) × ((entry == b) ≡ false)
others_are entry zero b a = absurd a
others_are entry (suc n) b a = by (others_are entry n b) (n == entry) refl a
  where
    by : (Among (others_below entry n) b → (b < n) × ((entry == b) ≡ false)) → (t : Bool) → (n == entry) ≡ t → Among (if t then others_below entry n else n ∷ others_below entry n) b → (b < suc n) × ((entry == b) ≡ false)
    by h true e a = let r = h a in (let l = r.0 in omega arith, r.1)
    by h false e a = elim a [ inl s ↦ (omega arith, grind (arith, nat_tests)) | inr m ↦ (let r = h m in (let l = r.0 in omega arith, r.1)) ]

others_all : (entry n b : ℕ) → b < n → (entry == b) ≡ false → Among (others_below entry n) b
others_all entry zero b l e = absurd (omega arith)
others_all entry (suc n) b l e = by (λ m. others_all entry n b m e) (n == entry) (n == b) refl refl
  where
    by : (b < n → Among (others_below entry n) b) → (t u : Bool) → (n == entry) ≡ t → (n == b) ≡ u → Among (if t then others_below entry n else n ∷ others_below entry n) b
    by rest true u f g = rest (grind (arith, nat_tests))
    by rest false true f g = inl (same_number n b g)
    by rest false false f g = inr (rest (grind (arith, nat_tests)))

others_distinct : (entry n : ℕ) → Distinct (others_below entry n)
others_distinct entry zero = tt
others_distinct entry (suc n) = by (others_distinct entry n) (n == entry) refl
  where
    by : Distinct (others_below entry n) → (t : Bool) → (n == entry) ≡ t → Distinct (if t then others_below entry n else n ∷ others_below entry n)
    by d true e = d
    by d false e = ((λ b a. let l = (others_are entry n b a).0 in grind (arith, nat_tests)), d)

-- ---- the order as it is made: what is put, and the others that are left

skipped : (entry n : ℕ) → n ≡ entry → others_below entry (suc n) ≡ others_below entry n
skipped entry n e = ap (λ t. if t then others_below entry n else n ∷ others_below entry n) (eq-eqb n entry e)

taken : (entry n : ℕ) → (n ≡ entry → ⊥) → others_below entry (suc n) ≡ n ∷ others_below entry n
taken entry n e = let f : (n == entry) ≡ false = grind (arith, nat_tests) in ap (λ t. if t then others_below entry n else n ∷ others_below entry n) f

pub kept_whole : (entry n : ℕ) (items whole : List ℕ) → 0 < n → n - 1 ≡ entry → items ++ others_below entry n ≡ whole → items ++ others_below entry (n - 1) ≡ whole
kept_whole entry n items whole h e a = let q : suc (n - 1) ≡ n = omega arith in ap (λ z. items ++ z) (sym (skipped entry (n - 1) e) ∙ ap (others_below entry) q) ∙ a

pub taken_whole : (entry n : ℕ) (items new whole : List ℕ) → 0 < n → (n - 1 ≡ entry → ⊥) → new ≡ items ++ (n - 1) ∷ [] → items ++ others_below entry n ≡ whole → new ++ others_below entry (n - 1) ≡ whole
taken_whole entry n items new whole h e p a =
    let q : suc (n - 1) ≡ n = omega arith in
    ap (λ z. z ++ others_below entry (n - 1)) p ∙ append_assoc items ((n - 1) ∷ []) (others_below entry (n - 1)) ∙ ap (λ z. items ++ z) (sym (taken entry (n - 1) e) ∙ ap (others_below entry) q) ∙ a

-- ---- the whole order

pub order_distinct : (entry n : ℕ) → Distinct (laid_order entry n)
order_distinct entry n = ((λ b a. (others_are entry n b a).1), others_distinct entry n)

pub order_below : (entry n : ℕ) → entry < n → (b : ℕ) → Among (laid_order entry n) b → b < n
order_below entry n h b a = elim a [ inl e ↦ omega arith | inr r ↦ (others_are entry n b r).0 ]

pub order_all : (entry n b : ℕ) → b < n → Among (laid_order entry n) b
order_all entry n b l = by (entry == b) refl
  where
    by : (t : Bool) → (entry == b) ≡ t → Among (laid_order entry n) b
    by true e = inl (same_number entry b e)
    by false e = inr (others_all entry n b l e)

-- ---- sums over blocks in this order

abbrev pub cost_found : Option Block → ℕ
cost_found None = 0
cost_found (Some block) = placed_block_cost block

abbrev pub cost_in : List Block → List ℕ → ℕ
cost_in blocks [] = 0
cost_in blocks (b ∷ order) = cost_found (slice_get blocks b) + cost_in blocks order

none_below : (blocks : List Block) → sum_below placed_block_cost blocks 0 ≡ 0
none_below [] = refl
none_below (block ∷ blocks) = refl

one_more : (blocks : List Block) (n : ℕ) → sum_below placed_block_cost blocks (suc n) ≡ cost_found (slice_get blocks n) + sum_below placed_block_cost blocks n
one_more [] n = refl
one_more (block ∷ blocks) zero = let h = none_below blocks in omega arith
one_more (block ∷ blocks) (suc n) = let h = one_more blocks n in omega arith

all_below : (blocks : List Block) → sum_below placed_block_cost blocks (length blocks) ≡ sum_of placed_block_cost blocks
all_below [] = refl
all_below (block ∷ blocks) = ap (λ z. placed_block_cost block + z) (all_below blocks)

-- the others alone, and with the entry
record Sums (blocks : List Block) (entry n : ℕ) (others : List ℕ) : Type 0 where
  pub alone : cost_in blocks others ≤ sum_below placed_block_cost blocks n
  pub whole : entry < n → cost_found (slice_get blocks entry) + cost_in blocks others ≤ sum_below placed_block_cost blocks n

sums : (blocks : List Block) (entry n : ℕ) → Sums blocks entry n (others_below entry n)
sums blocks entry zero = record { alone = omega arith; whole = λ l. absurd (omega arith) }
sums blocks entry (suc n) = by (sums blocks entry n) (n == entry) refl
  where
    by : Sums blocks entry n (others_below entry n) → (t : Bool) → (n == entry) ≡ t → Sums blocks entry (suc n) (if t then others_below entry n else n ∷ others_below entry n)
    by h true e =
        let more = one_more blocks n in
        let before = h.alone in
        record {
          alone = omega arith;
          whole = λ l. subst (λ z. cost_found (slice_get blocks z) + cost_in blocks (others_below entry n) ≤ sum_below placed_block_cost blocks (suc n)) (same_number n entry e) (omega arith);
        }
    by h false e =
        let more = one_more blocks n in
        let alone = h.alone in
        record {
          alone = omega arith;
          whole = λ l. let less : entry < n = grind (arith, nat_tests) in let whole = h.whole less in omega arith;
        }

pub order_cost : (blocks : List Block) (entry : ℕ) → entry < length blocks → cost_in blocks (laid_order entry (length blocks)) ≤ sum_of placed_block_cost blocks
order_cost blocks entry l =
    let h = (sums blocks entry (length blocks)).whole l in
    let e = all_below blocks in
    omega arith
