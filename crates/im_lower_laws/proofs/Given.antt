-- The offsets that an initialiser gives are at most as many as the object's cells.
use Rattle.std.proofs.Common.{◌≡◌, ℕ, suc, ◌+◌, ◌≤◌, ◌==◌, Bool, true, false, List, [], ◌∷◌, ◌++◌, length, map, refl, ap, sym, ◌∙◌, subst, arith}
use Rattle.std.specs.Prelude.{if◌then◌else◌, Some}
use Rattle.std.proofs.lemmas.List.{length-append, length-map}
use Rattle.std.proofs.lemmas.Bool.{eqb-true}
use Rattle.std.proofs.lemmas.Bool.Decides.{nat_tests}
use Rattle.im_num.specs.declared.kind.Kind.{Kind}
use Rattle.im_ctype.specs.declared.cell.Cell.{Cell}
use Rattle.im_store.specs.Objects.{kind_at}
use Rattle.im_typed.specs.Program as p
use Rattle.im_typed.specs.Meaning.{is_among, given_offsets}
use Rattle.im_typed.specs.Typing.{Each, StandAmong, AreDistinct}
use Rattle.im_typed.specs.Values.{cells_of}

-- a list without the first x
abbrev without : ℕ → List ℕ → List ℕ
without x [] = []
without x (y ∷ ys) = if x == y then ys else y ∷ without x ys

shorter : (x : ℕ) (ys : List ℕ) → is_among x ys ≡ true → length ys ≡ suc (length (without x ys))
shorter x [] e = absurd (cc)
shorter x (y ∷ ys) e = either (x == y) e (λ h. shorter x ys h)
  where
    either : (b : Bool) → (if b then true else is_among x ys) ≡ true → (is_among x ys ≡ true → length ys ≡ suc (length (without x ys))) → suc (length ys) ≡ suc (length (if b then ys else y ∷ without x ys))
    either true h rest = refl
    either false h rest = ap suc (rest h)

not_itself : (x : ℕ) → is_among x (x ∷ []) ≡ false → ⊥
not_itself x h = absurd (grind (arith, nat_tests))

still_among : (x z : ℕ) (ys : List ℕ) → is_among x (z ∷ []) ≡ false → is_among z ys ≡ true → is_among z (without x ys) ≡ true
still_among x z [] ne e = absurd (cc)
still_among x z (y ∷ ys) ne e = either (x == y) refl (z == y) refl e (λ h. still_among x z ys ne h)
  where
    either : (b : Bool) → x == y ≡ b → (c : Bool) → z == y ≡ c → (if c then true else is_among z ys) ≡ true → (is_among z ys ≡ true → is_among z (without x ys) ≡ true) → is_among z (if b then ys else y ∷ without x ys) ≡ true
    either true same true also h rest =
        let one : x ≡ y = eqb-true x y same in
        let two : z ≡ y = eqb-true z y also in
        let both : z ≡ x = two ∙ sym one in
        absurd (not_itself x (subst (λ w. is_among x (w ∷ []) ≡ false) both ne))
    either true same false also h rest = h
    either false same true also h rest = subst (λ b. (if b then true else is_among z (without x ys)) ≡ true) (sym also) refl
    either false same false also h rest = subst (λ b. (if b then true else is_among z (without x ys)) ≡ true) (sym also) (rest h)

abbrev AllAmong : List ℕ → List ℕ → Type 0
AllAmong ys xs = Each (λ x. is_among x ys ≡ true) xs

each_without : (x : ℕ) (xs ys : List ℕ) → is_among x xs ≡ false → AllAmong ys xs → AllAmong (without x ys) xs
each_without x [] ys ne h = tt
each_without x (z ∷ xs) ys ne h = either (x == z) refl ne (λ e. each_without x xs ys e h.1)
  where
    either : (b : Bool) → x == z ≡ b → (if b then true else is_among x xs) ≡ false → (is_among x xs ≡ false → AllAmong (without x ys) xs) → AllAmong (without x ys) (z ∷ xs)
    either true same e rest = absurd (cc)
    either false same e rest =
        let apart : is_among x (z ∷ []) ≡ false = subst (λ b. (if b then true else false) ≡ false) (sym same) refl in
        (still_among x z ys apart h.0, rest e)

few_distinct : (xs ys : List ℕ) → AreDistinct xs → AllAmong ys xs → length xs ≤ length ys
few_distinct [] ys d h = omega arith
few_distinct (x ∷ xs) ys d h =
    let less = few_distinct xs (without x ys) d.1 (each_without x xs ys d.0 h.1) in
    let longer = shorter x ys h.0 in
    omega arith

abbrev pub offsets_of : List Cell → List ℕ
offsets_of cells = map {A = Cell} (λ c. c.offset) cells

both_ways : (x y : ℕ) → x == y ≡ true → y == x ≡ false → ⊥
both_ways x y e f = absurd (grind (arith, nat_tests))

kind_among : (cells : List Cell) (at : ℕ) (kind : Kind) → kind_at cells at ≡ Some kind → is_among at (offsets_of cells) ≡ true
kind_among [] at kind e = absurd (cc)
kind_among (c ∷ cs) at kind e = either (c.offset == at) refl (at == c.offset) refl e (λ h. kind_among cs at kind h)
  where
    either : (b : Bool) → c.offset == at ≡ b → (d : Bool) → at == c.offset ≡ d → (if b then Some c.kind else kind_at cs at) ≡ Some kind → (kind_at cs at ≡ Some kind → is_among at (offsets_of cs) ≡ true) → (if d then true else is_among at (offsets_of cs)) ≡ true
    either b same true also h rest = refl
    either true same false also h rest = absurd (both_ways c.offset at same also)
    either false same false also h rest = rest h

all_more : (ys xs zs : List ℕ) → AllAmong ys xs → AllAmong ys zs → AllAmong ys (xs ++ zs)
all_more ys [] zs h k = k
all_more ys (x ∷ xs) zs h k = (h.0, all_more ys xs zs h.1 k)

stand_among : (cells parts : List Cell) (offset : ℕ) → StandAmong cells offset parts → AllAmong (offsets_of cells) (map {A = Cell} (λ c. offset + c.offset) parts)
stand_among cells [] offset h = tt
stand_among cells (c ∷ cs) offset h = (kind_among cells (offset + c.offset) c.kind h.0, stand_among cells cs offset h.1)

abbrev pub Stands : List Cell → p.Piece → Type 0
Stands cells q = StandAmong cells q.offset (cells_of q.access)

pieces_among : (cells : List Cell) (ps : List p.Piece) → Each (Stands cells) ps → AllAmong (offsets_of cells) (given_offsets ps)
pieces_among cells [] h = tt
pieces_among cells (q ∷ qs) h =
    all_more (offsets_of cells) (map {A = Cell} (λ c. q.offset + c.offset) (cells_of q.access)) (given_offsets qs)
    (stand_among cells (cells_of q.access) q.offset h.0) (pieces_among cells qs h.1)

pub few_given : (cells : List Cell) (ps : List p.Piece) → Each (Stands cells) ps → AreDistinct (given_offsets ps) → length (given_offsets ps) ≤ length cells
few_given cells ps h d =
    let few = few_distinct (given_offsets ps) (offsets_of cells) d (pieces_among cells ps h) in
    let same : length (offsets_of cells) ≡ length cells = length-map cells (λ (c : Cell). c.offset) in
    omega arith

pub given_count : (q : p.Piece) (qs : List p.Piece) → length (given_offsets (q ∷ qs)) ≡ length (cells_of q.access) + length (given_offsets qs)
given_count q qs =
    length-append (map {A = Cell} (λ c. q.offset + c.offset) (cells_of q.access)) (given_offsets qs)
    ∙ ap (λ n. n + length (given_offsets qs)) (length-map (cells_of q.access) (λ (c : Cell). q.offset + c.offset))
