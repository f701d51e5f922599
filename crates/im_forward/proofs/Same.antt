-- What copies have, and what lives: of one line, and of the next.
use Rattle.std.proofs.Common.{◌≡◌, ◌≢◌, ℕ, ◌+◌, ◌-◌, ◌<◌, ◌≤◌, Bool, true, false, List, [], ◌∷◌, refl, sym, ap, ◌∙◌, subst, arith, eq-eqb}
use Rattle.std.specs.Prelude.{◌==◌, ◌&&◌, ◌||◌, not, nat_le, nat_lt, if◌then◌else◌}
use Rattle.std.proofs.lemmas.Bool.Decides.{nat_tests}
use Rattle.im_store.specs.Objects.{Value, Unset}
use Rattle.im_block.specs.declared.code.Line.{Line}
use Rattle.im_block.specs.declared.code.Line.TheVariants.{Copy}
use Rattle.im_block.specs.declared.code.Exit.{Exit}
use Rattle.im_block.specs.Meaning.{with_register, passed}
use Rattle.im_alloc_relation.specs.Live.{uses, sets, lives}
use Rattle.im_forward.specs.Copies.{IsCopy, Copied, Further, Since, IsSame, Itself, CopyOf}

-- ---- truth values

pub or_left : (a b : Bool) → a ≡ true → (a || b) ≡ true
or_left a b e = ap (λ z. z || b) e

pub or_right : (a b : Bool) → b ≡ true → (a || b) ≡ true
or_right true b e = refl
or_right false b e = e

pub both_are : (a b : Bool) → a ≡ true → b ≡ true → (a && b) ≡ true
both_are a b e f = ap (λ z. z && b) e ∙ f

pub both_true : (a b : Bool) → (a && b) ≡ true → (a ≡ true) × (b ≡ true)
both_true true b e = (refl, e)
both_true false b e = cc

pub itself : (n : ℕ) → (n == n) ≡ true
itself n = eq-eqb n n refl

not_equal : (a b : ℕ) → a ≢ b → (a == b) ≡ false
not_equal a b ne = by (a == b) refl
  where
    by : (t : Bool) → (a == b) ≡ t → (a == b) ≡ false
    by true e = (let same : a ≡ b = grind (arith, nat_tests) in absurd (ne same))
    by false e = e

-- ---- values of copies

abbrev pub HaveCopies : List Line → (ℕ → Value) → Type 0
HaveCopies before x = (a b : ℕ) → IsCopy before a b → x a ≡ x b

-- what a line doesn't set stays
abbrev pub Stays : Line → (ℕ → Value) → (ℕ → Value) → Type 0
Stays line x y = (q : ℕ) → sets line q ≡ false → y q ≡ x q

pub same_value : (before : List Line) (v w : ℕ) → IsSame before v w → (x : ℕ → Value) → HaveCopies before x → x w ≡ x v
same_value before v w (Itself behind u) x h = refl
same_value before v w (CopyOf behind u k t p q) x h = same_value behind k t q x h ∙ sym (h u k p)

no_copy_in : (ls : List Line) (a b : ℕ) → IsCopy ls a b → ls ≡ [] → ⊥
no_copy_in ls a b (Copied before to from ne) e = cc
no_copy_in ls a b (Further before to from source ne nf r) e = cc
no_copy_in ls a b (Since line before to from p q r) e = cc

pub no_copies : (x : ℕ → Value) → HaveCopies [] x
no_copies x a b p = absurd (no_copy_in [] a b p refl)

-- behind one line more
copies_behind : (ls : List Line) (a b : ℕ) → IsCopy ls a b → (line : Line) (before : List Line) → ls ≡ line ∷ before → (x y : ℕ → Value) → HaveCopies before x → Stays line x y → ((to from : ℕ) → line ≡ Copy to from → to ≢ from → y to ≡ y from) → y a ≡ y b
copies_behind ls a b (Copied above to from ne) line before e x y h k c = (let here : line ≡ Copy to from = cc in c to from here ne)
copies_behind ls a b (Further above to from source ne nf r) line before e x y h k c =
    let here : line ≡ Copy to from = cc in
    let rest : above ≡ before = cc in
    let from_kept : sets line from ≡ false = ap (λ z. sets z from) here ∙ not_equal from to (λ e. ne (sym e)) in
    let source_kept : sets line source ≡ false = ap (λ z. sets z source) here ∙ not_equal source to (λ e. nf (sym e)) in
    let was : IsCopy before from source = subst (λ z. IsCopy z from source) rest r in
    c to from here ne ∙ k from from_kept ∙ h from source was ∙ sym (k source source_kept)
copies_behind ls a b (Since other above to from p q r) line before e x y h k c =
    let one : line ≡ other = cc in
    let rest : above ≡ before = cc in
    let to_kept : sets line to ≡ false = ap (λ z. sets z to) one ∙ p in
    let from_kept : sets line from ≡ false = ap (λ z. sets z from) one ∙ q in
    let was : IsCopy before to from = subst (λ z. IsCopy z to from) rest r in
    k to to_kept ∙ h to from was ∙ sym (k from from_kept)

pub copies_next : (line : Line) (before : List Line) (x y : ℕ → Value) → HaveCopies before x → Stays line x y → ((to from : ℕ) → line ≡ Copy to from → to ≢ from → y to ≡ y from) → HaveCopies (line ∷ before) y
copies_next line before x y h k c a b p = copies_behind (line ∷ before) a b p line before refl x y h k c

unset_behind : (ls : List Line) (a b : ℕ) → IsCopy ls a b → (line : Line) (before : List Line) → ls ≡ line ∷ before → ((to from : ℕ) → line ≡ Copy to from → ⊥) → (sets line a ≡ false) × (sets line b ≡ false)
unset_behind ls a b (Copied above to from ne) line before e c = (let here : line ≡ Copy to from = cc in absurd (c to from here))
unset_behind ls a b (Further above to from source ne nf r) line before e c = (let here : line ≡ Copy to from = cc in absurd (c to from here))
unset_behind ls a b (Since other above to from p q r) line before e c =
    let one : line ≡ other = cc in
    (ap (λ z. sets z to) one ∙ p, ap (λ z. sets z from) one ∙ q)

-- what a line sets is no copy behind it, unless it copies
pub unset_copy : (line : Line) (before : List Line) (a b : ℕ) → IsCopy (line ∷ before) a b → ((to from : ℕ) → line ≡ Copy to from → ⊥) → (sets line a ≡ false) × (sets line b ≡ false)
unset_copy line before a b p c = unset_behind (line ∷ before) a b p line before refl c

-- ---- a register is set

pub set_stays : (x : ℕ → Value) (to : ℕ) (v : Value) (q : ℕ) → (q == to) ≡ false → with_register x to v q ≡ x q
set_stays x to v q e = ap (λ t. if t then v else x q) e

pub set_here : (x : ℕ → Value) (to : ℕ) (v : Value) → with_register x to v to ≡ v
set_here x to v = ap (λ t. if t then v else x to) (itself to)

pub set_alike : (y x : ℕ → Value) (to : ℕ) (v : Value) (q : ℕ) → ((q == to) ≡ false → y q ≡ x q) → with_register y to v q ≡ with_register x to v q
set_alike y x to v q h = by (q == to) refl
  where
    by : (t : Bool) → (q == to) ≡ t → (if t then v else y q) ≡ (if t then v else x q)
    by true e = refl
    by false e = h e

-- a copy has what was copied
pub copy_set : (x : ℕ → Value) (to from : ℕ) → to ≢ from → with_register x to (x from) to ≡ with_register x to (x from) from
copy_set x to from ne = set_here x to (x from) ∙ sym (set_stays x to (x from) from (not_equal from to (λ e. ne (sym e))))

-- ---- what lives

pub used_lives : (live : ℕ → ℕ → Bool) (line : Line) (rest : List Line) (exit : Exit) (v : ℕ) → uses line v ≡ true → lives live (line ∷ rest) exit v ≡ true
used_lives live line rest exit v e = or_left (uses line v) (not (sets line v) && lives live rest exit v) e

pub kept_lives : (live : ℕ → ℕ → Bool) (line : Line) (rest : List Line) (exit : Exit) (v : ℕ) → sets line v ≡ false → lives live rest exit v ≡ true → lives live (line ∷ rest) exit v ≡ true
kept_lives live line rest exit v e l =
    or_right (uses line v) (not (sets line v) && lives live rest exit v) (both_are (not (sets line v)) (lives live rest exit v) (ap not e) l)

-- an argument
pub argument : (first count j : ℕ) → j < count → (nat_le first (first + j) && nat_lt (first + j) (first + count)) ≡ true
argument first count j lt =
    let low : nat_le first (first + j) ≡ true = grind (arith, nat_tests) in
    let high : nat_lt (first + j) (first + count) ≡ true = grind (arith, nat_tests) in
    both_are (nat_le first (first + j)) (nat_lt (first + j) (first + count)) low high

pub passed_alike : (to first count : ℕ) (x y : ℕ → Value) → ((j : ℕ) → j < count → y (first + j) ≡ x (first + j)) → (q : ℕ) → passed to first count y q ≡ passed to first count x q
passed_alike to first count x y h q = by (nat_le to q && nat_lt q (to + count)) refl
  where
    by : (t : Bool) → (nat_le to q && nat_lt q (to + count)) ≡ t → (if t then y (first + (q - to)) else Unset) ≡ (if t then x (first + (q - to)) else Unset)
    by true e =
        let both = both_true (nat_le to q) (nat_lt q (to + count)) e in
        let l = both.0 in
        let m = both.1 in
        let low : to ≤ q = grind (arith, nat_tests) in
        let high : q < to + count = grind (arith, nat_tests) in
        h (q - to) (omega arith)
    by false e = refl
