-- Lines that stand in a list from a place on.
use Rattle.std.proofs.Common.{◌≡◌, ℕ, zero, suc, ◌+◌, List, [], ◌∷◌, ◌++◌, Some, length, refl, ap, ◌∙◌, arith}
use Rattle.std.specs.Prelude.{slice_get}
use Rattle.im_rv.specs.Lines.{CodeLine}
use Rattle.im_select_relation.specs.Symbolic.{Lines, HasLine}
use Rattle.im_select.specs.Emitted.{labelled}

-- from k on, whatever their labels
abbrev pub At : Lines → ℕ → List CodeLine → Type 0
At w k [] = Unit {0}
At w k (x ∷ xs) = HasLine w k x.line x.target x.access x.cause × At w (suc k) xs

abbrev pub after : ℕ → List CodeLine → ℕ
after k [] = k
after k (x ∷ xs) = after (suc k) xs

pub after_append : (k : ℕ) (xs ys : List CodeLine) → after k (xs ++ ys) ≡ after (after k xs) ys
after_append k [] ys = refl
after_append k (x ∷ xs) ys = after_append (suc k) xs ys

pub after_length : (k : ℕ) (xs : List CodeLine) → after k xs ≡ k + length xs
after_length k [] = omega arith
after_length k (x ∷ xs) = let h = after_length (suc k) xs in omega arith

pub at_left : (w : Lines) (k : ℕ) (xs ys : List CodeLine) → At w k (xs ++ ys) → At w k xs
at_left w k [] ys a = tt
at_left w k (x ∷ xs) ys a = (a.0, at_left w (suc k) xs ys a.1)

pub at_right : (w : Lines) (k : ℕ) (xs ys : List CodeLine) → At w k (xs ++ ys) → At w (after k xs) ys
at_right w k [] ys a = a
at_right w k (x ∷ xs) ys a = at_right w (suc k) xs ys a.1

pub at_labelled : (w : Lines) (k label : ℕ) (xs : List CodeLine) → At w k (labelled label xs) → At w k xs
at_labelled w k label [] a = tt
at_labelled w k label (x ∷ xs) a = a

pub after_labelled : (k label : ℕ) (xs : List CodeLine) → after k (labelled label xs) ≡ after k xs
after_labelled k label [] = refl
after_labelled k label (x ∷ xs) = refl

abbrev pub jump : ℕ → ℕ → ℕ
jump zero k = k
jump (suc j) k = jump j (suc k)

jump_is : (j k : ℕ) → jump j k ≡ j + k
jump_is zero k = omega arith
jump_is (suc j) k = let h = jump_is j (suc k) in omega arith

at_each : (w : Lines) (k : ℕ) (xs : List CodeLine) → ((j : ℕ) (x : CodeLine) → slice_get xs j ≡ Some x → slice_get w.lines (jump j k) ≡ Some x) → At w k xs
at_each w k [] h = tt
at_each w k (x ∷ xs) h = (record { label = x.label; there = h 0 x refl }, at_each w (suc k) xs (λ j y e. h (suc j) y e))

-- a whole list stands in itself
pub at_start : (w : Lines) → At w 0 w.lines
at_start w = at_each w 0 w.lines (λ j x e. let q : jump j 0 ≡ j = (let h = jump_is j 0 in omega arith) in ap (slice_get w.lines) q ∙ e)
