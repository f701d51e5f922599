-- What an exit takes of its block's lines: nothing, or a last comparison, or a zero and that.
use Rattle.std.proofs.Common.{◌≡◌, ℕ, ℤ, zero, suc, ◌-◌, ◌≤◌, Bool, true, false, List, [], ◌∷◌, ◌++◌, Option, Some, None, length, take, get_or, refl, sym, ap, ◌∙◌, subst, arith}
use Rattle.std.specs.Prelude.{◌==◌, ◌&&◌, ◌||◌, not, if◌then◌else◌, All}
use Rattle.std.proofs.lemmas.List.Elements.{All-head, All-tail, All-nil, All-cons}
use Rattle.im_num.specs.declared.kind.Kind.{Kind}
use Rattle.im_num.specs.Kinds.{is_signed, word}
use Rattle.im_rv.specs.declared.format.Format.TheVariants.{Branch as OfBranches}
use Rattle.im_rv.specs.declared.instr.Op.{Op}
use Rattle.im_rv.specs.declared.instr.Op.TheVariants.{Blt, Bge, Bltu, Bgeu}
use Rattle.im_rv.specs.Formats.{format_of}
use Rattle.im_store.specs.declared.operators.Comparison.{Comparison}
use Rattle.im_store.specs.declared.operators.Comparison.TheVariants.{Less, Greater, LessOrEqual, GreaterOrEqual, Equal, NotEqual}
use Rattle.im_block.specs.declared.code.Line.{Line}
use Rattle.im_block.specs.declared.code.Line.TheVariants.{Put, PutNull, Compare}
use Rattle.im_block.specs.declared.code.Exit.{Exit}
use Rattle.im_block.specs.declared.code.Exit.TheVariants.{Jump, Turn, Branch, Return}
use Rattle.im_select_relation.specs.Selected.{IsZero, ConstantNumber, ConstantNull, or_zero}
use Rattle.im_select.specs.declared.branching.Test.{Test}
use Rattle.im_select.specs.declared.branching.Test.TheVariants.{Nonzero, Compares, ComparesZero}
use Rattle.im_select.specs.Emitted.{test_op, taken_by, zero_of, by_zero, taken_test, but_last, own_lines}
use Rattle.im_select.proofs.Ordering.{same_number}

-- the lines that an exit takes, and the test that it makes of them
pub data IsTaken (live : ℕ → ℕ → Bool) : List Line → Exit → Option Test → Type 0 where
  Nothing : (exit : Exit) → IsTaken live [] exit None
  Comparing : (to : ℕ) (op : Comparison) (kind : Kind) (left right a b : ℕ) → live a to ≡ false → live b to ≡ false → IsTaken live (Compare to op kind left right ∷ []) (Branch to a b) (Some (Compares op kind left right))
  Zeroing : (line : Line) (r to : ℕ) (op : Comparison) (kind : Kind) (left right a b : ℕ) → IsZero line r → live a r ≡ false → live b r ≡ false → live a to ≡ false → live b to ≡ false → IsTaken live (line ∷ Compare to op kind left right ∷ []) (Branch to a b) (Some (ComparesZero op kind (or_zero r left) (or_zero r right)))

-- a block's lines: its own, and what its exit takes
pub record Takes (live : ℕ → ℕ → Bool) (lines : List Line) (exit : Exit) (taken : Option Test) : Type 0 where
  pub tail : List Line
  pub whole : own_lines taken lines ++ tail ≡ lines
  pub is : IsTaken live tail exit taken

-- one line, by the answer of the test
one_by : (live : ℕ → ℕ → Bool) (to : ℕ) (op : Comparison) (kind : Kind) (left right on a b : ℕ) (p q r : Bool) → (on == to) ≡ p → live a to ≡ q → live b to ≡ r → Takes live (Compare to op kind left right ∷ []) (Branch on a b) (if p && not (q || r) then Some (Compares op kind left right) else None)
one_by live to op kind left right on a b true false false e f g =
    let same : to ≡ on = sym (same_number on to e) in
    record {
      tail = Compare to op kind left right ∷ [];
      whole = refl;
      is = subst (λ z. IsTaken live (Compare to op kind left right ∷ []) (Branch z a b) (Some (Compares op kind left right))) same (Comparing to op kind left right a b f g);
    }
one_by live to op kind left right on a b true false true e f g = record { tail = []; whole = refl; is = Nothing (Branch on a b) }
one_by live to op kind left right on a b true true r e f g = record { tail = []; whole = refl; is = Nothing (Branch on a b) }
one_by live to op kind left right on a b false q r e f g = record { tail = []; whole = refl; is = Nothing (Branch on a b) }

compare_takes : (live : ℕ → ℕ → Bool) (to : ℕ) (op : Comparison) (kind : Kind) (left right : ℕ) (exit : Exit) → Takes live (Compare to op kind left right ∷ []) exit (taken_by live (Compare to op kind left right) exit)
compare_takes live to op kind left right (Jump b) = record { tail = []; whole = refl; is = Nothing (Jump b) }
compare_takes live to op kind left right (Turn b) = record { tail = []; whole = refl; is = Nothing (Turn b) }
compare_takes live to op kind left right (Branch on a b) = one_by live to op kind left right on a b (on == to) (live a to) (live b to) refl refl refl
compare_takes live to op kind left right (Return from) = record { tail = []; whole = refl; is = Nothing (Return from) }

other_takes : (live : ℕ → ℕ → Bool) (line : Line) (exit : Exit) → taken_by live line exit ≡ None → Takes live (line ∷ []) exit (taken_by live line exit)
other_takes live line exit e = subst (Takes live (line ∷ []) exit) (sym e) (record { tail = []; whole = refl; is = Nothing exit })

last_takes : (live : ℕ → ℕ → Bool) (line : Line) (exit : Exit) → Takes live (line ∷ []) exit (taken_by live line exit)
last_takes live (Compare to op kind left right) exit = compare_takes live to op kind left right exit
last_takes live line exit = other_takes live line exit refl

-- two lines, of which the first is no part of the test
longer : (live : ℕ → ℕ → Bool) (line next : Line) (exit : Exit) (taken : Option Test) → own_lines taken (line ∷ next ∷ []) ≡ line ∷ own_lines taken (next ∷ []) → Takes live (next ∷ []) exit taken → Takes live (line ∷ next ∷ []) exit taken
longer live line next exit taken e t = record { tail = t.tail; whole = ap (λ z. z ++ t.tail) e ∙ ap (λ z. line ∷ z) t.whole; is = t.is }

-- by what such a line is
pub zero_line : (X : Line → Type 0) (line : Line) (r : ℕ) → IsZero line r → ((z : ℤ) → X (Put r z)) → X (PutNull r) → X line
zero_line X line r (ConstantNumber q n z e) put null = put z
zero_line X line r (ConstantNull q) put null = null

zero_is : (line : Line) (r : ℕ) → zero_of line ≡ Some r → IsZero line r
zero_is (Put to z) r e = by (word z == 0) refl e
  where
    by : (t : Bool) → (word z == 0) ≡ t → (if t then Some to else None) ≡ Some r → IsZero (Put to z) r
    by true f v = let same : to ≡ r = cc in subst (λ q. IsZero (Put to z) q) same (ConstantNumber to 0 z (same_number (word z) 0 f))
    by false f v = absurd cc
zero_is (PutNull to) r e = let same : to ≡ r = cc in subst (λ q. IsZero (PutNull to) q) same (ConstantNull to)
zero_is line r e = absurd cc

-- a zero and a comparison, by the answers of the tests
zero_by : (live : ℕ → ℕ → Bool) (line : Line) (r to : ℕ) (op : Comparison) (kind : Kind) (left right on a b : ℕ) (p q s : Bool) → IsZero line r → (on == to) ≡ p → live a to ≡ q → live b to ≡ s → Takes live (line ∷ Compare to op kind left right ∷ []) (Branch on a b) (by_zero live (Some r) (if p && not (q || s) then Some (Compares op kind left right) else None) (Branch on a b))
zero_by live line r to op kind left right on a b true false false nought e f g = by (live a r) (live b r) refl refl
  where
    by : (u v : Bool) → live a r ≡ u → live b r ≡ v → Takes live (line ∷ Compare to op kind left right ∷ []) (Branch on a b) (Some (if u || v then Compares op kind left right else ComparesZero op kind (or_zero r left) (or_zero r right)))
    by false false h k =
        let same : to ≡ on = sym (same_number on to e) in
        record {
          tail = line ∷ Compare to op kind left right ∷ [];
          whole = refl;
          is = subst (λ z. IsTaken live (line ∷ Compare to op kind left right ∷ []) (Branch z a b) (Some (ComparesZero op kind (or_zero r left) (or_zero r right)))) same (Zeroing line r to op kind left right a b nought h k f g);
        }
    by false true h k = longer live line (Compare to op kind left right) (Branch on a b) (Some (Compares op kind left right)) refl (one_by live to op kind left right on a b true false false e f g)
    by true v h k = longer live line (Compare to op kind left right) (Branch on a b) (Some (Compares op kind left right)) refl (one_by live to op kind left right on a b true false false e f g)
zero_by live line r to op kind left right on a b true false true nought e f g = longer live line (Compare to op kind left right) (Branch on a b) None refl (one_by live to op kind left right on a b true false true e f g)
zero_by live line r to op kind left right on a b true true s nought e f g = longer live line (Compare to op kind left right) (Branch on a b) None refl (one_by live to op kind left right on a b true true s e f g)
zero_by live line r to op kind left right on a b false q s nought e f g = longer live line (Compare to op kind left right) (Branch on a b) None refl (one_by live to op kind left right on a b false q s e f g)

-- where no zero is before it
alone_by : (live : ℕ → ℕ → Bool) (line : Line) (to : ℕ) (op : Comparison) (kind : Kind) (left right on a b : ℕ) (p q s : Bool) → (on == to) ≡ p → live a to ≡ q → live b to ≡ s → Takes live (line ∷ Compare to op kind left right ∷ []) (Branch on a b) (if p && not (q || s) then Some (Compares op kind left right) else None)
alone_by live line to op kind left right on a b true false false e f g = longer live line (Compare to op kind left right) (Branch on a b) (Some (Compares op kind left right)) refl (one_by live to op kind left right on a b true false false e f g)
alone_by live line to op kind left right on a b true false true e f g = longer live line (Compare to op kind left right) (Branch on a b) None refl (one_by live to op kind left right on a b true false true e f g)
alone_by live line to op kind left right on a b true true s e f g = longer live line (Compare to op kind left right) (Branch on a b) None refl (one_by live to op kind left right on a b true true s e f g)
alone_by live line to op kind left right on a b false q s e f g = longer live line (Compare to op kind left right) (Branch on a b) None refl (one_by live to op kind left right on a b false q s e f g)

branch_takes : (live : ℕ → ℕ → Bool) (line : Line) (nought : Option ℕ) (to : ℕ) (op : Comparison) (kind : Kind) (left right on a b : ℕ) → zero_of line ≡ nought → Takes live (line ∷ Compare to op kind left right ∷ []) (Branch on a b) (by_zero live nought (taken_by live (Compare to op kind left right) (Branch on a b)) (Branch on a b))
branch_takes live line None to op kind left right on a b e = alone_by live line to op kind left right on a b (on == to) (live a to) (live b to) refl refl refl
branch_takes live line (Some r) to op kind left right on a b e = zero_by live line r to op kind left right on a b (on == to) (live a to) (live b to) (zero_is line r e) refl refl refl

untaken : (live : ℕ → ℕ → Bool) (nought : Option ℕ) (exit : Exit) → by_zero live nought None exit ≡ None
untaken live None exit = refl
untaken live (Some r) exit = refl

-- no test of the second line
none_takes : (live : ℕ → ℕ → Bool) (line next : Line) (nought : Option ℕ) (exit : Exit) → taken_by live next exit ≡ None → Takes live (line ∷ next ∷ []) exit (by_zero live nought (taken_by live next exit) exit)
none_takes live line next nought exit e = subst (Takes live (line ∷ next ∷ []) exit) (sym (ap (λ z. by_zero live nought z exit) e ∙ untaken live nought exit)) (record { tail = []; whole = refl; is = Nothing exit })

compare_two : (live : ℕ → ℕ → Bool) (line : Line) (to : ℕ) (op : Comparison) (kind : Kind) (left right : ℕ) (exit : Exit) → Takes live (line ∷ Compare to op kind left right ∷ []) exit (by_zero live (zero_of line) (taken_by live (Compare to op kind left right) exit) exit)
compare_two live line to op kind left right (Jump b) = none_takes live line (Compare to op kind left right) (zero_of line) (Jump b) refl
compare_two live line to op kind left right (Turn b) = none_takes live line (Compare to op kind left right) (zero_of line) (Turn b) refl
compare_two live line to op kind left right (Branch on a b) = branch_takes live line (zero_of line) to op kind left right on a b refl
compare_two live line to op kind left right (Return from) = none_takes live line (Compare to op kind left right) (zero_of line) (Return from) refl

last_two : (live : ℕ → ℕ → Bool) (line next : Line) (exit : Exit) → Takes live (line ∷ next ∷ []) exit (by_zero live (zero_of line) (taken_by live next exit) exit)
last_two live line (Compare to op kind left right) exit = compare_two live line to op kind left right exit
last_two live line next exit = none_takes live line next (zero_of line) exit refl

more_own : (taken : Option Test) (line next more : Line) (rest : List Line) → own_lines taken (line ∷ next ∷ more ∷ rest) ≡ line ∷ own_lines taken (next ∷ more ∷ rest)
more_own None line next more rest = refl
more_own (Some (Nonzero on)) line next more rest = refl
more_own (Some (Compares op kind left right)) line next more rest = refl
more_own (Some (ComparesZero op kind left right)) line next more rest = refl

pub takes : (live : ℕ → ℕ → Bool) (lines : List Line) (exit : Exit) → Takes live lines exit (taken_test live lines exit)
takes live [] exit = record { tail = []; whole = refl; is = Nothing exit }
takes live (line ∷ []) exit = last_takes live line exit
takes live (line ∷ next ∷ []) exit = last_two live line next exit
takes live (line ∷ next ∷ more ∷ rest) exit =
    let t = takes live (next ∷ more ∷ rest) exit in
    let taken : Option Test = taken_test live (next ∷ more ∷ rest) exit in
    record { tail = t.tail; whole = ap (λ z. z ++ t.tail) (more_own taken line next more rest) ∙ ap (λ z. line ∷ z) t.whole; is = t.is }

-- ---- what holds of all lines holds of a block's own

pub all_left : {X : Type 0} (P : X → Type 0) (xs ys : List X) → All P (xs ++ ys) → All P xs
all_left P [] ys a = All-nil P
all_left P (x ∷ xs) ys a = All-cons P x xs (All-head P x (xs ++ ys) a) (all_left P xs ys (All-tail P x (xs ++ ys) a))

-- ---- the test is one of branches

by_sign_branches : (kind : Kind) (signed unsigned : Op) → format_of signed ≡ OfBranches → format_of unsigned ≡ OfBranches → format_of (if is_signed kind then signed else unsigned) ≡ OfBranches
by_sign_branches kind signed unsigned e f = by (is_signed kind)
  where
    by : (b : Bool) → format_of (if b then signed else unsigned) ≡ OfBranches
    by true = e
    by false = f

below_branches : (kind : Kind) → format_of (if is_signed kind then Blt else Bltu) ≡ OfBranches
below_branches kind = by_sign_branches kind Blt Bltu refl refl

above_branches : (kind : Kind) → format_of (if is_signed kind then Bge else Bgeu) ≡ OfBranches
above_branches kind = by_sign_branches kind Bge Bgeu refl refl

pub test_branches : (holds : Bool) (t : Test) → format_of (test_op holds t) ≡ OfBranches
test_branches true (Nonzero on) = refl
test_branches false (Nonzero on) = refl
test_branches true (Compares Less kind left right) = below_branches kind
test_branches false (Compares Less kind left right) = above_branches kind
test_branches true (Compares Greater kind left right) = below_branches kind
test_branches false (Compares Greater kind left right) = above_branches kind
test_branches true (Compares LessOrEqual kind left right) = above_branches kind
test_branches false (Compares LessOrEqual kind left right) = below_branches kind
test_branches true (Compares GreaterOrEqual kind left right) = above_branches kind
test_branches false (Compares GreaterOrEqual kind left right) = below_branches kind
test_branches true (Compares Equal kind left right) = refl
test_branches false (Compares Equal kind left right) = refl
test_branches true (Compares NotEqual kind left right) = refl
test_branches false (Compares NotEqual kind left right) = refl
test_branches true (ComparesZero Less kind left right) = below_branches kind
test_branches false (ComparesZero Less kind left right) = above_branches kind
test_branches true (ComparesZero Greater kind left right) = below_branches kind
test_branches false (ComparesZero Greater kind left right) = above_branches kind
test_branches true (ComparesZero LessOrEqual kind left right) = above_branches kind
test_branches false (ComparesZero LessOrEqual kind left right) = below_branches kind
test_branches true (ComparesZero GreaterOrEqual kind left right) = above_branches kind
test_branches false (ComparesZero GreaterOrEqual kind left right) = below_branches kind
test_branches true (ComparesZero Equal kind left right) = refl
test_branches false (ComparesZero Equal kind left right) = refl
test_branches true (ComparesZero NotEqual kind left right) = refl
test_branches false (ComparesZero NotEqual kind left right) = refl

-- ---- as the code finds them

-- of the last line, and of a zero before it
abbrev last_test : (ℕ → ℕ → Bool) → List Line → Exit → Line → ℕ → Option Test
last_test live lines exit d n = by_zero live (zero_of (get_or lines n d)) (taken_by live (get_or lines (suc n) d) exit) exit

last_at : (live : ℕ → ℕ → Bool) (lines : List Line) (exit : Exit) (d : Line) (n : ℕ) → length lines ≡ suc (suc n) → taken_test live lines exit ≡ last_test live lines exit d n
last_at live [] exit d n e = absurd (omega arith)
last_at live (line ∷ []) exit d n e = absurd (omega arith)
last_at live (line ∷ next ∷ []) exit d zero e = refl
last_at live (line ∷ next ∷ []) exit d (suc n) e = absurd (omega arith)
last_at live (line ∷ next ∷ more ∷ rest) exit d zero e = absurd (omega arith)
last_at live (line ∷ next ∷ more ∷ rest) exit d (suc n) e = last_at live (next ∷ more ∷ rest) exit d n (omega arith)

pub last_taken : (live : ℕ → ℕ → Bool) (lines : List Line) (exit : Exit) (d : Line) → 2 ≤ length lines → taken_test live lines exit ≡ by_zero live (zero_of (get_or lines (length lines - 2) d)) (taken_by live (get_or lines (length lines - 1) d) exit) exit
last_taken live lines exit d h =
    let n : suc (length lines - 2) ≡ length lines - 1 = omega arith in
    last_at live lines exit d (length lines - 2) (omega arith) ∙ ap (λ k. by_zero live (zero_of (get_or lines (length lines - 2) d)) (taken_by live (get_or lines k d) exit) exit) n

pub only_taken : (live : ℕ → ℕ → Bool) (lines : List Line) (exit : Exit) (d : Line) → length lines ≡ 1 → taken_test live lines exit ≡ taken_by live (get_or lines (length lines - 1) d) exit
only_taken live [] exit d h = absurd (omega arith)
only_taken live (line ∷ []) exit d h = refl
only_taken live (line ∷ next ∷ rest) exit d h = absurd (omega arith)

but_last_at : (lines : List Line) (n : ℕ) → length lines ≡ suc n → but_last lines ≡ take n lines
but_last_at [] n e = absurd (omega arith)
but_last_at (line ∷ []) zero e = refl
but_last_at (line ∷ []) (suc n) e = absurd (omega arith)
but_last_at (line ∷ next ∷ rest) zero e = absurd (omega arith)
but_last_at (line ∷ next ∷ rest) (suc n) e = ap (λ z. line ∷ z) (but_last_at (next ∷ rest) n (omega arith))

pub but_last_taken : (lines : List Line) → but_last lines ≡ take (length lines - 1) lines
but_last_taken [] = refl
but_last_taken (line ∷ rest) = but_last_at (line ∷ rest) (length (line ∷ rest) - 1) (omega arith)

but_few : (lines : List Line) → length (but_last lines) ≡ length lines - 1
but_few [] = refl
but_few (line ∷ []) = refl
but_few (line ∷ next ∷ rest) = let h = but_few (next ∷ rest) in omega arith

take_both : (lines : List Line) (m n : ℕ) → m ≤ n → take m (take n lines) ≡ take m lines
take_both lines zero n h = refl
take_both lines (suc m) zero h = absurd (omega arith)
take_both [] (suc m) (suc n) h = refl
take_both (line ∷ lines) (suc m) (suc n) h = ap (λ z. line ∷ z) (take_both lines m n (omega arith))

pub but_two_taken : (lines : List Line) → but_last (but_last lines) ≡ take (length lines - 2) lines
but_two_taken lines =
    let few = but_few lines in
    let less : length (but_last lines) - 1 ≡ length lines - 2 = omega arith in
    but_last_taken (but_last lines) ∙ ap (λ k. take k (but_last lines)) less ∙ ap (take (length lines - 2)) (but_last_taken lines) ∙ take_both lines (length lines - 2) (length lines - 1) (omega arith)

pub own_few : (taken : Option Test) (lines : List Line) → length (own_lines taken lines) ≤ length lines
own_few None lines = omega arith
own_few (Some (Nonzero on)) lines = let h = but_few lines in omega arith
own_few (Some (Compares op kind left right)) lines = let h = but_few lines in omega arith
own_few (Some (ComparesZero op kind left right)) lines = let h = but_few lines in let k = but_few (but_last lines) in omega arith

all_but_last : (P : Line → Type 0) (lines : List Line) → All P lines → All P (but_last lines)
all_but_last P [] a = a
all_but_last P (line ∷ []) a = All-nil P
all_but_last P (line ∷ next ∷ rest) a = All-cons P line (but_last (next ∷ rest)) (All-head P line (next ∷ rest) a) (all_but_last P (next ∷ rest) (All-tail P line (next ∷ rest) a))

pub own_all : (P : Line → Type 0) (taken : Option Test) (lines : List Line) → All P lines → All P (own_lines taken lines)
own_all P None lines a = a
own_all P (Some (Nonzero on)) lines a = all_but_last P lines a
own_all P (Some (Compares op kind left right)) lines a = all_but_last P lines a
own_all P (Some (ComparesZero op kind left right)) lines a = all_but_last P (but_last lines) (all_but_last P lines a)
