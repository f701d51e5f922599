-- Constants that the next line takes as its immediate, and lines that are put by themselves.
use Rattle.std.proofs.Common.{◌≡◌, ◌≢◌, ◌<◌, ◌⊎◌, inl, inr, ℕ, ℤ, suc, ◌^◌, Bool, true, false, List, [], ◌∷◌, ◌++◌, Option, Some, None, refl, sym, ap, ◌∙◌, subst, eq-eqb, arith}
use Rattle.std.proofs.lemmas.Bool.Decides.{nat_tests}
use Rattle.std.specs.Prelude.{◌==◌, ◌&&◌, ◌||◌, not, is_some, nat_lt, if◌then◌else◌}
use Rattle.im_num.specs.declared.kind.Kind.{Kind}
use Rattle.im_num.specs.Kinds.{word}
use Rattle.im_rv.specs.declared.instr.Op.{Op}
use Rattle.im_rv.specs.declared.instr.Op.TheVariants.{Addi, Sltiu, Xori, Ori, Andi, Slli, Srli, Srai, Sltu}
use Rattle.im_rv.specs.Decode.{Line as Instruction}
use Rattle.im_rv.specs.Steps.{sum_of}
use Rattle.im_rv.specs.Lines.{CodeLine, plain_line}
use Rattle.im_rv_reach.specs.Instructions.{with_immediate, on_registers}
use Rattle.im_select_relation.specs.OperatorTables.{by_sign, commutes, less_op, less_by, least}
use Rattle.im_select_relation.proofs.Words.{word_small}
use Rattle.im_store.specs.declared.operators.BinaryOp.{BinaryOp}
use Rattle.im_store.specs.declared.operators.BinaryOp.TheVariants.{Add, Subtract, Multiply, Divide, Remainder, BitAnd, BitOr, BitXor, ShiftLeft, ShiftRight}
use Rattle.im_store.specs.declared.operators.Comparison.{Comparison}
use Rattle.im_store.specs.declared.operators.Comparison.TheVariants.{Less, Greater, LessOrEqual, GreaterOrEqual, Equal, NotEqual}
use Rattle.im_store.specs.Objects.{Name}
use Rattle.im_block.specs.declared.code.Place.{Place}
use Rattle.im_block.specs.declared.code.Line.{Line}
use Rattle.im_block.specs.declared.code.Line.TheVariants.{Put, PutNull, Compute, Compare, Write}
use Rattle.im_block.specs.declared.code.Exit.{Exit}
use Rattle.im_block.specs.declared.code.Block.{Block}
use Rattle.im_alloc_relation.specs.Live.{place_uses}
use Rattle.im_live.specs.Reads.{lives_before, reads_first, IsLive}
use Rattle.im_live.proofs.Paths.{lives_more}
use Rattle.im_select_relation.specs.Selected.{IsConstant, ConstantNumber, ConstantNull, Immediate, AddsBy, SubtractsBy, AndsBy, OrsBy, XorsBy, ShiftsLeftBy, ShiftsRightBy, IsUnread}
use Rattle.im_select.specs.declared.folding.Constant.{Constant}
use Rattle.im_select.specs.Emitted.{high_of, low_of, by_low, by_bits, negated, above, immediate_line, below_line, comparison_start, comparison_rest, is_spent, is_taken, passed_to, passed_by, by_or, operated_code, compared_with_code, computed_code, compared_code, way_code, line_code, lines_code}
use Rattle.im_select_relation.specs.Symbolic.{Lines, Plain, ComparedByIn, LesserBy, NotLesserBy, NotLargerBy, LargerBy, SameZero, SameBy, OtherZero, OtherBy}
use Rattle.im_select.proofs.Ordering.{same_number}
use Rattle.im_select.proofs.Standing.{At, after}
use Rattle.im_select.proofs.Splitting.{low_whole}

-- ---- a line that takes nothing and passes nothing on

pub way_alone : (at : Name → ℕ) (m : ℕ) (line : Line) → way_code at m None None line ≡ line_code at m line
way_alone at m (Put to z) = refl
way_alone at m (PutNull to) = refl
way_alone at m (Compute to op kind left right) = refl
way_alone at m (Compare to op kind left right) = refl
way_alone at m line = refl

pub lines_alone : (at : Name → ℕ) (m : ℕ → ℕ) (needed : ℕ → ℕ → Bool) (j : ℕ) (line : Line) (lines : List Line) → passed_by (needed (suc j)) line lines ≡ None → lines_code at m needed None j (line ∷ lines) ≡ line_code at (m j) line ++ lines_code at m needed None (suc j) lines
lines_alone at m needed j line lines e =
    ap (λ z. way_code at (m j) z None line ++ lines_code at m needed z (suc j) lines) e
    ∙ ap (λ z. z ++ lines_code at m needed None (suc j) lines) (way_alone at (m j) line)

-- the last line passes nothing on
pub last_passes : (lives : ℕ → Bool) (line : Line) → passed_by lives line [] ≡ None
last_passes lives (Put to z) = refl
last_passes lives (PutNull to) = refl
last_passes lives line = refl

pub pass_cases : {X : Type 0} (o : Option Constant) → (o ≡ None → X) → ((c : Constant) → o ≡ Some c → X) → X
pass_cases None f g = f refl
pass_cases (Some c) f g = g c refl

-- ---- a constant and the line that takes it

-- no path behind a line that sets `to` reads register r
abbrev pub Spent : (ℕ → Bool) → ℕ → ℕ → Type 0
Spent lives to r = (r ≡ to) ⊎ (lives r ≡ false)

-- what makes a line one with the constant before it
pub data Takes (lives : ℕ → Bool) (c : Constant) : Line → Type 0 where
  OnRight : (to : ℕ) (op : BinaryOp) (kind : Kind) (left : ℕ) (l : Instruction) → left ≢ c.register → Spent lives to c.register → immediate_line to op kind left c.word ≡ Some l → Takes lives c (Compute to op kind left c.register)
  OnLeft : (to : ℕ) (op : BinaryOp) (kind : Kind) (right : ℕ) (l : Instruction) → right ≢ c.register → Spent lives to c.register → commutes op ≡ true → immediate_line to op kind right c.word ≡ Some l → Takes lives c (Compute to op kind c.register right)
  Weighs : (to : ℕ) (op : Comparison) (kind : Kind) (left : ℕ) (l : Instruction) → left ≢ c.register → Spent lives to c.register → comparison_start to op kind left c.word ≡ Some l → Takes lives c (Compare to op kind left c.register)
  Stores : (place : Place) (kind : Kind) (access : ℕ) → c.word ≡ 0 → place_uses place c.register ≡ false → lives c.register ≡ false → Takes lives c (Write place kind c.register access)

-- a constant that a line passes on
pub record Passes (lives : ℕ → Bool) (line user : Line) (c : Constant) : Type 0 where
  pub constant : IsConstant line c.register c.word
  pub takes : Takes lives c user

other : (a b : ℕ) → (a == b) ≡ false → a ≢ b
other a b e = λ q. let f = eq-eqb a b q in let bad : true ≡ false = sym f ∙ e in cc

not_same : (a b : ℕ) → a ≢ b → (a == b) ≡ false
not_same a b ne = grind (arith, nat_tests)

spent_of : (lives : ℕ → Bool) (to r : ℕ) → is_spent lives to r ≡ true → Spent lives to r
spent_of lives to r = by (r == to) (lives r) refl refl
  where
    by : (s t : Bool) → (r == to) ≡ s → lives r ≡ t → (s || not t) ≡ true → Spent lives to r
    by true t e f h = inl (same_number r to e)
    by false false e f h = inr f
    by false true e f h = absurd cc

computes_takes : (lives : ℕ → Bool) (c : Constant) (to : ℕ) (op : BinaryOp) (kind : Kind) (left right : ℕ) → is_taken lives c (Compute to op kind left right) ≡ true → Takes lives c (Compute to op kind left right)
computes_takes lives c to op kind left right = by (right == c.register) (left == c.register) (commutes op) (immediate_line to op kind left c.word) (immediate_line to op kind right c.word) (is_spent lives to c.register) refl refl refl refl refl refl
  where
    by : (p q s : Bool) (a b : Option Instruction) (t : Bool) → (right == c.register) ≡ p → (left == c.register) ≡ q → commutes op ≡ s → immediate_line to op kind left c.word ≡ a → immediate_line to op kind right c.word ≡ b → is_spent lives to c.register ≡ t → (is_some (if p then (if q then None else a) else (if q && s then b else None)) && t) ≡ true → Takes lives c (Compute to op kind left right)
    by true false s (Some l) b true e f g h i k v = subst (λ x. Takes lives c (Compute to op kind left x)) (sym (same_number right c.register e)) (OnRight to op kind left l (other left c.register f) (spent_of lives to c.register k) h)
    by false true true a (Some l) true e f g h i k v = subst (λ x. Takes lives c (Compute to op kind x right)) (sym (same_number left c.register f)) (OnLeft to op kind right l (other right c.register e) (spent_of lives to c.register k) g i)
    by true true s a b t e f g h i k v = absurd cc
    by true false s None b t e f g h i k v = absurd cc
    by true false s (Some l) b false e f g h i k v = absurd cc
    by false false s a b t e f g h i k v = absurd cc
    by false true false a b t e f g h i k v = absurd cc
    by false true true a None t e f g h i k v = absurd cc
    by false true true a (Some l) false e f g h i k v = absurd cc

compares_takes : (lives : ℕ → Bool) (c : Constant) (to : ℕ) (op : Comparison) (kind : Kind) (left right : ℕ) → is_taken lives c (Compare to op kind left right) ≡ true → Takes lives c (Compare to op kind left right)
compares_takes lives c to op kind left right = by (right == c.register) (left == c.register) (comparison_start to op kind left c.word) (is_spent lives to c.register) refl refl refl refl
  where
    by : (p q : Bool) (a : Option Instruction) (t : Bool) → (right == c.register) ≡ p → (left == c.register) ≡ q → comparison_start to op kind left c.word ≡ a → is_spent lives to c.register ≡ t → (is_some (if p && not q then a else None) && t) ≡ true → Takes lives c (Compare to op kind left right)
    by true false (Some l) true e f h k v = subst (λ x. Takes lives c (Compare to op kind left x)) (sym (same_number right c.register e)) (Weighs to op kind left l (other left c.register f) (spent_of lives to c.register k) h)
    by true true a t e f h k v = absurd cc
    by true false None t e f h k v = absurd cc
    by true false (Some l) false e f h k v = absurd cc
    by false q a t e f h k v = absurd cc

stores_takes : (lives : ℕ → Bool) (c : Constant) (place : Place) (kind : Kind) (from access : ℕ) → is_taken lives c (Write place kind from access) ≡ true → Takes lives c (Write place kind from access)
stores_takes lives c place kind from access = by (c.word == 0) (from == c.register) (place_uses place c.register) (lives c.register) refl refl refl refl
  where
    by : (p q s t : Bool) → (c.word == 0) ≡ p → (from == c.register) ≡ q → place_uses place c.register ≡ s → lives c.register ≡ t → (p && (q && not (s || t))) ≡ true → Takes lives c (Write place kind from access)
    by true true false false e f g h v = subst (λ x. Takes lives c (Write place kind x access)) (sym (same_number from c.register f)) (Stores place kind access (same_number c.word 0 e) g h)
    by true true false true e f g h v = absurd cc
    by true true true t e f g h v = absurd cc
    by true false s t e f g h v = absurd cc
    by false q s t e f g h v = absurd cc

takes_of : (lives : ℕ → Bool) (c : Constant) (user : Line) → is_taken lives c user ≡ true → Takes lives c user
takes_of lives c (Compute to op kind left right) e = computes_takes lives c to op kind left right e
takes_of lives c (Compare to op kind left right) e = compares_takes lives c to op kind left right e
takes_of lives c (Write place kind from access) e = stores_takes lives c place kind from access e
takes_of lives c user e = absurd cc

passes_to : (lives : ℕ → Bool) (line user : Line) (d c : Constant) → IsConstant line d.register d.word → passed_to lives d (user ∷ []) ≡ Some c → Passes lives line user c
passes_to lives line user d c is = by (is_taken lives d user) refl
  where
    by : (t : Bool) → is_taken lives d user ≡ t → (if t then Some d else None) ≡ Some c → Passes lives line user c
    by true e v = let same : d ≡ c = cc in subst (Passes lives line user) same (record { constant = is; takes = takes_of lives d user e })
    by false e v = absurd cc

pub passes : (lives : ℕ → Bool) (line user : Line) (rest : List Line) (c : Constant) → passed_by lives line (user ∷ rest) ≡ Some c → Passes lives line user c
passes lives (Put to z) user rest c e = passes_to lives (Put to z) user (record { register = to; word = word z }) c (ConstantNumber to (word z) z refl) e
passes lives (PutNull to) user rest c e = passes_to lives (PutNull to) user (record { register = to; word = 0 }) c (ConstantNull to) e
passes lives line user rest c e = absurd cc

-- the constant has no line, and what takes it passes nothing on
constant_silent : (at : Name → ℕ) (m : ℕ) (line : Line) (r n : ℕ) (c : Constant) → IsConstant line r n → way_code at m (Some c) None line ≡ []
constant_silent at m line r n c (ConstantNumber q k z e) = refl
constant_silent at m line r n c (ConstantNull q) = refl

taker_passes : (lives needed : ℕ → Bool) (c : Constant) (user : Line) (rest : List Line) → Takes lives c user → passed_by needed user rest ≡ None
taker_passes lives needed c user rest (OnRight to op kind left l ne k e) = refl
taker_passes lives needed c user rest (OnLeft to op kind right l ne k t e) = refl
taker_passes lives needed c user rest (Weighs to op kind left l ne k e) = refl
taker_passes lives needed c user rest (Stores place kind access z a k) = refl

pub lines_paired : (at : Name → ℕ) (m : ℕ → ℕ) (needed : ℕ → ℕ → Bool) (j : ℕ) (line user : Line) (rest : List Line) (c : Constant) → passed_by (needed (suc j)) line (user ∷ rest) ≡ Some c → lines_code at m needed None j (line ∷ user ∷ rest) ≡ way_code at (m (suc j)) None (Some c) user ++ lines_code at m needed None (suc (suc j)) rest
lines_paired at m needed j line user rest c e =
    let p = passes (needed (suc j)) line user rest c e in
    ap (λ z. way_code at (m j) z None line ++ lines_code at m needed z (suc j) (user ∷ rest)) e
    ∙ ap (λ z. z ++ lines_code at m needed (Some c) (suc j) (user ∷ rest)) (constant_silent at (m j) line c.register c.word c p.constant)
    ∙ ap (λ z. way_code at (m (suc j)) z (Some c) user ++ lines_code at m needed z (suc (suc j)) rest) (taker_passes (needed (suc j)) (needed (suc (suc j))) c user rest p.takes)

-- the lines of what takes it
pub right_code : (to : ℕ) (op : BinaryOp) (kind : Kind) (left : ℕ) (c : Constant) (l : Instruction) → left ≢ c.register → immediate_line to op kind left c.word ≡ Some l → operated_code (Some c) to op kind left c.register ≡ plain_line l ∷ []
right_code to op kind left c l ne e =
    let same : (c.register == c.register) ≡ true = grind (arith, nat_tests) in
    ap (λ b. by_or (computed_code to op kind left c.register) (if b then (if left == c.register then None else immediate_line to op kind left c.word) else (if left == c.register && commutes op then immediate_line to op kind c.register c.word else None)) []) same
    ∙ ap (λ b. by_or (computed_code to op kind left c.register) (if b then None else immediate_line to op kind left c.word) []) (not_same left c.register ne)
    ∙ ap (λ o. by_or (computed_code to op kind left c.register) o []) e

pub left_code : (to : ℕ) (op : BinaryOp) (kind : Kind) (right : ℕ) (c : Constant) (l : Instruction) → right ≢ c.register → commutes op ≡ true → immediate_line to op kind right c.word ≡ Some l → operated_code (Some c) to op kind c.register right ≡ plain_line l ∷ []
left_code to op kind right c l ne turns e =
    let same : (c.register == c.register) ≡ true = grind (arith, nat_tests) in
    ap (λ b. by_or (computed_code to op kind c.register right) (if b then (if c.register == c.register then None else immediate_line to op kind c.register c.word) else (if c.register == c.register && commutes op then immediate_line to op kind right c.word else None)) []) (not_same right c.register ne)
    ∙ ap (λ b. by_or (computed_code to op kind c.register right) (if b && commutes op then immediate_line to op kind right c.word else None) []) same
    ∙ ap (λ b. by_or (computed_code to op kind c.register right) (if b then immediate_line to op kind right c.word else None) []) turns
    ∙ ap (λ o. by_or (computed_code to op kind c.register right) o []) e

pub weighs_code : (to : ℕ) (op : Comparison) (kind : Kind) (left : ℕ) (c : Constant) (l : Instruction) → left ≢ c.register → comparison_start to op kind left c.word ≡ Some l → compared_with_code (Some c) to op kind left c.register ≡ plain_line l ∷ comparison_rest to op c.word
weighs_code to op kind left c l ne e =
    let same : (c.register == c.register) ≡ true = grind (arith, nat_tests) in
    let code : List CodeLine = compared_code to (less_op kind) left c.register op in
    let rest : List CodeLine = comparison_rest to op c.word in
    ap (λ b. by_or code (if b && not (left == c.register) then comparison_start to op kind left c.word else None) rest) same
    ∙ ap (λ b. by_or code (if not b then comparison_start to op kind left c.word else None) rest) (not_same left c.register ne)
    ∙ ap (λ o. by_or code o rest) e

-- a word of a constant is one
pub constant_small : (line : Line) (r n : ℕ) → IsConstant line r n → n < 2 ^ 32
constant_small line r n (ConstantNumber q k z e) = let s = word_small z in omega arith
constant_small line r n (ConstantNull q) = omega arith

-- ---- its instruction

pub low_is : (op : Op) (to left n : ℕ) (l : Instruction) → n < 2 ^ 32 → by_low op to left n ≡ Some l → l ≡ with_immediate op to left n
low_is op to left n l small = by (high_of n == 0) refl
  where
    by : (b : Bool) → (high_of n == 0) ≡ b → (if b then Some (with_immediate op to left (low_of n)) else None) ≡ Some l → l ≡ with_immediate op to left n
    by true e v = let x : with_immediate op to left (low_of n) ≡ l = cc in sym x ∙ ap (with_immediate op to left) (low_whole n small (same_number (high_of n) 0 e))
    by false e v = absurd cc

bits_is : (op : Op) (to left n : ℕ) (l : Instruction) → by_bits op to left n ≡ Some l → l ≡ with_immediate op to left n
bits_is op to left n l = by (nat_lt n 32)
  where
    by : (b : Bool) → (if b then Some (with_immediate op to left n) else None) ≡ Some l → l ≡ with_immediate op to left n
    by true v = let x : with_immediate op to left n ≡ l = cc in sym x
    by false v = absurd cc

negated_sum : (n : ℕ) → n < 2 ^ 32 → sum_of (negated n) n ≡ 0
negated_sum n small = omega arith

pub record IsImmediate (to : ℕ) (op : BinaryOp) (kind : Kind) (left n : ℕ) (l : Instruction) : Type 0 where
  pub by : Op
  pub imm : ℕ
  pub line : l ≡ with_immediate by to left imm
  pub is : Immediate n kind op by imm

pub immediate_of : (to : ℕ) (op : BinaryOp) (kind : Kind) (left n : ℕ) (l : Instruction) → n < 2 ^ 32 → immediate_line to op kind left n ≡ Some l → IsImmediate to op kind left n l
immediate_of to Add kind left n l small e = record { by = Addi; imm = n; line = low_is Addi to left n l small e; is = AddsBy }
immediate_of to Subtract kind left n l small e = record { by = Addi; imm = negated n; line = low_is Addi to left (negated n) l (omega arith) e; is = SubtractsBy (negated n) (negated_sum n small) }
immediate_of to BitAnd kind left n l small e = record { by = Andi; imm = n; line = low_is Andi to left n l small e; is = AndsBy }
immediate_of to BitOr kind left n l small e = record { by = Ori; imm = n; line = low_is Ori to left n l small e; is = OrsBy }
immediate_of to BitXor kind left n l small e = record { by = Xori; imm = n; line = low_is Xori to left n l small e; is = XorsBy }
immediate_of to ShiftLeft kind left n l small e = record { by = Slli; imm = n; line = bits_is Slli to left n l e; is = ShiftsLeftBy }
immediate_of to ShiftRight kind left n l small e = record { by = by_sign kind Srai Srli; imm = n; line = bits_is (by_sign kind Srai Srli) to left n l e; is = ShiftsRightBy }
immediate_of to Multiply kind left n l small e = absurd cc
immediate_of to Divide kind left n l small e = absurd cc
immediate_of to Remainder kind left n l small e = absurd cc

-- ---- a comparison's

pub below_is : (to : ℕ) (kind : Kind) (left n : ℕ) (l : Instruction) → n < 2 ^ 32 → below_line to kind left n ≡ Some l → (n ≢ least kind) × (l ≡ with_immediate (less_by kind) to left n)
below_is to kind left n l small = by (n == least kind) refl
  where
    by : (t : Bool) → (n == least kind) ≡ t → (if t then None else by_low (less_by kind) to left n) ≡ Some l → (n ≢ least kind) × (l ≡ with_immediate (less_by kind) to left n)
    by true e v = absurd cc
    by false e v = (other n (least kind) e, low_is (less_by kind) to left n l small v)

pub above_small : (n : ℕ) → above n < 2 ^ 32
above_small n = omega arith

-- the instructions where a number is 0, and where it isn't
pub data ZeroOr (n : ℕ) (zero : Instruction) (left : ℕ) (second : CodeLine) : Instruction → List CodeLine → Type 0 where
  IsNone : n ≡ 0 → ZeroOr n zero left second zero []
  IsSome : ZeroOr n zero left second (with_immediate Addi 5 left (negated n)) (second ∷ [])

pub zero_or : (n : ℕ) (zero : Instruction) (left : ℕ) (second : CodeLine) (l : Instruction) → n < 2 ^ 32 → (if n == 0 then Some zero else by_low Addi 5 left (negated n)) ≡ Some l → ZeroOr n zero left second l (if n == 0 then [] else second ∷ [])
zero_or n zero left second l small = by (n == 0) refl
  where
    by : (t : Bool) → (n == 0) ≡ t → (if t then Some zero else by_low Addi 5 left (negated n)) ≡ Some l → ZeroOr n zero left second l (if t then [] else second ∷ [])
    by true e v = let q : zero ≡ l = cc in subst (λ x. ZeroOr n zero left second x []) q (IsNone (same_number n 0 e))
    by false e v = let s = small in subst (λ x. ZeroOr n zero left second x (second ∷ [])) (sym (low_is Addi 5 left (negated n) l (omega arith) v)) IsSome

equal_in : (w : Lines) (k to : ℕ) (kind : Kind) (left n : ℕ) (l : Instruction) (rest : List CodeLine) → n < 2 ^ 32 → ZeroOr n (with_immediate Sltiu to left 1) left (plain_line (with_immediate Sltiu to 5 1)) l rest → At w k (plain_line l ∷ rest) → ComparedByIn w k to kind left n Equal (after k (plain_line l ∷ rest))
equal_in w k to kind left n l rest small (IsNone z) a = SameZero z a.0
equal_in w k to kind left n l rest small IsSome a = SameBy (negated n) (negated_sum n small) a.0 a.1.0

unequal_in : (w : Lines) (k to : ℕ) (kind : Kind) (left n : ℕ) (l : Instruction) (rest : List CodeLine) → n < 2 ^ 32 → ZeroOr n (on_registers Sltu to 0 left) left (plain_line (on_registers Sltu to 0 5)) l rest → At w k (plain_line l ∷ rest) → ComparedByIn w k to kind left n NotEqual (after k (plain_line l ∷ rest))
unequal_in w k to kind left n l rest small (IsNone z) a = OtherZero z a.0
unequal_in w k to kind left n l rest small IsSome a = OtherBy (negated n) (negated_sum n small) a.0 a.1.0

pub weighs_in : (w : Lines) (k to : ℕ) (op : Comparison) (kind : Kind) (left n : ℕ) (l : Instruction) → n < 2 ^ 32 → comparison_start to op kind left n ≡ Some l → At w k (plain_line l ∷ comparison_rest to op n) → ComparedByIn w k to kind left n op (after k (plain_line l ∷ comparison_rest to op n))
weighs_in w k to Less kind left n l small e a = LesserBy (subst (λ x. Plain w k x) (low_is (less_by kind) to left n l small e) a.0)
weighs_in w k to GreaterOrEqual kind left n l small e a = NotLesserBy (subst (λ x. Plain w k x) (low_is (less_by kind) to left n l small e) a.0) a.1.0
weighs_in w k to LessOrEqual kind left n l small e a = let q = below_is to kind left (above n) l (above_small n) e in NotLargerBy (above n) refl q.0 (subst (λ x. Plain w k x) q.1 a.0)
weighs_in w k to Greater kind left n l small e a = let q = below_is to kind left (above n) l (above_small n) e in LargerBy (above n) refl q.0 (subst (λ x. Plain w k x) q.1 a.0) a.1.0
weighs_in w k to Equal kind left n l small e a = equal_in w k to kind left n l _ small (zero_or n (with_immediate Sltiu to left 1) left (plain_line (with_immediate Sltiu to 5 1)) l small e) a
weighs_in w k to NotEqual kind left n l small e a = unequal_in w k to kind left n l _ small (zero_or n (on_registers Sltu to 0 left) left (plain_line (on_registers Sltu to 0 5)) l small e) a

-- ---- what doesn't live behind it is read on no path

pub unread_in : (blocks : List Block) (live : ℕ → ℕ → Bool) (rest : List Line) (exit : Exit) (r : ℕ) → IsLive blocks live → r < 32 → lives_before live rest exit r ≡ false → IsUnread blocks rest exit r
unread_in blocks live rest exit r is small e n = by (lives_before (reads_first blocks n) rest exit r) refl
  where
    by : (t : Bool) → lives_before (reads_first blocks n) rest exit r ≡ t → t ≡ false
    by true h = let more = lives_more (reads_first blocks n) live r (λ b f. is.all b r n small f) rest exit h in let bad : true ≡ false = sym more ∙ e in cc
    by false h = refl
