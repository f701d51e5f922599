-- What is well typed by the rules.
use Rattle.std.specs.Prelude.{◌≡◌, ℕ, Bool, true, List, Some}
use Rattle.im_ctree.specs.declared.operator.BinaryOp.{BinaryOp}
use Rattle.im_ctree.specs.declared.operator.UnaryOp.{UnaryOp}
use Rattle.im_ctree.specs.declared.operator.AssignOp.{AssignOp}
use Rattle.im_ctree.specs.declared.operator.StepOp.{StepOp}
use Rattle.im_ctype.specs.Types.{CType, struct, Structs, members_of}
use Rattle.im_ctype.specs.Layout.{AreComplete}
use Rattle.im_word.specs.Words.{Name}
use Rattle.im_typed.specs.Program.{Place, Func, Prog}
use Rattle.im_rules.specs.Rules.{allows}
use Rattle.im_rules.specs.Terms.{Term, operand_of, value_of}
use Rattle.im_rules.specs.TypeTests.{points_to_complete, target_of, has_member}
use Rattle.im_rules.specs.Scopes.{a_function, Callee}
use Rattle.im_rules.specs.Demands.{Meets, unary_asks, cast_asks, conditional_asks, assign_asks, step_asks, index_asks, call_asks}
use Rattle.im_rules.specs.Conversions.{operation, unary_term, casted, joined, chosen, assigned, stepped, pointed, sum, call_of, member_among, member_at}
use Rattle.im_rules_sound.specs.Sound.{IsSoundValue, MovesWell, IsSized, IsSoundPlace, IsSoundTerm, AreSound, IsSoundCallee}

-- binary operators (C11 6.5.5 to 6.5.14)
abbrev pub OperationsLaw : Type 0
OperationsLaw =
    (g : Prog) (f : Func) (known : Structs) (op : BinaryOp) (x y : Term)
    → IsSoundValue g f known (value_of known x) → IsSoundValue g f known (value_of known y)
    → MovesWell known (value_of known x).type → MovesWell known (value_of known y).type
    → allows known op (operand_of x) (operand_of y) ≡ true
    → IsSoundValue g f known (operation known op (value_of known x) (value_of known y))

-- an lvalue that is read (C11 6.3.2.1)
abbrev pub ReadsLaw : Type 0
ReadsLaw = (g : Prog) (f : Func) (known : Structs) (x : Term) → IsSoundTerm g f known x → IsSoundValue g f known (value_of known x)

-- unary operators (C11 6.5.3.2, 6.5.3.3)
abbrev pub UnaryLaw : Type 0
UnaryLaw =
    (g : Prog) (f : Func) (known : Structs) (op : UnaryOp) (x : Term) → IsSoundTerm g f known x
    → (points_to_complete known (value_of known x).type ≡ true → IsSized known (target_of (value_of known x).type))
    → Meets (unary_asks known op x) → IsSoundTerm g f known (unary_term known op x)

-- casts and commas (C11 6.5.4, 6.5.17)
abbrev pub CastsLaw : Type 0
CastsLaw =
    (g : Prog) (f : Func) (known : Structs) (t : CType) (x : Term) → IsSoundTerm g f known x → Meets (cast_asks t x)
    → IsSoundValue g f known (casted t (value_of known x))

abbrev pub CommasLaw : Type 0
CommasLaw =
    (g : Prog) (f : Func) (known : Structs) (x y : Term) → IsSoundTerm g f known x → IsSoundTerm g f known y
    → IsSoundValue g f known (joined (value_of known x) (value_of known y))

-- `?:` (C11 6.5.15)
abbrev pub ChoicesLaw : Type 0
ChoicesLaw =
    (g : Prog) (f : Func) (known : Structs) (w x y : Term) → IsSoundTerm g f known w → IsSoundTerm g f known x → IsSoundTerm g f known y
    → Meets (conditional_asks w x y) → IsSoundValue g f known (chosen known (value_of known w) (value_of known x) (value_of known y))

-- assignments (C11 6.5.16), and `++` and `--` (C11 6.5.2.4, 6.5.3.1)
abbrev pub AssignsLaw : Type 0
AssignsLaw =
    (g : Prog) (f : Func) (known : Structs) (op : AssignOp) (x y : Term) → IsSoundTerm g f known x → IsSoundTerm g f known y
    → MovesWell known (value_of known x).type → Meets (assign_asks known op x y)
    → IsSoundValue g f known (assigned known op x (value_of known y))

abbrev pub StepsLaw : Type 0
StepsLaw =
    (g : Prog) (f : Func) (known : Structs) (op : StepOp) (old : Bool) (x : Term) → IsSoundTerm g f known x
    → MovesWell known (value_of known x).type → Meets (step_asks known x) → IsSoundValue g f known (stepped known op old x)

-- subscripts (C11 6.5.2.1), and calls (C11 6.5.2.2)
abbrev pub SubscriptsLaw : Type 0
SubscriptsLaw =
    (g : Prog) (f : Func) (known : Structs) (x y : Term) → IsSoundTerm g f known x → IsSoundTerm g f known y
    → MovesWell known (value_of known x).type → MovesWell known (value_of known y).type
    → (points_to_complete known (sum known (value_of known x) (value_of known y)).type ≡ true → IsSized known (target_of (sum known (value_of known x) (value_of known y)).type))
    → Meets (index_asks known x y)
    → IsSoundTerm g f known (pointed (sum known (value_of known x) (value_of known y)))

abbrev pub CallsLaw : Type 0
CallsLaw =
    (g : Prog) (f : Func) (known : Structs) (c : Callee) (k : Bool) (t : CType) (xs : List Term) → IsSoundCallee g known c t → AreSound g f known xs
    → Meets (call_asks (Some (a_function c k t)) xs) → IsSoundValue g f known (call_of known (Some (a_function c k t)) xs)

-- a member of a struct at a place (C11 6.5.2.3), where each struct of the unit holds only those before it
abbrev pub MembersLaw : Type 0
MembersLaw =
    (g : Prog) (f : Func) (known : Structs) (k : Bool) (n : ℕ) (p : Place) (x : Name) → AreComplete known → IsSoundPlace g f known (struct n) p
    → has_member x (members_of known n) ≡ true → IsSized known (member_among x (members_of known n)).type
    → IsSoundTerm g f known (member_at known k (struct n) p x)
