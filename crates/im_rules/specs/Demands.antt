-- What the rules ask of each form of expression, given the terms of its parts: the index of the rules on expressions.
-- A node is typed where all of its demands hold; it breaks the rule of each that doesn't.
use Rattle.std.specs.Prelude.{◌≡◌, ◌⊎◌, ℕ, Bool, true, false, ◌&&◌, List, [], ◌∷◌, length, Option, Some, None}
use Rattle.im_ctree.specs.im_word.Words.{Name}
use Rattle.im_ctree.specs.declared.operator.BinaryOp.{BinaryOp}
use Rattle.im_ctree.specs.declared.operator.UnaryOp.{UnaryOp}
use Rattle.im_ctree.specs.declared.operator.UnaryOp.TheVariants as o
use Rattle.im_ctree.specs.declared.operator.AssignOp.{AssignOp}
use Rattle.im_ctree.specs.Tree as t
use Rattle.im_typed.specs.im_ctype.Types.{CType, CTypes, no_types, more_types, Structs}
use Rattle.im_rules.specs.TypeTests.{parameters_of}
use Rattle.im_rules.specs.Scopes.{Entity, an_object, a_function, static_object, no_body, Scopes, meaning}
use Rattle.im_rules.specs.Terms.{Term, operand_of, type_in}
use Rattle.im_rules.specs.Conversions.{operator_of}
use Rattle.im_rules.specs.Outline.{is_in}
use Rattle.im_rules.specs.Context.{Context}
use Rattle.im_rules.specs.Rules.{rule_12_use, rule_17, rule_18, rule_19, rule_20, rule_21_dot, rule_21_arrow, rule_22, rule_23, rule_24, rule_25_arithmetic, rule_25_condition, rule_30_assign, rule_30_step, rule_31, rule_32, rule_33, rule_of, allows}

-- what a rule asks of a node
pub record Demand : Type 0 where
  pub rule : ℕ
  pub holds : Bool

abbrev pub asks : ℕ → Bool → Demand
asks r h = record { rule = r; holds = h }

-- all of it is so
abbrev pub Meets : List Demand → Type 0
Meets [] = Unit {0}
Meets (d ∷ ds) = (d.holds ≡ true) × Meets ds

-- some demand of the rule r isn't met
abbrev pub Refuses : ℕ → List Demand → Type 0
Refuses r [] = ⊥
Refuses r (d ∷ ds) = ((d.rule ≡ r) × (d.holds ≡ false)) ⊎ Refuses r ds

-- an object that is used is defined in the unit; those of a function are so where they are declared
abbrev pub is_object_defined : Context → Name → Option Entity → Bool
is_object_defined c x (Some (an_object k a (static_object n))) = is_in x c.unit.statics
is_object_defined c x e = true

-- a function that is called has a body in the unit, or is predeclared
abbrev pub is_function_defined : Option Entity → Bool
is_function_defined (Some (a_function no_body c a)) = false
is_function_defined e = true

abbrev pub name_asks : Context → Name → List Demand
name_asks c x = asks 18 (rule_18 (meaning c.scopes x)) ∷ asks 12 (rule_12_use (is_object_defined c x (meaning c.scopes x))) ∷ []

abbrev pub index_asks : Structs → Term → Term → List Demand
index_asks known x y = asks 20 (rule_20 known (operand_of x) (operand_of y)) ∷ []

abbrev pub all_fit : CTypes → List Term → Bool
all_fit no_types xs = true
all_fit (more_types p ps) [] = true
all_fit (more_types p ps) (x ∷ xs) = rule_17 p (operand_of x) && all_fit ps xs

abbrev pub parameters_in : Option Entity → CTypes
parameters_in (Some (a_function f c a)) = parameters_of a
parameters_in e = no_types

-- what the callee's name means, and the arguments
abbrev pub call_asks : Option Entity → List Term → List Demand
call_asks f xs =
    asks 19 (rule_19 f (length xs)) ∷ asks 12 (rule_12_use (is_function_defined f)) ∷ asks 17 (all_fit (parameters_in f) xs) ∷ []

abbrev pub dot_asks : Structs → Term → Name → List Demand
dot_asks known x m = asks 21 (rule_21_dot known (operand_of x) m) ∷ []

abbrev pub arrow_asks : Structs → Term → Name → List Demand
arrow_asks known x m = asks 21 (rule_21_arrow known (operand_of x) m) ∷ []

-- `++` and `--`, before and behind
abbrev pub step_asks : Structs → Term → List Demand
step_asks known x =
    asks 22 (rule_22 (operand_of x)) ∷ asks 23 (rule_23 known (operand_of x)) ∷ asks 30 (rule_30_step known (operand_of x)) ∷ []

abbrev pub unary_asks : Structs → UnaryOp → Term → List Demand
unary_asks known o.AddressOf x = asks 22 (rule_22 (operand_of x)) ∷ []
unary_asks known o.Dereference x = asks 24 (rule_24 known (operand_of x)) ∷ []
unary_asks known o.Plus x = asks 25 (rule_25_arithmetic (operand_of x)) ∷ []
unary_asks known o.Minus x = asks 25 (rule_25_arithmetic (operand_of x)) ∷ []
unary_asks known o.BitNot x = asks 25 (rule_25_arithmetic (operand_of x)) ∷ []
unary_asks known o.Not x = asks 25 (rule_25_condition (operand_of x)) ∷ []

abbrev pub size_asks : Structs → CType → List Demand
size_asks known a = asks 33 (rule_33 known a) ∷ []

abbrev pub cast_asks : CType → Term → List Demand
cast_asks a x = asks 32 (rule_32 a (operand_of x)) ∷ []

abbrev pub binary_asks : Structs → BinaryOp → Term → Term → List Demand
binary_asks known op x y = asks (rule_of op) (allows known op (operand_of x) (operand_of y)) ∷ []

abbrev pub conditional_asks : Term → Term → Term → List Demand
conditional_asks w x y = asks 25 (rule_25_condition (operand_of w)) ∷ asks 31 (rule_31 (operand_of x) (operand_of y)) ∷ []

abbrev pub assigned_asks : Structs → Option BinaryOp → Term → Term → Demand
assigned_asks known None x y = asks 17 (rule_17 (type_in x) (operand_of y))
assigned_asks known (Some op) x y = asks 30 (rule_30_assign known op (operand_of x) (operand_of y))

abbrev pub assign_asks : Structs → AssignOp → Term → Term → List Demand
assign_asks known op x y =
    asks 22 (rule_22 (operand_of x)) ∷ asks 23 (rule_23 known (operand_of x)) ∷ assigned_asks known (operator_of op) x y ∷ []

-- the name that an expression is
abbrev pub callee_of : Scopes → t.Expression → Option Entity
callee_of g (t.identifier at x) = meaning g x
callee_of g e = None

abbrev pub is_function_meant : Option Entity → Bool
is_function_meant (Some (a_function f c a)) = true
is_function_meant e = false
