-- Sizes in a node are within the limit where those in its parts are.
use Rattle.std.proofs.Common.{◌≡◌, ◌≤◌, ℕ, ◌+◌, true, false, length, List, sym, subst, ◌∙◌}
use Rattle.im_check_declarators.specs.im_word.Words.{Name}
use Rattle.im_check_declarators.specs.im_tok.declared.number.Number.{Number}
use Rattle.im_check_declarators.specs.im_ctree.declared.operator.StepOp.{StepOp}
use Rattle.im_check_declarators.specs.im_ctree.declared.operator.UnaryOp.{UnaryOp}
use Rattle.im_check_declarators.specs.im_ctree.declared.operator.BinaryOp.{BinaryOp}
use Rattle.im_check_declarators.specs.im_ctree.declared.operator.AssignOp.{AssignOp}
use Rattle.im_check_declarators.specs.im_ctree.Tree as t
use Rattle.im_rules.specs.Context.{Context, behind, behind_name, behind_core, behind_may}
use Rattle.im_rules.specs.Declared as d
use Rattle.im_rules.specs.Demands.{callee_of, is_function_meant}
use Rattle.im_rules.specs.Typed.{Suffixed, MayDeclare}
use Rattle.im_rules.specs.Breaks as b
use Rattle.im_rules.specs.Breaks.{an_expression, some_expressions, some_specifiers, a_type_name, a_declarator, a_core, maybe_declarator, some_suffixes, some_parameters}
use Rattle.im_rules.proofs.Once.{suffixed_once, may_once}
use Rattle.im_check_declarators.specs.im_rules_limits.Limits.{size_limit, of_string, size_here, size_within, IsWithin}

-- expressions without parts

pub identifier_within : {c : Context} {at : ℕ} {x : Name} → IsWithin c (an_expression (t.identifier at x))
identifier_within k (size_here h) = elim h [ ]
identifier_within k (size_within p s) = elim p [ ]

pub number_within : {c : Context} {at : ℕ} {n : Number} → IsWithin c (an_expression (t.integer_constant at n))
number_within k (size_here h) = elim h [ ]
number_within k (size_within p s) = elim p [ ]

pub character_within : {c : Context} {at n : ℕ} → IsWithin c (an_expression (t.character_constant at n))
character_within k (size_here h) = elim h [ ]
character_within k (size_within p s) = elim p [ ]

pub string_within : {c : Context} {at : ℕ} {s : Name} → length s + 1 ≤ size_limit → IsWithin c (an_expression (t.string_literal at s))
string_within fits k (size_here of_string) = fits
string_within fits k (size_within p s) = elim p [ ]

-- of one part

pub member_within : {c : Context} {at : ℕ} {a : t.Expression} {n : Name} → IsWithin c (an_expression a) → IsWithin c (an_expression (t.member_of at a n))
member_within w k (size_here h) = elim h [ ]
member_within w k (size_within b.whole s) = w k s

pub arrow_within : {c : Context} {at : ℕ} {a : t.Expression} {n : Name} → IsWithin c (an_expression a) → IsWithin c (an_expression (t.arrow_to at a n))
arrow_within w k (size_here h) = elim h [ ]
arrow_within w k (size_within b.pointer_to_whole s) = w k s

pub post_step_within : {c : Context} {at : ℕ} {op : StepOp} {a : t.Expression} → IsWithin c (an_expression a) → IsWithin c (an_expression (t.post_step at op a))
post_step_within w k (size_here h) = elim h [ ]
post_step_within w k (size_within b.post_stepped s) = w k s

pub pre_step_within : {c : Context} {at : ℕ} {op : StepOp} {a : t.Expression} → IsWithin c (an_expression a) → IsWithin c (an_expression (t.pre_step at op a))
pre_step_within w k (size_here h) = elim h [ ]
pre_step_within w k (size_within b.pre_stepped s) = w k s

pub unary_within : {c : Context} {at : ℕ} {op : UnaryOp} {a : t.Expression} → IsWithin c (an_expression a) → IsWithin c (an_expression (t.unary at op a))
unary_within w k (size_here h) = elim h [ ]
unary_within w k (size_within b.operand s) = w k s

pub measured_within : {c : Context} {at : ℕ} {a : t.Expression} → IsWithin c (an_expression a) → IsWithin c (an_expression (t.size_of_expression at a))
measured_within w k (size_here h) = elim h [ ]
measured_within w k (size_within b.measured_expression s) = w k s

pub type_size_within : {c : Context} {at : ℕ} {n : t.TypeName} → IsWithin c (a_type_name n) → IsWithin c (an_expression (t.size_of_type at n))
type_size_within w k (size_here h) = elim h [ ]
type_size_within w k (size_within b.measured_type s) = w k s

-- of two parts and three

pub index_within : {c : Context} {at : ℕ} {a e : t.Expression} → IsWithin c (an_expression a) → IsWithin (behind a c) (an_expression e) → IsWithin c (an_expression (t.index at a e))
index_within v w k (size_here h) = elim h [ ]
index_within v w k (size_within b.indexed s) = v k s
index_within v w k (size_within b.subscript s) = w k s

pub binary_within : {c : Context} {at : ℕ} {op : BinaryOp} {a e : t.Expression} → IsWithin c (an_expression a) → IsWithin (behind a c) (an_expression e) → IsWithin c (an_expression (t.binary at op a e))
binary_within v w k (size_here h) = elim h [ ]
binary_within v w k (size_within b.left_operand s) = v k s
binary_within v w k (size_within b.right_operand s) = w k s

pub assign_within : {c : Context} {at : ℕ} {op : AssignOp} {a e : t.Expression} → IsWithin c (an_expression a) → IsWithin (behind a c) (an_expression e) → IsWithin c (an_expression (t.assign at op a e))
assign_within v w k (size_here h) = elim h [ ]
assign_within v w k (size_within b.left_side s) = v k s
assign_within v w k (size_within b.right_side s) = w k s

pub comma_within : {c : Context} {at : ℕ} {a e : t.Expression} → IsWithin c (an_expression a) → IsWithin (behind a c) (an_expression e) → IsWithin c (an_expression (t.comma at a e))
comma_within v w k (size_here h) = elim h [ ]
comma_within v w k (size_within b.before_comma s) = v k s
comma_within v w k (size_within b.behind_comma s) = w k s

pub cast_within : {c : Context} {at : ℕ} {n : t.TypeName} {e : t.Expression} → IsWithin c (a_type_name n) → IsWithin (behind_name n c) (an_expression e) → IsWithin c (an_expression (t.cast at n e))
cast_within v w k (size_here h) = elim h [ ]
cast_within v w k (size_within b.cast_type s) = v k s
cast_within v w k (size_within b.cast_operand s) = w k s

pub conditional_within : {c : Context} {at : ℕ} {i a e : t.Expression} → IsWithin c (an_expression i) → IsWithin (behind i c) (an_expression a) → IsWithin (behind a (behind i c)) (an_expression e) → IsWithin c (an_expression (t.conditional at i a e))
conditional_within u v w k (size_here h) = elim h [ ]
conditional_within u v w k (size_within b.condition s) = u k s
conditional_within u v w k (size_within b.first_arm s) = v k s
conditional_within u v w k (size_within b.second_arm s) = w k s

-- calls of a function's name, and their arguments

pub call_within : {c : Context} {at : ℕ} {f : t.Expression} {es : t.Expressions} → is_function_meant (callee_of c.scopes f) ≡ true → IsWithin (behind f c) (some_expressions es) → IsWithin c (an_expression (t.call at f es))
call_within g w k (size_here h) = elim h [ ]
call_within g w k (size_within (b.callee n) s) =
    let e : true ≡ false = sym g ∙ n in
    absurd cc
call_within g w k (size_within b.arguments s) = w k s

pub no_arguments_within : {c : Context} → IsWithin c (some_expressions t.no_expressions)
no_arguments_within k (size_here h) = elim h [ ]
no_arguments_within k (size_within p s) = elim p [ ]

pub arguments_within : {c : Context} {e : t.Expression} {es : t.Expressions} → IsWithin c (an_expression e) → IsWithin (behind e c) (some_expressions es) → IsWithin c (some_expressions (t.more_expressions e es))
arguments_within v w k (size_here h) = elim h [ ]
arguments_within v w k (size_within b.first_argument s) = v k s
arguments_within v w k (size_within b.other_arguments s) = w k s

-- type names and declarators

pub specifiers_within : {c : Context} {xs : t.Specifiers} → IsWithin c (some_specifiers xs)
specifiers_within k (size_here h) = elim h [ ]
specifiers_within k (size_within p s) = elim p [ ]

pub name_within : {c : Context} {at : ℕ} {xs : t.SpecifierList} {m : t.MaybeDeclarator} → IsWithin c (maybe_declarator (d.type_of_specifiers c xs) m) → IsWithin c (a_type_name (t.type_name (t.specifiers at xs) m))
name_within w k (size_here h) = elim h [ ]
name_within w k (size_within b.name_specifiers s) = specifiers_within k s
name_within w k (size_within (b.name_declarator m) s) = w k s

pub unwritten_within : {c : Context} {q : d.Qualified} → IsWithin c (maybe_declarator q t.no_declarator)
unwritten_within k (size_here h) = elim h [ ]
unwritten_within k (size_within p s) = elim p [ ]

pub written_within : {c : Context} {q : d.Qualified} {e : t.Declarator} → IsWithin c (a_declarator q e) → IsWithin c (maybe_declarator q (t.a_declarator e))
written_within w k (size_here h) = elim h [ ]
written_within w k (size_within b.declarator_part s) = w k s

pub declarator_within : {c : Context} {at : ℕ} {q r : d.Qualified} {stars : List ℕ} {core : t.Core} {ss : t.Suffixes} → Suffixed (behind_core core c) (d.with_stars q stars) ss r
    → IsWithin (behind_core core c) (some_suffixes (d.with_stars q stars) ss) → IsWithin c (a_core r core) → IsWithin c (a_declarator q (t.declarator at stars core ss))
declarator_within made v w k (size_here h) = elim h [ ]
declarator_within made v w k (size_within b.suffixes_part s) = v k s
declarator_within {c = c} {core = core} made v w k (size_within (b.core_part other) s) =
    let here : IsWithin c (a_core _ core) = subst (λ (r : d.Qualified). IsWithin c (a_core r core)) (suffixed_once made other) w in
    here k s

pub absent_within : {c : Context} {q : d.Qualified} → IsWithin c (a_core q t.absent_core)
absent_within k (size_here h) = elim h [ ]
absent_within k (size_within p s) = elim p [ ]

pub named_within : {c : Context} {q : d.Qualified} {x : Name} → IsWithin c (a_core q (t.name_core x))
named_within k (size_here h) = elim h [ ]
named_within k (size_within p s) = elim p [ ]

pub inner_within : {c : Context} {q : d.Qualified} {e : t.Declarator} → IsWithin c (a_declarator q e) → IsWithin c (a_core q (t.inner_core e))
inner_within w k (size_here h) = elim h [ ]
inner_within w k (size_within b.inner_part s) = w k s

-- parameters

pub no_parameters_within : {c : Context} {n : ℕ} → IsWithin c (some_parameters n t.no_parameters)
no_parameters_within k (size_here h) = elim h [ ]
no_parameters_within k (size_within p s) = elim p [ ]

pub parameters_within : {c : Context} {n at : ℕ} {xs : t.SpecifierList} {m : t.MaybeDeclarator} {ps : t.Parameters} {y : d.Declared} → MayDeclare (d.behind_specifiers c xs) (d.type_of_specifiers c xs) m y
    → IsWithin (d.behind_specifiers c xs) (maybe_declarator (d.type_of_specifiers c xs) m)
    → IsWithin (d.with_parameter n (d.parameter y) (behind_may m (d.behind_specifiers c xs))) (some_parameters (n + 1) ps)
    → IsWithin c (some_parameters n (t.more_parameters (t.specifiers at xs) m ps))
parameters_within declared v w k (size_here h) = elim h [ ]
parameters_within declared v w k (size_within b.parameter_specifiers s) = specifiers_within k s
parameters_within declared v w k (size_within (b.parameter_declarator m) s) = v k s
parameters_within {c = c} {n = n} {xs = xs} {m = m} {ps = ps} declared v w k (size_within (b.parameters_behind {d = z} meets other) s) =
    let rest : IsWithin (d.with_parameter n (d.parameter z) (behind_may m (d.behind_specifiers c xs))) (some_parameters (n + 1) ps) =
    subst (λ (x : d.Declared). IsWithin (d.with_parameter n (d.parameter x) (behind_may m (d.behind_specifiers c xs))) (some_parameters (n + 1) ps)) (may_once declared other) w in
    rest k s
