-- Which node breaks which rule: its parts are typed, and something that the rule asks of it isn't so.
use Rattle.std.specs.Prelude.{◌≡◌, ℕ, ◌+◌, true, false, List, [], ◌∷◌}
use Rattle.im_ctree.specs.im_word.Words.{Name}
use Rattle.im_ctree.specs.declared.operator.StepOp.{StepOp}
use Rattle.im_ctree.specs.declared.operator.UnaryOp.{UnaryOp}
use Rattle.im_ctree.specs.declared.operator.BinaryOp.{BinaryOp}
use Rattle.im_ctree.specs.declared.operator.AssignOp.{AssignOp}
use Rattle.im_ctree.specs.Tree as t
use Rattle.im_rules.specs.Context.{Context, in_new_scope, behind, behind_name, behind_core, behind_may, behind_parameters}
use Rattle.im_rules.specs.Terms.{Term, type_in, constant_in}
use Rattle.im_rules.specs.Demands.{asks, Refuses, Meets, name_asks, index_asks, call_asks, dot_asks, arrow_asks, step_asks, unary_asks, size_asks, cast_asks, binary_asks, conditional_asks, assign_asks, callee_of, is_function_meant}
use Rattle.im_rules.specs.Declared.{Qualified, Declared, specifiers_ask, behind_specifiers, type_of_specifiers, with_stars, stars_ask, element_asks, length_asks, parameter, with_parameter, parameter_asks, parameters_of, function_asks, is_sized}
use Rattle.im_rules.specs.Typed.{Typed, AreTyped, Names, Suffixed, AreParameters, MayDeclare}

-- a node of the tree; a declarator, and what stands in one, with the type that comes to it from outside
pub data Node : Type 0 where
  an_expression : t.Expression → Node
  some_expressions : t.Expressions → Node
  some_specifiers : t.Specifiers → Node
  a_type_name : t.TypeName → Node
  a_declarator : Qualified → t.Declarator → Node
  a_core : Qualified → t.Core → Node
  some_suffixes : Qualified → t.Suffixes → Node
  some_parameters : ℕ → t.Parameters → Node
  maybe_declarator : Qualified → t.MaybeDeclarator → Node

-- the rule r refuses the node
pub data Breaks (c : Context) (r : ℕ) : Node → Type 0 where
  at_identifier : {at : ℕ} {x : Name} → Refuses r (name_asks c x) → Breaks c r (an_expression (t.identifier at x))
  at_index : {at : ℕ} {a b : t.Expression} {x y : Term} → Typed c a x → Typed (behind a c) b y → Refuses r (index_asks c.known x y) → Breaks c r (an_expression (t.index at a b))
  at_call : {at : ℕ} {f : t.Expression} {es : t.Expressions} {xs : List Term}
      → is_function_meant (callee_of c.scopes f) ≡ true
      → AreTyped (behind f c) es xs
      → Refuses r (call_asks (callee_of c.scopes f) xs)
      → Breaks c r (an_expression (t.call at f es))
  -- what is called is no function's name
  at_callee : {at : ℕ} {f : t.Expression} {es : t.Expressions} {x : Term} {xs : List Term}
      → is_function_meant (callee_of c.scopes f) ≡ false
      → Typed c f x
      → AreTyped (behind f c) es xs
      → r ≡ 19
      → Breaks c r (an_expression (t.call at f es))
  at_member : {at : ℕ} {e : t.Expression} {m : Name} {x : Term} → Typed c e x → Refuses r (dot_asks c.known x m) → Breaks c r (an_expression (t.member_of at e m))
  at_arrow : {at : ℕ} {e : t.Expression} {m : Name} {x : Term} → Typed c e x → Refuses r (arrow_asks c.known x m) → Breaks c r (an_expression (t.arrow_to at e m))
  at_post_step : {at : ℕ} {op : StepOp} {e : t.Expression} {x : Term} → Typed c e x → Refuses r (step_asks c.known x) → Breaks c r (an_expression (t.post_step at op e))
  at_pre_step : {at : ℕ} {op : StepOp} {e : t.Expression} {x : Term} → Typed c e x → Refuses r (step_asks c.known x) → Breaks c r (an_expression (t.pre_step at op e))
  at_unary : {at : ℕ} {op : UnaryOp} {e : t.Expression} {x : Term} → Typed c e x → Refuses r (unary_asks c.known op x) → Breaks c r (an_expression (t.unary at op e))
  at_size : {at : ℕ} {e : t.Expression} {x : Term} → Typed c e x → Refuses r (size_asks c.known (type_in x)) → Breaks c r (an_expression (t.size_of_expression at e))
  at_type_size : {at : ℕ} {n : t.TypeName} {q : Qualified} → Names c n q → Refuses r (size_asks c.known q.type) → Breaks c r (an_expression (t.size_of_type at n))
  at_cast : {at : ℕ} {n : t.TypeName} {e : t.Expression} {q : Qualified} {x : Term} → Names c n q → Typed (behind_name n c) e x → Refuses r (cast_asks q.type x) → Breaks c r (an_expression (t.cast at n e))
  at_binary : {at : ℕ} {op : BinaryOp} {a b : t.Expression} {x y : Term} → Typed c a x → Typed (behind a c) b y → Refuses r (binary_asks c.known op x y) → Breaks c r (an_expression (t.binary at op a b))
  at_conditional : {at : ℕ} {d a b : t.Expression} {w x y : Term} → Typed c d w → Typed (behind d c) a x → Typed (behind a (behind d c)) b y → Refuses r (conditional_asks w x y) → Breaks c r (an_expression (t.conditional at d a b))
  at_assign : {at : ℕ} {op : AssignOp} {a b : t.Expression} {x y : Term} → Typed c a x → Typed (behind a c) b y → Refuses r (assign_asks c.known op x y) → Breaks c r (an_expression (t.assign at op a b))
  at_specifiers : {at : ℕ} {xs : t.SpecifierList} → Refuses r (specifiers_ask c xs) → Breaks c r (some_specifiers (t.specifiers at xs))
  at_type_name : {at : ℕ} {xs : t.SpecifierList} {m : t.MaybeDeclarator} {d : Declared}
      → Meets (specifiers_ask c xs)
      → MayDeclare c (type_of_specifiers c xs) m d
      → Refuses r (asks 6 (is_sized d.type) ∷ [])
      → Breaks c r (a_type_name (t.type_name (t.specifiers at xs) m))
  at_stars : {at : ℕ} {q : Qualified} {stars : List ℕ} {core : t.Core} {ss : t.Suffixes} → Refuses r (stars_ask q stars) → Breaks c r (a_declarator q (t.declarator at stars core ss))
  at_array : {at : ℕ} {e : t.Expression} {ss : t.Suffixes} {q s : Qualified} {x : Term}
      → Suffixed (behind e c) q ss s
      → Typed c e x
      → Refuses r (length_asks c s (constant_in x))
      → Breaks c r (some_suffixes q (t.array_suffix at (t.an_expression e) ss))
  at_open_array : {at : ℕ} {ss : t.Suffixes} {q s : Qualified}
      → Suffixed c q ss s
      → Refuses r (element_asks c s)
      → Breaks c r (some_suffixes q (t.array_suffix at t.no_expression ss))
  at_function : {at : ℕ} {ps : t.Parameters} {ss : t.Suffixes} {q s : Qualified} {ds : List Declared}
      → Suffixed (behind_parameters ps c) q ss s
      → AreParameters (in_new_scope c) 0 ps ds
      → Refuses r (function_asks s (parameters_of ps ds))
      → Breaks c r (some_suffixes q (t.function_suffix at ps ss))
  at_parameter : {n at : ℕ} {xs : t.SpecifierList} {m : t.MaybeDeclarator} {ps : t.Parameters} {d : Declared}
      → Meets (specifiers_ask c xs)
      → MayDeclare (behind_specifiers c xs) (type_of_specifiers c xs) m d
      → Refuses r (parameter_asks (behind_specifiers c xs) n (parameter d))
      → Breaks c r (some_parameters n (t.more_parameters (t.specifiers at xs) m ps))

-- the parts of a node, each in its context; a function's name that is called is no part
pub data Part : Context → Node → Context → Node → Type 0 where
  indexed : {c : Context} {at : ℕ} {a b : t.Expression} → Part c (an_expression (t.index at a b)) c (an_expression a)
  subscript : {c : Context} {at : ℕ} {a b : t.Expression} → Part c (an_expression (t.index at a b)) (behind a c) (an_expression b)
  callee : {c : Context} {at : ℕ} {f : t.Expression} {es : t.Expressions} → is_function_meant (callee_of c.scopes f) ≡ false → Part c (an_expression (t.call at f es)) c (an_expression f)
  arguments : {c : Context} {at : ℕ} {f : t.Expression} {es : t.Expressions} → Part c (an_expression (t.call at f es)) (behind f c) (some_expressions es)
  whole : {c : Context} {at : ℕ} {e : t.Expression} {m : Name} → Part c (an_expression (t.member_of at e m)) c (an_expression e)
  pointer_to_whole : {c : Context} {at : ℕ} {e : t.Expression} {m : Name} → Part c (an_expression (t.arrow_to at e m)) c (an_expression e)
  post_stepped : {c : Context} {at : ℕ} {op : StepOp} {e : t.Expression} → Part c (an_expression (t.post_step at op e)) c (an_expression e)
  pre_stepped : {c : Context} {at : ℕ} {op : StepOp} {e : t.Expression} → Part c (an_expression (t.pre_step at op e)) c (an_expression e)
  operand : {c : Context} {at : ℕ} {op : UnaryOp} {e : t.Expression} → Part c (an_expression (t.unary at op e)) c (an_expression e)
  measured_expression : {c : Context} {at : ℕ} {e : t.Expression} → Part c (an_expression (t.size_of_expression at e)) c (an_expression e)
  measured_type : {c : Context} {at : ℕ} {n : t.TypeName} → Part c (an_expression (t.size_of_type at n)) c (a_type_name n)
  cast_type : {c : Context} {at : ℕ} {n : t.TypeName} {e : t.Expression} → Part c (an_expression (t.cast at n e)) c (a_type_name n)
  cast_operand : {c : Context} {at : ℕ} {n : t.TypeName} {e : t.Expression} → Part c (an_expression (t.cast at n e)) (behind_name n c) (an_expression e)
  left_operand : {c : Context} {at : ℕ} {op : BinaryOp} {a b : t.Expression} → Part c (an_expression (t.binary at op a b)) c (an_expression a)
  right_operand : {c : Context} {at : ℕ} {op : BinaryOp} {a b : t.Expression} → Part c (an_expression (t.binary at op a b)) (behind a c) (an_expression b)
  condition : {c : Context} {at : ℕ} {d a b : t.Expression} → Part c (an_expression (t.conditional at d a b)) c (an_expression d)
  first_arm : {c : Context} {at : ℕ} {d a b : t.Expression} → Part c (an_expression (t.conditional at d a b)) (behind d c) (an_expression a)
  second_arm : {c : Context} {at : ℕ} {d a b : t.Expression} → Part c (an_expression (t.conditional at d a b)) (behind a (behind d c)) (an_expression b)
  left_side : {c : Context} {at : ℕ} {op : AssignOp} {a b : t.Expression} → Part c (an_expression (t.assign at op a b)) c (an_expression a)
  right_side : {c : Context} {at : ℕ} {op : AssignOp} {a b : t.Expression} → Part c (an_expression (t.assign at op a b)) (behind a c) (an_expression b)
  before_comma : {c : Context} {at : ℕ} {a b : t.Expression} → Part c (an_expression (t.comma at a b)) c (an_expression a)
  behind_comma : {c : Context} {at : ℕ} {a b : t.Expression} → Part c (an_expression (t.comma at a b)) (behind a c) (an_expression b)
  first_argument : {c : Context} {e : t.Expression} {es : t.Expressions} → Part c (some_expressions (t.more_expressions e es)) c (an_expression e)
  other_arguments : {c : Context} {e : t.Expression} {es : t.Expressions} → Part c (some_expressions (t.more_expressions e es)) (behind e c) (some_expressions es)
  name_specifiers : {c : Context} {s : t.Specifiers} {m : t.MaybeDeclarator} → Part c (a_type_name (t.type_name s m)) c (some_specifiers s)
  name_declarator : {c : Context} {at : ℕ} {xs : t.SpecifierList} {m : t.MaybeDeclarator} → Meets (specifiers_ask c xs) → Part c (a_type_name (t.type_name (t.specifiers at xs) m)) c (maybe_declarator (type_of_specifiers c xs) m)
  suffixes_part : {c : Context} {at : ℕ} {q : Qualified} {stars : List ℕ} {core : t.Core} {ss : t.Suffixes} → Part c (a_declarator q (t.declarator at stars core ss)) (behind_core core c) (some_suffixes (with_stars q stars) ss)
  -- the middle is a part once the type of what stands round it is there
  core_part : {c : Context} {at : ℕ} {q r : Qualified} {stars : List ℕ} {core : t.Core} {ss : t.Suffixes} → Suffixed (behind_core core c) (with_stars q stars) ss r → Part c (a_declarator q (t.declarator at stars core ss)) c (a_core r core)
  inner_part : {c : Context} {q : Qualified} {e : t.Declarator} → Part c (a_core q (t.inner_core e)) c (a_declarator q e)
  behind_length : {c : Context} {at : ℕ} {q : Qualified} {e : t.Expression} {ss : t.Suffixes} → Part c (some_suffixes q (t.array_suffix at (t.an_expression e) ss)) (behind e c) (some_suffixes q ss)
  behind_no_length : {c : Context} {at : ℕ} {q : Qualified} {ss : t.Suffixes} → Part c (some_suffixes q (t.array_suffix at t.no_expression ss)) c (some_suffixes q ss)
  length_part : {c : Context} {at : ℕ} {q : Qualified} {e : t.Expression} {ss : t.Suffixes} → Part c (some_suffixes q (t.array_suffix at (t.an_expression e) ss)) c (an_expression e)
  behind_function : {c : Context} {at : ℕ} {q : Qualified} {ps : t.Parameters} {ss : t.Suffixes} → Part c (some_suffixes q (t.function_suffix at ps ss)) (behind_parameters ps c) (some_suffixes q ss)
  parameters_part : {c : Context} {at : ℕ} {q : Qualified} {ps : t.Parameters} {ss : t.Suffixes} → Part c (some_suffixes q (t.function_suffix at ps ss)) (in_new_scope c) (some_parameters 0 ps)
  parameter_specifiers : {c : Context} {n : ℕ} {s : t.Specifiers} {m : t.MaybeDeclarator} {ps : t.Parameters} → Part c (some_parameters n (t.more_parameters s m ps)) c (some_specifiers s)
  parameter_declarator : {c : Context} {n at : ℕ} {xs : t.SpecifierList} {m : t.MaybeDeclarator} {ps : t.Parameters}
      → Meets (specifiers_ask c xs)
      → Part c (some_parameters n (t.more_parameters (t.specifiers at xs) m ps)) (behind_specifiers c xs) (maybe_declarator (type_of_specifiers c xs) m)
  parameters_behind : {c : Context} {n at : ℕ} {xs : t.SpecifierList} {m : t.MaybeDeclarator} {ps : t.Parameters} {d : Declared}
      → Meets (specifiers_ask c xs)
      → MayDeclare (behind_specifiers c xs) (type_of_specifiers c xs) m d
      → Part c (some_parameters n (t.more_parameters (t.specifiers at xs) m ps)) (with_parameter n (parameter d) (behind_may m (behind_specifiers c xs))) (some_parameters (n + 1) ps)
  declarator_part : {c : Context} {q : Qualified} {e : t.Declarator} → Part c (maybe_declarator q (t.a_declarator e)) c (a_declarator q e)

-- a node's first token

abbrev pub first_token : t.Expression → ℕ
first_token (t.identifier at x) = at
first_token (t.integer_constant at n) = at
first_token (t.character_constant at n) = at
first_token (t.string_literal at s) = at
first_token (t.index at a b) = at
first_token (t.call at f es) = at
first_token (t.member_of at e m) = at
first_token (t.arrow_to at e m) = at
first_token (t.post_step at op e) = at
first_token (t.pre_step at op e) = at
first_token (t.unary at op e) = at
first_token (t.size_of_expression at e) = at
first_token (t.size_of_type at n) = at
first_token (t.cast at n e) = at
first_token (t.binary at op a b) = at
first_token (t.conditional at d a b) = at
first_token (t.assign at op a b) = at
first_token (t.comma at a b) = at

-- a parameter's declarator; of one without, its specifiers
abbrev pub parameter_token : ℕ → t.MaybeDeclarator → ℕ
parameter_token first t.no_declarator = first
parameter_token first (t.a_declarator (t.declarator at stars core ss)) = at

abbrev pub token_of : Node → ℕ
token_of (an_expression e) = first_token e
token_of (some_specifiers (t.specifiers at xs)) = at
token_of (a_type_name (t.type_name (t.specifiers at xs) m)) = at
token_of (a_declarator q (t.declarator at stars core ss)) = at
token_of (some_suffixes q (t.array_suffix at e ss)) = at
token_of (some_suffixes q (t.function_suffix at ps ss)) = at
token_of (some_parameters n (t.more_parameters (t.specifiers at xs) m ps)) = parameter_token at m
token_of n = 0

-- a node in it whose first token is the k-th breaks the rule r
pub data Broken : Context → Node → ℕ → ℕ → Type 0 where
  here : {c : Context} {n : Node} {r : ℕ} → Breaks c r n → Broken c n r (token_of n)
  within : {c b : Context} {n m : Node} {r k : ℕ} → Part c n b m → Broken b m r k → Broken c n r k
