-- What expressions, type names and declarators are typed to. Each form has one constructor: its parts are typed, all that
-- the rules ask of it is so, and the result is a function of its parts' terms.
use Rattle.std.specs.Prelude.{◌≡◌, ℕ, ◌+◌, pos, true, false, List, [], ◌∷◌}
use Rattle.im_ctree.specs.im_word.Words.{Name}
use Rattle.im_ctree.specs.im_tok.declared.number.Number.{Number}
use Rattle.im_ctree.specs.declared.operator.StepOp.{StepOp}
use Rattle.im_ctree.specs.declared.operator.UnaryOp.{UnaryOp}
use Rattle.im_ctree.specs.declared.operator.BinaryOp.{BinaryOp}
use Rattle.im_ctree.specs.declared.operator.AssignOp.{AssignOp}
use Rattle.im_ctree.specs.Tree as t
use Rattle.im_typed.specs.im_ctype.declared.integer.Integer.TheVariants.{Int}
use Rattle.im_rules.specs.Scopes.{meaning}
use Rattle.im_rules.specs.Context.{Context, in_new_scope, behind, behind_name, behind_core, behind_may, behind_parameters}
use Rattle.im_rules.specs.Terms.{Term, value, value_of, type_in, constant_in}
use Rattle.im_rules.specs.Conversions.{literal, number_type, measured, called, string_term, operation, sum, pointed, unary_term, dotted, arrowed, assigned, stepped, casted, chosen, joined, call_of}
use Rattle.im_rules.specs.Demands.{asks, Meets, name_asks, index_asks, call_asks, dot_asks, arrow_asks, step_asks, unary_asks, size_asks, cast_asks, binary_asks, conditional_asks, assign_asks, callee_of, is_function_meant}
use Rattle.im_rules.specs.Declared.{Qualified, Declared, specifiers_ask, behind_specifiers, type_of_specifiers, with_stars, stars_ask, array_of, open_array_of, element_asks, length_asks, parameter, with_parameter, parameter_asks, parameters_of, function_of, function_asks, is_sized, unnamed, called as named_with}

mutual
  -- expressions (C11 6.5)
  pub data Typed : Context → t.Expression → Term → Type 0 where
    of_identifier : {c : Context} {at : ℕ} {x : Name}
        → Meets (name_asks c x)
        → Typed c (t.identifier at x) (called (meaning c.scopes x))
    of_number : {c : Context} {at : ℕ} {n : Number} → Typed c (t.integer_constant at n) (value (literal (number_type n.number_type) (pos n.value)))
    of_character : {c : Context} {at n : ℕ} → Typed c (t.character_constant at n) (value (literal Int (pos n)))
    of_string : {c : Context} {at : ℕ} {s : Name} → Typed c (t.string_literal at s) (string_term c.next_string s)
    -- `a[b]` is `*(a + b)` (C11 6.5.2.1p2)
    of_index : {c : Context} {at : ℕ} {a b : t.Expression} {x y : Term}
        → Typed c a x
        → Typed (behind a c) b y
        → Meets (index_asks c.known x y)
        → Typed c (t.index at a b) (pointed (sum c.known (value_of c.known x) (value_of c.known y)))
    of_call : {c : Context} {at : ℕ} {f : t.Expression} {es : t.Expressions} {xs : List Term}
        → is_function_meant (callee_of c.scopes f) ≡ true
        → AreTyped (behind f c) es xs
        → Meets (call_asks (callee_of c.scopes f) xs)
        → Typed c (t.call at f es) (value (call_of c.known (callee_of c.scopes f) xs))
    of_member : {c : Context} {at : ℕ} {e : t.Expression} {m : Name} {x : Term}
        → Typed c e x
        → Meets (dot_asks c.known x m)
        → Typed c (t.member_of at e m) (dotted c.known x m)
    of_arrow : {c : Context} {at : ℕ} {e : t.Expression} {m : Name} {x : Term}
        → Typed c e x
        → Meets (arrow_asks c.known x m)
        → Typed c (t.arrow_to at e m) (arrowed c.known (value_of c.known x) m)
    of_post_step : {c : Context} {at : ℕ} {op : StepOp} {e : t.Expression} {x : Term}
        → Typed c e x
        → Meets (step_asks c.known x)
        → Typed c (t.post_step at op e) (value (stepped c.known op true x))
    of_pre_step : {c : Context} {at : ℕ} {op : StepOp} {e : t.Expression} {x : Term}
        → Typed c e x
        → Meets (step_asks c.known x)
        → Typed c (t.pre_step at op e) (value (stepped c.known op false x))
    of_unary : {c : Context} {at : ℕ} {op : UnaryOp} {e : t.Expression} {x : Term}
        → Typed c e x
        → Meets (unary_asks c.known op x)
        → Typed c (t.unary at op e) (unary_term c.known op x)
    -- what `sizeof` measures isn't evaluated, and an array stays one (C11 6.5.3.4p2)
    of_size : {c : Context} {at : ℕ} {e : t.Expression} {x : Term}
        → Typed c e x
        → Meets (size_asks c.known (type_in x))
        → Typed c (t.size_of_expression at e) (value (measured c.known (type_in x)))
    of_type_size : {c : Context} {at : ℕ} {n : t.TypeName} {q : Qualified}
        → Names c n q
        → Meets (size_asks c.known q.type)
        → Typed c (t.size_of_type at n) (value (measured c.known q.type))
    of_cast : {c : Context} {at : ℕ} {n : t.TypeName} {e : t.Expression} {q : Qualified} {x : Term}
        → Names c n q
        → Typed (behind_name n c) e x
        → Meets (cast_asks q.type x)
        → Typed c (t.cast at n e) (value (casted q.type (value_of c.known x)))
    of_binary : {c : Context} {at : ℕ} {op : BinaryOp} {a b : t.Expression} {x y : Term}
        → Typed c a x
        → Typed (behind a c) b y
        → Meets (binary_asks c.known op x y)
        → Typed c (t.binary at op a b) (value (operation c.known op (value_of c.known x) (value_of c.known y)))
    of_conditional : {c : Context} {at : ℕ} {d a b : t.Expression} {w x y : Term}
        → Typed c d w
        → Typed (behind d c) a x
        → Typed (behind a (behind d c)) b y
        → Meets (conditional_asks w x y)
        → Typed c (t.conditional at d a b) (value (chosen c.known (value_of c.known w) (value_of c.known x) (value_of c.known y)))
    of_assign : {c : Context} {at : ℕ} {op : AssignOp} {a b : t.Expression} {x y : Term}
        → Typed c a x
        → Typed (behind a c) b y
        → Meets (assign_asks c.known op x y)
        → Typed c (t.assign at op a b) (value (assigned c.known op x (value_of c.known y)))
    of_comma : {c : Context} {at : ℕ} {a b : t.Expression} {x y : Term}
        → Typed c a x
        → Typed (behind a c) b y
        → Typed c (t.comma at a b) (value (joined (value_of c.known x) (value_of c.known y)))

  -- arguments, in order
  pub data AreTyped : Context → t.Expressions → List Term → Type 0 where
    no_argument : {c : Context} → AreTyped c t.no_expressions []
    an_argument : {c : Context} {e : t.Expression} {es : t.Expressions} {x : Term} {xs : List Term}
        → Typed c e x
        → AreTyped (behind e c) es xs
        → AreTyped c (t.more_expressions e es) (x ∷ xs)

  -- type names (C11 6.7.7)
  pub data Names : Context → t.TypeName → Qualified → Type 0 where
    of_type_name : {c : Context} {at : ℕ} {xs : t.SpecifierList} {m : t.MaybeDeclarator} {d : Declared}
        → Meets (specifiers_ask c xs)
        → MayDeclare c (type_of_specifiers c xs) m d
        → Meets (asks 6 (is_sized d.type) ∷ [])
        → Names c (t.type_name (t.specifiers at xs) m) (record { constant = d.constant; type = d.type })

  -- a declarator, given the type that its specifiers give it (C11 6.7.6)
  pub data Declares : Context → Qualified → t.Declarator → Declared → Type 0 where
    of_declarator : {c : Context} {at : ℕ} {q r : Qualified} {stars : List ℕ} {core : t.Core} {ss : t.Suffixes} {d : Declared}
        → Meets (stars_ask q stars)
        → Suffixed (behind_core core c) (with_stars q stars) ss r
        → DeclaresIn c r core d
        → Declares c q (t.declarator at stars core ss) d

  -- what stands in the middle is declared with the type that stars and suffixes made
  pub data DeclaresIn : Context → Qualified → t.Core → Declared → Type 0 where
    of_nothing : {c : Context} {q : Qualified} → DeclaresIn c q t.absent_core (unnamed q)
    of_name : {c : Context} {q : Qualified} {x : Name} → DeclaresIn c q (t.name_core x) (named_with x q)
    of_inner : {c : Context} {q : Qualified} {e : t.Declarator} {d : Declared} → Declares c q e d → DeclaresIn c q (t.inner_core e) d

  -- suffixes behind a type: the last one is nearest the specifiers (C11 6.7.6.2, 6.7.6.3)
  pub data Suffixed : Context → Qualified → t.Suffixes → Qualified → Type 0 where
    no_suffix : {c : Context} {q : Qualified} → Suffixed c q t.no_suffixes q
    of_array : {c : Context} {q : Qualified} {at : ℕ} {e : t.Expression} {ss : t.Suffixes} {r : Qualified} {x : Term}
        → Suffixed (behind e c) q ss r
        → Typed c e x
        → Meets (length_asks c r (constant_in x))
        → Suffixed c q (t.array_suffix at (t.an_expression e) ss) (array_of r (constant_in x))
    of_open_array : {c : Context} {q : Qualified} {at : ℕ} {ss : t.Suffixes} {r : Qualified}
        → Suffixed c q ss r
        → Meets (element_asks c r)
        → Suffixed c q (t.array_suffix at t.no_expression ss) (open_array_of r)
    -- parameters have a scope of their own
    of_function : {c : Context} {q : Qualified} {at : ℕ} {ps : t.Parameters} {ss : t.Suffixes} {r : Qualified} {ds : List Declared}
        → Suffixed (behind_parameters ps c) q ss r
        → AreParameters (in_new_scope c) 0 ps ds
        → Meets (function_asks r (parameters_of ps ds))
        → Suffixed c q (t.function_suffix at ps ss) (function_of r (parameters_of ps ds))

  -- parameters in order, the first one the n-th; each is in scope behind its declarator (C11 6.2.1p7)
  pub data AreParameters : Context → ℕ → t.Parameters → List Declared → Type 0 where
    no_parameter : {c : Context} {n : ℕ} → AreParameters c n t.no_parameters []
    a_parameter : {c : Context} {n at : ℕ} {xs : t.SpecifierList} {m : t.MaybeDeclarator} {ps : t.Parameters} {d : Declared} {ds : List Declared}
        → Meets (specifiers_ask c xs)
        → MayDeclare (behind_specifiers c xs) (type_of_specifiers c xs) m d
        → Meets (parameter_asks (behind_specifiers c xs) n (parameter d))
        → AreParameters (with_parameter n (parameter d) (behind_may m (behind_specifiers c xs))) (n + 1) ps ds
        → AreParameters c n (t.more_parameters (t.specifiers at xs) m ps) (parameter d ∷ ds)

  pub data MayDeclare : Context → Qualified → t.MaybeDeclarator → Declared → Type 0 where
    of_no_declarator : {c : Context} {q : Qualified} → MayDeclare c q t.no_declarator (unnamed q)
    of_a_declarator : {c : Context} {q : Qualified} {e : t.Declarator} {d : Declared} → Declares c q e d → MayDeclare c q (t.a_declarator e) d
