-- The parts of a node that is typed are typed, and it breaks no rule.
use Rattle.std.proofs.Common.{◌≡◌, inl, inr, ℕ, ◌+◌, [], ◌∷◌, List, ap, subst}
use Rattle.im_ctree.specs.Tree as t
use Rattle.im_rules.specs.Context.{Context, behind_may}
use Rattle.im_rules.specs.Terms.{Term, type_in, constant_in}
use Rattle.im_rules.specs.Demands.{Demand, asks, Meets, Refuses, name_asks, index_asks, call_asks, dot_asks, arrow_asks, step_asks, unary_asks, size_asks, cast_asks, binary_asks, conditional_asks, assign_asks, callee_of}
use Rattle.im_rules.specs.Declared.{Qualified, Declared, specifiers_ask, behind_specifiers, stars_ask, element_asks, length_asks, parameter, with_parameter, parameter_asks, parameters_of, function_asks, is_sized}
use Rattle.im_rules.specs.Typed.{Typed, of_identifier, of_index, of_call, of_member, of_arrow, of_post_step, of_pre_step, of_unary, of_size, of_type_size, of_cast, of_binary, of_conditional, of_assign, of_comma, AreTyped, an_argument, Names, of_type_name, Declares, of_declarator, DeclaresIn, of_inner, Suffixed, of_array, of_open_array, of_function, AreParameters, a_parameter, MayDeclare, of_a_declarator}
use Rattle.im_rules.specs.Breaks.{Node, an_expression, some_expressions, some_specifiers, a_type_name, a_declarator, a_core, some_suffixes, some_parameters, maybe_declarator, Breaks, at_identifier, at_index, at_call, at_callee, at_member, at_arrow, at_post_step, at_pre_step, at_unary, at_size, at_type_size, at_cast, at_binary, at_conditional, at_assign, at_specifiers, at_type_name, at_stars, at_array, at_open_array, at_function, at_parameter, Part, indexed, subscript, callee, arguments, whole, pointer_to_whole, post_stepped, pre_stepped, operand, measured_expression, measured_type, cast_type, cast_operand, left_operand, right_operand, condition, first_arm, second_arm, left_side, right_side, before_comma, behind_comma, first_argument, other_arguments, name_specifiers, name_declarator, suffixes_part, core_part, inner_part, behind_length, behind_no_length, length_part, behind_function, parameters_part, parameter_specifiers, parameter_declarator, parameters_behind, declarator_part, Broken, here, within}
use Rattle.im_rules.proofs.Once.{once, all_once, names_once, suffixed_once, parameters_once, may_once}

-- the node is typed
pub data IsTyped (c : Context) : Node → Type 0 where
  typed_expression : {e : t.Expression} {x : Term} → Typed c e x → IsTyped c (an_expression e)
  typed_expressions : {es : t.Expressions} {xs : List Term} → AreTyped c es xs → IsTyped c (some_expressions es)
  typed_specifiers : {at : ℕ} {xs : t.SpecifierList} → Meets (specifiers_ask c xs) → IsTyped c (some_specifiers (t.specifiers at xs))
  typed_name : {n : t.TypeName} {q : Qualified} → Names c n q → IsTyped c (a_type_name n)
  typed_declarator : {q : Qualified} {e : t.Declarator} {d : Declared} → Declares c q e d → IsTyped c (a_declarator q e)
  typed_core : {q : Qualified} {e : t.Core} {d : Declared} → DeclaresIn c q e d → IsTyped c (a_core q e)
  typed_suffixes : {q r : Qualified} {ss : t.Suffixes} → Suffixed c q ss r → IsTyped c (some_suffixes q ss)
  typed_parameters : {n : ℕ} {ps : t.Parameters} {ds : List Declared} → AreParameters c n ps ds → IsTyped c (some_parameters n ps)
  typed_maybe : {q : Qualified} {m : t.MaybeDeclarator} {d : Declared} → MayDeclare c q m d → IsTyped c (maybe_declarator q m)

ap2 : {A B C : Type 0} (f : A → B → C) {a a' : A} {b b' : B} → a ≡ a' → b ≡ b' → f a b ≡ f a' b'
ap2 f p q = cc

ap3 : {A B C D : Type 0} (f : A → B → C → D) {a a' : A} {b b' : B} {c c' : C} → a ≡ a' → b ≡ b' → c ≡ c' → f a b c ≡ f a' b' c'
ap3 f p q r = cc

-- what is met isn't refused
pub not_refused : (r : ℕ) (ds : List Demand) → Meets ds → Refuses r ds → ⊥
not_refused r [] m q = q
not_refused r (d ∷ ds) m (inl q) = cc
not_refused r (d ∷ ds) m (inr q) = not_refused r ds m.1 q

pub clash : (r : ℕ) (ds es : List Demand) → ds ≡ es → Meets ds → Refuses r es → ⊥
clash r ds es p m q = not_refused r es (subst Meets p m) q

pub part_typed : {c b : Context} {n m : Node} → Part c n b m → IsTyped c n → IsTyped b m
part_typed indexed (typed_expression (of_index a b m)) = typed_expression a
part_typed subscript (typed_expression (of_index a b m)) = typed_expression b
part_typed (callee f) (typed_expression (of_call g es m)) = absurd (cc)
part_typed arguments (typed_expression (of_call g es m)) = typed_expressions es
part_typed whole (typed_expression (of_member a m)) = typed_expression a
part_typed pointer_to_whole (typed_expression (of_arrow a m)) = typed_expression a
part_typed post_stepped (typed_expression (of_post_step a m)) = typed_expression a
part_typed pre_stepped (typed_expression (of_pre_step a m)) = typed_expression a
part_typed operand (typed_expression (of_unary a m)) = typed_expression a
part_typed measured_expression (typed_expression (of_size a m)) = typed_expression a
part_typed measured_type (typed_expression (of_type_size n m)) = typed_name n
part_typed cast_type (typed_expression (of_cast n a m)) = typed_name n
part_typed cast_operand (typed_expression (of_cast n a m)) = typed_expression a
part_typed left_operand (typed_expression (of_binary a b m)) = typed_expression a
part_typed right_operand (typed_expression (of_binary a b m)) = typed_expression b
part_typed condition (typed_expression (of_conditional d a b m)) = typed_expression d
part_typed first_arm (typed_expression (of_conditional d a b m)) = typed_expression a
part_typed second_arm (typed_expression (of_conditional d a b m)) = typed_expression b
part_typed left_side (typed_expression (of_assign a b m)) = typed_expression a
part_typed right_side (typed_expression (of_assign a b m)) = typed_expression b
part_typed before_comma (typed_expression (of_comma a b)) = typed_expression a
part_typed behind_comma (typed_expression (of_comma a b)) = typed_expression b
part_typed first_argument (typed_expressions (an_argument a es)) = typed_expression a
part_typed other_arguments (typed_expressions (an_argument a es)) = typed_expressions es
part_typed name_specifiers (typed_name (of_type_name m d k)) = typed_specifiers m
part_typed (name_declarator m') (typed_name (of_type_name m d k)) = typed_maybe d
part_typed suffixes_part (typed_declarator (of_declarator m s k)) = typed_suffixes s
part_typed {c = c} (core_part {core = core} s) (typed_declarator (of_declarator {d = d} m s' k)) =
    typed_core (subst (λ r. DeclaresIn c r core d) (suffixed_once s' s) k)
part_typed inner_part (typed_core (of_inner d)) = typed_declarator d
part_typed behind_length (typed_suffixes (of_array s h m)) = typed_suffixes s
part_typed behind_no_length (typed_suffixes (of_open_array s m)) = typed_suffixes s
part_typed length_part (typed_suffixes (of_array s h m)) = typed_expression h
part_typed behind_function (typed_suffixes (of_function s ps m)) = typed_suffixes s
part_typed parameters_part (typed_suffixes (of_function s ps m)) = typed_parameters ps
part_typed parameter_specifiers (typed_parameters (a_parameter m d k b)) = typed_specifiers m
part_typed (parameter_declarator m') (typed_parameters (a_parameter m d k b)) = typed_maybe d
part_typed {c = c} (parameters_behind {n = n} {xs = xs} {m = w} {ps = ps} m' d') (typed_parameters (a_parameter {ds = ds} m d k b)) =
    typed_parameters (subst (λ x. AreParameters (with_parameter n (parameter x) (behind_may w (behind_specifiers c xs))) (n + 1) ps ds) (may_once d d') b)
part_typed declarator_part (typed_maybe (of_a_declarator d)) = typed_declarator d

pub breaks_none : {c : Context} {r : ℕ} {n : Node} → Breaks c r n → IsTyped c n → ⊥
breaks_none {c = c} {r = r} (at_identifier {x = x} f) (typed_expression (of_identifier m)) = not_refused r (name_asks c x) m f
breaks_none {c = c} {r = r} (at_index a b f) (typed_expression (of_index a' b' m)) = clash r _ _ (ap2 (index_asks c.known) (once a' a) (once b' b)) m f
breaks_none {c = c} {r = r} (at_call {f = g} k es f) (typed_expression (of_call k' es' m)) = clash r _ _ (ap (call_asks (callee_of c.scopes g)) (all_once es' es)) m f
breaks_none (at_callee k a es f) (typed_expression (of_call k' es' m)) = cc
breaks_none {c = c} {r = r} (at_member {m = x} a f) (typed_expression (of_member a' m)) = clash r _ _ (ap (λ y. dot_asks c.known y x) (once a' a)) m f
breaks_none {c = c} {r = r} (at_arrow {m = x} a f) (typed_expression (of_arrow a' m)) = clash r _ _ (ap (λ y. arrow_asks c.known y x) (once a' a)) m f
breaks_none {c = c} {r = r} (at_post_step a f) (typed_expression (of_post_step a' m)) = clash r _ _ (ap (step_asks c.known) (once a' a)) m f
breaks_none {c = c} {r = r} (at_pre_step a f) (typed_expression (of_pre_step a' m)) = clash r _ _ (ap (step_asks c.known) (once a' a)) m f
breaks_none {c = c} {r = r} (at_unary {op = op} a f) (typed_expression (of_unary a' m)) = clash r _ _ (ap (unary_asks c.known op) (once a' a)) m f
breaks_none {c = c} {r = r} (at_size a f) (typed_expression (of_size a' m)) = clash r _ _ (ap (λ y. size_asks c.known (type_in y)) (once a' a)) m f
breaks_none {c = c} {r = r} (at_type_size n f) (typed_expression (of_type_size n' m)) = clash r _ _ (ap (λ (q : Qualified). size_asks c.known q.type) (names_once n' n)) m f
breaks_none {r = r} (at_cast n a f) (typed_expression (of_cast n' a' m)) = clash r _ _ (ap2 (λ (q : Qualified) y. cast_asks q.type y) (names_once n' n) (once a' a)) m f
breaks_none {c = c} {r = r} (at_binary {op = op} a b f) (typed_expression (of_binary a' b' m)) = clash r _ _ (ap2 (binary_asks c.known op) (once a' a) (once b' b)) m f
breaks_none {r = r} (at_conditional d a b f) (typed_expression (of_conditional d' a' b' m)) = clash r _ _ (ap3 conditional_asks (once d' d) (once a' a) (once b' b)) m f
breaks_none {c = c} {r = r} (at_assign {op = op} a b f) (typed_expression (of_assign a' b' m)) = clash r _ _ (ap2 (assign_asks c.known op) (once a' a) (once b' b)) m f
breaks_none {c = c} {r = r} (at_specifiers {xs = xs} f) (typed_specifiers m) = not_refused r (specifiers_ask c xs) m f
breaks_none {r = r} (at_type_name s d f) (typed_name (of_type_name s' d' m)) = clash r _ _ (ap (λ (y : Declared). asks 6 (is_sized y.type) ∷ []) (may_once d' d)) m f
breaks_none {r = r} (at_stars {q = q} {stars = stars} f) (typed_declarator (of_declarator m s k)) = not_refused r (stars_ask q stars) m f
breaks_none {c = c} {r = r} (at_array s h f) (typed_suffixes (of_array s' h' m)) = clash r _ _ (ap2 (λ q x. length_asks c q (constant_in x)) (suffixed_once s' s) (once h' h)) m f
breaks_none {c = c} {r = r} (at_open_array s f) (typed_suffixes (of_open_array s' m)) = clash r _ _ (ap (element_asks c) (suffixed_once s' s)) m f
breaks_none {r = r} (at_function {ps = ps} s k f) (typed_suffixes (of_function s' k' m)) = clash r _ _ (ap2 (λ q ds. function_asks q (parameters_of ps ds)) (suffixed_once s' s) (parameters_once k' k)) m f
breaks_none {c = c} {r = r} (at_parameter {n = n} {xs = xs} m' d' f) (typed_parameters (a_parameter m d k b)) =
    clash r _ _ (ap (λ x. parameter_asks (behind_specifiers c xs) n (parameter x)) (may_once d d')) k f

pub typed_breaks_none : {c : Context} {n : Node} {r k : ℕ} → Broken c n r k → IsTyped c n → ⊥
typed_breaks_none (here b) d = breaks_none b d
typed_breaks_none (within p b) d = typed_breaks_none b (part_typed p d)
