-- The first fault of what is asked of a unit is one by the relations.
use Rattle.std.proofs.Common.{◌≡◌, ◌⊎◌, inl, inr, ℕ, ℤ, ◌+ℤ◌, pos, Bool, true, false, not, ◌&&◌, ◌||◌, List, [], ◌∷◌, Option, Some, None, length, refl, subst}
use Rattle.std.specs.Prelude.{if◌then◌else◌}
use Rattle.im_rules.specs.im_ctree.Tree as t
use Rattle.im_rules.specs.im_word.Words.{Name}
use Rattle.im_rules.specs.im_ctype.Types.{CType, is_complete, is_function}
use Rattle.im_rules.specs.im_typed.Program.{Prog}
use Rattle.im_rules.specs.Scopes.{Entity, an_object, a_function, a_typedef, Storage, static_object}
use Rattle.im_rules.specs.Rules.{named_in, is_typedef}
use Rattle.im_rules.specs.Strings.{strings_of_declarator}
use Rattle.im_rules.specs.Outline.{is_initialised, place_in}
use Rattle.im_rules.specs.Context.{in_new_scope}
use Rattle.im_rules.specs.Declared.{Qualified}
use Rattle.im_rules.specs.Demands.{Meets}
use Rattle.im_rules.specs.Typed.{Declares}
use Rattle.im_rules.specs.Initialisers.{Item, strings_given}
use Rattle.im_rules.specs.Statements.{name_of as name_in}
use Rattle.im_rules.specs.FileScope.{FilePlace, past_strings, file_start, file_asks, is_object_entity, callee_named, of_the_file, of_members, Level, with_list_begun, number_in}
use Rattle.im_rules.specs.TypedUnit.{TypedUnit}
use Rattle.im_rules.specs.UnitBreaks.{FileNode, some_externals, an_external, some_declared, file_specifiers, some_named, some_members, some_fields, some_enumerators, FileBreaks, at_words, at_name, at_struct, at_enum, at_enumerator, at_field, at_declarator, HeadBreaks, at_head, at_function, RefusedItem, this_item, other_item, external_token, file_token, first_external, other_externals, declaration_specifiers, declared_part, function_specifiers, named_part, struct_members, enum_constants, other_enumerators, member_specifiers, member_fields, other_members, other_fields, other_declared, enumerator_value, field_declarator, file_declarator, function_declarator, FileBroken, here_in_file, at_its_head, within_file, in_file_inner, in_static_initialiser, in_static_values, in_body, UnitBroken, in_externals, at_unit}
use Rattle.im_rules_asked.specs.Asked.{Fault}
use Rattle.im_rules_asked.specs.Expressions.{declared}
use Rattle.im_rules_asked.specs.Initialisers.{items}
use Rattle.im_rules_asked.specs.Units.{number_of, number_asked, past_enumerator, enumerators_asked, fields_asked, fields_of, specify, named_asked, members_asked, specifiers_asked, constants_asked, first_values_asked, static_type, past_static, past_given, declarations_asked, own as own_of, start_of_body, external, external_asked, externals_asked, unit, unit_asked, first_fault_of}
use Rattle.im_rules_asked.proofs.Right.{so, own, of_same, to_same}
use Rattle.im_rules_asked.proofs.Built.{built_declarator, built_parameters}
use Rattle.im_rules_asked.proofs.BuiltBodies.{built_items}
use Rattle.im_rules_asked.proofs.BuiltUnits.{built_number, built_fields, built_members, built_specify, built_external, built_externals, built_unit}
use Rattle.im_rules_asked.proofs.FirstFaults.{without_fault}
use Rattle.im_rules_asked.proofs.OwnParameters.{own_right}
use Rattle.im_rules_asked.proofs.WholePlaces.{Whole, specify_whole, external_whole, body_whole}
use Rattle.im_rules_asked.proofs.Foremost.{Foremost, foremost, no_foremost, none_asked, none_sized, of_leaf, of_one, of_then, of_both, of_each, of_first, of_row}
use Rattle.im_rules_asked.proofs.BrokenExpressions.{broken_expression, broken_declarator}
use Rattle.im_rules_asked.proofs.BrokenBodies.{broken_given, broken_row}

-- a node breaks the rule itself
file_at : {f : FilePlace} {n : FileNode} {r k : ℕ} → file_token n ≡ k → FileBreaks f r n → FileBroken f n r k
file_at {f = f} {n = n} {r = r} p b = subst (λ z. FileBroken f n r z) p (here_in_file b)

head_at : {f : FilePlace} {x : t.External} {r k : ℕ} → external_token x ≡ k → HeadBreaks f r x → FileBroken f (an_external x) r k
head_at {f = f} {x = x} {r = r} p b = subst (λ z. FileBroken f (an_external x) r z) p (at_its_head b)

-- enumeration constants

broken_number : (f : FilePlace) (next : ℤ) (at : ℕ) (x : Name) (e : t.MaybeExpression) (es : t.Enumerators) {r k : ℕ}
    → Foremost r k (number_asked f.context e) → FileBroken f (some_enumerators next (t.more_enumerators at x e es)) r k
broken_number f next at x t.no_expression es h = none_asked h
broken_number f next at x (t.an_expression e) es h = in_file_inner enumerator_value (broken_expression f.context e h)

broken_enumerators : (f : FilePlace) (next : ℤ) (es : t.Enumerators) {r k : ℕ} → Foremost r k (enumerators_asked f next es)
    → FileBroken f (some_enumerators next es) r k
broken_enumerators f next t.no_enumerators h = none_asked h
broken_enumerators f next (t.more_enumerators at x e es) h =
    of_first h (λ y. broken_number f next at x e es y)
    (λ p z. of_both z (λ y. let l = of_leaf y in file_at l.0 (at_enumerator (built_number f.context next e p) l.1))
    (λ m y. within_file (other_enumerators (built_number f.context next e p))
    (broken_enumerators (past_enumerator f next x e) (number_in (number_of f.context next e) +ℤ pos 1) es y)))

-- members

broken_fields : (q : Qualified) (f : FilePlace) (ds : t.Declarators) {r k : ℕ} → Foremost r k (fields_asked q f ds)
    → FileBroken f (some_fields q ds) r k
broken_fields q f t.no_declarators h = none_asked h
broken_fields q f (t.more_declarators d ds) h =
    of_both h (λ y. of_one y (λ p x m. file_at p (at_field (built_declarator f.context q d x) m))
    (λ x. in_file_inner field_declarator (broken_declarator f.context q d x)))
    (λ p x. within_file other_fields (broken_fields q (past_strings (strings_of_declarator d) f) ds x))

mutual
  broken_named : (f : FilePlace) (first : ℕ) (xs : t.SpecifierList) {r k : ℕ} → Foremost r k (named_asked f first xs)
      → FileBroken f (some_named first (named_in xs)) r k
  broken_named f first t.no_specifiers h = none_asked h
  broken_named f first (t.more_specifiers (t.word_specifier at x) xs) h = broken_named f first xs h
  broken_named f first (t.more_specifiers (t.typedef_specifier at x) xs) h = let l = of_leaf h in file_at l.0 (at_name refl l.1)
  broken_named f first (t.more_specifiers (t.struct_tag at x) xs) h = let l = of_leaf h in file_at l.0 (at_name refl l.1)
  broken_named f first (t.more_specifiers (t.enum_tag at x) xs) h = let l = of_leaf h in file_at l.0 (at_name refl l.1)
  broken_named f first (t.more_specifiers (t.struct_specifier at x ms) xs) h =
      of_then h (λ p a b m. file_at p (at_struct (built_members (with_list_begun at x f) ms a) m))
      (λ y. within_file struct_members (broken_members (with_list_begun at x f) ms y)) (λ p y. none_sized y)
  broken_named f first (t.more_specifiers (t.enum_specifier at x es) xs) h =
      of_both h (λ y. let l = of_leaf y in file_at l.0 (at_enum {ss = named_in xs} l.1))
      (λ p y. within_file enum_constants (broken_enumerators f (pos 0) es y))

  broken_members : (f : FilePlace) (ms : t.Members) {r k : ℕ} → Foremost r k (members_asked f ms) → FileBroken f (some_members ms) r k
  broken_members f t.no_members h = none_asked h
  broken_members f (t.more_members (t.specifiers at xs) ds ms) h =
      of_row h
      (λ y. within_file member_specifiers (of_first y
      (λ x. let l = of_leaf x in file_at l.0 (at_words {l = of_members} l.1))
      (λ p x. within_file (named_part {l = of_members} (own p)) (broken_named f at xs x))))
      (λ s x. within_file (member_fields (built_specify of_members f at xs s)) (broken_fields (specify f xs).type (specify f xs).place ds x))
      (λ s d x. within_file (other_members (built_specify of_members f at xs s) (built_fields (specify f xs).type (specify f xs).place ds d))
      (broken_members (fields_of (specify f xs) ds).place ms x))

broken_specifiers : (l : Level) (f : FilePlace) (at : ℕ) (xs : t.SpecifierList) {r k : ℕ} → Foremost r k (specifiers_asked l f at xs)
    → FileBroken f (file_specifiers l (t.specifiers at xs)) r k
broken_specifiers l f at xs h =
    of_first h (λ x. let p = of_leaf x in file_at p.0 (at_words {l = l} p.1))
    (λ p x. within_file (named_part {l = l} (own p)) (broken_named f at xs x))

-- declarators at file scope

-- an object that has an initialiser is complete; what else has one is a function
fit_of : (d g w : Bool) (x y : Entity) (c : Bool) (a : CType) (o : Storage)
    → not (d && true) ≡ true
    → (not (is_object_entity (if d then x else if g then y else an_object c a o)) || w) ≡ true
    → (w || g) ≡ true
fit_of true g w x y c a o p q = absurd (cc)
fit_of false true true x y c a o p q = refl
fit_of false true false x y c a o p q = refl
fit_of false false true x y c a o p q = refl
fit_of false false false x y c a o p q = absurd (cc)

refused_item : (f : FilePlace) (ps : List Item) {r k : ℕ} → Foremost r k (constants_asked f ps) → RefusedItem f r k ps
refused_item f [] h = none_asked h
refused_item f (p ∷ ps) {r = r} h =
    of_both h (λ x. let l = of_leaf x in subst (λ z. RefusedItem f r z (p ∷ ps)) l.0 (this_item l.1))
    (λ m x. other_item (refused_item f ps x))

broken_first : (xs : t.SpecifierList) (q : Qualified) (f : FilePlace) (d : t.Declarator) (i : t.MaybeInitializer) (ds : t.InitDeclarators) {r k : ℕ}
    → Whole f
    → Declares f.context q d (declared f.context q d)
    → Meets (file_asks f xs (declared f.context q d) (static_type q f d i) (is_initialised i))
    → Foremost r k (first_values_asked (past_static xs q f d i) (static_type q f d i) i)
    → FileBroken f (some_declared xs q (t.more_init_declarators d i ds)) r k
broken_first xs q f d t.no_initializer ds w p m h = none_asked h
broken_first xs q f d (t.an_initializer i) ds w p m h =
    let y = declared f.context q d in
    let a = static_type q f d (t.an_initializer i) in
    let g = past_static xs q f d (t.an_initializer i) in
    let u = f.context.unit in
    let fit = fit_of (is_typedef xs) (is_function a) (is_complete (length f.context.known) a) (a_typedef y.constant a)
    (a_function (callee_named u (name_in y.name)) y.constant a) y.constant a
    (static_object (place_in (name_in y.name) u.statics)) m.0 m.1.1.1.1.0 in
    of_first h (λ x. in_static_initialiser p (broken_given g.context a 0 i w fit x))
    (λ r x. in_static_values p (built_items g.context a 0 i r)
    (refused_item (past_strings (strings_given g.context.known a i) g) (items g.context a 0 i) x))

broken_declarations : (xs : t.SpecifierList) (q : Qualified) (f : FilePlace) (ds : t.InitDeclarators) {r k : ℕ} → Whole f
    → Foremost r k (declarations_asked xs q f ds) → FileBroken f (some_declared xs q ds) r k
broken_declarations xs q f t.no_init_declarators w h = none_asked h
broken_declarations xs q f (t.more_init_declarators d i ds) w h =
    of_first h (λ x. in_file_inner file_declarator (broken_declarator f.context q d x))
    (λ p y. of_both y (λ x. none_sized x)
    (λ e z. of_each z (λ x. let l = of_leaf x in file_at l.0 (at_declarator (built_declarator f.context q d p) l.1))
    (λ m x. broken_first xs q f d i ds w (built_declarator f.context q d p) (own m) x)
    (λ m n x. within_file (other_declared (built_declarator f.context q d p)) (broken_declarations xs q (past_given xs q f d i) ds w x))))

-- external declarations

broken_external : (f : FilePlace) (x : t.External) {r k : ℕ} → Whole f → Foremost r k (external_asked f x) → FileBroken f (an_external x) r k
broken_external f (t.external_declaration (t.declaration (t.specifiers at xs) ds)) w h =
    of_first h (λ x. within_file declaration_specifiers (broken_specifiers of_the_file f at xs x))
    (λ p x. let s = built_specify of_the_file f at xs p in
    within_file (declared_part s) (broken_declarations xs (specify f xs).type (specify f xs).place ds (specify_whole s w) x))
broken_external f (t.function_definition (t.specifiers at xs) d (t.block at' is)) w h =
    of_first h (λ x. within_file function_specifiers (broken_specifiers of_the_file f at xs x))
    (λ p y. let s = built_specify of_the_file f at xs p in of_first y
    (λ x. in_file_inner (function_declarator s) (broken_declarator (specify f xs).place.context (specify f xs).type d x))
    (λ q z. let e = built_declarator (specify f xs).place.context (specify f xs).type d q in of_each z
    (λ x. let l = of_leaf x in head_at l.0 (at_head s e l.1))
    (λ m x. let l = of_leaf x in head_at l.0 (at_function s e l.1))
    (λ m n v. of_first v (λ x. absurd (no_foremost (of_same (own_right e)) x))
    (λ o x. in_body s e
    (built_parameters (in_new_scope (specify f xs).place.context) 0 (own_of d) (to_same o))
    (broken_row (start_of_body xs (specify f xs).place d (declared (specify f xs).place.context (specify f xs).type d)) is
    (body_whole xs (specify f xs).place d (declared (specify f xs).place.context (specify f xs).type d) (specify_whole s w)) x)))))

broken_externals : (f : FilePlace) (u : t.Tree) {r k : ℕ} → Whole f → Foremost r k (externals_asked f u) → FileBroken f (some_externals u) r k
broken_externals f t.no_externals w h = none_asked h
broken_externals f (t.more_externals x xs) w h =
    of_first h (λ y. within_file first_external (broken_external f x w y))
    (λ p y. let e = built_external f x p in
    within_file (other_externals e) (broken_externals (external f x).place xs (external_whole e w) y))

broken_unit : (u : t.Tree) {r k : ℕ} → Foremost r k (unit_asked u) → UnitBroken u r k
broken_unit u {r = r} h =
    of_one h (λ p x q. subst (λ z. UnitBroken u r z) p (at_unit (built_externals (file_start u) u x) q))
    (λ x. in_externals (broken_externals (file_start u) u (λ n. tt) x))

pub first_is_broken : (u : t.Tree) (f : Fault) → first_fault_of u ≡ Some f → UnitBroken u f.rule f.token
first_is_broken u f p = broken_unit u (foremost (unit_asked u) f p)

-- so a unit is typed, or has a node that breaks a rule
typed_or : (u : t.Tree) (o : Option Fault) → first_fault_of u ≡ o
    → ((g : Prog) × TypedUnit u g) ⊎ ((rule : ℕ) × (token : ℕ) × UnitBroken u rule token)
typed_or u None p = inl (unit u, built_unit u (so (without_fault (unit_asked u) p)))
typed_or u (Some f) p = inr (f.rule, f.token, first_is_broken u f p)

pub typed_or_broken : (u : t.Tree) → ((g : Prog) × TypedUnit u g) ⊎ ((rule : ℕ) × (token : ℕ) × UnitBroken u rule token)
typed_or_broken u = typed_or u (first_fault_of u) refl
