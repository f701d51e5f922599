-- A node of a unit that the relations call broken has that fault.
use Rattle.std.proofs.Common.{◌≡◌, ℕ, ℤ, ◌+ℤ◌, List, [], ◌∷◌, Option, refl, sym, subst, true, false, pos}
use Rattle.im_rules.specs.im_ctree.Tree as t
use Rattle.im_rules.specs.im_ctype.Types.{Member}
use Rattle.im_rules.specs.TypeTests.{result_of}
use Rattle.im_rules.specs.Rules.{named_in}
use Rattle.im_rules.specs.Strings.{strings_maybe}
use Rattle.im_rules.specs.Outline.{nearest, is_initialised}
use Rattle.im_rules.specs.Context.{Context, in_new_scope}
use Rattle.im_rules.specs.Declared.{Qualified, Declared, specified_asks, parameters_of as given_parameters}
use Rattle.im_rules.specs.Demands.{Refuses}
use Rattle.im_rules.specs.Typed.{Declares, AreParameters}
use Rattle.im_rules.specs.Breaks.{Node}
use Rattle.im_rules.specs.Initialisers.{Item, completed, strings_given}
use Rattle.im_rules.specs.FileScope.{FilePlace, past_strings, file_start, own_parameters, of_members, of_the_file, file_asks, body_asks, struct_asks, member_asks, enum_asks, number_in, enumerator_asks, with_enumerator, with_list_begun, main_asks}
use Rattle.im_rules.specs.TypedUnit.{Specify, AreFields, given_strings, past_declarator, body_site, past_head}
use Rattle.im_rules.specs.UnitBreaks.{FileNode, some_externals, an_external, some_declared, file_specifiers, some_named, some_members, some_fields, some_enumerators, begins_with_list, FileBreaks, at_words, at_name, at_struct, at_enum, at_enumerator, at_field, at_declarator, HeadBreaks, at_head, at_function, RefusedItem, this_item, other_item, external_token, file_token, FilePart, first_external, other_externals, declaration_specifiers, declared_part, function_specifiers, named_part, struct_members, enum_constants, other_enumerators, member_specifiers, member_fields, other_members, other_fields, other_declared, FileInner, enumerator_value, field_declarator, file_declarator, function_declarator, FileBroken, here_in_file, at_its_head, within_file, in_file_inner, in_static_initialiser, in_static_values, in_body, UnitBroken, in_externals, at_unit}
use Rattle.im_rules.proofs.BodiesOnce.{initialised_once}
use Rattle.im_rules.proofs.UnitOnce.{specify_once, members_once, fields_once, external_once, externals_once}
use Rattle.im_rules_asked.specs.Asked.{Asked, node, sized, both, first_then, only, leaf, nothing_asked, HasFault}
use Rattle.im_rules_asked.specs.Expressions.{parameters}
use Rattle.im_rules_asked.specs.Statements.{row_asked}
use Rattle.im_rules_asked.specs.Units.{enumerators_asked, fields_asked, members, fields_counted, specify, named_asked, members_asked, specifiers_asked, constants_asked, first_values_asked, declarations_asked, own as own_of, definition_asked, external_asked, externals_asked, unit_asked}
use Rattle.im_rules_asked.proofs.Right.{of_node, of_none, of_one, of_first, of_sizes, of_same}
use Rattle.im_rules_asked.proofs.Terms.{declared_of, parameters_of}
use Rattle.im_rules_asked.proofs.Rightness.{declarator_rightly, parameters_rightly}
use Rattle.im_rules_asked.proofs.BuiltBodies.{built_items}
use Rattle.im_rules_asked.proofs.BuiltUnits.{built_fields, built_members, built_specify, built_external, built_externals}
use Rattle.im_rules_asked.proofs.RightBodies.{items_right}
use Rattle.im_rules_asked.proofs.RightUnits.{number_right, number_same, fields_right, members_right, specify_right, external_right, externals_right}
use Rattle.im_rules_asked.proofs.Faults.{Finding, a_fault, Found, of_faulty, here_faulty, in_parts, last_beside, rest_behind, last_behind, in_one, in_first, in_second, in_first_of_three, in_second_of_three, in_earlier, in_later, refused_1}
use Rattle.im_rules_asked.proofs.FaultyExpressions.{node_asked, expression_faulty}
use Rattle.im_rules_asked.proofs.FaultyBodies.{given_faulty, body_faulty}

-- what is asked of the structs, enums and typedef names among specifiers
abbrev pub names_asked : FilePlace → ℕ → List t.Specifier → Asked
names_asked f first [] = nothing_asked
names_asked f first (t.word_specifier at x ∷ ss) = nothing_asked
names_asked f first (t.typedef_specifier at x ∷ ss) =
    leaf first (specified_asks f.context (t.typedef_specifier at x ∷ []))
names_asked f first (t.struct_tag at x ∷ ss) =
    leaf first (specified_asks f.context (t.struct_tag at x ∷ []))
names_asked f first (t.enum_tag at x ∷ ss) =
    leaf first (specified_asks f.context (t.enum_tag at x ∷ []))
names_asked f first (t.struct_specifier at x ms ∷ ss) =
    node at (struct_asks f x (members (with_list_begun at x f) ms).members)
    (first_then (members_asked (with_list_begun at x f) ms)
    (sized (fields_counted (members (with_list_begun at x f) ms))))
names_asked f first (t.enum_specifier at x es ∷ ss) =
    only (both (leaf at (enum_asks f.context.scopes x)) (enumerators_asked f (pos 0) es))

names_same : (f : FilePlace) (first : ℕ) (xs : t.SpecifierList)
    → names_asked f first (named_in xs) ≡ named_asked f first xs
names_same f first t.no_specifiers = refl
names_same f first (t.more_specifiers (t.word_specifier at x) xs) = names_same f first xs
names_same f first (t.more_specifiers (t.typedef_specifier at x) xs) = refl
names_same f first (t.more_specifiers (t.struct_tag at x) xs) = refl
names_same f first (t.more_specifiers (t.enum_tag at x) xs) = refl
names_same f first (t.more_specifiers (t.struct_specifier at x ms) xs) = refl
names_same f first (t.more_specifiers (t.enum_specifier at x es) xs) = refl

-- what is asked of a node at file scope
abbrev pub file_asked : FilePlace → FileNode → Asked
file_asked f (some_externals u) = externals_asked f u
file_asked f (an_external x) = external_asked f x
file_asked f (some_declared xs q ds) = declarations_asked xs q f ds
file_asked f (file_specifiers l (t.specifiers at xs)) = specifiers_asked l f at xs
file_asked f (some_named first ss) = names_asked f first ss
file_asked f (some_members ms) = members_asked f ms
file_asked f (some_fields q ds) = fields_asked q f ds
file_asked f (some_enumerators next es) = enumerators_asked f next es

-- the rule refuses the node itself

name_faulty : (f : FilePlace) {r : ℕ} (first : ℕ) (ss : List t.Specifier)
    → begins_with_list ss ≡ false → Refuses r (specified_asks f.context ss)
    → Found (a_fault r (file_token (some_named first ss))) (names_asked f first ss)
name_faulty f first [] p q = absurd q
name_faulty f first (t.word_specifier at x ∷ ss) p q = absurd q
name_faulty f first (t.typedef_specifier at x ∷ ss) p q = here_faulty of_none q
name_faulty f first (t.struct_tag at x ∷ ss) p q = here_faulty of_none q
name_faulty f first (t.enum_tag at x ∷ ss) p q = here_faulty of_none q
name_faulty f first (t.struct_specifier at x ms ∷ ss) p q = absurd (cc)
name_faulty f first (t.enum_specifier at x es ∷ ss) p q = absurd (cc)

file_here : {f : FilePlace} {r : ℕ} {n : FileNode} → FileBreaks f r n
    → Found (a_fault r (file_token n)) (file_asked f n)
file_here (at_words q) = in_earlier (here_faulty of_none q)
file_here {f = f} (at_name {at = at} {ss = ss} p q) = name_faulty f at ss p q
file_here {f = f} {r = r} (at_struct {at = at} {x = x} {ms = ms} b q) =
    let h = members_right (with_list_begun at x f) ms b in
    here_faulty (of_first h of_sizes) (refused_1 {A = List Member} r (λ ys. struct_asks f x ys)
    (sym (members_once b (built_members (with_list_begun at x f) ms h)).0) q)
file_here (at_enum q) = in_first (here_faulty of_none q)
file_here {f = f} {r = r} (at_enumerator {x = x} n q) =
    in_later (number_right n) (in_first (here_faulty of_none
    (refused_1 {A = Option ℤ} r (λ z. enumerator_asks f.context.scopes x z)
    (sym (number_same n)) q)))
file_here {f = f} {r = r} (at_field dd q) =
    in_first (here_faulty (of_one (declarator_rightly dd))
    (refused_1 {A = Declared} r (λ y. member_asks f.context.known y) (declared_of dd) q))
file_here {f = f} {r = r} (at_declarator {xs = xs} {i = i} dd q) =
    in_later (declarator_rightly dd)
    (in_second (in_first_of_three (here_faulty of_none (refused_1 {A = Declared} r
    (λ y. file_asks f xs y (completed y.type i) (is_initialised i)) (declared_of dd) q))))

-- behind specifiers that name a type

declared_found : {f g : FilePlace} {xs : t.SpecifierList} {q : Qualified} {w : Finding} (at : ℕ)
    (ds : t.InitDeclarators)
    → Specify of_the_file f xs q g
    → Found w (declarations_asked xs q g ds)
    → Found w (external_asked f (t.external_declaration (t.declaration (t.specifiers at xs) ds)))
declared_found {f = f} {g = g} {xs = xs} {w = w} at ds s h =
    let p = specify_right at s in
    let e = specify_once s (built_specify of_the_file f at xs p) in
    in_later p (subst {A = FilePlace} (λ j. Found w
    (declarations_asked xs (specify f xs).type j ds)) e.1
    (subst {A = Qualified} (λ o. Found w (declarations_asked xs o g ds)) e.0 h))

definition_found : {f g : FilePlace} {xs : t.SpecifierList} {q : Qualified} {w : Finding} (at at' : ℕ)
    (d : t.Declarator) (is : t.BlockItems)
    → Specify of_the_file f xs q g
    → Found w (definition_asked xs (record { type = q; place = g }) d is)
    → Found w (external_asked f (t.function_definition (t.specifiers at xs) d (t.block at' is)))
definition_found {f = f} {g = g} {xs = xs} {w = w} at at' d is s h =
    let p = specify_right at s in
    let e = specify_once s (built_specify of_the_file f at xs p) in
    in_later p (subst {A = FilePlace} (λ j. Found w
    (definition_asked xs (record { type = (specify f xs).type; place = j }) d is)) e.1
    (subst {A = Qualified} (λ o. Found w (definition_asked xs
    (record { type = o; place = g }) d is)) e.0 h))

head_faulty : {f : FilePlace} {r : ℕ} {x : t.External} → HeadBreaks f r x
    → Found (a_fault r (external_token x)) (external_asked f x)
head_faulty {r = r} (at_head {at = at} {d = d} {b = t.block at' is} s dd q) =
    definition_found at at' d is s (in_later (declarator_rightly dd)
    (in_first_of_three (here_faulty of_none (refused_1 {A = Declared} r (λ y. body_asks d y)
    (declared_of dd) q))))
head_faulty {r = r} (at_function {g = g} {at = at} {xs = xs} {d = d} {b = t.block at' is} s dd q) =
    definition_found at at' d is s (in_later (declarator_rightly dd)
    (in_second_of_three (here_faulty of_none
    (refused_1 {A = Declared} r (λ y. file_asks g xs y y.type true) (declared_of dd) q))))

item_faulty : {f : FilePlace} {r k : ℕ} {ps : List Item} → RefusedItem f r k ps
    → Found (a_fault r k) (constants_asked f ps)
item_faulty (this_item q) = in_first (here_faulty of_none q)
item_faulty (other_item p) = in_second (item_faulty p)

-- what is found in a part is found in the node
pub part_found : {f g : FilePlace} {n m : FileNode} {w : Finding} → FilePart f n g m
    → Found w (file_asked g m) → Found w (file_asked f n)
part_found first_external h = in_earlier h
part_found {f = f} {w = w} (other_externals {x = x} {xs = xs} b) h =
    let p = external_right b in
    in_later p (subst {A = FilePlace} (λ j. Found w (externals_asked j xs))
    (external_once b (built_external f x p)).2 h)
part_found (declaration_specifiers {s = t.specifiers at xs}) h = in_earlier h
part_found (declared_part {at = at} {ds = ds} s) h = declared_found at ds s h
part_found (function_specifiers {s = t.specifiers at xs} {b = t.block at' is}) h = in_earlier h
part_found {f = f} {w = w} (named_part {at = at} {xs = xs} m) h =
    in_later (of_node of_none m) (subst {A = Asked} (λ a. Found w a) (names_same f at xs) h)
part_found struct_members h = in_earlier h
part_found enum_constants h = in_second h
part_found {f = f} {w = w} (other_enumerators {x = x} {e = e} {es = es} n) h =
    in_later (number_right n)
    (in_second (subst {A = Option ℤ} (λ z. Found w
    (enumerators_asked (with_enumerator x z e (past_strings (strings_maybe e) f))
    (number_in z +ℤ pos 1) es)) (number_same n) h))
part_found (member_specifiers {s = t.specifiers at xs}) h =
    in_parts (rest_behind (rest_behind (last_beside h)))
part_found {f = f} {w = w} (member_fields {g = g} {at = at} {xs = xs} {ds = ds} s) h =
    let p = specify_right at s in
    let e = specify_once s (built_specify of_members f at xs p) in
    in_parts (rest_behind (last_behind (of_one p)
    (subst {A = FilePlace} (λ j. Found w (fields_asked (specify f xs).type j ds)) e.1
    (subst {A = Qualified} (λ o. Found w (fields_asked o g ds)) e.0 h))))
part_found {f = f} {w = w} (other_members {g = g} {h = h} {at = at} {xs = xs} {ds = ds} {ms = ms} {fields = fs} s d) b =
    let p = specify_right at s in
    let e = specify_once s (built_specify of_members f at xs p) in
    let a = subst {A = FilePlace} (λ j. AreFields (specify f xs).type j ds fs h) e.1
    (subst {A = Qualified} (λ o. AreFields o g ds fs h) e.0 d) in
    let u = fields_once a (built_fields (specify f xs).type (specify f xs).place ds
    (fields_right a)) in
    in_parts (last_behind (of_first p (fields_right a))
    (subst {A = FilePlace} (λ j. Found w (members_asked j ms)) u.1 b))
part_found other_fields h = in_second h
part_found {f = f} {w = w} (other_declared {xs = xs} {q = q} {d = d} {i = i} {ds = ds} dd) h =
    in_later (declarator_rightly dd)
    (in_second (in_second (subst {A = Declared} (λ y. Found w
    (declarations_asked xs q (past_strings (given_strings f (completed y.type i) i)
    (past_declarator xs d y i f)) ds)) (sym (declared_of dd)) h)))

pub inner_found : {f : FilePlace} {c : Context} {n : FileNode} {m : Node} {w : Finding} → FileInner f n c m
    → Found w (node_asked c m) → Found w (file_asked f n)
inner_found enumerator_value h = in_earlier h
inner_found field_declarator h = in_first (in_one h)
inner_found file_declarator h = in_earlier h
inner_found (function_declarator {at = at} {d = d} {b = t.block at' is} s) h =
    definition_found at at' d is s (in_earlier h)

-- in what an object's initialiser asks, and in a function's body

pub in_static : (f : FilePlace) (xs : t.SpecifierList) (i : t.Initializer)
    (ds : t.InitDeclarators) {q : Qualified} {d : t.Declarator} {y : Declared} {w : Finding}
    → Declares f.context q d y
    → Found w (first_values_asked (past_declarator xs d y (t.an_initializer i) f)
    (completed y.type (t.an_initializer i)) (t.an_initializer i))
    → Found w (file_asked f (some_declared xs q (t.more_init_declarators d (t.an_initializer i) ds)))
in_static f xs i ds {d = d} {w = w} dd h =
    in_later (declarator_rightly dd)
    (in_second (in_second_of_three (subst {A = Declared}
    (λ z. Found w (first_values_asked (past_declarator xs d z (t.an_initializer i) f)
    (completed z.type (t.an_initializer i)) (t.an_initializer i))) (sym (declared_of dd)) h)))

pub in_definition : (at at' : ℕ) (d : t.Declarator) (is : t.BlockItems) {f g : FilePlace}
    {xs : t.SpecifierList} {q : Qualified} {y : Declared} {ps : List Declared} {w : Finding}
    → Specify of_the_file f xs q g
    → Declares g.context q d y
    → AreParameters (in_new_scope g.context) 0 (own_parameters (nearest d)) ps
    → Found w (row_asked (body_site (past_head xs d y g) (result_of y.type)
    (own_parameters (nearest d)) (given_parameters (own_parameters (nearest d)) ps)) is)
    → Found w (file_asked f (an_external
    (t.function_definition (t.specifiers at xs) d (t.block at' is))))
in_definition at at' d is {g = g} {xs = xs} {y = y} {w = w} s dd a h =
    definition_found at at' d is s (in_later (declarator_rightly dd)
    (in_second (in_later (of_same (parameters_rightly a))
    (subst {A = Declared} (λ z. Found w (row_asked
    (body_site (past_head xs d z g) (result_of z.type) (own_of d)
    (given_parameters (own_of d) (parameters (in_new_scope g.context) 0 (own_of d)))) is))
    (sym (declared_of dd))
    (subst {A = List Declared} (λ zs. Found w
    (row_asked (body_site (past_head xs d y g) (result_of y.type) (own_of d)
    (given_parameters (own_of d) zs)) is)) (sym (parameters_of a)) h)))))

pub file_faulty : {f : FilePlace} {n : FileNode} {r k : ℕ} → FileBroken f n r k
    → Found (a_fault r k) (file_asked f n)
file_faulty (here_in_file b) = file_here b
file_faulty (at_its_head b) = head_faulty b
file_faulty (within_file p b) = part_found p (file_faulty b)
file_faulty (in_file_inner p b) = inner_found p (expression_faulty b)
file_faulty {f = f} (in_static_initialiser {xs = xs} {i = i} {ds = ds} dd b) =
    in_static f xs i ds dd (in_earlier (given_faulty b))
file_faulty {f = f} {r = r} {k = k} (in_static_values {xs = xs} {d = d} {i = i} {ds = ds} {y = y} dd s b) =
    let a = completed y.type (t.an_initializer i) in
    let g = past_declarator xs d y (t.an_initializer i) f in
    in_static f xs i ds dd (in_later (items_right s) (subst {A = List Item} (λ qs. Found (a_fault r k)
    (constants_asked (past_strings (strings_given g.context.known a i) g) qs))
    (initialised_once s (built_items g.context a 0 i (items_right s))) (item_faulty b)))
file_faulty (in_body {at = at} {at' = at'} {d = d} {is = is} s dd a b) =
    in_definition at at' d is s dd a (body_faulty b)

unit_faulty : {u : t.Tree} {r k : ℕ} → UnitBroken u r k → Found (a_fault r k) (unit_asked u)
unit_faulty (in_externals b) = in_one (file_faulty b)
unit_faulty {u = u} {r = r} (at_unit a q) =
    let p = externals_right a in
    here_faulty (of_one p) (refused_1 {A = FilePlace} r (λ j. main_asks j.context.scopes)
    (sym (externals_once a (built_externals (file_start u) u p)).2) q)

pub unit_breaks : {u : t.Tree} {r k : ℕ} → UnitBroken u r k → HasFault r k (unit_asked u)
unit_breaks b = of_faulty (unit_faulty b)
