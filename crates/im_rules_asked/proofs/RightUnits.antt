-- Of a unit that is typed, all that is asked is so.
use Rattle.std.proofs.Common.{◌≡◌, ℕ, ℤ, ◌+ℤ◌, List, [], ◌∷◌, Option, refl, sym, subst, false, true, pos}
use Rattle.im_rules.specs.im_word.Words.{Name}
use Rattle.im_rules.specs.im_ctree.declared.specifier.SpecifierWord.{SpecifierWord}
use Rattle.im_rules.specs.im_ctree.Tree as t
use Rattle.im_rules.specs.im_ctype.Types.{CType, Member}
use Rattle.im_rules.specs.im_typed.Program.{Func, Prog, Stmts}
use Rattle.im_rules.specs.TypeTests.{result_of}
use Rattle.im_rules.specs.Rules.{named_in}
use Rattle.im_rules.specs.Strings.{strings_maybe}
use Rattle.im_rules.specs.Outline.{is_initialised}
use Rattle.im_rules.specs.Context.{Context, in_new_scope}
use Rattle.im_rules.specs.Declared.{Qualified, Declared, parameters_of as given_parameters}
use Rattle.im_rules.specs.Demands.{asks, Meets}
use Rattle.im_rules.specs.Typed.{Declares, AreParameters}
use Rattle.im_rules.specs.Statements.{Added, TypedItems}
use Rattle.im_rules.specs.Initialisers.{Item, completed, strings_given}
use Rattle.im_rules.specs.FileScope.{FilePlace, past_strings, file_start, Level, of_members, of_the_file, file_asks, body_asks, struct_asks, member_asks, number_in, enumerator_asks, with_enumerator, with_list_begun, main_asks}
use Rattle.im_rules.specs.TypedUnit.{IsNumber, counted_on, written, AreEnumerators, no_enumerator, an_enumerator, Specify, of_specifiers, NamesType, no_list, a_struct, an_enum, AreMembers, no_member, some_members, AreFields, no_field, a_field, AreConstants, FirstValues, MayGive, gives_nothing, gives_values, given_strings, past_declarator, AreDeclared, none_declared, one_declared, body_site, past_head, TypedExternal, of_declaration, of_function, AreExternals, no_external, an_external, TypedUnit, of_unit}
use Rattle.im_rules.proofs.BodiesOnce.{initialised_once}
use Rattle.im_rules.proofs.UnitOnce.{number_once, specify_once, members_once, fields_once, external_once, externals_once, unit_once}
use Rattle.im_rules_asked.specs.Expressions.{parameters}
use Rattle.im_rules_asked.specs.Statements.{row_asked}
use Rattle.im_rules_asked.specs.Units.{number_of, number_asked, enumerators_asked, fields_asked, specify, named_asked, members_asked, specifiers_asked, constants_asked, first_values_asked, declarations_asked, own as own_of, definition_asked, external_asked, externals_asked, unit, unit_asked}
use Rattle.im_rules_asked.proofs.Right.{Right, of_node, of_none, of_one, of_both, of_first, of_beside, of_behind, of_sizes, of_same, met_1}
use Rattle.im_rules_asked.proofs.Terms.{declared_of, parameters_of}
use Rattle.im_rules_asked.proofs.Rightness.{rightly, declarator_rightly, parameters_rightly}
use Rattle.im_rules_asked.proofs.Built.{not_so}
use Rattle.im_rules_asked.proofs.BuiltBodies.{built_items}
use Rattle.im_rules_asked.proofs.RightBodies.{items_right, row_right}
use Rattle.im_rules_asked.proofs.BuiltUnits.{built_number, built_fields, built_members, built_specify, built_external, built_externals, built_unit}

pub number_right : {c : Context} {next : ℤ} {e : t.MaybeExpression} {z : Option ℤ}
    → IsNumber c next e z → Right (number_asked c e)
number_right counted_on = of_node of_none tt
number_right (written d) = rightly d

pub number_same : {c : Context} {next : ℤ} {e : t.MaybeExpression} {z : Option ℤ}
    → IsNumber c next e z → z ≡ number_of c next e
number_same {c = c} {next = next} {e = e} n = number_once n (built_number c next e (number_right n))

enumerators_right : {f g : FilePlace} {next : ℤ} {es : t.Enumerators} → AreEnumerators f next es g
    → Right (enumerators_asked f next es)
enumerators_right no_enumerator = of_node of_none tt
enumerators_right {f = f} (an_enumerator {x = x} {e = e} {es = es} n m r) =
    of_node (of_first (number_right n)
    (of_node (of_both (of_node of_none (met_1 {A = Option ℤ}
    (λ z. enumerator_asks f.context.scopes x z) (sym (number_same n)) m))
    (subst {A = Option ℤ} (λ z. Right (enumerators_asked
    (with_enumerator x z e (past_strings (strings_maybe e) f)) (number_in z +ℤ pos 1) es))
    (number_same n) (enumerators_right r))) tt)) tt

pub fields_right : {q : Qualified} {f g : FilePlace} {ds : t.Declarators} {xs : List Member}
    → AreFields q f ds xs g → Right (fields_asked q f ds)
fields_right no_field = of_node of_none tt
fields_right {f = f} (a_field dd m r) =
    of_node (of_both (of_node (of_one (declarator_rightly dd))
    (met_1 {A = Declared} (λ y. member_asks f.context.known y) (declared_of dd) m))
    (fields_right r)) tt

-- specifiers and members

mutual
  pub named_right : (f : FilePlace) (first : ℕ) (xs : t.SpecifierList) {ks : List SpecifierWord}
      {q : Qualified} {g : FilePlace} → NamesType f (named_in xs) ks q g
      → Right (named_asked f first xs)
  named_right f first t.no_specifiers n = of_node of_none tt
  named_right f first (t.more_specifiers (t.word_specifier at x) xs) n = named_right f first xs n
  named_right f first (t.more_specifiers (t.typedef_specifier at x) xs) (no_list m) =
      of_node of_none m
  named_right f first (t.more_specifiers (t.struct_tag at x) xs) (no_list m) = of_node of_none m
  named_right f first (t.more_specifiers (t.enum_tag at x) xs) (no_list m) = of_node of_none m
  named_right f first (t.more_specifiers (t.struct_specifier at x ms) xs) (no_list m) =
      absurd (not_so (asks 7 false) refl m)
  named_right f first (t.more_specifiers (t.struct_specifier at x ms) xs) (a_struct b m) =
      let h = members_right (with_list_begun at x f) ms b in
      of_node (of_first h of_sizes) (met_1 {A = List Member} (λ ys. struct_asks f x ys)
      (sym (members_once b (built_members (with_list_begun at x f) ms h)).0) m)
  named_right f first (t.more_specifiers (t.enum_specifier at x es) xs) (no_list m) =
      absurd (not_so (asks 8 false) refl m)
  named_right f first (t.more_specifiers (t.enum_specifier at x es) xs) (an_enum m r) =
      of_node (of_both (of_node of_none m) (enumerators_right r)) tt

  pub members_right : (f : FilePlace) (ms : t.Members) {xs : List Member} {g : FilePlace}
      → AreMembers f ms xs g → Right (members_asked f ms)
  members_right f t.no_members no_member = of_node of_none tt
  members_right f (t.more_members (t.specifiers at xs) ds ms) (some_members {g = g} {h = h} {fields = fs} (of_specifiers m n) d r) =
      let w = of_node (of_first (of_node of_none m) (named_right f at xs n)) tt in
      let s = specify_once (of_specifiers {l = of_members} m n)
      (built_specify of_members f at xs w) in
      let k = subst {A = FilePlace} (λ j. AreFields (specify f xs).type j ds fs h) s.1
      (subst {A = Qualified} (λ o. AreFields o g ds fs h) s.0 d) in
      let b = fields_once k (built_fields (specify f xs).type (specify f xs).place ds
      (fields_right k)) in
      of_node (of_behind (of_first w (fields_right k))
      (subst {A = FilePlace} (λ j. Right (members_asked j ms)) b.1 (members_right h ms r))) tt

pub specify_right : {l : Level} {f g : FilePlace} {xs : t.SpecifierList} {q : Qualified} (at : ℕ)
    → Specify l f xs q g → Right (specifiers_asked l f at xs)
specify_right {f = f} {xs = xs} at (of_specifiers m n) =
    of_node (of_first (of_node of_none m) (named_right f at xs n)) tt

-- declarators at file scope

constants_right : (f : FilePlace) (ps : List Item) → AreConstants f ps
    → Right (constants_asked f ps)
constants_right f [] k = of_node of_none tt
constants_right f (p ∷ ps) k = of_node (of_both (of_node of_none k.0) (constants_right f ps k.1)) tt

given_right : {f : FilePlace} {x : Name} {a : CType} {i : t.MaybeInitializer}
    {gs : List FirstValues} → MayGive f x a i gs → Right (first_values_asked f a i)
given_right gives_nothing = of_node of_none tt
given_right {f = f} {a = a} (gives_values {i = i} {ps = ps} d k) =
    of_node (of_first (items_right d)
    (subst {A = List Item} (λ qs. Right (constants_asked
    (past_strings (strings_given f.context.known a i) f) qs))
    (initialised_once d (built_items f.context a 0 i (items_right d)))
    (constants_right (past_strings (strings_given f.context.known a i) f) ps k))) tt

declarations_right : {xs : t.SpecifierList} {q : Qualified} {f e : FilePlace}
    {ds : t.InitDeclarators} {gs : List FirstValues} → AreDeclared xs q f ds gs e
    → Right (declarations_asked xs q f ds)
declarations_right none_declared = of_node of_none tt
declarations_right {xs = xs} {q = q} {f = f} (one_declared {d = d} {i = i} {ds = ds} dd m k r) =
    of_node (of_first (declarator_rightly dd) (of_node (of_both of_sizes
    (of_node (of_beside (of_both (of_node of_none
    (met_1 {A = Declared} (λ y. file_asks f xs y (completed y.type i) (is_initialised i))
    (declared_of dd) m))
    (subst {A = Declared} (λ y. Right (first_values_asked (past_declarator xs d y i f)
    (completed y.type i) i)) (sym (declared_of dd)) (given_right k)))
    (subst {A = Declared} (λ y. Right (declarations_asked xs q
    (past_strings (given_strings f (completed y.type i) i) (past_declarator xs d y i f)) ds))
    (sym (declared_of dd)) (declarations_right r))) tt)) tt)) tt

-- external declarations

definition_right : (xs : t.SpecifierList) (g : FilePlace) {q : Qualified} (d : t.Declarator)
    (y : Declared) {ps : List Declared} {is : t.BlockItems} {us : Stmts} {m : Added}
    → Declares g.context q d y
    → Meets (body_asks d y)
    → Meets (file_asks g xs y y.type true)
    → AreParameters (in_new_scope g.context) 0 (own_of d) ps
    → TypedItems (body_site (past_head xs d y g) (result_of y.type) (own_of d)
    (given_parameters (own_of d) ps)) is us m
    → Right (definition_asked xs (record { type = q; place = g }) d is)
definition_right xs g d y {is = is} dd b k a r =
    of_node (of_first (declarator_rightly dd)
    (of_node (of_beside (of_both (of_node of_none
    (met_1 {A = Declared} (λ z. body_asks d z) (declared_of dd) b))
    (of_node of_none (met_1 {A = Declared} (λ z. file_asks g xs z z.type true) (declared_of dd) k)))
    (of_node (of_first (of_same (parameters_rightly a))
    (subst {A = Declared} (λ z. Right (row_asked
    (body_site (past_head xs d z g) (result_of z.type) (own_of d)
    (given_parameters (own_of d) (parameters (in_new_scope g.context) 0 (own_of d)))) is))
    (sym (declared_of dd))
    (subst {A = List Declared} (λ zs. Right (row_asked
    (body_site (past_head xs d y g) (result_of y.type) (own_of d)
    (given_parameters (own_of d) zs)) is)) (sym (parameters_of a)) (row_right r)))) tt)) tt)) tt

pub external_right : {f e : FilePlace} {x : t.External} {gs : List FirstValues} {ks : List Func}
    → TypedExternal f x gs ks e → Right (external_asked f x)
external_right {f = f} (of_declaration {g = g} {at = at} {xs = xs} {ds = ds} s d) =
    let h = specify_right at s in
    let e = specify_once s (built_specify of_the_file f at xs h) in
    of_node (of_first h (subst {A = FilePlace}
    (λ j. Right (declarations_asked xs (specify f xs).type j ds)) e.1
    (subst {A = Qualified} (λ o. Right (declarations_asked xs o g ds)) e.0
    (declarations_right d)))) tt
external_right {f = f} (of_function {g = g} {at = at} {xs = xs} {d = d} {y = y} {is = is} s dd m k a b) =
    let h = specify_right at s in
    let e = specify_once s (built_specify of_the_file f at xs h) in
    of_node (of_first h (subst {A = FilePlace}
    (λ j. Right (definition_asked xs (record { type = (specify f xs).type; place = j }) d is)) e.1
    (subst {A = Qualified} (λ o. Right (definition_asked xs
    (record { type = o; place = g }) d is)) e.0 (definition_right xs g d y dd m k a b)))) tt

pub externals_right : {f e : FilePlace} {u : t.Tree} {gs : List FirstValues} {ks : List Func}
    → AreExternals f u gs ks e → Right (externals_asked f u)
externals_right no_external = of_node of_none tt
externals_right {f = f} (an_external {x = x} {xs = xs} k r) =
    of_node (of_first (external_right k) (subst {A = FilePlace} (λ g. Right (externals_asked g xs))
    (external_once k (built_external f x (external_right k))).2 (externals_right r))) tt

pub unit_right : {u : t.Tree} {g : Prog} → TypedUnit u g → Right (unit_asked u)
unit_right {u = u} (of_unit a m) =
    of_node (of_one (externals_right a)) (met_1 {A = FilePlace} (λ k. main_asks k.context.scopes)
    (sym (externals_once a (built_externals (file_start u) u (externals_right a))).2) m)

pub unit_same : {u : t.Tree} {g : Prog} → TypedUnit u g → unit u ≡ g
unit_same {u = u} d = unit_once (built_unit u (unit_right d)) d
