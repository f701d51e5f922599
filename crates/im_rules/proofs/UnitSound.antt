-- The parts of a unit that is typed are typed, and no node in it breaks a rule.
use Rattle.std.proofs.Common.{◌≡◌, true, ℕ, ℤ, pos, ◌+ℤ◌, List, Option, sym, ap, subst}
use Rattle.im_ctree.specs.im_word.Words.{Name}
use Rattle.im_ctree.specs.declared.specifier.SpecifierWord.{SpecifierWord}
use Rattle.im_ctree.specs.Tree as t
use Rattle.im_typed.specs.im_ctype.Types.{CType, Member}
use Rattle.im_typed.specs.Program.{Func, Prog}
use Rattle.im_rules.specs.TypeTests.{result_of}
use Rattle.im_rules.specs.Strings.{strings_maybe}
use Rattle.im_rules.specs.Outline.{nearest, is_initialised}
use Rattle.im_rules.specs.Context.{Context, in_new_scope}
use Rattle.im_rules.specs.Declared.{Qualified, Declared, specified_asks, parameters_of}
use Rattle.im_rules.specs.Typed.{Declares, AreParameters}
use Rattle.im_rules.specs.Breaks.{Node, an_expression}
use Rattle.im_rules.specs.Initialisers.{Item, Initialised, completed, strings_given}
use Rattle.im_rules.specs.Statements.{TypedItems, name_of as name_in}
use Rattle.im_rules.specs.BodyBreaks.{an_initialiser}
use Rattle.im_rules.specs.StaticValues.{constant_asks}
use Rattle.im_rules.specs.FileScope.{FilePlace, past_strings, file_asks, own_parameters, body_asks, Level, of_the_file, level_asks, struct_asks, member_asks, enum_asks, number_in, enumerator_asks, with_enumerator, main_asks, static_size}
use Rattle.im_rules.specs.TypedUnit.{IsNumber, written, AreEnumerators, an_enumerator, Specify, of_specifiers, NamesType, no_list, a_struct, an_enum, AreMembers, some_members, AreFields, a_field, FirstValues, AreConstants, MayGive, gives_values, past_declarator, given_strings, AreDeclared, one_declared, body_site, past_head, TypedExternal, of_declaration, of_function, AreExternals, an_external, TypedUnit, of_unit}
use Rattle.im_rules.specs.UnitBreaks.{FileNode, some_externals, an_external as external_node, some_declared, file_specifiers, some_named, some_members as members_node, some_fields, some_enumerators, FileBreaks, at_words, at_name, at_struct, at_enum, at_enumerator, at_field, at_declarator, HeadBreaks, at_head, at_function, RefusedItem, this_item, other_item, FilePart, first_external, other_externals, declaration_specifiers, declared_part, function_specifiers, named_part, struct_members, enum_constants, other_enumerators, member_specifiers, member_fields, other_members, other_fields, other_declared, FileInner, enumerator_value, field_declarator, file_declarator, function_declarator, FileBroken, here_in_file, at_its_head, within_file, in_file_inner, in_static_initialiser, in_static_values, in_body, UnitBroken, in_externals, at_unit}
use Rattle.im_rules.proofs.Once.{declares_once, parameters_once}
use Rattle.im_rules.proofs.BodiesOnce.{initialised_once}
use Rattle.im_rules.proofs.UnitOnce.{number_once, specify_once, members_once, fields_once, external_once, externals_once}
use Rattle.im_rules.proofs.Sound.{IsTyped, typed_expression, typed_declarator, not_refused, clash, typed_breaks_none}
use Rattle.im_rules.proofs.BodySound.{IsGiven, given_one, given_breaks_none, body_items, typed_body_breaks_none}

-- the node is typed
pub data IsFile (f : FilePlace) : FileNode → Type 0 where
  typed_externals : {e : FilePlace} {u : t.Tree} {gs : List FirstValues} {ks : List Func} → AreExternals f u gs ks e → IsFile f (some_externals u)
  typed_external : {e : FilePlace} {x : t.External} {gs : List FirstValues} {ks : List Func} → TypedExternal f x gs ks e → IsFile f (external_node x)
  typed_declared : {e : FilePlace} {xs : t.SpecifierList} {q : Qualified} {ds : t.InitDeclarators} {gs : List FirstValues} → AreDeclared xs q f ds gs e → IsFile f (some_declared xs q ds)
  typed_file_specifiers : {g : FilePlace} {l : Level} {at : ℕ} {xs : t.SpecifierList} {q : Qualified} → Specify l f xs q g → IsFile f (file_specifiers l (t.specifiers at xs))
  typed_named : {g : FilePlace} {at : ℕ} {ss : List t.Specifier} {ks : List SpecifierWord} {q : Qualified} → NamesType f ss ks q g → IsFile f (some_named at ss)
  typed_members : {g : FilePlace} {ms : t.Members} {fields : List Member} → AreMembers f ms fields g → IsFile f (members_node ms)
  typed_fields : {g : FilePlace} {q : Qualified} {ds : t.Declarators} {fields : List Member} → AreFields q f ds fields g → IsFile f (some_fields q ds)
  typed_enumerators : {g : FilePlace} {next : ℤ} {es : t.Enumerators} → AreEnumerators f next es g → IsFile f (some_enumerators next es)

pub file_part : {f g : FilePlace} {n m : FileNode} → FilePart f n g m → IsFile f n → IsFile g m
file_part first_external (typed_externals (an_external x r)) = typed_external x
file_part (other_externals {xs = xs} x) (typed_externals (an_external {e = e} {hs = hs} {ls = ls} x' r)) =
    typed_externals (subst (λ (k : FilePlace). AreExternals k xs hs ls e) ((external_once x' x).2) r)
file_part declaration_specifiers (typed_external (of_declaration s d)) = typed_file_specifiers s
file_part (declared_part {g = g} {xs = xs} {ds = ds} s) (typed_external (of_declaration {e = e} {q = q} {gs = gs} s' d)) =
    let p = specify_once s' s in
    let d₁ = subst (λ (k : FilePlace). AreDeclared xs q k ds gs e) p.1 d in
    typed_declared (subst (λ (o : Qualified). AreDeclared xs o g ds gs e) p.0 d₁)
file_part function_specifiers (typed_external (of_function s dd m k a b)) = typed_file_specifiers s
file_part (named_part m) (typed_file_specifiers (of_specifiers m' n)) = typed_named n
file_part struct_members (typed_named (no_list m)) = absurd cc
file_part struct_members (typed_named (a_struct b a)) = typed_members b
file_part enum_constants (typed_named (no_list m)) = absurd cc
file_part enum_constants (typed_named (an_enum a b)) = typed_enumerators b
file_part {f = f} (other_enumerators {x = x} {e = e} {es = es} n) (typed_enumerators (an_enumerator {g = g} n' m r)) =
    typed_enumerators (subst (λ (z : Option ℤ). AreEnumerators (with_enumerator x z e (past_strings (strings_maybe e) f)) (number_in z +ℤ pos 1) es g) (number_once n' n) r)
file_part member_specifiers (typed_members (some_members s d r)) = typed_file_specifiers s
file_part (member_fields {g = g} {ds = ds} s) (typed_members (some_members {h = h} {q = q} {fields = fields} s' d r)) =
    let p = specify_once s' s in
    let d₁ = subst (λ (k : FilePlace). AreFields q k ds fields h) p.1 d in
    typed_fields (subst (λ (o : Qualified). AreFields o g ds fields h) p.0 d₁)
file_part (other_members {g = g} {ds = ds} {ms = ms} s d) (typed_members (some_members {h = h} {e = e} {q = q} {fields = fields} {more = more} s' d' r)) =
    let p = specify_once s' s in
    let d₁ = subst (λ (k : FilePlace). AreFields q k ds fields h) p.1 d' in
    let d₂ = subst (λ (o : Qualified). AreFields o g ds fields h) p.0 d₁ in
    typed_members (subst (λ (k : FilePlace). AreMembers k ms more e) ((fields_once d₂ d).1) r)
file_part other_fields (typed_fields (a_field d m r)) = typed_fields r
file_part {f = f} (other_declared {xs = xs} {q = q} {d = d} {i = i} {ds = ds} dd) (typed_declared (one_declared {e = e} {hs = hs} dd' m k r)) =
    typed_declared (subst (λ (y : Declared). AreDeclared xs q (past_strings (given_strings f (completed y.type i) i) (past_declarator xs d y i f)) ds hs e) (declares_once dd' dd) r)

number_typed : {c : Context} {next : ℤ} {e : t.Expression} {z : Option ℤ} → IsNumber c next (t.an_expression e) z → IsTyped c (an_expression e)
number_typed (written a) = typed_expression a

pub file_inner : {f : FilePlace} {c : Context} {n : FileNode} {m : Node} → FileInner f n c m → IsFile f n → IsTyped c m
file_inner enumerator_value (typed_enumerators (an_enumerator n m r)) = number_typed n
file_inner field_declarator (typed_fields (a_field d m r)) = typed_declarator d
file_inner file_declarator (typed_declared (one_declared d m k r)) = typed_declarator d
file_inner (function_declarator {g = g} {d = d} s) (typed_external (of_function {q = q} {y = y} s' dd m k a b)) =
    let p = specify_once s' s in
    let dd₁ = subst (λ (j : FilePlace). Declares j.context q d y) p.1 dd in
    typed_declarator (subst (λ (o : Qualified). Declares g.context o d y) p.0 dd₁)

pub file_breaks_none : {f : FilePlace} {r : ℕ} {n : FileNode} → FileBreaks f r n → IsFile f n → ⊥
file_breaks_none {r = r} (at_words {l = l} {xs = xs} e) (typed_file_specifiers (of_specifiers m n)) = not_refused r (level_asks l xs) m e
file_breaks_none {f = f} {r = r} (at_name {ss = ss} b e) (typed_named (no_list m)) = not_refused r (specified_asks f.context ss) m e
file_breaks_none (at_name b e) (typed_named (a_struct a m)) = cc
file_breaks_none (at_name b e) (typed_named (an_enum m a)) = cc
file_breaks_none (at_struct a e) (typed_named (no_list m)) = absurd cc
file_breaks_none {f = f} {r = r} (at_struct {x = x} a e) (typed_named (a_struct a' m)) = clash r _ _ (ap (struct_asks f x) ((members_once a' a).0)) m e
file_breaks_none (at_enum e) (typed_named (no_list m)) = absurd cc
file_breaks_none {f = f} {r = r} (at_enum {x = x} e) (typed_named (an_enum m a)) = not_refused r (enum_asks f.context.scopes x) m e
file_breaks_none {f = f} {r = r} (at_enumerator {x = x} n e) (typed_enumerators (an_enumerator n' m a)) = clash r _ _ (ap (enumerator_asks f.context.scopes x) (number_once n' n)) m e
file_breaks_none {f = f} {r = r} (at_field d e) (typed_fields (a_field d' m a)) = clash r _ _ (ap (member_asks f.context.known) (declares_once d' d)) m e
file_breaks_none {f = f} {r = r} (at_declarator {xs = xs} {i = i} d e) (typed_declared (one_declared d' m k a)) =
    clash r _ _ (ap (λ (y : Declared). file_asks f xs y (completed y.type i) (is_initialised i)) (declares_once d' d)) m e

-- what is the same of two heads of one function
head_once : {f g h : FilePlace} {xs : t.SpecifierList} {p q : Qualified} {d : t.Declarator} {y z : Declared}
    → Specify of_the_file f xs p g → Declares g.context p d y → Specify of_the_file f xs q h → Declares h.context q d z → (g ≡ h) × (y ≡ z)
head_once {g = g} {h = h} {q = q} {d = d} {z = z} s dd s' dd' =
    let p = specify_once s s' in
    let dd₁ = subst (λ (j : FilePlace). Declares j.context q d z) (sym p.1) dd' in
    (p.1, declares_once dd (subst (λ (o : Qualified). Declares g.context o d z) (sym p.0) dd₁))

pub head_breaks_none : {f : FilePlace} {r : ℕ} {x : t.External} → HeadBreaks f r x → IsFile f (external_node x) → ⊥
head_breaks_none {r = r} (at_head {d = d} s dd e) (typed_external (of_function s' dd' m k a b)) =
    clash r _ _ (ap (body_asks d) ((head_once s' dd' s dd).1)) m e
head_breaks_none {r = r} (at_function {g = g} {xs = xs} {y = y} s dd e) (typed_external (of_function {g = h} {y = z} s' dd' m k a b)) =
    let p = head_once s' dd' s dd in
    clash r (file_asks h xs z z.type true) (file_asks g xs y y.type true) (cc (p.0, p.1)) k e

items_constant : {f : FilePlace} {r k : ℕ} {ps : List Item} → RefusedItem f r k ps → AreConstants f ps → ⊥
items_constant {f = f} {r = r} (this_item {p = p} e) m = not_refused r (constant_asks (static_size f) f.context.known p) m.0 e
items_constant (other_item e) m = items_constant e m.1

gives_constants : {f : FilePlace} {x : Name} {a : CType} {i : t.Initializer} {gs : List FirstValues} {ps : List Item}
    → MayGive f x a (t.an_initializer i) gs → Initialised f.context a 0 i ps → AreConstants (past_strings (strings_given f.context.known a i) f) ps
gives_constants {f = f} {a = a} {i = i} (gives_values j k) j' = subst (λ (ps : List Item). AreConstants (past_strings (strings_given f.context.known a i) f) ps) (initialised_once j j') k

given_in : {f : FilePlace} {x : Name} {a : CType} {i : t.Initializer} {gs : List FirstValues} → MayGive f x a (t.an_initializer i) gs → IsGiven f.context (an_initialiser a 0 i)
given_in (gives_values j k) = given_one j

pub typed_file_breaks_none : {f : FilePlace} {n : FileNode} {r k : ℕ} → FileBroken f n r k → IsFile f n → ⊥
typed_file_breaks_none (here_in_file b) d = file_breaks_none b d
typed_file_breaks_none (at_its_head b) d = head_breaks_none b d
typed_file_breaks_none (within_file p b) d = typed_file_breaks_none b (file_part p d)
typed_file_breaks_none (in_file_inner p b) d = typed_breaks_none b (file_inner p d)
typed_file_breaks_none {f = f} (in_static_initialiser {xs = xs} {d = d} {i = i} dd b) (typed_declared (one_declared {gs = gs} dd' m k a)) =
    given_breaks_none b (given_in (subst (λ (y : Declared). MayGive (past_declarator xs d y (t.an_initializer i) f) (name_in y.name) (completed y.type (t.an_initializer i)) (t.an_initializer i) gs) (declares_once dd' dd) k))
typed_file_breaks_none {f = f} (in_static_values {xs = xs} {d = d} {i = i} dd j b) (typed_declared (one_declared {gs = gs} dd' m k a)) =
    items_constant b (gives_constants (subst (λ (y : Declared). MayGive (past_declarator xs d y (t.an_initializer i) f) (name_in y.name) (completed y.type (t.an_initializer i)) (t.an_initializer i) gs) (declares_once dd' dd) k) j)
typed_file_breaks_none (in_body {g = g} {xs = xs} {d = d} {is = is} {y = y} {ps = ps} s dd a b) (typed_external (of_function {y = y₂} {ps = ps₂} {us = us} {m = m} s' dd' w k a' b')) =
    let p = head_once s' dd' s dd in
    let own = own_parameters (nearest d) in
    let o = parameters_once (subst (λ (j : FilePlace). AreParameters (in_new_scope j.context) 0 own ps₂) p.0 a') a in
    let site = λ (j : FilePlace) (z : Declared) (qs : List Declared). TypedItems (body_site (past_head xs d z j) (result_of z.type) own (parameters_of own qs)) is us m in
    let b₁ = subst (λ (j : FilePlace). site j y₂ ps₂) p.0 b' in
    let b₂ = subst (λ (z : Declared). site g z ps₂) p.1 b₁ in
    typed_body_breaks_none b (body_items (subst (λ (qs : List Declared). site g y qs) o b₂))

pub unit_breaks_none : {u : t.Tree} {g : Prog} {r k : ℕ} → UnitBroken u r k → TypedUnit u g → ⊥
unit_breaks_none (in_externals b) (of_unit a m) = typed_file_breaks_none b (typed_externals a)
unit_breaks_none {r = r} (at_unit a e) (of_unit a' m) = clash r _ _ (ap (λ (e : FilePlace). main_asks e.context.scopes) ((externals_once a' a).2)) m e
