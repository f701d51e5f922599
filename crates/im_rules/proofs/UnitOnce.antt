-- No unit is typed to two programs.
use Rattle.std.proofs.Common.{◌≡◌, ℤ, pos, ◌+ℤ◌, List, Option, refl, sym, subst}
use Rattle.im_ctree.specs.im_word.Words.{Name}
use Rattle.im_ctree.specs.declared.specifier.SpecifierWord.{SpecifierWord}
use Rattle.im_ctree.specs.Tree as t
use Rattle.im_typed.specs.im_ctype.Types.{CType, Member}
use Rattle.im_typed.specs.Program.{Func, Prog}
use Rattle.im_rules.specs.TypeTests.{result_of}
use Rattle.im_rules.specs.Strings.{strings_maybe}
use Rattle.im_rules.specs.Outline.{nearest}
use Rattle.im_rules.specs.Context.{Context, in_new_scope}
use Rattle.im_rules.specs.Declared.{Qualified, Declared, parameters_of}
use Rattle.im_rules.specs.Typed.{Declares, AreParameters}
use Rattle.im_rules.specs.Initialisers.{completed}
use Rattle.im_rules.specs.Statements.{TypedItems, name_of as name_in}
use Rattle.im_rules.specs.FileScope.{FilePlace, past_strings, Level, number_in, with_enumerator, own_parameters}
use Rattle.im_rules.specs.TypedUnit.{IsNumber, counted_on, written, AreEnumerators, no_enumerator, an_enumerator, Specify, of_specifiers, NamesType, no_list, a_struct, an_enum, AreMembers, no_member, some_members, AreFields, no_field, a_field, FirstValues, MayGive, gives_nothing, gives_values, past_declarator, given_strings, AreDeclared, none_declared, one_declared, body_site, past_head, TypedExternal, of_declaration, of_function, AreExternals, no_external, an_external, TypedUnit, of_unit}
use Rattle.im_rules.proofs.Once.{once, declares_once, parameters_once}
use Rattle.im_rules.proofs.BodiesOnce.{initialised_once, items_once}

pub number_once : {c : Context} {next : ℤ} {e : t.MaybeExpression} {z w : Option ℤ} → IsNumber c next e z → IsNumber c next e w → z ≡ w
number_once counted_on counted_on = refl
number_once (written a) (written b) = cc (once a b)

pub enumerators_once : {f g h : FilePlace} {next : ℤ} {es : t.Enumerators} → AreEnumerators f next es g → AreEnumerators f next es h → g ≡ h
enumerators_once no_enumerator no_enumerator = refl
enumerators_once {f = f} {h = h} (an_enumerator {x = x} {e = e} {es = es} n m r) (an_enumerator n' m' r') =
    enumerators_once r (subst (λ (z : Option ℤ). AreEnumerators (with_enumerator x z e (past_strings (strings_maybe e) f)) (number_in z +ℤ pos 1) es h) (sym (number_once n n')) r')

mutual
  pub specify_once : {l : Level} {f g h : FilePlace} {xs : t.SpecifierList} {p q : Qualified} → Specify l f xs p g → Specify l f xs q h → (p ≡ q) × (g ≡ h)
  specify_once (of_specifiers m n) (of_specifiers m' n') = let p = names_type_once n n' in (cc p.0, p.1)

  pub names_type_once : {f g h : FilePlace} {ss : List t.Specifier} {ks : List SpecifierWord} {p q : Qualified} → NamesType f ss ks p g → NamesType f ss ks q h → (p ≡ q) × (g ≡ h)
  names_type_once (no_list m) (no_list m') = (refl, refl)
  names_type_once (no_list m) (a_struct b a') = cc
  names_type_once (no_list m) (an_enum a' b) = cc
  names_type_once (a_struct b a) (no_list m) = cc
  names_type_once (an_enum a b) (no_list m) = cc
  names_type_once (a_struct b a) (a_struct b' a') = let p = members_once b b' in (cc p.1, cc (p.0, p.1))
  names_type_once (an_enum a b) (an_enum a' b') = (refl, cc (enumerators_once b b'))

  pub members_once : {f g h : FilePlace} {ms : t.Members} {xs ys : List Member} → AreMembers f ms xs g → AreMembers f ms ys h → (xs ≡ ys) × (g ≡ h)
  members_once no_member no_member = (refl, refl)
  members_once (some_members {g = g₁} {ds = ds} {ms = ms} s d r) (some_members {g = g₂} {h = h₂} {e = e₂} {q = q₂} {fields = fields₂} {more = more₂} s' d' r') =
      let p = specify_once s s' in
      let d₁ = subst (λ (k : FilePlace). AreFields q₂ k ds fields₂ h₂) (sym p.1) d' in
      let b = fields_once d (subst (λ (o : Qualified). AreFields o g₁ ds fields₂ h₂) (sym p.0) d₁) in
      let c = members_once r (subst (λ (k : FilePlace). AreMembers k ms more₂ e₂) (sym b.1) r') in
      (cc (b.0, c.0), c.1)

  pub fields_once : {q : Qualified} {f g h : FilePlace} {ds : t.Declarators} {xs ys : List Member} → AreFields q f ds xs g → AreFields q f ds ys h → (xs ≡ ys) × (g ≡ h)
  fields_once no_field no_field = (refl, refl)
  fields_once (a_field d m r) (a_field d' m' r') = let p = declares_once d d' in let b = fields_once r r' in (cc (p, b.0), b.1)

pub gives_once : {f : FilePlace} {x : Name} {a : CType} {i : t.MaybeInitializer} {gs hs : List FirstValues} → MayGive f x a i gs → MayGive f x a i hs → gs ≡ hs
gives_once gives_nothing gives_nothing = refl
gives_once (gives_values i k) (gives_values i' k') = cc (initialised_once i i')

pub declared_once : {xs : t.SpecifierList} {q : Qualified} {f g h : FilePlace} {ds : t.InitDeclarators} {gs hs : List FirstValues} → AreDeclared xs q f ds gs g → AreDeclared xs q f ds hs h → (gs ≡ hs) × (g ≡ h)
declared_once none_declared none_declared = (refl, refl)
declared_once {xs = xs} {q = q} {f = f} (one_declared {d = d} {i = i} {ds = ds} dd m k r) (one_declared {e = e₂} {y = z} {gs = gs₂} {hs = hs₂} dd' m' k' r') =
    let p = sym (declares_once dd dd') in
    let w = λ (y : Declared). past_declarator xs d y i f in
    let a = gives_once k (subst (λ (y : Declared). MayGive (w y) (name_in y.name) (completed y.type i) i gs₂) p k') in
    let b = declared_once r (subst (λ (y : Declared). AreDeclared xs q (past_strings (given_strings f (completed y.type i) i) (w y)) ds hs₂ e₂) p r') in
    (cc (a, b.0), b.1)

pub external_once : {f g h : FilePlace} {x : t.External} {gs hs : List FirstValues} {ks ls : List Func} → TypedExternal f x gs ks g → TypedExternal f x hs ls h → (gs ≡ hs) × (ks ≡ ls) × (g ≡ h)
external_once (of_declaration {g = g₁} {xs = xs} {ds = ds} s d) (of_declaration {e = e₂} {q = q₂} {gs = gs₂} s' d') =
    let p = specify_once s s' in
    let d₁ = subst (λ (k : FilePlace). AreDeclared xs q₂ k ds gs₂ e₂) (sym p.1) d' in
    let b = declared_once d (subst (λ (o : Qualified). AreDeclared xs o g₁ ds gs₂ e₂) (sym p.0) d₁) in
    (b.0, refl, b.1)
external_once (of_function {g = g₁} {xs = xs} {d = d} {y = y₁} {ps = ps₁} {is = is} s dd m k a b) (of_function {q = q₂} {y = y₂} {ps = ps₂} {us = us₂} {m = m₂} s' dd' m' k' a' b') =
    let p = specify_once s s' in
    let dd₁ = subst (λ (j : FilePlace). Declares j.context q₂ d y₂) (sym p.1) dd' in
    let e = declares_once dd (subst (λ (o : Qualified). Declares g₁.context o d y₂) (sym p.0) dd₁) in
    let own = own_parameters (nearest d) in
    let w = parameters_once a (subst (λ (j : FilePlace). AreParameters (in_new_scope j.context) 0 own ps₂) (sym p.1) a') in
    let site = λ (j : FilePlace) (y : Declared) (ps : List Declared). TypedItems (body_site (past_head xs d y j) (result_of y.type) own (parameters_of own ps)) is us₂ m₂ in
    let b₁ = subst (λ (j : FilePlace). site j y₂ ps₂) (sym p.1) b' in
    let b₂ = subst (λ (y : Declared). site g₁ y ps₂) (sym e) b₁ in
    let c = items_once b (subst (λ (ps : List Declared). site g₁ y₁ ps) (sym w) b₂) in
    (refl, cc (p.1, e, w, c.0, c.1), cc (p.1, e, c.1))

pub externals_once : {f g h : FilePlace} {u : t.Tree} {gs hs : List FirstValues} {ks ls : List Func} → AreExternals f u gs ks g → AreExternals f u hs ls h → (gs ≡ hs) × (ks ≡ ls) × (g ≡ h)
externals_once no_external no_external = (refl, refl, refl)
externals_once (an_external {xs = xs} x r) (an_external {g = g₂} {e = e₂} {hs = hs₂} {ls = ls₂} x' r') =
    let p = external_once x x' in
    let b = externals_once r (subst (λ (k : FilePlace). AreExternals k xs hs₂ ls₂ e₂) (sym p.2) r') in
    (cc (p.0, b.0), cc (p.1, b.1), b.2)

pub unit_once : {u : t.Tree} {g h : Prog} → TypedUnit u g → TypedUnit u h → g ≡ h
unit_once (of_unit a m) (of_unit a' m') = let p = externals_once a a' in cc (p.0, p.1, p.2)
