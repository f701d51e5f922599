-- Functions of a unit: each has the type that its name has at the end, and they stand where the outline says.
use Rattle.std.proofs.Common.{◌≡◌, ◌⊎◌, inl, inr, ℕ, suc, ◌&&◌, ◌||◌, List, [], ◌∷◌, ◌++◌, length, append_assoc, append-nil, map, take, Bool, true, false, refl, sym, ap, ◌∙◌, subst}
use Rattle.std.specs.Prelude.{Option, Some, None, not, slice_get, if◌then◌else◌}
use Rattle.std.specs.Option.{option_map}
use Rattle.im_word.specs.Words.{Name}
use Rattle.im_ctree.specs.declared.specifier.SpecifierWord.{SpecifierWord}
use Rattle.im_ctree.specs.Tree as t
use Rattle.im_store.proofs.Same.{both-true}
use Rattle.im_ctype.specs.Types.{CType, void, integer, pointer, array, unsized, struct, function, Structs, is_function, is_scalar, is_integer, is_pointer}
use Rattle.im_typed.specs.Program.{Scalar, LocalObject, Func, Stmts}
use Rattle.im_typed.specs.Values.{cells_of}
use Rattle.im_typed.specs.Typing.{Each}
use Rattle.im_rules.specs.TypeTests.{same_name, result_of, parameters_of as types_given}
use Rattle.im_rules.specs.Rules.{is_typedef, named_in, rule_1, rule_2, rule_9_result, rule_11}
use Rattle.im_rules.specs.Scopes.{Entity, an_object, a_function, an_enumerator, a_typedef, static_object, meaning}
use Rattle.im_rules.specs.Outline.{Outline, outline, is_in, place_in, name_of, Nearest, bare, a_star, a_length, parameters, nearest, typedef_in, is_extern, gives_function, sort_of, defines_as, is_object_sort, defines_a_function, is_initialised, Outlined, Walk, with_declarator, with_declarators, with_lists, body_item, with_external, walked, bodies_among}
use Rattle.im_rules.specs.Context.{Context, in_new_scope}
use Rattle.im_rules.specs.Terms.{kind_in}
use Rattle.im_rules.specs.Declared.{Qualified, Declared, specified, types_of, parameters_of, typedef_meant, is_typedef_name, specified_asks, with_const, has_const}
use Rattle.im_rules.specs.Initialisers.{Item, Initialised, initialised, completed}
use Rattle.im_rules.specs.Demands.{Meets}
use Rattle.im_rules.specs.Typed.{Declares, AreParameters}
use Rattle.im_rules.specs.Statements.{Added, name_of as name_in, object_of}
use Rattle.im_rules.specs.FileScope.{FilePlace, past_strings, file_start, Level, of_the_file, of_members, level_asks, file_asks, file_entity, body_asks, callee_named, own_parameters, has_own_parameters}
use Rattle.im_rules.specs.TypedUnit.{FirstValues, Specify, of_specifiers, NamesType, no_list, a_struct, an_enum, MayGive, gives_nothing, gives_values, past_declarator, past_head, given_strings, AreDeclared, none_declared, one_declared, result_kind, parameter_objects, function_made, TypedExternal, of_declaration, of_function, AreExternals, no_external, an_external}
use Rattle.im_rules.specs.UnitBreaks.{some_declared, an_external as external_node, some_externals, first_external, other_externals, declaration_specifiers, declared_part, function_specifiers, other_declared}
use Rattle.im_rules_limits.specs.Limits.{size_in_file_part, IsFileWithin}
use Rattle.im_rules.proofs.Once.{parameters_once}
use Rattle.im_rules_sound.specs.Sound.{gives, TakeTypes}
use Rattle.im_rules_sound_expressions.specs.Bounded.{IsBounded, AreScalars, AreBoundedTypes}
use Rattle.im_rules_sound_expressions.proofs.Types.{same-name-is}
use Rattle.im_rules_sound_places.specs.Units.{IsNamed, AreNamed, IsWrittenExternal, IsWrittenUnit}
use Rattle.im_rules_sound_places.specs.Places.{IsFine, Grows}
use Rattle.im_rules_sound_places.proofs.Places.{grows-trans, self-named}
use Rattle.im_rules_sound_places.proofs.Specifiers.{specify-step}
use Rattle.im_rules_sound_places.proofs.Heads.{declared-name, function-declared, own-parameters}
use Rattle.im_rules_sound_places.proofs.Files.{declarator-step, head-step, external-step, externals-step}

-- heads

-- a function, and the type that its name has at the end
pub record IsHeaded (e : FilePlace) (f : Func) : Type 0 where
  pub constant : Bool
  pub type : CType
  pub means : meaning e.context.scopes f.name ≡ Some (a_function (callee_named e.context.unit f.name) constant type)
  pub takes : TakeTypes (types_given type) (take f.params f.objects)
  pub result : option_map Scalar f.result ≡ gives e.context.known (result_of type)

pub own-found : (n : Nearest) → has_own_parameters n ≡ true → n ≡ parameters (own_parameters n)
own-found (parameters ps) e = refl
own-found bare e = absurd (cc)
own-found a_star e = absurd (cc)
own-found a_length e = absurd (cc)

pub take-front : (xs ys : List LocalObject) → take (length xs) (xs ++ ys) ≡ xs
take-front [] [] = refl
take-front [] (y ∷ ys) = refl
take-front (x ∷ xs) ys = ap (λ z. x ∷ z) (take-front xs ys)

pub count-objects : (known : Structs) (ds : List Declared) → length (parameter_objects known ds) ≡ length ds
count-objects known [] = refl
count-objects known (d ∷ ds) = ap suc (count-objects known ds)

scalar-cells : (known : Structs) (x : Name) (a : CType) → is_scalar a ≡ true → ((object_of known x a).cells ≡ cells_of (Scalar (kind_in a))) × ((is_integer a || is_pointer a) ≡ true)
scalar-cells known x (integer i) e = (refl, refl)
scalar-cells known x (pointer c a) e = (refl, refl)
scalar-cells known x void e = absurd (cc)
scalar-cells known x (array a n) e = absurd (cc)
scalar-cells known x (unsized a) e = absurd (cc)
scalar-cells known x (struct n) e = absurd (cc)
scalar-cells known x (function r ps) e = absurd (cc)

takes-types : (known : Structs) (ds : List Declared) → AreScalars (types_of ds) → TakeTypes (types_of ds) (parameter_objects known ds)
takes-types known [] h = tt
takes-types known (d ∷ ds) h = let one = scalar-cells known (name_in d.name) d.type h.0 in (one.0, one.1, takes-types known ds h.1)

result-gives : (known : Structs) (r : CType) → rule_9_result r ≡ true → option_map Scalar (result_kind r) ≡ gives known r
result-gives known void e = refl
result-gives known (integer i) e = refl
result-gives known (pointer c a) e = refl
result-gives known (array a n) e = absurd (cc)
result-gives known (unsized a) e = absurd (cc)
result-gives known (struct n) e = absurd (cc)
result-gives known (function q ps) e = absurd (cc)

-- what is known of a function's head
pub record IsHead (g : FilePlace) (y : Declared) (ds : List Declared) : Type 0 where
  pub result : CType
  pub type : y.type ≡ function result (types_of ds)
  pub scalar : rule_9_result result ≡ true
  pub scalars : AreScalars (types_of ds)
  pub bounded : AreBoundedTypes g.context.known (types_of ds)

pub head-known : {g : FilePlace} {q : Qualified} {d : t.Declarator} {y : Declared} {ps : List Declared} → Declares g.context q d y → Meets (body_asks d y) → AreParameters (in_new_scope g.context) 0 (own_parameters (nearest d)) ps → IsBounded g.context.known y.type
    → IsHead g y (parameters_of (own_parameters (nearest d)) ps)
head-known {g = g} {d = d} {y = y} {ps = ps} p m k b =
    let asked = both-true (has_own_parameters (nearest d)) (rule_11 y.type (own_parameters (nearest d))) m.0 in
    let own = own-parameters (own_parameters (nearest d)) p (own-found (nearest d) asked.0) in
    let same : own.given ≡ ps = parameters_once own.typed k in
    let type : y.type ≡ function own.result (types_of (parameters_of (own_parameters (nearest d)) ps)) = own.is ∙ ap (λ z. function own.result (types_of (parameters_of (own_parameters (nearest d)) z))) same in
    let bounded : IsBounded g.context.known (function own.result (types_of (parameters_of (own_parameters (nearest d)) ps))) = subst (IsBounded g.context.known) type b in
    record { result = own.result; type = type; scalar = bounded.2; scalars = bounded.3; bounded = bounded.1 }

-- an entity at file scope that is no typedef's and of a function type
function-entity : (unit : Outline) (xs : t.SpecifierList) (x : Name) (c : Bool) (a : CType) → rule_2 xs true ≡ true → is_function a ≡ true → file_entity unit xs x c a ≡ a_function (callee_named unit x) c a
function-entity unit xs x c a r e = by-typedef (is_typedef xs) r
  where
    by-typedef : (b : Bool) → not (b && true) ≡ true → (if b then a_typedef c a else if is_function a then a_function (callee_named unit x) c a else an_object c a (static_object (place_in x unit.statics))) ≡ a_function (callee_named unit x) c a
    by-typedef true r = absurd (cc)
    by-typedef false r = ap (λ b. if b then a_function (callee_named unit x) c a else an_object c a (static_object (place_in x unit.statics))) e

pub headed : {last : FilePlace} {q : Qualified} {d : t.Declarator} {y : Declared} {ps : List Declared} (g : FilePlace) (xs : t.SpecifierList) (us : Stmts) (m : Added) → Declares g.context q d y → Meets (body_asks d y) → Meets (file_asks g xs y y.type true) → AreParameters (in_new_scope g.context) 0 (own_parameters (nearest d)) ps
    → IsBounded g.context.known y.type → Grows (past_head xs d y g) last → IsHeaded last (function_made (past_head xs d y g) y (parameters_of (own_parameters (nearest d)) ps) us m)
headed {last = last} {d = d} {y = y} {ps = ps} g xs us m p k a r b grown =
    let ds = parameters_of (own_parameters (nearest d)) ps in
    let x = name_in y.name in
    let head = head-known {g = g} p k r b in
    let known = g.context.known in
    let entity : file_entity g.context.unit xs x y.constant y.type ≡ a_function (callee_named g.context.unit x) y.constant y.type = function-entity g.context.unit xs x y.constant y.type a.0 (ap is_function head.type) in
    let here : meaning (past_head xs d y g).context.scopes x ≡ Some (file_entity g.context.unit xs x y.constant y.type) = ap (λ z. if z then Some (file_entity g.context.unit xs x y.constant y.type) else meaning g.context.scopes x) (self-named x) in
    let there = grown.means x (a_function (callee_named g.context.unit x) y.constant y.type) (here ∙ ap Some entity) in
    let count = count-objects known ds in
    record {
      constant = y.constant;
      type = y.type;
      means = there ∙ ap (λ u. Some (a_function (callee_named u x) y.constant y.type)) (sym grown.unit);
      takes = subst (λ a. TakeTypes (types_given a) (take (length ds) (parameter_objects known ds ++ m.objects))) (sym head.type)
          (subst (TakeTypes (types_of ds)) (sym (ap (λ n. take n (parameter_objects known ds ++ m.objects)) (sym count) ∙ take-front (parameter_objects known ds) m.objects)) (takes-types known ds head.scalars));
      result = ap (λ a. option_map Scalar (result_kind (result_of a))) head.type ∙ result-gives last.context.known head.result head.scalar ∙ ap (λ a. gives last.context.known (result_of a)) (sym head.type);
    }

each-both : {A : Type 0} (P : A → Type 0) (xs ys : List A) → Each P xs → Each P ys → Each P (xs ++ ys)
each-both P [] ys h k = k
each-both P (x ∷ xs) ys h k = (h.0, each-both P xs ys h.1 k)

external-headed : {f e last : FilePlace} {x : t.External} {gs : List FirstValues} {ks : List Func} → TypedExternal f x gs ks e → IsFine f → IsWrittenExternal x → IsFileWithin f (external_node x) → Grows e last → Each (IsHeaded last) ks
external-headed (of_declaration s d) h w l k = tt
external-headed {f = f} {e = e} {last = last} (of_function {g = g} {xs = xs} {d = d} {y = y} {us = us} {m = m} s p b a r is) h w l k =
    let one = specify-step s h w.0 (λ n z. l n (size_in_file_part function_specifiers z)) in
    let head = head-step s p a one.step.fine one.bounded w.2 l in
    let behind : Grows (past_head xs d y g) last = grows-trans (past_head xs d y g) e last (record { unit = refl; more = []; known = sym (append-nil g.context.known); words = m.strings; strings = refl; means = λ x e q. q }) k in
    (headed g xs us m p b a r head.own behind, tt)

pub externals-headed : {f e : FilePlace} {u : t.Tree} {gs : List FirstValues} {ks : List Func} → AreExternals f u gs ks e → IsFine f → IsWrittenUnit u → IsFileWithin f (some_externals u) → Each (IsHeaded e) ks
externals-headed no_external h w l = tt
externals-headed {f = f} {e = e} (an_external {g = g} {ks = ks} {ls = ls} x r) h w l =
    let one = external-step x h w.0 (λ n z. l n (size_in_file_part first_external z)) in
    let rest = externals-step r one.fine w.1 (λ n z. l n (size_in_file_part (other_externals x) z)) in
    each-both (IsHeaded e) ks ls (external-headed x h w.0 (λ n z. l n (size_in_file_part first_external z)) rest.grows) (externals-headed r one.fine w.1 (λ n z. l n (size_in_file_part (other_externals x) z)))

-- the outline's walk, beside the place in the unit

abbrev pub names_made : List Func → List Name
names_made ks = map {A = Func} (λ f. f.name) ks

-- a name that the walk holds for a typedef of a function type is one
abbrev pub IsTypedefOf : FilePlace → Name → Type 0
IsTypedefOf f x = (k : Bool) × (a : CType) × (meaning f.context.scopes x ≡ Some (a_typedef k a)) × (is_function a ≡ true)

pub record IsWalked (f : FilePlace) (o : Walk) : Type 0 where
  pub functions : (x : Name) → is_in x o.functions ≡ true → IsTypedefOf f x
  pub named : is_in [] o.functions ≡ false

walked-later : (f g : FilePlace) (o : Walk) → Grows f g → IsWalked f o → IsWalked g o
walked-later f g o k h = record {
  functions = λ x e. let own = h.functions x e in (own.0, own.1, k.means x (a_typedef own.0 own.1) own.2, own.3);
  named = h.named;
}

bodies-append : (xs ys : List Outlined) → bodies_among (xs ++ ys) ≡ bodies_among xs ++ bodies_among ys
bodies-append [] ys = refl
bodies-append (i ∷ xs) ys = by-test (defines_a_function i) (bodies-append xs ys)
  where
    by-test : (b : Bool) → bodies_among (xs ++ ys) ≡ bodies_among xs ++ bodies_among ys → (if b then i.name ∷ bodies_among (xs ++ ys) else bodies_among (xs ++ ys)) ≡ (if b then i.name ∷ bodies_among xs else bodies_among xs) ++ bodies_among ys
    by-test true e = ap (λ z. i.name ∷ z) e
    by-test false e = e

-- the specifiers' typedef name is the one that the walk looks at

abbrev IsAlone : t.SpecifierList → Type 0
IsAlone xs = (typedef_in xs ≡ []) ⊎ ((at : ℕ) × (named_in xs ≡ t.typedef_specifier at (typedef_in xs) ∷ []))

few-named : (xs : t.SpecifierList) (s r : t.Specifier) (ss : List t.Specifier) → named_in xs ≡ s ∷ r ∷ ss → rule_1 xs ≡ true → ⊥
few-named xs s r ss is e = let asked = rw is at e in absurd (cc)

-- a typedef name among specifiers is one of those that are named
abbrev IsAmong : Name → List t.Specifier → Type 0
IsAmong x ss = (at : ℕ) × (before : List t.Specifier) × (after : List t.Specifier) × (ss ≡ before ++ t.typedef_specifier at x ∷ after)

one-more : (x : Name) (s : t.Specifier) (ss : List t.Specifier) → (x ≡ []) ⊎ IsAmong x ss → (x ≡ []) ⊎ IsAmong x (s ∷ ss)
one-more x s ss (inl e) = inl e
one-more x s ss (inr h) = inr (h.0, s ∷ h.1, h.2, ap (λ z. s ∷ z) h.3)

typedef-among : (xs : t.SpecifierList) → (typedef_in xs ≡ []) ⊎ IsAmong (typedef_in xs) (named_in xs)
typedef-among t.no_specifiers = inl refl
typedef-among (t.more_specifiers (t.typedef_specifier at x) xs) = inr (at, [], named_in xs, refl)
typedef-among (t.more_specifiers (t.word_specifier at x) xs) = typedef-among xs
typedef-among (t.more_specifiers (t.struct_tag at x) xs) = one-more (typedef_in xs) (t.struct_tag at x) (named_in xs) (typedef-among xs)
typedef-among (t.more_specifiers (t.enum_tag at x) xs) = one-more (typedef_in xs) (t.enum_tag at x) (named_in xs) (typedef-among xs)
typedef-among (t.more_specifiers (t.struct_specifier at x ms) xs) = one-more (typedef_in xs) (t.struct_specifier at x ms) (named_in xs) (typedef-among xs)
typedef-among (t.more_specifiers (t.enum_specifier at x es) xs) = one-more (typedef_in xs) (t.enum_specifier at x es) (named_in xs) (typedef-among xs)

alone : (xs : t.SpecifierList) → rule_1 xs ≡ true → IsAlone xs
alone xs r = by-place (typedef-among xs)
  where
    by-place : (typedef_in xs ≡ []) ⊎ IsAmong (typedef_in xs) (named_in xs) → IsAlone xs
    by-place (inl e) = inl e
    by-place (inr (at, [], [], e)) = inr (at, e)
    by-place (inr (at, [], s ∷ after, e)) = absurd (few-named xs (t.typedef_specifier at (typedef_in xs)) s after e r)
    by-place (inr (at, s ∷ [], after, e)) = absurd (few-named xs s (t.typedef_specifier at (typedef_in xs)) after e r)
    by-place (inr (at, s ∷ q ∷ before, after, e)) = absurd (few-named xs s q (before ++ t.typedef_specifier at (typedef_in xs) ∷ after) e r)

-- the specifiers' typedef name, if there is one, means their type
abbrev pub IsMeant : FilePlace → t.SpecifierList → Qualified → Type 0
IsMeant f xs q = (typedef_in xs ≡ []) ⊎ ((k : Bool) × (a : CType) × (meaning f.context.scopes (typedef_in xs) ≡ Some (a_typedef k a)) × (q.type ≡ a))

abbrev IsMeantBy : FilePlace → Name → Qualified → Type 0
IsMeantBy f x q = (k : Bool) × (a : CType) × (meaning f.context.scopes x ≡ Some (a_typedef k a)) × (q.type ≡ a)

typedef-meant : (f : FilePlace) (x : Name) (m : Option Entity) → meaning f.context.scopes x ≡ m → is_typedef_name m ≡ true → IsMeantBy f x (typedef_meant m)
typedef-meant f x None is e = absurd (cc)
typedef-meant f x (Some (a_typedef k a)) is e = (k, a, is, refl)
typedef-meant f x (Some (an_object k a s)) is e = absurd (cc)
typedef-meant f x (Some (a_function c k a)) is e = absurd (cc)
typedef-meant f x (Some (an_enumerator z)) is e = absurd (cc)

names-meant : {f g : FilePlace} {ss : List t.Specifier} {ks : List SpecifierWord} {q : Qualified} (at : ℕ) (x : Name) → NamesType f ss ks q g → ss ≡ t.typedef_specifier at x ∷ [] → IsMeantBy f x q
names-meant {f = f} at x (no_list {ss = ss} {ks = ks} m) e =
    subst (λ z. Meets (specified_asks f.context z) → IsMeantBy f x (specified f.context z ks)) (sym e)
    (λ k. typedef-meant f x (meaning f.context.scopes x) refl k.0) m
names-meant at x (a_struct ms m) e = absurd (cc)
names-meant at x (an_enum m es) e = absurd (cc)

level-words : (l : Level) (xs : t.SpecifierList) → Meets (level_asks l xs) → rule_1 xs ≡ true
level-words of_the_file xs m = m.0
level-words of_members xs m = m.0

specifies-meant : {f g : FilePlace} {l : Level} {xs : t.SpecifierList} {q : Qualified} → Specify l f xs q g → IsMeant f xs q
specifies-meant {f = f} {l = l} (of_specifiers {xs = xs} {q = r} m n) = by-place (alone xs (level-words l xs m)) (λ at e. names-meant at (typedef_in xs) n e)
  where
    by-place : IsAlone xs → ((at : ℕ) → named_in xs ≡ t.typedef_specifier at (typedef_in xs) ∷ [] → IsMeantBy f (typedef_in xs) r) → IsMeant f xs (with_const (has_const xs) r)
    by-place (inl k) own = inl k
    by-place (inr k) own = inr (own k.0 k.1)

meant-later : (f g : FilePlace) (xs : t.SpecifierList) (q : Qualified) → Grows f g → IsMeant f xs q → IsMeant g xs q
meant-later f g xs q k (inl e) = inl e
meant-later f g xs q k (inr h) = inr (h.0, h.1, k.means (typedef_in xs) (a_typedef h.0 h.1) h.2, h.3)

meant-function : (f : FilePlace) (xs : t.SpecifierList) (q : Qualified) (o : Walk) → IsMeant f xs q → IsWalked f o → is_in (typedef_in xs) o.functions ≡ true → is_function q.type ≡ true
meant-function f xs q o (inl k) h e =
    let none : is_in [] o.functions ≡ true = ap (λ z. is_in z o.functions) (sym k) ∙ e in
    let other = h.named in
    absurd (cc)
meant-function f xs q o (inr k) h e =
    let own = h.functions (typedef_in xs) e in
    let is : Some (a_typedef k.0 k.1) ≡ Some (a_typedef own.0 own.1) = sym k.2 ∙ own.2 in
    let same : k.1 ≡ own.1 = cc in
    ap is_function (k.3 ∙ same) ∙ own.3

-- an initialiser isn't for a function

pub no-function : {c : Context} {at : ℕ} {i : t.Initializer} {ps : List Item} (a : CType) → is_function a ≡ true → Initialised c a at i ps → ⊥
no-function (function r qs) e (initialised m s) = elim s [ ]
no-function void e d = absurd (cc)
no-function (integer k) e d = absurd (cc)
no-function (pointer k a) e d = absurd (cc)
no-function (array a n) e d = absurd (cc)
no-function (unsized a) e d = absurd (cc)
no-function (struct n) e d = absurd (cc)

no-value : {f : FilePlace} {x : Name} {a : CType} {i : t.MaybeInitializer} {gs : List FirstValues} → is_function a ≡ true → MayGive f x a i gs → is_initialised i ≡ false
no-value e gives_nothing = refl
no-value {a = a} e (gives_values d k) = absurd (no-function a e d)

completed-function : (a : CType) (i : t.MaybeInitializer) → is_function a ≡ true → is_function (completed a i) ≡ true
completed-function (function r ps) i e = refl
completed-function void i e = absurd (cc)
completed-function (integer k) i e = absurd (cc)
completed-function (pointer k a) i e = absurd (cc)
completed-function (array a n) i e = absurd (cc)
completed-function (unsized a) i e = absurd (cc)
completed-function (struct n) i e = absurd (cc)

-- a declarator that isn't a definition's adds no body
no-body : (typedefs functions external whole : Bool) → (typedefs ≡ false → functions ≡ true → whole ≡ false) → (not (is_object_sort (sort_of typedefs functions)) && defines_as (sort_of typedefs functions) external whole) ≡ false
no-body true functions external whole h = refl
no-body false true external whole h = h refl refl
no-body false false external whole h = refl

not-empty : (x : Name) → (x ≡ [] → ⊥) → same_name x [] ≡ false
not-empty [] h = absurd (h refl)
not-empty (a ∷ x) h = refl

typedef-entity : (unit : Outline) (xs : t.SpecifierList) (x : Name) (c : Bool) (a : CType) → is_typedef xs ≡ true → file_entity unit xs x c a ≡ a_typedef c a
typedef-entity unit xs x c a e = ap (λ b. if b then a_typedef c a else if is_function a then a_function (callee_named unit x) c a else an_object c a (static_object (place_in x unit.statics))) e

abbrev says : t.SpecifierList → t.Declarator → Walk → Bool
says xs d o = gives_function (nearest d) (is_in (typedef_in xs) o.functions)

declarator-walked : {q : Qualified} {f : FilePlace} {d : t.Declarator} {y : Declared} (xs : t.SpecifierList) (i : t.MaybeInitializer) (o : Walk) → Declares f.context q d y → Grows f (past_declarator xs d y i f) → IsMeant f xs q → IsNamed d → IsWalked f o → IsWalked (past_declarator xs d y i f) (with_declarator xs d (is_initialised i) o)
declarator-walked {q = q} {f = f} {d = d} {y = y} xs i o p k meant named h =
    record { functions = by-test (is_typedef xs) (says xs d o) refl refl; named = empty (is_typedef xs && says xs d o) }
  where
    next : FilePlace
    next = past_declarator xs d y i f

    empty : (b : Bool) → is_in [] (if b then name_of d ∷ o.functions else o.functions) ≡ false
    empty true = ap (λ b. b || is_in [] o.functions) (not-empty (name_of d) named) ∙ h.named
    empty false = h.named

    earlier : (x : Name) → is_in x o.functions ≡ true → IsTypedefOf next x
    earlier x e = let own = h.functions x e in (own.0, own.1, k.means x (a_typedef own.0 own.1) own.2, own.3)

    newly : (x : Name) → is_typedef xs ≡ true → says xs d o ≡ true → same_name (name_of d) x ≡ true → IsTypedefOf next x
    newly x td fn e =
        let type = function-declared (is_in (typedef_in xs) o.functions) p (meant-function f xs q o meant h) fn in
        let a = completed y.type i in
        let name : name_in y.name ≡ x = declared-name p ∙ same-name-is (name_of d) x e in
        let entity = typedef-entity f.context.unit xs (name_in y.name) y.constant a td in
        let here : meaning next.context.scopes (name_in y.name) ≡ Some (file_entity f.context.unit xs (name_in y.name) y.constant a) = ap (λ z. if z then Some (file_entity f.context.unit xs (name_in y.name) y.constant a) else meaning f.context.scopes (name_in y.name)) (self-named (name_in y.name)) in
        (y.constant, a, ap (meaning next.context.scopes) (sym name) ∙ here ∙ ap Some entity, completed-function y.type i type)

    by-name : (x : Name) (b : Bool) → same_name (name_of d) x ≡ b → (b || is_in x o.functions) ≡ true → is_typedef xs ≡ true → says xs d o ≡ true → IsTypedefOf next x
    by-name x true n e td fn = newly x td fn n
    by-name x false n e td fn = earlier x e

    by-test : (b c : Bool) → is_typedef xs ≡ b → says xs d o ≡ c → (x : Name) → is_in x (if b && c then name_of d ∷ o.functions else o.functions) ≡ true → IsTypedefOf next x
    by-test true true td fn x e = by-name x (same_name (name_of d) x) refl e td fn
    by-test true false td fn x e = earlier x e
    by-test false c td fn x e = earlier x e

declarator-bodies : {q : Qualified} {f : FilePlace} {d : t.Declarator} {y : Declared} {gs : List FirstValues} {b : FilePlace} (xs : t.SpecifierList) (i : t.MaybeInitializer) (o : Walk) → Declares f.context q d y → MayGive b (name_in y.name) (completed y.type i) i gs → IsMeant f xs q → IsWalked f o → bodies_among (with_declarator xs d (is_initialised i) o).items ≡ bodies_among o.items
declarator-bodies {q = q} {f = f} {d = d} {y = y} xs i o p v meant h =
    let item : Outlined = record { name = name_of d; sort = sort_of (is_typedef xs) (says xs d o); is_extern = is_extern xs; is_whole = is_initialised i } in
    let none = no-body (is_typedef xs) (says xs d o) (is_extern xs) (is_initialised i) (λ td fn. no-value (completed-function y.type i (function-declared (is_in (typedef_in xs) o.functions) p (meant-function f xs q o meant h) fn)) v) in
    bodies-append o.items (item ∷ []) ∙ ap (λ b. bodies_among o.items ++ (if b then name_of d ∷ [] else [])) none ∙ append-nil (bodies_among o.items)

pub record IsWalkedOn (e : FilePlace) (o : Walk) (before made : List Name) : Type 0 where
  pub walked : IsWalked e o
  pub bodies : bodies_among o.items ≡ before ++ made

declared-walked : {xs : t.SpecifierList} {q : Qualified} {f e : FilePlace} {ds : t.InitDeclarators} {gs : List FirstValues} (o : Walk) → AreDeclared xs q f ds gs e → IsFine f → IsBounded f.context.known q.type → AreNamed ds → IsFileWithin f (some_declared xs q ds) → IsMeant f xs q → IsWalked f o
    → IsWalkedOn e (with_declarators xs ds o) (bodies_among o.items) []
declared-walked o none_declared h b w l meant k = record { walked = k; bodies = sym (append-nil (bodies_among o.items)) }
declared-walked {xs = xs} {q = q} {f = f} o (one_declared {d = d} {i = i} {y = y} p m v r) h b w l meant k =
    let one = declarator-step p m h b w.1 w.2 l in
    let next = past_declarator xs d y i f in
    let last = past_strings (given_strings f (completed y.type i) i) next in
    let there = declarator-walked xs i o p one.behind.grows meant w.0 k in
    let here = walked-later next last (with_declarator xs d (is_initialised i) o) (record { unit = refl; more = []; known = sym (append-nil next.context.known); words = given_strings f (completed y.type i) i; strings = refl; means = λ x e q. q }) there in
    let rest = declared-walked (with_declarator xs d (is_initialised i) o) r one.last.fine b w.3 (λ n z. l n (size_in_file_part (other_declared p) z)) (meant-later f last xs q one.last.grows meant) here in
    record { walked = rest.walked; bodies = rest.bodies ∙ ap (λ z. z ++ []) (declarator-bodies xs i o p v meant k) }

external-walked : {f e : FilePlace} {x : t.External} {gs : List FirstValues} {ks : List Func} (o : Walk) → TypedExternal f x gs ks e → IsFine f → IsWrittenExternal x → IsFileWithin f (external_node x) → IsWalked f o → IsWalkedOn e (with_external x o) (bodies_among o.items) (names_made ks)
external-walked {f = f} o (of_declaration {g = g} {xs = xs} {q = q} s d) h w l k =
    let one = specify-step s h w.0 (λ n z. l n (size_in_file_part declaration_specifiers z)) in
    let here = walked-later f g o one.step.grows k in
    declared-walked (with_lists xs o) d one.step.fine one.bounded w.1 (λ n z. l n (size_in_file_part (declared_part s) z)) (meant-later f g xs q one.step.grows (specifies-meant s)) (record { functions = here.functions; named = here.named })
external-walked {f = f} {e = e} o (of_function {g = g} {xs = xs} {d = d} {y = y} {us = us} {m = m} s p b a r is) h w l k =
    let all = external-step (of_function s p b a r is) h w l in
    let here = walked-later f e o all.grows k in
    record {
      walked = record { functions = here.functions; named = here.named };
      bodies = bodies-append o.items (body_item d ∷ []) ∙ ap (λ z. bodies_among o.items ++ z ∷ []) (sym (declared-name p));
    }

externals-walked : {f e : FilePlace} {u : t.Tree} {gs : List FirstValues} {ks : List Func} (o : Walk) → AreExternals f u gs ks e → IsFine f → IsWrittenUnit u → IsFileWithin f (some_externals u) → IsWalked f o → bodies_among (walked u o).items ≡ bodies_among o.items ++ names_made ks
externals-walked o no_external h w l k = sym (append-nil (bodies_among o.items))
externals-walked {f = f} o (an_external {g = g} {x = x} {ks = ks} {ls = ls} d r) h w l k =
    let one = external-step d h w.0 (λ n z. l n (size_in_file_part first_external z)) in
    let on = external-walked o d h w.0 (λ n z. l n (size_in_file_part first_external z)) k in
    let rest = externals-walked (with_external x o) r one.fine w.1 (λ n z. l n (size_in_file_part (other_externals d) z)) on.walked in
    rest ∙ ap (λ z. z ++ names_made ls) on.bodies ∙ append_assoc (bodies_among o.items) (names_made ks) (names_made ls) ∙ ap (λ z. bodies_among o.items ++ z) (sym (names-append ks ls))
  where
    names-append : (ks ls : List Func) → names_made (ks ++ ls) ≡ names_made ks ++ names_made ls
    names-append [] ls = refl
    names-append (k ∷ ks) ls = ap (λ z. k.name ∷ z) (names-append ks ls)

-- the functions with a body are those that the outline says, in its order
pub bodies-made : {e : FilePlace} {u : t.Tree} {gs : List FirstValues} {ks : List Func} → AreExternals (file_start u) u gs ks e → IsFine (file_start u) → IsWrittenUnit u → IsFileWithin (file_start u) (some_externals u) → (outline u).bodies ≡ names_made ks
bodies-made d h w l = externals-walked (record { functions = []; items = []; lists = [] }) d h w l (record { functions = λ x e. absurd (cc); named = refl })

-- the function of that name
pub record IsMade (ks : List Func) (n : ℕ) (x : Name) : Type 0 where
  pub made : Func
  pub there : slice_get ks n ≡ Some made
  pub name : x ≡ made.name

pub made-found : (ks : List Func) (x : Name) → is_in x (names_made ks) ≡ true → IsMade ks (place_in x (names_made ks)) x
made-found [] x e = absurd (cc)
made-found (k ∷ ks) x e = by-name (same_name k.name x) refl e (λ q. made-found ks x q)
  where
    by-name : (b : Bool) → same_name k.name x ≡ b → (b || is_in x (names_made ks)) ≡ true → (is_in x (names_made ks) ≡ true → IsMade ks (place_in x (names_made ks)) x) → IsMade (k ∷ ks) (if b then 0 else suc (place_in x (names_made ks))) x
    by-name true n e later = record { made = k; there = refl; name = sym (same-name-is k.name x n) }
    by-name false n e later = let h = later e in record { made = h.made; there = h.there; name = h.name }
