-- Functions and first values of a unit: over the whole program they are well typed.
use Rattle.std.proofs.Common.{◌≡◌, ℕ, suc, ◌+◌, ◌≤◌, ◌&&◌, ◌||◌, List, [], ◌∷◌, ◌++◌, length, length-append, append-nil, map, take, Bool, true, false, refl, sym, ap, ◌∙◌, subst, arith}
use Rattle.std.specs.Prelude.{Some, None, not, slice_get, is_some, Contains, if◌then◌else◌}
use Rattle.std.proofs.lemmas.List.{length-map}
use Rattle.std.proofs.lemmas.List.Elements.{Contains-append_left, Contains-append_right, Contains-push}
use Rattle.std.proofs.lemmas.Option.{slice_get_within}
use Rattle.im_typed.specs.im_serve.declared.service.Service.TheVariants.{Getchar, Putchar}
use Rattle.im_word.specs.Words.{Name}
use Rattle.im_ctree.specs.Tree as t
use Rattle.im_store.proofs.Same.{both-true}
use Rattle.im_num.specs.declared.kind.Kind.{Kind}
use Rattle.im_ctype.specs.Types.{CType, CTypes, no_types, more_types, void, integer, pointer, array, unsized, struct, function, Structs, is_function, is_array, is_scalar, kind_of}
use Rattle.im_ctype.specs.Layout.{Layout, layout}
use Rattle.im_ctype.proofs.CellLists.{layout-more}
use Rattle.im_typed.specs.Program.{LocalObject, Stmts, no_stmts, Block, Piece, Func, Prog}
use Rattle.im_typed.specs.Typing.{Each, parameters as typed_parameters, result_shape, IsObject, IsOneCell, IsTypedFunc, AreFirstValues}
use Rattle.im_rules.specs.TypeTests.{same_name, is_complete_in, result_of, parameters_of as types_given}
use Rattle.im_rules.specs.Rules.{is_typedef, named_in, rule_2, rule_5, rule_9_result, rule_11}
use Rattle.im_rules.specs.Scopes.{Entity, an_object, a_function, an_enumerator, a_typedef, static_object, local_object, a_body, no_body, a_service, Scopes, nothing, opened, named, tagged, meaning}
use Rattle.im_rules.specs.Outline.{Outline, is_in, place_in, name_of, Nearest, parameters, nearest, is_initialised}
use Rattle.im_rules.specs.Context.{Context, in_new_scope}
use Rattle.im_rules.specs.Terms.{kind_in}
use Rattle.im_rules.specs.Declared.{Qualified, Declared, behind_specifiers, with_parameter, with_parameters, types_of, parameters_of}
use Rattle.im_rules.specs.Initialisers.{Item, completed, strings_given, piece_of, pieces_of}
use Rattle.im_rules.specs.StaticValues.{static_value, is_source_reached, cell_values}
use Rattle.im_rules.specs.Demands.{Meets}
use Rattle.im_rules.specs.Typed.{Declares, AreParameters}
use Rattle.im_rules.specs.Statements.{Added, TypedItems, name_of as name_in, object_of}
use Rattle.im_rules.specs.FileScope.{FilePlace, past_strings, file_entity, file_asks, is_object_entity, callee_named, getchar_name, putchar_name, body_asks, has_own_parameters, own_parameters, static_size, of_the_file}
use Rattle.im_rules.specs.TypedUnit.{Specify, FirstValues, AreConstants, MayGive, gives_nothing, gives_values, past_declarator, past_head, given_strings, AreDeclared, none_declared, one_declared, parameter_objects, body_site, function_made, string_statics, static_named, program, TypedExternal, of_declaration, of_function, AreExternals, no_external, an_external}
use Rattle.im_rules.specs.UnitBreaks.{some_declared, an_external as external_node, some_externals, first_external, other_externals, declaration_specifiers, declared_part, function_specifiers, other_declared}
use Rattle.im_rules_limits.proofs.First.{taken-append}
use Rattle.im_rules_limits.specs.Limits.{words_of, words_in, words_meant, head_in, head_by, heads_of, heads_external, function_heads, words_taken, parameter_counts, size_in_file_part, size_in_static_initialiser, size_in_body, IsFileWithin}
use Rattle.im_rules_sound.specs.Sound.{gives, TakeTypes, IsSoundCallee}
use Rattle.im_rules_sound_expressions.specs.Bounded.{IsBounded, AreScalars, AreBoundedTypes, EachEntity, IsSoundEntity, IsSoundContext, HasStrings}
use Rattle.im_rules_sound_expressions.proofs.Types.{each-at, each-kept, complete-is-object, kind-small}
use Rattle.im_rules_sound_expressions.proofs.Declarators.{tags-kept, name-kept}
use Rattle.im_rules_sound_expressions.specs.Written.{MayBeInitialised, AreWrittenItems}
use Rattle.im_rules_sound_statements.specs.Sites.{IsSoundSite, StandFrom, AreObjects}
use Rattle.im_rules_sound_statements.proofs.Initialisers.{initialisers}
use Rattle.im_rules_sound_statements.proofs.Standing.{own-cells-stand}
use Rattle.im_rules_sound_statements.proofs.Statements.{items}
use Rattle.im_rules_sound_statements.proofs.Sites.{stand-right, objects-append}
use Rattle.im_rules_sound_places.specs.Units.{AreNamed, IsWrittenExternal, IsWrittenUnit}
use Rattle.im_rules_sound_places.specs.Places.{IsFileEntity, Means, IsFine, Grows}
use Rattle.im_rules_sound_places.proofs.Places.{grows-trans, self-named}
use Rattle.im_rules_sound_places.proofs.Heads.{declared-name}
use Rattle.im_rules_sound_places.proofs.Specifiers.{specify-step}
use Rattle.im_rules_sound_places.proofs.Files.{declarator-step, declared-step, head-step, external-step, externals-step}
use Rattle.im_rules_sound_unit.proofs.Values.{static-fits, values-good, IsGivenTo, join-each}
use Rattle.im_rules_sound_unit.proofs.Bodies.{IsHeaded, headed as head-means, head-known, take-front, count-objects, names_made, made-found, no-function, own-found}

-- parameters, as objects

parameter-object : (known : Structs) (x : Name) (a : CType) → is_scalar a ≡ true → IsObject (object_of known x a).size (object_of known x a).cells × IsOneCell (object_of known x a).cells
parameter-object known x (integer i) e = let k = (kind-small (kind_of i)).1 in (complete-is-object known (integer i) (omega (arith, k)), refl)
parameter-object known x (pointer c a) e = (complete-is-object known (pointer c a) (omega arith), refl)
parameter-object known x void e = absurd (cc)
parameter-object known x (array a n) e = absurd (cc)
parameter-object known x (unsized a) e = absurd (cc)
parameter-object known x (struct n) e = absurd (cc)
parameter-object known x (function r ps) e = absurd (cc)

parameters-are-objects : (known : Structs) (ds : List Declared) → AreScalars (types_of ds) → AreObjects (parameter_objects known ds)
parameters-are-objects known [] h = tt
parameters-are-objects known (d ∷ ds) h = ((parameter-object known (name_in d.name) d.type h.0).0, parameters-are-objects known ds h.1)

parameters-are-cells : (known : Structs) (ds : List Declared) → AreScalars (types_of ds) → Each {A = LocalObject} (λ o. IsOneCell o.cells) (parameter_objects known ds)
parameters-are-cells known [] h = tt
parameters-are-cells known (d ∷ ds) h = ((parameter-object known (name_in d.name) d.type h.0).1, parameters-are-cells known ds h.1)

-- each parameter takes a word

words-positive : (k : Kind) → 1 ≤ words_of k
words-positive k = let bytes = (kind-small k).0 in omega (arith, bytes)

takes-words : (ps : CTypes) (os : List LocalObject) → TakeTypes ps os → length os ≤ words_in ps
takes-words no_types [] h = omega arith
takes-words no_types (o ∷ os) h = absurd h
takes-words (more_types p ps) [] h = absurd h
takes-words (more_types p ps) (o ∷ os) h =
    let one = words-positive (kind_in p) in
    let rest = takes-words ps os h.2 in
    omega (arith, one, rest)

own-heads : (d : t.Declarator) (n : Nearest) → n ≡ parameters (own_parameters n) → head_by n d ≡ head_in d ∷ []
own-heads d n e = ap (λ m. head_by m d) e

scalar-complete : (known : Structs) (a : CType) → is_scalar a ≡ true → is_complete_in known a ≡ true
scalar-complete known (integer i) e = refl
scalar-complete known (pointer c a) e = refl
scalar-complete known void e = absurd (cc)
scalar-complete known (array a n) e = absurd (cc)
scalar-complete known (unsized a) e = absurd (cc)
scalar-complete known (struct n) e = absurd (cc)
scalar-complete known (function r ps) e = absurd (cc)

plain-result : (r : CType) → rule_9_result r ≡ true → is_array r ≡ false
plain-result void e = refl
plain-result (integer i) e = refl
plain-result (pointer c a) e = refl
plain-result (array a n) e = absurd (cc)
plain-result (unsized a) e = absurd (cc)
plain-result (struct n) e = refl
plain-result (function q ps) e = refl

result-scalar : (known : Structs) (a : CType) → IsBounded known a → is_function a ≡ true → rule_9_result (result_of a) ≡ true
result-scalar known (function r ps) b e = b.2
result-scalar known void b e = absurd (cc)
result-scalar known (integer i) b e = absurd (cc)
result-scalar known (pointer c a) b e = absurd (cc)
result-scalar known (array a n) b e = absurd (cc)
result-scalar known (unsized a) b e = absurd (cc)
result-scalar known (struct n) b e = absurd (cc)

gives-alike : (known ss : Structs) (r : CType) → rule_9_result r ≡ true → gives known r ≡ gives ss r
gives-alike known ss void e = refl
gives-alike known ss (integer i) e = refl
gives-alike known ss (pointer c a) e = refl
gives-alike known ss (array a n) e = refl
gives-alike known ss (unsized a) e = refl
gives-alike known ss (struct n) e = absurd (cc)
gives-alike known ss (function q ps) e = refl

each-pair : (P Q : Name → Entity → Type 0) (s : Scopes) → EachEntity P s → EachEntity Q s → EachEntity (λ x e. P x e × Q x e) s
each-pair P Q nothing h k = tt
each-pair P Q (opened s) h k = each-pair P Q s h k
each-pair P Q (named x e s) h k = ((h.0, k.0), each-pair P Q s h.1 k.1)
each-pair P Q (tagged x g s) h k = each-pair P Q s h k

count-strings : (known : Structs) (k : ℕ) (ss : List Name) → length (string_statics known k ss) ≡ length ss
count-strings known k [] = refl
count-strings known k (s ∷ ss) = ap suc (count-strings known (k + 1) ss)

-- the whole program

module _ (last : FilePlace) (gs : List FirstValues) (ks : List Func) (fine : IsFine last) (headed : Each (IsHeaded last) ks) (bodies : last.context.unit.bodies ≡ names_made ks) where
  abbrev g : Prog
  g = program last gs ks

  count-statics : length g.statics ≡ length last.context.unit.statics + length last.strings
  count-statics =
      let a = length-append (map (static_named last gs) last.context.unit.statics) (string_statics last.context.known 1 last.strings) in
      let b = length-map {A = Name} last.context.unit.statics (static_named last gs) in
      let c = count-strings last.context.known 1 last.strings in
      omega (arith, a, b, c)

  -- what is called

  body-sound : (known : Structs) (x : Name) (k : Bool) (a : CType) → IsBounded known a → is_function a ≡ true → meaning last.context.scopes x ≡ Some (a_function (callee_named last.context.unit x) k a) → is_in x last.context.unit.bodies ≡ true → IsSoundCallee g known (a_body (place_in x last.context.unit.bodies)) a
  body-sound known x k a b fn means e =
      let found = made-found ks x (ap (λ z. is_in x z) (sym bodies) ∙ e) in
      let number : place_in x last.context.unit.bodies ≡ place_in x (names_made ks) = ap (place_in x) bodies in
      let there : slice_get ks (place_in x last.context.unit.bodies) ≡ Some found.made = ap (slice_get ks) number ∙ found.there in
      let own = each-at (IsHeaded last) ks (place_in x (names_made ks)) found.made headed found.there in
      let named_so : meaning last.context.scopes x ≡ Some (a_function (callee_named last.context.unit found.made.name) own.constant own.type) = ap (meaning last.context.scopes) found.name ∙ own.means in
      let is : Some (a_function (callee_named last.context.unit x) k a) ≡ Some (a_function (callee_named last.context.unit found.made.name) own.constant own.type) = sym means ∙ named_so in
      let type : own.type ≡ a = cc in
      let scalar = result-scalar known a b fn in (
        slice_get_within ks (place_in x last.context.unit.bodies) found.made there,
        subst (λ o. TakeTypes (types_given a) (typed_parameters o)) (sym there) (subst (λ z. TakeTypes (types_given z) (take found.made.params found.made.objects)) type own.takes),
        ap result_shape there ∙ own.result ∙ ap (λ z. gives last.context.known (result_of z)) type ∙ gives-alike last.context.known known (result_of a) scalar,
        plain-result (result_of a) scalar,
      )

  callee-sound : (known : Structs) (x : Name) (k : Bool) (a : CType) → IsFileEntity known last.context.unit x (a_function (callee_named last.context.unit x) k a) → meaning last.context.scopes x ≡ Some (a_function (callee_named last.context.unit x) k a) → IsSoundCallee g known (callee_named last.context.unit x) a
  callee-sound known x k a own means = by-get (same_name getchar_name x) refl
    where
      by-body : (b : Bool) → is_in x last.context.unit.bodies ≡ b → IsSoundCallee g known (if b then a_body (place_in x last.context.unit.bodies) else no_body) a
      by-body true e = body-sound known x k a own.0 own.1 means e
      by-body false e = tt

      by-put : (b : Bool) → same_name putchar_name x ≡ b → IsSoundCallee g known (if b then (a_service Putchar) else if is_in x last.context.unit.bodies then a_body (place_in x last.context.unit.bodies) else no_body) a
      by-put true e = own.4 e
      by-put false e = by-body (is_in x last.context.unit.bodies) refl

      by-get : (b : Bool) → same_name getchar_name x ≡ b → IsSoundCallee g known (if b then (a_service Getchar) else if same_name putchar_name x then (a_service Putchar) else if is_in x last.context.unit.bodies then a_body (place_in x last.context.unit.bodies) else no_body) a
      by-get true e = own.3 e
      by-get false e = by-put (same_name putchar_name x) refl

  -- places at file scope

  entity-sound : (f : FilePlace) (fn : Func) → Grows f last → (x : Name) (e : Entity) → IsFileEntity f.context.known f.context.unit x e × Means f.context.scopes x e → IsSoundEntity g fn f.context.known f.context.unit x e
  entity-sound f fn k x (an_object c a (static_object n)) h = h.0
  entity-sound f fn k x (an_object c a (local_object n)) h = absurd h.0
  entity-sound f fn grown x (a_function c k a) h =
      let callee : c ≡ callee_named last.context.unit x = h.0.2 ∙ ap (λ u. callee_named u x) (sym grown.unit) in
      let means : meaning last.context.scopes x ≡ Some (a_function (callee_named last.context.unit x) k a) = grown.means x (a_function c k a) h.1 ∙ ap (λ d. Some (a_function d k a)) callee in
      let own : IsFileEntity f.context.known last.context.unit x (a_function (callee_named last.context.unit x) k a) = (h.0.0, h.0.1, refl, h.0.3, h.0.4) in
      (h.0.0, subst (λ d. IsSoundCallee g f.context.known d a) (sym callee) (callee-sound f.context.known x k a own means))
  entity-sound f fn k x (an_enumerator z) h = h.0
  entity-sound f fn k x (a_typedef c a) h = h.0

  context-sound : (f : FilePlace) (fn : Func) → IsFine f → Grows f last → IsSoundContext g fn f.context
  context-sound f fn h k =
      let count = count-statics in
      let same = ap (λ (u : Outline). length u.statics) k.unit in
      record {
        structs = h.structs;
        entities = each-kept (λ x e. IsFileEntity f.context.known f.context.unit x e × Means f.context.scopes x e) (IsSoundEntity g fn f.context.known f.context.unit) f.context.scopes (entity-sound f fn k) (each-pair (IsFileEntity f.context.known f.context.unit) (Means f.context.scopes) f.context.scopes h.entities h.means);
        statics = omega (arith, count, same);
      }

  strings-there : (f : FilePlace) (ss : List Name) → IsFine f → Grows (past_strings ss f) last → HasStrings g f.context ss
  strings-there f ss h k =
      let count = count-statics in
      let same = ap (λ (u : Outline). length u.statics) k.unit in
      let next = h.next in
      let all = ap length k.strings in
      let l1 = length-append (f.strings ++ ss) k.words in
      let l2 = length-append f.strings ss in
      omega (arith, count, same, next, all, l1, l2)

  -- first values

  constants-given : (f : FilePlace) (ps : List Item) → AreConstants f ps → Each {A = Piece} (λ p. is_some (static_value (static_size f) p.value) ≡ true) (pieces_of f.context.known ps)
  constants-given f [] h = tt
  constants-given f (p ∷ ps) h = ((both-true (is_source_reached p.source) (is_some (static_value (static_size f) (piece_of f.context.known p).value)) h.0.0).1, constants-given f ps h.1)

  object-entity : (unit : Outline) (xs : t.SpecifierList) (x : Name) (c : Bool) (a : CType) → rule_2 xs true ≡ true → is_function a ≡ false → file_entity unit xs x c a ≡ an_object c a (static_object (place_in x unit.statics))
  object-entity unit xs x c a r e = by-typedef (is_typedef xs) r
    where
      by-typedef : (b : Bool) → not (b && true) ≡ true → (if b then a_typedef c a else if is_function a then a_function (callee_named unit x) c a else an_object c a (static_object (place_in x unit.statics))) ≡ an_object c a (static_object (place_in x unit.statics))
      by-typedef true r = absurd (cc)
      by-typedef false r = ap (λ b. if b then a_function (callee_named unit x) c a else an_object c a (static_object (place_in x unit.statics))) e

  no-function-is : (b : Bool) → (b ≡ true → ⊥) → b ≡ false
  no-function-is true h = absurd (h refl)
  no-function-is false h = refl

  -- no function is around a static's initialiser
  abbrev around : Func
  around = record { name = []; params = 0; result = None; objects = []; body = Block no_stmts }

  given-good : {xs : t.SpecifierList} {q : Qualified} {f : FilePlace} {d : t.Declarator} {i : t.MaybeInitializer} {ds : t.InitDeclarators} {y : Declared} {vs : List FirstValues} → Declares f.context q d y → Meets (file_asks f xs y (completed y.type i) (is_initialised i)) → MayGive (past_declarator xs d y i f) (name_in y.name) (completed y.type i) i vs
      → MayBeInitialised i → IsFine (past_declarator xs d y i f) → IsBounded f.context.known (completed y.type i) → IsFine (past_strings (given_strings f (completed y.type i) i) (past_declarator xs d y i f)) → Grows (past_strings (given_strings f (completed y.type i) i) (past_declarator xs d y i f)) last
      → IsFileWithin f (some_declared xs q (t.more_init_declarators d i ds)) → Each (IsGivenTo g.statics last) vs
  given-good p m gives_nothing w h b hl k l = tt
  given-good {xs = xs} {q = q} {f = f} {d = d} {y = y} p m (gives_values {i = j} {ps = ps} v c) w h b hl k l =
      let a = completed y.type (t.an_initializer j) in
      let next = past_declarator xs d y (t.an_initializer j) f in
      let place = past_strings (strings_given f.context.known a j) next in
      let x = name_in y.name in
      let known = f.context.known in
      let plain : is_function a ≡ false = no-function-is (is_function a) (λ e. no-function a e v) in
      let entity = object-entity f.context.unit xs x y.constant a m.0 plain in
      let complete : is_complete_in known a ≡ true = subst (λ e. (not (is_object_entity e) || rule_5 known a) ≡ true) entity m.1.1.1.1.0 in
      let grown : Grows next last = grows-trans next place last (record { unit = refl; more = []; known = sym (append-nil known); words = strings_given known a j; strings = refl; means = λ x e q. q }) k in
      let own = initialisers g around next.context a j ps v w (context-sound next around h grown) b complete (strings-there next (strings_given known a j) h k) (λ n z. l n (size_in_static_initialiser p z)) in
      let cells = (layout known a).cells in
      let values = values-good g around (static_size place) (static-fits place last gs ks hl k) cells cells (own-cells-stand known a) (pieces_of known ps) own.0 (constants-given place ps c) in
      let later : (layout last.context.known a).cells ≡ cells = ap (λ s. (layout s a).cells) k.known ∙ ap (λ (z : Layout). z.cells) (layout-more known k.more a complete) in
      let here : meaning next.context.scopes x ≡ Some (file_entity f.context.unit xs x y.constant a) = ap (λ z. if z then Some (file_entity f.context.unit xs x y.constant a) else meaning f.context.scopes x) (self-named x) in (
        record {
          constant = y.constant;
          type = a;
          storage = static_object (place_in x f.context.unit.statics);
          means = grown.means x (an_object y.constant a (static_object (place_in x f.context.unit.statics))) (here ∙ ap Some entity);
          values = subst (λ cs. AreFirstValues g.statics cs (cell_values (static_size place) cells (pieces_of known ps))) (sym later) values;
        },
        tt,
      )

  declared-given : {xs : t.SpecifierList} {q : Qualified} {f e : FilePlace} {ds : t.InitDeclarators} {vs : List FirstValues} → AreDeclared xs q f ds vs e → IsFine f → IsBounded f.context.known q.type → AreNamed ds → IsFileWithin f (some_declared xs q ds) → Grows e last → Each (IsGivenTo g.statics last) vs
  declared-given none_declared h b w l k = tt
  declared-given {xs = xs} {q = q} {f = f} {e = e} (one_declared {d = d} {i = i} {ds = ds} {y = y} {gs = us} {hs = hs} p m v r) h b w l k =
      let one = declarator-step p m h b w.1 w.2 l in
      let place = past_strings (given_strings f (completed y.type i) i) (past_declarator xs d y i f) in
      let rest = declared-step r one.last.fine b w.3 (λ n z. l n (size_in_file_part (other_declared p) z)) in
      let first = given-good p m v w.2 one.behind.fine one.bounded one.last.fine (grows-trans place e last rest.grows k) l in
      join-each (IsGivenTo g.statics last) us hs first (declared-given r one.last.fine b w.3 (λ n z. l n (size_in_file_part (other_declared p) z)) k)

  -- parameters in scope

  record AreInScope (fn : Func) (c b : Context) : Type 0 where
    pub context : IsSoundContext g fn b
    pub next : b.next_string ≡ c.next_string

  parameters-in-scope : (fn : Func) (n : ℕ) (ps : t.Parameters) (ds : List Declared) (c : Context) → IsSoundContext g fn c → AreBoundedTypes c.known (types_of ds) → AreScalars (types_of ds) → n + length ds ≤ length fn.objects → AreInScope fn c (with_parameters n ps ds c)
  parameters-in-scope fn n t.no_parameters ds c h b s le = record { context = h; next = refl }
  parameters-in-scope fn n (t.more_parameters (t.specifiers at xs) m ps) [] c h b s le = record { context = h; next = refl }
  parameters-in-scope fn n (t.more_parameters (t.specifiers at xs) m ps) (d ∷ ds) c h b s le =
      let inner = with_parameter n d (behind_specifiers c xs) in
      let own : IsSoundEntity g fn c.known c.unit [] (an_object d.constant d.type (local_object n)) = (b.0, scalar-complete c.known d.type s.0, omega (arith, le)) in
      let context : IsSoundContext g fn inner = record {
        structs = h.structs;
        entities = name-kept (IsSoundEntity g fn c.known c.unit) d.name (an_object d.constant d.type (local_object n)) (behind_specifiers c xs).scopes (λ y. own) (tags-kept (IsSoundEntity g fn c.known c.unit) c (named_in xs) h.entities);
        statics = h.statics;
      } in
      let rest = parameters-in-scope fn (n + 1) ps ds inner context b.1 s.1 (omega (arith, le)) in
      record { context = rest.context; next = rest.next }

  -- functions

  pub record IsGoodFunc (f : Func) : Type 0 where
    pub typed : IsTypedFunc g f
    pub few : f.params ≤ 8

  function-good : {f h : FilePlace} {at at' : ℕ} {xs : t.SpecifierList} {q : Qualified} {d : t.Declarator} {y : Declared} {ps : List Declared} {is : t.BlockItems} {us : Stmts} {m : Added} (s : Specify of_the_file f xs q h) (p : Declares h.context q d y) → Meets (body_asks d y) → (r : AreParameters (in_new_scope h.context) 0 (own_parameters (nearest d)) ps)
      → TypedItems (body_site (past_head xs d y h) (result_of y.type) (own_parameters (nearest d)) (parameters_of (own_parameters (nearest d)) ps)) is us m
      → AreWrittenItems is → IsBounded h.context.known y.type → IsFine (past_head xs d y h) → Grows (past_strings m.strings (past_head xs d y h)) last → IsFileWithin f (external_node (t.function_definition (t.specifiers at xs) d (t.block at' is)))
      → Meets (file_asks h xs y y.type true) → ((n : ℕ) → Contains (words_taken last.context.scopes (heads_of d)) n → n ≤ 8) → IsGoodFunc (function_made (past_head xs d y h) y (parameters_of (own_parameters (nearest d)) ps) us m)
  function-good {f = f} {h = h} {xs = xs} {d = d} {y = y} {ps = ps} {is = is} {us = us} {m = m} s p b r body w bounded fine_head k l a few =
      let own = own_parameters (nearest d) in
      let ds = parameters_of own ps in
      let place = past_head xs d y h in
      let fn = function_made place y ds us m in
      let head = head-known {g = h} p b r bounded in
      let known = h.context.known in
      let count = count-objects known ds in
      let all = length-append (parameter_objects known ds) m.objects in
      let grown : Grows place last = grows-trans place (past_strings m.strings place) last (record { unit = refl; more = []; known = sym (append-nil known); words = m.strings; strings = refl; means = λ x e q. q }) k in
      let outer = context-sound place fn fine_head grown in
      let opened_so : IsSoundContext g fn (in_new_scope place.context) = record { structs = outer.structs; entities = outer.entities; statics = outer.statics } in
      let scope = parameters-in-scope fn 0 own ds (in_new_scope place.context) opened_so head.bounded head.scalars (omega (arith, count, all)) in
      let strings = strings-there place m.strings fine_head k in
      let moved = scope.next in
      let site : IsSoundSite g fn (body_site place (result_of y.type) own ds) m = record {
        context = scope.context;
        strings = omega (arith, strings, moved);
        objects = subst (λ n. StandFrom fn.objects n m.objects) (omega (arith, count)) (stand-right fn.objects (parameter_objects known ds) m.objects 0 (λ i o e. ap (slice_get fn.objects) (omega arith) ∙ e));
        result = refl;
        scalar = ap (λ a. rule_9_result (result_of a)) head.type ∙ head.scalar;
      } in
      let typed = items g fn (body_site place (result_of y.type) own ds) is us m body w site (λ n z. l n (size_in_body s p r z)) in
      let found = both-true (has_own_parameters (nearest d)) (rule_11 y.type own) b.0 in
      let headed_so = head-means h xs us m p b a r bounded grown in
      let x = name_in y.name in
      let words = words_in (types_given headed_so.type) in
      let named_so : meaning last.context.scopes (name_of d) ≡ Some (a_function (callee_named last.context.unit x) headed_so.constant headed_so.type) =
      ap (meaning last.context.scopes) (sym (declared-name p)) ∙ headed_so.means in
      let heads = own-heads d (nearest d) (own-found (nearest d) found.0) in
      let taken : words_taken last.context.scopes (heads_of d) ≡ words ∷ [] = ap (words_taken last.context.scopes) heads ∙ ap (λ e. words_meant e ∷ []) named_so in
      let limit = few words (subst (λ z. Contains z words) (sym taken) (Contains-push [] words)) in
      let fewer : length (take (length ds) fn.objects) ≤ words = takes-words (types_given headed_so.type) (take (length ds) fn.objects) headed_so.takes in
      let same : length (take (length ds) fn.objects) ≡ length ds =
      ap length (ap (λ n. take n fn.objects) (sym count) ∙ take-front (parameter_objects known ds) m.objects) ∙ count in
      record {
        typed = (
          omega (arith, count, all),
          objects-append (parameter_objects known ds) m.objects (parameters-are-objects known ds head.scalars) typed.1,
          subst (Each {A = LocalObject} (λ o. IsOneCell o.cells)) (sym (ap (λ n. take n (parameter_objects known ds ++ m.objects)) (sym count) ∙ take-front (parameter_objects known ds) m.objects)) (parameters-are-cells known ds head.scalars),
          typed.0,
        );
        few = omega (arith, limit, fewer, same);
      }

  external-good : {f e : FilePlace} {x : t.External} {vs : List FirstValues} {js : List Func} → TypedExternal f x vs js e → IsFine f → IsWrittenExternal x → IsFileWithin f (external_node x) → Grows e last → ((n : ℕ) → Contains (words_taken last.context.scopes (heads_external x)) n → n ≤ 8) → Each (IsGivenTo g.statics last) vs × Each IsGoodFunc js
  external-good (of_declaration s d) h w l k few =
      let one = specify-step s h w.0 (λ n z. l n (size_in_file_part declaration_specifiers z)) in
      (declared-given d one.step.fine one.bounded w.1 (λ n z. l n (size_in_file_part (declared_part s) z)) k, tt)
  external-good (of_function s p b a r body) h w l k few =
      let one = specify-step s h w.0 (λ n z. l n (size_in_file_part function_specifiers z)) in
      let head = head-step s p a one.step.fine one.bounded w.2 l in
      (tt, (function-good s p b r body w.3 head.own head.behind.fine k l a few, tt))

  pub externals-good : {f : FilePlace} {u : t.Tree} {vs : List FirstValues} {js : List Func} → AreExternals f u vs js last → IsFine f → IsWrittenUnit u → IsFileWithin f (some_externals u) → ((n : ℕ) → Contains (parameter_counts last.context.scopes u) n → n ≤ 8) → Each (IsGivenTo g.statics last) vs × Each IsGoodFunc js
  externals-good no_external h w l few = (tt, tt)
  externals-good (an_external {x = x} {xs = xs} {gs = us} {hs = hs} {ks = js} {ls = ls} d r) h w l few =
      let scopes = last.context.scopes in
      let both : words_taken scopes (heads_external x ++ function_heads xs) ≡ words_taken scopes (heads_external x) ++ parameter_counts scopes xs = taken-append scopes (heads_external x) (function_heads xs) in
      let all : (n : ℕ) → Contains (words_taken scopes (heads_external x) ++ parameter_counts scopes xs) n → n ≤ 8 = λ n c. few n (subst (λ z. Contains z n) (sym both) c) in
      let one = external-step d h w.0 (λ n z. l n (size_in_file_part first_external z)) in
      let rest = externals-step r one.fine w.1 (λ n z. l n (size_in_file_part (other_externals d) z)) in
      let first = external-good d h w.0 (λ n z. l n (size_in_file_part first_external z)) rest.grows (λ n c. all n (Contains-append_left (words_taken scopes (heads_external x)) (parameter_counts scopes xs) n c)) in
      let others = externals-good r one.fine w.1 (λ n z. l n (size_in_file_part (other_externals d) z)) (λ n c. all n (Contains-append_right (words_taken scopes (heads_external x)) (parameter_counts scopes xs) n c)) in
      (join-each (IsGivenTo g.statics last) us hs first.0 others.0, join-each IsGoodFunc js ls first.1 others.1)
