-- External declarations, one behind the other: what stands behind them.
use Rattle.std.proofs.Common.{◌≡◌, ℕ, ◌≤◌, ◌&&◌, ◌||◌, List, [], Bool, true, false, refl, sym, ap, ◌∙◌, subst, arith}
use Rattle.std.specs.Prelude.{Some, not, if◌then◌else◌}
use Rattle.im_word.specs.Words.{Name}
use Rattle.im_ctree.specs.Tree as t
use Rattle.im_store.proofs.Same.{both-true}
use Rattle.im_ctype.specs.Types.{CType, void, integer, pointer, array, unsized, struct, function, Structs, same_type, is_function}
use Rattle.im_ctype.proofs.Same.{same-is}
use Rattle.im_typed.specs.Program.{Func}
use Rattle.im_rules.specs.TypeTests.{same_name, is_complete_in}
use Rattle.im_rules.specs.Rules.{is_typedef, rule_2, rule_3, rule_5, rule_12_builtin}
use Rattle.im_rules.specs.Scopes.{Entity, an_object, a_function, a_typedef, static_object, meaning}
use Rattle.im_rules.specs.Strings.{strings_of_declarator}
use Rattle.im_rules.specs.Outline.{Outline, outline, is_in, place_in, is_initialised}
use Rattle.im_rules.specs.Declared.{Qualified, Declared}
use Rattle.im_rules.specs.Terms.{size_in}
use Rattle.im_rules.specs.Initialisers.{completed, counted}
use Rattle.im_rules.specs.Statements.{name_of as name_in}
use Rattle.im_rules.specs.Demands.{Meets}
use Rattle.im_rules.specs.Typed.{Declares}
use Rattle.im_rules.specs.FileScope.{FilePlace, past_strings, file_start, file_asks, file_entity, is_object_entity, keeps_builtin, callee_named, getchar_name, putchar_name, getchar_type, putchar_type, with_declared, of_the_file}
use Rattle.im_rules.specs.TypedUnit.{Specify, FirstValues, past_declarator, past_head, given_strings, AreDeclared, none_declared, one_declared, TypedExternal, of_declaration, of_function, AreExternals, no_external, an_external}
use Rattle.im_rules.specs.UnitBreaks.{some_declared, an_external as external_node, some_externals, first_external, other_externals, declaration_specifiers, declared_part, function_specifiers, other_declared, file_declarator, function_declarator}
use Rattle.im_rules_limits.proofs.Counted.{counted-within}
use Rattle.im_rules_limits.specs.Limits.{size_limit, of_static, size_in_file_part, size_in_file_inner, IsFileWithin}
use Rattle.im_rules_sound_expressions.specs.Bounded.{IsBounded}
use Rattle.im_rules_sound_expressions.specs.Written.{AllBytes, MayBeInitialised}
use Rattle.im_rules_sound_expressions.proofs.Types.{same-name-is, each-meaning}
use Rattle.im_rules_sound_expressions.proofs.Declarators.{declares-bounded}
use Rattle.im_rules_sound_places.specs.Units.{AreNamed, IsWrittenExternal, IsWrittenUnit}
use Rattle.im_rules_sound_places.specs.Places.{IsFileEntity, IsFine, IsStep}
use Rattle.im_rules_sound_places.proofs.Places.{step-trans, step-none, step-strings, step-named, here-means, rule-same, typedefs-at}
use Rattle.im_rules_sound_places.proofs.Bytes.{bytes-given, bytes-items}
use Rattle.im_rules_sound_places.proofs.Specifiers.{specify-step}

-- what is declared

builtin-same : (own : CType) (c : Bool) (a : CType) (whole : Bool) → rule_12_builtin own c a whole ≡ true → a ≡ own
builtin-same own c a whole e =
    let plain = (both-true (same_type own a && not c) (not whole) e).0 in
    sym (same-is own a (both-true (same_type own a) (not c) plain).0)

keeps-getchar : (x : Name) (c : Bool) (a : CType) (whole : Bool) → keeps_builtin x c a whole ≡ true → same_name getchar_name x ≡ true → a ≡ getchar_type
keeps-getchar x c a whole k e =
    builtin-same getchar_type c a whole (ap (λ b. if b then rule_12_builtin getchar_type c a whole else (if same_name putchar_name x then rule_12_builtin putchar_type c a whole else true)) (sym e) ∙ k)

keeps-putchar : (x : Name) (c : Bool) (a : CType) (whole : Bool) → keeps_builtin x c a whole ≡ true → same_name putchar_name x ≡ true → a ≡ putchar_type
keeps-putchar x c a whole k e =
    let is : putchar_name ≡ x = same-name-is putchar_name x e in
    builtin-same putchar_type c a whole (subst (λ y. keeps_builtin y c a whole ≡ true) (sym is) k)

module _ (known : Structs) (unit : Outline) (xs : t.SpecifierList) (x : Name) (c : Bool) (a : CType) where
  abbrev entity : Bool → Bool → Entity
  entity typedefs functions =
      if typedefs then a_typedef c a
      else if functions then a_function (callee_named unit x) c a
      else an_object c a (static_object (place_in x unit.statics))

  entity-fine : (whole typedefs functions : Bool) → is_function a ≡ functions → IsBounded known a → (not (is_object_entity (entity typedefs functions)) || rule_5 known a) ≡ true → (typedefs || keeps_builtin x c a whole) ≡ true → IsFileEntity known unit x (entity typedefs functions)
  entity-fine whole true functions is b r k = b
  entity-fine whole false true is b r k = (b, is, refl, keeps-getchar x c a whole k, keeps-putchar x c a whole k)
  entity-fine whole false false is b r k = (b, r, refl)

pub declared-bounded : (known : Structs) (unit : Outline) (xs : t.SpecifierList) (x : Name) (c : Bool) (a : CType) (i : t.MaybeInitializer) → IsBounded known a → rule_2 xs (is_initialised i) ≡ true → (not (is_object_entity (file_entity unit xs x c (completed a i))) || rule_5 known (completed a i)) ≡ true → size_in known (completed a i) ≤ size_limit → IsBounded known (completed a i)
declared-bounded known unit xs x c (unsized e) t.no_initializer b r k le = b
declared-bounded known unit xs x c (unsized e) (t.an_initializer i) b r k le = (b.0, by-typedef (is_typedef xs) r k, le)
  where
    by-typedef : (d : Bool) → not (d && true) ≡ true → (not (is_object_entity (if d then a_typedef c (array e (counted e i)) else an_object c (array e (counted e i)) (static_object (place_in x unit.statics)))) || rule_5 known (array e (counted e i))) ≡ true → is_complete_in known (array e (counted e i)) ≡ true
    by-typedef true r k = absurd (cc)
    by-typedef false r k = k
declared-bounded known unit xs x c void i b r k le = b
declared-bounded known unit xs x c (integer n) i b r k le = b
declared-bounded known unit xs x c (pointer d a) i b r k le = b
declared-bounded known unit xs x c (array a n) i b r k le = b
declared-bounded known unit xs x c (struct n) i b r k le = b
declared-bounded known unit xs x c (function q ps) i b r k le = b

pub entity-at : (f : FilePlace) (x : Name) (d : Entity) → IsFine f → meaning f.context.scopes x ≡ Some d → IsFileEntity f.context.known f.context.unit x d
entity-at f x d h is = each-meaning (IsFileEntity f.context.known f.context.unit) f.context.scopes x d h.entities is

-- behind a declarator
pub step-declared : (xs : t.SpecifierList) (y : Declared) (a : CType) (whole : Bool) (f : FilePlace) → IsFine f → IsBounded f.context.known a → Meets (file_asks f xs y a whole) → IsStep f (with_declared xs y a whole f)
step-declared xs y a whole f h b m =
    let x = name_in y.name in
    let e = file_entity f.context.unit xs x y.constant a in
    let own : IsFileEntity f.context.known f.context.unit x e = entity-fine f.context.known f.context.unit xs x y.constant a whole (is_typedef xs) (is_function a) refl b m.1.1.1.1.0 m.1.1.1.1.1.0 in
    let here = here-means f.context.scopes x h.top in
    let asked : rule_3 (meaning f.context.scopes x) e true (is_in x f.whole) whole ≡ true = ap (λ n. rule_3 n e true (is_in x f.whole) whole) (sym here) ∙ m.1.0 in
    let same = rule-same f.context.known f.context.unit x (meaning f.context.scopes x) e (is_in x f.whole) whole (λ d is. entity-at f x d h is) own asked in
    let s = step-named x e f own same h in
    record {
      fine = record { structs = s.fine.structs; entities = s.fine.entities; means = s.fine.means; top = s.fine.top; next = s.fine.next; bytes = s.fine.bytes };
      grows = record { unit = s.grows.unit; more = s.grows.more; known = s.grows.known; words = s.grows.words; strings = s.grows.strings; means = s.grows.means };
    }

bytes-given-maybe : (f : FilePlace) (a : CType) (i : t.MaybeInitializer) → MayBeInitialised i → AllBytes (given_strings f a i)
bytes-given-maybe f a t.no_initializer w = tt
bytes-given-maybe f a (t.an_initializer i) w = bytes-given f.context.known a i w

-- a declarator, and its initialiser
pub record IsDeclaredAt (xs : t.SpecifierList) (d : t.Declarator) (y : Declared) (i : t.MaybeInitializer) (f : FilePlace) : Type 0 where
  pub own : IsBounded f.context.known y.type
  pub bounded : IsBounded f.context.known (completed y.type i)
  pub first : IsStep f (past_strings (strings_of_declarator d) f)
  pub behind : IsStep f (past_declarator xs d y i f)
  pub last : IsStep f (past_strings (given_strings f (completed y.type i) i) (past_declarator xs d y i f))

pub declarator-step : {xs : t.SpecifierList} {q : Qualified} {f : FilePlace} {d : t.Declarator} {i : t.MaybeInitializer} {ds : t.InitDeclarators} {y : Declared} → Declares f.context q d y → Meets (file_asks f xs y (completed y.type i) (is_initialised i)) → IsFine f → IsBounded f.context.known q.type → AllBytes (strings_of_declarator d) → MayBeInitialised i → IsFileWithin f (some_declared xs q (t.more_init_declarators d i ds)) → IsDeclaredAt xs d y i f
declarator-step {xs = xs} {q = q} {f = f} {d = d} {i = i} {y = y} p m h b ws wi l =
    let a = completed y.type i in
    let here = past_strings (strings_of_declarator d) f in
    let next = past_declarator xs d y i f in
    let own = declares-bounded f.context q d y p h.structs (typedefs-at f h) b (λ n z. l n (size_in_file_inner file_declarator z)) in
    let bounded = declared-bounded f.context.known f.context.unit xs (name_in y.name) y.constant y.type i own m.0 m.1.1.1.1.0 (counted-within f.context.known (completed y.type i) (λ n z. l n (of_static p z))) in
    let one = step-strings (strings_of_declarator d) f ws h in
    let two = step-declared xs y a (is_initialised i) here one.fine bounded m in
    let both = step-trans f here next one two in
    let three = step-strings (given_strings f a i) next (bytes-given-maybe f a i wi) both.fine in
    record { own = own; bounded = bounded; first = one; behind = both; last = step-trans f next (past_strings (given_strings f a i) next) both three }

pub declared-step : {xs : t.SpecifierList} {q : Qualified} {f e : FilePlace} {ds : t.InitDeclarators} {gs : List FirstValues} → AreDeclared xs q f ds gs e → IsFine f → IsBounded f.context.known q.type → AreNamed ds → IsFileWithin f (some_declared xs q ds) → IsStep f e
declared-step {f = f} none_declared h b w l = step-none f h
declared-step {xs = xs} {q = q} {f = f} {e = e} (one_declared {d = d} {i = i} {y = y} p m v r) h b w l =
    let one = declarator-step p m h b w.1 w.2 l in
    let last = past_strings (given_strings f (completed y.type i) i) (past_declarator xs d y i f) in
    step-trans f last e one.last (declared-step r one.last.fine b w.3 (λ n z. l n (size_in_file_part (other_declared p) z)))

-- a function's head, and its body
pub record IsHeadAt (xs : t.SpecifierList) (d : t.Declarator) (y : Declared) (g : FilePlace) : Type 0 where
  pub own : IsBounded g.context.known y.type
  pub behind : IsStep g (past_head xs d y g)

pub head-step : {f g : FilePlace} {at : ℕ} {xs : t.SpecifierList} {q : Qualified} {d : t.Declarator} {b : t.Block} {y : Declared} → Specify of_the_file f xs q g → Declares g.context q d y → Meets (file_asks g xs y y.type true) → IsFine g → IsBounded g.context.known q.type → AllBytes (strings_of_declarator d) → IsFileWithin f (external_node (t.function_definition (t.specifiers at xs) d b)) → IsHeadAt xs d y g
head-step {g = g} {xs = xs} {q = q} {d = d} {y = y} s p m h b ws l =
    let here = past_strings (strings_of_declarator d) g in
    let own = declares-bounded g.context q d y p h.structs (typedefs-at g h) b (λ n z. l n (size_in_file_inner (function_declarator s) z)) in
    let one = step-strings (strings_of_declarator d) g ws h in
    let two = step-declared xs y y.type true here one.fine own m in
    record { own = own; behind = step-trans g here (past_head xs d y g) one two }

pub external-step : {f e : FilePlace} {x : t.External} {gs : List FirstValues} {ks : List Func} → TypedExternal f x gs ks e → IsFine f → IsWrittenExternal x → IsFileWithin f (external_node x) → IsStep f e
external-step {f = f} {e = e} (of_declaration {g = g} s d) h w l =
    let one = specify-step s h w.0 (λ n z. l n (size_in_file_part declaration_specifiers z)) in
    step-trans f g e one.step (declared-step d one.step.fine one.bounded w.1 (λ n z. l n (size_in_file_part (declared_part s) z)))
external-step {f = f} {e = e} (of_function {g = g} {xs = xs} {d = d} {y = y} {m = m} s p k a ps is) h w l =
    let one = specify-step s h w.0 (λ n z. l n (size_in_file_part function_specifiers z)) in
    let head = head-step s p a one.step.fine one.bounded w.2 l in
    let body = step-strings m.strings (past_head xs d y g) (bytes-items is w.3) head.behind.fine in
    step-trans f g e one.step (step-trans g (past_head xs d y g) e head.behind body)

pub externals-step : {f e : FilePlace} {u : t.Tree} {gs : List FirstValues} {ks : List Func} → AreExternals f u gs ks e → IsFine f → IsWrittenUnit u → IsFileWithin f (some_externals u) → IsStep f e
externals-step {f = f} no_external h w l = step-none f h
externals-step {f = f} {e = e} (an_external {g = g} x r) h w l =
    let one = external-step x h w.0 (λ n z. l n (size_in_file_part first_external z)) in
    step-trans f g e one (externals-step r one.fine w.1 (λ n z. l n (size_in_file_part (other_externals x) z)))

-- before the first declaration
pub start-fine : (u : t.Tree) → IsFine (file_start u)
start-fine u = record {
  structs = record { complete = tt; cells = λ n lt. absurd (omega (arith, lt)); sizes = λ n lt. absurd (omega (arith, lt)); members = λ n. tt };
  entities = (tt, (tt, (tt, (tt, (tt, (tt, (tt, ((getchar, ((putchar, tt)))))))))));
  means = (refl, (refl, (refl, (refl, (refl, (refl, (refl, (refl, (refl, tt)))))))));
  top = refl;
  next = omega arith;
  bytes = tt;
}
  where
    getchar : IsFileEntity [] (outline u) getchar_name (a_function (callee_named (outline u) getchar_name) false getchar_type)
    getchar = ((tt, tt, refl, tt), refl, refl, (λ e. refl), (λ e. absurd (cc)))

    putchar : IsFileEntity [] (outline u) putchar_name (a_function (callee_named (outline u) putchar_name) false putchar_type)
    putchar = ((tt, (tt, tt), refl, (refl, tt)), refl, refl, (λ e. absurd (cc)), (λ e. refl))
