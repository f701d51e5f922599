-- The names of a unit's statics.
use Rattle.std.proofs.Common.{◌≡◌, ℕ, suc, ◌+◌, ◌<◌, ◌≤◌, nat_lt, List, [], ◌∷◌, ◌++◌, length, length-append, map, Bool, true, false, refl, sym, ap, ◌∙◌, subst, arith}
use Rattle.std.specs.Prelude.{◌&&◌, if◌then◌else◌}
use Rattle.std.proofs.lemmas.Bool.{ltb-true, ltb-false}
use Rattle.im_word.specs.Words.{Name, Word}
use Rattle.im_ctree.specs.Tree as t
use Rattle.im_ctree.specs.Grammar.{first_specifier, IsDeclarator, a_name, an_inner}
use Rattle.im_ctree.specs.Units.{Spells, IsInitDeclarators, last_declarator, next_declarator, declares_none, declares, IsExternal, a_declaration, a_definition, IsUnit, last_external, next_external}
use Rattle.im_typed.specs.im_ctype.Types.{Structs}
use Rattle.im_typed.specs.im_store.Statics.{StaticObject}
use Rattle.im_typed.specs.Program.{Prog}
use Rattle.im_typed.specs.Typing.{Each}
use Rattle.im_rules.specs.Outline.{Outline, Outlined, Walk, name_of, is_in, added, is_initialised, is_object_sort, is_object_among, objects_among, with_declarators, with_declarator, with_lists, with_external, walked, whole_walk}
use Rattle.im_rules.specs.FileScope.{FilePlace, file_start}
use Rattle.im_rules.specs.TypedUnit.{FirstValues, TypedUnit, of_unit, static_named, string_statics}
use Rattle.im_rules.specs.UnitBreaks.{some_externals}
use Rattle.im_rules_limits.specs.Limits.{size_limit, of_size, too_large, IsWithinLimits, IsFileWithin}
use Rattle.im_rules_sound_places.proofs.Files.{start-fine, externals-step}
use Rattle.im_rules_sound_unit.proofs.Values.{join-each}
use Rattle.im_rules_sound_spelt.specs.Words.{AreLexical, IsNamedBy, AreNamedBy, IsStaticName, declared, literal}
use Rattle.im_rules_sound_spelt.proofs.Expressions.{around-name}
use Rattle.im_rules_sound_spelt.proofs.Units.{unit-written}

each-front : {A : Type 0} (P : A → Type 0) (xs ys : List A) → Each P (xs ++ ys) → Each P xs
each-front P [] ys h = tt
each-front P (x ∷ xs) ys h = (h.0, each-front P xs ys h.1)

each-rest : {A : Type 0} (P : A → Type 0) (xs ys : List A) → Each P (xs ++ ys) → Each P ys
each-rest P [] ys h = h
each-rest P (x ∷ xs) ys h = each-rest P xs ys h.1

module _ (test : Name → Bool) where
  abbrev Good : Name → Type 0
  Good n = test n ≡ true

  abbrev AreGood : List Outlined → Type 0
  AreGood items = Each {A = Outlined} (λ i. Good i.name) items

  front : (u v : List Word) → AreNamedBy test (u ++ v) → AreNamedBy test u
  front u v h = each-front (IsNamedBy test) u v h

  rest : (u v : List Word) → AreNamedBy test (u ++ v) → AreNamedBy test v
  rest u v h = each-rest (IsNamedBy test) u v h

  declarator-good : {T : List Name} {g : Bool} {p : ℕ} {d : t.Declarator} {w : List Word} → IsDeclarator T g p d w → AreNamedBy test w → Good (name_of d)
  declarator-good (a_name n {u = u} s r) h = (rest u _ h).0
  declarator-good (an_inner {p = p} {ns = ns} {d = d} {ts = ts} {u = u} {v = v} s a o r) h =
      ap test (around-name p ns d ts) ∙ declarator-good a (front v _ (rest u _ h).1)

  one-more : (items : List Outlined) (i : Outlined) → AreGood items → Good i.name → AreGood (items ++ i ∷ [])
  one-more items i h g = join-each {A = Outlined} (λ j. Good j.name) items (i ∷ []) h (g, tt)

  declarators-good : (xs : t.SpecifierList) {T : List Name} (o : Walk) {p : ℕ} {ds : t.InitDeclarators} {w : List Word} → IsInitDeclarators T p ds w → AreNamedBy test w → AreGood o.items → AreGood (with_declarators xs ds o).items
  declarators-good xs o (last_declarator {u = u} {v = v} a i) h k = one-more o.items _ k (declarator-good a (front u v h))
  declarators-good xs o (next_declarator {d = d} {i = j} {u = u} {v = v} a i r) h k =
      declarators-good xs (with_declarator xs d (is_initialised j) o) r (rest v _ (rest u _ h)).1 (one-more o.items _ k (declarator-good a (front u _ h)))

  external-good : {T : List Name} (o : Walk) {p : ℕ} {x : t.External} {w : List Word} → IsExternal T p x w → AreNamedBy test w → AreGood o.items → AreGood (with_external x o).items
  external-good o (a_declaration (declares_none (first_specifier a b))) h k = k
  external-good o (a_declaration (declares {u = u} {v = v} (first_specifier {x = x} {xs = xs} a b) g r)) h k =
      declarators-good (t.more_specifiers x xs) (with_lists (t.more_specifiers x xs) o) r (front v _ (rest u _ h)) k
  external-good o (a_definition {u = u} {v = v} {w = w} (first_specifier a b) g d s) h k =
      one-more o.items _ k (declarator-good d (front v w (rest u _ h)))

  unit-good : {T : List Name} (o : Walk) {p : ℕ} {u : t.Tree} {w : List Word} → IsUnit T p u w → AreNamedBy test w → AreGood o.items → AreGood (walked u o).items
  unit-good o (last_external x) h k = external-good o x h k
  unit-good o (next_external {e = e} {u = u} {v = v} x r) h k = unit-good (with_external e o) r (rest u v h) (external-good o x (front u v h) k)

  added-good : (x : Name) (xs : List Name) → Each Good xs → Good x → Each Good (added x xs)
  added-good x xs h g = by-test (is_in x xs)
    where
      by-test : (b : Bool) → Each Good (if b then xs else xs ++ x ∷ [])
      by-test true = h
      by-test false = join-each Good xs (x ∷ []) h (g, tt)

  objects-good : (all : List Outlined) (before : List Name) (items : List Outlined) → Each Good before → AreGood items → Each Good (objects_among all before items)
  objects-good all before [] h k = h
  objects-good all before (i ∷ items) h k =
      objects-good all (if is_object_sort i.sort && is_object_among i.name all then added i.name before else before) items (by-test (is_object_sort i.sort && is_object_among i.name all)) k.1
    where
      by-test : (b : Bool) → Each Good (if b then added i.name before else before)
      by-test true = added-good i.name before h k.0
      by-test false = h

  abbrev HasName : ℕ → StaticObject → Type 0
  HasName count o = IsStaticName test count o.name

  objects-named : (count : ℕ) (e : FilePlace) (gs : List FirstValues) (xs : List Name) → Each Good xs → Each (HasName count) (map (static_named e gs) xs)
  objects-named count e gs [] h = tt
  objects-named count e gs (x ∷ xs) h = (declared h.0, objects-named count e gs xs h.1)

  literals-named : (count : ℕ) (known : Structs) (k : ℕ) (ss : List Name) → k + length (string_statics known k ss) ≤ suc count → Each (HasName count) (string_statics known k ss)
  literals-named count known k [] few = tt
  literals-named count known k (s ∷ ss) few = (literal k (omega (arith, few)), literals-named count known (k + 1) ss (omega (arith, few)))

no-more : (n most : ℕ) → (most < n → ⊥) → n ≤ most
no-more n most h = by-test (nat_lt most n) refl
  where
    by-test : (b : Bool) → nat_lt most n ≡ b → n ≤ most
    by-test true e = absurd (h (ltb-true most n e))
    by-test false e = ltb-false most n e

pub names-of-source : (test : Name → Bool) (u : t.Tree) (words : List Word) (g : Prog) → Spells u words → AreLexical words → AreNamedBy test words → TypedUnit u g → IsWithinLimits u
    → Each {A = StaticObject} (λ o. IsStaticName test (length g.statics) o.name) g.statics
names-of-source test u words _ d h k (of_unit {e = e} {gs = gs} {ks = ks} x m) l =
    let within : IsFileWithin (file_start u) (some_externals u) = λ n z. no-more n size_limit (λ lt. l of_size n (too_large z lt)) in
    let all = externals-step x (start-fine u) (unit-written d h) within in
    let items = (whole_walk u).items in
    let good = objects-good test items [] items tt (unit-good test _ d k tt) in
    let named = subst (λ (o : Outline). Each (Good test) o.statics) (sym all.grows.unit) good in
    let objects = map (static_named e gs) e.context.unit.statics in
    let literals = string_statics e.context.known 1 e.strings in
    let all_of = length-append objects literals in
    let count = length (objects ++ literals) in
    join-each (HasName test count) objects literals (objects-named test count e gs e.context.unit.statics named) (literals-named test count e.context.known 1 e.strings (omega (arith, all_of)))
