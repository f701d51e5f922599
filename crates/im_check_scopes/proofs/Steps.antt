-- One step of the scopes, as the code takes it.
use Rattle.std.proofs.Common.{◌≡◌, ℕ, ◌-◌, ◌≤◌, List, [], ◌∷◌, ◌++◌, length, take, Option, Some, None, Vec, Global, Result, Ok, Err, OnOk, OnErr, if◌then◌else◌, refl, sym, ap, subst, ◌∙◌, arith}
use Rattle.std.proofs.lemmas.List.{append-nil, length-append, take-append-le, take_all}
use Rattle.im_check_name_map.specs.im_word.Words.{Name}
use Rattle.im_check_name_map.specs.im_rules.TypeTests.{same_name}
use Rattle.im_check_name_map.specs.im_rules.Scopes.{Scopes, nothing}
use Rattle.im_check_name_map.specs.Numbers.{number_of}
use Rattle.im_check_scopes.specs.declared.entity.Entity.{Entity}
use Rattle.im_check_scopes.specs.declared.entity.Tag.{Tag}
use Rattle.im_check_scopes.specs.declared.entity.Entry.{Entry}
use Rattle.im_check_scopes.specs.declared.entity.Entry.TheVariants as n
use Rattle.im_check_scopes.specs.declared.scope.Kept.{Kept}
use Rattle.im_check_scopes.specs.Shape.{with_entry, scopes_of}
use Rattle.im_check_scopes.specs.Indexed.{entries_of, IsIndexed}
use Rattle.im_check_scopes.proofs.Search.{entries-behind}
use Rattle.im_check_scopes.proofs.Indexed.{kept, entries-pushed, opened, named, tagged, undone-opened, undone-name, undone-tag, undone-named, undone-tagged}

abbrev Numbers : Type 0
Numbers = List (Name × Option ℕ)

-- the entries, and the scopes that they make

pub grown : (ks more : List Kept) (k : Kept) (es : List Entry) → entries_of ks ≡ es → more ≡ ks ++ k ∷ [] → entries_of more ≡ es ++ k.entry ∷ []
grown ks more k es view is = ap entries_of is ∙ entries-pushed ks k ∙ ap (λ zs. zs ++ k.entry ∷ []) view

pub scopes-grown : (ks more : List Kept) (k : Kept) (es : List Entry) → entries_of ks ≡ es → more ≡ ks ++ k ∷ [] → scopes_of (entries_of more) ≡ with_entry (scopes_of es) k.entry
scopes-grown ks more k es view is = ap scopes_of (grown ks more k es view is) ∙ entries-behind nothing es k.entry

-- one more is kept

pub opened-kept : (ks more : List Kept) (names tags : Numbers) (inner : Option ℕ) (place : ℕ) → IsIndexed ks names tags inner → more ≡ ks ++ kept n.Opened inner ∷ [] → place ≡ length ks → IsIndexed more names tags (Some place)
opened-kept ks more names tags inner place h is p = subst (λ zs. IsIndexed zs names tags (Some place)) (sym is) (subst (λ m. IsIndexed (ks ++ kept n.Opened inner ∷ []) names tags (Some m)) (sym p) (opened ks names tags names inner h))

module _ (ks more : List Kept) (names tags set : Numbers) (inner hidden : Option ℕ) (y key : Vec ℕ Global) (place : ℕ) (h : IsIndexed ks names tags inner) (k : key.items ≡ y.items) (p : place ≡ length ks) where
  pub named-kept : (e : Entity) → more ≡ ks ++ kept (n.Named y e) hidden ∷ [] → hidden ≡ number_of names y.items
      → ((x : Name) → number_of set x ≡ (if same_name key.items x then Some place else number_of names x)) → IsIndexed more set tags inner
  named-kept e is was now =
      subst (λ zs. IsIndexed zs set tags inner) (sym is) (subst (λ m. IsIndexed (ks ++ kept (n.Named y e) m ∷ []) set tags inner) (sym was) (named ks names tags set inner h y e (λ x.
      now x ∙ (λ i. if same_name (k i) x then Some (p i) else number_of names x))))

  pub tagged-kept : (t : Tag) → more ≡ ks ++ kept (n.Tagged y t) hidden ∷ [] → hidden ≡ number_of tags y.items
      → ((x : Name) → number_of set x ≡ (if same_name key.items x then Some place else number_of tags x)) → IsIndexed more names set inner
  tagged-kept t is was now =
      subst (λ zs. IsIndexed zs names set inner) (sym is) (subst (λ m. IsIndexed (ks ++ kept (n.Tagged y t) m ∷ []) names set inner) (sym was) (tagged ks names tags set inner h y t (λ x.
      now x ∙ (λ i. if same_name (k i) x then Some (p i) else number_of tags x))))

-- the last is taken back

pub settled : {A E : Type 0} {P Q : Type 0} (r : Result A E) → OnOk r P → OnErr r Q → (Q → ⊥) → P
settled (Ok x) p q f = p
settled (Err e) p q f = absurd (f q)

some-not-none : {A : Type 0} (o : Option A) (x : A) → o ≡ Some x → o ≡ None → ⊥
some-not-none None x e d = absurd cc
some-not-none (Some y) x e d = absurd cc

module _ (old ks : List Kept) (names tags : Numbers) (inner : Option ℕ) (last : Kept) (h : IsIndexed old names tags inner) (is : old ≡ ks ++ last ∷ []) where
  whole : (e : Entry) → last.entry ≡ e → IsIndexed (ks ++ kept e last.shadowed ∷ []) names tags inner
  whole e en = subst (λ zs. IsIndexed zs names tags inner) (is ∙ ap (λ z. ks ++ kept z last.shadowed ∷ []) en) h

  pub opened-back : last.entry ≡ n.Opened → IsIndexed ks names tags last.shadowed
  opened-back en = undone-opened ks names tags names inner last.shadowed (whole n.Opened en)

  pub named-back : (set : Numbers) (y : Vec ℕ Global) (e : Entity) {A E : Type 0} (r : Result A E) → last.entry ≡ n.Named y e
      → OnOk r ((x : Name) → number_of set x ≡ (if same_name y.items x then last.shadowed else number_of names x)) → OnErr r (number_of names y.items ≡ None) → IsIndexed ks set tags inner
  named-back set y e r en now absent =
      let w = whole (n.Named y e) en in
      let there = undone-name ks names tags names inner last.shadowed y e w in
      undone-named ks names tags set inner last.shadowed y e w (settled r now absent (some-not-none (number_of names y.items) (length ks) there))

  pub tagged-back : (set : Numbers) (y : Vec ℕ Global) (t : Tag) {A E : Type 0} (r : Result A E) → last.entry ≡ n.Tagged y t
      → OnOk r ((x : Name) → number_of set x ≡ (if same_name y.items x then last.shadowed else number_of tags x)) → OnErr r (number_of tags y.items ≡ None) → IsIndexed ks names set inner
  tagged-back set y t r en now absent =
      let w = whole (n.Tagged y t) en in
      let there = undone-tag ks names tags names inner last.shadowed y t w in
      undone-tagged ks names tags set inner last.shadowed y t w (settled r now absent (some-not-none (number_of tags y.items) (length ks) there))

front : {A : Type 0} (xs : List A) (z : A) → xs ≡ take (length (xs ++ z ∷ []) - 1) (xs ++ z ∷ [])
front xs z =
    let l = length-append xs (z ∷ []) in
    let n : length (xs ++ z ∷ []) - 1 ≡ length xs = omega arith in
    sym (ap (λ k. take k (xs ++ z ∷ [])) n ∙ take-append-le (length xs) xs (z ∷ []) (omega arith) ∙ take_all (length xs) xs (omega arith))

pub entries-back : (old ks : List Kept) (last : Kept) (es : List Entry) → entries_of old ≡ es → old ≡ ks ++ last ∷ [] → entries_of ks ≡ take (length es - 1) es
entries-back old ks last es view is =
    let e : entries_of ks ++ last.entry ∷ [] ≡ es = sym (ap entries_of is ∙ entries-pushed ks last) ∙ view in
    subst (λ zs. entries_of ks ≡ take (length zs - 1) zs) e (front (entries_of ks) last.entry)

pub nothing-back : (old ks : List Kept) (es : List Entry) → entries_of old ≡ es → length old ≡ 0 → old ≡ ks ++ [] → entries_of ks ≡ take (length es - 1) es
nothing-back [] ks es view none is =
    let k : entries_of ks ≡ [] = ap entries_of (sym (append-nil ks) ∙ sym is) in
    subst (λ zs. entries_of ks ≡ take (length zs - 1) zs) view k
nothing-back (k ∷ old) ks es view none is = absurd cc
