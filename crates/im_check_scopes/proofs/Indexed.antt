-- What is kept beside the entries, where one more is put behind them and where the last is taken back.
use Rattle.std.proofs.Common.{◌≡◌, ℕ, Bool, true, false, List, [], ◌∷◌, ◌++◌, map, length, Option, Some, None, Vec, Global, if◌then◌else◌, refl, sym, ap, subst, ◌∙◌}
use Rattle.std.proofs.lemmas.List.{append-nil, append_assoc, map_push, length-map}
use Rattle.im_check_name_map.specs.im_word.Words.{Name}
use Rattle.im_check_name_map.specs.im_rules.TypeTests.{same_name}
use Rattle.im_check_name_map.specs.Numbers.{number_of}
use Rattle.im_check_name_map.proofs.SameNames.{same-refl, same-equal}
use Rattle.im_check_scopes.specs.declared.entity.Entity.{Entity}
use Rattle.im_check_scopes.specs.declared.entity.Tag.{Tag}
use Rattle.im_check_scopes.specs.declared.entity.Entry.{Entry}
use Rattle.im_check_scopes.specs.declared.entity.Entry.TheVariants as n
use Rattle.im_check_scopes.specs.declared.scope.Kept.{Kept}
use Rattle.im_check_scopes.specs.Search.{is_opening, is_named, is_tagged, is_alike, last_place}
use Rattle.im_check_scopes.specs.Indexed.{entries_of, AreShadowed, IsIndexed}
use Rattle.im_check_scopes.proofs.Search.{last-behind}

pub entries-pushed : (ks : List Kept) (k : Kept) → entries_of (ks ++ k ∷ []) ≡ entries_of ks ++ k.entry ∷ []
entries-pushed ks k = map_push (λ x. x.entry) ks k

between : (before : List Entry) (y : Entry) (es : List Entry) → (before ++ y ∷ []) ++ es ≡ before ++ y ∷ es
between before y es = append_assoc before (y ∷ []) es

shadowed-pushed : (before : List Entry) (ks : List Kept) (k : Kept) → AreShadowed before ks → k.shadowed ≡ last_place (is_alike k.entry) (before ++ entries_of ks) → AreShadowed before (ks ++ k ∷ [])
shadowed-pushed before [] k h e = (e ∙ ap (last_place (is_alike k.entry)) (append-nil before), tt)
shadowed-pushed before (y ∷ ys) k h e =
    (h.0, shadowed-pushed (before ++ y.entry ∷ []) ys k h.1 (e ∙ ap (last_place (is_alike k.entry)) (sym (between before y.entry (entries_of ys)))))

shadowed-popped : (before : List Entry) (ks : List Kept) (k : Kept) → AreShadowed before (ks ++ k ∷ []) → AreShadowed before ks × (k.shadowed ≡ last_place (is_alike k.entry) (before ++ entries_of ks))
shadowed-popped before [] k h = (tt, h.0 ∙ ap (last_place (is_alike k.entry)) (sym (append-nil before)))
shadowed-popped before (y ∷ ys) k h =
    let p = shadowed-popped (before ++ y.entry ∷ []) ys k h.1 in
    ((h.0, p.0), p.1 ∙ ap (last_place (is_alike k.entry)) (between before y.entry (entries_of ys)))

-- the last entry that passes a test, where one is put behind
pushed-last : (test : Entry → Bool) (ks : List Kept) (k : Kept) → last_place test (entries_of (ks ++ k ∷ [])) ≡ (if test k.entry then Some (length ks) else last_place test (entries_of ks))
pushed-last test ks k =
    ap (last_place test) (entries-pushed ks k)
    ∙ last-behind test (entries_of ks) k.entry
    ∙ ap (λ m. if test k.entry then Some m else last_place test (entries_of ks)) (length-map ks (λ x. x.entry))

pushed-other : (test : Entry → Bool) (ks : List Kept) (k : Kept) → test k.entry ≡ false → last_place test (entries_of (ks ++ k ∷ [])) ≡ last_place test (entries_of ks)
pushed-other test ks k h = pushed-last test ks k ∙ ap (λ b. if b then Some (length ks) else last_place test (entries_of ks)) h

pushed-one : (test : Entry → Bool) (ks : List Kept) (k : Kept) → test k.entry ≡ true → last_place test (entries_of (ks ++ k ∷ [])) ≡ Some (length ks)
pushed-one test ks k h = pushed-last test ks k ∙ ap (λ b. if b then Some (length ks) else last_place test (entries_of ks)) h

abbrev pub kept : Entry → Option ℕ → Kept
kept e p = record { entry = e; shadowed = p }

module _ (ks : List Kept) (names tags more : List (Name × Option ℕ)) (inner : Option ℕ) (h : IsIndexed ks names tags inner) where
  pub opened : IsIndexed (ks ++ kept n.Opened inner ∷ []) names tags (Some (length ks))
  opened =
      let k = kept n.Opened inner in
      record {
        names = λ x. h.names x ∙ sym (pushed-other (is_named x) ks k refl);
        tags = λ x. h.tags x ∙ sym (pushed-other (is_tagged x) ks k refl);
        innermost = sym (pushed-one is_opening ks k refl);
        shadowed = shadowed-pushed [] ks k h.shadowed h.innermost;
      }

  pub named : (y : Vec ℕ Global) (e : Entity) → ((x : Name) → number_of more x ≡ (if same_name y.items x then Some (length ks) else number_of names x))
      → IsIndexed (ks ++ kept (n.Named y e) (number_of names y.items) ∷ []) more tags inner
  named y e set =
      let k = kept (n.Named y e) (number_of names y.items) in
      record {
        names = λ x. set x ∙ ap (λ m. if same_name y.items x then Some (length ks) else m) (h.names x) ∙ sym (pushed-last (is_named x) ks k);
        tags = λ x. h.tags x ∙ sym (pushed-other (is_tagged x) ks k refl);
        innermost = h.innermost ∙ sym (pushed-other is_opening ks k refl);
        shadowed = shadowed-pushed [] ks k h.shadowed (h.names y.items);
      }

  pub tagged : (y : Vec ℕ Global) (t : Tag) → ((x : Name) → number_of more x ≡ (if same_name y.items x then Some (length ks) else number_of tags x))
      → IsIndexed (ks ++ kept (n.Tagged y t) (number_of tags y.items) ∷ []) names more inner
  tagged y t set =
      let k = kept (n.Tagged y t) (number_of tags y.items) in
      record {
        names = λ x. h.names x ∙ sym (pushed-other (is_named x) ks k refl);
        tags = λ x. set x ∙ ap (λ m. if same_name y.items x then Some (length ks) else m) (h.tags x) ∙ sym (pushed-last (is_tagged x) ks k);
        innermost = h.innermost ∙ sym (pushed-other is_opening ks k refl);
        shadowed = shadowed-pushed [] ks k h.shadowed (h.tags y.items);
      }

module _ (ks : List Kept) (names tags more : List (Name × Option ℕ)) (inner shadowed : Option ℕ) where
  pub undone-opened : IsIndexed (ks ++ kept n.Opened shadowed ∷ []) names tags inner → IsIndexed ks names tags shadowed
  undone-opened h =
      let k = kept n.Opened shadowed in
      let p = shadowed-popped [] ks k h.shadowed in
      record {
        names = λ x. h.names x ∙ pushed-other (is_named x) ks k refl;
        tags = λ x. h.tags x ∙ pushed-other (is_tagged x) ks k refl;
        innermost = p.1;
        shadowed = p.0;
      }

  -- the number of what is taken back is its place
  pub undone-name : (y : Vec ℕ Global) (e : Entity) → IsIndexed (ks ++ kept (n.Named y e) shadowed ∷ []) names tags inner → number_of names y.items ≡ Some (length ks)
  undone-name y e h = h.names y.items ∙ pushed-one (is_named y.items) ks (kept (n.Named y e) shadowed) (same-refl y.items)

  pub undone-tag : (y : Vec ℕ Global) (t : Tag) → IsIndexed (ks ++ kept (n.Tagged y t) shadowed ∷ []) names tags inner → number_of tags y.items ≡ Some (length ks)
  undone-tag y t h = h.tags y.items ∙ pushed-one (is_tagged y.items) ks (kept (n.Tagged y t) shadowed) (same-refl y.items)

  restored : (test : Name → Entry → Bool) (numbers : List (Name × Option ℕ)) (y : Name) (k : Kept) → ((x : Name) → test x k.entry ≡ same_name y x)
      → k.shadowed ≡ last_place (test y) (entries_of ks) → ((x : Name) → number_of numbers x ≡ last_place (test x) (entries_of (ks ++ k ∷ [])))
      → ((x : Name) → number_of more x ≡ (if same_name y x then k.shadowed else number_of numbers x)) → (x : Name) → number_of more x ≡ last_place (test x) (entries_of ks)
  restored test numbers y k tests s known set x = set x ∙ by (same_name y x) refl
    where
      by : (b : Bool) → same_name y x ≡ b → (if b then k.shadowed else number_of numbers x) ≡ last_place (test x) (entries_of ks)
      by true e = s ∙ ap (λ z. last_place (test z) (entries_of ks)) (same-equal y x e)
      by false e = known x ∙ pushed-other (test x) ks k (tests x ∙ e)

  pub undone-named : (y : Vec ℕ Global) (e : Entity) → IsIndexed (ks ++ kept (n.Named y e) shadowed ∷ []) names tags inner
      → ((x : Name) → number_of more x ≡ (if same_name y.items x then shadowed else number_of names x)) → IsIndexed ks more tags inner
  undone-named y e h set =
      let k = kept (n.Named y e) shadowed in
      let p = shadowed-popped [] ks k h.shadowed in
      record {
        names = restored is_named names y.items k (λ x. refl) p.1 h.names set;
        tags = λ x. h.tags x ∙ pushed-other (is_tagged x) ks k refl;
        innermost = h.innermost ∙ pushed-other is_opening ks k refl;
        shadowed = p.0;
      }

  pub undone-tagged : (y : Vec ℕ Global) (t : Tag) → IsIndexed (ks ++ kept (n.Tagged y t) shadowed ∷ []) names tags inner
      → ((x : Name) → number_of more x ≡ (if same_name y.items x then shadowed else number_of tags x)) → IsIndexed ks names more inner
  undone-tagged y t h set =
      let k = kept (n.Tagged y t) shadowed in
      let p = shadowed-popped [] ks k h.shadowed in
      record {
        names = λ x. h.names x ∙ pushed-other (is_named x) ks k refl;
        tags = restored is_tagged tags y.items k (λ x. refl) p.1 h.tags set;
        innermost = h.innermost ∙ pushed-other is_opening ks k refl;
        shadowed = p.0;
      }
