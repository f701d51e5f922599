-- Specifiers at file scope, with their lists: what stands behind them.
use Rattle.std.proofs.Common.{◌≡◌, inl, inr, ℕ, ◌<◌, ◌≤◌, List, [], ◌∷◌, ◌++◌, length, length-append, append-nil, true, false, refl, sym, ap, ◌∙◌, subst, arith}
use Rattle.std.specs.Prelude.{Option, Some, None, ℤ, pos, int_le, int_lt, neg_ℤ, ◌^◌}
use Rattle.std.proofs.lemmas.Int.{ints}
use Rattle.im_num.specs.declared.kind.Kind.TheVariants.{I32}
use Rattle.im_num.specs.Kinds.{IsOfKind}
use Rattle.im_word.specs.Words.{Name}
use Rattle.im_ctree.specs.declared.specifier.SpecifierWord.{SpecifierWord}
use Rattle.im_ctree.specs.Tree as t
use Rattle.im_store.proofs.Same.{both-true}
use Rattle.im_ctype.specs.Types.{struct, Member}
use Rattle.im_typed.specs.Typing.{Each}
use Rattle.im_rules.specs.Rules.{named_in, rule_3}
use Rattle.im_rules.specs.Scopes.{Entity, an_object, a_function, an_enumerator, a_typedef, Tag, struct_tag, enum_tag, Scopes, tagged, meaning, meaning_here, tag_meaning, at_file_scope}
use Rattle.im_rules.specs.Strings.{strings_maybe, strings_of_declarator}
use Rattle.im_rules.specs.Context.{Context, tag_number}
use Rattle.im_rules.specs.Declared.{Qualified, declared_tag, tags_in}
use Rattle.im_rules.specs.Terms.{size_in}
use Rattle.im_rules.specs.FileScope.{FilePlace, past_strings, Level, with_list_begun, tag_here, with_struct, member_of, number_in, with_enumerator, with_enum_tag, constant_fits}
use Rattle.im_rules.specs.TypedUnit.{AreEnumerators, no_enumerator, an_enumerator, Specify, of_specifiers, NamesType, no_list, a_struct, an_enum, AreMembers, no_member, some_members, AreFields, no_field, a_field}
use Rattle.im_rules.specs.UnitBreaks.{file_specifiers, some_named, some_members as members_node, some_fields, named_part, struct_members, member_specifiers, member_fields, other_members, other_fields, field_declarator}
use Rattle.im_rules_limits.proofs.Counted.{counted-within}
use Rattle.im_rules_limits.specs.Limits.{size_limit, AreMembersWithin, of_struct, of_member, size_in_file_part, size_in_file_inner, IsFileWithin}
use Rattle.im_rules_sound_expressions.specs.Bounded.{IsBounded}
use Rattle.im_rules_sound_expressions.proofs.Types.{each-kept}
use Rattle.im_rules_sound_expressions.proofs.Declarators.{declares-bounded, specified-bounded}
use Rattle.im_rules_sound_places.specs.Units.{HasDeclarator, HasMember, AreBytesIn, AreWrittenEnumerators, HaveMembers, ListsMembers, MembersHave}
use Rattle.im_rules_sound_places.proofs.Growing.{IsGoodMember, members-more, push-structs}
use Rattle.im_rules_sound_places.specs.Places.{IsFileEntity, IsFine, Grows, IsStep}
use Rattle.im_rules_sound_places.proofs.Places.{step-trans, step-none, step-strings, IsTagged, step-tagged, step-named, here-means, entity-more, typedefs-at}
use Rattle.im_rules_sound_places.proofs.Bytes.{bytes-maybe}

-- tags

declared-tag : (c : Context) (at : ℕ) (x : Name) (g : Option Tag) → IsTagged c.scopes (declared_tag c at x g)
declared-tag c at x None = inr (x, struct_tag (tag_number c at x), refl)
declared-tag c at x (Some g) = inl refl

tags-tagged : (c : Context) (ss : List t.Specifier) → IsTagged c.scopes (tags_in c ss)
tags-tagged c (t.struct_tag at x ∷ ss) = declared-tag c at x (tag_meaning c.scopes x)
tags-tagged c (t.word_specifier at x ∷ ss) = inl refl
tags-tagged c (t.typedef_specifier at x ∷ ss) = inl refl
tags-tagged c (t.enum_tag at x ∷ ss) = inl refl
tags-tagged c (t.struct_specifier at x ms ∷ ss) = inl refl
tags-tagged c (t.enum_specifier at x es ∷ ss) = inl refl
tags-tagged c [] = inl refl

here-tagged : (c : Context) (at : ℕ) (x : Option Name) → IsTagged c.scopes (tag_here c at x)
here-tagged c at None = inl refl
here-tagged c at (Some x) = declared-tag c at x (tag_meaning c.scopes x)

step-list-begun : (at : ℕ) (x : Option Name) (f : FilePlace) → IsFine f → IsStep f (with_list_begun at x f)
step-list-begun at x f h =
    let s = step-tagged (tag_here f.context at x) f (here-tagged f.context at x) h in
    record {
      fine = record { structs = s.fine.structs; entities = s.fine.entities; means = s.fine.means; top = s.fine.top; next = s.fine.next; bytes = s.fine.bytes };
      grows = record { unit = s.grows.unit; more = s.grows.more; known = s.grows.known; words = s.grows.words; strings = s.grows.strings; means = s.grows.means };
    }

step-enum-tag : (x : Option Name) (f : FilePlace) → IsFine f → IsStep f (with_enum_tag x f)
step-enum-tag None f h = step-none f h
step-enum-tag (Some x) f h = step-tagged (tagged x enum_tag f.context.scopes) f (inr (x, enum_tag, refl)) h

-- one struct more
step-struct : (fields : List Member) (f : FilePlace) → IsFine f → Each (IsGoodMember f.context.known) fields → 0 < length fields → size_in (with_struct fields f).context.known (struct (length f.context.known)) ≤ size_limit → IsStep f (with_struct fields f)
step-struct fields f h good some size = record {
  fine = record {
    structs = push-structs f.context.known fields h.structs good some size;
    entities = each-kept (IsFileEntity f.context.known f.context.unit) (IsFileEntity (f.context.known ++ fields ∷ []) f.context.unit) f.context.scopes (entity-more f.context.known (fields ∷ []) f.context.unit) h.entities;
    means = h.means;
    top = h.top;
    next = h.next;
    bytes = h.bytes;
  };
  grows = record { unit = refl; more = fields ∷ []; known = refl; words = []; strings = sym (append-nil f.strings); means = λ x e k. k };
}

-- enumeration constants

fits-int : (z : Option ℤ) → constant_fits z ≡ true → IsOfKind I32 (number_in z)
fits-int None e = record { low = omega (arith, ints); high = omega (arith, ints) }
fits-int (Some z) e =
    let both = both-true (int_le (neg_ℤ (pos (2 ^ 31))) z) (int_lt z (pos (2 ^ 31))) e in
    record { low = grind (arith, ints, both.0); high = grind (arith, ints, both.1) }

new-name : (s : Scopes) (x : Name) (z : ℤ) → at_file_scope s ≡ true → rule_3 (meaning_here s x) (an_enumerator z) (at_file_scope s) false false ≡ true → (d : Entity) → meaning s x ≡ Some d → d ≡ an_enumerator z
new-name s x z top r d is =
    let there : meaning_here s x ≡ Some d = here-means s x top ∙ is in
    let asked : rule_3 (Some d) (an_enumerator z) (at_file_scope s) false false ≡ true = ap (λ m. rule_3 m (an_enumerator z) (at_file_scope s) false false) (sym there) ∙ r in
    absurd (by-entity d (ap (λ b. rule_3 (Some d) (an_enumerator z) b false false) (sym top) ∙ asked))
  where
    by-entity : (d : Entity) → rule_3 (Some d) (an_enumerator z) true false false ≡ true → ⊥
    by-entity (an_object k a c) e = absurd (cc)
    by-entity (a_function c k a) e = absurd (cc)
    by-entity (an_enumerator y) e = absurd (cc)
    by-entity (a_typedef k a) e = absurd (cc)

enumerators-step : {f g : FilePlace} {next : ℤ} {es : t.Enumerators} → AreEnumerators f next es g → IsFine f → AreWrittenEnumerators es → IsStep f g
enumerators-step {f = f} no_enumerator h w = step-none f h
enumerators-step {f = f} {g = g} (an_enumerator {x = x} {e = e} {z = z} n m r) h w =
    let one = step-strings (strings_maybe e) f (bytes-maybe e w.0) h in
    let here = past_strings (strings_maybe e) f in
    let two = step-named x (an_enumerator (number_in z)) here (fits-int z m.1.0) (new-name f.context.scopes x (number_in z) h.top m.1.1.0) one.fine in
    let rest = enumerators-step r two.fine w.1 in
    step-trans f here g one (step-trans here (with_enumerator x z e here) g two rest)

-- specifiers and members

named-have : (xs : t.SpecifierList) → HaveMembers xs → Each ListsMembers (named_in xs)
named-have t.no_specifiers h = tt
named-have (t.more_specifiers (t.word_specifier at x) xs) h = named-have xs h.1
named-have (t.more_specifiers (t.typedef_specifier at x) xs) h = (h.0, named-have xs h.1)
named-have (t.more_specifiers (t.struct_tag at x) xs) h = (h.0, named-have xs h.1)
named-have (t.more_specifiers (t.enum_tag at x) xs) h = (h.0, named-have xs h.1)
named-have (t.more_specifiers (t.struct_specifier at x ms) xs) h = (h.0, named-have xs h.1)
named-have (t.more_specifiers (t.enum_specifier at x es) xs) h = (h.0, named-have xs h.1)

some-fields : {q : Qualified} {f g : FilePlace} {ds : t.Declarators} {fields : List Member} → AreFields q f ds fields g → HasDeclarator ds → 0 < length fields
some-fields no_field h = absurd h
some-fields (a_field d m r) h = omega arith

some-listed : {f g : FilePlace} {ms : t.Members} {fields : List Member} → AreMembers f ms fields g → HasMember ms → 0 < length fields
some-listed no_member h = absurd h
some-listed (some_members {fields = fields} {more = more} s d r) h =
    let first = some-fields d h in
    let l = length-append fields more in
    omega (arith, first, l)

pub record IsSpecified (f g : FilePlace) (q : Qualified) : Type 0 where
  pub step : IsStep f g
  pub bounded : IsBounded g.context.known q.type

record AreListed (f g : FilePlace) (fields : List Member) : Type 0 where
  pub step : IsStep f g
  pub good : Each (IsGoodMember g.context.known) fields

each-join : {A : Type 0} (P : A → Type 0) (xs ys : List A) → Each P xs → Each P ys → Each P (xs ++ ys)
each-join P [] ys h k = k
each-join P (x ∷ xs) ys h k = (h.0, each-join P xs ys h.1 k)

good-later : (g h : FilePlace) (fields : List Member) → Grows g h → Each (IsGoodMember g.context.known) fields → Each (IsGoodMember h.context.known) fields
good-later g h fields k q = subst (λ s. Each (IsGoodMember s) fields) (sym k.known) (members-more g.context.known k.more fields q)

fields-step : {q : Qualified} {f g : FilePlace} {ds : t.Declarators} {fields : List Member} → AreFields q f ds fields g → IsFine f → IsBounded f.context.known q.type → AreBytesIn ds → IsFileWithin f (some_fields q ds) → AreListed f g fields
fields-step {f = f} no_field h b w l = record { step = step-none f h; good = tt }
fields-step {q = q} {f = f} {g = g} (a_field {d = d} {y = y} {fields = fields} p m r) h b w l =
    let own = declares-bounded f.context q d y p h.structs (typedefs-at f h) b (λ n z. l n (size_in_file_inner field_declarator z)) in
    let one = step-strings (strings_of_declarator d) f w.0 h in
    let rest = fields-step r one.fine b w.1 (λ n z. l n (size_in_file_part other_fields z)) in
    record {
      step = step-trans f (past_strings (strings_of_declarator d) f) g one rest.step;
      good = ((good-later (past_strings (strings_of_declarator d) f) g (member_of y ∷ []) rest.step.grows ((own, m.1.0), tt)).0, rest.good);
    }

mutual
  pub specify-step : {l : Level} {f g : FilePlace} {at : ℕ} {xs : t.SpecifierList} {q : Qualified} → Specify l f xs q g → IsFine f → HaveMembers xs → IsFileWithin f (file_specifiers l (t.specifiers at xs)) → IsSpecified f g q
  specify-step (of_specifiers {xs = xs} m n) h w l =
      let s = names-step n h (named-have xs w) (λ k z. l k (size_in_file_part (named_part m) z)) in
      record { step = s.step; bounded = s.bounded }

  names-step : {f g : FilePlace} {first : ℕ} {ss : List t.Specifier} {ks : List SpecifierWord} {q : Qualified} → NamesType f ss ks q g → IsFine f → Each ListsMembers ss → IsFileWithin f (some_named first ss) → IsSpecified f g q
  names-step {f = f} (no_list {ss = ss} {ks = ks} m) h w l =
      record { step = step-tagged (tags_in f.context ss) f (tags-tagged f.context ss) h; bounded = specified-bounded f.context ss ks (typedefs-at f h) }
  names-step {f = f} (a_struct {g = g} {at = at} {x = x} {fields = fields} ms m) h w l =
      let one = step-list-begun at x f h in
      let all = members-step ms one.fine w.0.1 (λ k z. l k (size_in_file_part struct_members z)) in
      let known = (with_struct fields g).context.known in
      let within : AreMembersWithin known fields = λ o c. counted-within known o.type (λ k z. l k (of_member ms c z)) in
      let two = step-struct fields g all.step.fine all.good (some-listed ms w.0.0) (l _ (of_struct ms within)) in
      record { step = step-trans f (with_list_begun at x f) (with_struct fields g) one (step-trans (with_list_begun at x f) g (with_struct fields g) all.step two); bounded = tt }
  names-step {f = f} (an_enum {g = g} {x = x} m es) h w l =
      let all = enumerators-step es h w.0 in
      record { step = step-trans f g (with_enum_tag x g) all (step-enum-tag x g all.fine); bounded = tt }

  members-step : {f g : FilePlace} {ms : t.Members} {fields : List Member} → AreMembers f ms fields g → IsFine f → MembersHave ms → IsFileWithin f (members_node ms) → AreListed f g fields
  members-step {f = f} no_member h w l = record { step = step-none f h; good = tt }
  members-step {f = f} (some_members {g = g} {h = k} {e = e} {fields = fields} {more = more} s d r) h w l =
      let one = specify-step s h w.0 (λ n z. l n (size_in_file_part member_specifiers z)) in
      let two = fields-step d one.step.fine one.bounded w.1 (λ n z. l n (size_in_file_part (member_fields s) z)) in
      let rest = members-step r two.step.fine w.2 (λ n z. l n (size_in_file_part (other_members s d) z)) in
      record {
        step = step-trans f g e one.step (step-trans g k e two.step rest.step);
        good = each-join (IsGoodMember e.context.known) fields more (good-later k e fields rest.step.grows two.good) rest.good;
      }
