-- Members, one behind the other, and their lists.
use Rattle.std.proofs.Common.{◌≡◌, ℕ, ◌+◌, List, [], ◌∷◌, ◌++◌, length, drop, inl, inr, Option, Result, Ok, Err, MatchResult, refl, sym, ap, ◌∙◌, subst, append_assoc}
use Rattle.std.proofs.lemmas.List.{append-nil}
use Rattle.im_check_expressions.specs.im_word.Words.{Name}
use Rattle.im_ctree.specs.Tree as t
use Rattle.im_ctree.specs.Shape.{declarator_of}
use Rattle.im_ctree.specs.declared.declarator.Declarator as dc
use Rattle.im_ctree.specs.declared.specifier.Member as mb
use Rattle.im_ctree.specs.declared.specifier.SpecifierWord.{SpecifierWord}
use Rattle.im_ctype.specs.Types.{struct, Member, Structs}
use Rattle.im_rules.specs.BodyBreaks.{declarator_token}
use Rattle.im_rules.specs.Breaks.{a_declarator}
use Rattle.im_rules.specs.Declared.{Qualified, Declared}
use Rattle.im_rules.specs.Demands.{Meets, Refuses}
use Rattle.im_rules.specs.Strings.{strings_of_declarator}
use Rattle.im_rules.specs.FileScope.{FilePlace, of_members, past_strings, member_asks, member_of, struct_asks, with_list_begun, with_struct}
use Rattle.im_rules.specs.Terms.{size_in}
use Rattle.im_rules.specs.Typed.{Declares}
use Rattle.im_rules.specs.TypedUnit.{Specify, NamesType, a_struct, AreMembers, no_member, some_members, AreFields, no_field, a_field}
use Rattle.im_rules.specs.UnitBreaks as b
use Rattle.im_rules.specs.UnitBreaks.{FileBroken, here_in_file, within_file, in_file_inner, some_fields, some_named}
use Rattle.im_rules_limits.specs.Limits.{FileSized, of_struct, of_member, Counted, AreMembersWithin, size_in_file_part, size_in_file_inner, IsWithin, IsFileWithin}
use Rattle.im_check_stop.specs.declared.stop.Stop.{Stop}
use Rattle.im_check_stop.specs.declared.stop.Stop.TheVariants.{Rule, Large, Memory}
use Rattle.im_check_stop.specs.Answers.{IsRefusal}
use Rattle.im_ctree_parts.specs.Lists.{specifiers_in, declarators_from, with_member, members_from}
use Rattle.im_ctree_parts.proofs.Shapes.{member_shape, declarator_shape}
use Rattle.im_check_declarators.specs.Suffixes.{IsFault}
use Rattle.im_check_file_specifiers.specs.Answers.{IsFileFault, IsRest, list_of}
use Rattle.im_check_place.specs.Fields.{fields_of}
use Rattle.im_check_place.specs.declared.field.Field.{Field}
use Rattle.im_check_file_specifiers.specs.Lists.{FieldsAdded, GoesOnFields, GoesOnMembers, IsEnded, struct_type}
use Rattle.im_check_file_specifiers.specs.Sizes.{StructFits, StructCounted, IsStructOver}
use Rattle.im_check_file_specifiers.proofs.Rests.{rest_itself, rest_then, rest_fault}
use Rattle.im_check_file_specifiers.proofs.Within.{no_fields_within, fields_within, no_members_within, members_within, struct_within}

-- one member

pub field_undeclared : (f : FilePlace) (q : Qualified) (d : t.Declarator) (rest : t.Declarators) (stop : Stop) → IsFault f.context (a_declarator q d) stop → IsFileFault f (some_fields q (t.more_declarators d rest)) stop
field_undeclared f q d rest (Rule rule token) h = in_file_inner b.field_declarator h
field_undeclared f q d rest (Large bytes) h = (size_in_file_inner b.field_declarator h.0, h.1)
field_undeclared f q d rest Memory h = tt

refused_at : (f : FilePlace) (q : Qualified) (e : t.Declarator) (y : Declared) (rest : t.Declarators) (stop : Stop) → Declares f.context q e y → IsRefusal (member_asks f.context.known y) (declarator_token e) stop
    → IsFileFault f (some_fields q (t.more_declarators e rest)) stop
refused_at f q e y rest (Rule rule token) h r = subst (λ z. FileBroken f (some_fields q (t.more_declarators e rest)) rule z) (sym r.1) (here_in_file (b.at_field h r.0))
refused_at f q e y rest (Large bytes) h r = absurd r
refused_at f q e y rest Memory h r = tt

pub field_refused : (f : FilePlace) (k : Structs) (q : Qualified) (d : dc.Declarator) (y : Declared) (rest : t.Declarators) (stop : Stop)
    → Declares f.context q (declarator_of d) y
    → k ≡ f.context.known
    → IsRefusal (member_asks k y) (dc.out-Declarator d).at stop
    → IsFileFault f (some_fields q (t.more_declarators (declarator_of d) rest)) stop
field_refused f k q d y rest stop h known r =
    let r₁ : IsRefusal (member_asks f.context.known y) (dc.out-Declarator d).at stop = subst (λ z. IsRefusal (member_asks z y) (dc.out-Declarator d).at stop) known r in
    refused_at f q (declarator_of d) y rest stop h (subst (λ z. IsRefusal (member_asks f.context.known y) z stop) (sym (ap declarator_token (declarator_shape d))) r₁)

pub field_done : (f g : FilePlace) (q : Qualified) (e : t.Declarator) (y : Declared) (rest : t.Declarators) (old new : List Field)
    → Declares f.context q e y
    → g ≡ past_strings (strings_of_declarator e) f
    → Meets (member_asks g.context.known y)
    → fields_of new ≡ fields_of old ++ member_of y ∷ []
    → IsWithin f.context (a_declarator q e)
    → GoesOnFields q f (t.more_declarators e rest) old new rest g
field_done f g q e y rest old new h place meets added small =
    let known : g.context.known ≡ f.context.known = ap (λ (p : FilePlace). p.context.known) place in
    let meets₁ : Meets (member_asks f.context.known y) = subst (λ k. Meets (member_asks k y)) known meets in
    record {
      fields = member_of y ∷ [];
      added = added;
      gives = λ ms k d. a_field h meets₁ (subst (λ p. AreFields q p rest ms k) place d);
      behind =
          let r : IsRest f (some_fields q (t.more_declarators e rest)) (past_strings (strings_of_declarator e) f) (some_fields q rest) = record {
            breaks = λ rule token x. within_file b.other_fields x;
            sizes = λ k x. size_in_file_part b.other_fields x;
            within = fields_within f q e rest small;
          } in
          subst (λ p. IsRest f (some_fields q (t.more_declarators e rest)) p (some_fields q rest)) (sym place) r;
    }

-- how far the declarators of one declaration have added members
pub record FieldsReached (q : Qualified) (before : FilePlace) (ds : List dc.Declarator) (i : ℕ) (old new : List Field) (now : FilePlace) : Type 0 where
  pub fields : List Member
  pub added : fields_of new ≡ fields_of old ++ fields
  pub gives : (ms : List Member) (g : FilePlace) → AreFields q now (declarators_from (drop i ds)) ms g → AreFields q before (declarators_from ds) (fields ++ ms) g
  pub behind : IsRest before (some_fields q (declarators_from ds)) now (some_fields q (declarators_from (drop i ds)))

pub fields_none : (q : Qualified) (f : FilePlace) (ds : List dc.Declarator) (old : List Field) → FieldsReached q f ds 0 old old f
fields_none q f ds old = record { fields = []; added = sym (append-nil (fields_of old)); gives = λ ms g d. d; behind = rest_itself f (some_fields q (declarators_from ds)) }

pub fields_more : {q : Qualified} {before now after : FilePlace} {ds : List dc.Declarator} {i : ℕ} {d : dc.Declarator} (old middle new : List Field)
    → drop i ds ≡ d ∷ drop (i + 1) ds
    → FieldsReached q before ds i old middle now
    → ((rest : t.Declarators) → GoesOnFields q now (t.more_declarators (declarator_of d) rest) middle new rest after)
    → FieldsReached q before ds (i + 1) old new after
fields_more {q = q} {before = before} {now = now} {after = after} {ds = ds} {i = i} old middle new at r one =
    let rest = declarators_from (drop (i + 1) ds) in
    let o = one rest in
    record {
      fields = r.fields ++ o.fields;
      added = o.added ∙ ap (λ zs. zs ++ o.fields) r.added ∙ append_assoc (fields_of old) r.fields o.fields;
      gives = λ ms g d.
          let d₁ : AreFields q now (declarators_from (drop i ds)) (o.fields ++ ms) g = rw at (o.gives ms g d) in
          subst (λ zs. AreFields q before (declarators_from ds) zs g) (sym (append_assoc r.fields o.fields ms)) (r.gives (o.fields ++ ms) g d₁);
      behind =
          let b : IsRest now (some_fields q (declarators_from (drop i ds))) after (some_fields q rest) = rw at o.behind in
          rest_then r.behind b;
    }

pub fields_fault : {q : Qualified} {before now : FilePlace} {ds : List dc.Declarator} {i : ℕ} {d : dc.Declarator} (old new : List Field) (stop : Stop)
    → drop i ds ≡ d ∷ drop (i + 1) ds
    → FieldsReached q before ds i old new now
    → ((rest : t.Declarators) → IsFileFault now (some_fields q (t.more_declarators (declarator_of d) rest)) stop)
    → IsFileFault before (some_fields q (declarators_from ds)) stop
fields_fault {q = q} {now = now} {ds = ds} {i = i} old new stop at r broken =
    let x : IsFileFault now (some_fields q (declarators_from (drop i ds))) stop = rw at (broken (declarators_from (drop (i + 1) ds))) in
    rest_fault stop r.behind x

pub fields_all : {q : Qualified} {before now : FilePlace} {ds : List dc.Declarator} {i : ℕ} (old new : List Field)
    → drop i ds ≡ []
    → FieldsReached q before ds i old new now
    → FieldsAdded q before (declarators_from ds) old new now
fields_all {q = q} {before = before} {now = now} {ds = ds} {i = i} old new ends r =
    let d : AreFields q now (declarators_from (drop i ds)) [] now = rw ends no_field in
    let w : IsFileWithin now (some_fields q (declarators_from (drop i ds))) = rw ends (no_fields_within now q) in
    record {
      fields = r.fields;
      added = r.added;
      typed = subst (λ zs. AreFields q before (declarators_from ds) zs now) (append-nil r.fields) (r.gives [] now d);
      within = r.behind.within w;
    }

-- the members of one declaration

abbrev tree_by : mb.Member → t.Members → t.Members
tree_by m rest = t.more_members (specifiers_in (mb.out-Member m).specifiers) (declarators_from (mb.out-Member m).declarators.items) rest

shaped : (f : FilePlace) (m : mb.Member) (rest : t.Members) (stop : Stop) → IsFileFault f (b.some_members (tree_by m rest)) stop → IsFileFault f (b.some_members (with_member m rest)) stop
shaped f m rest stop x = subst (λ z. IsFileFault f (b.some_members z) stop) (sym (member_shape m rest)) x

unspecified : (f : FilePlace) (s : t.Specifiers) (ds : t.Declarators) (rest : t.Members) (stop : Stop) → IsFileFault f (b.file_specifiers of_members s) stop → IsFileFault f (b.some_members (t.more_members s ds rest)) stop
unspecified f s ds rest (Rule rule token) x = within_file b.member_specifiers x
unspecified f s ds rest (Large bytes) x = (size_in_file_part b.member_specifiers x.0, x.1)
unspecified f s ds rest Memory x = tt

pub member_unspecified : (f : FilePlace) (m : mb.Member) (rest : t.Members) (stop : Stop) → IsFileFault f (b.file_specifiers of_members (specifiers_in (mb.out-Member m).specifiers)) stop → IsFileFault f (b.some_members (with_member m rest)) stop
member_unspecified f m rest stop x = shaped f m rest stop (unspecified f (specifiers_in (mb.out-Member m).specifiers) (declarators_from (mb.out-Member m).declarators.items) rest stop x)

undeclared : (f g : FilePlace) (at : ℕ) (xs : t.SpecifierList) (q : Qualified) (ds : t.Declarators) (rest : t.Members) (stop : Stop) → Specify of_members f xs q g → IsFileFault g (some_fields q ds) stop
    → IsFileFault f (b.some_members (t.more_members (t.specifiers at xs) ds rest)) stop
undeclared f g at xs q ds rest (Rule rule token) s x = within_file (b.member_fields s) x
undeclared f g at xs q ds rest (Large bytes) s x = (size_in_file_part (b.member_fields s) x.0, x.1)
undeclared f g at xs q ds rest Memory s x = tt

pub member_undeclared : (f g : FilePlace) (m : mb.Member) (q : Qualified) (rest : t.Members) (stop : Stop)
    → Specify of_members f (list_of (mb.out-Member m).specifiers) q g
    → IsFileFault g (some_fields q (declarators_from (mb.out-Member m).declarators.items)) stop
    → IsFileFault f (b.some_members (with_member m rest)) stop
member_undeclared f g m q rest stop s x = shaped f m rest stop (undeclared f g _ _ q (declarators_from (mb.out-Member m).declarators.items) rest stop s x)

member_gives : (f g h : FilePlace) (at : ℕ) (xs : t.SpecifierList) (q : Qualified) (ds : t.Declarators) (rest : t.Members) (old new : List Field)
    → Specify of_members f xs q g × IsFileWithin f (b.file_specifiers of_members (t.specifiers at xs))
    → FieldsAdded q g ds old new h
    → GoesOnMembers f (t.more_members (t.specifiers at xs) ds rest) old new rest h
member_gives f g h at xs q ds rest old new s a =
    record {
      fields = a.fields;
      added = a.added;
      gives = λ ms k d. some_members s.0 a.typed d;
      behind = record {
        breaks = λ rule token x. within_file (b.other_members s.0 a.typed) x;
        sizes = λ k x. size_in_file_part (b.other_members s.0 a.typed) x;
        within = members_within f g h at xs q ds rest a.fields s.0 a.typed s.1 a.within;
      };
    }

pub member_done : (f g h : FilePlace) (m : mb.Member) (q : Qualified) (rest : t.Members) (old new : List Field)
    → Specify of_members f (list_of (mb.out-Member m).specifiers) q g × IsFileWithin f (b.file_specifiers of_members (specifiers_in (mb.out-Member m).specifiers))
    → FieldsAdded q g (declarators_from (mb.out-Member m).declarators.items) old new h
    → GoesOnMembers f (with_member m rest) old new rest h
member_done f g h m q rest old new s a =
    subst (λ z. GoesOnMembers f z old new rest h) (sym (member_shape m rest)) (member_gives f g h _ _ q (declarators_from (mb.out-Member m).declarators.items) rest old new s a)

pub member_made : (f g h : FilePlace) (m : mb.Member) (q : Qualified) (rest : t.Members) (old new : List Field) (result : Result Unit Stop)
    → Specify of_members f (list_of (mb.out-Member m).specifiers) q g × IsFileWithin f (b.file_specifiers of_members (specifiers_in (mb.out-Member m).specifiers))
    → MatchResult result (λ u. FieldsAdded q g (declarators_from (mb.out-Member m).declarators.items) old new h) (IsFileFault g (some_fields q (declarators_from (mb.out-Member m).declarators.items)))
    → MatchResult result (λ u. GoesOnMembers f (with_member m rest) old new rest h) (IsFileFault f (b.some_members (with_member m rest)))
member_made f g h m q rest old new (Ok u) s x = member_done f g h m q rest old new s x
member_made f g h m q rest old new (Err stop) s x = member_undeclared f g m q rest stop s.0 x

-- how far the members of a list are typed
pub record MembersReached (before : FilePlace) (ms : List mb.Member) (i : ℕ) (fs : List Field) (now : FilePlace) : Type 0 where
  pub gives : (more : List Member) (g : FilePlace) → AreMembers now (members_from (drop i ms)) more g → AreMembers before (members_from ms) (fields_of fs ++ more) g
  pub behind : IsRest before (b.some_members (members_from ms)) now (b.some_members (members_from (drop i ms)))

pub members_none : (f : FilePlace) (ms : List mb.Member) → MembersReached f ms 0 [] f
members_none f ms = record { gives = λ more g d. d; behind = rest_itself f (b.some_members (members_from ms)) }

pub members_more : {before now after : FilePlace} {ms : List mb.Member} {i : ℕ} {m : mb.Member} (old new : List Field)
    → drop i ms ≡ m ∷ drop (i + 1) ms
    → MembersReached before ms i old now
    → ((rest : t.Members) → GoesOnMembers now (with_member m rest) old new rest after)
    → MembersReached before ms (i + 1) new after
members_more {before = before} {now = now} {after = after} {ms = ms} {i = i} old new at r one =
    let o = one (members_from (drop (i + 1) ms)) in
    record {
      gives = λ more g d.
          let d₁ : AreMembers now (members_from (drop i ms)) (o.fields ++ more) g = rw at (o.gives more g d) in
          subst (λ zs. AreMembers before (members_from ms) zs g) (sym (append_assoc (fields_of old) o.fields more) ∙ ap (λ zs. zs ++ more) (sym o.added)) (r.gives (o.fields ++ more) g d₁);
      behind =
          let x : IsRest now (b.some_members (members_from (drop i ms))) after (b.some_members (members_from (drop (i + 1) ms))) = rw at o.behind in
          rest_then r.behind x;
    }

pub members_fault : {before now : FilePlace} {ms : List mb.Member} {i : ℕ} {m : mb.Member} (fs : List Field) (stop : Stop)
    → drop i ms ≡ m ∷ drop (i + 1) ms
    → MembersReached before ms i fs now
    → ((rest : t.Members) → IsFileFault now (b.some_members (with_member m rest)) stop)
    → IsFileFault before (b.some_members (members_from ms)) stop
members_fault {now = now} {ms = ms} {i = i} fs stop at r broken =
    let x : IsFileFault now (b.some_members (members_from (drop i ms))) stop = rw at (broken (members_from (drop (i + 1) ms))) in
    rest_fault stop r.behind x

pub members_all : {before now : FilePlace} {ms : List mb.Member} {i : ℕ} (fs : List Field)
    → drop i ms ≡ []
    → MembersReached before ms i fs now
    → AreMembers before (members_from ms) (fields_of fs) now × IsFileWithin before (b.some_members (members_from ms))
members_all {before = before} {now = now} {ms = ms} {i = i} fs ends r =
    let d : AreMembers now (members_from (drop i ms)) [] now = rw ends no_member in
    let w : IsFileWithin now (b.some_members (members_from (drop i ms))) = rw ends (no_members_within now) in
    (subst (λ zs. AreMembers before (members_from ms) zs now) (append-nil (fields_of fs)) (r.gives [] now d), r.behind.within w)

-- a struct with its list

pub members_broken : (f : FilePlace) (at first : ℕ) (x : Option Name) (ms : t.Members) (ss : List t.Specifier) (stop : Stop) → IsFileFault (with_list_begun at x f) (b.some_members ms) stop
    → IsFileFault f (some_named first (t.struct_specifier at x ms ∷ ss)) stop
members_broken f at first x ms ss (Rule rule token) h = within_file b.struct_members h
members_broken f at first x ms ss (Large bytes) h = (size_in_file_part b.struct_members h.0, h.1)
members_broken f at first x ms ss Memory h = tt

pub list_refused : (f g : FilePlace) (at first : ℕ) (x : Option Name) (ms : t.Members) (ss : List t.Specifier) (fs : List Member) (stop : Stop)
    → AreMembers (with_list_begun at x f) ms fs g
    → IsRefusal (struct_asks f x fs) at stop
    → IsFileFault f (some_named first (t.struct_specifier at x ms ∷ ss)) stop
list_refused f g at first x ms ss fs (Rule rule token) d r = subst (λ z. FileBroken f (some_named first (t.struct_specifier at x ms ∷ ss)) rule z) (sym r.1) (here_in_file (b.at_struct d r.0))
list_refused f g at first x ms ss fs (Large bytes) d r = absurd r
list_refused f g at first x ms ss fs Memory d r = tt

-- the structs that are known where a list has ended
known_then : (g h : FilePlace) (n : ℕ) (fs : List Member) (known : Structs) → IsEnded g fs n h → known ≡ h.context.known → known ≡ (with_struct fs g).context.known
known_then g h n fs known e same = same ∙ ap (λ (p : FilePlace). p.context.known) e.place

large_by : (f g : FilePlace) (known : Structs) (at first n bytes : ℕ) (x : Option Name) (ms : t.Members) (ss : List t.Specifier) (fs : List Member)
    → AreMembers (with_list_begun at x f) ms fs g
    → n ≡ length g.context.known
    → known ≡ (with_struct fs g).context.known
    → StructCounted known fs n bytes
    → FileSized f (some_named first (t.struct_specifier at x ms ∷ ss)) bytes
large_by f g known at first n bytes x ms ss fs d number same (inl c) = of_member d c.1 (subst (λ (z : Structs). Counted z c.0.type bytes) same c.2)
large_by f g known at first n bytes x ms ss fs d number same (inr c) =
    let there = (with_struct fs g).context.known in
    let size : bytes ≡ size_in there (struct (length g.context.known)) = c.1 ∙ ap (λ z. size_in z (struct n)) same ∙ ap (λ k. size_in there (struct k)) number in
    subst (λ k. FileSized f (some_named first (t.struct_specifier at x ms ∷ ss)) k) (sym size) (of_struct d (subst (λ (z : Structs). AreMembersWithin z fs) same c.0))

pub list_large : (f g h : FilePlace) (known : Structs) (at first n : ℕ) (x : Option Name) (ms : t.Members) (ss : List t.Specifier) (fs : List Member) (stop : Stop)
    → AreMembers (with_list_begun at x f) ms fs g
    → IsEnded g fs n h
    → known ≡ h.context.known
    → IsStructOver known fs n stop
    → IsFileFault f (some_named first (t.struct_specifier at x ms ∷ ss)) stop
list_large f g h known at first n x ms ss fs (Rule rule token) d e same over = absurd over
list_large f g h known at first n x ms ss fs (Large bytes) d e same over =
    (large_by f g known at first n bytes x ms ss fs d e.number (known_then g h n fs known e same) over.0, over.1)
list_large f g h known at first n x ms ss fs Memory d e same over = tt

pub list_done : (f g h : FilePlace) (known : Structs) (at first n : ℕ) (x : Option Name) (ms : t.Members) (ss : List t.Specifier) (ks : List SpecifierWord) (fs : List Member)
    → AreMembers (with_list_begun at x f) ms fs g × IsFileWithin (with_list_begun at x f) (b.some_members ms)
    → Meets (struct_asks f x fs)
    → IsEnded g fs n h
    → known ≡ h.context.known
    → StructFits known fs n
    → NamesType f (t.struct_specifier at x ms ∷ ss) ks (struct_type n) h × IsFileWithin f (some_named first (t.struct_specifier at x ms ∷ ss))
list_done f g h known at first n x ms ss ks fs d meets e same fits =
    let named = subst (λ z. NamesType f (t.struct_specifier at x ms ∷ ss) ks (struct_type n) z) (sym e.place)
    (subst (λ k. NamesType f (t.struct_specifier at x ms ∷ ss) ks (struct_type k) (with_struct fs g)) (sym e.number) (a_struct d.0 meets)) in
    let fits₁ = subst (λ (z : Structs). StructFits z fs n) (known_then g h n fs known e same) fits in
    let fits₂ = subst (λ (k : ℕ). StructFits (with_struct fs g).context.known fs k) e.number fits₁ in
    (named, struct_within f g first at x ms ss fs d.0 fits₂ d.1)
