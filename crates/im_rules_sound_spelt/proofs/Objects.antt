-- The objects that the outline of a unit names are objects behind it.
use Rattle.std.proofs.Common.{◌≡◌, ◌||◌, ◌&&◌, ℕ, List, [], ◌∷◌, ◌++◌, Bool, true, false, refl, sym, ap, ◌∙◌, subst}
use Rattle.std.specs.Prelude.{Option, Some, None, ℤ, not, if◌then◌else◌}
use Rattle.im_word.specs.Words.{Name}
use Rattle.im_ctree.specs.declared.specifier.SpecifierWord.{SpecifierWord}
use Rattle.im_ctree.specs.Tree as t
use Rattle.im_ctype.specs.Types.{CType, void, integer, pointer, array, unsized, struct, function, Member, is_function}
use Rattle.im_typed.specs.Program.{Func}
use Rattle.im_typed.specs.Typing.{Each}
use Rattle.im_rules.specs.TypeTests.{same_name}
use Rattle.im_rules.specs.Rules.{is_typedef, named_in, rule_2}
use Rattle.im_rules.specs.Scopes.{Entity, an_object, a_function, an_enumerator, a_typedef, Storage, static_object, Tag, Scopes, meaning, tag_meaning}
use Rattle.im_rules.specs.Outline.{Outline, is_in, place_in, added, name_of, nearest, typedef_in, is_extern, gives_function, sort_of, is_object_sort, is_object_among, objects_among, is_initialised, Outlined, Walk, with_declarator, with_declarators, with_lists, body_item, with_external, walked, whole_walk}
use Rattle.im_rules.specs.Context.{Context}
use Rattle.im_rules.specs.Declared.{Qualified, Declared, declared_tag, tags_in, specified}
use Rattle.im_rules.specs.Initialisers.{completed}
use Rattle.im_rules.specs.Statements.{name_of as name_in}
use Rattle.im_rules.specs.Demands.{Meets}
use Rattle.im_rules.specs.Typed.{Declares}
use Rattle.im_rules.specs.FileScope.{FilePlace, predeclared, file_start, Level, tag_here, number_in, with_enum_tag, file_asks, file_entity, callee_named}
use Rattle.im_rules.specs.TypedUnit.{FirstValues, AreEnumerators, no_enumerator, an_enumerator as one_enumerator, Specify, of_specifiers, NamesType, no_list, a_struct, an_enum, AreMembers, no_member, some_members, AreFields, no_field, a_field, past_declarator, past_head, AreDeclared, none_declared, one_declared, TypedExternal, of_declaration, of_function, AreExternals, no_external, an_external}
use Rattle.im_rules.specs.UnitBreaks.{some_declared, an_external as external_node, some_externals, first_external, other_externals, declaration_specifiers, declared_part, other_declared}
use Rattle.im_rules_limits.specs.Limits.{size_in_file_part, IsFileWithin}
use Rattle.im_rules_sound_expressions.specs.Bounded.{IsBounded}
use Rattle.im_rules_sound_expressions.proofs.Types.{each-meaning}
use Rattle.im_rules_sound_places.specs.Units.{AreNamed, IsWrittenExternal, IsWrittenUnit}
use Rattle.im_rules_sound_places.specs.Places.{IsFine, Grows}
use Rattle.im_rules_sound_places.proofs.Places.{self-named}
use Rattle.im_rules_sound_places.proofs.Growing.{each-weaker}
use Rattle.im_rules_sound_places.proofs.Specifiers.{specify-step}
use Rattle.im_rules_sound_places.proofs.Heads.{declared-name}
use Rattle.im_rules_sound_places.proofs.Files.{declarator-step, external-step, externals-step}
use Rattle.im_rules_sound_unit.proofs.Values.{join-each}
use Rattle.im_rules_sound_spelt.proofs.Functions.{declares-function, specified-function, first-typedef}

-- specifiers declare no typedef name

-- a typedef name behind is one that stood before
abbrev Keeps : Scopes → Scopes → Type 0
Keeps before behind = (x : Name) (k : Bool) (a : CType) → meaning behind x ≡ Some (a_typedef k a) → meaning before x ≡ Some (a_typedef k a)

constant-keeps : (s : Scopes) (y : Name) (z : ℤ) (x : Name) (k : Bool) (a : CType) → (if same_name y x then Some (an_enumerator z) else meaning s x) ≡ Some (a_typedef k a) → meaning s x ≡ Some (a_typedef k a)
constant-keeps s y z x k a e = by-name (same_name y x) e
  where
    by-name : (b : Bool) → (if b then Some (an_enumerator z) else meaning s x) ≡ Some (a_typedef k a) → meaning s x ≡ Some (a_typedef k a)
    by-name true e = absurd (cc)
    by-name false e = e

enumerators-keep : {f g : FilePlace} {next : ℤ} {es : t.Enumerators} → AreEnumerators f next es g → Keeps f.context.scopes g.context.scopes
enumerators-keep no_enumerator x k a e = e
enumerators-keep {f = f} (one_enumerator {x = y} {z = z} n m r) x k a e = constant-keeps f.context.scopes y (number_in z) x k a (enumerators-keep r x k a e)

declared-keeps : (c : Context) (at : ℕ) (y : Name) (g : Option Tag) → Keeps c.scopes (declared_tag c at y g)
declared-keeps c at y None x k a e = e
declared-keeps c at y (Some g) x k a e = e

tags-keep : (c : Context) (ss : List t.Specifier) → Keeps c.scopes (tags_in c ss)
tags-keep c (t.struct_tag at y ∷ ss) = declared-keeps c at y (tag_meaning c.scopes y)
tags-keep c (t.word_specifier at w ∷ ss) = λ x k a e. e
tags-keep c (t.typedef_specifier at y ∷ ss) = λ x k a e. e
tags-keep c (t.enum_tag at y ∷ ss) = λ x k a e. e
tags-keep c (t.struct_specifier at y ms ∷ ss) = λ x k a e. e
tags-keep c (t.enum_specifier at y es ∷ ss) = λ x k a e. e
tags-keep c [] = λ x k a e. e

here-keeps : (c : Context) (at : ℕ) (y : Option Name) → Keeps c.scopes (tag_here c at y)
here-keeps c at None = λ x k a e. e
here-keeps c at (Some y) = declared-keeps c at y (tag_meaning c.scopes y)

enum-keeps : (y : Option Name) (f : FilePlace) → Keeps f.context.scopes (with_enum_tag y f).context.scopes
enum-keeps None f x k a e = e
enum-keeps (Some y) f x k a e = e

fields-keep : {q : Qualified} {f g : FilePlace} {ds : t.Declarators} {fields : List Member} → AreFields q f ds fields g → Keeps f.context.scopes g.context.scopes
fields-keep no_field x k a e = e
fields-keep (a_field d m r) x k a e = fields-keep r x k a e

mutual
  specify-keeps : {l : Level} {f g : FilePlace} {xs : t.SpecifierList} {q : Qualified} → Specify l f xs q g → Keeps f.context.scopes g.context.scopes
  specify-keeps (of_specifiers m n) x k a e = names-keep n x k a e

  names-keep : {f g : FilePlace} {ss : List t.Specifier} {ks : List SpecifierWord} {q : Qualified} → NamesType f ss ks q g → Keeps f.context.scopes g.context.scopes
  names-keep {f = f} (no_list {ss = ss} m) x k a e = tags-keep f.context ss x k a e
  names-keep {f = f} (a_struct {at = at} {x = y} ms m) x k a e = here-keeps f.context at y x k a (members-keep ms x k a e)
  names-keep (an_enum {g = g} {x = y} m es) x k a e = enumerators-keep es x k a (enum-keeps y g x k a e)

  members-keep : {f g : FilePlace} {ms : t.Members} {fields : List Member} → AreMembers f ms fields g → Keeps f.context.scopes g.context.scopes
  members-keep no_member x k a e = e
  members-keep (some_members s d r) x k a e = specify-keeps s x k a (fields-keep d x k a (members-keep r x k a e))

-- the outline's walk, beside the place in the unit

abbrev pub IsObjectAt : FilePlace → Name → Type 0
IsObjectAt f x = (k : Bool) × (a : CType) × (s : Storage) × (meaning f.context.scopes x ≡ Some (an_object k a s))

abbrev IsObjectItem : FilePlace → Outlined → Type 0
IsObjectItem f i = is_object_sort i.sort ≡ true → IsObjectAt f i.name

abbrev KnowsFunctions : FilePlace → List Name → Type 0
KnowsFunctions f functions = (x : Name) (k : Bool) (a : CType) → meaning f.context.scopes x ≡ Some (a_typedef k a) → is_function a ≡ true → is_in x functions ≡ true

-- the walk knows each typedef name of a function type, and what it holds for an object is one
record IsOutlined (f : FilePlace) (o : Walk) : Type 0 where
  functions : KnowsFunctions f o.functions
  objects : Each (IsObjectItem f) o.items

item-later : (f g : FilePlace) → Grows f g → (i : Outlined) → IsObjectItem f i → IsObjectItem g i
item-later f g k i h e = let own = h e in (own.0, own.1, own.2, k.means i.name (an_object own.0 own.1 own.2) own.3)

items-later : (f g : FilePlace) → Grows f g → (items : List Outlined) → Each (IsObjectItem f) items → Each (IsObjectItem g) items
items-later f g k items h = each-weaker (IsObjectItem f) (IsObjectItem g) items (item-later f g k) h

-- the specifiers' type is a function's only where the walk knows their typedef name
abbrev IsKnown : t.SpecifierList → Qualified → Walk → Type 0
IsKnown xs q o = is_function q.type ≡ true → is_in (typedef_in xs) o.functions ≡ true

names-known : {f g : FilePlace} {ss : List t.Specifier} {ks : List SpecifierWord} {q : Qualified} (xs : t.SpecifierList) (functions : List Name) → NamesType f ss ks q g → named_in xs ≡ ss → KnowsFunctions f functions → is_function q.type ≡ true → is_in (typedef_in xs) functions ≡ true
names-known {f = f} xs functions (no_list {ss = ss} {ks = ks} m) is h e =
    let own = specified-function f.context ss ks e in
    let name = first-typedef xs own.at own.name own.others (is ∙ own.first) in
    ap (λ x. is_in x functions) name ∙ h own.name own.constant own.type own.means own.function
names-known xs functions (a_struct ms m) is h e = absurd (cc)
names-known xs functions (an_enum m es) is h e = absurd (cc)

specify-known : {l : Level} {f g : FilePlace} {xs : t.SpecifierList} {q : Qualified} (o : Walk) → Specify l f xs q g → KnowsFunctions f o.functions → IsKnown xs q o
specify-known o (of_specifiers {xs = xs} m n) h e = names-known xs o.functions n refl h e

-- declarators

completed-same : (a : CType) (i : t.MaybeInitializer) → is_function (completed a i) ≡ is_function a
completed-same (unsized e) t.no_initializer = refl
completed-same (unsized e) (t.an_initializer i) = refl
completed-same void i = refl
completed-same (integer k) i = refl
completed-same (pointer c a) i = refl
completed-same (array a n) i = refl
completed-same (struct n) i = refl
completed-same (function r ps) i = refl

module _ (unit : Outline) (x : Name) (c : Bool) (a : CType) where
  abbrev entity : Bool → Bool → Entity
  entity typedefs functions =
      if typedefs then a_typedef c a
      else if functions then a_function (callee_named unit x) c a
      else an_object c a (static_object (place_in x unit.statics))

  -- a name that is declared as a typedef name: its type, and how it is declared
  typedef-only : (typedefs functions : Bool) (k : Bool) (b : CType) → Some (entity typedefs functions) ≡ Some (a_typedef k b) → (typedefs ≡ true) × (a ≡ b)
  typedef-only true functions k b e = (refl, cc)
  typedef-only false true k b e = absurd (cc)
  typedef-only false false k b e = absurd (cc)

  plain-object : (typedefs functions : Bool) → typedefs ≡ false → functions ≡ false → entity typedefs functions ≡ an_object c a (static_object (place_in x unit.statics))
  plain-object true functions e g = absurd (cc)
  plain-object false true e g = absurd (cc)
  plain-object false false e g = refl

object-sort : (typedefs says : Bool) → is_object_sort (sort_of typedefs says) ≡ true → (typedefs ≡ false) × (says ≡ false)
object-sort true says e = absurd (cc)
object-sort false true e = absurd (cc)
object-sort false false e = (refl, refl)

still-in : (b : Bool) (x y : Name) (functions : List Name) → is_in x functions ≡ true → is_in x (if b then y ∷ functions else functions) ≡ true
still-in false x y functions e = e
still-in true x y functions e = by-name (same_name y x)
  where
    by-name : (b : Bool) → (b || is_in x functions) ≡ true
    by-name true = refl
    by-name false = e

now-in : (b : Bool) (x y : Name) (functions : List Name) → b ≡ true → same_name y x ≡ true → is_in x (if b then y ∷ functions else functions) ≡ true
now-in false x y functions e n = absurd (cc)
now-in true x y functions e n = ap (λ b. b || is_in x functions) n

abbrev says : t.SpecifierList → t.Declarator → Walk → Bool
says xs d o = gives_function (nearest d) (is_in (typedef_in xs) o.functions)

not-both : (b : Bool) → b ≡ false → (b ≡ true → ⊥)
not-both b e k = cc

false-unless : (b : Bool) → (b ≡ true → ⊥) → b ≡ false
false-unless true h = absurd (h refl)
false-unless false h = refl

declarator-outlined : {q : Qualified} {f : FilePlace} {d : t.Declarator} {y : Declared} (xs : t.SpecifierList) (i : t.MaybeInitializer) (o : Walk) → Declares f.context q d y → Grows f (past_declarator xs d y i f) → IsKnown xs q o → IsOutlined f o → IsOutlined (past_declarator xs d y i f) (with_declarator xs d (is_initialised i) o)
declarator-outlined {q = q} {f = f} {d = d} {y = y} xs i o p k known h =
    record {
      functions = λ x c b e g. by-name x c b (same_name (name_in y.name) x) refl e g;
      objects = join-each (IsObjectItem next) o.items (item ∷ []) (items-later f next k o.items h.objects) (newly, tt);
    }
  where
    next : FilePlace
    next = past_declarator xs d y i f

    item : Outlined
    item = record { name = name_of d; sort = sort_of (is_typedef xs) (says xs d o); is_extern = is_extern xs; is_whole = is_initialised i }

    a : CType
    a = completed y.type i

    here : Entity
    here = file_entity f.context.unit xs (name_in y.name) y.constant a

    told : is_function a ≡ true → says xs d o ≡ true
    told e = declares-function (is_in (typedef_in xs) o.functions) p known (sym (completed-same y.type i) ∙ e)

    by-name : (x : Name) (c : Bool) (b : CType) (n : Bool) → same_name (name_in y.name) x ≡ n → (if n then Some here else meaning f.context.scopes x) ≡ Some (a_typedef c b) → is_function b ≡ true → is_in x (if is_typedef xs && says xs d o then name_of d ∷ o.functions else o.functions) ≡ true
    by-name x c b true n e g =
        let own = typedef-only f.context.unit (name_in y.name) y.constant a (is_typedef xs) (is_function a) c b e in
        let fn = told (ap is_function own.1 ∙ g) in
        let both : (is_typedef xs && says xs d o) ≡ true = ap (λ z. z && says xs d o) own.0 ∙ fn in
        now-in (is_typedef xs && says xs d o) x (name_of d) o.functions both (ap (λ z. same_name z x) (sym (declared-name p)) ∙ n)
    by-name x c b false n e g = still-in (is_typedef xs && says xs d o) x (name_of d) o.functions (h.functions x c b e g)

    newly : IsObjectItem next item
    newly e =
        let sort = object-sort (is_typedef xs) (says xs d o) e in
        let plain : is_function a ≡ false = false-unless (is_function a) (λ g. not-both (says xs d o) sort.1 (told g)) in
        let object = plain-object f.context.unit (name_in y.name) y.constant a (is_typedef xs) (is_function a) sort.0 plain in
        let there : meaning next.context.scopes (name_in y.name) ≡ Some here = ap (λ z. if z then Some here else meaning f.context.scopes (name_in y.name)) (self-named (name_in y.name)) in
        (y.constant, a, static_object (place_in (name_in y.name) f.context.unit.statics), ap (meaning next.context.scopes) (sym (declared-name p)) ∙ there ∙ ap Some object)

known-later : (xs : t.SpecifierList) (q : Qualified) (d : t.Declarator) (whole : Bool) (o : Walk) → IsKnown xs q o → IsKnown xs q (with_declarator xs d whole o)
known-later xs q d whole o h e = still-in (is_typedef xs && says xs d o) (typedef_in xs) (name_of d) o.functions (h e)

declared-outlined : {xs : t.SpecifierList} {q : Qualified} {f e : FilePlace} {ds : t.InitDeclarators} {gs : List FirstValues} (o : Walk) → AreDeclared xs q f ds gs e → IsFine f → IsBounded f.context.known q.type → AreNamed ds → IsFileWithin f (some_declared xs q ds) → IsKnown xs q o → IsOutlined f o → IsOutlined e (with_declarators xs ds o)
declared-outlined o none_declared h b w l known k = k
declared-outlined {xs = xs} {q = q} {f = f} o (one_declared {d = d} {i = i} {y = y} p m v r) h b w l known k =
    let one = declarator-step p m h b w.1 w.2 l in
    let here = declarator-outlined xs i o p one.behind.grows known k in
    declared-outlined (with_declarator xs d (is_initialised i) o) r one.last.fine b w.3 (λ n z. l n (size_in_file_part (other_declared p) z)) (known-later xs q d (is_initialised i) o known)
    (record { functions = here.functions; objects = here.objects })

-- external declarations

no-typedef : (typedefs : Bool) → not (typedefs && true) ≡ true → typedefs ≡ true → ⊥
no-typedef true e k = cc
no-typedef false e k = cc

head-keeps : (g : FilePlace) (xs : t.SpecifierList) (d : t.Declarator) (y : Declared) → Meets (file_asks g xs y y.type true) → Keeps g.context.scopes (past_head xs d y g).context.scopes
head-keeps g xs d y m x k a e = by-name (same_name (name_in y.name) x) e
  where
    by-name : (b : Bool) → (if b then Some (file_entity g.context.unit xs (name_in y.name) y.constant y.type) else meaning g.context.scopes x) ≡ Some (a_typedef k a) → meaning g.context.scopes x ≡ Some (a_typedef k a)
    by-name true e =
        let own = typedef-only g.context.unit (name_in y.name) y.constant y.type (is_typedef xs) (is_function y.type) k a e in
        absurd (no-typedef (is_typedef xs) m.0 own.0)
    by-name false e = e

functions-later : (f g : FilePlace) (functions : List Name) → Keeps f.context.scopes g.context.scopes → KnowsFunctions f functions → KnowsFunctions g functions
functions-later f g functions k h x c a e n = h x c a (k x c a e) n

external-outlined : {f e : FilePlace} {x : t.External} {gs : List FirstValues} {ks : List Func} (o : Walk) → TypedExternal f x gs ks e → IsFine f → IsWrittenExternal x → IsFileWithin f (external_node x) → IsOutlined f o → IsOutlined e (with_external x o)
external-outlined {f = f} o (of_declaration {g = g} {xs = xs} {q = q} s d) h w l k =
    let one = specify-step s h w.0 (λ n z. l n (size_in_file_part declaration_specifiers z)) in
    declared-outlined (with_lists xs o) d one.step.fine one.bounded w.1 (λ n z. l n (size_in_file_part (declared_part s) z)) (specify-known o s k.functions)
    (record { functions = functions-later f g o.functions (specify-keeps s) k.functions; objects = items-later f g one.step.grows o.items k.objects })
external-outlined {f = f} {e = e} o (of_function {g = g} {xs = xs} {d = d} {y = y} s p b a r is) h w l k =
    let all = external-step (of_function s p b a r is) h w l in
    record {
      functions = λ x c n q z. k.functions x c n (specify-keeps s x c n (head-keeps g xs d y a x c n q)) z;
      objects = join-each (IsObjectItem e) o.items (body_item d ∷ []) (items-later f e all.grows o.items k.objects) ((λ q. absurd (cc)), tt);
    }

externals-outlined : {f e : FilePlace} {u : t.Tree} {gs : List FirstValues} {ks : List Func} (o : Walk) → AreExternals f u gs ks e → IsFine f → IsWrittenUnit u → IsFileWithin f (some_externals u) → IsOutlined f o → IsOutlined e (walked u o)
externals-outlined o no_external h w l k = k
externals-outlined o (an_external {x = x} d r) h w l k =
    let one = external-step d h w.0 (λ n z. l n (size_in_file_part first_external z)) in
    externals-outlined (with_external x o) r one.fine w.1 (λ n z. l n (size_in_file_part (other_externals d) z)) (external-outlined o d h w.0 (λ n z. l n (size_in_file_part first_external z)) k)

-- the names that the outline has

added-objects : (e : FilePlace) (x : Name) (xs : List Name) → Each (IsObjectAt e) xs → IsObjectAt e x → Each (IsObjectAt e) (added x xs)
added-objects e x xs h g = by-test (is_in x xs)
  where
    by-test : (b : Bool) → Each (IsObjectAt e) (if b then xs else xs ++ x ∷ [])
    by-test true = h
    by-test false = join-each (IsObjectAt e) xs (x ∷ []) h (g, tt)

among-objects : (e : FilePlace) (all : List Outlined) (before : List Name) (items : List Outlined) → Each (IsObjectAt e) before → Each (IsObjectItem e) items → Each (IsObjectAt e) (objects_among all before items)
among-objects e all before [] h k = h
among-objects e all before (i ∷ items) h k =
    among-objects e all (if is_object_sort i.sort && is_object_among i.name all then added i.name before else before) items (by-test (is_object_sort i.sort) (is_object_among i.name all) refl) k.1
  where
    by-test : (b c : Bool) → is_object_sort i.sort ≡ b → Each (IsObjectAt e) (if b && c then added i.name before else before)
    by-test true true is = added-objects e i.name before h (k.0 is)
    by-test true false is = h
    by-test false c is = h

-- no typedef name of a function type is predeclared

abbrev IsPlain : Name → Entity → Type 0
IsPlain x (a_typedef k a) = is_function a ≡ false
IsPlain x e = Unit {0}

start-functions : (u : t.Tree) → KnowsFunctions (file_start u) []
start-functions u x k a e g =
    let plain : is_function a ≡ false = each-meaning IsPlain predeclared x (a_typedef k a) (refl, (refl, (refl, (refl, (refl, (refl, (refl, (tt, (tt, tt))))))))) e in
    absurd (cc)

pub outline-objects : {e : FilePlace} {u : t.Tree} {gs : List FirstValues} {ks : List Func} → AreExternals (file_start u) u gs ks e → IsFine (file_start u) → IsWrittenUnit u → IsFileWithin (file_start u) (some_externals u) → Each (IsObjectAt e) e.context.unit.statics
outline-objects {e = e} {u = u} d h w l =
    let all = externals-step d h w l in
    let items = (whole_walk u).items in
    let walk = externals-outlined (record { functions = []; items = []; lists = [] }) d h w l (record { functions = start-functions u; objects = tt }) in
    subst (λ (o : Outline). Each (IsObjectAt e) o.statics) (sym all.grows.unit) (among-objects e items [] items tt walk.objects)
