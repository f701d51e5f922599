-- Declarations in a block: each object stands among the function's, and its initialiser fits it.
use Rattle.std.proofs.Common.{◌≡◌, ℕ, ◌+◌, ◌<◌, ◌≤◌, List, [], ◌∷◌, ◌++◌, length, length-append, Bool, true, refl, sym, ap, ◌∙◌, subst, arith}
use Rattle.std.specs.Prelude.{Option, Some, None, slice_get}
use Rattle.std.proofs.lemmas.Option.{slice_get_within}
use Rattle.im_word.specs.Words.{Name}
use Rattle.im_ctree.specs.Tree as t
use Rattle.im_ctype.specs.Types.{CType, void, integer, pointer, array, unsized, struct, function, Structs}
use Rattle.im_ctype.specs.Layout.{layout}
use Rattle.im_typed.specs.Program.{Stmt, Stmts, LocalObject, Func, Prog}
use Rattle.im_typed.specs.Typing.{Each, cells_at, IsPieceOf, IsTypedStmt, AreTyped}
use Rattle.im_rules.specs.TypeTests.{is_complete_in}
use Rattle.im_rules.specs.Rules.{named_in}
use Rattle.im_rules.specs.Strings.{strings_of_declarator}
use Rattle.im_rules.specs.Context.{Context}
use Rattle.im_rules.specs.Terms.{size_in}
use Rattle.im_rules.specs.Scopes.{Entity, Tag, tag_meaning_here}
use Rattle.im_rules.specs.Declared.{Qualified, Declared, declared_tag, tags_declared, behind_tags}
use Rattle.im_rules.specs.Typed.{Declares}
use Rattle.im_rules.specs.Initialisers.{completed, strings_given, pieces_of}
use Rattle.im_rules.specs.Statements.{Site, Added, name_of, object_of, with_local, declared_strings, initialised_strings, behind_initializer, MayInitialise, forgets, initialises, AreLocals, no_local, a_local, in_context, TypedDeclaration, of_declaration}
use Rattle.im_rules.specs.BodyBreaks.{some_locals, a_declaration, an_initialiser, local_declarator, locals_behind, declared_locals}
use Rattle.im_rules.proofs.Tags.{Form, alone, ordinary, form_of}
use Rattle.im_rules_limits.proofs.Counted.{counted-within}
use Rattle.im_rules_limits.specs.Limits.{size_limit, of_local, size_in_part, size_in_inner, size_in_local_initialiser, IsGivenWithin, IsBodyWithin}
use Rattle.im_rules_sound_expressions.specs.Bounded.{IsBounded, EachEntity, IsSoundEntity, IsSoundContext, HasStrings}
use Rattle.im_rules_sound_expressions.specs.Written.{MayBeInitialised, AreWrittenDeclarators, IsWrittenDeclaration}
use Rattle.im_rules_sound_expressions.proofs.Types.{complete-is-object}
use Rattle.im_rules_sound_expressions.proofs.Declarators.{declares-bounded, specifiers-bounded, tags-kept}
use Rattle.im_rules_sound_expressions.proofs.Expressions.{typedefs-bounded}
use Rattle.im_rules_sound_statements.specs.Sites.{StandFrom, IsSoundSite, AreObjects}
use Rattle.im_rules_sound_statements.proofs.Initialisers.{initialisers}
use Rattle.im_rules_sound_statements.proofs.Sites.{IsPast, stand-right, past-strings-sound}

pub completed-bounded : (known : Structs) (a : CType) (i : t.MaybeInitializer) → IsBounded known a → is_complete_in known (completed a i) ≡ true → size_in known (completed a i) ≤ size_limit → IsBounded known (completed a i)
completed-bounded known (unsized e) (t.an_initializer i) b c le = (b.0, c, le)
completed-bounded known (unsized e) t.no_initializer b c le = b
completed-bounded known void i b c le = b
completed-bounded known (integer k) i b c le = b
completed-bounded known (pointer d a) i b c le = b
completed-bounded known (array a n) i b c le = b
completed-bounded known (struct n) i b c le = b
completed-bounded known (function r ps) i b c le = b

-- a declaration's tags declare no names
tags-declared-kept : (P : Name → Entity → Type 0) (c : Context) {xs : t.SpecifierList} {ds : t.InitDeclarators} → Form xs ds → EachEntity P c.scopes → EachEntity P (tags_declared c xs ds)
tags-declared-kept P c (alone {at = at} {x = x}) h = by-tag (tag_meaning_here c.scopes x)
  where
    by-tag : (g : Option Tag) → EachEntity P (declared_tag c at x g)
    by-tag None = h
    by-tag (Some g) = h
tags-declared-kept P c {xs = xs} (ordinary a s) h = subst (λ z. EachEntity P z) (sym (s c)) (tags-kept P c (named_in xs) h)

module _ (g : Prog) (f : Func) where
  -- what a declaration gives
  pub record IsDeclared (b k : Bool) (s : Site) (us : Stmts) (m : Added) (e : Site) : Type 0 where
    pub typed : AreTyped g f b k us
    pub objects : AreObjects m.objects
    pub context : IsSoundContext g f e.context
    pub past : IsPast s m e

  -- the object at the function's number
  record HasObject (n : ℕ) (known : Structs) (x : Name) (a : CType) : Type 0 where
    pub there : slice_get f.objects n ≡ Some (object_of known x a)
    pub inside : n < length f.objects

  first-object : (all more : List LocalObject) (n : ℕ) (o : LocalObject) → StandFrom all n ((o ∷ []) ++ more) → slice_get all n ≡ Some o
  first-object all more n o h =
      let zero : n + 0 ≡ n = omega arith in
      ap (slice_get all) (sym zero) ∙ h 0 o refl

  initialise-typed : (b k : Bool) (known : Structs) (c : Context) (n : ℕ) (x : Name) (a : CType) (i : t.MaybeInitializer) (u : Stmt) → MayInitialise c n a i u → c.known ≡ known → MayBeInitialised i → IsSoundContext g f c → IsBounded c.known a → is_complete_in c.known a ≡ true
      → HasStrings g c (initialised_strings c.known a i) → ((j : t.Initializer) → i ≡ t.an_initializer j → IsGivenWithin c (an_initialiser a 0 j)) → HasObject n c.known x a → IsTypedStmt g f b k u
  initialise-typed b k known c n x a t.no_initializer _ forgets e w h bounded complete st l o = o.inside
  initialise-typed b k known c n x a (t.an_initializer i) _ (initialises {ps = ps} d) e w h bounded complete st l o =
      let own = initialisers g f c a i ps d w h bounded complete st (l i refl) in
      let cells : (layout c.known a).cells ≡ cells_at (slice_get f.objects n) = ap cells_at (sym o.there) in (
        o.inside,
        ap length cells,
        subst (λ cs. Each (IsPieceOf g f cs) (pieces_of c.known ps)) cells own.0,
        own.1,
      )

  locals-typed : (b k : Bool) {q : Qualified} {s e : Site} {ds : t.InitDeclarators} {us : Stmts} {m : Added} → AreLocals q s ds us m e → AreWrittenDeclarators ds → IsSoundSite g f s m → IsBounded s.context.known q.type → IsBodyWithin s (some_locals q ds) → IsDeclared b k s us m e
  locals-typed b k {s = s} no_local w h bounded l =
      record { typed = tt; objects = tt; context = h.context; past = record { strings = omega arith; locals = omega arith; result = refl; position = refl } }
  locals-typed b k {q = q} {s = s} {e = e} (a_local {d = d} {i = i} {ds = ds} {y = y} {u = u} {us = us} {more = more} p m v r) w h bounded l =
      let known = s.context.known in
      let a = completed y.type i in
      let inner = with_local d y a s in
      let next = behind_initializer a i inner in
      let own = declares-bounded s.context q d y p h.context.structs (typedefs-bounded g f s.context h.context) bounded (λ n z. l n (size_in_inner local_declarator z)) in
      let complete : is_complete_in known a ≡ true = m.1.1.1.0 in
      let size : size_in known a ≤ size_limit = counted-within known a (λ n z. l n (of_local p z)) in
      let whole = completed-bounded known y.type i own complete size in
      let there = first-object f.objects more.objects s.locals (object_of known (name_of y.name) a) h.objects in
      let inside = slice_get_within f.objects s.locals (object_of known (name_of y.name) a) there in
      let context : IsSoundContext g f inner.context = record {
        structs = h.context.structs;
        entities = ((whole, complete, inside), h.context.entities);
        statics = h.context.statics;
      } in
      let strings = h.strings in
      let all = length-append (declared_strings known d a i) more.strings in
      let parts = split-strings known d a i in
      let given : HasStrings g inner.context (initialised_strings known a i) = omega (arith, strings, all, parts) in
      let statement = initialise-typed b k known inner.context s.locals (name_of y.name) a i u v refl w.1 context whole complete given (λ j z. given-within p z l) (record { there = there; inside = inside }) in
      let behind : IsSoundContext g f next.context = past-strings-sound g f (initialised_strings known a i) inner.context context in
      let site : IsSoundSite g f next more = record {
        context = behind;
        strings = omega (arith, strings, all, parts);
        objects = stand-right f.objects (object_of known (name_of y.name) a ∷ []) more.objects s.locals h.objects;
        result = h.result;
        scalar = h.scalar;
      } in
      let rest = locals-typed b k r w.2 site bounded (λ n z. l n (size_in_part (locals_behind p) z)) in
      let moved = rest.past.strings in
      let counted = rest.past.locals in
      record {
        typed = (statement, rest.typed);
        objects = (complete-is-object known a size, rest.objects);
        context = rest.context;
        past = record {
          strings = omega (arith, moved, all, parts);
          locals = omega (arith, counted);
          result = rest.past.result;
          position = rest.past.position;
        };
      }
    where
      split-strings : (known : Structs) (d : t.Declarator) (a : CType) (i : t.MaybeInitializer) → length (declared_strings known d a i) ≡ length (strings_of_declarator d) + length (initialised_strings known a i)
      split-strings known d a t.no_initializer = omega arith
      split-strings known d a (t.an_initializer j) = length-append (strings_of_declarator d) (strings_given known a j)

      given-within : {j : t.Initializer} {i : t.MaybeInitializer} {d : t.Declarator} {ds : t.InitDeclarators} {y : Declared} → Declares s.context q d y → i ≡ t.an_initializer j → IsBodyWithin s (some_locals q (t.more_init_declarators d i ds)) → IsGivenWithin (with_local d y (completed y.type i) s).context (an_initialiser (completed y.type i) 0 j)
      given-within {j = j} {d = d} {ds = ds} {y = y} p z l =
          subst (λ x. IsBodyWithin s (some_locals q (t.more_init_declarators d x ds)) → IsGivenWithin (with_local d y (completed y.type x) s).context (an_initialiser (completed y.type x) 0 j)) (sym z)
          (λ k n v. k n (size_in_local_initialiser p v)) l

  pub declaration-typed : (b k : Bool) {s e : Site} {d : t.Declaration} {us : Stmts} {m : Added} → TypedDeclaration s d us m e → IsWrittenDeclaration d → IsSoundSite g f s m → IsBodyWithin s (a_declaration d) → IsDeclared b k s us m e
  declaration-typed b k {s = s} {e = e} (of_declaration {xs = xs} {ds = ds} {us = us} {added = m} asked p) w h l =
      let inner = in_context (behind_tags s.context xs ds) s in
      let context : IsSoundContext g f inner.context = record {
        structs = h.context.structs;
        entities = tags-declared-kept (IsSoundEntity g f s.context.known s.context.unit) s.context (form_of xs ds) h.context.entities;
        statics = h.context.statics;
      } in
      let site : IsSoundSite g f inner m = record { context = context; strings = h.strings; objects = h.objects; result = h.result; scalar = h.scalar } in
      let all = locals-typed b k p w site (specifiers-bounded s.context xs (typedefs-bounded g f s.context h.context)) (λ n z. l n (size_in_part (declared_locals asked) z)) in
      record { typed = all.typed; objects = all.objects; context = all.context; past = record { strings = all.past.strings; locals = all.past.locals; result = all.past.result; position = all.past.position } }
