-- One declarator of a declaration in a block.
use Rattle.std.proofs.Common.{◌≡◌, ℕ, ◌+◌, Bool, List, [], ◌∷◌, ◌++◌, length, Result, Ok, Err, MatchResult, refl, sym, ap, ◌∙◌, subst, arith}
use Rattle.std.proofs.lemmas.List.{append-nil}
use Rattle.im_check_initialisers.specs.im_word.Words.{Name}
use Rattle.im_ctree.specs.Tree as t
use Rattle.im_ctree.specs.Shape.{declarator_of, maybe_initializer_of, init_declarators_of}
use Rattle.im_ctree.specs.declared.declaration.InitDeclarator.{InitDeclarator}
use Rattle.im_ctree.specs.declared.declarator.Declarator.{out-Declarator}
use Rattle.im_check_initialisers.specs.im_ctype.Table.{Table, structs_of}
use Rattle.im_check_initialisers.specs.im_ctype.Types.{CType, Structs}
use Rattle.im_typed.specs.ProgramOf.{stmt_of}
use Rattle.im_typed.specs.Program as p
use Rattle.im_typed.specs.declared.statement.Stmt as rs
use Rattle.im_rules.specs.Context.{Context}
use Rattle.im_rules.specs.Declared as d
use Rattle.im_rules.specs.Demands.{Demand, Meets, Refuses}
use Rattle.im_rules.specs.Initialisers.{completed}
use Rattle.im_rules.specs.Outline.{is_initialised}
use Rattle.im_rules.specs.Statements.{Site, Added, just_strings, and_then, local_asks, local_added, name_of, object_of, with_local, behind_initializer, initialised_strings, declared_strings, MayInitialise, AreLocals, a_local}
use Rattle.im_rules.specs.Strings.{strings_of_declarator}
use Rattle.im_rules.specs.Typed.{Declares}
use Rattle.im_rules.specs.Breaks.{a_declarator}
use Rattle.im_rules.specs.BodyBreaks.{BodyBroken, here_in_body, within_body, in_inner, in_local_initialiser, at_local, local_declarator, locals_behind, some_locals, GivenBroken, an_initialiser, declarator_token}
use Rattle.im_check_initialisers.specs.im_rules_limits.Limits.{Counted, GivenSized, BodySized, of_local, size_in_part, size_in_inner, size_in_local_initialiser, IsWithin, IsBodyWithin}
use Rattle.im_types.specs.Shape.{type_of}
use Rattle.im_check_stop.specs.declared.stop.Stop.{Stop}
use Rattle.im_check_stop.specs.declared.stop.Stop.TheVariants.{Rule, Large, Memory}
use Rattle.im_check_stop.specs.Answers.{IsNoRule, IsRefusal}
use Rattle.im_check_sizes.specs.Sizes.{AllFit, IsOver}
use Rattle.im_ctree_parts.proofs.Shapes.{declarator_shape}
use Rattle.im_check_declarators.specs.Suffixes.{IsFault}
use Rattle.im_check_place.specs.Contexts.{context_of}
use Rattle.im_check_sites.specs.declared.body.Body.{Body}
use Rattle.im_check_sites.specs.declared.position.Position.{Position}
use Rattle.im_check_sites.specs.Sites.{site_of, IsDeclared, IsPast, IsBodyFault}
use Rattle.im_check_sites.proofs.Sites.{structs_stay, more_locals, declared_past, declared_then}
use Rattle.im_check_initialisers.specs.Given.{IsInitialisationFault, IsInitialisationWithin}
use Rattle.im_check_locals.specs.declared.objects.Object.{Object}
use Rattle.im_check_locals.specs.Objects.{object_asks, IsObject, IsKept, LocalDone, IsLocalFault}
use Rattle.im_check_locals.proofs.Behind.{site_named, site_begun}
use Rattle.im_check_locals.proofs.Within.{local_within}

-- what each step adds is what the declarator adds

abbrev just_object : p.LocalObject → Added
just_object o = record { objects = o ∷ []; strings = [] }

strings_same : (known : Structs) (e : t.Declarator) (a : CType) (i : t.MaybeInitializer) → strings_of_declarator e ++ initialised_strings known a i ≡ declared_strings known e a i
strings_same known e a t.no_initializer = append-nil (strings_of_declarator e)
strings_same known e a (t.an_initializer i) = refl

same_added : (known : Structs) {x y : Name} {a b : CType} (e : t.Declarator) (i : t.MaybeInitializer)
    → x ≡ y
    → a ≡ b
    → and_then (just_strings (strings_of_declarator e)) (and_then (just_object (object_of known x a)) (just_strings (initialised_strings known a i))) ≡ local_added known e y b i
same_added known {x = x} {y = y} {a = a} e i f g =
    ap (λ ss. record { objects = object_of known x a ∷ []; strings = ss }) (strings_same known e a i) ∙ ap (λ z. local_added known e z a i) f ∙ ap (λ z. local_added known e y z i) g

-- the demands stand at the place before the declarator too
asked_before : {ss : List Name} {b0 b1 : Body} (y : d.Declared) (a : CType) (initialised : Bool) (X : List Demand → Type 0) (w : Position)
    → IsPast (just_strings ss) b0 b1
    → X (object_asks b1.place (length b0.locals.items) y a initialised)
    → X (local_asks (site_of b0 w) y a initialised)
asked_before {b0 = b0} {b1 = b1} y a initialised X w past h =
    let one = subst (λ es. X (object_asks (record b1.place { scope = es }) (length b0.locals.items) y a initialised)) past.scope h in
    subst (λ (z : Table). X (object_asks (record b0.place { structs = z }) (length b0.locals.items) y a initialised)) (structs_stay past.added) one

-- a declarator that is read, the object that it declares, and what this begins with
pub record Steps (q : d.Qualified) (b0 b1 b2 : Body) (x : InitDeclarator) (y : d.Declared) (o : Object) (n : ℕ) : Type 0 where
  pub declares : Declares (context_of b0.place) q (declarator_of x.declarator) y
  pub past : IsPast (just_strings (strings_of_declarator (declarator_of x.declarator))) b0 b1
  pub meets : (m : ℕ) → Meets (object_asks b1.place m y (completed y.type (maybe_initializer_of x.initializer)) (is_initialised (maybe_initializer_of x.initializer)))
  pub is : IsObject y (maybe_initializer_of x.initializer) o
  pub kept : IsKept b1 b2 o n
  pub within : IsWithin (context_of b0.place) (a_declarator q (declarator_of x.declarator))
  pub sizes : AllFit (structs_of b1.place.structs) (type_of o.ty)

named_site : {q : d.Qualified} {b0 b1 b2 : Body} {x : InitDeclarator} {y : d.Declared} {o : Object} {n : ℕ}
    → Steps q b0 b1 b2 x y o n
    → (w : Position) → site_of b2 w ≡ with_local (declarator_of x.declarator) y (completed y.type (maybe_initializer_of x.initializer)) (site_of b0 w)
named_site {x = x} s w = site_named (declarator_of x.declarator) s.past s.is s.kept w

numbered : {q : d.Qualified} {b0 b1 b2 : Body} {x : InitDeclarator} {y : d.Declared} {o : Object} {n : ℕ} → Steps q b0 b1 b2 x y o n → n ≡ length b0.locals.items
numbered {b0 = b0} {b1 = b1} {n = n} s =
    let more : length b1.locals.items ≡ length b0.locals.items + 0 = more_locals s.past.added in
    let number : n ≡ length b1.locals.items = s.kept.number in
    omega (arith, number, more)

-- the sizes of the object and of its initialiser, seen from before the declarator

object_within : {q : d.Qualified} {b0 b1 b2 : Body} {x : InitDeclarator} {y : d.Declared} {o : Object} {n : ℕ}
    → Steps q b0 b1 b2 x y o n
    → AllFit (structs_of b0.place.structs) (completed y.type (maybe_initializer_of x.initializer))
object_within {b0 = b0} {b1 = b1} {o = o} s =
    subst (λ z. AllFit (structs_of b0.place.structs) z) s.is.type
    (subst (λ (z : Table). AllFit (structs_of z) (type_of o.ty)) (structs_stay s.past.added) s.sizes)

given_within : {q : d.Qualified} {b0 b1 b2 : Body} {x : InitDeclarator} {y : d.Declared} {o : Object} {n : ℕ}
    → Steps q b0 b1 b2 x y o n
    → IsInitialisationWithin (context_of b2.place) (type_of o.ty) (maybe_initializer_of x.initializer)
    → (w : Position) → let a = completed y.type (maybe_initializer_of x.initializer) in IsInitialisationWithin (with_local (declarator_of x.declarator) y a (site_of b0 w)).context a (maybe_initializer_of x.initializer)
given_within {b2 = b2} {x = x} {y = y} s within w =
    let i = maybe_initializer_of x.initializer in
    subst (λ (z : Site). IsInitialisationWithin z.context (completed y.type i) i) (named_site s w)
    (subst (λ a. IsInitialisationWithin (context_of b2.place) a i) s.is.type within)

pub local_done : {q : d.Qualified} {b0 b1 b2 b3 : Body} {x : InitDeclarator} {y : d.Declared} {o : Object} {n : ℕ} (u : rs.Stmt)
    → Steps q b0 b1 b2 x y o n
    → MayInitialise (context_of b2.place) n (type_of o.ty) (maybe_initializer_of x.initializer) (stmt_of b2.place.structs u)
    → IsPast (just_strings (initialised_strings (structs_of b2.place.structs) (type_of o.ty) (maybe_initializer_of x.initializer))) b2 b3
    → IsInitialisationWithin (context_of b2.place) (type_of o.ty) (maybe_initializer_of x.initializer)
    → LocalDone q b0 b3 x u
local_done {q = q} {b0 = b0} {b1 = b1} {b2 = b2} {b3 = b3} {x = x} {y = y} {o = o} {n = n} u s begins past within =
    let e = declarator_of x.declarator in
    let i = maybe_initializer_of x.initializer in
    let a = completed y.type i in
    let same₁ : b1.place.structs ≡ b0.place.structs = structs_stay s.past.added in
    let same₂ : b2.place.structs ≡ b0.place.structs = structs_stay s.kept.behind.added ∙ same₁ in
    let behind : (w : Position) → site_of b3 w ≡ behind_initializer a i (with_local e y a (site_of b0 w)) = λ w. site_begun (type_of o.ty) a i w (named_site s w) s.is.type past in
    let kept : IsDeclared (s.kept.entry ∷ []) (just_object (object_of (structs_of b0.place.structs) o.name.items (type_of o.ty))) b1 b2 =
    subst (λ z. IsDeclared (s.kept.entry ∷ []) (just_object (object_of (structs_of z) o.name.items (type_of o.ty))) b1 b2) same₁ s.kept.behind in
    let told : IsPast (just_strings (initialised_strings (structs_of b0.place.structs) (type_of o.ty) i)) b2 b3 =
    subst (λ z. IsPast (just_strings (initialised_strings (structs_of z) (type_of o.ty) i)) b2 b3) same₂ past in
    let first : (w : Position) → MayInitialise (with_local e y a (site_of b0 w)).context (length b0.locals.items) a i (stmt_of b0.place.structs u) = λ w.
    subst (λ (z : Site). MayInitialise z.context (length b0.locals.items) a i (stmt_of b0.place.structs u)) (named_site s w)
    (subst (λ z. MayInitialise (context_of b2.place) (length b0.locals.items) a i (stmt_of z u)) same₂
    (subst (λ m. MayInitialise (context_of b2.place) m a i (stmt_of b2.place.structs u)) (numbered s)
    (subst (λ z. MayInitialise (context_of b2.place) n z i (stmt_of b2.place.structs u)) s.is.type begins))) in
    record {
      entries = s.kept.entry ∷ [];
      added = local_added (structs_of b0.place.structs) e (name_of y.name) a i;
      behind = subst (λ m. IsDeclared (s.kept.entry ∷ []) m b0 b3) (same_added (structs_of b0.place.structs) e i s.is.name s.is.type) (declared_then (declared_past s.past) (declared_then kept (declared_past told)));
      goes_on = λ w ds us m end rest.
          a_local s.declares (asked_before y a (is_initialised i) (λ asked. Meets asked) w s.past (s.meets (length b0.locals.items))) (first w)
          (subst (λ z. AreLocals q z (init_declarators_of ds) us m end) (behind w) rest);
      breaks_on = λ w ds rule token b.
          within_body (locals_behind s.declares) (subst (λ z. BodyBroken z (some_locals q (init_declarators_of ds)) rule token) (behind w) b);
      sizes_on = λ w ds k z.
          size_in_part (locals_behind s.declares) (subst (λ z. BodySized z (some_locals q (init_declarators_of ds)) k) (behind w) z);
      within_on = λ w ds rest.
          local_within s.declares s.within (object_within s) (given_within s within w) (subst (λ z. IsBodyWithin z (some_locals q (init_declarators_of ds))) (behind w) rest);
    }

-- faults

pub undeclared : (q : d.Qualified) (b : Body) (x : InitDeclarator) (f : Stop) → IsFault (context_of b.place) (a_declarator q (declarator_of x.declarator)) f → IsLocalFault q b x f
undeclared q b x (Rule rule token) h = λ w ds. in_inner local_declarator h
undeclared q b x (Large bytes) h = λ w ds. (size_in_inner local_declarator h.0, h.1)
undeclared q b x Memory h = λ w ds. tt

token_so : (x : InitDeclarator) → declarator_token (declarator_of x.declarator) ≡ (out-Declarator x.declarator).at
token_so x = ap declarator_token (declarator_shape x.declarator)

pub object_refused : {q : d.Qualified} {b0 b1 : Body} (x : InitDeclarator) {y : d.Declared} (f : Stop)
    → Declares (context_of b0.place) q (declarator_of x.declarator) y
    → IsPast (just_strings (strings_of_declarator (declarator_of x.declarator))) b0 b1
    → ((m : ℕ) → IsRefusal (object_asks b1.place m y (completed y.type (maybe_initializer_of x.initializer)) (is_initialised (maybe_initializer_of x.initializer))) (out-Declarator x.declarator).at f)
    → IsLocalFault q b0 x f
object_refused {q = q} {b0 = b0} x {y = y} (Rule rule token) declares past h = λ w ds.
    let i = maybe_initializer_of x.initializer in
    let k = h (length b0.locals.items) in
    subst (λ z. BodyBroken (site_of b0 w) (some_locals q (init_declarators_of (x ∷ ds))) rule z) (token_so x ∙ sym k.1)
    (here_in_body (at_local declares (asked_before y (completed y.type i) (is_initialised i) (λ asked. Refuses rule asked) w past k.0)))
object_refused x (Large bytes) declares past h = absurd (h 0)
object_refused x Memory declares past h = λ w ds. tt

pub object_over : {q : d.Qualified} {b0 b1 : Body} (x : InitDeclarator) {y : d.Declared} {o : Object} (types : Table) (f : Stop)
    → Declares (context_of b0.place) q (declarator_of x.declarator) y
    → IsPast (just_strings (strings_of_declarator (declarator_of x.declarator))) b0 b1
    → IsObject y (maybe_initializer_of x.initializer) o
    → types ≡ b1.place.structs
    → IsOver (structs_of types) (type_of o.ty) f
    → IsLocalFault q b0 x f
object_over x types (Rule rule token) declares past is table h = absurd h
object_over {q = q} {b0 = b0} x {o = o} types (Large bytes) declares past is table h = λ w ds.
    let counted = subst (λ (z : Table). Counted (structs_of z) (type_of o.ty) bytes) (table ∙ structs_stay past.added) h.0 in
    (of_local declares (subst (λ a. Counted (structs_of b0.place.structs) a bytes) is.type counted), h.1)
object_over x types Memory declares past is table h = λ w ds. tt

pub local_no_rule : (q : d.Qualified) (b : Body) (x : InitDeclarator) (f : Stop) → IsNoRule f → IsLocalFault q b x f
local_no_rule q b x (Rule rule token) h = absurd h
local_no_rule q b x (Large bytes) h = absurd h
local_no_rule q b x Memory h = λ w ds. tt

-- whatever the initialiser breaks
given_fault : {q : d.Qualified} (b : Body) {e : t.Declarator} {y : d.Declared} {c : Context} (i : t.MaybeInitializer) (a : CType) (f : Stop)
    → Declares (context_of b.place) q e y
    → ((w : Position) → c ≡ (with_local e y (completed y.type i) (site_of b w)).context)
    → a ≡ completed y.type i
    → IsInitialisationFault c a i f
    → (w : Position) (ds : t.InitDeclarators) → IsBodyFault b w (some_locals q (t.more_init_declarators e i ds)) f
given_fault b t.no_initializer a (Rule rule token) declares g h k = absurd k
given_fault b t.no_initializer a (Large bytes) declares g h k = absurd k
given_fault b t.no_initializer a Memory declares g h k = λ w ds. tt
given_fault b {e = e} {y = y} (t.an_initializer i) a (Rule rule token) declares g h k = λ w ds.
    in_local_initialiser declares (subst (λ z. GivenBroken (with_local e y (completed y.type (t.an_initializer i)) (site_of b w)).context (an_initialiser z 0 i) rule token) h (subst (λ z. GivenBroken z (an_initialiser a 0 i) rule token) (g w) k))
given_fault b {e = e} {y = y} (t.an_initializer i) a (Large bytes) declares g h k = λ w ds. (
  size_in_local_initialiser declares (subst (λ z. GivenSized (with_local e y (completed y.type (t.an_initializer i)) (site_of b w)).context (an_initialiser z 0 i) bytes) h (subst (λ z. GivenSized z (an_initialiser a 0 i) bytes) (g w) k.0)),
  k.1,
)
given_fault b (t.an_initializer i) a Memory declares g h k = λ w ds. tt

-- what initialises the object
pub local_made : {q : d.Qualified} {b0 b1 b2 : Body} (b3 : Body) {x : InitDeclarator} {y : d.Declared} {o : Object} {n : ℕ} (result : Result rs.Stmt Stop)
    → Steps q b0 b1 b2 x y o n
    → MatchResult result (λ u. MayInitialise (context_of b2.place) n (type_of o.ty) (maybe_initializer_of x.initializer) (stmt_of b2.place.structs u)
    × IsPast (just_strings (initialised_strings (structs_of b2.place.structs) (type_of o.ty) (maybe_initializer_of x.initializer))) b2 b3
    × IsInitialisationWithin (context_of b2.place) (type_of o.ty) (maybe_initializer_of x.initializer)) (IsInitialisationFault (context_of b2.place) (type_of o.ty) (maybe_initializer_of x.initializer))
    → MatchResult result (LocalDone q b0 b3 x) (IsLocalFault q b0 x)
local_made b3 (Ok u) s h = local_done u s h.0 h.1 h.2
local_made {b0 = b0} b3 {x = x} {o = o} (Err f) s h = λ w ds.
    given_fault b0 (maybe_initializer_of x.initializer) (type_of o.ty) f s.declares (λ w. ap (λ (z : Site). z.context) (named_site s w)) s.is.type h w (init_declarators_of ds)
