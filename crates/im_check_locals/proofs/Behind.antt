-- Places of a body behind the parts of a declaration.
use Rattle.std.proofs.Common.{◌≡◌, ℕ, ◌+◌, Bool, List, ◌++◌, length, Vec, refl, sym, ap, ◌∙◌, arith}
use Rattle.std.proofs.lemmas.List.{append-nil}
use Rattle.std.specs.Global.{Global}
use Rattle.im_check_initialisers.specs.im_word.Words.{Name}
use Rattle.im_ctree.specs.Tree as t
use Rattle.im_check_initialisers.specs.im_ctype.Table.{structs_of}
use Rattle.im_check_initialisers.specs.im_ctype.Types.{CType}
use Rattle.im_rules.specs.Context as k
use Rattle.im_rules.specs.Context.{Context, with_entity}
use Rattle.im_rules.specs.Declared as d
use Rattle.im_rules.specs.Initialisers.{completed}
use Rattle.im_rules.specs.Scopes.{Scopes, named}
use Rattle.im_rules.specs.Statements.{Site, Added, nothing_added, just_strings, past, local_entity, with_local, behind_initializer, initialised_strings}
use Rattle.im_rules.specs.Strings.{strings_of_declarator}
use Rattle.im_check_scopes.specs.declared.entity.Entry.{Entry}
use Rattle.im_check_scopes.specs.Shape.{scopes_of}
use Rattle.im_types.specs.Shape.{type_of}
use Rattle.im_check_initialisers.specs.im_check_outline.Outlines.{outline_in}
use Rattle.im_check_place.specs.declared.place.Place.{Place}
use Rattle.im_check_place.specs.Contexts.{context_of, behind_strings}
use Rattle.im_check_sites.specs.declared.body.Body.{Body}
use Rattle.im_check_sites.specs.declared.position.Position.{Position}
use Rattle.im_check_sites.specs.Sites.{site_of, position_of, objects_in, objects_of, strings_of, names_in, IsDeclared, IsPast}
use Rattle.im_check_sites.proofs.Sites.{place_with, body_with, same_site, more_locals, past_site}
use Rattle.im_check_locals.specs.declared.objects.Object.{Object}
use Rattle.im_check_locals.specs.Objects.{IsObject, IsKept}

-- entries are added, and nothing else
pub entries_declared : (b : Body) (es more : List Entry) → es ≡ b.place.scope ++ more → IsDeclared more nothing_added b (body_with es b)
entries_declared b es more e =
    let same : b.place.next_string ≡ b.place.next_string + 0 = omega arith in
    record {
      added = record {
        place = ap (λ n. place_with es n b.place) same;
        result = refl;
        objects = sym (append-nil (objects_of b));
        strings = sym (append-nil (strings_of b));
      };
      scope = e;
    }

abbrev pub body_behind : Place → Vec (Vec ℕ Global) Global → Body → Body
body_behind p texts b = record b { place = p; texts = texts }

-- a part with string literals is read
pub read_past : (b : Body) (p : Place) (texts : Vec (Vec ℕ Global) Global) (ss : List Name)
    → p ≡ behind_strings ss b.place
    → names_in texts.items ≡ names_in b.texts.items ++ ss
    → IsPast (just_strings ss) b (body_behind p texts b)
read_past b p texts ss e f =
    let scope : p.scope ≡ b.place.scope = ap (λ (z : Place). z.scope) e in
    record {
      added = record {
        place = e ∙ ap (λ es. place_with es (b.place.next_string + length ss) b.place) (sym scope);
        result = refl;
        objects = ap (λ (z : Place). objects_in z.structs b.locals.items) e ∙ sym (append-nil (objects_of b));
        strings = f;
      };
      scope = scope;
    }

pub past_context : {m : Added} {b c : Body} → IsPast m b c → context_of c.place ≡ k.behind_strings m.strings (context_of b.place)
past_context {m = m} {b = b} {c = c} h =
    ap context_of h.added.place ∙ ap (λ es. context_of (place_with es (b.place.next_string + length m.strings) b.place)) h.scope

-- the context behind an object's name

abbrev context_by : Scopes → ℕ → Place → Context
context_by g n p = record { scopes = g; known = structs_of p.structs; next_string = n; unit = outline_in p.outline }

kept_context : {b c : Body} {o : Object} {n : ℕ} → IsKept b c o n → context_of c.place ≡ with_entity o.name.items (local_entity n o.constant (type_of o.ty)) (context_of b.place)
kept_context {b = b} {o = o} {n = n} h =
    let same : b.place.next_string + 0 ≡ b.place.next_string = omega arith in
    ap context_of h.behind.added.place
    ∙ ap (λ g. context_by g (b.place.next_string + 0) b.place) h.scopes
    ∙ ap (λ z. context_by (named o.name.items (local_entity n o.constant (type_of o.ty)) (scopes_of b.place.scope)) z b.place) same

same_entity : {x y : Name} {m n : ℕ} {k l : Bool} {a b : CType} {c d : Context} → x ≡ y → m ≡ n → k ≡ l → a ≡ b → c ≡ d → with_entity x (local_entity m k a) c ≡ with_entity y (local_entity n l b) d
same_entity e f g h i = rw (e, f, g, h, i) refl

-- the site behind an object's name
pub site_named : {b0 b1 b2 : Body} {y : d.Declared} {i : t.MaybeInitializer} {o : Object} {n : ℕ} (e : t.Declarator)
    → IsPast (just_strings (strings_of_declarator e)) b0 b1
    → IsObject y i o
    → IsKept b1 b2 o n
    → (w : Position) → site_of b2 w ≡ with_local e y (completed y.type i) (site_of b0 w)
site_named {b0 = b0} {b1 = b1} {b2 = b2} {n = n} e p is h w =
    let more : length b1.locals.items ≡ length b0.locals.items + 0 = more_locals p.added in
    let one : length b2.locals.items ≡ length b1.locals.items + 1 = more_locals h.behind.added in
    let number : n ≡ length b1.locals.items = h.number in
    let first : n ≡ length b0.locals.items = omega (arith, number, more) in
    let count : length b2.locals.items ≡ length b0.locals.items + 1 = omega (arith, more, one) in
    same_site (position_of w) (kept_context h ∙ same_entity is.name first is.constant is.type (past_context p)) (ap type_of (h.behind.added.result ∙ p.added.result)) count

past_strings : (ss : List Name) (s : Site) → past (just_strings ss) s ≡ record s { context = k.behind_strings ss s.context }
past_strings ss s =
    let same : s.locals + 0 ≡ s.locals = omega arith in
    ap (λ n. record s { context = k.behind_strings ss s.context; locals = n }) same

-- the site behind its initialiser
pub site_begun : {b2 b3 : Body} {s : Site} (a c : CType) (i : t.MaybeInitializer) (w : Position)
    → site_of b2 w ≡ s
    → a ≡ c
    → IsPast (just_strings (initialised_strings (structs_of b2.place.structs) a i)) b2 b3
    → site_of b3 w ≡ behind_initializer c i s
site_begun {b2 = b2} {s = s} a c i w e f p =
    past_site p w ∙ past_strings (initialised_strings (structs_of b2.place.structs) a i) (site_of b2 w) ∙ ap (λ z. behind_initializer a i z) e ∙ ap (λ z. behind_initializer z i s) f
