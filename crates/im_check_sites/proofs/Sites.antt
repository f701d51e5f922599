-- Places of a body behind parts, one behind the other.
use Rattle.std.proofs.Common.{◌≡◌, ℕ, ◌+◌, List, [], ◌∷◌, ◌++◌, length, refl, sym, ap, ◌∙◌, append_assoc, arith}
use Rattle.std.proofs.lemmas.List.{append-nil, length-append, length-map}
use Rattle.im_check_place.specs.im_ctype.Types.{CType}
use Rattle.im_types.specs.Shape.{type_of}
use Rattle.im_check_place.specs.im_rules.Rules as u
use Rattle.im_check_place.specs.im_rules.Context.{Context}
use Rattle.im_check_place.specs.im_rules.Statements.{Site, Added, nothing_added, and_then, past, in_block}
use Rattle.im_check_place.specs.im_check_scopes.declared.entity.Entry.{Entry}
use Rattle.im_check_place.specs.im_check_scopes.declared.entity.Entry.TheVariants as n
use Rattle.im_check_place.specs.im_check_scopes.Shape.{scopes_of}
use Rattle.im_check_place.specs.im_rules.Scopes.{Scopes, opened}
use Rattle.im_check_place.specs.declared.place.Place.{Place}
use Rattle.im_check_place.specs.Contexts.{context_of, behind_strings}
use Rattle.im_check_sites.specs.declared.body.Body.{Body}
use Rattle.im_check_sites.specs.declared.position.Position.{Position}
use Rattle.im_check_sites.specs.Sites.{site_of, position_of, object_in, objects_of, strings_of, IsAdded, IsDeclared, IsPast}

-- a place with these scopes, where the next string literal has that number
abbrev pub place_with : List Entry → ℕ → Place → Place
place_with es k p = record p { scope = es; next_string = k }

-- sites by their parts

abbrev pub site_by : Context → CType → u.Position → ℕ → Site
site_by c r w m = record { context = c; result = r; position = w; locals = m }

pub same_site : {c d : Context} {r s : CType} {m n : ℕ} (w : u.Position) → c ≡ d → r ≡ s → m ≡ n → site_by c r w m ≡ site_by d s w n
same_site w e f g = rw (e, f, g) refl

-- the structs stay
pub structs_stay : {m : Added} {b c : Body} → IsAdded m b c → c.place.structs ≡ b.place.structs
structs_stay a = ap (λ (z : Place). z.structs) a.place

pub more_locals : {m : Added} {b c : Body} → IsAdded m b c → length c.locals.items ≡ length b.locals.items + length m.objects
more_locals {m = m} {b = b} {c = c} a =
    sym (length-map c.locals.items (object_in c.place.structs)) ∙ ap length a.objects ∙ length-append (objects_of b) m.objects ∙ ap (λ k. k + length m.objects) (length-map b.locals.items (object_in b.place.structs))

-- behind a statement its site is the one past what it adds
pub past_site : {m : Added} {b c : Body} → IsPast m b c → (w : Position) → site_of c w ≡ past m (site_of b w)
past_site {m = m} {b = b} {c = c} h w =
    let here' : c.place ≡ behind_strings m.strings b.place = h.added.place ∙ ap (λ es. place_with es (b.place.next_string + length m.strings) b.place) h.scope in
    same_site (position_of w) (ap context_of here') (ap type_of h.added.result) (more_locals h.added)

-- nothing is added
pub added_none : (b : Body) → IsAdded nothing_added b b
added_none b =
    let same : b.place.next_string ≡ b.place.next_string + 0 = omega arith in
    record {
      place = ap (λ k. place_with b.place.scope k b.place) same;
      result = refl;
      objects = sym (append-nil (objects_of b));
      strings = sym (append-nil (strings_of b));
    }

pub past_none : (b : Body) → IsPast nothing_added b b
past_none b = record { added = added_none b; scope = refl }

pub declared_none : (b : Body) → IsDeclared [] nothing_added b b
declared_none b = record { added = added_none b; scope = sym (append-nil b.place.scope) }

-- one part behind another
pub added_then : {m k : Added} {a b c : Body} → IsAdded m a b → IsAdded k b c → IsAdded (and_then m k) a c
added_then {m = m} {k = k} {a = a} {b = b} {c = c} f g =
    let further : a.place.next_string + length m.strings + length k.strings ≡ a.place.next_string + length (m.strings ++ k.strings) = omega (arith, length-append m.strings k.strings) in
    record {
      place = g.place ∙ ap (λ (p : Place). record (behind_strings k.strings p) { scope = c.place.scope }) f.place ∙ ap (λ n. place_with c.place.scope n a.place) further;
      result = g.result ∙ f.result;
      objects = g.objects ∙ ap (λ os. os ++ k.objects) f.objects ∙ append_assoc (objects_of a) m.objects k.objects;
      strings = g.strings ∙ ap (λ ss. ss ++ k.strings) f.strings ∙ append_assoc (strings_of a) m.strings k.strings;
    }

pub past_then : {m k : Added} {a b c : Body} → IsPast m a b → IsPast k b c → IsPast (and_then m k) a c
past_then f g = record { added = added_then f.added g.added; scope = g.scope ∙ f.scope }

pub declared_then : {es fs : List Entry} {m k : Added} {a b c : Body} → IsDeclared es m a b → IsDeclared fs k b c → IsDeclared (es ++ fs) (and_then m k) a c
declared_then {es = es} {fs = fs} {a = a} f g = record { added = added_then f.added g.added; scope = g.scope ∙ ap (λ z. z ++ fs) f.scope ∙ append_assoc a.place.scope es fs }

-- a statement adds no entry
pub declared_past : {m : Added} {b c : Body} → IsPast m b c → IsDeclared [] m b c
declared_past {b = b} h = record { added = h.added; scope = h.scope ∙ sym (append-nil b.place.scope) }

-- scopes that are opened and closed

abbrev pub body_with : List Entry → Body → Body
body_with es b = record b { place = record b.place { scope = es } }

-- behind a scope that is opened all else is as before
pub opened_site : (b : Body) (w : Position) → scopes_of (b.place.scope ++ n.Opened ∷ []) ≡ opened (scopes_of b.place.scope) → site_of (body_with (b.place.scope ++ n.Opened ∷ []) b) w ≡ in_block (site_of b w)
opened_site b w e = ap (λ g. in_scopes g) e
  where
    in_scopes : Scopes → Site
    in_scopes g = record (site_of b w) { context = record (context_of b.place) { scopes = g } }

-- what is added in scopes that are then as they were before
pub closed_past : {m : Added} {b c : Body} (before after : List Entry) → IsAdded m (body_with before b) c → after ≡ b.place.scope → IsPast m b (body_with after c)
closed_past {m = m} {b = b} {c = c} before after h e =
    record {
      added = record {
        place = ap (λ (p : Place). record p { scope = after }) h.place;
        result = h.result;
        objects = h.objects;
        strings = h.strings;
      };
      scope = e;
    }
