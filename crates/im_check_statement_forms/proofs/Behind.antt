-- Places of a body behind expressions, and behind scopes that are opened and closed.
use Rattle.std.proofs.Common.{◌≡◌, ℕ, ◌+◌, List, [], ◌∷◌, ◌++◌, Vec, Global, length, take, refl, sym, ap, ◌∙◌, append_assoc, arith}
use Rattle.std.proofs.lemmas.List.{append-nil}
use Rattle.std.proofs.Math.Seq.{take-append_seam}
use Rattle.im_check_locals.specs.im_word.Words.{Name}
use Rattle.im_check_locals.specs.im_rules.Context as c
use Rattle.im_check_locals.specs.im_rules.Scopes.{Scopes}
use Rattle.im_check_locals.specs.im_rules.Statements.{Site, Added, just_strings, in_block}
use Rattle.im_check_scopes.specs.declared.entity.Entry.{Entry}
use Rattle.im_check_scopes.specs.declared.entity.Entry.TheVariants.{Opened}
use Rattle.im_check_place.specs.declared.place.Place.{Place}
use Rattle.im_check_place.specs.Contexts.{context_of, behind_strings}
use Rattle.im_check_sites.specs.declared.body.Body.{Body}
use Rattle.im_check_sites.specs.declared.position.Position.{Position}
use Rattle.im_check_sites.specs.Sites.{site_of, objects_in, names_in, IsDeclared, IsPast}
use Rattle.im_check_sites.proofs.Sites.{past_site}
use Rattle.im_check_statement_forms.specs.Opening.{with_scope, IsOpened}

abbrev placed : Place → ℕ → List Entry → Place
placed p n es = record p { scope = es; next_string = n }

-- behind string literals alone
pub site_behind : {b0 b1 : Body} {ss : List Name} (v : Position) → IsPast (just_strings ss) b0 b1 → site_of b1 v ≡ record (site_of b0 v) { context = c.behind_strings ss (context_of b0.place) }
site_behind {b0 = b0} {ss = ss} v g =
    let e : length b0.locals.items + 0 ≡ length b0.locals.items = omega arith in
    past_site g v ∙ ap (λ n. record (site_of b0 v) { context = c.behind_strings ss (context_of b0.place); locals = n }) e

-- an expression is read
pub read_past : (b : Body) (p : Place) (texts : Vec (Vec ℕ Global) Global) (ss : List Name) → p ≡ behind_strings ss b.place → names_in texts.items ≡ names_in b.texts.items ++ ss
    → IsPast (just_strings ss) b (record b { place = p; texts = texts })
read_past b p texts ss e f = record {
  added =
      record {
        place = e ∙ ap (λ z. placed b.place (b.place.next_string + length ss) z) (sym (ap (λ (z : Place). z.scope) e));
        result = refl;
        objects = ap (λ (z : Place). objects_in z.structs b.locals.items) e ∙ sym (append-nil (objects_in b.place.structs b.locals.items));
        strings = f;
      };
  scope = ap (λ (z : Place). z.scope) e;
}

-- a scope that is opened

abbrev in_scopes : Site → Scopes → Site
in_scopes s g = record s { context = record (s.context) { scopes = g } }

pub opened_site : {b0 b1 : Body} (v : Position) → IsOpened b0 b1 → site_of b1 v ≡ in_block (site_of b0 v)
opened_site {b0 = b0} {b1 = b1} v g =
    ap (λ b. site_of b v) g.is ∙ ap (in_scopes (site_of b0 v)) (sym (ap (λ (b : Body). (site_of b v).context.scopes) g.is) ∙ g.scopes)

pub opened_structs : {b0 b1 : Body} → IsOpened b0 b1 → b1.place.structs ≡ b0.place.structs
opened_structs g = ap (λ (b : Body). b.place.structs) g.is

pub opened_declared : {b0 b1 b2 : Body} {m : Added} {es : List Entry} → IsOpened b0 b1 → IsDeclared es m b1 b2 → IsDeclared (Opened ∷ es) m b0 b2
opened_declared {b0 = b0} {b2 = b2} {m = m} {es = es} o g = record {
  added =
      record {
        place = g.added.place ∙ ap (λ (b : Body). placed b.place (b.place.next_string + length m.strings) b2.place.scope) o.is;
        result = g.added.result ∙ ap (λ (b : Body). b.result) o.is;
        objects = g.added.objects ∙ ap (λ (b : Body). objects_in b.place.structs b.locals.items ++ m.objects) o.is;
        strings = g.added.strings ∙ ap (λ (b : Body). names_in b.texts.items ++ m.strings) o.is;
      };
  scope = g.scope ∙ ap (λ (b : Body). b.place.scope ++ es) o.is ∙ append_assoc b0.place.scope (Opened ∷ []) es;
}

-- the scopes are those at the start again
pub closed_again : {b0 b1 b2 : Body} {m : Added} {es : List Entry} → IsDeclared es m b0 b1 → b2 ≡ with_scope (take (length b0.place.scope) b1.place.scope) b1 → IsPast m b0 b2
closed_again {b0 = b0} {b1 = b1} {b2 = b2} {m = m} {es = es} g e =
    let same : b2.place.scope ≡ take (length b0.place.scope) b1.place.scope = ap (λ (b : Body). b.place.scope) e in
    record {
      added =
          record {
            place = ap (λ (b : Body). b.place) e ∙ ap (λ (p : Place). placed p p.next_string (take (length b0.place.scope) b1.place.scope)) g.added.place ∙ ap (λ z. placed b0.place (b0.place.next_string + length m.strings) z) (sym same);
            result = ap (λ (b : Body). b.result) e ∙ g.added.result;
            objects = ap (λ (b : Body). objects_in b.place.structs b.locals.items) e ∙ g.added.objects;
            strings = ap (λ (b : Body). names_in b.texts.items) e ∙ g.added.strings;
          };
      scope = same ∙ ap (take (length b0.place.scope)) g.scope ∙ take-append_seam b0.place.scope es;
    }
