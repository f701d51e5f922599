-- Declarators behind their specifiers.
use Rattle.std.proofs.Common.{◌≡◌, ℕ, ◌+◌, List, [], ◌++◌, length, Result, Ok, Err, MatchResult, refl, sym, ap, ◌∙◌, subst, arith}
use Rattle.im_ctree.specs.Tree as t
use Rattle.im_typed.specs.declared.statement.Stmt as rs
use Rattle.im_rules.specs.Declared as d
use Rattle.im_rules.specs.Rules.{named_in}
use Rattle.im_rules.specs.Statements.{in_context, AreLocals, of_declaration}
use Rattle.im_rules.specs.BodyBreaks.{BodyBroken, here_in_body, at_declared, within_body, declared_locals, some_locals, a_declaration}
use Rattle.im_check_initialisers.specs.im_word.Words.{Name}
use Rattle.im_check_initialisers.specs.im_rules_limits.Limits.{BodySized, size_in_part, IsBodyWithin}
use Rattle.im_types.specs.Shape.{type_of}
use Rattle.im_check_stop.specs.declared.stop.Stop.{Stop}
use Rattle.im_check_stop.specs.declared.stop.Stop.TheVariants.{Rule, Large, Memory}
use Rattle.im_check_stop.specs.Answers.{IsRefusal}
use Rattle.im_check_place.specs.Contexts.{context_of}
use Rattle.im_check_sites.specs.declared.body.Body.{Body}
use Rattle.im_check_sites.specs.declared.position.Position.{Position}
use Rattle.im_check_sites.specs.Sites.{site_of, position_of}
use Rattle.im_check_sites.specs.Stmts.{stmts_from}
use Rattle.im_check_sites.proofs.Sites.{same_site, structs_stay, more_locals, declared_then}
use Rattle.im_check_locals.specs.Declarations.{DeclarationDone, IsDeclarationFault}
use Rattle.im_check_locals.specs.Objects.{LocalsDone, AreLocalsFault, IsSpecified}
use Rattle.im_check_locals.specs.Tags.{IsOrdinary, IsAlone, lone}
use Rattle.im_check_locals.proofs.Within.{declaration_within}
use Rattle.im_check_locals.proofs.Reaching.{reached_none, reached_all}

pub specifiers_fault : (b : Body) (at : ℕ) (xs : t.SpecifierList) (ds : t.InitDeclarators) (f : Stop)
    → IsRefusal (d.declaration_asks (context_of b.place) xs ds) at f
    → IsDeclarationFault b (t.declaration (t.specifiers at xs) ds) f
specifiers_fault b at xs ds (Rule rule token) h = λ w.
    subst (λ z. BodyBroken (site_of b w) (a_declaration (t.declaration (t.specifiers at xs) ds)) rule z) (sym h.1) (here_in_body (at_declared h.0))
specifiers_fault b at xs ds (Large bytes) h = absurd h
specifiers_fault b at xs ds Memory h = λ w. tt

pub ordinary_fault : (b : Body) (at : ℕ) (xs : t.SpecifierList) (ds : t.InitDeclarators) (f : Stop)
    → IsOrdinary xs ds
    → IsRefusal (d.specifiers_ask (context_of b.place) xs) at f
    → IsDeclarationFault b (t.declaration (t.specifiers at xs) ds) f
ordinary_fault b at xs ds f o h = specifiers_fault b at xs ds f (subst (λ z. IsRefusal z at f) (sym (o.asks (context_of b.place))) h)

-- the specifiers of a declaration are right, and their tags in scope
abbrev pub IsBegun : Body → Body → t.SpecifierList → t.InitDeclarators → Type 0
IsBegun before after xs ds = IsSpecified before after (d.declaration_asks (context_of before.place) xs ds) (d.tags_declared (context_of before.place) xs ds)

pub ordinary_begun : {b0 b1 : Body} {xs : t.SpecifierList} {ds : t.InitDeclarators}
    → IsOrdinary xs ds
    → IsSpecified b0 b1 (d.specifiers_ask (context_of b0.place) xs) (d.tags_in (context_of b0.place) (named_in xs))
    → IsBegun b0 b1 xs ds
ordinary_begun {b0 = b0} {b1 = b1} {xs = xs} {ds = ds} o s =
    let c = context_of b0.place in
    subst (λ z. IsSpecified b0 b1 z (d.tags_declared c xs ds)) (sym (o.asks c)) (subst (λ z. IsSpecified b0 b1 (d.specifiers_ask c xs) z) (sym (o.scopes c)) s)

-- the site of the first declarator
behind_them : {b0 b1 : Body} (xs : t.SpecifierList) (ds : t.InitDeclarators) → IsBegun b0 b1 xs ds → (w : Position) → site_of b1 w ≡ in_context (d.behind_tags (context_of b0.place) xs ds) (site_of b0 w)
behind_them {b0 = b0} {b1 = b1} xs ds s w =
    let same : b0.place.next_string + 0 ≡ b0.place.next_string = omega arith in
    let more : length b1.locals.items ≡ length b0.locals.items + 0 = more_locals s.behind.added in
    let count : length b1.locals.items ≡ length b0.locals.items = omega (arith, more) in
    same_site (position_of w)
    (ap context_of s.behind.added.place
    ∙ ap (λ g. record (context_of b0.place) { scopes = g; next_string = b0.place.next_string + 0 }) s.scopes
    ∙ ap (λ n. record (context_of b0.place) { scopes = d.tags_declared (context_of b0.place) xs ds; next_string = n }) same)
    (ap type_of s.behind.added.result) count

pub declarators_fault : {b0 b1 : Body} {q : d.Qualified} (xs : t.SpecifierList) (ds : t.InitDeclarators) (at : ℕ) (f : Stop)
    → IsBegun b0 b1 xs ds
    → q ≡ d.type_of_specifiers (context_of b0.place) xs
    → AreLocalsFault q b1 ds f
    → IsDeclarationFault b0 (t.declaration (t.specifiers at xs) ds) f
declarators_fault {b0 = b0} {b1 = b1} xs ds at (Rule rule token) s e h = λ w.
    within_body (declared_locals s.meets)
    (subst (λ z. BodyBroken z (some_locals (d.type_of_specifiers (context_of b0.place) xs) ds) rule token) (behind_them xs ds s w)
    (subst (λ (z : d.Qualified). BodyBroken (site_of b1 w) (some_locals z ds) rule token) e (h w)))
declarators_fault {b0 = b0} {b1 = b1} xs ds at (Large bytes) s e h = λ w. (
  size_in_part (declared_locals s.meets)
      (subst (λ z. BodySized z (some_locals (d.type_of_specifiers (context_of b0.place) xs) ds) bytes) (behind_them xs ds s w)
      (subst (λ (z : d.Qualified). BodySized (site_of b1 w) (some_locals z ds) bytes) e (h w).0)),
  (h w).1,
)
declarators_fault xs ds at Memory s e h = λ w. tt

pub declarators_done : {b0 b1 b2 : Body} {q : d.Qualified} {done done' : List rs.Stmt} (xs : t.SpecifierList) (ds : t.InitDeclarators) (at : ℕ)
    → IsBegun b0 b1 xs ds
    → q ≡ d.type_of_specifiers (context_of b0.place) xs
    → LocalsDone q b1 b2 done done' ds
    → DeclarationDone b0 b2 done done' (t.declaration (t.specifiers at xs) ds)
declarators_done {b0 = b0} {b1 = b1} {b2 = b2} {q = q} xs ds at s e r = record {
  entries = s.entries ++ r.entries;
  added = r.added;
  behind = declared_then s.behind r.behind;
  statements = r.statements;
  done_grown = r.done_grown;
  typed = λ w.
      let end = site_of b2 w in
      let h₁ : AreLocals q (site_of b1 w) ds (stmts_from b0.place.structs r.statements) r.added end =
      subst (λ z. AreLocals q (site_of b1 w) ds (stmts_from z r.statements) r.added end) (structs_stay s.behind.added) (r.typed w) in
      let h₂ : AreLocals (d.type_of_specifiers (context_of b0.place) xs) (site_of b1 w) ds (stmts_from b0.place.structs r.statements) r.added end =
      subst (λ (z : d.Qualified). AreLocals z (site_of b1 w) ds (stmts_from b0.place.structs r.statements) r.added end) e h₁ in
      of_declaration s.meets (subst (λ z. AreLocals (d.type_of_specifiers (context_of b0.place) xs) z ds (stmts_from b0.place.structs r.statements) r.added end) (behind_them xs ds s w) h₂);
  within = λ w.
      let h₁ : IsBodyWithin (site_of b1 w) (some_locals (d.type_of_specifiers (context_of b0.place) xs) ds) =
      subst (λ (z : d.Qualified). IsBodyWithin (site_of b1 w) (some_locals z ds)) e (r.within w) in
      declaration_within (subst (λ z. IsBodyWithin z (some_locals (d.type_of_specifiers (context_of b0.place) xs) ds)) (behind_them xs ds s w) h₁);
}

pub declaration_done : {b0 b1 : Body} {q : d.Qualified} (xs : t.SpecifierList) (ds : t.InitDeclarators) (b2 : Body) (done done' : List rs.Stmt) (at : ℕ) (result : Result Unit Stop)
    → IsBegun b0 b1 xs ds
    → q ≡ d.type_of_specifiers (context_of b0.place) xs
    → MatchResult result (λ u. LocalsDone q b1 b2 done done' ds) (AreLocalsFault q b1 ds)
    → MatchResult result (λ u. DeclarationDone b0 b2 done done' (t.declaration (t.specifiers at xs) ds)) (IsDeclarationFault b0 (t.declaration (t.specifiers at xs) ds))
declaration_done xs ds b2 done done' at (Ok u) s e h = declarators_done xs ds at s e h
declaration_done xs ds b2 done done' at (Err f) s e h = declarators_fault xs ds at f s e h

-- a declaration that is a struct's tag alone does nothing else
lone_done : (b0 b1 : Body) (done : List rs.Stmt) (at first : ℕ) (x : Name) (result : Result Unit Stop)
    → MatchResult result (λ u. IsBegun b0 b1 (lone first x) t.no_init_declarators) (IsRefusal (d.declaration_asks (context_of b0.place) (lone first x) t.no_init_declarators) at)
    → MatchResult result (λ u. DeclarationDone b0 b1 done done (t.declaration (t.specifiers at (lone first x)) t.no_init_declarators))
    (IsDeclarationFault b0 (t.declaration (t.specifiers at (lone first x)) t.no_init_declarators))
lone_done b0 b1 done at first x (Ok u) s =
    let q = d.type_of_specifiers (context_of b0.place) (lone first x) in
    declarators_done (lone first x) t.no_init_declarators at s refl (reached_all {xs = []} refl (reached_none q b1 done []))
lone_done b0 b1 done at first x (Err f) h = specifiers_fault b0 at (lone first x) t.no_init_declarators f h

pub alone_done : (b0 b1 : Body) (done : List rs.Stmt) (at first : ℕ) (x : Name) (xs : t.SpecifierList) (ds : t.InitDeclarators) (result : Result Unit Stop)
    → IsAlone first x xs ds
    → MatchResult result (λ u. IsBegun b0 b1 (lone first x) t.no_init_declarators) (IsRefusal (d.declaration_asks (context_of b0.place) (lone first x) t.no_init_declarators) at)
    → MatchResult result (λ u. DeclarationDone b0 b1 done done (t.declaration (t.specifiers at xs) ds)) (IsDeclarationFault b0 (t.declaration (t.specifiers at xs) ds))
alone_done b0 b1 done at first x xs ds result a h = rw (a.specifiers, a.declarators) (lone_done b0 b1 done at first x result h)
