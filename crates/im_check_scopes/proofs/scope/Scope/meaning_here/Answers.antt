use Rattle.std.proofs.Common.{◌≡◌, ◌<◌, Some, None, true, false, MatchOption, sym, ap, subst, ◌∙◌}
use Rattle.im_check_name_map.specs.im_rules.Scopes.{meaning_here}
use Rattle.im_check_scopes.specs.Shape.{scopes_of, entity_of}
use Rattle.im_check_scopes.specs.Search.{entity_named, is_before}
use Rattle.im_check_scopes.proofs.Found.{name-within, here-found, here-hidden, here-absent}
use Rattle.im_check_scopes.proofs.scope.Scope.meaning_here.Goals as goal

pub returns-in_err-place : goal.returns-in_err-place
returns-in_err-place c =
    let s = c.self.inside in
    let absent : meaning_here (scopes_of c.args.self.now) c.args.name.now ≡ None =
    sym (ap (λ es. meaning_here (scopes_of es) c.args.name.now) c.self.view_is) ∙ here-absent s.kept.items s.names s.tags s.innermost c.self.invariant c.args.name.now (sym c.in_err-place.ensures) in
    rw c.from_residual.ensures absent

pub index-requires : goal.index-requires
index-requires c =
    let s = c.self.inside in
    subst (λ n. c.in_ok-place.place < n) (sym s.kept.ok.0) (name-within s.kept.items s.names s.tags s.innermost c.self.invariant c.args.name.now c.in_ok-place.place (sym c.in_ok-place.ensures))

pub returns-then-is_outside : goal.returns-then-is_outside
returns-then-is_outside c =
    let s = c.self.inside in
    let outside : is_before c.in_ok-place.place s.innermost ≡ true = sym c.is_outside.ensures ∙ c.if-is_outside.true in
    sym (ap (λ es. meaning_here (scopes_of es) c.args.name.now) c.self.view_is)
    ∙ here-hidden s.kept.items s.names s.tags s.innermost c.self.invariant c.args.name.now c.in_ok-place.place (sym c.in_ok-place.ensures) outside

pub returns : goal.returns
returns c =
    let s = c.self.inside in
    let k = c.index.result.now in
    let inside : is_before c.in_ok-place.place s.innermost ≡ false = sym c.is_outside.ensures ∙ c.if-is_outside.false in
    let found : meaning_here (scopes_of c.args.self.now) c.args.name.now ≡ entity_named k.entry =
    sym (ap (λ es. meaning_here (scopes_of es) c.args.name.now) c.self.view_is)
    ∙ here-found s.kept.items s.names s.tags s.innermost c.self.invariant c.args.name.now c.in_ok-place.place k (sym c.in_ok-place.ensures) inside c.index.ensures in
    subst (λ m. MatchOption c.entity_in.result (m ≡ None) (λ e. m ≡ Some (entity_of e.now))) (sym found) c.entity_in.ensures
