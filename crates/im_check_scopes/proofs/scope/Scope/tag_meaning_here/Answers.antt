use Rattle.std.proofs.Common.{◌≡◌, ◌<◌, None, true, false, sym, ap, subst, ◌∙◌}
use Rattle.im_check_name_map.specs.im_rules.Scopes.{tag_meaning_here}
use Rattle.im_check_scopes.specs.Shape.{scopes_of}
use Rattle.im_check_scopes.specs.Search.{tag_named, is_before}
use Rattle.im_check_scopes.proofs.Found.{tag-within, tag-here-found, tag-here-hidden, tag-here-absent}
use Rattle.im_check_scopes.proofs.scope.Scope.tag_meaning_here.Goals as goal

pub returns-in_err-place : goal.returns-in_err-place
returns-in_err-place c =
    let s = c.self.inside in
    let absent : tag_meaning_here (scopes_of c.args.self.now) c.args.tag.now ≡ None =
    sym (ap (λ es. tag_meaning_here (scopes_of es) c.args.tag.now) c.self.view_is) ∙ tag-here-absent s.kept.items s.names s.tags s.innermost c.self.invariant c.args.tag.now (sym c.in_err-place.ensures) in
    rw c.from_residual.ensures (sym absent)

pub index-requires : goal.index-requires
index-requires c =
    let s = c.self.inside in
    subst (λ n. c.in_ok-place.place < n) (sym s.kept.ok.0) (tag-within s.kept.items s.names s.tags s.innermost c.self.invariant c.args.tag.now c.in_ok-place.place (sym c.in_ok-place.ensures))

pub returns-then-is_outside : goal.returns-then-is_outside
returns-then-is_outside c =
    let s = c.self.inside in
    let outside : is_before c.in_ok-place.place s.innermost ≡ true = sym c.is_outside.ensures ∙ c.if-is_outside.true in
    let hidden : tag_meaning_here (scopes_of c.args.self.now) c.args.tag.now ≡ None =
    sym (ap (λ es. tag_meaning_here (scopes_of es) c.args.tag.now) c.self.view_is)
    ∙ tag-here-hidden s.kept.items s.names s.tags s.innermost c.self.invariant c.args.tag.now c.in_ok-place.place (sym c.in_ok-place.ensures) outside in
    sym hidden

pub returns : goal.returns
returns c =
    let s = c.self.inside in
    let k = c.index.result.now in
    let inside : is_before c.in_ok-place.place s.innermost ≡ false = sym c.is_outside.ensures ∙ c.if-is_outside.false in
    let found : tag_meaning_here (scopes_of c.args.self.now) c.args.tag.now ≡ tag_named k.entry =
    sym (ap (λ es. tag_meaning_here (scopes_of es) c.args.tag.now) c.self.view_is)
    ∙ tag-here-found s.kept.items s.names s.tags s.innermost c.self.invariant c.args.tag.now c.in_ok-place.place k (sym c.in_ok-place.ensures) inside c.index.ensures in
    c.tag_in.ensures ∙ sym found
