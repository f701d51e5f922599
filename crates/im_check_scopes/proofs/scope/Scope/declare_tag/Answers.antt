use Rattle.std.proofs.Common.{◌∙◌, ap}
use Rattle.im_check_name_map.specs.Numbers.{number_of}
use Rattle.im_check_scopes.proofs.Steps.{tagged-kept, scopes-grown}
use Rattle.im_check_scopes.proofs.scope.Scope.declare_tag.Goals as goal

pub invariant_of-self-in-Ok : goal.invariant_of-self-in-Ok
invariant_of-self-in-Ok c =
    let s = c.self.inside in
    tagged-kept
    s.kept.items
    c.push.new.self.items
    s.names
    s.tags
    c.set.new.self
    s.innermost
    c.number-shadowed.result
    c.args.tag
    c.in_ok-key.key
    c.len-place.result
    c.self.invariant
    (c.in_ok-key.ensures.items ∙ c.deref.ensures.value)
    (c.len-place.ensures ∙ s.kept.ok.0)
    c.args.meaning
    c.in_ok-push.ensures.items
    (c.number-shadowed.ensures ∙ ap (number_of s.tags) c.deref-2.ensures.value)
    c.in-Ok.ensures.set

pub returns-in-Ok-clause-scopes : goal.returns-in-Ok-clause-scopes
returns-in-Ok-clause-scopes c = scopes-grown c.self.inside.kept.items c.push.new.self.items _ c.args.self.now c.self.view_is c.in_ok-push.ensures.items
