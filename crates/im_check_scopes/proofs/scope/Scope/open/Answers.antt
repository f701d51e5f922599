use Rattle.std.proofs.Common.{◌∙◌}
use Rattle.im_check_scopes.proofs.Steps.{opened-kept, scopes-grown}
use Rattle.im_check_scopes.proofs.scope.Scope.open.Goals as goal

pub invariant_of-self-2 : goal.invariant_of-self-2
invariant_of-self-2 c =
    let s = c.self.inside in
    opened-kept s.kept.items c.push.new.self.items s.names s.tags s.innermost c.len-place.result c.self.invariant c.in_ok-push.ensures.items (c.len-place.ensures ∙ s.kept.ok.0)

pub returns-clause-scopes : goal.returns-clause-scopes
returns-clause-scopes c = scopes-grown c.self.inside.kept.items c.push.new.self.items _ c.args.self.now c.self.view_is c.in_ok-push.ensures.items
