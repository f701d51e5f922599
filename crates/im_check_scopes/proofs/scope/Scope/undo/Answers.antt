use Rattle.im_check_scopes.proofs.Steps.{opened-back, named-back, tagged-back}
use Rattle.im_check_scopes.proofs.scope.Scope.undo.Goals as goal

pub invariant_of-self-in-Opened : goal.invariant_of-self-in-Opened
invariant_of-self-in-Opened c =
    let s = c.self.inside in
    opened-back s.kept.items c.pop.new.self.items s.names s.tags s.innermost c.in-Some.last c.self.invariant c.in-Some.ensures.items c.in-Opened.is

pub invariant_of-self-in-Named : goal.invariant_of-self-in-Named
invariant_of-self-in-Named c =
    let s = c.self.inside in
    named-back
    s.kept.items
    c.pop.new.self.items
    s.names
    s.tags
    s.innermost
    c.in-Some.last
    c.self.invariant
    c.in-Some.ensures.items
    c.set.new.self
    c.in-Named.name
    c.in-Named.field-1
    c.set.result
    c.in-Named.is
    c.set.ensures.set
    c.set.ensures.absent

pub invariant_of-self-in-Tagged : goal.invariant_of-self-in-Tagged
invariant_of-self-in-Tagged c =
    let s = c.self.inside in
    tagged-back
    s.kept.items
    c.pop.new.self.items
    s.names
    s.tags
    s.innermost
    c.in-Some.last
    c.self.invariant
    c.in-Some.ensures.items
    c.set-in-Tagged.new.self
    c.in-Tagged.tag
    c.in-Tagged.field-1
    c.set-in-Tagged.result
    c.in-Tagged.is
    c.set-in-Tagged.ensures.set
    c.set-in-Tagged.ensures.absent
