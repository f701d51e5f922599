use Rattle.std.proofs.Common.{◌≡◌, ◌-◌, ◌++◌, ◌∷◌, [], length, take, sym, ap, ◌∙◌, rules}
use Rattle.im_gap.specs.Graph.{successors_of, weight_of}
use Rattle.im_gap.proofs.States.{leaving, less_left, last_open, popped, above_there, met_there}
use Rattle.im_gap.proofs.search.leave.Goals as goal

pub returns-clause-searched : goal.returns-clause-searched
returns-clause-searched c =
    let at = popped c.args.path.now.items c.args.v c.requires.some c.requires.last in
    let rest : c.pop.new.self.items ≡ take (length c.args.path.now.items - 1) c.args.path.now.items = search rules in
    leaving _ _ _ c.args.marks.now.items c.args.path.now.items c.pop.new.self.items c.args.v c.weight.result c.greatest.result c.requires.searched
    (at ∙ ap (λ z. z ++ c.args.v ∷ []) (sym rest)) c.weight.ensures.value c.weight.ensures.small c.requires.done
    (above_there _ _ _ _ _ c.deref.ensures.value c.successors.ensures.value c.greatest.ensures.above)
    (met_there _ _ _ _ _ c.deref.ensures.value c.successors.ensures.value c.greatest.ensures.met)

pub returns-clause-less : goal.returns-clause-less
returns-clause-less c =
    let o = last_open _ _ _ _ _ c.args.v c.requires.searched c.requires.some c.requires.last in
    less_left (successors_of c.args.graph.now) (weight_of c.args.graph.now) 0 _ _ _ o.1 o.0
