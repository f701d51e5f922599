use Rattle.std.proofs.Common.{ℕ, List, set, sym, subst}
use Rattle.im_gap.specs.declared.marks.Mark.TheVariants.{Open}
use Rattle.im_gap.specs.Search.{IsSearchOf}
use Rattle.im_gap.proofs.States.{opened}
use Rattle.im_gap.proofs.search.enter.Goals as goal

pub returns-clause-searched : goal.returns-clause-searched
returns-clause-searched c =
    subst (λ (z : List ℕ). IsSearchOf c.args.graph.now (set c.args.marks.now.items c.args.v Open) z)
    (sym c.in_ok-push.ensures.items)
    (opened _ _ _ _ _ _ c.requires.searched c.requires.inside c.requires.unseen c.requires.leads)
