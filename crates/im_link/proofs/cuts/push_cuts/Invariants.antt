use Rattle.std.proofs.Common.{◌≡◌, List, [], ◌∷◌, ◌++◌, ◌+◌}
use Rattle.im_rv.specs.declared.code.Part.{Part}
use Rattle.im_link.specs.Parts.{word_count}
use Rattle.im_link.specs.Code.{AreDependencesNamed}
use Rattle.im_link.specs.State.{AreFirstCuts}
use Rattle.im_link.proofs.cuts.push_cuts.Given as goal

abbrev pub invariant-loop-k : goal.invariant-loop-k
invariant-loop-k l =
    (parts : List Part) → l.first ≡ word_count parts → AreDependencesNamed (parts ++ l.part ∷ []) → AreFirstCuts parts l.first l.initial.cuts.items →
    AreFirstCuts (parts ++ l.part ∷ []) (l.first + l.k) l.cuts.items
