use Rattle.std.proofs.Common.{Option, drop}
use Rattle.im_check_scopes.specs.Shape.{scopes_of}
use Rattle.im_check_counts.specs.declared.crowded.Crowded.{Crowded}
use Rattle.im_check_counts.specs.Crowded.{IsCrowdedIn}
use Rattle.im_check_counts.specs.Heads.{heads_in}
use Rattle.im_check_counts.proofs.crowded.first_crowded.Given as goal

abbrev pub invariant-loop-head : goal.invariant-loop-head
invariant-loop-head l = (r : Option Crowded) → IsCrowdedIn (scopes_of l.scope) (heads_in (drop l.head-index l.heads)) r → IsCrowdedIn (scopes_of l.scope) (heads_in l.heads) r
