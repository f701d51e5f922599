use Rattle.std.proofs.Common.{Option, drop}
use Rattle.im_ctree.specs.Shape.{externals_of}
use Rattle.im_check_counts.specs.declared.derivations.Deep.{Deep}
use Rattle.im_check_counts.specs.Derivations.{Known, derived_of, known_of, IsWalked}
use Rattle.im_check_counts.proofs.derivations.in_externals.Given as goal

abbrev pub invariant-loop-external : goal.invariant-loop-external
invariant-loop-external l =
    (new : Known) (found : Option Deep)
    → IsWalked (known_of l.known) (derived_of (known_of l.known) (externals_of (drop l.external-index l.externals))) new found
    → IsWalked (known_of l.fn.known) (derived_of (known_of l.fn.known) (externals_of l.externals)) new found
