use Rattle.std.proofs.Common.{Option, drop}
use Rattle.im_ctree.specs.Shape.{init_declarators_of}
use Rattle.im_check_counts.specs.declared.derivations.Deep.{Deep}
use Rattle.im_check_counts.specs.Derivations.{Known, derived_in, known_of, IsWalked}
use Rattle.im_check_counts.proofs.derivations.in_declarators.Given as goal

abbrev pub invariant-loop-d : goal.invariant-loop-d
invariant-loop-d l =
    (new : Known) (found : Option Deep)
    → IsWalked (known_of l.known) (derived_in l.base (init_declarators_of (drop l.d-index l.declarators))) new found
    → IsWalked (known_of l.fn.known) (derived_in l.base (init_declarators_of l.declarators)) new found
