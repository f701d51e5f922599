use Rattle.std.proofs.Common.{◌≡◌, drop}
use Rattle.im_print_relation.specs.Printed as printed
use Rattle.im_print_parts.specs.Output.{known}
use Rattle.im_print_parts.proofs.names.is_among.Given as goal

abbrev pub invariant-loop-one : goal.invariant-loop-one
invariant-loop-one l = printed.is_among (known l.names) l.name ≡ printed.is_among (known (drop l.one-index l.names)) l.name
