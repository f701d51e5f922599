use Rattle.std.proofs.Common.{ap, sym}
use Rattle.im_ctree.specs.Shape.{maybe_initializer_of}
use Rattle.im_print_relation.specs.Printed as printed
use Rattle.im_print_parts.specs.Output.{known}
use Rattle.im_print_parts.proofs.Writing.{writes_first, writes_same}
use Rattle.im_print.proofs.declarations.put_maybe_initializer.Goals as goal

pub returns-in_ok-put_initializer-in-Some : goal.returns-in_ok-put_initializer-in-Some
returns-in_ok-put_initializer-in-Some c = writes_same (sym (ap (λ v. printed.maybe_initializer (known c.args.names.now) (maybe_initializer_of v)) c.in-Some.is)) (writes_first c.in_ok-put_mark-in-Some.ensures c.in_ok-put_initializer-in-Some.ensures)
