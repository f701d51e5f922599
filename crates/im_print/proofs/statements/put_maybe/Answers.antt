use Rattle.std.proofs.Common.{rules, ap}
use Rattle.im_ctree.specs.Shape.{optional_expression_of}
use Rattle.im_print_relation.specs.Printed as printed
use Rattle.im_print_parts.specs.Output.{known}
use Rattle.im_print_parts.proofs.Writing.{writes_none}
use Rattle.im_print.proofs.statements.put_maybe.Goals as goal

pub returns-in-None : goal.returns-in-None
returns-in-None c =
    let same = ap (λ v. printed.maybe_expression (known c.args.names.now) (optional_expression_of v)) c.in-None.is in
    let none = writes_none c.args.out.now.items in
    search (rules, same, none)

pub returns-in-Some : goal.returns-in-Some
returns-in-Some c =
    let same = ap (λ v. printed.maybe_expression (known c.args.names.now) (optional_expression_of v)) c.in-Some.is in
    search (rules, same)
