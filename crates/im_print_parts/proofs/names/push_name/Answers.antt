use Rattle.std.proofs.Common.{◌++◌, sym, ap, ◌∙◌}
use Rattle.im_print_parts.specs.Output.{known}
use Rattle.im_print_parts.proofs.NameFacts.{known_pushed}
use Rattle.im_print_parts.proofs.names.push_name.Goals as goal

pub returns-in-None : goal.returns-in-None
returns-in-None c = sym (ap (λ z. z ++ known c.args.names.now.items) c.in-None.ensures)

pub returns-in_ok-push-in-Some : goal.returns-in_ok-push-in-Some
returns-in_ok-push-in-Some c = ap known c.in_ok-push-in-Some.ensures.items ∙ known_pushed c.args.names.now.items c.in-Some.name ∙ sym (ap (λ z. z ++ known c.args.names.now.items) c.in-Some.ensures)
