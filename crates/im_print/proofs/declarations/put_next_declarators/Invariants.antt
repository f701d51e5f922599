use Rattle.std.proofs.Common.{◌≡◌, ◌++◌, drop}
use Rattle.im_print_parts.specs.Output.{spaced, each, known}
use Rattle.im_print_parts.specs.Parts as parts
use Rattle.im_print.proofs.declarations.put_next_declarators.Given as goal

abbrev pub invariant-loop-one : goal.invariant-loop-one
invariant-loop-one l = l.out.items ++ spaced (each (parts.next_init_declarator (known l.names)) (drop l.one-index l.declarators)) ≡ l.initial.out.items ++ spaced (each (parts.next_init_declarator (known l.names)) l.declarators)
