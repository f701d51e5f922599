use Rattle.std.proofs.Common.{◌≡◌, ◌++◌, drop}
use Rattle.im_print_relation.specs.Text.{bytes_text}
use Rattle.im_print_parts.proofs.output.put_literal.Given as goal

abbrev pub invariant-loop-byte : goal.invariant-loop-byte
invariant-loop-byte l = l.out.items ++ bytes_text (drop l.byte-index l.bytes) ≡ l.initial.out.items ++ bytes_text l.bytes
