use Rattle.std.proofs.Common.{◌≡◌, ◌++◌, drop, false}
use Rattle.im_print_parts.specs.Output.{spaced, known}
use Rattle.im_print_parts.specs.Parts as parts
use Rattle.im_print.proofs.declarations.+initializing.Given as goal

abbrev pub invariant-put_initializers-loop-initializer : goal.invariant-put_initializers-loop-initializer
invariant-put_initializers-loop-initializer l = l.out.items ++ spaced (parts.separated (parts.initializer_words (known l.names)) l.behind (drop l.initializer-index l.initializers)) ≡ l.initial.out.items ++ spaced (parts.separated (parts.initializer_words (known l.names)) false l.initializers)
