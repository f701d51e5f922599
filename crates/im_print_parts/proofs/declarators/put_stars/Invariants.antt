use Rattle.std.proofs.Common.{◌≡◌, ◌++◌, drop}
use Rattle.im_print_parts.specs.Output.{spaced, each}
use Rattle.im_print_parts.specs.Parts as parts
use Rattle.im_print_parts.proofs.declarators.put_stars.Given as goal

abbrev pub invariant-loop-star : goal.invariant-loop-star
invariant-loop-star l = l.out.items ++ spaced (each parts.star_words (drop l.star-index l.stars)) ≡ l.initial.out.items ++ spaced (each parts.star_words l.stars)
