use Rattle.im_check_file_place.specs.Files.{file_place_of}
use Rattle.im_check_file_specifiers.proofs.Constants.{EnumeratorsReached}
use Rattle.im_check_file_specifiers.proofs.enumerators.enumerated.Given as goal

abbrev pub invariant-loop-e : goal.invariant-loop-e
invariant-loop-e l = EnumeratorsReached (file_place_of l.fn.file) l.enumerators l.e-index l.next.value (file_place_of l.file)
