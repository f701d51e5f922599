-- What is at fault in the rest of a node, and nodes one in the other.
use Rattle.std.proofs.Common.{ℕ}
use Rattle.im_rules.specs.FileScope.{FilePlace}
use Rattle.im_rules.specs.UnitBreaks.{FileNode}
use Rattle.im_check_stop.specs.declared.stop.Stop.{Stop}
use Rattle.im_check_stop.specs.declared.stop.Stop.TheVariants.{Rule, Large, Memory}
use Rattle.im_check_file_specifiers.specs.Answers.{IsFileFault, IsRest}

pub rest_itself : (f : FilePlace) (n : FileNode) → IsRest f n f n
rest_itself f n = record { breaks = λ rule token x. x; sizes = λ k x. x; within = λ w. w }

pub rest_then : {f g h : FilePlace} {n m o : FileNode} → IsRest f n g m → IsRest g m h o → IsRest f n h o
rest_then r s =
    record {
      breaks = λ rule token x. r.breaks rule token (s.breaks rule token x);
      sizes = λ k x. r.sizes k (s.sizes k x);
      within = λ w. r.within (s.within w);
    }

pub rest_fault : {f g : FilePlace} {n m : FileNode} (stop : Stop) → IsRest f n g m → IsFileFault g m stop → IsFileFault f n stop
rest_fault (Rule rule token) r x = r.breaks rule token x
rest_fault (Large bytes) r x = (r.sizes bytes x.0, x.1)
rest_fault Memory r x = tt
