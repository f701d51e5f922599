use Rattle.std.proofs.Common.{ap}
use Rattle.im_mem.specs.Memory.{Mem}
use Rattle.im_mem_paged.proofs.Memories.{zeroed-memory}
use Rattle.im_mem_paged.proofs.paged.PagedMem.new.Goals as goal

pub invariant_of-result : goal.invariant_of-result
invariant_of-result c = record {
  count = c.in_ok-marks.ensures;
  zero = λ k inside unmarked. ap (λ (m : Mem). m k) c.in_ok-new.ensures;
  memory = zeroed-memory _ c.in_ok-new.ensures;
}
