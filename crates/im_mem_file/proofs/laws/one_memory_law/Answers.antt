use Rattle.im_mem_file.proofs.Again.{memory_again}
use Rattle.im_mem_file.proofs.laws.one_memory_law.Goals as goal

pub returns : goal.returns
returns c = memory_again
