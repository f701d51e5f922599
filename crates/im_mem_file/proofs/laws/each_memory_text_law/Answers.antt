use Rattle.im_mem_file.proofs.Taken.{memory_taken}
use Rattle.im_mem_file.proofs.laws.each_memory_text_law.Goals as goal

pub returns : goal.returns
returns c = memory_taken
