use Rattle.im_mem.specs.Memory.{view}
use Rattle.im_mem_file.proofs.Loops.{PagesRead}
use Rattle.im_mem_file.proofs.pages.read_pages.Given as goal

abbrev pub invariant-loop : goal.invariant-loop
invariant-loop l = PagesRead l.bytes l.count l.place l.counter l.least l.at (view l.initial.memory) (view l.memory)
