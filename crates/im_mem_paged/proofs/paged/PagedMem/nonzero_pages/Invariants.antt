use Rattle.im_mem.specs.Memory.{view}
use Rattle.im_mem_paged.proofs.Memories.{PagesFound}
use Rattle.im_mem_paged.proofs.paged.PagedMem.nonzero_pages.Given as goal

abbrev pub invariant-loop-page : goal.invariant-loop-page
invariant-loop-page l = PagesFound (view l.self) 1280 l.page l.pages.items
