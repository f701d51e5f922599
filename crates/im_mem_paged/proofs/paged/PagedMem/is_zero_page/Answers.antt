use Rattle.std.proofs.Common.{sym}
use Rattle.im_mem.specs.Memory.{view}
use Rattle.im_mem_paged.proofs.Memories.{page-zero}
use Rattle.im_mem_paged.proofs.paged.PagedMem.is_zero_page.Goals as goal

pub returns-then-not-is_marked : goal.returns-then-not-is_marked
returns-then-not-is_marked c =
    let unmarked = c.if-not-is_marked.true in
    rw unmarked (sym (page-zero (view c.args.self.now) c.args.page (c.is_marked.ensures unmarked)))
