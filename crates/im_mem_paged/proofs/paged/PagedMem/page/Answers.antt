use Rattle.std.proofs.Common.{◌≡◌, ◌*◌, subst}
use Rattle.im_mem.specs.Memory.{view, bytes_from}
use Rattle.im_mem_paged.proofs.Memories.{page-at}
use Rattle.im_mem_paged.proofs.paged.PagedMem.page.Goals as goal

pub returns : goal.returns
returns c =
    page-at (view c.args.self.now) c.args.page c.bytes_at.result.now
    (subst (λ xs. c.bytes_at.result.now ≡ bytes_from (view xs) (4096 * c.args.page) 4096) c.self.view_is c.bytes_at.ensures)
