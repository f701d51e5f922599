use Rattle.std.proofs.Common.{◌∙◌, ap, sym}
use Rattle.im_mem.specs.Memory.{view, stored}
use Rattle.im_mem_paged.proofs.paged.put.Goals as goal

pub returns-in-2-clause-bytes : goal.returns-in-2-clause-bytes
returns-in-2-clause-bytes c =
    c.store-in-2.ensures.bytes ∙ ap (λ n. stored (view c.args.flat.now) c.args.addr n c.args.word) (sym c.in-2.is)
