use Rattle.std.proofs.Common.{refl}
use Rattle.im_io.proofs.OpenFile.{took}
use Rattle.im_io.proofs.mem_shelf.MemShelfShelf.read.Goals as goal

pub returns-clause-told : goal.returns-clause-told
returns-clause-told c = rw (← c.self.view_is)
    (took c.self.inside.files.items c.self.inside.place c.in-Reading.file c.in-Reading.read c.index.result.now c.args.buffer.now c.read_at-count.new.buffer c.read_at-count.result
    c.in-Reading.is (rw (← c.self.view_is) at c.requires) c.index.ensures c.read_at-count.ensures.count c.read_at-count.ensures.next)

pub returns-then-is_refused-clause-failed : goal.returns-then-is_refused-clause-failed
returns-then-is_refused-clause-failed c = rw (← c.self.view_is) (λ _. c.is_refused.ensures.refused.0 c.if-is_refused.true, λ _. refl)
