use Rattle.std.proofs.Common.{refl}
use Rattle.im_io.proofs.mem_shelf.MemShelfShelf.open_file.Goals as goal

pub returns-then-is_refused-clause-failed : goal.returns-then-is_refused-clause-failed
returns-then-is_refused-clause-failed c = rw (← c.self.view_is) (λ _. c.is_refused.ensures.refused.0 c.if-is_refused.true, λ _. refl)

pub returns-then-is_refused-clause-absent : goal.returns-then-is_refused-clause-absent
returns-then-is_refused-clause-absent c = rw (← c.self.view_is) (λ e. absurd cc, λ passes. absurd (passes.0 (c.is_refused.ensures.refused.0 c.if-is_refused.true)))
