use Rattle.std.proofs.Common.{◌≡◌, length}
use Rattle.im_mem_paged.specs.Marks.{KeepsMarks, MarksAll}
use Rattle.im_mem_paged.proofs.marks.mark_bytes.Given as goal

abbrev pub invariant-loop-page : goal.invariant-loop-page
invariant-loop-page l = KeepsMarks l.fn.marks.items l.marks.items × MarksAll l.first l.page l.marks.items × (length l.marks.items ≡ length l.fn.marks.items)
