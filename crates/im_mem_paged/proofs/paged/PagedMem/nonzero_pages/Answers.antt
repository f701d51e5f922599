use Rattle.std.proofs.Common.{◌<◌, ◌≤◌, ◌∙◌, sym, arith}
use Rattle.im_mem.specs.Memory.{view}
use Rattle.im_mem_paged.proofs.Memories.{pages-skip, pages-more, pages-end}
use Rattle.im_mem_paged.proofs.paged.PagedMem.nonzero_pages.Goals.{then-not-is_zero_page+in_ok-push, else-not-is_zero_page}
use Rattle.im_mem_paged.proofs.paged.PagedMem.nonzero_pages.Goals as goal

pub loop-page-preserved : goal.loop-page-preserved
loop-page-preserved c =
    let m = view c.args.self.now in
    let page = c.loop-page.page in
    let below : page < 1280 = omega (arith, c.loop-page-test.true, c.len-page-end.ensures, c.self.invariant.count) in
    let is = c.is_zero_page.ensures in
    elim c.if-not-is_zero_page.branch [
      | then-not-is_zero_page+in_ok-push w ↦ rw w.pages-is (pages-more m 1280 page c.loop-page.pages.items w.push.new.self.items below (sym is ∙ w.if-not-is_zero_page.true) w.in_ok-push.ensures.items c.loop-page.invariant)
      | else-not-is_zero_page w ↦ rw w.pages-is (pages-skip m 1280 page c.loop-page.pages.items below (sym is ∙ w.if-not-is_zero_page.false) c.loop-page.invariant)
    ]

pub returns-clause-pages : goal.returns-clause-pages
returns-clause-pages c =
    let ends : 1280 ≤ c.loop-page.page = omega (arith, c.loop-page-test.false, c.len-page-end.ensures, c.self.invariant.count) in
    pages-end (view c.args.self.now) 1280 c.loop-page.page c.loop-page.pages.items ends c.loop-page.invariant
