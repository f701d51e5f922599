use Rattle.std.proofs.lemmas.Result.{err_from_is_err_and}
use Rattle.im_mem.specs.Memory.{view}
use Rattle.im_mem_file.proofs.Loops.{pages_start, pages_go_on, pages_stop, pages_laid_all, trailing, nothing_behind}
use Rattle.im_mem_file.proofs.pages.read_pages.Goals as goal

pub loop-init : goal.loop-init
loop-init c = pages_start c.args.bytes.now c.args.count c.args.place (view c.args.memory.now) c.requires

pub loop-preserved : goal.loop-preserved
loop-preserved c =
    pages_go_on c.args.bytes.now c.args.count c.args.place c.loop.counter c.loop.least c.loop.at c.in_ok-least.field-0 (view c.args.memory.now) (view c.loop.memory) (view c.read_page.new.memory) c.loop-test.true c.in_ok-least.ensures.number c.in_ok-least.ensures.there c.in_ok-least.ensures.laid c.in_ok-least.ensures.right c.loop.invariant

pub returns-in_err-least-clause-wrong : goal.returns-in_err-least-clause-wrong
returns-in_err-least-clause-wrong c =
    let p = err_from_is_err_and c.from_residual.result c.from_residual.ensures.1 in
    rw (p.1, p.2) (pages_stop c.args.bytes.now c.args.count c.args.place c.loop.counter c.loop.least c.loop.at (view c.args.memory.now) (view c.loop.memory) c.in_err-least.field-0.0 c.loop-test.true c.in_err-least.ensures.wrong c.loop.invariant)

pub returns-then-at-bytes-clause-wrong : goal.returns-then-at-bytes-clause-wrong
returns-then-at-bytes-clause-wrong c =
    trailing c.args.bytes.now c.args.count c.args.place c.loop.counter c.loop.least c.loop.at (view c.args.memory.now) (view c.loop.memory) c.loop-test.false c.if-at-bytes.true c.loop.invariant

pub returns-clause-laid : goal.returns-clause-laid
returns-clause-laid c =
    pages_laid_all c.args.bytes.now c.args.count c.args.place c.loop.counter c.loop.least c.loop.at (view c.args.memory.now) (view c.loop.memory) c.loop-test.false c.loop.invariant

pub returns-clause-right : goal.returns-clause-right
returns-clause-right c =
    nothing_behind c.args.bytes.now c.args.count c.args.place c.loop.counter c.loop.least c.loop.at (view c.args.memory.now) (view c.loop.memory) c.loop-test.false c.if-at-bytes.false c.loop.invariant
