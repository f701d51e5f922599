use Rattle.std.proofs.Common.{arith}
use Rattle.im_link.proofs.Keeping.{lines_begin, lines_on, lines_end}
use Rattle.im_link.proofs.words.push_lines.Goals as goal

pub loop-line-init : goal.loop-line-init
loop-line-init c = (omega arith, λ before kept. lines_begin before c.args.lines.now _ _ _ kept)

pub push_line-requires : goal.push_line-requires
push_line-requires c =
    let count = c.loop-line.invariant.0 in
    let room = c.requires in
    let below = c.loop-line-test.true in
    omega arith

pub loop-line-preserved : goal.loop-line-preserved
loop-line-preserved c = (
  (let count = c.loop-line.invariant.0 in let more = c.in_ok-push_line.ensures.count in omega arith),
  λ before kept. lines_on before c.args.lines.now c.loop-line.line-index c.line-item.result c.loop-line-test.true c.line-item.is _ _ _ (c.in_ok-push_line.ensures.kept _ (c.loop-line.invariant.1 before kept)),
)

pub returns : goal.returns
returns c before kept = lines_end before c.args.lines.now c.loop-line.line-index c.loop-line-test.false _ _ _ (c.loop-line.invariant.1 before kept)
