use Rattle.std.proofs.Common.{rules}
use Rattle.im_parse_expression.specs.Parsing.{tree_of}
use Rattle.im_parse_expression.proofs.CastLines.{over_more}
use Rattle.im_parse_expression.proofs.build.casts.Goals as goal

pub loop-at-preserved : goal.loop-at-preserved
loop-at-preserved c =
    let more = over_more c.pop.new.self.items c.in-Some.field-0 (tree_of c.loop-at.tree) in
    let made = c.in_ok-tree.ensures in
    let items = c.pop.ensures.items in
    let so = c.loop-at.invariant in
    search (rules, more, made, items, so)
