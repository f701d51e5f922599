use Rattle.std.proofs.Common.{take}
use Rattle.im_cut.specs.Blocks.{AddsExposed}
use Rattle.im_cut.proofs.joins.add_exposed.Given as goal

-- the reads so far are there
abbrev pub invariant-loop-index : goal.invariant-loop-index
invariant-loop-index l = AddsExposed l.tags (take l.index l.from) l.initial.into.items l.into.items
