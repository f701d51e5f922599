use Rattle.std.proofs.Common.{take}
use Rattle.im_cut.specs.Blocks.{BeginsWhere, is_turned}
use Rattle.im_cut.proofs.starts.begin_turned.Given as goal

-- a section begins behind the loop edges so far
abbrev pub invariant-loop-block : goal.invariant-loop-block
invariant-loop-block l = BeginsWhere (is_turned (take l.block-index l.blocks)) l.initial.table l.table
