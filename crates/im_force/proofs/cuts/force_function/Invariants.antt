use Rattle.std.proofs.Common.{◌≡◌, take, drop}
use Rattle.im_force.specs.Force.{ForcesBlocks}
use Rattle.im_force.proofs.cuts.force_function.Given as goal

-- the blocks so far have their cuts, the others are as they were
abbrev pub invariant-loop-number : goal.invariant-loop-number
invariant-loop-number l =
    let old = l.fn.function.blocks.items in
    record {
      entry : l.entry ≡ l.fn.function.entry;
      done : ForcesBlocks l.fn.function.entry 0 (take l.number old) (take l.number l.block-items);
      left : drop l.number l.block-items ≡ drop l.number old;
    }
