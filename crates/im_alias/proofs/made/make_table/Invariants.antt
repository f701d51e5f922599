use Rattle.std.proofs.Common.{◌≡◌, length}
use Rattle.im_block.specs.Wellformed.{objects_below}
use Rattle.im_alias.specs.Sets.{HaveNothing}
use Rattle.im_alias.proofs.Making.{MadeRows}
use Rattle.im_alias.proofs.made.make_table.Given as goal

abbrev pub invariant-loop-function : goal.invariant-loop-function
invariant-loop-function l = record {
  objects : length l.objects.items ≡ objects_below l.unit l.function-index;
  nothing : HaveNothing l.objects.items;
  rows : MadeRows l.unit l.function-index l.registers.items;
}
