use Rattle.std.proofs.Common.{◌≡◌, ◌+◌, vec_len}
use Rattle.im_alias.specs.Sets.{HaveNothing}
use Rattle.im_alias.proofs.made.push_empty.Given as goal

abbrev pub invariant-loop-number : goal.invariant-loop-number
invariant-loop-number l = record {
  count : vec_len l.sets ≡ vec_len l.initial.sets + l._number;
  nothing : HaveNothing l.initial.sets.items → HaveNothing l.sets.items;
}
