use Rattle.std.proofs.Common.{◌≡◌, ◌+◌, ◌-◌, take, vec_len, ◌≤◌}
use Rattle.im_alias.proofs.tags.reach.Given as goal

abbrev pub invariant-loop-of : goal.invariant-loop-of
invariant-loop-of l = record {
  front : take (vec_len l.initial.of) l.of.items ≡ l.initial.of.items;
  more : vec_len l.initial.of ≤ vec_len l.of;
}

abbrev pub decreases-loop-of : goal.decreases-loop-of
decreases-loop-of l = l.index + 1 - vec_len l.of
