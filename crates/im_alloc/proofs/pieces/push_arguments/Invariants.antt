use Rattle.std.proofs.Common.{◌≡◌, ◌+◌, ◌-◌, ◌++◌, List}
use Rattle.im_block.specs.declared.code.Line.{Line}
use Rattle.im_alloc_relation.specs.Homes.{bring}
use Rattle.im_alloc_intervals.specs.Homes.{home_at}
use Rattle.im_alloc.proofs.pieces.push_arguments.Given as goal

-- the arguments so far were brought, the others are left
abbrev pub invariant-loop-i : goal.invariant-loop-i
invariant-loop-i l =
    (rest : List Line) → l.lines.items ++ bring (home_at l.homes) (10 + l.i) (l.first + l.i) (l.count - l.i) (l.access + l.i) rest ≡ l.fn.lines.items ++ bring (home_at l.homes) 10 l.first l.count l.access rest
