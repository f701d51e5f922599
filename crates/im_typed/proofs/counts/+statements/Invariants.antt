use Rattle.std.proofs.Common.{◌≡◌, ◌-◌, ◌^◌, min, sum_by, take}
use Rattle.im_store.specs.im_ctype.Table.{Table}
use Rattle.im_typed.specs.ProgramOf.{stmt_of}
use Rattle.im_typed.specs.Counts.{stmt_nodes}
use Rattle.im_typed.proofs.counts.+statements.Given as goal

abbrev pub invariant-count_block-loop-statement : goal.invariant-count_block-loop-statement
invariant-count_block-loop-statement l =
    (types : Table) → l.total ≡ min (sum_by (λ s. stmt_nodes (stmt_of types s)) (take l.statement-index l.statements)) (2 ^ 64 - 1)
