use Rattle.std.proofs.Common.{◌<◌, ◌≤◌, refl, length, arith}
use Rattle.std.proofs.lemmas.Option.{slice_get_read}
use Rattle.im_cut.proofs.Tables.{joins_out, joins_set}
use Rattle.im_cut.proofs.joins.join_at.Goals as goal

pub returns-then-to-len-clause-joins : goal.returns-then-to-len-clause-joins
returns-then-to-len-clause-joins c =
    let le : length c.args.table.now.items ≤ c.args.to = omega arith in
    joins_out c.args.tags.now c.args.to c.args.from.now c.args.table.now.items le

pub returns-clause-joins : goal.returns-clause-joins
returns-clause-joins c =
    let table = c.args.table.now.items in
    let lt : c.args.to < length table = omega arith in
    joins_set c.args.tags.now c.args.to c.args.from.now c.index_mut.result.now c.join.new.into table (slice_get_read table (length table) c.args.to c.index_mut.result.now refl lt c.index_mut.ensures.value) c.in_ok-join.ensures
