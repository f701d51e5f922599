use Rattle.std.proofs.Common.{◌≡◌, suc, ◌-◌, ◌++◌, [], ◌∷◌, length, arith}
use Rattle.im_trial.proofs.Below.{below_result}
use Rattle.im_trial.proofs.table.put_below.Goals as goal

pub returns : goal.returns
returns c =
    let rows = c.args.rows.now.items in
    let last : length rows ≡ suc (c.len-count.result - 1) = omega arith in
    below_result c.put_below.result rows (c.len-count.result - 1) c.index_mut.result.now c.put_below.new.self (c.args.line.now ++ 10 ∷ []) last c.index_mut.ensures.value c.put_below.ensures.fields c.put_below.ensures.below c.put_below.ensures.stop
