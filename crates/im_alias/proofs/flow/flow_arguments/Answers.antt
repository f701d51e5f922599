use Rattle.std.proofs.Common.{ℕ, ◌≡◌, ◌+◌, ◌<◌, sym, subst, arith}
use Rattle.im_block_laws.specs.PointsTo.{Sub}
use Rattle.im_alias.specs.declared.table.Owner.TheVariants.{Register}
use Rattle.im_alias.specs.Sets.{Flowed, Grows, row_sets}
use Rattle.im_alias.proofs.Steps.{registers_next, set_there}
use Rattle.im_alias.proofs.flow.flow_arguments.Goals as goal

pub loop-k-preserved : goal.loop-k-preserved
loop-k-preserved c =
    let l = c.loop-k in
    let a = c.args in
    let given = λ (j : ℕ). row_sets a.spot.now (a.first + j) in
    let set = c.index.result.now in
    let is : given l.k ≡ set.members.items = set_there a.spot.now.sets.items (a.first + l.k) set (omega arith) c.index.ensures in
    let grows : Grows (Register a.callee (a.to + l.k)) (given l.k) l.table c.add_all.new.self c.in_ok-more.more = subst (λ xs. Grows (Register a.callee (a.to + l.k)) xs l.table c.add_all.new.self c.in_ok-more.more) (sym is) c.in_ok-more.ensures in
    subst (λ e. Flowed (λ p. (k : ℕ) → k < l.k + 1 → Sub (given k) (p.register a.callee (a.to + k))) c.args.table.now c.add_all.new.self e) (sym c.either-changed.ensures)
    (registers_next given a.callee a.to l.k c.args.table.now l.table c.add_all.new.self l.changed c.in_ok-more.more l.invariant grows)
