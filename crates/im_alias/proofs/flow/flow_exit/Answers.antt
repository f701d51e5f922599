use Rattle.std.proofs.Common.{◌≡◌, ℕ, Option, Some, length, ap, ◌∙◌, ◌<◌}
use Rattle.std.proofs.lemmas.Result.{IfOk-weaker}
use Rattle.im_block.specs.declared.code.Exit.TheVariants.{Return}
use Rattle.im_alias.specs.PointsAt.{ExitFits}
use Rattle.im_alias.specs.declared.table.Owner.TheVariants.{Returned}
use Rattle.im_alias.specs.Sets.{Flowed, Grows, row_sets}
use Rattle.im_alias.proofs.Endings.{exit_returns, returned_within}
use Rattle.im_alias.proofs.Steps.{set_there}
use Rattle.im_alias.proofs.flow.flow_exit.Goals as goal

pub returns-in-Return-Some : goal.returns-in-Return-Some
returns-in-Return-Some c =
    let spot = c.args.spot.now in
    let i = c.args.number in
    let from = c.in-Return-Some.from in
    let set = c.index.result.now in
    let t = c.args.table.now in
    let new = c.add_all.new.self in
    let some : c.in-Return-Some.field-0 ≡ Some from = rw c.in-Return-Some.is at c.in-Return-Some.field-0-is in
    let is : c.args.exit ≡ Return (Some from) = c.in-Return-Some.is ∙ ap (λ (o : Option ℕ). Return o) some in
    let within : from < length spot.sets.items = returned_within (length spot.sets.items) from c.args.exit is c.requires.within in
    let there : row_sets spot from ≡ set.members.items = set_there spot.sets.items from set within c.index.ensures in
    IfOk-weaker c.add_all.result (λ b. Grows (Returned i) set.members.items t new b) (λ b. Flowed (λ p. ExitFits p (row_sets spot) i c.args.exit) t new b)
    (λ b h. exit_returns (row_sets spot) i from set.members.items c.args.exit t new b is there h)
    c.add_all.ensures
