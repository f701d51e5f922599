use Rattle.std.proofs.Common.{ℕ, ◌≡◌, length, subst}
use Rattle.std.proofs.lemmas.Result.{IfOk-weaker}
use Rattle.im_block.specs.Sections.{Has}
use Rattle.im_block.specs.Wellformed.{PlaceWithin}
use Rattle.im_block_laws.specs.PointsTo.{Sub, PlaceHas}
use Rattle.im_alias.specs.PointsAt.{sets_at}
use Rattle.im_alias.specs.declared.table.Owner.TheVariants.{Object}
use Rattle.im_alias.specs.Sets.{Flowed, Grows, row_sets}
use Rattle.im_alias.proofs.Arms.{write_into}
use Rattle.im_alias.proofs.Endings.{write_named}
use Rattle.im_alias.proofs.Steps.{set_there}
use Rattle.im_alias.proofs.flow.flow_write.Goals as goal

pub returns-in-Static : goal.returns-in-Static
returns-in-Static c =
    let spot = c.args.spot.now in
    let set = c.index-from.result.now in
    let t = c.args.table.now in
    let new = c.add_all.new.self in
    let object = c.in-Static.object in
    let from = c.args.from in
    let is : row_sets spot from ≡ set.members.items = set_there spot.sets.items from set c.requires.from_within c.index-from.ensures in
    IfOk-weaker c.add_all.result (λ b. Grows (Object object) set.members.items t new b) (λ b. Flowed (λ p. (n : ℕ) → PlaceHas (sets_at p (row_sets spot)) 0 c.args.place n → Sub (row_sets spot from) (p.object n)) t new b)
    (λ b h. write_named (row_sets spot) from object set.members.items c.args.place t new b c.in-Static.is is h)
    c.add_all.ensures

pub returns-in-Through : goal.returns-in-Through
returns-in-Through c =
    let spot = c.args.spot.now in
    let set = c.index-from.result.now in
    let objects = c.index.result.now in
    let t = c.args.table.now in
    let new = c.flow_into.new.table in
    let pointer = c.in-Through.pointer in
    let from = c.args.from in
    let within = subst (PlaceWithin (length spot.sets.items)) c.in-Through.is c.requires.within in
    let is : row_sets spot from ≡ set.members.items = set_there spot.sets.items from set c.requires.from_within c.index-from.ensures in
    let are : row_sets spot pointer ≡ objects.members.items = set_there spot.sets.items pointer objects within c.index.ensures in
    rw c.in-Through.is (IfOk-weaker c.flow_into.result (λ b. Flowed (λ p. (n : ℕ) → Has objects.members.items n → Sub set.members.items (p.object n)) t new b) (λ b. Flowed (λ p. (n : ℕ) → Has (row_sets spot pointer) n → Sub (row_sets spot from) (p.object n)) t new b)
    (λ b h. write_into (row_sets spot) from pointer set.members.items objects.members.items t new b is are h)
    c.flow_into.ensures)
