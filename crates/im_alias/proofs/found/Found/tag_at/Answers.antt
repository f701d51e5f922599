use Rattle.std.proofs.Common.{◌≡◌, length, Some, subst}
use Rattle.std.proofs.lemmas.Result.{IfOk-weaker}
use Rattle.im_block.specs.declared.access.Tag.TheVariants.{Direct}
use Rattle.im_block.specs.declared.code.Place.TheVariants.{Through}
use Rattle.im_block.specs.Wellformed.{PlaceWithin}
use Rattle.im_alias.specs.Sets.{row_sets}
use Rattle.im_alias.specs.Scan.{FindsTag, TagAlike, IsAmong}
use Rattle.im_alias.proofs.Arms.{among_through}
use Rattle.im_alias.proofs.Finding.{direct_found}
use Rattle.im_alias.proofs.Steps.{set_there}
use Rattle.im_alias.proofs.found.Found.tag_at.Goals as goal

pub returns-in-Static : goal.returns-in-Static
returns-in-Static c =
    let sets = row_sets c.args.spot.now in
    let object = c.in-Static.object in
    let offset = c.in-Static.offset in
    let place = c.args.place in
    let old = c.args.self.now in
    let new = c.put.new.self in
    IfOk-weaker c.put.result (λ k. FindsTag k (λ o. o ≡ Some (Direct object offset)) old new) (λ k. FindsTag k (TagAlike sets place) old new)
    (λ k h. direct_found sets object offset k place old new c.in-Static.is h)
    c.put.ensures

pub returns-in-Through : goal.returns-in-Through
returns-in-Through c =
    let spot = c.args.spot.now in
    let sets = row_sets spot in
    let pointer = c.in-Through.pointer in
    let offset = c.in-Through.offset in
    let objects = c.index.result.now in
    let old = c.args.self.now in
    let new = c.among.new.self in
    let within = subst (PlaceWithin (length spot.sets.items)) c.in-Through.is c.requires in
    let there = set_there spot.sets.items pointer objects within c.index.ensures in
    rw c.in-Through.is (IfOk-weaker c.among.result (λ k. FindsTag k (IsAmong objects.members.items) old new) (λ k. FindsTag k (TagAlike sets (Through pointer offset)) old new)
    (λ k h. among_through sets pointer offset k objects.members.items old new there h)
    c.among.ensures)
