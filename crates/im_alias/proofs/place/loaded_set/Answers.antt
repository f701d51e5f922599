use Rattle.std.proofs.Common.{◌≡◌, IfOk, length, sym, ◌∙◌, subst}
use Rattle.std.proofs.lemmas.Result.{IfOk-weaker}
use Rattle.im_block.specs.Wellformed.{PlaceWithin}
use Rattle.im_alias.specs.PointsAt.{loaded, union}
use Rattle.im_alias.specs.Sets.{points, row_sets}
use Rattle.im_alias.specs.Scan.{Alike}
use Rattle.im_alias.proofs.Giving.{loaded_directly, reached_directly}
use Rattle.im_alias.proofs.Steps.{alike_same, set_there}
use Rattle.im_alias.proofs.place.loaded_set.Goals as goal

pub returns-in-Static : goal.returns-in-Static
returns-in-Static c =
    let t = c.args.table.now in
    let sets = row_sets c.args.spot.now in
    let place = c.args.place in
    let object = c.in-Static.object in
    let was = c.index-in-Static.result.now in
    let there = set_there t.objects.items object was (reached_directly (length t.objects.items) sets object place c.in-Static.is c.requires.reached) c.index-in-Static.ensures in
    let is = loaded_directly (points t) sets object place c.in-Static.is ∙ there in
    IfOk-weaker c.copy.result (λ s. s.members.items ≡ was.members.items) (λ s. Alike s.members.items (loaded (points t) sets place)) (λ s e. alike_same s.members.items (loaded (points t) sets place) (e ∙ sym is)) c.copy.ensures

pub returns-in-Through : goal.returns-in-Through
returns-in-Through c =
    let spot = c.args.spot.now in
    let t = c.args.table.now in
    let pointer = c.in-Through.pointer in
    let objects = c.index.result.now in
    let within = subst (PlaceWithin (length spot.sets.items)) c.in-Through.is c.requires.within in
    let there = set_there spot.sets.items pointer objects within c.index.ensures in
    rw c.in-Through.is (subst (λ l. IfOk c.loaded_from.result (λ s. Alike s.members.items (union (points t).object l))) (sym there) c.loaded_from.ensures)
