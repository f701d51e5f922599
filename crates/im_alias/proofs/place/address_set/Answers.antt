use Rattle.std.proofs.Common.{◌≡◌, ◌∷◌, [], length, sym, ◌∙◌, subst}
use Rattle.std.proofs.lemmas.Result.{IfOk-weaker}
use Rattle.im_block.specs.Wellformed.{PlaceWithin}
use Rattle.im_alias.specs.PointsAt.{addressed}
use Rattle.im_alias.specs.Sets.{row_sets}
use Rattle.im_alias.specs.Scan.{Alike}
use Rattle.im_alias.proofs.Giving.{addressed_directly}
use Rattle.im_alias.proofs.Steps.{alike_same, set_there}
use Rattle.im_alias.proofs.place.address_set.Goals as goal

pub returns-in-Static : goal.returns-in-Static
returns-in-Static c =
    let sets = row_sets c.args.spot.now in
    let place = c.args.place in
    let is = addressed_directly sets c.in-Static.object place c.in-Static.is in
    IfOk-weaker c.one.result (λ s. s.members.items ≡ c.in-Static.object ∷ []) (λ s. Alike s.members.items (addressed sets place)) (λ s e. alike_same s.members.items (addressed sets place) (e ∙ sym is)) c.one.ensures

pub returns-in-Through : goal.returns-in-Through
returns-in-Through c =
    let spot = c.args.spot.now in
    let pointer = c.in-Through.pointer in
    let was = c.index.result.now in
    let within = subst (PlaceWithin (length spot.sets.items)) c.in-Through.is c.requires in
    let there : row_sets spot pointer ≡ was.members.items = set_there spot.sets.items pointer was within c.index.ensures in
    rw c.in-Through.is (IfOk-weaker c.copy.result (λ s. s.members.items ≡ was.members.items) (λ s. Alike s.members.items (row_sets spot pointer)) (λ s e. alike_same s.members.items (row_sets spot pointer) (e ∙ sym there)) c.copy.ensures)
