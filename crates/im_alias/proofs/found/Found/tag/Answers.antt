use Rattle.std.proofs.Common.{refl}
use Rattle.im_alias.specs.declared.found.Found.{Found}
use Rattle.im_alias.specs.Sets.{row_sets}
use Rattle.im_alias.proofs.Arms.{nothing_found}
use Rattle.im_alias.proofs.Finding.{access_tagged}
use Rattle.im_alias.proofs.found.Found.tag.Goals as goal

pub returns-in_ok-push-in-Read : goal.returns-in_ok-push-in-Read
returns-in_ok-push-in-Read c =
    let place = c.in-Read.place in
    let access = c.in-Read.access in
    let mid = c.tag_at.new.self in
    let new : Found = record { tags = mid.tags; accesses = c.push.new.self; recent = mid.recent } in
    access_tagged (row_sets c.args.spot.now) place access c.in_ok-tag-in-Read.tag c.args.self.now mid new c.in_ok-tag-in-Read.ensures refl c.in_ok-push-in-Read.ensures.items c.args.line c.in-Read.is

pub returns-in_default : goal.returns-in_default
returns-in_default c = nothing_found (row_sets c.args.spot.now) c.args.line c.args.self.now c.requires.slotless c.in_default.not-Read c.in_default.not-Write
