use Rattle.std.proofs.Common.{◌<◌, length, get_or, refl, sym, subst, arith}
use Rattle.im_alias.specs.Ascending.{Adds, IsWithin}
use Rattle.im_alias.specs.Sets.{points}
use Rattle.im_alias.proofs.Lists.{has_at}
use Rattle.im_alias.proofs.Steps.{union_next, set_there}
use Rattle.im_alias.proofs.place.loaded_from.Goals as goal

pub index-requires : goal.index-requires
index-requires c =
    let xs = c.deref-object-items.result.now in
    let k = c.loop-object.object-index in
    let all : IsWithin (length c.args.table.now.objects.items) xs = subst (IsWithin (length c.args.table.now.objects.items)) (sym c.deref-object-items.ensures.value) c.requires in
    let within : k < length xs = omega arith in
    let below = all (get_or xs k 0) (has_at xs k 0 within) in
    omega arith

pub loop-object-preserved : goal.loop-object-preserved
loop-object-preserved c =
    let xs = c.deref-object-items.result.now in
    let l = c.loop-object in
    let k = l.object-index in
    let x = get_or xs k 0 in
    let t = c.args.table.now in
    let all : IsWithin (length t.objects.items) xs = subst (IsWithin (length t.objects.items)) (sym c.deref-object-items.ensures.value) c.requires in
    let within : k < length xs = omega arith in
    let there : x < length t.objects.items = all x (has_at xs k 0 within) in
    let set = c.index.result.now in
    union_next (points t).object xs k x l.set.members.items c.add_all.new.self.members.items c.in_ok-add_all.field-0 within refl l.invariant
    (subst (λ y. Adds l.set.members.items y c.add_all.new.self.members.items c.in_ok-add_all.field-0) (sym (set_there t.objects.items x set there c.index.ensures)) c.in_ok-add_all.ensures)
