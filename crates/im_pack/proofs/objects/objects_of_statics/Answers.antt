use Rattle.std.proofs.Common.{◌≡◌, ◌++◌, ◌∷◌, [], length, refl, ◌∙◌, arith}
use Rattle.std.specs.Prelude.{slice_index}
use Rattle.std.proofs.lemmas.Option.{slice_get_read, slice_get-get_or}
use Rattle.im_pack.specs.Objects.{object_of}
use Rattle.im_pack.proofs.Steps.{next_object}
use Rattle.im_pack.proofs.objects.objects_of_statics.Goals as goal

pub object_of-requires : goal.object_of-requires
object_of-requires c =
    (c.requires.each c.loop-i.i c.index-statics-i.result (slice_get_read c.args.statics.now (length c.args.statics.now) c.loop-i.i c.index-statics-i.result refl (omega arith) c.index-statics-i.is)).cells

pub loop-i-preserved : goal.loop-i-preserved
loop-i-preserved c =
    let e = slice_get_read c.args.statics.now (length c.args.statics.now) c.loop-i.i c.index-statics-i.result refl (omega arith) c.index-statics-i.is in
    let few = c.requires.count in
    let a = slice_get-get_or c.args.addresses.now c.loop-i.i 0 (omega arith) in
    let is : c.push.new.self.items ≡ c.loop-i.objects.items ++ object_of (slice_index c.args.addresses.now c.loop-i.i) c.index-statics-i.result ∷ [] = cc (c.in_ok-push.ensures.items, c.in_ok-object_of.ensures) in
    next_object c.loop-i.objects.items c.push.new.self.items c.args.statics.now c.args.addresses.now c.loop-i.i (slice_index c.args.addresses.now c.loop-i.i) c.index-statics-i.result e a is ∙ c.loop-i.invariant
