use Rattle.std.proofs.Common.{length, refl, arith}
use Rattle.std.proofs.lemmas.Option.{slice_get_read}
use Rattle.im_pack.proofs.bytes.first_bytes.Goals as goal

pub push_static-requires-clause-ready : goal.push_static-requires-clause-ready
push_static-requires-clause-ready c =
    c.requires.each c.loop-part.part-index c.part-item.result (slice_get_read c.args.statics.now (length c.args.statics.now) c.loop-part.part-index c.part-item.result refl (omega arith) c.part-item.is)
