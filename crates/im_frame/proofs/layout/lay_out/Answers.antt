use Rattle.std.proofs.Common.{◌≡◌, ◌+◌, ◌*◌, arith}
use Rattle.std.proofs.lemmas.Grind.{common_steps}
use Rattle.im_frame.specs.Layout.{places_from}
use Rattle.im_frame.proofs.Places.{laid}
use Rattle.im_frame.proofs.layout.lay_out.Goals as goal

pub returns-clause-gives : goal.returns-clause-gives
returns-clause-gives c =
    let e : c.in_ok-places.places.items ≡ places_from (8 + 8 * c.args.function.now.slots) c.args.function.now.objects.items = first_of (cc (c.in_ok-places.ensures.gives, c.deref.ensures.value), grind (arith, common_steps, c.in_ok-places.ensures.gives, c.deref.ensures.value)) in
    laid c.args.function.now _ c.frame_bytes-bytes.ensures (omega arith) c.requires e
