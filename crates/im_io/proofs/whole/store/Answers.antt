use Rattle.std.proofs.Common.{◌≤◌, ◌+◌, ◌-◌, take, drop, length, length-drop, arith}
use Rattle.im_io.specs.Shelf.{Put}
use Rattle.im_io.proofs.Appending.{rest_of}
use Rattle.im_io.proofs.Files.{Holds, holds_more, told_then, same_counts}
use Rattle.im_io.proofs.whole.store.Goals as goal

pub loop-stored-preserved : goal.loop-stored-preserved
loop-stored-preserved g c =
    let text = c.args.text.now in
    let name = c.args.name.now in
    let stored = c.loop-stored.stored in
    let count = c.in_ok-stored.field-0 in
    let fits : count ≤ length (drop stored text) = rw (← rest_of stored text) c.in_ok-stored.ensures.fits in
    record {
      some = omega (arith, fits, length-drop stored text);
      mode = c.in_ok-stored.ensures.mode;
      counts = same_counts _ _ _ c.loop-stored.invariant.counts c.in_ok-stored.ensures.counts;
      told = told_then (Holds name text stored) (Put (take (length text - stored) (drop stored text)) count) (Holds name text (stored + count)) _ _ _
          (holds_more name text stored count) c.loop-stored.invariant.told c.in_ok-stored.ensures.told;
    }
