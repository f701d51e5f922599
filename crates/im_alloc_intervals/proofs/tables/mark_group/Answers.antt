use Rattle.std.proofs.Common.{◌≡◌, ℕ, Some, length, refl}
use Rattle.std.specs.Prelude.{slice_get, slice_index}
use Rattle.std.proofs.lemmas.Option.{slice_get_read}
use Rattle.im_block.specs.declared.code.Block.{Block}
use Rattle.im_alloc_intervals.specs.Tables.{IsLivingAt, IsCrossingAt, LivingIn, CrossingIn}
use Rattle.im_alloc_intervals.proofs.Blocks.{linked_at}
use Rattle.im_alloc_intervals.proofs.Stepping.{adds_start, flags_start, adds_at, adds_ats, flags_at, flags_ats}
use Rattle.im_alloc_intervals.proofs.tables.mark_group.Goals as goal

pub loop-b-init : goal.loop-b-init
loop-b-init c = record {
  living = adds_start (LivingIn c.args.base c.args.starts.now c.args.blocks.now c.args.places.now) c.args.intervals.now;
  crossing = flags_start (CrossingIn c.args.base c.args.starts.now c.args.blocks.now) c.args.slotted.now;
}

pub mark_block-requires : goal.mark_block-requires
mark_block-requires c =
    let l = c.loop-b in
    let blocks = c.args.blocks.now in
    let block : Block = c.index-blocks-b.result in
    let at : slice_get blocks l.b ≡ Some block = slice_get_read blocks (length blocks) l.b block refl c.loop-b-test.true c.index-blocks-b.is in
    record {
      there = linked_at blocks (length c.args.starts.now) l.b block c.requires.count c.requires.linked at;
      small = c.requires.small;
      room = c.requires.places.room l.b block at;
    }

pub loop-b-preserved : goal.loop-b-preserved
loop-b-preserved c =
    let l = c.loop-b in
    let blocks = c.args.blocks.now in
    let block : Block = c.index-blocks-b.result in
    let at : slice_get blocks l.b ≡ Some block = slice_get_read blocks (length blocks) l.b block refl c.loop-b-test.true c.index-blocks-b.is in
    let m = c.mark_block in
    record {
      living = adds_at blocks (λ (k : ℕ) (x : Block). IsLivingAt c.args.base c.args.starts.now x (slice_index c.args.places.now k)) l.b block c.args.intervals.now l.intervals m.new.intervals at l.invariant.living c.in_ok-mark_block.ensures.living;
      crossing = flags_at blocks (λ (k : ℕ) (x : Block). IsCrossingAt c.args.base c.args.starts.now x) l.b block c.args.slotted.now l.slotted m.new.slotted at l.invariant.crossing c.in_ok-mark_block.ensures.crossing;
    }

pub returns : goal.returns
returns c =
    let l = c.loop-b in
    record {
      living = adds_ats c.args.blocks.now (λ (k : ℕ) (x : Block). IsLivingAt c.args.base c.args.starts.now x (slice_index c.args.places.now k)) l.b c.args.intervals.now l.intervals c.loop-b-test.false l.invariant.living;
      crossing = flags_ats c.args.blocks.now (λ (k : ℕ) (x : Block). IsCrossingAt c.args.base c.args.starts.now x) l.b c.args.slotted.now l.slotted c.loop-b-test.false l.invariant.crossing;
    }
