use Rattle.std.proofs.Common.{◌≡◌, ◌+◌, ℕ, Some, length, refl, sym, subst, ◌∙◌, arith}
use Rattle.std.specs.Prelude.{All, slice_get, slice_index}
use Rattle.std.proofs.lemmas.Option.{slice_get_read}
use Rattle.im_block.specs.declared.code.Block.{Block}
use Rattle.im_block.specs.Wellformed.{LineWithin}
use Rattle.im_alloc_intervals.specs.Lines.{IsSetAt, IsPassed}
use Rattle.im_alloc_intervals.specs.Tables.{SetIn, PassedIn}
use Rattle.im_alloc_intervals.proofs.Blocks.{lines_at}
use Rattle.im_alloc_intervals.proofs.Stepping.{adds_start, flags_start, adds_at, adds_ats, flags_at, flags_ats}
use Rattle.im_alloc_intervals.proofs.tables.mark_lines.Goals as goal

pub loop-b-init : goal.loop-b-init
loop-b-init c = record {
  set = adds_start (SetIn c.args.blocks.now c.args.places.now) c.args.intervals.now;
  passed = flags_start (PassedIn c.args.blocks.now) c.args.arguments.now;
}

pub mark_targets-requires : goal.mark_targets-requires
mark_targets-requires c =
    let l = c.loop-b in
    let blocks = c.args.blocks.now in
    let block : Block = c.index-blocks-b.result in
    let at : slice_get blocks l.b ≡ Some block = slice_get_read blocks (length blocks) l.b block refl c.loop-b-test.true c.index-blocks-b.is in
    record {
      within = lines_at (length l.intervals) blocks l.b block (subst (λ (n : ℕ). All (λ (x : Block). All (LineWithin n) x.lines.items) blocks) (sym l.auto.intervals) c.requires.within) at;
      count = l.auto.arguments ∙ c.requires.count ∙ sym l.auto.intervals;
      small = (let s = c.requires.small in let a = l.auto.intervals in omega arith);
      room = c.requires.places.room l.b block at;
    }

pub loop-b-preserved : goal.loop-b-preserved
loop-b-preserved c =
    let l = c.loop-b in
    let blocks = c.args.blocks.now in
    let block : Block = c.index-blocks-b.result in
    let at : slice_get blocks l.b ≡ Some block = slice_get_read blocks (length blocks) l.b block refl c.loop-b-test.true c.index-blocks-b.is in
    let m = c.mark_targets in
    record {
      set = adds_at blocks (λ (k : ℕ) (x : Block). IsSetAt x.lines.items (slice_index c.args.places.now k + 1)) l.b block c.args.intervals.now l.intervals m.new.intervals at l.invariant.set m.ensures.set;
      passed = flags_at blocks (λ (k : ℕ) (x : Block). IsPassed x.lines.items) l.b block c.args.arguments.now l.arguments m.new.arguments at l.invariant.passed m.ensures.passed;
    }

pub returns-clause-set : goal.returns-clause-set
returns-clause-set c = adds_ats c.args.blocks.now (λ (k : ℕ) (x : Block). IsSetAt x.lines.items (slice_index c.args.places.now k + 1)) c.loop-b.b c.args.intervals.now c.loop-b.intervals c.loop-b-test.false c.loop-b.invariant.set

pub returns-clause-passed : goal.returns-clause-passed
returns-clause-passed c = flags_ats c.args.blocks.now (λ (k : ℕ) (x : Block). IsPassed x.lines.items) c.loop-b.b c.args.arguments.now c.loop-b.arguments c.loop-b-test.false c.loop-b.invariant.passed
