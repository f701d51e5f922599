use Rattle.std.proofs.Common.{◌≡◌, ◌*◌, ℕ, Some, length, refl, arith}
use Rattle.std.specs.Prelude.{Vec, slice_get, slice_index}
use Rattle.std.specs.declared.alloc.Global.{Global}
use Rattle.std.proofs.lemmas.List.{get_or_read}
use Rattle.std.proofs.lemmas.Option.{slice_get_read}
use Rattle.im_alloc_intervals.specs.Marks.{IsBit}
use Rattle.im_alloc_intervals.specs.Tables.{EnteringOf}
use Rattle.im_alloc_intervals.proofs.Entering.{entering_next}
use Rattle.im_alloc_intervals.proofs.Stepping.{flags_start, flags_ats}
use Rattle.im_alloc_intervals.proofs.tables.flag_entering.Goals as goal

pub loop-g-init : goal.loop-g-init
loop-g-init c = flags_start (EnteringOf c.args.groups.now c.args.entry) c.args.slotted.now

pub index-requires : goal.index-requires
index-requires c =
    let l = c.loop-g in
    let groups = c.args.groups.now in
    let starts : Vec ℕ Global = c.index-groups-g.result in
    let at : slice_get groups l.g ≡ Some starts = slice_get_read groups (length groups) l.g starts refl c.loop-g-test.true c.index-groups-g.is in
    let lt = c.requires.entry l.g starts at in
    omega arith

pub loop-g-preserved : goal.loop-g-preserved
loop-g-preserved c =
    let l = c.loop-g in
    let groups = c.args.groups.now in
    let starts : Vec ℕ Global = c.index-groups-g.result in
    let at : slice_get groups l.g ≡ Some starts = slice_get_read groups (length groups) l.g starts refl c.loop-g-test.true c.index-groups-g.is in
    let word = c.index.result.now in
    entering_next groups c.args.entry l.g word starts c.args.slotted.now l.slotted c.flag_word.new.flags at (get_or_read starts.items c.args.entry word (c.requires.entry l.g starts at) c.index.ensures 0) l.invariant c.flag_word.ensures

pub returns : goal.returns
returns c = flags_ats c.args.groups.now (λ (k : ℕ) (z : Vec ℕ Global). IsBit 32 (32 * k) (slice_index z.items c.args.entry)) c.loop-g.g c.args.slotted.now c.loop-g.slotted c.loop-g-test.false c.loop-g.invariant
