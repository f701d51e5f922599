use Rattle.std.proofs.Common.{◌≡◌, ◌*◌, ℕ, List, Some, length, refl, ap, ◌∙◌, subst, arith}
use Rattle.std.specs.Prelude.{Vec, slice_get}
use Rattle.std.specs.declared.alloc.Global.{Global}
use Rattle.std.proofs.lemmas.Option.{slice_get_read}
use Rattle.im_alloc_intervals.specs.Marks.{Adds, Flags}
use Rattle.im_alloc_intervals.specs.Tables.{IsLivingIn, IsCrossingIn, LivingOf, CrossingOf}
use Rattle.im_alloc_intervals.proofs.Stepping.{adds_start, flags_start, adds_at, adds_ats, flags_at, flags_ats}
use Rattle.im_alloc_intervals.proofs.tables.mark_groups.Goals as goal

pub loop-g-init : goal.loop-g-init
loop-g-init c = record {
  living = adds_start (LivingOf c.args.groups.now c.args.blocks.now c.args.places.now) c.args.intervals.now;
  crossing = flags_start (CrossingOf c.args.groups.now c.args.blocks.now) c.args.slotted.now;
}

pub mark_group-requires : goal.mark_group-requires
mark_group-requires c =
    let l = c.loop-g in
    let groups = c.args.groups.now in
    let starts : Vec ℕ Global = c.index-groups-g.result in
    let at : slice_get groups l.g ≡ Some starts = slice_get_read groups (length groups) l.g starts refl c.loop-g-test.true c.index-groups-g.is in
    record {
      count = ap length c.deref.ensures.value ∙ c.requires.words l.g starts at;
      linked = c.requires.linked;
      places = c.requires.places;
      small = (let few = c.requires.few in let lt = c.loop-g-test.true in omega arith);
    }

pub loop-g-preserved : goal.loop-g-preserved
loop-g-preserved c =
    let l = c.loop-g in
    let groups = c.args.groups.now in
    let blocks = c.args.blocks.now in
    let places = c.args.places.now in
    let starts : Vec ℕ Global = c.index-groups-g.result in
    let at : slice_get groups l.g ≡ Some starts = slice_get_read groups (length groups) l.g starts refl c.loop-g-test.true c.index-groups-g.is in
    let m = c.mark_group in
    let e = c.in_ok-mark_group.ensures in
    record {
      living = adds_at groups (λ (k : ℕ) (x : Vec ℕ Global). IsLivingIn (32 * k) x.items blocks places) l.g starts c.args.intervals.now l.intervals m.new.intervals at l.invariant.living
          (subst (λ (z : List ℕ). Adds (IsLivingIn (32 * l.g) z blocks places) l.intervals m.new.intervals) c.deref.ensures.value e.living);
      crossing = flags_at groups (λ (k : ℕ) (x : Vec ℕ Global). IsCrossingIn (32 * k) x.items blocks) l.g starts c.args.slotted.now l.slotted m.new.slotted at l.invariant.crossing
          (subst (λ (z : List ℕ). Flags (IsCrossingIn (32 * l.g) z blocks) l.slotted m.new.slotted) c.deref.ensures.value e.crossing);
    }

pub returns : goal.returns
returns c =
    let l = c.loop-g in
    record {
      living = adds_ats c.args.groups.now (λ (k : ℕ) (x : Vec ℕ Global). IsLivingIn (32 * k) x.items c.args.blocks.now c.args.places.now) l.g c.args.intervals.now l.intervals c.loop-g-test.false l.invariant.living;
      crossing = flags_ats c.args.groups.now (λ (k : ℕ) (x : Vec ℕ Global). IsCrossingIn (32 * k) x.items c.args.blocks.now) l.g c.args.slotted.now l.slotted c.loop-g-test.false l.invariant.crossing;
    }
