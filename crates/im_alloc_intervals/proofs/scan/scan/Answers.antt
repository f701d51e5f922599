use Rattle.std.proofs.Common.{◌≡◌, ℕ, List, Option, Some, length, get_or, sym, subst, arith}
use Rattle.std.specs.Prelude.{Vec, slice_get}
use Rattle.std.specs.declared.alloc.Global.{Global}
use Rattle.std.proofs.lemmas.Option.{slice_get-get_or}
use Rattle.im_alloc_intervals.specs.declared.marks.Interval.{Interval}
use Rattle.im_alloc_intervals.specs.declared.starts.Start.{Start}
use Rattle.im_alloc_intervals.specs.declared.table.Home.{Home as HomeOf}
use Rattle.im_alloc_intervals.specs.Scans.{AreFirst, AreStarts, AreWaiting}
use Rattle.im_alloc_intervals.proofs.Scanning.{Scan, scan_begin, scan_step, scan_end, start_within}
use Rattle.im_alloc_intervals.proofs.scan.scan.Goals as goal

abbrev blank : Start
blank = record { first = 0; register = 0 }

listed : (p : ℕ) (table table' : List (Option Interval)) (items items' : List Start) → table ≡ table' → items' ≡ items → AreStarts p table items → AreStarts p table' items'
listed p table table' items items' a b x = subst (λ (z : List (Option Interval)). AreStarts p z items') a (subst (λ (z : List Start). AreStarts p table z) (sym b) x)

pub loop-start-init : goal.loop-start-init
loop-start-init c =
    let t = c.args.tables.now in
    let p = c.args.parameters in
    let items = c.deref-start-items.result.now in
    let all : AreStarts p t.intervals.items items = listed p c.deref.result.now t.intervals.items c.in_ok-starts.starts.items items c.deref.ensures.value c.deref-start-items.ensures.value c.in_ok-starts.ensures in
    let long : c.len.result ≡ length t.intervals.items = omega (arith, c.len.ensures, t.intervals.ok.0) in
    let first : AreFirst p (length t.intervals.items) c.in_ok-of.of.items = subst (λ (n : ℕ). AreFirst p n c.in_ok-of.of.items) long c.in_ok-of.ensures in
    let waiting : AreWaiting p t.intervals.items c.only_waiting-taken.result.registers = subst (λ (z : List (Option Interval)). AreWaiting p z c.only_waiting-taken.result.registers) c.deref-2.ensures.value c.only_waiting-taken.ensures.registers in
    scan_begin p t items all c.in_ok-of.of.items c.only_waiting-taken.result first waiting c.only_waiting-taken.ensures.slots

pub give-requires : goal.give-requires
give-requires c =
    let t = c.args.tables.now in
    let p = c.args.parameters in
    let l = c.loop-start in
    let items = c.deref-start-items.result.now in
    let all : AreStarts p t.intervals.items items = listed p c.deref.result.now t.intervals.items c.in_ok-starts.starts.items items c.deref.ensures.value c.deref-start-items.ensures.value c.in_ok-starts.ensures in
    let s : Start = get_or items l.start-index blank in
    let at : slice_get items l.start-index ≡ Some s = slice_get-get_or items l.start-index blank c.loop-start-test.true in
    record {
      fits = c.requires.fits;
      within = start_within p t items all l.start-index s at;
      count = l.invariant.count;
      few = (let a = l.invariant.few in let b = all.few in let d = c.requires.fits.small in let e = c.loop-start-test.true in omega arith);
    }

pub loop-start-preserved : goal.loop-start-preserved
loop-start-preserved c =
    let t = c.args.tables.now in
    let p = c.args.parameters in
    let l = c.loop-start in
    let items = c.deref-start-items.result.now in
    let all : AreStarts p t.intervals.items items = listed p c.deref.result.now t.intervals.items c.in_ok-starts.starts.items items c.deref.ensures.value c.deref-start-items.ensures.value c.in_ok-starts.ensures in
    let s : Start = get_or items l.start-index blank in
    let at : slice_get items l.start-index ≡ Some s = slice_get-get_or items l.start-index blank c.loop-start-test.true in
    scan_step p t items all c.requires.fits l.start-index s at l.of.items c.give.new.of.items l.taken c.give.new.taken l.invariant c.in_ok-give.ensures

pub finish-requires : goal.finish-requires
finish-requires c =
    let t = c.args.tables.now in
    let p = c.args.parameters in
    let l = c.loop-start in
    let items = c.deref-start-items.result.now in
    let all : AreStarts p t.intervals.items items = listed p c.deref.result.now t.intervals.items c.in_ok-starts.starts.items items c.deref.ensures.value c.deref-start-items.ensures.value c.in_ok-starts.ensures in
    let a = l.invariant.few in
    let b = all.few in
    let d = c.requires.fits.small in
    let e = l.auto.start-index-end in
    omega arith

pub returns : goal.returns
returns c =
    let t = c.args.tables.now in
    let p = c.args.parameters in
    let l = c.loop-start in
    let items = c.deref-start-items.result.now in
    let all : AreStarts p t.intervals.items items = listed p c.deref.result.now t.intervals.items c.in_ok-starts.starts.items items c.deref.ensures.value c.deref-start-items.ensures.value c.in_ok-starts.ensures in
    let homes = c.finish.result in
    let scan : Scan p t items l.start-index homes.of.items l.taken = subst (λ (z : Vec HomeOf Global). Scan p t items l.start-index z.items l.taken) (sym c.finish.ensures.of) l.invariant in
    scan_end p t items all l.start-index homes l.taken c.loop-start-test.false l.auto.start-index-end c.finish.ensures.slots c.requires.few scan
