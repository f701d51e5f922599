use Rattle.std.proofs.Common.{arith}
use Rattle.std.proofs.lemmas.Result.{IfOk-weaker}
use Rattle.im_alloc_intervals.specs.declared.table.Homes.{Homes}
use Rattle.im_alloc_intervals.specs.Homes.{AreHomes}
use Rattle.im_alloc_intervals.specs.Leaves.{NeedsNoSlot}
use Rattle.im_alloc_intervals.specs.Scans.{AreScanned}
use Rattle.im_alloc_intervals.proofs.Whole.{are_homes, no_slots}
use Rattle.im_alloc_intervals.proofs.scan.homes.Goals as goal

pub scan-requires : goal.scan-requires
scan-requires c =
    let t = c.in_ok-tables.ensures in
    record {
      fits = t.fitting;
      few = c.requires.whole.parameters;
      within = (let a = c.requires.whole.received in let b = t.count in omega arith);
    }

pub returns : goal.returns
returns c =
    let f = c.args.function.now in
    let t = c.in_ok-tables.tables in
    record {
      homes = IfOk-weaker c.scan.result (λ (h : Homes). AreScanned f.parameters t h) (λ (h : Homes). AreHomes f h) (λ h s. are_homes f c.requires t c.in_ok-tables.ensures h s) c.scan.ensures;
      leaf = IfOk-weaker c.scan.result (λ (h : Homes). AreScanned f.parameters t h) (λ (h : Homes). NeedsNoSlot f h.slots) (λ h s leaf tight enters. no_slots f c.requires t c.in_ok-tables.ensures h s leaf tight enters) c.scan.ensures;
    }
