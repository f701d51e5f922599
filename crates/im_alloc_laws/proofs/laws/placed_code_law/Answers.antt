use Rattle.std.proofs.Common.{ap}
use Rattle.im_block.specs.declared.unit.Unit.{Unit as Code}
use Rattle.im_alloc_laws.proofs.Costs.{costs}
use Rattle.im_alloc_laws.proofs.Cuts.{apart}
use Rattle.im_alloc_laws.proofs.Kept.{ordered, forced, needs}
use Rattle.im_alloc_laws.proofs.Settled.{settled, recut}
use Rattle.im_alloc_laws.proofs.Tagged.{runs}
use Rattle.im_alloc_laws.proofs.Whole.{placed_code, well_formed}
use Rattle.im_alloc_laws.proofs.laws.placed_code_law.Goals as goal

pub returns : goal.returns
returns c = record {
  runs = runs c.placed_law.ensures;
  statics = λ u v p. ap (λ (k : Code). k.statics.items) p.rest;
  needs = needs;
  ordered = ordered;
  forced = forced;
  apart = apart;
  cost = costs;
  placed = placed_code;
  well_formed = well_formed;
  settled = settled;
  recut = recut;
}
