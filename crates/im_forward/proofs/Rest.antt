-- What else is kept: statics, what frames may need, and the cost of a whole unit.
use Rattle.std.proofs.Common.{ap}
use Rattle.im_block.specs.declared.unit.Function.{Function}
use Rattle.im_block.specs.declared.unit.Unit.{Unit as Code}
use Rattle.im_block.specs.Meaning.{statics_of}
use Rattle.im_block.specs.Shape.{function_cost}
use Rattle.im_block.proofs.Unitwise.{zip_map, zip_less}
use Rattle.im_forward.specs.Forward.{ForwardsFunction}
use Rattle.im_forward.specs.Laws.{RestLaw}
use Rattle.im_forward.proofs.Chained.{costs, need_kept}

pub rest : RestLaw
rest = record {
  statics = λ old new p. ap (λ (u : Code). statics_of u) p.rest;
  needs = λ old new p. zip_map ForwardsFunction (λ (f : Function). f.need) need_kept old.functions.items new.functions.items p.functions;
  cost = λ old new p. zip_less ForwardsFunction function_cost costs old.functions.items new.functions.items p.functions;
}
