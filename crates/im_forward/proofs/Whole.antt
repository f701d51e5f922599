-- What both passes keep.
use Rattle.std.proofs.Common.{◌≡◌, ◌≤◌, ℕ, Some, ◌∙◌, arith}
use Rattle.std.specs.Prelude.{slice_get}
use Rattle.im_block.specs.declared.unit.Function.{Function}
use Rattle.im_block.specs.declared.unit.Unit.{Unit as Code}
use Rattle.im_block.specs.Shape.{sum_of, function_cost}
use Rattle.im_block.proofs.Unitwise.{zip_old}
use Rattle.im_promote.specs.Promote.{PromotesFunction}
use Rattle.im_promote.specs.Laws.{PromoteLaw, OrderedLaw, FormedLaw, PlaceableLaw, CostLaw, RestLaw}
use Rattle.im_forward.specs.Forward.{ForwardsFunction}
use Rattle.im_forward.specs.Laws.{ForwardLaw, OrderedLaw as StaysOrdered, FormedLaw as StaysFormed, PlaceableLaw as StaysPlaceable, UncutLaw as StaysUncut, CostLaw as CostsLess, RestLaw as StaysSame}
use Rattle.im_forward.specs.Registers.{InRegisters}
use Rattle.im_forward.specs.RegistersLaws.{CostsNoMore, RegistersLaw}

-- functions one by one

pub each : CostLaw → CostsLess → (old new : Code) → InRegisters old new → (k : ℕ) (g : Function) → slice_get new.functions.items k ≡ Some g → CostsNoMore old.functions.items k g
each promoting forwarding old new r k g e =
    let homes = r.promote.promotes.homes in
    let second = zip_old ForwardsFunction r.promoted.functions.items new.functions.items k g r.forward.functions e in
    let first = zip_old (PromotesFunction homes) old.functions.items r.promoted.functions.items k second.old r.promote.promotes.functions second.at in
    let less = promoting homes first.old second.old first.is in
    let least = forwarding second.old g second.is in
    record { f = first.old; there = first.at; cost = omega (arith, less, least) }

-- all functions

cost : RestLaw → StaysSame → (old new : Code) → InRegisters old new → sum_of function_cost new.functions.items ≤ sum_of function_cost old.functions.items
cost rest same old new r =
    let less = rest.cost old r.promoted r.promote.promotes in
    let least = same.cost r.promoted new r.forward in
    omega (arith, less, least)

pub registers : PromoteLaw → OrderedLaw → FormedLaw → PlaceableLaw → CostLaw → RestLaw
    → ForwardLaw → StaysOrdered → StaysFormed → StaysPlaceable → StaysUncut → CostsLess → StaysSame → RegistersLaw
registers promotes ordered formed placeable costs rest forwards still_ordered still_formed still_placeable still_uncut costs_less same = record {
  runs = λ old new r g n o run defined h. (let p = promotes old r.promoted r.promote.promotes g n o run defined h in (p.0, forwards r.promoted new r.forward g n o p.0 p.1));
  statics = λ old new r. same.statics r.promoted new r.forward ∙ rest.statics old r.promoted r.promote.promotes;
  needs = λ old new r. same.needs r.promoted new r.forward ∙ rest.needs old r.promoted r.promote.promotes;
  ordered = λ old new r h. still_ordered r.promoted new r.forward (ordered old r.promoted r.promote.promotes h);
  well_formed = λ old new r h. still_formed r.promoted new r.forward (formed old r.promoted r.promote.promotes h);
  placeable = λ old new r h. still_placeable r.promoted new r.forward (placeable old r.promoted r.promote h);
  uncut = λ old new r h. still_uncut r.promoted new r.forward (rest.uncut old r.promoted r.promote.promotes h);
  each = each costs costs_less;
  cost = cost rest same;
}
