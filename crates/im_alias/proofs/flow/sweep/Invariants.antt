use Rattle.im_alias.specs.Sets.{IsPart}
use Rattle.im_alias.proofs.Whole.{FlowedFunctions}
use Rattle.im_alias.proofs.flow.sweep.Given as goal

abbrev pub invariant-loop-number : goal.invariant-loop-number
invariant-loop-number l = record {
  part : IsPart l.fn.unit l.table;
  flowed : FlowedFunctions l.number l.fn.unit l.fn.table l.table l.fn.found l.found l.changed;
}
