use Rattle.im_alias.specs.Sets.{Flowed, StaticsFit}
use Rattle.im_alias.proofs.flow.flow_statics.Given as goal

abbrev pub invariant-loop-number : goal.invariant-loop-number
invariant-loop-number l = Flowed (StaticsFit l.number l.fn.unit) l.initial.table l.table l.changed
