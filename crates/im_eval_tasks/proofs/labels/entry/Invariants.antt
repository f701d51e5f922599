use Rattle.std.proofs.Common.{◌≡◌, drop}
use Rattle.im_typed.specs.Meaning.{entered}
use Rattle.im_eval_tasks.proofs.labels.entry.Given as goal

abbrev pub invariant-labels : goal.invariant-labels
invariant-labels l = entered l.number.value l.cases l.otherwise ≡ entered l.number.value (drop l.case-index l.cases) l.otherwise
