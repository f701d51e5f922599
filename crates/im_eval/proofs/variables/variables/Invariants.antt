use Rattle.std.proofs.Common.{◌≡◌, ℕ, take, map}
use Rattle.im_num.specs.declared.values.Var.{Var}
use Rattle.im_num.specs.Variables.{variable_of}
use Rattle.im_store.specs.Objects.{Store}
use Rattle.im_store.specs.Outcomes as outcomes
use Rattle.im_typed.specs.ProgramOf.{static_of}
use Rattle.im_eval_store.specs.Living.{Holds}
use Rattle.im_eval_machine.specs.Endings.{AreLive}
use Rattle.im_eval.proofs.variables.variables.Given as goal

abbrev pub invariant-loop-number : goal.invariant-loop-number
invariant-loop-number l =
    (last : ℕ) (store : Store) → Holds l.memory last store → AreLive (map (static_of l.types) l.statics) store
    → map {A = Var} variable_of l.shown.items ≡ outcomes.variables (map (static_of l.types) (take l.number l.statics)) store
