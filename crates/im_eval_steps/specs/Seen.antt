-- What a look at an expression says of the meaning's answer: the value, with the state as it was, or the cause to stop.
use Rattle.std.specs.Prelude.{◌≡◌, ℤ, Ok, Err}
use Rattle.std.specs.Prelude.{Result as Either}
use Rattle.im_store.specs.declared.number.Number.{Number}
use Rattle.im_typed.specs.Runs.{State, Fails, Answer, Gives, Stops}
use Rattle.im_eval_steps.specs.declared.unseen.Unseen.{Unseen}
use Rattle.im_eval_steps.specs.declared.unseen.Unseen.TheVariants.{Undefined, Elsewhere}

-- a look that was given up says nothing
abbrev pub Sees : {R A : Type 0} → (R → A) → Either R Unseen → State → Answer A → Type 0
Sees show (Ok v) s r = r ≡ Gives (show v) s
Sees show (Err (Undefined why)) s r = r ≡ Stops (Fails why)
Sees show (Err Elsewhere) s r = Unit {0}

abbrev pub whole_of : Number → ℤ
whole_of n = n.value
