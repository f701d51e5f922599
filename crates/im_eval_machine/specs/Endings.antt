-- How an end of a run is told.
use Rattle.std.specs.Prelude.{◌≡◌, ℕ, map, List, Some, slice_get}
use Rattle.im_num.specs.declared.values.Var.{Var}
use Rattle.im_num.specs.Variables.{variable_of}
use Rattle.im_store.specs.Outcomes.{Undef, More, End}
use Rattle.im_store.specs.Outcomes.{Outcome as Meant}
use Rattle.im_store.specs.Objects.{Store, shape_of, static}
use Rattle.im_store.specs.Statics.{StaticObject}
use Rattle.im_typed.specs.Runs.{Answer, Gives, Stops, Fails, Starves, Exhausts}
use Rattle.im_eval_machine.specs.declared.outcome.Outcome.{Outcome}
use Rattle.im_eval_machine.specs.declared.outcome.Outcome.TheVariants as out
use Rattle.im_eval_machine.specs.declared.outcome.Reason.{Reason}
use Rattle.im_eval_machine.specs.declared.outcome.Reason.TheVariants as reason

abbrev pub reason_number : Reason → ℕ
reason_number reason.Returned = 0
reason_number reason.StackExhausted = 1

-- the outcome that a value of code stands for
abbrev pub told : Outcome → Meant
told (out.Undefined why) = Undef why
told (out.More output) = More output.items
told (out.End why status output variables) =
    End (reason_number why) status output.items (map {A = Var} variable_of variables.items)

-- the statics of a program live in a store
abbrev pub AreLive : List StaticObject → Store → Type 0
AreLive statics store =
    (n : ℕ) (s : StaticObject) → slice_get statics n ≡ Some s → store.shape (static n) ≡ Some (shape_of s.size s.cells)

-- and where a run ended
abbrev pub EndLive : {A : Type 0} → List StaticObject → Answer A → Type 0
EndLive statics (Gives a s) = AreLive statics s.world.store
EndLive statics (Stops (Fails why)) = Unit {0}
EndLive statics (Stops (Starves output)) = Unit {0}
EndLive statics (Stops (Exhausts output store)) = AreLive statics store
