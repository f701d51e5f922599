-- What is told of an end.
use Rattle.std.proofs.Common.{◌≡◌, ◌∙◌, ℕ, ℤ, ap, sym}
use Rattle.std.specs.Prelude.{Result, Ok, Err, Option, Some, None, IfOk, IfSome}
use Rattle.im_num.specs.declared.fault.NoMemory.{NoMemory}
use Rattle.im_block.specs.declared.unit.Unit.{Unit as Blocks}
use Rattle.im_block.specs.Meaning as m
use Rattle.im_eval_machine.specs.declared.outcome.Outcome.{Outcome}
use Rattle.im_eval_machine.specs.Endings.{told}
use Rattle.im_block_run.specs.Ends.{Tells}
use Rattle.im_block_run.specs.Shown.{EndsAt, IsState}
use Rattle.im_block_run.specs.declared.state.State.{State}

pub if-some : {A : Type 0} (r : Option A) (P Q : A → Type 0) → ((a : A) → P a → Q a) → IfSome r P → IfSome r Q
if-some None P Q f h = h
if-some (Some a) P Q f h = f a h

abbrev pub TellsEnd : Blocks → ℕ → ℤ → State → Outcome → Type 0
TellsEnd u reason status a outcome = (s : m.State) → IsState a s → told outcome ≡ m.ended u reason status s

abbrev pub TellsAll : (m.Next → Type 0) → Outcome → Type 0
TellsAll Halted outcome = (r : m.Next) → Halted r → Tells outcome r

pub ended : (u : Blocks) (reason : ℕ) (status : ℤ) (a : State) (r : Result (Option Outcome) NoMemory) → IfOk r (λ found. IfSome found (TellsEnd u reason status a)) → IfOk r (λ found. IfSome found (TellsAll (EndsAt u reason status a)))
ended u reason status a (Ok found) h =
    if-some found (TellsEnd u reason status a) (TellsAll (EndsAt u reason status a)) (λ outcome tells r e. (e.1, e.2 ∙ ap (λ o. m.Stops o e.1) (sym (tells e.0 e.3)))) h
ended u reason status a (Err why) h = h
