-- What is told of an end is what the meaning shows of it.
use Rattle.std.proofs.Common.{◌≡◌, ℕ, ℤ, pos, List, sym, ap, ◌∙◌, subst}
use Rattle.std.specs.Prelude.{Result, Ok, Err, IfOk}
use Rattle.im_num.specs.Variables.{Variable}
use Rattle.im_num.specs.declared.fault.NoMemory.{NoMemory}
use Rattle.im_store.specs.Objects.{Store}
use Rattle.im_store.specs.Outcomes.{End, variables}
use Rattle.im_store.specs.Outcomes.{Outcome as Meant}
use Rattle.im_store.specs.Statics.{StaticObject}
use Rattle.im_typed.specs.Programs.{status_of, outcome_of}
use Rattle.im_typed.specs.ProgramOf.{program_of}
use Rattle.im_typed.specs.Runs.{State, Answer, Gives, Stops, Exhausts}
use Rattle.im_typed.specs.Values.{Values}
use Rattle.im_eval_store.specs.Living.{Holds}
use Rattle.im_eval_machine.specs.declared.code.Code.{Code}
use Rattle.im_eval_machine.specs.declared.machine.Machine.{Machine}
use Rattle.im_eval_machine.specs.declared.found.Found.{Found}
use Rattle.im_eval_machine.specs.declared.outcome.Outcome.{Outcome}
use Rattle.im_eval_machine.specs.declared.stopped.Stopped.{Stopped}
use Rattle.im_eval_machine.specs.declared.stopped.Stopped.TheVariants.{StackExhausted}
use Rattle.im_eval_machine.specs.Endings.{AreLive, EndLive, told}
use Rattle.im_eval_machine.specs.Settings.{setting_of}
use Rattle.im_eval_machine.specs.Shown.{Ends, Halts, IsIn, values}
use Rattle.im_eval.proofs.Showing.{small-shown}

abbrev pub statics_in : Code → List StaticObject
statics_in code = (program_of code.prog.now).statics

-- what an outcome tells of an end, for a reason and with a status
abbrev pub Tells : Code → Machine → ℕ → ℤ → Outcome → Type 0
Tells code m reason status outcome =
    (last : ℕ) (store : Store) → Holds m.memory last store → AreLive (statics_in code) store
    → told outcome ≡ End reason status m.output.items (variables (statics_in code) store)

pub ended : (code : Code) (m : Machine) (status : ℤ) (vs : Values) (outcome : Outcome) → status ≡ status_of vs → Tells code m 0 status outcome → (answer : Answer Values) → (s : State) × IsIn m s × (answer ≡ Gives vs s)
    → EndLive (statics_in code) answer → outcome_of (setting_of code) answer ≡ told outcome
ended code m status vs outcome st tells answer e live =
    let s = e.0 in
    let ss = statics_in code in
    let store = s.world.store in
    let living : AreLive ss store = subst (λ (r : Answer Values). EndLive ss r) e.2 live in
    let o : ℤ → List ℕ → List Variable → Meant = λ z bytes vars. End 0 z bytes vars in
    ap (outcome_of (setting_of code)) e.2
    ∙ ap (λ vars. o (status_of vs) s.world.output vars) (small-shown 0 ss store)
    ∙ ap (λ bytes. o (status_of vs) bytes (variables ss store)) e.1.output
    ∙ ap (λ z. o z m.output.items (variables ss store)) (sym st)
    ∙ sym (tells m.activations store e.1.held living)

pub exhausted : (code : Code) (m : Machine) (outcome : Outcome) → Tells code m 1 (pos 0) outcome → (answer : Answer Values) → (store : Store) × (answer ≡ Stops (Exhausts m.output.items store)) × Holds m.memory m.activations store
    → EndLive (statics_in code) answer → outcome_of (setting_of code) answer ≡ told outcome
exhausted code m outcome tells answer e live =
    let store = e.0 in
    let ss = statics_in code in
    let living : AreLive ss store = subst (λ (r : Answer Values). EndLive ss r) e.1 live in
    ap (outcome_of (setting_of code)) e.1
    ∙ ap (λ (vars : List Variable). End 1 (pos 0) m.output.items vars) (small-shown 0 ss store)
    ∙ sym (tells m.activations store e.2 living)

if-ok : {A E : Type 0} (r : Result A E) (P Q : A → Type 0) → ((a : A) → P a → Q a) → IfOk r P → IfOk r Q
if-ok (Ok a) P Q f h = f a h
if-ok (Err e) P Q f h = h

-- an outcome is the meaning's, at each answer of which this holds
abbrev pub Agrees : Code → (Answer Values → Type 0) → Outcome → Type 0
Agrees code Is outcome =
    (answer : Answer Values) → Is answer → EndLive (statics_in code) answer → outcome_of (setting_of code) answer ≡ told outcome

pub exhausted-is : (code : Code) (m : Machine) (why : Stopped) → why ≡ StackExhausted → (r : Result Outcome NoMemory) → IfOk r (Tells code m 1 (pos 0)) → IfOk r (Agrees code (λ answer. Halts why m answer))
exhausted-is code m why is r h =
    if-ok r (Tells code m 1 (pos 0)) (Agrees code (λ answer. Halts why m answer))
    (λ outcome tells answer halts live. exhausted code m outcome tells answer (subst (λ (w : Stopped). Halts w m answer) is halts) live) h

pub ended-is : (code : Code) (m : Machine) (end : Result Found Stopped) (found : Found) (status : ℤ) → end ≡ Ok found → status ≡ status_of (values found) → (r : Result Outcome NoMemory) → IfOk r (Tells code m 0 status)
    → IfOk r (Agrees code (λ answer. Ends values end m answer))
ended-is code m end found status is st r h =
    if-ok r (Tells code m 0 status) (Agrees code (λ answer. Ends values end m answer))
    (λ outcome tells answer ends live. ended code m status (values found) outcome st tells answer (subst (λ (e : Result Found Stopped). Ends values e m answer) is ends) live) h
