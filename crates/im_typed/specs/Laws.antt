-- What is said of a meaning at more fuel, and of what an end shows.
use Rattle.std.specs.Prelude.{◌≡◌, ℕ, ◌<◌, ◌≤◌, Bool, List, ◌++◌, map, length}
use Rattle.im_num.specs.Variables.{Variable}
use Rattle.im_typed.specs.Program.{Expr, Stmt, Func}
use Rattle.im_typed.specs.Meaning.{Around, value_of, does}
use Rattle.im_typed.specs.Programs.{Setting, around, calls_of, meaning}
use Rattle.im_typed.specs.Typing.{Each, shape_of, IsTyped, IsTypedStmt, IsWellTyped}
use Rattle.im_typed.specs.Sound.{IsSoundWorld, IsHere, Fits, FlowFits, IsRight, EndsRight}
use Rattle.im_store.specs.Statics.{StaticObject}
use Rattle.im_store.specs.Outcomes.{Outcome, Undef, More, End}
use Rattle.im_typed.specs.Runs.{State, Answer, Gives, Stops}

-- the second list begins with the first
abbrev pub Begins : List ℕ → List ℕ → Type 0
Begins front whole = (rest : List ℕ) × (front ++ rest ≡ whole)

-- the output of an outcome, where it has one, begins with these bytes
abbrev pub GoesOnFrom : List ℕ → Outcome → Type 0
GoesOnFrom bytes (Undef why) = Unit {0}
GoesOnFrom bytes (More output) = Begins bytes output
GoesOnFrom bytes (End reason status output variables) = Begins bytes output

-- the second outcome is the first one where that is an end or undefined; where that wants fuel, it goes on from there
abbrev pub Extends : Outcome → Outcome → Type 0
Extends (Undef why) later = later ≡ Undef why
Extends (More output) later = GoesOnFrom output later
Extends (End reason status output variables) later = later ≡ End reason status output variables

-- no more fuel is left than there was
abbrev pub FuelAtMost : {A : Type 0} → ℕ → Answer A → Type 0
FuelAtMost fuel (Gives a s) = s.fuel ≤ fuel
FuelAtMost fuel (Stops why) = Unit {0}

-- an end shows these statics: their names, and a value for each of their cells
abbrev pub ShowsStatics : List StaticObject → Outcome → Type 0
ShowsStatics statics (Undef why) = Unit {0}
ShowsStatics statics (More output) = Unit {0}
ShowsStatics statics (End reason status output variables) =
    (map {A = Variable} (λ v. v.name) variables ≡ map {A = StaticObject} (λ s. s.name) statics)
    × (map {A = Variable} (λ v. length v.cells) variables ≡ map {A = StaticObject} (λ s. length s.cells) statics)

-- a well-typed expression of a well-typed program, in a sound world where its activation's objects live, gives values of its
-- shape, and keeps the world sound and those alive that live
abbrev pub ValuesLaw : Type 0
ValuesLaw =
    (g : Setting) (bound activation depth first : ℕ) (f : Func) (e : Expr) (s : State)
    → let c : Around = around g (calls_of g bound) activation depth first in
    IsWellTyped g.prog → IsTyped g.prog f e → IsSoundWorld g.prog.statics s.world → IsHere f c s.world
    → IsRight g.prog.statics s.world (Fits (shape_of g.prog e)) (value_of c e s)

-- a well-typed statement the same, and what it returns fits its function's result
abbrev pub StatementsLaw : Type 0
StatementsLaw =
    (g : Setting) (bound turns activation depth first : ℕ) (f : Func) (breaks continues : Bool) (statement : Stmt) (s : State)
    → let c : Around = around g (calls_of g bound) activation depth first in
    IsWellTyped g.prog → IsTypedStmt g.prog f breaks continues statement → IsSoundWorld g.prog.statics s.world
    → IsHere f c s.world → IsRight g.prog.statics s.world (FlowFits f.result) (does c turns statement s)

-- an end of a well-typed program has a status of 32 bits, and shows each static with a value of each cell's kind
abbrev pub EndLaw : Type 0
EndLaw =
    (g : Setting) (input : List ℕ) (fuel : ℕ) → IsWellTyped g.prog → Each (λ byte. byte < 256) input
    → EndsRight g.prog.statics (meaning g input fuel)
