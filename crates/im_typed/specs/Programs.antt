-- What a program does on an input: its statics, calls, and what main returns (C11 5.1.2.2.3, 6.2.4, 6.5.2.2, 6.9.1).
use Rattle.std.specs.Prelude.{ℕ, zero, suc, ◌+◌, ◌-◌, ◌==◌, length, take, sum_by, Bool, true, false, List, [], ◌∷◌, ℤ, pos, Option, Some, None, nat_le, slice_get, slice_index_or, if◌then◌else◌}
use Rattle.im_store.specs.declared.undefined.Undefined.TheVariants.{MissingResult}
use Rattle.im_store.specs.Objects.{Name, Named, Slot, Link, Object, Value, Number, Null, Pointer, Unset, Shape, shape_of, Store, begins, ends}
use Rattle.im_store.specs.Statics.{with_statics}
use Rattle.im_store.specs.Access.{with_value}
use Rattle.im_store.specs.Outcomes.{Outcome, Undef, More, End, variables}
use Rattle.im_typed.specs.Program.{LocalObject, Func, Prog}
use Rattle.im_typed.specs.Runs.{World, State, Fails, Starves, Exhausts, Answer, Gives, Stops, Run, ◌>>=◌, give, undefined, starve, exhaust, look, change, with_fuel, either}
use Rattle.im_typed.specs.Values.{Values, computes}
use Rattle.im_typed.specs.Meaning.{Around, Calls, Flow, Returned, does}

-- a program, the size of each function's frame in bytes, the size of the stack in bytes, and the capacity of the output in bytes
pub record Setting : Type 0 where
  pub prog : Prog
  pub frames : List ℕ
  pub stack : ℕ
  pub capacity : ℕ

-- an object's name is the number of its declaration in the program: the statics, then the objects of each function
abbrev pub first_object : Prog → ℕ → ℕ
first_object g k = length g.statics + sum_by (λ (f : Func). length f.objects) (take k g.funcs)

abbrev pub shape_in : Option LocalObject → Option Shape
shape_in None = None
shape_in (Some o) = Some (shape_of o.size o.cells)

-- the objects of a function by their names, from its first one's number on
abbrev pub shapes_of : ℕ → List LocalObject → Name → Option Shape
shapes_of first objects (Named number) =
    if nat_le first number then shape_in (slice_get objects (number - first)) else None
shapes_of first objects (Slot number) = None
shapes_of first objects Link = None

-- the parameters, from the object of a number on, hold the arguments
abbrev pub with_arguments : ℕ → ℕ → ℕ → List Value → (Object → ℕ → Value) → Object → ℕ → Value
with_arguments activation depth n [] values = values
with_arguments activation depth n (v ∷ vs) values =
    let parameter : Object = record { activation = activation; depth = depth; name = Named n } in
    with_value (with_arguments activation depth (suc n) vs values) parameter 0 v

-- the objects of an activation come into being
abbrev pub with_objects : ℕ → ℕ → ℕ → Func → List Value → Store → Store
with_objects activation depth first f args store =
    let fresh = begins store activation depth (shapes_of first f.objects) in
    record fresh { values = with_arguments activation depth first args fresh.values }

-- an activation is entered and left: its objects come into being and die, and its frame is given back
abbrev pub entering : ℕ → ℕ → ℕ → Func → List Value → World → World
entering activation depth first f args w =
    record w { store = with_objects activation depth first f args w.store; activations = activation; depth = depth }

abbrev pub leaving : ℕ → ℕ → World → World
leaving activation depth w = record w { store = ends w.store activation; depth = depth }

-- what a call gives: the returned value; at the brace 0 from main, and nothing from another function
abbrev pub call_result : Bool → Flow → Values
call_result is_main (Returned vs) = vs
call_result true _ = Number (pos 0) ∷ []
call_result false _ = []

-- main of a well-typed program gives a number
abbrev pub status_of : Values → ℤ
status_of [] = pos 0
status_of (Number z ∷ vs) = z
status_of (Null ∷ vs) = pos 0
status_of (Pointer o i ∷ vs) = pos 0
status_of (Unset ∷ vs) = pos 0

module _ (g : Setting) where
  abbrev pub frame_of : ℕ → ℕ
  frame_of k = slice_index_or g.frames k 0

  abbrev pub around : Calls → ℕ → ℕ → ℕ → Around
  around calls activation depth first =
      record { activation = activation; depth = depth; first = first; capacity = g.capacity; calls = calls; operates = computes }

  -- the body of the k-th function, in which each loop has at most n turns
  abbrev pub body_of : Calls → ℕ → ℕ → Func → List Value → World → Run Values
  body_of calls n k f args w = do
    _ ← change (entering (suc w.activations) (w.depth + frame_of k) (first_object g.prog k) f args)
    flow ← does (around calls (suc w.activations) (w.depth + frame_of k) (first_object g.prog k)) n f.body
    _ ← change (leaving (suc w.activations) w.depth)
    give (call_result (k == g.prog.main) flow)

  -- the k-th function is entered, where its frame has room; a well-typed program calls functions alone that are there
  abbrev pub enters : Calls → ℕ → ℕ → Option Func → List Value → Run Values
  enters calls n k None args = undefined MissingResult
  enters calls n k (Some f) args = do
    w ← look
    either (nat_le (w.depth + frame_of k) g.stack) (body_of calls n k f args w) exhaust

  abbrev pub called : Calls → ℕ → ℕ → List Value → Run Values
  called calls n k args = enters calls n k (slice_get g.prog.funcs k) args

  -- calls at most n deep, in which loops have at most n turns: a unit of fuel, then the frame
  abbrev pub calls_of : ℕ → Calls
  calls_of zero k args = with_fuel starve
  calls_of (suc n) k args = with_fuel (called (calls_of n) n k args)

  abbrev pub start : List ℕ → ℕ → State
  start input fuel =
      record { world = record { store = with_statics g.prog.statics; activations = 0; depth = 0; input = input; output = [] }; fuel = fuel }

  -- the run of main, which takes no fuel; calls and loops are bounded by a number that is at least the fuel
  abbrev pub run_of_main : ℕ → List ℕ → ℕ → Answer Values
  run_of_main bound input fuel = called (calls_of bound) bound g.prog.main [] (start input fuel)

  abbrev pub outcome_of : Answer Values → Outcome
  outcome_of (Gives vs s) = End 0 (status_of vs) s.world.output (variables g.prog.statics s.world.store)
  outcome_of (Stops (Fails why)) = Undef why
  outcome_of (Stops (Starves output)) = More output
  outcome_of (Stops (Exhausts output store)) = End 1 (pos 0) output (variables g.prog.statics store)

  unfoldable pub meaning : List ℕ → ℕ → Outcome
  meaning input fuel = outcome_of (run_of_main fuel input fuel)
