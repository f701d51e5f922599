-- A step and then the next; looks before steps; fuel.
use Rattle.std.proofs.Common.{◌≡◌, ◌∙◌, ℕ, zero, suc, refl, sym, ap, subst, arith, Ok, Err}
use Rattle.std.specs.Prelude.{Result as Either}
use Rattle.im_typed.specs.Runs.{State, Answer, Run, ◌>>=◌, goes_on, give, pay, with_fuel}
use Rattle.im_eval_machine.specs.Shown.{Halts, Ends, IsStep, Finds, IsLook, nothing}
use Rattle.im_eval_machine.specs.declared.machine.Machine.{Machine}
use Rattle.im_eval_machine.specs.declared.stopped.Stopped.{Stopped}
use Rattle.im_eval_machine.specs.declared.stopped.Stopped.TheVariants.{Undefined, MoreFuel, StackExhausted, OutOfMemory}

-- a run that stopped stops what follows
pub halts-on : {A B : Type 0} (why : Stopped) (m : Machine) (r : Answer A) (next : A → Run B) → Halts why m r → Halts why m (goes_on r next)
halts-on (Undefined why) m r next h = ap (λ x. goes_on x next) h
halts-on MoreFuel m r next h = ap (λ x. goes_on x next) h
halts-on StackExhausted m r next h = (h.0, ap (λ x. goes_on x next) h.1, h.2)
halts-on OutOfMemory m r next h = tt

-- what a run ends with is what an equal one ends with
pub ends-as : {R A : Type 0} (show : R → A) (result : Either R Stopped) (m : Machine) (a b : Answer A) → a ≡ b → Ends show result m a → Ends show result m b
ends-as show result m a b e h = subst (Ends show result m) e h

-- a step, and then the next
pub then-step : {R Q A B : Type 0} (f : R → A) (g : Q → B) (v : R) (result : Either Q Stopped) (old mid new : Machine) (run : Run A) (next : A → Run B)
    → IsStep f (Ok v) old mid run → IsStep g result mid new (next (f v)) → IsStep g result old new (run >>= next)
then-step f g v result old mid new run next first second = record {
  fuel = let a = first.fuel in let b = second.fuel in omega arith;
  ends = λ s h.
      let e = first.ends s h in
      ends-as g result new (next (f v) e.0) (goes_on (run s) next) (sym (ap (λ x. goes_on x next) e.2)) (second.ends e.0 e.1);
}

-- a step that stopped
pub stop-step : {R Q A B : Type 0} (f : R → A) (g : Q → B) (why : Stopped) (old new : Machine) (run : Run A) (next : A → Run B)
    → IsStep f (Err why) old new run → IsStep g (Err why) old new (run >>= next)
stop-step f g why old new run next first = record {
  fuel = first.fuel;
  ends = λ s h. halts-on why new (run s) next (first.ends s h);
}

-- a look, and then a step
pub then-look : {R Q A B : Type 0} (f : R → A) (g : Q → B) (v : R) (result : Either Q Stopped) (old new : Machine) (run : Run A) (next : A → Run B)
    → IsLook f (Ok v) old run → IsStep g result old new (next (f v)) → IsStep g result old new (run >>= next)
then-look f g v result old new run next first second = record {
  fuel = second.fuel;
  ends = λ s h. ends-as g result new (next (f v) s) (goes_on (run s) next) (sym (ap (λ x. goes_on x next) (first s h))) (second.ends s h);
}

-- a look that found a cause to stop
pub finds-halts : {R A : Type 0} (f : R → A) (why : Stopped) (m : Machine) (s : State) (r : Answer A) → Finds f (Err why) s r → Halts why m r
finds-halts f (Undefined why) m s r h = h
finds-halts f MoreFuel m s r h = absurd h
finds-halts f StackExhausted m s r h = absurd h
finds-halts f OutOfMemory m s r h = tt

pub stop-look : {R Q A B : Type 0} (f : R → A) (g : Q → B) (why : Stopped) (old : Machine) (run : Run A) (next : A → Run B)
    → IsLook f (Err why) old run → IsStep g (Err why) old old (run >>= next)
stop-look f g why old run next first = record {
  fuel = omega arith;
  ends = λ s h. halts-on why old (run s) next (finds-halts f why old s (run s) (first s h));
}

-- a unit of fuel is taken, and then the rest runs
pub charged : {A : Type 0} (next : Run A) (s : State) → with_fuel next s ≡ goes_on (with_fuel (give (tt {0})) s) (λ _. next)
charged next s = paid s.fuel
  where
    paid : (n : ℕ) → pay n s.world next ≡ goes_on (pay n s.world (give (tt {0}))) (λ _. next)
    paid zero = refl
    paid (suc n) = refl

as-charged : {R A : Type 0} (show : R → A) (result : Either R Stopped) (old new : Machine) (next : Run A)
    → IsStep show result old new (with_fuel (give (tt {0})) >>= (λ _. next)) → IsStep show result old new (with_fuel next)
as-charged show result old new next step = record {
  fuel = step.fuel;
  ends = λ s h. ends-as show result new (goes_on (with_fuel (give (tt {0})) s) (λ _. next)) (with_fuel next s) (sym (charged next s)) (step.ends s h);
}

pub then-charged : {R A : Type 0} (show : R → A) (result : Either R Stopped) (old mid new : Machine) (next : Run A)
    → IsStep (nothing {R = Unit {0}}) (Ok tt) old mid (with_fuel (give (tt {0}))) → IsStep show result mid new next → IsStep show result old new (with_fuel next)
then-charged show result old mid new next first second =
    as-charged show result old new next (then-step (nothing {R = Unit {0}}) show tt result old mid new (with_fuel (give (tt {0}))) (λ _. next) first second)

pub stop-charged : {R A : Type 0} (show : R → A) (why : Stopped) (old new : Machine) (next : Run A)
    → IsStep (nothing {R = Unit {0}}) (Err why) old new (with_fuel (give (tt {0}))) → IsStep show (Err why) old new (with_fuel next)
stop-charged show why old new next first =
    as-charged show (Err why) old new next (stop-step (nothing {R = Unit {0}}) show why old new (with_fuel (give (tt {0}))) (λ _. next) first)

pub paid : {U : Type 0} (done : U) (old : Machine) (fuel : ℕ) → old.fuel ≡ suc fuel → IsStep (nothing {R = U}) (Ok done) old (record old { fuel = fuel }) (with_fuel (give (tt {0})))
paid done old fuel e = record {
  fuel = omega (arith, e);
  ends = λ s h. (
    record { world = s.world; fuel = fuel },
    record { held = h.held; activations = h.activations; depth = h.depth; input = h.input; output = h.output; fuel = refl },
    ap (λ n. pay n s.world (give (tt {0}))) (h.fuel ∙ e),
  );
}
