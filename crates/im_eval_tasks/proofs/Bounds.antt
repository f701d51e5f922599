-- Calls and loops that have at least as many turns as there is fuel have enough.
use Rattle.std.proofs.Common.{◌≡◌, ◌∙◌, refl, ap, sym, ℕ, zero, suc, ◌+◌, ◌≤◌, List, arith}
use Rattle.std.specs.Prelude.{Option, Some, None}
use denote.Bor.{Bor}
use Rattle.im_ctype.specs.Table.{Table}
use Rattle.im_store.specs.Objects.{Value}
use Rattle.im_store.specs.Pointers.{holds}
use Rattle.im_typed.specs.declared.expression.Expr.{Expr}
use Rattle.im_typed.specs.Program as p
use Rattle.im_typed.specs.Runs.{State, Fails, Starves, Exhausts, Answer, Gives, Stops, Run, ◌>>=◌, give, either, with_fuel}
use Rattle.im_typed.specs.Values.{Values, computes, used}
use Rattle.im_typed.specs.Meaning.{Around, Flow, Next, after_turn, turns, decides, value_of, does}
use Rattle.im_typed.specs.Programs.{Setting, called, calls_of}
use Rattle.im_typed.proofs.Related.{more, Linked, Related, rel-bind, rel-give, rel-down, rel-paid-suc, rel-paid-zero, tame-starve}
use Rattle.im_typed.proofs.Parts.{rel-computes, rel-decides, rel-after_turn}
use Rattle.im_typed.proofs.Induction.{RelatedCalls, rel-value, rel-does, rel-turns}
use Rattle.im_typed.proofs.Whole.{rel-calls}
use Rattle.im_eval_machine.specs.declared.here.Here.{Here}
use Rattle.im_eval_tasks.specs.declared.tasks.Loop.{Loop}
use Rattle.im_eval_tasks.specs.declared.tasks.Use.TheVariants.{Turn}
use Rattle.im_eval_tasks.specs.Stack.{in_activation}
use Rattle.im_eval_tasks.specs.Tasks.{expr_in, boxed_in, enters_body, loops, steps, uses}
use Rattle.im_eval_tasks.proofs.Binds.{assoc}

linked-same : {A : Type 0} (r r' : Answer A) → Linked 0 r r' → r' ≡ r
linked-same (Gives a t) r' h =
    let e : t.fuel + 0 ≡ t.fuel = omega arith in
    h ∙ ap (λ n. let s : State = record { world = t.world; fuel = n } in Gives a s) e
linked-same (Stops (Fails why)) r' h = h
linked-same (Stops (Exhausts o store)) r' h = h
linked-same (Stops (Starves o)) r' h = h.1 refl

-- two related runs give the same where there is no more fuel than their bound
pub same_at : {A : Type 0} {b : ℕ} {m m' : Run A} → Related 0 b m m' → (s : State) → s.fuel ≤ b → m' s ≡ m s
same_at {A} {b} {m} {m'} r s le =
    let z : s.fuel + 0 ≡ s.fuel = omega arith in
    ap (λ n. let t : State = record { world = s.world; fuel = n } in m' t) (sym z) ∙ linked-same (m s) (m' (more 0 s)) (r.by s le)

-- a loop's turns, with as many behind the first as there may be in all
abbrev again : ℕ → Run Values → Run Flow → Run Values → Run Flow
again n test body step = body >>= (λ f. after_turn f (step >>= (λ _. turns n test body step)))

turn_enough : (n : ℕ) (test step : Run Values) (body : Run Flow) → Related 0 n test test → Related 0 n body body → Related 0 n step step
    → Related 0 n (turns n test body step) (decides test (with_fuel (again n test body step)) (give Next))
turn_enough zero test step body t g h =
    let r = rel-bind g (λ f. rel-after_turn f (rel-bind h (λ _. rel-turns 0 0 0 (omega arith) (omega arith) t g h))) in
    rel-decides t (rel-paid-zero (tame-starve Flow) r.tame) (rel-give Next)
turn_enough (suc n) test step body t g h =
    let l : n ≤ n = omega arith in
    let l' : n + 0 ≤ suc n = omega arith in
    rel-decides t
    (rel-paid-suc (rel-bind (rel-down g) (λ f. rel-after_turn f (rel-bind (rel-down h) (λ _. rel-turns n n (suc n) l l' (rel-down t) (rel-down g) (rel-down h))))))
    (rel-give Next)

module _ (types : Table) (g : Setting) (n : ℕ) (h : Here) where
  abbrev c : Around
  c = in_activation types g n h

  same_calls : RelatedCalls 0 n (calls_of g n) (calls_of g n)
  same_calls = rel-calls g 0 n n n (omega arith) (omega arith)

  same_value : (e : p.Expr) → Related 0 n (value_of c e) (value_of c e)
  same_value e = rel-value 0 n h.activation h.depth h.first g.capacity (calls_of g n) (calls_of g n) computes computes same_calls (rel-computes 0 n) e

  same_does : (s : p.Stmt) → Related 0 n (does c n s) (does c n s)
  same_does s = rel-does 0 n h.activation h.depth h.first g.capacity (calls_of g n) (calls_of g n) computes computes same_calls (rel-computes 0 n) n n (omega arith) (omega arith) s

  same_steps : (step : Option (Bor Expr)) → Related 0 n (steps types c n step) (steps types c n step)
  same_steps None = rel-give _
  same_steps (Some e) = same_value (expr_in types e)

  -- a loop goes on with its test
  pub turn_begins : (l : Loop) (s : State) → s.fuel ≤ n → loops types c n l s ≡ (value_of c (expr_in types l.test) >>= uses types c n (Turn l)) s
  turn_begins l s le =
      sym (same_at (turn_enough n (value_of c (expr_in types l.test)) (steps types c n l.step) (does c n (boxed_in types l.body)) (same_value (expr_in types l.test)) (same_does (boxed_in types l.body)) (same_steps l.step)) s le)
      ∙ assoc (value_of c (expr_in types l.test) s) used (λ v. either (holds v) (enters_body types c n l) (give Next))

-- a call takes a unit of fuel, and then calls as deep as before are enough
pub call_enters : (g : Setting) (n k : ℕ) (args : List Value) (s : State) → s.fuel ≤ n → calls_of g n k args s ≡ with_fuel (called g (calls_of g n) n k args) s
call_enters g n k args s le =
    let l : n + 0 ≤ suc n = omega arith in
    let r = rel-calls g 0 n n (suc n) (omega arith) l in
    sym (same_at (r.by k args) s le)
