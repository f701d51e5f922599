-- A place that changes, and what is given then: the old value or the new one.
use Rattle.std.proofs.Common.{◌≡◌, ◌∙◌, refl, ap, sym, ℤ, pos, Bool, [], ◌∷◌, Ok, Err, true, false, arith}
use Rattle.std.specs.Prelude.{if◌then◌else◌}
use Rattle.std.specs.Prelude.{Result as Either}
use Rattle.im_store.specs.Access.{at_place, write_cells}
use Rattle.im_store.specs.declared.undefined.Undefined as causes
use Rattle.im_num.specs.declared.kind.Kind.{Kind}
use Rattle.im_num.specs.Kinds.{wrap}
use Rattle.im_store.specs.declared.operators.BinaryOp.{BinaryOp}
use Rattle.im_store.specs.Numbers.{apply}
use Rattle.im_store.specs.Checks.{Checked, Fine, Bad, then_}
use Rattle.im_store.specs.Objects.{Value, Number, Store}
use Rattle.im_typed.specs.declared.expression.Change.{Change}
use Rattle.im_typed.specs.declared.expression.Change.TheVariants.{Number as NumberBy, Move as PointerBy}
use Rattle.im_typed.specs.Program.{Access, Scalar}
use Rattle.im_typed.specs.Runs.{State, Run, goes_on, ◌>>=◌, give, checked, in_store, leave_store}
use Rattle.im_typed.specs.Values.{Values, computes, scalar, number_of, changed, changed_kind, cells_of, read_at, update, value_in, write_at}
use Rattle.im_eval_store.specs.Shown.{shown}
use Rattle.im_eval_store.specs.declared.value.Value.{Value as Held}
use Rattle.im_eval_machine.specs.Steps.{altered, changes}
use Rattle.im_eval_machine.specs.Shown.{IsLook, IsStep, one}
use Rattle.im_eval_machine.specs.declared.machine.Machine.{Machine}
use Rattle.im_eval_machine.specs.declared.stopped.Stopped.{Stopped}
use Rattle.im_eval_machine.specs.declared.stopped.Stopped.TheVariants.{Undefined}
use Rattle.im_eval_machine.proofs.Steps.{then-look, then-step, stop-look, stop-step}
use Rattle.im_eval_tasks.proofs.Binds.{alike, assoc}
use Rattle.im_eval_steps.specs.Going.{changes_to}
use Rattle.im_eval_steps.proofs.Going.{same-step}

stored : (r : Checked Store) (w : Value) (s : State)
    → goes_on (goes_on (checked r s) (λ after. leave_store after >>= (λ _. give (w ∷ [])))) (λ _. scalar w)
    ≡ goes_on (checked r s) (λ after. leave_store after >>= (λ _. give (w ∷ [])))
stored (Fine after) w s = refl
stored (Bad why) w s = refl

-- what is stored is given
gives-stored : (x : Access) (at w : Value) (s : State) → goes_on (write_at x at (w ∷ []) s) (λ _. scalar w) ≡ write_at x at (w ∷ []) s
gives-stored x at w s = stored (at_place at (λ o offset. write_cells s.world.store o offset (cells_of x) (w ∷ []))) w s

-- a change is worked out in one step, since an operator gives its result at once

converted : (kind : Kind) (r : Checked ℤ) (s : State) → goes_on (checked r s) (λ z. give (Number (wrap kind z))) ≡ checked (then_ r (λ z. Fine (Number (wrap kind z)))) s
converted kind (Fine z) s = refl
converted kind (Bad why) s = refl

number-altered : (kind : Kind) (op : BinaryOp) (at_kind : Kind) (z : ℤ) (r : Checked ℤ) (s : State)
    → goes_on (checked r s) (λ a. computes op at_kind (wrap at_kind a) z >>= (λ y. give (Number (wrap kind y))))
    ≡ checked (then_ r (λ a. then_ (apply op at_kind (wrap at_kind a) z) (λ y. Fine (Number (wrap kind y))))) s
number-altered kind op at_kind z (Fine a) s = converted kind (apply op at_kind (wrap at_kind a) z) s
number-altered kind op at_kind z (Bad why) s = refl

at-once : (by : Change) (before : Value) (z : ℤ) (s : State) → changed computes by before z s ≡ in_store (altered by before z) s
at-once (NumberBy kind op at_kind) before z s = number-altered kind op at_kind z (number_of before) s
at-once (PointerBy size back) before z s = refl

module _ (by : Change) (before at : Value) (z : ℤ) where
  -- the new value is given
  new-given : (s : State)
      → goes_on (changed computes by before z s) (λ w. write_at (Scalar (changed_kind by)) at (w ∷ []) >>= (λ _. scalar w)) ≡ changes by before z at s
  new-given s =
      ap (λ r. goes_on r (λ w. write_at (Scalar (changed_kind by)) at (w ∷ []) >>= (λ _. scalar w))) (at-once by before z s)
      ∙ alike (in_store (altered by before z) s) _ _ (λ w t. gives-stored (Scalar (changed_kind by)) at w t)

  -- or what was there
  old-given : (s : State)
      → goes_on (changed computes by before z s) (λ w. write_at (Scalar (changed_kind by)) at (w ∷ []) >>= (λ _. scalar before)) ≡ goes_on (changes by before z at s) (λ _. scalar before)
  old-given s =
      ap (λ r. goes_on r (λ w. write_at (Scalar (changed_kind by)) at (w ∷ []) >>= (λ _. scalar before))) (at-once by before z s)
      ∙ sym (assoc (in_store (altered by before z) s) (λ w. write_at (Scalar (changed_kind by)) at (w ∷ [])) (λ _. scalar before))

module _ (by : Change) (before at v : Value) (old new : Machine) where
  pub no-number : (why : causes.Undefined) → number_of v ≡ Bad why → IsStep {R = Held} one (Err (Undefined why)) old old (changes_to by before at v)
  no-number why e = record {
    fuel = omega arith;
    ends = λ s i.
        ap (λ r. goes_on (checked r s) (λ z. changed computes by before z >>= (λ w. write_at (Scalar (changed_kind by)) at (w ∷ []) >>= (λ _. scalar w)))) e;
  }

  pub changed-to : (z : ℤ) (result : Either Held Stopped) → number_of v ≡ Fine z → IsStep one result old new (changes by before z at) → IsStep one result old new (changes_to by before at v)
  changed-to z result e step =
      same-step one old new (changes by before z at) (changes_to by before at v) result
      (λ s. sym (ap (λ r. goes_on (checked r s) (λ y. changed computes by before y >>= (λ w. write_at (Scalar (changed_kind by)) at (w ∷ []) >>= (λ _. scalar w)))) e
      ∙ new-given by before at z s)) step

module _ (by : Change) (at : Value) where
  abbrev reads : Run Value
  reads = value_in (read_at (Scalar (changed_kind by)) at)

  -- what follows the old value
  abbrev follows_old : Bool → Value → Run Values
  follows_old post b =
      give (pos 1) >>= (λ z. changed computes by b z >>= (λ w. write_at (Scalar (changed_kind by)) at (w ∷ []) >>= (λ _. scalar (if post then b else w))))

  pub unread : (m : Machine) (post : Bool) (why : Stopped) → IsLook {R = Held} shown (Err why) m reads → IsStep {R = Held} one (Err why) m m (update computes by post (give (pos 1)) at)
  unread m post why look = stop-look shown one why m reads (follows_old post) look

module _ (by : Change) (at : Value) (old new : Machine) (before : Held) (look : IsLook shown (Ok before) old (reads by at)) where
  pub stepped-new : (result : Either Held Stopped) → IsStep one result old new (changes by (shown before) (pos 1) at) → IsStep one result old new (update computes by false (give (pos 1)) at)
  stepped-new result step =
      then-look shown one before result old new (reads by at) (follows_old by at false) look
      (same-step one old new (changes by (shown before) (pos 1) at) (follows_old by at false (shown before)) result (λ s. sym (new-given by (shown before) at (pos 1) s)) step)

  pub stepped-old : (after : Held) → IsStep one (Ok after) old new (changes by (shown before) (pos 1) at) → IsStep one (Ok before) old new (update computes by true (give (pos 1)) at)
  stepped-old after step =
      then-look shown one before (Ok before) old new (reads by at) (follows_old by at true) look
      (same-step one old new (changes by (shown before) (pos 1) at >>= (λ _. scalar (shown before))) (follows_old by at true (shown before)) (Ok before) (λ s. sym (old-given by (shown before) at (pos 1) s))
      (then-step one one after (Ok before) old new new (changes by (shown before) (pos 1) at) (λ _. scalar (shown before)) step
      (record { fuel = omega arith; ends = λ s i. (s, i, refl) })))

  pub unstepped : (post : Bool) (why : Stopped) → IsStep {R = Held} one (Err why) old new (changes by (shown before) (pos 1) at) → IsStep {R = Held} one (Err why) old new (update computes by post (give (pos 1)) at)
  unstepped false why step = stepped-new (Err why) step
  unstepped true why step =
      then-look shown one before (Err why) old new (reads by at) (follows_old by at true) look
      (same-step one old new (changes by (shown before) (pos 1) at >>= (λ _. scalar (shown before))) (follows_old by at true (shown before)) (Err why) (λ s. sym (old-given by (shown before) at (pos 1) s))
      (stop-step one one why old new (changes by (shown before) (pos 1) at) (λ _. scalar (shown before)) step))
