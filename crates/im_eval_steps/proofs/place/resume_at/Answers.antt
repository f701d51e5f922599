use Rattle.std.proofs.Common.{ap, refl, sym}
use Rattle.std.proofs.lemmas.Result.{err_from_is_err_and}
use Rattle.im_store.specs.Objects as o
use Rattle.im_typed.specs.Program.{Scalar}
use Rattle.im_typed.specs.ProgramOf.{access_of}
use Rattle.im_typed.specs.Meaning.{value_of}
use Rattle.im_typed.specs.Runs.{◌>>=◌, give, goes_on}
use Rattle.im_typed.specs.Values.{computes, changed, changed_kind, read_at, scalar, update, value_in, write_at}
use Rattle.std.specs.Prelude.{pos, ℤ, ◌∷◌, []}
use Rattle.im_eval_store.specs.Shown.{shown}
use Rattle.im_eval_machine.specs.Settings.{setting_of}
use Rattle.im_eval_machine.specs.Shown.{one, values}
use Rattle.im_eval_machine.specs.Steps.{read_for}
use Rattle.im_eval_machine.specs.declared.found.Found.TheVariants.{One}
use Rattle.im_eval_machine.proofs.Steps.{halts-on}
use Rattle.im_eval_tasks.specs.Stack.{Valued, in_activation}
use Rattle.im_eval_tasks.specs.Tasks.{operand_in, stores}
use Rattle.im_eval_tasks.specs.declared.steps.Next.TheVariants.{Just}
use Rattle.im_eval_tasks.specs.declared.steps.Now.TheVariants.{Value}
use Rattle.im_eval_steps.specs.Going.{follows, types_of}
use Rattle.im_eval_steps.proofs.Going.{seen, unfound, went}
use Rattle.im_eval_steps.proofs.Orders.{amount-comes}
use Rattle.im_eval_steps.proofs.place.resume_at.Goals as goal

pub returns-in_err-found-in-Read-clause-goes : goal.returns-in_err-found-in-Read-clause-goes
returns-in_err-found-in-Read-clause-goes c =
    let p = err_from_is_err_and c.from_residual.result c.from_residual.ensures.1 in
    let code = c.args.code in
    rw (p.1, p.2, c.in-Read.is) (λ n here ts s i.
    unfound values c.in_err-found-in-Read.field-0.0 c.args.machine.now s (read_at (access_of (types_of code) c.in-Read.access) (shown c.args.place) s) (λ vs. follows code n here ts (Valued vs)) (c.in_err-found-in-Read.ensures s i))

pub returns-in_ok-found-in-Read-clause-goes : goal.returns-in_ok-found-in-Read-clause-goes
returns-in_ok-found-in-Read-clause-goes c =
    let code = c.args.code in
    let found = c.in_ok-found-in-Read.found in
    rw c.in-Read.is (λ n here ts s i.
    seen code n here ts values found (Just (Value found)) c.args.machine.now s (read_at (access_of (types_of code) c.in-Read.access) (shown c.args.place) s) (λ vs. follows code n here ts (Valued vs)) i (c.in_ok-found-in-Read.ensures s i) refl)

pub returns-in-Assign-clause-goes : goal.returns-in-Assign-clause-goes
returns-in-Assign-clause-goes c =
    let code = c.args.code in
    rw c.in-Assign.is (λ n here ts s i. (
      s,
      i,
      sym (c.begin_store.ensures (types_of code) (setting_of code) n here ts s),
    ))

pub returns-in_err-found-in-Source-clause-goes : goal.returns-in_err-found-in-Source-clause-goes
returns-in_err-found-in-Source-clause-goes c =
    let p = err_from_is_err_and c.from_residual-in_err-found-in-Source.result c.from_residual-in_err-found-in-Source.ensures.1 in
    let code = c.args.code in
    let w = c.in-Source in
    let why = c.in_err-found-in-Source.field-0.0 in
    let reads = read_for (access_of (types_of code) w.access) (shown w.target) (shown c.args.place) in
    rw (p.1, p.2, w.is) (λ n here ts s i.
    halts-on why c.args.machine.now _ (λ vs. follows code n here ts (Valued vs))
    (unfound values why c.args.machine.now s (reads s) (stores (types_of code) w.access (shown w.target)) (c.in_err-found-in-Source.ensures s i)))

pub returns-in_ok-found-in-Source-clause-goes : goal.returns-in_ok-found-in-Source-clause-goes
returns-in_ok-found-in-Source-clause-goes c =
    let code = c.args.code in
    let w = c.in-Source in
    let found = c.in_ok-found-in-Source.found in
    let reads = read_for (access_of (types_of code) w.access) (shown w.target) (shown c.args.place) in
    let store = stores (types_of code) w.access (shown w.target) in
    rw w.is (λ n here ts s i. (
      s,
      i,
      ap (λ r. goes_on (goes_on r store) (λ vs. follows code n here ts (Valued vs))) (c.in_ok-found-in-Source.ensures s i),
    ))

pub returns-in_err-before-in-Update-clause-goes : goal.returns-in_err-before-in-Update-clause-goes
returns-in_err-before-in-Update-clause-goes c =
    let p = err_from_is_err_and c.from_residual-in_err-before-in-Update.result c.from_residual-in_err-before-in-Update.ensures.1 in
    let code = c.args.code in
    let by = c.in-Update.change in
    let at = shown c.args.place in
    rw (p.1, p.2, c.in-Update.is) (λ n here ts s i.
    halts-on c.in_err-before-in-Update.field-0.0 c.args.machine.now _ (λ vs. follows code n here ts (Valued vs))
    (unfound shown c.in_err-before-in-Update.field-0.0 c.args.machine.now s (value_in (read_at (Scalar (changed_kind by)) at) s) _ (c.in_err-before-in-Update.ensures.look s i)))

pub returns-in_ok-before-in-Update-clause-goes : goal.returns-in_ok-before-in-Update-clause-goes
returns-in_ok-before-in-Update-clause-goes c =
    let code = c.args.code in
    let by = c.in-Update.change in
    let at = shown c.args.place in
    let before = shown c.in_ok-before-in-Update.before in
    rw (c.in-Update.is, c.deref.ensures) (λ n here ts s i. (
      s,
      i,
      amount-comes (value_in (read_at (Scalar (changed_kind by)) at) s) before s
          (value_of (in_activation (types_of code) (setting_of code) n here) (operand_in (types_of code) c.in-Update.by))
          (λ (b : o.Value) (z : ℤ). changed computes by b z >>= (λ w. write_at (Scalar (changed_kind by)) at (w ∷ []) >>= (λ _. scalar w)))
          (λ vs. follows code n here ts (Valued vs)) (c.in_ok-before-in-Update.ensures.look s i),
    ))

pub returns-in_err-value-in-Increment-clause-goes : goal.returns-in_err-value-in-Increment-clause-goes
returns-in_err-value-in-Increment-clause-goes c =
    let p = err_from_is_err_and c.from_residual-in_err-value-in-Increment.result c.from_residual-in_err-value-in-Increment.ensures.1 in
    let code = c.args.code in
    let w = c.in-Increment in
    rw (p.1, p.2, w.is) (λ n here ts s i.
    halts-on c.in_err-value-in-Increment.field-0.0 c.increment.new.machine (update computes w.change w.old (give (pos 1)) (shown c.args.place) s) (λ vs. follows code n here ts (Valued vs)) (c.in_err-value-in-Increment.ensures.step.ends s i))

pub returns-in_ok-value-in-Increment-clause-goes : goal.returns-in_ok-value-in-Increment-clause-goes
returns-in_ok-value-in-Increment-clause-goes c =
    let code = c.args.code in
    let w = c.in-Increment in
    let value = c.in_ok-value-in-Increment.value in
    rw w.is (λ n here ts s i.
    went code n here ts one value (Just (Value (One value))) c.increment.new.machine (update computes w.change w.old (give (pos 1)) (shown c.args.place) s) (λ vs. follows code n here ts (Valued vs)) (c.in_ok-value-in-Increment.ensures.step.ends s i) (λ t. refl))
