use Rattle.std.proofs.Common.{◌≡◌, subst}
use Rattle.std.proofs.lemmas.Result.{err_from_is_err_and}
use Rattle.im_store.specs.Access.{at_place, write_cell}
use Rattle.im_store.specs.Checks.{Fine, Bad}
use Rattle.im_store.specs.Objects.{Store}
use Rattle.im_eval_store.specs.Living.{Holds}
use Rattle.im_eval_store.specs.Shown.{shown}
use Rattle.im_eval_machine.proofs.Accessing.{change-bad, change-fine}
use Rattle.im_eval_machine.proofs.change.change_by.Goals as goal

pub returns-in_err-write_scalar-clause-step : goal.returns-in_err-write_scalar-clause-step
returns-in_err-write_scalar-clause-step c =
    let p = err_from_is_err_and c.from_residual-in_err-write_scalar.result c.from_residual-in_err-write_scalar.ensures.1 in
    let at = shown c.args.at in
    let after = c.in_ok-after.after in
    let why = c.in_err-write_scalar.field-0.0 in
    rw (p.1, p.2) (change-bad c.args.machine.now c.write_scalar.new.memory c.args.change (shown c.args.before) c.args.by.value at after c.in_ok-after.ensures why
    (λ last store h. subst (λ k. at_place at (λ q offset. write_cell store q offset k (shown after)) ≡ Bad why) c.changed_kind.ensures (c.in_err-write_scalar.ensures last store h)))

pub returns-clause-step : goal.returns-clause-step
returns-clause-step c =
    let at = shown c.args.at in
    let after = c.in_ok-after.after in
    change-fine c.args.machine.now c.write_scalar.new.memory c.args.change (shown c.args.before) c.args.by.value at after c.in_ok-after.ensures
    (λ last store h. subst (λ k. (new : Store) × (at_place at (λ q offset. write_cell store q offset k (shown after)) ≡ Fine new) × Holds c.write_scalar.new.memory last new) c.changed_kind.ensures (c.in_ok-write_scalar.ensures last store h))
