use Rattle.std.proofs.Common.{◌≡◌, subst}
use Rattle.std.proofs.lemmas.Result.{err_from_is_err_and}
use Rattle.im_num.specs.declared.kind.Kind.{Kind}
use Rattle.im_store.specs.Access.{at_place, read_cell, taken}
use Rattle.im_store.specs.Checks.{Checked, Fine, Bad, then_}
use Rattle.im_store.specs.Objects.{Store, Value}
use Rattle.im_typed.specs.Program.{Scalar}
use Rattle.im_typed.specs.Values.{changed_kind, read_at, value_in}
use Rattle.im_eval_store.specs.Shown.{shown}
use Rattle.im_eval_machine.proofs.Accessing.{value-read, look-bad, look-fine}
use Rattle.im_eval_machine.proofs.change.before_change.Goals as goal

abbrev reads : Value → Kind → Store → Checked Value
reads at kind store = then_ (at_place at (λ q offset. read_cell store q offset kind)) (taken store)

pub returns-in_err-taken_at-clause-look : goal.returns-in_err-taken_at-clause-look
returns-in_err-taken_at-clause-look c =
    let p = err_from_is_err_and c.from_residual.result c.from_residual.ensures.1 in
    let at = shown c.args.at in
    let kind = changed_kind c.args.change in
    rw (p.1, p.2) (look-bad c.args.machine.now (value_in (read_at (Scalar kind) at)) (reads at kind) c.in_err-taken_at.field-0.0 (value-read kind at)
    (λ last store h. subst (λ k. reads at k store ≡ Bad c.in_err-taken_at.field-0.0) c.changed_kind.ensures (c.in_err-taken_at.ensures last store h)))

pub returns-clause-look : goal.returns-clause-look
returns-clause-look c =
    let at = shown c.args.at in
    let kind = changed_kind c.args.change in
    look-fine c.args.machine.now (value_in (read_at (Scalar kind) at)) (reads at kind) c.in_ok-taken_at.field-0 (value-read kind at)
    (λ last store h. subst (λ k. reads at k store ≡ Fine (shown c.in_ok-taken_at.field-0)) c.changed_kind.ensures (c.in_ok-taken_at.ensures last store h))
