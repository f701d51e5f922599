use Rattle.std.proofs.Common.{refl, arith}
use Rattle.std.proofs.lemmas.Result.{err_from_is_err_and}
use Rattle.std.proofs.lemmas.List.{nil_from_length}
use Rattle.im_eval_store.specs.Shown.{shown}
use Rattle.im_block_run.specs.declared.state.State.{State}
use Rattle.im_block_run.proofs.Leaving.{main-bad, main-returned, returned-to}
use Rattle.im_block_run.proofs.exits.back.Goals as goal

pub returns-in_err-number-in-None : goal.returns-in_err-number-in-None
returns-in_err-number-in-None c =
    let p = err_from_is_err_and c.from_residual.result c.from_residual.ensures.1 in
    let b : State = record c.args.state.now { callers = c.pop.new.self } in
    rw (p.1, p.2) (λ u g s h. main-bad u g c.args.state.now s h (shown c.args.value) b c.in_err-number-in-None.field-0.0 (nil_from_length c.args.state.now.callers.items (omega (arith, c.in-None.ensures.cases.0, c.args.state.now.callers.ok.0))) c.in_err-number-in-None.ensures)

pub returns-in_ok-number-in-None : goal.returns-in_ok-number-in-None
returns-in_ok-number-in-None c = λ u g s h.
    let all = c.args.state.now.callers in
    let none = c.in-None.ensures.cases in
    main-returned u g c.args.state.now s h (shown c.args.value) c.pop.new.self c.in_ok-number-in-None.number c.converted.result (nil_from_length all.items (omega (arith, none.0, all.ok.0)))
    (nil_from_length c.pop.new.self.items (omega (arith, none.1, c.pop.new.self.ok.0))) c.in_ok-number-in-None.ensures c.converted.ensures

pub returns-in_ok-set-in-Some : goal.returns-in_ok-set-in-Some
returns-in_ok-set-in-Some c = λ u g s h.
    let a = c.args.state.now in
    let caller = c.in-Some.caller in
    returned-to u g a s h (shown c.args.value) _ c.pop.new.self.items caller c.set.new.self c.in-Some.ensures.items
    (λ t is. c.in_ok-set-in-Some.ensures t is) refl refl refl refl refl refl (c.end.ensures a.begun _ h.held)
