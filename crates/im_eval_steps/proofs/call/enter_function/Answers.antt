use Rattle.std.proofs.Common.{◌≡◌, ◌<◌, ◌≤◌, ◌∙◌, ap, refl, subst, List, length, get_or, Bor}
use Rattle.std.proofs.lemmas.Result.{err_from_is_err_and}
use Rattle.im_typed.specs.declared.program.Func.{Func}
use Rattle.im_typed.specs.declared.statement.Stmt.{Stmt}
use Rattle.im_eval_machine.specs.Shown.{shown_all}
use Rattle.im_eval_tasks.specs.Stack.{Valued}
use Rattle.im_eval_steps.specs.Going.{follows}
use Rattle.im_eval_steps.proofs.Entering.{is_entered, not_entered, not_there}
use Rattle.im_eval_steps.proofs.call.enter_function.Goals as goal

pub returns-in_default-clause-goes : goal.returns-in_default-clause-goes
returns-in_default-clause-goes c = λ n ts s i.
    let code = c.args.code in
    let k = c.args.function in
    let past : length code.prog.now.funcs.items ≤ k = subst (λ (xs : List Func). length xs ≤ k) c.deref.ensures.value c.in_default.ensures.lookup.3 in
    not_there code n k (shown_all c.args.arguments.now) s (λ vs. follows code n c.args.here.now ts (Valued vs)) past

pub returns-in_err-inside-clause-goes : goal.returns-in_err-inside-clause-goes
returns-in_err-inside-clause-goes c =
    let p = err_from_is_err_and c.from_residual.result c.from_residual.ensures.1 in
    let code = c.args.code in
    let k = c.args.function in
    let all = code.prog.now.funcs.items in
    let f = c.in-Some.func.now in
    let within : k < length all = subst (λ (xs : List Func). k < length xs) c.deref.ensures.value c.in-Some.ensures.lookup.3.0 in
    let same : f ≡ get_or all k f = c.in-Some.ensures.lookup.1 ∙ ap (λ (xs : List Func). get_or xs k f) c.deref.ensures.value in
    rw (p.1, p.2) (λ n ts s i.
    not_entered code n k (shown_all c.args.arguments.now) c.args.here.now ts f s within same c.in_err-inside.field-0.0 c.enter.new.machine (c.in_err-inside.ensures.ends s i))

pub returns-clause-goes : goal.returns-clause-goes
returns-clause-goes c = λ n ts s i.
    let code = c.args.code in
    let k = c.args.function in
    let all = code.prog.now.funcs.items in
    let f = c.in-Some.func.now in
    let within : k < length all = subst (λ (xs : List Func). k < length xs) c.deref.ensures.value c.in-Some.ensures.lookup.3.0 in
    let same : f ≡ get_or all k f = c.in-Some.ensures.lookup.1 ∙ ap (λ (xs : List Func). get_or xs k f) c.deref.ensures.value in
    let body : Bor Stmt = record { ref_ptr = c.in-Some.func.ref_ptr; now = f.body } in
    is_entered code n k (shown_all c.args.arguments.now) c.args.here.now ts f s within same c.in_ok-inside.inside body c.args.machine.now.depth c.enter.new.machine refl i.depth (c.in_ok-inside.ensures.ends s i)
