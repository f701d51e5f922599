use Rattle.std.proofs.Common.{◌≤◌, ap, sym, subst, List, [], Ok, arith}
use Rattle.std.proofs.lemmas.Result.{err_from_is_err_and}
use Rattle.im_typed.specs.Programs.{called, calls_of}
use Rattle.im_eval_machine.specs.Settings.{setting_of}
use Rattle.im_eval_machine.specs.declared.machine.Machine.{Machine}
use Rattle.im_eval_tasks.specs.Stack.{pending}
use Rattle.im_eval_tasks.specs.declared.tasks.Task.{Task}
use Rattle.im_eval_steps.specs.Going.{Goes}
use Rattle.im_eval.proofs.Mains.{behind_main, main-ends, main-stops}
use Rattle.im_eval.proofs.program.run_main.Goals as goal

pub returns-in_err-next : goal.returns-in_err-next
returns-in_err-next c =
    let p = err_from_is_err_and c.from_residual.result c.from_residual.ensures.1 in
    let g = setting_of c.args.code in
    rw (p.1, p.2) (λ n s i le.
    main-stops c.args.code n c.args.run.now.here c.in_err-next.field-0.0 c.enter_function.new.machine (called g (calls_of g n) n g.prog.main [] s) (c.in_err-next.ensures.goes n [] s i))

pub returns-in_err-first : goal.returns-in_err-first
returns-in_err-first c =
    let p = err_from_is_err_and c.from_residual-in_err-first.result c.from_residual-in_err-first.ensures.1 in
    let code = c.args.code in
    let g = setting_of code in
    let here = c.args.run.now.here in
    let m = c.push_next.new.run.machine in
    rw (p.1, p.2) (λ n s i le.
    let r = called g (calls_of g n) n g.prog.main [] s in
    let entered =
    subst (λ (ts : List Task). Goes code n c.enter_function.new.here (pending ts) (Ok c.in_ok-next.next) c.enter_function.new.machine (behind_main code n here r)) (sym c.requires.empty) (c.in_ok-next.ensures.goes n [] s i) in
    main-stops code n here c.in_err-first.field-0.0 m r
    (c.in_err-first.ensures.goes code n m (behind_main code n here r)
    (subst (λ (x : Machine). Goes code n c.enter_function.new.here (pending c.args.run.now.tasks.items) (Ok c.in_ok-next.next) x (behind_main code n here r)) (sym c.in_err-first.ensures.machine) entered)))

pub returns : goal.returns
returns c = λ n s i le.
    let code = c.args.code in
    let g = setting_of code in
    let here = c.args.run.now.here in
    let m = c.push_next.new.run.machine in
    let r = called g (calls_of g n) n g.prog.main [] s in
    let entered =
    subst (λ (ts : List Task). Goes code n c.enter_function.new.here (pending ts) (Ok c.in_ok-next.next) c.enter_function.new.machine (behind_main code n here r)) (sym c.requires.empty) (c.in_ok-next.ensures.goes n [] s i) in
    let pushed =
    c.in_ok-first.ensures.goes code n m (behind_main code n here r)
    (subst (λ (x : Machine). Goes code n c.enter_function.new.here (pending c.args.run.now.tasks.items) (Ok c.in_ok-next.next) x (behind_main code n here r)) (sym c.in_ok-first.ensures.machine) entered) in
    let same = ap (λ (x : Machine). x.fuel) c.in_ok-first.ensures.machine in
    let less = c.in_ok-next.ensures.fuel in
    let had = i.fuel in
    let fits : m.fuel ≤ n = omega arith in
    main-ends code n here c.push_next.new.run.here (pending c.push_next.new.run.tasks.items) c.in_ok-first.first m c.finish.new.run.machine r c.finish.result fits pushed (λ t it le. c.finish.ensures n t it le)
