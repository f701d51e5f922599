use Rattle.std.proofs.Common.{◌≡◌, ◌≤◌, ◌∙◌, List, ap, length, refl, sym, subst, arith, rules}
use Rattle.std.proofs.lemmas.Bool.Decides.{nat_tests}
use Rattle.std.proofs.lemmas.List.{nil_from_length}
use Rattle.std.proofs.lemmas.Result.{err_from_is_err_and}
use Rattle.im_eval_machine.specs.Settings.{setting_of}
use Rattle.im_eval_machine.specs.Shown.{Halts}
use Rattle.im_eval_tasks.specs.Stack.{pending, runs}
use Rattle.im_eval_tasks.specs.declared.steps.Now.TheVariants.{Value}
use Rattle.im_eval_tasks.specs.declared.tasks.Task.{Task}
use Rattle.im_eval_steps.specs.Going.{types_of}
use Rattle.im_eval.proofs.program.finish.Goals as goal

pub steps-init : goal.steps-init
steps-init c = record { fuel = omega arith; same = λ n s i le. (s, i, refl) }

pub steps-preserved : goal.steps-preserved
steps-preserved c =
    let inv = c.steps.invariant in
    let run = c.steps.run in
    let types = types_of c.args.code in
    let g = setting_of c.args.code in
    let same : c.steps.now ≡ c.in_default-1.now = search rules in
    let done = c.in_ok-now-in_default.ensures in
    let before = inv.fuel in
    let after = done.fuel in
    record {
      fuel = omega arith;
      same = λ n s i le.
          let h = inv.same n s i le in
          let had = i.fuel in
          let has = h.1.fuel in
          let fits : h.0.fuel ≤ n = omega arith in
          let next = done.goes n h.0 h.1 fits in
          (next.0, next.1, h.2 ∙ (ap (λ now. runs types g n run.here (pending run.tasks.items) now h.0) same ∙ next.2));
    }

pub returns-in_err-now-in_default : goal.returns-in_err-now-in_default
returns-in_err-now-in_default c =
    let p = err_from_is_err_and c.from_residual.result c.from_residual.ensures.1 in
    let inv = c.steps.invariant in
    let run = c.steps.run in
    let types = types_of c.args.code in
    let g = setting_of c.args.code in
    let same : c.steps.now ≡ c.in_default-1.now = search rules in
    let why = c.in_err-now-in_default.field-0.0 in
    let before = inv.fuel in
    rw (p.1, p.2) (λ n s i le.
    let h = inv.same n s i le in
    let had = i.fuel in
    let has = h.1.fuel in
    let fits : h.0.fuel ≤ n = omega arith in
    subst (λ r. Halts why c.step.new.run.machine r) (sym (h.2 ∙ ap (λ now. runs types g n run.here (pending run.tasks.items) now h.0) same)) (c.in_err-now-in_default.ensures.goes n h.0 h.1 fits))

pub returns-in-Value : goal.returns-in-Value
returns-in-Value c =
    let inv = c.steps.invariant in
    let run = c.steps.run in
    let types = types_of c.args.code in
    let g = setting_of c.args.code in
    let empty : length run.tasks.items ≡ 0 = grind (arith, nat_tests) in
    λ n s i le.
    let h = inv.same n s i le in (
      h.0,
      h.1,
      h.2
          ∙ ap (λ now. runs types g n run.here (pending run.tasks.items) now h.0) c.in-Value.is
          ∙ ap (λ (ts : List Task). runs types g n run.here (pending ts) (Value c.in-Value.found) h.0) (nil_from_length run.tasks.items empty),
    )
