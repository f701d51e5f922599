use Rattle.std.proofs.Common.{◌≡◌, subst}
use Rattle.im_typed.specs.Meaning.{value_of}
use Rattle.im_eval_machine.specs.Settings.{setting_of}
use Rattle.im_eval_tasks.specs.Stack.{in_activation, leads, then_valued}
use Rattle.im_eval_tasks.specs.Tasks.{expr_in}
use Rattle.im_eval_tasks.specs.declared.steps.Next.TheVariants.{Before}
use Rattle.im_eval_tasks.specs.declared.steps.Now.TheVariants.{Locate}
use Rattle.im_eval_steps.specs.Going.{Goes, types_of}
use Rattle.im_eval.proofs.at_once.begin_tasks.Goals as goal

pub returns-in-Before-Locate-At-clause-goes : goal.returns-in-Before-Locate-At-clause-goes
returns-in-Before-Locate-At-clause-goes c = λ n ts s i.
    let code = c.args.code in
    let here = c.args.here in
    let types = types_of code in
    let g = setting_of code in
    let w = c.in-Before-Locate-At in
    let meant = then_valued types g n here ts (value_of (in_activation types g n here) (expr_in types c.args.expr)) s in
    let begun = subst (λ x. leads types g n here ts (Before x w.field-1) s ≡ meant) w.field-0-is (w.ensures types g n here ts s) in
    subst (Goes code n here ts c.do_at.result c.do_at.new.machine) (subst (λ t. leads types g n here ts (Before (Locate w.place) t) s ≡ meant) w.field-1-is begun)
    (c.do_at.ensures.goes n ts s i)
