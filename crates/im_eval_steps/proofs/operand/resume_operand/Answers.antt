use Rattle.std.proofs.Common.{◌≡◌, ◌∙◌, ap, refl, sym, Bool, true, false}
use Rattle.std.proofs.lemmas.Result.{err_from_is_err_and}
use Rattle.im_store.specs.Pointers.{holds}
use Rattle.im_typed.specs.Meaning.{value_of, values_of}
use Rattle.im_typed.specs.Runs.{either}
use Rattle.im_eval_store.specs.Shown.{shown}
use Rattle.im_eval_machine.specs.Settings.{setting_of}
use Rattle.im_eval_machine.specs.Shown.{one}
use Rattle.im_eval_machine.specs.declared.found.Found.TheVariants.{One}
use Rattle.im_eval_tasks.specs.Stack.{Valued, in_activation, then_valued}
use Rattle.im_eval_tasks.specs.Tasks.{exprs_in, operand_in}
use Rattle.im_eval_tasks.specs.declared.steps.Next.TheVariants.{Just}
use Rattle.im_eval_tasks.specs.declared.steps.Now.TheVariants.{Value}
use Rattle.im_eval_steps.specs.Going.{changes_to, follows, types_of}
use Rattle.im_eval_steps.proofs.Arguments.{taken}
use Rattle.im_eval_steps.proofs.Going.{went}
use Rattle.im_eval_steps.proofs.Putting.{put-goes}
use Rattle.im_eval_steps.proofs.operand.resume_operand.Goals as goal

pub returns-in_err-onward-in-Left-clause-goes : goal.returns-in_err-onward-in-Left-clause-goes
returns-in_err-onward-in-Left-clause-goes c =
    let p = err_from_is_err_and c.from_residual-in_err-onward-in-Left.result c.from_residual-in_err-onward-in-Left.ensures.1 in
    let code = c.args.code in
    rw (p.1, p.2, c.in-Left.is) (λ n here ts s i. c.in_err-onward-in-Left.ensures (types_of code) (setting_of code) n here ts s)

pub returns-in_ok-given-in-Serve-clause-goes : goal.returns-in_ok-given-in-Serve-clause-goes
returns-in_ok-given-in-Serve-clause-goes c =
    rw c.in-Serve.is (λ n here ts s i.
    put-goes c.in-Serve.service c.args.code n here ts s (shown c.args.value) c.in_ok-number-in-Serve.number.value c.in_ok-number-in-Serve.ensures c.in_ok-given-in-Serve.given c.serve.new.machine (c.in_ok-given-in-Serve.ensures.ends s i))

pub returns-in_ok-after-in-Change-clause-goes : goal.returns-in_ok-after-in-Change-clause-goes
returns-in_ok-after-in-Change-clause-goes c =
    let w = c.in-Change in
    let after = c.in_ok-after-in-Change.after in
    rw w.is (λ n here ts s i.
    went c.args.code n here ts one after (Just (Value (One after))) c.change_to.new.machine (changes_to w.change (shown w.before) (shown w.place) (shown c.args.value) s) (λ vs. follows c.args.code n here ts (Valued vs)) (c.in_ok-after-in-Change.ensures.step.ends s i) (λ t. refl))

pub returns-then-holds-clause-goes : goal.returns-then-holds-clause-goes
returns-then-holds-clause-goes c =
    let types = types_of c.args.code in
    let g = setting_of c.args.code in
    let w = c.in-Choose in
    let decides : holds (shown c.args.value) ≡ true = sym c.holds.ensures ∙ c.if-holds.true in
    rw (c.deref.ensures, w.is) (λ n here ts s i.
    let around = in_activation types g n here in (
      s,
      i,
      ap (λ (b : Bool). then_valued types g n here ts (either b (value_of around (operand_in types w.first)) (value_of around (operand_in types w.second))) s) decides,
    ))

pub returns-else-holds-clause-goes : goal.returns-else-holds-clause-goes
returns-else-holds-clause-goes c =
    let types = types_of c.args.code in
    let g = setting_of c.args.code in
    let w = c.in-Choose in
    let decides : holds (shown c.args.value) ≡ false = sym c.holds.ensures ∙ c.if-holds.false in
    rw (c.deref-else-holds.ensures, w.is) (λ n here ts s i.
    let around = in_activation types g n here in (
      s,
      i,
      ap (λ (b : Bool). then_valued types g n here ts (either b (value_of around (operand_in types w.first)) (value_of around (operand_in types w.second))) s) decides,
    ))

pub returns-in_ok-take_argument-in-Argument-clause-goes : goal.returns-in_ok-take_argument-in-Argument-clause-goes
returns-in_ok-take_argument-in-Argument-clause-goes c =
    let types = types_of c.args.code in
    let g = setting_of c.args.code in
    let w = c.in-Argument in
    let more = c.in_ok-take_argument-in-Argument in
    rw (w.is, more.ensures.rest, more.ensures.function, more.ensures.ready) (λ n here ts s i.
    let around = in_activation types g n here in (
      s,
      i,
      taken w.call.ready.items c.args.value (values_of around (exprs_in types w.call.rest.now) s) (λ vs. around.calls w.call.function vs) (λ vs. follows c.args.code n here ts (Valued vs)),
    ))
