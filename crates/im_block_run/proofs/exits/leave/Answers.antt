use Rattle.std.proofs.Common.{sym, ap, ◌∙◌, ℕ, subst}
use Rattle.std.proofs.lemmas.Result.{err_from_is_err_and}
use Rattle.im_block.specs.declared.code.Exit.{Exit}
use Rattle.im_block.specs.Meaning as m
use Rattle.im_block_run.specs.Shown.{Halts, setting_of}
use Rattle.im_block_run.specs.declared.stop.Stop.TheVariants as stop
use Rattle.im_block_run.proofs.Leaving.{branches, branches-bad}
use Rattle.im_block_run.proofs.States.{follows-as}
use Rattle.im_block_run.proofs.exits.leave.Goals as goal

pub returns-in-Jump : goal.returns-in-Jump
returns-in-Jump c = λ s h.
    let u = c.args.code.unit.now in
    let g = setting_of c.args.code.setting in
    follows-as u c.go_to.result c.go_to.new.state _ _ (ap (λ (x : Exit). m.leaves u g x s) (h.running.frame.exit ∙ c.in-Jump.is)) (c.go_to.ensures s h)

pub returns-in_err-pay-in-Turn : goal.returns-in_err-pay-in-Turn
returns-in_err-pay-in-Turn c =
    let p = err_from_is_err_and c.from_residual.result c.from_residual.ensures.1 in
    let u = c.args.code.unit.now in
    let g = setting_of c.args.code.setting in
    rw (p.1, p.2) (λ s h.
    subst (λ (r : m.Next). Halts u c.in_err-pay-in-Turn.field-0.0 c.pay.new.state r) (sym (ap (λ (x : Exit). m.leaves u g x s) (h.running.frame.exit ∙ c.in-Turn.is)))
    (c.in_err-pay-in-Turn.ensures u s (λ fuel. m.goes_to u g c.in-Turn.block fuel s) h))

pub returns-in_ok-pay-in-Turn : goal.returns-in_ok-pay-in-Turn
returns-in_ok-pay-in-Turn c = λ s h.
    let u = c.args.code.unit.now in
    let g = setting_of c.args.code.setting in
    let paid = c.in_ok-pay-in-Turn.ensures u s (λ fuel. m.goes_to u g c.in-Turn.block fuel s) h in
    let t : m.State = record s { fuel = paid.0 } in
    follows-as u c.go_to-in-Turn.result c.go_to-in-Turn.new.state _ _ (ap (λ (x : Exit). m.leaves u g x s) (h.running.frame.exit ∙ c.in-Turn.is) ∙ paid.1) (c.go_to-in-Turn.ensures t paid.2)

pub returns-in_err-test-in-Branch : goal.returns-in_err-test-in-Branch
returns-in_err-test-in-Branch c =
    let p = err_from_is_err_and c.from_residual-in_err-test-in-Branch.result c.from_residual-in_err-test-in-Branch.ensures.1 in
    let u = c.args.code.unit.now in
    let g = setting_of c.args.code.setting in
    let a = c.args.state.now in
    let b = c.in-Branch in
    rw (p.1, p.2) (λ s h.
    subst (λ (r : m.Next). Halts u (stop.Undefined c.in_err-test-in-Branch.field-0.0) a r) (sym (ap (λ (x : Exit). m.leaves u g x s) (h.running.frame.exit ∙ b.is)))
    (branches-bad u g a s b.on b.holds b.fails c.in_err-test-in-Branch.field-0.0 (ap (m.condition s.store) (c.register.ensures s.frame h.running.frame) ∙ c.in_err-test-in-Branch.ensures a.begun s.store h.held)))

pub returns-in_ok-test-in-Branch : goal.returns-in_ok-test-in-Branch
returns-in_ok-test-in-Branch c = λ s h.
    let u = c.args.code.unit.now in
    let g = setting_of c.args.code.setting in
    let a = c.args.state.now in
    let b = c.in-Branch in
    let test = ap (m.condition s.store) (c.register.ensures s.frame h.running.frame) ∙ c.in_ok-test-in-Branch.ensures a.begun s.store h.held in
    let to : ℕ → m.Next = λ n. m.goes_to u g n s.fuel s in
    follows-as u c.go_to-in-Branch.result c.go_to-in-Branch.new.state _ _
    (ap (λ (x : Exit). m.leaves u g x s) (h.running.frame.exit ∙ b.is) ∙ branches u g s b.on b.holds b.fails c.in_ok-test-in-Branch.test test ∙ ap to (sym c.chosen.ensures)) (c.go_to-in-Branch.ensures s h)

pub returns-in-Return : goal.returns-in-Return
returns-in-Return c = λ s h.
    let u = c.args.code.unit.now in
    let g = setting_of c.args.code.setting in
    follows-as u c.back.result c.back.new.state _ _
    (ap (λ (x : Exit). m.leaves u g x s) (h.running.frame.exit ∙ c.in-Return.is) ∙ ap (λ v. m.back u g s.callers v s) (c.returned-value.ensures u g s.frame h.running.frame)) (c.back.ensures u g s h)
