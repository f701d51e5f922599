use Rattle.std.proofs.Common.{sym, subst, ◌∙◌, ◌∷◌, ℕ, List}
use Rattle.std.proofs.lemmas.Result.{err_from_is_err_and}
use Rattle.im_block.specs.Meaning as m
use Rattle.im_block_run.specs.Shown.{Halts, setting_of}
use Rattle.im_block_run.specs.declared.state.State.{State}
use Rattle.im_block_run.proofs.Enters.{called, not-entered}
use Rattle.im_block_run.proofs.calls.call.Goals as goal

pub returns-in_err-pay : goal.returns-in_err-pay
returns-in_err-pay c =
    let p = err_from_is_err_and c.from_residual.result c.from_residual.ensures.1 in
    rw (p.1, p.2) (λ s h. c.in_err-pay.ensures c.args.code.unit.now s _ h)

pub returns-in_err-frame : goal.returns-in_err-frame
returns-in_err-frame c =
    let p = err_from_is_err_and c.from_residual-in_err-frame.result c.from_residual-in_err-frame.ensures.1 in
    let u = c.args.code.unit.now in
    let g = setting_of c.args.code.setting in
    let call = c.args.call in
    let why = c.in_err-frame.field-0.0 in
    rw (p.1, p.2) (λ s h.
    let callers : List m.Frame = m.waiting u g s.frame call.to s.frame.spot.rest ∷ s.callers in
    let go : ℕ → m.Next = λ fuel. m.enters u g call.function call.first call.count s.frame.registers callers fuel s in
    let paid = c.in_ok-pay.ensures u s go h in
    let t : m.State = record s { fuel = paid.0 } in
    let none = c.in_err-frame.ensures t callers paid.0 paid.2.running.frame paid.2.held paid.2.begun in
    let a : State = record c.pay.new.state { memory = c.enter.new.memory } in
    subst (λ (r : m.Next). Halts u why a r) (sym paid.1) (not-entered u why c.pay.new.state c.enter.new.memory callers paid.0 t (go paid.0) paid.2 none))

pub returns : goal.returns
returns c = λ s h.
    let u = c.args.code.unit.now in
    let g = setting_of c.args.code.setting in
    let call = c.args.call in
    let callers : List m.Frame = m.waiting u g s.frame call.to s.frame.spot.rest ∷ s.callers in
    let go : ℕ → m.Next = λ fuel. m.enters u g call.function call.first call.count s.frame.registers callers fuel s in
    let paid = c.in_ok-pay.ensures u s go h in
    let t : m.State = record s { fuel = paid.0 } in
    let entered = c.in_ok-frame.ensures t callers paid.0 paid.2.running.frame paid.2.held paid.2.begun in
    let r = paid.2.running in
    let done =
    called c.wait.new.state t c.in_ok-frame.frame c.enter.new.memory callers paid.0 (go paid.0) entered c.in_ok-wait.ensures.memory c.in_ok-wait.ensures.begun
    (λ x is cs i o f.
    c.in_ok-wait.ensures.running g t x (record { frame = r.frame; callers = r.callers; input = r.input; output = r.output; fuel = r.fuel }) is cs i o f) in
    (done.0, done.1, paid.1 ∙ done.2, done.3)
