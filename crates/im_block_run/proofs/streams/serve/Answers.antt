use Rattle.std.proofs.Common.{◌≡◌, ◌∙◌, ap, ℕ, []}
use Rattle.std.specs.Prelude.{ℤ}
use Rattle.std.proofs.lemmas.Result.{err_from_is_err_and}
use Rattle.im_store.specs.Checks.{Checked, Fine, Bad}
use Rattle.im_block.specs.Meaning as m
use Rattle.im_block_run.proofs.States.{follows-as}
use Rattle.im_block_run.proofs.streams.serve.Goals as goal

pub returns-in_err-pay : goal.returns-in_err-pay
returns-in_err-pay c =
    let p = err_from_is_err_and c.from_residual.result c.from_residual.ensures.1 in
    rw (p.1, p.2) (λ g s h capacity. c.in_err-pay.ensures c.args.unit.now s _ h)

pub returns-in_err-number : goal.returns-in_err-number
returns-in_err-number c =
    let p = err_from_is_err_and c.from_residual-in_err-number.result c.from_residual-in_err-number.ensures.1 in
    rw (p.1, p.2) (λ g s h capacity.
    let serves : ℕ → ℤ → m.Next = λ fuel z. m.serves c.args.unit.now g c.args.to c.args.service z s.frame.spot.rest fuel s in
    let go : ℕ → m.Next = λ fuel. m.on_checked (m.argument c.args.from s.frame.registers) (serves fuel) in
    let paid = c.in_ok-pay.ensures c.args.unit.now s go h in
    let t : m.State = record s { fuel = paid.0 } in
    ([], paid.1 ∙ ap (λ (x : Checked ℤ). m.on_checked x (serves paid.0)) (c.in_err-number.ensures t.frame paid.2.running.frame)))

pub returns : goal.returns
returns c = λ g s h capacity.
    let u = c.args.unit.now in
    let serves : ℕ → ℤ → m.Next = λ fuel z. m.serves u g c.args.to c.args.service z s.frame.spot.rest fuel s in
    let go : ℕ → m.Next = λ fuel. m.on_checked (m.argument c.args.from s.frame.registers) (serves fuel) in
    let paid = c.in_ok-pay.ensures u s go h in
    let t : m.State = record s { fuel = paid.0 } in
    follows-as u c.work.result c.work.new.state _ _ (paid.1 ∙ ap (λ (x : Checked ℤ). m.on_checked x (serves paid.0)) (c.in_ok-number.ensures t.frame paid.2.running.frame)) (c.work.ensures g t paid.2 capacity)
