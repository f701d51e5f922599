use Rattle.std.proofs.Common.{ap, ◌∙◌}
use Rattle.std.proofs.lemmas.Result.{err_from_is_err_and}
use Rattle.im_store.specs.Access.{write_cell}
use Rattle.im_store.specs.Checks.{Checked, then_}
use Rattle.im_store.specs.Objects as o
use Rattle.im_block.specs.Meaning as m
use Rattle.im_eval_store.specs.Shown.{object_of, shown}
use Rattle.im_block_run.proofs.Accessing.{write-left}
use Rattle.im_block_run.specs.Shown.{plain}
use Rattle.im_block_run.proofs.places.write.Goals as goal

pub returns-in_err-spot : goal.returns-in_err-spot
returns-in_err-spot c =
    let p = err_from_is_err_and c.from_residual.result c.from_residual.ensures.1 in
    rw (p.1, p.2) (λ last store s h is.
    ap (λ (x : Checked m.Location). then_ x (λ at. then_ (m.stored c.args.kind (shown c.args.value)) (λ w. m.left_in at (write_cell store at.object at.offset c.args.kind w)))) (c.in_err-spot.ensures last store s h is))

pub returns-in_err-taken : goal.returns-in_err-taken
returns-in_err-taken c =
    let p = err_from_is_err_and c.from_residual-in_err-taken.result c.from_residual-in_err-taken.ensures.1 in
    let spot = c.in_ok-spot.spot in
    rw (p.1, p.2) (λ last store s h is.
    ap (λ (x : Checked m.Location). then_ x (λ at. then_ (m.stored c.args.kind (shown c.args.value)) (λ w. m.left_in at (write_cell store at.object at.offset c.args.kind w)))) (c.in_ok-spot.ensures last store s h is)
    ∙ ap (λ (x : Checked o.Value). then_ x (λ w. m.left_in (record { object = object_of spot.object; offset = spot.offset }) (write_cell store (object_of spot.object) spot.offset c.args.kind w))) c.in_err-taken.ensures)

pub returns : goal.returns
returns c = λ last store s h is.
    write-left c.write_cell.result c.write_cell.new.self last store c.in_ok-spot.spot c.args.kind c.in_ok-taken.taken (m.located c.args.place s.active s.registers store) (m.stored c.args.kind (shown c.args.value))
    (c.in_ok-spot.ensures last store s h is) c.in_ok-taken.ensures (c.write_cell.ensures last (plain store) h)
