use Rattle.std.proofs.Common.{ap}
use Rattle.std.proofs.lemmas.Result.{err_from_is_err_and}
use Rattle.im_store.specs.Access.{read_cell}
use Rattle.im_store.specs.Checks.{Checked, then_}
use Rattle.im_block.specs.Meaning as m
use Rattle.im_block_run.proofs.Accessing.{read-found}
use Rattle.im_block_run.specs.Shown.{plain}
use Rattle.im_block_run.proofs.places.read.Goals as goal

pub returns-in_err-spot : goal.returns-in_err-spot
returns-in_err-spot c =
    let p = err_from_is_err_and c.from_residual.result c.from_residual.ensures.1 in
    rw (p.1, p.2) (λ last store s h is.
    ap (λ (x : Checked m.Location). then_ x (λ at. m.found_in at (read_cell store at.object at.offset c.args.kind))) (c.in_err-spot.ensures last store s h is))

pub returns : goal.returns
returns c = λ last store s h is.
    read-found c.read_cell.result c.args.memory.now last store c.in_ok-spot.spot c.args.kind (m.located c.args.place s.active s.registers store) h (c.in_ok-spot.ensures last store s h is) (c.read_cell.ensures last (plain store) h)
