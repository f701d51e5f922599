use Rattle.std.proofs.lemmas.Result.{err_from_is_err_and}
use Rattle.im_typed.specs.ProgramOf.{access_of}
use Rattle.im_eval_store.specs.Shown.{shown}
use Rattle.im_eval_machine.specs.Shown.{values}
use Rattle.im_eval_machine.proofs.Stores.{wrote, unwritten}
use Rattle.im_eval_machine.proofs.access.write_at.Goals as goal

pub returns-in_err-write_found-clause-step : goal.returns-in_err-write_found-clause-step
returns-in_err-write_found-clause-step c =
    let p = err_from_is_err_and c.from_residual.result c.from_residual.ensures.1 in
    rw (p.1, p.2) (unwritten c.args.machine.now c.write_found.new.memory (access_of c.args.code.prog.now.types c.args.access) (shown c.args.at) (values c.args.found.now) c.in_err-write_found.field-0.0 c.in_err-write_found.ensures)

pub returns-clause-step : goal.returns-clause-step
returns-clause-step c =
    wrote c.args.machine.now c.write_found.new.memory (access_of c.args.code.prog.now.types c.args.access) (shown c.args.at) (values c.args.found.now) tt c.in_ok-write_found.ensures
