use Rattle.std.proofs.lemmas.Result.{err_from_is_err_and}
use Rattle.im_ctree.specs.Shape.{tree_of}
use Rattle.im_check_file_place.specs.Files.{file_place_of}
use Rattle.im_check.proofs.Whole.{unit_typed, externals_fault, main_fault}
use Rattle.im_check.proofs.units.unit.Goals as goal

pub returns-in_err-done : goal.returns-in_err-done
returns-in_err-done c =
    let p = err_from_is_err_and c.from_residual-in_err-done.result c.from_residual-in_err-done.ensures.1 in
    rw p.1 (externals_fault (tree_of c.args.tree) (file_place_of c.in_ok-file.file) _ p.0 p.2 c.in_ok-file.ensures c.in_err-done.ensures)

pub returns-in_err-with_main : goal.returns-in_err-with_main
returns-in_err-with_main c =
    let p = err_from_is_err_and c.from_residual-in_err-with_main.result c.from_residual-in_err-with_main.ensures.1 in
    rw (p.1, p.2) (main_fault (tree_of c.args.tree) c.in_ok-file.file c.externals.new.file c.in_ok-done.done _ c.in_ok-file.ensures c.in_ok-done.ensures c.in_err-with_main.ensures)

pub returns : goal.returns
returns c = unit_typed (tree_of c.args.tree) c.in_ok-file.file c.externals.new.file c.in_ok-done.done c.in_ok-file.ensures c.in_ok-done.ensures c.in_ok-with_main.ensures
