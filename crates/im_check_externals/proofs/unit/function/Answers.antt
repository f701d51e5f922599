use Rattle.im_check_file_place.specs.Files.{file_place_of}
use Rattle.im_ctree.specs.Shape.{specifiers_of, declarator_of}
use Rattle.im_check_externals.proofs.Reached.{function_fault}
use Rattle.im_check_externals.proofs.unit.function.Goals as goal

pub returns-in-Err : goal.returns-in-Err
returns-in-Err c =
    let f = c.args.f.now in
    function_fault (file_place_of c.args.file.now) (specifiers_of f.specifiers) (declarator_of f.declarator) _ c.in-Err.stop _ c.in-Err.ensures c.in_declarator.ensures
