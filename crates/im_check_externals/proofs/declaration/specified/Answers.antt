use Rattle.im_check_file_place.specs.Files.{file_place_of}
use Rattle.im_check_externals.proofs.Declaring.{unspecified}
use Rattle.im_check_externals.proofs.declaration.specified.Goals as goal

pub returns-in-Err : goal.returns-in-Err
returns-in-Err c = λ ds. unspecified (file_place_of c.args.file.now) c.args.specifiers.now ds c.in-Err.stop _ c.in-Err.ensures c.in_specifiers.ensures
