use Rattle.im_ctree.specs.Shape.{initializer_of}
use Rattle.im_types.specs.Shape.{type_of}
use Rattle.im_check_declarators.specs.Shape.{declared_of}
use Rattle.im_rules.specs.Statements.{name_of as name_in}
use Rattle.im_check_file_place.specs.Files.{file_place_of}
use Rattle.im_check_file_declarations.proofs.Firsts.{none_added, one_added}
use Rattle.im_check_file_declarations.proofs.first.given.Goals as goal

pub returns-in-None : goal.returns-in-None
returns-in-None c = rw c.in-None.is (none_added (file_place_of c.args.file.now) (name_in (declared_of c.args.y).name) (type_of c.args.ty.now) c.args.firsts.now.items)

pub returns-in_ok-push-in-Some : goal.returns-in_ok-push-in-Some
returns-in_ok-push-in-Some c =
    rw c.in-Some.is (one_added (file_place_of c.args.file.now) (file_place_of c.given_by.new.file) (name_in (declared_of c.args.y).name) c.named-name.result.items (type_of c.args.ty.now) (initializer_of c.in-Some.i) _ _ c.in_ok-g-in-Some.g c.named-name.ensures c.in_ok-push-in-Some.ensures.items c.in_ok-g-in-Some.ensures)
