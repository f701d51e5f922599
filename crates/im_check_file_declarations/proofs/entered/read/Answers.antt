use Rattle.im_ctree.specs.Shape.{declarator_of}
use Rattle.im_rules.specs.Strings.{strings_of_declarator}
use Rattle.im_check_file_specifiers.proofs.Places.{passed}
use Rattle.im_check_file_declarations.proofs.entered.read.Goals as goal

pub returns : goal.returns
returns c =
    let y = c.in_ok-y.ensures in
    (y.0, passed c.args.file.now _ c.append_declarator.new.texts (strings_of_declarator (declarator_of c.args.d.now)) y.1 c.in_ok-append_declarator.ensures, y.2)
