use Rattle.im_ctree.specs.Shape.{declarator_of}
use Rattle.im_rules.specs.Strings.{strings_of_declarator}
use Rattle.im_check_file_functions.proofs.Heading.{passed}
use Rattle.im_check_file_functions.proofs.read.declared.Goals as goal

pub returns : goal.returns
returns c =
    let y = c.in_ok-y.ensures in
    (y.0, passed c.args.file.now c.append_declarator.new.texts (strings_of_declarator (declarator_of c.args.written.now)) y.1 c.in_ok-append_declarator.ensures, y.2)
