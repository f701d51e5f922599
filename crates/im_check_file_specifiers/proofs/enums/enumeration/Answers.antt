use Rattle.std.proofs.lemmas.Result.{err_from_is_err_and}
use Rattle.im_ctree_parts.specs.Lists.{enumerators_from}
use Rattle.im_check_file_place.specs.Files.{file_place_of}
use Rattle.im_check_file_specifiers.specs.Lists.{tag_of}
use Rattle.im_check_file_specifiers.proofs.Enumerations.{enum_refused, enum_inside, enum_done}
use Rattle.im_check_file_specifiers.proofs.enums.enumeration.Goals as goal

pub returns-in_err-may_list : goal.returns-in_err-may_list
returns-in_err-may_list c = λ first ss ks.
    let p = err_from_is_err_and c.from_residual.result c.from_residual.ensures.1 in
    rw (p.1, p.2) (enum_refused (file_place_of c.args.file.now) c.args.at first (tag_of c.args.tag.now) (enumerators_from c.args.enumerators.now) ss _ c.in_err-may_list.ensures.asked)

pub returns-in_err-enumerated : goal.returns-in_err-enumerated
returns-in_err-enumerated c = λ first ss ks.
    let p = err_from_is_err_and c.from_residual-in_err-enumerated.result c.from_residual-in_err-enumerated.ensures.1 in
    rw (p.1, p.2) (enum_inside (file_place_of c.args.file.now) c.args.at first (tag_of c.args.tag.now) (enumerators_from c.args.enumerators.now) ss _ c.in_err-enumerated.ensures)

pub returns : goal.returns
returns c = λ first ss ks.
    enum_done (file_place_of c.args.file.now) _ _ c.args.at first (tag_of c.args.tag.now) (enumerators_from c.args.enumerators.now) ss ks c.in_ok-may_list.ensures.asked c.in_ok-enumerated.ensures c.in_ok-declare_tag.ensures
