use Rattle.std.proofs.Common.{◌∙◌, ap}
use Rattle.std.proofs.lemmas.Result.{err_from_is_err_and}
use Rattle.im_ctree.specs.Shape.{maybe_initializer_of}
use Rattle.im_rules.specs.Initialisers.{completed}
use Rattle.im_ctree_parts.specs.Lists.{list_from}
use Rattle.im_types.specs.Shape.{type_of}
use Rattle.im_check_declarators.specs.Shape.{declared_of}
use Rattle.im_check_file_place.specs.Files.{file_place_of}
use Rattle.im_check_file_declarations.proofs.Firsts.{initialised_so, same_known, name_refused, name_large, name_done}
use Rattle.im_check_file_declarations.proofs.entered.entered.Goals as goal

pub returns-in_err-declared_in_file : goal.returns-in_err-declared_in_file
returns-in_err-declared_in_file c =
    let p = err_from_is_err_and c.from_residual-in_err-declared_in_file.result c.from_residual-in_err-declared_in_file.ensures.1 in
    let y = declared_of c.args.y.now in
    let i = maybe_initializer_of c.args.initializer.now in
    let e = c.completed-ty.ensures ∙ ap (λ z. completed z i) c.in_ok-copy.ensures in
    rw (p.1, p.2) (name_refused (file_place_of c.args.file.now) (list_from c.args.specifiers.now) y i c.args.at _ _ _ e (c.is_some-whole.ensures ∙ initialised_so c.args.initializer.now) c.in_err-declared_in_file.ensures.asked)

pub returns-in_err-all_fit : goal.returns-in_err-all_fit
returns-in_err-all_fit c =
    let p = err_from_is_err_and c.from_residual-in_err-all_fit.result c.from_residual-in_err-all_fit.ensures.1 in
    let y = declared_of c.args.y.now in
    let i = maybe_initializer_of c.args.initializer.now in
    let e = c.completed-ty.ensures ∙ ap (λ z. completed z i) c.in_ok-copy.ensures in
    let same = same_known c.args.file.now c.declared_in_file.new.file c.table.result.now c.in_ok-declared_in_file.ensures.others c.table.ensures in
    rw (p.1, p.2) (name_large (file_place_of c.args.file.now) (list_from c.args.specifiers.now) y i c.args.at _ (type_of c.completed-ty.result) _ same e c.in_err-all_fit.ensures)

pub returns : goal.returns
returns c =
    let y = declared_of c.args.y.now in
    let i = maybe_initializer_of c.args.initializer.now in
    let e = c.completed-ty.ensures ∙ ap (λ z. completed z i) c.in_ok-copy.ensures in
    let w = c.is_some-whole.ensures ∙ initialised_so c.args.initializer.now in
    let d = c.in_ok-declared_in_file.ensures in
    let same = same_known c.args.file.now c.declared_in_file.new.file c.table.result.now d.others c.table.ensures in
    (e, name_done (file_place_of c.args.file.now) (file_place_of c.declared_in_file.new.file) (list_from c.args.specifiers.now) y i (type_of c.completed-ty.result) _ _ e w d.asked d.declared same c.in_ok-all_fit.ensures)
