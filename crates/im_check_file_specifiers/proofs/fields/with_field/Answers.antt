use Rattle.std.proofs.Common.{◌∙◌, ap, [], ◌∷◌, ◌++◌}
use Rattle.std.proofs.lemmas.Result.{err_from_is_err_and}
use Rattle.std.proofs.lemmas.List.{map_push}
use Rattle.im_ctree.specs.Shape.{declarator_of}
use Rattle.im_ctype.specs.Table.{structs_of}
use Rattle.im_rules.specs.Strings.{strings_of_declarator}
use Rattle.im_check_declarators.specs.Shape.{declared_of}
use Rattle.im_check_type_specifiers.specs.Specified.{qualified_of}
use Rattle.im_check_place.specs.declared.place.Place.{Place}
use Rattle.im_check_file_place.specs.Files.{file_place_of}
use Rattle.im_check_place.specs.Fields.{field_of, fields_of}
use Rattle.im_check_place.specs.declared.field.Field.{Field}
use Rattle.im_check_file_specifiers.proofs.Places.{passed}
use Rattle.im_check_file_specifiers.proofs.Members.{field_undeclared, field_refused, field_done}
use Rattle.im_check_file_specifiers.proofs.fields.with_field.Goals as goal

pub returns-in_err-y : goal.returns-in_err-y
returns-in_err-y c = λ rest.
    let p = err_from_is_err_and c.from_residual-in_err-y.result c.from_residual-in_err-y.ensures.1 in
    rw (p.1, p.2) (field_undeclared (file_place_of c.args.file.now) (qualified_of c.args.q.now) (declarator_of c.args.d.now) rest _ (rw c.in_ok-base.ensures at c.in_err-y.ensures))

pub returns-in_err-asked : goal.returns-in_err-asked
returns-in_err-asked c = λ rest.
    let p = err_from_is_err_and c.from_residual-in_err-asked.result c.from_residual-in_err-asked.ensures.1 in
    let y = rw c.in_ok-base.ensures at c.in_ok-y.ensures in
    rw (p.1, p.2) (field_refused (file_place_of c.args.file.now) _ (qualified_of c.args.q.now) c.args.d.now (declared_of c.in_ok-y.y) rest _ y.0 (ap (λ (z : Place). structs_of z.structs) y.1) c.in_err-asked.ensures.asked)

pub returns : goal.returns
returns c = λ rest.
    let y = rw c.in_ok-base.ensures at c.in_ok-y.ensures in
    let place = passed c.args.file.now _ c.append_declarator.new.texts (strings_of_declarator (declarator_of c.args.d.now)) y.1 c.in_ok-append_declarator.ensures in
    let added = ap fields_of c.in_ok-push.ensures.items ∙ map_push {X = Field} field_of c.args.fields.now.items c.field.result ∙ ap (λ z. fields_of c.args.fields.now.items ++ z ∷ []) c.field.ensures in
    field_done (file_place_of c.args.file.now) _ (qualified_of c.args.q.now) (declarator_of c.args.d.now) (declared_of c.in_ok-y.y) rest _ _ y.0 place c.in_ok-asked.ensures.asked added y.2
