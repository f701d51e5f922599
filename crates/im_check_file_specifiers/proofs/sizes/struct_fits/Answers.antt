use Rattle.std.proofs.lemmas.Result.{err_from_is_err_and}
use Rattle.im_ctype.specs.Table.{structs_of}
use Rattle.im_check_place.specs.Fields.{fields_of}
use Rattle.im_check_file_specifiers.proofs.MemberSizes.{struct_over, struct_told}
use Rattle.im_check_file_specifiers.proofs.sizes.struct_fits.Goals as goal

pub returns-in_err-members_fit : goal.returns-in_err-members_fit
returns-in_err-members_fit c =
    let p = err_from_is_err_and c.from_residual.result c.from_residual.ensures.1 in
    rw (p.1, p.2) (struct_over (structs_of c.args.table.now) (fields_of c.args.fields.now) c.args.number _ c.in_err-members_fit.ensures)

pub returns : goal.returns
returns c = struct_told (structs_of c.args.table.now) (fields_of c.args.fields.now) c.args.number c.fits.result c.in_ok-members_fit.ensures c.fits.ensures
