use Rattle.std.proofs.Common.{◌≡◌, sym, ap, subst, MatchResult}
use Rattle.std.proofs.lemmas.Result.{err_from_is_err_and}
use Rattle.im_ctype.specs.Table.{structs_of}
use Rattle.im_types.specs.Shape.{type_of}
use Rattle.im_check_sizes.proofs.Over.{over_element, array_told, plain_of, other_told}
use Rattle.im_check_sizes.proofs.within.+all_fit.Goals as goal

pub returns-in_err-all_fit-in-Array : goal.returns-in_err-all_fit-in-Array
returns-in_err-all_fit-in-Array t c =
    let p = err_from_is_err_and c.from_residual.result c.from_residual.ensures.1 in
    let over = rw c.deref.ensures at c.in_err-all_fit-in-Array.ensures in
    rw (p.1, p.2, c.in-Array.is) (over_element (structs_of c.args.table.now) _ c.in-Array.field-1 _ over)

pub returns-in_ok-all_fit-in-Array : goal.returns-in_ok-all_fit-in-Array
returns-in_ok-all_fit-in-Array t c =
    let known = structs_of c.args.table.now in
    let all = rw c.deref.ensures at c.in_ok-all_fit-in-Array.ensures in
    rw c.in-Array.is (array_told known _ c.in-Array.field-1 c.fits.result all (rw c.in-Array.is at c.fits.ensures))

pub returns-in_default : goal.returns-in_default
returns-in_default t c =
    other_told (structs_of c.args.table.now) (type_of c.args.ty.now) c.fits-in_default.result (plain_of c.args.ty.now c.in_default.not-Array) c.fits-in_default.ensures
