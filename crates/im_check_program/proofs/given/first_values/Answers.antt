use Rattle.std.proofs.Common.{◌∙◌, ap, sym, refl, length}
use Rattle.std.proofs.lemmas.Option.{slice_get_read, slice_get_past}
use Rattle.im_ctype.specs.Table.{structs_of}
use Rattle.im_types.specs.Shape.{type_of}
use Rattle.im_check_defined.specs.im_rules.Outline.{place_in}
use Rattle.im_check_defined.specs.im_rules.TypedUnit.{values_or_zero, cells_in}
use Rattle.im_check_defined.specs.Values.{no_types}
use Rattle.im_check_defined.proofs.Constants.{same_values}
use Rattle.im_check_program.proofs.Firsts.{on_ok, none_given, one_given}
use Rattle.im_check_program.proofs.given.first_values.Goals as goal

pub returns-in-None : goal.returns-in-None
returns-in-None c =
    let name = c.args.name.now in
    let gs = c.args.given.now in
    let at = c.place.ensures ∙ ap (place_in name) c.requires in
    on_ok c.zero_values.result (λ vs e. e ∙ ap (values_or_zero (cells_in (structs_of c.args.table.now) (type_of c.args.ty.now))) (sym (none_given name gs c.place.result at (slice_get_past gs c.place.result c.in-None.ensures.lookup.3)))) c.zero_values.ensures

pub returns-in_ok-from_slice-in-Some : goal.returns-in_ok-from_slice-in-Some
returns-in_ok-from_slice-in-Some c =
    let name = c.args.name.now in
    let gs = c.args.given.now in
    let at = c.place.ensures ∙ ap (place_in name) c.requires in
    let one = one_given name gs c.place.result c.in-Some.one.now at (slice_get_read gs (length gs) c.place.result c.in-Some.one.now refl c.in-Some.ensures.lookup.3.0 c.in-Some.ensures.lookup.1) in
    rw (c.in_ok-from_slice-in-Some.ensures.items, c.deref.ensures.value)
    (same_values c.args.table.now no_types c.in-Some.one.now.values.items ∙ ap (values_or_zero (cells_in (structs_of c.args.table.now) (type_of c.args.ty.now))) (sym one))
