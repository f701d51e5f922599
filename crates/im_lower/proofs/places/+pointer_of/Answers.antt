use Rattle.std.proofs.Common.{◌≡◌, ◌+◌, ap, sym, ◌∙◌}
use Rattle.im_typed.specs.declared.expression.Expr.{Expr}
use Rattle.im_typed.specs.declared.expression.Place.{Place}
use Rattle.im_typed.specs.ProgramOf.{expr_of, place_of}
use Rattle.im_lower_plain.specs.Make.{make, make_place}
use Rattle.im_lower.proofs.Makes.{no_pointer, reached_by}
use Rattle.im_lower.proofs.places.+pointer_of.Goals as goal

pub returns-in-Static-clause-made : goal.returns-in-Static-clause-made
returns-in-Static-clause-made t c = λ types g first free m. no_pointer g first types c.args.place.now free m c.in-Static.is

pub returns-in-Target-clause-made : goal.returns-in-Target-clause-made
returns-in-Target-clause-made t c = λ types g first free m.
    ap (λ (x : Place). make_place g first (place_of types x) free m) c.in-Target.is
    ∙ sym (ap (λ (x : Expr). make g first (expr_of types x) free (free + 1) m) c.deref.ensures)

pub returns-in-Member-clause-made : goal.returns-in-Member-clause-made
returns-in-Member-clause-made t c = λ types g first free m.
    let same = ap (λ (x : Place). make_place g first (place_of types x) free m) c.in-Member.is
    ∙ sym (ap (λ (x : Place). make_place g first (place_of types x) free m) c.deref-in-Member.ensures) in
    reached_by g first types c.pointer_of.result free m m _ _ same (c.pointer_of.ensures.made types g first free m)
