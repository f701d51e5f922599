use Rattle.std.proofs.Common.{◌≡◌, drop}
use Rattle.im_ctype.specs.Table.{Table}
use Rattle.im_types.specs.Shape.{types_in}
use Rattle.im_check_conversions.specs.im_rules.Demands as d
use Rattle.im_check_name_forms.specs.Lists.{terms_in}
use Rattle.im_check_name_forms.proofs.arguments.all_fit.Given as goal

abbrev pub invariant-loop-i : goal.invariant-loop-i
invariant-loop-i l = (types : Table) → d.all_fit (types_in l.parameters) (terms_in types l.arguments) ≡ d.all_fit (types_in (drop l.i l.parameters)) (terms_in types (drop l.i l.arguments))
