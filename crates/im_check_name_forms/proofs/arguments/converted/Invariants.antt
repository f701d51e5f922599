use Rattle.std.proofs.Common.{◌≡◌, take, length}
use Rattle.im_ctype.specs.Table.{structs_of}
use Rattle.im_types.specs.Shape.{types_in}
use Rattle.im_check_conversions.specs.im_rules.Conversions as c
use Rattle.im_check_name_forms.specs.Lists.{exprs_from, terms_in}
use Rattle.im_check_name_forms.proofs.arguments.converted.Given as goal

abbrev pub invariant-loop-argument : goal.invariant-loop-argument
invariant-loop-argument l = (l.i ≡ length l.yielded) × (exprs_from l.table l.done.items ≡ c.converted (structs_of l.table) (types_in (take l.i l.parameters)) (terms_in l.table l.yielded))
