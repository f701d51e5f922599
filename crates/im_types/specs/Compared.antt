-- A function type compared by its parts. Private contracts alone speak of this.
use Rattle.std.specs.Prelude.{Bool, false}
use Rattle.im_ctype.specs.Types.{CType, CTypes, function, same_type, same_types}

abbrev pub same_result : CType → CType → Bool
same_result r (function s qs) = same_type r s
same_result r _ = false

abbrev pub same_parameters : CTypes → CType → Bool
same_parameters ps (function s qs) = same_types ps qs
same_parameters ps _ = false
