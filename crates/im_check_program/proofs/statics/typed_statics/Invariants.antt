use Rattle.std.proofs.Common.{◌≡◌, map, take}
use Rattle.im_ctype.specs.Table.{IsGrown, structs_of}
use Rattle.im_check_defined.specs.im_rules.FileScope.{FilePlace}
use Rattle.im_check_defined.specs.im_rules.TypedUnit.{static_named}
use Rattle.im_check_scopes.specs.Shape.{scopes_of}
use Rattle.im_check_defined.specs.Values.{first_values_in}
use Rattle.im_check_program.specs.Known.{AreStaticsOf}
use Rattle.im_check_program.proofs.statics.typed_statics.Given as goal

abbrev pub invariant-loop-number : goal.invariant-loop-number
invariant-loop-number l =
    ((e : FilePlace) → e.context.known ≡ structs_of l.fn.table → e.context.scopes ≡ scopes_of l.scope → AreStaticsOf l.table (map (static_named e (first_values_in l.given)) (take l.number l.statics)) l.done.items)
    × IsGrown l.fn.table l.table
