use Rattle.std.proofs.Common.{◌≡◌, ◌+◌, take}
use Rattle.im_ctype.specs.Table.{IsGrown, structs_of}
use Rattle.im_check_defined.specs.im_rules.TypedUnit.{string_statics}
use Rattle.im_check_file_place.specs.Files.{bytes_of}
use Rattle.im_check_program.specs.Known.{AreStaticsOf}
use Rattle.im_check_program.proofs.strings.text_statics.Given as goal

abbrev pub invariant-loop-text : goal.invariant-loop-text
invariant-loop-text l =
    AreStaticsOf l.table (string_statics (structs_of l.fn.table) 1 (bytes_of (take l.text-index l.texts))) l.done.items
    × IsGrown l.fn.table l.table
    × (l.number ≡ 1 + l.text-index)
