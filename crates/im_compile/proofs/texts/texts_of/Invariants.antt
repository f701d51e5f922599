use Rattle.std.proofs.Common.{◌≡◌, map, take}
use Rattle.std.specs.Prelude.{string_bytes}
use Rattle.im_compile.specs.Made.{texts_of_names}
use Rattle.im_compile.proofs.texts.texts_of.Given as goal

abbrev pub invariant-loop-name : goal.invariant-loop-name
invariant-loop-name l = map string_bytes l.texts.items ≡ texts_of_names (take l.name-index l.names)
