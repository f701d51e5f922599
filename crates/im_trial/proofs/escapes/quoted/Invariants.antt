use Rattle.std.proofs.Common.{◌≡◌, ◌++◌, take}
use Rattle.std.specs.Prelude.{codes, string_bytes}
use Rattle.std.specs.List.{flat_map}
use Rattle.im_trial.specs.Escapes.{escape}
use Rattle.im_trial.proofs.escapes.quoted.Given as goal

abbrev pub invariant-loop-byte : goal.invariant-loop-byte
invariant-loop-byte l = string_bytes l.text ≡ codes " \"" ++ flat_map escape (take l.byte-index l.bytes)
