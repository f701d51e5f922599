use Rattle.std.proofs.Common.{◌≡◌, ◌++◌, take}
use Rattle.std.specs.List.{flat_map}
use Rattle.im_image.specs.Text.{object_text}
use Rattle.im_image.proofs.writing.write_image.Given as goal

abbrev pub invariant-loop-object : goal.invariant-loop-object
invariant-loop-object l = l.text.items ≡ l.initial.text.items ++ flat_map object_text (take l.object-index l.object-items)
