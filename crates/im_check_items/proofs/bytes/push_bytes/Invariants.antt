use Rattle.std.proofs.Common.{◌≡◌, ◌++◌, drop}
use Rattle.im_ctype.specs.Table.{Table}
use Rattle.im_check_conversions.specs.im_rules.Initialisers as n
use Rattle.im_types.specs.Shape.{type_of}
use Rattle.im_check_items.specs.Shape.{items_in}
use Rattle.im_check_items.proofs.bytes.push_bytes.Given as goal

abbrev pub invariant-loop-byte : goal.invariant-loop-byte
invariant-loop-byte l = (types : Table)
    → items_in types l.items.items ++ n.byte_items l.at (type_of l.ty) (drop l.byte-index l.bytes) ≡ items_in types l.initial.items.items ++ n.byte_items l.offset (type_of l.ty) l.bytes
