-- The outline of a unit as a Rust value.
use Rattle.im_check_name_map.specs.im_rules.Outline as o
use Rattle.im_check_outline.specs.declared.unit.UnitOutline.{UnitOutline}

abbrev pub outline_in : UnitOutline → o.Outline
outline_in u = record { statics = u.statics; bodies = u.bodies; lists = u.lists }
