-- What selection is given with a function.
use Rattle.std.specs.Prelude.{ℕ, List}
use Rattle.im_block.specs.declared.unit.Function.{Function}
use Rattle.im_frame.specs.declared.layout.Layout.{Layout}
use Rattle.im_select.specs.declared.names.Names.{Names}

-- the addresses of statics; how many functions there are; the function, the layout of its frame; the label of its block 0
pub record Given : Type 0 where
  pub statics : List ℕ
  pub functions : ℕ
  pub function : Function
  pub layout : Layout
  pub first_block : ℕ

abbrev pub given : Names → Given
given names = record { statics = names.statics.now; functions = names.functions; function = names.function.now; layout = names.layout.now; first_block = names.first_block }
