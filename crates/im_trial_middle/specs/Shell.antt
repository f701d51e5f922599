-- What a function has, whatever its blocks are, that is made for a row of lines.
use Rattle.std.specs.Prelude.{◌≡◌, ◌<◌, length}
use Rattle.im_block.specs.declared.unit.Function.{Function}
use Rattle.im_block.specs.declared.unit.Registers.TheVariants.{Machine}

pub record IsShell (f : Function) : Type 0 where
  pub registers : f.registers ≡ Machine
  pub count : f.register_count ≡ 32
  pub received : f.first_parameter ≡ 10
  pub entry : f.entry < length f.blocks.items
