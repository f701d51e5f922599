-- A setting of the small view of a program. Private contracts alone speak of this.
use Rattle.std.specs.Prelude.{ℕ, List}
use Rattle.im_typed.specs.Program.{Prog}
use Rattle.im_typed.specs.Programs.{Setting}
use Rattle.im_eval_machine.specs.Small.{small_prog}

abbrev pub small_setting : Prog → List ℕ → ℕ → ℕ → Setting
small_setting g frames stack capacity =
    record { prog = small_prog g; frames = frames; stack = stack; capacity = capacity }
