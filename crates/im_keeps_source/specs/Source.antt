-- A typed program as the passes see it.
use Rattle.std.specs.Prelude.{ℕ, map}
use Rattle.im_store.specs.Outcomes.{Outcome}
use Rattle.im_typed.specs.Program.{Func, Prog}
use Rattle.im_typed.specs.Programs.{meaning}
use Rattle.im_typed.specs.Counts.{func_need, prog_nodes}
use Rattle.im_block.specs.Meaning.{Setting}
use Rattle.im_keeps_passes.specs.Source.{Source}

abbrev pub means : Prog → Setting → ℕ → Outcome
means prog g fuel = meaning (record { prog = prog; frames = g.frames; stack = g.stack; capacity = g.capacity }) g.input fuel

abbrev pub source_of : Prog → Source
source_of prog =
    record { means = means prog; nodes = prog_nodes prog; statics = prog.statics; needs = map (λ (f : Func). func_need f) prog.funcs }
