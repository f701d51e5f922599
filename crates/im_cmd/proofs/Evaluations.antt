-- A source is evaluated: the stages put together.
use Rattle.std.proofs.Common.{◌≡◌, ℕ, List, Option, sym, ap, ◌∙◌}
use Rattle.im_io.specs.Shelf.{ShelfState}
use Rattle.im_store.specs.Outcomes.{Outcome as EndOfRun}
use Rattle.im_typed.specs.declared.program.Prog.{Prog}
use Rattle.im_typed.specs.Program.{Prog as Program}
use Rattle.im_typed.specs.ProgramOf.{program_of}
use Rattle.im_lower_plain.specs.MakeUnit.{KnowsTypes}
use Rattle.im_eval_machine.specs.Settings.{HasKnownTypes}
use Rattle.im_keeps_source.specs.Laws.{meaning_of}
use Rattle.im_compile.specs.declared.built.Built.{Built}
use Rattle.im_driver.specs.im_keeps_built.Laws.{frames_of}
use Rattle.im_cmd_words.specs.declared.command.BuildOptions.{BuildOptions}
use Rattle.im_cmd_words.specs.Named.{Evaluation}
use Rattle.im_cmd_lines.specs.Refusals.{NoMemory}
use Rattle.im_cmd.specs.Builds.{source_limit, source_starved}
use Rattle.im_cmd.specs.Runs.{TakesInput}
use Rattle.im_cmd.specs.Evaluations.{Evaluates, RefusesEvaluation, eval_uncompiled}
use Rattle.im_cmd.specs.Stages.{CompilesFrom}
use Rattle.im_cmd.proofs.Refusing.{unchanged_read, unchanged_then}
use Rattle.im_cmd.proofs.Stages.{input_unchanged}

pub known : (prog : Prog) → KnowsTypes prog → HasKnownTypes prog
known prog h = record { statics = h.statics; objects = h.objects }

pub evaluation_done : (source : List ℕ) (building : BuildOptions) (asked : Evaluation) (prog : Prog) (built : Built) (input : List ℕ) (end : EndOfRun) (a b c : ShelfState)
    → CompilesFrom source building prog built a b → TakesInput asked.input input b c
    → end ≡ meaning_of (program_of prog) (frames_of built) built.image input asked.fuel → Evaluates source building asked built end a c
evaluation_done source building asked prog built input end a b c h takes e = record {
  read = b;
  compiles = h.compiles;
  input = input;
  takes = takes;
  is_meaning = e ∙ ap (λ (p : Program). meaning_of p (frames_of built) built.image input asked.fuel) (sym h.is_made);
}

pub evaluation_starved : (source : List ℕ) (building : BuildOptions) (asked : Evaluation) (prog : Prog) (built : Built) (input : List ℕ) (a b c : ShelfState)
    → CompilesFrom source building prog built a b → TakesInput asked.input input b c → RefusesEvaluation source building asked a c NoMemory
evaluation_starved source building asked prog built input a b c h takes =
    eval_uncompiled NoMemory (source_starved (unchanged_then a b c (unchanged_read source h.compiles.text source_limit a b h.compiles.reads) (input_unchanged asked.input input b c takes.reads)))
