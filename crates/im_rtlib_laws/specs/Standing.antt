-- Where the runtime stands in a memory: the checkpoint, and the routines' lines, each at its place.
use Rattle.std.specs.Prelude.{◌≡◌, ◌≤◌, ℕ, ◌+◌, ◌-◌, ◌%◌, ◌^◌, List, [], ◌∷◌, Option, Some, None}
use Rattle.im_mem.specs.Memory.{Mem, Stands}
use Rattle.im_rv.specs.Decode.{Line}
use Rattle.im_rv.specs.Lines.{CodeLine}
use Rattle.im_ckpt.specs.Checkpoint.{checkpoint_start, checkpoint_words, entry_at}
use Rattle.im_rv_reach.specs.Instructions.{Holds}
use Rattle.im_rtlib.specs.Routines.{routine, exit, stack, service_label, exit_label, stack_label}
use Rattle.im_serve.specs.declared.service.Service.{Service}

-- how far it is from one address to another, as a word
abbrev pub distance : ℕ → ℕ → ℕ
distance from to = (to + (2 ^ 32 - from)) % 2 ^ 32

-- an instruction at an address: one that has a target leads to the target's place
abbrev pub aimed_at : (ℕ → ℕ) → ℕ → Line → Option ℕ → Line
aimed_at place pc line None = line
aimed_at place pc line (Some label) = record line { imm = distance pc (place label) }

-- a label that stands here has this place
abbrev pub IsPlaceOf : (ℕ → ℕ) → ℕ → Option ℕ → Type 0
IsPlaceOf place pc None = Unit {0}
IsPlaceOf place pc (Some label) = place label ≡ pc

-- the lines stand one after another from an address on, where labels have these places
abbrev pub StandFrom : Mem → (ℕ → ℕ) → ℕ → List CodeLine → Type 0
StandFrom image place pc [] = Unit {0}
StandFrom image place pc (l ∷ ls) = Holds image pc (aimed_at place pc l.line l.target) × IsPlaceOf place pc l.label × StandFrom image place (pc + 4) ls

-- a memory that has the checkpoint and the routines: place is that of a label
pub record HasRoutines (image : Mem) (place : ℕ → ℕ) : Type 0 where
  pub checkpoint : Stands image checkpoint_start checkpoint_words
  pub entries : (m : ℕ) → 4 ≤ m → m ≤ 31 → place m ≡ entry_at m
  pub services_there : (service : Service) → StandFrom image place (place (service_label service)) (routine service)
  pub exit_there : StandFrom image place (place exit_label) exit
  pub stack_there : StandFrom image place (place stack_label) stack
