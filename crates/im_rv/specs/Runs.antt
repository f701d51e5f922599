-- One step of the machine, from the word at the pc, and runs of steps.
use Rattle.std.specs.Prelude.{ℕ, zero, suc, Option, Some, None}
use Rattle.im_rv.specs.declared.step.Went.{Went}
use Rattle.im_rv.specs.declared.step.Went.TheVariants.{On, Halted, Faulted}
use Rattle.im_mem.specs.Memory.{Mem, loaded}
use Rattle.im_rv.specs.Steps.{Cpu, Stepped, done_by, faulted}
use Rattle.im_rv.specs.Decode.{Line, decode}

abbrev pub decoded : Cpu → Mem → Option Line → Stepped
decoded c m None = faulted c m
decoded c m (Some i) = done_by c m i.op i.rd i.rs1 i.rs2 i.imm

abbrev pub fetched : Cpu → Mem → Option ℕ → Stepped
fetched c m None = faulted c m
fetched c m (Some w) = decoded c m (decode w)

-- one step: the word at the pc is fetched, decoded and done; a fault where one of these has no answer
abbrev pub step_of : Cpu → Mem → Stepped
step_of c m = fetched c m (loaded m c.pc 4)

abbrev pub go_on : (Cpu → Mem → Stepped) → Cpu → Mem → Went → Stepped
go_on next c m On = next c m
go_on next c m Halted = record { went = Halted; cpu = c; mem = m }
go_on next c m (Faulted at) = record { went = Faulted at; cpu = c; mem = m }

-- n steps, or fewer where one ends the run
abbrev pub runs : ℕ → Cpu → Mem → Stepped
runs zero c m = record { went = On; cpu = c; mem = m }
runs (suc n) c m = let s = step_of c m in go_on (runs n) s.cpu s.mem s.went
