-- Symbolic execution: what one step does where the word that is fetched is known, by its effect.
use Rattle.std.proofs.Common.{◌≡◌, ◌≢◌, ◌<◌, ℕ, suc, true, cond, Some, None, ap, ◌∙◌, arith}
use Rattle.std.proofs.lemmas.Bool.Decides.{nat_tests}
use Rattle.im_num.specs.Bytes.{bytes_of}
use Rattle.im_mem.specs.Memory.{Mem, little, loaded, is_place, written}
use Rattle.im_rv.specs.declared.step.Went.TheVariants.{On, Halted}
use Rattle.im_rv.specs.declared.effect.Extension.{Extension}
use Rattle.im_rv.specs.declared.effect.Effect.TheVariants.{Puts, Goes, Loads, Stores, Stops}
use Rattle.im_rv.specs.Steps.{Cpu, Stepped, sum_of, with_reg, extended, loads, effected, faulted, row}
use Rattle.im_rv.specs.Decode.{Line, decode}
use Rattle.im_rv.specs.Runs.{decoded, fetched, step_of, go_on, runs}

-- a step that goes on is one less to run
pub one_more : (n : ℕ) (c d : Cpu) (m k : Mem) → step_of c m ≡ record { went = On; cpu = d; mem = k } → runs (suc n) c m ≡ runs n d k
one_more n c d m k e = ap (λ (s : Stepped). go_on (runs n) s.cpu s.mem s.went) e

-- a step that halts ends the run
pub halts_here : (n : ℕ) (c d : Cpu) (m k : Mem) → step_of c m ≡ record { went = Halted; cpu = d; mem = k } → runs (suc n) c m ≡ record { went = Halted; cpu = d; mem = k }
halts_here n c d m k e = ap (λ (s : Stepped). go_on (runs n) s.cpu s.mem s.went) e

pub fetch_is : (m : Mem) (pc w : ℕ) → little m pc 4 ≡ w → is_place pc 4 ≡ true → loaded m pc 4 ≡ Some w
fetch_is m pc w h ok = ap (λ b. cond b (Some (little m pc 4)) None) ok ∙ ap Some h

-- the word at the pc is known, and what it stands for
pub record Fetches (c : Cpu) (m : Mem) (w : ℕ) (l : Line) : Type 0 where
  pub word : little m c.pc 4 ≡ w
  pub here : is_place c.pc 4 ≡ true
  pub line : decode w ≡ Some l

pub step_is : (c : Cpu) (m : Mem) (w : ℕ) (l : Line) → Fetches c m w l → step_of c m ≡ effected c m l.rd (row l.op c.pc (c.x l.rs1) (c.x l.rs2) l.imm)
step_is c m w l f = ap (fetched c m) (fetch_is m c.pc w f.word f.here) ∙ ap (decoded c m) f.line

-- a value for rd
pub puts_step : (c : Cpu) (m : Mem) (w : ℕ) (l : Line) (v target : ℕ) → Fetches c m w l → row l.op c.pc (c.x l.rs1) (c.x l.rs2) l.imm ≡ Puts v target → step_of c m ≡ record { went = On; cpu = record { pc = target; x = with_reg c.x l.rd v }; mem = m }
puts_step c m w l v target f e = step_is c m w l f ∙ ap (effected c m l.rd) e

-- a branch, or nothing
pub goes_step : (c : Cpu) (m : Mem) (w : ℕ) (l : Line) (target : ℕ) → Fetches c m w l → row l.op c.pc (c.x l.rs1) (c.x l.rs2) l.imm ≡ Goes target → step_of c m ≡ record { went = On; cpu = record { pc = target; x = c.x }; mem = m }
goes_step c m w l target f e = step_is c m w l f ∙ ap (effected c m l.rd) e

-- a load from a place
pub loads_step : (c : Cpu) (m : Mem) (w : ℕ) (l : Line) (a n : ℕ) (extension : Extension) → Fetches c m w l → row l.op c.pc (c.x l.rs1) (c.x l.rs2) l.imm ≡ Loads a n extension → is_place a n ≡ true → step_of c m ≡ record { went = On; cpu = record { pc = sum_of c.pc 4; x = with_reg c.x l.rd (extended n extension (little m a n)) }; mem = m }
loads_step c m w l a n extension f e ok =
    step_is c m w l f
    ∙ ap (effected c m l.rd) e
    ∙ ap (λ b. loads c m l.rd n extension (cond b (Some (little m a n)) None)) ok

-- a store to a place
pub stores_step : (c : Cpu) (m : Mem) (w : ℕ) (l : Line) (a n v : ℕ) → Fetches c m w l → row l.op c.pc (c.x l.rs1) (c.x l.rs2) l.imm ≡ Stores a n v → is_place a n ≡ true → step_of c m ≡ record { went = On; cpu = record { pc = sum_of c.pc 4; x = c.x }; mem = written m a (bytes_of n v) }
stores_step c m w l a n v f e ok =
    step_is c m w l f
    ∙ ap (effected c m l.rd) e
    ∙ ap (λ b. cond b (record { went = On; cpu = record { pc = sum_of c.pc 4; x = c.x }; mem = cond b (written m a (bytes_of n v)) m }) (faulted c m)) ok

-- ebreak
pub stops_step : (c : Cpu) (m : Mem) (w : ℕ) (l : Line) → Fetches c m w l → row l.op c.pc (c.x l.rs1) (c.x l.rs2) l.imm ≡ Stops → step_of c m ≡ record { went = Halted; cpu = c; mem = m }
stops_step c m w l f e = step_is c m w l f ∙ ap (effected c m l.rd) e

pub same_reg : (x : ℕ → ℕ) (rd v : ℕ) → 0 < rd → with_reg x rd v rd ≡ v
same_reg x rd v p = grind (arith, nat_tests)

pub other_reg : (x : ℕ → ℕ) (rd v i : ℕ) → i ≢ rd → with_reg x rd v i ≡ x i
other_reg x rd v i ne = grind (arith, nat_tests)

-- register 0 is never written
pub zero_reg : (x : ℕ → ℕ) (rd v : ℕ) → with_reg x rd v 0 ≡ x 0
zero_reg x rd v = grind (arith, nat_tests)
