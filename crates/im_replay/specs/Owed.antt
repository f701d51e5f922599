-- What a run of compiled code has, whichever memory it began with.
use Rattle.std.specs.Prelude.{◌≡◌, ◌≢◌, ℕ, suc, ◌+◌, ◌%◌, ◌^◌, ◌<◌, ◌≤◌, true, false, ◌||◌, Some, None}
use Rattle.im_mem.specs.Map.{code_start}
use Rattle.im_rv.specs.declared.step.Went.TheVariants.{Faulted}
use Rattle.im_rv.specs.Decode.{Line}
use Rattle.im_rv.specs.Runs.{step_of}
use Rattle.im_device.specs.Run.{index_of}
use Rattle.im_replay_path.specs.Sections.{start, wrote}
use Rattle.im_ckpt.specs.Runs.{State, line_at, flip, writes, reads}
use Rattle.im_ckpt.specs.Buffers.{is_buffer, is_fixed}
use Rattle.im_ckpt.specs.Laws.{is_runtime, IsCut, HasRuntime}
use Rattle.im_replay.specs.Needed.{Needed}
use Rattle.im_replay.specs.Sections.{IsLive}

-- the code ends before this address
pub record IsOwed (run : ℕ → State) (code : ℕ) : Type 0 where
  pub based : HasRuntime run code
  pub line : ℕ → Line
  pub decodes : (t : ℕ) → line_at (run t) ≡ Some (line t)
  pub no_fault : (t at : ℕ) → (step_of (run t).cpu (run t).mem).went ≢ Faulted at
  pub fetches : (t : ℕ) → (code_start ≤ (run t).cpu.pc) × ((run t).cpu.pc + 4 ≤ code)
  -- outside the runtime no step writes or reads a buffer, or writes INDEX or the code
  pub writes_plain : (t a : ℕ) → is_runtime (run t).cpu.pc ≡ false → (is_buffer a || is_fixed code a) ≡ true → writes run t a ≡ None
  pub reads_plain : (t a : ℕ) → is_runtime (run t).cpu.pc ≡ false → reads run t a ≡ true → is_buffer a ≡ false
  -- the runtime is entered by cuts alone
  pub outside_first : is_runtime (run 0).cpu.pc ≡ false
  pub cuts : (t : ℕ) → is_runtime (run t).cpu.pc ≡ false → is_runtime (run (suc t)).cpu.pc ≡ true → (m : ℕ) × IsCut run t m
  -- no register above xm is needed where the section behind a cut resumes, m + 8 steps on
  pub needs : (t m i : ℕ) → IsCut run t m → Needed run (t + m + 8) i → (i ≤ m) × (i ≢ 3) × (i ≢ 4)
  -- no byte that a section read before writing it is written later in that section; the runtime's accesses are left out
  pub no_war : (t u a : ℕ) → t ≤ u → start (flip run) t ≡ start (flip run) u → is_runtime (run t).cpu.pc ≡ false → is_runtime (run u).cpu.pc ≡ false
      → reads run t a ≡ true → wrote (flip run) (writes run) t a ≡ false → writes run u a ≡ None
  -- the beginning
  pub index_first : index_of (run 0).mem < 2
  pub words : (t i : ℕ) → (run t).cpu.x i < 2 ^ 32
  pub zero_reg : (t : ℕ) → (run t).cpu.x 0 ≡ 0
  pub even_first : (run 0).cpu.pc % 2 ≡ 0
  pub needs_first : (i : ℕ) → Needed run 0 i → (i ≢ 3) × (i ≢ 4) × (i < 32)
  pub begins : IsLive run 0 (run 0).mem
