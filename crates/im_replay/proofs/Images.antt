-- From a loaded image to what its run owes.
use Rattle.std.proofs.Common.{◌≡◌, ◌≢◌, ℕ, zero, suc, ◌+◌, ◌*◌, ◌%◌, ◌^◌, ◌<◌, Option, Some, None, refl, sym, ap, ◌∙◌, subst, arith}
use Rattle.im_mem.specs.Memory.{Mem, little, loaded, Stands}
use Rattle.im_rv.specs.Steps.{Cpu, Stepped}
use Rattle.im_rv.specs.Decode.{Line}
use Rattle.im_rv.specs.Runs.{decoded}
use Rattle.im_rv.specs.Effects.{effect_of}
use Rattle.im_rv.proofs.Changes.{zero_stays}
use Rattle.im_rv.proofs.Locality.{decoded_line}
use Rattle.im_rv.proofs.Tearing.{writes_small}
use Rattle.im_rv.proofs.Effecting.{step_mem}
use Rattle.im_rv.proofs.Sizes.{step_words}
use Rattle.im_device.specs.Run.{boot, index_of}
use Rattle.im_ckpt.specs.Runs.{State, line_at}
use Rattle.im_ckpt.specs.Buffers.{buffer}
use Rattle.im_ckpt.specs.Recovery.{Restored, recovery_words}
use Rattle.im_ckpt.specs.Checkpoint.{checkpoint_words}
use Rattle.im_ckpt.specs.Laws.{CanResume, is_runtime}
use Rattle.im_ckpt.proofs.Resume.{cpu_after, recovered, recovered_words}
use Rattle.im_replay.specs.Needed.{Needed}
use Rattle.im_replay.specs.Sections.{IsLive}
use Rattle.im_replay.specs.Uninterrupted.{uninterrupted}
use Rattle.im_replay.specs.Owed.{IsOwed}
use Rattle.im_replay.specs.Compiled.{IsReplayable}
use Rattle.im_replay.proofs.Endless.{is_run, first_state}

-- ---- where a run begins

pub can_resume : (m : Mem) (code : ℕ) → IsReplayable m code → CanResume m
can_resume m code c = record {
  bytes = c.small;
  recovery = c.recovery;
  index = subst (λ z. z < 2) (sym c.index) (omega arith);
  even = ap (λ z. little m (buffer z) 4 % 2) c.index ∙ c.start_even;
}

-- the live buffer at the beginning
pub first_live : (run : ℕ → State) (m : Mem) (c : Cpu) → run 0 ≡ record { cpu = c; mem = m } → Restored m (buffer (index_of m)) c → ((i : ℕ) → Needed run 0 i → (i ≢ 3) × (i ≢ 4) × (i < 32)) → ((a : ℕ) → m a < 256) → IsLive run 0 m
first_live run m c e r needs small = record {
  place = ap (λ (s : State). little m (buffer (index_of s.mem)) 4) e ∙ sym r.place ∙ sym (ap (λ (s : State). s.cpu.pc) e);
  regs = λ i n pos. (let o = needs i n in
      ap (λ (s : State). little m (buffer (index_of s.mem) + 4 * i) 4) e ∙ sym (r.regs i pos o.2 o.0 o.1) ∙ sym (ap (λ (s : State). s.cpu.x i) e));
  small = small;
}

-- ---- what any loaded memory's run has

module _ (m : Mem) (can : CanResume m) where
  pub zeros : (t : ℕ) → (uninterrupted m t).cpu.x 0 ≡ 0
  zeros zero = ap (λ (s : State). s.cpu.x 0) (first_state m can) ∙ (recovered m 0 can).zero_reg
  zeros (suc t) = ap (λ (s : State). s.cpu.x 0) (is_run m t) ∙ zero_stays (uninterrupted m t).cpu (uninterrupted m t).mem (zeros t)

  pub bytes : (t a : ℕ) → (uninterrupted m t).mem a < 256
  bytes zero a = subst (λ (s : State). s.mem a < 256) (sym (first_state m can)) (can.bytes a)
  bytes (suc t) a = subst (λ (s : State). s.mem a < 256) (sym (is_run m t)) (subst (λ z. z < 256) (sym (step_mem (uninterrupted m t).cpu (uninterrupted m t).mem a)) (writes_small (uninterrupted m t).mem (effect_of (uninterrupted m t).cpu (uninterrupted m t).mem) (bytes t) a))

  pub words : (t i : ℕ) → (uninterrupted m t).cpu.x i < 2 ^ 32
  words zero i = subst (λ (s : State). s.cpu.x i < 2 ^ 32) (sym (first_state m can)) (recovered_words m 0 (omega arith) can i)
  words (suc t) i = subst (λ (s : State). s.cpu.x i < 2 ^ 32) (sym (is_run m t)) (step_words (uninterrupted m t).cpu (uninterrupted m t).mem (words t) (bytes t) i)

  pub first_mem : (uninterrupted m 0).mem ≡ m
  first_mem = ap (λ (s : State). s.mem) (first_state m can)

  pub first_place : (uninterrupted m 0).cpu.pc ≡ little m (buffer (index_of m)) 4
  first_place = ap (λ (s : State). s.cpu.pc) (first_state m can) ∙ (recovered m 0 can).place

module _ (m : Mem) (code : ℕ) (c : IsReplayable m code) where
  can : CanResume m
  can = can_resume m code c

  -- where nothing faults there is an instruction
  record Found (t : ℕ) : Type 0 where
    line : Line
    is : line_at (uninterrupted m t) ≡ Some line

  found_in : (t : ℕ) (o : Option Line) → line_at (uninterrupted m t) ≡ o → Found t
  found_in t None e = absurd (c.runs.no_fault t (uninterrupted m t).cpu.pc (ap (λ (s : Stepped). s.went) (decoded_line (uninterrupted m t).cpu (uninterrupted m t).mem (loaded (uninterrupted m t).mem (uninterrupted m t).cpu.pc 4) ∙ ap (decoded (uninterrupted m t).cpu (uninterrupted m t).mem) e)))
  found_in t (Some l) e = record { line = l; is = e }

  found : (t : ℕ) → Found t
  found t = found_in t (line_at (uninterrupted m t)) refl

  place : (uninterrupted m 0).cpu.pc ≡ little m 128 4
  place = first_place m can ∙ ap (λ z. little m (buffer z) 4) c.index

  pub owed_of : IsOwed (uninterrupted m) code
  owed_of = record {
    based = record { steps = is_run m; long = c.long; recovery = subst (λ (n : Mem). Stands n 4096 recovery_words) (sym (first_mem m can)) c.recovery; checkpoint = subst (λ (n : Mem). Stands n 4352 checkpoint_words) (sym (first_mem m can)) c.checkpoint };
    line = λ t. (found t).line;
    decodes = λ t. (found t).is;
    no_fault = c.runs.no_fault;
    fetches = c.runs.fetches;
    writes_plain = c.runs.writes_plain;
    reads_plain = c.runs.reads_plain;
    outside_first = ap is_runtime place ∙ c.start_outside;
    cuts = c.runs.cuts;
    needs = c.runs.needs;
    no_war = c.runs.no_war;
    index_first = subst (λ (n : Mem). index_of n < 2) (sym (first_mem m can)) can.index;
    words = words m can;
    zero_reg = zeros m can;
    even_first = ap (λ z. z % 2) place ∙ c.start_even;
    needs_first = c.runs.needs_first;
    begins = subst (λ (n : Mem). IsLive (uninterrupted m) 0 n) (sym (first_mem m can)) (first_live (uninterrupted m) m (cpu_after 33 (boot 0) m) (first_state m can) (recovered m 0 can) c.runs.needs_first c.small);
  }
