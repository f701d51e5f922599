-- Behind its end a run owes nothing more.
use Rattle.std.proofs.Common.{◌≡◌, ◌≢◌, ℕ, suc, ◌+◌, ◌<◌, ◌≤◌, inl, inr, Bool, true, false, not, ◌&&◌, ◌||◌, Option, Some, None, List, refl, sym, ap, ◌∙◌, subst, arith}
use Rattle.std.proofs.lemmas.Bool.{eqb-true}
use Rattle.std.specs.Prelude.{◌==◌, ◌%◌}
use Rattle.im_rv.specs.declared.step.Went.TheVariants.{Faulted}
use Rattle.im_rv.specs.declared.effect.Effect.TheVariants.{Stops}
use Rattle.im_rv.specs.Runs.{step_of}
use Rattle.im_rv.specs.Effects.{effect_by, rs1_of, rs2_of, writes_by, reads_by}
use Rattle.im_rv.specs.Code.{address, instruction_at}
use Rattle.im_mem.specs.Map.{code_start}
use Rattle.im_replay_path.proofs.Times.{order}
use Rattle.im_ckpt.specs.Runs.{State, line_at, effect_at, is_end, IsRun, ends, writes}
use Rattle.im_ckpt.specs.Buffers.{is_buffer, is_fixed, saves_by}
use Rattle.im_ckpt.specs.Checkpoint.{entry_at}
use Rattle.im_ckpt.specs.Laws.{is_runtime, IsCut}
use Rattle.im_replay.specs.Needed.{uses}
use Rattle.im_replay.specs.Output.{Extends}
use Rattle.im_replay.proofs.Shows.{extends_self}
use Rattle.im_gap.specs.declared.flow.Turn.TheVariants.{Returns}
use Rattle.im_gap.specs.Flow.{turn_of}
use Rattle.im_gap.specs.Flows.{IsAt, GoesBehindCall}
use Rattle.im_keeps_until.specs.Until.{halt_line, IsUsedAt, OwesUntil}
use Rattle.im_keeps_until.proofs.Still.{still}

-- a halt uses x0 alone, and touches no memory

zero_alone : (i : ℕ) (b : Bool) → (i == 0 || (i == 0 && b)) ≡ true → i ≡ 0
zero_alone i b h = eqb-true i 0 (held (i == 0) h)
  where
    held : (c : Bool) → (c || (c && b)) ≡ true → c ≡ true
    held true q = refl
    held false q = q

uses_zero : (s : State) (i : ℕ) → line_at s ≡ Some halt_line → uses s i ≡ true → i ≡ 0
uses_zero s i line h =
    zero_alone i (not (saves_by (effect_at s))) (subst (λ l. (i == rs1_of l || (i == rs2_of l && not (saves_by (effect_at s)))) ≡ true) line h)

stops : (s : State) → line_at s ≡ Some halt_line → effect_at s ≡ Stops
stops s line = ap (effect_by s.cpu) line

writes_none : (s : State) (a : ℕ) → line_at s ≡ Some halt_line → writes_by (effect_at s) a ≡ None
writes_none s a line = ap (λ f. writes_by f a) (stops s line)

none_some : (v : ℕ) (o : Option ℕ) → o ≡ None → o ≡ Some v → ⊥
none_some v o n s = let bad : None ≡ Some v = sym n ∙ s in cc

module _ (words : List ℕ) (code : ℕ) (run : ℕ → State) (e n : ℕ) (steps : IsRun run) (inside : e < n) (over : ends run e ≡ true) (h : OwesUntil words code run n) where
  same : (t : ℕ) → e ≤ t → run t ≡ run e
  same t le = still run steps e over t le

  -- what holds of each state up to the end holds of all
  each : (P : State → Type 0) → ((t : ℕ) → t < n → P (run t)) → (t : ℕ) → P (run t)
  each P p t = elim (order e t) [
    | inl lt ↦ subst P (sym (same t (omega arith))) (p e inside)
    | inr le ↦ p t (omega arith)
  ]

  halt : (t : ℕ) → e < t → line_at (run t) ≡ Some halt_line
  halt t lt = subst (λ (s : State). line_at s ≡ Some halt_line) (sym (same t (omega arith))) (h.safely.halts e inside over)

  silent : (t a v : ℕ) → e < t → writes run t a ≡ Some v → ⊥
  silent t a v lt w = none_some v (writes run t a) (writes_none (run t) a (halt t lt)) w

  cut_there : (t m : ℕ) → e < t → IsCut run t m → IsCut run e m
  cut_there t m lt c =
      let rt = same t (omega arith) in
      let rs = same (suc t) (omega arith) ∙ sym (same (suc e) (omega arith)) in
      record {
        above = c.above;
        below = c.below;
        entered = subst (λ (s : State). s.cpu.pc ≡ entry_at m) rs c.entered;
        linked = subst (λ (s : State). (run (suc e)).cpu.x 3 ≡ s.cpu.pc + 4) rt (subst (λ (s : State). s.cpu.x 3 ≡ (run t).cpu.pc + 4) rs c.linked);
        even = subst (λ (s : State). (s.cpu.pc + 4) % 2 ≡ 0) rt c.even;
        outside = subst (λ (s : State). is_runtime s.cpu.pc ≡ false) rt c.outside;
        back = subst (λ (s : State). is_runtime (s.cpu.pc + 4) ≡ false) rt c.back;
      }

  no_entry : (t : ℕ) → e ≤ t → is_runtime (run t).cpu.pc ≡ false → is_runtime (run (suc t)).cpu.pc ≡ true → ⊥
  no_entry t le a b =
      let one : run (suc t) ≡ run t = same (suc t) (omega arith) ∙ sym (same t le) in
      let bad : true ≡ false = sym b ∙ ap (λ (s : State). is_runtime s.cpu.pc) one ∙ a in
      cc

  used_zero : (t i time : ℕ) → e < time → IsUsedAt run t i time → i ≡ 0
  used_zero t i time lt used = uses_zero (run time) i (halt time lt) used.used

  behind : (t i : ℕ) → e < t → is_runtime (run t).cpu.pc ≡ false → IsAt run t i → turn_of (instruction_at words i) ≡ Returns → GoesBehindCall words run t
  behind t i lt out at turn =
      let rt = same t (omega arith) in
      let rs = same (suc e) (omega arith) ∙ sym (same (suc t) (omega arith)) in
      let g = h.flows.returns e i inside (subst (λ (s : State). is_runtime s.cpu.pc ≡ false) rt out) (subst (λ (s : State). s.cpu.pc ≡ address i) rt at) turn in
      (g.0, g.1, subst (λ (s : State). s.cpu.pc ≡ address g.0) rs g.2)

  grown : (t : ℕ) → e < t → Extends (run t).mem (run (suc t)).mem
  grown t lt =
      subst (λ (s : State). Extends s.mem (run (suc t)).mem) (sym (same t (omega arith))) (subst (λ (s : State). Extends (run e).mem s.mem) (sym (same (suc t) (omega arith))) (extends_self (run e).mem))

  pub ended : (j : ℕ) → OwesUntil words code run j
  ended j = record {
    safely = record {
      no_fault = λ t at le. each (λ s. (step_of s.cpu s.mem).went ≢ Faulted at) (λ k. h.safely.no_fault k at) t;
      halts = λ t le. each (λ s. is_end s ≡ true → line_at s ≡ Some halt_line) h.safely.halts t;
      fetches = λ t le. each (λ s. (code_start ≤ s.cpu.pc) × (s.cpu.pc + 4 ≤ code)) h.safely.fetches t;
      writes_plain = λ t a le. each (λ s. is_runtime s.cpu.pc ≡ false → (is_buffer a || is_fixed code a) ≡ true → writes_by (effect_at s) a ≡ None) (λ k. h.safely.writes_plain k a) t;
      reads_plain = λ t a le. each (λ s. is_runtime s.cpu.pc ≡ false → reads_by (effect_at s) a ≡ true → is_buffer a ≡ false) (λ k. h.safely.reads_plain k a) t;
      cuts = λ t le a b. elim (order t e) [
        | inl lt ↦ h.safely.cuts t (omega arith) a b
        | inr more ↦ absurd (no_entry t more a b)
      ];
      needs = λ t k i time le cut used. elim (order e time) [
        | inl lt ↦ (let z = used_zero (t + k + 8) i time lt used in (omega arith, (λ q. omega arith), (λ q. omega arith)))
        | inr few ↦ h.safely.needs t k i time (omega arith) cut used
      ];
      needs_first = λ i time le used. elim (order e time) [
        | inl lt ↦ (let z = used_zero 0 i time lt used in ((λ q. omega arith), (λ q. omega arith), omega arith))
        | inr few ↦ h.safely.needs_first i time (omega arith) used
      ];
      no_war = λ t u a le late section outside outside' reads unwritten. elim (order e u) [
        | inl lt ↦ writes_none (run u) a (halt u lt)
        | inr few ↦ h.safely.no_war t u a le (omega arith) section outside outside' reads unwritten
      ];
    };
    shows = record {
      grows = λ t le. elim (order e t) [ inl lt ↦ grown t lt | inr few ↦ h.shows.grows t (omega arith) ];
      one_store = λ t u a v w lt lu section calm calm' first out second. elim (order e t) [
        | inl over' ↦ absurd (silent t 0x24 v over' first)
        | inr few ↦ elim (order e u) [
          | inl over' ↦ absurd (silent u a w over' second)
          | inr few' ↦ h.shows.one_store t u a v w (omega arith) (omega arith) section calm calm' first out second
        ]
      ];
      first_length = λ t a v le calm low high w. elim (order e t) [
        | inl over' ↦ absurd (silent t a v over' w)
        | inr few ↦ h.shows.first_length t a v (omega arith) calm low high w
      ];
      second_length = λ t a v le calm low high w. elim (order e t) [
        | inl over' ↦ absurd (silent t a v over' w)
        | inr few ↦ h.shows.second_length t a v (omega arith) calm low high w
      ];
    };
    flows = record {
      returns = λ t i le out at turn. elim (order e t) [
        | inl lt ↦ behind t i lt out at turn
        | inr few ↦ h.flows.returns t i (omega arith) out at turn
      ];
      cuts = λ t m i le cut at. elim (order e t) [
        | inl lt ↦ h.flows.cuts e m i inside (cut_there t m lt cut) (subst (λ (s : State). s.cpu.pc ≡ address i) (same t (omega arith)) at)
        | inr few ↦ h.flows.cuts t m i (omega arith) cut at
      ];
    };
  }
