-- No list of periods leads to a fault.
use Rattle.std.proofs.Common.{◌≡◌, ◌≢◌, inl, inr, ℕ, zero, suc, ◌+◌, false, List, [], ◌∷◌, refl, sym, ap, ◌∙◌, arith}
use Rattle.im_mem.specs.Memory.{Mem}
use Rattle.im_rv.specs.declared.step.Went.{Went}
use Rattle.im_rv.specs.declared.step.Went.TheVariants.{On, Halted, Faulted}
use Rattle.im_rv.specs.Runs.{step_of}
use Rattle.im_power.specs.declared.period.Period.{Period}
use Rattle.im_device.specs.Run.{Moment, unless_over, one_step, run as steps, after_tear}
use Rattle.im_device.specs.Periods.{Device, fresh, power_up, powered, repeated, power}
use Rattle.im_device.proofs.Runs.{run_parts, powered_over, power_parts}
use Rattle.im_ckpt.specs.Runs.{State}
use Rattle.im_replay_path.specs.Path.{Moment as PathMoment}
use Rattle.im_replay.specs.Replays.{after, within, and_then}
use Rattle.im_replay.proofs.Machine.{Replays_path, powered as path_powered}
use Rattle.im_replay.proofs.Bridge.{written_out, after_same, within_same, going_of}
use Rattle.im_replay.proofs.Endless.{on_or_over}
use Rattle.im_rv.specs.Steps.{Cpu}

torn_went : (mask : ℕ) (x : Moment) (w : Went) → (unless_over (after_tear mask) w x).went ≡ x.went
torn_went mask x On = refl
torn_went mask x Halted = refl
torn_went mask x (Faulted at) = refl

-- one step more
next_went : (y : Moment) (w : Went) → y.went ≡ w → ((at : ℕ) → y.went ≢ Faulted at) → (y.went ≡ On → (at : ℕ) → (step_of y.cpu y.mem).went ≢ Faulted at) → (at : ℕ) → (unless_over (λ z. steps 0 (one_step z)) w y).went ≢ Faulted at
next_went y On e h s at = s e at
next_went y Halted e h s at = h at
next_went y (Faulted a) e h s at = h at

module _ (run : ℕ → State) (m : Mem) (r : Replays_path run m) where
  on_now : (ps : List Period) → (after ps m).went ≡ On → (path_powered (written_out ps) m).over ≡ false
  on_now ps on = (after_same ps m).over ∙ going_of (after ps m).went on

  step_safe : (ps : List Period) (n junk : ℕ) → (after ps m).went ≡ On → (within ps n junk m).went ≡ On → (at : ℕ) → (step_of (within ps n junk m).cpu (within ps n junk m).mem).went ≢ Faulted at
  step_safe ps n junk on still at h =
      let e = within_same ps n junk m in
      r.safe (written_out ps) n junk (on_now ps on) (ap (λ (z : PathMoment Cpu). z.over) e ∙ going_of (within ps n junk m).went still) at
      (ap (λ (z : PathMoment Cpu). (step_of z.regs z.mem).went) e ∙ h)

  run_safe : (ps : List Period) (n junk : ℕ) → (after ps m).went ≡ On → (at : ℕ) → (within ps n junk m).went ≢ Faulted at
  run_safe ps zero junk on at h = let bad : On ≡ Faulted at = sym on ∙ h in cc
  run_safe ps (suc n) junk on at h =
      let y = within ps n junk m in
      let q : suc n ≡ n + 1 = omega arith in
      let e : within ps (suc n) junk m ≡ unless_over (λ z. steps 0 (one_step z)) y.went y = ap (λ k. steps k (power_up junk (after ps m))) q ∙ run_parts n 1 (power_up junk (after ps m)) in
      next_went y y.went refl (run_safe ps n junk on) (step_safe ps n junk on) at (sym (ap (λ (z : Moment). z.went) e) ∙ h)

  -- one period more
  abbrev one_period : Period → Device → Device
  one_period p = powered p.n p.junk p.mask

  more_is : (ps : List Period) (p : Period) → after (and_then ps p.n p.junk p.mask) m ≡ one_period p (after ps m)
  more_is ps p = power_parts ps (record { n = p.n; junk = p.junk; count = 1; mask = p.mask } ∷ []) (fresh m)

  period_safe : (ps : List Period) (p : Period) → ((at : ℕ) → (after ps m).went ≢ Faulted at) → (at : ℕ) → (one_period p (after ps m)).went ≢ Faulted at
  period_safe ps p h at f = elim (on_or_over (after ps m).went) [
    | inl on ↦ run_safe ps p.n p.junk on at (sym (torn_went p.mask (within ps p.n p.junk m) (within ps p.n p.junk m).went) ∙ f)
    | inr over ↦ h at (sym (ap (λ (d : Device). d.went) (powered_over p.n p.junk p.mask (after ps m) over)) ∙ f)
  ]

  record Reached (d : Device) : Type 0 where
    list : List Period
    same : after list m ≡ d
    safe : (at : ℕ) → (after list m).went ≢ Faulted at

  reached : (k : ℕ) (p : Period) (qs : List Period) → ((at : ℕ) → (after qs m).went ≢ Faulted at) → Reached (repeated k (one_period p) (after qs m))
  reached zero p qs h = record { list = qs; same = refl; safe = h }
  reached (suc k) p qs h =
      let e = more_is qs p in
      let x = reached k p (and_then qs p.n p.junk p.mask) (λ at f. period_safe qs p h at (sym (ap (λ (d : Device). d.went) e) ∙ f)) in
      record { list = x.list; same = x.same ∙ ap (repeated k (one_period p)) e; safe = x.safe }

  onwards : (ps qs : List Period) → ((at : ℕ) → (after qs m).went ≢ Faulted at) → (at : ℕ) → (power ps (after qs m)).went ≢ Faulted at
  onwards [] qs h at f = h at f
  onwards (p ∷ ps) qs h at f =
      let x = reached p.count p qs h in
      onwards ps x.list x.safe at (ap (λ (d : Device). (power ps d).went) x.same ∙ f)

  pub never_faults : (ps : List Period) (at : ℕ) → (after ps m).went ≢ Faulted at
  never_faults ps at = onwards ps [] (λ a h. let bad : On ≡ Faulted a = h in cc) at
