-- No step changes the live register buffer, at whichever moment, whole or torn.
use Rattle.std.proofs.Common.{◌≡◌, ℕ, ◌+◌, ◌<◌, ◌≤◌, inl, inr, true, false, Option, None, List, refl, sym, ap, ◌∙◌, subst, arith}
use Rattle.std.specs.Prelude.{unwrap_or}
use Rattle.std.proofs.lemmas.Bool.Decides.{nat_tests}
use Rattle.im_mem.specs.Memory.{Mem}
use Rattle.im_mem.proofs.Words.{little-alike}
use Rattle.im_rv.specs.declared.step.Went.TheVariants.{On}
use Rattle.im_rv.specs.declared.effect.Effect.TheVariants.{Stores}
use Rattle.im_rv.specs.Steps.{Cpu, Stepped}
use Rattle.im_rv.specs.Runs.{step_of}
use Rattle.im_rv.specs.Effects.{effect_of, writes_by}
use Rattle.im_rv.specs.Torn.{torn_of}
use Rattle.im_rv.proofs.Effecting.{step_mem}
use Rattle.im_rv.proofs.Tearing.{torn_either}
use Rattle.im_power.specs.declared.period.Period.{Period}
use Rattle.im_device.specs.Run.{Moment, boot, index_of}
use Rattle.im_device.specs.Periods.{power_up}
use Rattle.im_device.proofs.Runs.{run_over}
use Rattle.im_ckpt.specs.Runs.{State, effect_at, flip, ends, memory, writes, reads}
use Rattle.im_ckpt.specs.Buffers.{buffer, idle, slot, is_buffer, is_fixed, saves_by}
use Rattle.im_ckpt.proofs.Slots.{no_save, saves_of, apart, buffer_inside, word_outside}
use Rattle.im_ckpt.proofs.Resume.{recovery_walks}
use Rattle.im_replay_path.specs.Path.{Moment as PathMoment}
use Rattle.im_replay_path.specs.Followed.{Agrees}
use Rattle.im_replay_path.proofs.Times.{truth, order}
use Rattle.im_replay_path.proofs.Replay.{fixed_mixed, Place, In_recovery, In_section, At_end, replay_within, Goes_on, awake, agrees}
use Rattle.im_replay.specs.Sections.{resume, IsLive}
use Rattle.im_replay.specs.Uninterrupted.{uninterrupted}
use Rattle.im_replay.specs.Compiled.{IsReplayable}
use Rattle.im_replay.specs.Replays.{after, within}
use Rattle.im_replay.proofs.Machine.{next_of, powered, switched_on, waking}
use Rattle.im_replay.proofs.Bridge.{path_of, written_out, after_same, within_same, going_of}
use Rattle.im_replay.proofs.Endless.{on_or_over}
use Rattle.im_replay.proofs.Images.{can_resume, first_mem, owed_of}
use Rattle.im_replay.proofs.Owing.{sound}
use Rattle.im_replay.proofs.Sound.{IsLike, IsSound}
use Rattle.im_replay.proofs.Steps.{paces_plain, paces_save}
use Rattle.im_replay.proofs.Instance.{followed, wake, can_of}
use Rattle.im_keeps_writes.specs.Writes.{IsLiveByte}

pub none_kept : (o : Option ℕ) (d : ℕ) → o ≡ None → unwrap_or o d ≡ d
none_kept o d h = ap (λ z. unwrap_or z d) h

low_fixed : (code a : ℕ) → a < 4 → is_fixed code a ≡ true
low_fixed code a h = grind (arith, nat_tests)

-- what a whole step leaves, a torn one leaves
pub torn_keeps : (mask : ℕ) (c : Cpu) (m : Mem) (a : ℕ) → (step_of c m).mem a ≡ m a → torn_of mask c m a ≡ m a
torn_keeps mask c m a h = elim (torn_either mask m (effect_of c m) a) [
  | inl e ↦ e
  | inr e ↦ e ∙ sym (step_mem c m a) ∙ h
]

module _ (run : ℕ → State) (code : ℕ) (u : IsSound run code) where
  abbrev There : ℕ → ℕ → PathMoment Cpu → Type 0
  There = Place next_of torn_of boot index_of (memory run) (writes run) (reads run) (flip run) (ends run) is_buffer (is_fixed code) (IsLike run) (IsLive run) resume 33 waking (followed run code u)

  abbrev Going : ℕ → PathMoment Cpu → Type 0
  Going = Goes_on next_of torn_of boot index_of (memory run) (writes run) (reads run) (flip run) (ends run) is_buffer (is_fixed code) (IsLike run) (IsLive run) resume 33 waking (followed run code u)

  -- a step that stands for that of time t
  like_keeps : (t : ℕ) (c : Cpu) (m : Mem) → IsLike run t c m → Agrees (reads run) (memory run) (is_fixed code) t m → (a : ℕ) → IsLiveByte m a → (step_of c m).mem a ≡ m a
  like_keeps t c m k g a l = elim (truth (saves_by (effect_at (run t)))) [
    | inl s ↦ (
        let r = (u.line t).rs2 in
        let j = index_of (run t).mem in
        let v = saves_of (run t) r (u.saves t s) in
        let p = paces_save run code u t c m v k g.fixes in
        let index : index_of m ≡ j = little-alike m (run t).mem 4 0 (λ i x y. g.fixes i (low_fixed code i y)) in
        let low : buffer j ≤ a = subst (λ z. buffer z ≤ a) index l.0 in
        let high : a < buffer j + 128 = subst (λ z. a < buffer z + 128) index l.1 in
        p.mem a ∙ none_kept (writes_by (Stores (idle j + slot r) 4 (c.x r)) a) (m a) (word_outside (idle j + slot r) (c.x r) a (apart j r a v.below low high) v.place))
    | inr s ↦ (
        let p = paces_plain run code u t c m s k g.reads g.fixes in
        p.mem a ∙ none_kept (writes run t a) (m a) (no_save (effect_at (run t)) a s (buffer_inside (index_of m) a l.0 l.1)))
  ]

  section_keeps : (t : ℕ) (x : PathMoment Cpu) → Going t x → (a : ℕ) → IsLiveByte x.mem a → (step_of x.regs x.mem).mem a ≡ x.mem a
  section_keeps t x g a l =
      like_keeps t x.regs x.mem g.regs (agrees next_of torn_of boot index_of (memory run) (writes run) (reads run) (flip run) (ends run) is_buffer (is_fixed code) (IsLike run) (IsLive run) resume 33 waking (followed run code u) t x.mem g.tracks) a l

  -- recovery writes nothing: a byte stays that stays where a section goes on
  place_stays : (s n : ℕ) (x : PathMoment Cpu) → There s n x → x.over ≡ false → (a : ℕ) → ((t : ℕ) → Going t x → (step_of x.regs x.mem).mem a ≡ x.mem a) → (step_of x.regs x.mem).mem a ≡ x.mem a
  place_stays s n x (In_recovery w ws wi) on a h = elim (order w.i 33) [
    | inl before ↦ (
        let can = can_of run code u w.s x.mem (wake run code u w.s x.mem w.begins w.lives (fixed_mixed next_of torn_of boot index_of (memory run) (writes run) (reads run) (flip run) (ends run) is_buffer (is_fixed code) (IsLike run) (IsLive run) resume 33 waking (followed run code u) w.s x.mem w.mixed)) in
        ap (λ c. (step_of c x.mem).mem a) w.at ∙ ap (λ (z : Stepped). z.mem a) (recovery_walks x.mem w.junk can w.i before))
    | inr late ↦ (
        let z : w.i ≡ 33 = (let v = w.within in omega arith) in
        h (resume w.s) (awake next_of torn_of boot index_of (memory run) (writes run) (reads run) (flip run) (ends run) is_buffer (is_fixed code) (IsLike run) (IsLive run) resume 33 waking (followed run code u) x w z))
  ]
  place_stays s n x (In_section t age r) on a h = h t r
  place_stays s n x (At_end e) on a h = absurd (let bad : true ≡ false = sym e.over ∙ on in cc)

  moment_stays : (s n : ℕ) (x y : PathMoment Cpu) → There s n x → x ≡ y → y.over ≡ false → (a : ℕ) → ((t : ℕ) → Going t y → (step_of y.regs y.mem).mem a ≡ y.mem a) → (step_of y.regs y.mem).mem a ≡ y.mem a
  moment_stays s n x y place same = place_stays s n y (subst (λ z. There s n z) same place)

module _ (m : Mem) (code : ℕ) (c : IsReplayable m code) where
  abbrev run : ℕ → State
  run = uninterrupted m

  abbrev pub sound_run : IsSound run code
  sound_run = sound run code (owed_of m code c)

  -- a section goes on at a moment as at time t
  abbrev pub GoesOnAs : ℕ → Moment → Type 0
  GoesOnAs t y = Goes_on next_of torn_of boot index_of (memory run) (writes run) (reads run) (flip run) (ends run) is_buffer (is_fixed code) (IsLike run) (IsLive run) resume 33 waking (followed run code sound_run) t (path_of y)

  pub agrees_at : (t : ℕ) (y : Moment) → GoesOnAs t y → Agrees (reads run) (memory run) (is_fixed code) t y.mem
  agrees_at t y g =
      agrees next_of torn_of boot index_of (memory run) (writes run) (reads run) (flip run) (ends run) is_buffer (is_fixed code) (IsLike run) (IsLive run) resume 33 waking (followed run code sound_run) t y.mem g.tracks

  first : (run 0).mem ≡ m
  first = first_mem m (can_resume m code c)

  -- power is on before a moment where it is on
  was_on : (ps : List Period) (n junk : ℕ) → (within ps n junk m).went ≡ On → (after ps m).went ≡ On
  was_on ps n junk on = elim (on_or_over (after ps m).went) [
    | inl h ↦ h
    | inr over ↦ ap (λ (x : Moment). x.went) (sym (run_over n (power_up junk (after ps m)) over)) ∙ on
  ]

  pub byte_stays : (ps : List Period) (n junk a : ℕ) → (within ps n junk m).went ≡ On → ((t : ℕ) → GoesOnAs t (within ps n junk m) → (step_of (within ps n junk m).cpu (within ps n junk m).mem).mem a ≡ (within ps n junk m).mem a)
      → (step_of (within ps n junk m).cpu (within ps n junk m).mem).mem a ≡ (within ps n junk m).mem a
  byte_stays ps n junk a on h =
      let y : Moment = within ps n junk m in
      let begins : IsLive run 0 m = subst (IsLive run 0) first sound_run.begins in
      let before : (powered (written_out ps) m).over ≡ false = (after_same ps m).over ∙ going_of (after ps m).went (was_on ps n junk on) in
      let place = replay_within next_of torn_of boot index_of (memory run) (writes run) (reads run) (flip run) (ends run) is_buffer (is_fixed code) (IsLike run) (IsLive run) resume 33 waking (followed run code sound_run)
      (written_out ps) n junk (switched_on m) (sym first) refl begins refl before in
      moment_stays run code sound_run _ n _ (path_of y) place (within_same ps n junk m) (going_of y.went on) a h

  pub live_stays : (ps : List Period) (n junk a : ℕ) → (within ps n junk m).went ≡ On → IsLiveByte (within ps n junk m).mem a → (step_of (within ps n junk m).cpu (within ps n junk m).mem).mem a ≡ (within ps n junk m).mem a
  live_stays ps n junk a on l = byte_stays ps n junk a on (λ t g. section_keeps run code sound_run t (path_of (within ps n junk m)) g a l)
