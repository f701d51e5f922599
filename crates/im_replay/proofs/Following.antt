-- The replay theorem of the machine, from the abstract one.
use Rattle.im_ckpt.proofs.Resume.{recovery_walks}
use Rattle.im_ckpt.proofs.Slots.{saves_of}
use Rattle.std.proofs.Common.{◌≡◌, ◌≢◌, ◌<◌, ◌≤◌, inl, inr, ◌+◌, ◌-◌, ◌%◌, ℕ, zero, suc, Bool, true, false, cond, List, [], Option, Some, None, refl, sym, ap, ◌∙◌, subst, arith}
use Rattle.std.specs.Prelude.{not, nat_eq}
use Rattle.std.proofs.lemmas.Bool.Decides.{nat_tests}
use Rattle.im_mem.proofs.Words.{little-alike}
use Rattle.im_num.specs.Bytes.{bytes_of}
use Rattle.im_mem.specs.Memory.{Mem, loaded, is_place}
use Rattle.im_rv.specs.declared.effect.Effect.{Effect}
use Rattle.im_rv.specs.declared.effect.Effect.TheVariants.{Puts, Goes, Loads, Stores, Stops}
use Rattle.im_rv.specs.declared.step.Went.TheVariants.{Halted, Faulted, On}
use Rattle.im_rv.specs.Steps.{Cpu, Stepped, effected, loads}
use Rattle.im_rv.specs.Runs.{step_of}
use Rattle.im_device.specs.Run.{boot, index_of}
use Rattle.im_replay_path.specs.Path.{Moment, Spell, long_periods}
use Rattle.im_replay_path.specs.Sections.{Mixed, start, flips}
use Rattle.im_replay_path.proofs.Times.{truth, start_start, order}
use Rattle.im_replay_path.proofs.Replay.{fixed_mixed, Place, Fails, Left, Failed, Ended, In_recovery, In_section, At_end, left_fails, replay, replay_within, flips-start, progress, halts, counts, ended_same, Goes_on, Wakes, awake, agrees}
use Rattle.im_rv.specs.Effects.{effect, writes_by}
use Rattle.im_replay.proofs.Machine.{next_of, powered, switched_on, Stands_at, Runs, Recovers, Executes, Is_over, within, Ended_as, Replays_path, waking}
use Rattle.im_rv.specs.Torn.{torn_of}
use Rattle.im_ckpt.specs.Runs.{State, stepped, is_on, is_end, flip, ends, memory, writes, reads, effect_at}
use Rattle.im_ckpt.specs.Buffers.{is_buffer, is_fixed, saves_by}
use Rattle.im_replay.specs.Sections.{resume, IsLive}
use Rattle.im_replay.proofs.Sound.{IsLike, IsSound}
use Rattle.im_rv.proofs.Locality.{step_effected, saved_at}
use Rattle.im_replay.proofs.Steps.{effect_is, paces_plain, paces_save}
use Rattle.im_replay.proofs.Buffers.{index_calm}
use Rattle.im_replay.proofs.Instance.{followed, wake, can_of}

-- a step that ends without a fault is a stop
stops_alone : (c : Cpu) (m : Mem) (rd : ℕ) (e : Effect) → not (is_on (effected c m rd e).went) ≡ true → ((at : ℕ) → (effected c m rd e).went ≢ Faulted at) → e ≡ Stops
stops_alone c m rd (Puts v target) h ok = absurd (cc)
stops_alone c m rd (Goes target) h ok = absurd (cc)
stops_alone c m rd (Loads a n extension) h ok = by_load (loaded m a n) h ok
  where
    by_load : (o : Option ℕ) → not (is_on (loads c m rd n extension o).went) ≡ true → ((at : ℕ) → (loads c m rd n extension o).went ≢ Faulted at) → Loads a n extension ≡ Stops
    by_load None h ok = absurd (ok c.pc refl)
    by_load (Some v) h ok = absurd (cc)
stops_alone c m rd (Stores a n v) h ok = by_place (is_place a n) h ok
  where
    by_place : (b : Bool) → not (is_on (saved_at b c m a (bytes_of n v)).went) ≡ true → ((at : ℕ) → (saved_at b c m a (bytes_of n v)).went ≢ Faulted at) → Stores a n v ≡ Stops
    by_place true h ok = absurd (cc)
    by_place false h ok = absurd (ok c.pc refl)
stops_alone c m rd Stops h ok = refl

only_stops : (c : Cpu) (m : Mem) (rd : ℕ) (e : Effect) → not (is_on (effected c m rd e).went) ≡ true → ((at : ℕ) → (effected c m rd e).went ≢ Faulted at) → effected c m rd e ≡ record { went = Halted; cpu = c; mem = m }
only_stops c m rd e h ok = ap (effected c m rd) (stops_alone c m rd e h ok)

module _ (run : ℕ → State) (code : ℕ) (u : IsSound run code) where
  -- the abstract theorem's words at this machine
  abbrev There : ℕ → ℕ → Moment Cpu → Type 0
  There = Place next_of torn_of boot index_of (memory run) (writes run) (reads run) (flip run) (ends run) is_buffer (is_fixed code) (IsLike run) (IsLive run) resume 33 waking (followed run code u)

  abbrev Broken : Moment Cpu → Type 0
  Broken = Fails next_of torn_of boot index_of (memory run) (writes run) (reads run) (flip run) (ends run) is_buffer (is_fixed code) (IsLike run) (IsLive run) resume 33 waking (followed run code u)

  -- INDEX counts the flips
  parity : (t : ℕ) → index_of (run t).mem ≡ (index_of (run 0).mem + flips (flip run) t) % 2
  parity zero = whole (index_of (run 0).mem) (u.index 0)
    where
      whole : (n : ℕ) → n < 2 → n ≡ (n + 0) % 2
      whole n l = omega arith
  parity (suc t) = elim (truth (flip run t)) [
    | inl f ↦ other (index_of (run (suc t)).mem) (index_of (run t).mem) (index_of (run 0).mem) (flips (flip run) t) (u.index (suc t)) (u.index t) (λ q. ne_of (index_of (run t).mem) (index_of (stepped (run t)).mem) f (sym q ∙ ap (λ (s : State). index_of s.mem) (u.steps t))) (parity t) ∙ sym (ap (λ b. (index_of (run 0).mem + cond b (suc (flips (flip run) t)) (flips (flip run) t)) % 2) f)
    | inr f ↦ index_calm run code u t f ∙ parity t ∙ sym (ap (λ b. (index_of (run 0).mem + cond b (suc (flips (flip run) t)) (flips (flip run) t)) % 2) f)
  ]
    where
      ne_of : (a b : ℕ) → not (nat_eq a b) ≡ true → a ≢ b
      ne_of a b h = grind (arith, nat_tests)

      other : (a b c n : ℕ) → a < 2 → b < 2 → a ≢ b → b ≡ (c + n) % 2 → a ≡ (c + suc n) % 2
      other a b c n p q ne e = omega arith

  -- a byte of INDEX is as it was when the section began
  same_index : (s : ℕ) (m : Mem) → Mixed (flip run) (writes run) (memory run) is_buffer s m → index_of m ≡ index_of (run s).mem
  same_index s m mixed = little-alike m (run s).mem 4 0 (λ a p q. elim (mixed a (low_out a q)) [
    | inl e ↦ e
    | inr w ↦ absurd (let n = u.fixed w.time a (low_fixed a q) w.no_flip in let bad : Some (m a) ≡ None = sym w.value ∙ n in cc)
  ])
    where
      low_out : (a : ℕ) → a < 4 → is_buffer a ≡ false
      low_out a l = grind (arith, nat_tests)

      low_fixed : (a : ℕ) → a < 4 → is_fixed code a ≡ true
      low_fixed a l = grind (arith, nat_tests)

  index_is : (s c : ℕ) (m : Mem) → Mixed (flip run) (writes run) (memory run) is_buffer s m → flips (flip run) s ≡ c → index_of m ≡ (index_of (run 0).mem + c) % 2
  index_is s c m mixed e = same_index s m mixed ∙ parity s ∙ ap (λ z. (index_of (run 0).mem + z) % 2) e

  stands : (x : Moment Cpu) → Broken x → Stands_at run x
  stands x f = record { s = f.s; begins = f.begins; commits = f.count; bytes = f.mixed; live = f.lives; index = index_is f.s x.commits x.mem f.mixed f.count; same_index = same_index f.s x.mem f.mixed }

  count_start : (t c : ℕ) → flips (flip run) t ≡ c → flips (flip run) (start (flip run) t) ≡ c
  count_start t c e = flips-start next_of torn_of boot index_of (memory run) (writes run) (reads run) (flip run) (ends run) is_buffer (is_fixed code) (IsLike run) (IsLive run) resume 33 waking (followed run code u) t ∙ e

  placed : (s n : ℕ) (x : Moment Cpu) → There s n x → Stands_at run x × Runs run s n x
  placed s n x (In_recovery w ws wi) = (record { s = w.s; begins = w.begins; commits = w.count; bytes = w.mixed; live = w.lives; index = index_is w.s x.commits x.mem w.mixed w.count; same_index = same_index w.s x.mem w.mixed }, Recovers w.junk (subst (λ z. z ≤ 33) wi w.within) (can_of run code u w.s x.mem (wake run code u w.s x.mem w.begins w.lives (fixed_mixed next_of torn_of boot index_of (memory run) (writes run) (reads run) (flip run) (ends run) is_buffer (is_fixed code) (IsLike run) (IsLive run) resume 33 waking (followed run code u) w.s x.mem w.mixed))) (w.at ∙ ap (λ z. waking z w.junk x.mem) wi) w.going)
  placed s n x (In_section t age g) = (record { s = start (flip run) t; begins = start_start (flip run) t; commits = count_start t x.commits g.count; bytes = g.tracks.mixed; live = g.tracks.lives; index = index_is (start (flip run) t) x.commits x.mem g.tracks.mixed (count_start t x.commits g.count); same_index = same_index (start (flip run) t) x.mem g.tracks.mixed }, Executes t age g.regs.place g.regs.regs g.count g.going)
  placed s n x (At_end e) = (record { s = start (flip run) e.t; begins = start_start (flip run) e.t; commits = count_start e.t x.commits e.count; bytes = e.tracks.mixed; live = e.tracks.lives; index = index_is (start (flip run) e.t) x.commits x.mem e.tracks.mixed (count_start e.t x.commits e.count); same_index = same_index (start (flip run) e.t) x.mem e.tracks.mixed }, Is_over e.over)

  abbrev Stays : Moment Cpu → Type 0
  Stays = Left next_of torn_of boot index_of (memory run) (writes run) (reads run) (flip run) (ends run) is_buffer (is_fixed code) (IsLike run) (IsLive run) resume 33 waking (followed run code u)

  -- behind the end nothing changes
  end_stays : (t : ℕ) → ends run t ≡ true → run (suc t) ≡ run t
  end_stays t h = u.steps t ∙ ap (λ (s : Stepped). record { cpu = s.cpu; mem = s.mem }) (here ∙ only_stops (run t).cpu (run t).mem (u.line t).rd (effect (run t).cpu (u.line t)) (ap (λ (s : Stepped). not (is_on s.went)) (sym here) ∙ h) (λ at q. u.no_fault t at (ap (λ (s : Stepped). s.went) here ∙ q)))
    where
      here : step_of (run t).cpu (run t).mem ≡ effected (run t).cpu (run t).mem (u.line t).rd (effect (run t).cpu (u.line t))
      here = step_effected (run t).cpu (run t).mem (u.line t) (u.decodes t)

  end_writes : (t a : ℕ) → ends run t ≡ true → writes run t a ≡ None
  end_writes t a h = ap (λ e. writes_by e a) (effect_is run code u t ∙ stops_alone (run t).cpu (run t).mem (u.line t).rd (effect (run t).cpu (u.line t)) (ap (λ (s : Stepped). not (is_on s.went)) (sym here) ∙ h) (λ at q. u.no_fault t at (ap (λ (s : Stepped). s.went) here ∙ q)))
    where
      here : step_of (run t).cpu (run t).mem ≡ effected (run t).cpu (run t).mem (u.line t).rd (effect (run t).cpu (u.line t))
      here = step_effected (run t).cpu (run t).mem (u.line t) (u.decodes t)

  ended_on : (t n : ℕ) → ends run t ≡ true → ends run (t + n) ≡ true
  ended_on t zero h = ap (ends run) (let q : t + 0 ≡ t = omega arith in q) ∙ h
  ended_on t (suc n) h = ap (ends run) (let q : t + suc n ≡ suc (t + n) = omega arith in q) ∙ ap is_end (end_stays (t + n) (ended_on t n h)) ∙ ended_on t n h

  none_left : (t v a : ℕ) → ends run t ≡ true → t ≤ v → writes run v a ≡ None
  none_left t v a h l = let q : t + (v - t) ≡ v = omega arith in end_writes v a (ap (ends run) (sym q) ∙ ended_on t (v - t) h)

  -- at and behind the end the run stays as it is
  pub after_end : (t n : ℕ) → ends run t ≡ true → run (t + n) ≡ run t
  after_end t zero h = ap run (let q : t + 0 ≡ t = omega arith in q)
  after_end t (suc n) h = ap run (let q : t + suc n ≡ suc (t + n) = omega arith in q) ∙ end_stays (t + n) (ended_on t n h) ∙ after_end t n h

  -- the next step doesn't fault
  section_safe : (t : ℕ) (x : Moment Cpu) → Goes_on next_of torn_of boot index_of (memory run) (writes run) (reads run) (flip run) (ends run) is_buffer (is_fixed code) (IsLike run) (IsLive run) resume 33 waking (followed run code u) t x → (at : ℕ) → (step_of x.regs x.mem).went ≢ Faulted at
  section_safe t x g at h =
      let a = agrees next_of torn_of boot index_of (memory run) (writes run) (reads run) (flip run) (ends run) is_buffer (is_fixed code) (IsLike run) (IsLive run) resume 33 waking (followed run code u) t x.mem g.tracks in
      elim (truth (saves_by (effect_at (run t)))) [
        | inl s ↦ u.no_fault t at (sym (paces_save run code u t x.regs x.mem (saves_of (run t) (u.line t).rs2 (u.saves t s)) g.regs a.fixes).went ∙ h)
        | inr s ↦ u.no_fault t at (sym (paces_plain run code u t x.regs x.mem s g.regs a.reads a.fixes).went ∙ h)
      ]

  wakes_safe : (x : Moment Cpu) (w : Wakes next_of torn_of boot index_of (memory run) (writes run) (reads run) (flip run) (ends run) is_buffer (is_fixed code) (IsLike run) (IsLive run) resume 33 waking (followed run code u) x) → (at : ℕ) → (step_of x.regs x.mem).went ≢ Faulted at
  wakes_safe x w at h = elim (order w.i 33) [
    | inl l ↦ (
        let can = can_of run code u w.s x.mem (wake run code u w.s x.mem w.begins w.lives (fixed_mixed next_of torn_of boot index_of (memory run) (writes run) (reads run) (flip run) (ends run) is_buffer (is_fixed code) (IsLike run) (IsLive run) resume 33 waking (followed run code u) w.s x.mem w.mixed)) in
        let e : On ≡ Faulted at = sym (ap (λ (z : Stepped). z.went) (recovery_walks x.mem w.junk can w.i l)) ∙ ap (λ c. (step_of c x.mem).went) (sym w.at) ∙ h in
        absurd (cc))
    | inr l ↦ (let z : w.i ≡ 33 = (let v = w.within in omega arith) in section_safe (resume w.s) x (awake next_of torn_of boot index_of (memory run) (writes run) (reads run) (flip run) (ends run) is_buffer (is_fixed code) (IsLike run) (IsLive run) resume 33 waking (followed run code u) x w z) at h)
  ]

  place_safe : (s n : ℕ) (x : Moment Cpu) → There s n x → x.over ≡ false → (at : ℕ) → (step_of x.regs x.mem).went ≢ Faulted at
  place_safe s n x (In_recovery w ws wi) g at h = wakes_safe x w at h
  place_safe s n x (In_section t age r) g at h = section_safe t x r at h
  place_safe s n x (At_end e) g at h = absurd (let bad : true ≡ false = sym e.over ∙ g in cc)

  ended : (x : Moment Cpu) → Stays x → x.over ≡ true → Ended_as run x
  ended x (Failed f g) o = absurd (let bad : true ≡ false = sym o ∙ g in cc)
  ended x (Ended e) o = record { time = e.t; ended = e.stopped; commits = e.count; bytes = ended_same next_of torn_of boot index_of (memory run) (writes run) (reads run) (flip run) (ends run) is_buffer (is_fixed code) (IsLike run) (IsLive run) resume 33 waking (followed run code u) x e (λ t a l. none_left e.t t a e.stopped l) }

  pub replays : (m : Mem) → (run 0).mem ≡ m → Replays_path run m
  unfolding stands
  replays m e =
      let l : IsLive run 0 m = subst (IsLive run 0) e u.begins in
      let all : (ps : List Spell) → Stays (powered ps m) = λ ps. replay next_of torn_of boot index_of (memory run) (writes run) (reads run) (flip run) (ends run) is_buffer (is_fixed code) (IsLike run) (IsLive run) resume 33 waking (followed run code u) ps (switched_on m) (sym e) refl l refl in
      record {
        after_periods = λ ps. stands (powered ps m) (left_fails next_of torn_of boot index_of (memory run) (writes run) (reads run) (flip run) (ends run) is_buffer (is_fixed code) (IsLike run) (IsLive run) resume 33 waking (followed run code u) (powered ps m) (all ps));
        in_period = λ ps n junk on. placed (left_fails next_of torn_of boot index_of (memory run) (writes run) (reads run) (flip run) (ends run) is_buffer (is_fixed code) (IsLike run) (IsLive run) resume 33 waking (followed run code u) (powered ps m) (all ps)).s n (within ps n junk m) (replay_within next_of torn_of boot index_of (memory run) (writes run) (reads run) (flip run) (ends run) is_buffer (is_fixed code) (IsLike run) (IsLive run) resume 33 waking (followed run code u) ps n junk (switched_on m) (sym e) refl l refl on);
        at_end = λ ps o. ended (powered ps m) (all ps) o;
        safe = λ ps n junk on g. place_safe (left_fails next_of torn_of boot index_of (memory run) (writes run) (reads run) (flip run) (ends run) is_buffer (is_fixed code) (IsLike run) (IsLive run) resume 33 waking (followed run code u) (powered ps m) (all ps)).s n (within ps n junk m) (replay_within next_of torn_of boot index_of (memory run) (writes run) (reads run) (flip run) (ends run) is_buffer (is_fixed code) (IsLike run) (IsLive run) resume 33 waking (followed run code u) ps n junk (switched_on m) (sym e) refl l refl on) g;
        progress = λ k gap ps p le o. progress next_of torn_of boot index_of (memory run) (writes run) (reads run) (flip run) (ends run) is_buffer (is_fixed code) (IsLike run) (IsLive run) resume 33 waking (followed run code u) k p (powered ps m) gap le o (all ps);
        counts = λ k gap ps. elim (counts next_of torn_of boot index_of (memory run) (writes run) (reads run) (flip run) (ends run) is_buffer (is_fixed code) (IsLike run) (IsLive run) resume 33 waking (followed run code u) k gap ps (switched_on m) (all [])) [ inl le ↦ inl (let r : long_periods k ps ≤ (powered ps m).commits = omega arith in r) | inr end ↦ inr end ];
        halts = λ c k gap most ps q. halts next_of torn_of boot index_of (memory run) (writes run) (reads run) (flip run) (ends run) is_buffer (is_fixed code) (IsLike run) (IsLive run) resume 33 waking (followed run code u) c k gap most ps (switched_on m) (all []) (let r : c < 0 + long_periods k ps = omega arith in r);
      }
