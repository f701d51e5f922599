-- The theorem over the device, from that over the abstract machine.
use Rattle.std.proofs.Common.{◌≡◌, ◌≢◌, inl, inr, ℕ, zero, suc, ◌+◌, ◌-◌, ◌%◌, ◌<◌, Bool, true, false, cond, List, [], ◌∷◌, ◌++◌, append_assoc, sym, ap, ◌∙◌, subst, arith, ◌≤◌, refl}
use Rattle.im_mem.specs.Memory.{Mem}
use Rattle.im_rv.specs.declared.step.Went.{Went}
use Rattle.im_rv.specs.declared.step.Went.TheVariants.{On, Halted, Faulted}
use Rattle.im_replay_path.proofs.Times.{order, truth}
use Rattle.im_rv.specs.Steps.{Cpu}
use Rattle.im_power.specs.declared.period.Period.{Period}
use Rattle.im_device.specs.Run.{Moment, boot, index_of}
use Rattle.im_rv.specs.Torn.{torn_of}
use Rattle.im_replay_path.specs.Path.{Moment as PathMoment, Spell, steps, torn}
use Rattle.im_replay_path.specs.Sections.{Mixed, flips}
use Rattle.im_ckpt.specs.Runs.{State, flip, ends, memory, writes}
use Rattle.im_ckpt.specs.Buffers.{is_buffer}
use Rattle.im_ckpt.proofs.Resume.{resuming_is}
use Rattle.im_replay.specs.Sections.{IsLive}
use Rattle.im_replay.specs.Uninterrupted.{uninterrupted}
use Rattle.im_replay.specs.Compiled.{IsReplayable}
use Rattle.im_replay.specs.Replays.{after, within, and_then, StandsAt, Goes, Recovers, Executes, IsOver, EndsAs, Replays, GapAtMost, Progresses}
use Rattle.im_replay.specs.Output.{Extends, SameOutput, NeverShrinks}
use Rattle.im_replay.specs.Laws.{ReplayLaw, OutputLaw, ProgressLaw, KeepsLaw, ReachLaw}
use Rattle.im_replay.proofs.Machine.{next_of, switched_on, Stands_at, Runs, Ended_as, Replays_path, Never_shrinks_path, powered, within as path_within, and_then as path_and_then}
use Rattle.im_replay.proofs.Machine.Runs.{Recovers as Path_recovers, Executes as Path_executes, Is_over as Path_over}
use Rattle.im_replay.proofs.Bridge.{path_of, written_out, path-append, copies, spell_of, after_same, within_same, more_same, long_same, on_of, going_of, over_of, off_of}
use Rattle.im_replay.proofs.Images.{can_resume, first_mem, owed_of}
use Rattle.im_replay.proofs.Owing.{sound}
use Rattle.im_replay.proofs.Following.{replays, after_end}
use Rattle.im_replay.proofs.Safe.{never_faults}
use Rattle.im_replay.proofs.Endless.{on_or_over}
use Rattle.im_replay.proofs.Shows.{grows_on, same_extends, extends_self, extends_on, same_self, alike}
use Rattle.im_replay.proofs.Sound.{IsSound}
use Rattle.im_replay.proofs.Growing.{never_shrinks}

module _ (run : ℕ → State) (m : Mem) (index_zero : index_of (run 0).mem ≡ 0) where
  -- a moment by its memory and its commits
  abbrev stands_by : (x : PathMoment Cpu) (n : Mem) (c : ℕ) → x.mem ≡ n → x.commits ≡ c → Stands_at run x → StandsAt run n c
  stands_by x n c em ec f = record {
    s = f.s;
    begins = f.begins;
    count = f.commits ∙ ec;
    bytes = subst (λ k. Mixed (flip run) (writes run) (memory run) is_buffer f.s k) em f.bytes;
    live = subst (λ k. IsLive run f.s k) em f.live;
    index = ap index_of (sym em) ∙ f.index ∙ ap (λ z. (z + x.commits) % 2) index_zero ∙ ap (λ z. z % 2) (let q : 0 + x.commits ≡ x.commits = omega arith in q ∙ ec);
    same_index = ap index_of (sym em) ∙ f.same_index;
  }

  goes_of : (s n : ℕ) (y : Moment) → Runs run s n (path_of y) → Goes run s n y
  goes_of s n y (Path_recovers junk l can e g) = Recovers junk l (e ∙ sym (ap (λ (z : Moment). z.cpu) (resuming_is y.mem junk n can l))) (on_of y.went g)
  goes_of s n y (Path_executes t age place regs count g) = Executes t age place regs count (on_of y.went g)
  goes_of s n y (Path_over o) = IsOver (off_of y.went o)

  off_now : (ps : List Period) → (after ps m).went ≢ On → (powered (written_out ps) m).over ≡ true
  off_now ps over = (after_same ps m).over ∙ over_of (after ps m).went over

  on_now : (ps : List Period) → (after ps m).went ≡ On → (powered (written_out ps) m).over ≡ false
  on_now ps on = (after_same ps m).over ∙ going_of (after ps m).went on

  ends_by : (x : PathMoment Cpu) (n : Mem) (c : ℕ) → x.mem ≡ n → x.commits ≡ c → Ended_as run x → EndsAs run n c
  ends_by x n c em ec f = record { time = f.time; ended = f.ended; count = f.commits ∙ ec; bytes = λ a out. ap (λ (k : Mem). k a) (sym em) ∙ f.bytes a out }

  pub replays_on : Replays_path run m → Replays run m
  replays_on r = record {
    after_periods = λ ps. (let s = after_same ps m in stands_by (powered (written_out ps) m) (after ps m).mem (after ps m).commits s.mem s.commits (r.after_periods (written_out ps)));
    in_period = λ ps n junk on. (
        let e = within_same ps n junk m in
        let q = r.in_period (written_out ps) n junk (on_now ps on) in (
          stands_by (path_within (written_out ps) n junk m) (within ps n junk m).mem (within ps n junk m).commits (ap (λ (z : PathMoment Cpu). z.mem) e) (ap (λ (z : PathMoment Cpu). z.commits) e) q.0,
          goes_of (r.after_periods (written_out ps)).s n (within ps n junk m) (subst (λ z. Runs run (r.after_periods (written_out ps)).s n z) e q.1),
        ));
    no_fault = never_faults run m r;
    at_end = λ ps over. (let s = after_same ps m in ends_by (powered (written_out ps) m) (after ps m).mem (after ps m).commits s.mem s.commits (r.at_end (written_out ps) (off_now ps over)));
  }

  pub progresses_on : (k : ℕ) → GapAtMost run k → Replays_path run m → Progresses run m k
  progresses_on k gap r = record {
    each = λ ps n junk mask l on. (
        let s = after_same ps m in
        let t = more_same ps n junk mask m in
        elim (r.progress k gap (written_out ps) (record { n = n; junk = junk; mask = mask }) l (on_now ps on)) [
          | inl up ↦ inl (subst (λ z. z < (after (and_then ps n junk mask) m).commits) s.commits (subst (λ z. (powered (written_out ps) m).commits < z) t.commits up))
          | inr o ↦ inr (off_of (after (and_then ps n junk mask) m).went (sym t.over ∙ o))
        ]);
    counts = λ ps on. (
        let s = after_same ps m in
        let e = long_same k ps in
        let c = s.commits in
        elim (r.counts k gap (written_out ps)) [
          | inl le ↦ omega arith
          | inr over ↦ absurd (let going = on_now ps on in let bad : true ≡ false = sym over ∙ going in cc)
        ]);
    all = λ c most ps l. (
        let s = after_same ps m in
        off_of (after ps m).went (sym s.over ∙ r.halts c k gap most (written_out ps) (subst (λ z. c < z) (sym (long_same k ps)) l)));
  }

  one_more : Never_shrinks_path run m → (ss : List Spell) (p : Spell) → Extends (powered ss m).mem (powered (ss ++ p ∷ []) m).mem
  one_more r ss p = subst (λ (z : PathMoment Cpu). Extends (powered ss m).mem z.mem) (sym (path-append ss (p ∷ []) (switched_on m))) (elim (truth (powered ss m).over) [
    | inl over ↦ subst (λ (z : PathMoment Cpu). Extends (powered ss m).mem z.mem) (sym (ap (λ b. cond b (powered ss m) (torn torn_of index_of p.mask (steps next_of index_of p.n (record (powered ss m) { regs = boot p.junk })))) over)) (extends_self (powered ss m).mem)
    | inr on ↦ (
        let q : 0 + p.n ≡ p.n = omega arith in
        extends_on (powered ss m).mem (path_within ss 0 p.junk m).mem (path_and_then p (powered ss m)).mem (r.comes ss 0 p.junk on)
        (subst (λ k. Extends (path_within ss 0 p.junk m).mem (path_and_then (record { n = k; junk = p.junk; mask = p.mask }) (powered ss m)).mem) q (r.fails ss 0 p.n p.junk p.mask on)))
  ])

  more_spells : Never_shrinks_path run m → (ss rs : List Spell) → Extends (powered ss m).mem (powered (ss ++ rs) m).mem
  more_spells r ss [] = subst (λ z. Extends (powered ss m).mem (powered z m).mem) (sym (none_more ss)) (extends_self (powered ss m).mem)
    where
      none_more : (xs : List Spell) → xs ++ [] ≡ xs
      none_more [] = refl
      none_more (x ∷ xs) = ap (λ z. x ∷ z) (none_more xs)
  more_spells r ss (p ∷ rs) =
      extends_on (powered ss m).mem (powered (ss ++ p ∷ []) m).mem (powered (ss ++ p ∷ rs) m).mem (one_more r ss p)
      (subst (λ z. Extends (powered (ss ++ p ∷ []) m).mem (powered z m).mem) (append_assoc ss (p ∷ []) rs) (more_spells r (ss ++ p ∷ []) rs))

  written-both : (ps qs : List Period) → written_out (ps ++ qs) ≡ written_out ps ++ written_out qs
  written-both [] qs = refl
  written-both (p ∷ ps) qs = ap (λ z. copies p.count (spell_of p) ++ z) (written-both ps qs) ∙ sym (append_assoc (copies p.count (spell_of p)) (written_out ps) (written_out qs))

  pub output_on : Never_shrinks_path run m → NeverShrinks run m
  output_on r = record {
    comes = λ ps n junk on. subst (λ k. Extends k (within ps n junk m).mem) (after_same ps m).mem (subst (λ k. Extends (powered (written_out ps) m).mem k) (mem_of ps n junk) (r.comes (written_out ps) n junk (on_now ps on)));
    follow = λ ps n k junk on. subst (λ z. Extends z (within ps (n + k) junk m).mem) (mem_of ps n junk) (subst (λ z. Extends (path_within (written_out ps) n junk m).mem z) (mem_of ps (n + k) junk) (r.follow (written_out ps) n k junk (on_now ps on)));
    fails = λ ps n k junk mask on. subst (λ z. Extends z (after (and_then ps (n + k) junk mask) m).mem) (mem_of ps n junk) (subst (λ z. Extends (path_within (written_out ps) n junk m).mem z) (more_same ps (n + k) junk mask m).mem (r.fails (written_out ps) n k junk mask (on_now ps on)));
    more = λ ps qs. subst (λ k. Extends k (after (ps ++ qs) m).mem) (after_same ps m).mem (subst (λ k. Extends (powered (written_out ps) m).mem k) (ap (λ ss. (powered ss m).mem) (sym (written-both ps qs)) ∙ (after_same (ps ++ qs) m).mem) (more_spells r (written_out ps) (written_out qs)));
    shows = λ ps. (let q = r.shows (written_out ps) in (q.0, q.1 ∙ (after_same ps m).commits, subst (λ z. SameOutput z (run q.0).mem) (after_same ps m).mem q.2));
    shows_within = λ ps n junk on. (let q = r.shows_within (written_out ps) n junk (on_now ps on) in (q.0, q.1 ∙ ap (λ (z : PathMoment Cpu). z.commits) (within_same ps n junk m), subst (λ z. SameOutput z (run q.0).mem) (mem_of ps n junk) q.2));
  }
    where
      mem_of : (ps : List Period) (n junk : ℕ) → (path_within (written_out ps) n junk m).mem ≡ (within ps n junk m).mem
      mem_of ps n junk = ap (λ (z : PathMoment Cpu). z.mem) (within_same ps n junk m)

module _ (m : Mem) (code : ℕ) (c : IsReplayable m code) where
  index_first : index_of (uninterrupted m 0).mem ≡ 0
  index_first = ap index_of (first_mem m (can_resume m code c)) ∙ c.index

  path_replays : Replays_path (uninterrupted m) m
  path_replays = replays (uninterrupted m) code (sound (uninterrupted m) code (owed_of m code c)) m (first_mem m (can_resume m code c))

  is_sound : IsSound (uninterrupted m) code
  is_sound = sound (uninterrupted m) code (owed_of m code c)

  -- the run is the same at each time from its end on
  same_end : (s t : ℕ) → ends (uninterrupted m) s ≡ true → s ≤ t → uninterrupted m t ≡ uninterrupted m s
  same_end s t h l = let q : s + (t - s) ≡ t = omega arith in ap (uninterrupted m) (sym q) ∙ after_end (uninterrupted m) code is_sound s (t - s) h

  one_end : (s t : ℕ) → ends (uninterrupted m) s ≡ true → ends (uninterrupted m) t ≡ true → uninterrupted m s ≡ uninterrupted m t
  one_end s t h k = elim (order s t) [ inl l ↦ sym (same_end s t h (omega arith)) | inr l ↦ same_end t s k l ]

pub replay_law : ReplayLaw
replay_law m code c = replays_on (uninterrupted m) m (index_first m code c) (path_replays m code c)

pub progress_law : ProgressLaw
progress_law m code k c gap = progresses_on (uninterrupted m) m (index_first m code c) k gap (path_replays m code c)

pub output_law : OutputLaw
output_law m code c shows = output_on (uninterrupted m) m (index_first m code c) (never_shrinks (uninterrupted m) code (sound (uninterrupted m) code (owed_of m code c)) shows m (first_mem m (can_resume m code c)))

halted_of : (w : Went) → w ≢ On → ((at : ℕ) → w ≢ Faulted at) → w ≡ Halted
halted_of On h k = absurd (h refl)
halted_of Halted h k = refl
halted_of (Faulted at) h k = absurd (k at refl)

pub keeps_law : KeepsLaw
keeps_law m code k c time compiled shows gap ended most =
    let run = uninterrupted m in
    let r = replay_law m code compiled in
    let p = progress_law m code k compiled gap in
    let o = output_law m code compiled shows in
    record {
      always = λ ps. (let s = o.shows ps in
          elim (order s.0 time) [
            | inl l ↦ same_extends (after ps m).mem (run s.0).mem (run time).mem (run time).mem s.2 (grows_on run code (is_sound m code compiled) shows s.0 time (omega arith)) (record { size = refl; bytes = λ i g. refl })
            | inr l ↦ same_extends (after ps m).mem (run s.0).mem (run time).mem (run time).mem s.2 (subst (λ (z : State). Extends (run s.0).mem z.mem) (same_end m code compiled time s.0 ended l) (extends_self (run s.0).mem)) (record { size = refl; bytes = λ i g. refl })
          ]);
      exact = λ ps h a out. (let e = r.at_end ps (λ on. let bad : Halted ≡ On = sym h ∙ on in cc) in
          e.bytes a out ∙ ap (λ (z : State). z.mem a) (one_end m code compiled e.time time e.ended ended));
      halts = λ ps l. halted_of (after ps m).went (p.all c most ps l) (r.no_fault ps);
      safe = λ ps at h. r.no_fault ps at h;
    }

flips_up : (fl : ℕ → Bool) (s t : ℕ) → s ≤ t → flips fl s ≤ flips fl t
flips_up fl s zero le = let q : s ≡ 0 = omega arith in let w = ap (flips fl) q in omega arith
flips_up fl s (suc t) le = elim (order t s) [
  | inl lt ↦ (let q : s ≡ suc t = omega arith in let w = ap (flips fl) q in omega arith)
  | inr more ↦ up (fl t) (flips_up fl s t more)
]
  where
    up : (b : Bool) → flips fl s ≤ flips fl t → flips fl s ≤ cond b (suc (flips fl t)) (flips fl t)
    up true h = omega arith
    up false h = h

pub reach_law : ReachLaw
reach_law m code k c time compiled shows gap few ps long =
    let run = uninterrupted m in
    let r = replay_law m code compiled in
    let p = progress_law m code k compiled gap in
    let o = output_law m code compiled shows in
    elim (on_or_over (after ps m).went) [
      | inl on ↦ (
          let s = o.shows ps in
          let made = p.counts ps on in
          let count = s.1 in
          let late : time ≤ s.0 = elim (order time s.0) [
            | inl l ↦ (let q : time ≤ s.0 = omega arith in q)
            | inr l ↦ absurd (let up = flips_up (flip run) s.0 time l in omega arith)
          ] in
          same_extends (run time).mem (run time).mem (run s.0).mem (after ps m).mem (same_self (run time).mem) (grows_on run code (is_sound m code compiled) shows time s.0 late) s.2)
      | inr over ↦ (
          let e = r.at_end ps over in
          same_extends (run time).mem (run time).mem (run e.time).mem (after ps m).mem (same_self (run time).mem)
          (elim (order time e.time) [
            | inl l ↦ grows_on run code (is_sound m code compiled) shows time e.time (omega arith)
            | inr l ↦ subst (λ (z : State). Extends z.mem (run e.time).mem) (sym (same_end m code compiled e.time time e.ended l)) (extends_self (run e.time).mem)
          ])
          (alike (after ps m).mem (run e.time).mem e.bytes))
    ]
