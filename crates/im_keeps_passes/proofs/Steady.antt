-- One endless period, whichever word the registers hold when power comes: memory is that of the run that began with 0 in all registers.
use Rattle.std.proofs.Common.{◌≡◌, ◌≢◌, ℕ, zero, suc, ◌+◌, ◌-◌, ◌<◌, ◌≤◌, ◌⊎◌, inl, inr, Bool, true, false, cond, [], refl, sym, ap, ◌∙◌, subst, arith}
use Rattle.std.specs.Prelude.{nat_eq, Option, unwrap_or}
use Rattle.im_mem.specs.Memory.{Mem}
use Rattle.im_rv.specs.declared.step.Went.{Went}
use Rattle.im_rv.specs.declared.step.Went.TheVariants.{On, Halted, Faulted}
use Rattle.im_rv.specs.Steps.{Cpu}
use Rattle.im_rv.specs.Torn.{torn_of}
use Rattle.im_device.specs.Run.{boot, index_of, unless_over, after_tear}
use Rattle.im_replay_path.specs.Path.{Moment as PathMoment, steps, one_step, after_step, counted}
use Rattle.im_replay_path.specs.Sections.{start, flips}
use Rattle.im_replay_path.specs.Followed.{Agrees, Advances, Followed}
use Rattle.im_replay_path.proofs.Times.{truth, order}
use Rattle.im_ckpt.specs.Runs.{State, flip, ends, memory, writes, reads}
use Rattle.im_ckpt.specs.Buffers.{is_buffer, is_fixed}
use Rattle.im_ckpt.specs.Laws.{CanResume, resuming}
use Rattle.im_ckpt.proofs.Resume.{resuming_is}
use Rattle.im_replay.specs.Sections.{resume, IsLive}
use Rattle.im_replay.specs.Uninterrupted.{uninterrupted}
use Rattle.im_replay.specs.Compiled.{IsReplayable}
use Rattle.im_replay.specs.Replays.{and_then}
use Rattle.im_replay.proofs.Sound.{IsLike, IsSound}
use Rattle.im_replay.proofs.Owing.{sound}
use Rattle.im_replay.proofs.Images.{can_resume, first_mem, owed_of}
use Rattle.im_replay.proofs.Machine.{next_of, waking, switched_on}
use Rattle.im_replay.proofs.Instance.{followed}
use Rattle.im_replay.proofs.Bridge.{path_of, within_same, off_of}
use Rattle.im_replay.proofs.Device.{replay_law}

flips-on : (fl : ℕ → Bool) (t : ℕ) → fl t ≡ true → flips fl (suc t) ≡ suc (flips fl t)
flips-on fl t h = ap (λ b. cond b (suc (flips fl t)) (flips fl t)) h

flips-off : (fl : ℕ → Bool) (t : ℕ) → fl t ≡ false → flips fl (suc t) ≡ flips fl t
flips-off fl t h = ap (λ b. cond b (suc (flips fl t)) (flips fl t)) h

steps-two : (n k : ℕ) (x : PathMoment Cpu) → steps next_of index_of (n + k) x ≡ steps next_of index_of k (steps next_of index_of n x)
steps-two zero k x = ap (λ z. steps next_of index_of z x) (let q : zero + k ≡ k = omega arith in q)
steps-two (suc n) k x = ap (λ z. steps next_of index_of z x) (let q : suc n + k ≡ suc (n + k) = omega arith in q) ∙ steps-two n k (one_step next_of index_of x)

over_steps : (n : ℕ) (x : PathMoment Cpu) → x.over ≡ true → steps next_of index_of n x ≡ x
over_steps zero x o = refl
over_steps (suc n) x o = ap (steps next_of index_of n) (ap (λ b. cond b x (after_step index_of x (next_of x.regs x.mem))) o) ∙ over_steps n x o

halted_one : (w : Went) → w ≢ On → ((at : ℕ) → w ≢ Faulted at) → w ≡ Halted
halted_one On over calm = absurd (over refl)
halted_one Halted over calm = refl
halted_one (Faulted at) over calm = absurd (calm at refl)

module _ (m : Mem) (code : ℕ) (c : IsReplayable m code) where
  abbrev run : ℕ → State
  run = uninterrupted m

  can : CanResume m
  can = can_resume m code c

  u : IsSound run code
  u = sound run code (owed_of m code c)

  w : Followed next_of torn_of boot index_of (memory run) (writes run) (reads run) (flip run) (ends run) is_buffer (is_fixed code) (IsLike run) (IsLive run) resume 33 waking
  w = followed run code u

  -- the moment is that of time t, and the run goes on
  record Level (t : ℕ) (x : PathMoment Cpu) : Type 0 where
    like : IsLike run t x.regs x.mem
    live : IsLive run (start (flip run) t) x.mem
    same : (a : ℕ) → is_buffer a ≡ false → x.mem a ≡ (run t).mem a
    count : flips (flip run) t ≡ x.commits
    on : x.over ≡ false
    before : (e : ℕ) → e < t → ends run e ≡ false

  -- the run has ended
  record Ended (x : PathMoment Cpu) : Type 0 where
    e : ℕ
    ended : ends run e ≡ true
    same : (a : ℕ) → is_buffer a ≡ false → x.mem a ≡ (run e).mem a
    count : flips (flip run) e ≡ x.commits
    over : x.over ≡ true

  agrees : (t : ℕ) (x : PathMoment Cpu) → Level t x → Agrees (reads run) (memory run) (is_fixed code) t x.mem
  agrees t x l = record { reads = λ a r. l.same a (w.reads_outside t a r); fixes = λ a h. l.same a (w.fixed_outside a h) }

  index_same : (t : ℕ) (n : Mem) → ((a : ℕ) → is_buffer a ≡ false → n a ≡ (run t).mem a) → index_of n ≡ index_of (run t).mem
  index_same t n h = w.index_by n (run t).mem (λ a l. h a (w.fixed_outside a (w.index_fixed a l)))

  one : (t : ℕ) (x : PathMoment Cpu) → Level t x → one_step next_of index_of x ≡ after_step index_of x (next_of x.regs x.mem)
  one t x l = ap (λ b. cond b x (after_step index_of x (next_of x.regs x.mem))) l.on

  level_next : (t : ℕ) (x : PathMoment Cpu) (l : Level t x) → ends run t ≡ false → (v : Advances next_of (writes run) (flip run) is_buffer (IsLike run) (IsLive run) t x.regs x.mem) → Level (suc t) (record { regs = v.regs; mem = v.mem; commits = counted index_of x.mem v.mem x.commits; over = false })
  level_next t x l go v =
      let same : (a : ℕ) → is_buffer a ≡ false → v.mem a ≡ (run (suc t)).mem a = λ a out. v.bytes a out ∙ patch_same a (writes run t a) (x.mem a) ((run t).mem a) (l.same a out) ∙ sym (w.writes t a out) in
      let changes : nat_eq (index_of x.mem) (index_of v.mem) ≡ cond (flip run t) false true = ap (λ z. nat_eq z (index_of v.mem)) (index_same t x.mem l.same) ∙ ap (λ z. nat_eq (index_of (run t).mem) z) (index_same (suc t) v.mem same) ∙ w.index_changes t in
      record {
        like = v.alike;
        live = v.lives;
        same = same;
        count = elim (truth (flip run t)) [
          | inl f ↦ flips-on (flip run) t f ∙ ap suc l.count ∙ sym (ap (λ b. cond b x.commits (suc x.commits)) (changes ∙ ap (λ b. cond b false true) f))
          | inr f ↦ flips-off (flip run) t f ∙ l.count ∙ sym (ap (λ b. cond b x.commits (suc x.commits)) (changes ∙ ap (λ b. cond b false true) f))
        ];
        on = refl;
        before = λ e lt. elim (order e t) [
          | inl less ↦ l.before e less
          | inr more ↦ (let q : e ≡ t = omega arith in subst (λ z. ends run z ≡ false) (sym q) go)
        ];
      }
    where
      patch_same : (a : ℕ) (o : Option ℕ) (p q : ℕ) → p ≡ q → unwrap_or o p ≡ unwrap_or o q
      patch_same a o p q e = ap (λ z. unwrap_or o z) e

  steady : (k t : ℕ) (x : PathMoment Cpu) → Level t x → Level (t + k) (steps next_of index_of k x) ⊎ Ended (steps next_of index_of k x)
  steady zero t x l = inl (let q : t ≡ t + 0 = omega arith in subst (λ z. Level z x) q l)
  steady (suc k) t x l = elim (truth (ends run t)) [
    | inl e ↦ (
        let x' : PathMoment Cpu = record x { over = true } in
        let stop : one_step next_of index_of x ≡ x' = one t x l ∙ ap (after_step index_of x) (w.stops t x.regs x.mem e l.like l.live (agrees t x l)) in
        let all : steps next_of index_of (suc k) x ≡ x' = ap (steps next_of index_of k) stop ∙ over_steps k x' refl in
        inr (subst Ended (sym all) (record { e = t; ended = e; same = l.same; count = l.count; over = refl })))
    | inr go ↦ (
        let v = w.goes t x.regs x.mem go l.like l.live (agrees t x l) in
        let x' : PathMoment Cpu = record { regs = v.regs; mem = v.mem; commits = counted index_of x.mem v.mem x.commits; over = false } in
        let next : one_step next_of index_of x ≡ x' = one t x l ∙ ap (after_step index_of x) v.step in
        let q : suc t + k ≡ t + suc k = omega arith in
        subst (λ z. Level (t + suc k) (steps next_of index_of k z) ⊎ Ended (steps next_of index_of k z)) (sym next)
        (subst (λ z. Level z (steps next_of index_of k x') ⊎ Ended (steps next_of index_of k x')) q (steady k (suc t) x' (level_next t x l go v))))
  ]

  module _ (junk : ℕ) where
    live_first : IsLive run 0 m
    live_first = subst (IsLive run 0) (first_mem m can) u.begins

    first_same : (a : ℕ) → m a ≡ (run 0).mem a
    first_same a = ap (λ (z : Mem). z a) (sym (first_mem m can))

    level_first : Level 0 (record { regs = waking 33 junk m; mem = m; commits = 0; over = false })
    level_first = record {
      like = w.woken 0 junk m refl live_first (λ a h. first_same a);
      live = live_first;
      same = λ a out. first_same a;
      count = refl;
      on = refl;
      before = λ e lt. absurd (omega arith);
    }

    path_at : (n : ℕ) → steps next_of index_of n (record (switched_on m) { regs = boot junk }) ≡ path_of (resuming n junk m)
    path_at n = within_same [] n junk m

    early : (n : ℕ) → n ≤ 33 → path_of (resuming n junk m) ≡ record { regs = waking n junk m; mem = m; commits = 0; over = false }
    early n le = ap path_of (resuming_is m junk n can le)

    later : (k : ℕ) → path_of (resuming (33 + k) junk m) ≡ steps next_of index_of k (record { regs = waking 33 junk m; mem = m; commits = 0; over = false })
    later k = sym (path_at (33 + k)) ∙ steps-two 33 k (record (switched_on m) { regs = boot junk }) ∙ ap (steps next_of index_of k) (path_at 33 ∙ early 33 (omega arith))

    -- after n instructions the device shows the run at a time, which is late, or at its end
    pub record Shows_at (n : ℕ) : Type 0 where
      pub t : ℕ
      pub same : (a : ℕ) → is_buffer a ≡ false → (resuming n junk m).mem a ≡ (run t).mem a
      pub commits : flips (flip run) t ≡ (resuming n junk m).commits
      pub late : ((n ≤ 33 + t) × ((e : ℕ) → e < t → ends run e ≡ false)) ⊎ ((ends run t ≡ true) × ((resuming n junk m).went ≡ Halted))

    no_fault : (n at : ℕ) → (resuming n junk m).went ≢ Faulted at
    no_fault n at h =
        let r = (replay_law m code c).no_fault (and_then [] n junk 0) at in
        r (ap (λ v. (unless_over (after_tear 0) v (resuming n junk m)).went) h ∙ h)

    pub shows_at : (n : ℕ) → Shows_at n
    shows_at n = elim (order n 33) [
      | inl lt ↦ (let e = early n (omega arith) in record {
        t = 0;
        same = λ a out. ap (λ (z : PathMoment Cpu). z.mem a) e ∙ first_same a;
        commits = sym (ap (λ (z : PathMoment Cpu). z.commits) e);
        late = inl (omega arith, (λ e lt. absurd (omega arith)));
      })
      | inr le ↦ (
          let k = n - 33 in
          let q : 33 + k ≡ n = omega arith in
          let zero_plus : 0 + k ≡ k = omega arith in
          subst Shows_at q (elim (steady k 0 (record { regs = waking 33 junk m; mem = m; commits = 0; over = false }) level_first) [
            | inl l ↦ record {
              t = 0 + k;
              same = λ a out. ap (λ (z : PathMoment Cpu). z.mem a) (later k) ∙ l.same a out;
              commits = l.count ∙ sym (ap (λ (z : PathMoment Cpu). z.commits) (later k));
              late = inl (omega arith, l.before);
            }
            | inr d ↦ record {
              t = d.e;
              same = λ a out. ap (λ (z : PathMoment Cpu). z.mem a) (later k) ∙ d.same a out;
              commits = d.count ∙ sym (ap (λ (z : PathMoment Cpu). z.commits) (later k));
              late = inr (d.ended, halted_one (resuming (33 + k) junk m).went (off_of (resuming (33 + k) junk m).went (ap (λ (z : PathMoment Cpu). z.over) (later k) ∙ d.over)) (no_fault (33 + k)));
            }
          ]))
    ]
