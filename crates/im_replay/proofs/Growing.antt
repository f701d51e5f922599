-- Output never shrinks, from each moment to each later one.
use Rattle.std.proofs.Common.{◌≡◌, ◌⊎◌, inl, inr, ◌+◌, ℕ, zero, suc, false, cond, List, Option, Some, None, refl, sym, ap, ◌∙◌, subst, arith}
use Rattle.std.specs.Prelude.{unwrap_or}
use Rattle.im_mem.specs.Memory.{Mem}
use Rattle.im_rv.specs.Steps.{Cpu}
use Rattle.im_device.specs.Run.{boot, index_of}
use Rattle.im_replay_path.specs.Path.{Moment, Spell, steps, torn, one_step, patched}
use Rattle.im_replay_path.specs.Sections.{start, flips}
use Rattle.im_replay_path.proofs.Replay.{Place, Fails, Left, failed, left_fails, replay, replay_within, flips-start}
use Rattle.im_replay_path.proofs.Later.{Failed_since, after_failure, after_steps, after_torn}
use Rattle.im_replay.proofs.Machine.{next_of, powered, switched_on, within, Never_shrinks_path, waking}
use Rattle.im_rv.specs.Torn.{torn_of}
use Rattle.im_ckpt.specs.Runs.{State, flip, ends, memory, writes, reads}
use Rattle.im_ckpt.specs.Buffers.{is_buffer, is_fixed}
use Rattle.im_replay.specs.Sections.{resume, IsLive}
use Rattle.im_replay.proofs.Sound.{IsLike, IsSound}
use Rattle.im_replay.specs.Output.{Extends, SameOutput, ShowsSafely}
use Rattle.im_replay.proofs.Instance.{followed}
use Rattle.im_replay.proofs.Shows.{shown, shows_more}

steps-add : (n k : ℕ) (x : Moment Cpu) → steps next_of index_of (n + k) x ≡ steps next_of index_of k (steps next_of index_of n x)
steps-add zero k x = ap (λ z. steps next_of index_of z x) (let q : zero + k ≡ k = omega arith in q)
steps-add (suc n) k x = ap (λ z. steps next_of index_of z x) (let q : suc n + k ≡ suc (n + k) = omega arith in q) ∙ steps-add n k (one_step next_of index_of x)

module _ (run : ℕ → State) (code : ℕ) (u : IsSound run code) (o : ShowsSafely run) where
  -- OUT_SEL is v, if that is what the section that began at s stores there
  abbrev Settled : ℕ → ℕ → Mem → Type 0
  Settled s v k = (t : ℕ) → start (flip run) t ≡ s → flip run t ≡ false → writes run t 36 ≡ Some v → k 36 ≡ v

  keeps : (s v t : ℕ) (m n : Mem) → start (flip run) t ≡ s → flip run t ≡ false → ((a : ℕ) → is_buffer a ≡ false → (n a ≡ m a) ⊎ (n a ≡ patched (writes run t) m a)) → Settled s v m → Settled s v n
  keeps s v t m n e f h p t' e' f' w = elim (h 36 refl) [
    | inl q ↦ q ∙ p t' e' f' w
    | inr q ↦ q ∙ by_write (writes run t 36) refl
  ]
    where
      by_write : (z : Option ℕ) → writes run t 36 ≡ z → unwrap_or z (m 36) ≡ v
      by_write None g = p t' e' f' w
      by_write (Some x) g = (
          let q = o.one_store t' t 36 v x (e' ∙ sym e) f' f w refl g in
          let same : Some x ≡ Some v = sym g ∙ ap (λ k. writes run k 36) q.0 ∙ w in
          cc)

  abbrev Now : Moment Cpu → Type 0
  Now = Fails next_of torn_of boot index_of (memory run) (writes run) (reads run) (flip run) (ends run) is_buffer (is_fixed code) (IsLike run) (IsLive run) resume 33 waking (followed run code u)

  abbrev Here : ℕ → ℕ → Moment Cpu → Type 0
  Here = Place next_of torn_of boot index_of (memory run) (writes run) (reads run) (flip run) (ends run) is_buffer (is_fixed code) (IsLike run) (IsLive run) resume 33 waking (followed run code u)

  abbrev Then : ℕ → ℕ → Moment Cpu → Type 0
  Then s v y = Failed_since next_of torn_of boot index_of (memory run) (writes run) (reads run) (flip run) (ends run) is_buffer (is_fixed code) (IsLike run) (IsLive run) resume 33 waking (followed run code u) s (Settled s v) (keeps s v) y

  -- a moment, and a later one that has what Since says
  later : (x y : Moment Cpu) (f : Now x) → Then f.s (x.mem 36) y → Extends x.mem y.mem
  later x y f g = shows_more run code u o f.s g.s x.mem y.mem f.begins f.mixed g.begins g.lives.past g.mixed (λ q t e c w. g.lives.holds q t e c w)

  settled : (x : Moment Cpu) (s : ℕ) → Settled s (x.mem 36) x.mem
  settled x s t e f w = refl

  pub comes : (n junk : ℕ) (x : Moment Cpu) → x.over ≡ false → Now x → Extends x.mem (steps next_of index_of n (record x { regs = boot junk })).mem
  comes n junk x g f = later x (steps next_of index_of n (record x { regs = boot junk })) f (after_failure next_of torn_of boot index_of (memory run) (writes run) (reads run) (flip run) (ends run) is_buffer (is_fixed code) (IsLike run) (IsLive run) resume 33 waking (followed run code u) f.s (Settled f.s (x.mem 36)) (keeps f.s (x.mem 36)) n junk x g f refl (settled x f.s))

  follow : (k s n : ℕ) (x : Moment Cpu) → Here s n x → Extends x.mem (steps next_of index_of k x).mem
  follow k s n x p =
      let f = failed next_of torn_of boot index_of (memory run) (writes run) (reads run) (flip run) (ends run) is_buffer (is_fixed code) (IsLike run) (IsLive run) resume 33 waking (followed run code u) s n x p in
      later x (steps next_of index_of k x) f (after_steps next_of torn_of boot index_of (memory run) (writes run) (reads run) (flip run) (ends run) is_buffer (is_fixed code) (IsLike run) (IsLive run) resume 33 waking (followed run code u) f.s (Settled f.s (x.mem 36)) (keeps f.s (x.mem 36)) k s n x p refl (settled x f.s))

  tears : (mask k s n : ℕ) (x : Moment Cpu) → Here s n x → Extends x.mem (torn torn_of index_of mask (steps next_of index_of k x)).mem
  tears mask k s n x p =
      let f = failed next_of torn_of boot index_of (memory run) (writes run) (reads run) (flip run) (ends run) is_buffer (is_fixed code) (IsLike run) (IsLive run) resume 33 waking (followed run code u) s n x p in
      later x (torn torn_of index_of mask (steps next_of index_of k x)) f (after_torn next_of torn_of boot index_of (memory run) (writes run) (reads run) (flip run) (ends run) is_buffer (is_fixed code) (IsLike run) (IsLive run) resume 33 waking (followed run code u) f.s (Settled f.s (x.mem 36)) (keeps f.s (x.mem 36)) mask k s n x p refl (settled x f.s))

  now_shown : (x : Moment Cpu) → Now x → (t : ℕ) × (flips (flip run) t ≡ x.commits) × SameOutput x.mem (run t).mem
  now_shown x f =
      let y = shown run code u o f.s x.mem f.begins f.mixed in (
        y.time,
        sym (flips-start next_of torn_of boot index_of (memory run) (writes run) (reads run) (flip run) (ends run) is_buffer (is_fixed code) (IsLike run) (IsLive run) resume 33 waking (followed run code u) y.time) ∙ ap (flips (flip run)) y.within ∙ f.count,
        y.same,
      )

  pub never_shrinks : (m : Mem) → (run 0).mem ≡ m → Never_shrinks_path run m
  never_shrinks m e =
      let l : IsLive run 0 m = subst (IsLive run 0) e u.begins in
      let all : (ps : List Spell) → Left next_of torn_of boot index_of (memory run) (writes run) (reads run) (flip run) (ends run) is_buffer (is_fixed code) (IsLike run) (IsLive run) resume 33 waking (followed run code u) (powered ps m) = λ ps. replay next_of torn_of boot index_of (memory run) (writes run) (reads run) (flip run) (ends run) is_buffer (is_fixed code) (IsLike run) (IsLive run) resume 33 waking (followed run code u) ps (switched_on m) (sym e) refl l refl in
      record {
        comes = λ ps n junk g. comes n junk (powered ps m) g (left_fails next_of torn_of boot index_of (memory run) (writes run) (reads run) (flip run) (ends run) is_buffer (is_fixed code) (IsLike run) (IsLive run) resume 33 waking (followed run code u) (powered ps m) (all ps));
        follow = λ ps n k junk g. subst (λ (z : Moment Cpu). Extends (within ps n junk m).mem z.mem) (sym (steps-add n k (record (powered ps m) { regs = boot junk })))
            (follow k _ n (within ps n junk m) (replay_within next_of torn_of boot index_of (memory run) (writes run) (reads run) (flip run) (ends run) is_buffer (is_fixed code) (IsLike run) (IsLive run) resume 33 waking (followed run code u) ps n junk (switched_on m) (sym e) refl l refl g));
        fails = λ ps n k junk mask g. subst (λ (z : Moment Cpu). Extends (within ps n junk m).mem z.mem)
            (ap (torn torn_of index_of mask) (sym (steps-add n k (record (powered ps m) { regs = boot junk }))) ∙ sym (ap (λ b. cond b (powered ps m) (torn torn_of index_of mask (steps next_of index_of (n + k) (record (powered ps m) { regs = boot junk })))) g))
            (tears mask k _ n (within ps n junk m) (replay_within next_of torn_of boot index_of (memory run) (writes run) (reads run) (flip run) (ends run) is_buffer (is_fixed code) (IsLike run) (IsLive run) resume 33 waking (followed run code u) ps n junk (switched_on m) (sym e) refl l refl g));
        shows = λ ps. now_shown (powered ps m) (left_fails next_of torn_of boot index_of (memory run) (writes run) (reads run) (flip run) (ends run) is_buffer (is_fixed code) (IsLike run) (IsLive run) resume 33 waking (followed run code u) (powered ps m) (all ps));
        shows_within = λ ps n junk g. now_shown (within ps n junk m) (failed next_of torn_of boot index_of (memory run) (writes run) (reads run) (flip run) (ends run) is_buffer (is_fixed code) (IsLike run) (IsLive run) resume 33 waking (followed run code u) _ n (within ps n junk m) (replay_within next_of torn_of boot index_of (memory run) (writes run) (reads run) (flip run) (ends run) is_buffer (is_fixed code) (IsLike run) (IsLive run) resume 33 waking (followed run code u) ps n junk (switched_on m) (sym e) refl l refl g));
      }
