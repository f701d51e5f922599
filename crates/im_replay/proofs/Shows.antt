-- A moment shows the output of the uninterrupted run at a time of its section.
use Rattle.std.proofs.Common.{◌≡◌, ◌≢◌, ℕ, zero, suc, ◌+◌, ◌<◌, ◌≤◌, ◌⊎◌, inl, inr, Bool, true, false, cond, Option, Some, None, refl, sym, ap, ◌∙◌, subst, arith}
use Rattle.std.specs.Prelude.{◌==◌, ◌||◌, min, is_some, unwrap_or}
use Rattle.std.proofs.lemmas.Bool.Decides.{nat_tests}
use Rattle.im_mem.specs.Memory.{Mem, little}
use Rattle.im_mem.proofs.Words.{little-alike}
use Rattle.im_replay_path.specs.Sections.{start, wrote, Writes, Mixed}
use Rattle.im_replay_path.proofs.Times.{truth, order, start_le, start-flip, start-calm, unwritten}
use Rattle.im_ckpt.specs.Runs.{State, flip, memory, writes}
use Rattle.im_ckpt.specs.Buffers.{is_buffer}
use Rattle.im_replay.proofs.Sound.{IsSound}
use Rattle.im_replay.specs.Output.{output_size, Extends, SameOutput, ShowsSafely}
use Rattle.im_rv.proofs.Effecting.{step_mem}

pub extends_self : (m : Mem) → Extends m m
extends_self m = record { size = omega arith; bytes = λ i l. refl }

pub extends_on : (a b c : Mem) → Extends a b → Extends b c → Extends a c
extends_on a b c p q = record { size = (let x = p.size in let y = q.size in omega arith); bytes = λ i l. q.bytes i (let x = p.size in omega arith) ∙ p.bytes i l }

pub same_extends : (a b c d : Mem) → SameOutput a b → Extends b c → SameOutput d c → Extends a d
same_extends a b c d p q r = record {
  size = (let x = p.size in let y = q.size in let z = r.size in omega arith);
  bytes = λ i l. r.bytes i (let x = p.size in let y = q.size in let z = r.size in omega arith) ∙ q.bytes i (let x = p.size in omega arith) ∙ sym (p.bytes i l);
}

pub size_by : (m n : Mem) → m 36 ≡ n 36 → ((m 36 ≡ 0) → little m 12 4 ≡ little n 12 4) → ((m 36 ≢ 0) → little m 32 4 ≡ little n 32 4) → output_size m ≡ output_size n
size_by m n e p q = ap (λ z. min z 1048576) (by_zero (m 36 == 0) refl)
  where
    eq_of : (a : ℕ) → (a == 0) ≡ true → a ≡ 0
    eq_of a h = grind (arith, nat_tests)

    ne_of : (a : ℕ) → (a == 0) ≡ false → a ≢ 0
    ne_of a h = grind (arith, nat_tests)

    by_zero : (b : Bool) → (m 36 == 0) ≡ b → cond (m 36 == 0) (little m 12 4) (little m 32 4) ≡ cond (n 36 == 0) (little n 12 4) (little n 32 4)
    by_zero true h = ap (λ z. cond z (little m 12 4) (little m 32 4)) h ∙ p (eq_of (m 36) h) ∙ sym (ap (λ z. cond z (little n 12 4) (little n 32 4)) (sym (ap (λ z. z == 0) e) ∙ h))
    by_zero false h = ap (λ z. cond z (little m 12 4) (little m 32 4)) h ∙ q (ne_of (m 36) h) ∙ sym (ap (λ z. cond z (little n 12 4) (little n 32 4)) (sym (ap (λ z. z == 0) e) ∙ h))

low_out : (a : ℕ) → a < 40 → is_buffer a ≡ false
low_out a l = grind (arith, nat_tests)

high_out : (i : ℕ) → is_buffer (4194304 + i) ≡ false
high_out i = grind (arith, nat_tests)

pub same_self : (m : Mem) → SameOutput m m
same_self m = record { size = refl; bytes = λ i l. refl }

-- memories that agree outside the buffers
pub alike : (m n : Mem) → ((a : ℕ) → is_buffer a ≡ false → m a ≡ n a) → SameOutput m n
alike m n h = record {
  size = size_by m n (h 36 refl) (λ z. little-alike m n 4 12 (λ a p q. h a (low_out a (omega arith)))) (λ z. little-alike m n 4 32 (λ a p q. h a (low_out a (omega arith))));
  bytes = λ i l. h (4194304 + i) (high_out i);
}

-- what was written, and when
pub wrote_some : (fl : ℕ → Bool) (wr : ℕ → ℕ → Option ℕ) (t a : ℕ) → wrote fl wr t a ≡ true → (w : ℕ) × (w < t) × (start fl w ≡ start fl t) × (fl w ≡ false) × (is_some (wr w a) ≡ true)
wrote_some fl wr zero a h = absurd (cc)
wrote_some fl wr (suc t) a h = elim (truth (fl t)) [
  | inl f ↦ absurd (let q : false ≡ true = sym (ap (λ b. cond b false (is_some (wr t a) || wrote fl wr t a)) f) ∙ h in cc)
  | inr f ↦ (
      let e = start-calm fl t f in
      elim (or_cases (is_some (wr t a)) (wrote fl wr t a) (sym (ap (λ b. cond b false (is_some (wr t a) || wrote fl wr t a)) f) ∙ h)) [
        | inl now ↦ (t, omega arith, sym e, f, now)
        | inr before ↦ (let r = wrote_some fl wr t a before in (r.0, (let l = r.1 in omega arith), r.2 ∙ sym e, r.3, r.4))
      ])
]
  where
    or_cases : (a b : Bool) → (a || b) ≡ true → (a ≡ true) ⊎ (b ≡ true)
    or_cases true b h = inl refl
    or_cases false b h = inr h

some_is : (o : Option ℕ) → is_some o ≡ true → (v : ℕ) × (o ≡ Some v)
some_is None h = absurd (cc)
some_is (Some v) h = (v, refl)

module _ (run : ℕ → State) (code : ℕ) (u : IsSound run code) (o : ShowsSafely run) where
  mem_next : (t a : ℕ) → (run (suc t)).mem a ≡ unwrap_or (writes run t a) ((run t).mem a)
  mem_next t a = ap (λ (s : State). s.mem a) (u.steps t) ∙ step_mem (run t).cpu (run t).mem a

  -- output of the uninterrupted run never shrinks
  pub grows_on : (s t : ℕ) → s ≤ t → Extends (run s).mem (run t).mem
  grows_on s zero l = subst (λ z. Extends (run z).mem (run 0).mem) (let q : 0 ≡ s = omega arith in q) (extends_self (run 0).mem)
  grows_on s (suc t) l = elim (order t s) [
    | inl e ↦ subst (λ z. Extends (run z).mem (run (suc t)).mem) (let q : suc t ≡ s = omega arith in q) (extends_self (run (suc t)).mem)
    | inr before ↦ extends_on (run s).mem (run t).mem (run (suc t)).mem (grows_on s t before) (o.grows t)
  ]

  written_value : (t a v : ℕ) → writes run t a ≡ Some v → (run (suc t)).mem a ≡ v
  written_value t a v h = mem_next t a ∙ ap (λ z. unwrap_or z ((run t).mem a)) h

  -- before the one store to OUT_SEL a section has written nothing
  still : (t v a : ℕ) → flip run t ≡ false → writes run t 36 ≡ Some v → is_buffer a ≡ false → (run t).mem a ≡ (run (start (flip run) t)).mem a
  still t v a f h out = elim (truth (wrote (flip run) (writes run) t a)) [
    | inr n ↦ unwritten (flip run) (writes run) (memory run) a (λ z. mem_next z a) t n
    | inl y ↦ absurd (
        let w = wrote_some (flip run) (writes run) t a y in
        let x = some_is (writes run w.0 a) w.4 in
        let q = o.one_store t w.0 a v x.0 (sym w.2) f w.3 h out x.1 in
        let l = w.1 in
        let e = q.0 in
        omega arith)
  ]

  -- and it writes nothing else
  sel_alone : (t v a : ℕ) → flip run t ≡ false → writes run t 36 ≡ Some v → is_buffer a ≡ false → a ≢ 36 → (run (suc t)).mem a ≡ (run (start (flip run) t)).mem a
  sel_alone t v a f h out ne = elim (some_or_none (writes run t a)) [
    | inl n ↦ mem_next t a ∙ ap (λ z. unwrap_or z ((run t).mem a)) n ∙ still t v a f h out
    | inr x ↦ absurd (ne (o.one_store t t a v x.0 refl f f h out x.1).1)
  ]
    where
      some_or_none : (z : Option ℕ) → (z ≡ None) ⊎ ((w : ℕ) × (z ≡ Some w))
      some_or_none None = inl refl
      some_or_none (Some w) = inr (w, refl)

  -- what a moment shows: the output at a time of its section
  pub record Shown (s : ℕ) (m : Mem) : Type 0 where
    pub time : ℕ
    pub within : start (flip run) time ≡ s
    pub same : SameOutput m (run time).mem

  shown_old : (s : ℕ) (m : Mem) → start (flip run) s ≡ s → Mixed (flip run) (writes run) (memory run) is_buffer s m → m 36 ≡ (run s).mem 36 → Shown s m
  shown_old s m b mixed e = record {
    time = s;
    within = b;
    same = record {
      size = size;
      bytes = λ i l. elim (mixed (4194304 + i) (high_out i)) [
        | inl q ↦ q
        | inr w ↦ (
            let g = grows_on s (suc w.time) (let x = start_le (flip run) w.time in let y = w.within in omega arith) in
            sym (written_value w.time (4194304 + i) (m (4194304 + i)) w.value) ∙ g.bytes i (subst (λ z. i < z) size l))
      ];
    };
  }
    where
      first : m 36 ≡ 0 → (a : ℕ) → 12 ≤ a → a < 16 → m a ≡ (run s).mem a
      first z a l h = elim (mixed a (low_out a (omega arith))) [
        | inl q ↦ q
        | inr w ↦ absurd (o.first_length w.time a (m a) w.no_flip l h w.value (ap (λ k. (run k).mem 36) w.within ∙ sym e ∙ z))
      ]

      second : m 36 ≢ 0 → (a : ℕ) → 32 ≤ a → a < 36 → m a ≡ (run s).mem a
      second z a l h = elim (mixed a (low_out a (omega arith))) [
        | inl q ↦ q
        | inr w ↦ absurd (z (e ∙ sym (ap (λ k. (run k).mem 36) w.within) ∙ o.second_length w.time a (m a) w.no_flip l h w.value))
      ]

      size : output_size m ≡ output_size (run s).mem
      size = size_by m (run s).mem e (λ z. little-alike m (run s).mem 4 12 (λ a l h. first z a l h)) (λ z. little-alike m (run s).mem 4 32 (λ a l h. second z a l h))

  shown_new : (s : ℕ) (m : Mem) → Mixed (flip run) (writes run) (memory run) is_buffer s m → Writes (flip run) (writes run) s 36 (m 36) → Shown s m
  shown_new s m mixed w = record {
    time = suc w.time;
    within = start-calm (flip run) w.time w.no_flip ∙ w.within;
    same = record {
      size = size_by m (run (suc w.time)).mem (sym (written_value w.time 36 (m 36) w.value)) (λ z. little-alike m (run (suc w.time)).mem 4 12 (λ a l h. other a (low_out a (omega arith)) (omega arith))) (λ z. little-alike m (run (suc w.time)).mem 4 32 (λ a l h. other a (low_out a (omega arith)) (omega arith)));
      bytes = λ i l. other (4194304 + i) (high_out i) (omega arith);
    };
  }
    where
      other : (a : ℕ) → is_buffer a ≡ false → a ≢ 36 → m a ≡ (run (suc w.time)).mem a
      other a out ne = elim (mixed a out) [
        | inl q ↦ q ∙ sym (ap (λ k. (run k).mem a) w.within) ∙ sym (sel_alone w.time (m 36) a w.no_flip w.value out ne)
        | inr x ↦ absurd (ne (o.one_store w.time x.time a (m 36) (m a) (w.within ∙ sym x.within) w.no_flip x.no_flip w.value out x.value).1)
      ]

  pub shown : (s : ℕ) (m : Mem) → start (flip run) s ≡ s → Mixed (flip run) (writes run) (memory run) is_buffer s m → Shown s m
  shown s m b mixed = elim (mixed 36 refl) [
    | inl e ↦ shown_old s m b mixed e
    | inr w ↦ shown_new s m mixed w
  ]

  start_mono : (r t : ℕ) → r ≤ t → start (flip run) r ≤ start (flip run) t
  start_mono r zero h = let q : r ≡ 0 = omega arith in subst (λ z. start (flip run) z ≤ 0) (sym q) (omega arith)
  start_mono r (suc t) h = elim (order t r) [
    | inl a ↦ (let q : r ≡ suc t = omega arith in subst (λ z. start (flip run) z ≤ start (flip run) (suc t)) (sym q) (omega arith))
    | inr a ↦ elim (truth (flip run t)) [
      | inl f ↦ (let e1 = start-flip (flip run) t f in let l1 = start_le (flip run) r in omega arith)
      | inr f ↦ (let e1 = start-calm (flip run) t f in let l1 = start_mono r t a in omega arith)
    ]
  ]

  -- a later moment, in a later section or in the same one with OUT_SEL no older, shows no less
  pub shows_more : (s r : ℕ) (m n : Mem) → start (flip run) s ≡ s → Mixed (flip run) (writes run) (memory run) is_buffer s m → start (flip run) r ≡ r → s ≤ r → Mixed (flip run) (writes run) (memory run) is_buffer r n → (r ≡ s → (t : ℕ) → start (flip run) t ≡ s → flip run t ≡ false → writes run t 36 ≡ Some (m 36) → n 36 ≡ m 36) → Extends m n
  unfolding shown_new shown_old
  shows_more s r m n bs mixed_m b l mixed keep = elim (mixed_m 36 refl) [
    | inl e ↦ (
        let x = shown_old s m bs mixed_m e in
        let y = shown r n b mixed in
        from s y.time x.same y.same (let a = start_le (flip run) y.time in let k = y.within in omega arith))
    | inr w ↦ (
        let x = shown_new s m mixed_m w in
        elim (order s r) [
          | inl before ↦ (
              let y = shown r n b mixed in
              let q : w.time < r = elim (order w.time r) [ inl a ↦ a | inr a ↦ absurd (let z = start_mono r w.time a in let k = w.within in omega arith) ] in
              from (suc w.time) y.time x.same y.same (let a = start_le (flip run) y.time in let k = y.within in omega arith))
          | inr same ↦ (
              let q : r ≡ s = omega arith in
              let e = keep q w.time w.within w.no_flip w.value in
              let w' : Writes (flip run) (writes run) r 36 (n 36) = record { time = w.time; within = w.within ∙ sym q; no_flip = w.no_flip; value = w.value ∙ ap Some (sym e) } in
              let y = shown_new r n mixed w' in
              from (suc w.time) (suc w.time) x.same y.same (omega arith))
        ])
  ]
    where
      from : (a c : ℕ) → SameOutput m (run a).mem → SameOutput n (run c).mem → a ≤ c → Extends m n
      from a c p q l = same_extends m (run a).mem (run c).mem n p (grows_on a c l) q
