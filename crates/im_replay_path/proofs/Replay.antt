-- A run whose power fails follows the run without failures, section by section.
use Rattle.std.proofs.Common.{◌≡◌, ◌≢◌, ℕ, zero, suc, ◌+◌, ◌<◌, ◌≤◌, ◌⊎◌, inl, inr, Bool, true, false, cond, Option, Some, None, List, [], ◌∷◌, refl, sym, ap, ◌∙◌, subst, arith}
use Rattle.std.specs.Prelude.{nat_le, is_some, unwrap_or, ◌||◌, nat_eq}
use Rattle.im_replay_path.specs.Path.{long_periods, Next, Goes, Ends, patched, Moment, counted, after_step, one_step, steps, torn, Spell, period, power}
use Rattle.im_mem.specs.Memory.{Mem}
use Rattle.im_replay_path.specs.Sections.{start, flips, wrote, Writes, Mixed}
use Rattle.im_replay_path.specs.Followed.{Agrees, Followed}
use Rattle.std.proofs.lemmas.Bool.Decides.{nat_tests}
use Rattle.im_replay_path.proofs.Times.{truth, start-flip, start-calm, start_le, start_past, start_start, wrote-calm, wrote-flip, wrote_by, unwritten, order}

flips-flip : (flip : ℕ → Bool) (t : ℕ) → flip t ≡ true → flips flip (suc t) ≡ suc (flips flip t)
flips-flip flip t h = ap (λ b. cond b (suc (flips flip t)) (flips flip t)) h

flips-calm : (flip : ℕ → Bool) (t : ℕ) → flip t ≡ false → flips flip (suc t) ≡ flips flip t
flips-calm flip t h = ap (λ b. cond b (suc (flips flip t)) (flips flip t)) h

nat_eq_refl : (n : ℕ) → nat_eq n n ≡ true
nat_eq_refl n = grind (arith, nat_tests)

option_cases : (o : Option ℕ) (d : ℕ) → ((o ≡ None) × (unwrap_or o d ≡ d)) ⊎ (o ≡ Some (unwrap_or o d))
option_cases None d = inl (refl, refl)
option_cases (Some v) d = inr refl

none_left : (o : Option ℕ) (b : Bool) → o ≡ None → (is_some o || b) ≡ b
none_left o b h = ap (λ z. is_some z || b) h

some_same : (o : Option ℕ) (v d e : ℕ) → o ≡ Some v → unwrap_or o d ≡ unwrap_or o e
some_same o v d e h = ap (λ z. unwrap_or z d) h ∙ sym (ap (λ z. unwrap_or z e) h)

none_same : (o : Option ℕ) (d : ℕ) → o ≡ None → unwrap_or o d ≡ d
none_same o d h = ap (λ z. unwrap_or z d) h

module _ {R : Type 0} (next : R → Mem → Next R) (tear : ℕ → R → Mem → Mem) (boot : ℕ → R) (index : Mem → ℕ) (mem : ℕ → Mem) (wr : ℕ → ℕ → Option ℕ) (rd : ℕ → ℕ → Bool) (flip ends buf fixed : ℕ → Bool) (like : ℕ → R → Mem → Type 0) (live : ℕ → Mem → Type 0) (resume : ℕ → ℕ) (wake : ℕ) (waking : ℕ → ℕ → Mem → R) (u : Followed next tear boot index mem wr rd flip ends buf fixed like live resume wake waking) where
  -- recovery has taken i steps in the section that began at s
  pub record Wakes (x : Moment R) : Type 0 where
    pub s : ℕ
    pub i : ℕ
    pub junk : ℕ
    pub begins : start flip s ≡ s
    pub count : flips flip s ≡ x.commits
    pub within : i ≤ wake
    pub at : x.regs ≡ waking i junk x.mem
    pub mixed : Mixed flip wr mem buf s x.mem
    pub lives : live s x.mem
    pub going : x.over ≡ false

  -- memory is as at time t, for the section that t is in
  pub record Tracks (t : ℕ) (m : Mem) : Type 0 where
    pub mixed : Mixed flip wr mem buf (start flip t) m
    pub lives : live (start flip t) m
    pub done : (a : ℕ) → buf a ≡ false → wrote flip wr t a ≡ true → m a ≡ mem t a

  pub record Goes_on (t : ℕ) (x : Moment R) : Type 0 where
    pub count : flips flip t ≡ x.commits
    pub tracks : Tracks t x.mem
    pub regs : like t x.regs x.mem
    pub going : x.over ≡ false

  pub record Has_ended (x : Moment R) : Type 0 where
    pub t : ℕ
    pub count : flips flip t ≡ x.commits
    pub tracks : Tracks t x.mem
    pub stopped : ends t ≡ true
    pub over : x.over ≡ true

  -- power has failed in the section that began at s
  pub record Fails (x : Moment R) : Type 0 where
    pub s : ℕ
    pub begins : start flip s ≡ s
    pub count : flips flip s ≡ x.commits
    pub mixed : Mixed flip wr mem buf s x.mem
    pub lives : live s x.mem

  -- n steps after power came in the section that began at s
  pub data Place (s n : ℕ) (x : Moment R) : Type 0 where
    In_recovery : (w : Wakes x) → w.s ≡ s → w.i ≡ n → Place s n x
    In_section : (t : ℕ) → t + wake ≡ resume s + n → Goes_on t x → Place s n x
    At_end : Has_ended x → Place s n x

  -- a byte that is read has its value of that time
  read_same : (t : ℕ) (m : Mem) → Tracks t m → (a : ℕ) → rd t a ≡ true → m a ≡ mem t a
  read_same t m k a r = let out = u.reads_outside t a r in elim (truth (wrote flip wr t a)) [
    | inl w ↦ k.done a out w
    | inr n ↦ elim (k.mixed a out) [
      | inl e ↦ e ∙ sym (unwritten flip wr mem a (λ v. u.writes v a out) t n)
      | inr w ↦ absurd (elim (order w.time t) [
        | inl before ↦ (let y = wrote_by flip wr w.time t a (m a) before w.within w.value in let bad : true ≡ false = sym y ∙ n in cc)
        | inr late ↦ (let y = u.safe t w.time a late (sym w.within) w.no_flip r n in let bad : Some (m a) ≡ None = sym w.value ∙ y in cc)
      ])
    ]
  ]

  pub fixed_mixed : (s : ℕ) (m : Mem) → Mixed flip wr mem buf s m → (a : ℕ) → fixed a ≡ true → m a ≡ mem s a
  fixed_mixed s m mixed a h = elim (mixed a (u.fixed_outside a h)) [
    | inl e ↦ e
    | inr w ↦ absurd (let y = u.fixed_unwritten w.time a h w.no_flip in let bad : Some (m a) ≡ None = sym w.value ∙ y in cc)
  ]

  -- what no step but a flip writes is as at time t
  fixed_same : (t : ℕ) (m : Mem) → Tracks t m → (a : ℕ) → fixed a ≡ true → m a ≡ mem t a
  fixed_same t m k a h = elim (truth (wrote flip wr t a)) [
    | inl w ↦ k.done a (u.fixed_outside a h) w
    | inr n ↦ fixed_mixed (start flip t) m k.mixed a h ∙ sym (unwritten flip wr mem a (λ v. u.writes v a (u.fixed_outside a h)) t n)
  ]

  pub agrees : (t : ℕ) (m : Mem) → Tracks t m → Agrees rd mem fixed t m
  agrees t m k = record { reads = read_same t m k; fixes = fixed_same t m k }

  patched_same : (t : ℕ) (m : Mem) (a : ℕ) → buf a ≡ false → m a ≡ mem t a → patched (wr t) m a ≡ mem (suc t) a
  patched_same t m a out e = ap (λ d. unwrap_or (wr t a) d) e ∙ sym (u.writes t a out)

  index_same : (t : ℕ) (m : Mem) → Tracks t m → index m ≡ index (mem t)
  index_same t m k = u.index_by m (mem t) (λ a l. fixed_same t m k a (u.index_fixed a l))

  index_after : (t : ℕ) (m m' : Mem) → Tracks t m → ((a : ℕ) → buf a ≡ false → m' a ≡ patched (wr t) m a) → index m' ≡ index (mem (suc t))
  index_after t m m' k h = u.index_by m' (mem (suc t)) (λ a l. (let f = u.index_fixed a l in let o = u.fixed_outside a f in h a o ∙ patched_same t m a o (fixed_same t m k a f)))

  -- the step of time t changes the index where it is a flip
  index_step : (t : ℕ) (m m' : Mem) → Tracks t m → ((a : ℕ) → buf a ≡ false → m' a ≡ patched (wr t) m a) → nat_eq (index m) (index m') ≡ cond (flip t) false true
  index_step t m m' k h = ap (λ z. nat_eq z (index m')) (index_same t m k) ∙ ap (λ z. nat_eq (index (mem t)) z) (index_after t m m' k h) ∙ u.index_changes t

  -- before a flip the section has written all that it writes
  all_same : (t : ℕ) (m : Mem) → Tracks t m → flip t ≡ true → (a : ℕ) → buf a ≡ false → m a ≡ mem t a
  all_same t m k f a out = elim (truth (wrote flip wr t a)) [
    | inl w ↦ k.done a out w
    | inr n ↦ elim (k.mixed a out) [
      | inl e ↦ e ∙ sym (unwritten flip wr mem a (λ v. u.writes v a out) t n)
      | inr w ↦ absurd (elim (order w.time t) [
        | inl before ↦ (let y = wrote_by flip wr w.time t a (m a) before w.within w.value in let bad : true ≡ false = sym y ∙ n in cc)
        | inr late ↦ elim (order t w.time) [
          | inl past ↦ (let y = start_past flip t w.time f past in let z = start_le flip t in let v = w.within in omega arith)
          | inr le ↦ (let q : w.time ≡ t = omega arith in let y = subst (λ z. flip z ≡ false) q w.no_flip in let bad : true ≡ false = sym f ∙ y in cc)
        ]
      ])
    ]
  ]

  calm_tracks : (t : ℕ) (m m' : Mem) → Tracks t m → flip t ≡ false → ((a : ℕ) → buf a ≡ false → m' a ≡ patched (wr t) m a) → live (start flip (suc t)) m' → Tracks (suc t) m'
  calm_tracks t m m' k f h l = let s = start-calm flip t f in record {
    mixed = λ a i.
        subst (λ z. (m' a ≡ mem z a) ⊎ Writes flip wr z a (m' a)) (sym s)
        (elim (option_cases (wr t a) (m a)) [
          | inl n ↦ subst (λ v. (v ≡ mem (start flip t) a) ⊎ Writes flip wr (start flip t) a v) (sym (h a i ∙ n.1)) (k.mixed a i)
          | inr v ↦ inr (record { time = t; within = refl; no_flip = f; value = v ∙ ap Some (sym (h a i)) })
        ]);
    lives = l;
    done = λ a i w. h a i ∙ elim (option_cases (wr t a) (m a)) [
      | inl n ↦ patched_same t m a i (k.done a i (sym (none_left (wr t a) (wrote flip wr t a) n.0) ∙ sym (wrote-calm flip wr t a f) ∙ w))
      | inr v ↦ some_same (wr t a) (unwrap_or (wr t a) (m a)) (m a) (mem t a) v ∙ sym (u.writes t a i)
    ];
  }

  flip_tracks : (t : ℕ) (m m' : Mem) → Tracks t m → flip t ≡ true → ((a : ℕ) → buf a ≡ false → m' a ≡ patched (wr t) m a) → live (start flip (suc t)) m' → Tracks (suc t) m'
  flip_tracks t m m' k f h l = let s = start-flip flip t f in record {
    mixed = λ a i. inl (h a i ∙ patched_same t m a i (all_same t m k f a i) ∙ ap (λ z. mem z a) (sym s));
    lives = l;
    done = λ a i w. absurd (let y = wrote-flip flip wr t a f in let bad : true ≡ false = sym w ∙ y in cc);
  }

  -- after the step of time t, whichever it is
  next_tracks : (t : ℕ) (m m' : Mem) → Tracks t m → ((a : ℕ) → buf a ≡ false → m' a ≡ patched (wr t) m a) → live (start flip (suc t)) m' → Tracks (suc t) m'
  next_tracks t m m' k h l = elim (truth (flip t)) [
    | inl f ↦ flip_tracks t m m' k f h l
    | inr f ↦ calm_tracks t m m' k f h l
  ]

  -- one commit more where it is a flip
  next_count : (t c : ℕ) (m m' : Mem) → flips flip t ≡ c → nat_eq (index m) (index m') ≡ cond (flip t) false true → flips flip (suc t) ≡ counted index m m' c
  next_count t c m m' e i = elim (truth (flip t)) [
    | inl f ↦ flips-flip flip t f ∙ ap suc e ∙ sym (ap (λ b. cond b c (suc c)) (i ∙ ap (λ b. cond b false true) f))
    | inr f ↦ flips-calm flip t f ∙ e ∙ sym (ap (λ b. cond b c (suc c)) (i ∙ ap (λ b. cond b false true) f))
  ]

  not_over : (x : Moment R) → x.over ≡ false → one_step next index x ≡ after_step index x (next x.regs x.mem)
  not_over x g = ap (λ b. cond b x (after_step index x (next x.regs x.mem))) g

  stepped : (x : Moment R) (r : R) (m : Mem) → x.over ≡ false → next x.regs x.mem ≡ Goes r m → one_step next index x ≡ record { regs = r; mem = m; commits = counted index x.mem m x.commits; over = false }
  stepped x r m g e = not_over x g ∙ ap (after_step index x) e

  goes_next : (t : ℕ) (x : Moment R) (g : Goes_on t x) (r : R) (m : Mem) → ((a : ℕ) → buf a ≡ false → m a ≡ patched (wr t) x.mem a) → like (suc t) r m → live (start flip (suc t)) m → Goes_on (suc t) (record { regs = r; mem = m; commits = counted index x.mem m x.commits; over = false })
  goes_next t x g r m h k l = record {
    count = next_count t x.commits x.mem m g.count (index_step t x.mem m g.tracks h);
    tracks = next_tracks t x.mem m g.tracks h l;
    regs = k;
    going = refl;
  }

  section_step : (s n t : ℕ) (x : Moment R) → t + wake ≡ resume s + n → Goes_on t x → Place s (suc n) (one_step next index x)
  section_step s n t x age g = elim (truth (ends t)) [
    | inl e ↦ (
        let stop = not_over x g.going ∙ ap (after_step index x) (u.stops t x.regs x.mem e g.regs g.tracks.lives (agrees t x.mem g.tracks)) in
        subst (Place s (suc n)) (sym stop) (At_end (record { t = t; count = g.count; tracks = g.tracks; stopped = e; over = refl })))
    | inr e ↦ (
        let on = u.goes t x.regs x.mem e g.regs g.tracks.lives (agrees t x.mem g.tracks) in
        subst (Place s (suc n)) (sym (stepped x on.regs on.mem g.going on.step)) (In_section (suc t) (omega arith) (goes_next t x g on.regs on.mem on.bytes on.alike on.lives)))
  ]

  pub flips-start : (t : ℕ) → flips flip (start flip t) ≡ flips flip t
  flips-start zero = refl
  flips-start (suc t) = elim (truth (flip t)) [
    | inl f ↦ ap (flips flip) (start-flip flip t f)
    | inr f ↦ ap (flips flip) (start-calm flip t f) ∙ flips-start t ∙ sym (flips-calm flip t f)
  ]

  -- recovery has led to the place where the section resumes
  pub awake : (x : Moment R) (w : Wakes x) → w.i ≡ wake → Goes_on (resume w.s) x
  awake x w q =
      let r : like (resume w.s) (waking wake w.junk x.mem) x.mem = u.woken w.s w.junk x.mem w.begins w.lives (fixed_mixed w.s x.mem w.mixed) in
      let same = u.resumes w.s w.begins in
      record {
        count = sym (flips-start (resume w.s)) ∙ ap (flips flip) same ∙ w.count;
        tracks = record {
          mixed = subst (λ z. Mixed flip wr mem buf z x.mem) (sym same) w.mixed;
          lives = subst (λ z. live z x.mem) (sym same) w.lives;
          done = λ a i y. absurd (let n = u.resumes_unwritten w.s a w.begins in let bad : true ≡ false = sym y ∙ n in cc);
        };
        regs = subst (λ c. like (resume w.s) c x.mem) (sym (w.at ∙ ap (λ i. waking i w.junk x.mem) q)) r;
        going = w.going;
      }

  wakes_next : (x : Moment R) (w : Wakes x) → w.i < wake → Wakes (record { regs = waking (suc w.i) w.junk x.mem; mem = x.mem; commits = counted index x.mem x.mem x.commits; over = false })
  wakes_next x w l = record {
    s = w.s;
    i = suc w.i;
    junk = w.junk;
    begins = w.begins;
    count = w.count ∙ sym (ap (λ b. cond b x.commits (suc x.commits)) (nat_eq_refl (index x.mem)));
    within = (let l' : suc w.i ≤ wake = omega arith in l');
    at = refl;
    mixed = w.mixed;
    lives = w.lives;
    going = refl;
  }

  woke : (x : Moment R) (w : Wakes x) → w.i < wake → one_step next index x ≡ record { regs = waking (suc w.i) w.junk x.mem; mem = x.mem; commits = counted index x.mem x.mem x.commits; over = false }
  woke x w l = stepped x (waking (suc w.i) w.junk x.mem) x.mem w.going (ap (λ r. next r x.mem) w.at ∙ u.wakes_on w.s w.i w.junk x.mem w.begins w.lives (fixed_mixed w.s x.mem w.mixed) l)

  wakes_step : (s n : ℕ) (x : Moment R) (w : Wakes x) → w.s ≡ s → w.i ≡ n → Place s (suc n) (one_step next index x)
  unfolding wakes_next
  wakes_step s n x w e f = elim (order w.i wake) [
    | inl l ↦ subst (Place s (suc n)) (sym (woke x w l)) (In_recovery (wakes_next x w l) e (ap suc f))
    | inr l ↦ (let h = w.within in let q = ap resume e in section_step s n (resume w.s) x (omega arith) (awake x w (omega arith)))
  ]

  over_step : (x : Moment R) → x.over ≡ true → one_step next index x ≡ x
  over_step x o = ap (λ b. cond b x (after_step index x (next x.regs x.mem))) o

  pub place_step : (s n : ℕ) (x : Moment R) → Place s n x → Place s (suc n) (one_step next index x)
  place_step s n x (In_recovery w e f) = wakes_step s n x w e f
  place_step s n x (In_section t age g) = section_step s n t x age g
  place_step s n x (At_end e) = subst (Place s (suc n)) (sym (over_step x e.over)) (At_end e)

  pub place_steps : (k s n : ℕ) (x : Moment R) → Place s n x → Place s (n + k) (steps next index k x)
  place_steps zero s n x p = let q : n ≡ n + 0 = omega arith in subst (λ z. Place s z x) q p
  place_steps (suc k) s n x p = let q : suc n + k ≡ n + suc k = omega arith in subst (λ z. Place s z (steps next index k (one_step next index x))) q (place_steps k s (suc n) (one_step next index x) (place_step s n x p))

  abbrev pub section_fails : (t : ℕ) (x : Moment R) → Goes_on t x → Fails x
  section_fails t x g = record { s = start flip t; begins = start_start flip t; count = flips-start t ∙ g.count; mixed = g.tracks.mixed; lives = g.tracks.lives }

  abbrev pub failed : (s n : ℕ) (x : Moment R) → Place s n x → Fails x
  failed s n x (In_recovery w e f) = record { s = w.s; begins = w.begins; count = w.count; mixed = w.mixed; lives = w.lives }
  failed s n x (In_section t age g) = section_fails t x g
  failed s n x (At_end e) = record { s = start flip e.t; begins = start_start flip e.t; count = flips-start e.t ∙ e.count; mixed = e.tracks.mixed; lives = e.tracks.lives }

  -- a moment at which power has failed, or the run has ended: what a torn store leaves
  pub data Left (x : Moment R) : Type 0 where
    Failed : Fails x → x.over ≡ false → Left x
    Ended : Has_ended x → Left x

  going_on : (mask : ℕ) (x : Moment R) → x.over ≡ false → torn tear index mask x ≡ record { regs = x.regs; mem = tear mask x.regs x.mem; commits = counted index x.mem (tear mask x.regs x.mem) x.commits; over = false }
  going_on mask x g = ap (λ b. cond b x (record { regs = x.regs; mem = tear mask x.regs x.mem; commits = counted index x.mem (tear mask x.regs x.mem) x.commits; over = false })) g

  -- nothing is torn
  fails_whole : (x : Moment R) (m : Mem) → Fails x → m ≡ x.mem → Fails (record { regs = x.regs; mem = m; commits = counted index x.mem m x.commits; over = false })
  fails_whole x m f e = record {
    s = f.s;
    begins = f.begins;
    count = f.count ∙ sym (ap (λ b. cond b x.commits (suc x.commits)) (ap (λ z. nat_eq (index x.mem) (index z)) e ∙ nat_eq_refl (index x.mem)));
    mixed = subst (λ z. Mixed flip wr mem buf f.s z) (sym e) f.mixed;
    lives = subst (live f.s) (sym e) f.lives;
  }

  -- a torn store outside the flip
  fails_calm : (t : ℕ) (x : Moment R) (g : Goes_on t x) (m : Mem) → flip t ≡ false → ((a : ℕ) → buf a ≡ false → (m a ≡ x.mem a) ⊎ (m a ≡ patched (wr t) x.mem a)) → live (start flip t) m → Fails (record { regs = x.regs; mem = m; commits = counted index x.mem m x.commits; over = false })
  fails_calm t x g m f h l =
      let half : (a : ℕ) → fixed a ≡ true → m a ≡ x.mem a = λ a i. elim (h a (u.fixed_outside a i)) [ inl e ↦ e | inr e ↦ e ∙ none_same (wr t a) (x.mem a) (u.fixed_unwritten t a i f) ] in
      let same : index m ≡ index x.mem = u.index_by m x.mem (λ a i. half a (u.index_fixed a i)) in
      record {
        s = start flip t;
        begins = start_start flip t;
        count = flips-start t ∙ g.count ∙ sym (ap (λ b. cond b x.commits (suc x.commits)) (ap (λ z. nat_eq (index x.mem) z) same ∙ nat_eq_refl (index x.mem)));
        mixed = λ a i. elim (h a i) [
          | inl e ↦ subst (λ v. (v ≡ mem (start flip t) a) ⊎ Writes flip wr (start flip t) a v) (sym e) (g.tracks.mixed a i)
          | inr e ↦ elim (option_cases (wr t a) (x.mem a)) [
            | inl n ↦ subst (λ v. (v ≡ mem (start flip t) a) ⊎ Writes flip wr (start flip t) a v) (sym (e ∙ n.1)) (g.tracks.mixed a i)
            | inr v ↦ inr (record { time = t; within = refl; no_flip = f; value = v ∙ ap Some (sym e) })
          ]
        ];
        lives = l;
      }

  torn_section : (mask t : ℕ) (x : Moment R) → Goes_on t x → Left (torn tear index mask x)
  torn_section mask t x g =
      let m' : Mem = tear mask x.regs x.mem in
      let y : Moment R = record { regs = x.regs; mem = m'; commits = counted index x.mem m' x.commits; over = false } in
      subst Left (sym (going_on mask x g.going)) (elim (truth (flip t)) [
        | inl f ↦ elim (u.tears_flip t mask x.regs x.mem f g.regs g.tracks.lives (agrees t x.mem g.tracks)) [
          | inl e ↦ Failed (fails_whole x m' (section_fails t x g) e) refl
          | inr e ↦ (
              let live_on : ends t ≡ false = elim (truth (ends t)) [ inl q ↦ absurd (let c = u.ends_calm t q in let bad : true ≡ false = sym f ∙ c in cc) | inr q ↦ q ] in
              let on = u.goes t x.regs x.mem live_on g.regs g.tracks.lives (agrees t x.mem g.tracks) in
              let q : Goes on.regs on.mem ≡ Goes e.0 m' = sym on.step ∙ e.1 in
              let qm : on.mem ≡ m' = cc in
              let z = goes_next t x g on.regs on.mem on.bytes on.alike on.lives in
              let fz = section_fails (suc t) _ z in
              Failed (record { s = fz.s; begins = fz.begins; count = fz.count ∙ ap (λ k. counted index x.mem k x.commits) qm; mixed = subst (λ k. Mixed flip wr mem buf fz.s k) qm fz.mixed; lives = subst (live fz.s) qm fz.lives }) refl)
        ]
        | inr f ↦ (
            let h = u.tears t mask x.regs x.mem f g.regs g.tracks.lives (agrees t x.mem g.tracks) in
            Failed (fails_calm t x g m' f h.0 h.1) refl)
      ])

  pub torn_place : (mask s n : ℕ) (x : Moment R) → Place s n x → Left (torn tear index mask x)
  torn_place mask s n x (In_recovery w ws wi) = elim (order w.i wake) [
    | inl l ↦ subst Left (sym (going_on mask x w.going)) (Failed (fails_whole x (tear mask x.regs x.mem) (failed s n x (In_recovery w ws wi)) (ap (λ r. tear mask r x.mem) w.at ∙ u.wakes_whole w.s w.i w.junk mask x.mem w.begins w.lives (fixed_mixed w.s x.mem w.mixed) l)) refl)
    | inr l ↦ torn_section mask (resume w.s) x (awake x w (let h = w.within in omega arith))
  ]
  torn_place mask s n x (In_section t age g) = torn_section mask t x g
  torn_place mask s n x (At_end e) = subst Left (sym (ap (λ b. cond b x (record { regs = x.regs; mem = tear mask x.regs x.mem; commits = counted index x.mem (tear mask x.regs x.mem) x.commits; over = false })) e.over)) (Ended e)

  pub boots : (junk : ℕ) (x : Moment R) → x.over ≡ false → Fails x → Wakes (record x { regs = boot junk })
  boots junk x o r = record {
    s = r.s;
    i = zero;
    junk = junk;
    begins = r.begins;
    count = r.count;
    within = (let l : zero ≤ wake = omega arith in l);
    at = sym (u.wakes junk x.mem);
    mixed = r.mixed;
    lives = r.lives;
    going = o;
  }

  -- any number of steps after power-up
  pub in_period : (n junk : ℕ) (x : Moment R) → x.over ≡ false → (r : Fails x) → Place r.s n (steps next index n (record x { regs = boot junk }))
  unfolding boots
  in_period n junk x o r = let q : 0 + n ≡ n = omega arith in subst (λ z. Place r.s z (steps next index n (record x { regs = boot junk }))) q (place_steps n r.s zero (record x { regs = boot junk }) (In_recovery (boots junk x o r) refl refl))

  pub left_fails : (x : Moment R) → Left x → Fails x
  left_fails x (Failed f g) = f
  left_fails x (Ended e) = failed zero zero x (At_end e)

  left_period : (p : Spell) (x : Moment R) → Left x → Left (period next tear boot index p x)
  left_period p x l = elim (truth x.over) [
    | inl o ↦ subst Left (sym (ap (λ b. cond b x (torn tear index p.mask (steps next index p.n (record x { regs = boot p.junk })))) o)) l
    | inr o ↦ subst Left (sym (ap (λ b. cond b x (torn tear index p.mask (steps next index p.n (record x { regs = boot p.junk })))) o))
        (torn_place p.mask (left_fails x l).s p.n (steps next index p.n (record x { regs = boot p.junk })) (in_period p.n p.junk x o (left_fails x l)))
  ]

  pub left_power : (ps : List Spell) (x : Moment R) → Left x → Left (power next tear boot index ps x)
  left_power [] x l = l
  left_power (p ∷ ps) x l = left_power ps (period next tear boot index p x) (left_period p x l)

  -- before any step the memory is the loaded one
  pub at_load : (x : Moment R) → x.mem ≡ mem zero → x.commits ≡ zero → live zero x.mem → Fails x
  at_load x e c l = record {
    s = zero;
    begins = refl;
    count = sym c;
    mixed = λ a i. inl (ap (λ (m : Mem). m a) e);
    lives = l;
  }

  -- after every list of periods, from the loaded memory on
  pub replay : (ps : List Spell) (x : Moment R) → x.mem ≡ mem zero → x.commits ≡ zero → live zero x.mem → x.over ≡ false → Left (power next tear boot index ps x)
  replay ps x e c l g = left_power ps x (Failed (at_load x e c l) g)

  -- and n steps into the period that follows such a list
  pub replay_within : (ps : List Spell) (n junk : ℕ) (x : Moment R) (e : x.mem ≡ mem zero) (c : x.commits ≡ zero) (l : live zero x.mem) (g : x.over ≡ false) → (power next tear boot index ps x).over ≡ false → Place (left_fails (power next tear boot index ps x) (replay ps x e c l g)).s n (steps next index n (record (power next tear boot index ps x) { regs = boot junk }))
  replay_within ps n junk x e c l g o = in_period n junk (power next tear boot index ps x) o (left_fails (power next tear boot index ps x) (replay ps x e c l g))

  -- ---- progress

  -- the moment has more commits than c, or the run is over
  abbrev pub Progressed : ℕ → Moment R → Type 0
  Progressed c y = (c < y.commits) ⊎ (y.over ≡ true)

  counted_more : (c d : ℕ) (m m' : Mem) → c < d → c < counted index m m' d
  counted_more c d m m' l = either (nat_eq (index m) (index m'))
    where
      either : (b : Bool) → c < cond b d (suc d)
      either true = l
      either false = omega arith

  more_commits : (c : ℕ) (x : Moment R) (o : Next R) → c < x.commits → c < (after_step index x o).commits
  more_commits c x (Goes r m) l = counted_more c x.commits x.mem m l
  more_commits c x Ends l = l

  progress_step : (c : ℕ) (x : Moment R) → Progressed c x → Progressed c (one_step next index x)
  progress_step c x (inr o) = subst (Progressed c) (sym (over_step x o)) (inr o)
  progress_step c x (inl l) = elim (truth x.over) [
    | inl o ↦ subst (Progressed c) (sym (over_step x o)) (inr o)
    | inr g ↦ subst (Progressed c) (sym (not_over x g)) (inl (more_commits c x (next x.regs x.mem) l))
  ]

  progress_steps : (n c : ℕ) (x : Moment R) → Progressed c x → Progressed c (steps next index n x)
  progress_steps zero c x p = p
  progress_steps (suc n) c x p = progress_steps n c (one_step next index x) (progress_step c x p)

  progress_torn : (mask c : ℕ) (x : Moment R) → Progressed c x → Progressed c (torn tear index mask x)
  progress_torn mask c x p = elim (truth x.over) [
    | inl o ↦ inr (ap (λ b. (cond b x (record { regs = x.regs; mem = tear mask x.regs x.mem; commits = counted index x.mem (tear mask x.regs x.mem) x.commits; over = false })).over) o ∙ o)
    | inr g ↦ elim p [
      | inl l ↦ subst (Progressed c) (sym (going_on mask x g)) (inl (counted_more c x.commits x.mem (tear mask x.regs x.mem) l))
      | inr o ↦ absurd (let bad : true ≡ false = sym o ∙ g in cc)
    ]
  ]

  counted_flip : (c : ℕ) (m m' : Mem) → nat_eq (index m) (index m') ≡ false → c < counted index m m' c
  counted_flip c m m' h = subst (λ z. c < z) (sym (ap (λ b. cond b c (suc c)) h)) (omega arith)

  counted_same : (c : ℕ) (m m' : Mem) → nat_eq (index m) (index m') ≡ true → counted index m m' c ≡ c
  counted_same c m m' h = ap (λ b. cond b c (suc c)) h

  section_progress : (n t e c : ℕ) (x : Moment R) → Tracks t x.mem → like t x.regs x.mem → x.over ≡ false → x.commits ≡ c → start flip e ≡ start flip t → t ≤ e → (flip e ≡ true) ⊎ (ends e ≡ true) → e < t + n → Progressed c (steps next index n x)
  section_progress zero t e c x k l g q s le end near = absurd (omega arith)
  section_progress (suc n) t e c x k l g q s le end near = elim (truth (ends t)) [
    | inl stop ↦ (
        let y = not_over x g ∙ ap (after_step index x) (u.stops t x.regs x.mem stop l k.lives (agrees t x.mem k)) in
        progress_steps n c (one_step next index x) (subst (Progressed c) (sym y) (inr refl)))
    | inr go ↦ (
        let on = u.goes t x.regs x.mem go l k.lives (agrees t x.mem k) in
        let i = index_step t x.mem on.mem k on.bytes in
        let x' : Moment R = record { regs = on.regs; mem = on.mem; commits = counted index x.mem on.mem x.commits; over = false } in
        let y : one_step next index x ≡ x' = stepped x on.regs on.mem g on.step in
        elim (truth (flip t)) [
          | inl f ↦ progress_steps n c (one_step next index x) (subst (Progressed c) (sym y) (inl (subst (λ z. c < z) (ap (counted index x.mem on.mem) (sym q)) (counted_flip c x.mem on.mem (i ∙ ap (λ b. cond b false true) f)))))
          | inr f ↦ (
              let ne : t ≢ e = λ w. elim end [
                | inl fe ↦ (let v = subst (λ z. flip z ≡ false) w f in let bad : true ≡ false = sym fe ∙ v in cc)
                | inr ee ↦ (let v = subst (λ z. ends z ≡ false) w go in let bad : true ≡ false = sym ee ∙ v in cc)
              ] in
              let le' : suc t ≤ e = omega arith in
              let near' : e < suc t + n = omega arith in
              subst (λ z. Progressed c (steps next index n z)) (sym y)
              (section_progress n (suc t) e c x' (next_tracks t x.mem on.mem k on.bytes on.lives) on.alike refl (counted_same x.commits x.mem on.mem (i ∙ ap (λ b. cond b false true) f) ∙ q) (s ∙ sym (start-calm flip t f)) le' end near'))
        ])
  ]

  wake_progress : (n e c : ℕ) (x : Moment R) (w : Wakes x) → x.commits ≡ c → start flip e ≡ w.s → resume w.s ≤ e → (flip e ≡ true) ⊎ (ends e ≡ true) → e + wake < resume w.s + n + w.i → Progressed c (steps next index n x)
  unfolding awake
  wake_progress zero e c x w q le b end near = absurd (let v = w.within in omega arith)
  wake_progress (suc n) e c x w q s le end near = elim (order w.i wake) [
    | inl l ↦ (
        let x' : Moment R = record { regs = waking (suc w.i) w.junk x.mem; mem = x.mem; commits = counted index x.mem x.mem x.commits; over = false } in
        let w' : Wakes x' = record { s = w.s; i = suc w.i; junk = w.junk; begins = w.begins; count = w.count ∙ sym (counted_same x.commits x.mem x.mem (nat_eq_refl (index x.mem))); within = (let l' : suc w.i ≤ wake = omega arith in l'); at = refl; mixed = w.mixed; lives = w.lives; going = refl } in
        let near' : e + wake < resume w.s + n + suc w.i = omega arith in
        subst (λ z. Progressed c (steps next index n z)) (sym (woke x w l)) (wake_progress n e c x' w' (counted_same x.commits x.mem x.mem (nat_eq_refl (index x.mem)) ∙ q) s le end near'))
    | inr l ↦ (
        let z : w.i ≡ wake = (let v = w.within in omega arith) in
        let g = awake x w z in
        let near' : e < resume w.s + suc n = omega arith in
        section_progress (suc n) (resume w.s) e c x g.tracks g.regs g.going q (s ∙ sym (u.resumes w.s w.begins)) le end near')
  ]

  -- each section comes to a flip or to the end, k instructions at most from power-up on
  abbrev pub Gap_at_most : ℕ → Type 0
  Gap_at_most k = (s : ℕ) → start flip s ≡ s → (e : ℕ) × (start flip e ≡ s) × (resume s ≤ e) × ((flip e ≡ true) ⊎ (ends e ≡ true)) × (e + wake < resume s + k)

  -- a period of at least k instructions commits or ends the run
  pub progress : (k : ℕ) (p : Spell) (x : Moment R) → Gap_at_most k → k ≤ p.n → x.over ≡ false → Left x → Progressed x.commits (period next tear boot index p x)
  progress k p x gap le o q =
      let r = left_fails x q in
      let x' : Moment R = record x { regs = boot p.junk } in
      let w : Wakes x' = record { s = r.s; i = zero; junk = p.junk; begins = r.begins; count = r.count; within = (let l : zero ≤ wake = omega arith in l); at = sym (u.wakes p.junk x.mem); mixed = r.mixed; lives = r.lives; going = o } in
      let end = gap r.s r.begins in
      let near : end.0 + wake < resume r.s + p.n + zero = (let v = end.4 in omega arith) in
      subst (Progressed x.commits) (sym (ap (λ b. cond b x (torn tear index p.mask (steps next index p.n x'))) o)) (progress_torn p.mask x.commits (steps next index p.n x') (wake_progress p.n end.0 x.commits x' w refl end.1 end.2 end.3 near))

  kept_commits : (p : Spell) (x : Moment R) → x.over ≡ false → (x.commits ≤ (period next tear boot index p x).commits) ⊎ ((period next tear boot index p x).over ≡ true)
  kept_commits p x o = go x.commits refl
    where
      x' : Moment R
      x' = record x { regs = boot p.junk }

      go : (c : ℕ) → x.commits ≡ c → (x.commits ≤ (period next tear boot index p x).commits) ⊎ ((period next tear boot index p x).over ≡ true)
      go zero e = inl (omega arith)
      go (suc c) e = elim (subst (Progressed c) (sym (ap (λ b. cond b x (torn tear index p.mask (steps next index p.n x'))) o)) (progress_torn p.mask c (steps next index p.n x') (progress_steps p.n c x' (inl (omega arith))))) [ inl l ↦ inl (omega arith) | inr o ↦ inr o ]

  over_power : (ps : List Spell) (x : Moment R) → x.over ≡ true → (power next tear boot index ps x).over ≡ true
  over_power [] x o = o
  over_power (p ∷ ps) x o = over_power ps (period next tear boot index p x) (ap (λ b. (cond b x (torn tear index p.mask (steps next index p.n (record x { regs = boot p.junk })))).over) o ∙ o)

  -- each long period makes a commit, unless the run is over
  pub counts : (k : ℕ) → Gap_at_most k → (ps : List Spell) (x : Moment R) → Left x → (x.commits + long_periods k ps ≤ (power next tear boot index ps x).commits) ⊎ ((power next tear boot index ps x).over ≡ true)
  counts k gap [] x q = inl (omega arith)
  counts k gap (p ∷ ps) x q =
      let y = period next tear boot index p x in
      let qy = left_period p x q in
      elim (truth x.over) [
        | inl o ↦ inr (over_power (p ∷ ps) x o)
        | inr o ↦ elim (truth (nat_le k p.n)) [
          | inl long ↦ (
              let more_left : long_periods k (p ∷ ps) ≡ suc (long_periods k ps) = ap (λ b. cond b (suc (long_periods k ps)) (long_periods k ps)) long in
              let le : k ≤ p.n = grind (arith, nat_tests) in
              elim (progress k p x gap le o q) [
                | inl up ↦ elim (counts k gap ps y qy) [ inl l ↦ inl (omega arith) | inr end ↦ inr end ]
                | inr end ↦ inr (over_power ps y end)
              ])
          | inr short ↦ (
              let same_left : long_periods k (p ∷ ps) ≡ long_periods k ps = ap (λ b. cond b (suc (long_periods k ps)) (long_periods k ps)) short in
              elim (kept_commits p x o) [
                | inl up ↦ elim (counts k gap ps y qy) [ inl l ↦ inl (omega arith) | inr end ↦ inr end ]
                | inr end ↦ inr (over_power ps y end)
              ])
        ]
      ]

  -- where the run without failures flips at most c times, more than c long periods end the run
  pub halts : (c k : ℕ) → Gap_at_most k → ((t : ℕ) → flips flip t ≤ c) → (ps : List Spell) (x : Moment R) → Left x → c < x.commits + long_periods k ps → (power next tear boot index ps x).over ≡ true
  halts c k gap most ps x q l = elim (counts k gap ps x q) [
    | inl le ↦ absurd (let r = left_fails (power next tear boot index ps x) (left_power ps x q) in let m = most r.s in let e = r.count in omega arith)
    | inr end ↦ end
  ]

  -- at the end each byte outside the buffers is that of the run without failures, if what follows writes nothing
  pub ended_same : (x : Moment R) (h : Has_ended x) → ((t a : ℕ) → h.t ≤ t → wr t a ≡ None) → (a : ℕ) → buf a ≡ false → x.mem a ≡ mem h.t a
  ended_same x h none a out = elim (truth (wrote flip wr h.t a)) [
    | inl w ↦ h.tracks.done a out w
    | inr n ↦ elim (h.tracks.mixed a out) [
      | inl e ↦ e ∙ sym (unwritten flip wr mem a (λ v. u.writes v a out) h.t n)
      | inr w ↦ absurd (elim (order w.time h.t) [
        | inl before ↦ (let y = wrote_by flip wr w.time h.t a (x.mem a) before w.within w.value in let bad : true ≡ false = sym y ∙ n in cc)
        | inr late ↦ (let y = none w.time a late in let bad : Some (x.mem a) ≡ None = sym w.value ∙ y in cc)
      ])
    ]
  ]
