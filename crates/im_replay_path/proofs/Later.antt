-- A fact on memory that each step of one section keeps holds from one moment on to each later one, as long as that section lasts.
use Rattle.std.proofs.Common.{◌≡◌, ℕ, suc, ◌+◌, ◌≤◌, ◌⊎◌, inl, inr, Bool, false, Option, sym, ◌∙◌, arith}
use Rattle.im_mem.specs.Memory.{Mem}
use Rattle.im_replay_path.specs.Path.{Next, patched, Moment, steps, torn}
use Rattle.im_replay_path.specs.Sections.{start}
use Rattle.im_replay_path.specs.Followed.{Followed}
use Rattle.im_replay_path.proofs.Times.{truth, start-flip, start-calm, start_le}
use Rattle.im_replay_path.proofs.Replay.{Place, In_recovery, In_section, At_end, Fails, failed, left_fails, in_period, place_steps, torn_place}

module _ {R : Type 0} (next : R → Mem → Next R) (tear : ℕ → R → Mem → Mem) (boot : ℕ → R) (index : Mem → ℕ) (mem : ℕ → Mem) (wr : ℕ → ℕ → Option ℕ) (rd : ℕ → ℕ → Bool) (flip ends buf fixed : ℕ → Bool) (like : ℕ → R → Mem → Type 0) (live : ℕ → Mem → Type 0) (resume : ℕ → ℕ) (wake : ℕ) (waking : ℕ → ℕ → Mem → R) (u : Followed next tear boot index mem wr rd flip ends buf fixed like live resume wake waking) (s0 : ℕ) (P : Mem → Type 0)
    (keeps : (t : ℕ) (m n : Mem) → start flip t ≡ s0 → flip t ≡ false → ((a : ℕ) → buf a ≡ false → (n a ≡ m a) ⊎ (n a ≡ patched (wr t) m a)) → P m → P n) where
  -- the section is s0 or a later one, and in s0 the fact holds
  pub record Since (s : ℕ) (m : Mem) : Type 0 where
    pub old : live s m
    pub past : s0 ≤ s
    pub holds : s ≡ s0 → P m

  -- in the next moment
  since_next : (t : ℕ) (m n : Mem) → Since (start flip t) m → live (start flip (suc t)) n → ((a : ℕ) → buf a ≡ false → n a ≡ patched (wr t) m a) → Since (start flip (suc t)) n
  since_next t m n l k h = elim (truth (flip t)) [
    | inl f ↦ (
        let e = start-flip flip t f in
        let le = start_le flip t in
        let p = l.past in
        record { old = k; past = omega arith; holds = λ q. absurd (omega arith) })
    | inr f ↦ (
        let e = start-calm flip t f in
        record { old = k; past = (let p = l.past in omega arith); holds = λ q. (let w : start flip t ≡ s0 = sym e ∙ q in keeps t m n w f (λ a b. inr (h a b)) (l.holds w)) })
  ]

  pub followed_since : Followed next tear boot index mem wr rd flip ends buf fixed like Since resume wake waking
  followed_since = record {
    writes = u.writes;
    safe = u.safe;
    reads_outside = u.reads_outside;
    fixed_outside = u.fixed_outside;
    fixed_unwritten = u.fixed_unwritten;
    ends_calm = u.ends_calm;
    goes = λ t r m e k l g. (let on = u.goes t r m e k l.old g in record { regs = on.regs; mem = on.mem; step = on.step; bytes = on.bytes; alike = on.alike; lives = since_next t m on.mem l on.lives on.bytes });
    stops = λ t r m e k l g. u.stops t r m e k l.old g;
    tears = λ t mask r m f k l g. (let x = u.tears t mask r m f k l.old g in (x.0, record { old = x.1; past = l.past; holds = λ q. keeps t m (tear mask r m) q f x.0 (l.holds q) }));
    tears_flip = λ t mask r m f k l g. u.tears_flip t mask r m f k l.old g;
    index_by = u.index_by;
    index_changes = u.index_changes;
    index_fixed = u.index_fixed;
    wakes = u.wakes;
    wakes_on = λ s i junk m b l h q. u.wakes_on s i junk m b l.old h q;
    wakes_whole = λ s i junk mask m b l h q. u.wakes_whole s i junk mask m b l.old h q;
    woken = λ s junk m b l h. u.woken s junk m b l.old h;
    resumes = u.resumes;
    resumes_unwritten = u.resumes_unwritten;
  }

  abbrev pub Failed_now : Moment R → Type 0
  Failed_now = Fails next tear boot index mem wr rd flip ends buf fixed like live resume wake waking u

  abbrev pub Failed_since : Moment R → Type 0
  Failed_since = Fails next tear boot index mem wr rd flip ends buf fixed like Since resume wake waking followed_since

  abbrev pub Placed_now : ℕ → ℕ → Moment R → Type 0
  Placed_now = Place next tear boot index mem wr rd flip ends buf fixed like live resume wake waking u

  abbrev pub Placed_since : ℕ → ℕ → Moment R → Type 0
  Placed_since = Place next tear boot index mem wr rd flip ends buf fixed like Since resume wake waking followed_since

  since_now : (s : ℕ) (m : Mem) → live s m → s ≡ s0 → P m → Since s m
  since_now s m l e p = record { old = l; past = omega arith; holds = λ q. p }

  pub upgraded : (x : Moment R) (f : Failed_now x) → f.s ≡ s0 → P x.mem → Failed_since x
  upgraded x f e p = record { s = f.s; begins = f.begins; count = f.count; mixed = f.mixed; lives = since_now f.s x.mem f.lives e p }

  pub upgraded_place : (s n : ℕ) (x : Moment R) (q : Placed_now s n x) → (failed next tear boot index mem wr rd flip ends buf fixed like live resume wake waking u s n x q).s ≡ s0 → P x.mem → Placed_since s n x
  upgraded_place s n x (In_recovery w e f) h p = In_recovery (record { s = w.s; i = w.i; junk = w.junk; begins = w.begins; count = w.count; within = w.within; at = w.at; mixed = w.mixed; lives = since_now w.s x.mem w.lives h p; going = w.going }) e f
  upgraded_place s n x (In_section t age g) h p = In_section t age (record { count = g.count; tracks = record { mixed = g.tracks.mixed; lives = since_now (start flip t) x.mem g.tracks.lives h p; done = g.tracks.done }; regs = g.regs; going = g.going })
  upgraded_place s n x (At_end e) h p = At_end (record { t = e.t; count = e.count; tracks = record { mixed = e.tracks.mixed; lives = since_now (start flip e.t) x.mem e.tracks.lives h p; done = e.tracks.done }; stopped = e.stopped; over = e.over })

  -- from a moment at which power has failed, through n instructions of the next period
  pub after_failure : (n junk : ℕ) (x : Moment R) → x.over ≡ false → (f : Failed_now x) → f.s ≡ s0 → P x.mem → Failed_since (steps next index n (record x { regs = boot junk }))
  after_failure n junk x o f e p = let g = upgraded x f e p in failed next tear boot index mem wr rd flip ends buf fixed like Since resume wake waking followed_since g.s n (steps next index n (record x { regs = boot junk })) (in_period next tear boot index mem wr rd flip ends buf fixed like Since resume wake waking followed_since n junk x o g)

  -- from a moment with the power on, through k instructions
  pub after_steps : (k s n : ℕ) (x : Moment R) (q : Placed_now s n x) → (failed next tear boot index mem wr rd flip ends buf fixed like live resume wake waking u s n x q).s ≡ s0 → P x.mem → Failed_since (steps next index k x)
  after_steps k s n x q e p = failed next tear boot index mem wr rd flip ends buf fixed like Since resume wake waking followed_since s (n + k) (steps next index k x) (place_steps next tear boot index mem wr rd flip ends buf fixed like Since resume wake waking followed_since k s n x (upgraded_place s n x q e p))

  -- and into the store that is torn
  pub after_torn : (mask k s n : ℕ) (x : Moment R) (q : Placed_now s n x) → (failed next tear boot index mem wr rd flip ends buf fixed like live resume wake waking u s n x q).s ≡ s0 → P x.mem → Failed_since (torn tear index mask (steps next index k x))
  after_torn mask k s n x q e p = left_fails next tear boot index mem wr rd flip ends buf fixed like Since resume wake waking followed_since (torn tear index mask (steps next index k x)) (torn_place next tear boot index mem wr rd flip ends buf fixed like Since resume wake waking followed_since mask s (n + k) (steps next index k x) (place_steps next tear boot index mem wr rd flip ends buf fixed like Since resume wake waking followed_since k s n x (upgraded_place s n x q e p)))
