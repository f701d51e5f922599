-- What the run without failures has to be, for one whose power fails to follow it.
use Rattle.std.specs.Prelude.{◌≡◌, ℕ, zero, suc, ◌<◌, ◌⊎◌, Bool, true, false, cond, nat_eq, Option, None}
use Rattle.im_mem.specs.Memory.{Mem}
use Rattle.im_replay_path.specs.Path.{Next, Goes, Ends, patched}
use Rattle.im_replay_path.specs.Sections.{start, wrote, NoWar}

-- memory agrees with that of time t on what the step reads, and on what no step but a flip writes
pub record Agrees (rd : ℕ → ℕ → Bool) (mem : ℕ → Mem) (fixed : ℕ → Bool) (t : ℕ) (m : Mem) : Type 0 where
  pub reads : (a : ℕ) → rd t a ≡ true → m a ≡ mem t a
  pub fixes : (a : ℕ) → fixed a ≡ true → m a ≡ mem t a

-- a step that does outside the buffers what the run without failures does at time t, and leads to what is like the next time
pub record Advances {R : Type 0} (next : R → Mem → Next R) (wr : ℕ → ℕ → Option ℕ) (flip buf : ℕ → Bool) (like : ℕ → R → Mem → Type 0) (live : ℕ → Mem → Type 0) (t : ℕ) (r : R) (m : Mem) : Type 0 where
  pub regs : R
  pub mem : Mem
  pub step : next r m ≡ Goes regs mem
  pub bytes : (a : ℕ) → buf a ≡ false → mem a ≡ patched (wr t) m a
  pub alike : like (suc t) regs mem
  pub lives : live (start flip (suc t)) mem

-- mem, wr, rd: its memory, what it writes, what it reads at each time; flip: the steps that change the index; ends: the steps that end it;
-- buf: the bytes of both register buffers; fixed: what no step but a flip writes (the index, the code);
-- like: registers and memory that may stand for those of that time; live: the live buffer holds what the section that began then resumes with;
-- resume: where recovery leads; waking: registers in recovery
pub record Followed {R : Type 0} (next : R → Mem → Next R) (tear : ℕ → R → Mem → Mem) (boot : ℕ → R) (index : Mem → ℕ) (mem : ℕ → Mem) (wr : ℕ → ℕ → Option ℕ) (rd : ℕ → ℕ → Bool) (flip ends buf fixed : ℕ → Bool) (like : ℕ → R → Mem → Type 0) (live : ℕ → Mem → Type 0) (resume : ℕ → ℕ) (wake : ℕ) (waking : ℕ → ℕ → Mem → R) : Type 0 where
  pub writes : (t a : ℕ) → buf a ≡ false → mem (suc t) a ≡ patched (wr t) (mem t) a
  pub safe : NoWar flip wr rd
  pub reads_outside : (t a : ℕ) → rd t a ≡ true → buf a ≡ false
  pub fixed_outside : (a : ℕ) → fixed a ≡ true → buf a ≡ false
  pub fixed_unwritten : (t a : ℕ) → fixed a ≡ true → flip t ≡ false → wr t a ≡ None
  pub ends_calm : (t : ℕ) → ends t ≡ true → flip t ≡ false
  -- a step depends on what is like its time and on the bytes that it reads
  pub goes : (t : ℕ) (r : R) (m : Mem) → ends t ≡ false → like t r m → live (start flip t) m → Agrees rd mem fixed t m → Advances next wr flip buf like live t r m
  pub stops : (t : ℕ) (r : R) (m : Mem) → ends t ≡ true → like t r m → live (start flip t) m → Agrees rd mem fixed t m → next r m ≡ Ends
  -- a torn store writes some of its bytes; a torn flip is the flip or nothing
  pub tears : (t mask : ℕ) (r : R) (m : Mem) → flip t ≡ false → like t r m → live (start flip t) m → Agrees rd mem fixed t m → ((a : ℕ) → buf a ≡ false → (tear mask r m a ≡ m a) ⊎ (tear mask r m a ≡ patched (wr t) m a)) × live (start flip t) (tear mask r m)
  pub tears_flip : (t mask : ℕ) (r : R) (m : Mem) → flip t ≡ true → like t r m → live (start flip t) m → Agrees rd mem fixed t m → (tear mask r m ≡ m) ⊎ ((r' : R) × (next r m ≡ Goes r' (tear mask r m)))
  pub index_by : (m n : Mem) → ((a : ℕ) → a < 4 → m a ≡ n a) → index m ≡ index n
  pub index_changes : (t : ℕ) → nat_eq (index (mem t)) (index (mem (suc t))) ≡ cond (flip t) false true
  pub index_fixed : (a : ℕ) → a < 4 → fixed a ≡ true
  -- recovery writes nothing and leads to the place where the section resumes
  pub wakes : (junk : ℕ) (m : Mem) → waking zero junk m ≡ boot junk
  pub wakes_on : (s i junk : ℕ) (m : Mem) → start flip s ≡ s → live s m → ((a : ℕ) → fixed a ≡ true → m a ≡ mem s a) → i < wake → next (waking i junk m) m ≡ Goes (waking (suc i) junk m) m
  pub wakes_whole : (s i junk mask : ℕ) (m : Mem) → start flip s ≡ s → live s m → ((a : ℕ) → fixed a ≡ true → m a ≡ mem s a) → i < wake → tear mask (waking i junk m) m ≡ m
  pub woken : (s junk : ℕ) (m : Mem) → start flip s ≡ s → live s m → ((a : ℕ) → fixed a ≡ true → m a ≡ mem s a) → like (resume s) (waking wake junk m) m
  pub resumes : (s : ℕ) → start flip s ≡ s → start flip (resume s) ≡ s
  pub resumes_unwritten : (s a : ℕ) → start flip s ≡ s → wrote flip wr (resume s) a ≡ false
