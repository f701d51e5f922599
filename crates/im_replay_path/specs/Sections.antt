-- The sections of a run, by the times of its steps: a section ends with a flip.
use Rattle.std.specs.Prelude.{◌≡◌, ℕ, zero, suc, ◌≤◌, ◌⊎◌, Bool, true, false, cond, ◌||◌, Option, Some, None, is_some}
use Rattle.im_mem.specs.Memory.{Mem}

-- where the section of time t began
abbrev pub start : (ℕ → Bool) → ℕ → ℕ
start flip zero = zero
start flip (suc t) = cond (flip t) (suc t) (start flip t)

-- how many flips came before time t
abbrev pub flips : (ℕ → Bool) → ℕ → ℕ
flips flip zero = zero
flips flip (suc t) = cond (flip t) (suc (flips flip t)) (flips flip t)

-- whether byte a was written in the section of time t, before t
abbrev pub wrote : (ℕ → Bool) → (ℕ → ℕ → Option ℕ) → ℕ → ℕ → Bool
wrote flip wr zero a = false
wrote flip wr (suc t) a = cond (flip t) false (is_some (wr t a) || wrote flip wr t a)

-- the section that began at s writes this value at a, its flip aside
pub record Writes (flip : ℕ → Bool) (wr : ℕ → ℕ → Option ℕ) (s a v : ℕ) : Type 0 where
  pub time : ℕ
  pub within : start flip time ≡ s
  pub no_flip : flip time ≡ false
  pub value : wr time a ≡ Some v

-- each byte outside the buffers is as it was when the section began, or holds a value that the section writes there
abbrev pub Mixed : (ℕ → Bool) → (ℕ → ℕ → Option ℕ) → (ℕ → Mem) → (ℕ → Bool) → ℕ → Mem → Type 0
Mixed flip wr mem buf s m = (a : ℕ) → buf a ≡ false → (m a ≡ mem s a) ⊎ Writes flip wr s a (m a)

-- no exposed byte of a section is written later in that section
abbrev pub NoWar : (ℕ → Bool) → (ℕ → ℕ → Option ℕ) → (ℕ → ℕ → Bool) → Type 0
NoWar flip wr rd = (t u a : ℕ) → t ≤ u → start flip t ≡ start flip u → flip u ≡ false → rd t a ≡ true → wrote flip wr t a ≡ false → wr u a ≡ None
