-- Sections of a run, by the times of its steps.
use Rattle.std.proofs.Common.{◌≡◌, ◌≢◌, ℕ, zero, suc, ◌<◌, ◌≤◌, ◌⊎◌, inl, inr, Bool, true, false, cond, Option, Some, None, refl, sym, ap, ◌∙◌, subst, arith}
use Rattle.std.specs.Prelude.{is_some, unwrap_or, ◌||◌}
use Rattle.im_mem.specs.Memory.{Mem}
use Rattle.im_replay_path.specs.Path.{patched}
use Rattle.im_replay_path.specs.Sections.{start, wrote}

pub truth : (b : Bool) → (b ≡ true) ⊎ (b ≡ false)
truth true = inl refl
truth false = inr refl

pub order : (m n : ℕ) → (m < n) ⊎ (n ≤ m)
order m n = grind arith

pub start-flip : (flip : ℕ → Bool) (t : ℕ) → flip t ≡ true → start flip (suc t) ≡ suc t
start-flip flip t h = ap (λ b. cond b (suc t) (start flip t)) h

pub start-calm : (flip : ℕ → Bool) (t : ℕ) → flip t ≡ false → start flip (suc t) ≡ start flip t
start-calm flip t h = ap (λ b. cond b (suc t) (start flip t)) h

pub start_le : (flip : ℕ → Bool) (t : ℕ) → start flip t ≤ t
start_le flip zero = omega arith
start_le flip (suc t) = elim (truth (flip t)) [ inl h ↦ (let e = start-flip flip t h in omega arith) | inr h ↦ (let e = start-calm flip t h in let l = start_le flip t in omega arith) ]

-- a flip parts two times
pub start_past : (flip : ℕ → Bool) (t u : ℕ) → flip t ≡ true → t < u → t < start flip u
start_past flip t zero h l = absurd (omega arith)
start_past flip t (suc u) h l = elim (truth (flip u)) [
  | inl f ↦ (let e = start-flip flip u f in omega arith)
  | inr f ↦ (
      let e = start-calm flip u f in
      let ne : t ≢ u = λ q. (let g = subst (λ x. flip x ≡ true) q h in let bad : true ≡ false = sym g ∙ f in cc) in
      let before : t < u = omega arith in
      let more = start_past flip t u h before in
      omega arith)
]

pub start_start : (flip : ℕ → Bool) (t : ℕ) → start flip (start flip t) ≡ start flip t
start_start flip zero = refl
start_start flip (suc t) = elim (truth (flip t)) [ inl h ↦ (let e = start-flip flip t h in ap (start flip) e) | inr h ↦ (let e = start-calm flip t h in ap (start flip) e ∙ start_start flip t ∙ sym e) ]

pub wrote-calm : (flip : ℕ → Bool) (wr : ℕ → ℕ → Option ℕ) (t a : ℕ) → flip t ≡ false → wrote flip wr (suc t) a ≡ (is_some (wr t a) || wrote flip wr t a)
wrote-calm flip wr t a h = ap (λ b. cond b false (is_some (wr t a) || wrote flip wr t a)) h

pub wrote-flip : (flip : ℕ → Bool) (wr : ℕ → ℕ → Option ℕ) (t a : ℕ) → flip t ≡ true → wrote flip wr (suc t) a ≡ false
wrote-flip flip wr t a h = ap (λ b. cond b false (is_some (wr t a) || wrote flip wr t a)) h

or_left : (b c : Bool) → b ≡ true → (b || c) ≡ true
or_left b c h = ap (λ x. x || c) h

or_right : (b c : Bool) → c ≡ true → (b || c) ≡ true
or_right true c h = refl
or_right false c h = h

or_none : (b c : Bool) → (b || c) ≡ false → (b ≡ false) × (c ≡ false)
or_none true c h = absurd (cc)
or_none false c h = (refl, h)

-- what was written before t in its section counts as written
pub wrote_by : (flip : ℕ → Bool) (wr : ℕ → ℕ → Option ℕ) (u t a v : ℕ) → u < t → start flip u ≡ start flip t → wr u a ≡ Some v → wrote flip wr t a ≡ true
wrote_by flip wr u zero a v l same w = absurd (omega arith)
wrote_by flip wr u (suc t) a v l same w = elim (truth (flip t)) [
  | inl f ↦ (let e = start-flip flip t f in let le = start_le flip u in absurd (omega arith))
  | inr f ↦ (let e = start-calm flip t f in wrote-calm flip wr t a f ∙
      elim (order u t) [
        | inl before ↦ or_right (is_some (wr t a)) (wrote flip wr t a) (wrote_by flip wr u t a v before (same ∙ e) w)
        | inr late ↦ (let q : u ≡ t = omega arith in let w' = subst (λ x. wr x a ≡ Some v) q w in or_left (is_some (wr t a)) (wrote flip wr t a) (ap is_some w'))
      ])
]

-- what its section has not written is as it was when the section began
pub unwritten : (flip : ℕ → Bool) (wr : ℕ → ℕ → Option ℕ) (mem : ℕ → Mem) (a : ℕ) → ((t : ℕ) → mem (suc t) a ≡ patched (wr t) (mem t) a) → (t : ℕ) → wrote flip wr t a ≡ false → mem t a ≡ mem (start flip t) a
unwritten flip wr mem a law zero h = refl
unwritten flip wr mem a law (suc t) h = elim (truth (flip t)) [
  | inl f ↦ ap (λ s. mem s a) (sym (start-flip flip t f))
  | inr f ↦ (
      let both = or_none (is_some (wr t a)) (wrote flip wr t a) (sym (wrote-calm flip wr t a f) ∙ h) in
      law t ∙ kept (wr t a) (mem t a) both.0 ∙ unwritten flip wr mem a law t both.1 ∙ ap (λ s. mem s a) (sym (start-calm flip t f)))
]
  where
    kept : (o : Option ℕ) (d : ℕ) → is_some o ≡ false → unwrap_or o d ≡ d
    kept None d e = refl
    kept (Some v) d e = absurd (cc)
