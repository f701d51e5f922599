-- A run that has ended stays as it is.
use Rattle.std.proofs.Common.{◌≡◌, ℕ, zero, suc, ◌≤◌, inl, inr, Bool, true, false, not, cond, refl, sym, ap, ◌∙◌, subst, arith, eq-eqb}
use Rattle.std.specs.Prelude.{nat_eq}
use Rattle.im_rv.specs.Steps.{Cpu}
use Rattle.im_mem.specs.Memory.{Mem}
use Rattle.im_rv.specs.Runs.{step_of}
use Rattle.im_rv.proofs.Changes.{ends_calm}
use Rattle.im_device.specs.Run.{index_of}
use Rattle.im_replay_path.specs.Sections.{flips}
use Rattle.im_replay_path.proofs.Times.{order}
use Rattle.im_ckpt.specs.Runs.{State, is_end, IsRun, flip, ends}
use Rattle.im_replay.proofs.Bridge.{off_of}

itself : (n : ℕ) → nat_eq n n ≡ true
itself n = eq-eqb n n refl

module _ (run : ℕ → State) (steps : IsRun run) where
  pub stays : (t : ℕ) → ends run t ≡ true → run (suc t) ≡ run t
  stays t h =
      let c = ends_calm (run t).cpu (run t).mem (off_of (step_of (run t).cpu (run t).mem).went h) in
      steps t ∙ ap (λ (k : Cpu). record { cpu = k; mem = (step_of (run t).cpu (run t).mem).mem }) c.0 ∙ ap (λ (k : Mem). record { cpu = (run t).cpu; mem = k }) c.1

  pub calm_at_end : (t : ℕ) → ends run t ≡ true → flip run t ≡ false
  calm_at_end t h =
      ap (λ (s : State). not (nat_eq (index_of (run t).mem) (index_of s.mem))) (sym (steps t) ∙ stays t h) ∙ ap not (itself (index_of (run t).mem))

  module _ (e : ℕ) (over : ends run e ≡ true) where
    pub still : (t : ℕ) → e ≤ t → run t ≡ run e
    still zero le = ap run (let q : 0 ≡ e = omega arith in q)
    still (suc t) le = elim (order t e) [
      | inl lt ↦ ap run (let q : suc t ≡ e = omega arith in q)
      | inr more ↦ stays t (subst (λ (s : State). is_end s ≡ true) (sym (still t more)) over) ∙ still t more
    ]

    pub over_still : (t : ℕ) → e ≤ t → ends run t ≡ true
    over_still t le = subst (λ (s : State). is_end s ≡ true) (sym (still t le)) over

    pub flips_still : (t : ℕ) → e ≤ t → flips (flip run) t ≡ flips (flip run) e
    flips_still zero le = ap (flips (flip run)) (let q : 0 ≡ e = omega arith in q)
    flips_still (suc t) le = elim (order t e) [
      | inl lt ↦ ap (flips (flip run)) (let q : suc t ≡ e = omega arith in q)
      | inr more ↦ ap (λ b. cond b (suc (flips (flip run) t)) (flips (flip run) t)) (calm_at_end t (over_still t more)) ∙ flips_still t more
    ]

pub flips_more : (fl : ℕ → Bool) (s t : ℕ) → s ≤ t → flips fl s ≤ flips fl t
flips_more fl s zero le = let q : s ≡ 0 = omega arith in let w = ap (flips fl) q in omega arith
flips_more fl s (suc t) le = elim (order t s) [
  | inl lt ↦ (let q : s ≡ suc t = omega arith in let w = ap (flips fl) q in omega arith)
  | inr more ↦ up (fl t) (flips_more fl s t more)
]
  where
    up : (b : Bool) → flips fl s ≤ flips fl t → flips fl s ≤ cond b (suc (flips fl t)) (flips fl t)
    up true h = omega arith
    up false h = h
