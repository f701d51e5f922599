-- The run of one endless period is a run.
use Rattle.std.proofs.Common.{◌≡◌, ◌≢◌, ℕ, zero, suc, ◌+◌, ◌⊎◌, inl, inr, refl, sym, ap, ◌∙◌, subst, arith}
use Rattle.im_mem.specs.Memory.{Mem}
use Rattle.im_rv.specs.declared.step.Went.{Went}
use Rattle.im_rv.specs.declared.step.Went.TheVariants.{On, Halted, Faulted}
use Rattle.im_rv.specs.Steps.{Stepped}
use Rattle.im_rv.specs.Runs.{step_of}
use Rattle.im_rv.proofs.Changes.{ends_calm}
use Rattle.im_device.specs.Run.{Moment, boot, unless_over, one_step, run}
use Rattle.im_device.specs.Periods.{fresh, power_up}
use Rattle.im_device.proofs.Runs.{run_over, run_parts}
use Rattle.im_ckpt.specs.Runs.{stepped, IsRun}
use Rattle.im_ckpt.specs.Laws.{CanResume}
use Rattle.im_ckpt.proofs.Resume.{cpu_after, resuming_is}
use Rattle.im_replay.specs.Uninterrupted.{state_of, uninterrupted}

pub on_or_over : (w : Went) → (w ≡ On) ⊎ (w ≢ On)
on_or_over On = inl refl
on_or_over Halted = inr (λ q. cc)
on_or_over (Faulted at) = inr (λ q. cc)

-- where a step ended the run, another leaves all as it is
step_still : (x : Moment) → (one_step x).went ≢ On → stepped (state_of (one_step x)) ≡ state_of (one_step x)
step_still x over =
    let s : Stepped = step_of x.cpu x.mem in
    let e = ends_calm x.cpu x.mem over in
    ap (λ (d : Stepped). record { cpu = d.cpu; mem = d.mem }) (ap (λ c. step_of c s.mem) e.0 ∙ ap (λ m. step_of x.cpu m) e.1)

run_still : (n : ℕ) (x : Moment) → x.went ≡ On → (run n x).went ≢ On → stepped (state_of (run n x)) ≡ state_of (run n x)
run_still zero x on over = absurd (over on)
run_still (suc n) x on over =
    let e : run (suc n) x ≡ run n (one_step x) = ap (λ w. unless_over (λ y. run n (one_step y)) w x) on in
    subst (λ (z : Moment). stepped (state_of z) ≡ state_of z) (sym e) (elim (on_or_over (one_step x).went) [
      | inl still_on ↦ run_still n (one_step x) still_on (subst (λ (z : Moment). z.went ≢ On) e over)
      | inr ended ↦ subst (λ (z : Moment). stepped (state_of z) ≡ state_of z) (sym (run_over n (one_step x) ended)) (step_still x ended)
    ])

next_state : (y : Moment) (w : Went) → y.went ≡ w → (y.went ≢ On → stepped (state_of y) ≡ state_of y) → state_of (unless_over (λ z. run 0 (one_step z)) w y) ≡ stepped (state_of y)
next_state y On e h = refl
next_state y Halted e h = sym (h (λ q. let bad : Halted ≡ On = sym e ∙ q in cc))
next_state y (Faulted at) e h = sym (h (λ q. let bad : Faulted at ≡ On = sym e ∙ q in cc))

pub is_run : (m : Mem) → IsRun (uninterrupted m)
unfolding uninterrupted
is_run m t =
    let x : Moment = power_up 0 (fresh m) in
    let y : Moment = run (33 + t) x in
    let q : 33 + suc t ≡ 33 + t + 1 = omega arith in
    ap (λ n. state_of (run n x)) q ∙ ap state_of (run_parts (33 + t) 1 x)
    ∙ next_state y y.went refl (λ over. run_still (33 + t) x refl over)

pub first_state : (m : Mem) → CanResume m → uninterrupted m 0 ≡ record { cpu = cpu_after 33 (boot 0) m; mem = m }
unfolding uninterrupted
first_state m can = ap state_of (resuming_is m 0 33 can (omega arith))
