-- So many steps of the machine, and the run by its times.
use Rattle.std.proofs.Common.{◌≡◌, ◌≢◌, ℕ, zero, suc, ◌+◌, ◌<◌, true, false, refl, sym, ap, ◌∙◌, subst, arith}
use Rattle.im_rv.specs.declared.step.Went.{Went}
use Rattle.im_rv.specs.declared.step.Went.TheVariants.{On, Halted, Faulted}
use Rattle.im_rv.specs.Steps.{Stepped}
use Rattle.im_rv.specs.Runs.{step_of, go_on, runs}
use Rattle.im_ckpt.specs.Runs.{State, IsRun, ends}
use Rattle.im_replay.proofs.Bridge.{going_of, over_of}
use Rattle.im_keeps_until.proofs.Still.{still}

abbrev pub stands : Stepped → State
stands s = record { cpu = s.cpu; mem = s.mem }

module _ (run : ℕ → State) (steps : IsRun run) where
  -- j steps from time t on
  pub record Mirrors (t j : ℕ) (s : Stepped) : Type 0 where
    pub same : stands s ≡ run (t + j)
    pub on : s.went ≡ On → (i : ℕ) → i < j → ends run (t + i) ≡ false
    pub over : s.went ≢ On → (i : ℕ) × (i < j) × (ends run (t + i) ≡ true)
    -- where they don't fault, none of them does
    pub calm : ((at : ℕ) → s.went ≢ Faulted at) → (i at : ℕ) → i < j → (step_of (run (t + i)).cpu (run (t + i)).mem).went ≢ Faulted at

  abbrev one : ℕ → Stepped
  one t = step_of (run t).cpu (run t).mem

  ended : (t j : ℕ) (w : Went) → w ≢ On → (one t).went ≡ w → Mirrors t (suc j) (record { went = w; cpu = (one t).cpu; mem = (one t).mem })
  ended t j w over e =
      let end : ends run t ≡ true = over_of (one t).went (λ on. over (sym e ∙ on)) in
      record {
        same = sym (steps t) ∙ still run steps t end (suc t) (omega arith) ∙ sym (still run steps t end (t + suc j) (omega arith));
        on = λ q. absurd (over q);
        over = λ q. (let z : t + 0 ≡ t = omega arith in (0, omega arith, ap (ends run) z ∙ end));
        calm = λ quiet i at lt fault.
            let here : (step_of (run (t + i)).cpu (run (t + i)).mem).went ≡ (one t).went = ap (λ (s : State). (step_of s.cpu s.mem).went) (still run steps t end (t + i) (omega arith)) in
            quiet at (sym e ∙ sym here ∙ fault);
      }

  goes_before : (j t : ℕ) → (one t).went ≡ On → ((i : ℕ) → i < j → ends run (suc t + i) ≡ false) → (i : ℕ) → i < suc j → ends run (t + i) ≡ false
  goes_before j t e rest zero lt =
      let q : t + 0 ≡ t = omega arith in
      ap (ends run) q ∙ going_of (one t).went e
  goes_before j t e rest (suc i) lt =
      let q : t + suc i ≡ suc t + i = omega arith in
      ap (ends run) q ∙ rest i (omega arith)

  goes_calm : (j t : ℕ) → (one t).went ≡ On → ((i at : ℕ) → i < j → (step_of (run (suc t + i)).cpu (run (suc t + i)).mem).went ≢ Faulted at) → (i at : ℕ) → i < suc j → (step_of (run (t + i)).cpu (run (t + i)).mem).went ≢ Faulted at
  goes_calm j t e rest zero at lt fault =
      let q : t + 0 ≡ t = omega arith in
      let bad : On ≡ Faulted at = sym e ∙ sym (ap (λ k. (one k).went) q) ∙ fault in
      cc
  goes_calm j t e rest (suc i) at lt fault =
      let q : t + suc i ≡ suc t + i = omega arith in
      rest i at (omega arith) (sym (ap (λ k. (one k).went) q) ∙ fault)

  goes : (j t : ℕ) (w : Went) → (one t).went ≡ w → Mirrors (suc t) j (runs j (run (suc t)).cpu (run (suc t)).mem) → Mirrors t (suc j) (go_on (runs j) (one t).cpu (one t).mem w)
  goes j t On e m =
      let q : suc t + j ≡ t + suc j = omega arith in
      let same_runs : runs j (run (suc t)).cpu (run (suc t)).mem ≡ runs j (one t).cpu (one t).mem = ap (λ (s : State). runs j s.cpu s.mem) (steps t) in
      subst (Mirrors t (suc j)) same_runs (record {
        same = m.same ∙ ap run q;
        on = λ on. goes_before j t e (m.on on);
        over = λ over. (let o = m.over over in (suc o.0, (let lt = o.1 in omega arith), (let z : t + suc o.0 ≡ suc t + o.0 = omega arith in ap (ends run) z ∙ o.2)));
        calm = λ quiet. goes_calm j t e (m.calm quiet);
      })
  goes j t Halted e m = ended t j Halted (λ q. cc) e
  goes j t (Faulted at) e m = ended t j (Faulted at) (λ q. cc) e

  pub mirrors : (j t : ℕ) → Mirrors t j (runs j (run t).cpu (run t).mem)
  mirrors zero t = record {
    same = ap run (let q : t ≡ t + 0 = omega arith in q);
    on = λ e i lt. absurd (omega arith);
    over = λ q. absurd (q refl);
    calm = λ quiet i at lt. absurd (omega arith);
  }
  mirrors (suc j) t = goes j t (one t).went refl (mirrors j (suc t))
