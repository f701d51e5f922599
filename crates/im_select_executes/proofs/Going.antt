-- What so many steps touch is what each touches in turn, where none faults.
use Rattle.std.proofs.Common.{◌≡◌, ◌≢◌, ℕ, zero, suc, ◌+◌, ◌<◌, ◌≤◌, true, [], ◌++◌, Option, Some, None, refl, sym, ap, ◌∙◌, arith}
use Rattle.im_mem.specs.Memory.{Mem, loaded}
use Rattle.im_rv.specs.declared.step.Went.{Went}
use Rattle.im_rv.specs.declared.step.Went.TheVariants.{On, Halted, Faulted}
use Rattle.im_rv.specs.Steps.{Cpu, row}
use Rattle.im_rv.specs.Decode.{Line, decode}
use Rattle.im_rv.specs.Runs.{decoded, fetched, step_of}
use Rattle.im_rv_reach.specs.Touches.{touch_of, line_touches, word_touches, touches, touched, touched_on}
use Rattle.im_ckpt.specs.Runs.{State, IsRun, ends}
use Rattle.im_replay.proofs.Bridge.{over_of}
use Rattle.im_keeps_until.proofs.Still.{still}
use Rattle.im_rtlib_laws.specs.Orderly.{touched_from}
use Rattle.im_select_executes.proofs.Effects.{stops_by}

over_line : (c : Cpu) (m : Mem) (o : Option Line) → (decoded c m o).went ≡ Halted → line_touches c o ≡ []
over_line c m None h = refl
over_line c m (Some l) h = ap touch_of (stops_by c m l.rd (row l.op c.pc (c.x l.rs1) (c.x l.rs2) l.imm) h)

over_word : (c : Cpu) (m : Mem) (o : Option ℕ) → (fetched c m o).went ≡ Halted → word_touches c o ≡ []
over_word c m None h = refl
over_word c m (Some w) h = over_line c m (decode w) h

-- the step that ends the run touches nothing
over_touches : (c : Cpu) (m : Mem) → (step_of c m).went ≡ Halted → touches c m ≡ []
over_touches c m h = over_word c m (loaded m c.pc 4) h

module _ (run : ℕ → State) (steps : IsRun run) where
  silent : (t : ℕ) → (step_of (run t).cpu (run t).mem).went ≡ Halted → (n k : ℕ) → t ≤ k → touched_from run k n ≡ []
  silent t h zero k le = refl
  silent t h (suc n) k le =
      let over : ends run t ≡ true = over_of (step_of (run t).cpu (run t).mem).went (λ on. let bad : Halted ≡ On = sym h ∙ on in cc) in
      let here : touches (run k).cpu (run k).mem ≡ [] = ap (λ (s : State). touches s.cpu s.mem) (still run steps t over k le) ∙ over_touches (run t).cpu (run t).mem h in
      ap (λ z. z ++ touched_from run (suc k) n) here ∙ silent t h n (suc k) (omega arith)

  goes : (n t : ℕ) (w : Went) → (step_of (run t).cpu (run t).mem).went ≡ w → ((at : ℕ) → w ≢ Faulted at) → touched n (run (suc t)).cpu (run (suc t)).mem ≡ touched_from run (suc t) n
      → touches (run t).cpu (run t).mem ++ touched_on (touched n) (step_of (run t).cpu (run t).mem).cpu (step_of (run t).cpu (run t).mem).mem w ≡ touched_from run t (suc n)
  goes n t On e calm rest = ap (λ z. touches (run t).cpu (run t).mem ++ z) (sym (ap (λ (s : State). touched n s.cpu s.mem) (steps t)) ∙ rest)
  goes n t Halted e calm rest = ap (λ z. touches (run t).cpu (run t).mem ++ z) (sym (silent t e n (suc t) (omega arith)))
  goes n t (Faulted at) e calm rest = absurd (calm at refl)

  pub from_touched : (n t : ℕ) → ((k at : ℕ) → t ≤ k → k < t + n → (step_of (run k).cpu (run k).mem).went ≢ Faulted at) → touched n (run t).cpu (run t).mem ≡ touched_from run t n
  from_touched zero t calm = refl
  from_touched (suc n) t calm =
      goes n t (step_of (run t).cpu (run t).mem).went refl (λ at. calm t at (omega arith) (omega arith)) (from_touched n (suc t) (λ k at low high. calm k at (omega arith) (omega arith)))
