-- Runs, one step more at a time.
use Rattle.std.proofs.Common.{◌≡◌, ◌∙◌, ℕ, zero, suc, ap, refl, List, [], ◌++◌}
use Rattle.im_block.specs.declared.unit.Unit.{Unit as Blocks}
use Rattle.im_block.specs.Meaning.{Setting, Event, State, Next, Goes, Stops, step}
use Rattle.im_block.specs.Runs.{Ran, At, exec, goes_on, start, Runs}
use Rattle.im_eval_machine.specs.declared.outcome.Outcome.{Outcome}
use Rattle.im_eval_machine.specs.Endings.{told}
use Rattle.im_block_run.specs.Ends.{Reaches, Tells}

abbrev here : Next → List Event → Ran
here r events = goes_on r (λ s e. At s e) events

here-at : (s t : State) (es fs : List Event) → At s es ≡ At t fs → (f : State → Next) → here (f s) es ≡ here (f t) fs
here-at s t es fs e f =
    let same : s ≡ t = cc in
    let also : es ≡ fs = cc in
    ap (λ (x : State). here (f x) es) same ∙ ap (here (f t)) also

module _ (u : Blocks) (g : Setting) where
  exec-one : (r : Next) (es : List Event) → goes_on r (exec u g zero) es ≡ here r es
  exec-one (Goes s more) es = refl
  exec-one (Stops o more) es = refl

  -- where it is so of a state, it is so of what a step gives
  through : (k : ℕ) (t : State) (fs : List Event) → ((x : State) (es : List Event) → exec u g k x es ≡ At t fs → goes_on (step u g x) (exec u g k) es ≡ here (step u g t) fs)
      → (r : Next) (es : List Event) → goes_on r (exec u g k) es ≡ At t fs → goes_on r (exec u g (suc k)) es ≡ here (step u g t) fs
  through k t fs one (Goes x more) es e = one x (es ++ more) e
  through k t fs one (Stops o more) es e = absurd (cc)

  -- after k steps at a state, k + 1 steps come to what its step gives
  exec-more : (k : ℕ) (s t : State) (es fs : List Event) → exec u g k s es ≡ At t fs → goes_on (step u g s) (exec u g k) es ≡ here (step u g t) fs
  exec-more zero s t es fs e = exec-one (step u g s) es ∙ here-at s t es fs e (step u g)
  exec-more (suc k) s t es fs e = through k t fs (λ x ds d. exec-more k x t ds fs d) (step u g s) es e

  pub reaches-start : (n : ℕ) → Reaches u g n (start u g n)
  reaches-start n = record { steps = 0; events = []; so = exec-one (start u g n) [] }

  pub reaches-more : (n : ℕ) (r : Next) (s : State) (more : List Event) → Reaches u g n r → r ≡ Goes s more → Reaches u g n (step u g s)
  reaches-more n r s more h e = record {
    steps = suc h.steps;
    events = h.events ++ more;
    so = through h.steps s (h.events ++ more) (λ x es d. exec-more h.steps x s es (h.events ++ more) d) (start u g n) [] (h.so ∙ ap (λ (x : Next). here x h.events) e);
  }

  -- a run that stopped is a whole run
  pub runs-over : (n : ℕ) (outcome : Outcome) (r : Next) → Reaches u g n r → Tells outcome r → (events : List Event) × Runs u g n (told outcome) events
  runs-over n outcome r h e =
      (h.events ++ e.0, record { steps = h.steps; over = h.so ∙ ap (λ (x : Next). here x h.events) e.1 })
