-- What the sections of a run have touched so far, the checkpoint's accesses left out.
use Rattle.std.specs.Prelude.{◌≡◌, ◌≢◌, ℕ, zero, suc, ◌<◌, ◌≤◌, false, List, [], ◌++◌}
use Rattle.im_rv.specs.declared.effect.Effect.TheVariants.{Stores}
use Rattle.im_ckpt.specs.Runs.{State, effect_at, flip}
use Rattle.im_rv_reach.specs.Touches.{Touch, touch_of, touches}
use Rattle.im_rv_reach.specs.Seen.{seen}
use Rattle.im_rv_reach.specs.Orderly.{Since, Anything, Refused, after}

-- what n steps from time t on touch
abbrev pub touched_from : (ℕ → State) → ℕ → ℕ → List Touch
touched_from run t zero = []
touched_from run t (suc n) = touches (run t).cpu (run t).mem ++ touched_from run (suc t) n

-- what the section of time t has touched before
abbrev pub since : (ℕ → State) → ℕ → Since
since run zero = Anything
since run (suc t) = after (since run t) (seen (touch_of (effect_at (run t))))

-- a run whose touches before time j are in order; INDEX is stored by flips alone
pub record IsOrderlyRun (run : ℕ → State) (j : ℕ) : Type 0 where
  pub calm : (t : ℕ) → t ≤ j → since run t ≢ Refused
  pub index : (t n v : ℕ) → t < j → flip run t ≡ false → effect_at (run t) ≢ Stores 0 n v
