-- Each commit is a store at INDEX.
use Rattle.std.proofs.Common.{◌≡◌, ℕ, zero, suc, ◌+◌, ◌≤◌, Bool, true, false, cond, refl, arith}
use Rattle.im_rv.specs.Effects.{stores_word}
use Rattle.im_replay_path.specs.Sections.{flips}
use Rattle.im_ckpt.specs.Runs.{State, effect_at, flip}
use Rattle.im_replay.proofs.Sound.{IsSound}
use Rattle.im_keeps_passes.specs.Machine.{stores_before}

one_more : (flips' stores' : ℕ) (f s : Bool) → (f ≡ true → s ≡ true) → flips' ≤ stores' → cond f (suc flips') flips' ≤ cond s 1 0 + stores'
one_more a b true true h le = omega arith
one_more a b true false h le = let bad = h refl in let no : false ≡ true = bad in cc
one_more a b false true h le = omega arith
one_more a b false false h le = omega arith

pub flips_stored : {code : ℕ} (run : ℕ → State) → IsSound run code → (t : ℕ) → flips (flip run) t ≤ stores_before run t
flips_stored run u zero = omega arith
flips_stored run u (suc t) = one_more (flips (flip run) t) (stores_before run t) (flip run t) (stores_word (effect_at (run t)) 0) (u.flips t) (flips_stored run u t)
