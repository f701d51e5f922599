-- A loop whose test holds and whose body and step do nothing wants more fuel, however many turns it may have.
use Rattle.std.proofs.Common.{◌≡◌, refl, ℕ, zero, suc, pos}
use Rattle.im_typed.specs.Runs.{World, Stops, Starves, give}
use Rattle.im_typed.specs.Values.{number}
use Rattle.im_typed.specs.Meaning.{Next, turns}

pub turns-for-ever : (n : ℕ) (w : World) (fuel : ℕ) → turns n (number (pos 1)) (give Next) (number (pos 0)) (record { world = w; fuel = fuel }) ≡ Stops (Starves w.output)
turns-for-ever zero w zero = refl
turns-for-ever zero w (suc fuel) = refl
turns-for-ever (suc n) w zero = refl
turns-for-ever (suc n) w (suc fuel) = turns-for-ever n w fuel
