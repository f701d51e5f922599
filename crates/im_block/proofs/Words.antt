-- The small words of the meaning.
use Rattle.std.proofs.Common.{◌≡◌, Option, Some, None}
use Rattle.im_store.specs.Checks.{Fine}
use Rattle.im_block.specs.Meaning.{found}

pub found_is : {A : Type 0} (o : Option A) (a : A) → found o ≡ Fine a → o ≡ Some a
found_is None a e = cc
found_is (Some b) a e = cc
