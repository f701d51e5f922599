use Rattle.std.proofs.Common.{◌≡◌, ℕ, ◌+◌, ◌*◌, ◌<◌, true, length}
use Rattle.std.specs.Prelude.{slice_index}
use Rattle.im_promote.specs.Words.{has}
use Rattle.im_promote.specs.Homes.{MayBeRegister}
use Rattle.im_promote.proofs.candidates.all_candidates.Given as goal

abbrev pub invariant-loop-i : goal.invariant-loop-i
invariant-loop-i l = record {
  count : length l.words.items ≡ l.i;
  each : (i j : ℕ) → i < length l.words.items → j < 32 → has (slice_index l.words.items i) j ≡ true → MayBeRegister l.function (l.function.first_object + 32 * i + j);
}
