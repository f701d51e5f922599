-- Words laid into memory.
use Rattle.std.proofs.Common.{◌≡◌, ◌≤◌, ℕ, ◌+◌, ◌*◌, ◌%◌, true, List, [], ◌∷◌, length, refl, arith}
use Rattle.std.specs.List.{flat_map}
use Rattle.std.proofs.lemmas.Bool.Decides.{nat_tests}
use Rattle.im_num.specs.Bytes.{word_bytes}
use Rattle.im_mem.specs.Memory.{is_place}

pub is_word_place : (at : ℕ) → at % 4 ≡ 0 → at + 4 ≤ 5242880 → is_place at 4 ≡ true
is_word_place at aligned room = grind (arith, nat_tests)

pub length-words : (words : List ℕ) → length (flat_map word_bytes words) ≡ 4 * length words
length-words [] = refl
length-words (w ∷ ws) = let rest = length-words ws in omega arith
