-- Parts of a text, taken together in two ways.
use Rattle.std.proofs.Common.{◌≡◌, ℕ, List, ◌++◌, append_assoc}

pub behind_four : (a b c d e : List ℕ) → a ++ (b ++ (c ++ (d ++ e))) ≡ (a ++ b ++ c ++ d) ++ e
behind_four a b c d e = simp append_assoc

-- a name and a form, and another
pub behind_forms : (a b c d e f g h : List ℕ) → a ++ (b ++ (c ++ (d ++ (e ++ (f ++ (g ++ h)))))) ≡ ((a ++ b ++ c) ++ d ++ (e ++ f ++ g)) ++ h
behind_forms a b c d e f g h = simp append_assoc

pub in_front_of_five : (a b c d e f : List ℕ) → a ++ (b ++ c ++ d ++ e ++ f) ≡ a ++ b ++ c ++ d ++ e ++ f
in_front_of_five a b c d e f = simp append_assoc

pub thirteen : (a b c d e f g h i j k l m : List ℕ) → a ++ (b ++ (c ++ (d ++ (e ++ (f ++ (g ++ (h ++ (i ++ (j ++ (k ++ (l ++ m))))))))))) ≡ a ++ b ++ c ++ d ++ e ++ f ++ g ++ h ++ i ++ j ++ k ++ l ++ m
thirteen a b c d e f g h i j k l m = simp append_assoc

pub nine : (a b c d e f g h i : List ℕ) → a ++ (b ++ (c ++ (d ++ (e ++ (f ++ (g ++ (h ++ i))))))) ≡ a ++ b ++ c ++ d ++ e ++ f ++ g ++ h ++ i
nine a b c d e f g h i = simp append_assoc
