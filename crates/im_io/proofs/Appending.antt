-- Texts taken by a sink, one after the other.
use Rattle.std.proofs.Common.{◌≡◌, ℕ, ◌+◌, ◌-◌, Option, Some, None, List, [], ◌++◌, take, drop, length, sym, ap, ◌∙◌, append_assoc, length-drop}
use Rattle.std.proofs.Math.Seq.{take-add, take-length}
use Rattle.std.proofs.lemmas.List.{append-nil}
use Rattle.im_io.specs.Sink.{Appended}

pub appended_none : (c : Option (List ℕ)) → Appended [] c c
appended_none None = tt
appended_none (Some xs) = sym (append-nil xs)

pub appended_more : (xs ys : List ℕ) (a b c : Option (List ℕ)) → Appended xs a b → Appended ys b c → Appended (xs ++ ys) a c
appended_more xs ys None None None h k = tt
appended_more xs ys None None (Some c) h k = k
appended_more xs ys None (Some b) c h k = absurd h
appended_more xs ys (Some a) None c h k = absurd h
appended_more xs ys (Some a) (Some b) None h k = k
appended_more xs ys (Some a) (Some b) (Some c) h k = k ∙ ap (λ v. v ++ ys) h ∙ append_assoc a xs ys

-- the rest of a text, as a slice to its end
pub rest_of : (i : ℕ) (xs : List ℕ) → take (length xs - i) (drop i xs) ≡ drop i xs
rest_of i xs = ap (λ n. take n (drop i xs)) (sym (length-drop i xs)) ∙ take-length (drop i xs)

-- the first i bytes of a text, and n more
pub first_more : (i n : ℕ) (xs : List ℕ) → take i xs ++ take n (take (length xs - i) (drop i xs)) ≡ take (i + n) xs
first_more i n xs = ap (λ rest. take i xs ++ take n rest) (rest_of i xs) ∙ sym (take-add i n xs)
