-- The text of words is each with a blank behind it, but for the last one, which has an LF.
use Rattle.std.proofs.Common.{◌≡◌, ◌-◌, ◌+◌, ℕ, List, [], ◌∷◌, ◌++◌, length, take, sym, ap, refl, ◌∙◌, append_assoc, arith, Vec, Global, vec_len}
use Rattle.std.proofs.lemmas.List.{length-append}
use Rattle.std.proofs.Math.Seq.{take-append_seam}
use Rattle.im_word.specs.Words.{Word}
use Rattle.im_print_relation.specs.Text.{word_text, text_of}
use Rattle.im_print_parts.specs.Output.{spaced}

abbrev unended : List Word → List ℕ
unended [] = []
unended (x ∷ []) = word_text x
unended (x ∷ y ∷ xs) = word_text x ++ (32 ∷ unended (y ∷ xs))

text_unended : (u : List Word) → text_of u ≡ unended u ++ (10 ∷ [])
text_unended [] = refl
text_unended (x ∷ []) = refl
text_unended (x ∷ y ∷ xs) = ap (λ z. word_text x ++ (32 ∷ z)) (text_unended (y ∷ xs)) ∙ sym (append_assoc (word_text x) (32 ∷ unended (y ∷ xs)) (10 ∷ []))

spaced_unended : (x : Word) (xs : List Word) → spaced (x ∷ xs) ≡ unended (x ∷ xs) ++ (32 ∷ [])
spaced_unended x [] = refl
spaced_unended x (y ∷ xs) = ap (λ z. word_text x ++ (32 ∷ z)) (spaced_unended y xs) ∙ sym (append_assoc (word_text x) (32 ∷ unended (y ∷ xs)) (32 ∷ []))

less_one : (n m : ℕ) → n ≡ m + 1 → n - 1 ≡ m
less_one n m e = omega (arith, e)

without_last : (bs : List ℕ) (b : ℕ) → take (length (bs ++ b ∷ []) - 1) (bs ++ b ∷ []) ≡ bs
without_last bs b = ap (λ n. take n (bs ++ b ∷ [])) (less_one (length (bs ++ b ∷ [])) (length bs) (length-append bs (b ∷ []))) ∙ take-append_seam bs (b ∷ [])

unblanked : (u : List Word) → take (length (spaced u) - 1) (spaced u) ≡ unended u
unblanked [] = refl
unblanked (x ∷ xs) = ap (λ z. take (length z - 1) z) (spaced_unended x xs) ∙ without_last (unended (x ∷ xs)) 32

-- the last blank taken off, and an LF put there
pub ended : (u : List Word) (out : Vec ℕ Global) → out.items ≡ spaced u → take (vec_len out - 1) out.items ++ (10 ∷ []) ≡ text_of u
ended u out e =
    ap (λ n. take (n - 1) out.items ++ (10 ∷ [])) out.ok.0
    ∙ ap (λ z. take (length z - 1) z ++ (10 ∷ [])) e
    ∙ ap (λ z. z ++ (10 ∷ [])) (unblanked u)
    ∙ sym (text_unended u)
