-- String literals side by side, part by part.
use Rattle.std.proofs.Common.{◌≡◌, ℕ, suc, ◌+◌, ◌<◌, List, [], ◌∷◌, ◌++◌, length, drop, sym, refl, ap, ◌∙◌, subst, arith, append_assoc}
use Rattle.std.specs.Prelude.{Option, Some, None}
use Rattle.std.proofs.lemmas.List.{append-nil}
use Rattle.im_word.specs.Words.{Name, Word, text}
use Rattle.im_ctree.specs.Grammar.{IsJoinedText, last_text, more_text}
use Rattle.im_ctree.specs.Follow.{head_rank}
use Rattle.im_ctree.proofs.Ranks.{blocked}
use Rattle.im_parse_core.specs.Reads.{Family, Ending, head, Reads, Refuses, Within}
use Rattle.im_parse_core.specs.Parts.{Both, both, Made, made, Done, done}
use Rattle.im_parse_core.specs.Places.{IsAt}
use Rattle.im_parse_core.proofs.Steps.{Apart, Into, start, line, line_at, part, node, all, nothing, reput}
use Rattle.im_parse_expression.specs.Parsing.{Anything, IsText, NoTextBehind}

pub data AText : ℕ → Name → List Word → Type 0 where
  a_text : {p : ℕ} (s : Name) → AText p s (text s ∷ [])

-- what may stand behind a string literal
pub data MoreTexts : ℕ → Name → List Word → Type 0 where
  no_more : {p : ℕ} → MoreTexts p [] []
  some_more : {p : ℕ} {s : Name} {u : List Word} → IsJoinedText s u → MoreTexts p s u

text_into : (q : ℕ) → Into (Both AText (λ s. Made (λ t. s ++ t) MoreTexts)) IsText q
text_into q t _ (both (a_text s) (made no_more)) = subst (λ z. IsJoinedText z (text s ∷ [])) (sym (append-nil s)) (last_text s)
text_into q t _ (both (a_text s) (made (some_more d))) = more_text s d

text_back : (q : ℕ) → Into IsText (Both AText (λ s. Made (λ t. s ++ t) MoreTexts)) q
text_back q t _ (last_text s) = subst (λ z. Both AText (λ s. Made (λ t. s ++ t) MoreTexts) q z (text s ∷ [])) (append-nil s) (both (a_text s) (made no_more))
text_back q t _ (more_text s d) = both (a_text s) (made (some_more d))

text_sole : {p : ℕ} {n t : Name} (others u r : List Word) → text n ∷ others ≡ u ++ r → AText p t u → (t ≡ n) × (u ≡ text n ∷ [])
text_sole {n = n} others _ r eq (a_text m) = let h : m ≡ n = cc in (h, ap (λ z. text z ∷ []) h)

reads_text : (words : List Word) {p k : ℕ} {n : Name} → IsAt (text n) words p k → Reads AText Anything p (drop p words) n k (drop k words)
reads_text words {n = n} at = record {
  front = text n ∷ [];
  cut = at.here;
  place = omega (arith, at.next);
  derived = a_text n;
  sole = λ others u r t next eq d e. text_sole others u r eq d;
}

text_start : (p : ℕ) (w : List Word) → Within IsText NoTextBehind p w (Both AText (λ s. Made (λ t. s ++ t) MoreTexts)) NoTextBehind p w (λ t. t)
text_start p w = line (Both AText (λ s. Made (λ t. s ++ t) MoreTexts)) (text_into p) (λ t u r e d f. text_back p t u d) (start IsText NoTextBehind p w)

pub begins_text : {t : Name} {u : List Word} (r : List Word) → IsJoinedText t u → (s : Name) × (head (u ++ r) ≡ Some (text s))
begins_text r (last_text s) = (s, refl)
begins_text r (more_text s d) = (s, refl)

pub no_text : (words : List Word) {p : ℕ} → ((s : Name) → head (drop p words) ≡ Some (text s) → ⊥) → Refuses IsText NoTextBehind p (drop p words) p (drop p words)
no_text words {p = p} other = nothing (λ q. ([], text [] ∷ [], last_text [])) (λ t u r eq d e. let b = begins_text r d in other b.0 (sym eq ∙ b.1)) (start IsText NoTextBehind p (drop p words))

abbrev pub InText : List Word → ℕ → Name → ℕ → Type 0
InText words p s q = Within IsText NoTextBehind p (drop p words) MoreTexts (λ t r. head_rank r < 19) q (drop q words) (λ t. s ++ t)

pub text_first : (words : List Word) {p q : ℕ} {s : Name} → IsAt (text s) words p q → InText words p s q
text_first words {p = p} at = node (part (λ a q t v r d e. tt) (reads_text words at) (text_start p (drop p words)))

more_back : (q : ℕ) (t : Name) (u r v : List Word) (s : Name) → u ++ r ≡ text s ∷ v → MoreTexts q t u → head_rank r < 19 → IsText q t u
more_back q t _ r v s eq no_more e = absurd (blocked 19 e eq (omega arith))
more_back q t _ r v s eq (some_more d) e = d

pub text_more : (words : List Word) (s : Name) {p q k : ℕ} {n : Name} → IsAt (text n) words q k → InText words p s q → InText words p (s ++ n) k
text_more words s {q = q} {n = n} at from =
    reput (λ t. sym (append_assoc s n t)) (node (part (λ a q t v r d e. tt) (reads_text words at) (line (Both AText (λ s. Made (λ t. s ++ t) MoreTexts)) (text_into q) (λ t u r e d f. text_back q t u d) (line_at (text n) IsText (ap head at.here) (λ t u d. some_more d) (λ t u r v eq d e. more_back q t u r v n eq d e) from))))

done_into : (q : ℕ) → Into (Done []) MoreTexts q
done_into q t _ done = no_more

done_back : (q : ℕ) (m : List Word) → ((s : Name) → head m ≡ Some (text s) → ⊥) → (t : Name) (u r : List Word) → head (u ++ r) ≡ head m → MoreTexts q t u → Done [] q t u
done_back q m other t _ r eq no_more = done
done_back q m other t u r eq (some_more d) = absurd (let b = begins_text r d in other b.0 (sym eq ∙ b.1))

pub text_done : (words : List Word) {p q : ℕ} {s : Name} → ((n : Name) → head (drop q words) ≡ Some (text n) → ⊥) → InText words p s q → Reads IsText NoTextBehind p (drop p words) s q (drop q words)
text_done words {p = p} {q = q} {s = s} other from =
    subst (λ z. Reads IsText NoTextBehind p (drop p words) z q (drop q words)) (append-nil s) (all (line (Done []) (done_into q) (λ t u r e d f. done_back q (drop q words) other t u r e d) from))
