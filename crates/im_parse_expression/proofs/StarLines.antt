-- Stars and the `const` behind them, part by part.
use Rattle.std.proofs.Common.{◌≡◌, ℕ, suc, ◌+◌, ◌<◌, List, [], ◌∷◌, ◌++◌, length, map, drop, sym, refl, ap, ◌∙◌, subst, arith, append_assoc}
use Rattle.std.specs.Prelude.{Option, Some, None}
use Rattle.std.proofs.lemmas.List.{append-nil}
use Rattle.im_tok.specs.declared.keyword.Keyword.TheVariants.{Const}
use Rattle.im_tok.specs.declared.punctuator.Punctuator.TheVariants.{Star}
use Rattle.im_word.specs.Words.{Word, keyword, mark}
use Rattle.im_ctree.specs.Grammar as g
use Rattle.im_ctree.specs.Follow.{head_star}
use Rattle.im_ctree.proofs.Behind.{star_blocked, stars_ends}
use Rattle.im_parse_core.specs.Reads.{Family, Ending, head, Reads, Refuses, Within}
use Rattle.im_parse_core.specs.Parts.{Both, both, After, after, Made, made, Done, done}
use Rattle.im_parse_core.specs.Places.{IsAt}
use Rattle.im_parse_core.proofs.Steps.{Into, start, line, line_at, word, part, node, all, reput}
use Rattle.im_ctree.specs.declared.declarator.Star as star
use Rattle.im_parse_expression.specs.Declaring.{Stars, AfterStars, Consts, AfterConsts}

const_into : (q : ℕ) → Into (After (keyword Const) (Made (λ n. suc n) Consts)) Consts q
const_into q t _ (after (made d)) = g.a_const d

const_back : (q : ℕ) (t : ℕ) (u r v : List Word) → u ++ r ≡ keyword Const ∷ v → Consts q t u → head_star r < 2 → After (keyword Const) (Made (λ n. suc n) Consts) q t u
const_back q t _ r v eq g.no_const e = absurd (star_blocked 2 e eq (omega arith))
const_back q t _ r v eq (g.a_const d) e = after (made d)

-- the loop's state
abbrev pub InConsts : List Word → ℕ → ℕ → ℕ → Type 0
InConsts words p count q = Within Consts AfterConsts p (drop p words) Consts AfterConsts q (drop q words) (λ n. count + n)

pub consts_start : (words : List Word) (p : ℕ) → InConsts words p 0 p
consts_start words p = reput (λ t. omega arith) (start Consts AfterConsts p (drop p words))

pub consts_more : (words : List Word) {p q k : ℕ} (count : ℕ) → IsAt (keyword Const) words q k → InConsts words p count q → InConsts words p (count + 1) k
consts_more words {q = q} count at from =
    reput (λ t. omega arith) (node (word at (line_at (keyword Const) (After (keyword Const) (Made (λ n. suc n) Consts)) (ap head at.here) (const_into q) (λ t u r v eq d e. const_back q t u r v eq d e) from)))

none_into : (q : ℕ) → Into (Done 0) Consts q
none_into q t _ done = g.no_const

none_back : (q : ℕ) (m : List Word) → (head m ≡ Some (keyword Const) → ⊥) → (t : ℕ) (u r : List Word) → head (u ++ r) ≡ head m → Consts q t u → Done 0 q t u
none_back q m other t _ r eq g.no_const = done
none_back q m other t _ r eq (g.a_const d) = absurd (other (sym eq))

pub consts_done : (words : List Word) {p q : ℕ} (count : ℕ) → (head (drop q words) ≡ Some (keyword Const) → ⊥) → InConsts words p count q → Reads Consts AfterConsts p (drop p words) count q (drop q words)
consts_done words {p = p} {q = q} count other from =
    subst (λ z. Reads Consts AfterConsts p (drop p words) z q (drop q words)) (let h : count + 0 ≡ count = omega arith in h) (all (line (Done 0) (none_into q) (λ t u r e d f. none_back q (drop q words) other t u r e d) from))

-- a star and what stands behind it, before more stars
abbrev StarLine : Family (List ℕ)
StarLine = After (mark Star) (Both Consts (λ n. Made (λ ns. n ∷ ns) Stars))

star_into : (q : ℕ) → Into StarLine Stars q
star_into q t _ (after (both n (made ns))) = g.a_star n ns

star_back : (q : ℕ) (t : List ℕ) (u r v : List Word) → u ++ r ≡ mark Star ∷ v → Stars q t u → head_star r < 1 → StarLine q t u
star_back q t _ r v eq g.no_star e = absurd (star_blocked 1 e eq (omega arith))
star_back q t _ r v eq (g.a_star n ns) e = after (both n (made ns))

stars_apart : (n q : ℕ) (t : List ℕ) (v r : List Word) → Made (λ (ns : List ℕ). n ∷ ns) Stars q t v → head_star r < 1 → head_star (v ++ r) < 2
stars_apart n q t v r (made ns) e = stars_ends ns r e

-- the loop's state
abbrev pub InStars : List Word → ℕ → List ℕ → ℕ → Type 0
InStars words p ns q = Within Stars AfterStars p (drop p words) Stars AfterStars q (drop q words) (λ t. ns ++ t)

pub stars_start : (words : List Word) (p : ℕ) → InStars words p [] p
stars_start words p = start Stars AfterStars p (drop p words)

pub stars_more : (words : List Word) (ns : List ℕ) {p q k l n : ℕ} → IsAt (mark Star) words q k → Reads Consts AfterConsts k (drop k words) n l (drop l words) → InStars words p ns q → InStars words p (ns ++ n ∷ []) l
stars_more words ns {q = q} {n = n} at one from =
    reput (λ t. sym (append_assoc ns (n ∷ []) t)) (node (part stars_apart one (word at (line_at (mark Star) StarLine (ap head at.here) (star_into q) (λ t u r v eq d e. star_back q t u r v eq d e) from))))

end_into : (q : ℕ) → Into (Done []) Stars q
end_into q t _ done = g.no_star

end_back : (q : ℕ) (m : List Word) → (head m ≡ Some (mark Star) → ⊥) → (t : List ℕ) (u r : List Word) → head (u ++ r) ≡ head m → Stars q t u → Done [] q t u
end_back q m other t _ r eq g.no_star = done
end_back q m other t _ r eq (g.a_star n ns) = absurd (other (sym eq))

pub stars_done : (words : List Word) (ns : List ℕ) {p q : ℕ} → (head (drop q words) ≡ Some (mark Star) → ⊥) → InStars words p ns q → Reads Stars AfterStars p (drop p words) ns q (drop q words)
stars_done words ns {p = p} {q = q} other from =
    subst (λ z. Reads Stars AfterStars p (drop p words) z q (drop q words)) (append-nil ns) (all (line (Done []) (end_into q) (λ t u r e d f. end_back q (drop q words) other t u r e d) from))

pub stars_item : (items : List star.Star) (x : star.Star) → map (λ (s : star.Star). s.consts) (items ++ x ∷ []) ≡ map (λ (s : star.Star). s.consts) items ++ x.consts ∷ []
stars_item [] x = refl
stars_item (y ∷ items) x = ap (λ z. y.consts ∷ z) (stars_item items x)
