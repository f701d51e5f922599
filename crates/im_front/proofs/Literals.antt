-- A text has one reading as a character constant, and one as a string literal.
use Rattle.std.proofs.Common.{◌≡◌, ℕ, List, [], ◌∷◌, map, drop, refl, sym, ◌∙◌, ap, subst, arith}
use Rattle.im_tok.specs.declared.literal.Element.{Element}
use Rattle.im_tok.specs.Literals.{AreElements, elements_length, IsCharacter, IsText}
use Rattle.im_tok.proofs.Elements.{one_element, element_size, the_character}

pub same-character : (text : List ℕ) (a b : ℕ) → IsCharacter text a → IsCharacter text b → a ≡ b
same-character text a b g h = g.2 ∙ sym (the_character text g.0 b g.1.inner.0 h).0

same-elements : (quote : ℕ) (text : List ℕ) (xs ys : List Element) → AreElements quote text xs → AreElements quote text ys → elements_length xs ≡ elements_length ys → xs ≡ ys
same-elements quote text [] [] g h e = refl
same-elements quote text [] (b ∷ ys) g h e = absurd (let size = (element_size quote text b h.0).0 in omega (arith, e, size))
same-elements quote text (a ∷ xs) [] g h e = absurd (let size = (element_size quote text a g.0).0 in omega (arith, e, size))
same-elements quote text (a ∷ xs) (b ∷ ys) g h e =
    let one = one_element quote text a b g.0 h.0 in
    let size : a.length ≡ b.length = ap (λ (x : Element). x.length) one in
    let P : ℕ → Type 0 = λ n. AreElements quote (drop n text) ys in
    let more = same-elements quote (drop a.length text) xs ys g.1 (subst P (sym size) h.1) (omega (arith, e, size)) in
    ap (λ (x : Element). x ∷ xs) one ∙ ap (λ (zs : List Element). b ∷ zs) more

pub same-text : (text a b : List ℕ) → IsText text a → IsText text b → a ≡ b
same-text text a b g h =
    let m = g.1.whole in
    let n = h.1.whole in
    let elements = same-elements 34 (drop 1 text) g.0 h.0 g.1.inner h.1.inner (omega (arith, m, n)) in
    g.2 ∙ ap (λ (xs : List Element). map {A = Element} (λ x. x.value) xs) elements ∙ sym h.2
