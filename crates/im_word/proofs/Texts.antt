-- Whether a text is a string literal, by reading it from the left.
use Rattle.std.proofs.Common.{◌≡◌, ℕ, ◌+◌, ◌-◌, ◌≤◌, List, [], ◌∷◌, length, take, drop, map, refl, sym, ◌∙◌, ap, subst, arith}
use Rattle.std.specs.Prelude.{slice_index}
use Rattle.std.proofs.lemmas.List.{take_rest, drop-drop, get_or-drop, length-drop}
use Rattle.im_tok.specs.Literals.{IsElement, AreElements, elements_length, IsText, NoElement}
use Rattle.im_tok.specs.declared.literal.Element.{Element}
use Rattle.im_tok.proofs.Elements.{one_element, element_size, no_quote}

-- elements, and the closing quote at the end
pub record Ends (rest : List ℕ) : Type 0 where
  pub elements : List Element
  pub inner : AreElements 34 rest elements
  pub closed : slice_index rest (elements_length elements) ≡ 34
  pub whole : length rest ≡ elements_length elements + 1

pub record Both (text rest : List ℕ) : Type 0 where
  pub into : Ends rest → (bytes : List ℕ) × IsText text bytes
  pub back : (bytes : List ℕ) × IsText text bytes → Ends rest

pub begun : (text : List ℕ) → slice_index text 0 ≡ 34 → 1 ≤ length text → Both text (drop 1 text)
begun text quote some = record {
  into = λ e. (
    map (λ a. a.value) e.elements,
    (
      e.elements,
      record {
        begins = quote;
        inner = e.inner;
        closed = ap (λ n. slice_index text n) (omega arith) ∙ sym (get_or-drop 1 text (elements_length e.elements) 0) ∙ e.closed;
        whole = omega (arith, e.whole, length-drop 1 text, some);
      },
      refl,
    ),
  );
  back = λ b. let is = b.1 in record {
    elements = is.0;
    inner = is.1.inner;
    closed = get_or-drop 1 text (elements_length is.0) 0 ∙ ap (λ n. slice_index text n) (omega arith) ∙ is.1.closed;
    whole = omega (arith, is.1.whole, length-drop 1 text);
  };
}

ends_behind : (rest : List ℕ) (a : Element) → IsElement 34 rest a → (elements : List Element) → AreElements 34 rest elements → slice_index rest (elements_length elements) ≡ 34 → length rest ≡ elements_length elements + 1 → Ends (drop a.length rest)
ends_behind rest a is [] inner closed whole = absurd (no_quote 34 rest a (λ e. omega arith) closed is)
ends_behind rest a is (b ∷ elements) inner closed whole =
    let e : a ≡ b = one_element 34 rest a b is inner.0 in
    let P : Element → Type 0 = λ x. Ends (drop x.length rest) in
    let at : slice_index (drop b.length rest) (elements_length elements) ≡ 34 = get_or-drop b.length rest (elements_length elements) 0 ∙ closed in
    subst P (sym e) (record { elements = elements; inner = inner.1; closed = at; whole = omega (arith, whole, length-drop b.length rest) })

ends_more : (rest : List ℕ) (a : Element) → IsElement 34 rest a → Ends (drop a.length rest) → Ends rest
ends_more rest a is e =
    let size = element_size 34 rest a is in
    record {
      elements = a ∷ e.elements;
      inner = (is, e.inner);
      closed = sym (get_or-drop a.length rest (elements_length e.elements) 0) ∙ e.closed;
      whole = omega (arith, e.whole, length-drop a.length rest, size.1);
    }

pub goes_on : (text rest : List ℕ) (a : Element) → Both text rest → IsElement 34 rest a → Both text (take (length rest - a.length) (drop a.length rest))
goes_on text rest a known is =
    let P : List ℕ → Type 0 = λ t. Both text t in
    subst P (sym (take_rest rest a.length)) (record {
      into = λ e. known.into (ends_more rest a is e);
      back = λ b. let e = known.back b in ends_behind rest a is e.elements e.inner e.closed e.whole;
    })

no_more : (rest : List ℕ) → NoElement 34 rest → (elements : List Element) → AreElements 34 rest elements → slice_index rest (elements_length elements) ≡ 34 → length rest ≡ elements_length elements + 1 → (slice_index rest 0 ≡ 34) × (length rest ≡ 1)
no_more rest none [] inner closed whole = (closed, whole)
no_more rest none (b ∷ elements) inner closed whole = absurd (none b inner.0)

pub ended : (text rest : List ℕ) → NoElement 34 rest → Both text rest → ((bytes : List ℕ) × IsText text bytes) → (slice_index rest 0 ≡ 34) × (length rest ≡ 1)
ended text rest none known b = let e = known.back b in no_more rest none e.elements e.inner e.closed e.whole

pub closes : (text rest : List ℕ) → Both text rest → slice_index rest 0 ≡ 34 → length rest ≡ 1 → (bytes : List ℕ) × IsText text bytes
closes text rest known quote one = known.into (record { elements = []; inner = tt; closed = quote; whole = omega arith })

pub first : (text : List ℕ) → slice_index text 0 ≡ 34 → 1 ≤ length text → Both text (take (length text - 1) (drop 1 text))
first text quote some = let P : List ℕ → Type 0 = λ t. Both text t in subst P (sym (take_rest text 1)) (begun text quote some)

-- a text that doesn't begin with a quote
pub unquoted : (text : List ℕ) → (slice_index text 0 ≡ 34 → ⊥) → ((bytes : List ℕ) × IsText text bytes) → ⊥
unquoted text other b = other b.1.1.begins

pub empty : (text : List ℕ) → length text ≡ 0 → ((bytes : List ℕ) × IsText text bytes) → ⊥
empty text none b = omega (arith, none, b.1.1.whole)
