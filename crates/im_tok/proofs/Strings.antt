-- How far a string literal has been read.
use Rattle.std.proofs.Common.{◌≡◌, ℕ, ◌+◌, ◌-◌, ◌≤◌, List, [], ◌∷◌, ◌++◌, length, take, drop, map, refl, sym, ◌∙◌, ap, subst, arith}
use Rattle.std.specs.Prelude.{slice_index}
use Rattle.std.proofs.lemmas.List.{take_rest, drop-drop, get_or-drop, length-drop}
use Rattle.im_tok.specs.Literals.{IsElement, AreElements, elements_length, IsText, NoElement}
use Rattle.im_tok.specs.declared.literal.Element.{Element}
use Rattle.im_tok.proofs.Elements.{one_element, element_size, no_quote}

-- the elements that are left, up to the closing quote at the end
pub record Left (rest : List ℕ) : Type 0 where
  pub elements : List Element
  pub inner : AreElements 34 rest elements
  pub closed : slice_index rest (elements_length elements) ≡ 34
  pub whole : length rest ≡ elements_length elements + 1

-- the elements that were read, and their bytes
pub record Read (text rest bytes : List ℕ) : Type 0 where
  pub elements : List Element
  pub inner : AreElements 34 (drop 1 text) elements
  pub place : rest ≡ drop (elements_length elements + 1) text
  pub within : elements_length elements + 1 ≤ length text
  pub values : bytes ≡ map (λ a. a.value) elements

pub record Reading (text rest bytes : List ℕ) : Type 0 where
  pub begins : slice_index text 0 ≡ 34
  pub read : Read text rest bytes
  pub left : Left rest

elements-push : (quote : ℕ) (text : List ℕ) (elements : List Element) (a : Element) → AreElements quote text elements → IsElement quote (drop (elements_length elements) text) a → AreElements quote text (elements ++ a ∷ [])
elements-push quote text [] a are is = (is, tt)
elements-push quote text (b ∷ elements) a are is =
    let P : List ℕ → Type 0 = λ t. IsElement quote t a in
    let e : drop (elements_length elements) (drop b.length text) ≡ drop (b.length + elements_length elements) text = drop-drop (elements_length elements) b.length text in
    (are.0, elements-push quote (drop b.length text) elements a are.1 (subst P (sym e) is))

length-push : (elements : List Element) (a : Element) → elements_length (elements ++ a ∷ []) ≡ elements_length elements + a.length
length-push [] a = omega arith
length-push (b ∷ elements) a = omega (arith, length-push elements a)

values-push : (elements : List Element) (a : Element) → map (λ x. x.value) (elements ++ a ∷ []) ≡ map (λ (x : Element). x.value) elements ++ a.value ∷ []
values-push [] a = refl
values-push (b ∷ elements) a = ap (λ l. b.value ∷ l) (values-push elements a)

pub begun : (text bytes : List ℕ) → IsText text bytes → Reading text (take (length text - 1) (drop 1 text)) []
begun text bytes is =
    let P : List ℕ → Type 0 = λ t. Reading text t [] in
    let closed : slice_index (drop 1 text) (elements_length is.0) ≡ 34 = get_or-drop 1 text (elements_length is.0) 0 ∙ ap (λ n. slice_index text n) (omega arith) ∙ is.1.closed in
    subst P (sym (take_rest text 1)) (record {
      begins = is.1.begins;
      read = record { elements = []; inner = tt; place = refl; within = omega (arith, is.1.whole); values = refl };
      left = record { elements = is.0; inner = is.1.inner; closed = closed; whole = omega (arith, is.1.whole, length-drop 1 text) };
    })

left_behind : (rest : List ℕ) (a : Element) → IsElement 34 rest a → Left rest → Left (drop a.length rest)
left_behind rest a is left = by_list left.elements left.inner left.closed left.whole
  where
    by_list : (elements : List Element) → AreElements 34 rest elements → slice_index rest (elements_length elements) ≡ 34 → length rest ≡ elements_length elements + 1 → Left (drop a.length rest)
    by_list [] inner closed whole = absurd (no_quote 34 rest a (λ e. omega arith) closed is)
    by_list (b ∷ elements) inner closed whole =
        let e : a ≡ b = one_element 34 rest a b is inner.0 in
        let P : Element → Type 0 = λ x. Left (drop x.length rest) in
        let at : slice_index (drop b.length rest) (elements_length elements) ≡ 34 = get_or-drop b.length rest (elements_length elements) 0 ∙ (let h : slice_index rest (b.length + elements_length elements) ≡ 34 = closed in h) in
        subst P (sym e) (record { elements = elements; inner = inner.1; closed = at; whole = omega (arith, whole, length-drop b.length rest) })

pub goes_on : (text rest bytes : List ℕ) (a : Element) → Reading text rest bytes → IsElement 34 rest a → Reading text (take (length rest - a.length) (drop a.length rest)) (bytes ++ a.value ∷ [])
goes_on text rest bytes a reading is =
    let P : List ℕ → Type 0 = λ t. Reading text t (bytes ++ a.value ∷ []) in
    let r = reading.read in
    let place : drop a.length rest ≡ drop (elements_length (r.elements ++ a ∷ []) + 1) text = ap (λ t. drop a.length t) r.place ∙ drop-drop a.length (elements_length r.elements + 1) text ∙ ap (λ n. drop n text) (omega (arith, length-push r.elements a)) in
    let Q : List ℕ → Type 0 = λ t. IsElement 34 t a in
    let at : drop (elements_length r.elements + 1) text ≡ drop (elements_length r.elements) (drop 1 text) = ap (λ n. drop n text) (omega arith) ∙ sym (drop-drop (elements_length r.elements) 1 text) in
    let here : IsElement 34 (drop (elements_length r.elements) (drop 1 text)) a = subst Q (r.place ∙ at) is in
    let size = element_size 34 rest a is in
    subst P (sym (take_rest rest a.length)) (record {
      begins = reading.begins;
      read = record { elements = r.elements ++ a ∷ []; inner = elements-push 34 (drop 1 text) r.elements a r.inner here; place = place; within = omega (arith, length-push r.elements a, size.1, ap length r.place, length-drop (elements_length r.elements + 1) text, r.within); values = ap (λ l. l ++ a.value ∷ []) r.values ∙ sym (values-push r.elements a) };
      left = left_behind rest a is reading.left;
    })

no_more : (rest : List ℕ) → NoElement 34 rest → Left rest → (slice_index rest 0 ≡ 34) × (length rest ≡ 1)
no_more rest none left = by_list left.elements left.inner left.closed left.whole
  where
    by_list : (elements : List Element) → AreElements 34 rest elements → slice_index rest (elements_length elements) ≡ 34 → length rest ≡ elements_length elements + 1 → (slice_index rest 0 ≡ 34) × (length rest ≡ 1)
    by_list [] inner closed whole = (closed, whole)
    by_list (b ∷ elements) inner closed whole = absurd (none b inner.0)

pub done : (text rest bytes : List ℕ) → Reading text rest bytes → NoElement 34 rest → IsText text bytes
done text rest bytes reading none =
    let r = reading.read in
    let end = no_more rest none reading.left in
    let closed : slice_index text (elements_length r.elements + 1) ≡ 34 = ap (λ n. slice_index text n) (omega arith) ∙ sym (get_or-drop (elements_length r.elements + 1) text 0 0) ∙ ap (λ t. slice_index t 0) (sym r.place) ∙ end.0 in
    (r.elements, record { begins = reading.begins; inner = r.inner; closed = closed; whole = omega (arith, end.1, ap length r.place, length-drop (elements_length r.elements + 1) text, r.within) }, r.values)
