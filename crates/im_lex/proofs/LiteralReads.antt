-- How far a literal has been read, and what that says of its pieces.
use Rattle.std.proofs.Common.{◌≡◌, ◌≢◌, ℕ, ◌+◌, ◌-◌, ◌<◌, ◌≤◌, inl, inr, List, [], ◌∷◌, ◌++◌, length, Some, take, drop, refl, sym, ap, subst, ◌∙◌, arith}
use Rattle.std.specs.Prelude.{slice_index, slice_range}
use Rattle.std.proofs.lemmas.List.{get_or-take, get_or-drop, length-take-le, length-drop, drop-drop, drop-take, take-take, take_rest}
use Rattle.im_tok.specs.Digits.{IsDigitOf, digits_value}
use Rattle.im_tok.specs.Literals.{IsNumeric, IsElement, simple_escape, AreElements, elements_length, IsLiteral, NoElement, Refused}
use Rattle.im_tok.specs.Literals.IsElement.{plain, simple, octal, hexadecimal}
use Rattle.im_tok.specs.declared.literal.Element.{Element}
use Rattle.im_tok.specs.declared.literal.ElementFault.{ElementFault}
use Rattle.im_tok.proofs.Elements.{one_element, element_size, no_quote}
use Rattle.im_lex.specs.Runs.{ElementsEnd}

-- the elements behind the quote, up to the place end
pub record ElementsRead (quote : ℕ) (text : List ℕ) (end count : ℕ) : Type 0 where
  pub elements : List Element
  pub read : AreElements quote (drop 1 text) elements
  pub place : end ≡ elements_length elements + 1
  pub counted : count ≡ length elements
  pub within : end ≤ length text
  pub few : count ≤ end

elements-push : (quote : ℕ) (text : List ℕ) (elements : List Element) (a : Element) → AreElements quote text elements → IsElement quote (drop (elements_length elements) text) a → AreElements quote text (elements ++ a ∷ [])
elements-push quote text [] a are is = (is, tt)
elements-push quote text (b ∷ elements) a are is =
    let P : List ℕ → Type 0 = λ t. IsElement quote t a in
    (are.0, elements-push quote (drop b.length text) elements a are.1 (subst P (sym (drop-drop (elements_length elements) b.length text)) is))

length-push : (elements : List Element) (a : Element) → elements_length (elements ++ a ∷ []) ≡ elements_length elements + a.length
length-push [] a = omega arith
length-push (b ∷ elements) a = omega (arith, length-push elements a)

count-push : (elements : List Element) (a : Element) → length (elements ++ a ∷ []) ≡ length elements + 1
count-push [] a = omega arith
count-push (b ∷ elements) a = omega (arith, count-push elements a)

pub begun : (quote : ℕ) (text : List ℕ) → 0 < length text → ElementsRead quote text 1 0
begun quote text some = record { elements = []; read = tt; place = refl; counted = refl; within = omega arith; few = omega arith }

at_end : (text : List ℕ) (n end : ℕ) → end ≡ n + 1 → drop end text ≡ drop n (drop 1 text)
at_end text n end e = ap (λ k. drop k text) (omega arith) ∙ sym (drop-drop n 1 text)

pub goes_on : (quote : ℕ) (text : List ℕ) (end count : ℕ) (a : Element) → ElementsRead quote text end count → IsElement quote (drop end text) a → ElementsRead quote text (end + a.length) (count + 1)
goes_on quote text end count a r is =
    let P : List ℕ → Type 0 = λ t. IsElement quote t a in
    let size = element_size quote (drop end text) a is in
    record {
      elements = r.elements ++ a ∷ [];
      read = elements-push quote (drop 1 text) r.elements a r.read (subst P (at_end text (elements_length r.elements) end r.place) is);
      place = omega (arith, length-push r.elements a, r.place);
      counted = omega (arith, count-push r.elements a, r.counted);
      within = omega (arith, size.1, length-drop end text, r.within);
      few = omega (arith, r.few, size.0);
    }

-- two lists of elements that nothing goes on are the same
pub one_list : (quote : ℕ) (text : List ℕ) (a b : List Element) → AreElements quote text a → NoElement quote (drop (elements_length a) text) → AreElements quote text b → NoElement quote (drop (elements_length b) text) → a ≡ b
one_list quote text [] [] ra na rb nb = refl
one_list quote text [] (y ∷ b) ra na rb nb = absurd (na y rb.0)
one_list quote text (x ∷ a) [] ra na rb nb = absurd (nb x ra.0)
one_list quote text (x ∷ a) (y ∷ b) ra na rb nb =
    let same : x ≡ y = one_element quote text x y ra.0 rb.0 in
    let P : Element → Type 0 = λ e. AreElements quote (drop e.length text) b in
    let Q : List ℕ → Type 0 = λ t. NoElement quote t in
    let R : Element → Type 0 = λ e. NoElement quote (drop (elements_length b) (drop e.length text)) in
    let none_a = subst Q (sym (drop-drop (elements_length a) x.length text)) na in
    let none_b = subst Q (sym (drop-drop (elements_length b) y.length text)) nb in
    let rest = one_list quote (drop x.length text) a b ra.1 none_a (subst P (sym same) rb.1) (subst R (sym same) none_b) in
    ap (λ e. e ∷ a) same ∙ ap (λ l. y ∷ l) rest

-- an element of a front, with a byte behind it, is one of the text, and the other way round

range_front : (m : ℕ) (text : List ℕ) (first size : ℕ) → first ≤ size → size ≤ m → slice_range (take m text) first size ≡ slice_range text first size
range_front m text first size le within =
    let whole : m ≡ first + (m - first) = omega arith in
    ap (λ k. take (size - first) (drop first (take k text))) whole ∙ ap (λ l. take (size - first) l) (drop-take first (m - first) text) ∙ take-take (size - first) (m - first) (drop first text) (omega arith)

at : (n : ℕ) (text : List ℕ) (i : ℕ) → i < n → slice_index (take n text) i ≡ slice_index text i
at n text i h = get_or-take n text i 0 h

numeric_whole : (radix first most more m : ℕ) (text : List ℕ) (a : Element) → a.length ≤ first + more → ((a.length ≡ first + most) → a.length ≡ first + more) → m ≤ length text → a.length < m → IsNumeric radix first most (take m text) a → IsNumeric radix first more text a
numeric_whole radix first most more m text a few full within lt h =
    let P : ℕ → Type 0 = λ b. IsDigitOf radix b in
    record {
      within = omega arith;
      begins = sym (at m text 0 (omega arith)) ∙ h.begins;
      some = h.some;
      few = few;
      digits = λ i ge below. subst P (at m text i (omega arith)) (h.digits i ge below);
      all = elim h.all [ inl e ↦ inl (full e) | inr f ↦ inr (λ d. f (subst P (sym (at m text a.length lt)) d)) ];
      value = h.value ∙ ap (λ l. digits_value radix l) (range_front m text first a.length (omega (arith, h.some)) (omega arith));
      fits = h.fits;
    }

numeric_front : (radix first most more m : ℕ) (text : List ℕ) (a : Element) → a.length ≤ first + more → ((a.length ≡ first + most) → a.length ≡ first + more) → m ≤ length text → a.length < m → IsNumeric radix first most text a → IsNumeric radix first more (take m text) a
numeric_front radix first most more m text a few full within lt h =
    let P : ℕ → Type 0 = λ b. IsDigitOf radix b in
    record {
      within = omega (arith, length-take-le m text within);
      begins = at m text 0 (omega arith) ∙ h.begins;
      some = h.some;
      few = few;
      digits = λ i ge below. subst P (sym (at m text i (omega arith))) (h.digits i ge below);
      all = elim h.all [ inl e ↦ inl (full e) | inr f ↦ inr (λ d. f (subst P (at m text a.length lt) d)) ];
      value = h.value ∙ sym (ap (λ l. digits_value radix l) (range_front m text first a.length (omega (arith, h.some)) (omega arith)));
      fits = h.fits;
    }

element_whole : (quote m : ℕ) (text : List ℕ) (a : Element) → m ≤ length text → a.length < m → IsElement quote (take m text) a → IsElement quote text a
element_whole quote m text a within lt (plain h) =
    let e = sym (at m text 0 (omega arith)) in
    plain (record { some = omega arith; line = λ f. h.line (sym e ∙ f); inside = λ f. h.inside (sym e ∙ f); no_escape = λ f. h.no_escape (sym e ∙ f); value = h.value ∙ sym e; size = h.size })
element_whole quote m text a within lt (simple h) =
    let P : ℕ → Type 0 = λ b. simple_escape b ≡ Some a.value in
    simple (record { within = omega (arith, h.size); begins = sym (at m text 0 (omega arith)) ∙ h.begins; value = subst P (at m text 1 (omega (arith, h.size))) h.value; size = h.size })
element_whole quote m text a within lt (octal h) = octal (numeric_whole 8 1 3 3 m text a h.few (λ e. e) within lt h)
element_whole quote m text a within lt (hexadecimal x h) = hexadecimal (sym (at m text 1 (omega (arith, h.some))) ∙ x) (numeric_whole 16 2 (length (take m text)) (length text) m text a (omega arith) (λ e. absurd (omega (arith, e, length-take-le m text within))) within lt h)

element_front : (quote m : ℕ) (text : List ℕ) (a : Element) → m ≤ length text → a.length < m → IsElement quote text a → IsElement quote (take m text) a
element_front quote m text a within lt (plain h) =
    let e = at m text 0 (omega arith) in
    plain (record { some = omega (arith, length-take-le m text within); line = λ f. h.line (sym e ∙ f); inside = λ f. h.inside (sym e ∙ f); no_escape = λ f. h.no_escape (sym e ∙ f); value = h.value ∙ sym e; size = h.size })
element_front quote m text a within lt (simple h) =
    let P : ℕ → Type 0 = λ b. simple_escape b ≡ Some a.value in
    simple (record { within = omega (arith, h.size, length-take-le m text within); begins = at m text 0 (omega arith) ∙ h.begins; value = subst P (sym (at m text 1 (omega (arith, h.size)))) h.value; size = h.size })
element_front quote m text a within lt (octal h) = octal (numeric_front 8 1 3 3 m text a h.few (λ e. e) within lt h)
element_front quote m text a within lt (hexadecimal x h) = hexadecimal (at m text 1 (omega (arith, h.some)) ∙ x) (numeric_front 16 2 (length text) (length (take m text)) m text a (omega (arith, length-take-le m text within)) (λ e. absurd (omega (arith, e, h.within, lt, within))) within lt h)

drop_front : (m n : ℕ) (text : List ℕ) → n ≤ m → drop n (take m text) ≡ take (m - n) (drop n text)
drop_front m n text le =
    let whole : m ≡ n + (m - n) = omega arith in
    ap (λ k. drop n (take k text)) whole ∙ drop-take n (m - n) text

elements_whole : (quote m : ℕ) (text : List ℕ) (elements : List Element) → m ≤ length text → elements_length elements < m → AreElements quote (take m text) elements → AreElements quote text elements
elements_whole quote m text [] within lt are = tt
elements_whole quote m text (a ∷ elements) within lt are =
    let P : List ℕ → Type 0 = λ t. AreElements quote t elements in
    (element_whole quote m text a within (omega arith) are.0, elements_whole quote (m - a.length) (drop a.length text) elements (omega (arith, length-drop a.length text)) (omega arith) (subst P (drop_front m a.length text (omega arith)) are.1))

elements_front : (quote m : ℕ) (text : List ℕ) (elements : List Element) → m ≤ length text → elements_length elements < m → AreElements quote text elements → AreElements quote (take m text) elements
elements_front quote m text [] within lt are = tt
elements_front quote m text (a ∷ elements) within lt are =
    let P : List ℕ → Type 0 = λ t. AreElements quote t elements in
    (element_front quote m text a within (omega arith) are.0, subst P (sym (drop_front m a.length text (omega arith))) (elements_front quote (m - a.length) (drop a.length text) elements (omega (arith, length-drop a.length text)) (omega arith) are.1))

-- a literal at the front of a text
pub record LiteralAt (quote : ℕ) (text : List ℕ) (elements : List Element) (size : ℕ) : Type 0 where
  pub begins : slice_index text 0 ≡ quote
  pub read : AreElements quote (drop 1 text) elements
  pub closed : slice_index text (elements_length elements + 1) ≡ quote
  pub whole : size ≡ elements_length elements + 2
  pub within : size ≤ length text

pub literal_at : (quote m : ℕ) (text : List ℕ) (elements : List Element) → m ≤ length text → IsLiteral quote (take m text) elements → LiteralAt quote text elements m
literal_at quote m text elements within h =
    let size : m ≡ elements_length elements + 2 = sym (length-take-le m text within) ∙ h.whole in
    let P : List ℕ → Type 0 = λ t. AreElements quote t elements in
    record {
      begins = sym (at m text 0 (omega arith)) ∙ h.begins;
      read = elements_whole quote (m - 1) (drop 1 text) elements (omega (arith, length-drop 1 text)) (omega arith) (subst P (drop_front m 1 text (omega arith)) h.inner);
      closed = sym (at m text (elements_length elements + 1) (omega arith)) ∙ h.closed;
      whole = size;
      within = within;
    }

pub literal_front : (quote m : ℕ) (text : List ℕ) (elements : List Element) → LiteralAt quote text elements m → IsLiteral quote (take m text) elements
literal_front quote m text elements h =
    let size = h.whole in
    let within = h.within in
    let P : List ℕ → Type 0 = λ t. AreElements quote t elements in
    record {
      begins = at m text 0 (omega arith) ∙ h.begins;
      inner = subst P (sym (drop_front m 1 text (omega arith))) (elements_front quote (m - 1) (drop 1 text) elements (omega (arith, length-drop 1 text)) (omega arith) h.read);
      closed = at m text (elements_length elements + 1) (omega arith) ∙ h.closed;
      whole = length-take-le m text within ∙ size;
    }

none_at_quote : (quote : ℕ) (text : List ℕ) (n : ℕ) → quote ≢ 92 → slice_index text (n + 1) ≡ quote → NoElement quote (drop n (drop 1 text))
none_at_quote quote text n not closed a is =
    no_quote quote (drop n (drop 1 text)) a not (get_or-drop n (drop 1 text) 0 0 ∙ get_or-drop 1 text (n + 0) 0 ∙ ap (λ k. slice_index text k) (omega arith) ∙ closed) is

-- the elements of a literal are those that were read
pub read_whole : (quote m end count : ℕ) (text : List ℕ) (elements : List Element) (fault : ElementFault) → quote ≢ 92 → LiteralAt quote text elements m → (h : ElementsEnd quote text end count fault) → elements ≡ h.elements
read_whole quote m end count text elements fault not l h =
    let P : List ℕ → Type 0 = λ t. NoElement quote t in
    one_list quote (drop 1 text) elements h.elements l.read (none_at_quote quote text (elements_length elements) not l.closed) h.read (subst P (at_end text (elements_length h.elements) end h.place) h.none)

-- so the literal ends where the reading did, at the quote
pub read_closed : (quote m end count : ℕ) (text : List ℕ) (elements : List Element) (fault : ElementFault) → quote ≢ 92 → LiteralAt quote text elements m → ElementsEnd quote text end count fault → (m ≡ end + 1) × (end < length text) × (slice_index text end ≡ quote) × (length elements ≡ count)
read_closed quote m end count text elements fault not l h =
    let same = read_whole quote m end count text elements fault not l h in
    let size : elements_length elements ≡ elements_length h.elements = ap (λ l. elements_length l) same in
    let P : ℕ → Type 0 = λ k. slice_index text k ≡ quote in
    let here : elements_length elements + 1 ≡ end = omega (arith, size, h.place) in
    (omega (arith, l.whole), omega (arith, l.whole, l.within), subst P here l.closed, ap (λ l. length l) same ∙ sym h.counted)

pub element_rest : (quote : ℕ) (text : List ℕ) (end : ℕ) (a : Element) → IsElement quote (take (length text - end) (drop end text)) a → IsElement quote (drop end text) a
element_rest quote text end a is = let P : List ℕ → Type 0 = λ t. IsElement quote t a in subst P (take_rest text end) is

pub ended : (quote : ℕ) (text : List ℕ) (end count : ℕ) (fault : ElementFault) → ElementsRead quote text end count → NoElement quote (take (length text - end) (drop end text)) × Refused fault quote (take (length text - end) (drop end text)) → ElementsEnd quote text end count fault
ended quote text end count fault r h =
    let P : List ℕ → Type 0 = λ t. NoElement quote t × Refused fault quote t in
    let g = subst P (take_rest text end) h in
    record { elements = r.elements; read = r.read; place = r.place; counted = r.counted; within = r.within; none = g.0; refused = g.1 }
