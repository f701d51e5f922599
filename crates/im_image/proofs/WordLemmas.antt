-- A word is its four bytes, at its place in a text.
use Rattle.std.proofs.Common.{◌≡◌, ℕ, ◌+◌, ◌*◌, ◌/◌, ◌%◌, ◌^◌, ◌<◌, ◌≤◌, List, [], ◌∷◌, ◌++◌, length, get_or, take, drop, sym, ap, ◌∙◌, inl, inr, arith}
use Rattle.std.proofs.lemmas.Bool.{cases_lt}
use Rattle.std.proofs.lemmas.List.{take-append-drop, drop-drop, length-take, length-drop, get_or-drop, get_or-take, get_or_past}
use Rattle.im_num.specs.Bytes.{number_of, word_bytes}
use Rattle.im_image.specs.Faults.{word_at}

abbrev pub IsBytes : List ℕ → Type 0
IsBytes text = (k : ℕ) → get_or text k 0 < 256

IsBytes-drop : (n : ℕ) (text : List ℕ) → IsBytes text → IsBytes (drop n text)
IsBytes-drop n text h i = rw get_or-drop (h (n + i))

pub IsBytes-take : (n : ℕ) (text : List ℕ) → IsBytes text → IsBytes (take n text)
IsBytes-take n text h i =
    elim (cases_lt i n) [
      | inl lt ↦ rw (get_or-take n text i 0 lt) (h i)
      | inr le ↦ rw (get_or_past (take n text) i 0 (omega (arith, length-take n text))) (omega arith)
    ]

pub IsBytes-part : (n m : ℕ) (text : List ℕ) → IsBytes text → IsBytes (take n (drop m text))
IsBytes-part n m text h = IsBytes-take n (drop m text) (IsBytes-drop m text h)

-- four bytes are those of their number
four : (xs : List ℕ) → length xs ≡ 4 → IsBytes xs → (word_bytes (number_of xs) ≡ xs) × (number_of xs < 2 ^ 32)
four [] len fits = absurd (omega (arith, len))
four (a ∷ []) len fits = absurd (omega (arith, len))
four (a ∷ b ∷ []) len fits = absurd (omega (arith, len))
four (a ∷ b ∷ c ∷ []) len fits = absurd (omega (arith, len))
four (a ∷ b ∷ c ∷ d ∷ []) len fits =
    let n : ℕ = number_of (a ∷ b ∷ c ∷ d ∷ []) in
    let e0 : n % 256 ≡ a = omega (arith, fits 0) in
    let q0 : n / 256 ≡ b + 256 * (c + 256 * d) = omega (arith, fits 0) in
    let e1 : n / 256 % 256 ≡ b = omega (arith, q0, fits 1) in
    let q1 : n / 256 / 256 ≡ c + 256 * d = omega (arith, q0, fits 1) in
    let e2 : n / 256 / 256 % 256 ≡ c = omega (arith, q1, fits 2) in
    let q2 : n / 256 / 256 / 256 ≡ d = omega (arith, q1, fits 2) in
    let e3 : n / 256 / 256 / 256 % 256 ≡ d = omega (arith, q2, fits 3) in
    (cc (e0, e1, e2, e3), omega (arith, fits 0, fits 1, fits 2, fits 3))
four (a ∷ b ∷ c ∷ d ∷ e ∷ xs) len fits = absurd (omega (arith, len))

-- the number of a word's bytes is the word
back : (w : ℕ) → w < 2 ^ 32 → number_of (word_bytes w) ≡ w
back w lt = omega arith

-- the bytes at a place are those of the word there
pub word_taken : (text : List ℕ) (place next : ℕ) → IsBytes text → next ≡ place + 4 → next ≤ length text → drop place text ≡ word_bytes (word_at text place) ++ drop next text
unfolding word_at
word_taken text place next fits next-is le =
    let front = take 4 (drop place text) in
    let len : length front ≡ 4 = omega (arith, length-take 4 (drop place text), length-drop place text) in
    let e = four front len (IsBytes-part 4 place text fits) in
    let behind : drop 4 (drop place text) ≡ drop next text = drop-drop 4 place text ∙ ap (λ (k : ℕ). drop k text) (sym next-is) in
    sym (take-append-drop 4 (drop place text)) ∙ ap (λ (x : List ℕ). front ++ x) behind ∙ ap (λ (x : List ℕ). x ++ drop next text) (sym e.0)

pub word_fits : (text : List ℕ) (place : ℕ) → IsBytes text → place + 4 ≤ length text → word_at text place < 2 ^ 32
unfolding word_at
word_fits text place fits le =
    (four (take 4 (drop place text)) (omega (arith, length-take 4 (drop place text), length-drop place text)) (IsBytes-part 4 place text fits)).1

-- what is at a place where a word's bytes stand
pub record WordIs (text : List ℕ) (place next w : ℕ) (rest : List ℕ) : Type 0 where
  pub word : word_at text place ≡ w
  pub behind : drop next text ≡ rest
  pub there : next ≤ length text

pub word_is : (text : List ℕ) (place next w : ℕ) (rest : List ℕ) → next ≡ place + 4 → w < 2 ^ 32 → drop place text ≡ word_bytes w ++ rest → WordIs text place next w rest
unfolding word_at
word_is text place next w rest next-is lt e = record {
  word = ap (λ (x : List ℕ). number_of (take 4 x)) e ∙ back w lt;
  behind = ap (λ (k : ℕ). drop k text) next-is ∙ sym (drop-drop 4 place text) ∙ ap (drop 4) e;
  there = omega (arith, ap length e, length-drop place text);
}

-- the bytes at a place, and those behind them
pub part_taken : (text : List ℕ) (place n next : ℕ) → next ≡ place + n → drop place text ≡ take n (drop place text) ++ drop next text
part_taken text place n next next-is =
    sym (take-append-drop n (drop place text)) ∙ ap (λ (x : List ℕ). take n (drop place text) ++ x) (drop-drop n place text ∙ ap (λ (k : ℕ). drop k text) (sym next-is))
