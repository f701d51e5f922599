-- What memory holds as an image is loaded.
use Rattle.std.proofs.Common.{◌≡◌, ◌<◌, ◌≤◌, ◌⊎◌, inl, inr, ℕ, zero, suc, ◌+◌, ◌-◌, ◌*◌, ◌^◌, cond, List, [], ◌∷◌, length, refl, sym, ap, ◌∙◌, subst, arith, length-append}
use Rattle.std.specs.Prelude.{slice_index, ◌==◌, min}
use Rattle.std.specs.List.{flat_map}
use Rattle.std.proofs.lemmas.Bool.{leb-true, and_parts}
use Rattle.std.proofs.lemmas.Bool.Decides.{nat_tests}
use Rattle.im_num.specs.Bytes.{word_bytes}
use Rattle.im_mem.specs.Memory.{Mem, little, bytes_from, written, zeroed, Stands}
use Rattle.im_mem.proofs.Words.{little-alike, little-same, written-below, written-above, stands-alike}
use Rattle.im_image.specs.declared.form.Form.TheVariants.{TwoLengths}
use Rattle.im_image.specs.Contents.{ImageValue, IsImage}
use Rattle.im_device.specs.Load.{memory_of, laid, pieces}
use Rattle.im_device.specs.Shows.{output_length}
use Rattle.im_device.proofs.Loaded.{loaded_small}
use Rattle.im_rv_reach.specs.Shown.{shown, left}
use Rattle.im_rv_reach.specs.Routines.{Words}
use Rattle.im_keeps.specs.Keeps.{IsInput}
use Rattle.im_pack_laws.specs.Laws.{LoadsLaw}

-- ---- pieces of memory

-- an address in none of them
abbrev Outside : ℕ → List (ℕ × List ℕ) → Type 0
Outside k [] = Unit {0}
Outside k (p ∷ ps) = ((k < p.0) ⊎ (p.0 + length p.1 ≤ k)) × Outside k ps

beside : (m : Mem) (a k : ℕ) (bs : List ℕ) → (k < a) ⊎ (a + length bs ≤ k) → written m a bs k ≡ m k
beside m a k bs (inl h) = written-below m a k bs h
beside m a k bs (inr h) = written-above m a k bs h

outside : (ps : List (ℕ × List ℕ)) (m : Mem) (k : ℕ) → Outside k ps → laid m ps k ≡ m k
outside [] m k h = refl
outside (p ∷ ps) m k h = outside ps (written m p.0 p.1) k h.1 ∙ beside m p.0 k p.1 h.0

written-at : (m : Mem) (a : ℕ) (bs : List ℕ) (k : ℕ) → k < length bs → written m a bs (a + k) ≡ slice_index bs k
written-at m a [] k h = absurd (omega arith)
written-at m a (b ∷ bs) zero h =
    let e : a + 0 ≡ a = omega arith in
    let here : cond (a == a) b (m a) ≡ b = grind (arith, nat_tests) in
    ap (written (λ i. cond (i == a) b (m i)) (a + 1) bs) e ∙ written-below (λ i. cond (i == a) b (m i)) (a + 1) a bs (omega arith) ∙ here
written-at m a (b ∷ bs) (suc k) h =
    let e : a + suc k ≡ a + 1 + k = omega arith in
    ap (written (λ i. cond (i == a) b (m i)) (a + 1) bs) e ∙ written-at (λ i. cond (i == a) b (m i)) (a + 1) bs k (omega arith)

bytes_there : (n : Mem) (a : ℕ) (bs : List ℕ) → ((k : ℕ) → k < length bs → n (a + k) ≡ slice_index bs k) → bytes_from n a (length bs) ≡ bs
bytes_there n a [] h = refl
bytes_there n a (b ∷ bs) h =
    let e : a + 0 ≡ a = omega arith in
    let first : n a ≡ b = ap n (sym e) ∙ h 0 (omega arith) in
    ap (λ z. z ∷ bytes_from n (a + 1) (length bs)) first
    ∙ ap (λ z. b ∷ z) (bytes_there n (a + 1) bs (λ k l. let q : a + 1 + k ≡ a + suc k = omega arith in ap n q ∙ h (suc k) (omega arith)))

-- a word that is laid, and nothing behind it there
word_laid : (ps : List (ℕ × List ℕ)) (m : Mem) (a w : ℕ) → w < 2 ^ 32 → ((k : ℕ) → a ≤ k → k < a + 4 → Outside k ps) → little (laid (written m a (word_bytes w)) ps) a 4 ≡ w
word_laid ps m a w b h =
    little-alike (laid (written m a (word_bytes w)) ps) (written m a (word_bytes w)) 4 a (λ k p q. outside ps (written m a (word_bytes w)) k (h k p q)) ∙ little-same m a w b

zero_there : (m : Mem) (a n : ℕ) → ((k : ℕ) → a ≤ k → k < a + n → m k ≡ 0) → little m a n ≡ 0
zero_there m a n h = little-alike m zeroed n a (λ k p q. h k p q) ∙ zeros n a
  where
    zeros : (n a : ℕ) → little zeroed a n ≡ 0
    zeros zero a = refl
    zeros (suc n) a = let r = zeros n (a + 1) in omega arith

bytes_length : (ws : List ℕ) → length (flat_map word_bytes ws) ≡ 4 * length ws
bytes_length [] = refl
bytes_length (w ∷ ws) =
    let h = bytes_length ws in
    let q = length-append (word_bytes w) (flat_map word_bytes ws) in
    omega arith

-- ---- words that stand

abbrev AreWords : List ℕ → Type 0
AreWords [] = Unit {0}
AreWords (w ∷ ws) = (w < 2 ^ 32) × AreWords ws

indexed : (ws : List ℕ) → ((k : ℕ) → slice_index ws k < 2 ^ 32) → AreWords ws
indexed [] h = tt
indexed (w ∷ ws) h = (h 0, indexed ws (λ k. h (suc k)))

words_stand : (ws : List ℕ) (m : Mem) (a : ℕ) → AreWords ws → Stands (written m a (flat_map word_bytes ws)) a ws
words_stand [] m a h = tt
words_stand (w ∷ ws) m a h =
    let n = written m a (word_bytes w) in
    let rest = flat_map word_bytes ws in
    let e : a + 1 + 1 + 1 + 1 ≡ a + 4 = omega arith in
    let first : little (written n (a + 1 + 1 + 1 + 1) rest) a 4 ≡ w =
    little-alike (written n (a + 1 + 1 + 1 + 1) rest) n 4 a (λ k p q. written-below n (a + 1 + 1 + 1 + 1) k rest (omega arith)) ∙ little-same m a w h.0 in
    (first, subst (λ z. Stands (written n z rest) (a + 4) ws) (sym e) (words_stand ws n (a + 4) h.1))

-- ---- a loaded image

below_or_not : (a b : ℕ) → (a < b) ⊎ (b ≤ a)
below_or_not a b = grind arith

few_words : (image : ImageValue) → IsImage image → length image.words ≤ 261120
few_words image is = leb-true _ _ (and_parts _ _ is.word_count).1

few_statics : (image : ImageValue) → IsImage image → length image.statics ≤ 1048576
few_statics image is = leb-true _ _ (and_parts _ _ is.statics_size).0

most_stack : (image : ImageValue) → IsImage image → image.stack ≤ 1048576
most_stack image is = leb-true _ _ (and_parts _ _ is.stack).1

most_output : (image : ImageValue) → IsImage image → image.out_cap ≤ 1048576
most_output image is = leb-true _ _ is.out_cap

module _ (image : ImageValue) (input : List ℕ) where
  abbrev capped : Mem
  capped = written zeroed 16 (word_bytes image.out_cap)

  abbrev counted : Mem
  counted = written capped 20 (word_bytes (length input))

  abbrev limited : Mem
  limited = written counted 28 (word_bytes (3145728 - image.stack))

  abbrev buffers : List (ℕ × List ℕ)
  buffers = (128, word_bytes image.entry) ∷ (136, word_bytes 3145728) ∷ []

  abbrev behind : List (ℕ × List ℕ)
  behind = (4096, flat_map word_bytes image.words) ∷ (1048576, image.statics) ∷ (3145728, input) ∷ []

  -- below the buffers nothing else is laid
  low : (k : ℕ) → k < 128 → Outside k ((128, word_bytes image.entry) ∷ (136, word_bytes 3145728) ∷ behind)
  low k h = (inl h, (inl (omega arith), (inl (omega arith), (inl (omega arith), (inl (omega arith), tt)))))

  zero_low : (k : ℕ) → (k < 16) ⊎ ((24 ≤ k) × (k < 28)) ⊎ ((32 ≤ k) × (k < 128)) → memory_of image input k ≡ 0
  zero_low k (inl h) = outside (pieces image input) zeroed k (inl h, (inl (omega arith), (inl (omega arith), low k (omega arith))))
  zero_low k (inr (inl h)) = (let a = h.0 in let b = h.1 in outside (pieces image input) zeroed k (inr (omega arith), (inr (omega arith), (inl (omega arith), low k (omega arith)))))
  zero_low k (inr (inr h)) = (let a = h.0 in let b = h.1 in outside (pieces image input) zeroed k (inr (omega arith), (inr (omega arith), (inr (omega arith), low k h.1))))

  capacity : image.out_cap < 2 ^ 32 → little (memory_of image input) 16 4 ≡ image.out_cap
  capacity b = word_laid ((20, word_bytes (length input)) ∷ (28, word_bytes (3145728 - image.stack)) ∷ (128, word_bytes image.entry) ∷ (136, word_bytes 3145728) ∷ behind) zeroed 16 image.out_cap b (λ k p q. (inl (omega arith), (inl (omega arith), low k (omega arith))))

  many : length input < 2 ^ 32 → little (memory_of image input) 20 4 ≡ length input
  many b = word_laid ((28, word_bytes (3145728 - image.stack)) ∷ (128, word_bytes image.entry) ∷ (136, word_bytes 3145728) ∷ behind) capped 20 (length input) b (λ k p q. (inl (omega arith), low k (omega arith)))

  limit : little (memory_of image input) 28 4 ≡ 3145728 - image.stack
  limit = word_laid ((128, word_bytes image.entry) ∷ (136, word_bytes 3145728) ∷ behind) counted 28 (3145728 - image.stack) (omega arith) (λ k p q. low k (omega arith))

  position : little (memory_of image input) 24 4 ≡ 0
  position = zero_there (memory_of image input) 24 4 (λ k p q. zero_low k (inr (inl (p, q))))

  code : IsImage image → Stands (memory_of image input) 4096 image.words
  code is =
      let few = few_words image is in
      let all = bytes_length image.words in
      let buffered : Mem = laid limited buffers in
      stands-alike (written buffered 4096 (flat_map word_bytes image.words)) (memory_of image input) image.words 4096
      (λ k p q. sym (outside ((1048576, image.statics) ∷ (3145728, input) ∷ []) (written buffered 4096 (flat_map word_bytes image.words)) k (inl (omega arith), (inl (omega arith), tt))))
      (words_stand image.words buffered 4096 (indexed image.words is.words))

  abbrev lower : List (ℕ × List ℕ)
  lower = (16, word_bytes image.out_cap) ∷ (20, word_bytes (length input)) ∷ (28, word_bytes (3145728 - image.stack)) ∷ (128, word_bytes image.entry) ∷ (136, word_bytes 3145728) ∷ (4096, flat_map word_bytes image.words) ∷ []

  -- from the statics on, up to the input
  static_byte : 4096 + length (flat_map word_bytes image.words) ≤ 1048576 → (k : ℕ) → (k < length image.statics) ⊎ (length image.statics ≤ k) → written (laid zeroed lower) 1048576 image.statics (1048576 + k) ≡ slice_index image.statics k
  static_byte fits k (inl b) = written-at (laid zeroed lower) 1048576 image.statics k b
  static_byte fits k (inr b) =
      written-above (laid zeroed lower) 1048576 (1048576 + k) image.statics (omega arith)
      ∙ outside lower zeroed (1048576 + k) (inr (omega arith), (inr (omega arith), (inr (omega arith), (inr (omega arith), (inr (omega arith), (inr (omega arith), tt))))))
      ∙ sym (past image.statics k b)
    where
      past : (xs : List ℕ) (j : ℕ) → length xs ≤ j → slice_index xs j ≡ 0
      past [] j l = refl
      past (x ∷ xs) zero l = absurd (omega arith)
      past (x ∷ xs) (suc j) l = past xs j (omega arith)

  pub statics_there : IsImage image → (k : ℕ) → k < 2097152 → memory_of image input (1048576 + k) ≡ slice_index image.statics k
  statics_there is k h =
      let words = few_words image is in
      let all = bytes_length image.words in
      outside ((3145728, input) ∷ []) (written (laid zeroed lower) 1048576 image.statics) (1048576 + k) (inl (omega arith), tt)
      ∙ static_byte (omega arith) k (below_or_not k (length image.statics))

  input_there : (k : ℕ) → k < length input → memory_of image input (3145728 + k) ≡ slice_index input k
  input_there k h = written-at (laid limited ((128, word_bytes image.entry) ∷ (136, word_bytes 3145728) ∷ (4096, flat_map word_bytes image.words) ∷ (1048576, image.statics) ∷ [])) 3145728 input k h

  left_is : length input < 2 ^ 32 → left (memory_of image input) ≡ input
  left_is b =
      let m = memory_of image input in
      let at : 3145728 + little m 24 4 ≡ 3145728 = (let p = position in omega arith) in
      let n : little m 20 4 - little m 24 4 ≡ length input = (let p = position in let q = many b in omega arith) in
      ap (λ a. bytes_from m a (little m 20 4 - little m 24 4)) at ∙ ap (bytes_from m 3145728) n ∙ bytes_there m 3145728 input input_there

  no_output : output_length TwoLengths (memory_of image input) ≡ 0
  no_output =
      let m = memory_of image input in
      let first : little m 12 4 ≡ 0 = zero_there m 12 4 (λ k p q. zero_low k (inl q)) in
      let select : m 36 ≡ 0 = zero_low 36 (inr (inr (omega arith, omega arith))) in
      let chosen : cond (m 36 == 0) (little m 12 4) (little m 32 4) ≡ little m 12 4 = grind (arith, nat_tests) in
      chosen ∙ first

  silent : shown (memory_of image input) ≡ []
  silent =
      let e : min (output_length TwoLengths (memory_of image input)) 1048576 ≡ 0 = (let n = no_output in omega arith) in
      ap (bytes_from (memory_of image input) 4194304) e

  pub words : IsImage image → IsInput input → Words (3145728 - image.stack) image.out_cap (memory_of image input)
  words is fits =
      let m = memory_of image input in
      let out = most_output image is in
      let short = fits.short in
      let index : little m 0 4 ≡ 0 = zero_there m 0 4 (λ k p q. zero_low k (inl (omega arith))) in
      let length_is = no_output in
      let position_is = position in
      let count = many (omega arith) in
      record {
        index_small = omega arith;
        status_is = zero_there m 4 4 (λ k p q. zero_low k (inl (omega arith)));
        reason_is = zero_there m 8 4 (λ k p q. zero_low k (inl (omega arith)));
        length_fits = omega arith;
        capacity_is = capacity (omega arith);
        capacity_fits = out;
        position_fits = omega arith;
        input_fits = omega arith;
        limit_is = limit;
        bytes = loaded_small image input is fits.bytes;
      }

pub loaded : LoadsLaw
loaded u statics layouts linked stack out_cap image input packed is fits =
    let short = fits.short in
    record {
      code_there = subst (Stands (memory_of image input) 4096) packed.words (code image input is);
      stack = most_stack image is;
      words = words image input is fits;
      silent = silent image input;
      input = left_is image input (omega arith);
    }
