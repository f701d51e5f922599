-- What a loaded memory holds.
use Rattle.std.proofs.Common.{◌≡◌, ◌≢◌, ℕ, zero, suc, ◌+◌, ◌-◌, ◌*◌, ◌^◌, ◌<◌, ◌≤◌, ◌⊎◌, inl, inr, cond, List, [], ◌∷◌, ◌++◌, length, refl, sym, ◌∙◌, arith}
use Rattle.std.specs.Prelude.{All, ◌==◌, replicate, slice_index}
use Rattle.std.specs.List.{flat_map}
use Rattle.std.proofs.lemmas.Bool.{leb-true, and_parts}
use Rattle.std.proofs.lemmas.Bool.Decides.{nat_tests}
use Rattle.im_num.specs.Bytes.{word_bytes}
use Rattle.im_mem.specs.Memory.{Mem, little, written, zeroed}
use Rattle.im_mem.proofs.Words.{little-alike, little-same, written-above, written-below}
use Rattle.im_image.specs.Contents.{ImageValue, IsImage}
use Rattle.im_device.specs.Load.{memory_of}
use Rattle.im_device.specs.LoadedLaws.{LoadedLaw, BootLaw}

-- ---- bytes

AreBytes : List ℕ → Type 0
AreBytes [] = Unit {0}
AreBytes (b ∷ bs) = (b < 256) × AreBytes bs

same_or_not : (i j : ℕ) → (i ≡ j) ⊎ (i ≢ j)
same_or_not i j = grind arith

put_other : (m : Mem) (a b k : ℕ) → k ≢ a → cond (k == a) b (m k) ≡ m k
put_other m a b k h = grind (arith, nat_tests)

put_here : (m : Mem) (a b k : ℕ) → k ≡ a → cond (k == a) b (m k) ≡ b
put_here m a b k h = grind (arith, nat_tests)

put_small : (m : Mem) (a b : ℕ) → b < 256 → ((k : ℕ) → m k < 256) → (k : ℕ) → cond (k == a) b (m k) < 256
put_small m a b l h k = elim (same_or_not k a) [
  | inl e ↦ (let q : cond (k == a) b (m k) ≡ b = put_here m a b k e in omega arith)
  | inr e ↦ (let q : cond (k == a) b (m k) ≡ m k = put_other m a b k e in omega (arith, h k))
]

small : (bs : List ℕ) (m : Mem) (a : ℕ) → AreBytes bs → ((k : ℕ) → m k < 256) → (k : ℕ) → written m a bs k < 256
unfolding AreBytes
small [] m a b h k = h k
small (b ∷ bs) m a s h k = small bs (λ j. cond (j == a) b (m j)) (a + 1) s.1 (put_small m a b s.0 h) k

word_small : (w : ℕ) → AreBytes (word_bytes w)
unfolding AreBytes
word_small w = (omega arith, (omega arith, (omega arith, (omega arith, tt))))

and_also : (xs ys : List ℕ) → AreBytes xs → AreBytes ys → AreBytes (xs ++ ys)
unfolding AreBytes
and_also [] ys b c = c
and_also (x ∷ xs) ys b c = (b.0, and_also xs ys b.1 c)

words_small : (ws : List ℕ) → AreBytes (flat_map word_bytes ws)
unfolding AreBytes
words_small [] = tt
words_small (w ∷ ws) = and_also (word_bytes w) (flat_map word_bytes ws) (word_small w) (words_small ws)

indexed_small : (bs : List ℕ) → ((k : ℕ) → slice_index bs k < 256) → AreBytes bs
unfolding AreBytes
indexed_small [] h = tt
indexed_small (b ∷ bs) h = (h 0, indexed_small bs (λ k. h (suc k)))

all_small : (bs : List ℕ) → All (λ b. b < 256) bs → AreBytes bs
unfolding AreBytes
all_small [] h = tt
all_small (b ∷ bs) h = (h 0 0 (omega arith), all_small bs (λ k d l. h (suc k) d (omega arith)))

-- ---- memory as the pieces are laid

abbrev capped : ImageValue → Mem
capped image = written zeroed 16 (word_bytes image.out_cap)

abbrev counted : ImageValue → List ℕ → Mem
counted image input = written (capped image) 20 (word_bytes (length input))

abbrev limited : ImageValue → List ℕ → Mem
limited image input = written (counted image input) 28 (word_bytes (3145728 - image.stack))

abbrev entered : ImageValue → List ℕ → Mem
entered image input = written (limited image input) 128 (word_bytes image.entry)

abbrev buffered : ImageValue → List ℕ → Mem
buffered image input = written (entered image input) 136 (word_bytes 3145728)

abbrev coded : ImageValue → List ℕ → Mem
coded image input = written (buffered image input) 4096 (flat_map word_bytes image.words)

pub loaded_small : LoadedLaw
loaded_small image input is bytes =
    let s1 = small (word_bytes image.out_cap) zeroed 16 (word_small image.out_cap) (λ k. omega arith) in
    let s2 = small (word_bytes (length input)) (capped image) 20 (word_small (length input)) s1 in
    let s3 = small (word_bytes (3145728 - image.stack)) (counted image input) 28 (word_small (3145728 - image.stack)) s2 in
    let s4 = small (word_bytes image.entry) (limited image input) 128 (word_small image.entry) s3 in
    let s5 = small (word_bytes 3145728) (entered image input) 136 (word_small 3145728) s4 in
    let s6 = small (flat_map word_bytes image.words) (buffered image input) 4096 (words_small image.words) s5 in
    let s7 = small image.statics (coded image input) 1048576 (indexed_small image.statics is.statics) s6 in
    small input (written (coded image input) 1048576 image.statics) 3145728 (all_small input bytes) s7

-- ---- the first register buffer

below_code : (image : ImageValue) (input : List ℕ) (k : ℕ) → k < 4096 → memory_of image input k ≡ buffered image input k
below_code image input k l =
    written-below (written (coded image input) 1048576 image.statics) 3145728 k input (omega arith)
    ∙ written-below (coded image input) 1048576 k image.statics (omega arith)
    ∙ written-below (buffered image input) 4096 k (flat_map word_bytes image.words) l

above_limits : (image : ImageValue) (input : List ℕ) (k : ℕ) → 32 ≤ k → limited image input k ≡ 0
above_limits image input k l =
    written-above (counted image input) 28 k (word_bytes (3145728 - image.stack)) (omega arith)
    ∙ written-above (capped image) 20 k (word_bytes (length input)) (omega arith)
    ∙ written-above zeroed 16 k (word_bytes image.out_cap) (omega arith)

word_of : (image : ImageValue) (input : List ℕ) (n : Mem) (a : ℕ) → a + 4 ≤ 4096 → ((k : ℕ) → a ≤ k → k < a + 4 → buffered image input k ≡ n k) → little (memory_of image input) a 4 ≡ little n a 4
word_of image input n a l h = little-alike (memory_of image input) n 4 a (λ k p q. below_code image input k (omega arith) ∙ h k p q)

entry_fits : (image : ImageValue) → IsImage image → image.entry < 2 ^ 32
entry_fits image is =
    let few : length image.words ≤ 261120 = leb-true _ _ (and_parts _ _ is.word_count).1 in
    let near : image.entry + 1 ≤ 4096 + 4 * length image.words = leb-true _ _ (and_parts _ _ is.entry).1 in
    omega arith

zero_word : (image : ImageValue) (input : List ℕ) (a : ℕ) → a + 4 ≤ 256 → (a ≡ 132) ⊎ (140 ≤ a) → little (memory_of image input) a 4 ≡ 0
zero_word image input a l (inl e) = word_of image input zeroed a (omega arith) (λ k p q.
    written-below (entered image input) 136 k (word_bytes 3145728) (omega arith)
    ∙ written-above (limited image input) 128 k (word_bytes image.entry) (omega arith)
    ∙ above_limits image input k (omega arith))
zero_word image input a l (inr e) = word_of image input zeroed a (omega arith) (λ k p q.
    written-above (entered image input) 136 k (word_bytes 3145728) (omega arith)
    ∙ written-above (limited image input) 128 k (word_bytes image.entry) (omega arith)
    ∙ above_limits image input k (omega arith))

zeros : (n j : ℕ) → slice_index (replicate n 0) j ≡ 0
zeros zero j = refl
zeros (suc n) zero = refl
zeros (suc n) (suc j) = zeros n j

pub booted : BootLaw
booted image input zero is l =
    word_of image input (entered image input) 128 (omega arith) (λ k p q. written-below (entered image input) 136 k (word_bytes 3145728) (omega arith))
    ∙ little-same (limited image input) 128 image.entry (entry_fits image is)
booted image input (suc zero) is l = zero_word image input 132 (omega arith) (inl refl)
booted image input (suc (suc zero)) is l =
    word_of image input (buffered image input) 136 (omega arith) (λ k p q. refl)
    ∙ little-same (entered image input) 136 3145728 (omega arith)
booted image input (suc (suc (suc j))) is l =
    zero_word image input (128 + 4 * suc (suc (suc j))) (omega arith) (inr (omega arith)) ∙ sym (zeros 29 j)
