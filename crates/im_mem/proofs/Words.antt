-- Numbers of several bytes in memory: what a store leaves, and what it leaves alone.
use Rattle.std.proofs.Common.{◌≡◌, ℕ, zero, suc, ◌+◌, ◌*◌, ◌/◌, ◌%◌, ◌^◌, ◌<◌, ◌≤◌, ◌⊎◌, inl, inr, List, [], ◌∷◌, length, cond, ap, ◌∙◌, get_or, refl, sym, arith}
use Rattle.std.specs.Prelude.{◌==◌}
use Rattle.std.proofs.lemmas.Bool.Decides.{nat_tests}
use Rattle.im_num.specs.Bytes.{bytes_of}
use Rattle.im_mem.specs.Memory.{Mem, little, written, Stands}

-- the number that equal bytes make
pub little-alike : (m n : Mem) (k a : ℕ) → ((i : ℕ) → a ≤ i → i < a + k → m i ≡ n i) → little m a k ≡ little n a k
little-alike m n zero a h = refl
little-alike m n (suc k) a h =
    ap (λ z. z + 256 * little m (a + 1) k) (h a (omega arith) (omega arith))
    ∙ ap (λ z. n a + 256 * z) (little-alike m n k (a + 1) (λ i p q. h i (omega arith) (omega arith)))

-- a byte below those that are written stays
pub written-below : (m : Mem) (a k : ℕ) (bs : List ℕ) → k < a → written m a bs k ≡ m k
written-below m a k [] h = refl
written-below m a k (b ∷ bs) h =
    let other : cond (k == a) b (m k) ≡ m k = grind (arith, nat_tests) in
    written-below (λ i. cond (i == a) b (m i)) (a + 1) k bs (omega arith) ∙ other

-- a byte above those that are written stays
pub written-above : (m : Mem) (a k : ℕ) (bs : List ℕ) → a + length bs ≤ k → written m a bs k ≡ m k
written-above m a k [] h = refl
written-above m a k (b ∷ bs) h =
    let other : cond (k == a) b (m k) ≡ m k = grind (arith, nat_tests) in
    written-above (λ i. cond (i == a) b (m i)) (a + 1) k bs (omega arith) ∙ other

pub length-bytes_of : (n w : ℕ) → length (bytes_of n w) ≡ n
length-bytes_of zero w = refl
length-bytes_of (suc n) w = ap suc (length-bytes_of n (w / 256))

-- a number beside one that is stored stays
pub little-other : (m : Mem) (a n w b k : ℕ) → (b + k ≤ a) ⊎ (a + n ≤ b) → little (written m a (bytes_of n w)) b k ≡ little m b k
little-other m a n w b k (inl below) = little-alike (written m a (bytes_of n w)) m k b (λ i l u. written-below m a i (bytes_of n w) (omega arith))
little-other m a n w b k (inr above) = little-alike (written m a (bytes_of n w)) m k b (λ i l u. written-above m a i (bytes_of n w) (omega (arith, length-bytes_of n w)))

-- a word that is stored is read back
pub little-same : (m : Mem) (a w : ℕ) → w < 2 ^ 32 → little (written m a (bytes_of 4 w)) a 4 ≡ w
little-same m a w h =
    let b0 : written m a (bytes_of 4 w) a ≡ w % 256 = grind (arith, nat_tests) in
    let b1 : written m a (bytes_of 4 w) (a + 1) ≡ w / 256 % 256 = grind (arith, nat_tests) in
    let b2 : written m a (bytes_of 4 w) (a + 1 + 1) ≡ w / 256 / 256 % 256 = grind (arith, nat_tests) in
    let b3 : written m a (bytes_of 4 w) (a + 1 + 1 + 1) ≡ w / 256 / 256 / 256 % 256 = grind (arith, nat_tests) in
    omega (arith, b0, b1, b2, b3)

-- bytes below 256 stay so
pub written-small : (m : Mem) (a n w : ℕ) → ((k : ℕ) → m k < 256) → (k : ℕ) → written m a (bytes_of n w) k < 256
written-small m a zero w h k = h k
written-small m a (suc n) w h k = written-small (λ i. cond (i == a) (w % 256) (m i)) (a + 1) n (w / 256) (λ i. one i) k
  where
    one : (i : ℕ) → cond (i == a) (w % 256) (m i) < 256
    one i = let s = h i in grind (arith, nat_tests)

-- n bytes below 256 make a number below 256 ^ n: for a word
pub word-small : (m : Mem) (a : ℕ) → ((k : ℕ) → m k < 256) → little m a 4 < 2 ^ 32
word-small m a h = omega (arith, h a, h (a + 1), h (a + 1 + 1), h (a + 1 + 1 + 1))

-- the word at a place of those that stand in memory
pub stands-at : (m : Mem) (a : ℕ) (ws : List ℕ) (k : ℕ) → Stands m a ws → k < length ws → little m (a + 4 * k) 4 ≡ get_or ws k 0
stands-at m a [] k st l = absurd (omega arith)
stands-at m a (w ∷ ws) zero st l = let q : a + 4 * 0 ≡ a = omega arith in ap (λ z. little m z 4) q ∙ st.0
stands-at m a (w ∷ ws) (suc k) st l = let q : a + 4 * suc k ≡ a + 4 + 4 * k = omega arith in ap (λ z. little m z 4) q ∙ stands-at m (a + 4) ws k st.1 (omega arith)

-- words stand where each byte of theirs is the same
pub stands-alike : (m n : Mem) (ws : List ℕ) (a : ℕ) → ((k : ℕ) → a ≤ k → k < a + 4 * length ws → m k ≡ n k) → Stands m a ws → Stands n a ws
stands-alike m n [] a h st = tt
stands-alike m n (w ∷ ws) a h st = (sym (little-alike m n 4 a (λ i l r. h i l (omega arith))) ∙ st.0, stands-alike m n ws (a + 4) (λ k l r. h k (omega arith) (omega arith)) st.1)
