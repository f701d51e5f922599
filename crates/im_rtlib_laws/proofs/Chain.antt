-- Memory after putchar: the byte behind the output, the new length, the selector; all else that is shown or read as it was.
use Rattle.std.proofs.Common.{◌≡◌, ◌≢◌, ℕ, suc, ◌+◌, ◌-◌, ◌%◌, ◌<◌, ◌≤◌, ◌⊎◌, inl, inr, Bool, true, false, cond, [], ◌∷◌, ◌++◌, refl, sym, ap, ◌∙◌, arith}
use Rattle.std.specs.Prelude.{◌==◌}
use Rattle.std.proofs.lemmas.Bool.Decides.{nat_tests}
use Rattle.im_num.specs.Bytes.{bytes_of}
use Rattle.im_mem.specs.Memory.{Mem, little, bytes_from, written}
use Rattle.im_mem.proofs.Words.{little-same, little-other, written-above, written-below, length-bytes_of}
use Rattle.im_image.specs.declared.form.Form.TheVariants.{TwoLengths}
use Rattle.im_device.specs.Shows.{output_length}
use Rattle.im_rv_reach.specs.Shown.{shown, left}
use Rattle.im_rv_reach.specs.Instructions.{Fixed}
use Rattle.im_rtlib_laws.proofs.Saving.{Kept, kept_word}
use Rattle.im_rtlib_laws.proofs.Showing.{bytes_alike, one_more_byte, shown_is, other, length_by}
use Rattle.im_rtlib_laws.proofs.Putting.{turned}

equal_self : (a : ℕ) → (a == a) ≡ true
equal_self a = grind (arith, nat_tests)

apart : (m : Mem) (a n v i : ℕ) → (i < a) ⊎ (a + n ≤ i) → written m a (bytes_of n v) i ≡ m i
apart m a n v i (inl l) = written-below m a i (bytes_of n v) l
apart m a n v i (inr l) = written-above m a i (bytes_of n v) (omega (arith, length-bytes_of n v))

byte_there : (m : Mem) (a v : ℕ) → written m a (bytes_of 1 v) a ≡ v % 256
byte_there m a v = ap (λ b. cond b (v % 256) (m a)) (equal_self a)

sides : (i a : ℕ) → i ≢ a → (i < a) ⊎ (a + 1 ≤ i)
sides i a ne = grind arith

pub record Chain (m k : Mem) (n v : ℕ) (b : Bool) : Type 0 where
  pub high : (a : ℕ) → 384 ≤ a → a ≢ 4194304 + n → k a ≡ m a
  pub byte : k (4194304 + n) ≡ v % 256
  pub words : (a : ℕ) → 4 ≤ a → a + 4 ≤ 36 → (a + 4 ≤ other b) ⊎ (other b + 4 ≤ a) → little k a 4 ≡ little m a 4
  pub selector : k 36 ≡ turned b
  pub length_is : little k (other b) 4 ≡ suc n

other_low : (b : Bool) → 12 ≤ other b
other_low true = omega arith
other_low false = omega arith

pub other_high : (b : Bool) → other b + 4 ≤ 36
other_high true = omega arith
other_high false = omega arith

turned_byte : (b : Bool) → turned b % 256 ≡ turned b
turned_byte true = refl
turned_byte false = refl

pub kept_self : (m : Mem) → Kept m m
kept_self m = record { low = λ a i j. refl; high = λ a i. refl }

pub chain : (m k1 k2 k3 : Mem) (n v : ℕ) (b : Bool) → n < 1048576 → Kept (written m (4194304 + n) (bytes_of 1 v)) k1 → Kept (written k1 (other b) (bytes_of 4 (suc n))) k2 → Kept (written k2 36 (bytes_of 1 (turned b))) k3 → Chain m k3 n v b
chain m k1 k2 k3 n v b small a1 a2 a3 =
    let o : ℕ = other b in
    let p : ℕ = 4194304 + n in
    let low = other_low b in
    let high = other_high b in
    let w1 : Mem = written m p (bytes_of 1 v) in
    let w2 : Mem = written k1 o (bytes_of 4 (suc n)) in
    let w3 : Mem = written k2 36 (bytes_of 1 (turned b)) in
    let later : (i : ℕ) → 384 ≤ i → k3 i ≡ w1 i = λ i l. a3.high i l ∙ apart k2 36 1 (turned b) i (inr (omega arith)) ∙ a2.high i l ∙ apart k1 o 4 (suc n) i (inr (omega arith)) ∙ a1.high i l in
    record {
      high = λ i l ne. later i l ∙ apart m p 1 v i (sides i p ne);
      byte = later p (omega arith) ∙ byte_there m p v;
      words = λ i l h side.
          kept_word w3 k3 a3 i l (omega arith)
          ∙ little-other k2 36 1 (turned b) i 4 (inl h)
          ∙ kept_word w2 k2 a2 i l (omega arith)
          ∙ little-other k1 o 4 (suc n) i 4 side
          ∙ kept_word w1 k1 a1 i l (omega arith)
          ∙ little-other m p 1 v i 4 (inl (omega arith));
      selector = a3.low 36 (omega arith) (omega arith) ∙ byte_there k2 36 (turned b) ∙ turned_byte b;
      length_is =
          kept_word w3 k3 a3 o (omega arith) (omega arith)
          ∙ little-other k2 36 1 (turned b) o 4 (inl (omega arith))
          ∙ kept_word w2 k2 a2 o (omega arith) (omega arith)
          ∙ little-same k1 o (suc n) (omega arith);
    }

-- the code stays
pub chain_fixed : (image m k : Mem) (a n v : ℕ) → Kept (written m a (bytes_of n v)) k → (a + n ≤ 4096) ⊎ (1048576 ≤ a) → Fixed image m → Fixed image k
chain_fixed image m k a n v kept (inl low) f i from to = kept.high i (omega arith) ∙ apart m a n v i (inr (omega arith)) ∙ f i from to
chain_fixed image m k a n v kept (inr high) f i from to = kept.high i (omega arith) ∙ apart m a n v i (inl (omega arith)) ∙ f i from to

pub before_output : (i n : ℕ) → i < 4194304 → i ≢ 4194304 + n
before_output i n l e = omega arith

-- ---- what it shows

pub chain_length : (m k : Mem) (n v : ℕ) (b : Bool) → Chain m k n v b → output_length TwoLengths k ≡ suc n
chain_length m k n v true c = length_by k false (ap (λ z. z == 0) c.selector) ∙ c.length_is
chain_length m k n v false c = length_by k true (ap (λ z. z == 0) c.selector) ∙ c.length_is

below_apart : (i n : ℕ) → i < 4194304 + n → i ≢ 4194304 + n
below_apart i n l e = omega arith

pub chain_shown : (m k : Mem) (n v : ℕ) (b : Bool) → Chain m k n v b → output_length TwoLengths m ≡ n → n < 1048576 → shown k ≡ shown m ++ v % 256 ∷ []
chain_shown m k n v b c long small =
    shown_is k (suc n) (chain_length m k n v b c) (omega arith)
    ∙ one_more_byte k 4194304 n
    ∙ ap (λ z. z ++ k (4194304 + n) ∷ []) (bytes_alike m k 4194304 n (λ i from to. c.high i (omega arith) (below_apart i n to)) ∙ sym (shown_is m n long (omega arith)))
    ∙ ap (λ z. shown m ++ z ∷ []) c.byte

between : (b : Bool) (a : ℕ) → 16 ≤ a → a + 4 ≤ 32 → (a + 4 ≤ other b) ⊎ (other b + 4 ≤ a)
between true a l h = inl h
between false a l h = inr l

-- a word from OUT_CAP to STACK_LIM, and STATUS and REASON
pub chain_word : (m k : Mem) (n v : ℕ) (b : Bool) → Chain m k n v b → (a : ℕ) → 16 ≤ a → a + 4 ≤ 32 → little k a 4 ≡ little m a 4
chain_word m k n v b c a l h = c.words a (omega arith) (omega arith) (between b a l h)

pub chain_told : (m k : Mem) (n v : ℕ) (b : Bool) → Chain m k n v b → (a : ℕ) → 4 ≤ a → a + 4 ≤ 12 → little k a 4 ≡ little m a 4
chain_told m k n v b c a l h = let low = other_low b in c.words a l (omega arith) (inl (omega arith))

pub left_alike : (m k : Mem) → little k 24 4 ≡ little m 24 4 → little k 20 4 ≡ little m 20 4 → little m 24 4 ≤ little m 20 4 → little m 20 4 ≤ 1048576 → ((i : ℕ) → 3145728 ≤ i → i < 4194304 → k i ≡ m i) → left k ≡ left m
left_alike m k position input within fits same =
    ap (λ z. bytes_from k (3145728 + z) (little k 20 4 - z)) position
    ∙ ap (λ z. bytes_from k (3145728 + little m 24 4) (z - little m 24 4)) input
    ∙ bytes_alike m k (3145728 + little m 24 4) (little m 20 4 - little m 24 4) (λ i from to. same i (omega arith) (omega arith))
