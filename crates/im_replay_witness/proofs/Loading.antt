-- The memory of an image holds its words.
use Rattle.std.proofs.Common.{◌≡◌, ℕ, zero, suc, ◌+◌, ◌-◌, ◌*◌, ◌/◌, ◌%◌, ◌^◌, ◌<◌, true, false, cond, List, [], ◌∷◌, ◌++◌, map, length, get_or, refl, sym, ap, ◌∙◌, subst, arith}
use Rattle.std.specs.Prelude.{◌==◌, nat_le, slice_index}
use Rattle.std.proofs.lemmas.Bool.Decides.{nat_tests}
use Rattle.im_mem.specs.Memory.{little, Stands}
use Rattle.im_rv.specs.Decode.{Line}
use Rattle.im_rv.specs.Encode.{encoded}
use Rattle.im_ckpt.specs.Recovery.{recovery, recovery_words}
use Rattle.im_ckpt.specs.Checkpoint.{checkpoint, checkpoint_words}
use Rattle.im_replay_witness.specs.Images.{with_runtime, image_word, image_memory}

module _ (own : List Line) where
  all : List Line
  all = with_runtime own

  byte_of : (a w k : ℕ) → a / 4 ≡ w → a % 4 ≡ k → image_memory own a ≡ image_word (with_runtime own) w / 256 ^ k % 256
  byte_of a w k p q = ap (λ z. image_word (with_runtime own) z / 256 ^ (a % 4) % 256) p ∙ ap (λ z. image_word (with_runtime own) w / 256 ^ z % 256) q

  four_bytes : (a b c d v : ℕ) → v < 2 ^ 32 → a ≡ v / 256 ^ 0 % 256 → b ≡ v / 256 ^ 1 % 256 → c ≡ v / 256 ^ 2 % 256 → d ≡ v / 256 ^ 3 % 256 → a + 256 * (b + 256 * (c + 256 * (d + 256 * 0))) ≡ v
  four_bytes a b c d v l p q r s = omega arith

  word_read : (w a v : ℕ) → a ≡ 4 * w → image_word (with_runtime own) w ≡ v → v < 2 ^ 32 → little (image_memory own) a 4 ≡ v
  word_read w a v e h l = four_bytes (image_memory own a) (image_memory own (a + 1)) (image_memory own (a + 1 + 1)) (image_memory own (a + 1 + 1 + 1)) v l
      (byte_of a w 0 (omega arith) (omega arith) ∙ ap (λ z. z / 256 ^ 0 % 256) h)
      (byte_of (a + 1) w 1 (omega arith) (omega arith) ∙ ap (λ z. z / 256 ^ 1 % 256) h)
      (byte_of (a + 1 + 1) w 2 (omega arith) (omega arith) ∙ ap (λ z. z / 256 ^ 2 % 256) h)
      (byte_of (a + 1 + 1 + 1) w 3 (omega arith) (omega arith) ∙ ap (λ z. z / 256 ^ 3 % 256) h)

  encoded_small : (l : Line) → encoded l < 2 ^ 32
  encoded_small l = omega arith

  -- a word of the code
  code_word : (k : ℕ) → image_word (with_runtime own) (1024 + k) ≡ get_or (map encoded (with_runtime own)) k 0
  code_word k =
      let no : (1024 + k == 32) ≡ false = grind (arith, nat_tests) in
      let yes : nat_le 1024 (1024 + k) ≡ true = grind (arith, nat_tests) in
      let at : 1024 + k - 1024 ≡ k = omega arith in
      ap (λ b. cond b 5044 (cond (nat_le 1024 (1024 + k)) (slice_index (map encoded (with_runtime own)) (1024 + k - 1024)) 0)) no
      ∙ ap (λ b. cond b (slice_index (map encoded (with_runtime own)) (1024 + k - 1024)) 0) yes
      ∙ ap (λ z. slice_index (map encoded (with_runtime own)) z) at

  -- lines from a place of the code on
  stands_from : (ls : List Line) (k : ℕ) → ((j : ℕ) → j < length ls → get_or (map encoded (with_runtime own)) (k + j) 0 ≡ get_or (map encoded ls) j 0) → Stands (image_memory own) (4096 + 4 * k) (map encoded ls)
  stands_from [] k h = tt
  stands_from (l ∷ ls) k h =
      let here : k + 0 ≡ k = omega arith in
      let next : 4096 + 4 * suc k ≡ 4096 + 4 * k + 4 = omega arith in (
        word_read (1024 + k) (4096 + 4 * k) (encoded l) (omega arith) (code_word k ∙ ap (λ z. get_or (map encoded (with_runtime own)) z 0) (sym here) ∙ h 0 (omega arith)) (encoded_small l),
        subst (λ z. Stands (image_memory own) z (map encoded ls)) next (stands_from ls (suc k) (λ j g. (let q : suc k + j ≡ k + suc j = omega arith in ap (λ z. get_or (map encoded (with_runtime own)) z 0) q ∙ h (suc j) (omega arith)))),
      )

  behind : (xs ys : List Line) (j : ℕ) → get_or (map encoded (xs ++ ys)) (length xs + j) 0 ≡ get_or (map encoded ys) j 0
  behind [] ys j = ap (λ z. get_or (map encoded ys) z 0) (let q : length {A = Line} [] + j ≡ j = omega arith in q)
  behind (x ∷ xs) ys j = ap (λ z. get_or (map encoded ((x ∷ xs) ++ ys)) z 0) (let q : suc (length xs) + j ≡ suc (length xs + j) = omega arith in q) ∙ behind xs ys j

  before : (xs ys : List Line) (j : ℕ) → j < length xs → get_or (map encoded (xs ++ ys)) j 0 ≡ get_or (map encoded xs) j 0
  before [] ys j l = absurd (omega arith)
  before (x ∷ xs) ys zero l = refl
  before (x ∷ xs) ys (suc j) l = before xs ys j (omega arith)

  pub recovery_there : Stands (image_memory own) 4096 recovery_words
  recovery_there = stands_from recovery 0 (λ j l. ap (λ z. get_or (map encoded (with_runtime own)) z 0) (let q : 0 + j ≡ j = omega arith in q) ∙ before recovery (checkpoint ++ own) j l)

  pub checkpoint_there : Stands (image_memory own) 4352 checkpoint_words
  checkpoint_there = stands_from checkpoint 64 (λ j l. behind recovery (checkpoint ++ own) j ∙ before checkpoint own j l)

  pub own_there : Stands (image_memory own) 5044 (map encoded own)
  own_there = stands_from own 237 (λ j l. ap (λ z. get_or (map encoded (with_runtime own)) z 0) (let q : 237 + j ≡ 64 + (173 + j) = omega arith in q) ∙ behind recovery (checkpoint ++ own) (173 + j) ∙ behind checkpoint own j)

  pub bytes_there : (a : ℕ) → image_memory own a < 256
  bytes_there a = omega arith

  pub index_there : little (image_memory own) 0 4 ≡ 0
  index_there = word_read 0 0 0 (omega arith) refl (omega arith)

  pub start_there : little (image_memory own) 128 4 ≡ 5044
  start_there = word_read 32 128 5044 (omega arith) refl (omega arith)
