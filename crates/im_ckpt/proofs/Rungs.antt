-- The routine's lines, by entry and by place on the ladder; they come back from their words.
use Rattle.std.proofs.Common.{◌≡◌, ℕ, zero, suc, ◌+◌, ◌-◌, ◌*◌, ◌/◌, ◌%◌, ◌^◌, ◌<◌, ◌≤◌, ◌⊎◌, inl, inr, Bool, true, false, cond, Some, List, get_or, refl, sym, ap, ◌∙◌, subst, arith}
use Rattle.std.specs.Prelude.{◌==◌, ◌&&◌, nat_lt, pos}
use Rattle.std.proofs.lemmas.Bool.Decides.{nat_tests}
use Rattle.im_mem.specs.Memory.{Mem, little, Stands}
use Rattle.im_mem.proofs.Words.{stands-at}
use Rattle.im_rv.specs.declared.instr.Op.TheVariants.{Sw, Xori, Slli, Addi, Jal}
use Rattle.im_rv.specs.Steps.{word}
use Rattle.im_rv.specs.Decode.{Line, decode}
use Rattle.im_rv.specs.Encode.{encoded}
use Rattle.im_rv.specs.Fits.{fits}
use Rattle.im_rv.specs.Lines.{instruction}
use Rattle.im_rv.proofs.Encoding.{decode-encoded}
use Rattle.im_ckpt.specs.Buffers.{slot}
use Rattle.im_ckpt.specs.Recovery.{load_line, return_line}
use Rattle.im_ckpt.specs.Checkpoint.{store_line, shift_line, flip_line, entry_at, ladder_at, checkpoint_words}

-- line k of entry Em
abbrev pub entry_line : ℕ → ℕ → Line
entry_line m zero = load_line 4 0
entry_line m (suc zero) = instruction Xori 4 4 0 1
entry_line m (suc (suc zero)) = instruction Slli 4 4 0 7
entry_line m (suc (suc (suc zero))) = instruction Addi 4 4 0 128
entry_line m (suc (suc (suc (suc k)))) = instruction Jal 0 0 0 (748 - 24 * m)

-- the register that a place of the ladder stores: x31 down to x5, then x1, x2, x3
abbrev pub ladder_reg : ℕ → ℕ
ladder_reg p = cond (nat_lt p 27) (31 - p) (p - 26)

abbrev pub ladder_line : ℕ → Line
ladder_line p = cond (nat_lt p 30) (store_line (ladder_reg p)) (cond (p == 30) shift_line (cond (p == 31) flip_line return_line))

-- the routine's words stand in memory
pub record Routine (m : Mem) : Type 0 where
  pub entries : (n k : ℕ) → 4 ≤ n → n ≤ 31 → k < 5 → little m (entry_at n + 4 * k) 4 ≡ encoded (entry_line n k)
  pub ladder : (p : ℕ) → p < 33 → little m (ladder_at p) 4 ≡ encoded (ladder_line p)

-- n words from place a on are these, by a test
abbrev agree : (ℕ → ℕ) → List ℕ → ℕ → ℕ → Bool
agree f ws a zero = true
agree f ws a (suc n) = get_or ws (a + n) 0 == f n && agree f ws a n

agreed : (f : ℕ → ℕ) (ws : List ℕ) (a n k : ℕ) → agree f ws a n ≡ true → k < n → get_or ws (a + k) 0 ≡ f k
agreed f ws a zero k h l = absurd (omega arith)
agreed f ws a (suc n) k h l = elim (last_or_less k n l) [
  | inl e ↦ ap (λ z. get_or ws (a + z) 0) e ∙ same_of (get_or ws (a + n) 0) (f n) (and_left (get_or ws (a + n) 0 == f n) (agree f ws a n) h) ∙ sym (ap f e)
  | inr lt ↦ agreed f ws a n k (and_right (get_or ws (a + n) 0 == f n) (agree f ws a n) h) lt
]
  where
    last_or_less : (i j : ℕ) → i < suc j → (i ≡ j) ⊎ (i < j)
    last_or_less i j l = grind arith

    same_of : (a b : ℕ) → (a == b) ≡ true → a ≡ b
    same_of a b h = grind (arith, nat_tests)

    and_left : (b d : Bool) → (b && d) ≡ true → b ≡ true
    and_left true d h = refl
    and_left false d h = absurd (cc)

    and_right : (b d : Bool) → (b && d) ≡ true → d ≡ true
    and_right true d h = h
    and_right false d h = absurd (cc)

abbrev entry_word : ℕ → ℕ
entry_word q = encoded (entry_line (4 + q / 5) (q % 5))

entries_agree : agree entry_word checkpoint_words 0 140 ≡ true
entries_agree = refl

ladder_agrees : agree (λ p. encoded (ladder_line p)) checkpoint_words 140 33 ≡ true
ladder_agrees = refl

pub routine_of : (m : Mem) → Stands m 4352 checkpoint_words → Routine m
routine_of m st = record {
  entries = λ n k a b l. (
      let q = 5 * (n - 4) + k in
      let at : entry_at n + 4 * k ≡ 4352 + 4 * q = omega arith in
      let low : q < 173 = omega arith in
      let in_entries : q < 140 = omega arith in
      let zero_more : 0 + q ≡ q = omega arith in
      let en : 4 + q / 5 ≡ n = omega arith in
      let ek : q % 5 ≡ k = omega arith in
      ap (λ z. little m z 4) at ∙ stands-at m 4352 checkpoint_words q st low
      ∙ ap (λ z. get_or checkpoint_words z 0) (sym zero_more)
      ∙ agreed entry_word checkpoint_words 0 140 q entries_agree in_entries
      ∙ ap (λ z. encoded (entry_line z (q % 5))) en ∙ ap (λ z. encoded (entry_line n z)) ek);
  ladder = λ p l. (
      let at : ladder_at p ≡ 4352 + 4 * (140 + p) = omega arith in
      let low : 140 + p < 173 = omega arith in
      ap (λ z. little m z 4) at ∙ stands-at m 4352 checkpoint_words (140 + p) st low
      ∙ agreed (λ p. encoded (ladder_line p)) checkpoint_words 140 33 p ladder_agrees l);
}

-- ---- from words to lines

small_word : (n : ℕ) → n < 2 ^ 32 → word (pos n) ≡ n
small_word n l = omega arith

store_fits : (i n : ℕ) → i < 32 → n < 2048 → fits Sw 0 4 i (pos n) ≡ true
store_fits i n l h = grind (arith, nat_tests)

slot_small : (i : ℕ) → i < 32 → slot i < 2048
slot_small i l = by_three (i == 3)
  where
    by_three : (b : Bool) → cond b 0 (4 * i) < 2048
    by_three true = omega arith
    by_three false = omega arith

pub store_back : (i : ℕ) → i < 32 → decode (encoded (store_line i)) ≡ Some (store_line i)
store_back i l = let n = slot_small i l in subst (λ z. decode (encoded (record { op = Sw; rd = 0; rs1 = 4; rs2 = i; imm = z })) ≡ Some (record { op = Sw; rd = 0; rs1 = 4; rs2 = i; imm = z })) (small_word (slot i) (omega arith)) (decode-encoded Sw 0 4 i (pos (slot i)) (store_fits i (slot i) l n))

even_is : (n : ℕ) → n % 2 ≡ 0 → (n % 2 == 0) ≡ true
even_is n h = ap (λ z. z == 0) h

jump_fits : (n : ℕ) → n < 2 ^ 20 → n % 2 ≡ 0 → fits Jal 0 0 0 (pos n) ≡ true
jump_fits n l h = grind (arith, nat_tests)

jump_back : (n : ℕ) → n < 2 ^ 20 → n % 2 ≡ 0 → decode (encoded (record { op = Jal; rd = 0; rs1 = 0; rs2 = 0; imm = n })) ≡ Some (record { op = Jal; rd = 0; rs1 = 0; rs2 = 0; imm = n })
jump_back n l h = subst (λ z. decode (encoded (record { op = Jal; rd = 0; rs1 = 0; rs2 = 0; imm = z })) ≡ Some (record { op = Jal; rd = 0; rs1 = 0; rs2 = 0; imm = z })) (small_word n (omega arith)) (decode-encoded Jal 0 0 0 (pos n) (jump_fits n l h))

pub entry_back : (m k : ℕ) → 4 ≤ m → m ≤ 31 → decode (encoded (entry_line m k)) ≡ Some (entry_line m k)
entry_back m zero a b = refl
entry_back m (suc zero) a b = refl
entry_back m (suc (suc zero)) a b = refl
entry_back m (suc (suc (suc zero))) a b = refl
entry_back m (suc (suc (suc (suc k)))) a b = jump_back (748 - 24 * m) (omega arith) (even_jump m)
  where
    even_jump : (m : ℕ) → (748 - 24 * m) % 2 ≡ 0
    even_jump m = omega arith

pub reg_named : (p : ℕ) → p < 30 → (0 < ladder_reg p) × (ladder_reg p < 32)
reg_named p l = by_side (nat_lt p 27) refl
  where
    by_side : (b : Bool) → nat_lt p 27 ≡ b → (0 < cond b (31 - p) (p - 26)) × (cond b (31 - p) (p - 26) < 32)
    by_side true h = (let q : p < 27 = grind (arith, nat_tests) in omega arith, omega arith)
    by_side false h = (let q : 27 ≤ p = grind (arith, nat_tests) in omega arith, omega arith)

pub ladder_store : (p : ℕ) → p < 30 → ladder_line p ≡ store_line (ladder_reg p)
ladder_store p l = let h : nat_lt p 30 ≡ true = grind (arith, nat_tests) in ap (λ b. cond b (store_line (ladder_reg p)) (cond (p == 30) shift_line (cond (p == 31) flip_line return_line))) h

pub ladder_back : (p : ℕ) → p < 30 → decode (encoded (ladder_line p)) ≡ Some (ladder_line p)
ladder_back p l = subst (λ z. decode (encoded z) ≡ Some z) (sym (ladder_store p l)) (store_back (ladder_reg p) (reg_named p l).1)

pub shift_back : decode (encoded shift_line) ≡ Some shift_line
shift_back = refl

pub flip_back : decode (encoded flip_line) ≡ Some flip_line
flip_back = refl

pub return_back : decode (encoded return_line) ≡ Some return_line
return_back = refl
