-- Recovery restores the live buffer, step by step.
use Rattle.std.proofs.Common.{◌≡◌, ◌≢◌, ℕ, zero, suc, ◌+◌, ◌-◌, ◌*◌, ◌%◌, ◌^◌, ◌<◌, ◌≤◌, ◌⊎◌, inl, inr, Bool, true, false, cond, List, [], ◌∷◌, ◌++◌, replicate, get_or, refl, sym, ap, ◌∙◌, subst, arith}
use Rattle.std.specs.Prelude.{◌==◌, ◌&&◌, ◌||◌, nat_lt}
use Rattle.std.proofs.lemmas.Bool.Decides.{nat_tests}
use Rattle.std.proofs.lemmas.List.{get_or-replicate, get_or_past, length-replicate}
use Rattle.im_mem.specs.Memory.{Mem, little, is_place, Stands}
use Rattle.im_mem.proofs.Words.{word-small}
use Rattle.im_rv.specs.declared.instr.Op.TheVariants.{Bne}
use Rattle.im_rv.specs.declared.effect.Effect.TheVariants.{Goes, Puts}
use Rattle.im_rv.specs.declared.step.Went.TheVariants.{On}
use Rattle.im_rv.specs.Steps.{Cpu, Stepped, sum_of, with_reg}
use Rattle.im_rv.specs.Runs.{step_of}
use Rattle.im_rv.specs.Encode.{encoded}
use Rattle.im_rv.specs.Lines.{instruction}
use Rattle.im_rv.proofs.Straight.{puts_step, goes_step}
use Rattle.im_rv.proofs.Effecting.{torn_whole}
use Rattle.im_device.specs.Run.{Moment, boot, index_of, counting, after_step, run, torn}
use Rattle.im_ckpt.specs.Buffers.{buffer}
use Rattle.im_ckpt.specs.Recovery.{kept_registers, load_line, return_line, recovery_words, Restored}
use Rattle.im_ckpt.specs.Laws.{CanResume, resuming, ResumeLaw}
use Rattle.im_ckpt.proofs.Loads.{Backward, load_step, load_words, filled, past, after, walk, rest_stands, has, filled_in, filled_other}

-- ---- which registers are loaded

-- what holds of each number below n, by a test
abbrev all_below : (ℕ → Bool) → ℕ → Bool
all_below test zero = true
all_below test (suc n) = test n && all_below test n

below_is : (test : ℕ → Bool) (n k : ℕ) → all_below test n ≡ true → k < n → test k ≡ true
below_is test zero k h l = absurd (omega arith)
below_is test (suc n) k h l = elim (last_or_less k n l) [ inl e ↦ ap test e ∙ and_left (test n) (all_below test n) h | inr lt ↦ below_is test n k (and_right (test n) (all_below test n) h) lt ]
  where
    last_or_less : (i j : ℕ) → i < suc j → (i ≡ j) ⊎ (i < j)
    last_or_less i j l = grind arith

    and_left : (b d : Bool) → (b && d) ≡ true → b ≡ true
    and_left true d h = refl
    and_left false d h = absurd (cc)

    and_right : (b d : Bool) → (b && d) ≡ true → d ≡ true
    and_right true d h = h
    and_right false d h = absurd (cc)

abbrev own_or_kept : ℕ → Bool
own_or_kept k = (k == 0 || k == 3 || k == 4) || has k kept_registers

kept_reg : (k : ℕ) → 0 < k → k < 32 → k ≢ 3 → k ≢ 4 → has k kept_registers ≡ true
kept_reg k p l n3 n4 = or_last (k == 0 || k == 3 || k == 4) (has k kept_registers) (not_own k p n3 n4) (below_is own_or_kept 32 k refl l)
  where
    not_own : (k : ℕ) → 0 < k → k ≢ 3 → k ≢ 4 → (k == 0 || k == 3 || k == 4) ≡ false
    not_own k p n3 n4 = grind (arith, nat_tests)

    or_last : (b d : Bool) → b ≡ false → (b || d) ≡ true → d ≡ true
    or_last true d e h = absurd (cc)
    or_last false d e h = h

-- ---- the steps

and_false : (b : Bool) (v d : ℕ) → cond (b && false) v d ≡ d
and_false true v d = refl
and_false false v d = refl

-- jalr x0, 0(x3)
back_step : (m : Mem) (pc v : ℕ) (x : ℕ → ℕ) → little m pc 4 ≡ encoded return_line → is_place pc 4 ≡ true → x 3 ≡ v → v < 2 ^ 32 → v % 2 ≡ 0 → step_of (record { pc = pc; x = x }) m ≡ record { went = On; cpu = record { pc = v; x = with_reg x 0 (sum_of pc 4) }; mem = m }
back_step m pc v x h ok x3 small even =
    let e : sum_of v 0 - sum_of v 0 % 2 ≡ v = grind (arith, small, even) in
    puts_step (record { pc = pc; x = x }) m (encoded return_line) return_line (sum_of pc 4) v
    (record { word = h; here = ok; line = refl })
    (ap (λ z. Puts (sum_of pc 4) (sum_of z 0 - sum_of z 0 % 2)) x3 ∙ ap (λ z. Puts (sum_of pc 4) z) e)

-- bne x4, x0, 128 at 0x1004
branch_step : (m : Mem) (x : ℕ → ℕ) → little m 4100 4 ≡ encoded (instruction Bne 0 4 0 128) → x 0 ≡ 0 → step_of (record { pc = 4100; x = x }) m ≡ record { went = On; cpu = record { pc = cond (x 4 == 0) 4104 4228; x = x }; mem = m }
branch_step m x h x0 =
    goes_step (record { pc = 4100; x = x }) m (encoded (instruction Bne 0 4 0 128)) (instruction Bne 0 4 0 128) (cond (x 4 == 0) 4104 4228)
    (record { word = h; here = refl; line = refl })
    (ap (λ z. Goes (cond (x 4 == z) 4104 4228)) x0)

-- the registers and the place that one half gives
abbrev half_regs : Mem → ℕ → (ℕ → ℕ) → ℕ → ℕ
half_regs m base x = filled m base kept_registers (with_reg x 3 (little m base 4))

abbrev half_cpu : Mem → ℕ → ℕ → (ℕ → ℕ) → Cpu
half_cpu m base pc x = record { pc = little m base 4; x = with_reg (half_regs m base x) 0 (sum_of (past (pc + 4) kept_registers) 4) }

-- x3, the registers and the jump of one half
half : (m : Mem) (P : ℕ → Cpu → Type 0) → Backward m P → (base pc : ℕ) (x : ℕ → ℕ) (tail : List ℕ) → base % 4 ≡ 0 → base ≤ 256 → pc % 4 ≡ 0 → past (pc + 4) kept_registers ≤ 8188 → ((k : ℕ) → m k < 256) → little m base 4 % 2 ≡ 0 → little m pc 4 ≡ encoded (load_line 3 base) → Stands m (pc + 4) (load_words base kept_registers ++ encoded return_line ∷ tail) → is_place (past (pc + 4) kept_registers) 4 ≡ true → x 0 ≡ 0 → (n : ℕ) → P n (half_cpu m base pc x) → P (suc (after kept_registers (suc n))) (record { pc = pc; x = x })
half m P back base pc x tail four near aligned low bytes even h st ok x0 n q =
    let v = little m base 4 in
    let x1 : ℕ → ℕ = with_reg x 3 v in
    let x2 : ℕ → ℕ = filled m base kept_registers x1 in
    let pc2 = past (pc + 4) kept_registers in
    let st2 = rest_stands m base kept_registers (encoded return_line ∷ tail) (pc + 4) st in
    let x3 : x2 3 ≡ v = filled_other m base kept_registers x1 3 refl in
    back (after kept_registers (suc n)) (record { pc = pc; x = x }) (record { pc = pc + 4; x = x1 })
    (load_step m pc 3 base x h (record { aligned = aligned; low = omega arith; register = omega arith; even = four; near = omega arith }) x0)
    (walk m P back base four near kept_registers (encoded return_line ∷ tail) (pc + 4) x1 st (omega arith) (omega arith) refl x0 (suc n)
    (back n (record { pc = pc2; x = x2 }) (half_cpu m base pc x) (back_step m pc2 v x2 st2.0 ok x3 (word-small m base bytes) even) q))

half_restored : (m : Mem) (base pc : ℕ) (x : ℕ → ℕ) → x 0 ≡ 0 → Restored m base (half_cpu m base pc x)
half_restored m base pc x x0 =
    let x1 : ℕ → ℕ = with_reg x 3 (little m base 4) in
    let x2 : ℕ → ℕ = filled m base kept_registers x1 in
    let pc2 = past (pc + 4) kept_registers in
    record {
      place = refl;
      zero_reg = and_false (0 == 0) (sum_of pc2 4) (x2 0) ∙ filled_other m base kept_registers x1 0 refl ∙ x0;
      regs = λ i p l n3 n4. and_false (i == 0) (sum_of pc2 4) (x2 i) ∙ filled_in m base kept_registers x1 i p (kept_reg i p l n3 n4);
    }

abbrev first_regs : Mem → ℕ → ℕ → ℕ
first_regs m junk = with_reg (boot junk).x 4 (little m 0 4)

-- the first two steps
entered : (m : Mem) (P : ℕ → Cpu → Type 0) → Backward m P → (junk pc : ℕ) → Stands m 4096 recovery_words → cond (little m 0 4 == 0) 4104 4228 ≡ pc → (n : ℕ) → P n (record { pc = pc; x = first_regs m junk }) → P (suc (suc n)) (boot junk)
entered m P back junk pc st e n h =
    let x1 = first_regs m junk in
    back (suc n) (boot junk) (record { pc = 4100; x = x1 })
    (load_step m 4096 4 0 (boot junk).x st.0 (record { aligned = refl; low = omega arith; register = omega arith; even = refl; near = omega arith }) refl)
    (back n (record { pc = 4100; x = x1 }) (record { pc = cond (little m 0 4 == 0) 4104 4228; x = x1 }) (branch_step m x1 st.1.0 refl)
    (subst (λ p. P n (record { pc = p; x = x1 })) (sym e) h))

-- where recovery goes, by INDEX
abbrev resumed : ℕ → Mem → ℕ → Cpu
resumed zero m junk = half_cpu m 128 4104 (first_regs m junk)
resumed (suc n) m junk = half_cpu m 256 4228 (first_regs m junk)

-- what holds there holds 33 steps earlier, as power comes
resume_0 : (m : Mem) (P : ℕ → Cpu → Type 0) → Backward m P → (junk : ℕ) → CanResume m → index_of m ≡ 0 → P 0 (resumed 0 m junk) → P 33 (boot junk)
resume_0 m P back junk can e h =
    let st = can.recovery in
    let even : little m 128 4 % 2 ≡ 0 = subst (λ z. little m (buffer z) 4 % 2 ≡ 0) e can.even in
    entered m P back junk 4104 st (ap (λ z. cond (z == 0) 4104 4228) e) (suc (after kept_registers (suc 0)))
    (half m P back 128 4104 (first_regs m junk) (encoded (load_line 3 256) ∷ load_words 256 kept_registers ++ encoded return_line ∷ []) refl (omega arith) refl (omega arith) can.bytes even st.1.1.0 st.1.1.1 refl refl 0 h)

resume_1 : (m : Mem) (P : ℕ → Cpu → Type 0) → Backward m P → (junk : ℕ) → CanResume m → index_of m ≡ 1 → P 0 (resumed 1 m junk) → P 33 (boot junk)
resume_1 m P back junk can e h =
    let st = can.recovery in
    let even : little m 256 4 % 2 ≡ 0 = subst (λ z. little m (buffer z) 4 % 2 ≡ 0) e can.even in
    let st2 = rest_stands m 128 kept_registers (encoded return_line ∷ encoded (load_line 3 256) ∷ load_words 256 kept_registers ++ encoded return_line ∷ []) 4108 st.1.1.1 in
    entered m P back junk 4228 st (ap (λ z. cond (z == 0) 4104 4228) e) (suc (after kept_registers (suc 0)))
    (half m P back 256 4228 (first_regs m junk) [] refl (omega arith) refl (omega arith) can.bytes even st2.1.0 st2.1.1 refl refl 0 h)

zero_or_one : (n : ℕ) → n < 2 → (n ≡ 0) ⊎ (n ≡ 1)
zero_or_one n l = grind arith

resume_back : (m : Mem) (P : ℕ → Cpu → Type 0) → Backward m P → (junk : ℕ) → CanResume m → P 0 (resumed (index_of m) m junk) → P 33 (boot junk)
resume_back m P back junk can h = elim (zero_or_one (index_of m) can.index) [
  | inl e ↦ resume_0 m P back junk can e (subst (λ z. P 0 (resumed z m junk)) e h)
  | inr e ↦ resume_1 m P back junk can e (subst (λ z. P 0 (resumed z m junk)) e h)
]

-- ---- each of the steps

-- the processor after n steps
unfoldable pub cpu_after : ℕ → Cpu → Mem → Cpu
cpu_after zero c m = c
cpu_after (suc n) c m = cpu_after n (step_of c m).cpu m

pub after_none : (c : Cpu) (m : Mem) → cpu_after 0 c m ≡ c
unfolding cpu_after
after_none c m = refl

-- each of the first k steps goes on and leaves memory as it is
abbrev pub Walks : Mem → ℕ → Cpu → Type 0
Walks m k c = (i : ℕ) → i < k → step_of (cpu_after i c m) m ≡ record { went = On; cpu = cpu_after (suc i) c m; mem = m }

walks_back : (m : Mem) → Backward m (Walks m)
unfolding cpu_after
walks_back m k c d e h zero l = e ∙ ap (λ (s : Stepped). record { went = On; cpu = s.cpu; mem = m }) (sym e)
walks_back m k c d e h (suc j) l =
    ap (λ (s : Stepped). step_of (cpu_after j s.cpu m) m) e
    ∙ h j (omega arith)
    ∙ ap (λ (s : Stepped). record { went = On; cpu = cpu_after j (step_of s.cpu m).cpu m; mem = m }) (sym e)

-- what holds of the last processor of a walk
abbrev Holds_last : Mem → (Cpu → Type 0) → ℕ → Cpu → Type 0
Holds_last m P k c = P (cpu_after k c m)

holds_back : (m : Mem) (P : Cpu → Type 0) → Backward m (Holds_last m P)
unfolding cpu_after
holds_back m P k c d e h = subst (λ (s : Stepped). P (cpu_after k s.cpu m)) (sym e) h

pub recovery_walks : (m : Mem) (junk : ℕ) → CanResume m → Walks m 33 (boot junk)
recovery_walks m junk can = resume_back m (Walks m) (walks_back m) junk can (λ i l. absurd (omega arith))

pub counts_same : (m : Mem) (n : ℕ) → counting m m n ≡ n
counts_same m n = let q : (index_of m == index_of m) ≡ true = grind (arith, nat_tests) in ap (λ b. cond b n (suc n)) q

-- such steps are a run that commits nothing
run_walks : (m : Mem) (k : ℕ) (c : Cpu) (s n : ℕ) → Walks m k c → run k (record { went = On; cpu = c; mem = m; steps = s; commits = n }) ≡ record { went = On; cpu = cpu_after k c m; mem = m; steps = s + k; commits = n }
unfolding cpu_after
run_walks m zero c s n h = ap (λ z. record { went = On; cpu = c; mem = m; steps = z; commits = n }) (let q : s ≡ s + 0 = omega arith in q)
run_walks m (suc k) c s n h =
    let x : Moment = record { went = On; cpu = c; mem = m; steps = s; commits = n } in
    let q : suc s + k ≡ s + suc k = omega arith in
    ap (λ z. run k (after_step x z)) (h 0 (omega arith))
    ∙ ap (λ z. run k (record { went = On; cpu = (step_of c m).cpu; mem = m; steps = suc s; commits = z })) (counts_same m n)
    ∙ run_walks m k (step_of c m).cpu (suc s) n (λ i l. h (suc i) (omega arith))
    ∙ ap (λ z. record { went = On; cpu = cpu_after k (step_of c m).cpu m; mem = m; steps = z; commits = n }) q

pub resuming_is : (m : Mem) (junk k : ℕ) → CanResume m → k ≤ 33 → resuming k junk m ≡ record { went = On; cpu = cpu_after k (boot junk) m; mem = m; steps = k; commits = 0 }
resuming_is m junk k can l =
    run_walks m k (boot junk) 0 0 (λ i h. recovery_walks m junk can i (omega arith))
    ∙ ap (λ z. record { went = On; cpu = cpu_after k (boot junk) m; mem = m; steps = z; commits = 0 }) (let q : 0 + k ≡ k = omega arith in q)

-- ---- where it leads

resumed_restored : (m : Mem) (junk n : ℕ) → n < 2 → Restored m (buffer n) (resumed n m junk)
resumed_restored m junk zero l = half_restored m 128 4104 (first_regs m junk) refl
resumed_restored m junk (suc n) l = let q : 256 ≡ buffer (suc n) = sym (ap (λ b. cond b 128 256) (let z : (suc n == 0) ≡ false = grind (arith, nat_tests) in z)) in subst (λ b. Restored m b (resumed (suc n) m junk)) q (half_restored m 256 4228 (first_regs m junk) refl)

pub recovered : (m : Mem) (junk : ℕ) → CanResume m → Restored m (buffer (index_of m)) (cpu_after 33 (boot junk) m)
unfolding cpu_after
recovered m junk can = resume_back m (Holds_last m (Restored m (buffer (index_of m)))) (holds_back m (Restored m (buffer (index_of m)))) junk can (resumed_restored m junk (index_of m) can.index)

-- ---- registers hold words when recovery is over

junk_word : (junk i : ℕ) → junk < 2 ^ 32 → get_or (replicate 32 junk) i 0 < 2 ^ 32
junk_word junk i l = elim (sides i) [
  | inl h ↦ subst (λ z. z < 2 ^ 32) (sym (get_or-replicate 32 i junk 0 h)) l
  | inr h ↦ subst (λ z. z < 2 ^ 32) (sym (get_or_past (replicate 32 junk) i 0 (subst (λ z. z ≤ i) (sym (length-replicate 32 junk)) h))) (omega arith)
]
  where
    sides : (i : ℕ) → (i < 32) ⊎ (32 ≤ i)
    sides i = grind arith

one_word : (x : ℕ → ℕ) (rd v : ℕ) → ((i : ℕ) → x i < 2 ^ 32) → v < 2 ^ 32 → (i : ℕ) → with_reg x rd v i < 2 ^ 32
one_word x rd v h l i = by_reg (i == rd && nat_lt 0 rd)
  where
    by_reg : (b : Bool) → cond b v (x i) < 2 ^ 32
    by_reg true = l
    by_reg false = h i

boot_words : (junk i : ℕ) → junk < 2 ^ 32 → (boot junk).x i < 2 ^ 32
boot_words junk i l = by_zero (i == 0)
  where
    by_zero : (b : Bool) → cond b 0 (get_or (replicate 32 junk) i 0) < 2 ^ 32
    by_zero true = omega arith
    by_zero false = junk_word junk i l

filled_words : (m : Mem) (base : ℕ) (is : List ℕ) (x : ℕ → ℕ) → ((k : ℕ) → m k < 256) → ((i : ℕ) → x i < 2 ^ 32) → (i : ℕ) → filled m base is x i < 2 ^ 32
filled_words m base [] x s h i = h i
filled_words m base (j ∷ js) x s h i = filled_words m base js (with_reg x j (little m (base + 4 * j) 4)) s (one_word x j (little m (base + 4 * j) 4) h (word-small m (base + 4 * j) s)) i

abbrev AllWords : Cpu → Type 0
AllWords c = (i : ℕ) → c.x i < 2 ^ 32

half_words : (m : Mem) (junk base pc : ℕ) → junk < 2 ^ 32 → ((a : ℕ) → m a < 256) → AllWords (half_cpu m base pc (first_regs m junk))
half_words m junk base pc l s =
    one_word (half_regs m base (first_regs m junk)) 0 _
    (filled_words m base kept_registers (with_reg (first_regs m junk) 3 (little m base 4)) s
    (one_word (first_regs m junk) 3 (little m base 4)
    (one_word (boot junk).x 4 (little m 0 4) (λ i. boot_words junk i l) (word-small m 0 s))
    (word-small m base s)))
    (omega arith)

resumed_words : (m : Mem) (junk n : ℕ) → junk < 2 ^ 32 → ((a : ℕ) → m a < 256) → AllWords (resumed n m junk)
resumed_words m junk zero l s = half_words m junk 128 4104 l s
resumed_words m junk (suc n) l s = half_words m junk 256 4228 l s

pub recovered_words : (m : Mem) (junk : ℕ) → junk < 2 ^ 32 → CanResume m → (i : ℕ) → (cpu_after 33 (boot junk) m).x i < 2 ^ 32
unfolding cpu_after
recovered_words m junk small can = resume_back m (Holds_last m AllWords) (holds_back m AllWords) junk can (resumed_words m junk (index_of m) small can.bytes)

-- ---- the law

torn_still : (mask : ℕ) (c d : Cpu) (m : Mem) (k : ℕ) → step_of c m ≡ record { went = On; cpu = d; mem = m } → torn mask (record { went = On; cpu = c; mem = m; steps = k; commits = 0 }) ≡ record { went = On; cpu = c; mem = m; steps = k; commits = 0 }
torn_still mask c d m k e =
    let w = torn_whole mask c m (ap (λ (s : Stepped). s.mem) e) in
    ap (λ n. record { went = On; cpu = c; mem = n; steps = k; commits = counting m n 0 }) w
    ∙ ap (λ z. record { went = On; cpu = c; mem = m; steps = k; commits = z }) (counts_same m 0)

pub resume : ResumeLaw
resume m junk can = record {
  goes_on = λ k l. resuming_is m junk k can l ∙ ap (λ (c : Cpu). record { went = On; cpu = c; mem = m; steps = k; commits = 0 }) (sym (ap (λ (x : Moment). x.cpu) (resuming_is m junk k can l)));
  torn = λ k mask l. (let e = resuming_is m junk k can (omega arith) in ap (torn mask) e ∙ torn_still mask (cpu_after k (boot junk) m) (cpu_after (suc k) (boot junk) m) m k (recovery_walks m junk can k l) ∙ sym e);
  restored = subst (λ (c : Cpu). Restored m (buffer (index_of m)) c) (sym (ap (λ (x : Moment). x.cpu) (resuming_is m junk 33 can (omega arith)))) (recovered m junk can);
}
