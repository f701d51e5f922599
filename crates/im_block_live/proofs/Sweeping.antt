-- Sweeps over the blocks: words grow, by registers that some path reads, and an idle sweep leaves them closed.
use Rattle.std.proofs.Common.{◌≡◌, ◌≢◌, ℕ, zero, suc, ◌+◌, ◌-◌, ◌*◌, ◌^◌, ◌<◌, ◌≤◌, Bool, true, false, List, [], ◌∷◌, Option, Some, length, get_or, set, refl, sym, ap, ◌∙◌, subst, arith, get_or-set_same, get_or-set_other, inl, inr, ⊎_elim}
use Rattle.std.specs.Bool.{OnFalse}
use Rattle.std.specs.Prelude.{◌==◌, ◌||◌, not, slice_get, sum, bit_or}
use Rattle.std.proofs.lemmas.Bool.Decides.{nat_tests}
use Rattle.std.proofs.lemmas.Bool.{cases_lt}
use Rattle.std.proofs.lemmas.Nat.{le_or_l, or_lt}
use Rattle.std.proofs.lemmas.List.Sums.{sum_by-set, sum_by-le}
use Rattle.std.proofs.lemmas.List.{length-set}
use Rattle.std.proofs.lemmas.Option.{slice_get_within, slice_get-get_or}
use Rattle.im_block.specs.declared.code.Block.{Block}
use Rattle.im_alloc_relation.specs.Live.{lives}
use Rattle.im_block_live.specs.Reads.{reads_first, lives_in}
use Rattle.im_block_live.specs.Words.{has, starts_have, Joins, AreRead, AreClosed, AreWords}
use Rattle.im_block_live.proofs.Bits.{has_zero, has_or, same_of}
use Rattle.im_block_live.proofs.Paths.{either, or_right, lives_found}

-- ---- sums of lists

sum_set : (xs : List ℕ) (i y : ℕ) → i < length xs → sum (set xs i y) + get_or xs i 0 ≡ sum xs + y
sum_set xs i y lt = sum_by-set (λ x. x) xs i y 0 lt

pub less_left : (n : ℕ) (old now : List ℕ) → length now ≡ n → AreWords now → sum old < sum now → n * 2 ^ 32 - sum now < n * 2 ^ 32 - sum old
less_left n old now len small less =
    let le : sum now ≤ length now * 2 ^ 32 = sum_by-le (λ x. x) (2 ^ 32) now (λ i d lt. (let k = small i d lt in omega arith)) in
    let e : length now * 2 ^ 32 ≡ n * 2 ^ 32 = ap (λ z. z * 2 ^ 32) len in
    omega arith

pub past_end : (xs : List ℕ) (i : ℕ) → length xs ≤ i → get_or xs i 0 ≡ 0
past_end [] i le = refl
past_end (x ∷ xs) zero le = absurd (omega arith)
past_end (x ∷ xs) (suc i) le = past_end xs i (omega arith)

-- ---- a sweep so far

abbrev ClosedBelow : ℕ → List Block → ℕ → List ℕ → Type 0
ClosedBelow base blocks n starts = (b j : ℕ) (block : Block) → b < n → slice_get blocks b ≡ Some block → j < 32 → lives (starts_have starts j) block.lines.items block.exit (base + j) ≡ true → has (get_or starts b 0) j ≡ true

pub record SweptTo (base : ℕ) (blocks : List Block) (n : ℕ) (first now : List ℕ) (is_news : Bool) : Type 0 where
  pub count : length now ≡ length first
  pub read : AreRead base blocks first → AreRead base blocks now
  pub small : AreWords first → AreWords now
  pub grows : sum first ≤ sum now
  pub news : is_news ≡ true → sum first < sum now
  pub idle : is_news ≡ false → (now ≡ first) × ClosedBelow base blocks n now

pub begun : (base : ℕ) (blocks : List Block) (first : List ℕ) → SweptTo base blocks 0 first first false
begun base blocks first = record { count = refl; read = λ k. k; small = λ k. k; grows = omega arith; news = λ e. absurd cc; idle = λ e. (refl, (λ b j block lt. absurd (omega arith))) }

module _ (base : ℕ) (blocks : List Block) (n : ℕ) (block : Block) (now new : List ℕ) (was is : Bool) (there : slice_get blocks n ≡ Some block) (within : n < length now) (same : length now ≡ length blocks) (j : Joins base block n now new was is) where
  abbrev joined : ℕ
  joined = bit_or (get_or now n 0) j.word

  sums : sum new + get_or now n 0 ≡ sum now + joined
  sums = ap (λ z. sum z + get_or now n 0) j.new_is ∙ sum_set now n joined within

  more : sum now ≤ sum new
  more = let a = le_or_l (get_or now n 0) j.word in let s = sums in omega arith

  at_own : get_or new n 0 ≡ joined
  at_own = ap (λ z. get_or z n 0) j.new_is ∙ get_or-set_same now n joined 0 within

  at_other : (b : ℕ) → b ≢ n → get_or new b 0 ≡ get_or now b 0
  at_other b ne = ap (λ z. get_or z b 0) j.new_is ∙ get_or-set_other now n b joined 0 ne

  read_step : AreRead base blocks now → AreRead base blocks new
  read_step known b r lt small e = by (b == n) refl
    where
      before_known : (q : ℕ) → has (get_or now q 0) r ≡ true → (k : ℕ) × (reads_first blocks k q (base + r) ≡ true)
      before_known q f = ⊎_elim (λ (l : q < length blocks). known q r l small f) (λ (l : length blocks ≤ q). (let z = past_end now q (omega arith) in let h : has 0 r ≡ true = subst (λ x. has x r ≡ true) z f in let no = has_zero r in absurd cc)) (cases_lt q (length blocks))

      own : has joined r ≡ true → (k : ℕ) × (reads_first blocks k n (base + r) ≡ true)
      own h = elim (either (has (get_or now n 0) r) (has j.word r) (sym (has_or (get_or now n 0) j.word r) ∙ h)) [
        | inl x ↦ before_known n x
        | inr y ↦ (let k = lives_found blocks (starts_have now r) (base + r) before_known block.lines.items block.exit (sym (j.lives_there r small) ∙ y) in
            (suc k.0, subst (λ z. lives_in (reads_first blocks k.0) z (base + r) ≡ true) (sym there) k.1))
      ]

      by : (t : Bool) → (b == n) ≡ t → (k : ℕ) × (reads_first blocks k b (base + r) ≡ true)
      by true q = (let s : b ≡ n = same_of b n q in subst (λ z. (k : ℕ) × (reads_first blocks k z (base + r) ≡ true)) (sym s) (own (subst (λ z. has z r ≡ true) at_own (subst (λ z. has (get_or new z 0) r ≡ true) s e))))
      by false q = (let ne : b ≢ n = (λ s. (let t : (b == n) ≡ true = grind (arith, nat_tests) in absurd cc)) in before_known b (subst (λ z. has z r ≡ true) (at_other b ne) e))

  small_step : AreWords now → AreWords new
  small_step k = subst AreWords (sym j.new_is) (λ i d lt. by i d (subst (λ z. i < z) (length-set now n joined) lt) (i == n) refl)
    where
      by : (i d : ℕ) → i < length now → (t : Bool) → (i == n) ≡ t → get_or (set now n joined) i d < 2 ^ 32
      by i d lt true q = (let s : i ≡ n = same_of i n q in subst (λ z. get_or (set now n joined) z d < 2 ^ 32) (sym s) (subst (λ z. z < 2 ^ 32) (sym (get_or-set_same now n joined d within)) (or_lt 32 (get_or now n 0) j.word (k n 0 within) j.small)))
      by i d lt false q = (let ne : i ≢ n = (λ s'. (let t : (i == n) ≡ true = grind (arith, nat_tests) in absurd cc)) in subst (λ z. z < 2 ^ 32) (sym (get_or-set_other now n i joined d ne)) (k i d lt))

  -- nothing new
  unchanged : is ≡ false → (was ≡ false) × (joined ≡ get_or now n 0)
  unchanged e = by was (joined == get_or now n 0) refl refl (sym j.news ∙ e)
    where
      by : (a b : Bool) → was ≡ a → (joined == get_or now n 0) ≡ b → (was || not (joined == get_or now n 0)) ≡ false → (was ≡ false) × (joined ≡ get_or now n 0)
      by false true p q h = (p, same_of joined (get_or now n 0) q)
      by false false p q h = absurd (let k : (was || not (joined == get_or now n 0)) ≡ true = ap (λ z. z || not (joined == get_or now n 0)) p ∙ ap not q in cc)
      by true b p q h = absurd (let k : (was || not (joined == get_or now n 0)) ≡ true = ap (λ z. z || not (joined == get_or now n 0)) p in cc)

  changed : is ≡ true → was ≡ false → get_or now n 0 < joined
  changed e p =
      let k : not (joined == get_or now n 0) ≡ true = sym (ap (λ z. z || not (joined == get_or now n 0)) p) ∙ sym j.news ∙ e in
      let a = le_or_l (get_or now n 0) j.word in
      let ne : joined ≢ get_or now n 0 = (λ s. (let t : (joined == get_or now n 0) ≡ true = grind (arith, nat_tests) in let f : not (joined == get_or now n 0) ≡ false = ap not t in absurd cc)) in
      omega arith

  set_same : (xs : List ℕ) (i : ℕ) → i < length xs → set xs i (get_or xs i 0) ≡ xs
  set_same [] i lt = absurd (omega arith)
  set_same (x ∷ xs) zero lt = refl
  set_same (x ∷ xs) (suc i) lt = ap (λ z. x ∷ z) (set_same xs i (omega arith))

  pub swept_more : (first : List ℕ) → SweptTo base blocks n first now was → SweptTo base blocks (n + 1) first new is
  swept_more first s = record {
    count = ap length j.new_is ∙ length-set now n joined ∙ s.count;
    read = λ k. read_step (s.read k);
    small = λ k. small_step (s.small k);
    grows = (let a = s.grows in let b = more in omega arith);
    news = λ e. by was refl e;
    idle = λ e. (let u = unchanged e in let i = s.idle u.0 in
        let stays : new ≡ now = j.new_is ∙ ap (λ z. set now n z) u.1 ∙ set_same now n within in
        (stays ∙ i.0, subst (λ z. ClosedBelow base blocks (n + 1) z) (sym stays) (closed_step u.1 i.1)));
  }
    where
      by : (a : Bool) → was ≡ a → is ≡ true → sum first < sum new
      by true p e = (let a = s.news p in let b = more in omega arith)
      by false p e = (let a = s.grows in let c = changed e p in let d = sums in omega arith)

      closed_step : joined ≡ get_or now n 0 → ClosedBelow base blocks n now → ClosedBelow base blocks (n + 1) now
      closed_step e k b r x lt at small h = at_case (b == n) refl
        where
          at_case : (t : Bool) → (b == n) ≡ t → has (get_or now b 0) r ≡ true
          at_case false q = k b r x (let ne : b ≢ n = (λ s'. (let t : (b == n) ≡ true = grind (arith, nat_tests) in absurd cc)) in omega arith) at small h
          at_case true q =
              let s' : b ≡ n = same_of b n q in
              let is_block : Some x ≡ Some block = sym at ∙ ap (slice_get blocks) s' ∙ there in
              let w : has j.word r ≡ true = j.lives_there r small ∙ subst (λ (o : Option Block). lives_in (starts_have now r) o (base + r) ≡ true) is_block h in
              let o : has joined r ≡ true = has_or (get_or now n 0) j.word r ∙ or_right (has (get_or now n 0) r) (has j.word r) w in
              subst (λ z. has (get_or now z 0) r ≡ true) (sym s') (subst (λ z. has z r ≡ true) e o)

-- ---- at the end

pub idle_of : (base : ℕ) (blocks : List Block) (n : ℕ) (first now : List ℕ) (is_news : Bool) → length blocks ≤ n → SweptTo base blocks n first now is_news → OnFalse is_news (AreClosed base blocks now)
idle_of base blocks n first now true le s = tt
idle_of base blocks n first now false le s = λ b j block at small h. (s.idle refl).1 b j block (let k = slice_get_within blocks b block at in omega arith) at small h

pub there_is : (blocks : List Block) (n : ℕ) (block : Block) → n < length blocks → block ≡ get_or blocks n block → slice_get blocks n ≡ Some block
there_is blocks n block lt is = slice_get-get_or blocks n block lt ∙ ap Some (sym is)
