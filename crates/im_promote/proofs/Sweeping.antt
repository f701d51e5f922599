-- Sweeps over the blocks: words grow, and an idle sweep leaves them closed.
use Rattle.std.proofs.Common.{◌≡◌, ◌≢◌, ℕ, zero, suc, ◌+◌, ◌-◌, ◌*◌, ◌^◌, ◌<◌, ◌≤◌, Bool, true, false, List, [], ◌∷◌, Option, Some, None, length, get_or, set, refl, sym, ap, ◌∙◌, subst, arith, get_or-set_same, get_or-set_other}
use Rattle.std.specs.Bool.{OnFalse}
use Rattle.std.specs.Prelude.{◌==◌, ◌||◌, not, slice_get, sum, bit_or}
use Rattle.std.proofs.lemmas.Bool.Decides.{nat_tests}
use Rattle.std.proofs.lemmas.Nat.{le_or_l, or_lt}
use Rattle.std.proofs.lemmas.List.Sums.{sum_by-set, sum_by-le}
use Rattle.std.proofs.lemmas.List.{length-set}
use Rattle.std.proofs.lemmas.Option.{slice_get_within, slice_get-get_or}
use Rattle.im_block.specs.declared.code.Block.{Block}
use Rattle.im_promote.specs.Written.{object_lives}
use Rattle.im_promote.specs.Words.{has, starts_have, Joins, AreClosed, AreWords}
use Rattle.im_promote.proofs.Bits.{has_or, same_of}

or_right : (a b : Bool) → b ≡ true → (a || b) ≡ true
or_right true b e = refl
or_right false b e = e

abbrev lives_at : (ℕ → Bool) → Option Block → ℕ → Bool
lives_at live None n = false
lives_at live (Some block) n = object_lives live block.lines.items block.exit n

-- ---- sums of lists

sum_set : (xs : List ℕ) (i y : ℕ) → i < length xs → sum (set xs i y) + get_or xs i 0 ≡ sum xs + y
sum_set xs i y lt = sum_by-set (λ x. x) xs i y 0 lt

pub less_left : (n : ℕ) (old now : List ℕ) → length now ≡ n → AreWords now → sum old < sum now → n * 2 ^ 32 - sum now < n * 2 ^ 32 - sum old
less_left n old now len small less =
    let le : sum now ≤ length now * 2 ^ 32 = sum_by-le (λ x. x) (2 ^ 32) now (λ i d lt. (let k = small i d lt in omega arith)) in
    let e : length now * 2 ^ 32 ≡ n * 2 ^ 32 = ap (λ z. z * 2 ^ 32) len in
    omega arith

-- ---- a sweep so far

abbrev ClosedBelow : ℕ → List Block → ℕ → List ℕ → Type 0
ClosedBelow base blocks n starts = (b j : ℕ) (block : Block) → b < n → slice_get blocks b ≡ Some block → j < 32 → object_lives (starts_have starts j) block.lines.items block.exit (base + j) ≡ true → starts_have starts j b ≡ true

pub record SweptTo (base : ℕ) (blocks : List Block) (n : ℕ) (first now : List ℕ) (is_news : Bool) : Type 0 where
  pub count : length now ≡ length first
  pub small : AreWords first → AreWords now
  pub grows : sum first ≤ sum now
  pub news : is_news ≡ true → sum first < sum now
  pub idle : is_news ≡ false → (now ≡ first) × ClosedBelow base blocks n now

pub begun : (base : ℕ) (blocks : List Block) (first : List ℕ) → SweptTo base blocks 0 first first false
begun base blocks first = record { count = refl; small = λ k. k; grows = omega arith; news = λ e. absurd cc; idle = λ e. (refl, (λ b j block lt. absurd (omega arith))) }

module _ (base : ℕ) (blocks : List Block) (n : ℕ) (block : Block) (now new : List ℕ) (was is : Bool) (there : slice_get blocks n ≡ Some block) (within : n < length now) (j : Joins base block n now new was is) where
  abbrev joined : ℕ
  joined = bit_or (get_or now n 0) j.word

  sums : sum new + get_or now n 0 ≡ sum now + joined
  sums = ap (λ z. sum z + get_or now n 0) j.new_is ∙ sum_set now n joined within

  more : sum now ≤ sum new
  more = let a = le_or_l (get_or now n 0) j.word in let s = sums in omega arith

  small_step : AreWords now → AreWords new
  small_step k = subst AreWords (sym j.new_is) (λ i d lt. by i d (subst (λ z. i < z) (length-set now n joined) lt) (i == n) refl)
    where
      by : (i d : ℕ) → i < length now → (t : Bool) → (i == n) ≡ t → get_or (set now n joined) i d < 2 ^ 32
      by i d lt true q = (let s : i ≡ n = same_of i n q in subst (λ z. get_or (set now n joined) z d < 2 ^ 32) (sym s) (subst (λ z. z < 2 ^ 32) (sym (get_or-set_same now n joined d within)) (or_lt 32 (get_or now n 0) j.word (k n 0 within) j.small)))
      by i d lt false q = (let ne : i ≢ n = (λ s'. (let t : (i == n) ≡ true = grind (arith, nat_tests) in absurd cc)) in subst (λ z. z < 2 ^ 32) (sym (get_or-set_other now n i joined d ne)) (k i d lt))

  -- nothing new
  unchanged : is ≡ false → (was ≡ false) × (joined ≡ get_or now n 0)
  unchanged e = by was (joined == get_or now n 0) refl refl (sym j.news ∙ e)
    where
      by : (a b : Bool) → was ≡ a → (joined == get_or now n 0) ≡ b → (was || not (joined == get_or now n 0)) ≡ false → (was ≡ false) × (joined ≡ get_or now n 0)
      by false true p q h = (p, same_of joined (get_or now n 0) q)
      by false false p q h = absurd (let k : (was || not (joined == get_or now n 0)) ≡ true = ap (λ z. z || not (joined == get_or now n 0)) p ∙ ap not q in cc)
      by true b p q h = absurd (let k : (was || not (joined == get_or now n 0)) ≡ true = ap (λ z. z || not (joined == get_or now n 0)) p in cc)

  changed : is ≡ true → was ≡ false → get_or now n 0 < joined
  changed e p =
      let k : not (joined == get_or now n 0) ≡ true = sym (ap (λ z. z || not (joined == get_or now n 0)) p) ∙ sym j.news ∙ e in
      let a = le_or_l (get_or now n 0) j.word in
      let ne : joined ≢ get_or now n 0 = (λ s. (let t : (joined == get_or now n 0) ≡ true = grind (arith, nat_tests) in let f : not (joined == get_or now n 0) ≡ false = ap not t in absurd cc)) in
      omega arith

  set_same : (xs : List ℕ) (i : ℕ) → i < length xs → set xs i (get_or xs i 0) ≡ xs
  set_same [] i lt = absurd (omega arith)
  set_same (x ∷ xs) zero lt = refl
  set_same (x ∷ xs) (suc i) lt = ap (λ z. x ∷ z) (set_same xs i (omega arith))

  pub swept_more : (first : List ℕ) → SweptTo base blocks n first now was → SweptTo base blocks (n + 1) first new is
  swept_more first s = record {
    count = ap length j.new_is ∙ length-set now n joined ∙ s.count;
    small = λ k. small_step (s.small k);
    grows = (let a = s.grows in let b = more in omega arith);
    news = λ e. by was refl e;
    idle = λ e. (let u = unchanged e in let i = s.idle u.0 in
        let stays : new ≡ now = j.new_is ∙ ap (λ z. set now n z) u.1 ∙ set_same now n within in
        (stays ∙ i.0, subst (λ z. ClosedBelow base blocks (n + 1) z) (sym stays) (closed_step u.1 i.1)));
  }
    where
      by : (a : Bool) → was ≡ a → is ≡ true → sum first < sum new
      by true p e = (let a = s.news p in let b = more in omega arith)
      by false p e = (let a = s.grows in let c = changed e p in let d = sums in omega arith)

      closed_step : joined ≡ get_or now n 0 → ClosedBelow base blocks n now → ClosedBelow base blocks (n + 1) now
      closed_step e k b r x lt at small h = at_case (b == n) refl
        where
          at_case : (t : Bool) → (b == n) ≡ t → starts_have now r b ≡ true
          at_case false q = k b r x (let ne : b ≢ n = (λ s'. (let t : (b == n) ≡ true = grind (arith, nat_tests) in absurd cc)) in omega arith) at small h
          at_case true q =
              let s' : b ≡ n = same_of b n q in
              let is_block : Some x ≡ Some block = sym at ∙ ap (slice_get blocks) s' ∙ there in
              let w : has j.word r ≡ true = j.lives r small ∙ subst (λ (o : Option Block). lives_at (starts_have now r) o (base + r) ≡ true) is_block h in
              let o : has joined r ≡ true = has_or (get_or now n 0) j.word r ∙ or_right (has (get_or now n 0) r) (has j.word r) w in
              subst (λ z. starts_have now r z ≡ true) (sym s') (subst (λ z. has z r ≡ true) e o)

-- ---- at the end

pub idle_of : (base : ℕ) (blocks : List Block) (n : ℕ) (first now : List ℕ) (is_news : Bool) → length blocks ≤ n → SweptTo base blocks n first now is_news → OnFalse is_news (AreClosed base blocks now)
idle_of base blocks n first now true le s = tt
idle_of base blocks n first now false le s = λ b j block at small h. (s.idle refl).1 b j block (let k = slice_get_within blocks b block at in omega arith) at small h

pub there_is : (blocks : List Block) (n : ℕ) (block : Block) → n < length blocks → block ≡ get_or blocks n block → slice_get blocks n ≡ Some block
there_is blocks n block lt is = slice_get-get_or blocks n block lt ∙ ap Some (sym is)
