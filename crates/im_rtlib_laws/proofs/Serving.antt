-- putchar as a whole.
use Rattle.std.proofs.Common.{◌≡◌, ℕ, suc, ◌+◌, ◌%◌, ◌^◌, ◌<◌, ◌≤◌, inl, inr, Bool, true, false, cond, List, [], ◌∷◌, ◌++◌, refl, sym, ap, ◌∙◌, subst, arith, length}
use Rattle.std.specs.Prelude.{◌==◌, ◌&&◌, nat_lt, nat_le}
use Rattle.std.proofs.lemmas.Bool.Decides.{nat_tests}
use Rattle.im_num.specs.Bytes.{bytes_of}
use Rattle.im_mem.specs.Memory.{Mem, little, written}
use Rattle.im_image.specs.declared.form.Form.TheVariants.{TwoLengths}
use Rattle.im_device.specs.Shows.{output_length}
use Rattle.im_rv_reach.specs.Touches.{Touch, Loaded, Stored, Flipped, is_system, heard}
use Rattle.im_rv_reach.specs.Seen.{seen}
use Rattle.im_rv_reach.specs.Orderly.{Anything, after, is_closed, IsOrderly}
use Rattle.im_rv_reach.specs.Shown.{shown, Begins}
use Rattle.im_rv_reach.specs.Reach.{plus}
use Rattle.im_rv_reach.specs.Instructions.{Fixed}
use Rattle.im_rv_reach.specs.Routines.{Runtime, Called, Words}
use Rattle.im_rv_reach.proofs.Reach.{plus_is}
use Rattle.im_rtlib.specs.Routines.{putchar_label}
use Rattle.im_rtlib_laws.specs.Standing.{HasRoutines}
use Rattle.im_rtlib_laws.specs.Seen.{is_tidy}
use Rattle.im_rtlib_laws.specs.Laws.{PutsByte, PutcharLaw}
use Rattle.im_rtlib_laws.proofs.Ran.{Ran, at, follow, heard_seen}
use Rattle.im_rtlib_laws.proofs.Ordering.{counted_closed, appended_closed}
use Rattle.im_rtlib_laws.proofs.Showing.{selected, other, length_by, length_shown}
use Rattle.im_rtlib_laws.proofs.Putting.{PutLines, put_lines, turned, Counted, count, refuse, append, lengthen, turn}
use Rattle.im_rtlib_laws.proofs.Chain.{Chain, kept_self, other_high, chain, chain_fixed, before_output, chain_length, chain_shown, chain_word, chain_told, left_alike}

-- ---- what is seen, by the selector

abbrev counted_touches : Bool → List Touch
counted_touches b = Loaded 36 1 ∷ Loaded (selected b) 4 ∷ Loaded 16 4 ∷ []

abbrev appended_touches : Bool → ℕ → List Touch
appended_touches b n = Stored (4194304 + n) 1 ∷ Flipped ∷ Stored (other b) 4 ∷ Flipped ∷ Stored 36 1 ∷ Flipped ∷ []

system_far : (a : ℕ) → 3145728 ≤ a → is_system a ≡ true
system_far a h = grind (arith, nat_tests)

not_index : (a : ℕ) → 3145728 ≤ a → (a == 0) ≡ false
not_index a h = grind (arith, nat_tests)

output_far : (n : ℕ) → nat_le 4194304 (4194304 + n) ≡ true
output_far n = grind (arith, nat_tests)

heard_counted : (b : Bool) → heard (counted_touches b) ≡ []
heard_counted true = refl
heard_counted false = refl

heard_far : (a : ℕ) (ts : List Touch) → 3145728 ≤ a → heard (Stored a 1 ∷ ts) ≡ heard ts
heard_far a ts h =
    ap (λ z. cond z (cond (a == 0) (Flipped ∷ heard ts) (heard ts)) (Stored a 1 ∷ heard ts)) (system_far a h)
    ∙ ap (λ z. cond z (Flipped ∷ heard ts) (heard ts)) (not_index a h)

heard_appended : (b : Bool) (n : ℕ) → heard (counted_touches b ++ appended_touches b n) ≡ Flipped ∷ Flipped ∷ Flipped ∷ []
heard_appended true n = heard_far (4194304 + n) (Flipped ∷ Stored 32 4 ∷ Flipped ∷ Stored 36 1 ∷ Flipped ∷ []) (omega arith)
heard_appended false n = heard_far (4194304 + n) (Flipped ∷ Stored 12 4 ∷ Flipped ∷ Stored 36 1 ∷ Flipped ∷ []) (omega arith)

counted_system : (ts : List Touch) (b : Bool) → seen ts ≡ counted_touches b → heard ts ≡ []
counted_system ts b e = heard_seen ts ∙ ap heard e ∙ heard_counted b

appended_system : (ts : List Touch) (b : Bool) (n : ℕ) → seen ts ≡ counted_touches b ++ appended_touches b n → heard ts ≡ Flipped ∷ Flipped ∷ Flipped ∷ []
appended_system ts b n e = heard_seen ts ∙ ap heard e ∙ heard_appended b n

counted_orderly : (ts : List Touch) (b : Bool) → seen ts ≡ counted_touches b → IsOrderly ts
counted_orderly ts b e = ap (λ z. is_closed (after Anything z)) e ∙ counted_closed b

appended_orderly : (ts : List Touch) (b : Bool) (n : ℕ) → seen ts ≡ counted_touches b ++ appended_touches b n → IsOrderly ts
appended_orderly ts b n e = ap (λ z. is_closed (after Anything z)) e ∙ appended_closed b (4194304 + n) (omega arith)

tidy_counted : (b : Bool) → is_tidy (counted_touches b) ≡ true
tidy_counted true = refl
tidy_counted false = refl

tidy_appended : (b : Bool) (n : ℕ) → is_tidy (counted_touches b ++ appended_touches b n) ≡ true
tidy_appended true n = ap (λ z. z && true) (output_far n)
tidy_appended false n = ap (λ z. z && true) (output_far n)

-- ---- the whole

less_of : (a b : ℕ) → nat_lt a b ≡ true → a < b
less_of a b h = grind (arith, nat_tests)

-- the words of the low page behind it
words_after : (limit capacity : ℕ) (m k : Mem) (n v : ℕ) (b : Bool) → Words limit capacity m → Chain m k n v b → n < capacity → ((a : ℕ) → k a < 256) → little k 0 4 < 2 → Words limit capacity k
words_after limit capacity m k n v b w c room bytes index =
    let input = chain_word m k n v b c 20 (omega arith) (omega arith) in
    let position = chain_word m k n v b c 24 (omega arith) (omega arith) in
    record {
      index_small = index;
      status_is = chain_told m k n v b c 4 (omega arith) (omega arith) ∙ w.status_is;
      reason_is = chain_told m k n v b c 8 (omega arith) (omega arith) ∙ w.reason_is;
      length_fits = subst (λ z. z ≤ capacity) (sym (chain_length m k n v b c)) room;
      capacity_is = chain_word m k n v b c 16 (omega arith) (omega arith) ∙ w.capacity_is;
      capacity_fits = w.capacity_fits;
      position_fits = subst (λ z. z ≤ little k 20 4) (sym position) (subst (λ z. little m 24 4 ≤ z) (sym input) w.position_fits);
      input_fits = subst (λ z. z ≤ 1048576) (sym input) w.input_fits;
      limit_is = chain_word m k n v b c 28 (omega arith) (omega arith) ∙ w.limit_is;
      bytes = bytes;
    }

module _ (r : Runtime) (place : ℕ → ℕ) (has : HasRoutines r.image place) (few : 71 ≤ r.longest) (flips : 3 ≤ r.flips) (m : Mem) (x : ℕ → ℕ) (call : Called r m x 1) where
  abbrev b : Bool
  b = m 36 == 0

  abbrev n : ℕ
  n = output_length TwoLengths m

  abbrev p : ℕ
  p = place putchar_label

  lines : PutLines r.image place p
  lines = put_lines r.image place has

  first : Counted r.image place has p lines m x b
  first = count r.image place has p lines m x b call.fixed call.zero_reg refl

  counted : first.y 6 ≡ n
  counted = first.counted ∙ sym (length_by m b refl)

  small : n ≤ 1048576
  small = let a = call.words.length_fits in let c = call.words.capacity_fits in omega arith

  long : length (shown m) ≡ n
  long = length_shown m n refl small

  tests : nat_lt (length (shown m)) r.capacity ≡ nat_lt n r.capacity
  tests = ap (λ z. nat_lt z r.capacity) long

  -- no room
  full : nat_lt n r.capacity ≡ false → PutsByte r p m x
  full h =
      let c = call.words.capacity_is in
      let no : nat_lt (first.y 6) (little m 16 4) ≡ false = ap (λ z. nat_lt z (little m 16 4)) counted ∙ ap (nat_lt n) c ∙ h in
      let s = refuse r.image place has p lines m first.y (x 1) call.fixed first.zero_reg first.link call.even call.low (call.behind refl) no in
      let ran : Ran (plus first.n 4) (counted_touches b) (at p x) m (at (x 1) s.y) m = follow first.ran s.ran in
      let q = plus_is first.n 4 in
      let e = first.few in
      let test : nat_lt (length (shown m)) r.capacity ≡ false = tests ∙ h in
      record {
        done = record {
          n = plus first.n 4;
          some = omega arith;
          few = omega arith;
          ts = ran.ts;
          y = s.y;
          k = m;
          reach = ran.reach;
          flips = 0;
          flips_few = omega arith;
          system = counted_system ran.ts b ran.saw;
          orderly = counted_orderly ran.ts b ran.saw;
          fixed = call.fixed;
          words = call.words;
          data_same = λ a from to. refl;
          output_is = sym (ap (λ z. cond z (shown m ++ x 10 % 256 ∷ []) (shown m)) test);
          input_is = refl;
          zero_reg = s.zero_reg;
          stack = s.stack ∙ first.stack;
        };
        answer = s.answer ∙ sym (ap (λ z. cond z (x 10 % 256) 0xFFFFFFFF) test);
        touched = ran.saw ∙ sym (ap (λ z. cond z (counted_touches b ++ Stored (4194304 + length (shown m)) 1 ∷ Flipped ∷ Stored (other b) 4 ∷ Flipped ∷ Stored 36 1 ∷ Flipped ∷ []) (counted_touches b)) test);
        tidy = ap is_tidy ran.saw ∙ tidy_counted b;
      }

  -- the byte is appended
  room : nat_lt n r.capacity ≡ true → x 10 < 2 ^ 32 → PutsByte r p m x
  room h word =
      let less : n < r.capacity = less_of n r.capacity h in
      let fits = call.words.capacity_fits in
      let v : ℕ = x 10 % 256 in
      let yes : nat_lt n (little m 16 4) ≡ true = ap (nat_lt n) call.words.capacity_is ∙ h in
      let a = append r.image place has p lines m first.y n v call.fixed first.zero_reg counted first.byte refl (omega arith) yes call.words.index_small call.words.bytes in
      let k1 : Mem = a.at_byte.k in
      let fixed1 : Fixed r.image k1 = chain_fixed r.image m k1 (4194304 + n) 1 v a.at_byte.kept (inr (omega arith)) call.fixed in
      let l = lengthen r.image place has p lines k1 a.at_byte.y b n (suc n) fixed1 a.same.zero_reg a.more (ap (λ z. z == 0) (a.same.selector ∙ first.selector)) (ap (λ z. z == 0) a.selector) a.long (omega arith) a.at_byte.index a.at_byte.bytes in
      let k2 : Mem = l.at_length.k in
      let w3 : Mem = written k2 36 (bytes_of 1 (turned b)) in
      let c2 : Chain m w3 n v b = chain m k1 k2 w3 n v b (omega arith) a.at_byte.kept l.at_length.kept (kept_self w3) in
      let more : Begins (shown k2) (shown w3) = (v % 256 ∷ [], chain_shown m w3 n v b c2 refl (omega arith) ∙ ap (λ z. z ++ v % 256 ∷ []) (sym (l.shows ∙ a.shows))) in
      let fixed2 : Fixed r.image k2 = chain_fixed r.image k1 k2 (other b) 4 (suc n) l.at_length.kept (inl (let o = other_high b in omega arith)) fixed1 in
      let t = turn r.image place has p lines k2 l.at_length.y b (x 1) fixed2 l.same.zero_reg (l.same.link ∙ a.same.link ∙ first.link) call.even call.low (call.behind refl) (ap (λ z. z == 0) (l.same.selector ∙ a.same.selector ∙ first.selector)) more l.at_length.index l.at_length.bytes in
      let k3 : Mem = t.at_selector.k in
      let c : Chain m k3 n v b = chain m k1 k2 k3 n v b (omega arith) a.at_byte.kept l.at_length.kept t.at_selector.kept in
      let ran : Ran (plus first.n (plus a.at_byte.count (plus l.at_length.count t.at_selector.count))) (counted_touches b ++ appended_touches b n) (at p x) m (at (x 1) t.at_selector.y) k3 = follow first.ran (follow a.at_byte.ran (follow l.at_length.ran t.at_selector.ran)) in
      let q1 = plus_is first.n (plus a.at_byte.count (plus l.at_length.count t.at_selector.count)) in
      let q2 = plus_is a.at_byte.count (plus l.at_length.count t.at_selector.count) in
      let q3 = plus_is l.at_length.count t.at_selector.count in
      let e0 = first.few in
      let e1 = a.at_byte.few in
      let e2 = l.at_length.few in
      let e3 = t.at_selector.few in
      let e4 = t.at_selector.some in
      let test : nat_lt (length (shown m)) r.capacity ≡ true = tests ∙ h in
      let once : v % 256 ≡ v = omega arith in
      record {
        done = record {
          n = plus first.n (plus a.at_byte.count (plus l.at_length.count t.at_selector.count));
          some = omega arith;
          few = omega arith;
          ts = ran.ts;
          y = t.at_selector.y;
          k = k3;
          reach = ran.reach;
          flips = 3;
          flips_few = flips;
          system = appended_system ran.ts b n ran.saw;
          orderly = appended_orderly ran.ts b n ran.saw;
          fixed = λ i from to. c.high i (omega arith) (before_output i n (omega arith)) ∙ call.fixed i from to;
          words = words_after r.limit r.capacity m k3 n v b call.words c less t.at_selector.bytes t.at_selector.index;
          data_same = λ i from to. c.high i (omega arith) (before_output i n (omega arith));
          output_is = chain_shown m k3 n v b c refl (omega arith) ∙ ap (λ z. shown m ++ z ∷ []) once ∙ sym (ap (λ z. cond z (shown m ++ v ∷ []) (shown m)) test);
          input_is = left_alike m k3 (chain_word m k3 n v b c 24 (omega arith) (omega arith)) (chain_word m k3 n v b c 20 (omega arith) (omega arith)) call.words.position_fits call.words.input_fits (λ i from to. c.high i (omega arith) (before_output i n (omega arith)));
          zero_reg = t.zero_reg;
          stack = t.stack ∙ l.same.stack ∙ a.same.stack ∙ first.stack;
        };
        answer = t.byte ∙ l.same.byte ∙ a.same.byte ∙ first.byte ∙ sym (ap (λ z. cond z v 0xFFFFFFFF) test);
        touched = ran.saw ∙ ap (λ z. counted_touches b ++ Stored (4194304 + z) 1 ∷ Flipped ∷ Stored (other b) 4 ∷ Flipped ∷ Stored 36 1 ∷ Flipped ∷ []) (sym long) ∙ sym (ap (λ z. cond z (counted_touches b ++ Stored (4194304 + length (shown m)) 1 ∷ Flipped ∷ Stored (other b) 4 ∷ Flipped ∷ Stored 36 1 ∷ Flipped ∷ []) (counted_touches b)) test);
        tidy = ap is_tidy ran.saw ∙ tidy_appended b n;
      }

  puts_byte : x 10 < 2 ^ 32 → (z : Bool) → nat_lt n r.capacity ≡ z → PutsByte r p m x
  puts_byte word true h = room h word
  puts_byte word false h = full h

pub putchar_law : PutcharLaw
putchar_law r place has few flips m x call word = puts_byte r place has few flips m x call word (nat_lt (output_length TwoLengths m) r.capacity) refl
