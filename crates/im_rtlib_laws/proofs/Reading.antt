-- getchar as a whole.
use Rattle.std.proofs.Common.{◌≡◌, ℕ, suc, ◌+◌, ◌-◌, ◌<◌, ◌≤◌, inl, inr, Bool, true, false, cond, List, [], ◌∷◌, refl, sym, ap, ◌∙◌, subst, arith}
use Rattle.std.specs.Prelude.{◌==◌, ◌&&◌, nat_lt, nat_le}
use Rattle.std.proofs.lemmas.Bool.Decides.{nat_tests}
use Rattle.im_num.specs.Bytes.{bytes_of}
use Rattle.im_mem.specs.Memory.{Mem, little, bytes_from, written}
use Rattle.im_mem.proofs.Words.{little-same, little-other, written-above, written-small, length-bytes_of}
use Rattle.im_image.specs.declared.form.Form.TheVariants.{TwoLengths}
use Rattle.im_device.specs.Shows.{output_length}
use Rattle.im_rv_reach.specs.Touches.{Touch, Loaded, Stored, Flipped, is_system, heard}
use Rattle.im_rv_reach.specs.Orderly.{Anything, after, is_closed}
use Rattle.im_rv_reach.specs.Shown.{shown, left}
use Rattle.im_rv_reach.specs.Routines.{Runtime, Called, Words, got, got_answer}
use Rattle.im_rv_reach.proofs.Reach.{length_same}
use Rattle.im_rtlib.specs.Routines.{getchar_label}
use Rattle.im_rtlib_laws.specs.Standing.{HasRoutines}
use Rattle.im_rtlib_laws.specs.Seen.{is_tidy, get_touches_by}
use Rattle.im_rtlib_laws.specs.Laws.{GetsByte, GetcharLaw}
use Rattle.im_rtlib_laws.proofs.Ran.{heard_seen}
use Rattle.im_rtlib_laws.proofs.Ordering.{taken_closed}
use Rattle.im_rtlib_laws.proofs.Saving.{Kept, kept_word, kept_quiet}
use Rattle.im_rtlib_laws.proofs.Showing.{bytes_alike, shown_alike}
use Rattle.im_rtlib_laws.proofs.Getting.{GetLines, get_lines, ended, take_byte}

system_far : (a : ℕ) → 3145728 ≤ a → is_system a ≡ true
system_far a h = grind (arith, nat_tests)

heard_far : (a : ℕ) (ts : List Touch) → 3145728 ≤ a → heard (Loaded a 1 ∷ ts) ≡ heard ts
heard_far a ts h = ap (λ z. cond z (heard ts) (Loaded a 1 ∷ heard ts)) (system_far a h)

below_output : (a : ℕ) → a < 4194304 → nat_le (a + 1) 4194304 ≡ true
below_output a h = grind (arith, nat_tests)

less_of : (a b : ℕ) → nat_lt a b ≡ true → a < b
less_of a b h = grind (arith, nat_tests)

least_of : (a b : ℕ) → nat_lt a b ≡ false → b ≤ a
least_of a b h = grind (arith, nat_tests)

-- what is left of the input, where some is and where none is
some_left : (m : Mem) (n rest : ℕ) → little m 24 4 ≡ n → little m 20 4 - n ≡ suc rest → left m ≡ m (3145728 + n) ∷ bytes_from m (3145728 + n + 1) rest
some_left m n rest position more = ap (λ z. bytes_from m (3145728 + z) (little m 20 4 - z)) position ∙ ap (bytes_from m (3145728 + n)) more

none_left : (m : Mem) → little m 20 4 - little m 24 4 ≡ 0 → left m ≡ []
none_left m e = ap (bytes_from m (3145728 + little m 24 4)) e

-- the low page behind it
words_after : (limit capacity : ℕ) (m k : Mem) (n : ℕ) → Words limit capacity m → Kept m k → little k 0 4 < 2 → ((a : ℕ) → k a < 256) → suc n ≤ little m 20 4 → n < 1048576 → Words limit capacity (written k 24 (bytes_of 4 (suc n)))
words_after limit capacity m k n w kept index bytes more small =
    let h : Mem = written k 24 (bytes_of 4 (suc n)) in
    let below : (a : ℕ) → 4 ≤ a → a + 4 ≤ 24 → little h a 4 ≡ little m a 4 = λ a from to. little-other k 24 4 (suc n) a 4 (inl to) ∙ kept_word m k kept a from (omega arith) in
    let position : little h 24 4 ≡ suc n = little-same k 24 (suc n) (omega arith) in
    let input : little h 20 4 ≡ little m 20 4 = below 20 (omega arith) (omega arith) in
    let selector : h 36 ≡ k 36 = written-above k 24 36 (bytes_of 4 (suc n)) (omega (arith, length-bytes_of 4 (suc n))) in
    let long : output_length TwoLengths h ≡ output_length TwoLengths m = ap (λ z. cond (z == 0) (little h 12 4) (little h 32 4)) selector ∙ ap (λ z. cond (k 36 == 0) z (little h 32 4)) (little-other k 24 4 (suc n) 12 4 (inl (omega arith))) ∙ ap (λ z. cond (k 36 == 0) (little k 12 4) z) (little-other k 24 4 (suc n) 32 4 (inr (omega arith))) ∙ length_same m k (kept_quiet m k kept) in
    record {
      index_small = subst (λ z. z < 2) (sym (little-other k 24 4 (suc n) 0 4 (inl (omega arith)))) index;
      status_is = below 4 (omega arith) (omega arith) ∙ w.status_is;
      reason_is = below 8 (omega arith) (omega arith) ∙ w.reason_is;
      length_fits = subst (λ z. z ≤ capacity) (sym long) w.length_fits;
      capacity_is = below 16 (omega arith) (omega arith) ∙ w.capacity_is;
      capacity_fits = w.capacity_fits;
      position_fits = subst (λ z. z ≤ little h 20 4) (sym position) (subst (λ z. suc n ≤ z) (sym input) more);
      input_fits = subst (λ z. z ≤ 1048576) (sym input) w.input_fits;
      limit_is = little-other k 24 4 (suc n) 28 4 (inr (omega arith)) ∙ kept_word m k kept 28 (omega arith) (omega arith) ∙ w.limit_is;
      bytes = written-small k 24 4 (suc n) bytes;
    }

module _ (r : Runtime) (place : ℕ → ℕ) (has : HasRoutines r.image place) (few : 27 ≤ r.longest) (flips : 1 ≤ r.flips) (m : Mem) (x : ℕ → ℕ) (call : Called r m x 1) where
  abbrev n : ℕ
  n = little m 24 4

  abbrev p : ℕ
  p = place getchar_label

  lines : GetLines r.image place p
  lines = get_lines r.image place has

  none : nat_lt n (little m 20 4) ≡ false → GetsByte r p m x
  none h =
      let least : little m 20 4 ≤ n = least_of n (little m 20 4) h in
      let s = ended r.image place has p lines m x (x 1) call.fixed call.zero_reg refl call.even call.low (call.behind refl) h in
      let e : left m ≡ [] = none_left m (omega arith) in
      record {
        done = record {
          n = 5;
          some = omega arith;
          few = omega arith;
          ts = s.ran.ts;
          y = s.y;
          k = m;
          reach = s.ran.reach;
          flips = 0;
          flips_few = omega arith;
          system = heard_seen s.ran.ts ∙ ap heard s.ran.saw;
          orderly = ap (λ z. is_closed (after Anything z)) s.ran.saw;
          fixed = call.fixed;
          words = call.words;
          data_same = λ a from to. refl;
          output_is = refl;
          input_is = e ∙ sym (ap got e);
          zero_reg = s.zero_reg;
          stack = s.stack;
        };
        answer = s.answer ∙ sym (ap got_answer e);
        touched = s.ran.saw ∙ sym (ap (get_touches_by n) e);
        tidy = ap is_tidy s.ran.saw;
      }

  some : nat_lt n (little m 20 4) ≡ true → GetsByte r p m x
  some h =
      let less : n < little m 20 4 = less_of n (little m 20 4) h in
      let fits = call.words.input_fits in
      let long : ℕ = output_length TwoLengths m in
      let a = call.words.length_fits in
      let b = call.words.capacity_fits in
      let s = take_byte r.image place has p lines m x (x 1) n long call.fixed call.zero_reg refl call.even call.low (call.behind refl) refl (omega arith) h refl (omega arith) call.words.index_small call.words.bytes in
      let k : Mem = s.k in
      let w : Mem = written k 24 (bytes_of 4 (suc n)) in
      let rest : ℕ = little m 20 4 - suc n in
      let above : (i : ℕ) → 384 ≤ i → w i ≡ m i = λ i l. written-above k 24 i (bytes_of 4 (suc n)) (omega (arith, length-bytes_of 4 (suc n))) ∙ s.kept.high i l in
      let words = words_after r.limit r.capacity m k n call.words s.kept s.index s.bytes less (omega arith) in
      let position : little w 24 4 ≡ suc n = little-same k 24 (suc n) (omega arith) in
      let input : little w 20 4 ≡ little m 20 4 = little-other k 24 4 (suc n) 20 4 (inl (omega arith)) ∙ kept_word m k s.kept 20 (omega arith) (omega arith) in
      let e : left m ≡ m (3145728 + n) ∷ bytes_from m (3145728 + n + 1) rest = some_left m n rest refl (omega arith) in
      let behind : left w ≡ bytes_from m (3145728 + n + 1) rest =
      ap (λ z. bytes_from w (3145728 + z) (little w 20 4 - z)) position
      ∙ ap (λ z. bytes_from w (3145728 + suc n) (z - suc n)) input
      ∙ ap (λ z. bytes_from w z rest) (let q : 3145728 + suc n ≡ 3145728 + n + 1 = omega arith in q)
      ∙ bytes_alike m w (3145728 + n + 1) rest (λ i from to. above i (omega arith)) in
      let quiet : shown w ≡ shown m = shown_alike m w long refl (out_after m k n s.kept) (omega arith) (λ i from to. above i (omega arith)) in
      record {
        done = record {
          n = 27;
          some = omega arith;
          few = few;
          ts = s.ran.ts;
          y = s.y;
          k = w;
          reach = s.ran.reach;
          flips = 1;
          flips_few = flips;
          system = heard_seen s.ran.ts ∙ ap heard s.ran.saw ∙ heard_far (3145728 + n) (Flipped ∷ Stored 24 4 ∷ []) (omega arith);
          orderly = ap (λ z. is_closed (after Anything z)) s.ran.saw ∙ taken_closed n (omega arith);
          fixed = λ i from to. above i (omega arith) ∙ call.fixed i from to;
          words = words;
          data_same = λ i from to. above i (omega arith);
          output_is = quiet;
          input_is = behind ∙ sym (ap got e);
          zero_reg = s.zero_reg;
          stack = s.stack;
        };
        answer = s.answer ∙ sym (ap got_answer e);
        touched = s.ran.saw ∙ sym (ap (get_touches_by n) e);
        tidy = ap is_tidy s.ran.saw ∙ ap (λ z. z && true) (below_output (3145728 + n) (omega arith));
      }
    where
      out_after : (m k : Mem) (n : ℕ) → Kept m k → output_length TwoLengths (written k 24 (bytes_of 4 (suc n))) ≡ output_length TwoLengths m
      out_after m k n kept =
          let h : Mem = written k 24 (bytes_of 4 (suc n)) in
          ap (λ z. cond (z == 0) (little h 12 4) (little h 32 4)) (written-above k 24 36 (bytes_of 4 (suc n)) (omega (arith, length-bytes_of 4 (suc n))))
          ∙ ap (λ z. cond (k 36 == 0) z (little h 32 4)) (little-other k 24 4 (suc n) 12 4 (inl (omega arith)))
          ∙ ap (λ z. cond (k 36 == 0) (little k 12 4) z) (little-other k 24 4 (suc n) 32 4 (inr (omega arith)))
          ∙ length_same m k (kept_quiet m k kept)

  gets_byte : (z : Bool) → nat_lt n (little m 20 4) ≡ z → GetsByte r p m x
  gets_byte true h = some h
  gets_byte false h = none h

pub getchar_law : GetcharLaw
getchar_law r place has few flips m x call = gets_byte r place has few flips m x call (nat_lt (little m 24 4) (little m 20 4)) refl
