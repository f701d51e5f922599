-- What a memory shows stays where its bytes do.
use Rattle.std.proofs.Common.{◌≡◌, ℕ, zero, suc, ◌+◌, ◌*◌, ◌-◌, ◌<◌, ◌≤◌, Bool, true, false, cond, List, [], ◌∷◌, ◌++◌, map, length, refl, sym, ap, ◌∙◌, arith}
use Rattle.std.specs.Prelude.{nat_le, min, ℤ, ◌==◌}
use Rattle.std.specs.List.{flat_map}
use Rattle.std.specs.Int.{cast_signed, w32}
use Rattle.std.proofs.lemmas.Bool.Decides.{nat_tests}
use Rattle.std.proofs.Math.Path.{fun_ext}
use Rattle.im_num.specs.declared.kind.Kind.{Kind}
use Rattle.im_num.specs.Kinds.{kind_size}
use Rattle.im_num.specs.Variables.{Variable}
use Rattle.im_mem.specs.Memory.{Mem, little, bytes_from}
use Rattle.im_mem.proofs.Words.{little-alike}
use Rattle.im_rv.specs.declared.step.Went.TheVariants.{On, Halted}
use Rattle.im_power.specs.declared.period.Period.{Period}
use Rattle.im_image.specs.declared.form.Form.TheVariants.{TwoLengths}
use Rattle.im_image.specs.declared.object.CellRun.{CellRun}
use Rattle.im_image.specs.Contents.{ImageValue, ObjectValue}
use Rattle.im_device.specs.Load.{memory_of}
use Rattle.im_device.specs.Shows.{output_of}
use Rattle.im_device.specs.Variables.{value_of, cells_from, run_cells, variable}
use Rattle.im_ckpt.specs.Buffers.{is_buffer}
use Rattle.im_replay.specs.Replays.{after, long_periods}
use Rattle.im_replay.specs.Output.{output_size, Extends, SameOutput}
use Rattle.im_replay.proofs.Device.{replay_law, progress_law, output_law, keeps_law, reach_law}
use Rattle.im_keeps.specs.Keeps.{Begins, Shows, output_in, long_periods as keeps_long}
use Rattle.im_keeps_run.specs.Laws.{AreHigh, run_of, EndKeptLaw, RunKeptLaw}

-- ---- output

bytes-split : (m : Mem) (a k j : ℕ) → bytes_from m a (k + j) ≡ bytes_from m a k ++ bytes_from m (a + k) j
bytes-split m a zero j =
    ap (λ n. bytes_from m a n) (let q : 0 + j ≡ j = omega arith in q) ∙ ap (λ b. bytes_from m b j) (let q : a ≡ a + 0 = omega arith in q)
bytes-split m a (suc k) j =
    ap (λ n. bytes_from m a n) (let q : suc k + j ≡ suc (k + j) = omega arith in q)
    ∙ ap (λ bs. m a ∷ bs) (bytes-split m (a + 1) k j)
    ∙ ap (λ b. m a ∷ (bytes_from m (a + 1) k ++ bytes_from m b j)) (let q : a + 1 + k ≡ a + suc k = omega arith in q)

bytes-alike : (m n : Mem) (a k : ℕ) → ((i : ℕ) → i < k → m (a + i) ≡ n (a + i)) → bytes_from m a k ≡ bytes_from n a k
bytes-alike m n a zero h = refl
bytes-alike m n a (suc k) h =
    let here : a + 0 ≡ a = omega arith in
    ap (λ b. b ∷ bytes_from m (a + 1) k) (ap (λ z. m z) (sym here) ∙ h 0 (omega arith) ∙ ap (λ z. n z) here)
    ∙ ap (λ bs. n a ∷ bs) (bytes-alike m n (a + 1) k (λ i l. (let q : a + 1 + i ≡ a + suc i = omega arith in ap (λ z. m z) q ∙ h (suc i) (omega arith) ∙ ap (λ z. n z) (sym q))))

same_shown : (m n : Mem) → SameOutput m n → output_of TwoLengths m ≡ output_of TwoLengths n
same_shown m n s = bytes-alike m n 4194304 (output_size m) s.bytes ∙ ap (λ k. bytes_from n 4194304 k) s.size

begins_shown : (m n : Mem) → Extends m n → Begins (output_of TwoLengths m) (output_of TwoLengths n)
begins_shown m n e =
    let k = output_size m in
    let j = output_size n - k in
    let q : k + j ≡ output_size n = (let l = e.size in omega arith) in (
      bytes_from n (4194304 + k) j,
      ap (λ bs. bs ++ bytes_from n (4194304 + k) j) (bytes-alike m n 4194304 k (λ i l. sym (e.bytes i l))) ∙ sym (bytes-split n 4194304 k j) ∙ ap (λ z. bytes_from n 4194304 z) q,
    )

-- ---- memories that agree outside the buffers

abbrev Agree : Mem → Mem → Type 0
Agree m n = (a : ℕ) → is_buffer a ≡ false → m a ≡ n a

high_out : (a : ℕ) → 384 ≤ a → is_buffer a ≡ false
high_out a l = grind (arith, nat_tests)

low_out : (a : ℕ) → a < 128 → is_buffer a ≡ false
low_out a l = grind (arith, nat_tests)

high_number : (m n : Mem) (a k : ℕ) → Agree m n → 384 ≤ a → little m a k ≡ little n a k
high_number m n a k h l = little-alike m n k a (λ i p q. h i (high_out i (omega arith)))

low_word : (m n : Mem) (a : ℕ) → Agree m n → a ≤ 64 → little m a 4 ≡ little n a 4
low_word m n a h l = little-alike m n 4 a (λ i p q. h i (low_out i (omega arith)))

cells_same : (objects : List ObjectValue) (m n : Mem) (kind : Kind) (at k : ℕ) → Agree m n → 384 ≤ at → cells_from objects m kind at k ≡ cells_from objects n kind at k
cells_same objects m n kind at zero h l = refl
cells_same objects m n kind at (suc k) h l =
    ap (λ w. value_of objects kind w ∷ cells_from objects m kind (at + kind_size kind) k) (high_number m n at (kind_size kind) h l)
    ∙ ap (λ cs. value_of objects kind (little n at (kind_size kind)) ∷ cs) (cells_same objects m n kind (at + kind_size kind) k h (omega arith))

variable_same : (objects : List ObjectValue) (m n : Mem) (object : ObjectValue) → Agree m n → 384 ≤ object.at → variable objects m object ≡ variable objects n object
variable_same objects m n object h l =
    let same : run_cells objects m object.at ≡ run_cells objects n object.at = fun_ext (λ (r : CellRun). cells_same objects m n r.kind (object.at + r.offset) r.count h (omega arith)) in
    ap (λ f. record { name = object.name; cells = flat_map f object.runs }) same

vars_same : (objects others : List ObjectValue) (m n : Mem) → Agree m n → AreHigh others → map (variable objects m) others ≡ map (variable objects n) others
vars_same objects [] m n h high = refl
vars_same objects (object ∷ others) m n h high =
    ap (λ v. v ∷ map (variable objects m) others) (variable_same objects m n object h high.0)
    ∙ ap (λ vs. variable objects n object ∷ vs) (vars_same objects others m n h high.1)

pub output_same : (m n : Mem) → Agree m n → output_of TwoLengths m ≡ output_of TwoLengths n
output_same m n h =
    let sel = h 36 refl in
    let size : output_size m ≡ output_size n = ap (λ z. min (cond (z == 0) (little m 12 4) (little m 32 4)) 1048576) sel ∙ ap (λ z. min (cond (n 36 == 0) z (little m 32 4)) 1048576) (low_word m n 12 h (omega arith)) ∙ ap (λ z. min (cond (n 36 == 0) (little n 12 4) z) 1048576) (low_word m n 32 h (omega arith)) in
    bytes-alike m n 4194304 (output_size m) (λ i l. h (4194304 + i) (high_out (4194304 + i) (omega arith))) ∙ ap (λ k. bytes_from n 4194304 k) size

pub shows_same : (image : ImageValue) (m n : Mem) (reason : ℕ) (status : ℤ) (output : List ℕ) (variables : List Variable) → image.form ≡ TwoLengths → AreHigh image.objects → Agree m n → Shows image n reason status output variables → Shows image m reason status output variables
shows_same image m n reason status output variables form high h s = record {
  same_reason = low_word m n 8 h (omega arith) ∙ s.same_reason;
  same_status = ap (λ z. cast_signed w32 z) (low_word m n 4 h (omega arith)) ∙ s.same_status;
  same_output = ap (λ f. output_of f m) form ∙ output_same m n h ∙ sym (ap (λ f. output_of f n) form) ∙ s.same_output;
  same_variables = vars_same image.objects image.objects m n h high ∙ s.same_variables;
}

-- ---- the laws

long_same : (gap : ℕ) (ps : List Period) → keeps_long gap ps ≡ long_periods gap ps
long_same gap [] = refl
long_same gap (p ∷ ps) = ap (λ z. cond (nat_le gap p.n) p.count 0 + z) (long_same gap ps) ∙ by_length (nat_le gap p.n) p.count (long_periods gap ps)
  where
    by_length : (b : Bool) (c r : ℕ) → cond b c 0 + r ≡ cond b (c + r) r
    by_length true c r = refl
    by_length false c r = omega arith

-- a memory that extends another shows no less
pub more_shown : (image : ImageValue) (m n : Mem) → image.form ≡ TwoLengths → Extends m n → Begins (output_of image.form m) (output_of image.form n)
more_shown image m n form e =
    let b = begins_shown m n e in
    (b.0, ap (λ f. output_of f m ++ b.0) form ∙ b.1 ∙ sym (ap (λ f. output_of f n) form))

pub end_kept : EndKeptLaw
end_kept image input code gap fuel time c reason status output variables ready gaps e few =
    let m = memory_of image input in
    let r = keeps_law m code gap c time ready.compiled ready.shows gaps e.ended e.commits in
    let o = output_law m code ready.compiled ready.shows in
    record {
      always = λ ps. (
          let b = begins_shown (after ps m).mem (run_of image input time).mem (r.always ps) in
          let same : output_of TwoLengths (run_of image input time).mem ≡ output = sym (ap (λ f. output_of f (run_of image input time).mem) ready.form) ∙ e.shown.same_output in
          (b.0, ap (λ f. output_of f (after ps m).mem ++ b.0) ready.form ∙ b.1 ∙ same));
      grows = λ ps qs. more_shown image (after ps m).mem (after (ps ++ qs) m).mem ready.form (o.more ps qs);
      exact = λ ps h. shows_same image (after ps m).mem (run_of image input time).mem reason status output variables ready.form ready.objects (λ a out. r.exact ps h a out) e.shown;
      halts = λ ps l. r.halts ps (let q = long_same gap ps in omega arith);
      commits = (progress_law m code gap ready.compiled gaps).each;
      few = λ ps. (
          let s = o.shows ps in
          let same = s.1 in
          let most = e.commits s.0 in
          omega (arith, same, most, few));
      safe = r.safe;
    }

pub run_kept : RunKeptLaw
run_kept meaning image input code gap ready gaps as_source =
    let m = memory_of image input in
    let r = replay_law m code ready.compiled in
    let p = progress_law m code gap ready.compiled gaps in
    let o = output_law m code ready.compiled ready.shows in
    record {
      safe = λ ps at h. r.no_fault ps at h;
      begins = λ ps. (
          let s = o.shows ps in
          let b = as_source.begins s.0 in
          let same : output_of image.form (after ps m).mem ≡ output_of image.form (run_of image input s.0).mem = ap (λ f. output_of f (after ps m).mem) ready.form ∙ same_shown (after ps m).mem (run_of image input s.0).mem s.2 ∙ sym (ap (λ f. output_of f (run_of image input s.0).mem) ready.form) in
          (b.0, (b.1.0, ap (λ z. z ++ b.1.0) same ∙ b.1.1)));
      ended = λ ps h. (let e = r.at_end ps (λ on. let bad : Halted ≡ On = sym h ∙ on in cc) in as_source.ended e.time e.ended);
      grows = λ ps qs. more_shown image (after ps m).mem (after (ps ++ qs) m).mem ready.form (o.more ps qs);
      commits = p.each;
      reaches = λ fuel ps long. (
          let s = as_source.shows fuel in
          let c = (2 * fuel + 2) * length image.words in
          let few = s.commits in
          let e = reach_law m code gap c s.time ready.compiled ready.shows gaps few ps (let q = long_same gap ps in omega arith) in
          let b = begins_shown (run_of image input s.time).mem (after ps m).mem e in
          let same : output_in (meaning input fuel) ≡ output_of TwoLengths (run_of image input s.time).mem = sym s.shown ∙ ap (λ f. output_of f (run_of image input s.time).mem) ready.form in
          (b.0, ap (λ z. z ++ b.0) same ∙ b.1 ∙ sym (ap (λ f. output_of f (after ps m).mem) ready.form)));
    }
