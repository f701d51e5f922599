-- A run takes no more steps than its periods have.
use Rattle.std.proofs.Common.{◌≡◌, ◌≤◌, ◌<◌, ℕ, zero, suc, ◌+◌, ◌*◌, ◌^◌, Bool, true, false, cond, Option, Some, None, Ok, Err, List, [], ◌∷◌, map, refl, subst, arith}
use Rattle.std.specs.Prelude.{◌==◌, ◌&&◌, nat_lt, if◌then◌else◌}
use Rattle.std.specs.List.{list_all, slice_split}
use Rattle.std.proofs.lemmas.Bool.{ltb-true, ltb-false}
use Rattle.std.proofs.lemmas.List.Sums.{sum_by-cons}
use Rattle.im_rv.specs.declared.step.Went.{Went}
use Rattle.im_rv.specs.declared.step.Went.TheVariants.{On, Halted, Faulted}
use Rattle.im_rv.specs.Runs.{step_of}
use Rattle.im_rv.specs.Torn.{torn_of}
use Rattle.im_power.specs.declared.period.Period.{Period}
use Rattle.im_power.specs.declared.line.Line.{Line}
use Rattle.im_power.specs.declared.line.Line.TheVariants.{Skipped, Gives, Malformed, ZeroRepeats}
use Rattle.im_power.specs.declared.fault.TraceFault.{TraceFault}
use Rattle.im_device.specs.Run.{Moment, unless_over, index_of, one_step, run, torn, after_tear}
use Rattle.im_device.specs.Periods.{Device, power_up, powered, repeated, power}
use Rattle.im_power.specs.Text.{is_digit, value_of, number, mask_of, period, by_fields, is_comment, fields, line_of, lines_of, periods_of, first_fault, repeats, or_periods, trace_of, is_line_end}
use Rattle.im_cmd.specs.Stages.{AreShort, IsTrace}

-- so many steps and commits more, at most
pub record Bounded (n : ℕ) (before after : Device) : Type 0 where
  pub steps : after.steps ≤ before.steps + n
  pub commits : after.commits ≤ before.commits + n

-- the same within a period
record MovesBy (n : ℕ) (before after : Moment) : Type 0 where
  steps : after.steps ≤ before.steps + n
  commits : after.commits ≤ before.commits + n

counting_bounded : (b : Bool) (c : ℕ) → cond b c (suc c) ≤ c + 1
counting_bounded true c = omega arith
counting_bounded false c = omega arith

step_moves : (x : Moment) → MovesBy 1 x (one_step x)
step_moves x = record {
  steps = omega arith;
  commits = counting_bounded (index_of x.mem == index_of (step_of x.cpu x.mem).mem) x.commits;
}

run_by : (w : Went) (n : ℕ) (x : Moment) → ((y : Moment) → MovesBy n y (run n y)) → MovesBy (suc n) x (unless_over (λ y. run n (one_step y)) w x)
run_by On n x h =
    let one = step_moves x in
    let rest = h (one_step x) in
    record { steps = omega (arith, one.steps, rest.steps); commits = omega (arith, one.commits, rest.commits) }
run_by Halted n x h = record { steps = omega arith; commits = omega arith }
run_by (Faulted at) n x h = record { steps = omega arith; commits = omega arith }

run_moves : (n : ℕ) (x : Moment) → MovesBy n x (run n x)
run_moves zero x = record { steps = omega arith; commits = omega arith }
run_moves (suc n) x = run_by x.went n x (run_moves n)

torn_by : (w : Went) (mask : ℕ) (x : Moment) → MovesBy 1 x (unless_over (after_tear mask) w x)
torn_by On mask x = record {
  steps = omega arith;
  commits = counting_bounded (index_of x.mem == index_of (torn_of mask x.cpu x.mem)) x.commits;
}
torn_by Halted mask x = record { steps = omega arith; commits = omega arith }
torn_by (Faulted at) mask x = record { steps = omega arith; commits = omega arith }

powered_bounded : (p : Period) (d : Device) → p.n < 2 ^ 32 → Bounded (2 ^ 32) d (powered p.n p.junk p.mask d)
powered_bounded p d few =
    let x = run p.n (power_up p.junk d) in
    let ran = run_moves p.n (power_up p.junk d) in
    let tore = torn_by x.went p.mask x in
    record { steps = omega (arith, ran.steps, tore.steps); commits = omega (arith, ran.commits, tore.commits) }

repeated_bounded : (count : ℕ) (next : Device → Device) (d : Device) → ((e : Device) → Bounded (2 ^ 32) e (next e)) → Bounded (count * 2 ^ 32) d (repeated count next d)
repeated_bounded zero next d h = record { steps = omega arith; commits = omega arith }
repeated_bounded (suc count) next d h =
    let one = h d in
    let rest = repeated_bounded count next (next d) h in
    record { steps = omega (arith, one.steps, rest.steps); commits = omega (arith, one.commits, rest.commits) }

pub power_bounded : (ps : List Period) (d : Device) → AreShort ps → Bounded (repeats ps * 2 ^ 32) d (power ps d)
power_bounded [] d h = record { steps = omega arith; commits = omega arith }
power_bounded (p ∷ ps) d h =
    let left = repeated p.count (powered p.n p.junk p.mask) d in
    let one = repeated_bounded p.count (powered p.n p.junk p.mask) d (λ e. powered_bounded p e h.0) in
    let rest = power_bounded ps left h.1 in
    let whole : repeats (p ∷ ps) ≡ p.count + repeats ps = sum_by-cons (λ (period : Period). period.count) p ps in
    record { steps = omega (arith, whole, one.steps, rest.steps); commits = omega (arith, whole, one.commits, rest.commits) }

-- ---- the periods of a text

chosen : (b : Bool) (v n : ℕ) → (b ≡ true → v < 2 ^ 32) → (if b then Some v else None) ≡ Some n → n < 2 ^ 32
chosen true v n h e = let q : v ≡ n = cc in omega (arith, h refl)
chosen false v n h e = absurd cc

pub both_true : (a b : Bool) → (a && b) ≡ true → b ≡ true
both_true true b e = e
both_true false b e = absurd cc

number_short : (field : List ℕ) (n : ℕ) → number field ≡ Some n → n < 2 ^ 32
unfolding number
number_short field n e =
    chosen (list_all is_digit field && nat_lt (value_of field) (2 ^ 32)) (value_of field) n
    (λ h. ltb-true (value_of field) (2 ^ 32) (both_true (list_all is_digit field) _ h)) e

abbrev IsShort : Line → Type 0
IsShort (Gives p) = p.n < 2 ^ 32
IsShort Skipped = Unit {0}
IsShort Malformed = Unit {0}
IsShort ZeroRepeats = Unit {0}

period_short : (n junk count mask : Option ℕ) → ((k : ℕ) → n ≡ Some k → k < 2 ^ 32) → IsShort (period n junk count mask)
period_short (Some n) (Some junk) (Some zero) (Some mask) h = tt
period_short (Some n) (Some junk) (Some (suc count)) (Some mask) h = h n refl
period_short (Some n) (Some junk) (Some zero) None h = tt
period_short (Some n) (Some junk) (Some (suc count)) None h = tt
period_short (Some n) (Some junk) None mask h = tt
period_short (Some n) None count mask h = tt
period_short None junk count mask h = tt

fields_short : (fs : List (List ℕ)) → IsShort (by_fields fs)
fields_short [] = tt
fields_short (n ∷ []) = period_short (number n) (Some 0) (Some 1) (Some 0) (number_short n)
fields_short (n ∷ junk ∷ []) = period_short (number n) (number junk) (Some 1) (Some 0) (number_short n)
fields_short (n ∷ junk ∷ count ∷ []) = period_short (number n) (number junk) (number count) (Some 0) (number_short n)
fields_short (n ∷ junk ∷ count ∷ mask ∷ []) = period_short (number n) (number junk) (number count) (mask_of (number mask)) (number_short n)
fields_short (n ∷ junk ∷ count ∷ mask ∷ other ∷ others) = tt

either_short : (b : Bool) (line : Line) → IsShort line → IsShort (if b then Skipped else line)
either_short true line h = tt
either_short false line h = h

line_short : (text : List ℕ) → IsShort (line_of text)
unfolding line_of
line_short text = either_short (is_comment (fields text)) (by_fields (fields text)) (fields_short (fields text))

more_short : (line : Line) (lines : List Line) → IsShort line → AreShort (periods_of lines) → AreShort (periods_of (line ∷ lines))
more_short (Gives p) lines h k = (h, k)
more_short Skipped lines h k = k
more_short Malformed lines h k = k
more_short ZeroRepeats lines h k = k

lines_short : (texts : List (List ℕ)) → AreShort (periods_of (map line_of texts))
lines_short [] = tt
lines_short (text ∷ texts) = more_short (line_of text) (map line_of texts) (line_short text) (lines_short texts)

counted_trace : (b : Bool) (ps qs : List Period) (f : TraceFault) → (b ≡ false → repeats ps ≤ 1000000) → AreShort ps → (if b then Err f else Ok ps) ≡ Ok qs → IsTrace qs
counted_trace true ps qs f h k e = absurd cc
counted_trace false ps qs f h k e = let q : ps ≡ qs = cc in subst IsTrace q (record { short = k; few = h refl })

either_trace : (f : Option TraceFault) (ps qs : List Period) → AreShort ps → or_periods f ps ≡ Ok qs → IsTrace qs
either_trace None ps qs k e = counted_trace (nat_lt 1000000 (repeats ps)) ps qs _ (ltb-false 1000000 (repeats ps)) k e
either_trace (Some f) ps qs k e = absurd cc

pub trace_is : (text : List ℕ) (ps : List Period) → trace_of text ≡ Ok ps → IsTrace ps
unfolding trace_of lines_of
trace_is text ps e = either_trace (first_fault 1 (lines_of text)) (periods_of (lines_of text)) ps (lines_short (slice_split is_line_end text)) e
