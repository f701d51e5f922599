-- Periods taken one at a time, with counts that stay at their type's end.
use Rattle.std.proofs.Common.{◌≡◌, ◌≢◌, ◌<◌, ◌≤◌, ℕ, suc, ◌+◌, ◌^◌, List, [], ◌∷◌, length, drop, get_or, refl, sym, ap, ◌∙◌, subst, arith}
use Rattle.std.proofs.lemmas.List.{at_drop_more, at_drop_all}
use Rattle.im_rv.specs.declared.step.Went.TheVariants.{On}
use Rattle.im_power.specs.declared.period.Period.{Period}
use Rattle.im_device.specs.Laws.{behind}
use Rattle.im_device.specs.Periods.{Device, fresh, powered, repeated, power}
use Rattle.im_device.proofs.Runs.{powered_behind, powered_over, repeated_behind, repeated_over, power_behind, power_parts}
use Rattle.im_emu.specs.State.{counted, saturated}
use Rattle.im_emu.specs.Laws.{PeriodsLaw}

-- ---- counts

-- what is done doesn't depend on the counts
abbrev pub IsBlind : (Device → Device) → Type 0
IsBlind next = (first d : Device) → next (behind first d) ≡ behind first (next d)

counted_behind : (d e : Device) → counted (behind (counted d) e) ≡ counted (behind d e)
counted_behind d e =
    let steps : saturated (saturated d.steps + e.steps) ≡ saturated (d.steps + e.steps) = omega arith in
    let commits : saturated (saturated d.commits + e.commits) ≡ saturated (d.commits + e.commits) = omega arith in
    rw (steps, commits) refl

-- the device with its counts at 0
abbrev uncounted : Device → Device
uncounted d = record { went = d.went; mem = d.mem; steps = 0; commits = 0 }

recounted : (d : Device) → behind d (uncounted d) ≡ d
recounted d =
    let steps : d.steps + 0 ≡ d.steps = omega arith in
    let commits : d.commits + 0 ≡ d.commits = omega arith in
    rw (steps, commits) refl

from_zero : (next : Device → Device) → IsBlind next → (d : Device) → next d ≡ behind d (next (uncounted d))
from_zero next blind d = ap next (sym (recounted d)) ∙ blind d (uncounted d)

pub counted_first : (next : Device → Device) → IsBlind next → (d : Device) → counted (next (counted d)) ≡ counted (next d)
counted_first next blind d =
    ap counted (from_zero next blind (counted d)) ∙ counted_behind d (next (uncounted d)) ∙ ap counted (sym (from_zero next blind d))

pub counted_same : (d : Device) → d.steps < 2 ^ 64 → d.commits < 2 ^ 64 → counted d ≡ d
counted_same d a b =
    let steps : saturated d.steps ≡ d.steps = omega arith in
    let commits : saturated d.commits ≡ d.commits = omega arith in
    rw (steps, commits) refl

-- ---- one period

-- it is run on memory, and the counts are added
pub added : (next : Device → Device) → IsBlind next → (d e : Device) → d.went ≡ On → e ≡ next (fresh d.mem)
    → record { went = e.went; mem = e.mem; steps = saturated (d.steps + e.steps); commits = saturated (d.commits + e.commits) } ≡ counted (next d)
added next blind d e on is =
    let same : fresh d.mem ≡ uncounted d = rw on refl in
    ap (λ x. counted (behind d x)) (is ∙ ap next same) ∙ ap counted (sym (from_zero next blind d))

pub one_blind : (p : Period) → IsBlind (powered p.n p.junk p.mask)
one_blind p first d = powered_behind first d p.n p.junk p.mask

-- ---- its repeats

-- one of the repeats that are left
pub repeat_first : (k : ℕ) (p : Period) (now later : Device) → later ≡ counted (powered p.n p.junk p.mask now)
    → counted (repeated k (powered p.n p.junk p.mask) later) ≡ counted (repeated (suc k) (powered p.n p.junk p.mask) now)
repeat_first k p now later e =
    let next = powered p.n p.junk p.mask in
    ap (λ d. counted (repeated k next d)) e ∙ counted_first (repeated k next) (λ first d. repeated_behind first d k next (one_blind p first)) (next now)

-- none of the repeats does anything, as the run is over
pub repeat_over : (k : ℕ) (p : Period) (now : Device) → now.went ≢ On → now.steps < 2 ^ 64 → now.commits < 2 ^ 64 → now ≡ counted (repeated k (powered p.n p.junk p.mask) now)
repeat_over k p now over a b =
    let next = powered p.n p.junk p.mask in
    sym (ap counted (repeated_over k next now (powered_over p.n p.junk p.mask now over)) ∙ counted_same now a b)

-- none of the repeats is left
pub repeat_none : (k : ℕ) (p : Period) (now : Device) → k ≡ 0 → now.steps < 2 ^ 64 → now.commits < 2 ^ 64 → now ≡ counted (repeated k (powered p.n p.junk p.mask) now)
repeat_none k p now none a b = rw none (sym (counted_same now a b))

-- ---- a list of periods

periods_blind : (periods : List Period) → IsBlind (power periods)
periods_blind periods first d = power_behind first periods d

pub period_first : (p : Period) (ps : List Period) (now later : Device) → later ≡ counted (power (p ∷ []) now) → counted (power ps later) ≡ counted (power (p ∷ ps) now)
period_first p ps now later e = ap (λ d. counted (power ps d)) e ∙ counted_first (power ps) (periods_blind ps) (power (p ∷ []) now)

-- one of the periods that are left
pub next_period : (d : Period) (i : ℕ) (ps qs : List Period) (s t first : Device) → qs ≡ ps → i < length qs → counted (power (drop i ps) s) ≡ counted (power ps first) → t ≡ counted (power (get_or qs i d ∷ []) s)
    → counted (power (drop (i + 1) ps) t) ≡ counted (power ps first)
next_period d i ps qs s t first e below rest one =
    let there : i < length ps = subst (λ xs. i < length xs) e below in
    let at : t ≡ counted (power (get_or ps i d ∷ []) s) = one ∙ ap (λ xs. counted (power (get_or xs i d ∷ []) s)) e in
    period_first (get_or ps i d) (drop (i + 1) ps) s t at
    ∙ sym (at_drop_more (λ xs. counted (power xs s)) ps i d there)
    ∙ rest

-- none of the periods is left
pub all_periods : (i : ℕ) (ps qs : List Period) (s first : Device) → qs ≡ ps → length qs ≤ i → s.steps < 2 ^ 64 → s.commits < 2 ^ 64 → counted (power (drop i ps) s) ≡ counted (power ps first) → s ≡ counted (power ps first)
all_periods i ps qs s first e ends steps commits rest =
    let none : length ps ≤ i = subst (λ xs. length xs ≤ i) e ends in
    sym (counted_same s steps commits)
    ∙ sym (at_drop_all (λ xs. counted (power xs s)) ps i none)
    ∙ rest

pub two_parts : PeriodsLaw
two_parts first second d = ap counted (power_parts first second d) ∙ sym (counted_first (power second) (periods_blind second) (power first d))
