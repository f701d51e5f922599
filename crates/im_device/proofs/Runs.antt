-- Runs and lists of periods in two parts, and counts that went before.
use Rattle.std.proofs.Common.{◌≡◌, ◌≢◌, ℕ, zero, suc, ◌+◌, Bool, true, false, cond, List, [], ◌∷◌, ◌++◌, refl, sym, ap, ◌∙◌, arith}
use Rattle.std.specs.Prelude.{◌==◌}
use Rattle.im_rv.specs.declared.step.Went.{Went}
use Rattle.im_rv.specs.declared.step.Went.TheVariants.{On, Halted, Faulted}
use Rattle.im_rv.specs.Runs.{step_of}
use Rattle.im_power.specs.declared.period.Period.{Period}
use Rattle.im_rv.specs.Torn.{torn_of}
use Rattle.im_device.specs.Run.{Moment, unless_over, one_step, run, torn, after_tear, index_of}
use Rattle.im_device.specs.Periods.{Device, fresh, power_up, power_down, powered, repeated, power}
use Rattle.im_device.specs.Laws.{RunLaw, SplitTraceLaw, behind, on_memory_of}

-- ---- a run that is over stays as it is

pub stays : {X : Type 0} (next : X → X) (w : Went) (x : X) → w ≢ On → unless_over next w x ≡ x
stays next On x over = absurd (over refl)
stays next Halted x over = refl
stays next (Faulted at) x over = refl

pub run_over : (n : ℕ) (x : Moment) → x.went ≢ On → run n x ≡ x
run_over zero x over = refl
run_over (suc n) x over = stays (λ y. run n (one_step y)) x.went x over

pub torn_over : (mask : ℕ) (x : Moment) → x.went ≢ On → torn mask x ≡ x
torn_over mask x over = stays (after_tear mask) x.went x over

pub powered_over : (n junk mask : ℕ) (d : Device) → d.went ≢ On → powered n junk mask d ≡ d
powered_over n junk mask d over =
    ap (λ x. power_down (torn mask x)) (run_over n (power_up junk d) over) ∙ ap power_down (torn_over mask (power_up junk d) over)

pub repeated_over : (k : ℕ) (next : Device → Device) (d : Device) → next d ≡ d → repeated k next d ≡ d
repeated_over zero next d same = refl
repeated_over (suc k) next d same = ap (repeated k next) same ∙ repeated_over k next d same

pub power_over : (periods : List Period) (d : Device) → d.went ≢ On → power periods d ≡ d
power_over [] d over = refl
power_over (p ∷ ps) d over =
    ap (power ps) (repeated_over p.count (powered p.n p.junk p.mask) d (powered_over p.n p.junk p.mask d over)) ∙ power_over ps d over

-- ---- two parts

parted : (w : Went) (a b : ℕ) (x : Moment) → w ≡ x.went → ((y : Moment) → run (a + b) y ≡ run b (run a y))
    → unless_over (λ y. run (a + b) (one_step y)) w x ≡ run b (unless_over (λ y. run a (one_step y)) w x)
parted On a b x e rest = rest (one_step x)
parted Halted a b x e rest = sym (run_over b x (λ on. let bad : Halted ≡ On = e ∙ on in cc))
parted (Faulted at) a b x e rest = sym (run_over b x (λ on. let bad : Faulted at ≡ On = e ∙ on in cc))

pub run_parts : RunLaw
run_parts zero b x = let e : 0 + b ≡ b = omega arith in rw e refl
run_parts (suc a) b x = let e : suc a + b ≡ suc (a + b) = omega arith in rw e (parted x.went a b x refl (run_parts a b))

pub power_parts : (first second : List Period) (d : Device) → power (first ++ second) d ≡ power second (power first d)
power_parts [] second d = refl
power_parts (p ∷ ps) second d = power_parts ps second (repeated p.count (powered p.n p.junk p.mask) d)

-- ---- counts that went before

abbrev later : ℕ → ℕ → Moment → Moment
later s c x = record { went = x.went; cpu = x.cpu; mem = x.mem; steps = s + x.steps; commits = c + x.commits }

counted_later : (b : Bool) (c k : ℕ) → cond b (c + k) (suc (c + k)) ≡ c + cond b k (suc k)
counted_later true c k = refl
counted_later false c k = omega arith

step_later : (s c : ℕ) (x : Moment) → one_step (later s c x) ≡ later s c (one_step x)
step_later s c x =
    let steps : suc (s + x.steps) ≡ s + suc x.steps = omega arith in
    rw (steps, counted_later (index_of x.mem == index_of (step_of x.cpu x.mem).mem) c x.commits) refl

next_later : (w : Went) (n s c : ℕ) (x : Moment) → ((y : Moment) → run n (later s c y) ≡ later s c (run n y))
    → unless_over (λ y. run n (one_step y)) w (later s c x) ≡ later s c (unless_over (λ y. run n (one_step y)) w x)
next_later On n s c x rest = ap (run n) (step_later s c x) ∙ rest (one_step x)
next_later Halted n s c x rest = refl
next_later (Faulted at) n s c x rest = refl

run_later : (n s c : ℕ) (x : Moment) → run n (later s c x) ≡ later s c (run n x)
run_later zero s c x = refl
run_later (suc n) s c x = next_later x.went n s c x (run_later n s c)

torn_by_later : (w : Went) (mask s c : ℕ) (x : Moment) → unless_over (after_tear mask) w (later s c x) ≡ later s c (unless_over (after_tear mask) w x)
torn_by_later On mask s c x = rw (counted_later (index_of x.mem == index_of (torn_of mask x.cpu x.mem)) c x.commits) refl
torn_by_later Halted mask s c x = refl
torn_by_later (Faulted at) mask s c x = refl

pub powered_behind : (first d : Device) (n junk mask : ℕ) → powered n junk mask (behind first d) ≡ behind first (powered n junk mask d)
powered_behind first d n junk mask =
    let x = run n (power_up junk d) in
    ap (λ y. power_down (torn mask y)) (run_later n first.steps first.commits (power_up junk d))
    ∙ ap power_down (torn_by_later x.went mask first.steps first.commits x)

pub repeated_behind : (first d : Device) (k : ℕ) (next : Device → Device) → ((e : Device) → next (behind first e) ≡ behind first (next e)) → repeated k next (behind first d) ≡ behind first (repeated k next d)
repeated_behind first d zero next h = refl
repeated_behind first d (suc k) next h = ap (repeated k next) (h d) ∙ repeated_behind first (next d) k next h

pub power_behind : (first : Device) (periods : List Period) (d : Device) → power periods (behind first d) ≡ behind first (power periods d)
power_behind first [] d = refl
power_behind first (p ∷ ps) d =
    ap (power ps) (repeated_behind first d p.count (powered p.n p.junk p.mask) (λ e. powered_behind first e p.n p.junk p.mask))
    ∙ power_behind first ps (repeated p.count (powered p.n p.junk p.mask) d)

-- periods run on memory alone
on_memory : (w : Went) (periods : List Period) (d : Device) → w ≡ d.went → power periods d ≡ unless_over (on_memory_of periods) w d
on_memory On periods d e =
    let steps : d.steps + 0 ≡ d.steps = omega arith in
    let commits : d.commits + 0 ≡ d.commits = omega arith in
    let same : behind d (fresh d.mem) ≡ d = rw (steps, commits, e) refl in
    ap (power periods) (sym same) ∙ power_behind d periods (fresh d.mem)
on_memory Halted periods d e = power_over periods d (λ on. let bad : Halted ≡ On = e ∙ on in cc)
on_memory (Faulted at) periods d e = power_over periods d (λ on. let bad : Faulted at ≡ On = e ∙ on in cc)

pub split : SplitTraceLaw
split first second m = power_parts first second (fresh m) ∙ on_memory (power first (fresh m)).went second (power first (fresh m)) refl
