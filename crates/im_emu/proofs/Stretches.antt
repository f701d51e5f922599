-- A run taken a step at a time, and a period.
use Rattle.std.proofs.Common.{◌≡◌, ◌≢◌, ◌<◌, ◌≤◌, ◌⊎◌, inl, inr, ℕ, suc, ◌+◌, ◌-◌, Bool, true, false, cond, refl, sym, ap, ◌∙◌, arith}
use Rattle.std.specs.Prelude.{◌==◌}
use Rattle.im_mem.specs.Memory.{Mem, little}
use Rattle.im_rv.specs.declared.step.Went.{Went}
use Rattle.im_rv.specs.declared.step.Went.TheVariants.{On, Halted, Faulted}
use Rattle.im_rv.specs.Steps.{Cpu}
use Rattle.im_rv.specs.Runs.{step_of}
use Rattle.im_rv.specs.Torn.{torn_of}
use Rattle.im_device.specs.Run.{Moment, one_step, run, torn, counting, index_of}
use Rattle.im_device.specs.Periods.{Device, fresh, power_up, power_down, powered}
use Rattle.im_device.proofs.Runs.{run_over, torn_over}
use Rattle.im_emu.specs.Stretch.{change}

-- ---- steps

-- so many steps and commits were made
abbrev pub so_far : ℕ → ℕ → Cpu → Mem → Moment
so_far steps commits c m = record { went = On; cpu = c; mem = m; steps = steps; commits = commits }

-- INDEX before and after a step, read by the run
abbrev pub differs : ℕ → ℕ → ℕ
differs i j = cond (i == j) 0 1

one_more : (b : Bool) (c : ℕ) → c + cond b 0 1 ≡ cond b c (suc c)
one_more true c = omega arith
one_more false c = omega arith

counted_is : (b ch j0 j1 : ℕ) (m m' : Mem) → j0 ≡ little m 0 4 → j1 ≡ little m' 0 4 → ch ≡ differs j0 j1 → b + ch ≡ counting m m' b
counted_is b ch j0 j1 m m' e0 e1 ec = rw (ec, e0, e1) (one_more (index_of m == index_of m') b)

-- what a step leaves, with the counts that the run keeps
abbrev left_by : Went → ℕ → ℕ → Cpu → Mem → Moment
left_by w steps commits c m = record { went = w; cpu = c; mem = m; steps = steps; commits = commits }

step_is : (i b ch j0 j1 : ℕ) (w : Went) (c c' : Cpu) (m m' : Mem) → w ≡ (step_of c m).went → c' ≡ (step_of c m).cpu → m' ≡ (step_of c m).mem → j0 ≡ little m 0 4 → j1 ≡ little m' 0 4 → ch ≡ differs j0 j1
    → left_by w (i + 1) (b + ch) c' m' ≡ one_step (so_far i b c m)
step_is i b ch j0 j1 w c c' m m' went cpu mem e0 e1 ec =
    let steps : i + 1 ≡ suc i = omega arith in
    let commits : b + ch ≡ counting m m' b = counted_is b ch j0 j1 m m' e0 e1 ec in
    rw (commits, steps, cpu, mem, went) refl

pub one_taken : (n i b ch j0 j1 : ℕ) (c c' : Cpu) (m m' : Mem) → i < n → On ≡ (step_of c m).went → c' ≡ (step_of c m).cpu → m' ≡ (step_of c m).mem → j0 ≡ little m 0 4 → j1 ≡ little m' 0 4 → ch ≡ differs j0 j1
    → run (n - (i + 1)) (so_far (i + 1) (b + ch) c' m') ≡ run (n - i) (so_far i b c m)
one_taken n i b ch j0 j1 c c' m m' below went cpu mem e0 e1 ec =
    let left : n - i ≡ suc (n - (i + 1)) = omega arith in
    rw left (ap (run (n - (i + 1))) (step_is i b ch j0 j1 On c c' m m' went cpu mem e0 e1 ec))

-- the last step halts or faults
pub last_taken : (n i b ch j0 j1 : ℕ) (w : Went) (c c' : Cpu) (m m' : Mem) → i < n → w ≢ On → w ≡ (step_of c m).went → c' ≡ (step_of c m).cpu → m' ≡ (step_of c m).mem → j0 ≡ little m 0 4 → j1 ≡ little m' 0 4 → ch ≡ differs j0 j1
    → left_by w (i + 1) (b + ch) c' m' ≡ run (n - i) (so_far i b c m)
last_taken n i b ch j0 j1 w c c' m m' below over went cpu mem e0 e1 ec =
    let left : n - i ≡ suc (n - (i + 1)) = omega arith in
    let one = step_is i b ch j0 j1 w c c' m m' went cpu mem e0 e1 ec in
    let stays = run_over (n - (i + 1)) (one_step (so_far i b c m)) (λ on. over (went ∙ on)) in
    rw left (one ∙ sym stays)

pub bounded : (ch i j : ℕ) → ch ≡ differs i j → ch ≤ 1
bounded ch i j e = grind arith

-- ---- a period

change_by : (b : Bool) → cond b 0 1 ≤ 1
change_by true = omega arith
change_by false = omega arith

pub change_few : (ch : ℕ) (before after : Mem) → ch ≡ change before after → ch ≤ 1
change_few ch before after e = let few = change_by (index_of before == index_of after) in omega arith

abbrev ended_by : Went → ℕ → ℕ → Mem → Device
ended_by w steps commits m = record { went = w; mem = m; steps = steps; commits = commits }

-- the store that is next is torn
pub torn_period : (n junk mask steps commits ch : ℕ) (w : Went) (c : Cpu) (m m1 m2 : Mem) → left_by w steps commits c m1 ≡ run n (power_up junk (fresh m)) → w ≡ On → m2 ≡ torn_of mask c m1 → ch ≡ change m1 m2
    → ended_by On steps (commits + ch) m2 ≡ powered n junk mask (fresh m)
torn_period n junk mask steps commits ch w c m m1 m2 ran on mem ec =
    let count : commits + ch ≡ counting m1 m2 commits = rw ec (one_more (index_of m1 == index_of m2) commits) in
    let torn-is : ended_by On steps (commits + ch) m2 ≡ power_down (torn mask (left_by w steps commits c m1)) = rw (count, mem, on) refl in
    torn-is ∙ ap (λ x. power_down (torn mask x)) ran

-- the run is over
pub over_period : (n junk mask steps commits : ℕ) (w : Went) (c : Cpu) (m m1 : Mem) → left_by w steps commits c m1 ≡ run n (power_up junk (fresh m)) → w ≢ On
    → ended_by w steps commits m1 ≡ powered n junk mask (fresh m)
over_period n junk mask steps commits w c m m1 ran over =
    let stays = torn_over mask (left_by w steps commits c m1) over in
    ap power_down (sym stays) ∙ ap (λ x. power_down (torn mask x)) ran

pub halted_over : (w : Went) → w ≡ Halted → w ≢ On
halted_over w e on = let bad : Halted ≡ On = sym e ∙ on in cc

pub faulted_over : (w : Went) (at : ℕ) → w ≡ Faulted at → w ≢ On
faulted_over w at e on = let bad : Faulted at ≡ On = sym e ∙ on in cc

pub over_by : (w v : Went) → v ≡ w → (v ≡ Halted) ⊎ ((at : ℕ) × (v ≡ Faulted at)) → w ≢ On
over_by w v e (inl halted) = halted_over w (sym e ∙ halted)
over_by w v e (inr faulted) = faulted_over w faulted.0 (sym e ∙ faulted.1)
