-- The device's runs and periods are those of the abstract machine.
use Rattle.std.proofs.Common.{◌≡◌, ◌≢◌, ℕ, zero, suc, ◌+◌, Bool, true, false, cond, List, [], ◌∷◌, ◌++◌, refl, sym, ap, ◌∙◌, subst, append_assoc, arith}
use Rattle.std.specs.Prelude.{not, nat_le}
use Rattle.im_mem.specs.Memory.{Mem}
use Rattle.im_rv.specs.declared.step.Went.{Went}
use Rattle.im_rv.specs.declared.step.Went.TheVariants.{On, Halted, Faulted}
use Rattle.im_rv.specs.Steps.{Cpu, Stepped}
use Rattle.im_rv.specs.Runs.{step_of}
use Rattle.im_rv.specs.Torn.{torn_of}
use Rattle.im_rv.proofs.Changes.{ends_calm}
use Rattle.im_power.specs.declared.period.Period.{Period}
use Rattle.im_device.specs.Run.{Moment, boot, index_of, unless_over, counting, one_step, after_step, run, after_tear, torn}
use Rattle.im_device.specs.Periods.{Device, fresh, power_up, power_down, powered as device_powered, repeated, power}
use Rattle.im_device.proofs.Runs.{run_over, powered_over}
use Rattle.im_replay_path.specs.Path.{Moment as PathMoment, Spell, steps, one_step as path_step, after_step as path_after, torn as path_torn, period, power as path_power, counted, long_periods as long_spells}
use Rattle.im_ckpt.specs.Runs.{is_on}
use Rattle.im_ckpt.proofs.Resume.{counts_same}
use Rattle.im_replay.specs.Replays.{after, within, and_then, long_periods}
use Rattle.im_replay.proofs.Machine.{next_of, next_by, switched_on, powered, within as path_within, and_then as path_and_then}

-- ---- with the power on

abbrev pub path_of : Moment → PathMoment Cpu
path_of y = record { regs = y.cpu; mem = y.mem; commits = y.commits; over = not (is_on y.went) }

-- one step, by how it went
by_going : (x : Moment) (s : Stepped) (w : Went) → s.went ≡ w → (s.went ≢ On → (s.cpu ≡ x.cpu) × (s.mem ≡ x.mem)) → path_after index_of (record (path_of x) { over = false }) (next_by s w) ≡ path_of (after_step x s)
by_going x s On e calm = ap (λ w. record { regs = s.cpu; mem = s.mem; commits = counting x.mem s.mem x.commits; over = not (is_on w) }) (sym e)
by_going x s Halted e calm =
    let q = calm (λ o. let bad : Halted ≡ On = sym e ∙ o in cc) in
    ap (λ c. record { regs = c; mem = x.mem; commits = x.commits; over = true }) (sym q.0)
    ∙ ap (λ n. record { regs = s.cpu; mem = x.mem; commits = n; over = true }) (sym (counts_same x.mem x.commits))
    ∙ ap (λ m. record { regs = s.cpu; mem = m; commits = counting x.mem m x.commits; over = true }) (sym q.1)
    ∙ ap (λ w. record { regs = s.cpu; mem = s.mem; commits = counting x.mem s.mem x.commits; over = not (is_on w) }) (sym e)
by_going x s (Faulted at) e calm =
    let q = calm (λ o. let bad : Faulted at ≡ On = sym e ∙ o in cc) in
    ap (λ c. record { regs = c; mem = x.mem; commits = x.commits; over = true }) (sym q.0)
    ∙ ap (λ n. record { regs = s.cpu; mem = x.mem; commits = n; over = true }) (sym (counts_same x.mem x.commits))
    ∙ ap (λ m. record { regs = s.cpu; mem = m; commits = counting x.mem m x.commits; over = true }) (sym q.1)
    ∙ ap (λ w. record { regs = s.cpu; mem = s.mem; commits = counting x.mem s.mem x.commits; over = not (is_on w) }) (sym e)

step_same : (x : Moment) → x.went ≡ On → path_step next_of index_of (path_of x) ≡ path_of (one_step x)
step_same x on =
    let s = step_of x.cpu x.mem in
    let f : not (is_on x.went) ≡ false = ap (λ w. not (is_on w)) on in
    ap (λ b. cond b (path_of x) (path_after index_of (path_of x) (next_of x.cpu x.mem))) f
    ∙ ap (λ b. path_after index_of (record (path_of x) { over = b }) (next_of x.cpu x.mem)) f
    ∙ by_going x s s.went refl (λ over. ends_calm x.cpu x.mem over)

path_still : (x : Moment) → x.went ≢ On → not (is_on x.went) ≡ true
path_still x over = by_went x.went over
  where
    by_went : (w : Went) → w ≢ On → not (is_on w) ≡ true
    by_went On h = absurd (h refl)
    by_went Halted h = refl
    by_went (Faulted at) h = refl

over_steps : (n : ℕ) (x : PathMoment Cpu) → x.over ≡ true → steps next_of index_of n x ≡ x
over_steps zero x o = refl
over_steps (suc n) x o = ap (steps next_of index_of n) (ap (λ b. cond b x (path_after index_of x (next_of x.regs x.mem))) o) ∙ over_steps n x o

pub steps_same : (n : ℕ) (x : Moment) → steps next_of index_of n (path_of x) ≡ path_of (run n x)
steps_same zero x = refl
steps_same (suc n) x = by_went x.went refl (steps_same n (one_step x))
  where
    over_case : x.went ≢ On → steps next_of index_of (suc n) (path_of x) ≡ path_of (run (suc n) x)
    over_case over = over_steps (suc n) (path_of x) (path_still x over) ∙ ap path_of (sym (run_over (suc n) x over))

    by_went : (w : Went) → x.went ≡ w → steps next_of index_of n (path_of (one_step x)) ≡ path_of (run n (one_step x)) → steps next_of index_of (suc n) (path_of x) ≡ path_of (run (suc n) x)
    by_went On e rest = ap (steps next_of index_of n) (step_same x e) ∙ rest ∙ ap path_of (sym (ap (λ w. unless_over (λ y. run n (one_step y)) w x) e))
    by_went Halted e rest = over_case (λ o. let bad : Halted ≡ On = sym e ∙ o in cc)
    by_went (Faulted at) e rest = over_case (λ o. let bad : Faulted at ≡ On = sym e ∙ o in cc)

pub torn_same : (mask : ℕ) (x : Moment) → path_torn torn_of index_of mask (path_of x) ≡ path_of (torn mask x)
torn_same mask x = by_went x.went refl
  where
    by_went : (w : Went) → x.went ≡ w → path_torn torn_of index_of mask (path_of x) ≡ path_of (torn mask x)
    by_went On e =
        ap (λ b. cond b (path_of x) (record { regs = x.cpu; mem = torn_of mask x.cpu x.mem; commits = counted index_of x.mem (torn_of mask x.cpu x.mem) x.commits; over = false })) (ap (λ w. not (is_on w)) e)
        ∙ ap (λ w. record { regs = x.cpu; mem = torn_of mask x.cpu x.mem; commits = counted index_of x.mem (torn_of mask x.cpu x.mem) x.commits; over = not (is_on w) }) (sym e)
        ∙ ap path_of (sym (ap (λ w. unless_over (after_tear mask) w x) e))
    by_went Halted e =
        ap (λ b. cond b (path_of x) (record { regs = x.cpu; mem = torn_of mask x.cpu x.mem; commits = counted index_of x.mem (torn_of mask x.cpu x.mem) x.commits; over = false })) (ap (λ w. not (is_on w)) e)
        ∙ ap path_of (sym (ap (λ w. unless_over (after_tear mask) w x) e))
    by_went (Faulted at) e =
        ap (λ b. cond b (path_of x) (record { regs = x.cpu; mem = torn_of mask x.cpu x.mem; commits = counted index_of x.mem (torn_of mask x.cpu x.mem) x.commits; over = false })) (ap (λ w. not (is_on w)) e)
        ∙ ap path_of (sym (ap (λ w. unless_over (after_tear mask) w x) e))

-- ---- from period to period

-- the same memory, commits and end; registers are lost
pub record Same (x : PathMoment Cpu) (d : Device) : Type 0 where
  pub mem : x.mem ≡ d.mem
  pub commits : x.commits ≡ d.commits
  pub over : x.over ≡ not (is_on d.went)

-- power comes
pub up_same : (junk : ℕ) (x : PathMoment Cpu) (d : Device) → Same x d → record x { regs = boot junk } ≡ path_of (power_up junk d)
up_same junk x d s =
    ap (λ m. record { regs = boot junk; mem = m; commits = x.commits; over = x.over }) s.mem
    ∙ ap (λ n. record { regs = boot junk; mem = d.mem; commits = n; over = x.over }) s.commits
    ∙ ap (λ b. record { regs = boot junk; mem = d.mem; commits = d.commits; over = b }) s.over

down_same : (x : PathMoment Cpu) (y : Moment) → x ≡ path_of y → Same x (power_down y)
down_same x y e = record { mem = ap (λ (z : PathMoment Cpu). z.mem) e; commits = ap (λ (z : PathMoment Cpu). z.commits) e; over = ap (λ (z : PathMoment Cpu). z.over) e }

abbrev one_period : Period → Device → Device
one_period p = device_powered p.n p.junk p.mask

abbrev pub spell_of : Period → Spell
spell_of p = record { n = p.n; junk = p.junk; mask = p.mask }

pub period_same : (p : Period) (x : PathMoment Cpu) (d : Device) → Same x d → Same (period next_of torn_of boot index_of (spell_of p) x) (one_period p d)
period_same p x d s = by_went d.went refl
  where
    over_case : d.went ≢ On → Same (period next_of torn_of boot index_of (spell_of p) x) (one_period p d)
    over_case over =
        let o : x.over ≡ true = s.over ∙ path_still (power_up 0 d) over in
        let e : period next_of torn_of boot index_of (spell_of p) x ≡ x = ap (λ b. cond b x (path_torn torn_of index_of p.mask (steps next_of index_of p.n (record x { regs = boot p.junk })))) o in
        subst (λ z. Same z (one_period p d)) (sym e) (subst (λ z. Same x z) (sym (powered_over p.n p.junk p.mask d over)) s)

    by_went : (w : Went) → d.went ≡ w → Same (period next_of torn_of boot index_of (spell_of p) x) (one_period p d)
    by_went On e =
        let o : x.over ≡ false = s.over ∙ ap (λ w. not (is_on w)) e in
        down_same (period next_of torn_of boot index_of (spell_of p) x) (torn p.mask (run p.n (power_up p.junk d)))
        (ap (λ b. cond b x (path_torn torn_of index_of p.mask (steps next_of index_of p.n (record x { regs = boot p.junk })))) o
        ∙ ap (λ z. path_torn torn_of index_of p.mask (steps next_of index_of p.n z)) (up_same p.junk x d s)
        ∙ ap (path_torn torn_of index_of p.mask) (steps_same p.n (power_up p.junk d))
        ∙ torn_same p.mask (run p.n (power_up p.junk d)))
    by_went Halted e = over_case (λ o. let bad : Halted ≡ On = sym e ∙ o in cc)
    by_went (Faulted at) e = over_case (λ o. let bad : Faulted at ≡ On = sym e ∙ o in cc)

-- the periods one by one
abbrev pub copies : ℕ → Spell → List Spell
copies zero s = []
copies (suc k) s = s ∷ copies k s

abbrev pub written_out : List Period → List Spell
written_out [] = []
written_out (p ∷ ps) = copies p.count (spell_of p) ++ written_out ps

pub path-append : (ss rs : List Spell) (x : PathMoment Cpu) → path_power next_of torn_of boot index_of (ss ++ rs) x ≡ path_power next_of torn_of boot index_of rs (path_power next_of torn_of boot index_of ss x)
path-append [] rs x = refl
path-append (s ∷ ss) rs x = path-append ss rs (period next_of torn_of boot index_of s x)

copies_same : (k : ℕ) (p : Period) (x : PathMoment Cpu) (d : Device) → Same x d → Same (path_power next_of torn_of boot index_of (copies k (spell_of p)) x) (repeated k (one_period p) d)
copies_same zero p x d s = s
copies_same (suc k) p x d s = copies_same k p (period next_of torn_of boot index_of (spell_of p) x) (one_period p d) (period_same p x d s)

power_same : (ps : List Period) (x : PathMoment Cpu) (d : Device) → Same x d → Same (path_power next_of torn_of boot index_of (written_out ps) x) (power ps d)
power_same [] x d s = s
power_same (p ∷ ps) x d s =
    subst (λ z. Same z (power ps (repeated p.count (one_period p) d))) (sym (path-append (copies p.count (spell_of p)) (written_out ps) x))
    (power_same ps (path_power next_of torn_of boot index_of (copies p.count (spell_of p)) x) (repeated p.count (one_period p) d) (copies_same p.count p x d s))

pub after_same : (ps : List Period) (m : Mem) → Same (powered (written_out ps) m) (after ps m)
after_same ps m = power_same ps (switched_on m) (fresh m) (record { mem = refl; commits = refl; over = refl })

pub within_same : (ps : List Period) (n junk : ℕ) (m : Mem) → path_within (written_out ps) n junk m ≡ path_of (within ps n junk m)
within_same ps n junk m = ap (steps next_of index_of n) (up_same junk (powered (written_out ps) m) (after ps m) (after_same ps m)) ∙ steps_same n (power_up junk (after ps m))

-- one period more
pub more_same : (ps : List Period) (n junk mask : ℕ) (m : Mem) → Same (path_and_then (record { n = n; junk = junk; mask = mask }) (powered (written_out ps) m)) (after (and_then ps n junk mask) m)
more_same ps n junk mask m =
    let p : Period = record { n = n; junk = junk; count = 1; mask = mask } in
    subst (λ z. Same z (after (and_then ps n junk mask) m))
    (ap (λ ss. powered ss m) (written-more ps p) ∙ path-append (written_out ps) (spell_of p ∷ []) (switched_on m))
    (after_same (and_then ps n junk mask) m)
  where
    append-nil : (ss : List Spell) → ss ++ [] ≡ ss
    append-nil [] = refl
    append-nil (s ∷ ss) = ap (λ z. s ∷ z) (append-nil ss)

    written-more : (ps : List Period) (p : Period) → written_out (ps ++ p ∷ []) ≡ written_out ps ++ copies p.count (spell_of p)
    written-more [] p = append-nil (copies p.count (spell_of p))
    written-more (q ∷ qs) p = ap (λ z. copies q.count (spell_of q) ++ z) (written-more qs p) ∙ sym (append_assoc (copies q.count (spell_of q)) (written_out qs) (copies p.count (spell_of p)))

-- ---- long periods

pub long_same : (k : ℕ) (ps : List Period) → long_spells k (written_out ps) ≡ long_periods k ps
long_same k [] = refl
long_same k (p ∷ ps) = by_length (nat_le k p.n) refl (long_same k ps)
  where
    some : (c : ℕ) → nat_le k p.n ≡ true → long_spells k (written_out ps) ≡ long_periods k ps → long_spells k (copies c (spell_of p) ++ written_out ps) ≡ c + long_periods k ps
    some zero e rest = rest ∙ (let q : long_periods k ps ≡ 0 + long_periods k ps = omega arith in q)
    some (suc c) e rest = ap (λ b. cond b (suc (long_spells k (copies c (spell_of p) ++ written_out ps))) (long_spells k (copies c (spell_of p) ++ written_out ps))) e ∙ ap suc (some c e rest) ∙ (let q : suc (c + long_periods k ps) ≡ suc c + long_periods k ps = omega arith in q)

    none : (c : ℕ) → nat_le k p.n ≡ false → long_spells k (written_out ps) ≡ long_periods k ps → long_spells k (copies c (spell_of p) ++ written_out ps) ≡ long_periods k ps
    none zero e rest = rest
    none (suc c) e rest = ap (λ b. cond b (suc (long_spells k (copies c (spell_of p) ++ written_out ps))) (long_spells k (copies c (spell_of p) ++ written_out ps))) e ∙ none c e rest

    by_length : (b : Bool) → nat_le k p.n ≡ b → long_spells k (written_out ps) ≡ long_periods k ps → long_spells k (written_out (p ∷ ps)) ≡ cond (nat_le k p.n) (p.count + long_periods k ps) (long_periods k ps)
    by_length true e rest = some p.count e rest ∙ sym (ap (λ b. cond b (p.count + long_periods k ps) (long_periods k ps)) e)
    by_length false e rest = none p.count e rest ∙ sym (ap (λ b. cond b (p.count + long_periods k ps) (long_periods k ps)) e)

-- ---- ends

pub on_of : (w : Went) → not (is_on w) ≡ false → w ≡ On
on_of On h = refl
on_of Halted h = absurd (cc)
on_of (Faulted at) h = absurd (cc)

pub going_of : (w : Went) → w ≡ On → not (is_on w) ≡ false
going_of w e = ap (λ z. not (is_on z)) e

pub over_of : (w : Went) → w ≢ On → not (is_on w) ≡ true
over_of On h = absurd (h refl)
over_of Halted h = refl
over_of (Faulted at) h = refl

pub off_of : (w : Went) → not (is_on w) ≡ true → w ≢ On
off_of On h q = absurd (let bad : true ≡ false = sym h in cc)
off_of Halted h q = cc
off_of (Faulted at) h q = cc
