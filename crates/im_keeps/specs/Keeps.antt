-- The headline: what a written image keeps of its source's meaning, whatever power does.
use Rattle.std.specs.Prelude.{◌≡◌, ◌≢◌, ℕ, ◌+◌, ◌*◌, ◌<◌, ◌≤◌, ◌^◌, ◌⊎◌, nat_le, cond, List, [], ◌∷◌, ◌++◌, length, All, ℤ}
use Rattle.im_num.specs.Variables.{Variable}
use Rattle.im_mem.specs.Memory.{Mem}
use Rattle.im_rv.specs.declared.step.Went.TheVariants.{On, Halted, Faulted}
use Rattle.im_image.specs.Contents.{ImageValue}
use Rattle.im_power.specs.declared.period.Period.{Period}
use Rattle.im_store.specs.Outcomes.{Outcome, Undef, More, End, IsDefined}
use Rattle.im_device.specs.Load.{memory_of}
use Rattle.im_device.specs.Periods.{Device, fresh, power}
use Rattle.im_device.specs.Shows.{output_of, status_of, reason_of}
use Rattle.im_device.specs.Variables.{vars_of}

-- what a source does, by its input and by the fuel that it has: a unit for each entry of a loop's body and for each call
abbrev pub Meaning : Type 0
Meaning = List ℕ → ℕ → Outcome

pub record IsInput (input : List ℕ) : Type 0 where
  pub bytes : All (λ byte. byte < 2 ^ 8) input
  pub short : length input ≤ 1048576

-- nothing that the source does on this input is undefined
abbrev pub IsRightFor : Meaning → List ℕ → Type 0
IsRightFor meaning input = (fuel : ℕ) → IsDefined (meaning input fuel)

-- the output so far, or in the end
abbrev pub output_in : Outcome → List ℕ
output_in (Undef why) = []
output_in (More output) = output
output_in (End reason status output variables) = output

-- the second list begins with the first
abbrev pub Begins : List ℕ → List ℕ → Type 0
Begins front whole = (rest : List ℕ) × (front ++ rest ≡ whole)

-- the device after these periods, which began with that image and input
abbrev pub device_after : ImageValue → List ℕ → List Period → Device
device_after image input periods = power periods (fresh (memory_of image input))

-- how many of the periods have at least so many instructions, repeats counted
abbrev pub long_periods : ℕ → List Period → ℕ
long_periods gap [] = 0
long_periods gap (p ∷ ps) = cond (nat_le gap p.n) p.count 0 + long_periods gap ps

-- a memory shows that reason and status, that output and those variables
pub record Shows (image : ImageValue) (mem : Mem) (reason : ℕ) (status : ℤ) (output : List ℕ) (variables : List Variable) : Type 0 where
  pub same_reason : reason_of mem ≡ reason
  pub same_status : status_of mem ≡ status
  pub same_output : output_of image.form mem ≡ output
  pub same_variables : vars_of image.objects mem ≡ variables

-- one period more
abbrev pub and_then : List Period → ℕ → ℕ → ℕ → List Period
and_then periods n junk mask = periods ++ record { n = n; junk = junk; count = 1; mask = mask } ∷ []

-- what was shown is never taken back
abbrev pub Grows : ImageValue → List ℕ → Type 0
Grows image input = (periods more : List Period) →
    Begins (output_of image.form (device_after image input periods).mem) (output_of image.form (device_after image input (periods ++ more)).mem)

-- a period of at least gap instructions commits or ends the run
abbrev pub Commits : ImageValue → ℕ → List ℕ → Type 0
Commits image gap input = (periods : List Period) (n junk mask : ℕ) → gap ≤ n → (device_after image input periods).went ≡ On →
    ((device_after image input periods).commits < (device_after image input (and_then periods n junk mask)).commits) ⊎ ((device_after image input (and_then periods n junk mask)).went ≢ On)

-- the source ends on this input with so much fuel: whatever the periods, the output is always a prefix of the source's,
-- and never shrinks; at a halt output, reason, status and variables are exactly the source's; more than (2 fuel + 2) W
-- periods of at least gap instructions, with any others among them, reach the halt, W being the image's words, and each
-- of them commits or ends the run; there are never more than (2 fuel + 1) W commits; and no machine fault comes
pub record KeepsEnd (image : ImageValue) (gap : ℕ) (input : List ℕ) (fuel reason : ℕ) (status : ℤ) (output : List ℕ) (variables : List Variable) : Type 0 where
  pub always : (periods : List Period) → Begins (output_of image.form (device_after image input periods).mem) output
  pub exact : (periods : List Period) → (device_after image input periods).went ≡ Halted → Shows image (device_after image input periods).mem reason status output variables
  pub grows : Grows image input
  pub halts : (periods : List Period) → (2 * fuel + 2) * length image.words < long_periods gap periods → (device_after image input periods).went ≡ Halted
  pub commits : Commits image gap input
  pub few : (periods : List Period) → (device_after image input periods).commits ≤ (2 * fuel + 1) * length image.words
  pub safe : (periods : List Period) (at : ℕ) → (device_after image input periods).went ≡ Faulted at → ⊥

-- an end of the source on this input
pub record EndsOn (meaning : Meaning) (input : List ℕ) : Type 0 where
  pub fuel : ℕ
  pub reason : ℕ
  pub status : ℤ
  pub output : List ℕ
  pub variables : List Variable
  pub ends : meaning input fuel ≡ End reason status output variables

-- the source is right on this input with any fuel, though it may never end: no machine fault comes, the output is always
-- a prefix of what the source writes with some fuel, and a halt comes only where the source ends; each period of at least
-- gap instructions commits or ends the run; and what the source writes with so much fuel is shown after more than
-- (2 fuel + 2) W periods of at least gap instructions, with any others among them; output never shrinks
pub record KeepsOn (meaning : Meaning) (image : ImageValue) (gap : ℕ) (input : List ℕ) : Type 0 where
  pub safe : (periods : List Period) (at : ℕ) → (device_after image input periods).went ≡ Faulted at → ⊥
  pub begins : (periods : List Period) → (fuel : ℕ) × Begins (output_of image.form (device_after image input periods).mem) (output_in (meaning input fuel))
  pub ended : (periods : List Period) → (device_after image input periods).went ≡ Halted → EndsOn meaning input
  pub grows : Grows image input
  pub commits : Commits image gap input
  pub reaches : (fuel : ℕ) (periods : List Period) → (2 * fuel + 2) * length image.words < long_periods gap periods →
      Begins (output_in (meaning input fuel)) (output_of image.form (device_after image input periods).mem)

-- the written image keeps the meaning, for every input and every list of periods, whichever word all registers but x0 hold
-- when power comes, another each time, and whichever bytes of a store power lets through
pub record Keeps (meaning : Meaning) (image : ImageValue) (gap : ℕ) : Type 0 where
  pub ending : (input : List ℕ) (fuel reason : ℕ) (status : ℤ) (output : List ℕ) (variables : List Variable) → IsInput input →
      meaning input fuel ≡ End reason status output variables → KeepsEnd image gap input fuel reason status output variables
  pub going_on : (input : List ℕ) → IsInput input → IsRightFor meaning input → KeepsOn meaning image gap input
