-- What follows from the definitions of a device.
use Rattle.std.specs.Prelude.{◌≡◌, ◌≢◌, ◌<◌, ℕ, ◌+◌, ◌*◌, List, ◌∷◌, All, replicate, slice_index}
use Rattle.im_mem.specs.Map.{buffer0_start, stack_end}
use Rattle.im_mem.specs.Memory.{little}
use Rattle.im_rv.specs.declared.step.Went.TheVariants.{On}
use Rattle.im_image.specs.Contents.{ImageValue, IsImage}
use Rattle.im_power.specs.declared.period.Period.{Period}
use Rattle.im_device.specs.Run.{Moment, torn}
use Rattle.im_device.specs.Periods.{Device, power}
use Rattle.im_device.specs.Load.{memory_of}

-- the words of a register buffer from which recovery goes to a place in the code with this stack pointer, x2, and other registers 0
abbrev pub boot_buffer : ℕ → ℕ → List ℕ
boot_buffer start sp = start ∷ 0 ∷ sp ∷ replicate 29 0

-- a run that has ended stays as it is, whatever periods follow
abbrev pub StaysLaw : Type 0
StaysLaw = (periods : List Period) (d : Device) → d.went ≢ On → power periods d ≡ d

-- with the mask 0 power fails between two instructions
abbrev pub WholeLaw : Type 0
WholeLaw = (x : Moment) → torn 0 x ≡ x

-- each byte of a loaded memory is one
abbrev pub LoadedLaw : Type 0
LoadedLaw = (image : ImageValue) (input : List ℕ) → IsImage image → All (λ byte. byte < 256) input → (a : ℕ) → memory_of image input a < 256

-- register buffer 0 of a loaded memory leads to the image's entry, with the stack pointer at the stack's end
abbrev pub BootLaw : Type 0
BootLaw = (image : ImageValue) (input : List ℕ) (i : ℕ) → IsImage image → i < 32 →
    little (memory_of image input) (buffer0_start + 4 * i) 4 ≡ slice_index (boot_buffer image.entry stack_end) i
