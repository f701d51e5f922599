-- A machine as a device: what it holds, and its two counts, which stay at their type's end.
use Rattle.std.specs.Prelude.{◌≡◌, ℕ, ◌-◌, ◌^◌, min, List}
use Rattle.im_mem.specs.Memory.{Mem}
use Rattle.im_rv.specs.declared.step.Went.{Went}
use Rattle.im_image.specs.declared.version.Version.{Version}
use Rattle.im_image.specs.declared.form.Form.{Form}
use Rattle.im_image.specs.Contents.{ImageValue, ObjectValue}
use Rattle.im_device.specs.Periods.{Device}

-- a machine over a memory of type M, with its image's version, form and objects
pub record Held (M : Type 0) : Type 0 where
  pub memory : M
  pub went : Went
  pub steps : ℕ
  pub commits : ℕ
  pub version : Version
  pub form : Form
  pub objects : List ObjectValue

-- its memory seen as bytes
abbrev pub device_of : {M : Type 0} → (M → Mem) → Held M → Device
device_of bytes h = record { went = h.went; mem = bytes h.memory; steps = h.steps; commits = h.commits }

-- a count of 64 bits
abbrev pub saturated : ℕ → ℕ
saturated n = min n (2 ^ 64 - 1)

-- a device whose counts are of 64 bits
abbrev pub counted : Device → Device
counted d = record { went = d.went; mem = d.mem; steps = saturated d.steps; commits = saturated d.commits }

-- what a run doesn't change
pub record SameImage {M : Type 0} (old new : Held M) : Type 0 where
  pub version : new.version ≡ old.version
  pub form : new.form ≡ old.form
  pub objects : new.objects ≡ old.objects

-- what a machine has of its image beside the memory
pub record IsImageOf {M : Type 0} (image : ImageValue) (h : Held M) : Type 0 where
  pub version : h.version ≡ image.version
  pub form : h.form ≡ image.form
  pub objects : h.objects ≡ image.objects
