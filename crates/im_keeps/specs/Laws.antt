-- What is proved of the headline's definition.
use Rattle.std.specs.Prelude.{◌≡◌, ℕ, List, []}
use Rattle.im_image.specs.Contents.{ImageValue}
use Rattle.im_power.specs.declared.period.Period.{Period}
use Rattle.im_device.specs.Shows.{output_of}
use Rattle.im_store.specs.Outcomes.{Refines}
use Rattle.im_keeps.specs.Keeps.{Meaning, output_in, device_after, KeepsOn, Keeps}

-- the target's meaning is the source's, wherever that is defined
abbrev pub RefinesMeaning : Meaning → Meaning → Type 0
RefinesMeaning target source = (input : List ℕ) (fuel : ℕ) → Refines (target input fuel) (source input fuel)

abbrev pub RefinedLaw : Type 0
RefinedLaw = (source target : Meaning) (image : ImageValue) (gap : ℕ) → RefinesMeaning target source → Keeps target image gap → Keeps source image gap

-- an image that shows nothing, however often power comes, keeps no source that writes
abbrev pub SilentLaw : Type 0
SilentLaw = (meaning : Meaning) (image : ImageValue) (gap : ℕ) (input : List ℕ) → KeepsOn meaning image gap input
    → ((periods : List Period) → output_of image.form (device_after image input periods).mem ≡ []) → (fuel : ℕ) → output_in (meaning input fuel) ≡ []
