-- What follows from the definitions for machines.
use Rattle.std.specs.Prelude.{◌≡◌, ◌<◌, ◌≤◌, ◌⊎◌, ℕ, ◌+◌, ◌-◌, List, ◌++◌, Some, slice_get}
use Rattle.im_num.specs.declared.values.CellValue.TheVariants.{Inside, Local}
use Rattle.im_image.specs.Contents.{ImageValue, IsImage, ObjectValue}
use Rattle.im_power.specs.declared.period.Period.{Period}
use Rattle.im_device.specs.Periods.{Device, power}
use Rattle.im_device.specs.Variables.{place_from}
use Rattle.im_emu.specs.State.{counted}

-- periods in two parts: the second goes on from what the first left
abbrev pub PeriodsLaw : Type 0
PeriodsLaw = (first second : List Period) (d : Device) → counted (power (first ++ second) d) ≡ counted (power second (counted (power first d)))

-- where an address lies: in the one object that reaches it, its last address one past the end, or in none
pub record PlaceLaw : Type 0 where
  pub inside : (image : ImageValue) (k address : ℕ) (object : ObjectValue) → IsImage image → slice_get image.objects k ≡ Some object → object.at ≤ address → address ≤ object.at + object.size → place_from 0 image.objects address ≡ Inside k (address - object.at)
  pub beside : (image : ImageValue) (address : ℕ) → ((k : ℕ) (object : ObjectValue) → slice_get image.objects k ≡ Some object → (address < object.at) ⊎ (object.at + object.size < address)) → place_from 0 image.objects address ≡ Local
