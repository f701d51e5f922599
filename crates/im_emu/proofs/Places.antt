-- The place of an address, by the rules of images.
use Rattle.std.proofs.Common.{◌≡◌, ◌<◌, ◌≤◌, ◌⊎◌, inl, inr, ℕ, ◌+◌, ◌-◌, true, false, get_or, Some, sym, ap, ◌∙◌, subst, arith}
use Rattle.std.specs.Prelude.{slice_get}
use Rattle.std.proofs.lemmas.Bool.{le-leb, and_from}
use Rattle.std.proofs.lemmas.Bool.Decides.{nat_tests}
use Rattle.std.proofs.lemmas.Option.{get_or_from_slice_get, slice_get-get_or, slice_get_within}
use Rattle.im_num.specs.declared.values.CellValue.TheVariants.{Inside, Local}
use Rattle.im_image.specs.Contents.{ImageValue, IsImage, ObjectValue}
use Rattle.im_device.specs.Variables.{reaches, place_from}
use Rattle.im_emu.specs.Laws.{PlaceLaw}
use Rattle.im_emu.proofs.Layouts.{laid_out, place_inside, place_local}

reached : (object : ObjectValue) (address : ℕ) → object.at ≤ address → address ≤ object.at + object.size → reaches object address ≡ true
reached object address low high = and_from _ _ (le-leb object.at address low) (le-leb address (object.at + object.size) high)

passed_by : (object : ObjectValue) (address : ℕ) → (address < object.at) ⊎ (object.at + object.size < address) → reaches object address ≡ false
passed_by object address (inl h) = grind (arith, nat_tests)
passed_by object address (inr h) = grind (arith, nat_tests)

inside_one : (image : ImageValue) (k address : ℕ) (object : ObjectValue) → IsImage image → slice_get image.objects k ≡ Some object → object.at ≤ address → address ≤ object.at + object.size → place_from 0 image.objects address ≡ Inside k (address - object.at)
inside_one image k address object is there low high =
    let same : get_or image.objects k object ≡ object = get_or_from_slice_get image.objects k object object there in
    let place = place_inside image.objects k address object (laid_out image is) (slice_get_within image.objects k object there)
    (subst (λ (o : ObjectValue). reaches o address ≡ true) (sym same) (reached object address low high)) in
    place ∙ ap (λ (o : ObjectValue). Inside k (address - o.at)) same

beside_all : (image : ImageValue) (address : ℕ) → ((k : ℕ) (object : ObjectValue) → slice_get image.objects k ≡ Some object → (address < object.at) ⊎ (object.at + object.size < address)) → place_from 0 image.objects address ≡ Local
beside_all image address h = place_local image.objects address (λ k d below. passed_by (get_or image.objects k d) address (h k (get_or image.objects k d) (slice_get-get_or image.objects k d below)))

pub places : PlaceLaw
places = record { inside = inside_one; beside = beside_all }
