-- From what the fields say to the image that is read.
use Rattle.std.proofs.Common.{◌≡◌, ℕ, List, None, Result, Ok, Err, refl, sym, ap, subst, ◌∙◌}
use Rattle.std.specs.Prelude.{IfOk, OnOk, IfErr}
use Rattle.im_image.specs.declared.fault.ImageFault.{ImageFault}
use Rattle.im_image.specs.declared.fault.ImageFault.TheVariants.{ShortImage, BadMagic, BadVersion, BadField, Trailing, OutOfMemory}
use Rattle.im_image.specs.Contents.{ImageValue, IsImage}
use Rattle.im_image.specs.Text.{image_text}
use Rattle.im_image.specs.Upgrade.{upgraded}
use Rattle.im_image.specs.Faults.{fault_of, image_at, IsFaultOf, IsAnswer}
use Rattle.im_image.proofs.WordLemmas.{IsBytes}
use Rattle.im_image.proofs.Taken.{image_taken}
use Rattle.im_image.proofs.Again.{image_again}

pub read_is : (text : List ℕ) (r : Result ImageValue ImageFault) → IsBytes text → IfOk r (λ image. image ≡ image_at text) → OnOk r (fault_of text ≡ None) → IfOk r (λ image. IsImage image × (text ≡ image_text image))
read_is text (Ok image) fits is right = subst (λ (x : ImageValue). IsImage x × (text ≡ image_text x)) (sym is) (image_taken text fits right)
read_is text (Err fault) fits is right = tt

only_memory : (fault : ImageFault) (text : List ℕ) (image : ImageValue) → fault_of text ≡ None → IsFaultOf fault (fault_of text) → IsAnswer {X = ImageValue} (Err fault) (Ok image)
only_memory (ShortImage at) text image e h = absurd cc
only_memory BadMagic text image e h = absurd cc
only_memory (BadVersion version) text image e h = absurd cc
only_memory (BadField number) text image e h = absurd cc
only_memory (Trailing at) text image e h = absurd cc
only_memory OutOfMemory text image e h = tt

pub reads_each : (text : List ℕ) (r : Result ImageValue ImageFault) (image : ImageValue) → IfOk r (λ x. x ≡ image_at text) → IfErr r (λ fault. IsFaultOf fault (fault_of text)) → IsImage image → text ≡ image_text image → IsAnswer r (Ok image)
reads_each text (Ok x) image is wrong right e = ap Ok (sym (image_again image text right e).1 ∙ sym is)
reads_each text (Err fault) image is wrong right e = only_memory fault text image (image_again image text right e).0 wrong

pub upgraded_is : (image : ImageValue) → IsImage image → IsImage (upgraded image)
upgraded_is image is = record {
  form = refl;
  word_count = is.word_count;
  words = is.words;
  statics_size = is.statics_size;
  statics = is.statics;
  stack = is.stack;
  out_cap = is.out_cap;
  entry = is.entry;
  object_count = is.object_count;
  objects = is.objects;
}
