-- From the liveness of an image's words to the registers that its run uses behind cuts.
use Rattle.std.specs.Prelude.{ℕ, Bool, List}
use Rattle.im_image.specs.Contents.{ImageValue}
use Rattle.im_keeps.specs.Keeps.{IsInput}
use Rattle.im_keeps_run.specs.Laws.{run_of}
use Rattle.im_keeps_run.specs.Written.{IsWritten}
use Rattle.im_saved.specs.Liveness.{IsLiveness, EntersByCuts}
use Rattle.im_saved.specs.Laws.{KeepsToCode, LivesUntil}

abbrev pub ImageLaw : Type 0
ImageLaw =
    (image : ImageValue) (input : List ℕ) (live : ℕ → ℕ → Bool) (j : ℕ) → IsInput input → IsWritten image →
    IsLiveness image.words image.entry live → EntersByCuts image.words image.entry →
    KeepsToCode image.words (run_of image input) j → LivesUntil image.words (run_of image input) j
