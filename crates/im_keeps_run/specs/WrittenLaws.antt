-- What follows of an image's being written so.
use Rattle.std.specs.Prelude.{◌≡◌, ℕ, ◌<◌, ◌≤◌, List, length}
use Rattle.im_mem.specs.Map.{statics_start}
use Rattle.im_image.specs.Contents.{ImageValue}
use Rattle.im_device.specs.Load.{memory_of}
use Rattle.im_ckpt.specs.Checkpoint.{checkpoint_end}
use Rattle.im_keeps.specs.Keeps.{IsInput}
use Rattle.im_keeps_run.specs.Laws.{AreHigh}
use Rattle.im_keeps_run.specs.Written.{IsWritten, code_end, IsLoaded, IsBegun}

pub record WrittenLaw : Type 0 where
  pub few : (image : ImageValue) → IsWritten image → length image.words ≤ 261120
  pub long : (image : ImageValue) → IsWritten image → checkpoint_end ≤ code_end image
  -- its objects stand behind the register buffers
  pub high : (image : ImageValue) → IsWritten image → AreHigh image.objects
  pub loaded : (image : ImageValue) (input : List ℕ) → IsWritten image → IsInput input → IsLoaded image input
  -- between the code and the statics memory is 0
  pub beyond : (image : ImageValue) (input : List ℕ) (a : ℕ) → code_end image ≤ a → a < statics_start → memory_of image input a ≡ 0
  pub begun : (image : ImageValue) (input : List ℕ) → IsLoaded image input → IsWritten image → IsBegun image input
