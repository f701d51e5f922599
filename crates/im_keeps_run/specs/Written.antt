-- An image as the compiler writes it, and what is in memory as power comes first.
use Rattle.std.specs.Prelude.{◌≡◌, ℕ, ◌%◌, ◌<◌, ◌≤◌, false, List, ◌++◌, length}
use Rattle.im_mem.specs.Memory.{little, Stands}
use Rattle.im_mem.specs.Map.{buffer0_start, code_start, stack_end}
use Rattle.im_rv.specs.Code.{address}
use Rattle.im_image.specs.declared.form.Form.TheVariants.{TwoLengths}
use Rattle.im_image.specs.Contents.{ImageValue, IsImage}
use Rattle.im_device.specs.Load.{memory_of}
use Rattle.im_device.specs.Run.{index_of}
use Rattle.im_ckpt.specs.Recovery.{recovery_words}
use Rattle.im_ckpt.specs.Checkpoint.{checkpoint_words, checkpoint_start, checkpoint_end}
use Rattle.im_ckpt.specs.Laws.{is_runtime, CanResume}
use Rattle.im_keeps_run.specs.Laws.{run_of}

-- of form 1, with recovery and the checkpoint routine before all else, and an entry behind them
pub record IsWritten (image : ImageValue) : Type 0 where
  pub is_image : IsImage image
  pub form : image.form ≡ TwoLengths
  pub rest : List ℕ
  pub begins : image.words ≡ recovery_words ++ (checkpoint_words ++ rest)
  pub behind : checkpoint_end ≤ image.entry

-- the code ends before this address
abbrev pub code_end : ImageValue → ℕ
code_end image = address (length image.words)

-- memory as power comes first
pub record IsLoaded (image : ImageValue) (input : List ℕ) : Type 0 where
  pub small : (a : ℕ) → memory_of image input a < 256
  pub index : index_of (memory_of image input) ≡ 0
  pub start_even : little (memory_of image input) buffer0_start 4 % 2 ≡ 0
  pub start_outside : is_runtime (little (memory_of image input) buffer0_start 4) ≡ false
  pub recovery : Stands (memory_of image input) code_start recovery_words
  pub checkpoint : Stands (memory_of image input) checkpoint_start checkpoint_words
  pub code : Stands (memory_of image input) code_start image.words
  pub entered : little (memory_of image input) buffer0_start 4 ≡ image.entry
  pub resumes : CanResume (memory_of image input)

-- the processor behind the first recovery, and memory
pub record IsBegun (image : ImageValue) (input : List ℕ) : Type 0 where
  pub pc : (run_of image input 0).cpu.pc ≡ image.entry
  pub zero_reg : (run_of image input 0).cpu.x 0 ≡ 0
  pub sp : (run_of image input 0).cpu.x 2 ≡ stack_end
  pub mem : (run_of image input 0).mem ≡ memory_of image input
