-- The run of a written image begins at its entry.
use Rattle.std.proofs.Common.{◌≡◌, ℕ, ◌<◌, List, sym, subst, arith}
use Rattle.im_mem.specs.Memory.{Mem, Stands}
use Rattle.im_image.specs.Contents.{ImageValue}
use Rattle.im_device.specs.Run.{index_of}
use Rattle.im_device.specs.Load.{memory_of}
use Rattle.im_ckpt.specs.Recovery.{recovery_words}
use Rattle.im_ckpt.specs.Checkpoint.{checkpoint_words}
use Rattle.im_replay.proofs.Endless.{is_run}
use Rattle.im_replay.proofs.Images.{zeros, words as registers}
use Rattle.im_keeps.specs.Keeps.{IsInput}
use Rattle.im_keeps_run.specs.Laws.{run_of}
use Rattle.im_keeps_run.specs.Written.{IsWritten, IsLoaded, IsBegun}
use Rattle.im_keeps_run.specs.WrittenLaws.{WrittenLaw}
use Rattle.im_saved.specs.Laws.{BeginsAt, LiveLaw}
use Rattle.im_saved.specs.ImageLaws.{ImageLaw}

begins : WrittenLaw → (image : ImageValue) (input : List ℕ) → IsInput input → IsWritten image → BeginsAt image.words image.entry (run_of image input)
begins written image input fits is =
    let loaded : IsLoaded image input = written.loaded image input is fits in
    let begun : IsBegun image input = written.begun image input loaded is in
    record {
      few = written.few image is;
      based = record {
        steps = is_run (memory_of image input);
        long = written.long image is;
        recovery = subst (λ (m : Mem). Stands m 4096 recovery_words) (sym begun.mem) loaded.recovery;
        checkpoint = subst (λ (m : Mem). Stands m 4352 checkpoint_words) (sym begun.mem) loaded.checkpoint;
      };
      code = subst (λ (m : Mem). Stands m 4096 image.words) (sym begun.mem) loaded.code;
      entered = begun.pc;
      index = subst (λ (m : Mem). index_of m < 2) (sym begun.mem) (let none : index_of (memory_of image input) ≡ 0 = loaded.index in omega arith);
      zero_reg = zeros (memory_of image input) loaded.resumes;
      small = registers (memory_of image input) loaded.resumes;
    }

pub of_image : LiveLaw → WrittenLaw → ImageLaw
of_image law written image input live j fits is n e keeps = law image.words image.entry j live (run_of image input) n e (begins written image input fits is) keeps
