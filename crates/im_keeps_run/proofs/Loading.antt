-- What a written image loads, and what its run begins with.
use Rattle.std.proofs.Common.{◌≡◌, ℕ, ◌+◌, ◌-◌, ◌*◌, ◌%◌, ◌<◌, ◌≤◌, false, List, [], ◌∷◌, ◌++◌, length, refl, sym, ap, ◌∙◌, subst, arith}
use Rattle.std.specs.List.{flat_map}
use Rattle.std.proofs.lemmas.Bool.{leb-true, eqb-true, and_parts}
use Rattle.std.proofs.lemmas.Bool.Decides.{nat_tests}
use Rattle.std.proofs.lemmas.List.{length-append}
use Rattle.im_num.specs.Bytes.{word_bytes}
use Rattle.im_mem.specs.Memory.{Mem, little, written, zeroed, Stands}
use Rattle.im_mem.proofs.Words.{little-alike, written-below, written-above, stands-alike}
use Rattle.im_image.specs.Contents.{ImageValue, ObjectValue, AreObjects, IsImage}
use Rattle.im_device.specs.Load.{memory_of}
use Rattle.im_device.specs.Run.{index_of}
use Rattle.im_device.specs.LoadedLaws.{LoadedLaw, BootLaw}
use Rattle.im_ckpt.specs.Runs.{State}
use Rattle.im_ckpt.specs.Buffers.{buffer}
use Rattle.im_ckpt.specs.Recovery.{recovery_words}
use Rattle.im_ckpt.specs.Checkpoint.{checkpoint_words, checkpoint_end}
use Rattle.im_ckpt.specs.Laws.{is_runtime}
use Rattle.im_ckpt.proofs.Resume.{recovered}
use Rattle.im_replay.proofs.Endless.{first_state}
use Rattle.im_replay.proofs.Images.{first_mem}
use Rattle.im_keeps.specs.Keeps.{IsInput}
use Rattle.im_keeps_run.specs.Laws.{AreHigh}
use Rattle.im_keeps_run.specs.Written.{IsWritten, code_end, IsLoaded, IsBegun}
use Rattle.im_keeps_run.specs.WrittenLaws.{WrittenLaw}
use Rattle.im_keeps_run.proofs.Standing.{indexed, words_stand, stand_first, stand_rest}

-- ---- numbers of the image

few_words : (image : ImageValue) → IsImage image → length image.words ≤ 261120
few_words image is = leb-true _ _ (and_parts _ _ is.word_count).1

entry_within : (image : ImageValue) → IsImage image → image.entry + 1 ≤ 4096 + 4 * length image.words
entry_within image is = leb-true _ _ (and_parts _ _ is.entry).1

entry_even : (image : ImageValue) → IsImage image → image.entry % 4 ≡ 0
entry_even image is = eqb-true _ _ (and_parts _ _ (and_parts _ _ is.entry).0).0

long : (image : ImageValue) → IsWritten image → checkpoint_end ≤ code_end image
long image w = let e = entry_within image w.is_image in let b = w.behind in omega arith

high_objects : (statics least : ℕ) (objects : List ObjectValue) → 384 ≤ least → AreObjects statics least objects → AreHigh objects
high_objects statics least [] l h = tt
high_objects statics least (o ∷ os) l h =
    let at : least ≤ o.at = leb-true _ _ (and_parts _ _ (and_parts _ _ (and_parts _ _ (and_parts _ _ h.0.place).0).0).0).1 in
    (omega arith, high_objects statics (o.at + o.size + 1) os (omega arith) h.1)

high : (image : ImageValue) → IsWritten image → AreHigh image.objects
high image w = high_objects (length image.statics) 1048576 image.objects (omega arith) w.is_image.objects

-- ---- memory as the pieces are laid

abbrev limited : ImageValue → List ℕ → Mem
limited image input = written (written (written zeroed 16 (word_bytes image.out_cap)) 20 (word_bytes (length input))) 28 (word_bytes (3145728 - image.stack))

abbrev buffered : ImageValue → List ℕ → Mem
buffered image input = written (written (limited image input) 128 (word_bytes image.entry)) 136 (word_bytes 3145728)

abbrev coded : ImageValue → List ℕ → Mem
coded image input = written (buffered image input) 4096 (flat_map word_bytes image.words)

below_statics : (image : ImageValue) (input : List ℕ) (k : ℕ) → k < 1048576 → memory_of image input k ≡ coded image input k
below_statics image input k l =
    written-below (written (coded image input) 1048576 image.statics) 3145728 k input (omega arith) ∙ written-below (coded image input) 1048576 k image.statics (omega arith)

low : (image : ImageValue) (input : List ℕ) (k : ℕ) → k < 16 → memory_of image input k ≡ 0
low image input k l =
    below_statics image input k (omega arith)
    ∙ written-below (buffered image input) 4096 k (flat_map word_bytes image.words) (omega arith)
    ∙ written-below (written (limited image input) 128 (word_bytes image.entry)) 136 k (word_bytes 3145728) (omega arith)
    ∙ written-below (limited image input) 128 k (word_bytes image.entry) (omega arith)
    ∙ written-below (written (written zeroed 16 (word_bytes image.out_cap)) 20 (word_bytes (length input))) 28 k (word_bytes (3145728 - image.stack)) (omega arith)
    ∙ written-below (written zeroed 16 (word_bytes image.out_cap)) 20 k (word_bytes (length input)) (omega arith)
    ∙ written-below zeroed 16 k (word_bytes image.out_cap) (omega arith)

index : (image : ImageValue) (input : List ℕ) → index_of (memory_of image input) ≡ 0
index image input = little-alike (memory_of image input) zeroed 4 0 (λ k p q. low image input k (omega arith))

code_stands : (image : ImageValue) (input : List ℕ) → IsImage image → Stands (memory_of image input) 4096 image.words
code_stands image input is =
    let few = few_words image is in
    stands-alike (coded image input) (memory_of image input) image.words 4096 (λ k p q. sym (below_statics image input k (omega arith)))
    (words_stand image.words (buffered image input) 4096 (indexed image.words is.words))

bytes_length : (ws : List ℕ) → length (flat_map word_bytes ws) ≡ 4 * length ws
bytes_length [] = refl
bytes_length (w ∷ ws) =
    let h = bytes_length ws in
    let q = length-append (word_bytes w) (flat_map word_bytes ws) in
    omega arith

beyond : (image : ImageValue) (input : List ℕ) (a : ℕ) → code_end image ≤ a → a < 1048576 → memory_of image input a ≡ 0
beyond image input a above below =
    let bytes = bytes_length image.words in
    below_statics image input a below
    ∙ written-above (buffered image input) 4096 a (flat_map word_bytes image.words) (omega arith)
    ∙ written-above (written (limited image input) 128 (word_bytes image.entry)) 136 a (word_bytes 3145728) (omega arith)
    ∙ written-above (limited image input) 128 a (word_bytes image.entry) (omega arith)
    ∙ written-above (written (written zeroed 16 (word_bytes image.out_cap)) 20 (word_bytes (length input))) 28 a (word_bytes (3145728 - image.stack)) (omega arith)
    ∙ written-above (written zeroed 16 (word_bytes image.out_cap)) 20 a (word_bytes (length input)) (omega arith)
    ∙ written-above zeroed 16 a (word_bytes image.out_cap) (omega arith)

outside : (pc : ℕ) → 5044 ≤ pc → is_runtime pc ≡ false
outside pc l = grind (arith, nat_tests)

module _ (small_law : LoadedLaw) (boot_law : BootLaw) where
  loaded : (image : ImageValue) (input : List ℕ) → IsWritten image → IsInput input → IsLoaded image input
  loaded image input w fits =
      let m = memory_of image input in
      let is = w.is_image in
      let entered : little m 128 4 ≡ image.entry = boot_law image input 0 is (omega arith) in
      let code = code_stands image input is in
      let parts : Stands m 4096 (recovery_words ++ (checkpoint_words ++ w.rest)) = subst (Stands m 4096) w.begins code in
      let even : image.entry % 2 ≡ 0 = (let e = entry_even image is in omega arith) in
      let start_even : little m 128 4 % 2 ≡ 0 = ap (λ z. z % 2) entered ∙ even in
      let zero : index_of m ≡ 0 = index image input in
      let recovery = stand_first m 4096 recovery_words (checkpoint_words ++ w.rest) parts in
      let small = small_law image input is fits.bytes in
      record {
        small = small;
        index = zero;
        start_even = start_even;
        start_outside = ap is_runtime entered ∙ outside image.entry w.behind;
        recovery = recovery;
        checkpoint = stand_first m 4352 checkpoint_words w.rest (stand_rest m 4096 recovery_words (checkpoint_words ++ w.rest) parts);
        code = code;
        entered = entered;
        resumes = record {
          bytes = small;
          recovery = recovery;
          index = subst (λ z. z < 2) (sym zero) (omega arith);
          even = ap (λ z. little m (buffer z) 4 % 2) zero ∙ start_even;
        };
      }

  begun : (image : ImageValue) (input : List ℕ) → IsLoaded image input → IsWritten image → IsBegun image input
  begun image input l w =
      let m = memory_of image input in
      let first = first_state m l.resumes in
      let r = recovered m 0 l.resumes in
      record {
        pc = ap (λ (s : State). s.cpu.pc) first ∙ r.place ∙ ap (λ z. little m (buffer z) 4) l.index ∙ l.entered;
        zero_reg = ap (λ (s : State). s.cpu.x 0) first ∙ r.zero_reg;
        sp = ap (λ (s : State). s.cpu.x 2) first ∙ r.regs 2 (omega arith) (omega arith) (λ q. omega arith) (λ q. omega arith) ∙ ap (λ z. little m (buffer z + 4 * 2) 4) l.index ∙ boot_law image input 2 w.is_image (omega arith);
        mem = first_mem m l.resumes;
      }

  pub all : WrittenLaw
  all = record {
    few = λ image w. few_words image w.is_image;
    long = long;
    high = high;
    loaded = loaded;
    beyond = beyond;
    begun = begun;
  }
