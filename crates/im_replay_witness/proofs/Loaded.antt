-- The program, loaded, and its laws.
use Rattle.std.proofs.Common.{◌≡◌, ◌≢◌, ℕ, zero, suc, ◌+◌, ◌*◌, ◌%◌, ◌<◌, List, [], ◌∷◌, refl, sym, ap, ◌∙◌, subst, arith}
use Rattle.im_mem.specs.Memory.{Mem, little}
use Rattle.im_rv.specs.Decode.{Line}
use Rattle.im_rv.specs.Encode.{encoded}
use Rattle.im_device.specs.Run.{boot}
use Rattle.im_ckpt.specs.Buffers.{buffer}
use Rattle.im_ckpt.specs.Laws.{CanResume, is_runtime}
use Rattle.im_ckpt.proofs.Resume.{cpu_after, recovered}
use Rattle.im_replay.specs.Needed.{Needed}
use Rattle.im_replay.specs.Sections.{IsLive}
use Rattle.im_replay.specs.Uninterrupted.{uninterrupted}
use Rattle.im_replay.proofs.Endless.{is_run, first_state}
use Rattle.im_replay.proofs.Images.{first_live, first_mem, first_place, zeros, words, owed_of}
use Rattle.im_replay.proofs.Device.{output_law}
use Rattle.im_replay_witness.proofs.Loading.{recovery_there, checkpoint_there, own_there, bytes_there, index_there, start_there}
use Rattle.im_replay_witness.specs.Writer.{own, writer_memory, WriterLaw, WriterShowsLaw, WriterOutputLaw, WriterByteLaw}
use Rattle.im_replay_witness.proofs.Writer.{WriterImage, owed, first_needs}
use Rattle.im_replay_witness.proofs.Shows.{shows}
use Rattle.im_replay_witness.proofs.Byte.{shows_byte}

lines : List Line
lines = own 0 ∷ own 1 ∷ own 2 ∷ own 3 ∷ own 4 ∷ own 5 ∷ own 6 ∷ own 7 ∷ []

there : (k : ℕ) → k < 8 → little writer_memory (5044 + 4 * k) 4 ≡ encoded (own k)
unfolding lines
there zero l = (own_there lines).0
there (suc zero) l = (own_there lines).1.0
there (suc (suc zero)) l = (own_there lines).1.1.0
there (suc (suc (suc zero))) l = (own_there lines).1.1.1.0
there (suc (suc (suc (suc zero)))) l = (own_there lines).1.1.1.1.0
there (suc (suc (suc (suc (suc zero))))) l = (own_there lines).1.1.1.1.1.0
there (suc (suc (suc (suc (suc (suc zero)))))) l = (own_there lines).1.1.1.1.1.1.0
there (suc (suc (suc (suc (suc (suc (suc zero))))))) l = (own_there lines).1.1.1.1.1.1.1.0
there (suc (suc (suc (suc (suc (suc (suc (suc k)))))))) l = absurd (omega arith)

writer_image : WriterImage writer_memory
unfolding lines
writer_image = record {
  small = bytes_there lines;
  recovery = recovery_there lines;
  checkpoint = checkpoint_there lines;
  lines = there;
  index = index_there lines;
  start = start_there lines;
  selector = refl;
  length0 = refl;
}

can : CanResume writer_memory
can = record { bytes = writer_image.small; recovery = writer_image.recovery; index = subst (λ z. z < 2) (sym writer_image.index) (omega arith); even = ap (λ z. little writer_memory (buffer z) 4 % 2) writer_image.index ∙ ap (λ z. z % 2) writer_image.start }

record Begun : Type 0 where
  image : WriterImage (uninterrupted writer_memory 0).mem
  place : (uninterrupted writer_memory 0).cpu.pc ≡ 5044

begun : Begun
begun = record {
  image = subst WriterImage (sym (first_mem writer_memory can)) writer_image;
  place = first_place writer_memory can ∙ ap (λ z. little writer_memory (buffer z) 4) writer_image.index ∙ writer_image.start;
}

pub writer_law : WriterLaw
writer_law =
    let m : Mem = writer_memory in
    let run = uninterrupted m in
    let zero_reg = zeros m can 0 in
    let small = words m can 0 in
    let needs : (i : ℕ) → Needed run 0 i → (i ≢ 3) × (i ≢ 4) × (i < 32) = first_needs run (is_run m) begun.image begun.place zero_reg small in
    let o = owed run (is_run m) begun.image begun.place zero_reg small (subst (λ (k : Mem). IsLive run 0 k) (sym (first_mem m can)) (first_live run m (cpu_after 33 (boot 0) m) (first_state m can) (recovered m 0 can) needs writer_image.small)) in
    record {
      small = writer_image.small;
      index = writer_image.index;
      start_even = ap (λ z. z % 2) writer_image.start;
      start_outside = ap is_runtime writer_image.start;
      long = omega arith;
      recovery = writer_image.recovery;
      checkpoint = writer_image.checkpoint;
      runs = record { no_fault = o.no_fault; fetches = o.fetches; writes_plain = o.writes_plain; reads_plain = o.reads_plain; cuts = o.cuts; needs = o.needs; needs_first = needs; no_war = o.no_war };
    }

pub writer_shows_law : WriterShowsLaw
writer_shows_law = shows (uninterrupted writer_memory) (is_run writer_memory) begun.image begun.place (zeros writer_memory can 0) (words writer_memory can 0) (owed_of writer_memory 5076 writer_law)

pub writer_output_law : WriterOutputLaw
writer_output_law = output_law writer_memory 5076 writer_law writer_shows_law

pub writer_byte_law : WriterByteLaw
writer_byte_law = shows_byte (uninterrupted writer_memory) (is_run writer_memory) begun.image begun.place (zeros writer_memory can 0) (words writer_memory can 0) (owed_of writer_memory 5076 writer_law)
