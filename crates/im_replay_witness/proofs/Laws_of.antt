-- Both images are compiled ones.
use Rattle.std.proofs.Common.{◌≡◌, ◌≢◌, ℕ, ◌%◌, ◌<◌, List, [], ◌∷◌, sym, ap, ◌∙◌, subst, arith}
use Rattle.im_mem.specs.Memory.{Mem, little}
use Rattle.im_rv.specs.Decode.{Line}
use Rattle.im_device.specs.Run.{boot}
use Rattle.im_ckpt.specs.Buffers.{buffer}
use Rattle.im_ckpt.specs.Laws.{CanResume, is_runtime}
use Rattle.im_ckpt.proofs.Resume.{cpu_after, recovered}
use Rattle.im_replay.specs.Needed.{Needed}
use Rattle.im_replay.specs.Sections.{IsLive}
use Rattle.im_replay.specs.Uninterrupted.{uninterrupted}
use Rattle.im_replay.proofs.Endless.{is_run, first_state}
use Rattle.im_replay.proofs.Images.{first_live, first_mem, first_place, zeros, words, owed_of}
use Rattle.im_replay.proofs.Device.{replay_law, output_law}
use Rattle.im_replay_witness.specs.Loop.{call_line, back_line, loop_memory, LoopLaw}
use Rattle.im_replay_witness.specs.Counter.{read_line, add_line, call_line as counter_call, write_line, back_line as counter_back, counter_memory, CounterLaw, CounterReplaysLaw, CounterShowsLaw}
use Rattle.im_replay_witness.proofs.Loading.{recovery_there, checkpoint_there, own_there, bytes_there, index_there, start_there}
use Rattle.im_replay_witness.proofs.Loop.{LoopImage, owed as loop_owed, first_needs as loop_needs}
use Rattle.im_replay_witness.proofs.Counter.{CounterImage, owed as counter_owed, first_needs as counter_needs}
use Rattle.im_replay_witness.proofs.Silence.{silent}

loop_image : LoopImage loop_memory
loop_image =
    let own : List Line = call_line ∷ back_line ∷ [] in
    let st = own_there own in
    record { small = bytes_there own; recovery = recovery_there own; checkpoint = checkpoint_there own; call = st.0; back = st.1.0; index = index_there own; start = start_there own }

loop_can : CanResume loop_memory
loop_can = record { bytes = loop_image.small; recovery = loop_image.recovery; index = subst (λ z. z < 2) (sym loop_image.index) (omega arith); even = ap (λ z. little loop_memory (buffer z) 4 % 2) loop_image.index ∙ ap (λ z. z % 2) loop_image.start }

pub loop_law : LoopLaw
loop_law =
    let m : Mem = loop_memory in
    let run = uninterrupted m in
    let image : LoopImage (run 0).mem = subst LoopImage (sym (first_mem m loop_can)) loop_image in
    let place : (run 0).cpu.pc ≡ 5044 = first_place m loop_can ∙ ap (λ z. little m (buffer z) 4) loop_image.index ∙ loop_image.start in
    let zero = zeros m loop_can 0 in
    let small = words m loop_can 0 in
    let needs : (i : ℕ) → Needed run 0 i → (i ≢ 3) × (i ≢ 4) × (i < 32) = loop_needs run (is_run m) image place zero small in
    let o = loop_owed run (is_run m) image place zero small (subst (λ (k : Mem). IsLive run 0 k) (sym (first_mem m loop_can)) (first_live run m (cpu_after 33 (boot 0) m) (first_state m loop_can) (recovered m 0 loop_can) needs loop_image.small)) in
    record {
      small = loop_image.small;
      index = loop_image.index;
      start_even = ap (λ z. z % 2) loop_image.start;
      start_outside = ap is_runtime loop_image.start;
      long = omega arith;
      recovery = loop_image.recovery;
      checkpoint = loop_image.checkpoint;
      runs = record { no_fault = o.no_fault; fetches = o.fetches; writes_plain = o.writes_plain; reads_plain = o.reads_plain; cuts = o.cuts; needs = o.needs; needs_first = needs; no_war = o.no_war };
    }

counter_image : CounterImage counter_memory
counter_image =
    let own : List Line = read_line ∷ add_line ∷ counter_call ∷ write_line ∷ counter_back ∷ [] in
    let st = own_there own in
    record { small = bytes_there own; recovery = recovery_there own; checkpoint = checkpoint_there own; read = st.0; add = st.1.0; call = st.1.1.0; write = st.1.1.1.0; back = st.1.1.1.1.0; index = index_there own; start = start_there own }

counter_can : CanResume counter_memory
counter_can = record { bytes = counter_image.small; recovery = counter_image.recovery; index = subst (λ z. z < 2) (sym counter_image.index) (omega arith); even = ap (λ z. little counter_memory (buffer z) 4 % 2) counter_image.index ∙ ap (λ z. z % 2) counter_image.start }

-- the counter's run as it begins
record Begun : Type 0 where
  image : CounterImage (uninterrupted counter_memory 0).mem
  place : (uninterrupted counter_memory 0).cpu.pc ≡ 5044

begun : Begun
begun = record {
  image = subst CounterImage (sym (first_mem counter_memory counter_can)) counter_image;
  place = first_place counter_memory counter_can ∙ ap (λ z. little counter_memory (buffer z) 4) counter_image.index ∙ counter_image.start;
}

pub counter_law : CounterLaw
counter_law =
    let m : Mem = counter_memory in
    let run = uninterrupted m in
    let zero = zeros m counter_can 0 in
    let small = words m counter_can 0 in
    let needs : (i : ℕ) → Needed run 0 i → (i ≢ 3) × (i ≢ 4) × (i < 32) = counter_needs run (is_run m) begun.image begun.place zero small in
    let o = counter_owed run (is_run m) begun.image begun.place zero small (subst (λ (k : Mem). IsLive run 0 k) (sym (first_mem m counter_can)) (first_live run m (cpu_after 33 (boot 0) m) (first_state m counter_can) (recovered m 0 counter_can) needs counter_image.small)) in
    record {
      small = counter_image.small;
      index = counter_image.index;
      start_even = ap (λ z. z % 2) counter_image.start;
      start_outside = ap is_runtime counter_image.start;
      long = omega arith;
      recovery = counter_image.recovery;
      checkpoint = counter_image.checkpoint;
      runs = record { no_fault = o.no_fault; fetches = o.fetches; writes_plain = o.writes_plain; reads_plain = o.reads_plain; cuts = o.cuts; needs = o.needs; needs_first = needs; no_war = o.no_war };
    }

pub counter_replays_law : CounterReplaysLaw
counter_replays_law = replay_law counter_memory 5064 counter_law

pub counter_shows_law : CounterShowsLaw
counter_shows_law = output_law counter_memory 5064 counter_law (silent (uninterrupted counter_memory) (is_run counter_memory) begun.image begun.place (zeros counter_memory counter_can 0) (words counter_memory counter_can 0) (owed_of counter_memory 5064 counter_law))
