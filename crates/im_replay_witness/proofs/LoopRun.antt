-- The loop of one cut meets the premises on runs.
use Rattle.std.proofs.Common.{◌≡◌, ℕ, ◌+◌, ◌*◌, ◌≤◌, ◌⊎◌, inl, inr, true, false, List, [], ◌∷◌, ◌++◌, map, length, refl, sym, ap, subst, ◌∙◌, arith}
use Rattle.std.specs.Prelude.{nat_le, nat_lt, ◌&&◌}
use Rattle.std.proofs.lemmas.Bool.Decides.{nat_tests}
use Rattle.im_mem.specs.Memory.{Mem, little, Stands}
use Rattle.im_rv.specs.Decode.{Line}
use Rattle.im_rv.specs.Encode.{encoded}
use Rattle.im_rv.specs.Code.{address, instruction_at}
use Rattle.im_ckpt.specs.Buffers.{buffer}
use Rattle.im_ckpt.specs.Recovery.{recovery, recovery_words}
use Rattle.im_ckpt.specs.Checkpoint.{checkpoint, checkpoint_words}
use Rattle.im_ckpt.specs.Laws.{CanResume, is_runtime, IsCut}
use Rattle.im_replay.specs.Uninterrupted.{uninterrupted}
use Rattle.im_replay.proofs.Endless.{is_run}
use Rattle.im_replay.proofs.Images.{can_resume, first_mem, first_place, zeros, words}
use Rattle.im_replay_witness.specs.Loop.{call_line, back_line, loop_memory}
use Rattle.im_replay_witness.proofs.Loading.{recovery_there, checkpoint_there, own_there, bytes_there, index_there, start_there}
use Rattle.im_replay_witness.proofs.Loop.{LoopImage, cut_is}
use Rattle.im_replay_witness.proofs.Laws_of.{loop_law}
use Rattle.im_gap.specs.declared.flow.Turn.TheVariants.{Jumps, Returns}
use Rattle.im_gap.specs.Flow.{turn_of, links}
use Rattle.im_replay_witness.specs.GapLoop.{loop_words, LoopPlacedLaw}

stands_append : (m : Mem) (a b : ℕ) (xs ys : List ℕ) → Stands m a xs → b ≡ a + 4 * length xs → Stands m b ys → Stands m a (xs ++ ys)
stands_append m a b [] ys h e g = subst (λ (z : ℕ). Stands m z ys) (let z : b ≡ a = omega arith in z) g
stands_append m a b (x ∷ xs) ys h e g = (h.0, stands_append m (a + 4) b xs ys h.1 (omega arith) g)

map_append : (xs ys : List Line) → map encoded (xs ++ ys) ≡ map encoded xs ++ map encoded ys
map_append [] ys = refl
map_append (x ∷ xs) ys = ap (λ (z : List ℕ). encoded x ∷ z) (map_append xs ys)

own : List Line
own = call_line ∷ back_line ∷ []

words_are : loop_words ≡ recovery_words ++ (checkpoint_words ++ map encoded (call_line ∷ back_line ∷ []))
unfolding loop_words
words_are = map_append recovery (checkpoint ++ (call_line ∷ back_line ∷ [])) ∙ ap (λ (z : List ℕ). recovery_words ++ z) (map_append checkpoint (call_line ∷ back_line ∷ []))

stands : Stands loop_memory 4096 loop_words
stands = subst (Stands loop_memory 4096) (sym words_are)
    (stands_append loop_memory 4096 4352 recovery_words (checkpoint_words ++ map encoded (call_line ∷ back_line ∷ [])) (recovery_there (call_line ∷ back_line ∷ [])) refl
    (stands_append loop_memory 4352 5044 checkpoint_words (map encoded (call_line ∷ back_line ∷ [])) (checkpoint_there (call_line ∷ back_line ∷ [])) refl (own_there (call_line ∷ back_line ∷ []))))

long : length loop_words ≡ 239
unfolding loop_words
long = refl

call_turns : turn_of (instruction_at loop_words 237) ≡ Jumps
unfolding loop_words
call_turns = refl

back_turns : turn_of (instruction_at loop_words 238) ≡ Jumps
unfolding loop_words
back_turns = refl

call_links : links 3 (instruction_at loop_words 237) ≡ true
unfolding loop_words
call_links = refl

last_two : (pc i : ℕ) → is_runtime pc ≡ false → 4096 ≤ pc → pc + 4 ≤ 5052 → pc ≡ address i → (i ≡ 237) ⊎ (i ≡ 238)
last_two pc i out low high p = by_end (high_enough pc out low)
  where
    high_enough : (pc : ℕ) → (nat_le 4096 pc && nat_lt pc 5044) ≡ false → 4096 ≤ pc → 5044 ≤ pc
    high_enough pc out low = grind (arith, nat_tests)

    by_end : 5044 ≤ pc → (i ≡ 237) ⊎ (i ≡ 238)
    by_end e = grind arith

image : LoopImage loop_memory
image =
    let lines : List Line = call_line ∷ back_line ∷ [] in
    let st = own_there lines in
    record { small = bytes_there lines; recovery = recovery_there lines; checkpoint = checkpoint_there lines; call = st.0; back = st.1.0; index = index_there lines; start = start_there lines }

can : CanResume loop_memory
can = can_resume loop_memory 5052 loop_law

first : (uninterrupted loop_memory 0).cpu.pc ≡ 5044
first = first_place loop_memory can ∙ ap (λ (z : ℕ). little loop_memory (buffer z) 4) image.index ∙ image.start

only_cut : (t m : ℕ) → IsCut (uninterrupted loop_memory) t m → (uninterrupted loop_memory t).cpu.pc ≡ 5044
only_cut t m c = (cut_is (uninterrupted loop_memory) (is_run loop_memory) (subst LoopImage (sym (first_mem loop_memory can)) image) first (zeros loop_memory can 0) (words loop_memory can 0) t m c).1

turns : (t i : ℕ) → is_runtime (uninterrupted loop_memory t).cpu.pc ≡ false → (uninterrupted loop_memory t).cpu.pc ≡ address i → turn_of (instruction_at loop_words i) ≡ Jumps
turns t i out p = elim (last_two (uninterrupted loop_memory t).cpu.pc i out (loop_law.runs.fetches t).0 (loop_law.runs.fetches t).1 p) [
  | inl q ↦ ap (λ (z : ℕ). turn_of (instruction_at loop_words z)) q ∙ call_turns
  | inr q ↦ ap (λ (z : ℕ). turn_of (instruction_at loop_words z)) q ∙ back_turns
]

pub loop_placed_law : LoopPlacedLaw
loop_placed_law = record {
  few = (let z = long in omega arith);
  size = (let z = long in omega arith);
  first = subst (λ (n : Mem). Stands n 4096 loop_words) (sym (first_mem loop_memory can)) stands;
  entered = first;
  returns = λ t i out p r. absurd (let bad : Jumps ≡ Returns = sym (turns t i out p) ∙ r in cc);
  cuts = λ t m i c p. (
      let q : i ≡ 237 = (let e = only_cut t m c in omega arith) in
      ap (λ (z : ℕ). links 3 (instruction_at loop_words z)) q ∙ call_links);
}
