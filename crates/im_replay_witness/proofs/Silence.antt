-- The counter stores to no length, no selector and no output.
use Rattle.std.proofs.Common.{◌≡◌, ℕ, suc, ◌+◌, ◌^◌, ◌<◌, ◌≤◌, ◌⊎◌, inl, inr, false, cond, Some, None, sym, ap, ◌∙◌, arith}
use Rattle.std.specs.Prelude.{◌==◌}
use Rattle.std.proofs.lemmas.Bool.Decides.{nat_tests}
use Rattle.im_mem.proofs.Words.{little-alike}
use Rattle.im_ckpt.specs.Buffers.{is_buffer}
use Rattle.im_device.specs.Run.{index_of}
use Rattle.im_ckpt.specs.Runs.{State, IsRun, writes}
use Rattle.im_rv.specs.Effects.{writes_by}
use Rattle.im_replay.specs.Owed.{IsOwed}
use Rattle.im_replay.specs.Output.{output_size, Extends, ShowsSafely}
use Rattle.im_ckpt.proofs.Phases.{none_kept, mem_next, low_writes, high_writes, flip_low}
use Rattle.im_replay.proofs.Owing.{doing, Plain, Reads_index, Moves, Saves_reg, Flips}
use Rattle.im_replay.proofs.Shows.{size_by}
use Rattle.im_replay_witness.proofs.Counter.{CounterImage}
use Rattle.im_replay_witness.proofs.Counter.{plain_writes}

sides : (a : ℕ) → is_buffer a ≡ false → (a < 128) ⊎ (384 ≤ a)
sides a h = grind (arith, nat_tests)

low_out : (a : ℕ) → a < 40 → is_buffer a ≡ false
low_out a l = grind (arith, nat_tests)

high_out : (i : ℕ) → is_buffer (4194304 + i) ≡ false
high_out i = grind (arith, nat_tests)

module _ (run : ℕ → State) (steps : IsRun run) (image : CounterImage (run 0).mem) (first_place : (run 0).cpu.pc ≡ 5044) (first_zero : (run 0).cpu.x 0 ≡ 0) (first_words : (i : ℕ) → (run 0).cpu.x i < 2 ^ 32) (o : IsOwed run 5064) where
  -- beside INDEX, the buffers and the counter no byte is written
  quiet : (t a : ℕ) → 4 ≤ a → is_buffer a ≡ false → (a < 1024) ⊎ (1028 ≤ a) → writes run t a ≡ None
  quiet t a low out far = elim (doing run 5064 o t) [
    | Plain p ↦ plain_writes run steps image first_place first_zero first_words t a p far
    | Reads_index e ↦ ap (λ z. writes_by z a) e
    | Moves v target e ↦ ap (λ z. writes_by z a) e
    | Saves_reg r v l s ↦ ap (λ z. writes_by z a) s.effect ∙ elim (sides a out) [
      | inl x ↦ low_writes run 5064 o.based (index_of (run t).mem) r v a l x
      | inr x ↦ high_writes run 5064 o.based (index_of (run t).mem) r v a l x
    ]
    | Flips t0 m e s ↦ ap (λ z. writes_by z a) s.effect ∙ flip_low run 5064 o.based (cond (index_of (run t).mem == 0) 1 0) a low
  ]

  stays : (t a : ℕ) → 4 ≤ a → is_buffer a ≡ false → (a < 1024) ⊎ (1028 ≤ a) → (run (suc t)).mem a ≡ (run t).mem a
  stays t a low out far = mem_next run 5064 o.based t a ∙ none_kept (writes run t a) ((run t).mem a) (quiet t a low out far)

  grows : (t : ℕ) → Extends (run t).mem (run (suc t)).mem
  grows t =
      let m = (run t).mem in
      let n = (run (suc t)).mem in
      let at : (a : ℕ) → 4 ≤ a → a < 40 → m a ≡ n a = λ a l h. sym (stays t a l (low_out a h) (inl (omega arith))) in
      let size : output_size m ≡ output_size n = size_by m n (at 36 (omega arith) (omega arith)) (λ z. little-alike m n 4 12 (λ a l h. at a (omega arith) (omega arith))) (λ z. little-alike m n 4 32 (λ a l h. at a (omega arith) (omega arith))) in
      record { size = omega arith; bytes = λ i l. stays t (4194304 + i) (omega arith) (high_out i) (inr (omega arith)) }

  never : (t a v : ℕ) → 4 ≤ a → a < 40 → writes run t a ≡ Some v → ⊥
  never t a v l h w = let q = quiet t a l (low_out a h) (inl (omega arith)) in let bad : Some v ≡ None = sym w ∙ q in cc

  pub silent : ShowsSafely run
  silent = record {
    grows = grows;
    one_store = λ t u a v w e f g h b k. absurd (never t 36 v (omega arith) (omega arith) h);
    first_length = λ t a v f l h w. absurd (never t a v (omega arith) (omega arith) w);
    second_length = λ t a v f l h w. absurd (never t a v (omega arith) (omega arith) w);
  }
