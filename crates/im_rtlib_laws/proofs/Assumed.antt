-- The routines are as compiled code assumes.
use Rattle.std.proofs.Common.{◌≡◌, ℕ, ◌+◌, ◌<◌, ◌≤◌, refl, sym, ap, ◌∙◌, subst, arith}
use Rattle.im_mem.specs.Memory.{Mem, little}
use Rattle.im_ckpt.specs.Checkpoint.{entry_at}
use Rattle.im_ckpt.proofs.Rungs.{routine_of}
use Rattle.im_rv_reach.specs.Touches.{heard}
use Rattle.im_rv_reach.specs.Orderly.{Anything, after, is_closed}
use Rattle.im_rv_reach.specs.Routines.{Runtime, Words, SavesAt}
use Rattle.im_rv_reach.proofs.Reach.{length_same, left_same}
use Rattle.im_rtlib_laws.specs.Standing.{HasRoutines}
use Rattle.im_rtlib_laws.specs.Laws.{ServesLaw}
use Rattle.im_rtlib_laws.proofs.Ran.{heard_seen}
use Rattle.im_rtlib_laws.proofs.Saving.{Kept, kept_word, kept_quiet, kept_shown, kept_fixed, saving}
use Rattle.im_rtlib_laws.proofs.Services.{serves}

kept_words : (limit capacity : ℕ) (m k : Mem) → Words limit capacity m → Kept m k → little k 0 4 < 2 → ((a : ℕ) → k a < 256) → Words limit capacity k
kept_words limit capacity m k w kept index bytes =
    let word : (a : ℕ) → 4 ≤ a → a + 4 ≤ 128 → little k a 4 ≡ little m a 4 = kept_word m k kept in
    let input = word 20 (omega arith) (omega arith) in
    record {
      index_small = index;
      status_is = word 4 (omega arith) (omega arith) ∙ w.status_is;
      reason_is = word 8 (omega arith) (omega arith) ∙ w.reason_is;
      length_fits = subst (λ z. z ≤ capacity) (sym (length_same m k (kept_quiet m k kept))) w.length_fits;
      capacity_is = word 16 (omega arith) (omega arith) ∙ w.capacity_is;
      capacity_fits = w.capacity_fits;
      position_fits = subst (λ z. z ≤ little k 20 4) (sym (word 24 (omega arith) (omega arith))) (subst (λ z. little m 24 4 ≤ z) (sym input) w.position_fits);
      input_fits = subst (λ z. z ≤ 1048576) (sym input) w.input_fits;
      limit_is = word 28 (omega arith) (omega arith) ∙ w.limit_is;
      bytes = bytes;
    }

saves : (r : Runtime) (place : ℕ → ℕ) → HasRoutines r.image place → 38 ≤ r.longest → 1 ≤ r.flips → (e : ℕ) → 4 ≤ e → e ≤ 31 → SavesAt r (entry_at e)
saves r place has few flips e low high m x call =
    let s = saving r.image m x e (routine_of r.image has.checkpoint) low high call.fixed call.zero_reg call.even call.low call.words.index_small call.words.bytes in (
      record {
        n = e + 7;
        some = omega arith;
        few = omega arith;
        ts = s.ran.ts;
        y = s.y;
        k = s.k;
        reach = s.ran.reach;
        flips = 1;
        flips_few = flips;
        system = heard_seen s.ran.ts ∙ ap heard s.ran.saw;
        orderly = ap (λ z. is_closed (after Anything z)) s.ran.saw;
        fixed = kept_fixed r.image m s.k s.kept call.fixed;
        words = kept_words r.limit r.capacity m s.k call.words s.kept s.index s.bytes;
        data_same = λ a from to. s.kept.high a (omega arith);
        output_is = kept_shown m s.k s.kept;
        input_is = left_same m s.k (kept_quiet m s.k s.kept);
        zero_reg = s.regs 0 (omega arith) ∙ call.zero_reg;
        stack = s.regs 2 (omega arith);
      },
      refl,
      λ i three four. s.regs i four,
      omega arith,
    )

pub serves_law : ServesLaw
serves_law r place has few flips = record {
  serves = serves r place has few flips;
  saves = λ e low high. subst (SavesAt r) (sym (has.entries e low high)) (saves r place has (omega arith) (omega arith) e low high);
}
