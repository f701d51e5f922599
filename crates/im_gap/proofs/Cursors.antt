-- The cursors as marks change and as one moves on.
use Rattle.std.proofs.Common.{◌≡◌, ◌≢◌, ℕ, ◌<◌, ◌≤◌, ◌⊎◌, inl, inr, List, length, set, sym, ap, subst, ◌∙◌, arith, get_or-set_same, get_or-set_other}
use Rattle.std.specs.Prelude.{slice_index}
use Rattle.std.proofs.lemmas.List.{length-set}
use Rattle.im_gap.specs.declared.marks.Mark.{Mark}
use Rattle.im_gap.specs.Search.{mark_at, IsDone, CursorState}

same_or : (a b : ℕ) → (a ≡ b) ⊎ (a ≢ b)
same_or a b = grind arith

below_or : (a b : ℕ) → (a < b) ⊎ (b ≤ a)
below_or a b = grind arith

pub passed_kept : (next : ℕ → List ℕ) (n : ℕ) (marks now : List Mark) (cursors : List ℕ) → CursorState next n marks cursors → ((u : ℕ) → IsDone (mark_at marks u) → IsDone (mark_at now u)) → CursorState next n now cursors
passed_kept next n marks now cursors p kept = record { size = p.size; within = p.within; before = λ v k l. kept (slice_index (next v) k) (p.before v k l) }

-- these successors of v are done as far as a place
pub all_passed : (next : ℕ → List ℕ) (n : ℕ) (marks ms : List Mark) (cursors ws : List ℕ) (v at from : ℕ) → CursorState next n marks cursors → ms ≡ marks → ws ≡ next v → from ≡ slice_index cursors v → ((k : ℕ) → from ≤ k → k < at → IsDone (mark_at ms (slice_index ws k))) → (k : ℕ) → k < at → IsDone (mark_at marks (slice_index (next v) k))
all_passed next n marks ms cursors ws v at from p m q f done k l = elim (below_or k (slice_index cursors v)) [
  | inl b ↦ p.before v k b
  | inr b ↦ subst (λ (z : List ℕ). IsDone (mark_at marks (slice_index z k))) q (subst (λ (z : List Mark). IsDone (mark_at z (slice_index ws k))) m (done k (omega arith) l))
]

pub passed_on : (next : ℕ → List ℕ) (n : ℕ) (marks : List Mark) (cursors : List ℕ) (v at : ℕ) → CursorState next n marks cursors → v < n → at ≤ length (next v) → ((k : ℕ) → k < at → IsDone (mark_at marks (slice_index (next v) k))) → CursorState next n marks (set cursors v at)
passed_on next n marks cursors v at p l w done =
    let here : slice_index (set cursors v at) v ≡ at = get_or-set_same cursors v at 0 (let z = p.size in omega arith) in
    let there : (u : ℕ) → u ≢ v → slice_index (set cursors v at) u ≡ slice_index cursors u = λ u ne. get_or-set_other cursors v u at 0 ne in
    record {
      size = length-set cursors v at ∙ p.size;
      within = λ u. elim (same_or u v) [
        | inl q ↦ subst (λ (z : ℕ). slice_index (set cursors v at) z ≤ length (next z)) (sym q) (omega arith)
        | inr ne ↦ (let e = there u ne in let i = p.within u in omega arith)
      ];
      before = λ u k b. elim (same_or u v) [
        | inl q ↦ subst (λ (z : ℕ). IsDone (mark_at marks (slice_index (next z) k))) (sym q) (done k (let e = ap (slice_index (set cursors v at)) q in omega arith))
        | inr ne ↦ p.before u k (let e = there u ne in omega arith)
      ];
    }
