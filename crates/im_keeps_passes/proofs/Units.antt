-- Statics, and what frames need, stay from pass to pass.
use Rattle.std.proofs.Common.{◌≡◌, ℕ, zero, suc, ◌≤◌, List, [], ◌∷◌, map, length, Some, None, refl, sym, ap, subst}
use Rattle.std.specs.Prelude.{slice_get, slice_index_or}
use Rattle.im_block.specs.declared.unit.Function.{Function}
use Rattle.im_block.specs.declared.unit.Unit.{Unit as Code}
use Rattle.im_block.specs.Meaning.{statics_of}
use Rattle.im_block.specs.Uncut.{SameFunction, SameButCuts}
use Rattle.im_block.proofs.Unitwise.{zip_map, all_at}
use Rattle.im_alloc_placed.specs.Placed.{frame_bytes, IsPlacedFunction, IsPlacedCode}
use Rattle.im_keeps_passes.specs.Passes.{needs_of}

abbrev need_of : Function → ℕ
need_of f = f.need

pub statics_kept : (old new : Code) → SameButCuts old new → statics_of new ≡ statics_of old
statics_kept old new same = ap statics_of same.rest

pub needs_kept : (old new : Code) → SameButCuts old new → needs_of new ≡ needs_of old
needs_kept old new same = zip_map SameFunction need_of (λ f g k. ap need_of k.rest) old.functions.items new.functions.items same.functions

record Needing (fs : List Function) (i need : ℕ) : Type 0 where
  f : Function
  at : slice_get fs i ≡ Some f
  is : f.need ≡ need

needing : (fs : List Function) (i need : ℕ) → slice_get (map need_of fs) i ≡ Some need → Needing fs i need
needing [] i need e = let bad : None ≡ Some need = e in cc
needing (f ∷ fs) zero need e = let one : f.need ≡ need = cc in record { f = f; at = refl; is = one }
needing (f ∷ fs) (suc i) need e = let n = needing fs i need e in record { f = n.f; at = n.at; is = n.is }

pub frames_fit : (u : Code) (frames : List ℕ) → IsPlacedCode u → ((i : ℕ) (f : Function) → slice_get u.functions.items i ≡ Some f → slice_index_or frames i 0 ≡ frame_bytes f)
    → (i need : ℕ) → slice_get (needs_of u) i ≡ Some need → slice_index_or frames i 0 ≤ need
frames_fit u frames placed are i need e =
    let n = needing u.functions.items i need e in
    let frame = are i n.f n.at in
    let fits = (all_at (IsPlacedFunction (length u.statics.items)) u.functions.items i n.f placed.functions n.at).fits in
    let is = n.is in
    let small : slice_index_or frames i 0 ≤ n.f.need = subst (λ z. z ≤ n.f.need) (sym frame) fits in
    subst (λ z. slice_index_or frames i 0 ≤ z) is small
