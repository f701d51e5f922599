-- Positions of blocks, from the last block on.
use Rattle.std.proofs.Common.{◌≡◌, ◌≢◌, ◌⊎◌, ◌<◌, ◌≤◌, ◌+◌, ◌-◌, ◌^◌, ℕ, zero, suc, List, [], ◌∷◌, Some, length, get_or, set, drop, inl, inr, sym, ap, ◌∙◌, subst, arith}
use Rattle.std.specs.Prelude.{slice_get, slice_index}
use Rattle.std.proofs.lemmas.Bool.{cases_eq}
use Rattle.std.proofs.lemmas.List.{length-set, get_or-set_same, get_or-set_other, drop_all}
use Rattle.std.proofs.lemmas.Option.{slice_get_within, same_Some}
use Rattle.im_block.specs.declared.code.Block.{Block}
use Rattle.im_block.specs.Shape.{sum_of}
use Rattle.im_alloc_intervals.specs.Leaves.{size_of, position}
use Rattle.im_alloc_intervals.specs.Tables.{ArePlaces}

pub record PlacesFrom (blocks : List Block) (places : List ℕ) (next left : ℕ) : Type 0 where
  pub count : length places ≡ length blocks
  pub within : left ≤ length blocks
  pub next_is : next ≡ sum_of size_of (drop left blocks)
  pub each : (b : ℕ) (block : Block) → slice_get blocks b ≡ Some block → left ≤ b → slice_index places b ≡ position blocks b 0
  pub room : (b : ℕ) (block : Block) → slice_get blocks b ≡ Some block → left ≤ b → slice_index places b + suc (length block.lines.items) < 2 ^ 64

sum_at : (blocks : List Block) (b : ℕ) (block : Block) → slice_get blocks b ≡ Some block → sum_of size_of (drop b blocks) ≡ size_of block + sum_of size_of (drop (suc b) blocks)
sum_at [] b block e = absurd cc
sum_at (x ∷ xs) zero block e = ap (λ (z : Block). size_of z + sum_of size_of xs) (same_Some x block e)
sum_at (x ∷ xs) (suc b) block e = sum_at xs b block e

pub places_begin : (blocks : List Block) (places : List ℕ) → length places ≡ length blocks → PlacesFrom blocks places 0 (length blocks)
places_begin blocks places count = record {
  count = count;
  within = omega arith;
  next_is = sym (ap (λ (z : List Block). sum_of size_of z) (drop_all (length blocks) blocks (omega arith)));
  each = λ b block at le. (let lt = slice_get_within blocks b block at in absurd (omega arith));
  room = λ b block at le. (let lt = slice_get_within blocks b block at in absurd (omega arith));
}

pub places_step : (blocks : List Block) (places : List ℕ) (next left new : ℕ) (block : Block) → 0 < left → slice_get blocks (left - 1) ≡ Some block → PlacesFrom blocks places next left → new ≡ next + suc (length block.lines.items) → new < 2 ^ 64 → PlacesFrom blocks (set places (left - 1) next) new (left - 1)
places_step blocks places next left new block pos at inv is small = record {
  count = length-set places (left - 1) next ∙ inv.count;
  within = (let w = inv.within in omega arith);
  next_is = is ∙ (let a = sum_at blocks (left - 1) block at in let b : sum_of size_of (drop (suc (left - 1)) blocks) ≡ next = next_at in omega arith);
  each = λ b x here le. each b x here le (cases_eq b (left - 1));
  room = λ b x here le. room b x here le (cases_eq b (left - 1));
}
  where
    back : suc (left - 1) ≡ left
    back = omega arith

    next_at : sum_of size_of (drop (suc (left - 1)) blocks) ≡ next
    next_at = ap (λ z. sum_of size_of (drop z blocks)) back ∙ sym inv.next_is

    within : left - 1 < length places
    within = let a = inv.count in let c = inv.within in omega arith

    same : (b : ℕ) → b ≡ left - 1 → slice_index (set places (left - 1) next) b ≡ next
    same b e = ap (λ z. get_or (set places (left - 1) next) z 0) e ∙ get_or-set_same places (left - 1) next 0 within

    other : (b : ℕ) → b ≢ left - 1 → slice_index (set places (left - 1) next) b ≡ slice_index places b
    other b ne = get_or-set_other places (left - 1) b next 0 ne

    each : (b : ℕ) (x : Block) → slice_get blocks b ≡ Some x → left - 1 ≤ b → (b ≡ left - 1) ⊎ (b ≢ left - 1) → slice_index (set places (left - 1) next) b ≡ position blocks b 0
    each b x here le (inl e) = same b e ∙ sym next_at ∙ (let q : sum_of size_of (drop (suc (left - 1)) blocks) ≡ sum_of size_of (drop (suc b) blocks) = ap (λ z. sum_of size_of (drop (suc z) blocks)) (sym e) in omega arith)
    each b x here le (inr ne) = other b ne ∙ inv.each b x here (omega arith)

    room : (b : ℕ) (x : Block) → slice_get blocks b ≡ Some x → left - 1 ≤ b → (b ≡ left - 1) ⊎ (b ≢ left - 1) → slice_index (set places (left - 1) next) b + suc (length x.lines.items) < 2 ^ 64
    room b x here le (inl e) =
        let q = same b e in
        let r : block ≡ x = same_Some block x (sym at ∙ subst (λ z. slice_get blocks z ≡ Some x) e here) in
        let long : length block.lines.items ≡ length x.lines.items = ap (λ (z : Block). length z.lines.items) r in
        omega arith
    room b x here le (inr ne) = let q = other b ne in let k = inv.room b x here (omega arith) in omega arith

pub places_end : (blocks : List Block) (places : List ℕ) (next left : ℕ) → left ≡ 0 → PlacesFrom blocks places next left → ArePlaces blocks places
places_end blocks places next left none inv = record {
  count = inv.count;
  each = λ b block at. inv.each b block at (omega arith);
  room = λ b block at. inv.room b block at (omega arith);
}
