-- A struct's groups of cells, copied from the last to the first.
use Rattle.std.proofs.Common.{◌≡◌, ℕ, zero, suc, ◌+◌, ◌-◌, ◌*◌, ◌<◌, ◌≤◌, List, [], ◌∷◌, take, drop, length, refl, sym, ap, ◌∙◌, arith}
use Rattle.std.specs.Prelude.{slice_range}
use Rattle.std.proofs.lemmas.List.{drop-drop, length-drop}
use Rattle.im_ctype.specs.declared.cell.Cell.{Cell}
use Rattle.im_block.specs.declared.code.Place.{Place}
use Rattle.im_lower_plain.specs.Made.{Made}
use Rattle.im_lower_plain.specs.Make.{put_group, put_groups}

take-all : (cells : List Cell) (n : ℕ) → length cells ≤ n → take n cells ≡ cells
take-all [] zero le = refl
take-all [] (suc n) le = refl
take-all (c ∷ cs) zero le = absurd (omega arith)
take-all (c ∷ cs) (suc n) le = ap (λ (xs : List Cell). c ∷ xs) (take-all cs n (let less : length cs ≤ n = omega arith in less))

module _ (pointer : ℕ) (place : Place) (cells : List Cell) (m : Made) where
  pub groups-start : (groups : ℕ) → put_group pointer place (slice_range cells (8 * groups) (length cells)) m ≡ put_groups pointer place (groups - groups) (drop (8 * groups) cells) m
  groups-start groups =
      let none : 0 ≡ groups - groups = omega arith in
      let left = length-drop (8 * groups) cells in
      ap (λ xs. put_group pointer place xs m) (take-all (drop (8 * groups) cells) (length cells - 8 * groups) (omega arith))
      ∙ ap (λ n. put_groups pointer place n (drop (8 * groups) cells) m) none

  pub groups-more : (groups group : ℕ) → group < groups
      → put_group pointer place (slice_range cells (8 * group) (8 * group + 8)) (put_groups pointer place (groups - (group + 1)) (drop (8 * (group + 1)) cells) m) ≡ put_groups pointer place (groups - group) (drop (8 * group) cells) m
  groups-more groups group lt =
      let eight : 8 * group + 8 - 8 * group ≡ 8 = omega arith in
      let next : 8 * (group + 1) ≡ 8 * group + 8 = omega arith in
      let one_more : suc (groups - (group + 1)) ≡ groups - group = omega arith in
      let rest : drop (8 * (group + 1)) cells ≡ drop 8 (drop (8 * group) cells) = ap (λ n. drop n cells) next ∙ sym (drop-drop 8 (8 * group) cells) in
      ap (λ n. put_group pointer place (take n (drop (8 * group) cells)) (put_groups pointer place (groups - (group + 1)) (drop (8 * (group + 1)) cells) m)) eight
      ∙ ap (λ xs. put_group pointer place (take 8 (drop (8 * group) cells)) (put_groups pointer place (groups - (group + 1)) xs m)) rest
      ∙ ap (λ n. put_groups pointer place n (drop (8 * group) cells) m) one_more
