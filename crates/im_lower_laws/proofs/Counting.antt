-- What code that is being made weighs: its cost in words, its loop edges, and how often it has an access of a number.
use Rattle.std.proofs.Common.{◌≡◌, ℕ, zero, suc, ◌+◌, ◌≤◌, ◌==◌, List, [], ◌∷◌, ◌++◌, length, refl, ap, sym, ◌∙◌, arith}
use Rattle.std.specs.Prelude.{if◌then◌else◌, Some, None, slice_get, slice_set}
use Rattle.im_block.specs.declared.code.Line.{Line}
use Rattle.im_block.specs.declared.code.Exit.{Exit}
use Rattle.im_block.specs.declared.code.Exit.TheVariants.{Jump, Turn, Branch, Return}
use Rattle.im_block.specs.Shape.{sum_of, turns_of, cost, exit_cost}
use Rattle.im_block.specs.Wellformed.{accesses_of_line, accesses_of_lines}
use Rattle.im_lower_relation.specs.Codes.{Point, ends}
use Rattle.im_lower_plain.specs.Made.{Made, put, close, start, turn}

pub sum_more : {X : Type 0} (f : X → ℕ) (xs : List X) (y : X) → sum_of f (xs ++ y ∷ []) ≡ sum_of f xs + f y
sum_more f [] y = omega arith
sum_more f (x ∷ xs) y = let h = sum_more f xs y in omega arith

pub sum_set : {X : Type 0} (f : X → ℕ) (xs : List X) (k : ℕ) (old new : X) → slice_get xs k ≡ Some old → f new ≡ f old → sum_of f (slice_set xs k new) ≡ sum_of f xs
sum_set f [] k old new e same = refl
sum_set f (x ∷ xs) zero old new e same =
    let was : x ≡ old = cc in
    ap (λ n. n + sum_of f xs) (same ∙ ap f (sym was))
sum_set f (x ∷ xs) (suc k) old new e same = ap (λ n. f x + n) (sum_set f xs k old new e same)

-- the sum over the blocks and the open one
abbrev pub total : (Point → ℕ) → Made → ℕ
total f m = sum_of f m.blocks + f m.point

abbrev pub point_cost : Point → ℕ
point_cost p = sum_of cost p.rest + exit_cost p.exit

abbrev pub point_turns : Point → ℕ
point_turns p = turns_of p.exit

abbrev pub occurs : ℕ → List ℕ → ℕ
occurs a [] = 0
occurs a (x ∷ xs) = (if x == a then 1 else 0) + occurs a xs

pub occurs_more : (a : ℕ) (xs ys : List ℕ) → occurs a (xs ++ ys) ≡ occurs a xs + occurs a ys
occurs_more a [] ys = omega arith
occurs_more a (x ∷ xs) ys = let h = occurs_more a xs ys in omega arith

abbrev pub point_times : ℕ → Point → ℕ
point_times a p = occurs a (accesses_of_lines p.rest)

-- what the changes of the code add

pub put_cost : (line : Line) (m : Made) → total point_cost (put line m) ≡ total point_cost m + cost line
unfolding put
put_cost line m = omega arith

pub put_turns : (line : Line) (m : Made) → total point_turns (put line m) ≡ total point_turns m
unfolding put
put_turns line m = refl

pub put_times : (a : ℕ) (line : Line) (m : Made) → total (point_times a) (put line m) ≡ total (point_times a) m + occurs a (accesses_of_line line)
unfolding put
put_times a line m =
    let h = occurs_more a (accesses_of_line line) (accesses_of_lines m.point.rest) in
    omega arith

pub close_total : (f : Point → ℕ) (m : Made) → total f (close m) ≡ total f m + f (ends (Jump (length m.blocks)))
unfolding close
close_total f m = ap (λ n. n + f (ends (Jump (length m.blocks)))) (sum_more f m.blocks m.point)

pub start_total : (f : Point → ℕ) (exit : Exit) (m : Made) → total f (start exit m) + f m.point ≡ total f m + f (ends exit)
unfolding start
start_total f exit m = omega arith

pub turn_total : (f : Point → ℕ) (k body old : ℕ) (m : Made) → slice_get m.blocks k ≡ Some (ends (Turn old)) → f (ends (Turn body)) ≡ f (ends (Turn old)) → total f (turn k body m) ≡ total f m
unfolding turn
turn_total f k body old m e same = ap (λ n. n + f m.point) (sum_set f m.blocks k (ends (Turn old)) (ends (Turn body)) e same)

pub exit_costs : (exit : Exit) → 2 ≤ exit_cost exit
exit_costs (Jump b) = omega arith
exit_costs (Turn b) = omega arith
exit_costs (Branch on x y) = omega arith
exit_costs (Return None) = omega arith
exit_costs (Return (Some r)) = omega arith
