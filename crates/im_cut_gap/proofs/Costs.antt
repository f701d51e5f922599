-- The greatest cost of a path behind lines, and what a sweep says of it.
use Rattle.std.proofs.Common.{◌≡◌, ℕ, ◌+◌, ◌≤◌, List, [], ◌∷◌, ◌++◌, Option, Some, None, refl, ap, ◌∙◌, inl, inr, arith}
use Rattle.im_num.specs.declared.values.Cause.{Cause}
use Rattle.im_num.specs.declared.values.Cause.TheVariants.{Gap}
use Rattle.im_block.specs.declared.code.Line.{Line}
use Rattle.im_block.specs.declared.code.Line.TheVariants.{Cut}
use Rattle.im_block.specs.declared.code.Exit.{Exit}
use Rattle.im_block.specs.Sections.{Has}
use Rattle.im_block.specs.Paths.{IsCut}
use Rattle.im_block.specs.Shape.{with_cut}
use Rattle.im_block.specs.Forced.{EndsWithCut}
use Rattle.im_cut_gap.specs.Costs.{leave_cost}
use Rattle.im_cut_gap.specs.Starts.{Reaches}
use Rattle.im_cut_gap.specs.Sweep.{Spends, Nowhere, Fits, Splits, SweepLines, Leaves, AtCut, Skips, Keeps, Cuts}

pub some_same : {A : Type 0} (a b : A) → Some a ≡ Some b → a ≡ b
some_same a b e = cc

pub none_some : {A : Type 0} (a : A) → None ≡ Some a → ⊥
none_some a e = cc

abbrev pub spent : ℕ → Option ℕ → Option ℕ
spent cost None = None
spent cost (Some m) = Some (m + cost)

abbrev pub cost_after : Line → Option ℕ → Option ℕ
cost_after (Cut cause) m = Some 0
cost_after line m = spent (with_cut line) m

abbrev pub cost_along : Option ℕ → List Line → Option ℕ
cost_along m [] = m
cost_along m (line ∷ lines) = cost_along (cost_after line m) lines

-- behind the exit
abbrev pub end_cost : Option ℕ → List Line → Exit → Option ℕ
end_cost m lines exit = spent (leave_cost exit) (cost_along m lines)

pub along_append : (m : Option ℕ) (a b : List Line) → cost_along m (a ++ b) ≡ cost_along (cost_along m a) b
along_append m [] b = refl
along_append m (x ∷ a) b = along_append (cost_after x m) a b

pub after_plain : (line : Line) (m : Option ℕ) → (IsCut line → ⊥) → cost_after line m ≡ spent (with_cut line) m
after_plain (Cut cause) m h = absurd (h tt)
after_plain line m h = refl

pub after_cut : (line : Line) (m : Option ℕ) → IsCut line → cost_after line m ≡ Some 0
after_cut (Cut cause) m h = refl
after_cut line m h = absurd h

pub zero_more : (n : ℕ) → 0 + n ≡ n
zero_more n = omega arith

pub spent_zero : (n : ℕ) → spent n (Some 0) ≡ Some n
spent_zero n = ap (λ (k : ℕ). Some k) (zero_more n)

pub spent_from : (c k : ℕ) (x : Option ℕ) → spent c x ≡ Some k → (j : ℕ) × (x ≡ Some j) × (j + c ≡ k)
spent_from c k None e = absurd (none_some k e)
spent_from c k (Some j) e = (j, refl, some_same (j + c) k e)

pub reaches_more : (n c : ℕ) (x : Option ℕ) → Reaches n x → Reaches (n + c) (spent c x)
reaches_more n c None h = h
reaches_more n c (Some m) h = omega arith

pub reaches_down : (n m : ℕ) (x : Option ℕ) → n ≤ m → Reaches m x → Reaches n x
reaches_down n m None le h = h
reaches_down n m (Some k) le h = omega arith

-- no more than a limit
abbrev pub Small : ℕ → Option ℕ → Type 0
Small limit None = Unit {0}
Small limit (Some m) = m ≤ limit

pub small_reached : (limit n : ℕ) (x : Option ℕ) → Small limit x → Reaches n x → n ≤ limit
small_reached limit n None s h = absurd h
small_reached limit n (Some m) s h = omega arith

-- ---- the end of a sweep

spends_end : (limit : ℕ) (exit : Exit) (m : Option ℕ) (put : List Line) (n : Option ℕ) → Spends limit (leave_cost exit) m put n → end_cost m put exit ≡ n
spends_end limit exit m put n Nowhere = refl
spends_end limit exit m put n (Fits k fits) = refl
spends_end limit exit m put n (Splits k long) = spent_zero (leave_cost exit)

pub sweep_end : (limit : ℕ) (exit : Exit) (m : Option ℕ) (old new : List Line) (n : Option ℕ) → SweepLines limit exit m old new n → end_cost m new exit ≡ n
sweep_end limit exit m old new n (Leaves k put l s) = spends_end limit exit k put l s
sweep_end limit exit m old new n (AtCut k cause x y l s) = sweep_end limit exit (Some 0) x y l s
sweep_end limit exit m old new n (Skips line x y l uncut s) =
    ap (λ (t : Option ℕ). end_cost t y exit) (after_plain line None uncut) ∙ sweep_end limit exit None x y l s
sweep_end limit exit m old new n (Keeps k line x y l uncut fits s) =
    ap (λ (t : Option ℕ). end_cost t y exit) (after_plain line (Some k) uncut) ∙ sweep_end limit exit (Some (k + with_cut line)) x y l s
sweep_end limit exit m old new n (Cuts k line x y l uncut long s) =
    ap (λ (t : Option ℕ). end_cost t y exit) (after_plain line (Some 0) uncut ∙ spent_zero (with_cut line)) ∙ sweep_end limit exit (Some (with_cut line)) x y l s

spends_small : (limit cost : ℕ) (m : Option ℕ) (put : List Line) (n : Option ℕ) → cost ≤ limit → Spends limit cost m put n → Small limit n
spends_small limit cost m put n le Nowhere = tt
spends_small limit cost m put n le (Fits k fits) = fits
spends_small limit cost m put n le (Splits k long) = le

pub sweep_small : (limit : ℕ) (exit : Exit) (m : Option ℕ) (old new : List Line) (n : Option ℕ) → leave_cost exit ≤ limit → SweepLines limit exit m old new n → Small limit n
sweep_small limit exit m old new n le (Leaves k put l s) = spends_small limit (leave_cost exit) k put l le s
sweep_small limit exit m old new n le (AtCut k cause x y l s) = sweep_small limit exit (Some 0) x y l le s
sweep_small limit exit m old new n le (Skips line x y l uncut s) = sweep_small limit exit None x y l le s
sweep_small limit exit m old new n le (Keeps k line x y l uncut fits s) = sweep_small limit exit (Some (k + with_cut line)) x y l le s
sweep_small limit exit m old new n le (Cuts k line x y l uncut long s) = sweep_small limit exit (Some (with_cut line)) x y l le s

-- ---- a loop edge's block ends with a cut that was there

pub record TurnEnd (exit : Exit) (old new : List Line) (n : Option ℕ) : Type 0 where
  pub front : List Line
  pub cause : Cause
  pub lines : new ≡ front ++ Cut cause ∷ []
  pub was : Has old (Cut cause)
  pub cost : n ≡ Some (leave_cost exit)

further : (exit : Exit) (line : Line) (old new : List Line) (n : Option ℕ) → TurnEnd exit old new n → TurnEnd exit (line ∷ old) (line ∷ new) n
further exit line old new n t = record { front = line ∷ t.front; cause = t.cause; lines = ap (λ (l : List Line). line ∷ l) t.lines; was = inr t.was; cost = t.cost }

split_further : (exit : Exit) (line : Line) (old new : List Line) (n : Option ℕ) → TurnEnd exit (line ∷ old) new n → TurnEnd exit (line ∷ old) (Cut Gap ∷ new) n
split_further exit line old new n t = record { front = Cut Gap ∷ t.front; cause = t.cause; lines = ap (λ (l : List Line). Cut Gap ∷ l) t.lines; was = t.was; cost = t.cost }

-- behind a cut nothing is put before the exit
record Left (cost : ℕ) (put : List Line) (n : Option ℕ) : Type 0 where
  none : put ≡ []
  cost_is : n ≡ Some cost

spends_left : (limit cost : ℕ) (m : Option ℕ) (put : List Line) (n : Option ℕ) → cost ≤ limit → Spends limit cost m put n → m ≡ Some 0 → Left cost put n
spends_left limit cost m put n le Nowhere e = absurd (none_some 0 e)
spends_left limit cost m put n le (Fits k fits) e = (let z : k ≡ 0 = some_same k 0 e in record { none = refl; cost_is = ap (λ (j : ℕ). Some (j + cost)) z ∙ ap (λ (j : ℕ). Some j) (zero_more cost) })
spends_left limit cost m put n le (Splits k long) e = (let z : k ≡ 0 = some_same k 0 e in absurd (omega arith))

sweep_left : (limit : ℕ) (exit : Exit) (m : Option ℕ) (old new : List Line) (n : Option ℕ) → leave_cost exit ≤ limit → SweepLines limit exit m old new n → m ≡ Some 0 → old ≡ [] → Left (leave_cost exit) new n
sweep_left limit exit m old new n le (Leaves k put l s) e o = spends_left limit (leave_cost exit) k put l le s e
sweep_left limit exit m old new n le (AtCut k cause x y l s) e o = cc
sweep_left limit exit m old new n le (Skips line x y l uncut s) e o = cc
sweep_left limit exit m old new n le (Keeps k line x y l uncut fits s) e o = cc
sweep_left limit exit m old new n le (Cuts k line x y l uncut long s) e o = cc

pub turn_end : (limit : ℕ) (exit : Exit) (m : Option ℕ) (old new : List Line) (n : Option ℕ) → leave_cost exit ≤ limit → SweepLines limit exit m old new n → EndsWithCut old → TurnEnd exit old new n
turn_end limit exit m old new n le (Leaves k put l s) h = absurd h
turn_end limit exit m old new n le (AtCut k cause [] y l s) h =
    let r = sweep_left limit exit (Some 0) [] y l le s refl refl in
    record { front = []; cause = cause; lines = ap (λ (t : List Line). Cut cause ∷ t) r.none; was = inl refl; cost = r.cost_is }
turn_end limit exit m old new n le (AtCut k cause (z ∷ x) y l s) h = further exit (Cut cause) (z ∷ x) y l (turn_end limit exit (Some 0) (z ∷ x) y l le s h)
turn_end limit exit m old new n le (Skips line [] y l uncut s) h = absurd (uncut h)
turn_end limit exit m old new n le (Skips line (z ∷ x) y l uncut s) h = further exit line (z ∷ x) y l (turn_end limit exit None (z ∷ x) y l le s h)
turn_end limit exit m old new n le (Keeps k line [] y l uncut fits s) h = absurd (uncut h)
turn_end limit exit m old new n le (Keeps k line (z ∷ x) y l uncut fits s) h = further exit line (z ∷ x) y l (turn_end limit exit (Some (k + with_cut line)) (z ∷ x) y l le s h)
turn_end limit exit m old new n le (Cuts k line [] y l uncut long s) h = absurd (uncut h)
turn_end limit exit m old new n le (Cuts k line (z ∷ x) y l uncut long s) h =
    split_further exit line (z ∷ x) (line ∷ y) l (further exit line (z ∷ x) y l (turn_end limit exit (Some (with_cut line)) (z ∷ x) y l le s h))
