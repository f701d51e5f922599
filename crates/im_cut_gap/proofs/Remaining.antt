-- What is left of paths without a cut, from the first block on.
use Rattle.std.proofs.Common.{◌≡◌, ◌⊎◌, ℕ, zero, suc, ◌+◌, ◌<◌, ◌≤◌, max, List, [], ◌∷◌, ◌++◌, length, get_or, Option, Some, None, refl, sym, ap, ◌∙◌, subst, inl, inr, ⊎_elim, length-append, arith}
use Rattle.std.specs.Prelude.{slice_get}
use Rattle.im_block.specs.declared.code.Line.{Line}
use Rattle.im_block.specs.declared.code.Line.TheVariants.{Cut}
use Rattle.im_block.specs.declared.code.Exit.{Exit}
use Rattle.im_block.specs.declared.code.Exit.TheVariants.{Jump, Turn, Branch, Return}
use Rattle.im_block.specs.declared.code.Block.{Block}
use Rattle.im_block.specs.declared.unit.Function.{Function}
use Rattle.im_block.specs.Meaning.{Spot, at_block}
use Rattle.im_block.specs.Paths.{IsCut, spot, IsEntry, AfterCut, Begins}
use Rattle.im_block.specs.Shape.{Descends, IsOrdered, with_cut}
use Rattle.im_block.specs.Forced.{EndsWithCut, CutAtTurn}
use Rattle.im_cut_gap.specs.Costs.{leave_cost, CostPath, Here, Along, Across, NoneLonger}
use Rattle.im_cut_gap.specs.Remaining.{most_behind, cost_on, IsRemaining}
use Rattle.im_cut_gap.proofs.Costs.{some_same, none_some}

-- ---- lists

get_front : (xs ys : List ℕ) (c : ℕ) → c < length xs → get_or (xs ++ ys) c 0 ≡ get_or xs c 0
get_front [] ys c lt = absurd (omega arith)
get_front (x ∷ xs) ys zero lt = refl
get_front (x ∷ xs) ys (suc c) lt = get_front xs ys c (omega arith)

get_last : (xs : List ℕ) (v c : ℕ) → c ≡ length xs → get_or (xs ++ v ∷ []) c 0 ≡ v
get_last [] v zero e = refl
get_last [] v (suc c) e = absurd (omega arith)
get_last (x ∷ xs) v zero e = absurd (omega arith)
get_last (x ∷ xs) v (suc c) e = get_last xs v c (omega arith)

get_beyond : (xs : List ℕ) (c : ℕ) → length xs ≤ c → get_or xs c 0 ≡ 0
get_beyond [] c le = refl
get_beyond (x ∷ xs) zero le = absurd (omega arith)
get_beyond (x ∷ xs) (suc c) le = get_beyond xs c (omega arith)

none_beyond : {A : Type 0} (xs : List A) (c : ℕ) → slice_get xs c ≡ None → length xs ≤ c
none_beyond [] c e = omega arith
none_beyond (x ∷ xs) zero e = absurd (none_some x (sym e))
none_beyond (x ∷ xs) (suc c) e = let le = none_beyond xs c e in omega arith

-- ---- lines

cut_or : (line : Line) → IsCut line ⊎ (IsCut line → ⊥)
cut_or (Cut cause) = inl tt
cut_or line = inr (λ e. e)

cost_plain : (left : ℕ → ℕ) (line : Line) (rest : List Line) (exit : Exit) → (IsCut line → ⊥) → cost_on left (line ∷ rest) exit ≡ with_cut line + cost_on left rest exit
cost_plain left (Cut cause) rest exit uncut = absurd (uncut tt)
cost_plain left line rest exit uncut = refl

cost_cut : (left : ℕ → ℕ) (line : Line) (rest : List Line) (exit : Exit) → IsCut line → cost_on left (line ∷ rest) exit ≡ 0
cost_cut left (Cut cause) rest exit is = refl
cost_cut left line rest exit is = absurd is

ends_rest : (line : Line) (rest : List Line) → (IsCut line → ⊥) → EndsWithCut (line ∷ rest) → EndsWithCut rest
ends_rest line [] uncut h = absurd (uncut h)
ends_rest line (next ∷ rest) uncut h = h

pub turn_rest : (exit : Exit) (line : Line) (rest : List Line) → (IsCut line → ⊥) → CutAtTurn exit (line ∷ rest) → CutAtTurn exit rest
turn_rest (Jump c) line rest uncut h = tt
turn_rest (Turn c) line rest uncut h = ends_rest line rest uncut h
turn_rest (Branch on x y) line rest uncut h = tt
turn_rest (Return from) line rest uncut h = tt

ends_suffix : (front : List Line) (x y : Line) (rest : List Line) → EndsWithCut (front ++ x ∷ y ∷ rest) → EndsWithCut (y ∷ rest)
ends_suffix [] x y rest h = h
ends_suffix (w ∷ []) x y rest h = h
ends_suffix (w ∷ v ∷ front) x y rest h = ends_suffix (v ∷ front) x y rest h

pub turn_suffix : (exit : Exit) (front : List Line) (x : Line) (rest : List Line) → CutAtTurn exit (front ++ x ∷ rest) → CutAtTurn exit rest ⊎ ((c : ℕ) × (rest ≡ []) × (exit ≡ Turn c))
turn_suffix (Jump c) front x rest h = inl tt
turn_suffix (Turn c) front x [] h = inr (c, refl, refl)
turn_suffix (Turn c) front x (y ∷ rest) h = inl (ends_suffix front x y rest h)
turn_suffix (Branch on a b) front x rest h = inl tt
turn_suffix (Return from) front x rest h = inl tt

-- what is left before lines depends on lower blocks alone
same_behind : (p q : ℕ → ℕ) (exit : Exit) (b : ℕ) → CutAtTurn exit [] → Descends exit b → ((c : ℕ) → c < b → p c ≡ q c) → most_behind p exit ≡ most_behind q exit
same_behind p q (Jump c) b cut down same = same c down
same_behind p q (Turn c) b cut down same = absurd cut
same_behind p q (Branch on x y) b cut down same = ap (λ (n : ℕ). max n (p y)) (same x down.0) ∙ ap (λ (n : ℕ). max (q x) n) (same y down.1)
same_behind p q (Return from) b cut down same = refl

same_on : (p q : ℕ → ℕ) (lines : List Line) (exit : Exit) (b : ℕ) → CutAtTurn exit lines → Descends exit b → ((c : ℕ) → c < b → p c ≡ q c) → cost_on p lines exit ≡ cost_on q lines exit
same_on p q [] exit b cut down same = ap (λ (n : ℕ). leave_cost exit + n) (same_behind p q exit b cut down same)
same_on p q (line ∷ rest) exit b cut down same =
    ⊎_elim
    (λ is. cost_cut p line rest exit is ∙ sym (cost_cut q line rest exit is))
    (λ uncut. cost_plain p line rest exit uncut ∙ ap (λ (n : ℕ). with_cut line + n) (same_on p q rest exit b (turn_rest exit line rest uncut cut) down same) ∙ sym (cost_plain q line rest exit uncut))
    (cut_or line)

-- ---- the numbers of blocks, from the first on

abbrev before_block : List ℕ → Block → ℕ
before_block done y = cost_on (λ c. get_or done c 0) y.lines.items y.exit

abbrev lefts_from : List ℕ → List Block → List ℕ
lefts_from done [] = done
lefts_from done (y ∷ ys) = lefts_from (done ++ before_block done y ∷ []) ys

from_keeps : (done : List ℕ) (ys : List Block) (c : ℕ) → c < length done → get_or (lefts_from done ys) c 0 ≡ get_or done c 0
from_keeps done [] c lt = refl
from_keeps done (y ∷ ys) c lt =
    let more = length-append done (before_block done y ∷ []) in
    from_keeps (done ++ before_block done y ∷ []) ys c (omega arith) ∙ get_front done (before_block done y ∷ []) c lt

from_count : (done : List ℕ) (ys : List Block) → length (lefts_from done ys) ≡ length done + length ys
from_count done [] = omega arith
from_count done (y ∷ ys) =
    let more = length-append done (before_block done y ∷ []) in
    let rec = from_count (done ++ before_block done y ∷ []) ys in
    omega arith

record At (done : List ℕ) (all : List Block) (k : ℕ) (y : Block) : Type 0 where
  sofar : List ℕ
  count : length sofar ≡ length done + k
  is : get_or (lefts_from done all) (length done + k) 0 ≡ before_block sofar y
  keeps : (c : ℕ) → c < length done + k → get_or (lefts_from done all) c 0 ≡ get_or sofar c 0

from_at : (done : List ℕ) (ys : List Block) (k : ℕ) (y : Block) → slice_get ys k ≡ Some y → At done ys k y
from_at done [] k y e = absurd (none_some y e)
from_at done (z ∷ ys) zero y e =
    let one : z ≡ y = some_same z y e in
    let more = length-append done (before_block done z ∷ []) in
    let here : length done + 0 ≡ length done = omega arith in
    record {
      sofar = done;
      count = sym here;
      is = from_keeps (done ++ before_block done z ∷ []) ys (length done + 0) (omega arith) ∙ get_last done (before_block done z) (length done + 0) here ∙ ap (λ (q : Block). before_block done q) one;
      keeps = λ c lt. from_keeps (done ++ before_block done z ∷ []) ys c (up c lt more) ∙ get_front done (before_block done z ∷ []) c (subst (λ (n : ℕ). c < n) here lt);
    }
  where
    up : (c : ℕ) → c < length done + 0 → length (done ++ before_block done z ∷ []) ≡ length done + 1 → c < length (done ++ before_block done z ∷ [])
    up c lt e = omega arith
from_at done (z ∷ ys) (suc k) y e =
    let a = from_at (done ++ before_block done z ∷ []) ys k y e in
    let more = length-append done (before_block done z ∷ []) in
    let here : length (done ++ before_block done z ∷ []) + k ≡ length done + suc k = omega arith in
    record {
      sofar = a.sofar;
      count = a.count ∙ here;
      is = subst (λ (n : ℕ). get_or (lefts_from (done ++ before_block done z ∷ []) ys) n 0 ≡ before_block a.sofar y) here a.is;
      keeps = λ c lt. a.keeps c (subst (λ (n : ℕ). c < n) (sym here) lt);
    }

-- ---- a function

module _ (limit : ℕ) (f : Function) (ordered : IsOrdered f.blocks.items) (turns : (b : ℕ) (block : Block) → slice_get f.blocks.items b ≡ Some block → CutAtTurn block.exit block.lines.items) (bounded : NoneLonger limit f) where
  abbrev left : ℕ → ℕ
  left c = get_or (lefts_from [] f.blocks.items) c 0

  zero_up : (n : ℕ) → 0 + n ≡ n
  zero_up n = omega arith

  left_block : (b : ℕ) (block : Block) → slice_get f.blocks.items b ≡ Some block → left b ≡ cost_on left block.lines.items block.exit
  left_block b block at =
      let a = from_at [] f.blocks.items b block at in
      sym (ap left (zero_up b)) ∙ a.is
      ∙ sym (same_on left (λ c. get_or a.sofar c 0) block.lines.items block.exit b (turns b block at) (ordered.each b block at) (λ c lt. a.keeps c (subst (λ (n : ℕ). c < n) (sym (zero_up b)) lt)))

  left_none : (c : ℕ) → slice_get f.blocks.items c ≡ None → left c ≡ 0
  left_none c e = get_beyond (lefts_from [] f.blocks.items) c (subst (λ (n : ℕ). n ≤ c) (sym (from_count [] f.blocks.items ∙ zero_up (length f.blocks.items))) (none_beyond f.blocks.items c e))

  module _ (start : Spot) (from : Begins f start) where
    abbrev Fits : ℕ → ℕ → Type 0
    Fits n more = n + more ≤ limit

    -- by what is left of the block that is come to, if it is there
    come : (c n : ℕ) → n ≤ limit → ((z : Block) → slice_get f.blocks.items c ≡ Some z → Fits n (cost_on left z.lines.items z.exit)) → Fits n (left c)
    come c n le deeper = by (slice_get f.blocks.items c) refl
      where
        by : (o : Option Block) → slice_get f.blocks.items c ≡ o → Fits n (left c)
        by None e = let z = left_none c e in omega arith
        by (Some z) e = subst (λ (k : ℕ). Fits n k) (sym (left_block c z e)) (deeper z e)

    assoc : (n a b : ℕ) → (n + a) + b ≤ limit → n + (a + b) ≤ limit
    assoc n a b h = omega arith

    greater : (n a x y : ℕ) → n + (a + x) ≤ limit → n + (a + y) ≤ limit → n + (a + max x y) ≤ limit
    greater n a x y h k = omega arith

    abbrev Deeper : ℕ → Type 0
    Deeper b = (c : ℕ) → c < b → (z : Block) → slice_get f.blocks.items c ≡ Some z → (n : ℕ) → CostPath f.blocks.items start n (at_block c z) → Fits n (cost_on left z.lines.items z.exit)

    at_exit : (b : ℕ) (exit : Exit) (n : ℕ) → CutAtTurn exit [] → Descends exit b → Deeper b → CostPath f.blocks.items start n (spot b [] exit) → Fits n (cost_on left [] exit)
    at_exit b (Jump c) n cut down deeper p =
        let le = bounded.exit start from n b (Jump c) p in
        assoc n (leave_cost (Jump c)) (left c) (come c (n + leave_cost (Jump c)) le (λ z at. deeper c down z at (n + leave_cost (Jump c)) (Across n b (Jump c) c z refl at p)))
    at_exit b (Turn c) n cut down deeper p = absurd cut
    at_exit b (Branch on x y) n cut down deeper p =
        let exit : Exit = Branch on x y in
        let le = bounded.exit start from n b exit p in
        greater n (leave_cost exit) (left x) (left y)
        (assoc n (leave_cost exit) (left x) (come x (n + leave_cost exit) le (λ z at. deeper x down.0 z at (n + leave_cost exit) (Across n b exit x z (inl refl) at p))))
        (assoc n (leave_cost exit) (left y) (come y (n + leave_cost exit) le (λ z at. deeper y down.1 z at (n + leave_cost exit) (Across n b exit y z (inr refl) at p))))
    at_exit b (Return back) n cut down deeper p = let le = bounded.exit start from n b (Return back) p in omega arith

    at_lines : (b : ℕ) (rest : List Line) (exit : Exit) (n : ℕ) → CutAtTurn exit rest → Descends exit b → Deeper b → CostPath f.blocks.items start n (spot b rest exit) → Fits n (cost_on left rest exit)
    at_lines b [] exit n cut down deeper p = at_exit b exit n cut down deeper p
    at_lines b (line ∷ rest) exit n cut down deeper p =
        ⊎_elim
        (λ is. (let le = bounded.path start from n (spot b (line ∷ rest) exit) p in let none = cost_cut left line rest exit is in omega arith))
        (λ uncut.
        (let more = at_lines b rest exit (n + with_cut line) (turn_rest exit line rest uncut cut) down deeper (Along n b line rest exit uncut p) in
        subst (λ (k : ℕ). Fits n k) (sym (cost_plain left line rest exit uncut)) (assoc n (with_cut line) (cost_on left rest exit) more)))
        (cut_or line)

    at_start : (fuel c : ℕ) → c < fuel → (z : Block) → slice_get f.blocks.items c ≡ Some z → (n : ℕ) → CostPath f.blocks.items start n (at_block c z) → Fits n (cost_on left z.lines.items z.exit)
    at_start zero c lt z at n p = absurd (omega arith)
    at_start (suc fuel) c lt z at n p = at_lines c z.lines.items z.exit n (turns c z at) (ordered.each c z at) (λ d less y there m q. at_start fuel d (omega arith) y there m q) p

  entry_left : (s : Spot) → IsEntry f s → cost_on left s.rest s.exit ≤ limit
  entry_left s e =
      let top : f.entry < suc f.entry = omega arith in
      let h = at_start s (inl e) (suc f.entry) f.entry top e.block e.at 0 (subst (λ (t : Spot). CostPath f.blocks.items s 0 t) e.is Here) in
      subst (λ (t : Spot). cost_on left t.rest t.exit ≤ limit) (sym e.is) (subst (λ (n : ℕ). n ≤ limit) (zero_up (cost_on left e.block.lines.items e.block.exit)) h)

  turn_left : (s : Spot) (c : ℕ) → Begins f s → s.rest ≡ [] → s.exit ≡ Turn c → cost_on left s.rest s.exit ≤ limit
  turn_left s c from none turn =
      let same : s ≡ spot s.block [] (Turn c) = ap (λ (t : List Line). spot s.block t s.exit) none ∙ ap (λ (t : Exit). spot s.block [] t) turn in
      let p : CostPath f.blocks.items s 0 (spot s.block [] (Turn c)) = subst (λ (t : Spot). CostPath f.blocks.items s 0 t) same Here in
      let le = bounded.exit s from 0 s.block (Turn c) p in
      let top : c < suc c = omega arith in
      let h = come s from c (0 + leave_cost (Turn c)) le (λ z at. at_start s from (suc c) c top z at (0 + leave_cost (Turn c)) (Across 0 s.block (Turn c) c z refl at p)) in
      subst (λ (t : Spot). cost_on left t.rest t.exit ≤ limit) (sym same) (subst (λ (n : ℕ). n + left c ≤ limit) (zero_up (leave_cost (Turn c))) h)

  cut_left : (s : Spot) → AfterCut f.blocks.items s → cost_on left s.rest s.exit ≤ limit
  cut_left s a =
      ⊎_elim
      (λ cut.
      (let h = at_lines s (inr a) s.block s.rest s.exit 0 cut (subst (λ (t : Exit). Descends t s.block) (sym a.exit) (ordered.each s.block a.block a.at)) (λ d less y there m q. at_start s (inr a) (suc d) d (top d) y there m q) Here in
      subst (λ (n : ℕ). n ≤ limit) (zero_up (cost_on left s.rest s.exit)) h))
      (λ (t : (c : ℕ) × (s.rest ≡ []) × (s.exit ≡ Turn c)). turn_left s t.0 (inr a) t.1 t.2)
      (turn_suffix s.exit a.before a.cut s.rest (subst (λ (t : List Line). CutAtTurn s.exit t) a.lines (subst (λ (t : Exit). CutAtTurn t a.block.lines.items) (sym a.exit) (turns s.block a.block a.at))))
    where
      top : (d : ℕ) → d < suc d
      top d = omega arith

  pub remaining : (left : ℕ → ℕ) × IsRemaining limit f left
  remaining = (left, record { blocks = left_block; begins = λ s from. ⊎_elim (λ (e : IsEntry f s). entry_left s e) (λ (a : AfterCut f.blocks.items s). cut_left s a) from })
