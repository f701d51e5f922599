-- Paths of code with further cuts are paths of the old code.
use Rattle.std.proofs.Common.{◌≡◌, ℕ, ◌+◌, ◌≤◌, List, [], ◌∷◌, refl, sym, ap, subst, arith}
use Rattle.im_block.specs.declared.code.Line.{Line}
use Rattle.im_block.specs.declared.code.Line.TheVariants.{Cut}
use Rattle.im_block.specs.declared.code.Exit.{Exit}
use Rattle.im_block.specs.declared.unit.Function.{Function}
use Rattle.im_block.specs.Meaning.{Spot, at_block}
use Rattle.im_block.specs.Paths.{IsCut, spot, Begins}
use Rattle.im_block.specs.Shape.{with_cut}
use Rattle.im_block.specs.Uncut.{WithCuts, Empty, Same, Added, SameBlock, SameFunction}
use Rattle.im_block.proofs.Unitwise.{zip_old}
use Rattle.im_cut_gap.specs.Costs.{leave_cost, CostPath, Here, Along, Across, NoneLonger}
use Rattle.im_cut_gap.specs.Remaining.{LiesOn}

record Peeled (old : List Line) (line : Line) (rest : List Line) : Type 0 where
  left : List Line
  is : old ≡ line ∷ left
  more : WithCuts left rest

peel : (old new : List Line) (line : Line) (rest : List Line) → WithCuts old new → new ≡ line ∷ rest → (IsCut line → ⊥) → Peeled old line rest
peel old new line rest Empty e uncut = cc
peel old new line rest (Same x a b h) e uncut =
    let head : x ≡ line = cc in
    let tail : b ≡ rest = cc in
    record { left = a; is = ap (λ (l : Line). l ∷ a) head; more = subst (λ (t : List Line). WithCuts a t) tail h }
peel old new line rest (Added cause a b h) e uncut =
    let head : Cut cause ≡ line = cc in
    absurd (uncut (subst IsCut head tt))

pub none_left : (old new : List Line) → WithCuts old new → new ≡ [] → old ≡ []
none_left old new Empty e = refl
none_left old new (Same x a b h) e = cc
none_left old new (Added cause a b h) e = cc

module _ (old new : Function) (same : SameFunction old new) (start from : Spot) (before : ℕ) where
  -- a path of the old code that costs so much more, to where this one comes
  pub record Follows (n : ℕ) (s : Spot) : Type 0 where
    pub rest : List Line
    pub path : CostPath old.blocks.items start (before + n) (spot s.block rest s.exit)
    pub more : WithCuts rest s.rest

  pub follows : (n : ℕ) (s : Spot) → Follows 0 from → CostPath new.blocks.items from n s → Follows n s
  follows n s first Here = first
  follows n s first (Along k b line rest exit uncut q) =
      let r = follows k (spot b (line ∷ rest) exit) first q in
      let p = peel r.rest (line ∷ rest) line rest r.more refl uncut in
      let here = subst (λ (t : List Line). CostPath old.blocks.items start (before + k) (spot b t exit)) p.is r.path in
      let sum : (before + k) + with_cut line ≡ before + (k + with_cut line) = omega arith in
      record { rest = p.left; path = subst (λ (m : ℕ). CostPath old.blocks.items start m (spot b p.left exit)) sum (Along (before + k) b line p.left exit uncut here); more = p.more }
  follows n s first (Across k b exit c block edge at q) =
      let r = follows k (spot b [] exit) first q in
      let none = none_left r.rest [] r.more refl in
      let here = subst (λ (t : List Line). CostPath old.blocks.items start (before + k) (spot b t exit)) none r.path in
      let t = zip_old SameBlock old.blocks.items new.blocks.items c block same.blocks at in
      let sum : (before + k) + leave_cost exit ≡ before + (k + leave_cost exit) = omega arith in
      let over = subst (λ (m : ℕ). CostPath old.blocks.items start m (at_block c t.old)) sum (Across (before + k) b exit c t.old edge t.at here) in
      record { rest = t.old.lines.items; path = subst (λ (x : Exit). CostPath old.blocks.items start (before + (k + leave_cost exit)) (spot c t.old.lines.items x)) (sym t.is.exit) over; more = t.is.lines }

module _ (limit : ℕ) (old new : Function) (same : SameFunction old new) (lies : (s : Spot) → Begins new s → LiesOn old s) (bounded : NoneLonger limit old) where
  reached : (start : Spot) (from : Begins new start) (n : ℕ) (s : Spot) → CostPath new.blocks.items start n s → Follows old new same (lies start from).start start (lies start from).cost n s
  reached start from n s q =
      let l = lies start from in
      let none : l.cost ≡ l.cost + 0 = omega arith in
      follows old new same l.start start l.cost n s (record { rest = l.rest; path = subst (λ (m : ℕ). CostPath old.blocks.items l.start m (spot start.block l.rest start.exit)) none l.path; more = l.more }) q

  pub further : NoneLonger limit new
  further = record {
    path = λ start from n s q.
        let l = lies start from in
        let r = reached start from n s q in
        let le = bounded.path l.start l.begins (l.cost + n) (spot s.block r.rest s.exit) r.path in
        behind l.cost n le;
    exit = λ start from n b exit q.
        let l = lies start from in
        let r = reached start from n (spot b [] exit) q in
        let none = none_left r.rest [] r.more refl in
        let le = bounded.exit l.start l.begins (l.cost + n) b exit (subst (λ (t : List Line). CostPath old.blocks.items l.start (l.cost + n) (spot b t exit)) none r.path) in
        ends l.cost n (leave_cost exit) le;
  }
    where
      behind : (k n : ℕ) → k + n ≤ limit → n ≤ limit
      behind k n le = omega arith

      ends : (k n e : ℕ) → (k + n) + e ≤ limit → n + e ≤ limit
      ends k n e le = omega arith
