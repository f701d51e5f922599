-- Greedy cuts stand on paths of the code that they are added to. Paths without a cut go down: to blocks of lower numbers, and in
-- a block to later lines. So the cut where such a path begins was decided before the one where it ends.
use Rattle.std.proofs.Common.{◌≡◌, ◌⊎◌, inl, inr, ⊎_elim, ℕ, zero, suc, ◌+◌, ◌<◌, ◌≤◌, List, [], ◌∷◌, ◌++◌, length, Some, refl, sym, ap, ◌∙◌, subst, append_assoc, arith}
use Rattle.std.specs.Prelude.{slice_get}
use Rattle.std.proofs.lemmas.List.{length-append}
use Rattle.std.proofs.lemmas.Option.{slice_get_within}
use Rattle.im_num.specs.declared.values.Cause.{Cause}
use Rattle.im_block.specs.declared.access.Tags.{Tags}
use Rattle.im_block.specs.declared.access.Dep.{Dep}
use Rattle.im_block.specs.declared.code.Line.{Line}
use Rattle.im_block.specs.declared.code.Line.TheVariants.{Cut}
use Rattle.im_block.specs.declared.code.Exit.{Exit}
use Rattle.im_block.specs.declared.code.Exit.TheVariants.{Jump, Turn, Branch, Return}
use Rattle.im_block.specs.declared.code.Block.{Block}
use Rattle.im_block.specs.declared.unit.Function.{Function}
use Rattle.im_block.specs.Meaning.{Site, Spot, at_block}
use Rattle.im_block.specs.Paths.{Step, WriteStep, steps_of, IsCut, IsEdge, spot, Path, Here, Along, Across, IsEntry, AfterCut, Begins}
use Rattle.im_block.specs.Shape.{Descends, IsOrdered, with_cut}
use Rattle.im_block.specs.Forced.{CutAtTurn}
use Rattle.im_block.specs.Uncut.{WithCuts, Empty as NoLines, Same as SameLine, Added as AddedCut, SameFunction, SameBlock}
use Rattle.im_cut.specs.Greedy.{cause_of, causes_of_blocks, BehindCut, IsDue, CutLines, Empty, Same, Added, CutBlocks, CutsTo}
use Rattle.im_cut_gap.specs.Costs.{leave_cost, CostPath}
use Rattle.im_cut_gap.specs.Costs as costs
use Rattle.im_cut_gap.specs.Remaining.{LiesOn}
use Rattle.im_cut_gap.proofs.Costs.{some_same}
use Rattle.im_block.proofs.Unitwise.{zip_old}
use Rattle.im_cut_gap.proofs.Further.{follows}
use Rattle.im_cut_gap.proofs.Remaining.{turn_rest, turn_suffix}

-- ---- where a path comes to

record Stands (blocks : List Block) (s : Spot) : Type 0 where
  block : Block
  before : List Line
  at : slice_get blocks s.block ≡ Some block
  lines : block.lines.items ≡ before ++ s.rest
  exit : s.exit ≡ block.exit

begin_stands : (f : Function) (start : Spot) → Begins f start → Stands f.blocks.items start
begin_stands f start from =
    ⊎_elim
    (λ (e : IsEntry f start). subst (Stands f.blocks.items) (sym e.is) (record { block = e.block; before = []; at = e.at; lines = refl; exit = refl }))
    (λ (c : AfterCut f.blocks.items start). record { block = c.block; before = c.before ++ c.cut ∷ []; at = c.at; lines = c.lines ∙ sym (append_assoc c.before (c.cut ∷ []) start.rest); exit = c.exit })
    from

stands : (blocks : List Block) (start : Spot) → Stands blocks start → (n : ℕ) (s : Spot) → CostPath blocks start n s → Stands blocks s
stands blocks start first n s costs.Here = first
stands blocks start first n s (costs.Along k b line rest exit uncut q) =
    let r = stands blocks start first k (spot b (line ∷ rest) exit) q in
    record { block = r.block; before = r.before ++ line ∷ []; at = r.at; lines = r.lines ∙ sym (append_assoc r.before (line ∷ []) rest); exit = r.exit }
stands blocks start first n s (costs.Across k b exit c block edge at q) = record { block = block; before = []; at = at; lines = refl; exit = refl }

-- what a path costs
costed : (blocks : List Block) (start : Spot) (path : List Step) (s : Spot) → Path blocks start path s → (n : ℕ) × CostPath blocks start n s
costed blocks start path s Here = (0, costs.Here)
costed blocks start path s (Along p b line rest exit uncut q) =
    let r = costed blocks start p (spot b (line ∷ rest) exit) q in
    (r.0 + with_cut line, costs.Along r.0 b line rest exit uncut r.1)
costed blocks start path s (Across p b exit c block edge at q) =
    let r = costed blocks start p (spot b [] exit) q in
    (r.0 + leave_cost exit, costs.Across r.0 b exit c block edge at r.1)

-- ---- the cuts of the new code, one by one

-- the lines behind a cut that was there
record KeptAt (was : List Line) (cut : Line) (rest : List Line) : Type 0 where
  before : List Line
  left : List Line
  is : was ≡ before ++ cut ∷ left
  more : WithCuts left rest

-- or behind one that was added, before a write
record AddedIn (tags : Tags) (f : Function) (causes : List Cause) (b : ℕ) (exit : Exit) (cut : Line) (rest : List Line) : Type 0 where
  done : List Dep
  d : Dep
  w : Site
  line : Line
  more : List Line
  is : rest ≡ line ∷ more
  named : cut ≡ Cut (cause_of d)
  due : IsDue tags f causes done d w (spot b (Cut (cause_of d) ∷ rest) exit)

write_uncut : (line : Line) (w : Site) → steps_of line ≡ WriteStep w ∷ [] → IsCut line → ⊥
write_uncut (Cut cause) w e is = cc
write_uncut line w e is = is

module _ (tags : Tags) (f : Function) (causes : List Cause) (b : ℕ) (exit : Exit) where
  with_cuts : (done : List Dep) (old new : List Line) (added : List Dep) → CutLines tags f causes b exit done old new added → WithCuts old new
  with_cuts done old new added (Empty d) = NoLines
  with_cuts done old new added (Same d line x y more h) = SameLine line x y (with_cuts d x y more h)
  with_cuts done old new added (Added d dep w line x y more is number due h) = AddedCut (cause_of dep) (line ∷ x) (line ∷ y) (SameLine line x y (with_cuts (d ++ dep ∷ []) x y more h))

  longer : (line : Line) (was : List Line) (cut : Line) (rest : List Line) → KeptAt was cut rest → KeptAt (line ∷ was) cut rest
  longer line was cut rest k = record { before = line ∷ k.before; left = k.left; is = ap (λ (l : List Line). line ∷ l) k.is; more = k.more }

  cut_in : (done : List Dep) (old new : List Line) (added : List Dep) → CutLines tags f causes b exit done old new added → (before : List Line) (cut : Line) (rest : List Line) → IsCut cut → new ≡ before ++ cut ∷ rest →
      KeptAt old cut rest ⊎ AddedIn tags f causes b exit cut rest
  cut_in done old new added (Empty d) [] cut rest is e = cc
  cut_in done old new added (Empty d) (z ∷ before) cut rest is e = cc
  cut_in done old new added (Same d line x y more h) [] cut rest is e =
      let head : line ≡ cut = cc in
      let tail : y ≡ rest = cc in
      inl (record { before = []; left = x; is = ap (λ (l : Line). l ∷ x) head; more = subst (WithCuts x) tail (with_cuts d x y more h) })
  cut_in done old new added (Same d line x y more h) (z ∷ before) cut rest is e =
      let tail : y ≡ before ++ cut ∷ rest = cc in
      ⊎_elim
      (λ k. inl (longer line x cut rest k))
      (λ a. inr a)
      (cut_in d x y more h before cut rest is tail)
  cut_in done old new added (Added d dep w line x y more step number due h) [] cut rest is e =
      let head : cut ≡ Cut (cause_of dep) = cc in
      let tail : line ∷ y ≡ rest = cc in
      inr (record { done = d; d = dep; w = w; line = line; more = y; is = sym tail; named = head; due = subst (λ (l : List Line). IsDue tags f causes d dep w (spot b (Cut (cause_of dep) ∷ l) exit)) tail due })
  cut_in done old new added (Added d dep w line x y more step number due h) (z ∷ []) cut rest is e =
      let here : line ≡ cut = cc in
      absurd (write_uncut line w step (subst IsCut (sym here) is))
  cut_in done old new added (Added d dep w line x y more step number due h) (z ∷ v ∷ before) cut rest is e =
      let tail : y ≡ before ++ cut ∷ rest = cc in
      ⊎_elim
      (λ k. inl (longer line x cut rest k))
      (λ a. inr a)
      (cut_in (d ++ dep ∷ []) x y more h before cut rest is tail)

-- a block of the new code, and the old one
record Old (tags : Tags) (f : Function) (causes : List Cause) (b : ℕ) (xs : List Block) (k : ℕ) (y : Block) : Type 0 where
  old : Block
  at : slice_get xs k ≡ Some old
  exit : y.exit ≡ old.exit
  done : List Dep
  own : List Dep
  lines : CutLines tags f causes (b + k) y.exit done old.lines.items y.lines.items own

old_block : (tags : Tags) (f : Function) (causes : List Cause) (b : ℕ) (xs ys : List Block) (added : List Dep) (k : ℕ) (y : Block) → CutBlocks tags f causes b xs ys added → slice_get ys k ≡ Some y → Old tags f causes b xs k y
old_block tags f causes b [] [] added k y h e = cc
old_block tags f causes b (x ∷ xs) [] added k y h e = absurd h
old_block tags f causes b [] (z ∷ ys) added k y h e = absurd h
old_block tags f causes b (x ∷ xs) (z ∷ ys) added zero y h e =
    let one : z ≡ y = some_same z y e in
    let here : b ≡ b + 0 = omega arith in
    record {
      old = x;
      at = refl;
      exit = ap (λ (q : Block). q.exit) (sym one) ∙ h.5;
      done = h.0;
      own = h.1;
      lines = subst (λ n. CutLines tags f causes n y.exit h.0 x.lines.items y.lines.items h.1) here (subst (λ (q : Block). CutLines tags f causes b q.exit h.0 x.lines.items q.lines.items h.1) one h.4);
    }
old_block tags f causes b (x ∷ xs) (z ∷ ys) added (suc k) y h e =
    let o = old_block tags f causes (suc b) xs ys h.0 k y h.3 e in
    let here : suc b + k ≡ b + suc k = omega arith in
    record { old = o.old; at = o.at; exit = o.exit; done = o.done; own = o.own; lines = subst (λ n. CutLines tags f causes n y.exit o.done o.old.lines.items y.lines.items o.own) here o.lines }

-- ---- paths go down

module _ (f : Function) (ordered : IsOrdered f.blocks.items) (turns : (b : ℕ) (block : Block) → slice_get f.blocks.items b ≡ Some block → CutAtTurn block.exit block.lines.items) (start : Spot) (first : Stands f.blocks.items start) (whole : CutAtTurn start.exit start.rest) where
  record Onward (s : Spot) : Type 0 where
    there : Stands f.blocks.items s
    turn : CutAtTurn s.exit s.rest
    down : (s.block < start.block) ⊎ ((start.block ≡ s.block) × (length s.rest ≤ length start.rest))

  edge_down : (b c d : ℕ) (exit : Exit) (n : ℕ) → CutAtTurn exit [] → Descends exit b → IsEdge exit c → (b < d) ⊎ ((d ≡ b) × (0 ≤ n)) → c < d
  edge_down b c d (Jump x) n turn falls edge h = ⊎_elim (λ (lt : b < d). omega arith) (λ (e : (d ≡ b) × (0 ≤ n)). (let same = e.0 in omega arith)) h
  edge_down b c d (Turn x) n turn falls edge h = absurd turn
  edge_down b c d (Branch on x y) n turn falls edge h = let lt = below b c x y falls edge in ⊎_elim (λ (less : b < d). omega arith) (λ (e : (d ≡ b) × (0 ≤ n)). (let same = e.0 in omega arith)) h
    where
      below : (b c x y : ℕ) → (x < b) × (y < b) → (c ≡ x) ⊎ (c ≡ y) → c < b
      below b c x y lt e = ⊎_elim (λ (is : c ≡ x). (let less = lt.0 in omega arith)) (λ (is : c ≡ y). (let less = lt.1 in omega arith)) e
  edge_down b c d (Return from) n turn falls edge h = absurd edge

  onward : (path : List Step) (s : Spot) → Path f.blocks.items start path s → Onward s
  onward path s Here = record { there = first; turn = whole; down = inr (refl, low) }
    where
      low : length start.rest ≤ length start.rest
      low = omega arith
  onward path s (Along p b line rest exit uncut q) =
      let r = onward p (spot b (line ∷ rest) exit) q in
      let t = r.there in
      record {
        there = record { block = t.block; before = t.before ++ line ∷ []; at = t.at; lines = t.lines ∙ sym (append_assoc t.before (line ∷ []) rest); exit = t.exit };
        turn = turn_rest exit line rest uncut r.turn;
        down = ⊎_elim (λ (lt : b < start.block). inl lt) (λ (e : (start.block ≡ b) × (suc (length rest) ≤ length start.rest)). inr (e.0, less e.1)) r.down;
      }
    where
      less : suc (length rest) ≤ length start.rest → length rest ≤ length start.rest
      less h = omega arith
  onward path s (Across p b exit c block edge at q) =
      let r = onward p (spot b [] exit) q in
      record {
        there = record { block = block; before = []; at = at; lines = refl; exit = refl };
        turn = turns c block at;
        down = inl (edge_down b c start.block exit (length start.rest) r.turn (subst (λ (x : Exit). Descends x b) (sym r.there.exit) (ordered.each b r.there.block r.there.at)) edge r.down);
      }

-- ---- each cut lies on a path of the old code

module _ (tags : Tags) (old new : Function) (added : List Dep) (same : SameFunction old new) (cuts : CutsTo tags old new added) (ordered : IsOrdered new.blocks.items) (turns : (b : ℕ) (block : Block) → slice_get new.blocks.items b ≡ Some block → CutAtTurn block.exit block.lines.items) where
  abbrev known : List Cause
  known = causes_of_blocks old.blocks.items

  here : (n : ℕ) → 0 + n ≡ n
  here n = omega arith

  -- a section of the old code begins at such a spot
  at_start : (s : Spot) (left : List Line) → Begins old (spot s.block left s.exit) → WithCuts left s.rest → LiesOn old s
  at_start s left from more = record { start = spot s.block left s.exit; begins = from; cost = 0; rest = left; path = costs.Here; more = more }

  entry_lies : (s : Spot) → IsEntry new s → LiesOn old s
  entry_lies s e =
      let t = zip_old SameBlock old.blocks.items new.blocks.items new.entry e.block same.blocks e.at in
      let entry : new.entry ≡ old.entry = ap (λ (g : Function). g.entry) same.rest in
      let at : slice_get old.blocks.items old.entry ≡ Some t.old = subst (λ (n : ℕ). slice_get old.blocks.items n ≡ Some t.old) entry t.at in
      let is : spot new.entry t.old.lines.items e.block.exit ≡ at_block old.entry t.old =
      ap (λ (n : ℕ). spot n t.old.lines.items e.block.exit) entry ∙ ap (λ (x : Exit). spot old.entry t.old.lines.items x) t.is.exit in
      subst (LiesOn old) (sym e.is) (at_start (at_block new.entry e.block) t.old.lines.items (inl (record { block = t.old; at = at; is = is })) t.is.lines)

  -- behind a cut that was added
  record AddedAt (s : Spot) : Type 0 where
    block : Block
    before : List Line
    cut : Line
    at : slice_get new.blocks.items s.block ≡ Some block
    lines : block.lines.items ≡ before ++ cut ∷ s.rest
    exit : s.exit ≡ block.exit
    is : AddedIn tags new known s.block s.exit cut s.rest

  cut_lies : (s : Spot) → AfterCut new.blocks.items s → LiesOn old s ⊎ AddedAt s
  cut_lies s a =
      let o = old_block tags new known 0 old.blocks.items new.blocks.items added s.block a.block cuts.blocks a.at in
      let lines = subst (λ n. CutLines tags new known n a.block.exit o.done o.old.lines.items a.block.lines.items o.own) (here s.block) o.lines in
      ⊎_elim
      (λ (k : KeptAt o.old.lines.items a.cut s.rest). inl (at_start s k.left (inr (record { block = o.old; before = k.before; cut = a.cut; at = o.at; lines = k.is; is_cut = a.is_cut; exit = a.exit ∙ o.exit })) k.more))
      (λ (z : AddedIn tags new known s.block a.block.exit a.cut s.rest).
      inr (record {
        block = a.block;
        before = a.before;
        cut = a.cut;
        at = a.at;
        lines = a.lines;
        exit = a.exit;
        is = subst (λ (x : Exit). AddedIn tags new known s.block x a.cut s.rest) (sym a.exit) z;
      }))
      (cut_in tags new known s.block a.block.exit o.done o.old.lines.items a.block.lines.items o.own lines a.before a.cut s.rest a.is_cut a.lines)

  -- decided before
  abbrev IsBefore : Spot → Spot → Type 0
  IsBefore t s = (s.block < t.block) ⊎ ((t.block ≡ s.block) × (length s.rest < length t.rest))

  -- the path to a cut that was added begins at such a place, or at one that was decided before
  from_start : (s t : Spot) (a : AddedAt s) → LiesOn old t → (path : List Step) → Path new.blocks.items t path (spot s.block (Cut (cause_of a.is.d) ∷ s.rest) s.exit) → LiesOn old s
  from_start s t a l path q =
      let c = costed new.blocks.items t path (spot s.block (Cut (cause_of a.is.d) ∷ s.rest) s.exit) q in
      let none : l.cost ≡ l.cost + 0 = omega arith in
      let r = follows old new same l.start t l.cost c.0 (spot s.block (Cut (cause_of a.is.d) ∷ s.rest) s.exit) (record { rest = l.rest; path = subst (λ (m : ℕ). CostPath old.blocks.items l.start m (spot t.block l.rest t.exit)) none l.path; more = l.more }) c.1 in
      ends r.rest (l.cost + c.0) r.path (Cut (cause_of a.is.d) ∷ s.rest) r.more refl
    where
      ends : (left : List Line) (n : ℕ) → CostPath old.blocks.items l.start n (spot s.block left s.exit) → (lines : List Line) → WithCuts left lines → lines ≡ Cut (cause_of a.is.d) ∷ s.rest → LiesOn old s
      ends left n p lines NoLines e = cc
      ends left n p lines (SameLine line x y h) e =
          let head : line ≡ Cut (cause_of a.is.d) = cc in
          let tail : y ≡ s.rest = cc in
          let k = stands old.blocks.items l.start (begin_stands old l.start l.begins) n (spot s.block (line ∷ x) s.exit) p in
          at_start s x (inr (record { block = k.block; before = k.before; cut = line; at = k.at; lines = k.lines; is_cut = subst IsCut (sym head) tt; exit = k.exit })) (subst (WithCuts x) tail h)
      ends left n p lines (AddedCut cause x y h) e =
          let tail : y ≡ s.rest = cc in
          record { start = l.start; begins = l.begins; cost = n; rest = left; path = p; more = subst (WithCuts left) tail h }

  added_stands : (t : Spot) → AddedAt t → Stands new.blocks.items t
  added_stands t a = record { block = a.block; before = a.before ++ a.cut ∷ []; at = a.at; lines = a.lines ∙ sym (append_assoc a.before (a.cut ∷ []) t.rest); exit = a.exit }

  added_turn : (t : Spot) → AddedAt t → CutAtTurn t.exit t.rest
  added_turn t a =
      ⊎_elim
      (λ h. h)
      (λ (k : (c : ℕ) × (t.rest ≡ []) × (t.exit ≡ Turn c)). (let bad : [] ≡ a.is.line ∷ a.is.more = sym k.1 ∙ a.is.is in absurd cc))
      (turn_suffix t.exit a.before a.cut t.rest (subst (λ (l : List Line). CutAtTurn t.exit l) a.lines (subst (λ (x : Exit). CutAtTurn x a.block.lines.items) (sym a.exit) (turns t.block a.block a.at))))

  added_before : (s t : Spot) (a : AddedAt s) → AddedAt t → (path : List Step) → Path new.blocks.items t path (spot s.block (Cut (cause_of a.is.d) ∷ s.rest) s.exit) → IsBefore t s
  added_before s t a k path q =
      let r = onward new ordered turns t (added_stands t k) (added_turn t k) path (spot s.block (Cut (cause_of a.is.d) ∷ s.rest) s.exit) q in
      ⊎_elim (λ (lt : s.block < t.block). inl lt) (λ (e : (t.block ≡ s.block) × (suc (length s.rest) ≤ length t.rest)). inr (e.0, less e.1)) r.down
    where
      less : suc (length s.rest) ≤ length t.rest → length s.rest < length t.rest
      less h = omega arith

  abbrev Known : Spot → Type 0
  Known s = (t : Spot) → IsBefore t s → AddedAt t → LiesOn old t

  step : (s : Spot) (a : AddedAt s) → Known s → LiesOn old s
  step s a knows =
      let due = a.is.due in
      ⊎_elim
      (λ (e : IsEntry new due.start). from_start s due.start a (entry_lies due.start e) due.path due.goes)
      (λ (c : BehindCut known a.is.done new.blocks.items due.start).
      ⊎_elim
      (λ l. from_start s due.start a l due.path due.goes)
      (λ k. from_start s due.start a (knows due.start (added_before s due.start a k due.path due.goes) k) due.path due.goes)
      (cut_lies due.start (record { block = c.block; before = c.before; cut = Cut c.cause; at = c.at; lines = c.lines; is_cut = tt; exit = c.exit })))
      due.starts

  -- in one block a cut that was decided before has fewer lines before it
  fewer : (s t : Spot) (a : AddedAt s) (k : AddedAt t) → t.block ≡ s.block → length s.rest < length t.rest → length k.before < length a.before
  fewer s t a k e lt =
      let one : k.block ≡ a.block = some_same k.block a.block (sym k.at ∙ ap (λ (n : ℕ). slice_get new.blocks.items n) e ∙ a.at) in
      let lines : k.before ++ k.cut ∷ t.rest ≡ a.before ++ a.cut ∷ s.rest = sym k.lines ∙ ap (λ (b : Block). b.lines.items) one ∙ a.lines in
      let count : length (k.before ++ k.cut ∷ t.rest) ≡ length (a.before ++ a.cut ∷ s.rest) = ap (λ (l : List Line). length l) lines in
      let left = length-append k.before (k.cut ∷ t.rest) in
      let right = length-append a.before (a.cut ∷ s.rest) in
      omega arith

  abbrev Deeper : ℕ → Type 0
  Deeper b = (t : Spot) → b < t.block → AddedAt t → LiesOn old t

  in_block : (fuel b : ℕ) → Deeper b → (s : Spot) (a : AddedAt s) → s.block ≡ b → length a.before < fuel → LiesOn old s
  in_block zero b deeper s a e lt = absurd (omega arith)
  in_block (suc fuel) b deeper s a e lt =
      step s a (λ t before k.
      ⊎_elim
      (λ (less : s.block < t.block). deeper t (subst (λ (n : ℕ). n < t.block) e less) k)
      (λ (z : (t.block ≡ s.block) × (length s.rest < length t.rest)). in_block fuel b deeper t k (z.0 ∙ e) (down (length k.before) (length a.before) (fewer s t a k z.0 z.1) lt))
      before)
    where
      down : (i j : ℕ) → i < j → j < suc fuel → i < fuel
      down i j less h = omega arith

  lies : (fuel : ℕ) (s : Spot) → length new.blocks.items ≤ s.block + fuel → AddedAt s → LiesOn old s
  lies zero s le a = let lt : s.block < length new.blocks.items = slice_get_within new.blocks.items s.block a.block a.at in absurd (omega arith)
  lies (suc fuel) s le a = in_block (suc (length a.before)) s.block (λ t less k. lies fuel t (up t.block less) k) s a refl top
    where
      up : (b : ℕ) → s.block < b → length new.blocks.items ≤ b + fuel
      up b less = omega arith

      top : length a.before < suc (length a.before)
      top = omega arith

  pub begin_lies : (s : Spot) → Begins new s → LiesOn old s
  begin_lies s from =
      ⊎_elim
      (λ (e : IsEntry new s). entry_lies s e)
      (λ (a : AfterCut new.blocks.items s). ⊎_elim (λ l. l) (λ k. lies (length new.blocks.items) s (most s.block) k) (cut_lies s a))
      from
    where
      most : (b : ℕ) → length new.blocks.items ≤ b + length new.blocks.items
      most b = omega arith
