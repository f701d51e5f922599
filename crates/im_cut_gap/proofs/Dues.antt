-- Each gap cut of a sweep is due: each cost has a path that shows it.
use Rattle.std.proofs.Common.{◌≡◌, ◌⊎◌, ℕ, zero, suc, ◌+◌, ◌<◌, ◌≤◌, List, [], ◌∷◌, ◌++◌, length, Option, Some, None, refl, sym, ap, ◌∙◌, subst, inl, inr, ⊎_elim, append_assoc, length-append, arith}
use Rattle.std.specs.Prelude.{Bool, true, false, slice_get, ◌==◌, ◌||◌}
use Rattle.std.proofs.lemmas.Bool.{eqb-true}
use Rattle.std.proofs.lemmas.Option.{slice_get_within}
use Rattle.im_num.specs.declared.values.Cause.{Cause}
use Rattle.im_num.specs.declared.values.Cause.TheVariants.{Gap}
use Rattle.im_block.specs.declared.code.Line.{Line}
use Rattle.im_block.specs.declared.code.Line.TheVariants.{Cut}
use Rattle.im_block.specs.declared.code.Exit.{Exit}
use Rattle.im_block.specs.declared.code.Exit.TheVariants.{Jump, Turn, Branch, Return}
use Rattle.im_block.specs.declared.code.Block.{Block}
use Rattle.im_block.specs.declared.unit.Function.{Function}
use Rattle.im_block.specs.Meaning.{Spot, at_block}
use Rattle.im_block.specs.Sections.{Has}
use Rattle.im_block.specs.Paths.{IsCut, IsEdge, spot, IsEntry}
use Rattle.im_block.specs.Shape.{Descends, IsOrdered, with_cut}
use Rattle.im_block.specs.Forced.{CutAtTurn}
use Rattle.im_cut_gap.specs.Costs.{leave_cost, CostPath, Here, Along, Across}
use Rattle.im_cut_gap.specs.Gaps.{HasCause, IsEarlier, BehindCut, Starts, GapLines, Empty, Same, Added, GapBlocks}
use Rattle.im_cut_gap.specs.Starts.{leads_to, turn_cost}
use Rattle.im_cut_gap.specs.Sweep.{Spends, Nowhere, Fits, Splits, SweepLines, Leaves, AtCut, Skips, Keeps, Cuts}
use Rattle.im_cut_gap.proofs.Costs.{some_same, cost_along, end_cost, after_plain, spent_zero, spent_from, zero_more, turn_end}
use Rattle.im_cut_gap.proofs.Bounds.{SweptBlock, Comes, Turns, Swept, leave_fits}

or_cases : (x y : Bool) → (x || y) ≡ true → (x ≡ true) ⊎ (y ≡ true)
or_cases true y e = inl refl
or_cases false y e = inr e

pub leads_edge : (exit : Exit) (c : ℕ) → leads_to exit c ≡ true → IsEdge exit c
leads_edge (Jump x) c e = sym (eqb-true x c e)
leads_edge (Turn x) c e = cc
leads_edge (Branch on x y) c e = ⊎_elim (λ p. inl (sym (eqb-true x c p))) (λ p. inr (sym (eqb-true y c p))) (or_cases (x == c) (y == c) e)
leads_edge (Return from) c e = cc

pub leads_down : (exit : Exit) (p c : ℕ) → Descends exit p → leads_to exit c ≡ true → c < p
leads_down (Jump x) p c down e = let same = eqb-true x c e in omega arith
leads_down (Turn x) p c down e = cc
leads_down (Branch on x y) p c down e = ⊎_elim (λ q. below x (eqb-true x c q) down.0) (λ q. below y (eqb-true y c q) down.1) (or_cases (x == c) (y == c) e)
  where
    below : (z : ℕ) → z ≡ c → z < p → c < p
    below z q lt = omega arith
leads_down (Return from) p c down e = cc

module _ (limit : ℕ) (old : List Block) (f : Function) where
  -- a path of this cost, by the cuts that are known at a place
  record ShowsCost (k b n : ℕ) (s : Spot) : Type 0 where
    start : Spot
    starts : Starts old f b n start
    path : CostPath f.blocks.items start k s

  abbrev Shows : Option ℕ → ℕ → ℕ → Spot → Type 0
  Shows None b n s = Unit {0}
  Shows (Some k) b n s = ShowsCost k b n s

  starts_later : (b n c m : ℕ) (s : Spot) → ((q r : ℕ) → IsEarlier b n q r → IsEarlier c m q r) → Starts old f b n s → Starts old f c m s
  starts_later b n c m s later h =
      ⊎_elim
      (λ (e : IsEntry f s). inl e)
      (λ (k : BehindCut old f.blocks.items b n s). inr (record {
        block = k.block;
        before = k.before;
        cause = k.cause;
        at = k.at;
        lines = k.lines;
        exit = k.exit;
        known = ⊎_elim (λ (t : HasCause old k.cause). inl t) (λ (t : IsEarlier b n s.block (length k.before)). inr (later s.block (length k.before) t)) k.known;
      }))
      h

  further_down : (b n q r : ℕ) → IsEarlier b n q r → IsEarlier b (suc n) q r
  further_down b n q r h = ⊎_elim (λ lt. inl lt) (λ (t : (q ≡ b) × (r < n)). inr (t.0, up t.1)) h
    where
      up : r < n → r < suc n
      up lt = omega arith

  of_later : (b p n q r : ℕ) → b < p → IsEarlier p n q r → IsEarlier b 0 q r
  of_later b p n q r lt h = inl (⊎_elim (λ k. above k) (λ (t : (q ≡ p) × (r < n)). same t.0) h)
    where
      above : p < q → b < q
      above k = omega arith

      same : q ≡ p → b < q
      same e = omega arith

  module _ (b : ℕ) (block : Block) (at : slice_get f.blocks.items b ≡ Some block) where
    -- directly behind a cut
    fresh : (n : ℕ) (front rest : List Line) (cause : Cause) → block.lines.items ≡ front ++ Cut cause ∷ rest → (HasCause old cause ⊎ IsEarlier b n b (length front)) → ShowsCost 0 b n (spot b rest block.exit)
    fresh n front rest cause lines known = record { start = spot b rest block.exit; starts = inr (record { block = block; before = front; cause = cause; at = at; lines = lines; exit = refl; known = known }); path = Here }

    -- a line more
    along : (k n : ℕ) (line : Line) (rest : List Line) → (IsCut line → ⊥) → ShowsCost k b n (spot b (line ∷ rest) block.exit) → ShowsCost (k + with_cut line) b (suc n) (spot b rest block.exit)
    along k n line rest uncut h = record { start = h.start; starts = starts_later b n b (suc n) h.start (λ q r e. further_down b n q r e) h.starts; path = Along k b line rest block.exit uncut h.path }

    -- what is left of a block: its gap cuts are due, and the cost before its exit is shown
    record LinesDue (n : ℕ) (was new : List Line) (m : Option ℕ) : Type 0 where
      lines : GapLines limit old f b block.exit n was new
      last : ℕ
      shows : Shows (cost_along m new) b last (spot b [] block.exit)

    push : (front : List Line) (line : Line) (rest : List Line) → block.lines.items ≡ front ++ line ∷ rest → block.lines.items ≡ (front ++ line ∷ []) ++ rest
    push front line rest e = e ∙ sym (append_assoc front (line ∷ []) rest)

    count : (n : ℕ) (front : List Line) (line : Line) → n ≡ length front → suc n ≡ length (front ++ line ∷ [])
    count n front line e = let k = length-append front (line ∷ []) in omega arith

    own : (n : ℕ) (front : List Line) → n ≡ length front → IsEarlier b (suc n) b (length front)
    own n front e = inr (refl, omega arith)

    due_exit : (m : Option ℕ) (put : List Line) (l : Option ℕ) (n : ℕ) (front : List Line) → Spends limit (leave_cost block.exit) m put l → block.lines.items ≡ front ++ put → n ≡ length front → Shows m b n (spot b put block.exit) → LinesDue n [] put m
    due_exit m put l n front Nowhere e j h = record { lines = Empty n; last = n; shows = h }
    due_exit m put l n front (Fits k fits) e j h = record { lines = Empty n; last = n; shows = h }
    due_exit m put l n front (Splits k long) e j h = record {
      lines = Added n [] [] (record { start = h.start; starts = h.starts; cost = k; path = h.path; long = long }) (Empty (suc n));
      last = suc n;
      shows = fresh (suc n) front [] Gap e (inr (own n front j));
    }

    due_lines : (m : Option ℕ) (was new : List Line) (l : Option ℕ) (n : ℕ) (front : List Line) → SweepLines limit block.exit m was new l → block.lines.items ≡ front ++ new → n ≡ length front → ((cause : Cause) → Has was (Cut cause) → HasCause old cause) → Shows m b n (spot b new block.exit) → LinesDue n was new m
    due_lines m was new l n front (Leaves k put i s) e j known h = due_exit k put i n front s e j h
    due_lines m was new l n front (AtCut k cause x y i s) e j known h =
        let next = fresh (suc n) front y cause e (inl (known cause (inl refl))) in
        let rec = due_lines (Some 0) x y i (suc n) (front ++ Cut cause ∷ []) s (push front (Cut cause) y e) (count n front (Cut cause) j) (λ c there. known c (inr there)) next in
        record { lines = Same n (Cut cause) x y rec.lines; last = rec.last; shows = rec.shows }
    due_lines m was new l n front (Skips line x y i uncut s) e j known h =
        let rec = due_lines None x y i (suc n) (front ++ line ∷ []) s (push front line y e) (count n front line j) (λ c there. known c (inr there)) tt in
        record { lines = Same n line x y rec.lines; last = rec.last; shows = subst (λ (t : Option ℕ). Shows (cost_along t y) b rec.last (spot b [] block.exit)) (sym (after_plain line None uncut)) rec.shows }
    due_lines m was new l n front (Keeps k line x y i uncut fits s) e j known h =
        let rec = due_lines (Some (k + with_cut line)) x y i (suc n) (front ++ line ∷ []) s (push front line y e) (count n front line j) (λ c there. known c (inr there)) (along k n line y uncut h) in
        record { lines = Same n line x y rec.lines; last = rec.last; shows = subst (λ (t : Option ℕ). Shows (cost_along t y) b rec.last (spot b [] block.exit)) (sym (after_plain line (Some k) uncut)) rec.shows }
    due_lines m was new l n front (Cuts k line x y i uncut long s) e j known h =
        let first = fresh (suc n) front (line ∷ y) Gap e (inr (own n front j)) in
        let one = push front (Cut Gap) (line ∷ y) e in
        let two = push (front ++ Cut Gap ∷ []) line y one in
        let more = count n front (Cut Gap) j in
        let again = subst (λ (t : ℕ). ShowsCost t b (suc (suc n)) (spot b y block.exit)) (zero_more (with_cut line)) (along 0 (suc n) line y uncut first) in
        let rec = due_lines (Some (with_cut line)) x y i (suc (suc n)) ((front ++ Cut Gap ∷ []) ++ line ∷ []) s two (count (suc n) (front ++ Cut Gap ∷ []) line more) (λ c there. known c (inr there)) again in
        record {
          lines = Added n (line ∷ x) (line ∷ y) (record { start = h.start; starts = h.starts; cost = k; path = h.path; long = long }) (Same (suc n) line x y rec.lines);
          last = rec.last;
          shows = subst (λ (t : Option ℕ). Shows (cost_along t y) b rec.last (spot b [] block.exit)) (sym (after_plain line (Some 0) uncut ∙ spent_zero (with_cut line))) rec.shows;
        }

module _ (limit : ℕ) (old f : Function) (enough : 8 ≤ limit) (swept : Swept limit old f) (ordered : IsOrdered f.blocks.items) (turns : (b : ℕ) (block : Block) → slice_get old.blocks.items b ≡ Some block → CutAtTurn block.exit block.lines.items) where
  abbrev Shown : Option ℕ → ℕ → ℕ → Spot → Type 0
  Shown m b n s = Shows limit old.blocks.items f m b n s

  abbrev Path : ℕ → ℕ → ℕ → Spot → Type 0
  Path k b n s = ShowsCost limit old.blocks.items f k b n s

  entered : (b k : ℕ) (y : Block) → slice_get f.blocks.items b ≡ Some y → b ≡ f.entry → k ≡ 0 → Path k b 0 (spot b y.lines.items y.exit)
  entered b k y at i z = record {
    start = spot b y.lines.items y.exit;
    starts = inl (record { block = y; at = subst (λ n. slice_get f.blocks.items n ≡ Some y) i at; is = ap (λ n. at_block n y) i });
    path = subst (λ n. CostPath f.blocks.items (spot b y.lines.items y.exit) n (spot b y.lines.items y.exit)) (sym z) Here;
  }

  turned : (b k : ℕ) (y : Block) → slice_get f.blocks.items b ≡ Some y → Turns f.blocks.items b → k ≡ turn_cost → Path k b 0 (spot b y.lines.items y.exit)
  turned b k y at t z =
      let p = t.number in
      let g = swept.blocks p t.block t.at in
      let cut = subst (λ (x : Exit). CutAtTurn x g.was.lines.items) (sym g.exit ∙ t.exit) (turns p g.was g.at) in
      let l = turn_end limit t.block.exit (swept.starts p) g.was.lines.items t.block.lines.items (end_cost (swept.starts p) t.block.lines.items t.block.exit) (leave_fits limit t.block.exit enough) g.lines cut in
      let edge : IsEdge t.block.exit b = subst (λ (x : Exit). IsEdge x b) (sym t.exit) refl in
      let sum : 0 + leave_cost t.block.exit ≡ k = ap (λ (x : Exit). 0 + leave_cost x) t.exit ∙ sym z in
      record {
        start = spot p [] t.block.exit;
        starts = inr (record { block = t.block; before = l.front; cause = l.cause; at = t.at; lines = l.lines; exit = refl; known = inl (record { number = p; block = g.was; at = g.at; there = l.was }) });
        path = subst (λ n. CostPath f.blocks.items (spot p [] t.block.exit) n (spot b y.lines.items y.exit)) sum (Across 0 p t.block.exit b y edge at Here);
      }

  -- what is due in a block whose start is shown
  due_block : (b : ℕ) (y : Block) (at : slice_get f.blocks.items b ≡ Some y) (g : SweptBlock limit swept.starts old.blocks.items b y) → Shown (swept.starts b) b 0 (spot b y.lines.items y.exit) → LinesDue limit old.blocks.items f b y at 0 g.was.lines.items y.lines.items (swept.starts b)
  due_block b y at g h =
      due_lines limit old.blocks.items f b y at (swept.starts b) g.was.lines.items y.lines.items (end_cost (swept.starts b) y.lines.items y.exit) 0 [] g.lines refl refl
      (λ cause there. record { number = b; block = g.was; at = g.at; there = there }) h

  come : (b k : ℕ) (y : Block) → slice_get f.blocks.items b ≡ Some y → (c : Comes f.blocks.items swept.starts b k) → Shown (swept.starts c.number) c.number 0 (spot c.number c.block.lines.items c.block.exit) → Path k b 0 (spot b y.lines.items y.exit)
  come b k y at c h =
      let p = c.number in
      let d = due_block p c.block c.at (swept.blocks p c.block c.at) h in
      let e = spent_from (leave_cost c.block.exit) k (cost_along (swept.starts p) c.block.lines.items) c.cost in
      let s : Path e.0 p d.last (spot p [] c.block.exit) = subst (λ (t : Option ℕ). Shown t p d.last (spot p [] c.block.exit)) e.1 d.shows in
      let down = leads_down c.block.exit p b (ordered.each p c.block c.at) c.leads in
      record {
        start = s.start;
        starts = starts_later limit old.blocks.items f p d.last b 0 s.start (λ q r t. of_later limit old.blocks.items f b p d.last q r down t) s.starts;
        path = subst (λ n. CostPath f.blocks.items s.start n (spot b y.lines.items y.exit)) e.2 (Across e.0 p c.block.exit b y (leads_edge c.block.exit b c.leads) at s.path);
      }

  -- a block whose start is shown by those of later blocks
  start_from : (b : ℕ) (y : Block) → slice_get f.blocks.items b ≡ Some y → ((c : ℕ) (z : Block) → b < c → slice_get f.blocks.items c ≡ Some z → Shown (swept.starts c) c 0 (spot c z.lines.items z.exit)) → Shown (swept.starts b) b 0 (spot b y.lines.items y.exit)
  start_from b y at deeper = by (swept.starts b) refl
    where
      by : (m : Option ℕ) → swept.starts b ≡ m → Shown m b 0 (spot b y.lines.items y.exit)
      by None e = tt
      by (Some k) e =
          ⊎_elim
          (λ (o : (b ≡ f.entry) × (k ≡ 0)). entered b k y at o.0 o.1)
          (λ (o : (Turns f.blocks.items b × (k ≡ turn_cost)) ⊎ Comes f.blocks.items swept.starts b k).
          ⊎_elim
          (λ (t : Turns f.blocks.items b × (k ≡ turn_cost)). turned b k y at t.0 t.1)
          (λ (c : Comes f.blocks.items swept.starts b k).
          let down = leads_down c.block.exit c.number b (ordered.each c.number c.block c.at) c.leads in
          come b k y at c (deeper c.number c.block down c.at))
          o)
          (swept.from b k e)

  start_shown : (fuel b : ℕ) (y : Block) → length f.blocks.items ≤ b + fuel → slice_get f.blocks.items b ≡ Some y → Shown (swept.starts b) b 0 (spot b y.lines.items y.exit)
  start_shown zero b y le at = let lt : b < length f.blocks.items = slice_get_within f.blocks.items b y at in absurd (omega arith)
  start_shown (suc fuel) b y le at = start_from b y at (λ c z lt there. start_shown fuel c z (omega arith) there)

  gap_blocks : (b : ℕ) (xs ys : List Block) → length xs ≡ length ys → ((k : ℕ) → slice_get f.blocks.items (b + k) ≡ slice_get ys k) → ((k : ℕ) → slice_get old.blocks.items (b + k) ≡ slice_get xs k) → GapBlocks limit old.blocks.items f b xs ys
  gap_blocks b [] [] len here was = tt
  gap_blocks b (x ∷ xs) [] len here was = absurd (omega arith)
  gap_blocks b [] (y ∷ ys) len here was = absurd (omega arith)
  gap_blocks b (x ∷ xs) (y ∷ ys) len here was =
      let zero_b : b + 0 ≡ b = omega arith in
      let at = subst (λ n. slice_get f.blocks.items n ≡ Some y) zero_b (here 0) in
      let at_old = subst (λ n. slice_get old.blocks.items n ≡ Some x) zero_b (was 0) in
      let g = swept.blocks b y at in
      let same : g.was ≡ x = some_same g.was x (sym g.at ∙ at_old) in
      let top : length f.blocks.items ≤ b + length f.blocks.items = omega arith in
      let d = due_block b y at g (start_shown (length f.blocks.items) b y top at) in (
        subst (λ (q : Block). GapLines limit old.blocks.items f b y.exit 0 q.lines.items y.lines.items) same d.lines,
        g.exit ∙ ap (λ (q : Block). q.exit) same,
        gap_blocks (suc b) xs ys (omega arith) (λ k. subst (λ n. slice_get f.blocks.items n ≡ slice_get ys k) (next k) (here (suc k))) (λ k. subst (λ n. slice_get old.blocks.items n ≡ slice_get xs k) (next k) (was (suc k))),
      )
    where
      next : (k : ℕ) → b + suc k ≡ suc b + k
      next k = omega arith

  pub swept_due : length old.blocks.items ≡ length f.blocks.items → GapBlocks limit old.blocks.items f 0 old.blocks.items f.blocks.items
  swept_due len = gap_blocks 0 old.blocks.items f.blocks.items len (λ k. ap (λ n. slice_get f.blocks.items n) (zero_more k)) (λ k. ap (λ n. slice_get old.blocks.items n) (zero_more k))
