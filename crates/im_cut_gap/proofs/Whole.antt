-- The function, as far as its blocks are swept, and the whole of it.
use Rattle.std.proofs.Common.{◌≡◌, ◌⊎◌, ℕ, suc, ◌<◌, ◌≤◌, List, length, get_or, Option, Some, None, refl, sym, ap, ◌∙◌, subst, inl, inr, ⊎_elim, arith}
use Rattle.std.specs.Prelude.{Bool, true, false, ◌==◌, ◌||◌, slice_get, slice_set}
use Rattle.std.proofs.lemmas.Bool.{eq-eqb, cases_lt}
use Rattle.std.proofs.lemmas.Option.{slice_get_within, slice_get-get_or}
use Rattle.im_block.specs.declared.code.Exit.{Exit}
use Rattle.im_block.specs.declared.code.Exit.TheVariants.{Jump, Turn, Branch, Return}
use Rattle.im_block.specs.declared.code.Block.{Block}
use Rattle.im_block.specs.declared.unit.Function.{Function}
use Rattle.im_block.specs.Paths.{IsEdge}
use Rattle.im_block.specs.Shape.{Descends, IsOrdered}
use Rattle.im_block.specs.Forced.{CutAtTurn}
use Rattle.im_cut_gap.specs.Costs.{leave_cost}
use Rattle.im_cut_gap.specs.Gaps.{GapCutsTo}
use Rattle.im_cut_gap.specs.Starts.{Reaches, leads_to, is_turned, turn_cost, AreStarts}
use Rattle.im_cut_gap.specs.Sweep.{SweepLines, SweepsBlock}
use Rattle.im_cut_gap.proofs.Costs.{some_same, end_cost, reaches_down, Small, sweep_end, sweep_small, turn_end}
use Rattle.im_cut_gap.proofs.Bounds.{SweptBlock, Comes, Turns, Origin, Swept, leave_fits, none_longer}
use Rattle.im_cut_gap.proofs.Dues.{leads_down, swept_due}
use Rattle.im_cut_gap.proofs.Gapping.{line_fits}
use Rattle.im_cut_gap.proofs.Tables.{slice-set_other, slice-set_same, set_count, turned, turned_at}

-- a block that is swept
pub record Done (limit : ℕ) (new : List Block) (costs : List (Option ℕ)) (b : ℕ) (x : Block) : Type 0 where
  pub block : Block
  pub at : slice_get new b ≡ Some block
  pub lines : SweepLines limit block.exit (get_or costs b None) x.lines.items block.lines.items (end_cost (get_or costs b None) block.lines.items block.exit)
  pub exit : block.exit ≡ x.exit
  pub on : (c n : ℕ) → leads_to block.exit c ≡ true → c < length costs → Reaches n (end_cost (get_or costs b None) block.lines.items block.exit) → Reaches n (get_or costs c None)

-- a cost that comes from one
pub record Came (new : List Block) (costs : List (Option ℕ)) (number c m : ℕ) : Type 0 where
  pub place : ℕ
  pub later : number ≤ place
  pub block : Block
  pub at : slice_get new place ≡ Some block
  pub leads : leads_to block.exit c ≡ true
  pub cost : end_cost (get_or costs place None) block.lines.items block.exit ≡ Some m

pub record GapsSoFar (limit : ℕ) (old new : Function) (number : ℕ) (costs : List (Option ℕ)) : Type 0 where
  pub len : length costs ≡ length old.blocks.items
  pub size : length new.blocks.items ≡ length old.blocks.items
  pub rest : new ≡ record old { blocks = new.blocks }
  pub left : (b : ℕ) → b < number → slice_get new.blocks.items b ≡ slice_get old.blocks.items b
  pub done : (b : ℕ) (x : Block) → number ≤ b → slice_get old.blocks.items b ≡ Some x → Done limit new.blocks.items costs b x
  pub entered : old.entry < length costs → Reaches 0 (get_or costs old.entry None)
  pub turns : (c : ℕ) → is_turned old.blocks.items c ≡ true → c < length costs → Reaches turn_cost (get_or costs c None)
  pub from : (c m : ℕ) → get_or costs c None ≡ Some m → ((c ≡ old.entry) × (m ≡ 0)) ⊎ (((is_turned old.blocks.items c ≡ true) × (m ≡ turn_cost)) ⊎ Came new.blocks.items costs number c m)

pub gaps_none : (limit : ℕ) (f : Function) (costs : List (Option ℕ)) → AreStarts f.entry f.blocks.items costs → length costs ≡ length f.blocks.items → GapsSoFar limit f f (length f.blocks.items) costs
gaps_none limit f costs h len = record {
  len = len;
  size = refl;
  rest = refl;
  left = λ b lt. refl;
  done = λ b x le at. absurd (out b x le at);
  entered = h.entered;
  turns = h.turned;
  from = λ c m e. ⊎_elim (λ t. inl t) (λ t. inr (inl t)) (h.from c m e);
}
  where
    out : (b : ℕ) (x : Block) → length f.blocks.items ≤ b → slice_get f.blocks.items b ≡ Some x → ⊥
    out b x le at = let lt : b < length f.blocks.items = slice_get_within f.blocks.items b x at in omega arith

module _ (limit : ℕ) (old mid new : Function) (j : ℕ) (x y : Block) (costs after : List (Option ℕ)) (within : j < length old.blocks.items) (ordered : IsOrdered old.blocks.items) (h : GapsSoFar limit old mid (suc j) costs) (is : slice_get mid.blocks.items j ≡ Some x) (set : new.blocks.items ≡ slice_set mid.blocks.items j y) (rest : new ≡ record mid { blocks = new.blocks }) (s : SweepsBlock limit j x y costs after) where
  below : j < suc j
  below = omega arith

  was : slice_get old.blocks.items j ≡ Some x
  was = sym (h.left j below) ∙ is

  down : (c : ℕ) → leads_to y.exit c ≡ true → c < j
  down c e = leads_down y.exit j c (subst (λ (t : Exit). Descends t j) (sym s.exit) (ordered.each j x was)) e

  not_later : (c : ℕ) → j ≤ c → leads_to y.exit c ≡ false
  not_later c le = by (leads_to y.exit c) refl
    where
      wrong : c < j → ⊥
      wrong lt = omega arith

      by : (t : Bool) → leads_to y.exit c ≡ t → t ≡ false
      by true e = absurd (wrong (down c e))
      by false e = refl

  still : (c : ℕ) → j ≤ c → get_or costs c None ≡ get_or after c None
  still c le = sym (s.raised.same c (not_later c le))

  within_new : j < length mid.blocks.items
  within_new = subst (λ (n : ℕ). j < n) (sym h.size) within

  here : slice_get new.blocks.items j ≡ Some y
  here = ap (λ (t : List Block). slice_get t j) set ∙ slice-set_same mid.blocks.items j y within_new

  elsewhere : (b : ℕ) → (b ≡ j → ⊥) → slice_get new.blocks.items b ≡ slice_get mid.blocks.items b
  elsewhere b n = ap (λ (t : List Block). slice_get t b) set ∙ slice-set_other mid.blocks.items j b y n

  self : j ≤ j
  self = omega arith

  end_is : s.end ≡ end_cost (get_or after j None) y.lines.items y.exit
  end_is = sym (sweep_end limit y.exit (get_or costs j None) x.lines.items y.lines.items s.end s.lines) ∙ ap (λ (t : Option ℕ). end_cost t y.lines.items y.exit) (still j self)

  count : length costs ≡ length after
  count = sym s.raised.len

  done_here : Done limit new.blocks.items after j x
  done_here = record {
    block = y;
    at = here;
    lines = subst (λ (n : Option ℕ). SweepLines limit y.exit (get_or after j None) x.lines.items y.lines.items n) end_is (subst (λ (t : Option ℕ). SweepLines limit y.exit t x.lines.items y.lines.items s.end) (still j self) s.lines);
    exit = s.exit;
    on = λ c n e lt r. s.raised.on c n e (subst (λ (l : ℕ). c < l) s.raised.len lt) (subst (λ (t : Option ℕ). Reaches n t) (sym end_is) r);
  }

  done_later : (b : ℕ) (z : Block) → j < b → Done limit mid.blocks.items costs b z → Done limit new.blocks.items after b z
  done_later b z lt d =
      let same = still b (up lt) in
      record {
        block = d.block;
        at = elsewhere b (apart lt) ∙ d.at;
        lines = subst (λ (t : Option ℕ). SweepLines limit d.block.exit t z.lines.items d.block.lines.items (end_cost t d.block.lines.items d.block.exit)) same d.lines;
        exit = d.exit;
        on = λ c n e within r.
            s.raised.kept c n
            (d.on c n e (subst (λ (l : ℕ). c < l) s.raised.len within) (subst (λ (t : Option ℕ). Reaches n (end_cost t d.block.lines.items d.block.exit)) (sym same) r));
      }
    where
      up : j < b → j ≤ b
      up lt = omega arith

      apart : j < b → b ≡ j → ⊥
      apart lt e = omega arith

  came_later : (c m : ℕ) → Came mid.blocks.items costs (suc j) c m → Came new.blocks.items after j c m
  came_later c m k = record {
    place = k.place;
    later = up k.later;
    block = k.block;
    at = elsewhere k.place (apart k.later) ∙ k.at;
    leads = k.leads;
    cost = ap (λ (t : Option ℕ). end_cost t k.block.lines.items k.block.exit) (sym (still k.place (up k.later))) ∙ k.cost;
  }
    where
      up : suc j ≤ k.place → j ≤ k.place
      up lt = omega arith

      apart : suc j ≤ k.place → k.place ≡ j → ⊥
      apart lt e = omega arith

  pub gaps_more : GapsSoFar limit old new j after
  gaps_more = record {
    len = s.raised.len ∙ h.len;
    size = ap (λ (t : List Block). length t) set ∙ set_count mid.blocks.items j y ∙ h.size;
    rest = rest ∙ ap (λ (f : Function). record f { blocks = new.blocks }) h.rest;
    left = λ b lt. elsewhere b (apart b lt) ∙ h.left b (up b lt);
    done = λ b z le at. ⊎_elim (λ lt. done_later b z lt (h.done b z (next b lt) at)) (λ ge. same b z (equal b le ge) at) (cases_lt j b);
    entered = λ lt. s.raised.kept old.entry 0 (h.entered (subst (λ (l : ℕ). old.entry < l) s.raised.len lt));
    turns = λ c e lt. s.raised.kept c turn_cost (h.turns c e (subst (λ (l : ℕ). c < l) s.raised.len lt));
    from = λ c m e.
        ⊎_elim
        (λ t. ⊎_elim (λ u. inl u) (λ (v : ((is_turned old.blocks.items c ≡ true) × (m ≡ turn_cost)) ⊎ Came mid.blocks.items costs (suc j) c m). ⊎_elim (λ u. inr (inl u)) (λ u. inr (inr (came_later c m u))) v) (h.from c m t))
        (λ (t : (leads_to y.exit c ≡ true) × (s.end ≡ Some m)). inr (inr (record { place = j; later = self; block = y; at = here; leads = t.0; cost = sym end_is ∙ t.1 })))
        (s.raised.from c m e);
  }
    where
      apart : (b : ℕ) → b < j → b ≡ j → ⊥
      apart b lt e = omega arith

      up : (b : ℕ) → b < j → b < suc j
      up b lt = omega arith

      next : (b : ℕ) → j < b → suc j ≤ b
      next b lt = omega arith

      equal : (b : ℕ) → j ≤ b → b ≤ j → j ≡ b
      equal b le ge = omega arith

      same : (b : ℕ) (z : Block) → j ≡ b → slice_get old.blocks.items b ≡ Some z → Done limit new.blocks.items after b z
      same b z e at =
          let one : x ≡ z = some_same x z (sym was ∙ ap (λ (n : ℕ). slice_get old.blocks.items n) e ∙ at) in
          subst (λ (n : ℕ). Done limit new.blocks.items after n z) e (subst (λ (q : Block). Done limit new.blocks.items after j q) one done_here)

module _ (limit : ℕ) (old new : Function) (costs : List (Option ℕ)) (h : GapsSoFar limit old new 0 costs) (enough : 8 ≤ limit) (ordered : IsOrdered old.blocks.items) (turns : (b : ℕ) (block : Block) → slice_get old.blocks.items b ≡ Some block → CutAtTurn block.exit block.lines.items) where
  abbrev starts : ℕ → Option ℕ
  starts c = get_or costs c None

  same_entry : new.entry ≡ old.entry
  same_entry = ap (λ (f : Function). f.entry) h.rest

  -- the old block, and what was made of it
  old_at : (b : ℕ) (y : Block) → slice_get new.blocks.items b ≡ Some y → slice_get old.blocks.items b ≡ Some (get_or old.blocks.items b y)
  old_at b y at = slice_get-get_or old.blocks.items b y (subst (λ (n : ℕ). b < n) h.size (slice_get_within new.blocks.items b y at))

  done_at : (b : ℕ) (y : Block) → slice_get new.blocks.items b ≡ Some y → Done limit new.blocks.items costs b (get_or old.blocks.items b y)
  done_at b y at = h.done b (get_or old.blocks.items b y) (low b) (old_at b y at)
    where
      low : (b : ℕ) → 0 ≤ b
      low b = omega arith

  same_block : (b : ℕ) (y : Block) (at : slice_get new.blocks.items b ≡ Some y) → (done_at b y at).block ≡ y
  same_block b y at = some_same (done_at b y at).block y (sym (done_at b y at).at ∙ at)

  block_swept : (b : ℕ) (y : Block) → slice_get new.blocks.items b ≡ Some y → SweptBlock limit starts old.blocks.items b y
  block_swept b y at =
      let d = done_at b y at in
      subst (λ (q : Block). SweptBlock limit starts old.blocks.items b q) (same_block b y at)
      (record { was = get_or old.blocks.items b y; at = old_at b y at; lines = d.lines; exit = d.exit })

  within_costs : (c : ℕ) (z : Block) → slice_get new.blocks.items c ≡ Some z → c < length costs
  within_costs c z at = subst (λ (n : ℕ). c < n) (h.size ∙ sym h.len) (slice_get_within new.blocks.items c z at)

  new_ordered : IsOrdered new.blocks.items
  new_ordered = record {
    each = λ b y at. (let g = block_swept b y at in subst (λ (t : Exit). Descends t b) (sym g.exit) (ordered.each b g.was g.at));
  }

  by_edge : (exit : Exit) (c : ℕ) → IsEdge exit c → (exit ≡ Turn c) ⊎ (leads_to exit c ≡ true)
  by_edge (Jump x) c e = inr (eq-eqb x c (sym e))
  by_edge (Turn x) c e = inl (ap (λ (n : ℕ). Turn n) (sym e))
  by_edge (Branch on x y) c e = inr (either (x == c) (y == c) (⊎_elim (λ q. inl (eq-eqb x c (sym q))) (λ q. inr (eq-eqb y c (sym q))) e))
    where
      either : (a b : Bool) → (a ≡ true) ⊎ (b ≡ true) → (a || b) ≡ true
      either true b q = refl
      either false b q = ⊎_elim (λ t. cc) (λ t. t) q
  by_edge (Return from) c e = absurd e

  by_turn : (p c n : ℕ) (y z : Block) → slice_get new.blocks.items p ≡ Some y → slice_get new.blocks.items c ≡ Some z → y.exit ≡ Turn c → Reaches n (end_cost (starts p) y.lines.items y.exit) → Reaches n (starts c)
  by_turn p c n y z at there e r =
      let g = block_swept p y at in
      let cut = subst (λ (x : Exit). CutAtTurn x g.was.lines.items) (sym g.exit ∙ e) (turns p g.was g.at) in
      let t = turn_end limit y.exit (starts p) g.was.lines.items y.lines.items (end_cost (starts p) y.lines.items y.exit) (leave_fits limit y.exit enough) g.lines cut in
      let most : n ≤ leave_cost y.exit = subst (λ (x : Option ℕ). Reaches n x) t.cost r in
      let two : leave_cost y.exit ≡ turn_cost = ap leave_cost e in
      reaches_down n turn_cost (starts c) (subst (λ (x : ℕ). n ≤ x) two most) (h.turns c (turned old.blocks.items p c g.was g.at (sym g.exit ∙ e)) (within_costs c z there))

  joined : (p c n : ℕ) (y z : Block) → slice_get new.blocks.items p ≡ Some y → slice_get new.blocks.items c ≡ Some z → IsEdge y.exit c → Reaches n (end_cost (starts p) y.lines.items y.exit) → Reaches n (starts c)
  joined p c n y z at there edge r =
      ⊎_elim
      (λ e. by_turn p c n y z at there e r)
      (λ e.
      let d = done_at p y at in
      let same = sym (same_block p y at) in
      d.on c n (subst (λ (q : Block). leads_to q.exit c ≡ true) same e) (within_costs c z there) (subst (λ (q : Block). Reaches n (end_cost (starts p) q.lines.items q.exit)) same r))
      (by_edge y.exit c edge)

  origin : (c m : ℕ) → starts c ≡ Some m → Origin new starts c m
  origin c m e =
      ⊎_elim
      (λ (t : (c ≡ old.entry) × (m ≡ 0)). inl (t.0 ∙ sym same_entry, t.1))
      (λ (v : ((is_turned old.blocks.items c ≡ true) × (m ≡ turn_cost)) ⊎ Came new.blocks.items costs 0 c m).
      ⊎_elim
      (λ (t : (is_turned old.blocks.items c ≡ true) × (m ≡ turn_cost)). inr (inl (turn_of t.0, t.1)))
      (λ (t : Came new.blocks.items costs 0 c m). inr (inr (record { number = t.place; block = t.block; at = t.at; leads = t.leads; cost = t.cost })))
      v)
      (h.from c m e)
    where
      turn_of : is_turned old.blocks.items c ≡ true → Turns new.blocks.items c
      turn_of e =
          let k = turned_at old.blocks.items c e in
          let d = h.done k.0 k.1 (omega arith) k.2 in
          record { number = k.0; block = d.block; at = d.at; exit = d.exit ∙ k.3 }

  small : (c : ℕ) → Small limit (starts c)
  small c = by (starts c) refl
    where
      by : (m : Option ℕ) → starts c ≡ m → Small limit m
      by None e = tt
      by (Some k) e =
          ⊎_elim
          (λ (t : (c ≡ new.entry) × (k ≡ 0)). entry_small t.1)
          (λ (v : (Turns new.blocks.items c × (k ≡ turn_cost)) ⊎ Comes new.blocks.items starts c k).
          ⊎_elim
          (λ (t : Turns new.blocks.items c × (k ≡ turn_cost)). turn_small t.1)
          (λ (t : Comes new.blocks.items starts c k).
          let g = block_swept t.number t.block t.at in
          subst (λ (x : Option ℕ). Small limit x) t.cost
          (sweep_small limit t.block.exit (starts t.number) g.was.lines.items t.block.lines.items (end_cost (starts t.number) t.block.lines.items t.block.exit) (leave_fits limit t.block.exit enough) g.lines))
          v)
          (origin c k e)
        where
          entry_small : k ≡ 0 → k ≤ limit
          entry_small e = omega arith

          turn_small : k ≡ turn_cost → k ≤ limit
          turn_small e = omega arith

  swept : Swept limit old new
  swept = record {
    starts = starts;
    blocks = block_swept;
    entered = λ y at. subst (λ (n : ℕ). Reaches 0 (starts n)) (sym same_entry) (h.entered (subst (λ (n : ℕ). n < length costs) same_entry (within_costs new.entry y at)));
    joined = joined;
    small = small;
    from = origin;
    rest = h.rest;
  }

  pub gaps_whole : GapCutsTo limit old new
  gaps_whole = record {
    blocks = swept_due limit old new enough swept new_ordered turns (sym h.size);
    rest = h.rest;
    bounded = none_longer limit old new enough (line_fits limit enough) swept;
  }
