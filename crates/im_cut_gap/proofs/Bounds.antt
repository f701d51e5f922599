-- Where all blocks are swept, no path without a cut costs more than the limit.
use Rattle.std.proofs.Common.{◌≡◌, ◌⊎◌, ℕ, ◌+◌, ◌≤◌, List, [], ◌∷◌, ◌++◌, Option, Some, None, refl, sym, ◌∙◌, subst, append_assoc, ⊎_elim, arith}
use Rattle.std.specs.Prelude.{true, slice_get}
use Rattle.std.proofs.lemmas.List.{append-nil}
use Rattle.im_num.specs.declared.values.Cause.TheVariants.{Gap}
use Rattle.im_block.specs.declared.code.Line.{Line}
use Rattle.im_block.specs.declared.code.Line.TheVariants.{Cut}
use Rattle.im_block.specs.declared.code.Exit.{Exit}
use Rattle.im_block.specs.declared.code.Exit.TheVariants.{Jump, Turn, Branch, Return}
use Rattle.im_block.specs.declared.code.Block.{Block}
use Rattle.im_block.specs.declared.unit.Function.{Function}
use Rattle.im_block.specs.Meaning.{Spot}
use Rattle.im_block.specs.Paths.{IsCut, IsEdge, spot, IsEntry, AfterCut, Begins}
use Rattle.im_block.specs.Shape.{with_cut}
use Rattle.im_cut_gap.specs.Costs.{leave_cost, CostPath, Here, Along, Across, NoneLonger}
use Rattle.im_cut_gap.specs.Starts.{Reaches, leads_to, turn_cost}
use Rattle.im_cut_gap.specs.Sweep.{Spends, Nowhere, Fits, Splits, SweepLines, Leaves, AtCut, Skips, Keeps, Cuts}
use Rattle.im_cut_gap.proofs.Costs.{cost_after, cost_along, end_cost, along_append, after_plain, after_cut, spent_zero, reaches_more, Small, small_reached, sweep_small}

pub record SweptBlock (limit : ℕ) (starts : ℕ → Option ℕ) (old : List Block) (b : ℕ) (y : Block) : Type 0 where
  pub was : Block
  pub at : slice_get old b ≡ Some was
  pub lines : SweepLines limit y.exit (starts b) was.lines.items y.lines.items (end_cost (starts b) y.lines.items y.exit)
  pub exit : y.exit ≡ was.exit

-- a cost at a start is that of a path from another block
pub record Comes (blocks : List Block) (starts : ℕ → Option ℕ) (c m : ℕ) : Type 0 where
  pub number : ℕ
  pub block : Block
  pub at : slice_get blocks number ≡ Some block
  pub leads : leads_to block.exit c ≡ true
  pub cost : end_cost (starts number) block.lines.items block.exit ≡ Some m

pub record Turns (blocks : List Block) (c : ℕ) : Type 0 where
  pub number : ℕ
  pub block : Block
  pub at : slice_get blocks number ≡ Some block
  pub exit : block.exit ≡ Turn c

abbrev pub Origin : Function → (ℕ → Option ℕ) → ℕ → ℕ → Type 0
Origin f starts c m = ((c ≡ f.entry) × (m ≡ 0)) ⊎ ((Turns f.blocks.items c × (m ≡ turn_cost)) ⊎ Comes f.blocks.items starts c m)

pub record Swept (limit : ℕ) (old f : Function) : Type 0 where
  pub starts : ℕ → Option ℕ
  pub blocks : (b : ℕ) (y : Block) → slice_get f.blocks.items b ≡ Some y → SweptBlock limit starts old.blocks.items b y
  pub entered : (y : Block) → slice_get f.blocks.items f.entry ≡ Some y → Reaches 0 (starts f.entry)
  pub joined : (p c n : ℕ) (y z : Block) → slice_get f.blocks.items p ≡ Some y → slice_get f.blocks.items c ≡ Some z → IsEdge y.exit c → Reaches n (end_cost (starts p) y.lines.items y.exit) → Reaches n (starts c)
  pub small : (c : ℕ) → Small limit (starts c)
  pub from : (c m : ℕ) → starts c ≡ Some m → Origin f starts c m
  pub rest : f ≡ record old { blocks = f.blocks }

pub leave_few : (exit : Exit) → leave_cost exit ≤ 8
leave_few (Jump c) = omega arith
leave_few (Turn c) = omega arith
leave_few (Branch on x y) = omega arith
leave_few (Return from) = omega arith

pub leave_fits : (limit : ℕ) (exit : Exit) → 8 ≤ limit → leave_cost exit ≤ limit
leave_fits limit exit le = let few = leave_few exit in omega arith

-- ---- within the limit at each spot of a block

low : (n : ℕ) → 0 ≤ n
low n = omega arith

no_front : (a b : List Line) → [] ≡ a ++ b → a ≡ []
no_front [] b e = refl
no_front (y ∷ a) b e = cc

spends_within : (limit cost : ℕ) (m : Option ℕ) (put : List Line) (n : Option ℕ) (x : Line) (front rest : List Line) → Spends limit cost m put n → Small limit m → put ≡ x ∷ front ++ rest → Small limit (cost_along (cost_after x m) front)
spends_within limit cost m put n x front rest Nowhere le e = cc
spends_within limit cost m put n x front rest (Fits k fits) le e = cc
spends_within limit cost m put n x front rest (Splits k long) le e =
    let head : x ≡ Cut Gap = cc in
    let tail : [] ≡ front ++ rest = cc in
    let none : front ≡ [] = no_front front rest tail in
    subst (λ (t : List Line). Small limit (cost_along (cost_after x (Some k)) t)) (sym none) (subst (λ (t : Line). Small limit (cost_after t (Some k))) (sym head) (low limit))

within : (limit : ℕ) (exit : Exit) (m : Option ℕ) (old new : List Line) (n : Option ℕ) (front rest : List Line) → ((line : Line) → with_cut line ≤ limit) → SweepLines limit exit m old new n → Small limit m → new ≡ front ++ rest → Small limit (cost_along m front)
within limit exit m old new n [] rest few h le e = le
within limit exit m old new n (x ∷ front) rest few (Leaves k put l s) le e = spends_within limit (leave_cost exit) k put l x front rest s le e
within limit exit m old new n (x ∷ front) rest few (AtCut k cause o w l h) le e =
    let head : x ≡ Cut cause = cc in
    let tail : w ≡ front ++ rest = cc in
    subst (λ (t : Line). Small limit (cost_along (cost_after t k) front)) (sym head) (within limit exit (Some 0) o w l front rest few h (low limit) tail)
within limit exit m old new n (x ∷ front) rest few (Skips line o w l plain h) le e =
    let head : x ≡ line = cc in
    let tail : w ≡ front ++ rest = cc in
    subst (λ (t : Line). Small limit (cost_along (cost_after t None) front)) (sym head)
    (subst (λ (t : Option ℕ). Small limit (cost_along t front)) (sym (after_plain line None plain)) (within limit exit None o w l front rest few h tt tail))
within limit exit m old new n (x ∷ front) rest few (Keeps k line o w l plain fits h) le e =
    let head : x ≡ line = cc in
    let tail : w ≡ front ++ rest = cc in
    subst (λ (t : Line). Small limit (cost_along (cost_after t (Some k)) front)) (sym head)
    (subst (λ (t : Option ℕ). Small limit (cost_along t front)) (sym (after_plain line (Some k) plain)) (within limit exit (Some (k + with_cut line)) o w l front rest few h fits tail))
within limit exit m old new n (x ∷ []) rest few (Cuts k line o w l plain long h) le e =
    let head : x ≡ Cut Gap = cc in
    subst (λ (t : Line). Small limit (cost_after t (Some k))) (sym head) (low limit)
within limit exit m old new n (x ∷ y ∷ front) rest few (Cuts k line o w l plain long h) le e =
    let head : x ≡ Cut Gap = cc in
    let next : y ≡ line = cc in
    let tail : w ≡ front ++ rest = cc in
    subst (λ (t : Line). Small limit (cost_along (cost_after y (cost_after t (Some k))) front)) (sym head)
    (subst (λ (t : Line). Small limit (cost_along (cost_after t (Some 0)) front)) (sym next)
    (subst (λ (t : Option ℕ). Small limit (cost_along t front)) (sym (after_plain line (Some 0) plain ∙ spent_zero (with_cut line))) (within limit exit (Some (with_cut line)) o w l front rest few h (few line) tail)))

module _ (limit : ℕ) (old f : Function) (enough : 8 ≤ limit) (few : (line : Line) → with_cut line ≤ limit) (swept : Swept limit old f) where
  -- a path costs at most what the sweep has there
  record Knows (n : ℕ) (s : Spot) : Type 0 where
    block : Block
    before : List Line
    at : slice_get f.blocks.items s.block ≡ Some block
    lines : block.lines.items ≡ before ++ s.rest
    exit : s.exit ≡ block.exit
    most : Reaches n (cost_along (swept.starts s.block) before)

  behind_cut : (m : Option ℕ) (before : List Line) (cut : Line) → IsCut cut → Reaches 0 (cost_along m (before ++ cut ∷ []))
  behind_cut m before cut is = subst (λ (t : Option ℕ). Reaches 0 t) (sym (along_append m before (cut ∷ []) ∙ after_cut cut (cost_along m before) is)) (low 0)

  knows_start : (start : Spot) → Begins f start → Knows 0 start
  knows_start start from =
      ⊎_elim
      (λ (e : IsEntry f start). subst (Knows 0) (sym e.is) (record { block = e.block; before = []; at = e.at; lines = refl; exit = refl; most = swept.entered e.block e.at }))
      (λ (c : AfterCut f.blocks.items start). record {
        block = c.block;
        before = c.before ++ c.cut ∷ [];
        at = c.at;
        lines = c.lines ∙ sym (append_assoc c.before (c.cut ∷ []) start.rest);
        exit = c.exit;
        most = behind_cut (swept.starts start.block) c.before c.cut c.is_cut;
      })
      from

  knows : (start : Spot) → Begins f start → (n : ℕ) (s : Spot) → CostPath f.blocks.items start n s → Knows n s
  knows start from n s Here = knows_start start from
  knows start from n s (Along k b line rest exit plain q) =
      let r = knows start from k (spot b (line ∷ rest) exit) q in
      let one = along_append (swept.starts b) r.before (line ∷ []) ∙ after_plain line (cost_along (swept.starts b) r.before) plain in
      record {
        block = r.block;
        before = r.before ++ line ∷ [];
        at = r.at;
        lines = r.lines ∙ sym (append_assoc r.before (line ∷ []) rest);
        exit = r.exit;
        most = subst (λ (x : Option ℕ). Reaches (k + with_cut line) x) (sym one) (reaches_more k (with_cut line) (cost_along (swept.starts b) r.before) r.most);
      }
  knows start from n s (Across k b exit c block edge at q) =
      let r = knows start from k (spot b [] exit) q in
      let whole : r.block.lines.items ≡ r.before = r.lines ∙ append-nil r.before in
      let most = subst (λ (t : List Line). Reaches k (cost_along (swept.starts b) t)) (sym whole) r.most in
      let ended : Reaches (k + leave_cost exit) (end_cost (swept.starts b) r.block.lines.items exit) = reaches_more k (leave_cost exit) (cost_along (swept.starts b) r.block.lines.items) most in
      record {
        block = block;
        before = [];
        at = at;
        lines = refl;
        exit = refl;
        most = swept.joined b c (k + leave_cost exit) r.block block r.at at (subst (λ (x : Exit). IsEdge x c) r.exit edge) (subst (λ (x : Exit). Reaches (k + leave_cost exit) (end_cost (swept.starts b) r.block.lines.items x)) r.exit ended);
      }

  pub none_longer : NoneLonger limit f
  none_longer = record {
    path = λ start from n s q.
        let r = knows start from n s q in
        let g = swept.blocks s.block r.block r.at in
        let top = within limit r.block.exit (swept.starts s.block) g.was.lines.items r.block.lines.items (end_cost (swept.starts s.block) r.block.lines.items r.block.exit) r.before s.rest few g.lines (swept.small s.block) r.lines in
        small_reached limit n (cost_along (swept.starts s.block) r.before) top r.most;
    exit = λ start from n b exit q.
        let r = knows start from n (spot b [] exit) q in
        let g = swept.blocks b r.block r.at in
        let end = end_cost (swept.starts b) r.block.lines.items r.block.exit in
        let small = sweep_small limit r.block.exit (swept.starts b) g.was.lines.items r.block.lines.items end (leave_fits limit r.block.exit enough) g.lines in
        let whole : r.block.lines.items ≡ r.before = r.lines ∙ append-nil r.before in
        let most = subst (λ (t : List Line). Reaches n (cost_along (swept.starts b) t)) (sym whole) r.most in
        let ended = reaches_more n (leave_cost exit) (cost_along (swept.starts b) r.block.lines.items) most in
        small_reached limit (n + leave_cost exit) end small (subst (λ (x : Exit). Reaches (n + leave_cost exit) (end_cost (swept.starts b) r.block.lines.items x)) r.exit ended);
  }
