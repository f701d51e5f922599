-- Gap cuts are further cuts alone, and none stands beside another.
use Rattle.std.proofs.Common.{◌≡◌, ℕ, zero, suc, ◌+◌, ◌<◌, ◌≤◌, List, [], ◌∷◌, ◌++◌, length, Some, refl, sym, ap, ◌∙◌, subst, inl, inr, ⊎_elim, append_assoc, arith}
use Rattle.std.specs.Prelude.{slice_get}
use Rattle.std.proofs.lemmas.List.{append_cancel_right, length-append}
use Rattle.im_num.specs.declared.kind.Kind.{Kind}
use Rattle.im_num.specs.declared.kind.Kind.TheVariants.{I8, U8, I16, U16, I32, U32, Ptr}
use Rattle.im_num.specs.declared.values.Cause.TheVariants.{Gap}
use Rattle.im_block.specs.declared.code.Line.{Line}
use Rattle.im_block.specs.declared.code.Line.TheVariants.{Cut, Unary, Compute}
use Rattle.im_block.specs.declared.code.Exit.{Exit}
use Rattle.im_block.specs.declared.code.Block.{Block}
use Rattle.im_block.specs.declared.unit.Function.{Function}
use Rattle.im_block.specs.Meaning.{Spot}
use Rattle.im_block.specs.Paths.{IsCut, spot, IsEntry, Begins}
use Rattle.im_block.specs.Shape.{with_cut, narrowing}
use Rattle.im_block.specs.Forced.{StartsWithCut}
use Rattle.im_block.specs.Uncut.{WithCuts, Empty as NoLines, Same as SameLine, Added as AddedCut, SameBlocks, SameFunction}
use Rattle.im_alloc_placed.specs.Apart.{CutsApart}
use Rattle.im_cut_gap.specs.Costs.{next_cost, CostPath, Here, Along, Across, NoneLonger}
use Rattle.im_cut_gap.specs.Gaps.{BehindCut, Starts, IsLong, GapLines, Empty, Same, Added, GapBlocks, GapCutsTo}
use Rattle.im_cut_gap.proofs.Costs.{some_same}
use Rattle.im_cut_gap.proofs.Bounds.{leave_fits}

-- ---- further cuts alone

with_cuts : (limit : ℕ) (blocks : List Block) (f : Function) (b : ℕ) (exit : Exit) (n : ℕ) (old new : List Line) → GapLines limit blocks f b exit n old new → WithCuts old new
with_cuts limit blocks f b exit n old new (Empty k) = NoLines
with_cuts limit blocks f b exit n old new (Same k line x y h) = SameLine line x y (with_cuts limit blocks f b exit (suc k) x y h)
with_cuts limit blocks f b exit n old new (Added k x y due h) = AddedCut Gap x y (with_cuts limit blocks f b exit (suc k) x y h)

same_blocks : (limit : ℕ) (blocks : List Block) (f : Function) (b : ℕ) (xs ys : List Block) → GapBlocks limit blocks f b xs ys → SameBlocks xs ys
same_blocks limit blocks f b [] [] h = tt
same_blocks limit blocks f b (x ∷ xs) (y ∷ ys) h = (record { lines = with_cuts limit blocks f b y.exit 0 x.lines.items y.lines.items h.0; exit = h.1 }, same_blocks limit blocks f (suc b) xs ys h.2)
same_blocks limit blocks f b [] (y ∷ ys) h = absurd h
same_blocks limit blocks f b (x ∷ xs) [] h = absurd h

pub same : (limit : ℕ) (old new : Function) → GapCutsTo limit old new → SameFunction old new
same limit old new h = record { blocks = same_blocks limit old.blocks.items new 0 old.blocks.items new.blocks.items h.blocks; rest = h.rest }

-- ---- costs

narrow_few : (kind : Kind) → narrowing kind ≤ 2
narrow_few I8 = omega arith
narrow_few U8 = omega arith
narrow_few I16 = omega arith
narrow_few U16 = omega arith
narrow_few I32 = omega arith
narrow_few U32 = omega arith
narrow_few Ptr = omega arith

pub line_few : (line : Line) → with_cut line ≤ 5
line_few (Unary to op kind from) = let k = narrow_few kind in omega arith
line_few (Compute to op kind left right) = let k = narrow_few kind in omega arith
line_few line = omega arith

pub line_fits : (limit : ℕ) → 8 ≤ limit → (line : Line) → with_cut line ≤ limit
line_fits limit le line = let few = line_few line in omega arith

next_fits : (limit : ℕ) → 8 ≤ limit → (rest : List Line) (exit : Exit) → next_cost rest exit ≤ limit
next_fits limit le [] exit = leave_fits limit exit le
next_fits limit le (line ∷ rest) exit = line_fits limit le line

cut_free : (line : Line) (rest : List Line) (exit : Exit) → IsCut line → next_cost (line ∷ rest) exit ≡ 0
cut_free (Cut cause) rest exit is = refl
cut_free line rest exit is = absurd is

-- ---- lists

abbrev last_of : {A : Type 0} → A → List A → A
last_of d [] = d
last_of d (x ∷ xs) = last_of x xs

last-append : {A : Type 0} (d : A) (xs : List A) (a : A) → last_of d (xs ++ a ∷ []) ≡ a
last-append d [] a = refl
last-append d (x ∷ xs) a = last-append x xs a

same_last : {A : Type 0} (xs ys zs : List A) (a b : A) → xs ++ a ∷ zs ≡ ys ++ b ∷ zs → a ≡ b
same_last xs ys zs a b e =
    let one = append_assoc xs (a ∷ []) zs ∙ e ∙ sym (append_assoc ys (b ∷ []) zs) in
    let two = append_cancel_right (xs ++ a ∷ []) (ys ++ b ∷ []) zs one in
    sym (last-append a xs a) ∙ ap (last_of a) two ∙ last-append a ys b

no_more : {A : Type 0} (ys zs : List A) (b : A) → zs ≡ ys ++ b ∷ zs → ⊥
no_more ys zs b e =
    let n : length zs ≡ length ys + suc (length zs) = ap length e ∙ length-append ys (b ∷ zs) in
    omega arith

-- ---- where a path comes to

record Stands (blocks : List Block) (s : Spot) : Type 0 where
  block : Block
  before : List Line
  at : slice_get blocks s.block ≡ Some block
  lines : block.lines.items ≡ before ++ s.rest

module _ (old : List Block) (f : Function) (b n : ℕ) (start : Spot) (starts : Starts old f b n start) where
  start_stands : Stands f.blocks.items start
  start_stands =
      ⊎_elim
      (λ (e : IsEntry f start). subst (Stands f.blocks.items) (sym e.is) (record { block = e.block; before = []; at = e.at; lines = refl }))
      (λ (c : BehindCut old f.blocks.items b n start). record { block = c.block; before = c.before ++ Cut c.cause ∷ []; at = c.at; lines = c.lines ∙ sym (append_assoc c.before (Cut c.cause ∷ []) start.rest) })
      starts

  begins : Begins f start
  begins =
      ⊎_elim
      (λ (e : IsEntry f start). inl e)
      (λ (c : BehindCut old f.blocks.items b n start). inr (record { block = c.block; before = c.before; cut = Cut c.cause; at = c.at; lines = c.lines; is_cut = tt; exit = c.exit }))
      starts

  stands : (cost : ℕ) (s : Spot) → CostPath f.blocks.items start cost s → Stands f.blocks.items s
  stands cost s Here = start_stands
  stands cost s (Along k p line rest exit uncut q) =
      let r = stands k (spot p (line ∷ rest) exit) q in
      record { block = r.block; before = r.before ++ line ∷ []; at = r.at; lines = r.lines ∙ sym (append_assoc r.before (line ∷ []) rest) }
  stands cost s (Across k p exit c block edge at q) = record { block = block; before = []; at = at; lines = refl }

  -- a path to where a cut stands directly before costs nothing
  none_spent : (cost : ℕ) (s : Spot) (block : Block) (front : List Line) (cut : Line) → CostPath f.blocks.items start cost s → slice_get f.blocks.items s.block ≡ Some block → block.lines.items ≡ front ++ cut ∷ s.rest → IsCut cut → cost ≡ 0
  none_spent cost s block front cut Here at lines is = refl
  none_spent cost s block front cut (Along k p line rest exit uncut q) at lines is =
      let r = stands k (spot p (line ∷ rest) exit) q in
      let one = some_same r.block block (sym r.at ∙ at) in
      let two = sym r.lines ∙ ap (λ (x : Block). x.lines.items) one ∙ lines in
      absurd (uncut (subst IsCut (sym (same_last r.before front rest line cut two)) is))
  none_spent cost s block front cut (Across k p exit c other edge there q) at lines is =
      let one = some_same other block (sym there ∙ at) in
      absurd (no_more front other.lines.items cut (ap (λ (x : Block). x.lines.items) one ∙ lines))

-- ---- side by side

past : (line : Line) (rest : List Line) → (IsCut line → StartsWithCut rest → ⊥) → CutsApart rest → CutsApart (line ∷ rest)
past (Cut cause) rest n h = (n tt, h)
past line rest n h = h

rest_of : (line : Line) (rest : List Line) → CutsApart (line ∷ rest) → CutsApart rest
rest_of (Cut cause) rest h = h.1
rest_of line rest h = h

parted : (line : Line) (rest : List Line) → CutsApart (line ∷ rest) → IsCut line → StartsWithCut rest → ⊥
parted (Cut cause) rest h is s = h.0 s
parted line rest h is s = is

module _ (limit : ℕ) (enough : 8 ≤ limit) (old : List Block) (f : Function) (bounded : NoneLonger limit f) (b : ℕ) (exit : Exit) (block : Block) (at : slice_get f.blocks.items b ≡ Some block) where
  further_on : (front : List Line) (line : Line) (rest : List Line) → block.lines.items ≡ front ++ line ∷ rest → block.lines.items ≡ (front ++ line ∷ []) ++ rest
  further_on front line rest e = e ∙ sym (append_assoc front (line ∷ []) rest)

  -- no cut stands directly before a gap cut
  not_behind : (n : ℕ) (rest front : List Line) (cut : Line) → IsLong limit old f b n rest exit → block.lines.items ≡ front ++ cut ∷ Cut Gap ∷ rest → IsCut cut → ⊥
  not_behind n rest front cut due lines is =
      let none = none_spent old f b n due.start due.starts due.cost (spot b (Cut Gap ∷ rest) exit) block front cut due.path at lines is in
      let fits = next_fits limit enough rest exit in
      let long = due.long in
      omega arith

  -- nor directly behind it
  not_before : (n : ℕ) (rest : List Line) → IsLong limit old f b n rest exit → StartsWithCut rest → ⊥
  not_before n [] due s = s
  not_before n (line ∷ rest) due s =
      let most = bounded.path due.start (begins old f b n due.start due.starts) due.cost (spot b (Cut Gap ∷ line ∷ rest) exit) due.path in
      let none = cut_free line rest exit s in
      let long : limit < due.cost + next_cost (line ∷ rest) exit = due.long in
      omega arith

  starts_old : (n : ℕ) (was new front : List Line) (cut : Line) → GapLines limit old f b exit n was new → block.lines.items ≡ front ++ cut ∷ new → IsCut cut → StartsWithCut new → StartsWithCut was
  starts_old n was new front cut (Empty k) lines is h = h
  starts_old n was new front cut (Same k line x y g) lines is h = h
  starts_old n was new front cut (Added k x y due g) lines is h = absurd (not_behind k y front cut due lines is)

  apart_lines : (n : ℕ) (was new front : List Line) → GapLines limit old f b exit n was new → block.lines.items ≡ front ++ new → CutsApart was → CutsApart new
  apart_lines n was new front (Empty k) lines h = h
  apart_lines n was new front (Same k line x y g) lines h =
      past line y (λ is s. parted line x h is (starts_old (suc k) x y front line g lines is s)) (apart_lines (suc k) x y (front ++ line ∷ []) g (further_on front line y lines) (rest_of line x h))
  apart_lines n was new front (Added k x y due g) lines h =
      past (Cut Gap) y (λ is s. not_before k y due s) (apart_lines (suc k) x y (front ++ Cut Gap ∷ []) g (further_on front (Cut Gap) y lines) h)

-- a block of the new code, and the old one
record Old (limit : ℕ) (blocks : List Block) (f : Function) (b : ℕ) (xs : List Block) (k : ℕ) (y : Block) : Type 0 where
  was : Block
  at : slice_get xs k ≡ Some was
  lines : GapLines limit blocks f (b + k) y.exit 0 was.lines.items y.lines.items

old_block : (limit : ℕ) (blocks : List Block) (f : Function) (b : ℕ) (xs ys : List Block) (k : ℕ) (y : Block) → GapBlocks limit blocks f b xs ys → slice_get ys k ≡ Some y → Old limit blocks f b xs k y
old_block limit blocks f b [] [] k y h e = cc
old_block limit blocks f b (x ∷ xs) [] k y h e = absurd h
old_block limit blocks f b [] (z ∷ ys) k y h e = absurd h
old_block limit blocks f b (x ∷ xs) (z ∷ ys) zero y h e =
    let one : z ≡ y = some_same z y e in
    let here : b ≡ b + 0 = omega arith in
    record { was = x; at = refl; lines = subst (λ n. GapLines limit blocks f n y.exit 0 x.lines.items y.lines.items) here (subst (λ (q : Block). GapLines limit blocks f b q.exit 0 x.lines.items q.lines.items) one h.0) }
old_block limit blocks f b (x ∷ xs) (z ∷ ys) (suc k) y h e =
    let o = old_block limit blocks f (suc b) xs ys k y h.2 e in
    let here : suc b + k ≡ b + suc k = omega arith in
    record { was = o.was; at = o.at; lines = subst (λ n. GapLines limit blocks f n y.exit 0 o.was.lines.items y.lines.items) here o.lines }

pub apart : (limit : ℕ) (old new : Function) → 8 ≤ limit → GapCutsTo limit old new → ((b : ℕ) (block : Block) → slice_get old.blocks.items b ≡ Some block → CutsApart block.lines.items) → (b : ℕ) (block : Block) → slice_get new.blocks.items b ≡ Some block → CutsApart block.lines.items
apart limit old new enough h before b block at =
    let o = old_block limit old.blocks.items new 0 old.blocks.items new.blocks.items b block h.blocks at in
    let here : 0 + b ≡ b = omega arith in
    let lines = subst (λ n. GapLines limit old.blocks.items new n block.exit 0 o.was.lines.items block.lines.items) here o.lines in
    apart_lines limit enough old.blocks.items new h.bounded b block.exit block at 0 o.was.lines.items block.lines.items [] lines refl (before b o.was o.at)
