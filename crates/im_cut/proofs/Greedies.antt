-- Greedy cuts are further cuts alone, and none stands beside another.
use Rattle.std.proofs.Common.{◌≡◌, ℕ, zero, suc, ◌+◌, List, [], ◌∷◌, ◌++◌, length, Some, refl, sym, ap, ◌∙◌, subst, ⊎_elim, append_assoc, arith}
use Rattle.std.specs.Prelude.{slice_get}
use Rattle.std.proofs.lemmas.List.{append_cancel_right, length-append}
use Rattle.im_num.specs.declared.values.Cause.{Cause}
use Rattle.im_block.specs.declared.access.Tags.{Tags}
use Rattle.im_block.specs.declared.access.Dep.{Dep}
use Rattle.im_block.specs.declared.code.Line.{Line}
use Rattle.im_block.specs.declared.code.Line.TheVariants.{Cut}
use Rattle.im_block.specs.declared.code.Exit.{Exit}
use Rattle.im_block.specs.declared.code.Block.{Block}
use Rattle.im_block.specs.declared.unit.Function.{Function}
use Rattle.im_block.specs.Meaning.{Site, Spot}
use Rattle.im_block.specs.Paths.{Step, WriteStep, steps_of, Open, IsCut, spot, Path, Here, Along, Across, IsEntry}
use Rattle.im_block.specs.Forced.{StartsWithCut}
use Rattle.im_block.specs.Uncut.{WithCuts, Empty as NoLines, Same as SameLine, Added as AddedCut, SameBlocks, SameFunction}
use Rattle.im_alloc_placed.specs.Apart.{CutsApart}
use Rattle.im_cut.specs.Greedy.{cause_of, causes_of_blocks, BehindCut, Starts, CutLines, Empty, Same, Added, CutBlocks, CutsTo}

-- further cuts alone

with_cuts : (tags : Tags) (f : Function) (causes : List Cause) (b : ℕ) (exit : Exit) (done : List Dep) (old new : List Line) (added : List Dep) → CutLines tags f causes b exit done old new added → WithCuts old new
with_cuts tags f causes b exit done old new added (Empty d) = NoLines
with_cuts tags f causes b exit done old new added (Same d line x y more h) = SameLine line x y (with_cuts tags f causes b exit d x y more h)
with_cuts tags f causes b exit done old new added (Added d dep w line x y more is number due h) =
    AddedCut (cause_of dep) (line ∷ x) (line ∷ y) (SameLine line x y (with_cuts tags f causes b exit (d ++ dep ∷ []) x y more h))

same_blocks : (tags : Tags) (f : Function) (causes : List Cause) (b : ℕ) (xs ys : List Block) (added : List Dep) → CutBlocks tags f causes b xs ys added → SameBlocks xs ys
same_blocks tags f causes b [] [] added h = tt
same_blocks tags f causes b (x ∷ xs) (y ∷ ys) added h =
    (record { lines = with_cuts tags f causes b y.exit h.0 x.lines.items y.lines.items h.1 h.4; exit = h.5 }, same_blocks tags f causes (suc b) xs ys h.0 h.3)
same_blocks tags f causes b [] (y ∷ ys) added h = absurd h
same_blocks tags f causes b (x ∷ xs) [] added h = absurd h

pub same : (tags : Tags) (old new : Function) (added : List Dep) → CutsTo tags old new added → SameFunction old new
same tags old new added h = record {
  blocks = same_blocks tags new (causes_of_blocks old.blocks.items) 0 old.blocks.items new.blocks.items added h.blocks;
  rest = h.rest;
}

-- lists

abbrev last_of : {A : Type 0} → A → List A → A
last_of d [] = d
last_of d (x ∷ xs) = last_of x xs

last-append : {A : Type 0} (d : A) (xs : List A) (a : A) → last_of d (xs ++ a ∷ []) ≡ a
last-append d [] a = refl
last-append d (x ∷ xs) a = last-append x xs a

same_last : {A : Type 0} (xs ys zs : List A) (a b : A) → xs ++ a ∷ zs ≡ ys ++ b ∷ zs → a ≡ b
same_last xs ys zs a b e =
    let one = append_assoc xs (a ∷ []) zs ∙ e ∙ sym (append_assoc ys (b ∷ []) zs) in
    let two = append_cancel_right (xs ++ a ∷ []) (ys ++ b ∷ []) zs one in
    sym (last-append a xs a) ∙ ap (last_of a) two ∙ last-append a ys b

no_more : {A : Type 0} (ys zs : List A) (b : A) → zs ≡ ys ++ b ∷ zs → ⊥
no_more ys zs b e =
    let n : length zs ≡ length ys + suc (length zs) = ap length e ∙ length-append ys (b ∷ zs) in
    omega arith

some_is : {A : Type 0} (a b : A) → Some a ≡ Some b → a ≡ b
some_is a b e = cc

-- where a path comes to

record Stands (blocks : List Block) (s : Spot) : Type 0 where
  block : Block
  before : List Line
  at : slice_get blocks s.block ≡ Some block
  lines : block.lines.items ≡ before ++ s.rest

module _ (f : Function) (causes : List Cause) (done : List Dep) (start : Spot) (starts : Starts causes done f start) where
  start_stands : Stands f.blocks.items start
  start_stands =
      ⊎_elim
      (λ (e : IsEntry f start). subst (Stands f.blocks.items) (sym e.is) (record { block = e.block; before = []; at = e.at; lines = refl }))
      (λ (c : BehindCut causes done f.blocks.items start). record { block = c.block; before = c.before ++ Cut c.cause ∷ []; at = c.at; lines = c.lines ∙ sym (append_assoc c.before (Cut c.cause ∷ []) start.rest) })
      starts

  stands : (path : List Step) (s : Spot) → Path f.blocks.items start path s → Stands f.blocks.items s
  stands path s Here = start_stands
  stands path s (Along p b line rest exit uncut q) =
      let k = stands p (spot b (line ∷ rest) exit) q in
      record { block = k.block; before = k.before ++ line ∷ []; at = k.at; lines = k.lines ∙ sym (append_assoc k.before (line ∷ []) rest) }
  stands path s (Across p b exit c block edge at q) = record { block = block; before = []; at = at; lines = refl }

  -- no read is open where a cut stands directly before
  pub none_open : (tags : Tags) (read : Site) (path : List Step) (s : Spot) (block : Block) (front : List Line) (cut : Line) → Path f.blocks.items start path s → slice_get f.blocks.items s.block ≡ Some block → block.lines.items ≡ front ++ cut ∷ s.rest → IsCut cut → Open tags path read → ⊥
  none_open tags read path s block front cut Here at lines is opened = opened
  none_open tags read path s block front cut (Along p b line rest exit uncut q) at lines is opened =
      let k = stands p (spot b (line ∷ rest) exit) q in
      let one = some_is k.block block (sym k.at ∙ at) in
      let two = sym k.lines ∙ ap (λ (x : Block). x.lines.items) one ∙ lines in
      uncut (subst IsCut (sym (same_last k.before front rest line cut two)) is)
  none_open tags read path s block front cut (Across p b exit c other edge there q) at lines is opened =
      let one = some_is other block (sym there ∙ at) in
      no_more front other.lines.items cut (ap (λ (x : Block). x.lines.items) one ∙ lines)

-- lines that are no cuts

past : (line : Line) (rest : List Line) → (IsCut line → ⊥) → CutsApart rest → CutsApart (line ∷ rest)
past (Cut cause) rest n h = absurd (n tt)
past line rest n h = h

rest_of : (line : Line) (rest : List Line) → CutsApart (line ∷ rest) → CutsApart rest
rest_of (Cut cause) rest h = h.1
rest_of line rest h = h

no_cut : (line : Line) (w : Site) → steps_of line ≡ WriteStep w ∷ [] → IsCut line → ⊥
no_cut (Cut cause) w e is = cc
no_cut line w e is = is

module _ (tags : Tags) (f : Function) (causes : List Cause) (b : ℕ) (exit : Exit) (block : Block) (at : slice_get f.blocks.items b ≡ Some block) where
  -- a cut stands before none of the added ones
  starts_old : (done : List Dep) (old new : List Line) (added : List Dep) (front : List Line) (cut : Line) → CutLines tags f causes b exit done old new added → block.lines.items ≡ front ++ cut ∷ new → IsCut cut → StartsWithCut new → StartsWithCut old
  starts_old done old new added front cut (Empty d) lines is h = h
  starts_old done old new added front cut (Same d line x y more k) lines is h = h
  starts_old done old new added front cut (Added d dep w line x y more step number due k) lines is h =
      absurd (none_open f causes d due.start due.starts tags due.read due.path (spot b (Cut (cause_of dep) ∷ line ∷ y) exit) block front cut due.goes at lines is due.opens)

  further_on : (front : List Line) (line : Line) (rest : List Line) → block.lines.items ≡ front ++ line ∷ rest → block.lines.items ≡ (front ++ line ∷ []) ++ rest
  further_on front line rest e = e ∙ sym (append_assoc front (line ∷ []) rest)

  apart_lines : (done : List Dep) (old new : List Line) (added : List Dep) (front : List Line) → CutLines tags f causes b exit done old new added → block.lines.items ≡ front ++ new → CutsApart old → CutsApart new
  apart_lines done old new added front (Empty d) lines h = h
  apart_lines done old new added front (Same d line x y more k) lines h =
      after line lines h (λ e g. apart_lines d x y more (front ++ line ∷ []) k e g)
    where
      after : (l : Line) → block.lines.items ≡ front ++ l ∷ y → CutsApart (l ∷ x) → (block.lines.items ≡ (front ++ l ∷ []) ++ y → CutsApart x → CutsApart y) → CutsApart (l ∷ y)
      after (Cut cause) e g more_of = ((λ s. g.0 (starts_old d x y more front (Cut cause) k e tt s)), more_of (further_on front (Cut cause) y e) g.1)
      after l e g more_of = past l y (λ i. i) (more_of (further_on front l y e) (rest_of l x g))
  apart_lines done old new added front (Added d dep w line x y more step number due k) lines h =
      let one = further_on front (Cut (cause_of dep)) (line ∷ y) lines in
      let two = further_on (front ++ Cut (cause_of dep) ∷ []) line y one in
      (no_cut line w step, past line y (no_cut line w step) (apart_lines (d ++ dep ∷ []) x y more ((front ++ Cut (cause_of dep) ∷ []) ++ line ∷ []) k two (rest_of line x h)))

-- a block of the new code, and the old one
record Old (tags : Tags) (f : Function) (causes : List Cause) (b : ℕ) (xs : List Block) (k : ℕ) (y : Block) : Type 0 where
  old : Block
  at : slice_get xs k ≡ Some old
  done : List Dep
  own : List Dep
  lines : CutLines tags f causes (b + k) y.exit done old.lines.items y.lines.items own

old_block : (tags : Tags) (f : Function) (causes : List Cause) (b : ℕ) (xs ys : List Block) (added : List Dep) (k : ℕ) (y : Block) → CutBlocks tags f causes b xs ys added → slice_get ys k ≡ Some y → Old tags f causes b xs k y
old_block tags f causes b [] [] added k y h e = cc
old_block tags f causes b (x ∷ xs) [] added k y h e = absurd h
old_block tags f causes b [] (z ∷ ys) added k y h e = absurd h
old_block tags f causes b (x ∷ xs) (z ∷ ys) added zero y h e =
    let one : z ≡ y = some_is z y e in
    let here : b ≡ b + 0 = omega arith in
    record {
      old = x;
      at = refl;
      done = h.0;
      own = h.1;
      lines = subst (λ n. CutLines tags f causes n y.exit h.0 x.lines.items y.lines.items h.1) here (subst (λ (q : Block). CutLines tags f causes b q.exit h.0 x.lines.items q.lines.items h.1) one h.4);
    }
old_block tags f causes b (x ∷ xs) (z ∷ ys) added (suc k) y h e =
    let o = old_block tags f causes (suc b) xs ys h.0 k y h.3 e in
    let here : suc b + k ≡ b + suc k = omega arith in
    record { old = o.old; at = o.at; done = o.done; own = o.own; lines = subst (λ n. CutLines tags f causes n y.exit o.done o.old.lines.items y.lines.items o.own) here o.lines }

pub apart : (tags : Tags) (old new : Function) (added : List Dep) → CutsTo tags old new added → ((b : ℕ) (block : Block) → slice_get old.blocks.items b ≡ Some block → CutsApart block.lines.items) → (b : ℕ) (block : Block) → slice_get new.blocks.items b ≡ Some block → CutsApart block.lines.items
apart tags old new added h before b block at =
    let causes = causes_of_blocks old.blocks.items in
    let o = old_block tags new causes 0 old.blocks.items new.blocks.items added b block h.blocks at in
    let here : 0 + b ≡ b = omega arith in
    let lines = subst (λ n. CutLines tags new causes n block.exit o.done o.old.lines.items block.lines.items o.own) here o.lines in
    apart_lines tags new causes b block.exit block at o.done o.old.lines.items block.lines.items o.own [] lines refl (before b o.old o.at)
