-- What forwarding leaves of code: its order, what it costs, that no cut stands in it, and what its lines name.
use Rattle.std.proofs.Common.{◌≡◌, ℕ, ◌<◌, ◌≤◌, List, [], ◌∷◌, ◌++◌, length, Some, None, refl, sym, ap, ◌∙◌, subst, arith}
use Rattle.std.specs.Prelude.{slice_get, All, Bool}
use Rattle.std.specs.List.{AllZip}
use Rattle.std.proofs.lemmas.List.Elements.{All-nil, All-cons, All-head, All-tail}
use Rattle.im_block.specs.declared.code.Place.{Place}
use Rattle.im_block.specs.declared.code.Place.TheVariants.{Static, Local, Through}
use Rattle.im_block.specs.declared.code.Line.{Line}
use Rattle.im_block.specs.declared.code.Line.TheVariants.{Put, PutNull, Copy, Convert, Unary, Not, Compute, Compare, Move, Distance, Address, Read, Write, Reload, Spill, Cut, Call, Serve}
use Rattle.im_block.specs.declared.code.Exit.{Exit}
use Rattle.im_block.specs.declared.code.Exit.TheVariants.{Jump, Turn, Branch, Return}
use Rattle.im_block.specs.declared.code.Block.{Block}
use Rattle.im_block.specs.declared.unit.Function.{Function}
use Rattle.im_block.specs.declared.unit.Unit.{Unit as Code}
use Rattle.im_block.specs.Shape.{Descends, AllOrdered, sum_of, place_registers, cost, exit_cost, block_cost, function_cost}
use Rattle.im_block.specs.Wellformed.{HasCells, PlaceWithin, LineWithin, ExitWithin, ExitThere, LineThere, IsBlock, IsFunction, accesses_of_line, accesses_of_lines, accesses_of_blocks, accesses_of_functions, AreApart, IsWellFormed}
use Rattle.im_block.specs.Unitwise.{EachFunction}
use Rattle.im_block.proofs.Unitwise.{zip_at, zip_old, zip_length, zip_each, zip_less, takes_kept, numbers_kept}
use Rattle.im_alloc_placed.specs.Apart.{IsNoCut, AllUncut}
use Rattle.im_alloc_placed.specs.Placeable.{first_free}
use Rattle.im_forward.specs.Copies.{IsCopy, Copied, Further, Since, IsSame, Itself, CopyOf}
use Rattle.im_forward.specs.Straight.{setting}
use Rattle.im_forward.specs.Forward.{place_using, line_using, exit_using, ForwardsExit, ForwardsLines, Ends, Kept, LeftOut, Straight, ForwardsBlock, ForwardsOnce}
use Rattle.im_forward.proofs.Setting.{cost_setting, uncut_setting, within_setting, there_setting, accesses_setting, within_passing, accesses_passing}

-- the exit, by the lines before it
pub record Leaving (free : ℕ) (a b : Exit) : Type 0 where
  pub behind : List Line
  pub exit : ForwardsExit free behind a b

pub leaving : (free : ℕ) (live : ℕ → ℕ → Bool) (a b : Exit) (before old new : List Line) → ForwardsLines free live a b before old new → Leaving free a b
leaving free live a b before old new (Ends gone e) = record { behind = gone; exit = e }
leaving free live a b before old new (Kept gone rest rest' x y k left) = leaving free live a b (x ∷ gone) rest rest' left
leaving free live a b before old new (LeftOut gone rest rest' to from dead left) = leaving free live a b (Copy to from ∷ gone) rest rest' left
leaving free live a b before old new (Straight gone rest rest' x y t v p left) = leaving free live a b (y ∷ x ∷ gone) rest rest' left

-- ---- costs

place_cost : (instead : ℕ → ℕ) (place : Place) → place_registers (place_using instead place) ≡ place_registers place
place_cost instead (Static object offset) = refl
place_cost instead (Local object offset) = refl
place_cost instead (Through pointer offset) = refl

line_cost : (instead : ℕ → ℕ) (line : Line) → cost (line_using instead line) ≡ cost line
line_cost instead (Put to z) = refl
line_cost instead (PutNull to) = refl
line_cost instead (Copy to from) = refl
line_cost instead (Convert to kind from) = refl
line_cost instead (Unary to op kind from) = refl
line_cost instead (Not to from) = refl
line_cost instead (Compute to op kind left right) = refl
line_cost instead (Compare to op kind left right) = refl
line_cost instead (Move to size back pointer by) = refl
line_cost instead (Distance to size left right) = refl
line_cost instead (Address to place) = let e = place_cost instead place in omega (arith, e)
line_cost instead (Read to place kind access) = let e = place_cost instead place in omega (arith, e)
line_cost instead (Write place kind from access) = let e = place_cost instead place in omega (arith, e)
line_cost instead (Reload to slot access) = refl
line_cost instead (Spill slot from access) = refl
line_cost instead (Cut cause) = refl
line_cost instead (Call to i first count) = refl
line_cost instead (Serve to service None) = refl
line_cost instead (Serve to service (Some from)) = refl

exit_same : (instead : ℕ → ℕ) (exit : Exit) → exit_cost (exit_using instead exit) ≡ exit_cost exit
exit_same instead (Jump b) = refl
exit_same instead (Turn b) = refl
exit_same instead (Branch on a b) = refl
exit_same instead (Return None) = refl
exit_same instead (Return (Some r)) = refl

lines_cost : (free : ℕ) (live : ℕ → ℕ → Bool) (a b : Exit) (before old new : List Line) → ForwardsLines free live a b before old new → sum_of cost new ≤ sum_of cost old
lines_cost free live a b before old new (Ends gone e) = omega arith
lines_cost free live a b before old new (Kept gone rest rest' x y k left) =
    let less = lines_cost free live a b (x ∷ gone) rest rest' left in
    let same : cost y ≡ cost x = ap cost k.line ∙ line_cost k.instead x in
    omega (arith, less, same)
lines_cost free live a b before old new (LeftOut gone rest rest' to from dead left) =
    let less = lines_cost free live a b (Copy to from ∷ gone) rest rest' left in
    omega (arith, less)
lines_cost free live a b before old new (Straight gone rest rest' x y t v p left) =
    let less = lines_cost free live a b (y ∷ x ∷ gone) rest rest' left in
    let same : cost (setting v x) ≡ cost x = cost_setting v x in
    omega (arith, less, same)

block_less : (free : ℕ) (live : ℕ → ℕ → Bool) (x y : Block) → ForwardsBlock free live x y → block_cost y ≤ block_cost x
block_less free live x y h =
    let lines = lines_cost free live x.exit y.exit [] x.lines.items y.lines.items h.lines in
    let e = (leaving free live x.exit y.exit [] x.lines.items y.lines.items h.lines).exit in
    let exit : exit_cost y.exit ≡ exit_cost x.exit = ap exit_cost e.exit ∙ exit_same e.instead x.exit in
    omega (arith, lines, exit)

pub costs_once : (old new : Function) → ForwardsOnce old new → function_cost new ≤ function_cost old
costs_once old new p = let a = zip_less (ForwardsBlock (first_free old) p.live) block_cost (block_less (first_free old) p.live) old.blocks.items new.blocks.items p.blocks in omega (arith, a)

-- ---- order

descends : (instead : ℕ → ℕ) (exit : Exit) (b : ℕ) → Descends exit b → Descends (exit_using instead exit) b
descends instead (Jump c) b h = h
descends instead (Turn c) b h = h
descends instead (Branch on x y) b h = h
descends instead (Return None) b h = h
descends instead (Return (Some r)) b h = h

pub ordered_kept : (old new : Code) → EachFunction ForwardsOnce old new → AllOrdered old → AllOrdered new
ordered_kept old new all ordered = record {
  each = λ i g at.
      let f = zip_old ForwardsOnce old.functions.items new.functions.items i g all.functions at in
      record {
        each = λ b y there.
            let x = zip_old (ForwardsBlock (first_free f.old) f.is.live) f.old.blocks.items g.blocks.items b y f.is.blocks there in
            let e = (leaving (first_free f.old) f.is.live x.old.exit y.exit [] x.old.lines.items y.lines.items x.is.lines).exit in
            subst (λ z. Descends z b) (sym e.exit) (descends e.instead x.old.exit b ((ordered.each i f.old f.at).each b x.old x.at));
      };
}

-- ---- no cuts

line_uncut : (instead : ℕ → ℕ) (line : Line) → IsNoCut line → IsNoCut (line_using instead line)
line_uncut instead (Put to z) h e = h e
line_uncut instead (PutNull to) h e = h e
line_uncut instead (Copy to from) h e = h e
line_uncut instead (Convert to kind from) h e = h e
line_uncut instead (Unary to op kind from) h e = h e
line_uncut instead (Not to from) h e = h e
line_uncut instead (Compute to op kind left right) h e = h e
line_uncut instead (Compare to op kind left right) h e = h e
line_uncut instead (Move to size back pointer by) h e = h e
line_uncut instead (Distance to size left right) h e = h e
line_uncut instead (Address to place) h e = h e
line_uncut instead (Read to place kind access) h e = h e
line_uncut instead (Write place kind from access) h e = h e
line_uncut instead (Reload to slot access) h e = h e
line_uncut instead (Spill slot from access) h e = h e
line_uncut instead (Cut cause) h e = h e
line_uncut instead (Call to i first count) h e = h e
line_uncut instead (Serve to service None) h e = h e
line_uncut instead (Serve to service (Some from)) h e = h e

lines_uncut : (free : ℕ) (live : ℕ → ℕ → Bool) (a b : Exit) (before old new : List Line) → ForwardsLines free live a b before old new → All IsNoCut old → All IsNoCut new
lines_uncut free live a b before old new (Ends gone e) h = All-nil IsNoCut
lines_uncut free live a b before old new (Kept gone rest rest' x y k left) h =
    All-cons IsNoCut y rest' (subst IsNoCut (sym k.line) (line_uncut k.instead x (All-head IsNoCut x rest h)))
    (lines_uncut free live a b (x ∷ gone) rest rest' left (All-tail IsNoCut x rest h))
lines_uncut free live a b before old new (LeftOut gone rest rest' to from dead left) h =
    lines_uncut free live a b (Copy to from ∷ gone) rest rest' left (All-tail IsNoCut (Copy to from) rest h)
lines_uncut free live a b before old new (Straight gone rest rest' x y t v p left) h =
    All-cons IsNoCut (setting v x) rest' (uncut_setting v x (All-head IsNoCut x (y ∷ rest) h))
    (lines_uncut free live a b (y ∷ x ∷ gone) rest rest' left (All-tail IsNoCut y rest (All-tail IsNoCut x (y ∷ rest) h)))

pub uncut_kept : (old new : Code) → EachFunction ForwardsOnce old new → AllUncut old → AllUncut new
uncut_kept old new p h = record {
  each = λ i g b y at there.
      let f = zip_old ForwardsOnce old.functions.items new.functions.items i g p.functions at in
      let x = zip_old (ForwardsBlock (first_free f.old) f.is.live) f.old.blocks.items g.blocks.items b y f.is.blocks there in
      lines_uncut (first_free f.old) f.is.live x.old.exit y.exit [] x.old.lines.items y.lines.items x.is.lines (h.each i f.old b x.old f.at x.at);
}

-- ---- what lines name

copy_within : (n : ℕ) (before : List Line) (a b : ℕ) → IsCopy before a b → All (LineWithin n) before → b < n
copy_within n before a b (Copied above to from ne) h = (All-head (LineWithin n) (Copy to from) above h).1
copy_within n before a b (Further above to from source ne nf r) h = copy_within n above from source r (All-tail (LineWithin n) (Copy to from) above h)
copy_within n before a b (Since line above to from p q r) h = copy_within n above to from r (All-tail (LineWithin n) line above h)

same_within : (n : ℕ) (before : List Line) (v w : ℕ) → IsSame before v w → All (LineWithin n) before → v < n → w < n
same_within n before v w (Itself behind u) h lt = lt
same_within n before v w (CopyOf behind u k t p q) h lt = same_within n behind k t q h (copy_within n behind u k p h)

abbrev KeepsWithin : ℕ → (ℕ → ℕ) → Type 0
KeepsWithin n instead = (v : ℕ) → v < n → instead v < n

place_within : (n : ℕ) (instead : ℕ → ℕ) → KeepsWithin n instead → (place : Place) → PlaceWithin n place → PlaceWithin n (place_using instead place)
place_within n instead k (Static object offset) w = tt
place_within n instead k (Local object offset) w = tt
place_within n instead k (Through pointer offset) w = k pointer w

line_within : (n : ℕ) (instead : ℕ → ℕ) → KeepsWithin n instead → (line : Line) → LineWithin n line → LineWithin n (line_using instead line)
line_within n instead k (Put to z) w = w
line_within n instead k (PutNull to) w = w
line_within n instead k (Copy to from) w = (w.0, k from w.1)
line_within n instead k (Convert to kind from) w = (w.0, k from w.1)
line_within n instead k (Unary to op kind from) w = (w.0, k from w.1)
line_within n instead k (Not to from) w = (w.0, k from w.1)
line_within n instead k (Compute to op kind left right) w = (w.0, k left w.1, k right w.2)
line_within n instead k (Compare to op kind left right) w = (w.0, k left w.1, k right w.2)
line_within n instead k (Move to size back pointer by) w = (w.0, k pointer w.1, k by w.2)
line_within n instead k (Distance to size left right) w = (w.0, k left w.1, k right w.2)
line_within n instead k (Address to place) w = (w.0, place_within n instead k place w.1)
line_within n instead k (Read to place kind access) w = (w.0, place_within n instead k place w.1)
line_within n instead k (Write place kind from access) w = (place_within n instead k place w.0, k from w.1)
line_within n instead k (Reload to slot access) w = w
line_within n instead k (Spill slot from access) w = k from w
line_within n instead k (Cut cause) w = w
line_within n instead k (Call to i first count) w = w
line_within n instead k (Serve to service None) w = w
line_within n instead k (Serve to service (Some from)) w = (w.0, k from w.1)

exit_within : (n : ℕ) (instead : ℕ → ℕ) → KeepsWithin n instead → (exit : Exit) → ExitWithin n exit → ExitWithin n (exit_using instead exit)
exit_within n instead k (Jump b) w = w
exit_within n instead k (Turn b) w = w
exit_within n instead k (Branch on a b) w = k on w
exit_within n instead k (Return None) w = w
exit_within n instead k (Return (Some r)) w = k r w

pub exit_there : (n : ℕ) (instead : ℕ → ℕ) (exit : Exit) → ExitThere n exit → ExitThere n (exit_using instead exit)
exit_there n instead (Jump b) w = w
exit_there n instead (Turn b) w = w
exit_there n instead (Branch on a b) w = w
exit_there n instead (Return None) w = w
exit_there n instead (Return (Some r)) w = w

line_there : (fs : List Function) (instead : ℕ → ℕ) (line : Line) → LineThere fs line → LineThere fs (line_using instead line)
line_there fs instead (Put to z) h = h
line_there fs instead (PutNull to) h = h
line_there fs instead (Copy to from) h = h
line_there fs instead (Convert to kind from) h = h
line_there fs instead (Unary to op kind from) h = h
line_there fs instead (Not to from) h = h
line_there fs instead (Compute to op kind left right) h = h
line_there fs instead (Compare to op kind left right) h = h
line_there fs instead (Move to size back pointer by) h = h
line_there fs instead (Distance to size left right) h = h
line_there fs instead (Address to place) h = h
line_there fs instead (Read to place kind access) h = h
line_there fs instead (Write place kind from access) h = h
line_there fs instead (Reload to slot access) h = h
line_there fs instead (Spill slot from access) h = h
line_there fs instead (Cut cause) h = h
line_there fs instead (Call to i first count) h = h
line_there fs instead (Serve to service None) h = h
line_there fs instead (Serve to service (Some from)) h = h

line_accesses : (instead : ℕ → ℕ) (line : Line) → accesses_of_line (line_using instead line) ≡ accesses_of_line line
line_accesses instead (Put to z) = refl
line_accesses instead (PutNull to) = refl
line_accesses instead (Copy to from) = refl
line_accesses instead (Convert to kind from) = refl
line_accesses instead (Unary to op kind from) = refl
line_accesses instead (Not to from) = refl
line_accesses instead (Compute to op kind left right) = refl
line_accesses instead (Compare to op kind left right) = refl
line_accesses instead (Move to size back pointer by) = refl
line_accesses instead (Distance to size left right) = refl
line_accesses instead (Address to place) = refl
line_accesses instead (Read to place kind access) = refl
line_accesses instead (Write place kind from access) = refl
line_accesses instead (Reload to slot access) = refl
line_accesses instead (Spill slot from access) = refl
line_accesses instead (Cut cause) = refl
line_accesses instead (Call to i first count) = refl
line_accesses instead (Serve to service None) = refl
line_accesses instead (Serve to service (Some from)) = refl

-- lines, and the exit behind them

pub lines_within : (n free : ℕ) (live : ℕ → ℕ → Bool) (a b : Exit) (before old new : List Line) → ForwardsLines free live a b before old new → All (LineWithin n) before → All (LineWithin n) old → ExitWithin n a → All (LineWithin n) new × ExitWithin n b
lines_within n free live a b before old new (Ends gone e) h w x = (
  All-nil (LineWithin n),
  subst (ExitWithin n) (sym e.exit) (exit_within n e.instead (λ v lt. same_within n gone v (e.instead v) (e.may.same v) h lt) a x),
)
lines_within n free live a b before old new (Kept gone rest rest' x y k left) h w e =
    let here = All-head (LineWithin n) x rest w in
    let more = lines_within n free live a b (x ∷ gone) rest rest' left (All-cons (LineWithin n) x gone here h) (All-tail (LineWithin n) x rest w) e in (
      All-cons (LineWithin n) y rest' (subst (LineWithin n) (sym k.line) (line_within n k.instead (λ v lt. same_within n gone v (k.instead v) (k.may.same v) h lt) x here)) more.0,
      more.1,
    )
lines_within n free live a b before old new (LeftOut gone rest rest' to from dead left) h w e =
    lines_within n free live a b (Copy to from ∷ gone) rest rest' left (All-cons (LineWithin n) (Copy to from) gone (All-head (LineWithin n) (Copy to from) rest w) h) (All-tail (LineWithin n) (Copy to from) rest w) e
lines_within n free live a b before old new (Straight gone rest rest' x y t v p left) h w e =
    let here = All-head (LineWithin n) x (y ∷ rest) w in
    let behind = All-tail (LineWithin n) x (y ∷ rest) w in
    let next = All-head (LineWithin n) y rest behind in
    let more = lines_within n free live a b (y ∷ x ∷ gone) rest rest' left (All-cons (LineWithin n) y (x ∷ gone) next (All-cons (LineWithin n) x gone here h)) (All-tail (LineWithin n) y rest behind) e in
    (All-cons (LineWithin n) (setting v x) rest' (within_setting n v (within_passing x t v n y p.passes next) x here) more.0, more.1)

lines_there : (fs : List Function) (free : ℕ) (live : ℕ → ℕ → Bool) (a b : Exit) (before old new : List Line) → ForwardsLines free live a b before old new → All (LineThere fs) old → All (LineThere fs) new
lines_there fs free live a b before old new (Ends gone e) h = All-nil (LineThere fs)
lines_there fs free live a b before old new (Kept gone rest rest' x y k left) h =
    All-cons (LineThere fs) y rest' (subst (LineThere fs) (sym k.line) (line_there fs k.instead x (All-head (LineThere fs) x rest h)))
    (lines_there fs free live a b (x ∷ gone) rest rest' left (All-tail (LineThere fs) x rest h))
lines_there fs free live a b before old new (LeftOut gone rest rest' to from dead left) h =
    lines_there fs free live a b (Copy to from ∷ gone) rest rest' left (All-tail (LineThere fs) (Copy to from) rest h)
lines_there fs free live a b before old new (Straight gone rest rest' x y t v p left) h =
    All-cons (LineThere fs) (setting v x) rest' (there_setting fs v x (All-head (LineThere fs) x (y ∷ rest) h))
    (lines_there fs free live a b (y ∷ x ∷ gone) rest rest' left (All-tail (LineThere fs) y rest (All-tail (LineThere fs) x (y ∷ rest) h)))

lines_accesses : (free : ℕ) (live : ℕ → ℕ → Bool) (a b : Exit) (before old new : List Line) → ForwardsLines free live a b before old new → accesses_of_lines new ≡ accesses_of_lines old
lines_accesses free live a b before old new (Ends gone e) = refl
lines_accesses free live a b before old new (Kept gone rest rest' x y k left) =
    ap (λ (l : List ℕ). l ++ accesses_of_lines rest') (ap accesses_of_line k.line ∙ line_accesses k.instead x)
    ∙ ap (λ (l : List ℕ). accesses_of_line x ++ l) (lines_accesses free live a b (x ∷ gone) rest rest' left)
lines_accesses free live a b before old new (LeftOut gone rest rest' to from dead left) = lines_accesses free live a b (Copy to from ∷ gone) rest rest' left
lines_accesses free live a b before old new (Straight gone rest rest' x y t v p left) =
    ap (λ (l : List ℕ). l ++ accesses_of_lines rest') (accesses_setting v x)
    ∙ ap (λ (l : List ℕ). accesses_of_line x ++ l) (lines_accesses free live a b (y ∷ x ∷ gone) rest rest' left
    ∙ ap (λ (l : List ℕ). l ++ accesses_of_lines rest) (sym (accesses_passing x t v y p.passes)))

blocks_accesses : (free : ℕ) (live : ℕ → ℕ → Bool) (xs ys : List Block) → AllZip (ForwardsBlock free live) xs ys → accesses_of_blocks ys ≡ accesses_of_blocks xs
blocks_accesses free live [] [] h = refl
blocks_accesses free live [] (y ∷ ys) h = absurd h
blocks_accesses free live (x ∷ xs) [] h = absurd h
blocks_accesses free live (x ∷ xs) (y ∷ ys) h =
    ap (λ (l : List ℕ). l ++ accesses_of_blocks ys) (lines_accesses free live x.exit y.exit [] x.lines.items y.lines.items h.0.lines)
    ∙ ap (λ (l : List ℕ). accesses_of_lines x.lines.items ++ l) (blocks_accesses free live xs ys h.1)

functions_accesses : (fs gs : List Function) → AllZip ForwardsOnce fs gs → accesses_of_functions gs ≡ accesses_of_functions fs
functions_accesses [] [] h = refl
functions_accesses [] (g ∷ gs) h = absurd h
functions_accesses (f ∷ fs) [] h = absurd h
functions_accesses (f ∷ fs) (g ∷ gs) h =
    ap (λ (l : List ℕ). l ++ accesses_of_functions gs) (blocks_accesses (first_free f) h.0.live f.blocks.items g.blocks.items h.0.blocks)
    ∙ ap (λ (l : List ℕ). accesses_of_blocks f.blocks.items ++ l) (functions_accesses fs gs h.1)

-- functions

parameters_kept : (f g : Function) → ForwardsOnce f g → g.parameters ≡ f.parameters
parameters_kept f g p = ap (λ (k : Function). k.parameters) p.rest

module _ (fs gs : List Function) (all : AllZip ForwardsOnce fs gs) where
  called : (line : Line) → LineThere fs line → LineThere gs line
  called (Put to z) h = h
  called (PutNull to) h = h
  called (Copy to from) h = h
  called (Convert to kind from) h = h
  called (Unary to op kind from) h = h
  called (Not to from) h = h
  called (Compute to op kind left right) h = h
  called (Compare to op kind left right) h = h
  called (Move to size back pointer by) h = h
  called (Distance to size left right) h = h
  called (Address to place) h = h
  called (Read to place kind access) h = h
  called (Write place kind from access) h = h
  called (Reload to slot access) h = h
  called (Spill slot from access) h = h
  called (Cut cause) h = h
  called (Call to i first count) h = takes_kept ForwardsOnce parameters_kept (slice_get fs i) (slice_get gs i) count (zip_at ForwardsOnce fs gs i all) h
  called (Serve to service None) h = h
  called (Serve to service (Some from)) h = h

  all_called : (lines : List Line) → All (LineThere fs) lines → All (LineThere gs) lines
  all_called [] h = All-nil (LineThere gs)
  all_called (line ∷ lines) h = All-cons (LineThere gs) line lines (called line (All-head (LineThere fs) line lines h)) (all_called lines (All-tail (LineThere fs) line lines h))

  module _ (f g : Function) (p : ForwardsOnce f g) where
    count : length g.blocks.items ≡ length f.blocks.items
    count = zip_length (ForwardsBlock (first_free f) p.live) f.blocks.items g.blocks.items p.blocks

    registers : g.register_count ≡ f.register_count
    registers = ap (λ (k : Function). k.register_count) p.rest

    block_formed : (x y : Block) → ForwardsBlock (first_free f) p.live x y → IsBlock fs f x → IsBlock gs g y
    block_formed x y h k =
        let within = lines_within f.register_count (first_free f) p.live x.exit y.exit [] x.lines.items y.lines.items h.lines (All-nil (LineWithin f.register_count)) k.lines_within k.exit_within in
        let e = (leaving (first_free f) p.live x.exit y.exit [] x.lines.items y.lines.items h.lines).exit in
        record {
          lines_within = subst (λ n. All (LineWithin n) y.lines.items) (sym registers) within.0;
          exit_within = subst (λ n. ExitWithin n y.exit) (sym registers) within.1;
          lines_there = lines_there gs (first_free f) p.live x.exit y.exit [] x.lines.items y.lines.items h.lines (all_called x.lines.items k.lines_there);
          exit_there = subst (λ n. ExitThere n y.exit) (sym count) (subst (ExitThere (length f.blocks.items)) (sym e.exit) (exit_there (length f.blocks.items) e.instead x.exit k.exit_there));
        }

    function_formed : IsFunction fs f → IsFunction gs g
    function_formed k =
        let parameters : g.parameters ≡ f.parameters = ap (λ (z : Function). z.parameters) p.rest in
        let first : g.first_parameter ≡ f.first_parameter = ap (λ (z : Function). z.first_parameter) p.rest in
        let entry : g.entry ≡ f.entry = ap (λ (z : Function). z.entry) p.rest in
        let same = count in
        let many = registers in
        let eight = k.parameters in
        let received = k.received in
        let begins = k.entry in
        record {
          parameters = omega (arith, eight, parameters);
          received = omega (arith, received, many, parameters, first);
          entry = omega (arith, begins, same, entry);
          objects = subst (λ (z : Function). All HasCells z.objects.items) (sym p.rest) k.objects;
          blocks = zip_each (ForwardsBlock (first_free f) p.live) (IsBlock fs f) (IsBlock gs g) block_formed f.blocks.items g.blocks.items p.blocks k.blocks;
        }

pub formed : (old new : Code) → EachFunction ForwardsOnce old new → IsWellFormed old → IsWellFormed new
formed old new p h =
    let fs = old.functions.items in
    let gs = new.functions.items in
    subst IsWellFormed (sym p.rest) (record {
      statics = h.statics;
      functions = zip_each ForwardsOnce (IsFunction fs) (IsFunction gs) (function_formed fs gs p.functions) fs gs p.functions h.functions;
      numbered = numbers_kept ForwardsOnce (λ f g k. ap (λ (z : Function). z.first_object) k.rest) (λ f g k. ap (λ (z : Function). length z.objects.items) k.rest) (length old.statics.items) fs gs p.functions h.numbered;
      main = takes_kept ForwardsOnce parameters_kept (slice_get fs old.main) (slice_get gs old.main) 0 (zip_at ForwardsOnce fs gs old.main p.functions) h.main;
      accesses = subst AreApart (sym (functions_accesses fs gs p.functions)) h.accesses;
    })
