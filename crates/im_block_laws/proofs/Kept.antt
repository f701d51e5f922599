-- What further cuts leave as it was: cuts that must stand, costs, and what is known of the code.
use Rattle.std.proofs.Common.{◌≡◌, ℕ, ◌+◌, ◌<◌, List, [], ◌∷◌, ◌++◌, length, Some, None, refl, sym, ap, ◌∙◌, subst, arith}
use Rattle.std.specs.Prelude.{slice_get, All}
use Rattle.std.proofs.lemmas.List.Elements.{All-nil, All-cons, All-head, All-tail, All-weaker}
use Rattle.im_num.specs.declared.values.Cause.{Cause}
use Rattle.im_block.specs.declared.code.Line.{Line}
use Rattle.im_block.specs.declared.code.Line.TheVariants.{Put, Cut, Call, Serve}
use Rattle.im_block.specs.declared.code.Exit.{Exit}
use Rattle.im_block.specs.declared.code.Exit.TheVariants.{Jump, Turn, Branch, Return}
use Rattle.im_block.specs.declared.code.Block.{Block}
use Rattle.im_block.specs.declared.unit.Function.{Function}
use Rattle.im_block.specs.declared.unit.Unit.{Unit as Code}
use Rattle.im_block.specs.Shape.{sum_of, turns_of, cost, with_cut, exit_cost, exit_words, block_cost, placed_block_cost}
use Rattle.im_block.specs.Paths.{IsCut}
use Rattle.im_block.specs.Forced.{StartsWithCut, EndsWithCut, CutAfterCalls, CutAtTurn, IsForced, AllForced}
use Rattle.im_block.specs.Uncut.{WithCuts, Empty, Same, Added, SameBlock, SameBlocks, SameFunction, SameFunctions, SameButCuts}
use Rattle.im_block.specs.Wellformed.{LineWithin, ExitWithin, ExitThere, LineThere, IsBlock, IsFunction, accesses_of_line, accesses_of_lines, accesses_of_blocks, accesses_of_functions, AreApart, IsWellFormed}
use Rattle.im_block.proofs.Unitwise.{zip_at, zip_old, zip_length, zip_each, zip_sum, takes_kept, numbers_kept}
use Rattle.im_block_laws.specs.Laws.{SameCosts}

-- cuts that must stand still do

starts_kept : (old new : List Line) → WithCuts old new → StartsWithCut old → StartsWithCut new
starts_kept old new Empty h = h
starts_kept old new (Same line a b d) h = h
starts_kept old new (Added cause a b d) h = tt

calls_kept : (old new : List Line) → WithCuts old new → CutAfterCalls old → CutAfterCalls new
calls_kept old new Empty h = tt
calls_kept old new (Same (Call to i first count) a b d) h = (starts_kept a b d h.0, calls_kept a b d h.1)
calls_kept old new (Same (Serve to service None) a b d) h = (starts_kept a b d h.0, calls_kept a b d h.1)
calls_kept old new (Same (Serve to service (Some from)) a b d) h = (starts_kept a b d h.0, calls_kept a b d h.1)
calls_kept old new (Same line a b d) h = calls_kept a b d h
calls_kept old new (Added cause a b d) h = calls_kept old b d h

ends_more : (line : Line) (lines : List Line) → EndsWithCut lines → EndsWithCut (line ∷ lines)
ends_more line [] h = absurd h
ends_more line (next ∷ lines) h = h

only_cuts : (old new : List Line) (line : Line) → WithCuts old new → old ≡ [] → IsCut line → EndsWithCut (line ∷ new)
only_cuts old new line Empty e h = h
only_cuts old new line (Same l a b d) e h = cc
only_cuts old new line (Added cause a b d) e h = only_cuts old b (Cut cause) d e tt

ends_kept : (old new : List Line) → WithCuts old new → EndsWithCut old → EndsWithCut new
ends_kept old new Empty h = h
ends_kept old new (Same line [] b d) h = only_cuts [] b line d refl h
ends_kept old new (Same line (next ∷ a) b d) h = ends_more line b (ends_kept (next ∷ a) b d h)
ends_kept old new (Added cause a b d) h = ends_more (Cut cause) b (ends_kept old b d h)

turn_kept : (exit : Exit) (old new : List Line) → WithCuts old new → CutAtTurn exit old → CutAtTurn exit new
turn_kept (Jump b) old new d h = tt
turn_kept (Turn b) old new d h = ends_kept old new d h
turn_kept (Branch on x y) old new d h = tt
turn_kept (Return from) old new d h = tt

function_forced : (f g : Function) → SameFunction f g → IsForced f → IsForced g
function_forced f g same forced = record {
  entry = λ block at.
      let entry : g.entry ≡ f.entry = ap (λ (k : Function). k.entry) same.rest in
      let o = zip_old SameBlock f.blocks.items g.blocks.items g.entry block same.blocks at in
      starts_kept o.old.lines.items block.lines.items o.is.lines (forced.entry o.old (ap (slice_get f.blocks.items) (sym entry) ∙ o.at));
  calls = λ b block at.
      let o = zip_old SameBlock f.blocks.items g.blocks.items b block same.blocks at in
      calls_kept o.old.lines.items block.lines.items o.is.lines (forced.calls b o.old o.at);
  turns = λ b block at.
      let o = zip_old SameBlock f.blocks.items g.blocks.items b block same.blocks at in
      subst (λ e. CutAtTurn e block.lines.items) (sym o.is.exit) (turn_kept o.old.exit o.old.lines.items block.lines.items o.is.lines (forced.turns b o.old o.at));
}

pub forced_kept : (old new : Code) → SameButCuts old new → AllForced old → AllForced new
forced_kept old new same forced = record {
  each = λ i g at.
      let o = zip_old SameFunction old.functions.items new.functions.items i g same.functions at in
      function_forced o.old g o.is (forced.each i o.old o.at);
}

-- a cut costs nothing: the line before which it stands has paid for it

lines_cost : (f : Line → ℕ) → ((cause : Cause) → f (Cut cause) ≡ 0) → (old new : List Line) → WithCuts old new → sum_of f new ≡ sum_of f old
lines_cost f none old new Empty = refl
lines_cost f none old new (Same line a b d) = ap (λ n. f line + n) (lines_cost f none a b d)
lines_cost f none old new (Added cause a b d) = let h = lines_cost f none old b d in let z = none cause in omega arith

pub costs_kept : (f g : Function) → SameFunction f g → SameCosts f g
costs_kept f g same = record {
  cost = let h = zip_sum SameBlock block_cost (λ x y s.
      let a = lines_cost cost (λ cause. refl) x.lines.items y.lines.items s.lines in
      let b = ap exit_cost s.exit in
      omega arith) f.blocks.items g.blocks.items same.blocks in omega arith;
  placed = let h = zip_sum SameBlock placed_block_cost (λ x y s.
      let a = lines_cost with_cut (λ cause. refl) x.lines.items y.lines.items s.lines in
      let b = ap exit_words s.exit in
      omega arith) f.blocks.items g.blocks.items same.blocks in omega arith;
  edges = zip_sum SameBlock (λ (b : Block). turns_of b.exit) (λ x y s. ap turns_of s.exit) f.blocks.items g.blocks.items same.blocks;
}

-- what is known of the code

lines_all : (P : Line → Type 0) → ((cause : Cause) → P (Cut cause)) → (old new : List Line) → WithCuts old new → All P old → All P new
lines_all P cut old new Empty h = All-nil P
lines_all P cut old new (Same line a b d) h = All-cons P line b (All-head P line a h) (lines_all P cut a b d (All-tail P line a h))
lines_all P cut old new (Added cause a b d) h = All-cons P (Cut cause) b (cut cause) (lines_all P cut old b d h)

parameters_kept : (f g : Function) → SameFunction f g → g.parameters ≡ f.parameters
parameters_kept f g same = ap (λ (k : Function). k.parameters) same.rest

module _ (fs gs : List Function) (all : SameFunctions fs gs) where
  line_there : (line : Line) → LineThere fs line → LineThere gs line
  line_there (Call to i first count) h = takes_kept SameFunction parameters_kept (slice_get fs i) (slice_get gs i) count (zip_at SameFunction fs gs i all) h
  line_there (Put to z) h = tt
  line_there line h = h

  block_kept : (f : Function) (n : ℕ) (x y : Block) → n ≡ length f.blocks.items → SameBlock x y → IsBlock fs f x → (g : Function) → g.register_count ≡ f.register_count → length g.blocks.items ≡ length f.blocks.items → IsBlock gs g y
  block_kept f n x y e same h g registers blocks = record {
    lines_within = subst (λ k. All (LineWithin k) y.lines.items) (sym registers) (lines_all (LineWithin f.register_count) (λ cause. tt) x.lines.items y.lines.items same.lines h.lines_within);
    exit_within = subst (λ k. ExitWithin k y.exit) (sym registers) (subst (ExitWithin f.register_count) (sym same.exit) h.exit_within);
    lines_there = lines_all (LineThere gs) (λ cause. tt) x.lines.items y.lines.items same.lines (All-weaker (LineThere fs) (LineThere gs) line_there x.lines.items h.lines_there);
    exit_there = subst (λ k. ExitThere k y.exit) (sym blocks) (subst (ExitThere (length f.blocks.items)) (sym same.exit) h.exit_there);
  }

  function_kept : (f g : Function) → SameFunction f g → IsFunction fs f → IsFunction gs g
  function_kept f g same h =
      let count = zip_length SameBlock f.blocks.items g.blocks.items same.blocks in
      subst (IsFunction gs) (sym same.rest) (record {
        parameters = h.parameters;
        received = h.received;
        entry = subst (λ n. f.entry < n) (sym count) h.entry;
        objects = h.objects;
        blocks = zip_each SameBlock (IsBlock fs f) (IsBlock gs (record f { blocks = g.blocks })) (λ x y s k. block_kept f (length f.blocks.items) x y refl s k (record f { blocks = g.blocks }) refl count) f.blocks.items g.blocks.items same.blocks h.blocks;
      })

lines_accesses : (old new : List Line) → WithCuts old new → accesses_of_lines new ≡ accesses_of_lines old
lines_accesses old new Empty = refl
lines_accesses old new (Same line a b d) = ap (λ l. accesses_of_line line ++ l) (lines_accesses a b d)
lines_accesses old new (Added cause a b d) = lines_accesses old b d

blocks_accesses : (xs ys : List Block) → SameBlocks xs ys → accesses_of_blocks ys ≡ accesses_of_blocks xs
blocks_accesses [] [] h = refl
blocks_accesses [] (y ∷ ys) h = absurd h
blocks_accesses (x ∷ xs) [] h = absurd h
blocks_accesses (x ∷ xs) (y ∷ ys) h =
    ap (λ l. l ++ accesses_of_blocks ys) (lines_accesses x.lines.items y.lines.items h.0.lines) ∙ ap (λ l. accesses_of_lines x.lines.items ++ l) (blocks_accesses xs ys h.1)

functions_accesses : (fs gs : List Function) → SameFunctions fs gs → accesses_of_functions gs ≡ accesses_of_functions fs
functions_accesses [] [] h = refl
functions_accesses [] (y ∷ ys) h = absurd h
functions_accesses (x ∷ xs) [] h = absurd h
functions_accesses (x ∷ xs) (y ∷ ys) h =
    ap (λ l. l ++ accesses_of_functions ys) (blocks_accesses x.blocks.items y.blocks.items h.0.blocks) ∙ ap (λ l. accesses_of_blocks x.blocks.items ++ l) (functions_accesses xs ys h.1)

with_functions : (u w : Code) → SameFunctions u.functions.items w.functions.items → IsWellFormed u → IsWellFormed (record u { functions = w.functions })
with_functions u w all h = record {
  statics = h.statics;
  functions = zip_each SameFunction (IsFunction u.functions.items) (IsFunction w.functions.items) (function_kept u.functions.items w.functions.items all) u.functions.items w.functions.items all h.functions;
  numbered = numbers_kept SameFunction (λ f g k. ap (λ (z : Function). z.first_object) k.rest) (λ f g k. ap (λ (z : Function). length z.objects.items) k.rest) (length u.statics.items) u.functions.items w.functions.items all h.numbered;
  main = takes_kept SameFunction parameters_kept (slice_get u.functions.items u.main) (slice_get w.functions.items u.main) 0 (zip_at SameFunction u.functions.items w.functions.items u.main all) h.main;
  accesses = subst AreApart (sym (functions_accesses u.functions.items w.functions.items all)) h.accesses;
}

pub well_formed_kept : (old new : Code) → SameButCuts old new → IsWellFormed old → IsWellFormed new
well_formed_kept old new same h = subst IsWellFormed (sym same.rest) (with_functions old new same.functions h)
