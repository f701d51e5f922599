-- Order, forced cuts, and costs.
use Rattle.std.proofs.Common.{◌≡◌, ℕ, ◌+◌, ◌*◌, List, [], ◌∷◌, ◌++◌, Some, None, sym, ap, subst, length}
use Rattle.std.specs.Prelude.{map, slice_get}
use Rattle.im_block.specs.declared.code.Line.{Line}
use Rattle.im_block.specs.declared.code.Line.TheVariants.{Cut, Call, Serve}
use Rattle.im_block.specs.declared.code.Exit.{Exit}
use Rattle.im_block.specs.declared.code.Exit.TheVariants.{Jump, Turn, Branch, Return}
use Rattle.im_block.specs.declared.code.Block.{Block}
use Rattle.im_block.specs.declared.unit.Function.{Function}
use Rattle.im_block.specs.declared.unit.Unit.{Unit as Code}
use Rattle.im_block.specs.Shape.{Descends, IsOrdered, AllOrdered}
use Rattle.im_block.specs.Paths.{IsCut}
use Rattle.im_block.specs.Forced.{StartsWithCut, EndsWithCut, CutAfterCalls, CutAtTurn, IsForced, AllForced}
use Rattle.im_block.proofs.Unitwise.{zip_old, zip_map}
use Rattle.im_alloc_relation.specs.Homes.{Home, InRegister, InSlot, numbers_kept, give, put_line, needed, put_lines, exit_lines, put_exit}
use Rattle.im_alloc_relation.specs.Placing.{PlacedBlocks, PlacedFunction, IsPlaced}
use Rattle.im_alloc_laws.proofs.Carried.{IsPlain, Carries, carried, carried_load, carried_into}
use Rattle.im_alloc_laws.proofs.Needed.{needed_starts, needed_ends}
use Rattle.im_alloc_laws.proofs.Pieces.{put_app, made}

-- edges

descends : (h : ℕ → Home) (exit : Exit) (b : ℕ) → Descends exit b → Descends (put_exit h exit) b
descends h (Jump c) b d = d
descends h (Turn c) b d = d
descends h (Branch on x y) b d = d
descends h (Return from) b d = tt

blocks_ordered : (h : ℕ → Home) (n : ℕ) (xs ys : List Block) → PlacedBlocks h n xs ys → IsOrdered xs → IsOrdered ys
blocks_ordered h n xs ys p o = record {
  each = λ b y at.
      let m = made h n xs ys b y p at in
      subst (λ e. Descends e b) (sym m.placed.exit) (descends h m.old.exit b (o.each b m.old m.at));
}

pub ordered : (u v : Code) → IsPlaced u v → AllOrdered u → AllOrdered v
ordered u v p o = record {
  each = λ i g at.
      let f = zip_old PlacedFunction u.functions.items v.functions.items i g p.functions at in
      blocks_ordered f.is.home f.is.first_access f.old.blocks.items g.blocks.items f.is.blocks (o.each i f.old f.at);
}

-- what frames may need

pub needs : (u v : Code) → IsPlaced u v → map (λ (f : Function). f.need) v.functions.items ≡ map (λ (f : Function). f.need) u.functions.items
needs u v p = zip_map PlacedFunction (λ (f : Function). f.need) (λ f g k. ap (λ (z : Function). z.need) k.rest) u.functions.items v.functions.items p.functions

-- cuts

ends_append : (xs ys : List Line) → EndsWithCut ys → EndsWithCut (xs ++ ys)
ends_append [] ys h = h
ends_append (x ∷ xs) ys h = ends_more (xs ++ ys) (ends_append xs ys h)
  where
    ends_more : (lines : List Line) → EndsWithCut lines → EndsWithCut (x ∷ lines)
    ends_more [] k = absurd k
    ends_more (next ∷ lines) k = k

last_line : (h : ℕ → Home) (n : ℕ) (line : Line) → IsCut line → EndsWithCut (put_line h n line [])
last_line h n (Cut cause) cut = tt
last_line h n line cut = absurd cut

ends : (h : ℕ → Home) (n : ℕ) (lines : List Line) → EndsWithCut lines → EndsWithCut (put_lines h n lines [])
ends h n [] e = absurd e
ends h n (line ∷ []) e = last_line h n line e
ends h n (line ∷ next ∷ lines) e =
    let rest : List Line = put_lines h (n + numbers_kept) (next ∷ lines) [] in
    subst EndsWithCut (sym (put_app h n line rest)) (ends_append (put_line h n line []) rest (ends h (n + numbers_kept) (next ∷ lines) e))

starts_line : (h : ℕ → Home) (n : ℕ) (line : Line) (rest : List Line) → IsCut line → StartsWithCut (put_line h n line rest)
starts_line h n (Cut cause) rest cut = tt
starts_line h n line rest cut = absurd cut

starts : (h : ℕ → Home) (n : ℕ) (lines tail : List Line) → StartsWithCut lines → StartsWithCut (put_lines h n lines tail)
starts h n [] tail s = absurd s
starts h n (line ∷ lines) tail s = starts_line h n line (put_lines h (n + numbers_kept) lines tail) s

calls_give : (home : Home) (a : ℕ) (rest : List Line) → CutAfterCalls rest → CutAfterCalls (give home a rest)
calls_give (InRegister r) a rest c = c
calls_give (InSlot m) a rest c = c

calls_plain : (line : Line) (rest : List Line) → IsPlain line → CutAfterCalls rest → CutAfterCalls (line ∷ rest)
calls_plain (Cut cause) rest plain c = absurd plain
calls_plain (Call to i first count) rest plain c = absurd plain
calls_plain (Serve to service None) rest plain c = absurd plain
calls_plain (Serve to service (Some from)) rest plain c = absurd plain
calls_plain line rest plain c = c

abbrev Any : Line → Type 0
Any line = Unit {0}

calls_carried : Carries Any CutAfterCalls
calls_carried = record {
  plain = calls_plain;
  call = λ to i first count home a rest fact c. (tt, calls_give home a rest c);
  get = λ service home a rest c. (tt, calls_give home a rest c);
  put = λ service home a rest c. (tt, calls_give home a rest c);
}

calls_line : (h : ℕ → Home) (n : ℕ) (line : Line) (rest : List Line) → CutAfterCalls rest → CutAfterCalls (put_line h n line rest)
calls_line h n (Cut cause) rest c = c
calls_line h n line rest c = carried Any CutAfterCalls calls_carried h n line rest (λ k. k) tt c

calls_lines : (h : ℕ → Home) (n : ℕ) (lines tail : List Line) → CutAfterCalls tail → CutAfterCalls (put_lines h n lines tail)
calls_lines h n [] tail c = c
calls_lines h n (line ∷ lines) tail c =
    calls_line h n line (put_lines h (n + numbers_kept) lines tail) (calls_lines h (n + numbers_kept) lines tail c)

calls_exit : (h : ℕ → Home) (n : ℕ) (exit : Exit) → CutAfterCalls (exit_lines h n exit)
calls_exit h n (Jump b) = tt
calls_exit h n (Turn b) = tt
calls_exit h n (Branch on a b) = carried_load Any CutAfterCalls calls_carried (h on) 7 n [] tt
calls_exit h n (Return None) = tt
calls_exit h n (Return (Some r)) = carried_into Any CutAfterCalls calls_carried (h r) 10 n [] tt

turn : (h : ℕ → Home) (n m : ℕ) (exit : Exit) (lines : List Line) → CutAtTurn exit lines → CutAtTurn (put_exit h exit) (put_lines h n (needed exit lines) (exit_lines h m exit))
turn h n m (Jump b) lines e = tt
turn h n m (Turn b) lines e = ends h n (needed (Turn b) lines) (needed_ends b lines e)
turn h n m (Branch on a b) lines e = tt
turn h n m (Return from) lines e = tt

function_forced : (f g : Function) → PlacedFunction f g → IsForced f → IsForced g
function_forced f g p o = record {
  entry = λ y at.
      let m = made p.home p.first_access f.blocks.items g.blocks.items g.entry y p.blocks at in
      let same : g.entry ≡ f.entry = ap (λ (k : Function). k.entry) p.rest in
      let there : slice_get f.blocks.items f.entry ≡ Some m.old = subst (λ e. slice_get f.blocks.items e ≡ Some m.old) same m.at in
      subst StartsWithCut (sym m.placed.lines) (starts p.home m.number (needed m.old.exit m.old.lines.items) (exit_lines p.home (m.number + numbers_kept * length (needed m.old.exit m.old.lines.items)) m.old.exit) (needed_starts m.old.exit m.old.lines.items (o.entry m.old there)));
  calls = λ b y at.
      let m = made p.home p.first_access f.blocks.items g.blocks.items b y p.blocks at in
      let k : ℕ = m.number + numbers_kept * length (needed m.old.exit m.old.lines.items) in
      subst CutAfterCalls (sym m.placed.lines) (calls_lines p.home m.number (needed m.old.exit m.old.lines.items) (exit_lines p.home k m.old.exit) (calls_exit p.home k m.old.exit));
  turns = λ b y at.
      let m = made p.home p.first_access f.blocks.items g.blocks.items b y p.blocks at in
      let k : ℕ = m.number + numbers_kept * length (needed m.old.exit m.old.lines.items) in
      subst (λ e. CutAtTurn e y.lines.items) (sym m.placed.exit) (subst (CutAtTurn (put_exit p.home m.old.exit)) (sym m.placed.lines) (turn p.home m.number k m.old.exit m.old.lines.items (o.turns b m.old m.at)));
}

pub forced : (u v : Code) → IsPlaced u v → AllForced u → AllForced v
forced u v p o = record {
  each = λ i g at.
      let f = zip_old PlacedFunction u.functions.items v.functions.items i g p.functions at in
      function_forced f.old g f.is (o.each i f.old f.at);
}
