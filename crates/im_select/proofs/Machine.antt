-- Placed code names registers of the machine; the words of a block's points give the entries of its cuts.
use Rattle.std.proofs.Common.{◌≡◌, ℕ, suc, ◌+◌, ◌<◌, ◌≤◌, Bool, List, [], ◌∷◌, ◌++◌, Option, Some, None, length, get_or, drop, refl, sym, ap, ◌∙◌, subst, arith}
use Rattle.std.specs.Prelude.{◌==◌, ◌&&◌, ◌||◌, not, is_some, if◌then◌else◌, slice_get, slice_index, All}
use Rattle.std.proofs.lemmas.Option.{slice_get_within, get_or_from_slice_get}
use Rattle.std.proofs.lemmas.List.Elements.{All-head, All-tail}
use Rattle.im_num.specs.Kinds.{word}
use Rattle.im_store.specs.Objects.{Name}
use Rattle.im_block.specs.declared.code.Place.{Place}
use Rattle.im_block.specs.declared.code.Place.TheVariants.{Static, Local, Through}
use Rattle.im_block.specs.declared.code.Line.{Line}
use Rattle.im_block.specs.declared.code.Line.TheVariants.{Put, PutNull, Copy, Convert, Unary, Not, Compute, Compare, Move, Distance, Address, Read, Write, Reload, Spill, Cut, Call, Serve}
use Rattle.im_block.specs.declared.code.Exit.{Exit}
use Rattle.im_block.specs.declared.code.Exit.TheVariants.{Jump, Turn, Branch, Return}
use Rattle.im_block.specs.declared.code.Block.{Block}
use Rattle.im_block.specs.declared.unit.Function.{Function}
use Rattle.im_block.specs.Wellformed.{ExitThere}
use Rattle.im_alloc_placed.specs.Operands.{PlaceAtHome}
use Rattle.im_alloc_placed.specs.Placed.{IsPlacedLine, IsPlacedExit, IsPlacedBlock}
use Rattle.im_alloc_relation.specs.Live.{place_uses}
use Rattle.im_live.specs.Reads.{lives_before}
use Rattle.im_live.specs.Words.{has, PlaceBelow, IsMachineLine, IsMachineExit, IsMachineBlock, ArePoints, entry_at}
use Rattle.im_live.specs.Entries.{entry_in, entries}
use Rattle.im_live.proofs.Least.{greatest_same}
use Rattle.im_select.specs.Given.{Given}
use Rattle.im_select.specs.declared.folding.Constant.{Constant}
use Rattle.im_select.specs.Emitted.{constant_line, comparison_line, is_taken, passed_by, way_code, lines_code, behind_each, behind_at}
use Rattle.im_select.specs.Selects.{IsClosedBlock}

place_machine : (place : Place) → PlaceAtHome place → PlaceBelow place
place_machine (Static object offset) h = tt
place_machine (Local object offset) h = tt
place_machine (Through pointer offset) h = h.1

pub line_machine : (statics : ℕ) (f : Function) (line : Line) → IsPlacedLine statics f line → IsMachineLine line
line_machine statics f (Put to z) h = h.1
line_machine statics f (PutNull to) h = h.1
line_machine statics f (Copy to from) h = (h.0.1, h.1.1)
line_machine statics f (Convert to kind from) h = (h.0.1, h.1.1)
line_machine statics f (Unary to op kind from) h = (h.0.1, h.1.1)
line_machine statics f (Not to from) h = (h.0.1, h.1.1)
line_machine statics f (Compute to op kind left right) h = (h.0.1, h.1.1, h.2.1)
line_machine statics f (Compare to op kind left right) h = (h.0.1, h.1.1, h.2.1)
line_machine statics f (Move to size back pointer by) h = (h.0.1, h.1.1, h.2.1)
line_machine statics f (Distance to size left right) h = (h.0.1, h.1.1, h.2.1)
line_machine statics f (Address to place) h = (h.0.1, place_machine place h.1)
line_machine statics f (Read to place kind access) h = (h.0.1, place_machine place h.1)
line_machine statics f (Write place kind from access) h = (h.0.1, place_machine place h.1)
line_machine statics f (Reload to slot access) h = h.0.1
line_machine statics f (Spill slot from access) h = h.0.1
line_machine statics f (Cut cause) h = tt
line_machine statics f (Call to i first count) h = let a = h.1 in let b = h.2 in omega arith
line_machine statics f (Serve to service None) h = tt
line_machine statics f (Serve to service (Some from)) h = let a = h.1 in omega arith

exit_machine : (count : ℕ) (exit : Exit) → IsPlacedExit exit → ExitThere count exit → IsMachineExit count exit
exit_machine count (Jump b) h t = t
exit_machine count (Turn b) h t = t
exit_machine count (Branch on a b) h t = (h.1, t.0, t.1)
exit_machine count (Return None) h t = tt
exit_machine count (Return (Some r)) h t = let a : r ≡ 10 = h in omega arith

pub all_at : {X : Type 0} (P : X → Type 0) (xs : List X) (k : ℕ) (x : X) → All P xs → slice_get xs k ≡ Some x → P x
all_at P xs k x h e = subst P (get_or_from_slice_get xs k x x e) (h k x (slice_get_within xs k x e))

pub all_to : {X : Type 0} (P Q : X → Type 0) (xs : List X) → ((x : X) → P x → Q x) → All P xs → All Q xs
all_to P Q xs k a = λ i d lt. k (get_or xs i d) (a i d lt)

pub block_machine : (statics count : ℕ) (f : Function) (block : Block) → IsPlacedBlock statics f block → ExitThere count block.exit → IsMachineBlock count block
block_machine statics count f block p t = record { lines = all_to (IsPlacedLine statics f) IsMachineLine block.lines.items (line_machine statics f) p.lines; exit = exit_machine count block.exit p.exit t }

pub blocks_machine : (given : Given) → All (IsPlacedBlock (length given.statics) given.function) given.function.blocks.items → All (IsClosedBlock given) given.function.blocks.items → All (IsMachineBlock (length given.function.blocks.items)) given.function.blocks.items
blocks_machine given p c = λ i d lt. block_machine (length given.statics) (length given.function.blocks.items) given.function (get_or given.function.blocks.items i d) (p i d lt) ((c i d lt).edges)

-- ---- entries

pub entry_is : (live : ℕ → ℕ → Bool) (blocks : List Block) (b : ℕ) (block : Block) (points : List ℕ) (j : ℕ) → slice_get blocks b ≡ Some block → ArePoints live block.lines.items block.exit points → j < length block.lines.items → entry_at points j ≡ entries live blocks b j
entry_is live blocks b block points j there p lt =
    let k : j + 1 ≡ suc j = omega arith in
    greatest_same (has (slice_index points (j + 1))) (lives_before live (drop (suc j) block.lines.items) block.exit) 27 (omega arith)
    (λ r small. p.each (j + 1) r (omega arith) small ∙ ap (λ z. lives_before live (drop z block.lines.items) block.exit r) k)
    ∙ sym (ap (λ o. entry_in live o j) there)

-- as words of points have it
pub behind_is : (live : ℕ → ℕ → Bool) (block : Block) (points : List ℕ) (j r : ℕ) → ArePoints live block.lines.items block.exit points → j < length block.lines.items → r < 32 → behind_at points j r ≡ behind_each live block.lines.items block.exit j r
behind_is live block points j r p lt small =
    let k : j + 1 ≡ suc j = omega arith in
    p.each (j + 1) r (omega arith) small ∙ ap (λ z. lives_before live (drop z block.lines.items) block.exit r) k

taken_alike : (p q : ℕ → Bool) (c : Constant) (user : Line) → p c.register ≡ q c.register → is_taken p c user ≡ is_taken q c user
taken_alike p q c (Compute to op kind left right) e = ap (λ b. is_some (constant_line to op kind left right c) && (c.register == to || not b)) e
taken_alike p q c (Compare to op kind left right) e = ap (λ b. is_some (comparison_line to op kind left right c) && (c.register == to || not b)) e
taken_alike p q c (Write place kind from access) e = ap (λ b. c.word == 0 && (from == c.register && not (place_uses place c.register || b))) e
taken_alike p q c user e = refl

passed_alike : (p q : ℕ → Bool) (line : Line) (lines : List Line) → (0 < length lines → (r : ℕ) → r < 32 → p r ≡ q r) → IsMachineLine line → passed_by p line lines ≡ passed_by q line lines
passed_alike p q (Put r z) (user ∷ rest) h m = let c : Constant = record { register = r; word = word z } in ap (λ b. if b then Some c else None) (taken_alike p q c user (h (omega arith) r m))
passed_alike p q (PutNull r) (user ∷ rest) h m = let c : Constant = record { register = r; word = 0 } in ap (λ b. if b then Some c else None) (taken_alike p q c user (h (omega arith) r m))
passed_alike p q (Put r z) [] h m = refl
passed_alike p q (PutNull r) [] h m = refl
passed_alike p q line lines h m = refl

pub lines_alike : (at : Name → ℕ) (m n : ℕ → ℕ) (p q : ℕ → ℕ → Bool) (before : Option Constant) (j : ℕ) (lines : List Line) → ((k : ℕ) → j ≤ k → k < j + length lines → m k ≡ n k) → ((k r : ℕ) → j ≤ k → k < j + length lines → r < 32 → p k r ≡ q k r) → All IsMachineLine lines → lines_code at m p before j lines ≡ lines_code at n q before j lines
lines_alike at m n p q before j [] same alike all = refl
lines_alike at m n p q before j (line ∷ lines) same alike all =
    let passed : Option Constant = passed_by (q (suc j)) line lines in
    ap (λ z. way_code at z (passed_by (p (suc j)) line lines) before line ++ lines_code at m p (passed_by (p (suc j)) line lines) (suc j) lines) (same j (omega arith) (omega arith))
    ∙ ap (λ z. way_code at (n j) z before line ++ lines_code at m p z (suc j) lines) (passed_alike (p (suc j)) (q (suc j)) line lines (λ some r small. alike (suc j) r (omega arith) (omega arith) small) (All-head IsMachineLine line lines all))
    ∙ ap (λ z. way_code at (n j) passed before line ++ z) (lines_alike at m n p q passed (suc j) lines (λ k a b. same k (omega arith) (omega arith)) (λ k r a b small. alike k r (omega arith) (omega arith) small) (All-tail IsMachineLine line lines all))
