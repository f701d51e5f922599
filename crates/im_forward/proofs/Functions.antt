-- A function whose copies are forwarded, and left out where nothing uses them; and a unit of such functions.
use Rattle.std.proofs.Common.{◌≡◌, ℕ, suc, ◌+◌, ◌*◌, ◌/◌, ◌%◌, Bool, true, false, List, [], ◌∷◌, Option, Some, refl, sym, ap, ◌∙◌, subst, arith, length}
use Rattle.std.specs.Prelude.{Vec, slice_get, slice_index, All}
use Rattle.std.specs.declared.alloc.Global.{Global}
use Rattle.std.specs.List.{AllZip}
use Rattle.std.proofs.lemmas.List.Elements.{All-nil, All-cons, All-head, All-tail}
use Rattle.im_block.specs.declared.code.Exit.{Exit}
use Rattle.im_block.specs.declared.code.Block.{Block}
use Rattle.im_block.specs.declared.unit.Function.{Function}
use Rattle.im_block.specs.declared.unit.Unit.{Unit as Code}
use Rattle.im_block.specs.Wellformed.{LineWithin, ExitThere, IsBlock, IsFunction, IsWellFormed}
use Rattle.im_block.proofs.Unitwise.{zip_old, zip_length, zip_each, zip_then}
use Rattle.im_alloc_placed.specs.Placeable.{first_free, IsPlaceableFunction, IsPlaceable}
use Rattle.im_alloc_relation.specs.Live.{lives}
use Rattle.im_alloc_relation.specs.Reads.{lives_in, reads_first}
use Rattle.im_block_live.specs.Reads.{IsLive}
use Rattle.im_block_live.specs.Words.{has, group_has, groups_have, IsWithin, AreWithin}
use Rattle.im_block_live.proofs.Paths.{lives_found}
use Rattle.im_forward.specs.Forward.{ForwardsLines, ForwardsBlock, ForwardsOnce}
use Rattle.im_forward.specs.Known.{UsesSources, AllUseSources, LeavesOutLines, LeavesOut, AreOf, AllLeaveOut, IsReady}
use Rattle.im_forward.proofs.Shapes.{leaving, exit_there, lines_within}
use Rattle.im_forward.proofs.Straightening.{IsClosed}
use Rattle.im_forward.proofs.Leaving.{lives_less, leaves_none, leaves_again, left_out}

-- ---- blocks

block_left : (free : ℕ) (live : ℕ → ℕ → Bool) (x y z : Block) → ForwardsBlock free live x y → LeavesOut live y z → ForwardsBlock free live x z
block_left free live x y z h k = record {
  lines = subst (λ e. ForwardsLines free live x.exit e [] x.lines.items z.lines.items) (sym k.exit) (left_out free live x.exit y.exit [] x.lines.items y.lines.items h.lines z.lines.items k.lines);
}

-- ---- one group after the other

pub stays : (live : ℕ → ℕ → Bool) (block : Block) → LeavesOut live block block
stays live block = record { lines = leaves_none live block.exit block.lines.items; exit = refl }

pub left_again : (live : ℕ → ℕ → Bool) (x y z : Block) → LeavesOut live x y → LeavesOut live y z → LeavesOut live x z
left_again live x y z h k = record {
  lines = leaves_again live x.exit x.lines.items y.lines.items z.lines.items h.lines (subst (λ e. LeavesOutLines live e y.lines.items z.lines.items) h.exit k.lines);
  exit = k.exit ∙ h.exit;
}

pub group_of : (groups : List (Vec ℕ Global)) (i : ℕ) (words : Vec ℕ Global) → slice_get groups i ≡ Some words → AreOf (groups_have groups) (32 * i) words.items
group_of groups i words at b j lt =
    let quotient : i ≡ (32 * i + j) / 32 = omega arith in
    let rest : j ≡ (32 * i + j) % 32 = omega arith in
    ap (λ (z : ℕ). has (slice_index words.items b) z) rest
    ∙ ap (λ (o : Option (Vec ℕ Global)). group_has o b ((32 * i + j) % 32)) (sym at)
    ∙ ap (λ (z : ℕ). group_has (slice_get groups z) b ((32 * i + j) % 32)) quotient

-- ---- what lives

lives_there : (blocks : List Block) (live : ℕ → ℕ → Bool) → IsLive blocks live → (b : ℕ) (block : Block) (v : ℕ) → slice_get blocks b ≡ Some block → lives live block.lines.items block.exit v ≡ true → live b v ≡ true
lives_there blocks live is b block v at e =
    let k = lives_found blocks live v (λ c. is.some c v) block.lines.items block.exit e in
    is.all b v (suc k.0) (subst (λ o. lives_in (reads_first blocks k.0) o v ≡ true) (sym at) k.1)

pub closed_first : (f : Function) (live : ℕ → ℕ → Bool) → IsLive f.blocks.items live → IsClosed live f.blocks.items
closed_first f live is = lives_there f.blocks.items live is

closed_left : (live : ℕ → ℕ → Bool) (ys zs : List Block) → IsLive ys live → AllZip (LeavesOut live) ys zs → IsClosed live zs
closed_left live ys zs is h b z v at e =
    let k = zip_old (LeavesOut live) ys zs b z h at in
    let same : lives live z.lines.items k.old.exit v ≡ true = subst (λ (x : Exit). lives live z.lines.items x v ≡ true) k.is.exit e in
    lives_there ys live is b k.old v k.at (lives_less live k.old.exit k.old.lines.items z.lines.items k.is.lines v same)

-- ---- the registers and blocks that lines name are there

block_within : (n count free : ℕ) (x y : Block) → UsesSources free x y → IsWithin n count x → IsWithin n count y
block_within n count free x y h w =
    let none : ℕ → ℕ → Bool = λ b v. false in
    let lines = (h none).lines in
    let k = lines_within n free none x.exit y.exit [] x.lines.items y.lines.items lines (All-nil (LineWithin n)) w.lines w.exit in
    let e = (leaving free none x.exit y.exit [] x.lines.items y.lines.items lines).exit in
    record {
      lines = k.0;
      exit = k.1;
      there = subst (ExitThere count) (sym e.exit) (exit_there count e.instead x.exit w.there);
    }

pub within : (f g : Function) → AllUseSources f g → AreWithin f → AreWithin g
within f g h w =
    let same : length g.blocks.items ≡ length f.blocks.items = zip_length (UsesSources (first_free f)) f.blocks.items g.blocks.items h.blocks in
    let count : g.register_count ≡ f.register_count = ap (λ (z : Function). z.register_count) h.rest in
    subst (λ n. All (IsWithin n (length g.blocks.items)) g.blocks.items) (sym count)
    (subst (λ n. All (IsWithin f.register_count n) g.blocks.items) (sym same)
    (zip_each (UsesSources (first_free f)) (IsWithin f.register_count (length f.blocks.items)) (IsWithin f.register_count (length f.blocks.items)) (block_within f.register_count (length f.blocks.items) (first_free f)) f.blocks.items g.blocks.items h.blocks w))

-- ---- the function

pub forwards : (f g h : Function) (live : ℕ → ℕ → Bool) → IsReady f → AllUseSources f g → IsLive g.blocks.items live → AllLeaveOut live g h → ForwardsOnce f h
forwards f g h live ready uses is leaves = record {
  live = live;
  closed = closed_left live g.blocks.items h.blocks.items is leaves.blocks;
  blocks = zip_then (UsesSources (first_free f)) (LeavesOut live) (ForwardsBlock (first_free f) live) (λ x y z u k. block_left (first_free f) live x y z (u live) k) f.blocks.items g.blocks.items h.blocks.items uses.blocks leaves.blocks;
  virtual = ready.virtual;
  rest = leaves.rest ∙ ap (λ (z : Function). record z { blocks = h.blocks }) uses.rest;
}

-- ---- the unit

formed_within : (functions : List Function) (f : Function) (blocks : List Block) → All (IsBlock functions f) blocks → All (IsWithin f.register_count (length f.blocks.items)) blocks
formed_within functions f [] w = All-nil (IsWithin f.register_count (length f.blocks.items))
formed_within functions f (x ∷ xs) w =
    let one = All-head (IsBlock functions f) x xs w in
    All-cons (IsWithin f.register_count (length f.blocks.items)) x xs
    (record { lines = one.lines_within; exit = one.exit_within; there = one.exit_there })
    (formed_within functions f xs (All-tail (IsBlock functions f) x xs w))

all_ready : (functions : List Function) (statics : ℕ) (fs : List Function) → All (IsFunction functions) fs → All (IsPlaceableFunction statics) fs → All IsReady fs
all_ready functions statics [] w k = All-nil IsReady
all_ready functions statics (f ∷ fs) w k =
    let one = All-head (IsFunction functions) f fs w in
    All-cons IsReady f fs
    (record {
      virtual = (All-head (IsPlaceableFunction statics) f fs k).registers;
      received = one.received;
      within = formed_within functions f f.blocks.items one.blocks;
    })
    (all_ready functions statics fs (All-tail (IsFunction functions) f fs w) (All-tail (IsPlaceableFunction statics) f fs k))

pub unit_ready : (u : Code) → IsWellFormed u → IsPlaceable u → All IsReady u.functions.items
unit_ready u w k = all_ready u.functions.items (length u.statics.items) u.functions.items w.functions k.functions
