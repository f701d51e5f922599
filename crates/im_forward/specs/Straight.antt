-- What a line sets goes straight to where the next line keeps it.
use Rattle.std.specs.Prelude.{◌≡◌, ◌⊎◌, ℕ, ◌+◌, ℤ, Bool, false, List, [], ◌∷◌, Option, Some, None, drop, slice_get}
use Rattle.im_num.specs.declared.kind.Kind.{Kind}
use Rattle.im_num.specs.Kinds.{IsOfKind}
use Rattle.im_block.specs.declared.code.Line.{Line}
use Rattle.im_block.specs.declared.code.Line.TheVariants.{Put, PutNull, Copy, Convert, Unary, Not, Compute, Compare, Move, Distance, Address, Read}
use Rattle.im_block.specs.declared.code.Exit.{Exit}
use Rattle.im_block.specs.declared.code.Block.{Block}
use Rattle.im_block.specs.declared.unit.Function.{Function}
use Rattle.im_block.specs.Unitwise.{EachBlock}
use Rattle.im_alloc_relation.specs.Live.{lives}

-- the register that a line sets, where it may as well be another one: no call, whose result comes where the machine has it, and
-- no copy, which is forwarded
abbrev pub target : Line → Option ℕ
target (Put to z) = Some to
target (PutNull to) = Some to
target (Convert to kind from) = Some to
target (Unary to op kind from) = Some to
target (Not to from) = Some to
target (Compute to op kind left right) = Some to
target (Compare to op kind left right) = Some to
target (Move to size back pointer by) = Some to
target (Distance to size left right) = Some to
target (Address to place) = Some to
target (Read to place kind access) = Some to
target line = None

-- the line with another register in the place of that
abbrev pub setting : ℕ → Line → Line
setting v (Put to z) = Put v z
setting v (PutNull to) = PutNull v
setting v (Convert to kind from) = Convert v kind from
setting v (Unary to op kind from) = Unary v op kind from
setting v (Not to from) = Not v from
setting v (Compute to op kind left right) = Compute v op kind left right
setting v (Compare to op kind left right) = Compare v op kind left right
setting v (Move to size back pointer by) = Move v size back pointer by
setting v (Distance to size left right) = Distance v size left right
setting v (Address to place) = Address v place
setting v (Read to place kind access) = Read v place kind access
setting v line = line

-- a kind has all values of another
abbrev pub HasAllOf : Kind → Kind → Type 0
HasAllOf kind of = (z : ℤ) → IsOfKind of z → IsOfKind kind z

-- what a line sets is a number of this kind as it is
abbrev pub Gives : Kind → Line → Type 0
Gives kind (Put to z) = IsOfKind kind z
Gives kind (Convert to of from) = HasAllOf kind of
Gives kind (Unary to op of from) = HasAllOf kind of
Gives kind (Not to from) = Unit {0}
Gives kind (Compute to op of left right) = HasAllOf kind of
Gives kind (Compare to op of left right) = Unit {0}
Gives kind line = ⊥

-- lines that pass on to v what the one before them set in t, as it is
pub data PassesOn (set : Line) (t v : ℕ) : Line → Type 0 where
  Copies : PassesOn set t v (Copy v t)
  Converts : (kind : Kind) → Gives kind set → PassesOn set t v (Convert v kind t)

-- a line and the next, which passes on to v what the line sets in t, where t doesn't live behind them
pub record IsPair (live : ℕ → ℕ → Bool) (exit : Exit) (behind : List Line) (x y : Line) (t v : ℕ) : Type 0 where
  pub sets : target x ≡ Some t
  pub passes : PassesOn x t v y
  pub dies : (t ≡ v) ⊎ (lives live behind exit t ≡ false)

-- pairs become one line each, the other lines stay
pub data StraightLines (live : ℕ → ℕ → Bool) (exit : Exit) : List Line → List Line → Type 0 where
  Ends : StraightLines live exit [] []
  Stays : (x : Line) (old new : List Line) → StraightLines live exit old new → StraightLines live exit (x ∷ old) (x ∷ new)
  Pairs : (x y : Line) (t v : ℕ) (old new : List Line) → IsPair live exit old x y t v → StraightLines live exit old new → StraightLines live exit (x ∷ y ∷ old) (setting v x ∷ new)

-- the i-th line and the next are a pair, and this line may stand in their place
pub record IsStraight (live : ℕ → ℕ → Bool) (exit : Exit) (lines : List Line) (i : ℕ) (line : Line) : Type 0 where
  pub x : Line
  pub y : Line
  pub t : ℕ
  pub v : ℕ
  pub first : slice_get lines i ≡ Some x
  pub next : slice_get lines (i + 1) ≡ Some y
  pub pair : IsPair live exit (drop (i + 2) lines) x y t v
  pub is : line ≡ setting v x

pub record Straightens (live : ℕ → ℕ → Bool) (old new : Block) : Type 0 where
  pub lines : StraightLines live old.exit old.lines.items new.lines.items
  pub exit : new.exit ≡ old.exit

abbrev pub AllStraighten : (ℕ → ℕ → Bool) → Function → Function → Type 0
AllStraighten live old new = EachBlock (Straightens live) old new
