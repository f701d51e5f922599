-- The table of costs at the starts of blocks.
use Rattle.std.specs.Prelude.{◌≡◌, ◌⊎◌, ℕ, ◌<◌, ◌≤◌, ◌==◌, ◌||◌, nat_le, if◌then◌else◌, Bool, true, false, List, [], ◌∷◌, length, Option, Some, None, get_or}
use Rattle.im_block.specs.declared.code.Exit.{Exit}
use Rattle.im_block.specs.declared.code.Exit.TheVariants.{Jump, Turn, Branch, Return}
use Rattle.im_block.specs.declared.code.Block.{Block}

-- some path comes here, and a cost is no greater than the greatest
abbrev pub Reaches : ℕ → Option ℕ → Type 0
Reaches n None = ⊥
Reaches n (Some m) = n ≤ m

abbrev pub greater : Option ℕ → Option ℕ → Option ℕ
greater None other = other
greater (Some m) None = Some m
greater (Some m) (Some n) = if nat_le m n then Some n else Some m

-- edges but loop edges
abbrev pub leads_to : Exit → ℕ → Bool
leads_to (Jump c) b = c == b
leads_to (Turn c) b = false
leads_to (Branch on x y) b = (x == b) || (y == b)
leads_to (Return from) b = false

-- loop edges
abbrev pub turns_to : Exit → ℕ → Bool
turns_to (Jump c) b = false
turns_to (Turn c) b = c == b
turns_to (Branch on x y) b = false
turns_to (Return from) b = false

abbrev pub is_turned : List Block → ℕ → Bool
is_turned [] b = false
is_turned (x ∷ xs) b = turns_to x.exit b || is_turned xs b

-- a cut stands before a loop edge, so a path costs this behind it
abbrev pub turn_cost : ℕ
turn_cost = 2

-- the costs of a table are raised to this one where the test holds
pub record RaisedWhere (test : ℕ → Bool) (cost : Option ℕ) (old new : List (Option ℕ)) : Type 0 where
  pub len : length new ≡ length old
  pub kept : (c n : ℕ) → Reaches n (get_or old c None) → Reaches n (get_or new c None)
  pub on : (c n : ℕ) → test c ≡ true → c < length old → Reaches n cost → Reaches n (get_or new c None)
  pub from : (c m : ℕ) → get_or new c None ≡ Some m → (get_or old c None ≡ Some m) ⊎ ((test c ≡ true) × (cost ≡ Some m))
  pub same : (c : ℕ) → test c ≡ false → get_or new c None ≡ get_or old c None

-- no path comes to any of these places
abbrev pub AreBlank : List (Option ℕ) → Type 0
AreBlank costs = (c : ℕ) → get_or costs c None ≡ None

-- what is known before the sweep: sections begin at the entry and before each loop edge
pub record AreStarts (entry : ℕ) (blocks : List Block) (costs : List (Option ℕ)) : Type 0 where
  pub entered : entry < length costs → Reaches 0 (get_or costs entry None)
  pub turned : (c : ℕ) → is_turned blocks c ≡ true → c < length costs → Reaches turn_cost (get_or costs c None)
  pub from : (c m : ℕ) → get_or costs c None ≡ Some m → ((c ≡ entry) × (m ≡ 0)) ⊎ ((is_turned blocks c ≡ true) × (m ≡ turn_cost))
