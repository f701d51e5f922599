-- What is asked of the items of a static's initialiser, by the bytes of each static.
use Rattle.std.specs.Prelude.{ℕ, List, [], ◌∷◌}
use Rattle.im_ctype.specs.Types.{Structs}
use Rattle.im_check_items.specs.im_rules.Demands.{Meets, Refuses}
use Rattle.im_check_items.specs.im_rules.Initialisers.{Item}
use Rattle.im_check_items.specs.im_rules.StaticValues.{constant_asks, item_token}
use Rattle.im_check_stop.specs.declared.stop.Stop.{Stop}
use Rattle.im_check_stop.specs.declared.stop.Stop.TheVariants.{Rule, Large, Memory}

-- every item is a constant
abbrev pub AreConstant : (ℕ → ℕ) → Structs → List Item → Type 0
AreConstant size known [] = Unit {0}
AreConstant size known (p ∷ ps) = Meets (constant_asks size known p) × AreConstant size known ps

-- the rule r refuses an item whose first token is the k-th
pub data RefusesItem (size : ℕ → ℕ) (known : Structs) (r : ℕ) : ℕ → List Item → Type 0 where
  this_item : {p : Item} {ps : List Item} → Refuses r (constant_asks size known p) → RefusesItem size known r (item_token p) (p ∷ ps)
  other_item : {k : ℕ} {p : Item} {ps : List Item} → RefusesItem size known r k ps → RefusesItem size known r k (p ∷ ps)

-- a rule that refuses an item, at its first token
abbrev pub IsUnfit : (ℕ → ℕ) → Structs → List Item → Stop → Type 0
IsUnfit size known ps (Rule rule token) = RefusesItem size known rule token ps
IsUnfit size known ps (Large bytes) = ⊥
IsUnfit size known ps Memory = Unit {0}
