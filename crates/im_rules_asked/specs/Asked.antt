-- What the rules ask of a tree, as a tree: for each node its first token, what is asked of it, and what is asked of its parts,
-- in source order; and the sizes of the types that are named or completed in it.
use Rattle.std.specs.Prelude.{◌≡◌, ◌⊎◌, ℕ, Bool, true, ◌&&◌, List, [], ◌∷◌, ◌++◌, Option, Some, None, if◌then◌else◌}
use Rattle.im_rules.specs.Demands.{Demand, Refuses}

mutual
  pub data Asked : Type 0 where
    node : (token : ℕ) (demands : List Demand) (parts : Parts) → Asked
    -- sizes of types, in bytes; nothing is asked of them here
    sized : List ℕ → Asked

  -- a part beside others; or one behind others, which counts once they are right
  pub data Parts : Type 0 where
    no_part : Parts
    beside behind : Parts → Asked → Parts

abbrev pub one : Asked → Parts
one a = beside no_part a

abbrev pub both : Asked → Asked → Parts
both a b = beside (one a) b

abbrev pub first_then : Asked → Asked → Parts
first_then a b = behind (one a) b

-- parts that stand for themselves: nothing is asked of the node that they make
abbrev pub only : Parts → Asked
only ps = node 0 [] ps

-- a node without parts
abbrev pub leaf : ℕ → List Demand → Asked
leaf token ds = node token ds no_part

abbrev pub nothing_asked : Asked
nothing_asked = only no_part

-- all that is asked is so

abbrev pub all_hold : List Demand → Bool
all_hold [] = true
all_hold (d ∷ ds) = d.holds && all_hold ds

abbrev mutual
  pub is_right : Asked → Bool
  is_right (node k ds ps) = are_right ps && all_hold ds
  is_right (sized ns) = true

  pub are_right : Parts → Bool
  are_right no_part = true
  are_right (beside ps a) = are_right ps && is_right a
  are_right (behind ps a) = are_right ps && is_right a

abbrev pub IsRight : Asked → Type 0
IsRight a = is_right a ≡ true

-- a node whose first token is the k-th breaks the rule r: its parts are right, and something that the rule asks of it isn't so
abbrev mutual
  pub HasFault : ℕ → ℕ → Asked → Type 0
  HasFault r k (node t ds ps) = ((t ≡ k) × (are_right ps ≡ true) × Refuses r ds) ⊎ HasFaultIn r k ps
  HasFault r k (sized ns) = ⊥

  pub HasFaultIn : ℕ → ℕ → Parts → Type 0
  HasFaultIn r k no_part = ⊥
  HasFaultIn r k (beside ps a) = HasFaultIn r k ps ⊎ HasFault r k a
  HasFaultIn r k (behind ps a) = HasFaultIn r k ps ⊎ ((are_right ps ≡ true) × HasFault r k a)

-- the first fault in source order, which computes

pub record Fault : Type 0 where
  pub rule : ℕ
  pub token : ℕ

abbrev pub fault : ℕ → ℕ → Fault
fault rule token = record { rule = rule; token = token }

abbrev pub first_refused : ℕ → List Demand → Option Fault
first_refused k [] = None
first_refused k (d ∷ ds) = if d.holds then first_refused k ds else Some (fault d.rule k)

abbrev pub or_else : Option Fault → Option Fault → Option Fault
or_else None f = f
or_else (Some e) f = Some e

abbrev mutual
  pub first_fault : Asked → Option Fault
  first_fault (node k ds ps) = or_else (first_in ps) (first_refused k ds)
  first_fault (sized ns) = None

  pub first_in : Parts → Option Fault
  first_in no_part = None
  first_in (beside ps a) = or_else (first_in ps) (first_fault a)
  first_in (behind ps a) = or_else (first_in ps) (first_fault a)

-- the sizes in source order; those behind something count once that is right

abbrev pub where_right : Bool → List ℕ → List ℕ
where_right h ns = if h then ns else []

abbrev mutual
  pub sizes : Asked → List ℕ
  sizes (node k ds ps) = sizes_in ps
  sizes (sized ns) = ns

  pub sizes_in : Parts → List ℕ
  sizes_in no_part = []
  sizes_in (beside ps a) = sizes_in ps ++ sizes a
  sizes_in (behind ps a) = sizes_in ps ++ where_right (are_right ps) (sizes a)

-- the same demands where the sizes were told before
abbrev mutual
  pub without_sizes : Asked → Asked
  without_sizes (node k ds ps) = node k ds (parts_without_sizes ps)
  without_sizes (sized ns) = only no_part

  pub parts_without_sizes : Parts → Parts
  parts_without_sizes no_part = no_part
  parts_without_sizes (beside ps a) = beside (parts_without_sizes ps) (without_sizes a)
  parts_without_sizes (behind ps a) = behind (parts_without_sizes ps) (without_sizes a)
