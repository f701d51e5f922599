-- For private contracts: what each item gives its cell, and what the cells get of that.
use Rattle.std.specs.Prelude.{◌≡◌, ℕ, List, [], ◌∷◌, Option, Some, None, nat_eq, if◌then◌else◌}
use Rattle.im_ctype.specs.declared.cell.Cell.{Cell}
use Rattle.im_ctype.specs.Table.{Table, structs_of}
use Rattle.im_store.specs.Objects.{Value}
use Rattle.im_typed.specs.ProgramOf.{first_of}
use Rattle.im_check_items.specs.im_rules.Demands.{Meets}
use Rattle.im_check_items.specs.im_rules.Initialisers.{Item, piece_of}
use Rattle.im_check_items.specs.im_rules.StaticValues.{constant_asks, static_value, value_or, zero_of}
use Rattle.im_check_static_values.specs.declared.given.Given.{Given}

-- an item is a constant, and this is its value
pub record IsGiven (types : Table) (size : ℕ → ℕ) (p : Item) (g : Given) : Type 0 where
  pub meets : Meets (constant_asks size (structs_of types) p)
  pub offset : g.offset ≡ p.offset
  pub value : static_value size (piece_of (structs_of types) p).value ≡ Some (first_of types g.value)

abbrev pub AreGiven : Table → (ℕ → ℕ) → List Item → List Given → Type 0
AreGiven types size [] [] = Unit {0}
AreGiven types size [] (g ∷ gs) = ⊥
AreGiven types size (p ∷ ps) [] = ⊥
AreGiven types size (p ∷ ps) (g ∷ gs) = IsGiven types size p g × AreGiven types size ps gs

-- what one of them gives at an offset
abbrev pub given_by : Table → ℕ → Given → Option Value
given_by types k g = if nat_eq g.offset k then Some (first_of types g.value) else None

abbrev pub first_or : Option Value → Option Value → Option Value
first_or None o = o
first_or (Some v) o = Some v

-- the first value that is given at an offset
abbrev pub given_at : Table → ℕ → List Given → Option Value
given_at types k [] = None
given_at types k (g ∷ gs) = first_or (given_by types k g) (given_at types k gs)

-- what a cell has of that
abbrev pub given_to : Table → List Given → Cell → Value
given_to types gs c = value_or (zero_of c.kind) (given_at types c.offset gs)
