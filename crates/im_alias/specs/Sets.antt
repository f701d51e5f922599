-- The sets of a table as a points-to assignment by definitions, and what a step makes of them.
use Rattle.std.specs.Prelude.{◌≡◌, ℕ, ◌+◌, ◌-◌, ◌<◌, Bool, true, false, List, [], Option, Some, None, length, slice_get, slice_set, sum_by}
use Rattle.im_block.specs.declared.code.Block.{Block}
use Rattle.im_block.specs.declared.unit.Function.{Function}
use Rattle.im_block.specs.declared.unit.Static.{Static as StaticOf}
use Rattle.im_block.specs.declared.unit.Unit.{Unit as Code}
use Rattle.im_block.specs.Wellformed.{IsWellFormed, objects_below}
use Rattle.im_alloc_placed.specs.Placeable.{IsPlaceable}
use Rattle.im_block_laws.specs.PointsTo.{Sub, ConstantsIn}
use Rattle.im_alias.specs.PointsAt.{PointsAt}
use Rattle.im_alias.specs.Least.{Below}
use Rattle.im_alias.specs.declared.set.ObjectSet.{ObjectSet}
use Rattle.im_alias.specs.declared.table.RegisterSets.{RegisterSets}
use Rattle.im_alias.specs.declared.table.Owner.{Owner}
use Rattle.im_alias.specs.declared.table.Owner.TheVariants.{Object, Returned, Register}
use Rattle.im_alias.specs.declared.table.Table.{Table}
use Rattle.im_alias.specs.Ascending.{Adds, IsWithin}

abbrev pub set_in : Option ObjectSet → List ℕ
set_in None = []
set_in (Some s) = s.members.items

-- the sets of registers; a register beyond them has the empty one
abbrev pub row_sets : RegisterSets → ℕ → List ℕ
row_sets row r = set_in (slice_get row.sets.items r)

abbrev pub row_in : Option RegisterSets → ℕ → List ℕ
row_in None r = []
row_in (Some row) r = row_sets row r

abbrev pub width : Option RegisterSets → ℕ
width None = 0
width (Some row) = length row.sets.items

abbrev pub points : Table → PointsAt
points t = record {
  register = λ i r. row_in (slice_get t.registers.items i) r;
  object = λ n. set_in (slice_get t.objects.items n);
  result = λ i. set_in (slice_get t.returned.items i);
}

abbrev pub set_of : PointsAt → Owner → List ℕ
set_of p (Object n) = p.object n
set_of p (Returned i) = p.result i
set_of p (Register i r) = p.register i r

abbrev pub IsThere : Table → Owner → Type 0
IsThere t (Object n) = n < length t.objects.items
IsThere t (Returned i) = i < length t.returned.items
IsThere t (Register i r) = r < width (slice_get t.registers.items i)

pub record SameSets (old new : RegisterSets) : Type 0 where
  pub count : length new.sets.items ≡ length old.sets.items
  pub sets : (r : ℕ) → row_sets new r ≡ row_sets old r

-- in a list of sets, one has changed
pub record Put (old new : List ObjectSet) (n : ℕ) (from : List ℕ) (changed : Bool) : Type 0 where
  pub set : ObjectSet
  pub there : n < length old
  pub is : new ≡ slice_set old n set
  pub adds : Adds (set_in (slice_get old n)) from set.members.items changed

-- how many objects could yet join a set
abbrev pub set_room : ℕ → ObjectSet → ℕ
set_room bound s = bound - length s.members.items

abbrev pub row_room : ℕ → RegisterSets → ℕ
row_room bound row = sum_by (set_room bound) row.sets.items

abbrev pub room : ℕ → Table → ℕ
room bound t = sum_by (set_room bound) t.objects.items + sum_by (set_room bound) t.returned.items + sum_by (row_room bound) t.registers.items

pub record SameShape (old new : Table) : Type 0 where
  pub objects : length new.objects.items ≡ length old.objects.items
  pub returned : length new.returned.items ≡ length old.returned.items
  pub registers : length new.registers.items ≡ length old.registers.items
  pub widths : (i : ℕ) → width (slice_get new.registers.items i) ≡ width (slice_get old.registers.items i)

pub record IsBounded (bound : ℕ) (p : PointsAt) : Type 0 where
  pub register : (i r : ℕ) → IsWithin bound (p.register i r)
  pub object : (n : ℕ) → IsWithin bound (p.object n)
  pub result : (i : ℕ) → IsWithin bound (p.result i)

-- a table has become what the condition asks, and no more; whether a set was changed
pub record Flowed (P : PointsAt → Type 0) (old new : Table) (changed : Bool) : Type 0 where
  pub shape : SameShape old new
  pub kept : Below (points old) (points new)
  pub same : changed ≡ false → (points new ≡ points old) × P (points old) × ((bound : ℕ) → room bound new ≡ room bound old)
  pub less : (bound : ℕ) → changed ≡ true → IsBounded bound (points new) → room bound new < room bound old
  pub upper : (q : PointsAt) → Below (points old) q → P q → Below (points new) q

-- one owner's set has become what it was and others
abbrev pub Grows : Owner → List ℕ → Table → Table → Bool → Type 0
Grows owner from = Flowed (λ p. Sub from (set_of p owner))

pub record HasShape (u : Code) (t : Table) : Type 0 where
  pub objects : length t.objects.items ≡ objects_below u (length u.functions.items)
  pub returned : length t.returned.items ≡ length u.functions.items
  pub registers : length t.registers.items ≡ length u.functions.items
  pub widths : (i : ℕ) (f : Function) → slice_get u.functions.items i ≡ Some f → width (slice_get t.registers.items i) ≡ f.register_count

-- a table of the unit whose sets are of its objects
pub record IsPart (u : Code) (t : Table) : Type 0 where
  pub shape : HasShape u t
  pub bounded : IsBounded (length t.objects.items) (points t)

pub record IsBlockOf (u : Code) (i : ℕ) (f : Function) (block : Block) : Type 0 where
  pub function_there : slice_get u.functions.items i ≡ Some f
  pub b : ℕ
  pub block_there : slice_get f.blocks.items b ≡ Some block

pub record IsCode (u : Code) : Type 0 where
  pub formed : IsWellFormed u
  pub placeable : IsPlaceable u

-- the first statics have what their values point to
abbrev pub StaticsFit : ℕ → Code → PointsAt → Type 0
StaticsFit n u p = (k : ℕ) (s : StaticOf) → k < n → slice_get u.statics.items k ≡ Some s → ConstantsIn (p.object k) s.values.items

-- sets with nothing in them
abbrev pub HaveNothing : List ObjectSet → Type 0
HaveNothing sets = (k : ℕ) → set_in (slice_get sets k) ≡ []

pub record IsEmptyTable (t : Table) : Type 0 where
  pub objects : HaveNothing t.objects.items
  pub returned : HaveNothing t.returned.items
  pub registers : (i r : ℕ) → row_in (slice_get t.registers.items i) r ≡ []
