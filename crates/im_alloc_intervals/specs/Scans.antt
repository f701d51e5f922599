-- The scan: where intervals begin, what is in use, and the homes that it gives.
use Rattle.std.specs.Prelude.{◌≡◌, ◌≢◌, ◌<◌, ◌≤◌, ◌⊎◌, ℕ, ◌+◌, ◌==◌, if◌then◌else◌, Bool, true, false, List, [], ◌∷◌, Option, Some, None, length, slice_get, slice_index_or, slice_set}
use Rattle.std.specs.List.{sum_by}
use Rattle.im_block.specs.Sections.{Has}
use Rattle.im_alloc_relation.specs.Homes.{Home, InRegister, InSlot}
use Rattle.im_alloc_intervals.specs.declared.marks.Interval.{Interval}
use Rattle.im_alloc_intervals.specs.declared.starts.Start.{Start}
use Rattle.im_alloc_intervals.specs.declared.table.Home.{Home as HomeOf}
use Rattle.im_alloc_intervals.specs.declared.table.Homes.{Homes}
use Rattle.im_alloc_intervals.specs.declared.tables.Tables.{Tables}
use Rattle.im_alloc_intervals.specs.declared.taken.Taken.{Taken}
use Rattle.im_alloc_intervals.specs.Homes.{home_of, home_at}
use Rattle.im_alloc_intervals.specs.Leaves.{AreDistinct}
use Rattle.im_alloc_intervals.specs.Marks.{interval_at, flag_at}

-- a start is of a register from a number on, where its interval begins
pub record IsStart (from : ℕ) (table : List (Option Interval)) (s : Start) : Type 0 where
  pub low : from ≤ s.register
  pub interval : Interval
  pub at : interval_at table s.register ≡ Some interval
  pub first : s.first ≡ interval.first

pub record IsListed (starts : List Start) (v : ℕ) : Type 0 where
  pub k : ℕ
  pub start : Start
  pub at : slice_get starts k ≡ Some start
  pub is : start.register ≡ v

abbrev pub starts_of_one : ℕ → Option Interval → List Start
starts_of_one r None = []
starts_of_one r (Some i) = record { first = i.first; register = r } ∷ []

-- how often a register is in a list of starts
abbrev pub one_if : ℕ → Start → ℕ
one_if v s = if s.register == v then 1 else 0

-- the registers below a number
pub record AreBegun (from next : ℕ) (table : List (Option Interval)) (starts : List Start) : Type 0 where
  pub each : (k : ℕ) (s : Start) → slice_get starts k ≡ Some s → IsStart from table s
  pub all : (v : ℕ) (i : Interval) → from ≤ v → v < next → interval_at table v ≡ Some i → IsListed starts v
  pub once : (v : ℕ) → sum_by (one_if v) starts ≤ 1
  pub below : (k : ℕ) (s : Start) → slice_get starts k ≡ Some s → s.register < next
  pub few : length starts ≤ next

pub record AreStarts (from : ℕ) (table : List (Option Interval)) (starts : List Start) : Type 0 where
  pub each : (k : ℕ) (s : Start) → slice_get starts k ≡ Some s → IsStart from table s
  pub all : (v : ℕ) (i : Interval) → from ≤ v → interval_at table v ≡ Some i → IsListed starts v
  pub once : (j k : ℕ) (s t : Start) → slice_get starts j ≡ Some s → slice_get starts k ≡ Some t → s.register ≡ t.register → j ≡ k
  pub sorted : (j k : ℕ) (s t : Start) → slice_get starts j ≡ Some s → slice_get starts k ≡ Some t → j ≤ k → s.first ≤ t.first
  pub few : length starts ≤ length table

-- in use up to a position, or not at all

abbrev pub IsFreeAt : Option ℕ → ℕ → Type 0
IsFreeAt None p = Unit {0}
IsFreeAt (Some last) p = last < p

abbrev pub IsUsedAt : Option ℕ → ℕ → Type 0
IsUsedAt None p = ⊥
IsUsedAt (Some last) p = p ≤ last

abbrev pub MayTake : ℕ → Bool → Type 0
MayTake r is_argument = (is_argument ≡ true) → (r < 10) ⊎ (17 < r)

abbrev pub register_at : List (Option ℕ) → ℕ → Option ℕ
register_at registers r = slice_index_or registers r None

-- each of x9 to x31 that may be taken is in use
abbrev pub NoneFree : List (Option ℕ) → ℕ → Bool → Type 0
NoneFree registers p is_argument = (r : ℕ) → 8 < r → r < 32 → MayTake r is_argument → IsUsedAt (register_at registers r) p

abbrev pub FindsRegister : List (Option ℕ) → ℕ → Bool → Option ℕ → Type 0
FindsRegister registers p is_argument None = NoneFree registers p is_argument
FindsRegister registers p is_argument (Some r) = (8 < r) × (r < 32) × MayTake r is_argument × IsFreeAt (register_at registers r) p

abbrev pub FindsSlot : List ℕ → ℕ → Option ℕ → Type 0
FindsSlot slots p None = Unit {0}
FindsSlot slots p (Some n) = (n < length slots) × IsFreeAt (slice_get slots n) p

pub record TakesOne (interval : Interval) (is_argument : Bool) (old new : List (Option ℕ)) (r : ℕ) : Type 0 where
  pub low : 8 < r
  pub high : r < 32
  pub may : MayTake r is_argument
  pub free : IsFreeAt (register_at old r) interval.first
  pub now : register_at new r ≡ Some interval.last
  pub others : (q : ℕ) → q ≢ r → register_at new q ≡ register_at old q

abbrev pub TakesRegister : Interval → Bool → List (Option ℕ) → List (Option ℕ) → Option ℕ → Type 0
TakesRegister interval is_argument old new None = (new ≡ old) × NoneFree old interval.first is_argument
TakesRegister interval is_argument old new (Some r) = TakesOne interval is_argument old new r

pub record TakesSlot (interval : Interval) (old new : List ℕ) (n : ℕ) : Type 0 where
  pub within : n < length new
  pub more : length old ≤ length new
  pub one : length new ≤ length old + 1
  pub free : IsFreeAt (slice_get old n) interval.first
  pub now : slice_get new n ≡ Some interval.last
  pub others : (m : ℕ) → m ≢ n → slice_get new m ≡ slice_get old m

abbrev pub until : Taken → Home → Option ℕ
until taken (InRegister r) = register_at taken.registers r
until taken (InSlot n) = slice_get taken.slots.items n

abbrev pub IsRegisterFor : Bool → Bool → Home → Type 0
IsRegisterFor is_slotted is_argument (InRegister r) = (8 < r) × (r < 32) × MayTake r is_argument × (is_slotted ≡ false)
IsRegisterFor is_slotted is_argument (InSlot n) = Unit {0}

abbrev pub IsSlotBelow : ℕ → Home → Type 0
IsSlotBelow count (InRegister r) = Unit {0}
IsSlotBelow count (InSlot n) = n < count

-- a register with an interval takes a home that is free where it begins
pub record Takes (interval : Interval) (is_slotted is_argument : Bool) (old new : Taken) (home : HomeOf) : Type 0 where
  pub free : IsFreeAt (until old (home_of home)) interval.first
  pub now : until new (home_of home) ≡ Some interval.last
  pub others : (g : Home) → g ≢ home_of home → until new g ≡ until old g
  pub register : IsRegisterFor is_slotted is_argument (home_of home)
  pub slot : IsSlotBelow (length new.slots.items) (home_of home)
  pub more : length old.slots.items ≤ length new.slots.items
  pub one : length new.slots.items ≤ length old.slots.items + 1
  pub none_free : is_slotted ≡ false → (length new.slots.items ≡ length old.slots.items) ⊎ NoneFree old.registers interval.first is_argument

-- parameters wait in x10 and on, up to where they are used last

abbrev pub last_of : Option Interval → Option ℕ
last_of None = None
last_of (Some i) = Some i.last

pub record AreWaiting (parameters : ℕ) (table : List (Option Interval)) (registers : List (Option ℕ)) : Type 0 where
  pub long : length registers ≡ 32
  pub each : (v : ℕ) → v < parameters → register_at registers (10 + v) ≡ last_of (interval_at table v)
  pub rest : (r : ℕ) → (r < 10) ⊎ (10 + parameters ≤ r) → register_at registers r ≡ None

pub record AreFirst (parameters count : ℕ) (of : List HomeOf) : Type 0 where
  pub long : length of ≡ count
  pub received : (v : ℕ) → v < parameters → home_at of v ≡ InRegister (10 + v)
  pub rest : (v : ℕ) → parameters ≤ v → home_at of v ≡ InRegister 31

pub record GivesHome (t : Tables) (v : ℕ) (interval : Interval) (old new : Taken) (of of_new : List HomeOf) : Type 0 where
  pub home : HomeOf
  pub takes : Takes interval (flag_at t.slotted.items v) (flag_at t.arguments.items v) old new home
  pub is : of_new ≡ slice_set of v home

abbrev pub GivesSome : Tables → ℕ → Option Interval → Taken → Taken → List HomeOf → List HomeOf → Type 0
GivesSome t v None old new of of_new = Unit {0}
GivesSome t v (Some interval) old new of of_new = GivesHome t v interval old new of of_new

abbrev pub Gives : Tables → ℕ → Taken → Taken → List HomeOf → List HomeOf → Type 0
Gives t v old new of of_new = GivesSome t v (interval_at t.intervals.items v) old new of of_new

-- a register's interval holds a position; those below a number begin with the function
abbrev pub HoldsFrom : ℕ → ℕ → Option Interval → ℕ → Type 0
HoldsFrom from v None p = ⊥
HoldsFrom from v (Some i) p = ((i.first ≤ p) ⊎ (v < from)) × (p ≤ i.last)

-- nothing must be in a slot, and at most 20 intervals hold any one position
pub record IsEasy (from : ℕ) (t : Tables) : Type 0 where
  pub slotted : (v : ℕ) → from ≤ v → flag_at t.slotted.items v ≡ false
  pub arguments : (v : ℕ) → flag_at t.arguments.items v ≡ false
  pub few : (p : ℕ) (vs : List ℕ) → AreDistinct vs → ((v : ℕ) → Has vs v → HoldsFrom from v (interval_at t.intervals.items v) p) → length vs ≤ 20

-- two registers whose intervals meet have different homes
abbrev pub AreDisjoint : Interval → Interval → Type 0
AreDisjoint i j = (i.last < j.first) ⊎ (j.last < i.first)

pub record AreScanned (parameters : ℕ) (t : Tables) (homes : Homes) : Type 0 where
  pub count : length homes.of.items ≡ length t.intervals.items
  pub received : (v : ℕ) → v < parameters → home_at homes.of.items v ≡ InRegister (10 + v)
  pub slots : (v n : ℕ) → home_at homes.of.items v ≡ InSlot n → n < homes.slots
  pub few : homes.slots ≤ length t.intervals.items
  pub free : (v r : ℕ) → home_at homes.of.items v ≡ InRegister r → (8 < r) × (r < 32)
  pub apart : (v w : ℕ) (i j : Interval) → v ≢ w → interval_at t.intervals.items v ≡ Some i → interval_at t.intervals.items w ≡ Some j → home_at homes.of.items v ≡ home_at homes.of.items w → AreDisjoint i j
  pub register : (v r : ℕ) (i : Interval) → parameters ≤ v → interval_at t.intervals.items v ≡ Some i → home_at homes.of.items v ≡ InRegister r → (flag_at t.slotted.items v ≡ false) × MayTake r (flag_at t.arguments.items v)
  pub easy : IsEasy parameters t → homes.slots ≡ 0
