-- Objects in the order of their addresses, and the cells of their runs.
use Rattle.std.proofs.Common.{◌≡◌, ◌<◌, ◌≤◌, ℕ, zero, suc, ◌+◌, ◌-◌, ◌*◌, ◌%◌, true, false, List, [], ◌∷◌, ◌++◌, length, get_or, Option, Some, None, refl, sym, ap, ◌∙◌, subst, append_assoc, inl, inr, ◌⊎◌, ◌≢◌, leb-true, if◌then◌else◌, arith}
use Rattle.std.specs.List.Sorted.{IsNonDecreasingBy}
use Rattle.std.proofs.lemmas.Bool.{eqb-true, le-leb, lt-leb, and_parts, and_from, and_left, and_right, cases_lt, cases_order}
use Rattle.std.proofs.lemmas.List.{get_or_default}
use Rattle.std.proofs.lemmas.Bool.Decides.{nat_tests}
use Rattle.im_num.specs.declared.kind.Kind.{Kind}
use Rattle.im_num.specs.declared.kind.Kind.TheVariants.{I8, U8, I16, U16, I32, U32, Ptr}
use Rattle.im_num.specs.declared.values.CellValue.{CellValue}
use Rattle.im_num.specs.declared.values.CellValue.TheVariants.{Inside, Local}
use Rattle.im_num.specs.Kinds.{kind_size}
use Rattle.im_mem.specs.Memory.{Mem, is_place}
use Rattle.im_image.specs.declared.object.CellRun.{CellRun}
use Rattle.im_image.specs.Contents.{ObjectValue, ImageValue, IsImage, AreObjects, AreRuns, IsObject, is_run, is_object_place, run_end}
use Rattle.im_mem.specs.Map.{statics_start}
use Rattle.im_device.specs.Variables.{reaches, place_from, cell_of, cells_from}
use Rattle.im_emu.specs.Layouts.{AreLaidOut, HaveBegun}

-- ---- the cells of a run

pub cell_is_place : (kind : Kind) (first i count : ℕ) → first % kind_size kind ≡ 0 → first + count * kind_size kind ≤ 5242880 → i < count → is_place (first + i * kind_size kind) (kind_size kind) ≡ true
cell_is_place I8 first i count aligned room below = grind (arith, nat_tests)
cell_is_place U8 first i count aligned room below = grind (arith, nat_tests)
cell_is_place I16 first i count aligned room below = grind (arith, nat_tests)
cell_is_place U16 first i count aligned room below = grind (arith, nat_tests)
cell_is_place I32 first i count aligned room below = grind (arith, nat_tests)
cell_is_place U32 first i count aligned room below = grind (arith, nat_tests)
cell_is_place Ptr first i count aligned room below = grind (arith, nat_tests)

pub next_cell : (kind : Kind) (first i : ℕ) → first + i * kind_size kind + kind_size kind ≡ first + (i + 1) * kind_size kind
next_cell I8 first i = omega arith
next_cell U8 first i = omega arith
next_cell I16 first i = omega arith
next_cell U16 first i = omega arith
next_cell I32 first i = omega arith
next_cell U32 first i = omega arith
next_cell Ptr first i = omega arith

pub cell_ends : (kind : Kind) (first i count : ℕ) → first + count * kind_size kind ≤ 5242880 → i < count → first + (i + 1) * kind_size kind ≤ 5242880
cell_ends I8 first i count room below = omega arith
cell_ends U8 first i count room below = omega arith
cell_ends I16 first i count room below = omega arith
cell_ends U16 first i count room below = omega arith
cell_ends I32 first i count room below = omega arith
cell_ends U32 first i count room below = omega arith
cell_ends Ptr first i count room below = omega arith

row_shift : (kind : Kind) (first i : ℕ) → first + suc i * kind_size kind ≡ first + kind_size kind + i * kind_size kind
row_shift I8 first i = omega arith
row_shift U8 first i = omega arith
row_shift I16 first i = omega arith
row_shift U16 first i = omega arith
row_shift I32 first i = omega arith
row_shift U32 first i = omega arith
row_shift Ptr first i = omega arith

-- the cell behind i others
pub cells_more : (objects : List ObjectValue) (m : Mem) (kind : Kind) (i first : ℕ) → cells_from objects m kind first i ++ (cell_of objects m kind (first + i * kind_size kind) ∷ []) ≡ cells_from objects m kind first (i + 1)
cells_more objects m kind zero first =
    let same : first + 0 * kind_size kind ≡ first = omega arith in
    ap (λ at. cell_of objects m kind at ∷ []) same
cells_more objects m kind (suc i) first =
    let place : first + suc i * kind_size kind ≡ first + kind_size kind + i * kind_size kind = row_shift kind first i in
    let more = cells_more objects m kind i (first + kind_size kind) in
    let count : suc i + 1 ≡ suc (i + 1) = omega arith in
    rw (place, count) (ap (λ others. cell_of objects m kind first ∷ others) more)

pub cell_put : (objects : List ObjectValue) (m : Mem) (kind : Kind) (first i next : ℕ) (cell : CellValue) (old before after : List CellValue) → next ≡ first + i * kind_size kind → before ≡ old ++ cells_from objects m kind first i → cell ≡ cell_of objects m kind next → after ≡ before ++ (cell ∷ [])
    → after ≡ old ++ cells_from objects m kind first (i + 1)
cell_put objects m kind first i next cell old before after place cells is put =
    let value : cell ≡ cell_of objects m kind (first + i * kind_size kind) = is ∙ ap (cell_of objects m kind) place in
    put
    ∙ ap (λ v. before ++ (v ∷ [])) value
    ∙ ap (λ l. l ++ (cell_of objects m kind (first + i * kind_size kind) ∷ [])) cells
    ∙ append_assoc old (cells_from objects m kind first i) (cell_of objects m kind (first + i * kind_size kind) ∷ [])
    ∙ ap (λ l. old ++ l) (cells_more objects m kind i first)

-- ---- the runs of an object

pub record RunPlace (at size : ℕ) (run : CellRun) : Type 0 where
  pub aligned : (at + run.offset) % kind_size run.kind ≡ 0
  pub ends : run_end run ≤ size

run_place : (at size : ℕ) (before : Option CellRun) (run : CellRun) → is_run at size before run ≡ true → RunPlace at size run
run_place at size before run h =
    let a = and_parts _ _ h in
    let b = and_parts _ _ a.0 in
    let c = and_parts _ _ b.0 in
    record { aligned = eqb-true _ _ b.1; ends = leb-true _ _ c.1 }

pub run_there : (at size k : ℕ) (before : Option CellRun) (runs : List CellRun) (d : CellRun) → k < length runs → AreRuns at size before runs → RunPlace at size (get_or runs k d)
run_there at size k before [] d below h = absurd (omega arith)
run_there at size zero before (run ∷ runs) d below h = run_place at size before run h.0
run_there at size (suc k) before (run ∷ runs) d below h = run_there at size k (Some run) runs d (omega arith) h.1

-- ---- objects

pub record ObjectPlace (statics least : ℕ) (object : ObjectValue) : Type 0 where
  pub begins : least ≤ object.at
  pub ends : object.at + object.size ≤ statics_start + statics
  pub runs : AreRuns object.at object.size None object.runs

object_place : (statics least : ℕ) (object : ObjectValue) → IsObject statics least object → ObjectPlace statics least object
object_place statics least object is =
    let a = and_parts _ _ is.place in
    let b = and_parts _ _ a.0 in
    let c = and_parts _ _ b.0 in
    let d = and_parts _ _ c.0 in
    record { begins = leb-true _ _ d.1; ends = leb-true _ _ c.1; runs = is.runs }

pub object_there : (statics least k : ℕ) (objects : List ObjectValue) (d : ObjectValue) → k < length objects → AreObjects statics least objects → ObjectPlace statics least (get_or objects k d)
object_there statics least k [] d below h = absurd (omega arith)
object_there statics least zero (object ∷ objects) d below h = object_place statics least object h.0
object_there statics least (suc k) (object ∷ objects) d below h =
    let first = object_place statics least object h.0 in
    let r = object_there statics (object.at + object.size + 1) k objects d (omega arith) h.1 in
    record { begins = omega (arith, first.begins, r.begins); ends = r.ends; runs = r.runs }

-- an object lies below each later one
apart : (statics least i j : ℕ) (objects : List ObjectValue) (d : ObjectValue) → i < j → j < length objects → AreObjects statics least objects → (get_or objects i d).at + (get_or objects i d).size < (get_or objects j d).at
apart statics least i j [] d order below h = absurd (omega arith)
apart statics least i zero (object ∷ objects) d order below h = absurd (omega arith)
apart statics least zero (suc j) (object ∷ objects) d order below h =
    let later = object_there statics (object.at + object.size + 1) j objects d (omega arith) h.1 in
    omega (arith, later.begins)
apart statics least (suc i) (suc j) (object ∷ objects) d order below h = apart statics (object.at + object.size + 1) i j objects d (omega arith) (omega arith) h.1

rising_at : (objects : List ObjectValue) → AreObjects 1048576 statics_start objects → (i j : ℕ) (d : ObjectValue) → i ≤ j → (i < j) ⊎ (j ≤ i) → j < length objects → (get_or objects i d).at ≤ (get_or objects j d).at
rising_at objects are i j d order (inl less) below = let e = apart 1048576 statics_start i j objects d less below are in omega (arith, e)
rising_at objects are i j d order (inr more) below = let same : i ≡ j = omega arith in rw same (omega arith)

pub rising : (objects : List ObjectValue) → AreLaidOut objects → IsNonDecreasingBy (λ object. object.at) objects
rising objects laid i j d order below = rising_at objects laid.in_order i j d order (cases_lt i j) below

-- ---- the place of an address

beyond : (k : ℕ) (objects : List ObjectValue) (address : ℕ) → ((j : ℕ) (d : ObjectValue) → j < length objects → reaches (get_or objects j d) address ≡ false) → place_from k objects address ≡ Local
beyond k [] address h = refl
beyond k (object ∷ others) address h =
    let first : reaches object address ≡ false = h 0 object (omega arith) in
    rw first (beyond (k + 1) others address (λ j d below. h (suc j) d (omega arith)))

-- an address that no object but one can reach
alone : (k i : ℕ) (objects : List ObjectValue) (address : ℕ) (e : ObjectValue) → i < length objects → ((j : ℕ) (d : ObjectValue) → j < length objects → j ≢ i → reaches (get_or objects j d) address ≡ false)
    → place_from k objects address ≡ (if reaches (get_or objects i e) address then Inside (k + i) (address - (get_or objects i e).at) else Local)
alone k i [] address e below h = absurd (omega arith)
alone k zero (object ∷ others) address e below h =
    let rest = beyond (k + 1) others address (λ j d lower. h (suc j) d (omega arith) (omega arith)) in
    let number : k + 0 ≡ k = omega arith in
    rw (rest, number) refl
alone k (suc i) (object ∷ others) address e below h =
    let first : reaches object address ≡ false = h 0 object (omega arith) (omega arith) in
    let rest = alone (k + 1) i others address e (omega arith) (λ j d lower other. h (suc j) d (omega arith) (λ same. other (omega arith))) in
    let number : k + 1 + i ≡ k + suc i = omega arith in
    rw (first, ← number) rest

past_end : (object : ObjectValue) (address : ℕ) → object.at + object.size < address → reaches object address ≡ false
past_end object address h = and_right _ _ (lt-leb _ _ h)

before_start : (object : ObjectValue) (address : ℕ) → address < object.at → reaches object address ≡ false
before_start object address h = and_left _ _ (lt-leb _ _ h)

pub none_begun : (objects : List ObjectValue) (address begun : ℕ) → HaveBegun objects address begun → begun ≡ 0 → Local ≡ place_from 0 objects address
none_begun objects address begun h none = sym (beyond 0 objects address (λ j d below. before_start (get_or objects j d) address (h.high j d (omega arith) below)))

others_beyond : (objects : List ObjectValue) (address last : ℕ) → AreLaidOut objects → HaveBegun objects address (suc last) → (j : ℕ) (d : ObjectValue) → (j ≡ last) ⊎ ((j < last) ⊎ (last < j)) → j < length objects → j ≢ last → reaches (get_or objects j d) address ≡ false
others_beyond objects address last laid h j d (inl same) below other = absurd (other same)
others_beyond objects address last laid h j d (inr (inl less)) below other =
    let lower = apart 1048576 statics_start j last objects d less (omega (arith, h.few)) laid.in_order in
    let reached = h.low last d (omega arith) in
    past_end (get_or objects j d) address (omega (arith, lower, reached))
others_beyond objects address last laid h j d (inr (inr more)) below other = before_start (get_or objects j d) address (h.high j d (omega arith) below)

-- then no object but the last of them can have the address
pub last_begun : (objects : List ObjectValue) (address begun : ℕ) (e : ObjectValue) → AreLaidOut objects → HaveBegun objects address begun → 0 < begun
    → (if reaches (get_or objects (begun - 1) e) address then Inside (begun - 1) (address - (get_or objects (begun - 1) e).at) else Local) ≡ place_from 0 objects address
last_begun objects address zero e laid h some = absurd (omega arith)
last_begun objects address (suc last) e laid h some =
    let number : suc last - 1 ≡ last = omega arith in
    let zeroth : 0 + last ≡ last = omega arith in
    let place = alone 0 last objects address e (omega (arith, h.few)) (λ j d below other. others_beyond objects address last laid h j d (cases_order j last) below other) in
    rw number (rw zeroth at (sym place))

within : (object : ObjectValue) (address : ℕ) → reaches object address ≡ true → (object.at ≤ address) × (address ≤ object.at + object.size)
within object address h =
    let both = and_parts _ _ h in
    (leb-true _ _ both.0, leb-true _ _ both.1)

-- no other object reaches what one does
clash : (objects : List ObjectValue) (address k j : ℕ) (e : ObjectValue) → AreLaidOut objects → k < length objects → reaches (get_or objects k e) address ≡ true → (j ≡ k) ⊎ ((j < k) ⊎ (k < j)) → j < length objects → j ≢ k → reaches (get_or objects j e) address ≡ false
clash objects address k j e laid there reached (inl same) below other = absurd (other same)
clash objects address k j e laid there reached (inr (inl less)) below other =
    let lower = apart 1048576 statics_start j k objects e less there laid.in_order in
    let begins = (within (get_or objects k e) address reached).0 in
    past_end (get_or objects j e) address (omega (arith, lower, begins))
clash objects address k j e laid there reached (inr (inr more)) below other =
    let lower = apart 1048576 statics_start k j objects e more below laid.in_order in
    let ends = (within (get_or objects k e) address reached).1 in
    before_start (get_or objects j e) address (omega (arith, lower, ends))

pub place_inside : (objects : List ObjectValue) (k address : ℕ) (d : ObjectValue) → AreLaidOut objects → k < length objects → reaches (get_or objects k d) address ≡ true → place_from 0 objects address ≡ Inside k (address - (get_or objects k d).at)
place_inside objects k address d laid there reached =
    let one = alone 0 k objects address d there (λ j e below other.
    let same = get_or_default objects k d e there in
    clash objects address k j e laid there (subst (λ object. reaches object address ≡ true) same reached) (cases_order j k) below other) in
    let number : 0 + k ≡ k = omega arith in
    rw (reached, number) at one

pub place_local : (objects : List ObjectValue) (address : ℕ) → ((k : ℕ) (d : ObjectValue) → k < length objects → reaches (get_or objects k d) address ≡ false) → place_from 0 objects address ≡ Local
place_local objects address h = beyond 0 objects address h

-- ---- the objects of an image

place_wider : (statics least at size name runs : ℕ) → statics ≤ 1048576 → is_object_place statics least at size name runs ≡ true → is_object_place 1048576 least at size name runs ≡ true
place_wider statics least at size name runs few h =
    let a = and_parts _ _ h in
    let b = and_parts _ _ a.0 in
    let c = and_parts _ _ b.0 in
    let ends = leb-true _ _ c.1 in
    and_from _ _ (and_from _ _ (and_from _ _ c.0 (le-leb (at + size) (statics_start + 1048576) (omega (arith, ends)))) b.1) a.1

wider : (statics least : ℕ) (objects : List ObjectValue) → statics ≤ 1048576 → AreObjects statics least objects → AreObjects 1048576 least objects
wider statics least [] few h = tt
wider statics least (object ∷ objects) few h =
    let is = h.0 in (
      record { place = place_wider statics least object.at object.size (length object.name) (length object.runs) few is.place; name_length = is.name_length; name = is.name; runs = is.runs },
      wider statics (object.at + object.size + 1) objects few h.1,
    )

pub laid_out : (image : ImageValue) → IsImage image → AreLaidOut image.objects
laid_out image is =
    let size = leb-true _ _ (and_parts _ _ is.statics_size).0 in
    let count = leb-true _ _ is.object_count in
    record { count = omega (arith, size, count); in_order = wider (length image.statics) statics_start image.objects size is.objects }
