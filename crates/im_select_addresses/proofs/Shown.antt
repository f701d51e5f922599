-- What the image's objects show, cell by cell.
use Rattle.std.proofs.Common.{◌≡◌, ℕ, zero, suc, ◌+◌, ◌<◌, ◌≤◌, Bool, true, false, List, [], ◌∷◌, ◌++◌, map, Option, Some, None, refl, sym, ap, ◌∙◌, subst, arith}
use Rattle.std.specs.Prelude.{slice_get, if◌then◌else◌, ◌==◌, All}
use Rattle.std.specs.List.{flat_map}
use Rattle.std.proofs.lemmas.Bool.{eq-eqb}
use Rattle.std.proofs.lemmas.Bool.Decides.{nat_tests}
use Rattle.std.proofs.lemmas.List.Elements.{All-head, All-tail}
use Rattle.im_num.specs.declared.kind.Kind.{Kind}
use Rattle.im_num.specs.declared.kind.Kind.TheVariants.{I8, U8, I16, U16, I32, U32, Ptr}
use Rattle.im_num.specs.declared.values.CellValue.{CellValue}
use Rattle.im_num.specs.Kinds.{kind_size}
use Rattle.im_num.specs.Variables.{Variable}
use Rattle.im_mem.specs.Map.{statics_start, statics_capacity}
use Rattle.im_mem.specs.Memory.{Mem}
use Rattle.im_image.specs.declared.object.CellRun.{CellRun}
use Rattle.im_image.specs.Contents.{ObjectValue}
use Rattle.im_device.specs.Variables.{cell_of, cells_from, run_cells, variable}
use Rattle.im_select_relation.specs.OperatorTables.{cell_word}
use Rattle.im_ctype.specs.declared.cell.Cell.{Cell}
use Rattle.im_store.specs.Objects.{static, Value, Store, kind_at}
use Rattle.im_store.specs.Statics.{StaticObject, static_shapes}
use Rattle.im_store.specs.Outcomes.{cell_shown, cells_shown, variables_from}
use Rattle.im_typed.specs.Sound.{AreShown, ShowEach}
use Rattle.im_block.specs.declared.unit.Static.{Static as StaticOf}
use Rattle.im_block.specs.Meaning.{static_of, statics_of}
use Rattle.im_block.specs.Wellformed.{IsStatic}
use Rattle.im_select_relation.specs.Linking.{Linking, Means, LaidOut, address}
use Rattle.im_select_addresses.specs.Named.{cells_along, cells_of_run, AreNamed, ShownLaw}
use Rattle.im_select_addresses.proofs.Values.{cell_same}

-- runs of cells

module _ (objects : List ObjectValue) (m : Mem) (at : ℕ) where
  abbrev value_in : Cell → CellValue
  value_in c = cell_of objects m c.kind (at + c.offset)

  along : (kind : Kind) (offset n : ℕ) → cells_from objects m kind (at + offset) n ≡ map value_in (cells_along kind offset n)
  along kind offset zero = refl
  along kind offset (suc n) =
      let q : at + offset + kind_size kind ≡ at + (offset + kind_size kind) = omega arith in
      ap (λ cs. cell_of objects m kind (at + offset) ∷ cs) (ap (λ a. cells_from objects m kind a n) q ∙ along kind (offset + kind_size kind) n)

  map_both : (xs ys : List Cell) → map value_in (xs ++ ys) ≡ map value_in xs ++ map value_in ys
  map_both [] ys = refl
  map_both (x ∷ xs) ys = ap (λ cs. value_in x ∷ cs) (map_both xs ys)

  in_runs : (runs : List CellRun) → flat_map (run_cells objects m at) runs ≡ map value_in (flat_map cells_of_run runs)
  in_runs [] = refl
  in_runs (r ∷ rs) =
      ap (λ cs. cs ++ flat_map (run_cells objects m at) rs) (along r.kind r.offset r.count)
      ∙ ap (λ cs. map value_in (cells_of_run r) ++ cs) (in_runs rs)
      ∙ sym (map_both (cells_of_run r) (flat_map cells_of_run rs))

-- cells of one static

abbrev EachCell : (Cell → Type 0) → List Cell → Type 0
EachCell P [] = Unit {0}
EachCell P (c ∷ cs) = P c × EachCell P cs

each_cell : (P : Cell → Type 0) (cells : List Cell) → ((i : ℕ) (c : Cell) → slice_get cells i ≡ Some c → P c) → EachCell P cells
each_cell P [] h = tt
each_cell P (c ∷ cs) h = (h 0 c refl, each_cell P cs (λ i. h (suc i)))

some_bytes : (k : Kind) → 0 < kind_size k
some_bytes I8 = omega arith
some_bytes U8 = omega arith
some_bytes I16 = omega arith
some_bytes U16 = omega arith
some_bytes I32 = omega arith
some_bytes U32 = omega arith
some_bytes Ptr = omega arith

abbrev AreApart : List Cell → Type 0
AreApart cells = (i j : ℕ) (c d : Cell) → slice_get cells i ≡ Some c → slice_get cells j ≡ Some d → i < j → c.offset + kind_size c.kind ≤ d.offset

here_kind : (b : Bool) (k : Kind) (rest : Option Kind) → b ≡ true → (if b then Some k else rest) ≡ Some k
here_kind true k rest e = refl
here_kind false k rest e = cc

past_kind : (b : Bool) (k : Kind) (rest : Option Kind) → b ≡ false → (if b then Some k else rest) ≡ rest
past_kind true k rest e = cc
past_kind false k rest e = refl

not_same : (a b : ℕ) → a < b → (a == b) ≡ false
not_same a b lt = grind (arith, nat_tests)

own_kind : (cells : List Cell) → AreApart cells → (i : ℕ) (c : Cell) → slice_get cells i ≡ Some c → kind_at cells c.offset ≡ Some c.kind
own_kind [] apart i c e = let bad : None ≡ Some c = e in cc
own_kind (d ∷ ds) apart zero c e =
    let one : d ≡ c = cc in
    subst (λ (z : Cell). kind_at (d ∷ ds) z.offset ≡ Some z.kind) one (here_kind (d.offset == d.offset) d.kind (kind_at ds d.offset) (eq-eqb d.offset d.offset refl))
own_kind (d ∷ ds) apart (suc i) c e =
    let far = apart 0 (suc i) d c refl e (omega arith) in
    let some = some_bytes d.kind in
    past_kind (d.offset == c.offset) d.kind (kind_at ds c.offset) (not_same d.offset c.offset (omega arith))
    ∙ own_kind ds (λ j k x y f g lt. apart (suc j) (suc k) x y f g (omega arith)) i c e

module _ (p : Linking) (objects : List ObjectValue) (statics : List StaticObject) (laid : LaidOut p (static_shapes statics) statics_start (statics_start + statics_capacity)) (all_named : AreNamed p 0 statics objects) (m : Mem) (small : (a : ℕ) → m a < 256) where
  cells_same : (at base : ℕ) (values : ℕ → Value) (cells : List Cell) → at ≡ base → AreShown statics cells (cells_shown values cells) → EachCell (λ c. Means p (values c.offset) (cell_word m c.kind (base + c.offset))) cells
      → map (value_in objects m at) cells ≡ cells_shown values cells
  cells_same at base values [] e shown means = refl
  cells_same at base values (c ∷ cs) e shown means =
      let one : cell_of objects m c.kind (at + c.offset) ≡ cell_shown (values c.offset) = ap (λ a. cell_of objects m c.kind (a + c.offset)) e ∙ cell_same p objects statics laid all_named m c.kind (base + c.offset) (values c.offset) small shown.0 means.0 in
      ap (λ v. v ∷ map (value_in objects m at) cs) one ∙ ap (λ vs. cell_shown (values c.offset) ∷ vs) (cells_same at base values cs e shown.1 means.1)

  -- what is known of the statics from the n-th on
  abbrev AllMean : Store → ℕ → List StaticObject → Type 0
  AllMean store n [] = Unit {0}
  AllMean store n (s ∷ ss) = EachCell (λ c. Means p (store.values (static n) c.offset) (cell_word m c.kind (address p (static n) + c.offset))) s.cells × AllMean store (suc n) ss

  each_same : (store : Store) (n : ℕ) (ss : List StaticObject) (os : List ObjectValue) → AreNamed p n ss os → ShowEach statics ss (variables_from n ss store) → AllMean store n ss
      → map (variable objects m) os ≡ variables_from n ss store
  each_same store n [] [] named shown means = refl
  each_same store n [] (o ∷ os) named shown means = absurd named
  each_same store n (s ∷ ss) [] named shown means = absurd named
  each_same store n (s ∷ ss) (o ∷ os) named shown means =
      let is = named.0 in
      let place : o.at ≡ address p (static n) = (let q = is.at in omega arith) in
      let cells : flat_map (run_cells objects m o.at) o.runs ≡ cells_shown (store.values (static n)) s.cells =
      in_runs objects m o.at o.runs ∙ ap (map (value_in objects m o.at)) is.cells ∙ cells_same o.at (address p (static n)) (store.values (static n)) s.cells place shown.1 means.0 in
      let one : variable objects m o ≡ record { name = s.name; cells = cells_shown (store.values (static n)) s.cells } =
      ap (λ c. record { name = o.name; cells = c }) cells ∙ ap (λ z. record { name = z; cells = cells_shown (store.values (static n)) s.cells }) is.name in
      ap (λ (v : Variable). v ∷ map (variable objects m) os) one
      ∙ ap (λ vs. record { name = s.name; cells = cells_shown (store.values (static n)) s.cells } ∷ vs) (each_same store (suc n) ss os named.1 shown.2 means.1)

  all_mean : (store : Store) (n : ℕ) (ss : List StaticObject) → ((i : ℕ) (s : StaticObject) → slice_get ss i ≡ Some s → AreApart s.cells)
      → ((i : ℕ) (s : StaticObject) (offset : ℕ) (k : Kind) → slice_get ss i ≡ Some s → kind_at s.cells offset ≡ Some k → Means p (store.values (static (n + i)) offset) (cell_word m k (address p (static (n + i)) + offset)))
      → AllMean store n ss
  all_mean store n [] apart h = tt
  all_mean store n (s ∷ ss) apart h = (
    each_cell _ s.cells (λ i c e. let q : n + 0 ≡ n = omega arith in subst (λ k. Means p (store.values (static k) c.offset) (cell_word m c.kind (address p (static k) + c.offset))) q (h 0 s c.offset c.kind refl (own_kind s.cells (apart 0 s refl) i c e))),
    all_mean store (suc n) ss (λ i. apart (suc i)) (λ i t offset k e f. let q : n + suc i ≡ suc n + i = omega arith in subst (λ j. Means p (store.values (static j) offset) (cell_word m k (address p (static j) + offset))) q (h (suc i) t offset k e f)),
  )

-- cells of a unit's statics are apart
static_apart : (all statics : List StaticOf) → All (IsStatic all) statics → (i : ℕ) (s : StaticObject) → slice_get (map static_of statics) i ≡ Some s → AreApart s.cells
static_apart all [] h i s e = let bad : None ≡ Some s = e in absurd cc
static_apart all (x ∷ xs) h zero s e = let one : static_of x ≡ s = cc in subst (λ (z : StaticObject). AreApart z.cells) one (All-head (IsStatic all) x xs h).cells.apart
static_apart all (x ∷ xs) h (suc i) s e = static_apart all xs (All-tail (IsStatic all) x xs h) i s e

pub shown : ShownLaw
shown p u objects m vs well laid named small right s =
    let ss = statics_of u in
    let e = s.same in
    let right' : ShowEach ss ss (variables_from 0 ss s.store) = subst (ShowEach ss ss) e right in
    let means = all_mean p objects ss laid named m small s.store 0 ss (static_apart u.statics.items u.statics.items well.statics) (λ i t offset k f g. let q : i ≡ 0 + i = omega arith in subst (λ j. Means p (s.store.values (static j) offset) (cell_word m k (address p (static j) + offset))) q (s.cells i t offset k f g)) in
    each_same p objects ss laid named m small s.store 0 ss objects named right' means ∙ sym e
