-- Structs are read, copied and taken apart by their cells.
use Rattle.std.proofs.Common.{◌≡◌, ℕ, zero, suc, ◌+◌, ◌<◌, ◌≤◌, ◌==◌, ◌&&◌, List, [], ◌∷◌, length, take, drop, Bool, true, false, refl, sym, ap, ◌∙◌, subst, arith, le-leb}
use Rattle.std.specs.Prelude.{Option, Some, None, nat_le, if◌then◌else◌, slice_get}
use Rattle.std.proofs.lemmas.Bool.{eq-eqb}
use Rattle.im_num.specs.declared.kind.Kind.{Kind}
use Rattle.im_num.specs.Kinds.{kind_size}
use Rattle.im_ctype.specs.declared.cell.Cell.{Cell}
use Rattle.im_store.specs.declared.undefined.Undefined.{Undefined}
use Rattle.im_store.specs.declared.undefined.Undefined.TheVariants.{NoSuchCell, OutsideObject, MissingResult}
use Rattle.im_store.specs.Checks.{Checked, Fine, Bad, then_, unless}
use Rattle.im_store.specs.Objects.{Object, Value, Number, Null, Pointer, Unset, Shape, Store, same_object}
use Rattle.im_store.specs.Access.{is_of_kind, has_cell, stands, taken, read_cell, read_cells, write_cell, write_cells, with_value}
use Rattle.im_store.specs.Pointers.{reaches, member_at}
use Rattle.im_store.proofs.Same.{same_object-self}
use Rattle.im_typed.specs.Program.{Prog, Access, Scalar, Struct}
use Rattle.im_typed.specs.Runs.{Answer, Run, Stops, Fails, checked}
use Rattle.im_typed.specs.Runs as typed
use Rattle.im_typed.specs.Values.{Values, used, read_at}
use Rattle.im_typed.specs.Typing.{Each, AreLaidOut, InPlace, IsPart, kinds_of}
use Rattle.im_typed.specs.Sound.{AreValues}
use Rattle.im_typed.proofs.Sounds.{then-fine, unless-fine}
use Rattle.im_typed.proofs.SoundCalls.{if-true, if-false, differs}
use Rattle.im_block.specs.declared.code.Place.{Place}
use Rattle.im_block.specs.declared.code.Place.TheVariants.{Through}
use Rattle.im_block.specs.declared.code.Line.TheVariants.{Address, Read, Write}
use Rattle.im_block.specs.declared.unit.Unit.{Unit as Code}
use Rattle.im_block.specs.Meaning as m
use Rattle.im_block.specs.Meaning.{Setting, State, with_register}
use Rattle.im_lower_relation.specs.Codes.{Point, before, further_in, reads_of, writes_of}
use Rattle.im_lower_relation.specs.Agrees.{Agrees, Home, Mark, at, Reaches, Does, HasCellsOf, Came, CameAs}
use Rattle.im_lower_relation.proofs.Steps.{here, stepped, further, does-later}
use Rattle.im_lower_relation.proofs.Stores.{agree-read, agree-write, taken-kept}
use Rattle.im_lower_relation.proofs.Uses.{taken-same, register-same, register-other, line-goes, checks, arrived}
use Rattle.im_lower_relation.proofs.Operands.{stored-same}
use Rattle.im_lower_relation.proofs.Places.{further-none, further-in}
use Rattle.im_lower_relation.proofs.Layouts.{some-size, cells-from}
use Rattle.im_lower_relation.proofs.Ready.{HasArguments}

-- what a read of several cells tells

pub record Parts (store : Store) (o : Object) (offset : ℕ) (c : Cell) (cs : List Cell) (vs : Values) : Type 0 where
  pub first : Value
  pub rest : Values
  pub reads : read_cell store o (offset + c.offset) c.kind ≡ Fine first
  pub others : read_cells store o offset cs ≡ Fine rest
  pub is : first ∷ rest ≡ vs

pub read-parts : (store : Store) (o : Object) (offset : ℕ) (c : Cell) (cs : List Cell) (vs : Values) → read_cells store o offset (c ∷ cs) ≡ Fine vs → Parts store o offset c cs vs
read-parts store o offset c cs vs e =
    let h = then-fine (read_cell store o (offset + c.offset) c.kind) (λ v. then_ (read_cells store o offset cs) (λ ws. Fine (v ∷ ws))) vs e in
    let k = then-fine (read_cells store o offset cs) (λ ws. Fine (h.0 ∷ ws)) vs h.2 in
    let last = k.2 in
    record { first = h.0; rest = k.0; reads = h.1; others = k.1; is = cc }

pub stood-taken : (store : Store) (o : Object) (i : ℕ) (kind : Kind) (v : Value) → read_cell store o i kind ≡ Fine v → (stands store o i kind ≡ true) × (taken store v ≡ Fine v)
stood-taken store o i kind v e = by-stand (stands store o i kind) e
  where
    by-stand : (b : Bool) → (if b then taken store (store.values o i) else Bad NoSuchCell) ≡ Fine v → (b ≡ true) × (taken store v ≡ Fine v)
    by-stand true h = (refl, (taken-same store (store.values o i) v h).1)
    by-stand false h = absurd (cc)

pub all-taken : (store : Store) (o : Object) (offset : ℕ) (cells : List Cell) (vs : Values) → read_cells store o offset cells ≡ Fine vs → Each (λ v. taken store v ≡ Fine v) vs
all-taken store o offset [] vs e = let same : [] ≡ vs = cc in subst (Each (λ v. taken store v ≡ Fine v)) same tt
all-taken store o offset (c ∷ cs) vs e =
    let h = read-parts store o offset c cs vs e in
    subst (Each (λ v. taken store v ≡ Fine v)) h.is ((stood-taken store o (offset + c.offset) c.kind h.first h.reads).1, all-taken store o offset cs h.rest h.others)

pub all-read : (store : Store) (o : Object) (offset : ℕ) (cells : List Cell) (vs : Values) → read_cells store o offset cells ≡ Fine vs → length vs ≡ length cells
all-read store o offset [] vs e = let same : [] ≡ vs = cc in subst (λ l. length l ≡ 0) same refl
all-read store o offset (c ∷ cs) vs e =
    let h = read-parts store o offset c cs vs e in
    subst (λ l. length l ≡ suc (length cs)) h.is (ap suc (all-read store o offset cs h.rest h.others))

-- where a cell stands, block code reaches it

cell-shape : (store : Store) (o : Object) (i : ℕ) (kind : Kind) → stands store o i kind ≡ true → (s : Shape) × (k : Kind) × (store.shape o ≡ Some s) × (s.cells i ≡ Some k)
cell-shape store o i kind e = by-shape (store.shape o) refl e
  where
    by-cell : (s : Shape) (r : Option Kind) → s.cells i ≡ r → is_of_kind kind r ≡ true → store.shape o ≡ Some s → (s : Shape) × (k : Kind) × (store.shape o ≡ Some s) × (s.cells i ≡ Some k)
    by-cell s None f h g = absurd (cc)
    by-cell s (Some k) f h g = (s, k, g, f)

    by-shape : (r : Option Shape) → store.shape o ≡ r → has_cell i kind r ≡ true → (s : Shape) × (k : Kind) × (store.shape o ≡ Some s) × (s.cells i ≡ Some k)
    by-shape None f h = absurd (cc)
    by-shape (Some s) f h = by-cell s (s.cells i) refl h f

pub member-fine : (store blocks : Store) → Agrees store blocks → (o : Object) (offset d i : ℕ) (kind : Kind) → stands store o i kind ≡ true → offset + d ≤ i → member_at blocks d (Pointer o offset) ≡ Fine (Pointer o (offset + d))
member-fine store blocks agrees o offset d i kind e le =
    let s = cell-shape store o i kind e in
    let in_size = agrees.inside o s.0 i s.1 s.2 s.3 in
    ap (λ r. unless (reaches r (offset + d)) (Pointer o (offset + d)) OutsideObject) (agrees.shapes o s.0 s.2)
    ∙ if-true (nat_le (offset + d) s.0.size) (Fine (Pointer o (offset + d))) (Bad OutsideObject) (le-leb (offset + d) s.0.size (omega arith))

-- cells are written, and read back

pub writes-shape : (store : Store) (o : Object) (offset : ℕ) (cells : List Cell) (vs : Values) (after : Store) → write_cells store o offset cells vs ≡ Fine after → (q : Object) → after.shape q ≡ store.shape q
writes-shape store o offset [] vs after e q = let same : store ≡ after = cc in ap (λ (x : Store). x.shape q) (sym same)
writes-shape store o offset (c ∷ cs) [] after e q = absurd (cc)
writes-shape store o offset (c ∷ cs) (v ∷ vs) after e q =
    let h = then-fine (write_cell store o (offset + c.offset) c.kind v) (λ mid. write_cells mid o offset cs vs) after e in
    let k = unless-fine (stands store o (offset + c.offset) c.kind) (record store { values = with_value store.values o (offset + c.offset) v }) h.0 _ h.1 in
    writes-shape h.0 o offset cs vs after h.2 q ∙ ap (λ (x : Store). x.shape q) k.1

writes-other : (store : Store) (o : Object) (offset i : ℕ) (cells : List Cell) (vs : Values) (after : Store) → Each {A = Cell} (λ c. i < c.offset) cells → write_cells store o offset cells vs ≡ Fine after → after.values o (offset + i) ≡ store.values o (offset + i)
writes-other store o offset i [] vs after far e = let same : store ≡ after = cc in ap (λ (x : Store). x.values o (offset + i)) (sym same)
writes-other store o offset i (c ∷ cs) [] after far e = absurd (cc)
writes-other store o offset i (c ∷ cs) (v ∷ vs) after far e =
    let h = then-fine (write_cell store o (offset + c.offset) c.kind v) (λ mid. write_cells mid o offset cs vs) after e in
    let k = unless-fine (stands store o (offset + c.offset) c.kind) (record store { values = with_value store.values o (offset + c.offset) v }) h.0 _ h.1 in
    let first = far.0 in
    let lt : offset + i < offset + c.offset = omega arith in
    writes-other h.0 o offset i cs vs after far.1 h.2 ∙ ap (λ (x : Store). x.values o (offset + i)) k.1
    ∙ ap (λ b. if same_object o o && b then v else store.values o (offset + i)) (differs (offset + i) (offset + c.offset) lt)
    ∙ if-false (same_object o o && false) v (store.values o (offset + i)) (ap (λ b. b && false) (same_object-self o))

pub each-later : (a b : ℕ) (cells : List Cell) → b < a → Each {A = Cell} (λ c. a ≤ c.offset) cells → Each {A = Cell} (λ c. b < c.offset) cells
each-later a b [] lt h = tt
each-later a b (c ∷ cs) lt h = let first = h.0 in (omega arith, each-later a b cs lt h.1)

each-taken : (store after : Store) (vs : Values) → ((q : Object) → after.shape q ≡ store.shape q) → Each (λ v. taken store v ≡ Fine v) vs → Each (λ v. taken after v ≡ Fine v) vs
each-taken store after [] same h = tt
each-taken store after (v ∷ vs) same h = (taken-kept store after v same h.0, each-taken store after vs same h.1)

pub read-back : (store : Store) (o : Object) (offset from size : ℕ) (cells : List Cell) (vs : Values) (after : Store) → AreLaidOut from size cells → length vs ≡ length cells → Each (λ v. taken store v ≡ Fine v) vs → write_cells store o offset cells vs ≡ Fine after
    → read_cells after o offset cells ≡ Fine vs
read-back store o offset from size [] [] after laid many takes e = refl
read-back store o offset from size [] (v ∷ vs) after laid many takes e = absurd (cc)
read-back store o offset from size (c ∷ cs) [] after laid many takes e = absurd (cc)
read-back store o offset from size (c ∷ cs) (v ∷ vs) after laid many takes e =
    let h = then-fine (write_cell store o (offset + c.offset) c.kind v) (λ mid. write_cells mid o offset cs vs) after e in
    let mid : Store = h.0 in
    let k = unless-fine (stands store o (offset + c.offset) c.kind) (record store { values = with_value store.values o (offset + c.offset) v }) mid _ h.1 in
    let rest : length vs ≡ length cs = cc in
    let some = some-size c.kind in
    let far = each-later (c.offset + kind_size c.kind) c.offset cs (omega arith) (cells-from (c.offset + kind_size c.kind) size cs laid.2) in
    let shapes_mid : (q : Object) → mid.shape q ≡ store.shape q = λ q. ap (λ (x : Store). x.shape q) k.1 in
    let shapes_after = writes-shape store o offset (c ∷ cs) (v ∷ vs) after e in
    let value : after.values o (offset + c.offset) ≡ v =
    writes-other mid o offset c.offset cs vs after far h.2 ∙ ap (λ (x : Store). x.values o (offset + c.offset)) k.1
    ∙ ap (λ b. if b && offset + c.offset == offset + c.offset then v else store.values o (offset + c.offset)) (same_object-self o)
    ∙ if-true (offset + c.offset == offset + c.offset) v (store.values o (offset + c.offset)) (eq-eqb (offset + c.offset) (offset + c.offset) refl) in
    let cell : read_cell after o (offset + c.offset) c.kind ≡ Fine v =
    if-true (stands after o (offset + c.offset) c.kind) (taken after (after.values o (offset + c.offset))) (Bad _) (ap (has_cell (offset + c.offset) c.kind) (shapes_after o) ∙ k.0)
    ∙ ap (taken after) value ∙ taken-kept store after v shapes_after takes.0 in
    ap (λ r. then_ r (λ x. then_ (read_cells after o offset cs) (λ xs. Fine (x ∷ xs)))) cell
    ∙ ap (λ r. then_ r (λ xs. Fine (v ∷ xs))) (read-back mid o offset (c.offset + kind_size c.kind) size cs vs after laid.2 rest (each-taken store mid vs shapes_mid takes.1) h.2)

-- parts of a struct

pub part-cell : (store : Store) (o : Object) (offset from : ℕ) (kind : Kind) (cells : List Cell) (vs : Values) → read_cells store o offset cells ≡ Fine vs → kinds_of (take 1 (drop from cells)) ≡ kind ∷ []
    → (c : Cell) × (w : Value) × (slice_get cells from ≡ Some c) × (c.kind ≡ kind) × (take 1 (drop from vs) ≡ w ∷ []) × (read_cell store o (offset + c.offset) c.kind ≡ Fine w)
part-cell store o offset zero kind [] vs e k = absurd (cc)
part-cell store o offset (suc from) kind [] vs e k = absurd (cc)
part-cell store o offset zero kind (c ∷ cs) vs e k =
    let h = read-parts store o offset c cs vs e in
    (c, h.first, refl, cc, ap (λ (l : Values). take 1 l) (sym h.is), h.reads)
part-cell store o offset (suc from) kind (c ∷ cs) vs e k =
    let h = read-parts store o offset c cs vs e in
    let r = part-cell store o offset from kind cs h.rest h.others k in
    (r.0, r.1, r.2, r.3, ap (λ (l : Values). take 1 (drop (suc from) l)) (sym h.is) ∙ r.4, r.5)

pub dropped-cells : (store : Store) (o : Object) (offset from : ℕ) (cells : List Cell) (vs : Values) → read_cells store o offset cells ≡ Fine vs → read_cells store o offset (drop from cells) ≡ Fine (drop from vs)
dropped-cells store o offset zero cells vs e = e
dropped-cells store o offset (suc from) [] vs e = let same : [] ≡ vs = cc in subst (λ (l : Values). Fine [] ≡ Fine (drop (suc from) l)) same refl
dropped-cells store o offset (suc from) (c ∷ cs) vs e =
    let h = read-parts store o offset c cs vs e in
    subst (λ (l : Values). read_cells store o offset (drop from cs) ≡ Fine (drop (suc from) l)) h.is (dropped-cells store o offset from cs h.rest h.others)

shifted-cells : (store : Store) (o : Object) (offset base : ℕ) (ds cs : List Cell) (vs : Values) → InPlace base ds cs → read_cells store o offset cs ≡ Fine vs → read_cells store o (offset + base) ds ≡ Fine (take (length ds) vs)
shifted-cells store o offset base [] cs vs h e = refl
shifted-cells store o offset base (d ∷ ds) [] vs h e = absurd h
shifted-cells store o offset base (d ∷ ds) (c ∷ cs) vs h e =
    let k = read-parts store o offset c cs vs e in
    let same = h.0 in
    let place : offset + base + d.offset ≡ offset + c.offset = omega arith in
    let cell : read_cell store o (offset + base + d.offset) d.kind ≡ Fine k.first = ap (λ i. read_cell store o i d.kind) place ∙ ap (read_cell store o (offset + c.offset)) (sym h.1) ∙ k.reads in
    subst (λ (l : Values). read_cells store o (offset + base) (d ∷ ds) ≡ Fine (take (suc (length ds)) l)) k.is
    (ap (λ r. then_ r (λ x. then_ (read_cells store o (offset + base) ds) (λ xs. Fine (x ∷ xs)))) cell
    ∙ ap (λ r. then_ r (λ xs. Fine (k.first ∷ xs))) (shifted-cells store o offset base ds cs k.rest h.2 k.others))

pub part-cells : (store : Store) (o : Object) (offset from base : ℕ) (ds cells : List Cell) (vs : Values) → InPlace base ds (drop from cells) → read_cells store o offset cells ≡ Fine vs → read_cells store o (offset + base) ds ≡ Fine (take (length ds) (drop from vs))
part-cells store o offset from base ds cells vs h e = shifted-cells store o offset base ds (drop from cells) (drop from vs) h (dropped-cells store o offset from cells vs e)

-- the first of some cells is read, so its struct's place is reached
pub struct-place : (store blocks : Store) → Agrees store blocks → (o : Object) (offset base : ℕ) (ds : List Cell) (vs : Values) → 0 < length ds → read_cells store o (offset + base) ds ≡ Fine vs → m.further blocks base (Pointer o offset) ≡ Fine (Pointer o (offset + base))
struct-place store blocks agrees o offset base [] vs some e = absurd (omega arith)
struct-place store blocks agrees o offset base (d ∷ ds) vs some e =
    let h = read-parts store o (offset + base) d ds vs e in
    let s = stood-taken store o (offset + base + d.offset) d.kind h.first h.reads in
    further-none blocks base (Pointer o offset) (Pointer o (offset + base)) (member-fine store blocks agrees o offset base (offset + base + d.offset) d.kind s.0 (omega arith))

module _ (u : Code) (g : Setting) (p : Prog) (home : Home) (n : Mark) (s : typed.State) where
  -- all cells are read into registers side by side
  pub record WereRead (b : State) (t : Point) (from : ℕ) (base : ℕ → Value) (blocks : Store) (vs : Values) : Type 0 where
    pub registers : ℕ → Value
    pub leads : Reaches u g b (at home n t registers blocks s)
    pub kept : (q : ℕ) → q < from → registers q ≡ base q
    pub has : HasArguments registers from vs

  pub reads : (store blocks : Store) → Agrees store blocks → (o : Object) (offset : ℕ) (cells : List Cell) (vs : Values) (ns : List ℕ) (pointer from : ℕ) (t : Point) (registers : ℕ → Value) → length ns ≡ length cells → pointer < from → registers pointer ≡ Pointer o offset
      → read_cells store o offset cells ≡ Fine vs → WereRead (at home n (reads_of pointer from cells ns t) registers blocks s) t from registers blocks vs
  reads store blocks agrees o offset [] vs ns pointer from t registers many lt has e =
      let same : [] ≡ vs = cc in
      record { registers = registers; leads = here u g (at home n t registers blocks s); kept = λ q l. refl; has = subst (HasArguments registers from) same tt }
  reads store blocks agrees o offset (c ∷ cs) vs [] pointer from t registers many lt has e = absurd (cc)
  reads store blocks agrees o offset (c ∷ cs) vs (k ∷ ks) pointer from t registers many lt has e =
      let h = read-parts store o offset c cs vs e in
      let there = stood-taken store o (offset + c.offset) c.kind h.first h.reads in
      let one : ℕ → Value = with_register registers from h.first in
      let rest_many : length ks ≡ length cs = cc in
      let rest = reads store blocks agrees o offset cs h.rest ks pointer (suc from) t one rest_many (omega arith) (register-other registers from pointer h.first (λ q. omega arith) ∙ has) h.others in
      let where_ : m.Location = record { object = o; offset = offset + c.offset } in
      let place : m.place_of (Through pointer c.offset) home.active registers blocks ≡ Fine (Pointer o (offset + c.offset)) =
      ap (m.further blocks c.offset) has
      ∙ further-none blocks c.offset (Pointer o offset) (Pointer o (offset + c.offset)) (member-fine store blocks agrees o offset c.offset (offset + c.offset) c.kind there.0 (omega arith)) in
      let now : m.read_place (Through pointer c.offset) c.kind home.active registers blocks ≡ Fine (record { at = where_; value = h.first }) =
      ap (λ r. then_ (then_ r m.location_of) (λ (x : m.Location). m.found_in x (read_cell blocks x.object x.offset c.kind))) place
      ∙ ap (m.found_in where_) (agree-read store blocks agrees o (offset + c.offset) c.kind h.first h.reads) in
      record {
        registers = rest.registers;
        leads = further u g (stepped u g _ (ap (λ r. m.reads from (m.site_of k c.kind) r (reads_of pointer (suc from) cs ks t).rest (at home n (before (Read from (Through pointer c.offset) c.kind k) (reads_of pointer (suc from) cs ks t)) registers blocks s)) now)) rest.leads;
        kept = λ q l. rest.kept q (omega arith) ∙ register-other registers from q h.first (λ z. omega arith);
        has = subst (HasArguments rest.registers from) h.is (rest.kept from (omega arith) ∙ register-same registers from h.first, rest.has);
      }

  -- all cells are written
  pub record WereWritten (b : State) (t : Point) (registers : ℕ → Value) (after : Store) : Type 0 where
    pub left : Store
    pub leads : Reaches u g b (at home n t registers left s)
    pub agrees : Agrees after left

  pub writes : (begun : ℕ) (values_in : Store) (place : Place) (o : Object) (offset : ℕ) (registers : ℕ → Value) (cells : List Cell) (vs : Values) (ks : List ℕ) (from : ℕ) (t : Point) (store blocks after : Store)
      → ((mid left : Store) → ((q : Object) → mid.shape q ≡ store.shape q) → Agrees mid left → m.place_of place home.active registers left ≡ Fine (Pointer o offset))
      → Agrees store blocks → length ks ≡ length cells → HasArguments registers from vs → AreValues begun values_in (kinds_of cells) vs → write_cells store o offset cells vs ≡ Fine after
      → WereWritten (at home n (writes_of place from cells ks t) registers blocks s) t registers after
  writes begun values_in place o offset registers [] vs ks from t store blocks after designates agrees many has fits e =
      let same : store ≡ after = cc in
      record { left = blocks; leads = here u g (at home n t registers blocks s); agrees = subst (λ x. Agrees x blocks) same agrees }
  writes begun values_in place o offset registers (c ∷ cs) vs [] from t store blocks after designates agrees many has fits e = absurd (cc)
  writes begun values_in place o offset registers (c ∷ cs) [] (k ∷ ks) from t store blocks after designates agrees many has fits e = absurd fits
  writes begun values_in place o offset registers (c ∷ cs) (v ∷ vs) (k ∷ ks) from t store blocks after designates agrees many has fits e =
      let h = then-fine (write_cell store o (offset + c.offset) c.kind v) (λ mid. write_cells mid o offset cs vs) after e in
      let there = unless-fine (stands store o (offset + c.offset) c.kind) (record store { values = with_value store.values o (offset + c.offset) v }) h.0 _ h.1 in
      let shapes : (q : Object) → (h.0).shape q ≡ store.shape q = λ q. ap (λ (x : Store). x.shape q) there.1 in
      let wrote = agree-write store blocks agrees o (offset + c.offset) c.kind v h.0 h.1 in
      let rest_many : length ks ≡ length cs = cc in
      let rest = writes begun values_in place o offset registers cs vs ks (suc from) t h.0 wrote.left after (λ mid left same ag. designates mid left (λ q. same q ∙ shapes q) ag) wrote.agrees rest_many has.1 fits.1 h.2 in
      let where_ : m.Location = record { object = o; offset = offset + c.offset } in
      let at_cell : m.place_of (further_in place c.offset) home.active registers blocks ≡ Fine (Pointer o (offset + c.offset)) =
      further-in place home.active registers blocks c.offset (Pointer o offset) (Pointer o (offset + c.offset)) (designates store blocks (λ q. refl) agrees)
      (member-fine store blocks agrees o offset c.offset (offset + c.offset) c.kind there.0 (omega arith)) in
      let now : m.write_place (further_in place c.offset) c.kind (registers from) home.active registers blocks ≡ Fine (record { at = where_; store = wrote.left }) =
      ap (λ x. m.write_place (further_in place c.offset) c.kind x home.active registers blocks) has.0
      ∙ ap (λ r. then_ (then_ r m.location_of) (λ (x : m.Location). then_ (m.stored c.kind v) (λ y. m.left_in x (write_cell blocks x.object x.offset c.kind y)))) at_cell
      ∙ ap (λ r. then_ r (λ y. m.left_in where_ (write_cell blocks o (offset + c.offset) c.kind y))) (stored-same begun values_in c.kind v fits.0)
      ∙ ap (m.left_in where_) wrote.is in
      record {
        left = rest.left;
        leads = further u g (stepped u g _ (ap (λ r. m.writes (m.site_of k c.kind) r (writes_of place (suc from) cs ks t).rest (at home n (before (Write (further_in place c.offset) c.kind from k) (writes_of place (suc from) cs ks t)) registers blocks s)) now)) rest.leads;
        agrees = rest.agrees;
      }

  -- behind the copy of a struct
  pub record Copied (from : ℕ) (base : ℕ → Value) (v : Value) (cells : List Cell) (values : Values) (vs : Values) (t : typed.State) (after : ℕ → Value) (store : Store) : Type 0 where
    pub same : vs ≡ values
    pub agrees : Agrees t.world.store store
    pub kept : (q : ℕ) → q < from → after q ≡ base q
    pub shapes : (q : Object) → t.world.store.shape q ≡ s.world.store.shape q
    pub has : HasCellsOf cells vs t.world.store v

module _ (u : Code) (g : Setting) (p : Prog) (home : Home) where
  -- a struct's value is its address
  pub struct-line : (v : Value) (place : Place) (count : ℕ) (cells : List Cell) (to free : ℕ) (n : Mark) (next : Point) (base registers : ℕ → Value) (store : Store) (s : typed.State) → m.place_of place home.active registers store ≡ Fine v → Agrees s.world.store store
      → ((x : ℕ) → x < free → (x ≡ to → ⊥) → registers x ≡ base x)
      → Does u g p home next (at home n (before (Address to place) next) registers store s) (λ vs t after left. CameAs (Some (Struct count cells)) base to free vs t after left × (after to ≡ v)) (read_at (Struct count cells) v s)
  struct-line (Pointer o offset) place count cells to free n next base registers store s is agrees kept =
      does-later u g p home (line-goes u g p home (Address to place) next n registers store s to (m.place_of place home.active registers store) (Pointer o offset) refl is)
      (checks u g p home next n (with_register registers to (Pointer o offset)) store s (read_cells s.world.store o offset cells)
      (λ vs e. (
        record {
          agrees = agrees;
          kept = λ q l ne. register-other registers to q (Pointer o offset) ne ∙ kept q l ne;
          has = (o, offset, register-same registers to (Pointer o offset), e);
        },
        register-same registers to (Pointer o offset),
      )))
  struct-line (Number z) place count cells to free n next base registers store s is agrees kept = record { by = tt }
  struct-line Null place count cells to free n next base registers store s is agrees kept = record { by = tt }
  struct-line Unset place count cells to free n next base registers store s is agrees kept = record { by = tt }

  -- one cell of a struct
  pub part-line : (o : Object) (i : ℕ) (cell : Cell) (value : Value) (kind : Kind) (offset access to free : ℕ) (n : Mark) (next : Point) (base registers : ℕ → Value) (store : Store) (s : typed.State) → offset ≡ cell.offset → cell.kind ≡ kind → registers free ≡ Pointer o i
      → read_cell s.world.store o (i + cell.offset) cell.kind ≡ Fine value → Agrees s.world.store store → ((x : ℕ) → x < free → (x ≡ to → ⊥) → registers x ≡ base x)
      → Does u g p home next (at home n (before (Read to (Through free offset) kind access) next) registers store s) (Came base to free) (typed.Gives (value ∷ []) s)
  part-line o i cell value kind offset access to free n next base registers store s same same_kind has e agrees kept =
      let where_ : m.Location = record { object = o; offset = i + cell.offset } in
      let there = stood-taken s.world.store o (i + cell.offset) cell.kind value e in
      let place : m.place_of (Through free offset) home.active registers store ≡ Fine (Pointer o (i + cell.offset)) =
      ap (λ d. m.further store d (registers free)) same ∙ ap (m.further store cell.offset) has
      ∙ further-none store cell.offset (Pointer o i) (Pointer o (i + cell.offset)) (member-fine s.world.store store agrees o i cell.offset (i + cell.offset) cell.kind there.0 (omega arith)) in
      let now : m.read_place (Through free offset) kind home.active registers store ≡ Fine (record { at = where_; value = value }) =
      ap (λ r. then_ (then_ r m.location_of) (λ (x : m.Location). m.found_in x (read_cell store x.object x.offset kind))) place
      ∙ ap (m.found_in where_) (agree-read s.world.store store agrees o (i + cell.offset) kind value (ap (read_cell s.world.store o (i + cell.offset)) (sym same_kind) ∙ e)) in
      does-later u g p home
      (stepped u g _ (ap (λ r. m.reads to (m.site_of access kind) r next.rest (at home n (before (Read to (Through free offset) kind access) next) registers store s)) now))
      (arrived u g p home next n base registers to free value store s agrees kept)

-- the whole of a part is a struct
pub part-shape : (from : ℕ) (x : Access) (shape : Option Access) → IsPart from x shape → (count : ℕ) × (cells : List Cell) × (shape ≡ Some (Struct count cells))
part-shape from x None h = absurd h
part-shape from x (Some (Scalar kind)) h = absurd h
part-shape from x (Some (Struct count cells)) h = (count, cells, refl)

-- values that are used, where there are any
pub if-used : {A : Type 0} (vs : Values) (x : typed.State) (run : Run A) (D : Answer A → Type 0) → ((why : Undefined) → D (Stops (Fails why))) → D (run x) → D (typed.goes_on (used vs x) (λ _. run))
if-used [] x run D fails h = fails MissingResult
if-used (v ∷ vs) x run D fails h = if-taken (taken x.world.store v)
  where
    if-taken : (r : Checked Value) → D (typed.goes_on (checked r x) (λ _. run))
    if-taken (Fine a) = h
    if-taken (Bad why) = fails why
