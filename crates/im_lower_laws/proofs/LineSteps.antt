-- The lines that lowering puts, each with what it adds.
use Rattle.std.proofs.Common.{◌≡◌, ◌≢◌, ◌⊎◌, ℕ, zero, suc, ◌+◌, ◌*◌, ◌^◌, ◌<◌, ◌≤◌, Bool, true, false, List, [], ◌∷◌, length, take, drop, refl, arith}
use Rattle.std.specs.Prelude.{slice_get, ℤ, pos, Some, None}
use Rattle.im_num.specs.declared.kind.Kind.{Kind}
use Rattle.im_num.specs.declared.kind.Kind.TheVariants.{I8, U8, I16, U16, I32, U32, Ptr}
use Rattle.im_ctype.specs.declared.cell.Cell.{Cell}
use Rattle.im_store.specs.declared.operators.BinaryOp.{BinaryOp}
use Rattle.im_store.specs.declared.operators.UnaryOp.{UnaryOp}
use Rattle.im_store.specs.declared.operators.Comparison.{Comparison}
use Rattle.im_typed.specs.declared.expression.Change.{Change}
use Rattle.im_typed.specs.declared.expression.Change.TheVariants.{Number as NumberBy, Move as PointerBy}
use Rattle.im_typed.specs.Program as p
use Rattle.im_typed.specs.Values.{changed_kind}
use Rattle.im_serve.specs.declared.service.Service.{Service}
use Rattle.im_serve.specs.Services.{row, IsNullary, IsUnary}
use Rattle.im_block.specs.declared.code.Place.{Place}
use Rattle.im_block.specs.declared.code.Place.TheVariants.{Static, Local, Through}
use Rattle.im_block.specs.declared.code.Line.TheVariants.{Put, PutNull, Convert, Unary, Not, Compute, Compare, Move, Distance, Address, Read, Write, Call, Serve}
use Rattle.im_block.specs.Shape.{narrowing, place_registers}
use Rattle.im_block.specs.declared.unit.Function.{Function}
use Rattle.im_alloc_placed.specs.Operands.{IsPromoted, PlaceExists, PlaceFrom}
use Rattle.im_typed.specs.Typing.{Each}
use Rattle.im_lower_relation.specs.Codes.{further_in}
use Rattle.im_lower_relation.specs.Lowered.{HasParameters}
use Rattle.im_lower_plain.specs.Made.{Made, above_place, put, put_read, put_write}
use Rattle.im_lower_plain.specs.Make.{put_load, put_reads, put_writes, put_group, put_groups, put_change, changed_in, put_increment}
use Rattle.im_lower_laws.proofs.Steps.{Step, at_most, step_put, step_access}

narrow : (kind : Kind) → narrowing kind ≤ 2
narrow I8 = omega arith
narrow U8 = omega arith
narrow I16 = omega arith
narrow U16 = omega arith
narrow I32 = omega arith
narrow U32 = omega arith
narrow Ptr = omega arith

-- a register that may be set or used
pub record Good_register (low limit r : ℕ) : Type 0 where
  pub from : low ≤ r
  pub below : r + 1 ≤ limit

-- bytes from the object or pointer of a place
abbrev pub place_offset : Place → ℕ
place_offset (Static object offset) = offset
place_offset (Local object offset) = offset
place_offset (Through pointer offset) = offset

-- a place that is there, and whose register may be used
pub record GoodPlace (statics : ℕ) (code : Function) (low limit : ℕ) (place : Place) : Type 0 where
  pub from : PlaceFrom low place
  pub below : above_place place ≤ limit
  pub one : place_registers place ≤ 1
  pub exists : PlaceExists statics code place

pub further_good : {statics : ℕ} {code : Function} {low limit : ℕ} (place : Place) (d : ℕ) → place_offset place + d ≤ 2097152 → GoodPlace statics code low limit place → GoodPlace statics code low limit (further_in place d)
further_good (Static object offset) d near h = record { from = h.from; below = h.below; one = h.one; exists = (h.exists.0, near) }
further_good (Local object offset) d near h = record { from = h.from; below = h.below; one = h.one; exists = (h.exists.0, near) }
further_good (Through pointer offset) d near h = record { from = h.from; below = h.below; one = h.one; exists = near }

-- an update of promoted numbers, or by an element's bytes
abbrev pub GoodChange : Change → Type 0
GoodChange (NumberBy kind op at) = (kind ≢ Ptr) × IsPromoted at
GoodChange (PointerBy size back) = size < 2 ^ 32

module _ (g : p.Prog) (code : Function) (low limit : ℕ) where
  abbrev R : ℕ → Type 0
  R r = Good_register low limit r

  pub adds_put : {c t : ℕ} {m n : Made} (to : ℕ) (z : ℤ) → R to → Step g code low limit c t m n → Step g code low limit (c + 7) t m (put (Put to z) n)
  adds_put to z r h =
      let below = r.below in
      step_put g code low limit (Put to z) 7 (record { small = omega arith; calls = tt; from = r.from; uncut = tt; placeable = tt }) refl (omega arith) (omega arith) h

  pub adds_null : {c t : ℕ} {m n : Made} (to : ℕ) → R to → Step g code low limit c t m n → Step g code low limit (c + 7) t m (put (PutNull to) n)
  adds_null to r h =
      let below = r.below in
      step_put g code low limit (PutNull to) 7 (record { small = omega arith; calls = tt; from = r.from; uncut = tt; placeable = tt }) refl (omega arith) (omega arith) h

  pub adds_service : (service : Service) {c t : ℕ} {m n : Made} (to : ℕ) → R to → IsNullary (row service).parameter → Step g code low limit c t m n → Step g code low limit (c + 7) t m (put (Serve to service None) n)
  adds_service service to r ok h =
      let below = r.below in
      step_put g code low limit (Serve to service None) 7 (record { small = omega arith; calls = tt; from = r.from; uncut = tt; placeable = ok }) refl (omega arith) (omega arith) h

  pub adds_convert : {c t : ℕ} {m n : Made} (to : ℕ) (kind : Kind) (from : ℕ) → R to → R from → (kind ≢ Ptr) → Step g code low limit c t m n → Step g code low limit (c + 11) t m (put (Convert to kind from) n)
  adds_convert to kind from r s ok h =
      let below = r.below in
      let under = s.below in
      step_put g code low limit (Convert to kind from) 11 (record { small = omega arith; calls = tt; from = (r.from, s.from); uncut = tt; placeable = ok }) refl (omega arith) (omega arith) h

  pub adds_unary : {c t : ℕ} {m n : Made} (to : ℕ) (op : UnaryOp) (kind : Kind) (from : ℕ) → R to → R from → IsPromoted kind → Step g code low limit c t m n → Step g code low limit (c + 12) t m (put (Unary to op kind from) n)
  adds_unary to op kind from r s ok h =
      let below = r.below in
      let under = s.below in
      let few = narrow kind in
      step_put g code low limit (Unary to op kind from) 12 (record { small = omega arith; calls = tt; from = (r.from, s.from); uncut = tt; placeable = ok }) refl (omega arith) (omega arith) h

  pub adds_not : {c t : ℕ} {m n : Made} (to from : ℕ) → R to → R from → Step g code low limit c t m n → Step g code low limit (c + 10) t m (put (Not to from) n)
  adds_not to from r s h =
      let below = r.below in
      let under = s.below in
      step_put g code low limit (Not to from) 10 (record { small = omega arith; calls = tt; from = (r.from, s.from); uncut = tt; placeable = tt }) refl (omega arith) (omega arith) h

  pub adds_service_of : (service : Service) {c t : ℕ} {m n : Made} (to from : ℕ) → R to → R from → IsUnary (row service).parameter → Step g code low limit c t m n → Step g code low limit (c + 11) t m (put (Serve to service (Some from)) n)
  adds_service_of service to from r s ok h =
      let below = r.below in
      let under = s.below in
      step_put g code low limit (Serve to service (Some from)) 11 (record { small = omega arith; calls = tt; from = (r.from, s.from); uncut = tt; placeable = ok }) refl (omega arith) (omega arith) h

  pub adds_compute : {c t : ℕ} {m n : Made} (to : ℕ) (op : BinaryOp) (kind : Kind) (left right : ℕ) → R to → R left → R right → IsPromoted kind → Step g code low limit c t m n → Step g code low limit (c + 16) t m (put (Compute to op kind left right) n)
  adds_compute to op kind left right r s q ok h =
      let below = r.below in
      let under = s.below in
      let beneath = q.below in
      let few = narrow kind in
      step_put g code low limit (Compute to op kind left right) 16 (record { small = omega arith; calls = tt; from = (r.from, s.from, q.from); uncut = tt; placeable = ok }) refl (omega arith) (omega arith) h

  pub adds_compare : {c t : ℕ} {m n : Made} (to : ℕ) (op : Comparison) (kind : Kind) (left right : ℕ) → R to → R left → R right → (IsPromoted kind ⊎ (kind ≡ Ptr)) → Step g code low limit c t m n → Step g code low limit (c + 15) t m (put (Compare to op kind left right) n)
  adds_compare to op kind left right r s q ok h =
      let below = r.below in
      let under = s.below in
      let beneath = q.below in
      step_put g code low limit (Compare to op kind left right) 15 (record { small = omega arith; calls = tt; from = (r.from, s.from, q.from); uncut = tt; placeable = ok }) refl (omega arith) (omega arith) h

  pub adds_move : {c t : ℕ} {m n : Made} (to size : ℕ) (back : Bool) (pointer by : ℕ) → R to → R pointer → R by → size < 2 ^ 32 → Step g code low limit c t m n → Step g code low limit (c + 17) t m (put (Move to size back pointer by) n)
  adds_move to size back pointer by r s q ok h =
      let below = r.below in
      let under = s.below in
      let beneath = q.below in
      step_put g code low limit (Move to size back pointer by) 17 (record { small = omega arith; calls = tt; from = (r.from, s.from, q.from); uncut = tt; placeable = ok }) refl (omega arith) (omega arith) h

  pub adds_distance : {c t : ℕ} {m n : Made} (to size left right : ℕ) → R to → R left → R right → (0 < size) × (size < 2 ^ 31) → Step g code low limit c t m n → Step g code low limit (c + 17) t m (put (Distance to size left right) n)
  adds_distance to size left right r s q ok h =
      let below = r.below in
      let under = s.below in
      let beneath = q.below in
      step_put g code low limit (Distance to size left right) 17 (record { small = omega arith; calls = tt; from = (r.from, s.from, q.from); uncut = tt; placeable = ok }) refl (omega arith) (omega arith) h

  pub adds_address : {c t : ℕ} {m n : Made} (to : ℕ) (place : Place) → R to → GoodPlace (length g.statics) code low limit place → Step g code low limit c t m n → Step g code low limit (c + 12) t m (put (Address to place) n)
  adds_address to place r s h =
      let below = r.below in
      let under = s.below in
      let one = s.one in
      step_put g code low limit (Address to place) 12 (record { small = omega arith; calls = tt; from = (r.from, s.from); uncut = tt; placeable = s.exists }) refl (omega arith) (omega arith) h

  pub adds_call : {c t : ℕ} {m n : Made} (to function first count : ℕ) → R to → low ≤ first → first + count ≤ limit → count ≤ 8 → HasParameters (slice_get g.funcs function) count → Step g code low limit c t m n → Step g code low limit (c + (7 + 4 * count)) t m (put (Call to function first count) n)
  adds_call to function first count r from le few takes h =
      let below = r.below in
      step_put g code low limit (Call to function first count) (7 + 4 * count) (record { small = omega arith; calls = takes; from = (r.from, from); uncut = tt; placeable = few }) refl (omega arith) (omega arith) h

  pub adds_read : {c t : ℕ} {m n : Made} (to : ℕ) (place : Place) (kind : Kind) → R to → GoodPlace (length g.statics) code low limit place → Step g code low limit c t m n → Step g code low limit (c + 12) t m (put_read to place kind n)
  unfolding put_read
  adds_read {c} {t} {m} {n} to place kind r s h =
      let below = r.below in
      let under = s.below in
      let one = s.one in
      step_access g code low limit (Read to place kind n.accesses) 12 (record { small = omega arith; calls = tt; from = (r.from, s.from); uncut = tt; placeable = s.exists }) refl (omega arith) (omega arith) h

  pub adds_write : {c t : ℕ} {m n : Made} (place : Place) (kind : Kind) (from : ℕ) → R from → GoodPlace (length g.statics) code low limit place → Step g code low limit c t m n → Step g code low limit (c + 12) t m (put_write place kind from n)
  unfolding put_write
  adds_write {c} {t} {m} {n} place kind from r s h =
      let below = r.below in
      let under = s.below in
      let one = s.one in
      step_access g code low limit (Write place kind from n.accesses) 12 (record { small = omega arith; calls = tt; from = (s.from, r.from); uncut = tt; placeable = s.exists }) refl (omega arith) (omega arith) h

  -- several lines

  pub through_good : (pointer offset : ℕ) → offset ≤ 2097152 → R pointer → GoodPlace (length g.statics) code low limit (Through pointer offset)
  through_good pointer offset near r = record { from = r.from; below = r.below; one = omega arith; exists = near }

  abbrev pub Near : ℕ → List Cell → Type 0
  Near d cells = Each {A = Cell} (λ c. d + c.offset ≤ 2097152) cells

  pub adds_load : {c t : ℕ} {m n : Made} (x : p.Access) (to : ℕ) (place : Place) → R to → GoodPlace (length g.statics) code low limit place → Step g code low limit c t m n → Step g code low limit (c + 12) t m (put_load x to place n)
  adds_load (p.Scalar kind) to place r s h = adds_read to place kind r s h
  adds_load (p.Struct count cells) to place r s h = adds_address to place r s h

  pub adds_reads : {c t : ℕ} {m n : Made} (pointer to : ℕ) (cells : List Cell) → R pointer → Near 0 cells → low ≤ to → to + length cells ≤ limit → Step g code low limit c t m n → Step g code low limit (c + 12 * length cells) t m (put_reads pointer to cells n)
  adds_reads {c} {t} pointer to [] r near from le h = at_most g code low limit (c + 12 * 0) t (omega arith) (omega arith) h
  adds_reads {c} {t} pointer to (cell ∷ cells) r near from le h =
      let next : low ≤ to + 1 = omega arith in
      let room : to + 1 + length cells ≤ limit = omega arith in
      let here : Good_register low limit to = record { from = from; below = omega arith } in
      let close = near.0 in
      at_most g code low limit (c + 12 * length (cell ∷ cells)) t (omega arith) (omega arith)
      (adds_read to (Through pointer cell.offset) cell.kind here (through_good pointer cell.offset (omega arith) r) (adds_reads pointer (to + 1) cells r near.1 next room h))

  pub adds_writes : {c t : ℕ} {m n : Made} (place : Place) (from : ℕ) (cells : List Cell) → GoodPlace (length g.statics) code low limit place → Near (place_offset place) cells → low ≤ from → from + length cells ≤ limit → Step g code low limit c t m n → Step g code low limit (c + 12 * length cells) t m (put_writes place from cells n)
  adds_writes {c} {t} place from [] s near low_from le h = at_most g code low limit (c + 12 * 0) t (omega arith) (omega arith) h
  adds_writes {c} {t} place from (cell ∷ cells) s near low_from le h =
      let next : low ≤ from + 1 = omega arith in
      let room : from + 1 + length cells ≤ limit = omega arith in
      let here : Good_register low limit from = record { from = low_from; below = omega arith } in
      at_most g code low limit (c + 12 * length (cell ∷ cells)) t (omega arith) (omega arith)
      (adds_write (further_in place cell.offset) cell.kind from here (further_good place cell.offset near.0 s) (adds_writes place (from + 1) cells s near.1 next room h))

  near-first : (k d : ℕ) (cells : List Cell) → Near d cells → Near d (take k cells)
  near-first zero d cells h = tt
  near-first (suc k) d [] h = tt
  near-first (suc k) d (cell ∷ cells) h = (h.0, near-first k d cells h.1)

  near-left : (k d : ℕ) (cells : List Cell) → Near d cells → Near d (drop k cells)
  near-left zero d cells h = h
  near-left (suc k) d [] h = tt
  near-left (suc k) d (cell ∷ cells) h = near-left k d cells h.1

  both-lengths : (k : ℕ) (cells : List Cell) → length (take k cells) + length (drop k cells) ≡ length cells
  both-lengths zero cells = omega arith
  both-lengths (suc k) [] = omega arith
  both-lengths (suc k) (cell ∷ cells) = let rest = both-lengths k cells in omega arith

  adds_group : {c t : ℕ} {m n : Made} (pointer : ℕ) (place : Place) (cells : List Cell) → R pointer → GoodPlace (length g.statics) code low limit place → Near 0 cells → Near (place_offset place) cells → pointer + 1 + length cells ≤ limit → Step g code low limit c t m n
      → Step g code low limit (c + 24 * length cells) t m (put_group pointer place cells n)
  adds_group {c} {t} pointer place cells r good near far le h =
      let from = r.from in
      at_most g code low limit (c + 24 * length cells) t (omega arith) (omega arith)
      (adds_reads pointer (pointer + 1) cells r near (omega arith) le (adds_writes place (pointer + 1) cells good far (omega arith) le h))

  pub adds_groups : {c t : ℕ} {m n : Made} (pointer : ℕ) (place : Place) (count : ℕ) (cells : List Cell) → R pointer → GoodPlace (length g.statics) code low limit place → Near 0 cells → Near (place_offset place) cells → pointer + 1 + length cells ≤ limit → Step g code low limit c t m n
      → Step g code low limit (c + 24 * length cells) t m (put_groups pointer place count cells n)
  adds_groups pointer place zero cells r good near far le h = adds_group pointer place cells r good near far le h
  adds_groups {c} {t} pointer place (suc count) cells r good near far le h =
      let both = both-lengths 8 cells in
      at_most g code low limit (c + 24 * length cells) t (omega arith) (omega arith)
      (adds_group pointer place (take 8 cells) r good (near-first 8 0 cells near) (near-first 8 (place_offset place) cells far) (omega arith)
      (adds_groups pointer place count (drop 8 cells) r good (near-left 8 0 cells near) (near-left 8 (place_offset place) cells far) (omega arith) h))

  pub adds_change : {c t : ℕ} {m n : Made} (change : Change) (to old by : ℕ) (place : Place) → R to → R old → R by → GoodPlace (length g.statics) code low limit place → GoodChange change → Step g code low limit c t m n → Step g code low limit (c + 39) t m (put_change change to old by place n)
  adds_change {c} {t} (NumberBy kind op at) to old by place r s q good ok h =
      at_most g code low limit (c + 39) t (omega arith) (omega arith)
      (adds_compute to op at old by r s q ok.1 (adds_convert to kind to r r ok.0 (adds_write place kind to r good h)))
  adds_change {c} {t} (PointerBy size back) to old by place r s q good ok h =
      at_most g code low limit (c + 39) t (omega arith) (omega arith)
      (adds_move to size back old by r s q ok (adds_write place Ptr to r good h))

  changed_good : (old : Bool) (to beside : ℕ) → R to → R beside → R (changed_in old to beside)
  changed_good false to beside r s = r
  changed_good true to beside r s = s

  pub adds_increment : {c t : ℕ} {m n : Made} (change : Change) (old : Bool) (to beside : ℕ) (place : Place) → R to → R beside → GoodPlace (length g.statics) code low limit place → GoodChange change → Step g code low limit c t m n → Step g code low limit (c + 58) t m (put_increment change old to beside place n)
  adds_increment {c} {t} change old to beside place r s good ok h =
      at_most g code low limit (c + 58) t (omega arith) (omega arith)
      (adds_read to place (changed_kind change) r good (adds_put beside (pos 1) s (adds_change change (changed_in old to beside) to beside place (changed_good old to beside r s) r s good ok h)))
