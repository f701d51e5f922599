-- Accesses of block code, to a place that is known.
use Rattle.std.proofs.Common.{◌≡◌, ℕ, ◌+◌, ◌<◌, [], ◌∷◌, Bool, refl, sym, ap, ◌∙◌, subst, arith}
use Rattle.std.specs.Prelude.{Some, ℤ, if◌then◌else◌}
use Rattle.im_num.specs.declared.kind.Kind.{Kind}
use Rattle.im_num.specs.declared.kind.Kind.TheVariants.{Ptr}
use Rattle.im_num.specs.Kinds.{wrap}
use Rattle.im_num.proofs.Wrapping.{wrap-of_kind}
use Rattle.im_store.specs.declared.operators.BinaryOp.{BinaryOp}
use Rattle.im_store.specs.Checks.{Checked, Fine, Bad, then_}
use Rattle.im_store.specs.Numbers.{apply}
use Rattle.im_store.specs.Objects.{Object, Value, Number, Null, Pointer, Unset, Store}
use Rattle.im_store.specs.Pointers.{moved_by, bytes_moved}
use Rattle.im_store.specs.Access.{taken, read_cell, write_cell}
use Rattle.im_typed.specs.declared.expression.Change.TheVariants.{Number as NumberBy, Move as PointerBy}
use Rattle.im_typed.specs.Program.{Prog, Scalar}
use Rattle.im_typed.specs.Runs.{Answer, Run, ◌>>=◌, give, checked}
use Rattle.im_typed.specs.Runs as typed
use Rattle.im_typed.specs.Values.{Values, Operates, used, read_at, write_at, changed, scalar}
use Rattle.im_typed.specs.Typing.{IsInteger}
use Rattle.im_typed.specs.Sound.{IsValue, IsSoundWorld, Fits}
use Rattle.im_typed.proofs.Parts.{rel-read_at}
use Rattle.im_typed.proofs.SoundCells.{right-read, moved-value}
use Rattle.im_block.specs.declared.code.Place.{Place}
use Rattle.im_block.specs.declared.code.Line.TheVariants.{Move, Convert, Compute, Read, Write}
use Rattle.im_block.specs.declared.unit.Unit.{Unit as Code}
use Rattle.im_block.specs.Meaning as m
use Rattle.im_block.specs.Meaning.{Setting, Event, State, with_register}
use Rattle.im_lower_relation.specs.Codes.{Point, before}
use Rattle.im_lower_relation.specs.Agrees.{Agrees, Home, Mark, at, Does, HasOne, Came}
use Rattle.im_lower_relation.proofs.Steps.{Right, stepped, does-later, does-bind, does-checked, does-weaker}
use Rattle.im_lower_relation.proofs.Stores.{agree-read, agree-write, agree-moved}
use Rattle.im_lower_relation.proofs.Uses.{register-same, register-other, does-line, arrived, stands}
use Rattle.im_lower_relation.proofs.Operands.{stored-same, moved-same}

then-cell : (r : Checked Store) (after : Store) → then_ r (λ x. Fine x) ≡ Fine after → r ≡ Fine after
then-cell (Fine x) after e = e
then-cell (Bad why) after e = absurd (cc)

-- operators that give their results at once
pub record AtOnce (operates : Operates) : Type 0 where
  pub by : (op : BinaryOp) (kind : Kind) (x y : ℤ) (s : typed.State) → operates op kind x y s ≡ checked (apply op kind x y) s

-- a change of a number is its operator, and a conversion of what this gives

given-number : {B : Type 0} (r : Checked ℤ) (kind : Kind) (rest : Value → Run B) (s : typed.State) → typed.goes_on (typed.goes_on (checked r s) (λ z. give (Number (wrap kind z)))) rest ≡ typed.goes_on (checked r s) (λ z. rest (Number (wrap kind z)))
given-number (Fine z) kind rest s = refl
given-number (Bad why) kind rest s = refl

changed-number : {B : Type 0} (operates : Operates) → AtOnce operates → (kind : Kind) (op : BinaryOp) (at_kind : Kind) (first : Value) (a b : ℤ) (rest : Value → Run B) (s : typed.State) → first ≡ Number a
    → typed.goes_on (changed operates (NumberBy kind op at_kind) first b s) rest ≡ typed.goes_on (checked (apply op at_kind (wrap at_kind a) b) s) (λ z. rest (Number (wrap kind z)))
changed-number operates once kind op at_kind first a b rest s is =
    ap (λ v. typed.goes_on (changed operates (NumberBy kind op at_kind) v b s) rest) is
    ∙ ap (λ r. typed.goes_on (typed.goes_on r (λ z. give (Number (wrap kind z)))) rest) (once.by op at_kind (wrap at_kind a) b s)
    ∙ given-number (apply op at_kind (wrap at_kind a) b) kind rest s

changes-same : (op : BinaryOp) (kind : Kind) (v w : Value) (x y z : ℤ) → v ≡ Number x → w ≡ Number y → m.right_of op kind y ≡ y → apply op kind (wrap kind x) y ≡ Fine z → m.as_number (m.computed op kind v w) ≡ Fine (Number z)
changes-same op kind v w x y z ev ew hy e =
    ap (λ r. m.as_number (m.computed op kind r w)) ev
    ∙ ap (λ r. m.as_number (then_ (m.number_of r) (λ b. apply op kind (wrap kind x) (m.right_of op kind b)))) ew
    ∙ ap (λ b. m.as_number (apply op kind (wrap kind x) b)) hy ∙ ap m.as_number e

module _ (u : Code) (g : Setting) (p : Prog) (home : Home) where
  -- where a place is
  abbrev pub Designates : Place → Value → (ℕ → Value) → Store → Type 0
  Designates place v registers store = m.place_of place home.active registers store ≡ Fine v

  abbrev plain : Object → ℕ → m.Location
  plain o offset = record { object = o; offset = offset }

  pub read-line : (v : Value) (place : Place) (kind : Kind) (access to free : ℕ) (n : Mark) (next : Point) (base registers : ℕ → Value) (store : Store) (s : typed.State) → Designates place v registers store → Agrees s.world.store store
      → ((x : ℕ) → x < free → (x ≡ to → ⊥) → registers x ≡ base x)
      → Does u g p home next (at home n (before (Read to place kind access) next) registers store s) (Came base to free) (read_at (Scalar kind) v s)
  read-line (Pointer o offset) place kind access to free n next base registers store s is agrees kept = by_read (read_cell s.world.store o (offset + 0) kind) refl
    where
      by_read : (r : Checked Value) → read_cell s.world.store o (offset + 0) kind ≡ r → Does u g p home next (at home n (before (Read to place kind access) next) registers store s) (Came base to free) (checked (then_ r (λ v. Fine (v ∷ []))) s)
      by_read (Bad why) e = record { by = tt }
      by_read (Fine v) e =
          let same : offset ≡ offset + 0 = omega arith in
          let now : m.read_place place kind home.active registers store ≡ Fine (record { at = plain o offset; value = v }) =
          ap (λ r. then_ (then_ r m.location_of) (λ (x : m.Location). m.found_in x (read_cell store x.object x.offset kind))) is
          ∙ ap (λ i. m.found_in (plain o offset) (read_cell store o i kind)) same
          ∙ ap (m.found_in (plain o offset)) (agree-read s.world.store store agrees o (offset + 0) kind v e) in
          does-later u g p home
          (stepped u g _ (ap (λ r. m.reads to (m.site_of access kind) r next.rest (at home n (before (Read to place kind access) next) registers store s)) now))
          (arrived u g p home next n base registers to free v store s agrees kept)
  read-line (Number z) place kind access to free n next base registers store s is agrees kept = record { by = tt }
  read-line Null place kind access to free n next base registers store s is agrees kept = record { by = tt }
  read-line Unset place kind access to free n next base registers store s is agrees kept = record { by = tt }

  pub right-reading : (v : Value) (kind : Kind) (s : typed.State) → IsSoundWorld p.statics s.world → Right p.statics s (Fits (Some (Scalar kind))) (read_at (Scalar kind) v s)
  right-reading v kind s sane = record {
    right = right-read p.statics (Scalar kind) v s sane;
    spends = (rel-read_at {k = 0} {b = 0} (Scalar kind) v).tame.by s;
  }

  -- behind a write: no register has changed
  pub record Wrote (registers : ℕ → Value) (values : Values) (vs : Values) (t : typed.State) (after : ℕ → Value) (store : Store) : Type 0 where
    pub same : vs ≡ values
    pub agrees : Agrees t.world.store store
    pub kept : (x : ℕ) → after x ≡ registers x

  pub write-line : (v : Value) (place : Place) (kind : Kind) (access from : ℕ) (n : Mark) (next : Point) (registers : ℕ → Value) (store : Store) (value : Value) (values : Values) (s : typed.State)
      → Designates place v registers store → Agrees s.world.store store → IsValue s.world.activations s.world.store kind value → registers from ≡ value
      → Does u g p home next (at home n (before (Write place kind from access) next) registers store s) (Wrote registers (value ∷ values)) (write_at (Scalar kind) v (value ∷ values) s)
  write-line (Pointer o offset) place kind access from n next registers store value values s is agrees fits has =
      does-checked u g p home (then_ (write_cell s.world.store o (offset + 0) kind value) (λ x. Fine x)) s _ (λ after e.
      let same : offset ≡ offset + 0 = omega arith in
      let b = agree-write s.world.store store agrees o (offset + 0) kind value after (then-cell _ after e) in
      let now : m.write_place place kind (registers from) home.active registers store ≡ Fine (record { at = plain o offset; store = b.left }) =
      ap (λ x. m.write_place place kind x home.active registers store) has
      ∙ ap (λ r. then_ (then_ r m.location_of) (λ (x : m.Location). then_ (m.stored kind value) (λ t. m.left_in x (write_cell store x.object x.offset kind t)))) is
      ∙ ap (λ r. then_ r (λ t. m.left_in (plain o offset) (write_cell store o offset kind t))) (stored-same s.world.activations s.world.store kind value fits)
      ∙ ap (λ i. m.left_in (plain o offset) (write_cell store o i kind value)) same
      ∙ ap (m.left_in (plain o offset)) b.is in
      let t : typed.State = record { world = record s.world { store = after }; fuel = s.fuel } in
      does-later u g p home {c = at home n next registers b.left t}
      (stepped u g _ (ap (λ r. m.writes (m.site_of access kind) r next.rest (at home n (before (Write place kind from access) next) registers store s)) now))
      (stands u g p home (λ _. next) n registers b.left t (value ∷ values) (record { same = refl; agrees = b.agrees; kept = λ x. refl })))
  write-line (Number z) place kind access from n next registers store value values s is agrees fits has = record { by = tt }
  write-line Null place kind access from n next registers store value values s is agrees fits has = record { by = tt }
  write-line Unset place kind access from n next registers store value values s is agrees fits has = record { by = tt }

  -- a value that is used is written
  pub assigned : (v : Value) (place : Place) (kind : Kind) (access to free : ℕ) (n : Mark) (next : Point) (base registers : ℕ → Value) (store : Store) (vs : Values) (s : typed.State) → Designates place v registers store
      → Fits (Some (Scalar kind)) s.world vs → Came base to free vs s registers store
      → Does u g p home next (at home n (before (Write place kind to access) next) registers store s) (Came base to free) (typed.goes_on (used vs s) (λ _. write_at (Scalar kind) v vs))
  assigned v place kind access to free n next base registers store [] s is fits came = record { by = tt }
  assigned v place kind access to free n next base registers store (w ∷ ws) s is fits came =
      does-checked u g p home (taken s.world.store w) s _ (λ a e.
      does-weaker u g p home
      (λ vs t after left h. record { agrees = h.agrees; kept = λ x lt ne. h.kept x ∙ came.kept x lt ne; has = subst (λ l. HasOne l (after to)) (sym h.same) (h.kept to ∙ came.has) })
      (write-line v place kind access to n next registers store w ws s is came.agrees fits.0 came.has))

  -- the lines that change a number: the old one stands in a register, and by how much in another one
  pub change-lines : (operates : Operates) → AtOnce operates → (v : Value) (place : Place) (kind : Kind) (op : BinaryOp) (at_kind : Kind) (old : Bool) (access into to by free : ℕ) (n : Mark) (next : Point) (base registers : ℕ → Value) (store : Store) (first : Value) (a b : ℤ) (s : typed.State)
      → IsInteger kind → first ≡ Number a → ((x y : Value) → Designates place v (with_register (with_register registers into x) into y) store) → Agrees s.world.store store
      → registers to ≡ first → registers by ≡ Number b → m.right_of op at_kind b ≡ b
      → ((x : ℕ) → x < free → (x ≡ to → ⊥) → registers x ≡ base x) → ((x : ℕ) → x < free → (x ≡ to → ⊥) → x ≡ into → ⊥)
      → ((x y : Value) → with_register (with_register registers into x) into y to ≡ (if old then first else y))
      → Does u g p home next (at home n (before (Compute into op at_kind to by) (before (Convert into kind into) (before (Write place kind into access) next))) registers store s) (Came base to free)
      (typed.goes_on (changed operates (NumberBy kind op at_kind) first b s) (λ after. write_at (Scalar kind) v (after ∷ []) >>= (λ _. scalar (if old then first else after))))
  change-lines operates once v place kind op at_kind old access into to by free n next base registers store first a b s i is designates agrees has has_by right kept apart shows =
      let stores : Value → Run Values = λ after. write_at (Scalar kind) v (after ∷ []) >>= (λ _. scalar (if old then first else after)) in
      subst (λ r. Does u g p home next (at home n (before (Compute into op at_kind to by) (before (Convert into kind into) (before (Write place kind into access) next))) registers store s) (Came base to free) r)
      (sym (changed-number operates once kind op at_kind first a b stores s is))
      (does-checked u g p home (apply op at_kind (wrap at_kind a) b) s _ (λ z e.
      let x : Value = Number z in
      let y : Value = Number (wrap kind z) in
      let one : ℕ → Value = with_register registers into x in
      let two : ℕ → Value = with_register one into y in
      does-line u g p home (Compute into op at_kind to by) (before (Convert into kind into) (before (Write place kind into access) next)) n registers store s into (m.as_number (m.computed op at_kind (registers to) (registers by))) x refl
      (changes-same op at_kind (registers to) (registers by) a b z (has ∙ is) has_by right e)
      (does-line u g p home (Convert into kind into) (before (Write place kind into access) next) n one store s into (m.as_number (m.converted kind (one into))) y refl
      (ap (λ r. m.as_number (m.converted kind r)) (register-same registers into x))
      (does-bind u g p home
      (write-line v place kind access into n next two store y [] s (designates x y) agrees (i, wrap-of_kind kind z) (register-same one into y))
      (λ vs t m₁ regs left h.
      stands u g p home (λ _. next) m₁ regs left t ((if old then first else y) ∷ []) (record {
        agrees = h.agrees;
        kept = λ q lt ne. h.kept q ∙ register-other one into q y (apart q lt ne) ∙ register-other registers into q x (apart q lt ne) ∙ kept q lt ne;
        has = h.kept to ∙ shows x y;
      }))))))

  -- the lines that move a pointer
  pub move-lines : (operates : Operates) (v : Value) (place : Place) (size : ℕ) (back old : Bool) (access into to by free : ℕ) (n : Mark) (next : Point) (base registers : ℕ → Value) (store : Store) (first : Value) (b : ℤ) (s : typed.State)
      → IsSoundWorld p.statics s.world → ((x : Value) → Designates place v (with_register registers into x) store) → Agrees s.world.store store
      → registers to ≡ first → registers by ≡ Number b
      → ((x : ℕ) → x < free → (x ≡ to → ⊥) → registers x ≡ base x) → ((x : ℕ) → x < free → (x ≡ to → ⊥) → x ≡ into → ⊥)
      → ((x : Value) → with_register registers into x to ≡ (if old then first else x))
      → Does u g p home next (at home n (before (Move into size back to by) (before (Write place Ptr into access) next)) registers store s) (Came base to free)
      (typed.goes_on (changed operates (PointerBy size back) first b s) (λ after. write_at (Scalar Ptr) v (after ∷ []) >>= (λ _. scalar (if old then first else after))))
  move-lines operates v place size back old access into to by free n next base registers store first b s sane designates agrees has has_by kept apart shows =
      does-checked u g p home (moved_by s.world.store (bytes_moved size back b) first) s _ (λ after e.
      let one : ℕ → Value = with_register registers into after in
      does-line u g p home (Move into size back to by) (before (Write place Ptr into access) next) n registers store s into (m.moved store size back (registers to) (registers by)) after refl
      (moved-same store size back (registers to) (registers by) first after b has has_by (agree-moved s.world.store store agrees (bytes_moved size back b) first after e))
      (does-bind u g p home
      (write-line v place Ptr access into n next one store after [] s (designates after) agrees (moved-value p.statics s.world.activations s.world.store sane.store (bytes_moved size back b) first after e) (register-same registers into after))
      (λ vs t m₁ regs left h.
      stands u g p home (λ _. next) m₁ regs left t ((if old then first else after) ∷ []) (record {
        agrees = h.agrees;
        kept = λ q lt ne. h.kept q ∙ register-other registers into q after (apart q lt ne) ∙ kept q lt ne;
        has = h.kept to ∙ shows after;
      }))))
