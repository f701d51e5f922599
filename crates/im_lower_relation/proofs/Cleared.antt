-- Cells of an object that become zero one after another, and all at once.
use Rattle.std.proofs.Common.{◌≡◌, ℕ, ◌+◌, ◌<◌, ◌≤◌, ◌==◌, ◌&&◌, List, [], ◌∷◌, Bool, true, false, refl, sym, ap, ◌∙◌, subst, arith}
use Rattle.std.specs.Prelude.{Some, pos, if◌then◌else◌}
use Rattle.std.proofs.lemmas.Int.{ints}
use Rattle.std.proofs.lemmas.Bool.{eqb-true, eq-eqb}
use Rattle.im_num.specs.declared.kind.Kind.{Kind}
use Rattle.im_num.specs.declared.kind.Kind.TheVariants.{I8, U8, I16, U16, I32, U32, Ptr}
use Rattle.im_num.specs.Kinds.{kind_size}
use Rattle.im_ctype.specs.declared.cell.Cell.{Cell}
use Rattle.im_store.specs.Checks.{Fine, then_}
use Rattle.im_store.specs.Objects.{Named, Object, Value, Number, Null, Store, same_object, zero_of, kind_at, shape_of}
use Rattle.im_store.specs.Access.{is_of_kind, has_cell, stands, write_cell, with_value}
use Rattle.im_store.proofs.Same.{same_kind-self, same_object-is}
use Rattle.im_typed.specs.Program as q
use Rattle.im_typed.specs.Runs as typed
use Rattle.im_typed.specs.Meaning.{zero_or, kind_of_cell, is_among, cleared}
use Rattle.im_typed.specs.Typing.{Each, AreLaidOut}
use Rattle.im_typed.specs.Sound.{IsValue}
use Rattle.im_typed.proofs.SoundCalls.{by-test, if-true, if-false}
use Rattle.im_block.specs.declared.code.Place.TheVariants.{Local}
use Rattle.im_block.specs.declared.code.Line.TheVariants.{Put, PutNull, Write}
use Rattle.im_block.specs.declared.unit.Unit.{Unit as Code}
use Rattle.im_block.specs.Meaning as m
use Rattle.im_block.specs.Meaning.{Setting, with_register}
use Rattle.im_lower_relation.specs.Codes.{Point, before}
use Rattle.im_lower_relation.specs.Statements.{zero_line, CodesRest}
use Rattle.im_lower_relation.specs.Agrees.{Agrees, Home, Mark, at, Reaches}
use Rattle.im_lower_relation.proofs.Steps.{here, stepped, further}
use Rattle.im_lower_relation.proofs.Stores.{agree-write}
use Rattle.im_lower_relation.proofs.Uses.{register-same, line-goes}
use Rattle.im_lower_relation.proofs.Operands.{stored-same}
use Rattle.im_lower_relation.proofs.Layouts.{none-before, some-size, AreFound, local-place}
use Rattle.im_lower_relation.proofs.Entering.{values-agree}

-- what a cleared cell has is of its kind
zero-fits : (begun : ℕ) (store : Store) (kind : Kind) → IsValue begun store kind (zero_of kind)
zero-fits begun store I8 = (tt, record { low = omega (arith, ints); high = omega (arith, ints) })
zero-fits begun store U8 = (tt, record { low = omega (arith, ints); high = omega (arith, ints) })
zero-fits begun store I16 = (tt, record { low = omega (arith, ints); high = omega (arith, ints) })
zero-fits begun store U16 = (tt, record { low = omega (arith, ints); high = omega (arith, ints) })
zero-fits begun store I32 = (tt, record { low = omega (arith, ints); high = omega (arith, ints) })
zero-fits begun store U32 = (tt, record { low = omega (arith, ints); high = omega (arith, ints) })
zero-fits begun store Ptr = refl

-- the values behind one write after another
abbrev pub zeroed : List ℕ → Object → List Cell → (Object → ℕ → Value) → Object → ℕ → Value
zeroed given o [] values = values
zeroed given o (c ∷ cs) values =
    zeroed given o cs (if is_among c.offset given then values else with_value values o c.offset (zero_of c.kind))

-- what is wanted of a cell
abbrev Wanted : List ℕ → Object → List Cell → (Object → ℕ → Value) → Object → ℕ → Value
Wanted given o cells values p i = if same_object p o then (if is_among i given then values p i else zero_or (kind_at cells i) (values p i)) else values p i

one-zero : (given : List ℕ) (o : Object) (c : Cell) (values : Object → ℕ → Value) (p : Object) (i : ℕ) (among : Bool) → is_among c.offset given ≡ among → (c.offset == i) ≡ false
    → (if among then values else with_value values o c.offset (zero_of c.kind)) p i ≡ values p i
one-zero given o c values p i true e ne = refl
one-zero given o c values p i false e ne =
    if-false (same_object p o && i == c.offset) (zero_of c.kind) (values p i) (neither (same_object p o))
  where
    turned : (i == c.offset) ≡ false
    turned = by-test {P = (i == c.offset) ≡ false} (i == c.offset) (λ t. let same : c.offset ≡ i = sym (eqb-true i c.offset t) in let now : (c.offset == i) ≡ true = eq-eqb c.offset i same in absurd (cc)) (λ t. t)

    neither : (b : Bool) → (b && i == c.offset) ≡ false
    neither true = turned
    neither false = refl

pub all-zeroed : (from size : ℕ) (given : List ℕ) (o : Object) (cells : List Cell) (values : Object → ℕ → Value) (p : Object) (i : ℕ) → AreLaidOut from size cells → zeroed given o cells values p i ≡ Wanted given o cells values p i
all-zeroed from size given o [] values p i h = nothing-wanted (same_object p o) (is_among i given)
  where
    nothing-wanted : (b d : Bool) → values p i ≡ (if b then (if d then values p i else values p i) else values p i)
    nothing-wanted true true = refl
    nothing-wanted true false = refl
    nothing-wanted false d = refl
all-zeroed from size given o (c ∷ cs) values p i h =
    let rest : Object → ℕ → Value = if is_among c.offset given then values else with_value values o c.offset (zero_of c.kind) in
    all-zeroed (c.offset + kind_size c.kind) size given o cs rest p i h.2
    ∙ by-test {P = Wanted given o cs rest p i ≡ Wanted given o (c ∷ cs) values p i} (c.offset == i)
    (λ t. at-cell (eqb-true c.offset i t) (is_among c.offset given) refl (same_object p o) refl)
    (λ t.
    ap (λ v. if same_object p o then (if is_among i given then v else zero_or (kind_at cs i) v) else v) (one-zero given o c values p i (is_among c.offset given) refl t)
    ∙ ap (λ k. if same_object p o then (if is_among i given then values p i else zero_or k (values p i)) else values p i) (sym (if-false (c.offset == i) (Some c.kind) (kind_at cs i) t)))
  where
    at-cell : c.offset ≡ i → (among : Bool) → is_among c.offset given ≡ among → (same : Bool) → same_object p o ≡ same
        → (if same then (if is_among i given then (if among then values else with_value values o c.offset (zero_of c.kind)) p i else zero_or (kind_at cs i) ((if among then values else with_value values o c.offset (zero_of c.kind)) p i)) else (if among then values else with_value values o c.offset (zero_of c.kind)) p i)
        ≡ (if same then (if is_among i given then values p i else zero_or (kind_at (c ∷ cs) i) (values p i)) else values p i)
    at-cell e among ea false es = other among
      where
        other : (b : Bool) → (if b then values else with_value values o c.offset (zero_of c.kind)) p i ≡ values p i
        other true = refl
        other false = ap (λ x. if x && i == c.offset then zero_of c.kind else values p i) es
    at-cell e true ea true es =
        let given_here : is_among i given ≡ true = ap (λ j. is_among j given) (sym e) ∙ ea in
        if-true (is_among i given) (values p i) _ given_here ∙ sym (if-true (is_among i given) (values p i) _ given_here)
    at-cell e false ea true es =
        let not_given : is_among i given ≡ false = ap (λ j. is_among j given) (sym e) ∙ ea in
        let some = some-size c.kind in
        let behind : i < c.offset + kind_size c.kind = omega arith in
        if-false (is_among i given) (with_value values o c.offset (zero_of c.kind) p i) (zero_or (kind_at cs i) (with_value values o c.offset (zero_of c.kind) p i)) not_given
        ∙ ap (λ k. zero_or k (with_value values o c.offset (zero_of c.kind) p i)) (none-before (c.offset + kind_size c.kind) size cs i h.2 behind)
        ∙ ap (λ x. if x && i == c.offset then zero_of c.kind else values p i) es
        ∙ if-true (i == c.offset) (zero_of c.kind) (values p i) (eq-eqb i c.offset (sym e))
        ∙ ap (λ k. zero_or k (values p i)) (sym (if-true (c.offset == i) (Some c.kind) (kind_at cs i) (eq-eqb c.offset i e)))
        ∙ sym (if-false (is_among i given) (values p i) (zero_or (kind_at (c ∷ cs) i) (values p i)) not_given)

-- block code has come to a point, and the stores agree
pub record Emptied (u : Code) (g : Setting) (home : Home) (b : m.State) (next : Point) (n : Mark) (s : typed.State) (store : Store) : Type 0 where
  pub registers : ℕ → Value
  pub left : Store
  pub leads : Reaches u g b (at home n next registers left s)
  pub agrees : Agrees store left

module _ (u : Code) (g : Setting) (p : q.Prog) (home : Home) (n : Mark) (s : typed.State) (low object size : ℕ) (given : List ℕ) (whole : List Cell) where
  abbrev own : Object
  own = record { activation = home.active.number; depth = home.active.depth; name = Named object }

  zero-line : (kind : Kind) (t : Point) (registers : ℕ → Value) (left : Store) → Reaches u g (at home n (before (zero_line low kind) t) registers left s) (at home n t (with_register registers low (zero_of kind)) left s)
  zero-line I8 t registers left = line-goes u g p home (Put low (pos 0)) t n registers left s low (Fine (Number (pos 0))) (Number (pos 0)) refl refl
  zero-line U8 t registers left = line-goes u g p home (Put low (pos 0)) t n registers left s low (Fine (Number (pos 0))) (Number (pos 0)) refl refl
  zero-line I16 t registers left = line-goes u g p home (Put low (pos 0)) t n registers left s low (Fine (Number (pos 0))) (Number (pos 0)) refl refl
  zero-line U16 t registers left = line-goes u g p home (Put low (pos 0)) t n registers left s low (Fine (Number (pos 0))) (Number (pos 0)) refl refl
  zero-line I32 t registers left = line-goes u g p home (Put low (pos 0)) t n registers left s low (Fine (Number (pos 0))) (Number (pos 0)) refl refl
  zero-line U32 t registers left = line-goes u g p home (Put low (pos 0)) t n registers left s low (Fine (Number (pos 0))) (Number (pos 0)) refl refl
  zero-line Ptr t registers left = line-goes u g p home (PutNull low) t n registers left s low (Fine Null) Null refl refl

  pub empties : (part : List Cell) (entry next : Point) (registers : ℕ → Value) (store left : Store) → AreFound whole part → Each {A = Cell} (λ c. c.offset ≤ size) part → store.shape own ≡ Some (shape_of size whole) → CodesRest low object given part entry next → Agrees store left
      → Emptied u g home (at home n entry registers left s) next n s (record store { values = zeroed given own part store.values })
  empties [] entry next registers store left found inside shape codes agrees = record {
    registers = registers;
    left = left;
    leads = subst (λ x. Reaches u g (at home n x registers left s) (at home n next registers left s)) (sym codes) (here u g (at home n next registers left s));
    agrees = agrees;
  }
  empties (c ∷ cs) entry next registers store left found inside shape codes agrees = by-given (is_among c.offset given) codes.3 (λ rs st lf sh ag. empties cs codes.0 next rs st lf found.1 inside.1 sh codes.2 ag)
    where
      -- the cell is given, or a zero is written
      by-given : (b : Bool) → entry ≡ (if b then codes.0 else before (zero_line low c.kind) (before (Write (Local object c.offset) c.kind low codes.1) codes.0))
          → ((rs : ℕ → Value) (st lf : Store) → st.shape own ≡ Some (shape_of size whole) → Agrees st lf → Emptied u g home (at home n codes.0 rs lf s) next n s (record st { values = zeroed given own cs st.values }))
          → Emptied u g home (at home n entry registers left s) next n s (record store { values = zeroed given own cs (if b then store.values else with_value store.values own c.offset (zero_of c.kind)) })
      by-given true e rest =
          let last = rest registers store left shape agrees in
          record { registers = last.registers; left = last.left; leads = subst (λ x. Reaches u g (at home n x registers left s) (at home n next last.registers last.left s)) (sym e) last.leads; agrees = last.agrees }
      by-given false e rest =
          let one : ℕ → Value = with_register registers low (zero_of c.kind) in
          let after : Store = record store { values = with_value store.values own c.offset (zero_of c.kind) } in
          let cell : stands store own c.offset c.kind ≡ true = ap (has_cell c.offset c.kind) shape ∙ ap (is_of_kind c.kind) found.0 ∙ same_kind-self c.kind in
          let wrote = agree-write store left agrees own c.offset c.kind (zero_of c.kind) after (if-true (stands store own c.offset c.kind) (Fine after) _ cell) in
          let now : m.write_place (Local object c.offset) c.kind (one low) home.active one left ≡ Fine (record { at = record { object = own; offset = c.offset }; store = wrote.left }) =
          ap (λ x. m.write_place (Local object c.offset) c.kind x home.active one left) (register-same registers low (zero_of c.kind))
          ∙ ap (λ r. then_ (then_ r m.location_of) (λ (x : m.Location). then_ (m.stored c.kind (zero_of c.kind)) (λ t. m.left_in x (write_cell left x.object x.offset c.kind t)))) (local-place left own (shape_of size whole) c.offset (agrees.shapes own (shape_of size whole) shape) inside.0)
          ∙ ap (λ r. then_ r (λ t. m.left_in (record { object = own; offset = c.offset }) (write_cell left own c.offset c.kind t))) (stored-same 0 store c.kind (zero_of c.kind) (zero-fits 0 store c.kind))
          ∙ ap (m.left_in (record { object = own; offset = c.offset })) wrote.is in
          let last = rest one after wrote.left shape wrote.agrees in
          record {
            registers = last.registers;
            left = last.left;
            leads = subst (λ x. Reaches u g (at home n x registers left s) (at home n next last.registers last.left s)) (sym e)
                (further u g (zero-line c.kind (before (Write (Local object c.offset) c.kind low codes.1) codes.0) registers left)
                (further u g (stepped u g _ (ap (λ r. m.writes (m.site_of codes.1 c.kind) r codes.0.rest (at home n (before (Write (Local object c.offset) c.kind low codes.1) codes.0) one left s)) now)) last.leads));
            agrees = last.agrees;
          }

-- all at once
pub zeroed-agrees : (store left : Store) (given : List ℕ) (o : Object) (size : ℕ) (cells : List Cell) → AreLaidOut 0 size cells → store.shape o ≡ Some (shape_of size cells) → Agrees (record store { values = zeroed given o cells store.values }) left → Agrees (cleared given o store) left
zeroed-agrees store left given o size cells laid shape agrees =
    values-agree (record store { values = zeroed given o cells store.values }) left (cleared given o store).values
    (λ p i. wanted p i (same_object p o) refl ∙ sym (all-zeroed 0 size given o cells store.values p i laid)) agrees
  where
    -- the kind of a cell is looked up in the store
    wanted : (p : Object) (i : ℕ) (b : Bool) → same_object p o ≡ b
        → (if same_object p o then (if is_among i given then store.values p i else zero_or (kind_of_cell (store.shape p) i) (store.values p i)) else store.values p i) ≡ Wanted given o cells store.values p i
    wanted p i true e =
        ap (λ r. if same_object p o then (if is_among i given then store.values p i else zero_or (kind_of_cell r i) (store.values p i)) else store.values p i)
        (ap store.shape (same_object-is p o e) ∙ shape)
    wanted p i false e =
        if-false (same_object p o) _ (store.values p i) e ∙ sym (if-false (same_object p o) _ (store.values p i) e)
