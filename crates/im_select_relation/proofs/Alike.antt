-- A step of placed code reads registers that live alone: where those have the same values, two states step alike.
use Rattle.std.proofs.Common.{◌≡◌, ◌≢◌, ℕ, zero, suc, ◌+◌, ◌-◌, inl, inr, Bool, true, false, cond, List, [], ◌∷◌, Some, None, sym, ap, ◌∙◌, subst, refl, arith}
use Rattle.std.specs.Prelude.{◌==◌, ◌&&◌, ◌||◌, not, nat_le, nat_lt, slice_get, pos}
use Rattle.std.proofs.lemmas.Bool.{or_right}
use Rattle.std.proofs.lemmas.Bool.Decides.{nat_tests}
use Rattle.im_num.specs.declared.kind.Kind.{Kind}
use Rattle.im_store.specs.Checks.{Checked, Fine, Bad, then_}
use Rattle.im_store.specs.Access.{read_cell, write_cell}
use Rattle.im_store.specs.Objects.{Value, Number, Null, Unset}
use Rattle.im_store.specs.Outcomes.{Outcome, Undef}
use Rattle.im_serve.specs.declared.service.Service.{Service}
use Rattle.im_serve.specs.Services.{serve}
use Rattle.im_block.specs.declared.code.Place.{Place}
use Rattle.im_block.specs.declared.code.Place.TheVariants.{Static, Local, Through}
use Rattle.im_block.specs.declared.code.Line.{Line}
use Rattle.im_block.specs.declared.code.Line.TheVariants.{Put, PutNull, Copy, Convert, Unary, Not, Compute, Compare, Move, Distance, Address, Read, Write, Reload, Spill, Cut, Call, Serve}
use Rattle.im_block.specs.declared.code.Exit.{Exit}
use Rattle.im_block.specs.declared.code.Exit.TheVariants.{Jump, Turn, Branch, Return}
use Rattle.im_block.specs.declared.code.Block.{Block}
use Rattle.im_block.specs.declared.unit.Function.{Function}
use Rattle.im_block.specs.declared.unit.Unit.{Unit as Code}
use Rattle.im_block.specs.Meaning.{Setting, Site, site_of, slot_site, slot_of, Found, Left, Frame, State, Next, Goes, Stops, Event, on_checked, takes, found, with_register, with_rest, kept_by, passed, computes, reads, writes, as_number, as_truth, converted, computed_one, computed, compared, negation, condition, moved, distance_of, place_of, write_place, write_slot, number_of, at_block, waiting, enters, serves, further, location_of, found_in, left_in, stored, served, does, goes_to, back, leaves, next_active}
use Rattle.im_alloc_relation.specs.Live.{uses, place_uses}
use Rattle.im_live.specs.Reads.{reads as reads_of, writes as writes_of, lives_before, lives_in, reads_first}
use Rattle.im_select_relation.specs.Linking.{Linking}
use Rattle.im_select_relation.proofs.Registers.{two_ways, register_same, register_other}
use Rattle.im_select_relation.proofs.Checks.{found_fine}
use Rattle.im_select_relation.proofs.Shapes.{Premises}
use Rattle.im_select_relation.proofs.Calls.{lost_by}

-- a state with other registers
abbrev pub shaded : State → (ℕ → Value) → State
shaded s registers = record s { frame = record s.frame { registers = registers } }

-- the registers that live before what is left of a block have the same values
abbrev pub AlikeAt : List Block → List Line → Exit → (ℕ → Value) → (ℕ → Value) → Type 0
AlikeAt blocks lines exit a b = (r n : ℕ) → lives_before (reads_first blocks n) lines exit r ≡ true → b r ≡ a r

abbrev pub Alike : Code → State → (ℕ → Value) → Type 0
Alike u s registers = (f : Function) → slice_get u.functions.items s.frame.function ≡ Some f → AlikeAt f.blocks.items s.frame.spot.rest s.frame.spot.exit s.frame.registers registers

-- two steps with one outcome, or to states that are alike
pub data Both (u : Code) : Next → Next → Type 0 where
  Going : (s : State) (registers : ℕ → Value) (events : List Event) → Alike u s registers → Both u (Goes s events) (Goes (shaded s registers) events)
  Ending : (o : Outcome) (events : List Event) → Both u (Stops o events) (Stops o events)

pub same_function : (i : ℕ) (u : Code) (f h : Function) → slice_get u.functions.items i ≡ Some f → slice_get u.functions.items i ≡ Some h → f ≡ h
same_function i u f h a b = let e = sym a ∙ b in cc

-- of a state in a function that is there
pub alike_in : (u : Code) (s : State) (registers : ℕ → Value) (f : Function) → slice_get u.functions.items s.frame.function ≡ Some f → AlikeAt f.blocks.items s.frame.spot.rest s.frame.spot.exit s.frame.registers registers → Alike u s registers
alike_in u s registers f is a h is' = subst (λ (z : Function). AlikeAt z.blocks.items s.frame.spot.rest s.frame.spot.exit s.frame.registers registers) (same_function s.frame.function u f h is is') a

pub checked_both : {A : Type 0} (u : Code) (c c' : Checked A) (go go' : A → Next) → c' ≡ c → ((a : A) → c ≡ Fine a → Both u (go a) (go' a)) → Both u (on_checked c go) (on_checked c' go')
checked_both {A} u c c' go go' e h = subst (λ z. Both u (on_checked c go) (on_checked z go')) (sym e) (by c h)
  where
    by : (c : Checked A) → ((a : A) → c ≡ Fine a → Both u (go a) (go' a)) → Both u (on_checked c go) (on_checked c go')
    by (Fine a) h = h a refl
    by (Bad why) h = Ending (Undef why) []

takes_both : (u : Code) (fuel : ℕ) (output : List ℕ) (go go' : ℕ → Next) → ((less : ℕ) → Both u (go less) (go' less)) → Both u (takes fuel output go) (takes fuel output go')
takes_both u zero output go go' h = Ending _ []
takes_both u (suc less) output go go' h = h less

cond_both : (u : Code) (b : Bool) (x y x' y' : Next) → Both u x x' → Both u y y' → Both u (cond b x y) (cond b x' y')
cond_both u true x y x' y' h k = h
cond_both u false x y x' y' h k = k

-- ---- what lives before a line

same_is : (r : ℕ) → (r == r) ≡ true
same_is r = grind (arith, nat_tests)

pub used_lives : (live : ℕ → ℕ → Bool) (line : Line) (rest : List Line) (exit : Exit) (r : ℕ) → uses line r ≡ true → lives_before live (line ∷ rest) exit r ≡ true
used_lives live line rest exit r e = by (uses line r) _ _ e
  where
    by : (a b c : Bool) → a ≡ true → ((a || b) || c) ≡ true
    by true b c e = refl
    by false b c e = absurd cc

pub behind_lives : (live : ℕ → ℕ → Bool) (line : Line) (rest : List Line) (exit : Exit) (r : ℕ) → writes_of line r ≡ false → lives_before live rest exit r ≡ true → lives_before live (line ∷ rest) exit r ≡ true
behind_lives live line rest exit r e h = by (reads_of line r) (writes_of line r) (lives_before live rest exit r) e h
  where
    by : (a b c : Bool) → b ≡ false → c ≡ true → (a || (not b && c)) ≡ true
    by true b c e h = refl
    by false true c e h = absurd cc
    by false false c e h = h

pub left_is : (a b : ℕ) → (a == a || a == b) ≡ true
left_is a b = ap (λ t. t || a == b) (same_is a)

pub right_is : (a b : ℕ) → (b == a || b == b) ≡ true
right_is a b = or_right (b == a) (b == b) (same_is b)

pub other_is : (r to : ℕ) → r ≢ to → (r == to) ≡ false
other_is r to ne = grind (arith, nat_tests)

-- an operand
pub operand : (blocks : List Block) (line : Line) (rest : List Line) (exit : Exit) (a b : ℕ → Value) (r : ℕ) → AlikeAt blocks (line ∷ rest) exit a b → uses line r ≡ true → b r ≡ a r
operand blocks line rest exit a b r h e = h r 0 (used_lives (reads_first blocks 0) line rest exit r e)

-- behind a line that writes no register, and one that writes one
passed_by : (blocks : List Block) (line : Line) (rest : List Line) (exit : Exit) (a b : ℕ → Value) → ((r : ℕ) → writes_of line r ≡ false) → AlikeAt blocks (line ∷ rest) exit a b → AlikeAt blocks rest exit a b
passed_by blocks line rest exit a b e h r n k = h r n (behind_lives (reads_first blocks n) line rest exit r (e r) k)

written_to : (blocks : List Block) (line : Line) (rest : List Line) (exit : Exit) (a b : ℕ → Value) (to : ℕ) (v : Value) → ((r : ℕ) → r ≢ to → writes_of line r ≡ false) → AlikeAt blocks (line ∷ rest) exit a b → AlikeAt blocks rest exit (with_register a to v) (with_register b to v)
written_to blocks line rest exit a b to v e h r n k = elim (two_ways r to) [
  | inl q ↦ ap (with_register b to v) q ∙ register_same b to v ∙ sym (register_same a to v) ∙ ap (with_register a to v) (sym q)
  | inr ne ↦ register_other b to v r ne ∙ h r n (behind_lives (reads_first blocks n) line rest exit r (e r ne) k) ∙ sym (register_other a to v r ne)
]

-- ---- the forms of a line

module _ (u : Code) (g : Setting) (s : State) (registers : ℕ → Value) (f : Function) (is : slice_get u.functions.items s.frame.function ≡ Some f) where
  abbrev Before : List Line → Type 0
  Before lines = AlikeAt f.blocks.items lines s.frame.spot.exit s.frame.registers registers

  computes_both : (line : Line) (rest : List Line) (to : ℕ) (c c' : Checked Value) → ((r : ℕ) → r ≢ to → writes_of line r ≡ false) → Before (line ∷ rest) → c' ≡ c → Both u (computes to c rest s) (computes to c' rest (shaded s registers))
  computes_both line rest to c c' w h e = checked_both u c c' _ _ e (λ v k.
      let next : State = record s { frame = record (with_rest s.frame rest) { registers = with_register s.frame.registers to v } } in
      Going next (with_register registers to v) [] (alike_in u next (with_register registers to v) f is (written_to f.blocks.items line rest s.frame.spot.exit s.frame.registers registers to v w h)))

  reads_both : (line : Line) (rest : List Line) (to : ℕ) (site : Site) (c c' : Checked Found) → ((r : ℕ) → r ≢ to → writes_of line r ≡ false) → Before (line ∷ rest) → c' ≡ c → Both u (reads to site c rest s) (reads to site c' rest (shaded s registers))
  reads_both line rest to site c c' w h e = checked_both u c c' _ _ e (λ v k.
      let next : State = record s { frame = record (with_rest s.frame rest) { registers = with_register s.frame.registers to v.value } } in
      Going next (with_register registers to v.value) _ (alike_in u next (with_register registers to v.value) f is (written_to f.blocks.items line rest s.frame.spot.exit s.frame.registers registers to v.value w h)))

  writes_both : (line : Line) (rest : List Line) (site : Site) (c c' : Checked Left) → ((r : ℕ) → writes_of line r ≡ false) → Before (line ∷ rest) → c' ≡ c → Both u (writes site c rest s) (writes site c' rest (shaded s registers))
  writes_both line rest site c c' w h e = checked_both u c c' _ _ e (λ l k.
      let next : State = record s { frame = with_rest s.frame rest; store = l.store } in
      Going next registers _ (alike_in u next registers f is (passed_by f.blocks.items line rest s.frame.spot.exit s.frame.registers registers w h)))

  -- what is left of registers at a call is nothing
  module _ (p : Linking) (l : Premises p u g) where
    lost : kept_by (slice_get u.functions.items s.frame.function) registers ≡ kept_by (slice_get u.functions.items s.frame.function) s.frame.registers
    lost = lost_by p u g l s.frame.function f registers is ∙ sym (lost_by p u g l s.frame.function f s.frame.registers is)

    served_both : (rest : List Line) (to : ℕ) (v : Value) (input output : List ℕ) (fuel : ℕ) → Both u (served u g to v rest input output fuel s) (served u g to v rest input output fuel (shaded s registers))
    served_both rest to v input output fuel =
        Going (record s { frame = record (with_rest s.frame rest) { registers = with_register (kept_by (slice_get u.functions.items s.frame.function) s.frame.registers) to v }; input = input; output = output; fuel = fuel })
        (with_register (kept_by (slice_get u.functions.items s.frame.function) registers) to v) _ (λ h is' r n k. ap (λ (z : ℕ → Value). with_register z to v r) lost)

    passed_same : (to first count r : ℕ) → ((v : ℕ) → (nat_le first v && nat_lt v (first + count)) ≡ true → registers v ≡ s.frame.registers v) → passed to first count registers r ≡ passed to first count s.frame.registers r
    passed_same to first count r h = by (nat_le to r) refl (nat_lt r (to + count)) refl
      where
        within : nat_le to r ≡ true → nat_lt r (to + count) ≡ true → (nat_le first (first + (r - to)) && nat_lt (first + (r - to)) (first + count)) ≡ true
        within a b = grind (arith, nat_tests)

        by : (a : Bool) → nat_le to r ≡ a → (b : Bool) → nat_lt r (to + count) ≡ b → cond (a && b) (registers (first + (r - to))) Unset ≡ cond (a && b) (s.frame.registers (first + (r - to))) Unset
        by true e true k = h (first + (r - to)) (within e k)
        by true e false k = refl
        by false e b k = refl

    calls_both : (to i first count : ℕ) (rest : List Line) (less : ℕ) → Before (Call to i first count ∷ rest) → Both u (enters u g i first count s.frame.registers (waiting u g s.frame to rest ∷ s.callers) less s) (enters u g i first count registers (waiting u g (shaded s registers).frame to rest ∷ s.callers) less (shaded s registers))
    calls_both to i first count rest less h = subst (λ z. Both u (enters u g i first count s.frame.registers (waiting u g s.frame to rest ∷ s.callers) less s) (enters u g i first count registers (record (with_rest s.frame rest) { registers = z; to = to } ∷ s.callers) less (shaded s registers))) (sym lost) entered
      where
        entered : Both u (enters u g i first count s.frame.registers (waiting u g s.frame to rest ∷ s.callers) less s) (enters u g i first count registers (waiting u g s.frame to rest ∷ s.callers) less (shaded s registers))
        entered =
            checked_both {A = Function} u (found (slice_get u.functions.items i)) (found (slice_get u.functions.items i)) _ _ refl (λ q is'.
            cond_both u (nat_le (next_active u g i s).depth g.stack) _ _ _ _
            (checked_both {A = Block} u (found (slice_get q.blocks.items q.entry)) (found (slice_get q.blocks.items q.entry)) _ _ refl (λ block there.
            Going _ (passed q.first_parameter first count registers) _ (λ x isx r n k. passed_same q.first_parameter first count r (λ v e. operand f.blocks.items (Call to i first count) rest s.frame.spot.exit s.frame.registers registers v h e))))
            (Ending _ _))

    bytes_both : (to from : ℕ) (service : Service) (rest : List Line) (less : ℕ) → registers from ≡ s.frame.registers from → Both u (on_checked (number_of (s.frame.registers from)) (λ z. serves u g to service z rest less s)) (on_checked (number_of (registers from)) (λ z. serves u g to service z rest less (shaded s registers)))
    bytes_both to from service rest less e = checked_both u _ _ _ _ (ap number_of e) (λ z k.
        let reply = serve service g.capacity z s.input s.output in
        served_both rest to (Number reply.value) reply.input reply.output less)

    place_same : (place : Place) → ((r : ℕ) → place_uses place r ≡ true → registers r ≡ s.frame.registers r) → place_of place s.frame.active registers s.store ≡ place_of place s.frame.active s.frame.registers s.store
    place_same (Static object offset) h = refl
    place_same (Local object offset) h = refl
    place_same (Through pointer offset) h = ap (λ v. further s.store offset v) (h pointer (same_is pointer))

    -- an operand, or two
    one : (line : Line) (rest : List Line) (r : ℕ) → Before (line ∷ rest) → uses line r ≡ true → registers r ≡ s.frame.registers r
    one line rest r h e = operand f.blocks.items line rest s.frame.spot.exit s.frame.registers registers r h e

    two : (go : Value → Value → Checked Value) (line : Line) (rest : List Line) (a b : ℕ) → Before (line ∷ rest) → uses line a ≡ true → uses line b ≡ true → go (registers a) (registers b) ≡ go (s.frame.registers a) (s.frame.registers b)
    two go line rest a b h e k = ap (λ v. go v (registers b)) (one line rest a h e) ∙ ap (go (s.frame.registers a)) (one line rest b h k)

    -- an access of a place
    abbrev found_at : Kind → Checked Value → Checked Found
    found_at kind c = then_ (then_ c location_of) (λ at. found_in at (read_cell s.store at.object at.offset kind))

    abbrev left_at : Kind → Value → Checked Value → Checked Left
    left_at kind v c = then_ (then_ c location_of) (λ at. then_ (stored kind v) (λ taken. left_in at (write_cell s.store at.object at.offset kind taken)))

    -- one line
    pub line_both : (line : Line) (rest : List Line) → Before (line ∷ rest) → Both u (does u g line rest s) (does u g line rest (shaded s registers))
    line_both (Put to z) rest h = computes_both (Put to z) rest to (Fine (Number z)) (Fine (Number z)) (λ r ne. other_is r to ne) h refl
    line_both (PutNull to) rest h = computes_both (PutNull to) rest to (Fine Null) (Fine Null) (λ r ne. other_is r to ne) h refl
    line_both (Copy to from) rest h = computes_both (Copy to from) rest to _ _ (λ r ne. other_is r to ne) h (ap Fine (one (Copy to from) rest from h (same_is from)))
    line_both (Convert to kind from) rest h = computes_both (Convert to kind from) rest to _ _ (λ r ne. other_is r to ne) h (ap (λ v. as_number (converted kind v)) (one (Convert to kind from) rest from h (same_is from)))
    line_both (Unary to op kind from) rest h = computes_both (Unary to op kind from) rest to _ _ (λ r ne. other_is r to ne) h (ap (λ v. as_number (computed_one op kind v)) (one (Unary to op kind from) rest from h (same_is from)))
    line_both (Not to from) rest h = computes_both (Not to from) rest to _ _ (λ r ne. other_is r to ne) h (ap (λ v. as_truth (negation s.store v)) (one (Not to from) rest from h (same_is from)))
    line_both (Compute to op kind left right) rest h = computes_both (Compute to op kind left right) rest to _ _ (λ r ne. other_is r to ne) h (two (λ v w. as_number (computed op kind v w)) (Compute to op kind left right) rest left right h (left_is left right) (right_is left right))
    line_both (Compare to op kind left right) rest h = computes_both (Compare to op kind left right) rest to _ _ (λ r ne. other_is r to ne) h (two (λ v w. as_truth (compared s.store op kind v w)) (Compare to op kind left right) rest left right h (left_is left right) (right_is left right))
    line_both (Move to size back pointer by) rest h = computes_both (Move to size back pointer by) rest to _ _ (λ r ne. other_is r to ne) h (two (λ v w. moved s.store size back v w) (Move to size back pointer by) rest pointer by h (left_is pointer by) (right_is pointer by))
    line_both (Distance to size left right) rest h = computes_both (Distance to size left right) rest to _ _ (λ r ne. other_is r to ne) h (two (λ v w. as_number (distance_of s.store size v w)) (Distance to size left right) rest left right h (left_is left right) (right_is left right))
    line_both (Address to place) rest h = computes_both (Address to place) rest to _ _ (λ r ne. other_is r to ne) h (place_same place (λ r e. one (Address to place) rest r h e))
    line_both (Read to place kind access) rest h = reads_both (Read to place kind access) rest to (site_of access kind) _ _ (λ r ne. other_is r to ne) h (ap (λ c. found_at kind c) (place_same place (λ r e. one (Read to place kind access) rest r h e)))
    line_both (Write place kind from access) rest h =
        writes_both (Write place kind from access) rest (site_of access kind) _ _ (λ r. refl) h
        (ap (λ v. write_place place kind v s.frame.active registers s.store) (one (Write place kind from access) rest from h (or_right (place_uses place from) (from == from) (same_is from)))
        ∙ ap (λ c. left_at kind (s.frame.registers from) c) (place_same place (λ r e. one (Write place kind from access) rest r h (ap (λ t. t || r == from) e))))
    line_both (Reload to slot access) rest h = reads_both (Reload to slot access) rest to (slot_site access slot) _ _ (λ r ne. other_is r to ne) h refl
    line_both (Spill slot from access) rest h = writes_both (Spill slot from access) rest (slot_site access slot) _ _ (λ r. refl) h (ap (λ v. write_slot (slot_of slot s.frame.active) v s.store) (one (Spill slot from access) rest from h (same_is from)))
    line_both (Cut cause) rest h =
        let next : State = record s { frame = with_rest s.frame rest } in
        Going next registers _ (alike_in u next registers f is (passed_by f.blocks.items (Cut cause) rest s.frame.spot.exit s.frame.registers registers (λ r. refl) h))
    line_both (Call to i first count) rest h = takes_both u s.fuel s.output _ _ (λ less. calls_both to i first count rest less h)
    line_both (Serve to service None) rest h = takes_both u s.fuel s.output _ _ (λ less. let reply = serve service g.capacity (pos 0) s.input s.output in served_both rest to (Number reply.value) reply.input reply.output less)
    line_both (Serve to service (Some from)) rest h = takes_both u s.fuel s.output _ _ (λ less. bytes_both to from service rest less (one (Serve to service (Some from)) rest from h (same_is from)))

    -- to a block of the function
    to_both : (b fuel : ℕ) → ((r n : ℕ) → reads_first f.blocks.items (suc n) b r ≡ true → registers r ≡ s.frame.registers r) → Both u (goes_to u g b fuel s) (goes_to u g b fuel (shaded s registers))
    to_both b fuel h =
        checked_both {A = Function} u (found (slice_get u.functions.items s.frame.function)) (found (slice_get u.functions.items s.frame.function)) _ _ refl (λ q is0.
        checked_both {A = Block} u (found (slice_get q.blocks.items b)) (found (slice_get q.blocks.items b)) _ _ refl (λ block there.
        let e : q ≡ f = same_function s.frame.function u q f (found_fine _ q is0) is in
        let at : slice_get f.blocks.items b ≡ Some block = ap (λ (z : Function). slice_get z.blocks.items b) (sym e) ∙ found_fine _ block there in
        let next : State = record s { frame = record s.frame { spot = at_block b block }; fuel = fuel } in
        Going next registers _ (alike_in u next registers f is (λ r n k. h r n (ap (λ z. lives_in (reads_first f.blocks.items n) z r) at ∙ k)))))

    back_both : (callers : List Frame) (v v' : Value) → v' ≡ v → Both u (back u g callers v s) (back u g callers v' (shaded s registers))
    back_both [] v v' e = checked_both u _ _ _ _ (ap number_of e) (λ z k. Ending _ _)
    back_both (frame ∷ callers) v v' e = subst (λ z. Both u (back u g (frame ∷ callers) v s) (back u g (frame ∷ callers) z (shaded s registers))) (sym e) (Going _ (with_register frame.registers frame.to v) _ (λ h is' r n k. refl))

    pub exit_both : (exit : Exit) → AlikeAt f.blocks.items [] exit s.frame.registers registers → Both u (leaves u g exit s) (leaves u g exit (shaded s registers))
    exit_both (Jump b) h = to_both b s.fuel (λ r n e. h r (suc n) e)
    exit_both (Turn b) h = takes_both u s.fuel s.output _ _ (λ less. to_both b less (λ r n e. h r (suc n) e))
    exit_both (Branch on a b) h = checked_both u _ _ _ _ (ap (condition s.store) (h on 0 (ap (λ t. t || (reads_first f.blocks.items 0 a on || reads_first f.blocks.items 0 b on)) (same_is on)))) (λ t k. way t)
      where
        way : (t : Bool) → Both u (goes_to u g (cond t a b) s.fuel s) (goes_to u g (cond t a b) s.fuel (shaded s registers))
        way true = to_both a s.fuel (λ r n e. h r (suc n) (or_right (r == on) (reads_first f.blocks.items (suc n) a r || reads_first f.blocks.items (suc n) b r) (ap (λ t. t || reads_first f.blocks.items (suc n) b r) e)))
        way false = to_both b s.fuel (λ r n e. h r (suc n) (or_right (r == on) (reads_first f.blocks.items (suc n) a r || reads_first f.blocks.items (suc n) b r) (or_right (reads_first f.blocks.items (suc n) a r) (reads_first f.blocks.items (suc n) b r) e)))
    exit_both (Return None) h = back_both s.callers Unset Unset refl
    exit_both (Return (Some k)) h = back_both s.callers (s.frame.registers k) (registers k) (h k 0 (ap (λ t. t || (k == 1 || k == 2)) (same_is k)))
