-- Calls: of functions and of the built-in ones.
use Rattle.std.proofs.Common.{◌≡◌, ◌≢◌, ℕ, zero, suc, ◌+◌, ◌-◌, ◌<◌, ◌≤◌, inl, inr, Bool, true, false, cond, List, [], ◌∷◌, ◌++◌, Option, Some, None, sym, ap, ◌∙◌, subst, refl, arith}
use Rattle.std.specs.Prelude.{◌*◌, length, ◌==◌, ◌&&◌, not, nat_lt, nat_le, pos, slice_get}
use Rattle.std.proofs.lemmas.Bool.Decides.{nat_tests}
use Rattle.im_num.specs.declared.values.Cause.TheVariants.{Return as ReturnCut}
use Rattle.im_ctype.specs.declared.cell.Cell.{Cell}
use Rattle.im_store.specs.Objects.{Name, Named, Slot, Link, Object, static, Value, Number, Unset, Shape, Store}
use Rattle.im_store.specs.Statics.{StaticObject}
use Rattle.im_store.specs.Outcomes.{Undef, More, End, cell_shown, cells_shown, variables_from, variables}
use Rattle.im_serve.specs.declared.service.Service.{Service}
use Rattle.im_serve.specs.Services.{serve}
use Rattle.im_block.specs.declared.code.Line.{Line}
use Rattle.im_block.specs.declared.code.Line.TheVariants.{Cut, Call, Serve}
use Rattle.im_block.specs.declared.code.Exit.{Exit}
use Rattle.im_block.specs.declared.code.Block.{Block}
use Rattle.im_block.specs.declared.unit.Function.{Function}
use Rattle.im_block.specs.declared.unit.Unit.{Unit as Code}
use Rattle.im_block.specs.Wellformed.{Takes}
use Rattle.im_block.specs.Meaning.{Setting, Active, Spot, Event, Tests, Saves, Serves, Cuts, Frame, State, Next, Goes, Stops, on_checked, takes, found, slot_shape, shapes_of, number_of, statics_of, ended, begun_by, passed, kept, kept_by, with_register, at_block, activates, next_active, enters, waiting, served, serves, does, step}
use Rattle.im_block.specs.Runs.{goes_on, exec, uncut}
use Rattle.im_block.proofs.Unitwise.{zip_new, from_new}
use Rattle.im_alloc_relation.specs.Homes.{Home, InRegister, InSlot, numbers_kept, into, give, bring, put_line, past_cut, needed, put_lines, exit_lines, put_exit}
use Rattle.im_alloc_relation.specs.Live.{lives}
use Rattle.im_alloc_relation.specs.Placing.{Survives, ValidLine, Valid, PlacedBlock, number_behind, PlacedFunction, IsPlaced}
use Rattle.im_alloc_relation.proofs.Seen.{Refines, refines_at, number_refines, is_slot}
use Rattle.im_alloc_relation.proofs.Walks.{plus, heard, walk_one, walk_join, twin, own_slot, at_home, AllThere, WaitsFor, Callers, Held, truth, same_register, Loaded, into_home}
use Rattle.im_alloc_relation.proofs.Results.{callers_kept, without, is_without, Saved, give_home, Brought, bring_all}
use Rattle.im_alloc_relation.proofs.Lines.{Twin, After, after_first, checked_after, held_less, Known, without_live, or_left, self}

-- one step of placed code beside one of block code
abbrev pub NextRel : Code → Code → Next → Next → Type 0
NextRel u v (Goes s' more) next = (t' : State) × (ev : List Event) × (next ≡ Goes t' ev) × (heard ev ≡ uncut more) × Twin u v s' t'
NextRel u v (Stops (End reason status output shows) more) next = (ev : List Event) × (next ≡ Stops (End reason status output shows) ev) × (heard ev ≡ uncut more)
NextRel u v (Stops (More output) more) next = (ev : List Event) × (next ≡ Stops (More output) ev) × (heard ev ≡ uncut more)
NextRel u v (Stops (Undef why) more) next = Unit {0}

pub next_after : (u v : Code) (g : Setting) (t : State) (next : Next) → NextRel u v next (step v g t) → After u v g t next
next_after u v g t (Goes s' more) r = record { n = 1; ev = r.1; t' = r.0; walk = walk_one v g r.1 t r.0 r.2; told = r.3; same = r.4 }
next_after u v g t (Stops (End reason status output shows) more) r = record { n = 1; ev = r.0; over = λ acc. ap (λ z. goes_on z (exec v g 0) acc) r.1; told = r.2 }
next_after u v g t (Stops (More output) more) r = record { n = 1; ev = r.0; over = λ acc. ap (λ z. goes_on z (exec v g 0) acc) r.1; told = r.2 }
next_after u v g t (Stops (Undef why) more) r = tt

pub next_at : (u v : Code) (next a b : Next) → b ≡ a → NextRel u v next a → NextRel u v next b
next_at u v next a b e r = subst (λ z. NextRel u v next z) (sym e) r

pub takes_both : (u v : Code) (fuel : ℕ) (output : List ℕ) (go go' : ℕ → Next) → ((less : ℕ) → NextRel u v (go less) (go' less)) → NextRel u v (takes fuel output go) (takes fuel output go')
takes_both u v zero output go go' h = ([], refl, refl)
takes_both u v (suc less) output go go' h = h less

-- what the statics show
cells_same : (cells : List Cell) (a b : ℕ → Value) → ((i : ℕ) → b i ≡ a i) → cells_shown b cells ≡ cells_shown a cells
cells_same [] a b h = refl
cells_same (c ∷ cs) a b h = ap (λ z. cell_shown z ∷ cells_shown b cs) (h c.offset) ∙ ap (λ z. cell_shown (a c.offset) ∷ z) (cells_same cs a b h)

shows_from : (n : ℕ) (ss : List StaticObject) (a b : Store) → ((o : Object) (i : ℕ) → is_slot o.name ≡ false → b.values o i ≡ a.values o i) → variables_from n ss b ≡ variables_from n ss a
shows_from n [] a b h = refl
shows_from n (s ∷ ss) a b h =
    ap (λ z. record { name = s.name; cells = z } ∷ variables_from (suc n) ss b) (cells_same s.cells (a.values (static n)) (b.values (static n)) (λ i. h (static n) i refl))
    ∙ ap (λ z. record { name = s.name; cells = cells_shown (a.values (static n)) s.cells } ∷ z) (shows_from (suc n) ss a b h)

pub same_statics : (u v : Code) → IsPlaced u v → statics_of v ≡ statics_of u
same_statics u v pl = ap (λ (q : Code). statics_of q) pl.rest

pub shows : (u v : Code) → IsPlaced u v → (a b : Store) → ((o : Object) (i : ℕ) → is_slot o.name ≡ false → b.values o i ≡ a.values o i) → variables (statics_of v) b ≡ variables (statics_of u) a
shows u v pl a b h = ap (λ z. variables z b) (same_statics u v pl) ∙ shows_from 0 (statics_of u) a b h

-- parameters have the arguments
both_true : (a b : Bool) → (a && b) ≡ true → (a ≡ true) × (b ≡ true)
both_true true b h = (refl, h)
both_true false b h = absurd cc

both_are : (a b : Bool) → a ≡ true → b ≡ true → (a && b) ≡ true
both_are a b e f = ap (λ z. z && b) e ∙ f

at_most : (a b : ℕ) → nat_le a b ≡ true → a ≤ b
at_most a b h = grind (arith, nat_tests)

at_most_is : (a b : ℕ) → a ≤ b → nat_le a b ≡ true
at_most_is a b h = grind (arith, nat_tests)

less_of : (a b : ℕ) → nat_lt a b ≡ true → a < b
less_of a b h = grind (arith, nat_tests)

less_is : (a b : ℕ) → a < b → nat_lt a b ≡ true
less_is a b h = grind (arith, nat_tests)

passed_agrees : (h : ℕ → Home) (fp first first' count : ℕ) (registers y : ℕ → Value) (by : Active) (st : Store) → ((k : ℕ) → k < count → h (fp + k) ≡ InRegister (10 + k)) → ((j : ℕ) → j < count → Refines (registers (first + j)) (y (first' + j))) → (q : ℕ) → Refines (passed fp first count registers q) (at_home (h q) by (passed 10 first' count y) st)
passed_agrees h fp first first' count registers y by st received brought q = elim (truth (nat_le fp q && nat_lt q (fp + count))) [
  | inr f ↦ inl (ap (λ b. cond b (registers (first + (q - fp))) Unset) f)
  | inl t ↦ yes t
]
  where
    yes : (nat_le fp q && nat_lt q (fp + count)) ≡ true → Refines (passed fp first count registers q) (at_home (h q) by (passed 10 first' count y) st)
    yes t =
        let d = both_true (nat_le fp q) (nat_lt q (fp + count)) t in
        let le : fp ≤ q = at_most fp q d.0 in
        let lt : q < fp + count = less_of q (fp + count) d.1 in
        let k : ℕ = q - fp in
        let is : fp + k ≡ q = omega arith in
        let few : k < count = omega arith in
        let home : h q ≡ InRegister (10 + k) = ap h (sym is) ∙ received k few in
        let t2 : (nat_le 10 (10 + k) && nat_lt (10 + k) (10 + count)) ≡ true = both_are _ _ (at_most_is 10 (10 + k) (omega arith)) (less_is (10 + k) (10 + count) (omega arith)) in
        let back : 10 + k - 10 ≡ k = omega arith in
        refines_at (registers (first + k)) _ (y (first' + k)) _
        (ap (λ b. cond b (registers (first + (q - fp))) Unset) t)
        (ap (λ z. at_home z by (passed 10 first' count y) st) home ∙ ap (λ b. cond b (y (first' + (10 + k - 10))) Unset) t2 ∙ ap (λ z. y (first' + z)) back)
        (brought k few)

-- memory and callers, before an activation begins
pub record Outer (u v : Code) (s : State) (ws xs : List Frame) (st : Store) : Type 0 where
  pub seen : (o : Object) → is_slot o.name ≡ false → st.shape o ≡ s.store.shape o
  pub unseen : (o : Object) → is_slot o.name ≡ true → s.store.shape o ≡ None
  pub holds : (o : Object) (i : ℕ) → is_slot o.name ≡ false → st.values o i ≡ s.store.values o i
  pub callers : Callers u v st (s.begun + 1) ws xs

same_shapes : (f g : Function) → PlacedFunction f g → (a : Name) → is_slot a ≡ false → shapes_of g a ≡ shapes_of f a
same_shapes f g pf (Named n) e = ap (λ (q : Function). shapes_of q (Named n)) pf.rest
same_shapes f g pf (Slot n) e = absurd cc
same_shapes f g pf Link e = refl

no_slots : (f : Function) → f.slots ≡ 0 → (a : Name) → is_slot a ≡ true → shapes_of f a ≡ None
no_slots f z (Named n) e = absurd cc
no_slots f z (Slot n) e =
    let none : nat_lt n 0 ≡ false = grind (arith, nat_tests) in
    ap (λ c. cond (nat_lt n c) (Some slot_shape) None) z ∙ ap (λ b. cond b (Some slot_shape) None) none
no_slots f z Link e = absurd cc

own_shape : (g : Function) (n : ℕ) → n < g.slots → shapes_of g (Slot n) ≡ Some slot_shape
own_shape g n l = ap (λ b. cond b (Some slot_shape) None) (less_is n g.slots l)

none_none : (a b : Bool) (x y : Option Shape) → x ≡ None → y ≡ None → cond a (cond b x None) y ≡ None
none_none true true x y e f = e
none_none true false x y e f = refl
none_none false b x y e f = f

unset_both : (t : Bool) (a c : Value) → a ≡ c → cond t Unset a ≡ cond t Unset c
unset_both true a c r = refl
unset_both false a c r = r

not_same : (a b : ℕ) → a < b → (a == b) ≡ false
not_same a b l = let ne : a ≢ b = omega arith in grind (arith, nat_tests)

entered_held : (u v : Code) (s s' : State) (active : Active) (first first' count : ℕ) (registers y : ℕ → Value) (ws xs : List Frame) (st : Store) (f g : Function) (pf : PlacedFunction f g) (after : ℕ → Bool) → active.number ≡ s.begun + 1 → f.parameters ≡ count → ((j : ℕ) → j < count → Refines (registers (first + j)) (y (first' + j))) → Outer u v s ws xs st → s'.frame.active ≡ active → s'.frame.registers ≡ passed f.first_parameter first count registers → s'.store ≡ begun_by f active s.store → s'.callers ≡ ws → s'.begun ≡ active.number → Held u v s' pf.home after (passed 10 first' count y) xs (begun_by g active st)
entered_held u v s s' active first first' count registers y ws xs st f g pf after number many brought out is_active is_registers is_store is_callers is_begun =
    let st2 : Store = begun_by g active st in
    record {
      agrees = λ q t. refines_at _ _ _ _ (ap (λ (z : ℕ → Value). z q) is_registers) refl (passed_agrees pf.home f.first_parameter first first' count registers y s'.frame.active st2 (λ k l. pf.received k (subst (λ z. k < z) (sym many) l)) brought q);
      own = λ q n e. ap (λ z. st2.shape (own_slot z n)) is_active ∙ mine n (pf.slots q n e);
      free = λ q r e. let d = (pf.free q r e).0 in ((λ z. omega arith), (λ z. omega arith));
      seen = λ o e. ap (λ z. cond (o.activation == active.number) (cond (o.depth == active.depth) z None) (st.shape o)) (same_shapes f g pf o.name e) ∙ ap (λ z. cond (o.activation == active.number) (cond (o.depth == active.depth) (shapes_of f o.name) None) z) (out.seen o e) ∙ ap (λ (z : Store). z.shape o) (sym is_store);
      unseen = λ o e. ap (λ (z : Store). z.shape o) is_store ∙ none_none (o.activation == active.number) (o.depth == active.depth) (shapes_of f o.name) (s.store.shape o) (no_slots f pf.virtual.1 o.name e) (out.unseen o e);
      holds = λ o i e. unset_both (o.activation == active.number) (st.values o i) (s.store.values o i) (out.holds o i e) ∙ ap (λ (z : Store). z.values o i) (sym is_store);
      callers = subst (λ z. Callers u v st2 s'.frame.active.number z xs) (sym is_callers) (subst (λ (z : Active). Callers u v st2 z.number ws xs) (sym is_active) (subst (λ z. Callers u v st2 z ws xs) (sym number) (callers_kept u v st st2 (s.begun + 1) ws xs (λ o t l. older o (subst (λ z. o.activation < z) (sym number) l)) out.callers)));
      fresh = subst (λ (z : Active). z.number ≤ s'.begun) (sym is_active) (subst (λ z. active.number ≤ z) (sym is_begun) (omega arith));
    }
  where
    mine : (n : ℕ) → n < g.slots → cond (active.number == active.number) (cond (active.depth == active.depth) (shapes_of g (Slot n)) None) (st.shape (own_slot active n)) ≡ Some slot_shape
    mine n l = ap (λ z. cond z (cond (active.depth == active.depth) (shapes_of g (Slot n)) None) (st.shape (own_slot active n))) (self active.number) ∙ ap (λ z. cond z (shapes_of g (Slot n)) None) (self active.depth) ∙ own_shape g n l

    older : (o : Object) → o.activation < active.number → ((begun_by g active st).values o 0 ≡ st.values o 0) × ((begun_by g active st).shape o ≡ st.shape o)
    older o l =
        let t : (o.activation == active.number) ≡ false = not_same o.activation active.number l in
        (ap (λ z. cond z Unset (st.values o 0)) t, ap (λ z. cond z (cond (o.depth == active.depth) (shapes_of g o.name) None) (st.shape o)) t)

-- calls of a function's blocks are of functions that take those arguments
abbrev pub BlocksThere : Code → Type 0
BlocksThere u = (i b : ℕ) (f : Function) (block : Block) → slice_get u.functions.items i ≡ Some f → slice_get f.blocks.items b ≡ Some block → AllThere u block.lines.items

-- where a block is placed
abbrev pub placed_spot : (ℕ → Home) → ℕ → ℕ → Block → Spot
placed_spot h m b block = record { block = b; rest = put_lines h m (needed block.exit block.lines.items) (exit_lines h (m + numbers_kept * length (needed block.exit block.lines.items)) block.exit); exit = put_exit h block.exit }

pub spot_is : (h : ℕ → Home) (m : ℕ) (block new : Block) (b c : ℕ) → c ≡ b → PlacedBlock h m block new → at_block c new ≡ placed_spot h m b block
spot_is h m block new b c e p =
    ap (λ (z : ℕ). let r : Spot = record { block = z; rest = new.lines.items; exit = new.exit } in r) e
    ∙ ap (λ (z : List Line). let r : Spot = record { block = b; rest = z; exit = new.exit } in r) p.lines
    ∙ ap (λ (z : Exit). let r : Spot = record { block = b; rest = put_lines h m (needed block.exit block.lines.items) (exit_lines h (m + numbers_kept * length (needed block.exit block.lines.items)) block.exit); exit = z } in r) p.exit

abbrev enters_at : ℕ → Spot → Active → (ℕ → Value) → List Frame → Store → ℕ → State → State
enters_at i spot active registers callers store fuel s = record {
  frame = record { function = i; spot = spot; active = active; registers = registers; to = 0 };
  callers = callers;
  store = store;
  begun = active.number;
  input = s.input;
  output = s.output;
  fuel = fuel;
}

entered : (u v : Code) → BlocksThere u → (s : State) (i fuel first first' count : ℕ) (active : Active) (registers y y0 : ℕ → Value) (z : ℕ) (lines : List Line) (exit : Exit) (ws xs xs0 : List Frame) (st : Store) (f g : Function) (pf : PlacedFunction f g) → slice_get u.functions.items i ≡ Some f → slice_get v.functions.items i ≡ Some g → active.number ≡ s.begun + 1 → f.parameters ≡ count → ((j : ℕ) → j < count → Refines (registers (first + j)) (y (first' + j))) → Outer u v s ws xs st → (o : Option Block) → slice_get f.blocks.items f.entry ≡ o → NextRel u v (on_checked (found o) (λ block. activates i f active (passed f.first_parameter first count registers) ws fuel block s)) (on_checked (found (slice_get g.blocks.items g.entry)) (λ block. activates i g active (passed g.first_parameter first' count y) xs fuel block (twin s lines exit y0 z xs0 st)))
entered u v there s i fuel first first' count active registers y y0 z lines exit ws xs xs0 st f g pf is_f is_g number many brought out None at = tt
entered u v there s i fuel first first' count active registers y y0 z lines exit ws xs xs0 st f g pf is_f is_g number many brought out (Some block) at =
    let h : ℕ → Home = pf.home in
    let p = from_new number_behind (PlacedBlock h) pf.first_access f.blocks.items g.blocks.items f.entry block pf.blocks at in
    let new : Block = p.1 in
    let pb : PlacedBlock h p.0 block new = p.3 in
    let entry : g.entry ≡ f.entry = ap (λ (q : Function). q.entry) pf.rest in
    let ten : g.first_parameter ≡ 10 = ap (λ (q : Function). q.first_parameter) pf.rest in
    let w : State = twin s lines exit y0 z xs0 st in
    let ev : List Event = Tests ∷ Saves active ∷ [] in
    let st2 : Store = begun_by g active st in
    let s1 : State = enters_at i (at_block f.entry block) active (passed f.first_parameter first count registers) ws (begun_by f active s.store) fuel s in
    let t1 : State = enters_at i (placed_spot h p.0 f.entry block) active (passed 10 first' count y) xs st2 fuel s in (
      t1,
      ev,
      ap (λ q. on_checked (found (slice_get g.blocks.items q)) (λ block. activates i g active (passed g.first_parameter first' count y) xs fuel block w)) entry
          ∙ ap (λ q. on_checked (found q) (λ block. activates i g active (passed g.first_parameter first' count y) xs fuel block w)) p.2
          ∙ ap (λ q. Goes (enters_at i q active (passed g.first_parameter first' count y) xs st2 fuel s) ev) (spot_is h p.0 block new f.entry g.entry entry pb)
          ∙ ap (λ q. Goes (enters_at i (placed_spot h p.0 f.entry block) active (passed q first' count y) xs st2 fuel s) ev) ten,
      refl,
      record {
        f = f;
        g = g;
        is_f = is_f;
        is_g = is_g;
        pf = pf;
        n = p.0;
        e = p.0 + numbers_kept * length (needed block.exit block.lines.items);
        y = passed 10 first' count y;
        z = 0;
        xs = xs;
        st = st2;
        left = needed block.exit block.lines.items;
        put = inl refl;
        is = refl;
        valid = pf.valid f.entry block at;
        there = there i f.entry f block is_f at;
        held = entered_held u v s s1 active first first' count registers y ws xs st f g pf _ number many brought out refl refl refl refl refl;
      },
    )

pub cond_both : (u v : Code) (b : Bool) (x x' y y' : Next) → NextRel u v x x' → NextRel u v y y' → NextRel u v (cond b x y) (cond b x' y')
cond_both u v true x x' y y' h k = h
cond_both u v false x x' y y' h k = k

-- a function begins in both
pub enters_both : (u v : Code) → BlocksThere u → IsPlaced u v → (g : Setting) (s : State) (i first first' count fuel : ℕ) (registers y y0 : ℕ → Value) (z : ℕ) (lines : List Line) (exit : Exit) (ws xs xs0 : List Frame) (st : Store) → Takes (slice_get u.functions.items i) count → ((j : ℕ) → j < count → Refines (registers (first + j)) (y (first' + j))) → Outer u v s ws xs st → NextRel u v (enters u g i first count registers ws fuel s) (enters v g i first' count y xs fuel (twin s lines exit y0 z xs0 st))
enters_both u v there pl g s i first first' count fuel registers y y0 z lines exit ws xs xs0 st takes_it brought out = by (slice_get u.functions.items i) refl takes_it
  where
    w : State
    w = twin s lines exit y0 z xs0 st

    active : Active
    active = next_active u g i s

    by : (o : Option Function) → slice_get u.functions.items i ≡ o → Takes o count → NextRel u v (on_checked (found o) (λ f. cond (nat_le active.depth g.stack) (on_checked (found (slice_get f.blocks.items f.entry)) (λ block. activates i f active (passed f.first_parameter first count registers) ws fuel block s)) (Stops (ended u 1 (pos 0) s) (Tests ∷ [])))) (enters v g i first' count y xs fuel w)
    by None e many = absurd many
    by (Some f) e many =
        let q = zip_new PlacedFunction u.functions.items v.functions.items i f pl.functions e in
        let f' : Function = q.0 in
        let pf : PlacedFunction f f' = q.2 in
        next_at u v _ _ _ (ap (λ z. on_checked (found z) (λ f. cond (nat_le active.depth g.stack) (on_checked (found (slice_get f.blocks.items f.entry)) (λ block. activates i f active (passed f.first_parameter first' count y) xs fuel block w)) (Stops (ended v 1 (pos 0) w) (Tests ∷ [])))) q.1)
        (cond_both u v (nat_le active.depth g.stack) _ _ _ _
        (entered u v there s i fuel first first' count active registers y y0 z lines exit ws xs xs0 st f f' pf e q.1 refl many brought out (slice_get f.blocks.items f.entry) refl)
        ((Tests ∷ []), ap (λ z. Stops (End 1 (pos 0) s.output z) (Tests ∷ [])) (shows u v pl s.store st out.holds), refl))

split_both : (to q : ℕ) (after : ℕ → Bool) → without to after q ≡ true → (after q ≡ true) × (q ≢ to)
split_both to q after t = by (q == to) refl t
  where
    by : (b : Bool) → (q == to) ≡ b → (not b && after q) ≡ true → (after q ≡ true) × (q ≢ to)
    by true e h = absurd cc
    by false e h = (h, let ne : q ≢ to = grind (arith, nat_tests) in ne)

pub split_without : (to q : ℕ) (after : ℕ → Bool) → without to after q ≡ true → (after q ≡ true) × (q ≢ to)
split_without to q after t = split_both to q after t

-- what a call leaves of registers
pub keeps_own : (u v : Code) (s : State) (k : Known u v s) (registers : ℕ → Value) → kept_by (slice_get u.functions.items s.frame.function) registers ≡ registers
keeps_own u v s k registers = ap (λ o. kept_by o registers) k.is_f ∙ ap (λ q. kept q registers) k.pf.virtual.0

pub loses_all : (u v : Code) (s : State) (k : Known u v s) (registers : ℕ → Value) → kept_by (slice_get v.functions.items s.frame.function) registers ≡ (λ r. Unset)
loses_all u v s k registers = ap (λ o. kept_by o registers) k.is_g ∙ ap (λ (q : Function). kept q.registers registers) k.pf.rest

-- a call
pub call_after : (u v : Code) → BlocksThere u → IsPlaced u v → (g : Setting) (s : State) (k : Known u v s) (n e to i first count : ℕ) (rest : List Line) (y : ℕ → Value) (z : ℕ) (xs : List Frame) (st : Store) → ValidLine k.pf.home (Call to i first count) (lives k.pf.live rest s.frame.spot.exit) → Valid k.pf.home k.pf.live rest s.frame.spot.exit → Takes (slice_get u.functions.items i) count → AllThere u rest → Held u v s k.pf.home (lives k.pf.live (Call to i first count ∷ rest) s.frame.spot.exit) y xs st → After u v g (twin s (put_line k.pf.home n (Call to i first count) (put_lines k.pf.home (n + numbers_kept) (past_cut s.frame.spot.exit (needed s.frame.spot.exit rest)) (exit_lines k.pf.home e s.frame.spot.exit))) (put_exit k.pf.home s.frame.spot.exit) y z xs st) (does u g (Call to i first count) rest s)
call_after u v blocks pl g s k n e to i first count rest y z xs st okay valid takes_it there m =
    let h = k.pf.home in
    let after : ℕ → Bool = lives k.pf.live rest s.frame.spot.exit in
    let args : ℕ → Bool = λ q. nat_le first q && nat_lt q (first + count) in
    let tail : List Line = Cut ReturnCut ∷ give (h to) (n + 2) (put_lines h (n + numbers_kept) (past_cut s.frame.spot.exit (needed s.frame.spot.exit rest)) (exit_lines h e s.frame.spot.exit)) in
    let one : Line = Call 10 i 10 count in
    let exit : Exit = put_exit h s.frame.spot.exit in
    let less : Held u v s h (without to after) y xs st = held_less u v s h _ (without to after) y xs st (λ q t. without_live (args q) q to after t) m in
    let clear = okay.1 in
    let few : count ≤ 8 = clear.few in
    let b : Brought u v g s h (without to after) 10 first count (bring h 10 first count (n + 3) (one ∷ tail)) (one ∷ tail) exit y z xs st =
    bring_all u v g s h (without to after) 10 first count (n + 3) (one ∷ tail) exit y z xs st (omega arith) (omega arith)
    (λ q r lo hi f. clear.apart q r lo hi f)
    (λ q r t f. let d = split_without to q after t in let o = okay.0 q d.0 d.1 in let c : InRegister r ≡ InSlot o.0 = sym f ∙ o.1 in cc)
    (λ q lo hi. m.agrees q (or_left (args q) _ (both_are _ _ (at_most_is first q lo) (less_is q (first + count) hi)))) less in
    let m2 = b.held in
    let w : Frame = waiting u g s.frame to rest in
    let x : Frame = record { function = s.frame.function; spot = record { block = s.frame.spot.block; rest = tail; exit = exit }; active = s.frame.active; registers = kept_by (slice_get v.functions.items s.frame.function) b.y'; to = 10 } in
    let own : kept_by (slice_get u.functions.items s.frame.function) s.frame.registers ≡ s.frame.registers = keeps_own u v s k s.frame.registers in
    let stands : WaitsFor u v st w x = record {
      f = k.f;
      g = k.g;
      is_f = k.is_f;
      is_g = k.is_g;
      pf = k.pf;
      give_number = n + 2;
      n = n + numbers_kept;
      e = e;
      is = ap (λ (q : ℕ → Value). let r : Frame = record { function = s.frame.function; spot = record { block = s.frame.spot.block; rest = tail; exit = exit }; active = s.frame.active; registers = q; to = 10 } in r) (loses_all u v s k b.y');
      valid = valid;
      there = there;
      survives = λ q t ne. let o = okay.0 q t ne in (o.0, o.1, o.2, refines_at (s.frame.registers q) _ _ _ (ap (λ (r : ℕ → Value). r q) own) (ap (λ z. at_home z s.frame.active b.y' st) (sym o.1)) (m2.agrees q (is_without to q after t ne)));
      own = λ q n e. m.own q n e;
    } in
    after_first u v g b.n b.ev _ _ _ b.walk b.silent
    (next_after u v g (twin s (one ∷ tail) exit b.y' z xs st) _
    (takes_both u v s.fuel s.output _ _ (λ fuel.
    enters_both u v blocks pl g s i first 10 count fuel s.frame.registers b.y' b.y' z (one ∷ tail) exit (w ∷ s.callers) (x ∷ xs) xs st takes_it b.brought
    (record {
      seen = m.seen;
      unseen = m.unseen;
      holds = m.holds;
      callers = (stands, (let f = m.fresh in omega arith), m.callers);
    }))))

pub takes_after : (u v : Code) (g : Setting) (t : State) (fuel : ℕ) (output : List ℕ) (go go' : ℕ → Next) → step v g t ≡ takes fuel output go' → ((less : ℕ) → step v g t ≡ go' less → After u v g t (go less)) → After u v g t (takes fuel output go)
takes_after u v g t zero output go go' e h = record { n = 1; ev = []; over = λ acc. ap (λ z. goes_on z (exec v g 0) acc) e; told = refl }
takes_after u v g t (suc less) output go go' e h = h less e

-- a built-in function has given a value
served_after : (u v : Code) (g : Setting) (s : State) (k : Known u v s) (n e to : ℕ) (b : Value) (rest : List Line) (input output : List ℕ) (fuel : ℕ) (t : State) (y : ℕ → Value) (z : ℕ) (xs : List Frame) (st : Store) → Survives k.pf.home to (lives k.pf.live rest s.frame.spot.exit) → Valid k.pf.home k.pf.live rest s.frame.spot.exit → AllThere u rest → step v g t ≡ served v g 10 b (Cut ReturnCut ∷ give (k.pf.home to) (n + 2) (put_lines k.pf.home (n + numbers_kept) (past_cut s.frame.spot.exit (needed s.frame.spot.exit rest)) (exit_lines k.pf.home e s.frame.spot.exit))) input output fuel (twin s [] (put_exit k.pf.home s.frame.spot.exit) y z xs st) → Held u v s k.pf.home (without to (lives k.pf.live rest s.frame.spot.exit)) y xs st → After u v g t (served u g to b rest input output fuel s)
served_after u v g s k n e to b rest input output fuel t y z xs st okay valid there is m =
    let h = k.pf.home in
    let after : ℕ → Bool = lives k.pf.live rest s.frame.spot.exit in
    let lines : List Line = put_lines h (n + numbers_kept) (past_cut s.frame.spot.exit (needed s.frame.spot.exit rest)) (exit_lines h e s.frame.spot.exit) in
    let tail : List Line = give (h to) (n + 2) lines in
    let exit : Exit = put_exit h s.frame.spot.exit in
    let lost : ℕ → Value = λ r. Unset in
    let y2 : ℕ → Value = with_register lost 10 b in
    let own : kept_by (slice_get u.functions.items s.frame.function) s.frame.registers ≡ s.frame.registers = keeps_own u v s k s.frame.registers in
    let s1 : State = record s { frame = record s.frame { registers = kept_by (slice_get u.functions.items s.frame.function) s.frame.registers }; input = input; output = output; fuel = fuel } in
    let t1 : State = twin s1 (Cut ReturnCut ∷ tail) exit y2 z xs st in
    let t2 : State = twin s1 tail exit y2 z xs st in
    let goes : step v g t ≡ Goes t1 (Serves ∷ []) = is ∙ ap (λ (q : ℕ → Value). Goes (twin s1 (Cut ReturnCut ∷ tail) exit (with_register q 10 b) z xs st) (Serves ∷ [])) (loses_all u v s k y) in
    let held1 : Held u v s1 h (without to after) y2 xs st = record {
      agrees = λ q t.
          let d = split_without to q after t in
          let o = okay q d.0 d.1 in
          refines_at (s.frame.registers q) _ (at_home (h q) s.frame.active y st) _ (ap (λ (r : ℕ → Value). r q) own)
          (ap (λ z. at_home z s.frame.active y2 st) o.1 ∙ ap (λ z. at_home z s.frame.active y st) (sym o.1)) (m.agrees q t);
      own = m.own;
      free = m.free;
      seen = m.seen;
      unseen = m.unseen;
      holds = m.holds;
      callers = m.callers;
      fresh = m.fresh;
    } in
    let sv : Saved u v g s1 h after to b tail lines exit y2 z xs st = give_home u v g s1 h after to b (h to) (n + 2) lines exit y2 z xs st refl (λ q t ne. (okay q t ne).2) (inr (sym (same_register lost 10 b))) held1 in
    let last = sv.held in
    record {
      n = plus 1 (plus 1 sv.n);
      ev = (Serves ∷ []) ++ ((Cuts ∷ []) ++ sv.ev);
      t' = twin s1 lines exit sv.y' z xs sv.st';
      walk = walk_join v g 1 (plus 1 sv.n) (Serves ∷ []) ((Cuts ∷ []) ++ sv.ev) t t1 _ (walk_one v g (Serves ∷ []) t t1 goes) (walk_join v g 1 sv.n (Cuts ∷ []) sv.ev t1 t2 _ (walk_one v g (Cuts ∷ []) t1 t2 refl) sv.walk);
      told = ap (λ q. Serves ∷ q) sv.silent;
      same = record {
        f = k.f;
        g = k.g;
        is_f = k.is_f;
        is_g = k.is_g;
        pf = k.pf;
        n = n + numbers_kept;
        e = e;
        y = sv.y';
        z = z;
        xs = xs;
        st = sv.st';
        left = past_cut s.frame.spot.exit (needed s.frame.spot.exit rest);
        put = inr refl;
        is = refl;
        valid = valid;
        there = there;
        held = record { agrees = last.agrees; own = last.own; free = last.free; seen = last.seen; unseen = last.unseen; holds = last.holds; callers = last.callers; fresh = last.fresh };
      };
    }

-- a service without a parameter
pub get_after : (u v : Code) (g : Setting) (s : State) (k : Known u v s) (n e to : ℕ) (service : Service) (rest : List Line) (y : ℕ → Value) (z : ℕ) (xs : List Frame) (st : Store) → Survives k.pf.home to (lives k.pf.live rest s.frame.spot.exit) → Valid k.pf.home k.pf.live rest s.frame.spot.exit → AllThere u rest → Held u v s k.pf.home (lives k.pf.live (Serve to service None ∷ rest) s.frame.spot.exit) y xs st → After u v g (twin s (put_line k.pf.home n (Serve to service None) (put_lines k.pf.home (n + numbers_kept) (past_cut s.frame.spot.exit (needed s.frame.spot.exit rest)) (exit_lines k.pf.home e s.frame.spot.exit))) (put_exit k.pf.home s.frame.spot.exit) y z xs st) (does u g (Serve to service None) rest s)
get_after u v g s k n e to service rest y z xs st okay valid there m =
    takes_after u v g t s.fuel s.output _ _ refl (λ fuel is.
    let reply = serve service g.capacity (pos 0) s.input s.output in
    served_after u v g s k n e to (Number reply.value) rest reply.input reply.output fuel t y z xs st okay valid there is less)
  where
    t : State
    t = twin s (put_line k.pf.home n (Serve to service None) (put_lines k.pf.home (n + numbers_kept) (past_cut s.frame.spot.exit (needed s.frame.spot.exit rest)) (exit_lines k.pf.home e s.frame.spot.exit))) (put_exit k.pf.home s.frame.spot.exit) y z xs st

    less : Held u v s k.pf.home (without to (lives k.pf.live rest s.frame.spot.exit)) y xs st
    less = held_less u v s k.pf.home _ _ y xs st (λ q t. t) m

-- a service with an argument
pub put_after : (u v : Code) (g : Setting) (s : State) (k : Known u v s) (n e to from : ℕ) (service : Service) (rest : List Line) (y : ℕ → Value) (z : ℕ) (xs : List Frame) (st : Store) → Survives k.pf.home to (lives k.pf.live rest s.frame.spot.exit) → Valid k.pf.home k.pf.live rest s.frame.spot.exit → AllThere u rest → Held u v s k.pf.home (lives k.pf.live (Serve to service (Some from) ∷ rest) s.frame.spot.exit) y xs st → After u v g (twin s (put_line k.pf.home n (Serve to service (Some from)) (put_lines k.pf.home (n + numbers_kept) (past_cut s.frame.spot.exit (needed s.frame.spot.exit rest)) (exit_lines k.pf.home e s.frame.spot.exit))) (put_exit k.pf.home s.frame.spot.exit) y z xs st) (does u g (Serve to service (Some from)) rest s)
put_after u v g s k n e to from service rest y z xs st okay valid there m =
    let h = k.pf.home in
    let after : ℕ → Bool = lives k.pf.live rest s.frame.spot.exit in
    let tail : List Line = Cut ReturnCut ∷ give (h to) (n + 2) (put_lines h (n + numbers_kept) (past_cut s.frame.spot.exit (needed s.frame.spot.exit rest)) (exit_lines h e s.frame.spot.exit)) in
    let exit : Exit = put_exit h s.frame.spot.exit in
    let l : Loaded u v g s h (without to after) (s.frame.registers from) (into (h from) 10 n (Serve 10 service (Some 10) ∷ tail)) (Serve 10 service (Some 10) ∷ tail) exit 10 10 y z xs st =
    into_home u v g s h (without to after) (s.frame.registers from) (h from) 10 n (Serve 10 service (Some 10) ∷ tail) exit y z xs st
    (λ q r t f. absurd (let d = split_without to q after t in let o = okay q d.0 d.1 in let c : InRegister r ≡ InSlot o.0 = sym f ∙ o.1 in cc))
    (λ i f. m.own from i f) (m.agrees from (or_left (from == from) _ (self from)))
    (held_less u v s h _ (without to after) y xs st (λ q t. without_live (q == from) q to after t) m) in
    let t1 : State = twin s (Serve 10 service (Some 10) ∷ tail) exit l.y' z xs st in
    after_first u v g l.n l.ev _ t1 _ l.walk l.silent
    (takes_after u v g t1 s.fuel s.output _ _ refl (λ fuel is.
    checked_after u v g t1 (number_of (s.frame.registers from)) _ (λ c f.
    let reply = serve service g.capacity c s.input s.output in
    served_after u v g s k n e to (Number reply.value) rest reply.input reply.output fuel t1 l.y' z xs st okay valid there
    (is ∙ ap (λ q. on_checked q (λ c. serves v g 10 service c tail fuel t1)) (number_refines (s.frame.registers from) (l.y' 10) c l.value f)) l.held)))
