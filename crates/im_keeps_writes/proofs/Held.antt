-- What placed code writes lies in a static or in the stack.
use Rattle.std.proofs.Common.{◌≡◌, ℕ, zero, suc, ◌+◌, ◌≤◌, ◌⊎◌, inl, inr, Bool, true, false, cond, List, [], ◌∷◌, ◌++◌, Some, sym, ap, ◌∙◌, subst, refl, arith}
use Rattle.std.specs.Prelude.{nat_le, slice_get, None}
use Rattle.im_num.specs.declared.kind.Kind.{Kind}
use Rattle.im_num.specs.declared.kind.Kind.TheVariants.{U32}
use Rattle.im_num.specs.Kinds.{kind_size}
use Rattle.im_mem.specs.Memory.{Mem}
use Rattle.im_rv.specs.Steps.{Cpu}
use Rattle.im_store.specs.Checks.{Checked, Fine, Bad}
use Rattle.im_store.specs.Objects.{Name, Named, Slot, Link, Object, Value, Number, Null, Unset, Shape}
use Rattle.im_store.specs.Outcomes.{Outcome}
use Rattle.im_store.specs.Statics.{static_shapes, with_statics}
use Rattle.im_block.specs.declared.code.Line.{Line}
use Rattle.im_block.specs.declared.code.Line.TheVariants.{Put, PutNull, Copy, Convert, Unary, Not, Compute, Compare, Move, Distance, Address, Read, Write, Reload, Spill, Cut, Call, Serve}
use Rattle.im_block.specs.declared.code.Exit.{Exit}
use Rattle.im_block.specs.declared.code.Exit.TheVariants.{Jump, Turn, Branch, Return}
use Rattle.im_block.specs.declared.code.Block.{Block}
use Rattle.im_block.specs.declared.unit.Function.{Function}
use Rattle.im_block.specs.declared.unit.Unit.{Unit as Code}
use Rattle.im_block.specs.Meaning.{Setting, Site, site_of, slot_site, object_of, Found, Left, link_shape, slot_of, statics_of, Frame, State, Next, Goes, Stops, Event, Reads, Writes, Tests, Saves, Restores, Serves, Cuts, on_checked, takes, found, computes, reads, writes, read_place, write_place, read_slot, write_slot, number_of, condition, returned, next_active, enters, does, back, goes_to, leaves, step_at, step}
use Rattle.im_block.specs.Runs.{Over, At, goes_on, exec, Runs, before, start}
use Rattle.im_block.specs.Shape.{spot_weight}
use Rattle.im_block.specs.Wellformed.{IsWellFormed}
use Rattle.im_select_relation.specs.Linking.{Linking, pointer_at, base_of, address}
use Rattle.im_select_relation.specs.Linked.{IsLinked}
use Rattle.im_select_relation.specs.Law.{steps}
use Rattle.im_select_relation.proofs.Mapped.{Mark, marks, InFrames, Mapped, Cell, base_static}
use Rattle.im_select_relation.proofs.Checks.{write_place_fine, write_slot_fine}
use Rattle.im_select_relation.proofs.Shapes.{Premises, function_cells, static_cells}
use Rattle.im_select_relation.proofs.Relation.{SlotsShaped, Ordered, AllLinked}
use Rattle.im_select_relation.proofs.Stood.{Stood, Shaded, Waits, Bears, Zeroes, Brings}
use Rattle.im_select_relation.proofs.Steps.{static_lies, stood_brings, begin_brings, over_is}

-- n bytes from a on lie in the static of this number
pub record InStatic (p : Linking) (u : Code) (a n : ℕ) : Type 0 where
  pub number : ℕ
  pub shape : Shape
  pub is_static : static_shapes (statics_of u) (Named number) ≡ Some shape
  pub low : p.at (Named number) ≤ a
  pub high : a + n ≤ p.at (Named number) + shape.size

-- or in the stack
abbrev pub IsHeld : Linking → Code → Setting → ℕ → ℕ → Type 0
IsHeld p u g a n = InStatic p u a n ⊎ ((pointer_at g.stack ≤ a) × (a + n ≤ 3145728))

abbrev pub AllHeld : Linking → Code → Setting → List Event → Type 0
AllHeld p u g [] = Unit {0}
AllHeld p u g (Reads site by o i ∷ run) = AllHeld p u g run
AllHeld p u g (Writes site by o i ∷ run) = IsHeld p u g (address p o + i) site.size × AllHeld p u g run
AllHeld p u g (Tests ∷ run) = AllHeld p u g run
AllHeld p u g (Saves by ∷ run) = IsHeld p u g (address p (object_of by Link)) 4 × AllHeld p u g run
AllHeld p u g (Restores by ∷ run) = AllHeld p u g run
AllHeld p u g (Serves ∷ run) = AllHeld p u g run
AllHeld p u g (Cuts ∷ run) = AllHeld p u g run

held_append : (p : Linking) (u : Code) (g : Setting) (a b : List Event) → AllHeld p u g a → AllHeld p u g b → AllHeld p u g (a ++ b)
held_append p u g [] b h k = k
held_append p u g (Reads site by o i ∷ a) b h k = held_append p u g a b h k
held_append p u g (Writes site by o i ∷ a) b h k = (h.0, held_append p u g a b h.1 k)
held_append p u g (Tests ∷ a) b h k = held_append p u g a b h k
held_append p u g (Saves by ∷ a) b h k = (h.0, held_append p u g a b h.1 k)
held_append p u g (Restores by ∷ a) b h k = held_append p u g a b h k
held_append p u g (Serves ∷ a) b h k = held_append p u g a b h k
held_append p u g (Cuts ∷ a) b h k = held_append p u g a b h k

in_stack : (stack : ℕ) (o : Object) (ws : List Mark) → Ordered stack ws → InFrames o ws → pointer_at stack ≤ base_of o
in_stack stack o [] h f = absurd f
in_stack stack o (w ∷ ws) h (inl f) = let e = f.2 in let l = h.0 in omega arith
in_stack stack o (w ∷ ws) h (inr f) = in_stack stack o ws h.3 f

-- what is known of a state
record Here (p : Linking) (u : Code) (g : Setting) (s : State) : Type 0 where
  mapped : Mapped p s.store.shape (marks (s.frame ∷ s.callers))
  ordered : Ordered g.stack (marks (s.frame ∷ s.callers))
  linked : AllLinked s.store.shape (marks (s.frame ∷ s.callers))
  slots : SlotsShaped s.store.shape
  statics : (o : Object) → o.activation ≡ 0 → s.store.shape o ≡ (with_statics (statics_of u)).shape o

here_of : (p : Linking) (u : Code) (g : Setting) (s : State) (c : Cpu) (m : Mem) → Stood p u g s c m → Here p u g s
here_of p u g s c m (Shaded s' c' m' registers alike r) = record { mapped = r.mapped; ordered = r.ordered; linked = r.linked; slots = r.slots; statics = r.statics }
here_of p u g s c m (Waits s' c' m' w) = let r = w.rel in record { mapped = r.mapped; ordered = r.ordered; linked = r.linked; slots = r.slots; statics = r.statics }
here_of p u g s c m (Bears s' c' m' w) = let r = w.rel in record { mapped = r.mapped; ordered = r.ordered; linked = r.linked; slots = r.slots; statics = r.statics }
here_of p u g s c m (Zeroes s' c' m' w) = let r = w.rel in record { mapped = r.mapped; ordered = r.ordered; linked = r.linked; slots = r.slots; statics = r.statics }

-- bytes of a live object
live_held : (p : Linking) (u : Code) (g : Setting) (s : State) → Here p u g s → (o : Object) (sh : Shape) (i n : ℕ) → s.store.shape o ≡ Some sh → i + n ≤ sh.size → IsHeld p u g (address p o + i) n
live_held p u g s h o sh i n live le =
    let l = h.mapped.lies o sh live in
    let high = l.high in
    elim l.where_from [
      | inr f ↦ inr (let low = in_stack g.stack o (marks (s.frame ∷ s.callers)) h.ordered f in (omega arith, omega arith))
      | inl a ↦ inl (named o.name refl (static_lies u o sh (sym (h.statics o a.0) ∙ live)).there (base_static o a.0))
    ]
  where
    named : (a : Name) → o.name ≡ a → static_shapes (statics_of u) a ≡ Some sh → base_of o ≡ 0 → InStatic p u (address p o + i) n
    named (Named k) e there zero_ =
        let at : p.at o.name ≡ p.at (Named k) = ap (λ z. p.at z) e in
        record { number = k; shape = sh; is_static = there; low = omega arith; high = omega arith }
    named (Slot k) e there zero_ = absurd cc
    named Link e there zero_ = absurd cc

module _ (p : Linking) (u : Code) (g : Setting) where
  abbrev Known : Next → Type 0
  Known (Goes s events) = Here p u g s
  Known (Stops o events) = Unit {0}

  abbrev HeldNext : Next → Type 0
  HeldNext (Goes s events) = AllHeld p u g events
  HeldNext (Stops o events) = AllHeld p u g events

  checked_held : {A : Type 0} (o : Checked A) (go : A → Next) → Known (on_checked o go) → ((a : A) → o ≡ Fine a → Known (go a) → HeldNext (go a)) → HeldNext (on_checked o go)
  checked_held (Fine a) go k h = h a refl k
  checked_held (Bad why) go k h = tt

  takes_held : (fuel : ℕ) (output : List ℕ) (go : ℕ → Next) → Known (takes fuel output go) → ((less : ℕ) → Known (go less) → HeldNext (go less)) → HeldNext (takes fuel output go)
  takes_held zero output go k h = tt
  takes_held (suc less) output go k h = h less k

  cond_held : (b : Bool) (x y : Next) → Known (cond b x y) → (Known x → HeldNext x) → (Known y → HeldNext y) → HeldNext (cond b x y)
  cond_held true x y k h f = h k
  cond_held false x y k h f = f k

  computes_held : (s : State) (to : ℕ) (o : Checked Value) (rest : List Line) → Known (computes to o rest s) → HeldNext (computes to o rest s)
  computes_held s to o rest k = checked_held o _ k (λ v e k1. tt)

  reads_held : (s : State) (to : ℕ) (site : Site) (o : Checked Found) (rest : List Line) → Known (reads to site o rest s) → HeldNext (reads to site o rest s)
  reads_held s to site o rest k = checked_held o _ k (λ f e k1. tt)

  writes_held : (s : State) (site : Site) (kind : Kind) (o : Checked Left) (rest : List Line) → Here p u g s → site.size ≡ kind_size kind → ((l : Left) → o ≡ Fine l → Cell p s.store.shape l.at.object l.at.offset kind) → Known (writes site o rest s) → HeldNext (writes site o rest s)
  writes_held s site kind o rest h size cell k = checked_held o _ k (λ l e k1.
      let c = cell l e in
      let le : l.at.offset + site.size ≤ c.sh.size = (let q = (h.mapped.lies l.at.object c.sh c.live).cells.inside l.at.offset kind c.cell in omega arith) in
      (live_held p u g s h l.at.object c.sh l.at.offset site.size c.live le, tt))

  -- the return address of the activation that has begun
  link_held : (s : State) → Here p u g s → IsHeld p u g (address p (object_of s.frame.active Link)) 4
  link_held s h =
      let o : Object = object_of s.frame.active Link in
      let q : address p o + 0 ≡ address p o = omega arith in
      subst (λ z. IsHeld p u g z 4) q (live_held p u g s h o link_shape 0 4 h.linked.1 (omega arith))

  enters_held : (s : State) (i first count fuel : ℕ) (registers : ℕ → Value) (callers : List Frame) → Known (enters u g i first count registers callers fuel s) → HeldNext (enters u g i first count registers callers fuel s)
  enters_held s i first count fuel registers callers k =
      checked_held {A = Function} (found (slice_get u.functions.items i)) _ k (λ f is0 k1.
      cond_held (nat_le (next_active u g i s).depth g.stack) _ _ k1 (λ k2.
      checked_held {A = Block} (found (slice_get f.blocks.items f.entry)) _ k2 (λ block found0 k3. (link_held _ k3, tt)))
      (λ k2. tt))

  does_held : (s : State) (line : Line) (rest : List Line) → Here p u g s → Known (does u g line rest s) → HeldNext (does u g line rest s)
  does_held s (Put to z) rest h k = computes_held s to (Fine (Number z)) rest k
  does_held s (PutNull to) rest h k = computes_held s to (Fine Null) rest k
  does_held s (Copy to from) rest h k = computes_held s to (Fine (s.frame.registers from)) rest k
  does_held s (Convert to kind from) rest h k = computes_held s to _ rest k
  does_held s (Unary to op kind from) rest h k = computes_held s to _ rest k
  does_held s (Not to from) rest h k = computes_held s to _ rest k
  does_held s (Compute to op kind left right) rest h k = computes_held s to _ rest k
  does_held s (Compare to op kind left right) rest h k = computes_held s to _ rest k
  does_held s (Move to size back pointer by) rest h k = computes_held s to _ rest k
  does_held s (Distance to size left right) rest h k = computes_held s to _ rest k
  does_held s (Address to place) rest h k = computes_held s to _ rest k
  does_held s (Read to place kind access) rest h k = reads_held s to (site_of access kind) (read_place place kind s.frame.active s.frame.registers s.store) rest k
  does_held s (Write place kind from access) rest h k =
      writes_held s (site_of access kind) kind (write_place place kind (s.frame.registers from) s.frame.active s.frame.registers s.store) rest h refl
      (λ l e. (write_place_fine p place kind (s.frame.registers from) s.frame.active s.frame.registers s.store l e).write.cell) k
  does_held s (Reload to slot access) rest h k = reads_held s to (slot_site access slot) (read_slot (slot_of slot s.frame.active) s.store) rest k
  does_held s (Spill slot from access) rest h k =
      writes_held s (slot_site access slot) U32 (write_slot (slot_of slot s.frame.active) (s.frame.registers from) s.store) rest h refl
      (λ l e. (write_slot_fine p (slot_of slot s.frame.active) (s.frame.registers from) s.store l (λ sh q. h.slots (object_of s.frame.active (Slot slot)) slot sh refl q) refl e).1.cell) k
  does_held s (Cut cause) rest h k = tt
  does_held s (Call to i first count) rest h k = takes_held s.fuel s.output _ k (λ less k1. enters_held s i first count less s.frame.registers _ k1)
  does_held s (Serve to service None) rest h k = takes_held s.fuel s.output _ k (λ less k1. tt)
  does_held s (Serve to service (Some from)) rest h k = takes_held s.fuel s.output _ k (λ less k1.
      checked_held (number_of (s.frame.registers from)) _ k1 (λ z e k2. tt))

  to_held : (s : State) (b fuel : ℕ) → Known (goes_to u g b fuel s) → HeldNext (goes_to u g b fuel s)
  to_held s b fuel k =
      checked_held {A = Function} (found (slice_get u.functions.items s.frame.function)) _ k (λ f is0 k1.
      checked_held {A = Block} (found (slice_get f.blocks.items b)) _ k1 (λ block found0 k2. tt))

  back_held : (s : State) (callers : List Frame) (v : Value) → Known (back u g callers v s) → HeldNext (back u g callers v s)
  back_held s [] v k = checked_held (number_of v) _ k (λ n e k1. tt)
  back_held s (w ∷ ws) v k = tt

  leaves_held : (s : State) (exit : Exit) → Known (leaves u g exit s) → HeldNext (leaves u g exit s)
  leaves_held s (Jump b) k = to_held s b s.fuel k
  leaves_held s (Turn b) k = takes_held s.fuel s.output _ k (λ less k1. to_held s b less k1)
  leaves_held s (Branch on a b) k = checked_held (condition s.store (s.frame.registers on)) _ k (λ t e k1. to_held s (cond t a b) s.fuel k1)
  leaves_held s (Return from) k = back_held s s.callers (returned u g from s.frame.registers) k

  step_held : (s : State) (lines : List Line) → Here p u g s → Known (step_at u g lines s) → HeldNext (step_at u g lines s)
  step_held s [] h k = leaves_held s s.frame.spot.exit k
  step_held s (line ∷ rest) h k = does_held s line rest h k

  known_after : (fuel words : ℕ) (c : Cpu) (m : Mem) (next : Next) → Brings p u g fuel words c m next → Known next
  known_after fuel words c m (Goes s events) a = here_of p u g s a.d a.k a.stood
  known_after fuel words c m (Stops o events) a = tt

  held_next : (k fuel words : ℕ) (o : Outcome) (run : List Event) (c : Cpu) (m : Mem)
      → ((s : State) (d : Cpu) (n : Mem) (events : List Event) → Stood p u g s d n → AllHeld p u g events → exec u g k s events ≡ Over o run → AllHeld p u g run)
      → (next : Next) (events : List Event) → Brings p u g fuel words c m next → HeldNext next → AllHeld p u g events → goes_on next (exec u g k) events ≡ Over o run → AllHeld p u g run
  held_next k fuel words o run c m rec (Goes s more) events a h so_far e = rec s a.d a.k (events ++ more) a.stood (held_append p u g events more so_far h) e
  held_next k fuel words o run c m rec (Stops q more) events a h so_far e = subst (AllHeld p u g) (over_is q o (events ++ more) run e).1 (held_append p u g events more so_far h)

  module _ (l : Premises p u g) where
    held_run : (k : ℕ) (o : Outcome) (run : List Event) (s : State) (c : Cpu) (m : Mem) (events : List Event) → Stood p u g s c m → AllHeld p u g events → exec u g k s events ≡ Over o run → AllHeld p u g run
    held_run zero o run s c m events r so_far e = let bad : At s events ≡ Over o run = e in absurd cc
    held_run (suc k) o run s c m events r so_far e =
        let a = stood_brings p u g l s c m r in
        held_next k s.fuel (spot_weight (steps p) s.frame.spot) o run c m (λ s' d n more r' h e'. held_run k o run s' d n more r' h e') (step u g s) events a
        (step_held s s.frame.spot.rest (here_of p u g s c m r) (known_after s.fuel (spot_weight (steps p) s.frame.spot) c m (step u g s) a)) so_far e

-- from the first activation on
pub held : (p : Linking) (u : Code) (g : Setting) → IsWellFormed u → IsLinked p u g → (x : ℕ → ℕ) → x 0 ≡ 0 → x 2 ≡ 3145728 → (n : ℕ) (o : Outcome) (run : List Event) → Runs u g n o run → AllHeld p u g run
held p u g w linked x x0 x2 n o run r =
    let l : Premises p u g = record { at = linked; cells = λ i f is a sh h. function_cells u w i f is a sh h; static_cells = λ a sh h. static_cells u w a sh h } in
    let c : Cpu = record { pc = p.begin; x = x } in
    let a = begin_brings p u g l x n x0 x2 in
    held_next p u g r.steps n 10 o run c p.image (λ s d k more rel h e. held_run p u g l r.steps o run s d k more rel h e) (start u g n) [] a
    (enters_held p u g (before u g n) u.main 0 0 n (λ q. Unset) [] (known_after p u g n 10 c p.image (start u g n) a)) tt r.over
