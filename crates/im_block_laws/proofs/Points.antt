-- The tags of a closed points-to assignment hold in each run.
use Rattle.std.proofs.Common.{◌≡◌, ℕ, zero, suc, ◌+◌, ◌-◌, ◌<◌, List, [], ◌∷◌, ◌++◌, length, Bool, true, false, Option, Some, None, refl, sym, subst, arith}
use Rattle.std.specs.Prelude.{slice_get, nat_abs, pos, negsuc, nat_le, nat_lt, ◌==◌, ◌&&◌, if◌then◌else◌}
use Rattle.std.proofs.lemmas.Bool.{eqb-true, ltb-true, leb-true}
use Rattle.im_num.specs.Kinds.{wrap}
use Rattle.im_num.specs.declared.kind.Kind.TheVariants.{U8}
use Rattle.im_store.specs.Checks.{Checked, Fine, Bad}
use Rattle.im_store.specs.Objects.{Named, Value, Number, Null, Unset, Store, ends}
use Rattle.im_store.specs.Statics.{with_statics, static_values}
use Rattle.im_store.specs.Outcomes.{Outcome}
use Rattle.im_serve.specs.Services.{serve}
use Rattle.im_block.specs.declared.access.Tags.{Tags}
use Rattle.im_block.specs.declared.code.Line.{Line}
use Rattle.im_block.specs.declared.code.Line.TheVariants.{Put, PutNull, Copy, Convert, Unary, Not, Compute, Compare, Move, Distance, Address, Read, Write, Reload, Spill, Cut, Call, Serve}
use Rattle.im_block.specs.declared.code.Exit.{Exit}
use Rattle.im_block.specs.declared.code.Exit.TheVariants.{Jump, Turn, Branch, Return}
use Rattle.im_block.specs.declared.code.Block.{Block}
use Rattle.im_block.specs.declared.unit.Registers.{Registers}
use Rattle.im_block.specs.declared.unit.Registers.TheVariants.{Virtual, Machine}
use Rattle.im_block.specs.declared.unit.Function.{Function}
use Rattle.im_block.specs.declared.unit.Unit.{Unit as Code}
use Rattle.im_block.specs.Meaning.{Setting, Event, Active, Frame, State, Next, Goes, Stops, on_checked, takes, found, kept, kept_by, with_register, sets, computes, begun_by, waiting, passed, enters, served, does, goes_to, back, leaves, step_at, step, number_of, condition, returned, next_active, statics_of}
use Rattle.im_block.specs.Runs.{start, before, Over, goes_on, exec}
use Rattle.im_block.specs.Sections.{Has}
use Rattle.im_block.specs.Tagged.{tag_of, AllHold, IsSound}
use Rattle.im_block_laws.specs.PointsTo.{Points, Sub, PlaceHas, ExitGives, BlocksGive, CallClosed, LineClosed, LineTagged, LinesAre, IsClosed, AreTags}
use Rattle.im_block_laws.proofs.Pointing.{ValueIn, value_sub, value_either, number_in, truth_in, moved_in, RegistersIn, StoreIn, place_in, read_in, write_in, first_in}

found_is : {A : Type 0} (o : Option A) (a : A) → found o ≡ Fine a → o ≡ Some a
found_is None a e = cc
found_is (Some b) a e = cc

hold_append : (statics : ℕ) (tags : Tags) (a b : List Event) → AllHold statics tags a → AllHold statics tags b → AllHold statics tags (a ++ b)
hold_append statics tags [] b h k = k
hold_append statics tags (e ∷ a) b h k = (h.0, hold_append statics tags a b h.1 k)

over_run : (o p : Outcome) (a b : List Event) → Over o a ≡ Over p b → a ≡ b
over_run o p a b e = cc

blocks_give : (points : Points) (i : ℕ) (set : List ℕ) (blocks : List Block) (b : ℕ) (block : Block) → BlocksGive points i set blocks → slice_get blocks b ≡ Some block → ExitGives points i set block.exit
blocks_give points i set [] b block h e = cc
blocks_give points i set (x ∷ blocks) zero block h e =
    let one : x ≡ block = cc in
    subst (λ (y : Block). ExitGives points i set y.exit) one h.0
blocks_give points i set (x ∷ blocks) (suc b) block h e = blocks_give points i set blocks b block h.1 e

kept_in : (points : Points) (i : ℕ) (o : Option Function) (registers : ℕ → Value) → RegistersIn points i registers → RegistersIn points i (kept_by o registers)
kept_in points i None registers h = h
kept_in points i (Some f) registers h = by_sort f.registers
  where
    by_sort : (k : Registers) → RegistersIn points i (kept k registers)
    by_sort Virtual = h
    by_sort Machine = λ r. tt

set_in : (points : Points) (i to : ℕ) (v : Value) (registers : ℕ → Value) → ValueIn (Has (points.register i to)) v → RegistersIn points i registers → RegistersIn points i (with_register registers to v)
set_in points i to v registers h all = λ r.
    value_either (Has (points.register i r)) (r == to) v (registers r) (λ e. subst (λ q. ValueIn (Has (points.register i q)) v) (sym (eqb-true r to e)) h) (all r)

both : (x y : Bool) → (x && y) ≡ true → (x ≡ true) × (y ≡ true)
both true y e = (refl, e)
both false y e = cc

-- parameters take the arguments
passed_in : (points : Points) (i callee to first count : ℕ) (registers : ℕ → Value) → ((k : ℕ) → k < count → Sub (points.register i (first + k)) (points.register callee (to + k))) → RegistersIn points i registers → RegistersIn points callee (passed to first count registers)
passed_in points i callee to first count registers sub all = λ r.
    value_either (Has (points.register callee r)) (nat_le to r && nat_lt r (to + count)) (registers (first + (r - to))) Unset
    (λ e.
    let t = both (nat_le to r) (nat_lt r (to + count)) e in
    let low = leb-true to r t.0 in
    let high = ltb-true r (to + count) t.1 in
    let few : r - to < count = omega arith in
    let same : to + (r - to) ≡ r = omega arith in
    subst (λ q. ValueIn (Has (points.register callee q)) (registers (first + (r - to)))) same
    (value_sub (Has (points.register i (first + (r - to)))) (Has (points.register callee (to + (r - to)))) (registers (first + (r - to))) (sub (r - to) few) (all (first + (r - to)))))
    tt

module _ (u : Code) (points : Points) (tags : Tags) (closed : IsClosed points u) (tagged : AreTags points u tags) (g : Setting) where
  abbrev statics : ℕ
  statics = length u.statics.items

  abbrev LinesOk : ℕ → List Line → Type 0
  LinesOk i lines = LinesAre (LineClosed points u.functions.items i) lines × LinesAre (LineTagged points statics tags i) lines

  record FrameOk (frame : Frame) : Type 0 where
    registers : RegistersIn points frame.function frame.registers
    lines : LinesOk frame.function frame.spot.rest

  -- the i-th function, now in a block with that exit, gives its caller what the register there may have
  record Gives (i : ℕ) (exit : Exit) (caller : Frame) : Type 0 where
    blocks : (f : Function) → slice_get u.functions.items i ≡ Some f → BlocksGive points i (points.register caller.function caller.to) f.blocks.items
    exit_gives : ExitGives points i (points.register caller.function caller.to) exit

  abbrev Chained : ℕ → Exit → List Frame → Type 0
  Chained i exit [] = Unit {0}
  Chained i exit (x ∷ callers) = FrameOk x × Gives i exit x × Chained x.function x.spot.exit callers

  record Ok (s : State) : Type 0 where
    frame : FrameOk s.frame
    callers : Chained s.frame.function s.frame.spot.exit s.callers
    store : StoreIn points s.store

  -- a step keeps it, and its events are within their tags
  abbrev Good : Next → Type 0
  Good (Stops o more) = AllHold statics tags more
  Good (Goes s more) = Ok s × AllHold statics tags more

  checked_good : {A : Type 0} (c : Checked A) (go : A → Next) → ((a : A) → c ≡ Fine a → Good (go a)) → Good (on_checked c go)
  checked_good (Fine a) go h = h a refl
  checked_good (Bad why) go h = tt

  takes_good : (fuel : ℕ) (output : List ℕ) (go : ℕ → Next) → ((less : ℕ) → Good (go less)) → Good (takes fuel output go)
  takes_good zero output go h = tt
  takes_good (suc less) output go h = h less

  either_good : (b : Bool) (x y : Next) → Good x → Good y → Good (if b then x else y)
  either_good true x y p q = p
  either_good false x y p q = q

  lines_now : (s : State) (line : Line) (rest : List Line) → s.frame.spot.rest ≡ line ∷ rest → Ok s → LinesOk s.frame.function (line ∷ rest)
  lines_now s line rest e ok = subst (LinesOk s.frame.function) e ok.frame.lines

  lines_next : (s : State) (line : Line) (rest : List Line) → s.frame.spot.rest ≡ line ∷ rest → Ok s → LinesOk s.frame.function rest
  lines_next s line rest e ok = let now = lines_now s line rest e ok in (now.0.1, now.1.1)

  computes_good : (s : State) (line : Line) (to : ℕ) (c : Checked Value) (rest : List Line) → s.frame.spot.rest ≡ line ∷ rest → ((v : Value) → c ≡ Fine v → ValueIn (Has (points.register s.frame.function to)) v) → Ok s → Good (computes to c rest s)
  computes_good s line to c rest e h ok =
      checked_good c (λ v. sets to v rest s []) (λ v is.
      (record { frame = record { registers = set_in points s.frame.function to v s.frame.registers (h v is) ok.frame.registers; lines = lines_next s line rest e ok }; callers = ok.callers; store = ok.store }, tt))

  -- to a block
  chain_to : (i : ℕ) (exit : Exit) (callers : List Frame) (f : Function) (b : ℕ) (block : Block) → slice_get u.functions.items i ≡ Some f → slice_get f.blocks.items b ≡ Some block → Chained i exit callers → Chained i block.exit callers
  chain_to i exit [] f b block at_f at h = tt
  chain_to i exit (x ∷ callers) f b block at_f at h =
      (h.0, record { blocks = h.1.blocks; exit_gives = blocks_give points i (points.register x.function x.to) f.blocks.items b block (h.1.blocks f at_f) at }, h.2)

  lines_at : (i : ℕ) (f : Function) (b : ℕ) (block : Block) → slice_get u.functions.items i ≡ Some f → slice_get f.blocks.items b ≡ Some block → LinesOk i block.lines.items
  lines_at i f b block at_f at = (closed.lines i f b block at_f at, tagged.lines i f b block at_f at)

  to_good : (s : State) (b fuel : ℕ) → Ok s → Good (goes_to u g b fuel s)
  to_good s b fuel ok =
      checked_good (found (slice_get u.functions.items s.frame.function)) _ (λ f is_f.
      let at_f = found_is (slice_get u.functions.items s.frame.function) f is_f in
      checked_good (found (slice_get f.blocks.items b)) _ (λ block is_block.
      let at = found_is (slice_get f.blocks.items b) block is_block in (
        record {
          frame = record { registers = ok.frame.registers; lines = lines_at s.frame.function f b block at_f at };
          callers = chain_to s.frame.function s.frame.spot.exit s.callers f b block at_f at ok.callers;
          store = ok.store;
        },
        tt,
      )))

  returned_in : (i : ℕ) (set : List ℕ) (from : Option ℕ) (registers : ℕ → Value) → ExitGives points i set (Return from) → RegistersIn points i registers → ValueIn (Has set) (returned u g from registers)
  returned_in i set None registers gives all = tt
  returned_in i set (Some r) registers gives all = value_sub (Has (points.register i r)) (Has set) (registers r) gives (all r)

  ended_in : (store : Store) (activation : ℕ) → StoreIn points store → StoreIn points (ends store activation)
  ended_in store activation h = record { each = h.each }

  back_good : (s : State) (from : Option ℕ) (callers : List Frame) → Chained s.frame.function (Return from) callers → Ok s → Good (back u g callers (returned u g from s.frame.registers) s)
  back_good s from [] h ok = checked_good (number_of (returned u g from s.frame.registers)) _ (λ z is. (tt, tt))
  back_good s from (x ∷ callers) h ok =
      let v = returned_in s.frame.function (points.register x.function x.to) from s.frame.registers h.1.exit_gives ok.frame.registers in (
        record {
          frame = record { registers = set_in points x.function x.to (returned u g from s.frame.registers) x.registers v h.0.registers; lines = h.0.lines };
          callers = h.2;
          store = ended_in s.store s.frame.active.number ok.store;
        },
        (tt, tt),
      )

  leaves_good : (s : State) (exit : Exit) → s.frame.spot.exit ≡ exit → Ok s → Good (leaves u g exit s)
  leaves_good s (Jump b) e ok = to_good s b s.fuel ok
  leaves_good s (Turn b) e ok = takes_good s.fuel s.output _ (λ less. to_good s b less ok)
  leaves_good s (Branch on x y) e ok = checked_good (condition s.store (s.frame.registers on)) _ (λ holds is. to_good s (if holds then x else y) s.fuel ok)
  leaves_good s (Return from) e ok = back_good s from s.callers (subst (λ x. Chained s.frame.function x s.callers) e ok.callers) ok

  -- a new activation
  begun_in : (f : Function) (by : Active) (store : Store) → StoreIn points store → StoreIn points (begun_by f by store)
  begun_in f by store h = record {
    each = λ o m is i. value_either (Has (points.object m)) (o.activation == by.number) Unset (store.values o i) (λ e. tt) (h.each o m is i);
  }

  enters_good : (s : State) (callee first count fuel : ℕ) (registers : ℕ → Value) (callers : List Frame) → ((f : Function) → slice_get u.functions.items callee ≡ Some f → RegistersIn points callee (passed f.first_parameter first count registers)) → ((f : Function) (block : Block) → slice_get u.functions.items callee ≡ Some f → slice_get f.blocks.items f.entry ≡ Some block → Chained callee block.exit callers) → StoreIn points s.store → Good (enters u g callee first count registers callers fuel s)
  enters_good s callee first count fuel registers callers regs chain store =
      checked_good (found (slice_get u.functions.items callee)) _ (λ f is_f.
      let at_f = found_is (slice_get u.functions.items callee) f is_f in
      either_good (nat_le (next_active u g callee s).depth g.stack) _ _
      (checked_good (found (slice_get f.blocks.items f.entry)) _ (λ block is_block.
      let at = found_is (slice_get f.blocks.items f.entry) block is_block in (
        record {
          frame = record { registers = regs f at_f; lines = lines_at callee f f.entry block at_f at };
          callers = chain f block at_f at;
          store = begun_in f (next_active u g callee s) s.store store;
        },
        (tt, (tt, tt)),
      )))
      (tt, tt))

  call_closed : (i to first count callee : ℕ) (o : Option Function) (f : Function) → CallClosed points i to first count callee o → o ≡ Some f → CallClosed points i to first count callee (Some f)
  call_closed i to first count callee o f h e = subst (CallClosed points i to first count callee) e h

  call_good : (s : State) (to callee first count : ℕ) (rest : List Line) → s.frame.spot.rest ≡ Call to callee first count ∷ rest → Ok s → Good (does u g (Call to callee first count) rest s)
  call_good s to callee first count rest e ok =
      let line = Call to callee first count in
      let now = lines_now s line rest e ok in
      let i = s.frame.function in
      takes_good s.fuel s.output _ (λ less.
      enters_good s callee first count less s.frame.registers (waiting u g s.frame to rest ∷ s.callers)
      (λ f at_f. passed_in points i callee f.first_parameter first count s.frame.registers (call_closed i to first count callee (slice_get u.functions.items callee) f now.0.0 at_f).0 ok.frame.registers)
      (λ f block at_f at. (
        record { registers = kept_in points i (slice_get u.functions.items i) s.frame.registers ok.frame.registers; lines = lines_next s line rest e ok },
        record {
          blocks = λ h at_h. (call_closed i to first count callee (slice_get u.functions.items callee) h now.0.0 at_h).1;
          exit_gives = blocks_give points callee (points.register i to) f.blocks.items f.entry block (call_closed i to first count callee (slice_get u.functions.items callee) f now.0.0 at_f).1 at;
        },
        ok.callers,
      ))
      ok.store)

  served_good : (s : State) (line : Line) (to : ℕ) (v : Value) (rest : List Line) (input output : List ℕ) (fuel : ℕ) → ValueIn (Has (points.register s.frame.function to)) v → s.frame.spot.rest ≡ line ∷ rest → Ok s → Good (served u g to v rest input output fuel s)
  served_good s line to v rest input output fuel h e ok = (
    record {
      frame = record {
        registers = set_in points s.frame.function to v (kept_by (slice_get u.functions.items s.frame.function) s.frame.registers) h (kept_in points s.frame.function (slice_get u.functions.items s.frame.function) s.frame.registers ok.frame.registers);
        lines = lines_next s line rest e ok;
      };
      callers = ok.callers;
      store = ok.store;
    },
    (tt, tt),
  )

  does_good : (s : State) (line : Line) (rest : List Line) → s.frame.spot.rest ≡ line ∷ rest → Ok s → Good (does u g line rest s)
  does_good s (Put to z) rest e ok = computes_good s _ to (Fine (Number z)) rest e (λ v is. (let same : Number z ≡ v = cc in subst (ValueIn (Has (points.register s.frame.function to))) same tt)) ok
  does_good s (PutNull to) rest e ok = computes_good s _ to (Fine Null) rest e (λ v is. (let same : Null ≡ v = cc in subst (ValueIn (Has (points.register s.frame.function to))) same tt)) ok
  does_good s (Copy to from) rest e ok =
      let now = lines_now s (Copy to from) rest e ok in
      computes_good s _ to (Fine (s.frame.registers from)) rest e (λ v is.
      let same : s.frame.registers from ≡ v = cc in
      subst (ValueIn (Has (points.register s.frame.function to))) same (value_sub (Has (points.register s.frame.function from)) (Has (points.register s.frame.function to)) (s.frame.registers from) now.0.0 (ok.frame.registers from))) ok
  does_good s (Convert to kind from) rest e ok = computes_good s _ to _ rest e (λ v is. number_in (Has (points.register s.frame.function to)) _ v is) ok
  does_good s (Unary to op kind from) rest e ok = computes_good s _ to _ rest e (λ v is. number_in (Has (points.register s.frame.function to)) _ v is) ok
  does_good s (Not to from) rest e ok = computes_good s _ to _ rest e (λ v is. truth_in (Has (points.register s.frame.function to)) _ v is) ok
  does_good s (Compute to op kind left right) rest e ok = computes_good s _ to _ rest e (λ v is. number_in (Has (points.register s.frame.function to)) _ v is) ok
  does_good s (Compare to op kind left right) rest e ok = computes_good s _ to _ rest e (λ v is. truth_in (Has (points.register s.frame.function to)) _ v is) ok
  does_good s (Move to size back pointer by) rest e ok =
      let now = lines_now s (Move to size back pointer by) rest e ok in
      computes_good s _ to _ rest e (λ v is.
      value_sub (Has (points.register s.frame.function pointer)) (Has (points.register s.frame.function to)) v now.0.0
      (moved_in (Has (points.register s.frame.function pointer)) s.store size back (s.frame.registers pointer) (s.frame.registers by) v (ok.frame.registers pointer) is)) ok
  does_good s (Distance to size left right) rest e ok = computes_good s _ to _ rest e (λ v is. number_in (Has (points.register s.frame.function to)) _ v is) ok
  does_good s (Address to place) rest e ok =
      let now = lines_now s (Address to place) rest e ok in
      computes_good s _ to _ rest e (λ v is.
      value_sub (PlaceHas points s.frame.function place) (Has (points.register s.frame.function to)) v now.0.0
      (place_in points s.frame.function place s.frame.active s.frame.registers s.store v ok.frame.registers is)) ok
  does_good s (Read to place kind access) rest e ok =
      let line = Read to place kind access in
      let now = lines_now s line rest e ok in
      let i = s.frame.function in
      checked_good _ _ (λ f is.
      let r = read_in points statics i place kind (tag_of tags access) (points.register i to) s.frame.active s.frame.registers s.store f now.0.0 now.1.0 ok.frame.registers ok.store is in
      (record { frame = record { registers = set_in points i to f.value s.frame.registers r.value ok.frame.registers; lines = lines_next s line rest e ok }; callers = ok.callers; store = ok.store }, (r.holds, tt)))
  does_good s (Write place kind from access) rest e ok =
      let line = Write place kind from access in
      let now = lines_now s line rest e ok in
      let i = s.frame.function in
      checked_good _ _ (λ l is.
      let w = write_in points statics i place kind (tag_of tags access) (points.register i from) (s.frame.registers from) s.frame.active s.frame.registers s.store l now.0.0 (ok.frame.registers from) now.1.0 ok.frame.registers ok.store is in
      (record { frame = record { registers = ok.frame.registers; lines = lines_next s line rest e ok }; callers = ok.callers; store = w.store }, (w.holds, tt)))
  does_good s (Reload to slot access) rest e ok = absurd (lines_now s (Reload to slot access) rest e ok).0.0
  does_good s (Spill slot from access) rest e ok = absurd (lines_now s (Spill slot from access) rest e ok).0.0
  does_good s (Cut cause) rest e ok =
      (record { frame = record { registers = ok.frame.registers; lines = lines_next s (Cut cause) rest e ok }; callers = ok.callers; store = ok.store }, (tt, tt))
  does_good s (Call to callee first count) rest e ok = call_good s to callee first count rest e ok
  does_good s (Serve to service None) rest e ok =
      takes_good s.fuel s.output _ (λ less.
      let reply = serve service g.capacity (pos 0) s.input s.output in
      served_good s (Serve to service None) to (Number reply.value) rest reply.input reply.output less tt e ok)
  does_good s (Serve to service (Some from)) rest e ok =
      takes_good s.fuel s.output _ (λ less.
      checked_good (number_of (s.frame.registers from)) _ (λ z is.
      let reply = serve service g.capacity z s.input s.output in
      served_good s (Serve to service (Some from)) to (Number reply.value) rest reply.input reply.output less tt e ok))

  step_good : (s : State) (lines : List Line) → s.frame.spot.rest ≡ lines → Ok s → Good (step_at u g lines s)
  step_good s [] e ok = leaves_good s s.frame.spot.exit refl ok
  step_good s (line ∷ rest) e ok = does_good s line rest e ok

  next_good : (k : ℕ) (next : Next) (events run : List Event) (o : Outcome) → goes_on next (exec u g k) events ≡ Over o run → AllHold statics tags events → Good next → ((t : State) (more : List Event) → exec u g k t more ≡ Over o run → AllHold statics tags more → Ok t → AllHold statics tags run) → AllHold statics tags run
  next_good k (Stops p new) events run o e holds good go = subst (AllHold statics tags) (over_run p o (events ++ new) run e) (hold_append statics tags events new holds good)
  next_good k (Goes t new) events run o e holds good go = go t (events ++ new) e (hold_append statics tags events new holds good.1) good.0

  run_good : (k : ℕ) (s : State) (events run : List Event) (o : Outcome) → exec u g k s events ≡ Over o run → AllHold statics tags events → Ok s → AllHold statics tags run
  run_good zero s events run o e holds ok = cc
  run_good (suc k) s events run o e holds ok =
      next_good k (step u g s) events run o e holds (step_good s s.frame.spot.rest refl ok) (λ t more e' holds' ok'. run_good k t more run o e' holds' ok')

  -- the start
  named_is : (m n : ℕ) → Named m ≡ Named n → m ≡ n
  named_is m n e = cc

  statics_in : StoreIn points (with_statics (statics_of u))
  statics_in = record {
    each = λ o m is i.
        value_either (Has (points.object m)) (o.activation == 0) (static_values (statics_of u) o.name i) Unset
        (λ e. subst (λ n. ValueIn (Has (points.object m)) (static_values (statics_of u) n i)) (sym is) (first_in (points.object m) u.statics.items m i (closed.statics m)))
        tt;
  }

  whole_good : (n k : ℕ) (o : Outcome) (run : List Event) → goes_on (start u g n) (exec u g k) [] ≡ Over o run → AllHold statics tags run
  whole_good n k o run e =
      let no_arguments = λ (f : Function) (at : slice_get u.functions.items u.main ≡ Some f) (r : ℕ).
      value_either (Has (points.register u.main r)) (nat_le f.first_parameter r && nat_lt r (f.first_parameter + 0)) Unset Unset (λ t. tt) tt in
      let good = enters_good (before u g n) u.main 0 0 n (λ r. Unset) [] no_arguments (λ f block at_f at. tt) statics_in in
      next_good k (start u g n) [] run o e tt good (λ t more e' holds ok. run_good k t more run o e' holds ok)

pub sound : (u : Code) (points : Points) (tags : Tags) → IsClosed points u → AreTags points u tags → IsSound u tags
sound u points tags closed tagged = record { holds = λ g n o run right r. whole_good u points tags closed tagged g n r.steps o run r.over }
