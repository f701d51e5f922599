-- The tags of a closed points-to assignment by definitions hold in each run.
use Rattle.std.proofs.Common.{◌≡◌, ℕ, zero, suc, ◌+◌, ◌-◌, ◌<◌, List, [], ◌∷◌, ◌++◌, length, Bool, true, false, Option, Some, None, refl, sym, subst, inl, inr, ⊎_elim, arith}
use Rattle.std.specs.Prelude.{slice_get, nat_abs, pos, negsuc, nat_le, nat_lt, ◌==◌, ◌&&◌, if◌then◌else◌}
use Rattle.std.proofs.lemmas.Bool.{ltb-true, leb-true}
use Rattle.im_num.specs.Kinds.{wrap}
use Rattle.im_num.specs.declared.kind.Kind.TheVariants.{U8}
use Rattle.im_store.specs.Checks.{Checked, Fine, Bad}
use Rattle.im_store.specs.Objects.{Named, Value, Number, Null, Unset, Store, ends}
use Rattle.im_store.specs.Statics.{with_statics, static_values}
use Rattle.im_store.specs.Outcomes.{Outcome}
use Rattle.im_serve.specs.Services.{serve}
use Rattle.im_block.specs.declared.access.Tags.{Tags}
use Rattle.im_block.specs.declared.code.Place.{Place}
use Rattle.im_block.specs.declared.code.Place.TheVariants.{Static, Local, Through}
use Rattle.im_block.specs.declared.code.Line.{Line}
use Rattle.im_block.specs.declared.code.Line.TheVariants.{Put, PutNull, Copy, Convert, Unary, Not, Compute, Compare, Move, Distance, Address, Read, Write, Reload, Spill, Cut, Call, Serve}
use Rattle.im_block.specs.declared.code.Exit.{Exit}
use Rattle.im_block.specs.declared.code.Exit.TheVariants.{Jump, Turn, Branch, Return}
use Rattle.im_block.specs.declared.code.Block.{Block}
use Rattle.im_block.specs.declared.unit.Registers.{Registers}
use Rattle.im_block.specs.declared.unit.Registers.TheVariants.{Virtual, Machine}
use Rattle.im_block.specs.declared.unit.Function.{Function}
use Rattle.im_block.specs.declared.unit.Unit.{Unit as Code}
use Rattle.im_block.specs.Meaning.{Setting, Event, Active, Frame, State, Next, Goes, Stops, on_checked, takes, found, kept, kept_by, with_register, sets, computes, begun_by, waiting, passed, enters, served, does, goes_to, back, leaves, step_at, step, number_of, condition, returned, next_active, statics_of}
use Rattle.im_block.specs.Runs.{start, before, Over, goes_on, exec}
use Rattle.im_block.specs.Sections.{Has}
use Rattle.im_block.specs.Tagged.{tag_of, AllHold, IsSound}
use Rattle.im_block_laws.specs.PointsTo.{Points, Sub, PlaceHas}
use Rattle.im_alias.specs.PointsAt.{PointsAt, sets_at, with_set, union, addressed, loaded, behind, CallFits, ExitFits, Fit, HaveTags, IsClosedAt, AreTagsAt}
use Rattle.im_block_laws.proofs.Pointing.{ValueIn, value_sub, value_either, number_in, truth_in, moved_in, RegistersIn, StoreIn, place_in, read_in, write_in, first_in}

has_front : (xs ys : List ℕ) (x : ℕ) → Has xs x → Has (xs ++ ys) x
has_front [] ys x h = absurd h
has_front (y ∷ xs) ys x h = ⊎_elim (λ e. inl e) (λ t. inr (has_front xs ys x t)) h

has_back : (xs ys : List ℕ) (x : ℕ) → Has ys x → Has (xs ++ ys) x
has_back [] ys x h = h
has_back (y ∷ xs) ys x h = inr (has_back xs ys x h)

found_is : {A : Type 0} (o : Option A) (a : A) → found o ≡ Fine a → o ≡ Some a
found_is None a e = cc
found_is (Some b) a e = cc

hold_append : (statics : ℕ) (tags : Tags) (a b : List Event) → AllHold statics tags a → AllHold statics tags b → AllHold statics tags (a ++ b)
hold_append statics tags [] b h k = k
hold_append statics tags (e ∷ a) b h k = (h.0, hold_append statics tags a b h.1 k)

over_run : (o p : Outcome) (a b : List Event) → Over o a ≡ Over p b → a ≡ b
over_run o p a b e = cc

kept_in : (points : Points) (i : ℕ) (o : Option Function) (registers : ℕ → Value) → RegistersIn points i registers → RegistersIn points i (kept_by o registers)
kept_in points i None registers h = h
kept_in points i (Some f) registers h = by_sort f.registers
  where
    by_sort : (k : Registers) → RegistersIn points i (kept k registers)
    by_sort Virtual = h
    by_sort Machine = λ r. tt

in_union : (sets : ℕ → List ℕ) (ns : List ℕ) (n m : ℕ) → Has ns n → Has (sets n) m → Has (union sets ns) m
in_union sets [] n m h k = absurd h
in_union sets (x ∷ ns) n m h k =
    ⊎_elim
    (λ e. has_front (sets x) (union sets ns) m (subst (λ y. Has (sets y) m) (sym e) k))
    (λ t. has_back (sets x) (union sets ns) m (in_union sets ns n m t k))
    h

both : (x y : Bool) → (x && y) ≡ true → (x ≡ true) × (y ≡ true)
both true y e = (refl, e)
both false y e = cc

module _ (u : Code) (p : PointsAt) (tags : Tags) (closed : IsClosedAt p u) (tagged : AreTagsAt p u tags) (g : Setting) where
  abbrev statics : ℕ
  statics = length u.statics.items

  abbrev Sets : Type 0
  Sets = ℕ → List ℕ

  abbrev Regs : Sets → (ℕ → Value) → Type 0
  Regs sets registers = RegistersIn (sets_at p sets) 0 registers

  abbrev Stored : Store → Type 0
  Stored store = StoreIn (sets_at p (λ r. [])) store

  set_in : (sets : Sets) (to : ℕ) (set : List ℕ) (v : Value) (registers : ℕ → Value) → ValueIn (Has set) v → Regs sets registers → Regs (with_set sets to set) (with_register registers to v)
  set_in sets to set v registers h all = λ r. choose r (r == to)
    where
      choose : (r : ℕ) (b : Bool) → ValueIn (Has (if b then set else sets r)) (if b then v else registers r)
      choose r true = h
      choose r false = all r

  more_in : (sets after : Sets) (registers : ℕ → Value) → ((r : ℕ) → Sub (sets r) (after r)) → Regs sets registers → Regs after registers
  more_in sets after registers sub all = λ r. value_sub (Has (sets r)) (Has (after r)) (registers r) (sub r) (all r)

  passed_in : (sets : Sets) (callee to first count : ℕ) (registers : ℕ → Value) → ((k : ℕ) → k < count → Sub (sets (first + k)) (p.register callee (to + k))) → Regs sets registers → Regs (p.register callee) (passed to first count registers)
  passed_in sets callee to first count registers sub all = λ r.
      value_either (Has (p.register callee r)) (nat_le to r && nat_lt r (to + count)) (registers (first + (r - to))) Unset
      (λ e.
      let t = both (nat_le to r) (nat_lt r (to + count)) e in
      let low = leb-true to r t.0 in
      let high = ltb-true r (to + count) t.1 in
      let few : r - to < count = omega arith in
      let same : to + (r - to) ≡ r = omega arith in
      subst (λ q. ValueIn (Has (p.register callee q)) (registers (first + (r - to)))) same
      (value_sub (Has (sets (first + (r - to)))) (Has (p.register callee (to + (r - to)))) (registers (first + (r - to))) (sub (r - to) few) (all (first + (r - to)))))
      tt

  record Rest (sets : Sets) (i : ℕ) (lines : List Line) (exit : Exit) : Type 0 where
    fit : Fit p u.functions.items sets i lines exit
    tags_are : HaveTags p statics tags sets i lines

  record FrameOk (frame : Frame) : Type 0 where
    sets : Sets
    registers : Regs sets frame.registers
    rest : Rest sets frame.function frame.spot.rest frame.spot.exit

  -- a frame that waits for what the i-th function returns
  record Waits (i : ℕ) (frame : Frame) : Type 0 where
    sets : Sets
    registers : Regs sets frame.registers
    rest : Rest (with_set sets frame.to (p.result i)) frame.function frame.spot.rest frame.spot.exit

  abbrev Chained : ℕ → List Frame → Type 0
  Chained i [] = Unit {0}
  Chained i (x ∷ callers) = Waits i x × Chained x.function callers

  record Ok (s : State) : Type 0 where
    frame : FrameOk s.frame
    callers : Chained s.frame.function s.callers
    store : Stored s.store

  -- a step keeps it, and its events are within their tags
  abbrev Good : Next → Type 0
  Good (Stops o more) = AllHold statics tags more
  Good (Goes s more) = Ok s × AllHold statics tags more

  checked_good : {A : Type 0} (c : Checked A) (go : A → Next) → ((a : A) → c ≡ Fine a → Good (go a)) → Good (on_checked c go)
  checked_good (Fine a) go h = h a refl
  checked_good (Bad why) go h = tt

  takes_good : (fuel : ℕ) (output : List ℕ) (go : ℕ → Next) → ((less : ℕ) → Good (go less)) → Good (takes fuel output go)
  takes_good zero output go h = tt
  takes_good (suc less) output go h = h less

  either_good : (b : Bool) (x y : Next) → Good x → Good y → Good (if b then x else y)
  either_good true x y p q = p
  either_good false x y p q = q

  rest_now : (s : State) (lines : List Line) → s.frame.spot.rest ≡ lines → (ok : Ok s) → Rest ok.frame.sets s.frame.function lines s.frame.spot.exit
  rest_now s lines e ok = subst (λ l. Rest ok.frame.sets s.frame.function l s.frame.spot.exit) e ok.frame.rest

  -- a value goes into a register
  sets_good : (s : State) (to : ℕ) (set : List ℕ) (v : Value) (rest : List Line) (more : List Event) (store : Store) → (ok : Ok s) → ValueIn (Has set) v → Rest (with_set ok.frame.sets to set) s.frame.function rest s.frame.spot.exit → Stored store → AllHold statics tags more → Good (sets to v rest (record s { store = store }) more)
  sets_good s to set v rest more store ok h r stored holds =
      (record { frame = record { sets = with_set ok.frame.sets to set; registers = set_in ok.frame.sets to set v s.frame.registers h ok.frame.registers; rest = r }; callers = ok.callers; store = stored }, holds)

  computes_good : (s : State) (to : ℕ) (set : List ℕ) (c : Checked Value) (rest : List Line) → (ok : Ok s) → ((v : Value) → c ≡ Fine v → ValueIn (Has set) v) → Rest (with_set ok.frame.sets to set) s.frame.function rest s.frame.spot.exit → Good (computes to c rest s)
  computes_good s to set c rest ok h r = checked_good c (λ v. sets to v rest s []) (λ v is. sets_good s to set v rest [] s.store ok (h v is) r ok.store tt)

  -- to a block
  rest_at : (i : ℕ) (f : Function) (b : ℕ) (block : Block) → slice_get u.functions.items i ≡ Some f → slice_get f.blocks.items b ≡ Some block → Rest (p.register i) i block.lines.items block.exit
  rest_at i f b block at_f at = record { fit = closed.lines i f b block at_f at; tags_are = tagged.lines i f b block at_f at }

  to_good : (s : State) (b fuel : ℕ) → (ok : Ok s) → ((r : ℕ) → Sub (ok.frame.sets r) (p.register s.frame.function r)) → Good (goes_to u g b fuel s)
  to_good s b fuel ok sub =
      checked_good (found (slice_get u.functions.items s.frame.function)) _ (λ f is_f.
      let at_f = found_is (slice_get u.functions.items s.frame.function) f is_f in
      checked_good (found (slice_get f.blocks.items b)) _ (λ block is_block.
      let at = found_is (slice_get f.blocks.items b) block is_block in (
        record {
          frame = record { sets = p.register s.frame.function; registers = more_in ok.frame.sets (p.register s.frame.function) s.frame.registers sub ok.frame.registers; rest = rest_at s.frame.function f b block at_f at };
          callers = ok.callers;
          store = ok.store;
        },
        tt,
      )))

  returned_in : (sets : Sets) (i : ℕ) (from : Option ℕ) (registers : ℕ → Value) → ExitFits p sets i (Return from) → Regs sets registers → ValueIn (Has (p.result i)) (returned u g from registers)
  returned_in sets i None registers gives all = tt
  returned_in sets i (Some r) registers gives all = value_sub (Has (sets r)) (Has (p.result i)) (registers r) gives (all r)

  ended_in : (store : Store) (activation : ℕ) → Stored store → Stored (ends store activation)
  ended_in store activation h = record { each = h.each }

  back_good : (s : State) (from : Option ℕ) (callers : List Frame) → Chained s.frame.function callers → (ok : Ok s) → ExitFits p ok.frame.sets s.frame.function (Return from) → Good (back u g callers (returned u g from s.frame.registers) s)
  back_good s from [] h ok exit = checked_good (number_of (returned u g from s.frame.registers)) _ (λ z is. (tt, tt))
  back_good s from (x ∷ callers) h ok exit =
      let v = returned_in ok.frame.sets s.frame.function from s.frame.registers exit ok.frame.registers in (
        record {
          frame = record { sets = with_set h.0.sets x.to (p.result s.frame.function); registers = set_in h.0.sets x.to (p.result s.frame.function) (returned u g from s.frame.registers) x.registers v h.0.registers; rest = h.0.rest };
          callers = h.1;
          store = ended_in s.store s.frame.active.number ok.store;
        },
        (tt, tt),
      )

  leaves_good : (s : State) (exit : Exit) → s.frame.spot.exit ≡ exit → s.frame.spot.rest ≡ [] → Ok s → Good (leaves u g exit s)
  leaves_good s exit e none ok = by_exit exit (subst (λ x. ExitFits p ok.frame.sets s.frame.function x) e (rest_now s [] none ok).fit)
    where
      by_exit : (x : Exit) → ExitFits p ok.frame.sets s.frame.function x → Good (leaves u g x s)
      by_exit (Jump b) h = to_good s b s.fuel ok h
      by_exit (Turn b) h = takes_good s.fuel s.output _ (λ less. to_good s b less ok h)
      by_exit (Branch on x y) h = checked_good (condition s.store (s.frame.registers on)) _ (λ holds is. to_good s (if holds then x else y) s.fuel ok h)
      by_exit (Return from) h = back_good s from s.callers ok.callers ok h

  -- a new activation
  begun_in : (f : Function) (by : Active) (store : Store) → Stored store → Stored (begun_by f by store)
  begun_in f by store h = record {
    each = λ o m is i. value_either (Has (p.object m)) (o.activation == by.number) Unset (store.values o i) (λ e. tt) (h.each o m is i);
  }

  enters_good : (s : State) (callee first count fuel : ℕ) (registers : ℕ → Value) (callers : List Frame) → ((f : Function) → slice_get u.functions.items callee ≡ Some f → Regs (p.register callee) (passed f.first_parameter first count registers)) → Chained callee callers → Stored s.store → Good (enters u g callee first count registers callers fuel s)
  enters_good s callee first count fuel registers callers regs chain store =
      checked_good (found (slice_get u.functions.items callee)) _ (λ f is_f.
      let at_f = found_is (slice_get u.functions.items callee) f is_f in
      either_good (nat_le (next_active u g callee s).depth g.stack) _ _
      (checked_good (found (slice_get f.blocks.items f.entry)) _ (λ block is_block.
      let at = found_is (slice_get f.blocks.items f.entry) block is_block in (
        record {
          frame = record { sets = p.register callee; registers = regs f at_f; rest = rest_at callee f f.entry block at_f at };
          callers = chain;
          store = begun_in f (next_active u g callee s) s.store store;
        },
        (tt, (tt, tt)),
      )))
      (tt, tt))

  call_good : (s : State) (to callee first count : ℕ) (rest : List Line) → s.frame.spot.rest ≡ Call to callee first count ∷ rest → Ok s → Good (does u g (Call to callee first count) rest s)
  call_good s to callee first count rest e ok =
      let now = rest_now s (Call to callee first count ∷ rest) e ok in
      takes_good s.fuel s.output _ (λ less.
      enters_good s callee first count less s.frame.registers (waiting u g s.frame to rest ∷ s.callers)
      (λ f at_f. passed_in ok.frame.sets callee f.first_parameter first count s.frame.registers (subst (λ o. CallFits p ok.frame.sets first count callee o) at_f now.fit.0) ok.frame.registers) (
        record { sets = ok.frame.sets; registers = kept_in (sets_at p ok.frame.sets) 0 (slice_get u.functions.items s.frame.function) s.frame.registers ok.frame.registers; rest = record { fit = now.fit.1; tags_are = now.tags_are.1 } },
        ok.callers,
      )
      ok.store)

  served_good : (s : State) (to : ℕ) (v : Value) (rest : List Line) (input output : List ℕ) (fuel : ℕ) → (ok : Ok s) → ValueIn (Has []) v → Rest (with_set ok.frame.sets to []) s.frame.function rest s.frame.spot.exit → Good (served u g to v rest input output fuel s)
  served_good s to v rest input output fuel ok h r = (
    record {
      frame = record {
        sets = with_set ok.frame.sets to [];
        registers = set_in ok.frame.sets to [] v (kept_by (slice_get u.functions.items s.frame.function) s.frame.registers) h (kept_in (sets_at p ok.frame.sets) 0 (slice_get u.functions.items s.frame.function) s.frame.registers ok.frame.registers);
        rest = r;
      };
      callers = ok.callers;
      store = ok.store;
    },
    (tt, tt),
  )

  value_now : (P : ℕ → Type 0) (v w : Value) → ValueIn P v → Fine v ≡ Fine w → ValueIn P w
  value_now P v w h e = let same : v ≡ w = cc in subst (ValueIn P) same h

  addressed_in : (ss : Sets) (place : Place) (n : ℕ) → PlaceHas (sets_at p ss) 0 place n → Has (addressed ss place) n
  addressed_in ss (Static object offset) n h = inl h
  addressed_in ss (Local object offset) n h = inl h
  addressed_in ss (Through pointer offset) n h = h

  loaded_in : (ss : Sets) (place : Place) (n : ℕ) → PlaceHas (sets_at p ss) 0 place n → (m : ℕ) → Has (p.object n) m → Has (loaded p ss place) m
  loaded_in ss (Static object offset) n h m k = subst (λ x. Has (p.object x) m) (sym h) k
  loaded_in ss (Local object offset) n h m k = subst (λ x. Has (p.object x) m) (sym h) k
  loaded_in ss (Through pointer offset) n h m k = in_union p.object (ss pointer) n m h k

  does_good : (s : State) (line : Line) (rest : List Line) → s.frame.spot.rest ≡ line ∷ rest → (ok : Ok s) → Rest (behind p ok.frame.sets line) s.frame.function rest s.frame.spot.exit → Good (does u g line rest s)
  does_good s (Put to z) rest e ok r = computes_good s to [] (Fine (Number z)) rest ok (λ v is. value_now (Has []) (Number z) v tt is) r
  does_good s (PutNull to) rest e ok r = computes_good s to [] (Fine Null) rest ok (λ v is. value_now (Has []) Null v tt is) r
  does_good s (Copy to from) rest e ok r = computes_good s to (ok.frame.sets from) (Fine (s.frame.registers from)) rest ok (λ v is. value_now (Has (ok.frame.sets from)) (s.frame.registers from) v (ok.frame.registers from) is) r
  does_good s (Convert to kind from) rest e ok r = computes_good s to [] _ rest ok (λ v is. number_in (Has []) _ v is) r
  does_good s (Unary to op kind from) rest e ok r = computes_good s to [] _ rest ok (λ v is. number_in (Has []) _ v is) r
  does_good s (Not to from) rest e ok r = computes_good s to [] _ rest ok (λ v is. truth_in (Has []) _ v is) r
  does_good s (Compute to op kind left right) rest e ok r = computes_good s to [] _ rest ok (λ v is. number_in (Has []) _ v is) r
  does_good s (Compare to op kind left right) rest e ok r = computes_good s to [] _ rest ok (λ v is. truth_in (Has []) _ v is) r
  does_good s (Move to size back pointer by) rest e ok r =
      computes_good s to (ok.frame.sets pointer) _ rest ok (λ v is. moved_in (Has (ok.frame.sets pointer)) s.store size back (s.frame.registers pointer) (s.frame.registers by) v (ok.frame.registers pointer) is) r
  does_good s (Distance to size left right) rest e ok r = computes_good s to [] _ rest ok (λ v is. number_in (Has []) _ v is) r
  does_good s (Address to place) rest e ok r =
      computes_good s to (addressed ok.frame.sets place) _ rest ok (λ v is.
      value_sub (PlaceHas (sets_at p ok.frame.sets) 0 place) (Has (addressed ok.frame.sets place)) v (addressed_in ok.frame.sets place)
      (place_in (sets_at p ok.frame.sets) 0 place s.frame.active s.frame.registers s.store v ok.frame.registers is)) r
  does_good s (Read to place kind access) rest e ok r =
      let now = rest_now s (Read to place kind access ∷ rest) e ok in
      checked_good _ _ (λ f is.
      let q = read_in (sets_at p ok.frame.sets) statics 0 place kind (tag_of tags access) (loaded p ok.frame.sets place) s.frame.active s.frame.registers s.store f (loaded_in ok.frame.sets place) now.tags_are.0 ok.frame.registers (record { each = ok.store.each }) is in
      (record { frame = record { sets = with_set ok.frame.sets to (loaded p ok.frame.sets place); registers = set_in ok.frame.sets to (loaded p ok.frame.sets place) f.value s.frame.registers q.value ok.frame.registers; rest = r }; callers = ok.callers; store = ok.store }, (q.holds, tt)))
  does_good s (Write place kind from access) rest e ok r =
      let now = rest_now s (Write place kind from access ∷ rest) e ok in
      checked_good _ _ (λ l is.
      let w = write_in (sets_at p ok.frame.sets) statics 0 place kind (tag_of tags access) (ok.frame.sets from) (s.frame.registers from) s.frame.active s.frame.registers s.store l now.fit.0 (ok.frame.registers from) now.tags_are.0 ok.frame.registers (record { each = ok.store.each }) is in
      (record { frame = record { sets = ok.frame.sets; registers = ok.frame.registers; rest = r }; callers = ok.callers; store = record { each = w.store.each } }, (w.holds, tt)))
  does_good s (Reload to slot access) rest e ok r = absurd (rest_now s (Reload to slot access ∷ rest) e ok).fit.0
  does_good s (Spill slot from access) rest e ok r = absurd (rest_now s (Spill slot from access ∷ rest) e ok).fit.0
  does_good s (Cut cause) rest e ok r =
      (record { frame = record { sets = ok.frame.sets; registers = ok.frame.registers; rest = r }; callers = ok.callers; store = ok.store }, (tt, tt))
  does_good s (Call to callee first count) rest e ok r = call_good s to callee first count rest e ok
  does_good s (Serve to service None) rest e ok r =
      takes_good s.fuel s.output _ (λ less.
      let reply = serve service g.capacity (pos 0) s.input s.output in
      served_good s to (Number reply.value) rest reply.input reply.output less ok tt r)
  does_good s (Serve to service (Some from)) rest e ok r =
      takes_good s.fuel s.output _ (λ less.
      checked_good (number_of (s.frame.registers from)) _ (λ z is.
      let reply = serve service g.capacity z s.input s.output in
      served_good s to (Number reply.value) rest reply.input reply.output less ok tt r))

  step_good : (s : State) (lines : List Line) → s.frame.spot.rest ≡ lines → Ok s → Good (step_at u g lines s)
  step_good s [] e ok = leaves_good s s.frame.spot.exit refl e ok
  step_good s (line ∷ rest) e ok =
      let now = rest_now s (line ∷ rest) e ok in
      does_good s line rest e ok (record { fit = now.fit.1; tags_are = now.tags_are.1 })

  next_good : (k : ℕ) (next : Next) (events run : List Event) (o : Outcome) → goes_on next (exec u g k) events ≡ Over o run → AllHold statics tags events → Good next → ((t : State) (more : List Event) → exec u g k t more ≡ Over o run → AllHold statics tags more → Ok t → AllHold statics tags run) → AllHold statics tags run
  next_good k (Stops p new) events run o e holds good go = subst (AllHold statics tags) (over_run p o (events ++ new) run e) (hold_append statics tags events new holds good)
  next_good k (Goes t new) events run o e holds good go = go t (events ++ new) e (hold_append statics tags events new holds good.1) good.0

  run_good : (k : ℕ) (s : State) (events run : List Event) (o : Outcome) → exec u g k s events ≡ Over o run → AllHold statics tags events → Ok s → AllHold statics tags run
  run_good zero s events run o e holds ok = cc
  run_good (suc k) s events run o e holds ok =
      next_good k (step u g s) events run o e holds (step_good s s.frame.spot.rest refl ok) (λ t more e' holds' ok'. run_good k t more run o e' holds' ok')

  -- the start
  named_is : (m n : ℕ) → Named m ≡ Named n → m ≡ n
  named_is m n e = cc

  statics_in : Stored (with_statics (statics_of u))
  statics_in = record {
    each = λ o m is i.
        value_either (Has (p.object m)) (o.activation == 0) (static_values (statics_of u) o.name i) Unset
        (λ e. subst (λ n. ValueIn (Has (p.object m)) (static_values (statics_of u) n i)) (sym is) (first_in (p.object m) u.statics.items m i (closed.statics m)))
        tt;
  }

  whole_good : (n k : ℕ) (o : Outcome) (run : List Event) → goes_on (start u g n) (exec u g k) [] ≡ Over o run → AllHold statics tags run
  whole_good n k o run e =
      let no_arguments = λ (f : Function) (there : slice_get u.functions.items u.main ≡ Some f) (r : ℕ).
      value_either (Has (p.register u.main r)) (nat_le f.first_parameter r && nat_lt r (f.first_parameter + 0)) Unset Unset (λ t. tt) tt in
      let good = enters_good (before u g n) u.main 0 0 n (λ r. Unset) [] no_arguments tt statics_in in
      next_good k (start u g n) [] run o e tt good (λ t more e' holds ok. run_good k t more run o e' holds ok)

pub sound_at : (u : Code) (p : PointsAt) (tags : Tags) → IsClosedAt p u → AreTagsAt p u tags → IsSound u tags
sound_at u p tags closed tagged = record { holds = λ g n o run right r. whole_good u p tags closed tagged g n r.steps o run r.over }
