-- Runs of sectioned code write no exposed byte.
use Rattle.std.proofs.Common.{◌≡◌, ℕ, zero, suc, List, [], ◌∷◌, ◌++◌, Bool, true, false, Some, refl, sym, ap, ◌∙◌, subst, append_assoc, inl, inr}
use Rattle.std.specs.Prelude.{slice_get, nat_le, length, if◌then◌else◌}
use Rattle.std.proofs.lemmas.List.{append-nil}
use Rattle.im_num.specs.declared.values.Cause.{Cause}
use Rattle.im_store.specs.Checks.{Checked, Fine, Bad}
use Rattle.im_store.specs.Objects.{Slot, Link, Object, Value, Number, Null, Unset}
use Rattle.im_store.specs.Outcomes.{Outcome}
use Rattle.im_block.specs.declared.access.Tags.{Tags}
use Rattle.im_block.specs.declared.code.Line.{Line}
use Rattle.im_block.specs.declared.code.Line.TheVariants.{Put, PutNull, Copy, Convert, Unary, Not, Compute, Compare, Move, Distance, Address, Read, Write, Reload, Spill, Cut, Call, Serve}
use Rattle.im_block.specs.declared.code.Exit.{Exit}
use Rattle.im_block.specs.declared.code.Exit.TheVariants.{Jump, Turn, Branch, Return}
use Rattle.im_block.specs.declared.code.Block.{Block}
use Rattle.im_block.specs.declared.unit.Function.{Function}
use Rattle.im_block.specs.declared.unit.Unit.{Unit as Code}
use Rattle.im_block.specs.Meaning.{object_of, Setting, Site, site_of, slot_site, slot_of, statics_of, Location, Event, Reads, Writes, Tests, Saves, Restores, Serves, Cuts, Found, Left, Spot, Active, Frame, State, Next, Goes, Stops, on_checked, takes, found, kept_by, with_rest, with_register, at_block, sets, computes, reads, writes, waiting, enters, served, argument, does, goes_to, back, leaves, step_at, step, number_of, condition, next_active}
use Rattle.im_block.specs.Runs.{start, before, Over, goes_on, exec, Runs}
use Rattle.im_block.specs.Sections.{Item, Reader, Writer, Break, Has, Exposed, NoWar, NoWarAfter, Byte, bytes_of, link_bytes, items}
use Rattle.im_block.specs.Tagged.{tag_of, reach_of, Reaches, HoldsAt, AllHold}
use Rattle.im_block.specs.Paths.{Step, ReadStep, WriteStep, steps_of, IsCut, IsEdge, spot, Path, Here, Along, Across, AfterCut, Begins, AllSectioned}
use Rattle.im_block.specs.Forced.{StartsWithCut, CutAfterCalls, AllForced}
use Rattle.im_block.proofs.Words.{found_is}
use Rattle.im_block.proofs.Bytes.{has_bytes, fits, sharing, link_name, Touched, Aligned, exposed_open, aligned_read, aligned_write}
use Rattle.im_block.proofs.Stores.{Bare, bare_shape, bare_begun, bare_ended, bare_start, read_free, write_leaves, write_free, slot_read_at, slot_write_at, slot_write_leaves}

-- the spot stands in its block
pub record Stands (blocks : List Block) (s : Spot) : Type 0 where
  pub block : Block
  pub before : List Line
  pub at : slice_get blocks s.block ≡ Some block
  pub lines : block.lines.items ≡ before ++ s.rest
  pub exit : s.exit ≡ block.exit

pub stands_past : (blocks : List Block) (b : ℕ) (line : Line) (rest : List Line) (exit : Exit) → Stands blocks (spot b (line ∷ rest) exit) → Stands blocks (spot b rest exit)
stands_past blocks b line rest exit s = record {
  block = s.block;
  before = s.before ++ line ∷ [];
  at = s.at;
  lines = s.lines ∙ sym (append_assoc s.before (line ∷ []) rest);
  exit = s.exit;
}

pub stands_first : (blocks : List Block) (b : ℕ) (block : Block) → slice_get blocks b ≡ Some block → Stands blocks (at_block b block)
stands_first blocks b block at = record { block = block; before = []; at = at; lines = refl; exit = refl }

-- what stands behind cuts still does so past a line
calls_past : (line : Line) (rest : List Line) → CutAfterCalls (line ∷ rest) → CutAfterCalls rest
calls_past (Put to z) rest h = h
calls_past (PutNull to) rest h = h
calls_past (Copy to from) rest h = h
calls_past (Convert to kind from) rest h = h
calls_past (Unary to op kind from) rest h = h
calls_past (Not to from) rest h = h
calls_past (Compute to op kind left right) rest h = h
calls_past (Compare to op kind left right) rest h = h
calls_past (Move to size back pointer by) rest h = h
calls_past (Distance to size left right) rest h = h
calls_past (Address to place) rest h = h
calls_past (Read to place kind access) rest h = h
calls_past (Write place kind from access) rest h = h
calls_past (Reload to slot access) rest h = h
calls_past (Spill slot from access) rest h = h
calls_past (Cut cause) rest h = h
calls_past (Call to i first count) rest h = h.1
calls_past (Serve to service from) rest h = h.1

items-append : (a b : List Event) → items (a ++ b) ≡ items a ++ items b
items-append [] b = refl
items-append (Reads site by o i ∷ a) b = ap (λ l. Reader (bytes_of o i site.size) ∷ l) (items-append a b)
items-append (Writes site by o i ∷ a) b = ap (λ l. Writer (bytes_of o i site.size) ∷ l) (items-append a b)
items-append (Tests ∷ a) b = items-append a b
items-append (Saves by ∷ a) b = ap (λ l. Writer (link_bytes by) ∷ l) (items-append a b)
items-append (Restores by ∷ a) b = ap (λ l. Reader (link_bytes by) ∷ l) (items-append a b)
items-append (Serves ∷ a) b = items-append a b
items-append (Cuts ∷ a) b = ap (λ l. Break ∷ l) (items-append a b)

hold_front : (statics : ℕ) (tags : Tags) (a b : List Event) → AllHold statics tags (a ++ b) → AllHold statics tags a
hold_front statics tags [] b h = tt
hold_front statics tags (e ∷ a) b h = (h.0, hold_front statics tags a b h.1)

hold_back : (statics : ℕ) (tags : Tags) (a b : List Event) → AllHold statics tags (a ++ b) → AllHold statics tags b
hold_back statics tags [] b h = h
hold_back statics tags (e ∷ a) b h = hold_back statics tags a b h.1

-- a run only adds events
record Adds (events run : List Event) : Type 0 where
  more : List Event
  is : run ≡ events ++ more

over_same : (o p : Outcome) (a b : List Event) → Over o a ≡ Over p b → b ≡ a
over_same o p a b e = cc

adds : (u : Code) (g : Setting) (k : ℕ) (s : State) (events run : List Event) (o : Outcome) → exec u g k s events ≡ Over o run → Adds events run
adds u g zero s events run o e = cc
adds u g (suc k) s events run o e = after (step u g s) e (λ t more h. adds u g k t more run o h)
  where
    after : (next : Next) → goes_on next (exec u g k) events ≡ Over o run → ((t : State) (more : List Event) → exec u g k t more ≡ Over o run → Adds more run) → Adds events run
    after (Stops p new) e h = record { more = new; is = over_same p o (events ++ new) run e }
    after (Goes t new) e h = let a = h t (events ++ new) e in record { more = new ++ a.more; is = a.is ∙ append_assoc events new a.more }

module _ (u : Code) (tags : Tags) (g : Setting) (forced : AllForced u) (sectioned : AllSectioned tags u) where
  abbrev statics : ℕ
  statics = length u.statics.items

  -- what is left of a frame's block
  abbrev past : Frame → List Line → Spot
  past frame rest = spot frame.spot.block rest frame.spot.exit

  record Known (frame : Frame) (s : Spot) : Type 0 where
    f : Function
    at : slice_get u.functions.items frame.function ≡ Some f
    stands : Stands f.blocks.items s
    later : CutAfterCalls s.rest

  -- the section so far is that of a path to here, or a cut comes next
  data Track (frame : Frame) (section : List (Item Byte)) : Type 0 where
    OnPath : (f : Function) (begin : Spot) (path : List Step) → slice_get u.functions.items frame.function ≡ Some f → Begins f begin → Path f.blocks.items begin path frame.spot → Aligned statics tags frame.active path section → Track frame section
    Soon : StartsWithCut frame.spot.rest → Track frame section

  abbrev AllWaiting : List Frame → Type 0
  AllWaiting [] = Unit {0}
  AllWaiting (x ∷ callers) = Known x x.spot × StartsWithCut x.spot.rest × AllWaiting callers

  record Tracked (s : State) (section : List (Item Byte)) : Type 0 where
    known : Known s.frame s.frame.spot
    callers : AllWaiting s.callers
    track : Track s.frame section
    bare : Bare s.store

  -- one step keeps to the paths
  abbrev Keeps : List (Item Byte) → Next → Type 0
  Keeps section (Stops o more) = NoWarAfter section (items more)
  Keeps section (Goes s more) = AllHold statics tags more → (next : List (Item Byte)) × Tracked s next × ((rest : List (Item Byte)) → NoWarAfter next rest → NoWarAfter section (items more ++ rest))

  checked_keeps : {A : Type 0} (section : List (Item Byte)) (c : Checked A) (go : A → Next) → ((a : A) → c ≡ Fine a → Keeps section (go a)) → Keeps section (on_checked c go)
  checked_keeps section (Fine a) go h = h a refl
  checked_keeps section (Bad why) go h = tt

  takes_keeps : (section : List (Item Byte)) (fuel : ℕ) (output : List ℕ) (go : ℕ → Next) → ((less : ℕ) → Keeps section (go less)) → Keeps section (takes fuel output go)
  takes_keeps section zero output go h = tt
  takes_keeps section (suc less) output go h = h less

  either_keeps : (section : List (Item Byte)) (b : Bool) (x y : Next) → Keeps section x → Keeps section y → Keeps section (if b then x else y)
  either_keeps section true x y p q = p
  either_keeps section false x y p q = q

  known_past : (frame : Frame) (line : Line) (rest : List Line) → Known frame (past frame (line ∷ rest)) → Known frame (past frame rest)
  known_past frame line rest k = record {
    f = k.f;
    at = k.at;
    stands = stands_past k.f.blocks.items frame.spot.block line rest frame.spot.exit k.stands;
    later = calls_past line rest k.later;
  }

  known_now : (s : State) (section : List (Item Byte)) (line : Line) (rest : List Line) → s.frame.spot.rest ≡ line ∷ rest → Tracked s section → Known s.frame (past s.frame (line ∷ rest))
  known_now s section line rest e t = subst (λ r. Known s.frame (past s.frame r)) e t.known

  known_next : (s : State) (section : List (Item Byte)) (line : Line) (rest : List Line) → s.frame.spot.rest ≡ line ∷ rest → Tracked s section → Known s.frame (past s.frame rest)
  known_next s section line rest e t = known_past s.frame line rest (known_now s section line rest e t)

  known_with : (frame other : Frame) (s : Spot) → other.function ≡ frame.function → Known frame s → Known other s
  known_with frame other s e k = record { f = k.f; at = ap (slice_get u.functions.items) e ∙ k.at; stands = k.stands; later = k.later }

  abbrev set_to : Frame → List Line → (ℕ → Value) → Frame
  set_to frame rest registers = record (with_rest frame rest) { registers = registers }

  track_past : (frame : Frame) (section : List (Item Byte)) (line : Line) (rest : List Line) (registers : ℕ → Value) → frame.spot.rest ≡ line ∷ rest → (IsCut line → ⊥) → steps_of line ≡ [] → Track frame section → Track (set_to frame rest registers) section
  track_past frame section line rest registers e uncut none (OnPath f begin path at from p al) =
      let there : Path f.blocks.items begin path (past frame (line ∷ rest)) = subst (λ r. Path f.blocks.items begin path (past frame r)) e p in
      let on = Along path frame.spot.block line rest frame.spot.exit uncut there in
      let same : path ++ steps_of line ≡ path = ap (λ is. path ++ is) none ∙ append-nil path in
      OnPath f begin path at from (subst (λ q. Path f.blocks.items begin q (past frame rest)) same on) al
  track_past frame section line rest registers e uncut none (Soon h) = absurd (uncut (subst StartsWithCut e h))

  -- a line without an access
  silent_keeps : (s : State) (section : List (Item Byte)) (line : Line) (rest : List Line) (registers : ℕ → Value) (input output : List ℕ) (fuel : ℕ) (events : List Event) → items events ≡ [] → s.frame.spot.rest ≡ line ∷ rest → (IsCut line → ⊥) → steps_of line ≡ [] → Tracked s section → Keeps section (Goes (record s { frame = set_to s.frame rest registers; input = input; output = output; fuel = fuel }) events)
  silent_keeps s section line rest registers input output fuel events quiet e uncut none t = λ _. (
    section,
    record { known = known_with s.frame (set_to s.frame rest registers) (past s.frame rest) refl (known_next s section line rest e t); callers = t.callers; track = track_past s.frame section line rest registers e uncut none t.track; bare = t.bare },
    λ more h. subst (λ l. NoWarAfter section (l ++ more)) (sym quiet) h,
  )

  computes_keeps : (s : State) (section : List (Item Byte)) (line : Line) (to : ℕ) (c : Checked Value) (rest : List Line) → s.frame.spot.rest ≡ line ∷ rest → (IsCut line → ⊥) → steps_of line ≡ [] → Tracked s section → Keeps section (computes to c rest s)
  computes_keeps s section line to c rest e uncut none t =
      checked_keeps section c (λ v. sets to v rest s []) (λ v is.
      silent_keeps s section line rest (with_register s.frame.registers to v) s.input s.output s.fuel [] refl e uncut none t)

  read_track : (frame : Frame) (section : List (Item Byte)) (line : Line) (rest : List Line) (registers : ℕ → Value) (site : Site) (bytes : List Byte) → frame.spot.rest ≡ line ∷ rest → (IsCut line → ⊥) → steps_of line ≡ ReadStep site ∷ [] → Touched statics tags frame.active site bytes → Track frame section → Track (set_to frame rest registers) (section ++ Reader bytes ∷ [])
  read_track frame section line rest registers site bytes e uncut is fit (OnPath f begin path at from p al) =
      let there : Path f.blocks.items begin path (past frame (line ∷ rest)) = subst (λ r. Path f.blocks.items begin path (past frame r)) e p in
      let on = Along path frame.spot.block line rest frame.spot.exit uncut there in
      OnPath f begin (path ++ ReadStep site ∷ []) at from (subst (λ q. Path f.blocks.items begin (path ++ q) (past frame rest)) is on) (aligned_read statics tags frame.active site bytes path section al fit)
  read_track frame section line rest registers site bytes e uncut is fit (Soon h) = absurd (uncut (subst StartsWithCut e h))

  reads_keeps : (s : State) (section : List (Item Byte)) (line : Line) (to : ℕ) (site : Site) (c : Checked Found) (rest : List Line) → s.frame.spot.rest ≡ line ∷ rest → (IsCut line → ⊥) → steps_of line ≡ ReadStep site ∷ [] → ((f : Found) → c ≡ Fine f → HoldsAt statics site.slot (tag_of tags site.number) s.frame.active f.at.object f.at.offset → Touched statics tags s.frame.active site (bytes_of f.at.object f.at.offset site.size)) → Tracked s section → Keeps section (reads to site c rest s)
  reads_keeps s section line to site c rest e uncut is touch t =
      checked_keeps section c _ (λ x fine holds.
      let bytes = bytes_of x.at.object x.at.offset site.size in
      let fit = touch x fine holds.0 in (
        section ++ Reader bytes ∷ [],
        record {
          known = known_with s.frame _ (past s.frame rest) refl (known_next s section line rest e t);
          callers = t.callers;
          track = read_track s.frame section line rest (with_register s.frame.registers to x.value) site bytes e uncut is fit t.track;
          bare = t.bare;
        },
        λ more h. h,
      ))

  -- no byte of the write is exposed
  write_safe : (s : State) (section : List (Item Byte)) (line : Line) (rest : List Line) (site : Site) (bytes : List Byte) → s.frame.spot.rest ≡ line ∷ rest → (IsCut line → ⊥) → steps_of line ≡ WriteStep site ∷ [] → Touched statics tags s.frame.active site bytes → Track s.frame section → (x : Byte) → Has bytes x → Exposed section x → ⊥
  write_safe s section line rest site bytes e uncut is fit (OnPath f begin path at from p al) x has exposed =
      let there : Path f.blocks.items begin path (past s.frame (line ∷ rest)) = subst (λ r. Path f.blocks.items begin path (past s.frame r)) e p in
      let r = exposed_open statics tags s.frame.active path section x al exposed in
      let meet = sharing statics (reach_of tags site) (reach_of tags r.site) site.size r.site.size s.frame.active bytes r.bytes x fit.fit r.touched.fit has r.has in
      (sectioned.each s.frame.function f at).each begin from path s.frame.spot.block line rest s.frame.spot.exit there site r.site is r.open_there meet
  write_safe s section line rest site bytes e uncut is fit (Soon h) x has exposed = uncut (subst StartsWithCut e h)

  write_track : (frame : Frame) (section : List (Item Byte)) (line : Line) (rest : List Line) (site : Site) (bytes : List Byte) → frame.spot.rest ≡ line ∷ rest → (IsCut line → ⊥) → steps_of line ≡ WriteStep site ∷ [] → Touched statics tags frame.active site bytes → Track frame section → Track (with_rest frame rest) (section ++ Writer bytes ∷ [])
  write_track frame section line rest site bytes e uncut is fit (OnPath f begin path at from p al) =
      let there : Path f.blocks.items begin path (past frame (line ∷ rest)) = subst (λ r. Path f.blocks.items begin path (past frame r)) e p in
      let on = Along path frame.spot.block line rest frame.spot.exit uncut there in
      OnPath f begin (path ++ WriteStep site ∷ []) at from (subst (λ q. Path f.blocks.items begin (path ++ q) (past frame rest)) is on) (aligned_write statics tags frame.active site bytes path section al fit)
  write_track frame section line rest site bytes e uncut is fit (Soon h) = absurd (uncut (subst StartsWithCut e h))

  writes_keeps : (s : State) (section : List (Item Byte)) (line : Line) (site : Site) (c : Checked Left) (rest : List Line) → s.frame.spot.rest ≡ line ∷ rest → (IsCut line → ⊥) → steps_of line ≡ WriteStep site ∷ [] → ((l : Left) → c ≡ Fine l → HoldsAt statics site.slot (tag_of tags site.number) s.frame.active l.at.object l.at.offset → Touched statics tags s.frame.active site (bytes_of l.at.object l.at.offset site.size)) → ((l : Left) → c ≡ Fine l → l.store.shape ≡ s.store.shape) → Tracked s section → Keeps section (writes site c rest s)
  writes_keeps s section line site c rest e uncut is touch leaves t =
      checked_keeps section c _ (λ x fine holds.
      let bytes = bytes_of x.at.object x.at.offset site.size in
      let fit = touch x fine holds.0 in (
        section ++ Writer bytes ∷ [],
        record {
          known = known_with s.frame _ (past s.frame rest) refl (known_next s section line rest e t);
          callers = t.callers;
          track = write_track s.frame section line rest site bytes e uncut is fit t.track;
          bare = bare_shape s.store x.store (leaves x fine) t.bare;
        },
        λ more h. (write_safe s section line rest site bytes e uncut is fit t.track, h),
      ))

  cut_keeps : (s : State) (section : List (Item Byte)) (cause : Cause) (rest : List Line) → s.frame.spot.rest ≡ Cut cause ∷ rest → Tracked s section → Keeps section (Goes (record s { frame = with_rest s.frame rest }) (Cuts ∷ []))
  cut_keeps s section cause rest e t = λ _.
      let now = known_now s section (Cut cause) rest e t in
      let st = now.stands in
      let begin = past s.frame rest in
      let from : AfterCut now.f.blocks.items begin = record { block = st.block; before = st.before; cut = Cut cause; at = st.at; lines = st.lines; is_cut = tt; exit = st.exit } in (
        [],
        record {
          known = known_with s.frame _ begin refl (known_next s section (Cut cause) rest e t);
          callers = t.callers;
          track = OnPath now.f begin [] now.at (inr from) Here tt;
          bare = t.bare;
        },
        λ more h. h,
      )

  -- to a block
  known_at : (frame other : Frame) (f : Function) (b : ℕ) (block : Block) → other.function ≡ frame.function → slice_get u.functions.items frame.function ≡ Some f → slice_get f.blocks.items b ≡ Some block → Known other (at_block b block)
  known_at frame other f b block same at_f at = record {
    f = f;
    at = ap (slice_get u.functions.items) same ∙ at_f;
    stands = stands_first f.blocks.items b block at;
    later = (forced.each frame.function f at_f).calls b block at;
  }

  to_track : (frame : Frame) (section : List (Item Byte)) (f : Function) (b : ℕ) (block : Block) → IsEdge frame.spot.exit b → frame.spot.rest ≡ [] → slice_get u.functions.items frame.function ≡ Some f → slice_get f.blocks.items b ≡ Some block → Track frame section → Track (record frame { spot = at_block b block }) section
  to_track frame section f b block edge e at_f at (OnPath h begin path at_h from p al) =
      let same : Some h ≡ Some f = sym at_h ∙ at_f in
      let one : h ≡ f = cc in
      let there : Path h.blocks.items begin path (past frame []) = subst (λ r. Path h.blocks.items begin path (past frame r)) e p in
      let at' : slice_get h.blocks.items b ≡ Some block = ap (λ (k : Function). slice_get k.blocks.items b) one ∙ at in
      OnPath h begin path at_h from (Across path frame.spot.block frame.spot.exit b block edge at' there) al
  to_track frame section f b block edge e at_f at (Soon h) = absurd (subst StartsWithCut e h)

  to_keeps : (s : State) (section : List (Item Byte)) (b fuel : ℕ) → IsEdge s.frame.spot.exit b → s.frame.spot.rest ≡ [] → Tracked s section → Keeps section (goes_to u g b fuel s)
  to_keeps s section b fuel edge e t =
      checked_keeps section (found (slice_get u.functions.items s.frame.function)) _ (λ f is_f.
      let at_f = found_is (slice_get u.functions.items s.frame.function) f is_f in
      checked_keeps section (found (slice_get f.blocks.items b)) _ (λ block is_block _.
      let at = found_is (slice_get f.blocks.items b) block is_block in (
        section,
        record { known = known_at s.frame _ f b block refl at_f at; callers = t.callers; track = to_track s.frame section f b block edge e at_f at t.track; bare = t.bare },
        λ more h. h,
      )))

  back_keeps : (s : State) (section : List (Item Byte)) (callers : List Frame) (v : Value) → Bare s.store → AllWaiting callers → Keeps section (back u g callers v s)
  back_keeps s section [] v bare h = checked_keeps section (number_of v) _ (λ n _. tt)
  back_keeps s section (x ∷ callers) v bare h = λ _. (
    section ++ Reader (link_bytes s.frame.active) ∷ [],
    record { known = known_with x _ x.spot refl h.0; callers = h.2; track = Soon h.1; bare = bare_ended s.store s.frame.active.number bare },
    λ more n. n,
  )

  branch_edge : (holds : Bool) (x y on : ℕ) → IsEdge (Branch on x y) (if holds then x else y)
  branch_edge true x y on = inl refl
  branch_edge false x y on = inr refl

  leaves_keeps : (s : State) (section : List (Item Byte)) (exit : Exit) → s.frame.spot.exit ≡ exit → s.frame.spot.rest ≡ [] → Tracked s section → Keeps section (leaves u g exit s)
  leaves_keeps s section (Jump b) e nothing t = to_keeps s section b s.fuel (subst (λ x. IsEdge x b) (sym e) refl) nothing t
  leaves_keeps s section (Turn b) e nothing t = takes_keeps section s.fuel s.output _ (λ less. to_keeps s section b less (subst (λ x. IsEdge x b) (sym e) refl) nothing t)
  leaves_keeps s section (Branch on x y) e nothing t =
      checked_keeps section (condition s.store (s.frame.registers on)) _ (λ holds _.
      to_keeps s section (if holds then x else y) s.fuel (subst (λ z. IsEdge z (if holds then x else y)) (sym e) (branch_edge holds x y on)) nothing t)
  leaves_keeps s section (Return from) e nothing t = back_keeps s section s.callers _ t.bare t.callers

  -- a return address is new, so no section has read it
  link_safe : (frame : Frame) (section : List (Item Byte)) (by : Active) (line : Line) (rest : List Line) → frame.spot.rest ≡ line ∷ rest → (IsCut line → ⊥) → Track frame section → (x : Byte) → Has (link_bytes by) x → Exposed section x → ⊥
  link_safe frame section by line rest e uncut (OnPath f begin path at from p al) x has exposed =
      let r = exposed_open statics tags frame.active path section x al exposed in
      r.touched.free x r.has (link_name by x has)
  link_safe frame section by line rest e uncut (Soon h) x has exposed = uncut (subst StartsWithCut e h)

  enters_keeps : (s : State) (section : List (Item Byte)) (i first count fuel : ℕ) (registers : ℕ → Value) (callers : List Frame) → ((by : Active) (x : Byte) → Has (link_bytes by) x → Exposed section x → ⊥) → Bare s.store → AllWaiting callers → Keeps section (enters u g i first count registers callers fuel s)
  enters_keeps s section i first count fuel registers callers safe bare all =
      checked_keeps section (found (slice_get u.functions.items i)) _ (λ f is_f.
      let at_f = found_is (slice_get u.functions.items i) f is_f in
      either_keeps section (nat_le (next_active u g i s).depth g.stack) _ _
      (checked_keeps section (found (slice_get f.blocks.items f.entry)) _ (λ block is_block _.
      let at = found_is (slice_get f.blocks.items f.entry) block is_block in (
        section ++ Writer (link_bytes (next_active u g i s)) ∷ [],
        record {
          known = record { f = f; at = at_f; stands = stands_first f.blocks.items f.entry block at; later = (forced.each i f at_f).calls f.entry block at };
          callers = all;
          track = Soon ((forced.each i f at_f).entry block at);
          bare = bare_begun s.store f (next_active u g i s) bare;
        },
        λ more h. (safe (next_active u g i s), h),
      )))
      tt)

  call_keeps : (s : State) (section : List (Item Byte)) (to i first count : ℕ) (rest : List Line) → s.frame.spot.rest ≡ Call to i first count ∷ rest → Tracked s section → Keeps section (does u g (Call to i first count) rest s)
  call_keeps s section to i first count rest e t =
      takes_keeps section s.fuel s.output _ (λ less.
      let line = Call to i first count in
      let now = known_now s section line rest e t in
      enters_keeps s section i first count less s.frame.registers (waiting u g s.frame to rest ∷ s.callers) (λ by. link_safe s.frame section by line rest e (λ h. h) t.track) t.bare (known_with s.frame _ (past s.frame rest) refl (known_next s section line rest e t), now.later.0, t.callers))

  served_keeps : (s : State) (section : List (Item Byte)) (line : Line) (to : ℕ) (v : Value) (rest : List Line) (input output : List ℕ) (fuel : ℕ) → s.frame.spot.rest ≡ line ∷ rest → (IsCut line → ⊥) → steps_of line ≡ [] → Tracked s section → Keeps section (served u g to v rest input output fuel s)
  served_keeps s section line to v rest input output fuel e uncut none t =
      silent_keeps s section line rest (with_register (kept_by (slice_get u.functions.items s.frame.function) s.frame.registers) to v) input output fuel (Serves ∷ []) refl e uncut none t

  -- an access to a place, an access to a slot
  touched_at : (site : Site) (by : Active) (o : Object) (offset : ℕ) → Reaches statics (reach_of tags site) by o offset → (o.name ≡ Link → ⊥) → Touched statics tags by site (bytes_of o offset site.size)
  touched_at site by o offset h other = record {
    fit = fits statics (reach_of tags site) by o offset site.size h;
    free = λ x has is. other (ap (λ (q : Object). q.name) (sym (has_bytes o offset site.size x has).object) ∙ is);
  }

  slot_touched : (access slot : ℕ) (by : Active) (at : Location) → at ≡ slot_of slot by → Touched statics tags by (slot_site access slot) (bytes_of at.object at.offset 4)
  slot_touched access slot by at e =
      subst (λ (l : Location). Touched statics tags by (slot_site access slot) (bytes_of l.object l.offset 4)) (sym e)
      (touched_at (slot_site access slot) by (object_of by (Slot slot)) 0 (refl, refl) (λ is. cc))

  does_keeps : (s : State) (section : List (Item Byte)) (line : Line) (rest : List Line) → s.frame.spot.rest ≡ line ∷ rest → Tracked s section → Keeps section (does u g line rest s)
  does_keeps s section (Put to z) rest e t = computes_keeps s section _ to (Fine (Number z)) rest e (λ h. h) refl t
  does_keeps s section (PutNull to) rest e t = computes_keeps s section _ to (Fine Null) rest e (λ h. h) refl t
  does_keeps s section (Copy to from) rest e t = computes_keeps s section _ to (Fine (s.frame.registers from)) rest e (λ h. h) refl t
  does_keeps s section (Convert to kind from) rest e t = computes_keeps s section _ to _ rest e (λ h. h) refl t
  does_keeps s section (Unary to op kind from) rest e t = computes_keeps s section _ to _ rest e (λ h. h) refl t
  does_keeps s section (Not to from) rest e t = computes_keeps s section _ to _ rest e (λ h. h) refl t
  does_keeps s section (Compute to op kind left right) rest e t = computes_keeps s section _ to _ rest e (λ h. h) refl t
  does_keeps s section (Compare to op kind left right) rest e t = computes_keeps s section _ to _ rest e (λ h. h) refl t
  does_keeps s section (Move to size back pointer by) rest e t = computes_keeps s section _ to _ rest e (λ h. h) refl t
  does_keeps s section (Distance to size left right) rest e t = computes_keeps s section _ to _ rest e (λ h. h) refl t
  does_keeps s section (Address to place) rest e t = computes_keeps s section _ to _ rest e (λ h. h) refl t
  does_keeps s section (Read to place kind access) rest e t =
      reads_keeps s section _ to (site_of access kind) _ rest e (λ h. h) refl (λ f fine holds.
      touched_at (site_of access kind) s.frame.active f.at.object f.at.offset holds (read_free place kind s.frame.active s.frame.registers s.store f t.bare fine)) t
  does_keeps s section (Write place kind from access) rest e t =
      writes_keeps s section _ (site_of access kind) _ rest e (λ h. h) refl
      (λ l fine holds.
      touched_at (site_of access kind) s.frame.active l.at.object l.at.offset holds (write_free place kind (s.frame.registers from) s.frame.active s.frame.registers s.store l t.bare fine))
      (λ l fine. write_leaves place kind (s.frame.registers from) s.frame.active s.frame.registers s.store l fine) t
  does_keeps s section (Reload to slot access) rest e t =
      reads_keeps s section _ to (slot_site access slot) _ rest e (λ h. h) refl (λ f fine holds.
      slot_touched access slot s.frame.active f.at (slot_read_at (slot_of slot s.frame.active) s.store f fine)) t
  does_keeps s section (Spill slot from access) rest e t =
      writes_keeps s section _ (slot_site access slot) _ rest e (λ h. h) refl
      (λ l fine holds. slot_touched access slot s.frame.active l.at (slot_write_at (slot_of slot s.frame.active) (s.frame.registers from) s.store l fine))
      (λ l fine. slot_write_leaves (slot_of slot s.frame.active) (s.frame.registers from) s.store l fine) t
  does_keeps s section (Cut cause) rest e t = cut_keeps s section cause rest e t
  does_keeps s section (Call to i first count) rest e t = call_keeps s section to i first count rest e t
  does_keeps s section (Serve to service from) rest e t =
      takes_keeps section s.fuel s.output _ (λ less.
      checked_keeps section (argument from s.frame.registers) _ (λ z _.
      served_keeps s section (Serve to service from) to _ rest _ _ less e (λ h. h) refl t))

  step_keeps : (s : State) (section : List (Item Byte)) (lines : List Line) → s.frame.spot.rest ≡ lines → Tracked s section → Keeps section (step_at u g lines s)
  step_keeps s section [] e t = leaves_keeps s section s.frame.spot.exit refl e t
  step_keeps s section (line ∷ rest) e t = does_keeps s section line rest e t

  record Safe (section : List (Item Byte)) (events run : List Event) : Type 0 where
    more : List Event
    is : run ≡ events ++ more
    safe : NoWarAfter section (items more)

  -- from a step on
  next_safe : (k : ℕ) (next : Next) (section : List (Item Byte)) (events run : List Event) (o : Outcome) → goes_on next (exec u g k) events ≡ Over o run → AllHold statics tags run → Keeps section next → ((s' : State) (section' : List (Item Byte)) (events' : List Event) → exec u g k s' events' ≡ Over o run → Tracked s' section' → Safe section' events' run) → Safe section events run
  next_safe k (Stops p new) section events run o e all kept h = record { more = new; is = over_same p o (events ++ new) run e; safe = kept }
  next_safe k (Goes s' new) section events run o e all kept h =
      let a = adds u g k s' (events ++ new) run o e in
      let holds = hold_back statics tags events new (hold_front statics tags (events ++ new) a.more (subst (AllHold statics tags) a.is all)) in
      let next = kept holds in
      let r = h s' next.0 (events ++ new) e next.1 in
      record {
        more = new ++ r.more;
        is = r.is ∙ append_assoc events new r.more;
        safe = subst (NoWarAfter section) (sym (items-append new r.more)) (next.2 (items r.more) r.safe);
      }

  run_safe : (k : ℕ) (s : State) (section : List (Item Byte)) (events run : List Event) (o : Outcome) → exec u g k s events ≡ Over o run → AllHold statics tags run → Tracked s section → Safe section events run
  run_safe zero s section events run o e all t = cc
  run_safe (suc k) s section events run o e all t =
      next_safe k (step u g s) section events run o e all (step_keeps s section s.frame.spot.rest refl t) (λ s' section' events' e' t'. run_safe k s' section' events' run o e' all t')

  whole_safe : (n k : ℕ) (o : Outcome) (run : List Event) → goes_on (start u g n) (exec u g k) [] ≡ Over o run → AllHold statics tags run → NoWar (items run)
  whole_safe n k o run e all =
      let kept = enters_keeps (before u g n) [] u.main 0 0 n (λ r. Unset) [] (λ by x has exposed. exposed) (bare_start (statics_of u)) tt in
      let r = next_safe k (start u g n) [] [] run o e all kept (λ s' section' events' e' t'. run_safe k s' section' events' run o e' all t') in
      subst (λ l. NoWar (items l)) (sym r.is) r.safe

pub no_war : (u : Code) (tags : Tags) (g : Setting) (n : ℕ) (o : Outcome) (run : List Event) → AllForced u → AllSectioned tags u → Runs u g n o run → AllHold (length u.statics.items) tags run → NoWar (items run)
no_war u tags g n o run forced sectioned r all = whole_safe u tags g forced sectioned n r.steps o run r.over all
