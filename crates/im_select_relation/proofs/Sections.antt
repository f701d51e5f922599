-- Each step keeps sections separate.
use Rattle.std.proofs.Common.{◌≡◌, ◌≢◌, ℕ, zero, suc, ◌+◌, ◌<◌, ◌≤◌, inl, inr, Bool, true, false, cond, List, [], ◌∷◌, ◌++◌, Option, Some, None, sym, ap, ◌∙◌, subst, refl, append_assoc, arith}
use Rattle.std.specs.Prelude.{◌==◌, nat_le, slice_get}
use Rattle.std.proofs.lemmas.Bool.Decides.{nat_tests}
use Rattle.im_num.specs.declared.kind.Kind.{Kind}
use Rattle.im_num.specs.declared.kind.Kind.TheVariants.{U32}
use Rattle.im_num.specs.Kinds.{kind_size}
use Rattle.im_mem.specs.Memory.{Mem}
use Rattle.im_rv.specs.Steps.{Cpu}
use Rattle.im_store.specs.Checks.{Checked, Fine, Bad}
use Rattle.im_store.specs.Objects.{Name, Slot, Link, Object, Value, Number, Null, Unset, Shape, Store, shape_with}
use Rattle.im_store.specs.Statics.{with_statics}
use Rattle.im_store.specs.Outcomes.{Outcome}
use Rattle.im_block.specs.declared.code.Line.{Line}
use Rattle.im_block.specs.declared.code.Line.TheVariants.{Put, PutNull, Copy, Convert, Unary, Not, Compute, Compare, Move, Distance, Address, Read, Write, Reload, Spill, Cut, Call, Serve}
use Rattle.im_block.specs.declared.code.Exit.{Exit}
use Rattle.im_block.specs.declared.code.Exit.TheVariants.{Jump, Turn, Branch, Return}
use Rattle.im_block.specs.declared.code.Block.{Block}
use Rattle.im_block.specs.declared.unit.Function.{Function}
use Rattle.im_block.specs.declared.unit.Unit.{Unit as Code}
use Rattle.im_block.specs.Meaning.{Setting, Active, Site, site_of, slot_site, object_of, Found, Left, link_shape, slot_shape, slot_of, shapes_of, statics_of, Frame, State, Next, Goes, Stops, Event, Serves, Cuts, on_checked, takes, found, computes, reads, writes, read_place, write_place, read_slot, write_slot, number_of, condition, returned, next_active, enters, does, back, goes_to, leaves, step_at, step}
use Rattle.im_block.specs.Runs.{Over, goes_on, exec, before, start}
use Rattle.im_block.specs.Shape.{spot_weight}
use Rattle.im_block.specs.Sections.{Item, Reader, Writer, Byte, bytes_of, items}
use Rattle.im_block.specs.Forced.{StartsWithCut, CutAfterCalls, AllForced}
use Rattle.im_select_relation.specs.Linking.{Linking}
use Rattle.im_select_relation.specs.Law.{steps}
use Rattle.im_select_relation.proofs.Mapped.{marks, Mapped, Cell, under_activation}
use Rattle.im_select_relation.proofs.Checks.{found_fine, read_place_fine, write_place_fine, read_slot_fine, write_slot_fine}
use Rattle.im_select_relation.proofs.Shapes.{Premises}
use Rattle.im_select_relation.proofs.Relation.{SlotsShaped, Ordered, AllLinked}
use Rattle.im_select_relation.proofs.Stood.{Stood, held, Brings}
use Rattle.im_select_relation.proofs.Steps.{static_lies, stood_brings, begin_brings, over_is}
use Rattle.im_select_relation.proofs.Separate.{LiveByte, live_apart, SeparateAfter, AllLive, touched_more, bytes_live, ForcedCallers, Inv, Sections, SepNext, Sound, sound_after, items_append, ServedBefore, CutBehind, CutFirst}

-- what is known of a state
pub record Here (p : Linking) (g : Setting) (s : State) : Type 0 where
  pub mapped : Mapped p s.store.shape (marks (s.frame ∷ s.callers))
  pub ordered : Ordered g.stack (marks (s.frame ∷ s.callers))
  pub linked : AllLinked s.store.shape (marks (s.frame ∷ s.callers))
  pub fresh : s.frame.active.number ≤ s.begun
  pub slots : SlotsShaped s.store.shape
  pub callers : ForcedCallers s.callers

checked_sep : {A : Type 0} (p : Linking) (section : List (Item Byte)) (o : Checked A) (go : A → Next) → Sound p (on_checked o go) → ((a : A) → o ≡ Fine a → Sound p (go a) → SepNext p section (go a)) → SepNext p section (on_checked o go)
checked_sep p section (Fine a) go k h = h a refl k
checked_sep p section (Bad why) go k h = (tt, tt)

takes_sep : (p : Linking) (section : List (Item Byte)) (fuel : ℕ) (output : List ℕ) (go : ℕ → Next) → Sound p (takes fuel output go) → ((less : ℕ) → Sound p (go less) → SepNext p section (go less)) → SepNext p section (takes fuel output go)
takes_sep p section zero output go k h = (tt, tt)
takes_sep p section (suc less) output go k h = h less k

cond_sep : (p : Linking) (section : List (Item Byte)) (b : Bool) (x y : Next) → Sound p (cond b x y) → (Sound p x → SepNext p section x) → (Sound p y → SepNext p section y) → SepNext p section (cond b x y)
cond_sep p section true x y k h g = h k
cond_sep p section false x y k h g = g k

-- nothing is touched
quiet : (p : Linking) (section : List (Item Byte)) (s : State) → AllLive s.store.shape section → CutAfterCalls s.frame.spot.rest → ForcedCallers s.callers → Sections p section s []
quiet p section s live cuts callers = record { next = section; more = λ run h. h; inv = inl live; forced = cuts; callers = callers; served = λ run s c. s }

read_live : (shape : Object → Option Shape) (section : List (Item Byte)) (o : Object) (sh : Shape) (i n : ℕ) → shape o ≡ Some sh → i + n ≤ sh.size → AllLive shape section → AllLive shape (section ++ Reader (bytes_of o i n) ∷ [])
read_live shape section o sh i n e le live x t = elim (touched_more section (Reader (bytes_of o i n) ∷ []) x t) [
  | inl k ↦ live x k
  | inr (inl k) ↦ bytes_live shape o sh i n x e le k
  | inr (inr k) ↦ absurd k
]

write_live : (shape : Object → Option Shape) (section : List (Item Byte)) (o : Object) (sh : Shape) (i n : ℕ) → shape o ≡ Some sh → i + n ≤ sh.size → AllLive shape section → AllLive shape (section ++ Writer (bytes_of o i n) ∷ [])
write_live shape section o sh i n e le live x t = elim (touched_more section (Writer (bytes_of o i n) ∷ []) x t) [
  | inl k ↦ live x k
  | inr (inl k) ↦ bytes_live shape o sh i n x e le k
  | inr (inr k) ↦ absurd k
]

computes_sep : (p : Linking) (g : Setting) (s : State) (section : List (Item Byte)) (to : ℕ) (o : Checked Value) (rest : List Line) → Here p g s → AllLive s.store.shape section → CutAfterCalls rest → Sound p (computes to o rest s) → SepNext p section (computes to o rest s)
computes_sep p g s section to o rest h live cuts k = checked_sep p section o _ k (λ v e k1. record { next = section; more = λ run q. q; inv = inl live; forced = cuts; callers = h.callers; served = λ run s c. s })

reads_sep : (p : Linking) (g : Setting) (s : State) (section : List (Item Byte)) (to : ℕ) (site : Site) (kind : Kind) (o : Checked Found) (rest : List Line) → Here p g s → AllLive s.store.shape section → CutAfterCalls rest → site.size ≡ kind_size kind → ((f : Found) → o ≡ Fine f → Cell p s.store.shape f.at.object f.at.offset kind) → Sound p (reads to site o rest s) → SepNext p section (reads to site o rest s)
reads_sep p g s section to site kind o rest h live cuts size cell k = checked_sep p section o _ k (λ f e k1.
    let c = cell f e in
    let le : f.at.offset + site.size ≤ c.sh.size = (let q = (h.mapped.lies f.at.object c.sh c.live).cells.inside f.at.offset kind c.cell in omega arith) in
    record {
      next = section ++ Reader (bytes_of f.at.object f.at.offset site.size) ∷ [];
      more = λ run a. a;
      inv = inl (read_live s.store.shape section f.at.object c.sh f.at.offset site.size c.live le live);
      forced = cuts;
      callers = h.callers;
      served = λ run s c. s;
    })

writes_sep : (p : Linking) (g : Setting) (s : State) (section : List (Item Byte)) (site : Site) (kind : Kind) (o : Checked Left) (rest : List Line) → Here p g s → AllLive s.store.shape section → CutAfterCalls rest → site.size ≡ kind_size kind → ((l : Left) → o ≡ Fine l → (Cell p s.store.shape l.at.object l.at.offset kind) × (l.store.shape ≡ s.store.shape)) → Sound p (writes site o rest s) → SepNext p section (writes site o rest s)
writes_sep p g s section site kind o rest h live cuts size cell k = checked_sep p section o _ k (λ f e k1.
    let q = cell f e in
    let c = q.0 in
    let le : f.at.offset + site.size ≤ c.sh.size = (let q = (h.mapped.lies f.at.object c.sh c.live).cells.inside f.at.offset kind c.cell in omega arith) in
    record {
      next = section ++ Writer (bytes_of f.at.object f.at.offset site.size) ∷ [];
      more = λ run a. ((λ x b y t e. live_apart p s.store.shape _ x y h.mapped (bytes_live s.store.shape f.at.object c.sh f.at.offset site.size x c.live le b) (live y t) e), a);
      inv = inl (subst (λ z. AllLive z (section ++ Writer (bytes_of f.at.object f.at.offset site.size) ∷ [])) (sym q.1) (write_live s.store.shape section f.at.object c.sh f.at.offset site.size c.live le live));
      forced = cuts;
      callers = h.callers;
      served = λ run s c. s;
    })

-- what lived before a call lives on
still_live : (p : Linking) (g : Setting) (s : State) (depth : ℕ) (objects : Name → Option Shape) (x : Byte) → Here p g s → LiveByte s.store.shape x → LiveByte (shape_with s.store.shape (s.begun + 1) depth objects) x
still_live p g s depth objects x h l = record { sh = l.sh; live = ap (λ z. cond z (cond (x.object.depth == depth) (objects x.object.name) None) (s.store.shape x.object)) old ∙ l.live; fits = l.fits }
  where
    fresh : s.frame.active.number ≤ s.begun
    fresh = h.fresh

    old : (x.object.activation == s.begun + 1) ≡ false
    old =
        let less : x.object.activation < s.begun + 1 = elim ((h.mapped.lies x.object l.sh l.live).where_from) [
          | inl a ↦ (let e = a.0 in omega arith)
          | inr (inl f) ↦ (let e = f.0 in omega arith)
          | inr (inr f) ↦ (let e = under_activation x.object s.frame.active.depth s.frame.active.number (marks s.callers) h.ordered.2 f in omega arith)
        ] in
        let ne : x.object.activation ≢ s.begun + 1 = omega arith in
        grind (arith, nat_tests)

-- an activation begins
enters_sep : (p : Linking) (u : Code) (g : Setting) → AllForced u → (s : State) (section : List (Item Byte)) (i first count fuel : ℕ) (registers : ℕ → Value) (callers : List Frame) → ((depth : ℕ) (objects : Name → Option Shape) (x : Byte) → LiveByte s.store.shape x → LiveByte (shape_with s.store.shape (s.begun + 1) depth objects) x) → AllLive s.store.shape section → ForcedCallers callers → Sound p (enters u g i first count registers callers fuel s) → SepNext p section (enters u g i first count registers callers fuel s)
enters_sep p u g forced s section i first count fuel registers callers still live waits k =
    checked_sep {A = Function} p section (found (slice_get u.functions.items i)) _ k (λ f is0 k1.
    cond_sep p section (nat_le (next_active u g i s).depth g.stack) _ _ k1 (λ k2.
    checked_sep {A = Block} p section (found (slice_get f.blocks.items f.entry)) _ k2 (λ block found0 k3.
    let active : Active = next_active u g i s in
    let o : Object = object_of active Link in
    let sh' : Object → Option Shape = shape_with s.store.shape active.number active.depth (shapes_of f) in
    let older : AllLive sh' section = λ x t. still active.depth (shapes_of f) x (live x t) in
    record {
      next = section ++ Writer (bytes_of o 0 4) ∷ [];
      more = λ run a. ((λ x b y t e. live_apart p sh' _ x y k3.0 (bytes_live sh' o link_shape 0 4 x k3.1.1 (omega arith) b) (older y t) e), a);
      inv = inl (write_live sh' section o link_shape 0 4 k3.1.1 (omega arith) older);
      forced = (forced.each i f (found_fine _ f is0)).calls f.entry block (found_fine _ block found0);
      callers = waits;
      served = λ run s c. s;
    }))
    (λ k2. (tt, tt)))

-- a built-in call, behind which a cut stands
served_sep : (p : Linking) (section : List (Item Byte)) (s : State) → AllLive s.store.shape section → StartsWithCut s.frame.spot.rest → CutAfterCalls s.frame.spot.rest → ForcedCallers s.callers → Sections p section s (Serves ∷ [])
served_sep p section s live cut cuts callers = record { next = section; more = λ run h. h; inv = inl live; forced = cuts; callers = callers; served = λ run s c. (c cut, s) }

slot_shaped : (p : Linking) (g : Setting) (s : State) → Here p g s → (slot : ℕ) (sh : Shape) → s.store.shape (object_of s.frame.active (Slot slot)) ≡ Some sh → sh ≡ slot_shape
slot_shaped p g s h slot sh e = h.slots (object_of s.frame.active (Slot slot)) slot sh refl e

line_sep : (p : Linking) (u : Code) (g : Setting) → AllForced u → (s : State) (section : List (Item Byte)) (line : Line) (rest : List Line) → Here p g s → AllLive s.store.shape section → CutAfterCalls (line ∷ rest) → Sound p (does u g line rest s) → SepNext p section (does u g line rest s)
line_sep p u g forced s section (Put to z) rest h live cuts k = computes_sep p g s section to (Fine (Number z)) rest h live cuts k
line_sep p u g forced s section (PutNull to) rest h live cuts k = computes_sep p g s section to (Fine Null) rest h live cuts k
line_sep p u g forced s section (Copy to from) rest h live cuts k = computes_sep p g s section to (Fine (s.frame.registers from)) rest h live cuts k
line_sep p u g forced s section (Convert to kind from) rest h live cuts k = computes_sep p g s section to _ rest h live cuts k
line_sep p u g forced s section (Unary to op kind from) rest h live cuts k = computes_sep p g s section to _ rest h live cuts k
line_sep p u g forced s section (Not to from) rest h live cuts k = computes_sep p g s section to _ rest h live cuts k
line_sep p u g forced s section (Compute to op kind left right) rest h live cuts k = computes_sep p g s section to _ rest h live cuts k
line_sep p u g forced s section (Compare to op kind left right) rest h live cuts k = computes_sep p g s section to _ rest h live cuts k
line_sep p u g forced s section (Move to size back pointer by) rest h live cuts k = computes_sep p g s section to _ rest h live cuts k
line_sep p u g forced s section (Distance to size left right) rest h live cuts k = computes_sep p g s section to _ rest h live cuts k
line_sep p u g forced s section (Address to place) rest h live cuts k = computes_sep p g s section to _ rest h live cuts k
line_sep p u g forced s section (Read to place kind access) rest h live cuts k =
    reads_sep p g s section to (site_of access kind) kind (read_place place kind s.frame.active s.frame.registers s.store) rest h live cuts refl
    (λ f e. (read_place_fine p place kind s.frame.active s.frame.registers s.store f e).read.cell) k
line_sep p u g forced s section (Write place kind from access) rest h live cuts k =
    writes_sep p g s section (site_of access kind) kind (write_place place kind (s.frame.registers from) s.frame.active s.frame.registers s.store) rest h live cuts refl
    (λ f e. let w = (write_place_fine p place kind (s.frame.registers from) s.frame.active s.frame.registers s.store f e).write in (w.cell, ap (λ (z : Store). z.shape) w.is)) k
line_sep p u g forced s section (Reload to slot access) rest h live cuts k =
    reads_sep p g s section to (slot_site access slot) U32 (read_slot (slot_of slot s.frame.active) s.store) rest h live cuts refl
    (λ f e. (read_slot_fine p (slot_of slot s.frame.active) s.store f (slot_shaped p g s h slot) refl e).1.cell) k
line_sep p u g forced s section (Spill slot from access) rest h live cuts k =
    writes_sep p g s section (slot_site access slot) U32 (write_slot (slot_of slot s.frame.active) (s.frame.registers from) s.store) rest h live cuts refl
    (λ f e. let w = (write_slot_fine p (slot_of slot s.frame.active) (s.frame.registers from) s.store f (slot_shaped p g s h slot) refl e).1 in (w.cell, ap (λ (z : Store). z.shape) w.is)) k
line_sep p u g forced s section (Cut cause) rest h live cuts k = record { next = []; more = λ run a. a; inv = inl (λ x t. absurd t); forced = cuts; callers = h.callers; served = λ run s c. s }
line_sep p u g forced s section (Call to i first count) rest h live cuts k =
    takes_sep p section s.fuel s.output _ k (λ less k1.
    enters_sep p u g forced s section i first count less s.frame.registers _ (λ depth objects x l. still_live p g s depth objects x h l) live (cuts.0, cuts.1, h.callers) k1)
line_sep p u g forced s section (Serve to service None) rest h live cuts k =
    takes_sep p section s.fuel s.output _ k (λ less k1. record { next = section; more = λ run q. q; inv = inl live; forced = cuts.1; callers = h.callers; served = λ run s c. (c cuts.0, s) })
line_sep p u g forced s section (Serve to service (Some from)) rest h live cuts k =
    takes_sep p section s.fuel s.output _ k (λ less k1.
    checked_sep p section (number_of (s.frame.registers from)) _ k1 (λ z e k2. record { next = section; more = λ run q. q; inv = inl live; forced = cuts.1; callers = h.callers; served = λ run s c. (c cuts.0, s) }))

to_sep : (p : Linking) (u : Code) (g : Setting) → AllForced u → (s : State) (section : List (Item Byte)) (b fuel : ℕ) → Here p g s → AllLive s.store.shape section → Sound p (goes_to u g b fuel s) → SepNext p section (goes_to u g b fuel s)
to_sep p u g forced s section b fuel h live k =
    checked_sep {A = Function} p section (found (slice_get u.functions.items s.frame.function)) _ k (λ f is0 k1.
    checked_sep {A = Block} p section (found (slice_get f.blocks.items b)) _ k1 (λ block found0 k2.
    record { next = section; more = λ run q. q; inv = inl live; forced = (forced.each s.frame.function f (found_fine _ f is0)).calls b block (found_fine _ block found0); callers = h.callers; served = λ run s c. s }))

back_sep : (p : Linking) (u : Code) (g : Setting) (s : State) (section : List (Item Byte)) (callers : List Frame) (v : Value) → ForcedCallers callers → Sound p (back u g callers v s) → SepNext p section (back u g callers v s)
back_sep p u g s section [] v f k = checked_sep p section (number_of v) _ k (λ n e k1. (tt, tt))
back_sep p u g s section (w ∷ ws) v f k = record {
  next = section ++ Reader (bytes_of (object_of s.frame.active Link) 0 4) ∷ [];
  more = λ run a. a;
  inv = inr f.0;
  forced = f.1;
  callers = f.2;
  served = λ run s c. s;
}

exit_sep : (p : Linking) (u : Code) (g : Setting) → AllForced u → (s : State) (section : List (Item Byte)) (exit : Exit) → Here p g s → AllLive s.store.shape section → Sound p (leaves u g exit s) → SepNext p section (leaves u g exit s)
exit_sep p u g forced s section (Jump b) h live k = to_sep p u g forced s section b s.fuel h live k
exit_sep p u g forced s section (Turn b) h live k = takes_sep p section s.fuel s.output _ k (λ less k1. to_sep p u g forced s section b less h live k1)
exit_sep p u g forced s section (Branch on a b) h live k = checked_sep p section (condition s.store (s.frame.registers on)) _ k (λ t e k1. to_sep p u g forced s section (cond t a b) s.fuel h live k1)
exit_sep p u g forced s section (Return from) h live k = back_sep p u g s section s.callers (returned u g from s.frame.registers) h.callers k

-- a section may end here
cut_sep : (p : Linking) (u : Code) (g : Setting) (s : State) (section : List (Item Byte)) (lines : List Line) → StartsWithCut lines → CutAfterCalls lines → ForcedCallers s.callers → SepNext p section (step_at u g lines s)
cut_sep p u g s section [] c f callers = absurd c
cut_sep p u g s section (Cut cause ∷ rest) c f callers = record { next = []; more = λ run a. a; inv = inl (λ x t. absurd t); forced = f; callers = callers; served = λ run s c. s }
cut_sep p u g s section (line ∷ rest) c f callers = absurd c

cut_first : (u : Code) (g : Setting) (s : State) (lines : List Line) → StartsWithCut lines → CutFirst (step_at u g lines s)
cut_first u g s [] c = absurd c
cut_first u g s (Cut cause ∷ rest) c = tt
cut_first u g s (line ∷ rest) c = absurd c

lines_sep : (p : Linking) (u : Code) (g : Setting) → AllForced u → (s : State) (section : List (Item Byte)) (lines : List Line) → Here p g s → AllLive s.store.shape section → CutAfterCalls lines → Sound p (step_at u g lines s) → SepNext p section (step_at u g lines s)
lines_sep p u g forced s section [] h live cuts k = exit_sep p u g forced s section s.frame.spot.exit h live k
lines_sep p u g forced s section (line ∷ rest) h live cuts k = line_sep p u g forced s section line rest h live cuts k

step_sep : (p : Linking) (u : Code) (g : Setting) → AllForced u → (s : State) (section : List (Item Byte)) → Here p g s → Inv s section → CutAfterCalls s.frame.spot.rest → Sound p (step u g s) → SepNext p section (step u g s)
step_sep p u g forced s section h (inl live) cuts k = lines_sep p u g forced s section s.frame.spot.rest h live cuts k
step_sep p u g forced s section h (inr c) cuts k = cut_sep p u g s section s.frame.spot.rest c cuts h.callers

-- the events of a run so far, and what is to come; `first`: a cut comes first
pub record Separate (p : Linking) (section : List (Item Byte)) (first : Type 0) (events run : List Event) : Type 0 where
  pub more : List Event
  pub split : run ≡ events ++ more
  pub apart : SeparateAfter p section (items more)
  pub served : ServedBefore more
  pub behind : first → CutBehind more

cut_behind : (s : State) (ev more : List Event) → CutFirst (Goes s ev) → CutBehind (ev ++ more)
cut_behind s [] more c = absurd c
cut_behind s (Cuts ∷ ev) more c = tt
cut_behind s (e ∷ ev) more c = absurd c

sep_next : (p : Linking) (u : Code) (g : Setting) (k fuel words : ℕ) (o : Outcome) (run : List Event) (c : Cpu) (m : Mem) (section : List (Item Byte)) (first : Type 0) → ((s : State) (d : Cpu) (h : Mem) (next : List (Item Byte)) (events : List Event) → Stood p u g s d h → Inv s next → CutAfterCalls s.frame.spot.rest → ForcedCallers s.callers → exec u g k s events ≡ Over o run → Separate p next (StartsWithCut s.frame.spot.rest) events run) → (next : Next) (events : List Event) → Brings p u g fuel words c m next → SepNext p section next → (first → CutFirst next) → goes_on next (exec u g k) events ≡ Over o run → Separate p section first events run
sep_next p u g k fuel words o run c m section first rec (Goes s more) events a q cut e =
    let f = rec s a.d a.k q.next (events ++ more) a.stood q.inv q.forced q.callers e in
    record {
      more = more ++ f.more;
      split = f.split ∙ append_assoc events more f.more;
      apart = subst (λ z. SeparateAfter p section z) (sym (items_append more f.more)) (q.more (items f.more) f.apart);
      served = q.served f.more f.served f.behind;
      behind = λ t. cut_behind s more f.more (cut t);
    }
sep_next p u g k fuel words o run c m section first rec (Stops q more) events a h cut e = record { more = more; split = sym (over_is q o (events ++ more) run e).1; apart = h.0; served = h.1; behind = λ t. absurd (cut t) }

sep_run : (p : Linking) (u : Code) (g : Setting) → Premises p u g → AllForced u → (k : ℕ) (o : Outcome) (run : List Event) (s : State) (c : Cpu) (m : Mem) (section : List (Item Byte)) (events : List Event) → Stood p u g s c m → Inv s section → CutAfterCalls s.frame.spot.rest → ForcedCallers s.callers → exec u g k s events ≡ Over o run → Separate p section (StartsWithCut s.frame.spot.rest) events run
sep_run p u g l forced zero o run s c m section events r inv cuts callers e = absurd cc
sep_run p u g l forced (suc k) o run s c m section events r inv cuts callers e =
    let a = stood_brings p u g l s c m r in
    let q = held p u g s c m r in
    let h : Here p g s = record { mapped = q.mapped; ordered = q.ordered; linked = q.linked; fresh = q.fresh; slots = q.slots; callers = callers } in
    sep_next p u g k s.fuel (spot_weight (steps p) s.frame.spot) o run c m section (StartsWithCut s.frame.spot.rest) (λ s' d h' next more r' i f w e'. sep_run p u g l forced k o run s' d h' next more r' i f w e') (step u g s) events a
    (step_sep p u g forced s section h inv cuts (sound_after p u g s.fuel (spot_weight (steps p) s.frame.spot) c m (step u g s) a)) (cut_first u g s s.frame.spot.rest) e

pub record Parted (p : Linking) (run : List Event) : Type 0 where
  pub apart : SeparateAfter p [] (items run)
  pub served : ServedBefore run

-- from the first activation on
pub separate : (p : Linking) (u : Code) (g : Setting) → Premises p u g → AllForced u → (x : ℕ → ℕ) (n k : ℕ) (o : Outcome) (run : List Event) → x 0 ≡ 0 → x 2 ≡ 3145728 → goes_on (start u g n) (exec u g k) [] ≡ Over o run → Parted p run
separate p u g l forced x n k o run x0 x2 e =
    let a = begin_brings p u g l x n x0 x2 in
    let c : Cpu = record { pc = p.begin; x = x } in
    let f = sep_next p u g k n 10 o run c p.image [] ⊥ (λ s d h next more r i q w e'. sep_run p u g l forced k o run s d h next more r i q w e') (start u g n) [] a
    (enters_sep p u g forced (before u g n) [] u.main 0 0 n (λ r. Unset) [] (λ depth objects y b. first_live depth objects y b) (λ x t. absurd t) tt (sound_after p u g n 10 c p.image (start u g n) a)) (λ t. absurd t) e in
    record { apart = subst (λ z. SeparateAfter p [] (items z)) (sym f.split) f.apart; served = subst ServedBefore (sym f.split) f.served }
  where
    first_live : (depth : ℕ) (objects : Name → Option Shape) (y : Byte) → LiveByte (with_statics (statics_of u)).shape y → LiveByte (shape_with (with_statics (statics_of u)).shape 1 depth objects) y
    first_live depth objects y b =
        let k = static_lies u y.object b.sh b.live in
        let t : (y.object.activation == 1) ≡ false = (let e = k.activation in grind (arith, nat_tests)) in
        record { sh = b.sh; live = ap (λ z. cond z (cond (y.object.depth == depth) (objects y.object.name) None) ((with_statics (statics_of u)).shape y.object)) t ∙ b.live; fits = b.fits }
