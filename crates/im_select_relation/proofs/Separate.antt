-- Bytes that a section touches have addresses of their own, so no write after a read of objects gives none of addresses.
use Rattle.std.proofs.Common.{◌≡◌, ℕ, zero, suc, ◌+◌, ◌<◌, ◌≤◌, ◌⊎◌, inl, inr, List, [], ◌∷◌, ◌++◌, Option, Some, sym, ap, ◌∙◌, subst, refl, arith}
use Rattle.std.specs.Prelude.{replicate}
use Rattle.im_mem.specs.Memory.{Mem}
use Rattle.im_rv.specs.Steps.{Cpu}
use Rattle.im_rv_reach.specs.Touches.{Flipped, Touch}
use Rattle.im_store.specs.Objects.{Link, Object, Shape}
use Rattle.im_store.specs.Outcomes.{Undef, More, End}
use Rattle.im_block.specs.declared.unit.Unit.{Unit as Code}
use Rattle.im_block.specs.Meaning.{Setting, object_of, Frame, State, Next, Goes, Stops, Event, Reads, Writes, Tests, Saves, Restores, Serves, Cuts}
use Rattle.im_block.specs.Sections.{Item, Reader, Writer, Break, Has, Exposed, NoWarAfter, Byte, bytes_of, link_bytes, items}
use Rattle.im_block.specs.Forced.{StartsWithCut, CutAfterCalls}
use Rattle.im_select_relation.specs.Linking.{Linking, address}
use Rattle.im_select_relation.specs.Law.{Touches, Nothing, Reading, Writing, Testing, Saving, Restoring, Serving, Cutting, addresses, machine_items}
use Rattle.im_select_relation.proofs.Mapped.{Mark, marks, Mapped}
use Rattle.im_select_relation.proofs.Relation.{AllLinked}
use Rattle.im_select_relation.proofs.Stood.{held, Brings}

abbrev pub spot : Linking → Byte → ℕ
spot p x = address p x.object + x.place

-- a byte of a live object
pub record LiveByte (shape : Object → Option Shape) (x : Byte) : Type 0 where
  pub sh : Shape
  pub live : shape x.object ≡ Some sh
  pub fits : x.place < sh.size

byte_is : (x y : Byte) → x.object ≡ y.object → x.place ≡ y.place → x ≡ y
byte_is x y a b = ap (λ (z : Object). let r : Byte = record { object = z; place = x.place } in r) a ∙ ap (λ (z : ℕ). let r : Byte = record { object = y.object; place = z } in r) b

-- two live bytes with one address are one
pub live_apart : (p : Linking) (shape : Object → Option Shape) (frames : List Mark) (x y : Byte) → Mapped p shape frames → LiveByte shape x → LiveByte shape y → spot p y ≡ spot p x → y ≡ x
live_apart p shape frames x y m a b e =
    let fa = a.fits in
    let fb = b.fits in
    elim (m.apart y.object b.sh x.object a.sh b.live a.live) [
      | inl f ↦ byte_is y x f (let g : address p y.object ≡ address p x.object = ap (λ z. address p z) f in omega arith)
      | inr (inl l) ↦ absurd (omega arith)
      | inr (inr l) ↦ absurd (omega arith)
    ]

abbrev pub TouchedIn : List (Item Byte) → Byte → Type 0
TouchedIn [] x = ⊥
TouchedIn (Reader bytes ∷ section) x = Has bytes x ⊎ TouchedIn section x
TouchedIn (Writer bytes ∷ section) x = Has bytes x ⊎ TouchedIn section x
TouchedIn (Break ∷ section) x = TouchedIn section x

abbrev pub Apart_in : Linking → List (Item Byte) → Byte → Type 0
Apart_in p section x = (y : Byte) → TouchedIn section y → spot p y ≡ spot p x → y ≡ x

-- what is written has an address that no other byte of its section has
abbrev pub SeparateAfter : Linking → List (Item Byte) → List (Item Byte) → Type 0
SeparateAfter p section [] = Unit {0}
SeparateAfter p section (Reader bytes ∷ run) = SeparateAfter p (section ++ Reader bytes ∷ []) run
SeparateAfter p section (Writer bytes ∷ run) = ((x : Byte) → Has bytes x → Apart_in p section x) × SeparateAfter p (section ++ Writer bytes ∷ []) run
SeparateAfter p section (Break ∷ run) = SeparateAfter p [] run

abbrev pub spots : Linking → List Byte → List ℕ
spots p [] = []
spots p (x ∷ xs) = spot p x ∷ spots p xs

abbrev pub spotted : Linking → List (Item Byte) → List (Item ℕ)
spotted p [] = []
spotted p (Reader bytes ∷ run) = Reader (spots p bytes) ∷ spotted p run
spotted p (Writer bytes ∷ run) = Writer (spots p bytes) ∷ spotted p run
spotted p (Break ∷ run) = Break ∷ spotted p run

spotted_append : (p : Linking) (a b : List (Item Byte)) → spotted p (a ++ b) ≡ spotted p a ++ spotted p b
spotted_append p [] b = refl
spotted_append p (Reader x ∷ a) b = ap (λ z. Reader (spots p x) ∷ z) (spotted_append p a b)
spotted_append p (Writer x ∷ a) b = ap (λ z. Writer (spots p x) ∷ z) (spotted_append p a b)
spotted_append p (Break ∷ a) b = ap (λ z. Break ∷ z) (spotted_append p a b)

has_spot : (p : Linking) (xs : List Byte) (x : Byte) → Has xs x → Has (spots p xs) (spot p x)
has_spot p [] x h = absurd h
has_spot p (y ∷ ys) x (inl e) = inl (ap (λ z. spot p z) e)
has_spot p (y ∷ ys) x (inr h) = inr (has_spot p ys x h)

spot_has : (p : Linking) (xs : List Byte) (a : ℕ) → Has (spots p xs) a → (x : Byte) × Has xs x × (spot p x ≡ a)
spot_has p [] a h = absurd h
spot_has p (y ∷ ys) a (inl e) = (y, inl refl, e)
spot_has p (y ∷ ys) a (inr h) = let k = spot_has p ys a h in (k.0, inr k.1, k.2)

exposed_back : (p : Linking) (section : List (Item Byte)) (x : Byte) → Apart_in p section x → Exposed (spotted p section) (spot p x) → Exposed section x
exposed_back p [] x apart h = h
exposed_back p (Reader bytes ∷ section) x apart (inl h) = let k = spot_has p bytes (spot p x) h in inl (subst (λ z. Has bytes z) (apart k.0 (inl k.1) k.2) k.1)
exposed_back p (Reader bytes ∷ section) x apart (inr h) = inr (exposed_back p section x (λ y t e. apart y (inr t) e) h)
exposed_back p (Writer bytes ∷ section) x apart h = ((λ k. h.0 (has_spot p bytes x k)), exposed_back p section x (λ y t e. apart y (inr t) e) h.1)
exposed_back p (Break ∷ section) x apart h = h

pub no_war_spotted : (p : Linking) (section run : List (Item Byte)) → SeparateAfter p section run → NoWarAfter section run → NoWarAfter (spotted p section) (spotted p run)
no_war_spotted p section [] s w = tt
no_war_spotted p section (Reader bytes ∷ run) s w = subst (λ z. NoWarAfter z (spotted p run)) (spotted_append p section (Reader bytes ∷ [])) (no_war_spotted p (section ++ Reader bytes ∷ []) run s w)
no_war_spotted p section (Writer bytes ∷ run) s w = (
  (λ a h e. let k = spot_has p bytes a h in w.0 k.0 k.1 (exposed_back p section k.0 (s.0 k.0 k.1) (subst (λ z. Exposed (spotted p section) z) (sym k.2) e))),
  subst (λ z. NoWarAfter z (spotted p run)) (spotted_append p section (Writer bytes ∷ [])) (no_war_spotted p (section ++ Writer bytes ∷ []) run s.1 w.1),
)
no_war_spotted p section (Break ∷ run) s w = no_war_spotted p [] run s w

addresses_are : (p : Linking) (o : Object) (i n a : ℕ) → a ≡ address p o + i → addresses a n ≡ spots p (bytes_of o i n)
addresses_are p o i zero a e = refl
addresses_are p o i (suc n) a e = ap (λ z. z ∷ addresses (a + 1) n) e ∙ ap (λ z. (address p o + i) ∷ z) (addresses_are p o (i + 1) n (a + 1) (omega arith))

-- the breaks of a routine are gone with the break behind it
abbrev pub breaks : ℕ → List (Item ℕ) → List (Item ℕ)
breaks zero run = run
breaks (suc n) run = Break ∷ breaks n run

breaks_are : (n : ℕ) (ts : List Touch) → machine_items (replicate n Flipped ++ ts) ≡ breaks n (machine_items ts)
breaks_are zero ts = refl
breaks_are (suc n) ts = ap (λ z. Break ∷ z) (breaks_are n ts)

-- where a routine is served, its section ends: a cut stands directly behind
abbrev pub CutBehind : List Event → Type 0
CutBehind [] = Unit {0}
CutBehind (Cuts ∷ run) = Unit {0}
CutBehind (e ∷ run) = ⊥

abbrev pub ServedBefore : List Event → Type 0
ServedBefore [] = Unit {0}
ServedBefore (Serves ∷ run) = CutBehind run × ServedBefore run
ServedBefore (e ∷ run) = ServedBefore run

no_war_breaks : (n : ℕ) (section run : List (Item ℕ)) → NoWarAfter [] run → NoWarAfter section (breaks n (Break ∷ run))
no_war_breaks zero section run h = h
no_war_breaks (suc n) section run h = no_war_breaks n [] run h

no_war_none : (n : ℕ) (section : List (Item ℕ)) → NoWarAfter section (breaks n [])
no_war_none zero section = tt
no_war_none (suc n) section = no_war_none n []

served : (p : Linking) (flips : ℕ) (run : List Event) (ts : List Touch) (section : List (Item ℕ)) → Touches p run ts → CutBehind run → (NoWarAfter [] (spotted p (items run)) → NoWarAfter [] (machine_items ts)) → NoWarAfter section (spotted p (items run)) → NoWarAfter section (breaks flips (machine_items ts))
served p flips run ts section Nothing c rec w = no_war_none flips section
served p flips run ts section (Cutting run' ts' t) c rec w = no_war_breaks flips section (machine_items ts') (rec w)
served p flips run ts section (Reading site by o i run' ts' t) c rec w = absurd c
served p flips run ts section (Writing site by o i run' ts' t) c rec w = absurd c
served p flips run ts section (Testing run' ts' t) c rec w = absurd c
served p flips run ts section (Saving by run' ts' t) c rec w = absurd c
served p flips run ts section (Restoring by run' ts' t) c rec w = absurd c
served p flips run ts section (Serving n run' ts' few t) c rec w = absurd c

-- sections of events, as the machine touches them
pub no_war_touched : (p : Linking) (run : List Event) (ts : List Touch) (section : List (Item ℕ)) → Touches p run ts → ServedBefore run → NoWarAfter section (spotted p (items run)) → NoWarAfter section (machine_items ts)
no_war_touched p run ts section Nothing s w = tt
no_war_touched p run ts section (Reading site by o i run' ts' t) s w =
    let e = addresses_are p o i site.size (address p o + i) refl in
    let k : NoWarAfter (section ++ Reader (addresses (address p o + i) site.size) ∷ []) (spotted p (items run')) = subst (λ z. NoWarAfter (section ++ Reader z ∷ []) (spotted p (items run'))) (sym e) w in
    no_war_touched p run' ts' _ t s k
no_war_touched p run ts section (Writing site by o i run' ts' t) s w =
    let e = addresses_are p o i site.size (address p o + i) refl in
    let k : NoWarAfter section (Writer (addresses (address p o + i) site.size) ∷ spotted p (items run')) = subst (λ z. NoWarAfter section (Writer z ∷ spotted p (items run'))) (sym e) w in
    (k.0, no_war_touched p run' ts' _ t s k.1)
no_war_touched p run ts section (Testing run' ts' t) s w = no_war_touched p run' ts' section t s w
no_war_touched p run ts section (Saving by run' ts' t) s w =
    let e = addresses_are p (object_of by Link) 0 4 (address p (object_of by Link)) (omega arith) in
    let k : NoWarAfter section (Writer (addresses (address p (object_of by Link)) 4) ∷ spotted p (items run')) = subst (λ z. NoWarAfter section (Writer z ∷ spotted p (items run'))) (sym e) w in
    (k.0, no_war_touched p run' ts' _ t s k.1)
no_war_touched p run ts section (Restoring by run' ts' t) s w =
    let e = addresses_are p (object_of by Link) 0 4 (address p (object_of by Link)) (omega arith) in
    let k : NoWarAfter (section ++ Reader (addresses (address p (object_of by Link)) 4) ∷ []) (spotted p (items run')) = subst (λ z. NoWarAfter (section ++ Reader z ∷ []) (spotted p (items run'))) (sym e) w in
    no_war_touched p run' ts' _ t s k
no_war_touched p run ts section (Serving flips run' ts' few t) s w = subst (λ z. NoWarAfter section z) (sym (breaks_are flips ts')) (served p flips run' ts' section t s.0 (λ q. no_war_touched p run' ts' [] t s.1 q) w)
no_war_touched p run ts section (Cutting run' ts' t) s w = no_war_touched p run' ts' [] t s w

pub items_append : (a b : List Event) → items (a ++ b) ≡ items a ++ items b
items_append [] b = refl
items_append (Reads site by o i ∷ a) b = ap (λ z. Reader (bytes_of o i site.size) ∷ z) (items_append a b)
items_append (Writes site by o i ∷ a) b = ap (λ z. Writer (bytes_of o i site.size) ∷ z) (items_append a b)
items_append (Tests ∷ a) b = items_append a b
items_append (Saves by ∷ a) b = ap (λ z. Writer (link_bytes by) ∷ z) (items_append a b)
items_append (Restores by ∷ a) b = ap (λ z. Reader (link_bytes by) ∷ z) (items_append a b)
items_append (Serves ∷ a) b = items_append a b
items_append (Cuts ∷ a) b = ap (λ z. Break ∷ z) (items_append a b)

-- all that a section has touched lives
abbrev pub AllLive : (Object → Option Shape) → List (Item Byte) → Type 0
AllLive shape section = (x : Byte) → TouchedIn section x → LiveByte shape x

pub touched_more : (a b : List (Item Byte)) (x : Byte) → TouchedIn (a ++ b) x → TouchedIn a x ⊎ TouchedIn b x
touched_more [] b x h = inr h
touched_more (Reader bytes ∷ a) b x (inl h) = inl (inl h)
touched_more (Reader bytes ∷ a) b x (inr h) = elim (touched_more a b x h) [ inl k ↦ inl (inr k) | inr k ↦ inr k ]
touched_more (Writer bytes ∷ a) b x (inl h) = inl (inl h)
touched_more (Writer bytes ∷ a) b x (inr h) = elim (touched_more a b x h) [ inl k ↦ inl (inr k) | inr k ↦ inr k ]
touched_more (Break ∷ a) b x h = touched_more a b x h

pub bytes_live : (shape : Object → Option Shape) (o : Object) (sh : Shape) (i n : ℕ) (x : Byte) → shape o ≡ Some sh → i + n ≤ sh.size → Has (bytes_of o i n) x → LiveByte shape x
bytes_live shape o sh i zero x e le h = absurd h
bytes_live shape o sh i (suc n) x e le (inl f) = subst (λ z. LiveByte shape z) f (record { sh = sh; live = e; fits = omega arith })
bytes_live shape o sh i (suc n) x e le (inr h) = bytes_live shape o sh (i + 1) n x e (omega arith) h

-- the code that is left has cuts after its calls, and each caller goes on with one
abbrev pub ForcedCallers : List Frame → Type 0
ForcedCallers [] = Unit {0}
ForcedCallers (w ∷ ws) = StartsWithCut w.spot.rest × CutAfterCalls w.spot.rest × ForcedCallers ws

abbrev pub Inv : State → List (Item Byte) → Type 0
Inv s section = AllLive s.store.shape section ⊎ StartsWithCut s.frame.spot.rest

pub record Sections (p : Linking) (section : List (Item Byte)) (s : State) (ev : List Event) : Type 0 where
  pub next : List (Item Byte)
  pub more : (run : List (Item Byte)) → SeparateAfter p next run → SeparateAfter p section (items ev ++ run)
  pub inv : Inv s next
  pub forced : CutAfterCalls s.frame.spot.rest
  pub callers : ForcedCallers s.callers
  pub served : (run : List Event) → ServedBefore run → (StartsWithCut s.frame.spot.rest → CutBehind run) → ServedBefore (ev ++ run)

abbrev pub SepNext : Linking → List (Item Byte) → Next → Type 0
SepNext p section (Goes s ev) = Sections p section s ev
SepNext p section (Stops o ev) = SeparateAfter p section (items ev) × ServedBefore ev

-- what is known of the next state
abbrev pub Sound : Linking → Next → Type 0
Sound p (Goes s ev) = Mapped p s.store.shape (marks (s.frame ∷ s.callers)) × AllLinked s.store.shape (marks (s.frame ∷ s.callers))
Sound p (Stops o ev) = Unit {0}

pub sound_after : (p : Linking) (u : Code) (g : Setting) (fuel words : ℕ) (c : Cpu) (m : Mem) (next : Next) → Brings p u g fuel words c m next → Sound p next
sound_after p u g fuel words c m (Goes s ev) a = let r = held p u g s a.d a.k a.stood in (r.mapped, r.linked)
sound_after p u g fuel words c m (Stops (End reason status output shows) ev) a = tt
sound_after p u g fuel words c m (Stops (More output) ev) a = tt
sound_after p u g fuel words c m (Stops (Undef why) ev) a = tt

-- a step whose events begin with a cut
abbrev pub CutFirst : Next → Type 0
CutFirst (Goes s (Cuts ∷ ev)) = Unit {0}
CutFirst next = ⊥
