-- Bytes of accesses: those of a covering write, those that two accesses share.
use Rattle.std.proofs.Common.{◌≡◌, ℕ, zero, suc, ◌+◌, ◌<◌, ◌≤◌, List, [], ◌∷◌, ◌++◌, Bool, true, false, Option, Some, None, refl, sym, ap, ◌∙◌, subst, arith, inl, inr, ⊎_elim}
use Rattle.std.specs.Prelude.{nat_lt, if◌then◌else◌}
use Rattle.std.proofs.lemmas.Bool.{cases_lt}
use Rattle.im_store.specs.Objects.{Name, Named, Slot, Link, Object, static}
use Rattle.im_block.specs.declared.access.Tags.{Tags}
use Rattle.im_block.specs.Meaning.{Site, Active, object_of}
use Rattle.im_block.specs.Sections.{Item, Reader, Writer, Break, Has, Exposed, Byte, bytes_of, link_bytes}
use Rattle.im_block.specs.Tagged.{Reach, ToSlot, Exactly, Among, reach_of, object_at, HasNumber, Reaches, Meet, Covers}
use Rattle.im_block.specs.Paths.{Step, ReadStep, WriteStep, Open}

-- which bytes these are
pub record Within (o : Object) (i n : ℕ) (x : Byte) : Type 0 where
  pub object : x.object ≡ o
  pub from : i ≤ x.place
  pub before : x.place < i + n

pub has_bytes : (o : Object) (i n : ℕ) (x : Byte) → Has (bytes_of o i n) x → Within o i n x
has_bytes o i zero x h = absurd h
has_bytes o i (suc n) x h =
    ⊎_elim
    (λ e.
    let place : i ≡ x.place = ap (λ (b : Byte). b.place) e in
    record { object = sym (ap (λ (b : Byte). b.object) e); from = omega arith; before = omega arith })
    (λ r. let a = has_bytes o (i + 1) n x r in record { object = a.object; from = omega (arith, a.from); before = omega (arith, a.before) })
    h

abbrev byte : Object → ℕ → Byte
byte o i = record { object = o; place = i }

same_byte : (o : Object) (i : ℕ) (x : Byte) → x.object ≡ o → i ≡ x.place → byte o i ≡ x
same_byte o i x e p = ap (λ q. byte q i) (sym e) ∙ ap (byte x.object) p

pub bytes_have : (o : Object) (i n : ℕ) (x : Byte) → Within o i n x → Has (bytes_of o i n) x
bytes_have o i zero x w =
    let from = w.from in
    let before = w.before in
    absurd (omega arith)
bytes_have o i (suc n) x w =
    let from = w.from in
    let before = w.before in
    ⊎_elim
    (λ below. inr (bytes_have o (i + 1) n x (record { object = w.object; from = omega arith; before = omega arith })))
    (λ here. let place : i ≡ x.place = omega arith in inl (same_byte o i x w.object place))
    (cases_lt i x.place)

either_name : (b : Bool) (o p : Object) (m : Name) → o.name ≡ m → p.name ≡ m → (if b then o else p).name ≡ m
either_name true o p m e f = e
either_name false o p m e f = f

pub name_at : (statics : ℕ) (by : Active) (n : ℕ) → (object_at statics by n).name ≡ Named n
name_at statics by n = either_name (nat_lt n statics) (static n) (object_of by (Named n)) (Named n) refl refl

-- the bytes of an access of this size are those that it reaches
abbrev pub Fits : ℕ → Option Reach → Active → ℕ → List Byte → Type 0
Fits statics None by n bytes = Unit {0}
Fits statics (Some (ToSlot slot)) by n bytes = bytes ≡ bytes_of (object_of by (Slot slot)) 0 n
Fits statics (Some (Exactly object at)) by n bytes = bytes ≡ bytes_of (object_at statics by object) at n
Fits statics (Some (Among objects)) by n bytes = (x : Byte) → Has bytes x → HasNumber x.object objects

pub fits : (statics : ℕ) (r : Option Reach) (by : Active) (o : Object) (offset n : ℕ) → Reaches statics r by o offset → Fits statics r by n (bytes_of o offset n)
fits statics None by o offset n h = h
fits statics (Some (ToSlot slot)) by o offset n h = ap (λ q. bytes_of q offset n) h.0 ∙ ap (λ i. bytes_of (object_of by (Slot slot)) i n) h.1
fits statics (Some (Exactly object at)) by o offset n h = ap (λ q. bytes_of q offset n) h.0 ∙ ap (λ i. bytes_of (object_at statics by object) i n) h.1
fits statics (Some (Among objects)) by o offset n h = λ x has. subst (λ q. HasNumber q objects) (sym (has_bytes o offset n x has).object) h

-- where the bytes of an exact access lie
slot_within : (by : Active) (slot n : ℕ) (bytes : List Byte) (x : Byte) → bytes ≡ bytes_of (object_of by (Slot slot)) 0 n → Has bytes x → Within (object_of by (Slot slot)) 0 n x
slot_within by slot n bytes x e h = has_bytes (object_of by (Slot slot)) 0 n x (subst (λ bs. Has bs x) e h)

exact_within : (statics : ℕ) (by : Active) (object at n : ℕ) (bytes : List Byte) (x : Byte) → bytes ≡ bytes_of (object_at statics by object) at n → Has bytes x → Within (object_at statics by object) at n x
exact_within statics by object at n bytes x e h = has_bytes (object_at statics by object) at n x (subst (λ bs. Has bs x) e h)

-- a write that covers a read has its bytes
pub covered : (statics : ℕ) (t s : Option Reach) (m n : ℕ) (by : Active) (wb rb : List Byte) (x : Byte) → Covers t m s n → Fits statics t by m wb → Fits statics s by n rb → Has rb x → Has wb x
covered statics (Some (ToSlot a)) (Some (ToSlot b)) m n by wb rb x c fw fr h =
    let there = slot_within by b n rb x fr h in
    let object = there.object ∙ ap (λ k. object_of by (Slot k)) (sym c.0) in
    let less = c.1 in
    let before = there.before in
    subst (λ bs. Has bs x) (sym fw) (bytes_have (object_of by (Slot a)) 0 m x (record { object = object; from = omega arith; before = omega arith }))
covered statics (Some (Exactly o i)) (Some (Exactly p j)) m n by wb rb x c fw fr h =
    let there = exact_within statics by p j n rb x fr h in
    let object = there.object ∙ ap (object_at statics by) (sym c.0) in
    let from = there.from in
    let before = there.before in
    subst (λ bs. Has bs x) (sym fw) (bytes_have (object_at statics by o) i m x (record { object = object; from = omega (arith, c.1); before = omega (arith, c.2) }))
covered statics (Some (ToSlot a)) (Some (Exactly p j)) m n by wb rb x c fw fr h = absurd c
covered statics (Some (ToSlot a)) (Some (Among ps)) m n by wb rb x c fw fr h = absurd c
covered statics (Some (ToSlot a)) None m n by wb rb x c fw fr h = absurd c
covered statics (Some (Exactly o i)) (Some (ToSlot b)) m n by wb rb x c fw fr h = absurd c
covered statics (Some (Exactly o i)) (Some (Among ps)) m n by wb rb x c fw fr h = absurd c
covered statics (Some (Exactly o i)) None m n by wb rb x c fw fr h = absurd c
covered statics (Some (Among os)) s m n by wb rb x c fw fr h = absurd c
covered statics None s m n by wb rb x c fw fr h = absurd c

named_is : (m n : ℕ) → Named m ≡ Named n → m ≡ n
named_is m n e = cc

slot_is : (m n : ℕ) → Slot m ≡ Slot n → m ≡ n
slot_is m n e = cc

slot_named : (m n : ℕ) → Slot m ≡ Named n → ⊥
slot_named m n e = cc

-- the name of a byte's object
abbrev name_of : Byte → Name
name_of x = x.object.name

slot_name : (by : Active) (slot n : ℕ) (bytes : List Byte) (x : Byte) → bytes ≡ bytes_of (object_of by (Slot slot)) 0 n → Has bytes x → name_of x ≡ Slot slot
slot_name by slot n bytes x e h = ap (λ (o : Object). o.name) (slot_within by slot n bytes x e h).object

exact_name : (statics : ℕ) (by : Active) (object at n : ℕ) (bytes : List Byte) (x : Byte) → bytes ≡ bytes_of (object_at statics by object) at n → Has bytes x → name_of x ≡ Named object
exact_name statics by object at n bytes x e h =
    ap (λ (o : Object). o.name) (exact_within statics by object at n bytes x e h).object ∙ name_at statics by object

-- two accesses that share a byte may meet
pub sharing : (statics : ℕ) (t s : Option Reach) (m n : ℕ) (by : Active) (wb rb : List Byte) (x : Byte) → Fits statics t by m wb → Fits statics s by n rb → Has wb x → Has rb x → Meet t m s n
sharing statics (Some (ToSlot a)) (Some (ToSlot b)) m n by wb rb x fw fr hw hr = slot_is a b (sym (slot_name by a m wb x fw hw) ∙ slot_name by b n rb x fr hr)
sharing statics (Some (ToSlot a)) (Some (Exactly p j)) m n by wb rb x fw fr hw hr = slot_named a p (sym (slot_name by a m wb x fw hw) ∙ exact_name statics by p j n rb x fr hr)
sharing statics (Some (ToSlot a)) (Some (Among ps)) m n by wb rb x fw fr hw hr =
    let r = fr x hr in slot_named a r.0 (sym (slot_name by a m wb x fw hw) ∙ r.1)
sharing statics (Some (ToSlot a)) None m n by wb rb x fw fr hw hr = tt
sharing statics (Some (Exactly o i)) (Some (ToSlot b)) m n by wb rb x fw fr hw hr = slot_named b o (sym (slot_name by b n rb x fr hr) ∙ exact_name statics by o i m wb x fw hw)
sharing statics (Some (Exactly o i)) (Some (Exactly p j)) m n by wb rb x fw fr hw hr =
    let a = exact_within statics by o i m wb x fw hw in
    let b = exact_within statics by p j n rb x fr hr in
    let a_from = a.from in
    let a_before = a.before in
    let b_from = b.from in
    let b_before = b.before in
    (named_is o p (sym (exact_name statics by o i m wb x fw hw) ∙ exact_name statics by p j n rb x fr hr), omega arith, omega arith)
sharing statics (Some (Exactly o i)) (Some (Among ps)) m n by wb rb x fw fr hw hr =
    let r = fr x hr in
    let same = named_is r.0 o (sym r.1 ∙ exact_name statics by o i m wb x fw hw) in
    subst (Has ps) same r.2
sharing statics (Some (Exactly o i)) None m n by wb rb x fw fr hw hr = tt
sharing statics (Some (Among os)) (Some (ToSlot b)) m n by wb rb x fw fr hw hr =
    let w = fw x hw in slot_named b w.0 (sym (slot_name by b n rb x fr hr) ∙ w.1)
sharing statics (Some (Among os)) (Some (Exactly p j)) m n by wb rb x fw fr hw hr =
    let w = fw x hw in
    let same = named_is w.0 p (sym w.1 ∙ exact_name statics by p j n rb x fr hr) in
    subst (Has os) same w.2
sharing statics (Some (Among os)) (Some (Among ps)) m n by wb rb x fw fr hw hr =
    let w = fw x hw in
    let r = fr x hr in
    let same = named_is w.0 r.0 (sym w.1 ∙ r.1) in
    (r.0, subst (Has os) same w.2, r.2)
sharing statics (Some (Among os)) None m n by wb rb x fw fr hw hr = tt
sharing statics None s m n by wb rb x fw fr hw hr = tt

pub link_name : (by : Active) (x : Byte) → Has (link_bytes by) x → name_of x ≡ Link
link_name by x h = ap (λ (o : Object). o.name) (has_bytes (object_of by Link) 0 4 x h).object

-- what an access touches: bytes within its reach, and no return address
pub record Touched (statics : ℕ) (tags : Tags) (by : Active) (site : Site) (bytes : List Byte) : Type 0 where
  pub fit : Fits statics (reach_of tags site) by site.size bytes
  pub free : (x : Byte) → Has bytes x → name_of x ≡ Link → ⊥

-- what a section touches is what a path does
abbrev pub Aligned : ℕ → Tags → Active → List Step → List (Item Byte) → Type 0
Aligned statics tags by [] [] = Unit {0}
Aligned statics tags by (ReadStep site ∷ path) (Reader bytes ∷ section) = Touched statics tags by site bytes × Aligned statics tags by path section
Aligned statics tags by (WriteStep site ∷ path) (Writer bytes ∷ section) = Touched statics tags by site bytes × Aligned statics tags by path section
Aligned statics tags by path section = ⊥

pub record OpenRead (statics : ℕ) (tags : Tags) (by : Active) (path : List Step) (x : Byte) : Type 0 where
  pub site : Site
  pub bytes : List Byte
  pub open_there : Open tags path site
  pub touched : Touched statics tags by site bytes
  pub has : Has bytes x

-- what a section exposes is open on its path
pub exposed_open : (statics : ℕ) (tags : Tags) (by : Active) (path : List Step) (section : List (Item Byte)) (x : Byte) → Aligned statics tags by path section → Exposed section x → OpenRead statics tags by path x
exposed_open statics tags by path [] x al ex = absurd ex
exposed_open statics tags by [] (Reader bytes ∷ section) x al ex = absurd al
exposed_open statics tags by (ReadStep site ∷ path) (Reader bytes ∷ section) x al ex =
    ⊎_elim
    (λ h. record { site = site; bytes = bytes; open_there = inl refl; touched = al.0; has = h })
    (λ h. let r = exposed_open statics tags by path section x al.1 h in record { site = r.site; bytes = r.bytes; open_there = inr r.open_there; touched = r.touched; has = r.has })
    ex
exposed_open statics tags by (WriteStep site ∷ path) (Reader bytes ∷ section) x al ex = absurd al
exposed_open statics tags by [] (Writer bytes ∷ section) x al ex = absurd al
exposed_open statics tags by (ReadStep site ∷ path) (Writer bytes ∷ section) x al ex = absurd al
exposed_open statics tags by (WriteStep site ∷ path) (Writer bytes ∷ section) x al ex =
    let r = exposed_open statics tags by path section x al.1 ex.1 in
    record {
      site = r.site;
      bytes = r.bytes;
      open_there = (λ c. ex.0 (covered statics (reach_of tags site) (reach_of tags r.site) site.size r.site.size by bytes r.bytes x c al.0.fit r.touched.fit r.has), r.open_there);
      touched = r.touched;
      has = r.has;
    }
exposed_open statics tags by path (Break ∷ section) x al ex = absurd ex

pub aligned_read : (statics : ℕ) (tags : Tags) (by : Active) (site : Site) (bytes : List Byte) (path : List Step) (section : List (Item Byte)) → Aligned statics tags by path section → Touched statics tags by site bytes → Aligned statics tags by (path ++ ReadStep site ∷ []) (section ++ Reader bytes ∷ [])
aligned_read statics tags by site bytes [] [] al h = (h, tt)
aligned_read statics tags by site bytes [] (i ∷ section) al h = absurd al
aligned_read statics tags by site bytes (ReadStep a ∷ path) (Reader bs ∷ section) al h = (al.0, aligned_read statics tags by site bytes path section al.1 h)
aligned_read statics tags by site bytes (WriteStep a ∷ path) (Writer bs ∷ section) al h = (al.0, aligned_read statics tags by site bytes path section al.1 h)
aligned_read statics tags by site bytes (a ∷ path) section al h = absurd al

pub aligned_write : (statics : ℕ) (tags : Tags) (by : Active) (site : Site) (bytes : List Byte) (path : List Step) (section : List (Item Byte)) → Aligned statics tags by path section → Touched statics tags by site bytes → Aligned statics tags by (path ++ WriteStep site ∷ []) (section ++ Writer bytes ∷ [])
aligned_write statics tags by site bytes [] [] al h = (h, tt)
aligned_write statics tags by site bytes [] (i ∷ section) al h = absurd al
aligned_write statics tags by site bytes (ReadStep a ∷ path) (Reader bs ∷ section) al h = (al.0, aligned_write statics tags by site bytes path section al.1 h)
aligned_write statics tags by site bytes (WriteStep a ∷ path) (Writer bs ∷ section) al h = (al.0, aligned_write statics tags by site bytes path section al.1 h)
aligned_write statics tags by site bytes (a ∷ path) section al h = absurd al
