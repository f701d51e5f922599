-- Statics in memory, and the objects that name them.
use Rattle.std.proofs.Common.{◌≡◌, ◌<◌, ◌≤◌, ℕ, zero, suc, ◌+◌, ◌-◌, ◌*◌, ◌%◌, ◌^◌, Bool, true, false, List, [], ◌∷◌, Option, Some, None, inl, map, length, refl, sym, ap, ◌∙◌, subst, arith}
use Rattle.std.specs.Prelude.{slice_get, slice_index, slice_index_or, if◌then◌else◌, ◌==◌}
use Rattle.std.proofs.lemmas.Bool.{eqb-true}
use Rattle.std.proofs.lemmas.Option.{slice_get_within}
use Rattle.im_num.specs.declared.kind.Kind.{Kind}
use Rattle.im_num.specs.declared.kind.Kind.TheVariants.{Ptr}
use Rattle.im_num.specs.Kinds.{kind_size, word}
use Rattle.im_num.proofs.Wrapping.{wrap-same}
use Rattle.im_mem.specs.Memory.{Mem, little, view}
use Rattle.im_rv.specs.Steps.{extended}
use Rattle.im_image.specs.Contents.{ObjectValue}
use Rattle.im_device.specs.Load.{memory_of}
use Rattle.im_select_relation.specs.OperatorTables.{cell_word, extension_of}
use Rattle.im_select_relation.proofs.Words.{loaded_wrap}
use Rattle.im_ctype.specs.declared.cell.Cell.{Cell}
use Rattle.im_store.specs.Objects.{Name, Named, Slot, Link, Pointer, Shape, shape_of, kind_at, static}
use Rattle.im_store.specs.Statics.{static_shapes, static_values, value_at}
use Rattle.im_block.specs.declared.unit.Constant.{Constant}
use Rattle.im_block.specs.declared.unit.Constant.TheVariants.{Number as Fixed, Null as Nowhere, Inside}
use Rattle.im_block.specs.declared.unit.Static.{Static as StaticOf}
use Rattle.im_block.specs.declared.unit.Unit.{Unit as Code}
use Rattle.im_block.specs.Meaning.{constant, static_of, statics_of}
use Rattle.im_block.specs.Wellformed.{HasBytes, Suits}
use Rattle.im_frame.specs.declared.layout.Layout.{Layout}
use Rattle.im_frame.specs.Layout.{places_from}
use Rattle.im_frame.proofs.Places.{lies, count_from}
use Rattle.im_select_addresses.specs.Addresses.{joined, places_of, sizes_of, place_at, size_at}
use Rattle.im_select_addresses.specs.Statics.{objects_of}
use Rattle.im_select_addresses.proofs.Frames.{frames}
use Rattle.im_select_addresses.proofs.Lying.{laid}
use Rattle.im_select_relation.specs.Linking.{Linking, Means}
use Rattle.im_select_addresses.specs.Named.{AreNamed}
use Rattle.im_pack.specs.Packed.{word_of, IsObjectOf}
use Rattle.im_pack.proofs.Views.{index_left}
use Rattle.im_pack.proofs.Statics.{object_is}
use Rattle.im_pack.proofs.Whole.{is_static}
use Rattle.im_pack_laws.specs.Places.{linking_in}
use Rattle.im_pack_laws.specs.Laws.{AreStaticsAt, HoldsObjectsLaw, NamedLaw}
use Rattle.im_pack_laws.proofs.Memory.{statics_there}
use Rattle.im_pack_laws.proofs.Near.{near_within, near_both, near_frames}

-- ---- the cell at an offset, and its first value

record Found (cs : List Cell) (vs : List Constant) (offset : ℕ) (k : Kind) : Type 0 where
  i : ℕ
  c : Cell
  v : Constant
  is_cell : slice_get cs i ≡ Some c
  is_value : slice_get vs i ≡ Some v
  at : c.offset ≡ offset
  kind : c.kind ≡ k
  value : value_at cs (map constant vs) offset ≡ constant v

found : (cs : List Cell) (vs : List Constant) (offset : ℕ) (k : Kind) → length vs ≡ length cs → kind_at cs offset ≡ Some k → Found cs vs offset k
found [] vs offset k n e = (let bad : None ≡ Some k = e in absurd cc)
found (c ∷ cs) [] offset k n e = absurd (omega arith)
found (c ∷ cs) (v ∷ vs) offset k n e = by (c.offset == offset) refl (λ q. found cs vs offset k (omega arith) q) e
  where
    by : (b : Bool) → (c.offset == offset) ≡ b → (kind_at cs offset ≡ Some k → Found cs vs offset k) → (if b then Some c.kind else kind_at cs offset) ≡ Some k → Found (c ∷ cs) (v ∷ vs) offset k
    by true t rest q = record {
      i = 0;
      c = c;
      v = v;
      is_cell = refl;
      is_value = refl;
      at = eqb-true _ _ t;
      kind = (let s : Some c.kind ≡ Some k = q in cc);
      value = ap (λ b. if b then constant v else value_at cs (map constant vs) offset) t;
    }
    by false t rest q =
        let r = rest q in
        record {
          i = suc r.i;
          c = r.c;
          v = r.v;
          is_cell = r.is_cell;
          is_value = r.is_value;
          at = r.at;
          kind = r.kind;
          value = ap (λ b. if b then constant v else value_at cs (map constant vs) offset) t ∙ r.value;
        }

record StaticIn (ss : List StaticOf) (n offset : ℕ) (k : Kind) : Type 0 where
  s : StaticOf
  there : slice_get ss n ≡ Some s
  cell : kind_at s.object.cells.items offset ≡ Some k
  value : static_values (map {A = StaticOf} static_of ss) (Named n) offset ≡ value_at s.object.cells.items (map constant s.values.items) offset

static_in : (ss : List StaticOf) (n offset : ℕ) (k : Kind) (sh : Shape) → static_shapes (map {A = StaticOf} static_of ss) (Named n) ≡ Some sh → sh.cells offset ≡ Some k → StaticIn ss n offset k
static_in [] n offset k sh e g = (let bad : None ≡ Some sh = e in absurd cc)
static_in (s ∷ ss) zero offset k sh e g =
    let q : Some (shape_of s.object.size s.object.cells.items) ≡ Some sh = e in
    let same : shape_of s.object.size s.object.cells.items ≡ sh = cc in
    record { s = s; there = refl; cell = ap (λ (z : Shape). z.cells offset) same ∙ g; value = refl }
static_in (s ∷ ss) (suc n) offset k sh e g =
    let r = static_in ss n offset k sh e g in
    record { s = r.s; there = r.there; cell = r.cell; value = r.value }

-- ---- the word of a first value

size_is : (ss : List StaticOf) (n : ℕ) (s : StaticOf) → slice_get ss n ≡ Some s → slice_index (map (λ (x : StaticOf). x.object.size) ss) n ≡ s.object.size
size_is [] n s e = absurd cc
size_is (x ∷ ss) zero s e = let q : x ≡ s = cc in ap (λ (z : StaticOf). z.object.size) q
size_is (x ∷ ss) (suc n) s e = size_is ss n s e

count_sizes : (ss : List StaticOf) → length (map (λ (x : StaticOf). x.object.size) ss) ≡ length ss
count_sizes [] = refl
count_sizes (s ∷ ss) = ap suc (count_sizes ss)

slice_get_some : (ss : List StaticOf) (n : ℕ) → n < length ss → (s : StaticOf) × (slice_get ss n ≡ Some s)
slice_get_some [] n h = absurd (omega arith)
slice_get_some (s ∷ ss) zero h = (s, refl)
slice_get_some (s ∷ ss) (suc n) h = slice_get_some ss n (omega arith)

count_objects : (ss : List StaticOf) → length (objects_of ss) ≡ length ss
count_objects [] = refl
count_objects (s ∷ ss) = ap suc (count_objects ss)

-- a pointer's word is its own
whole_word : (a : ℕ) → a < 2 ^ 32 → extended 4 (extension_of Ptr) (a % 2 ^ 32) ≡ a
whole_word a b = omega arith

module _ (u : Code) (statics : List ℕ) (layouts : List Layout) (p : Linking) (at : AreStaticsAt u statics)
    (places : (a : Name) → p.at a ≡ place_at statics layouts a) (sizes : (a : Name) → p.size a ≡ size_at u a) where
  count : length statics ≡ length u.statics.items
  count = ap length at.places ∙ count_from 1048576 (objects_of u.statics.items) ∙ count_objects u.statics.items

  address_is : (n : ℕ) → n < length u.statics.items → p.at (Named n) ≡ slice_index statics n
  address_is n h = (let c = count in places (Named n) ∙ index_left statics (joined places_of layouts) n (omega arith))

  size_of : (n : ℕ) (s : StaticOf) → slice_get u.statics.items n ≡ Some s → p.size (Named n) ≡ s.object.size
  size_of n s e =
      let l = slice_get_within u.statics.items n s e in
      let c = count_sizes u.statics.items in
      sizes (Named n) ∙ index_left (map (λ (x : StaticOf). x.object.size) u.statics.items) (joined sizes_of u.functions.items) n (omega arith) ∙ size_is u.statics.items n s e

  -- where a static ends
  ends_by : (n : ℕ) (s : StaticOf) → slice_get u.statics.items n ≡ Some s → slice_index statics n + s.object.size < 2097152
  ends_by n s e =
      let l = (lies 1048576 (objects_of u.statics.items) n s.object (object_is u.statics.items n s e)).high in
      let room = at.room in
      let q : slice_index statics n ≡ slice_index (places_from 1048576 (objects_of u.statics.items)) n = ap (λ z. slice_index z n) at.places in
      omega arith

  starts_at : (n : ℕ) (s : StaticOf) → slice_get u.statics.items n ≡ Some s → 1048576 ≤ slice_index statics n
  starts_at n s e =
      let l = (lies 1048576 (objects_of u.statics.items) n s.object (object_is u.statics.items n s e)).low in
      let q : slice_index statics n ≡ slice_index (places_from 1048576 (objects_of u.statics.items)) n = ap (λ z. slice_index z n) at.places in
      omega arith

  pointed : (object offset : ℕ) (o : Option StaticOf) → slice_get u.statics.items object ≡ o → HasBytes o offset
      → Means p (Pointer (static object) offset) (extended 4 (extension_of Ptr) ((slice_index statics object + offset) % 2 ^ 32))
  pointed object offset None e h = absurd h
  pointed object offset (Some s) e h =
      let a = address_is object (slice_get_within u.statics.items object s e) in
      let b = ends_by object s e in
      let z = size_of object s e in
      let w = whole_word (slice_index statics object + offset) (omega arith) in
      (w ∙ (let q : slice_index statics object + offset ≡ (0 + p.at (Named object) + offset) % 4294967296 = omega arith in q), omega arith, inl (object, refl))

  value_means : (k : Kind) (v : Constant) → Suits u.statics.items k v → Means p (constant v) (extended (kind_size k) (extension_of k) (word_of statics v % 2 ^ (8 * kind_size k)))
  value_means k (Fixed z) h = loaded_wrap k z ∙ ap word (wrap-same k z h.1)
  value_means k Nowhere h = subst (λ j. extended (kind_size j) (extension_of j) (0 % 2 ^ (8 * kind_size j)) ≡ 0) (sym h) refl
  value_means k (Inside object offset) h =
      subst (λ j. Means p (Pointer (static object) offset) (extended (kind_size j) (extension_of j) ((slice_index statics object + offset) % 2 ^ (8 * kind_size j)))) (sym h.0) (pointed object offset (slice_get u.statics.items object) refl h.1)

-- memory from one place on is a list
moved_bytes : (m n : Mem) (d limit : ℕ) → ((i : ℕ) → i < limit → m (d + i) ≡ n i) → (k a : ℕ) → a + k ≤ limit → little m (d + a) k ≡ little n a k
moved_bytes m n d limit same zero a h = refl
moved_bytes m n d limit same (suc k) a h =
    let e : d + a + 1 ≡ d + (a + 1) = omega arith in
    ap (λ z. z + 256 * little m (d + a + 1) k) (same a (omega arith))
    ∙ ap (λ z. n a + 256 * little m z k) e
    ∙ ap (λ z. n a + 256 * z) (moved_bytes m n d limit same k (a + 1) (omega arith))

pub objects : HoldsObjectsLaw
objects u statics layouts parts code stack out_cap image input well at layouts_are packed is = record {
  frames = frames u statics layouts p well (count u statics layouts p at (λ a. refl) (λ a. refl)) layouts_are (λ a. refl) (λ a. refl);
  sizes = λ i l e. frame_at layouts i l e;
  first = refl;
  addresses = λ n h. index_left statics (joined places_of layouts) n h;
  near = near;
  statics_there = laid u p at.room (λ n h. address_is u statics layouts p at (λ a. refl) (λ a. refl) n h ∙ ap (λ z. slice_index z n) at.places) (λ n h. size_there n h);
  initial = initial;
}
  where
    p : Linking
    p = linking_in u statics layouts parts code image input

    near : (n : ℕ) → p.at (Named n) + p.size (Named n) < 2 ^ 31
    near n =
        near_both statics (map (λ (s : StaticOf). s.object.size) u.statics.items) (joined places_of layouts) (joined sizes_of u.functions.items)
        (count_sizes u.statics.items ∙ sym (count u statics layouts p at (λ a. refl) (λ a. refl)))
        (near_within statics (map (λ (s : StaticOf). s.object.size) u.statics.items) (count_sizes u.statics.items ∙ sym (count u statics layouts p at (λ a. refl) (λ a. refl))) (λ k h. near_static k (omega (arith, count u statics layouts p at (λ a. refl) (λ a. refl)))))
        (near_frames u.functions.items layouts layouts_are.count layouts_are.each) n
      where
        near_static : (k : ℕ) → k < length u.statics.items → slice_index statics k + slice_index (map (λ (s : StaticOf). s.object.size) u.statics.items) k < 2 ^ 31
        near_static k h =
            let s = slice_get_some u.statics.items k h in
            let ends = ends_by u statics layouts p at (λ a. refl) (λ a. refl) k s.0 s.1 in
            let size = size_is u.statics.items k s.0 s.1 in
            omega arith

    frame_at : (ls : List Layout) (i : ℕ) (l : Layout) → slice_get ls i ≡ Some l → slice_index_or (map (λ (x : Layout). x.frame) ls) i 0 ≡ l.frame
    frame_at [] i l e = (let bad : None ≡ Some l = e in absurd cc)
    frame_at (x ∷ ls) zero l e = (let q : x ≡ l = cc in ap (λ (z : Layout). z.frame) q)
    frame_at (x ∷ ls) (suc i) l e = frame_at ls i l e

    size_there : (n : ℕ) → n < length u.statics.items → size_at u (Named n) ≡ slice_index (map (λ (s : StaticOf). s.object.size) u.statics.items) n
    size_there n h = (let c = count_sizes u.statics.items in index_left (map (λ (x : StaticOf). x.object.size) u.statics.items) (joined sizes_of u.functions.items) n (omega arith))

    named : (n offset : ℕ) (k : Kind) → StaticIn u.statics.items n offset k → Means p (static_values (statics_of u) (Named n) offset) (cell_word (memory_of image input) k (place_at statics layouts (Named n) + offset))
    named n offset k s =
        let own = is_static u well n s.s s.there in
        let f = found s.s.object.cells.items s.s.values.items offset k own.count s.cell in
        let suits : Suits u.statics.items k f.v = subst (λ j. Suits u.statics.items j f.v) f.kind (own.values f.i f.c f.v f.is_cell f.is_value) in
        let means = value_means u statics layouts p at (λ a. refl) (λ a. refl) k f.v suits in
        let cell = packed.statics.cells n f.c f.v (record { s = s.s; i = f.i; is_static = s.there; is_cell = f.is_cell; is_value = f.is_value }) in
        let inside = own.cells.inside f.i f.c f.is_cell in
        let here = address_is u statics layouts p at (λ a. refl) (λ a. refl) n (slice_get_within u.statics.items n s.s s.there) in
        let high = ends_by u statics layouts p at (λ a. refl) (λ a. refl) n s.s s.there in
        let low = starts_at u statics layouts p at (λ a. refl) (λ a. refl) n s.s s.there in
        let offset_is = f.at in
        let place : place_at statics layouts (Named n) + offset ≡ 1048576 + (slice_index statics n + f.c.offset - 1048576) = omega arith in
        let word_there : little (memory_of image input) (place_at statics layouts (Named n) + offset) (kind_size k) ≡ word_of statics f.v % 2 ^ (8 * kind_size k) =
        ap (λ a. little (memory_of image input) a (kind_size k)) place
        ∙ moved_bytes (memory_of image input) (view image.statics) 1048576 2097152 (statics_there image input is) (kind_size k) (slice_index statics n + f.c.offset - 1048576) (let q = ap kind_size f.kind in omega arith)
        ∙ subst (λ j. little (view image.statics) (slice_index statics n + f.c.offset - 1048576) (kind_size j) ≡ word_of statics f.v % 2 ^ (8 * kind_size j)) f.kind cell in
        let value : constant f.v ≡ static_values (statics_of u) (Named n) offset = sym (s.value ∙ f.value) in
        subst (λ z. Means p z (cell_word (memory_of image input) k (place_at statics layouts (Named n) + offset))) value
        (subst (λ w. Means p (constant f.v) (extended (kind_size k) (extension_of k) w)) (sym word_there) means)

    initial : (a : Name) (sh : Shape) (i : ℕ) (k : Kind) → static_shapes (statics_of u) a ≡ Some sh → sh.cells i ≡ Some k → Means p (static_values (statics_of u) a i) (cell_word (memory_of image input) k (place_at statics layouts a + i))
    initial (Named n) sh i k e g = named n i k (static_in u.statics.items n i k sh e g)
    initial (Slot n) sh i k e g = (let bad : None ≡ Some sh = e in absurd cc)
    initial Link sh i k e g = (let bad : None ≡ Some sh = e in absurd cc)

-- ---- the objects of the image

named_from : (p : Linking) (n : ℕ) (ss : List StaticOf) (os : List ObjectValue) (at : ℕ → ℕ) → ((i : ℕ) → i < length ss → p.at (Named (n + i)) ≡ at i) → length os ≡ length ss
    → ((i : ℕ) (s : StaticOf) (o : ObjectValue) → slice_get ss i ≡ Some s → slice_get os i ≡ Some o → IsObjectOf (at i) s o) → AreNamed p n (map {A = StaticOf} static_of ss) os
named_from p n [] [] at places c each = tt
named_from p n [] (o ∷ os) at places c each = absurd (omega arith)
named_from p n (s ∷ ss) [] at places c each = absurd (omega arith)
named_from p n (s ∷ ss) (o ∷ os) at places c each =
    let one = each 0 s o refl refl in
    let zero_more : n + 0 ≡ n = omega arith in (
      record { name = one.name; at = one.at_is ∙ sym (places 0 (omega arith)) ∙ ap (λ z. p.at (Named z)) zero_more; size = one.size; cells = one.cells },
      named_from p (suc n) ss os (λ i. at (suc i)) (λ i h. let q : suc n + i ≡ n + suc i = omega arith in ap (λ z. p.at (Named z)) q ∙ places (suc i) (omega arith)) (omega arith) (λ i t r e g. each (suc i) t r e g),
    )

pub named : NamedLaw
named u statics code stack out_cap image layouts parts input at packed =
    let p : Linking = linking_in u statics layouts parts code image input in
    named_from p 0 u.statics.items image.objects (λ i. slice_index statics i)
    (λ i h. let q : 0 + i ≡ i = omega arith in ap (λ z. p.at (Named z)) q ∙ address_is u statics layouts p at (λ a. refl) (λ a. refl) i h)
    packed.objects.count (λ i s o e g. packed.objects.each i s o e g)
