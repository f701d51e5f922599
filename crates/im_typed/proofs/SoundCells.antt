-- Reading, storing and pointers in a sound store.
use Rattle.std.proofs.Common.{◌≡◌, ℕ, ◌+◌, ◌<◌, ◌≤◌, List, [], ◌∷◌, Bool, true, false, ◌&&◌, ◌==◌, refl, sym, ap, ◌∙◌, subst, arith}
use Rattle.std.specs.Prelude.{Option, Some, None, ℤ, pos, negsuc, ◌+ℤ◌, ◌-ℤ◌, int_div, int_rem, if◌then◌else◌}
use Rattle.std.specs.Ordering.{int_eq}
use Rattle.std.proofs.lemmas.Bool.{eqb-true}
use Rattle.std.proofs.lemmas.Bool.Decides.{nat_tests}
use Rattle.im_num.specs.declared.kind.Kind.{Kind}
use Rattle.im_num.specs.declared.kind.Kind.TheVariants.{I32, Ptr}
use Rattle.im_num.specs.Kinds.{IsOfKind}
use Rattle.im_store.specs.im_ctype.declared.cell.Cell.{Cell}
use Rattle.im_store.specs.Checks.{Checked, Fine, Bad, then_}
use Rattle.im_store.specs.Objects.{Object, Value, Number, Null, Pointer, Unset, Shape, Store, same_object, lives}
use Rattle.im_store.specs.Statics.{StaticObject}
use Rattle.im_store.specs.Access.{taken, stands, read_cell, read_cells, write_cell, write_cells, with_value, at_place}
use Rattle.im_store.specs.Pointers.{reaches, within, moved_by, member_at, distance}
use Rattle.im_store.proofs.Same.{same_object-is, both-true, stands-there}
use Rattle.im_store.proofs.OfKind.{distance-of_kind}
use Rattle.im_typed.specs.Program.{Access, Scalar, Struct}
use Rattle.im_typed.specs.Runs.{World, State, Gives}
use Rattle.im_typed.specs.Values.{Values, cells_of, read_at, write_at}
use Rattle.im_typed.specs.Typing.{kinds_of}
use Rattle.im_typed.specs.Sound.{IsInside, IsValue, IsCellValue, IsSound, IsSoundWorld, AreValues, Fits, IsRight}
use Rattle.im_typed.proofs.Sounds.{then-fine, unless-fine, right-bind, right-checked}

-- reading

if-fine : {A : Type 0} (c : Bool) (r : Checked A) (a : A) (why : _) → (if c then r else Bad why) ≡ Fine a → (c ≡ true) × (r ≡ Fine a)
if-fine true r a why e = (refl, e)
if-fine false r a why e = absurd (cc)

taken-value : (begun : ℕ) (store : Store) (activation : ℕ) (kind : Kind) (v a : Value) → taken store v ≡ Fine a → IsCellValue begun store activation kind v → IsValue begun store kind a
taken-value begun store activation kind (Number z) a e h = let same : Number z ≡ a = cc in subst (IsValue begun store kind) same h
taken-value begun store activation kind Null a e h = let same : Null ≡ a = cc in subst (IsValue begun store kind) same h
taken-value begun store activation kind (Pointer o offset) a e h =
    subst (IsValue begun store kind) (sym (unless-fine (lives store o) (Pointer o offset) a _ e).1) h
taken-value begun store activation kind Unset a e h = absurd (cc)

module _ (statics : List StaticObject) (begun : ℕ) (store : Store) (sound : IsSound statics begun store) where
  read-cell : (o : Object) (offset : ℕ) (kind : Kind) (v : Value) → read_cell store o offset kind ≡ Fine v → IsValue begun store kind v
  read-cell o offset kind v e =
      let c = if-fine (stands store o offset kind) (taken store (store.values o offset)) v _ e in
      let t = stands-there store o offset kind c.0 in
      taken-value begun store o.activation kind (store.values o offset) v c.1 (sound.cells o t.0 offset kind t.1 t.2)

  pub read-cells : (o : Object) (offset : ℕ) (cs : List Cell) (vs : Values) → read_cells store o offset cs ≡ Fine vs → AreValues begun store (kinds_of cs) vs
  read-cells o offset [] [] e = tt
  read-cells o offset [] (v ∷ vs) e = absurd (cc)
  read-cells o offset (c ∷ cs) vs e =
      let one = then-fine (read_cell store o (offset + c.offset) c.kind) (λ v. then_ (read_cells store o offset cs) (λ vs. Fine (v ∷ vs))) vs e in
      let rest = then-fine (read_cells store o offset cs) (λ vs. Fine (one.0 ∷ vs)) vs one.2 in
      let same : one.0 ∷ rest.0 ≡ vs = cc in
      subst (AreValues begun store (kinds_of (c ∷ cs))) same
      (read-cell o (offset + c.offset) c.kind one.0 one.1, read-cells o offset cs rest.0 rest.1)

  -- places

  reaches-size : (r : Option Shape) (offset : ℕ) → reaches r offset ≡ true → (s : Shape) × (r ≡ Some s) × (offset ≤ s.size)
  reaches-size None offset e = absurd (cc)
  reaches-size (Some s) offset e = (s, refl, grind (arith, nat_tests))

  pub inside-object : (o : Object) (offset : ℕ) (s : Shape) → store.shape o ≡ Some s → offset ≤ s.size → IsValue begun store Ptr (Pointer o offset)
  inside-object o offset s e le =
      let began = sound.began o s e in
      let small = sound.small o s e in
      let few : offset ≤ 1048576 = omega arith in
      (refl, began, few, subst (λ r. IsInside r o.activation offset) (sym e) le)

  within-value : (o : Object) (z : ℤ) (v : Value) → within store o z ≡ Fine v → IsValue begun store Ptr v
  within-value o (negsuc n) v e = absurd (cc)
  within-value o (pos offset) v e =
      let u = unless-fine (reaches (store.shape o) offset) (Pointer o offset) v _ e in
      let r = reaches-size (store.shape o) offset u.0 in
      subst (IsValue begun store Ptr) (sym u.1) (inside-object o offset r.0 r.1 r.2)

  pub moved-value : (d : ℤ) (p v : Value) → moved_by store d p ≡ Fine v → IsValue begun store Ptr v
  moved-value d (Pointer o offset) v e = within-value o (pos offset +ℤ d) v e
  moved-value d (Number z) v e = absurd (cc)
  moved-value d Null v e = absurd (cc)
  moved-value d Unset v e = absurd (cc)

  pub member-value : (d : ℕ) (p v : Value) → member_at store d p ≡ Fine v → IsValue begun store Ptr v
  member-value d (Pointer o offset) v e = within-value o (pos (offset + d)) v e
  member-value d (Number z) v e = absurd (cc)
  member-value d Null v e = absurd (cc)
  member-value d Unset v e = absurd (cc)

pub distance-value : (begun : ℕ) (store : Store) (size : ℕ) (k l : Kind) (p q : Value) (z : ℤ) → 0 < size → IsValue begun store k p → IsValue begun store l q → distance size p q ≡ Fine z → IsOfKind I32 z
distance-value begun store size k l (Pointer o i) (Pointer r j) z some h g e =
    let u = unless-fine (same_object o r && int_eq (int_rem (pos i -ℤ pos j) (pos size)) (pos 0)) (int_div (pos i -ℤ pos j) (pos size)) z _ e in
    subst (IsOfKind I32) (sym u.1) (distance-of_kind i j size h.2 g.2 some)
distance-value begun store size k l _ _ z some h g e = absurd (cc)

-- storing

cell-of_value : (begun : ℕ) (store : Store) (activation : ℕ) (kind : Kind) (v : Value) → IsValue begun store kind v → IsCellValue begun store activation kind v
cell-of_value begun store activation kind (Number z) h = h
cell-of_value begun store activation kind Null h = h
cell-of_value begun store activation kind (Pointer o offset) h = h
cell-of_value begun store activation kind Unset h = absurd h

some-is : {A : Type 0} (a b : A) → Some a ≡ Some b → a ≡ b
some-is a b e = cc

-- the cell that is stored, and any other
stored-cell : (begun : ℕ) (store : Store) (o : Object) (offset : ℕ) (kind : Kind) (v : Value) (t : Shape) → store.shape o ≡ Some t → t.cells offset ≡ Some kind → IsValue begun store kind v
    → (p : Object) (i : ℕ) (s : Shape) (k : Kind) → store.shape p ≡ Some s → s.cells i ≡ Some k → IsCellValue begun store p.activation k (store.values p i)
    → (c : Bool) → (same_object p o && i == offset) ≡ c → IsCellValue begun store p.activation k (if c then v else store.values p i)
stored-cell begun store o offset kind v t lt ct h p i s k ls cs old true e =
    let b = both-true (same_object p o) (i == offset) e in
    let po : p ≡ o = same_object-is p o b.0 in
    let io : i ≡ offset = eqb-true i offset b.1 in
    let shapes : Some s ≡ Some t = sym ls ∙ ap store.shape po ∙ lt in
    let st : s ≡ t = some-is s t shapes in
    let kinds : Some k ≡ Some kind = sym cs ∙ ap (λ x. x.cells i) st ∙ ap t.cells io ∙ ct in
    let kk : k ≡ kind = some-is k kind kinds in
    cell-of_value begun store p.activation k v (subst (λ x. IsValue begun store x v) (sym kk) h)
stored-cell begun store o offset kind v t lt ct h p i s k ls cs old false e = old

module _ (statics : List StaticObject) (begun : ℕ) where
  stored-sound : (store : Store) (o : Object) (offset : ℕ) (kind : Kind) (v : Value) → IsSound statics begun store → stands store o offset kind ≡ true → IsValue begun store kind v → IsSound statics begun (record store { values = with_value store.values o offset v })
  stored-sound store o offset kind v sound there h =
      let t = stands-there store o offset kind there in
      record {
        began = sound.began;
        small = sound.small;
        cells = λ p s i k ls cs. stored-cell begun store o offset kind v t.0 t.1 t.2 h p i s k ls cs (sound.cells p s i k ls cs) (same_object p o && i == offset) refl;
        live = sound.live;
        only = sound.only;
      }

  -- what a store of several cells keeps
  pub record Stored (before after : Store) : Type 0 where
    pub sound : IsSound statics begun after
    pub same : (p : Object) → after.shape p ≡ before.shape p

  values-at : (before after : Store) → ((p : Object) → after.shape p ≡ before.shape p) → (ks : List Kind) (vs : Values) → AreValues begun before ks vs → AreValues begun after ks vs
  values-at before after same [] [] h = tt
  values-at before after same [] (v ∷ vs) h = h
  values-at before after same (k ∷ ks) [] h = h
  values-at before after same (k ∷ ks) (v ∷ vs) h = (value-at v h.0, values-at before after same ks vs h.1)
    where
      value-at : (v : Value) → IsValue begun before k v → IsValue begun after k v
      value-at (Number z) g = g
      value-at Null g = g
      value-at (Pointer o offset) g = (g.0, g.1, g.2, subst (λ s. IsInside s o.activation offset) (sym (same o)) g.3)
      value-at Unset g = g

  pub write-cells : (store : Store) (o : Object) (offset : ℕ) (cs : List Cell) (vs : Values) (after : Store) → IsSound statics begun store → AreValues begun store (kinds_of cs) vs → write_cells store o offset cs vs ≡ Fine after → Stored store after
  write-cells store o offset [] vs after sound h e =
      let same : store ≡ after = cc in
      record { sound = subst (IsSound statics begun) same sound; same = λ p. ap (λ x. x.shape p) (sym same) }
  write-cells store o offset (c ∷ cs) [] after sound h e = absurd h
  write-cells store o offset (c ∷ cs) (v ∷ vs) after sound h e =
      let one = then-fine (write_cell store o (offset + c.offset) c.kind v) (λ next. write_cells next o offset cs vs) after e in
      let next = record store { values = with_value store.values o (offset + c.offset) v } in
      let u = unless-fine (stands store o (offset + c.offset) c.kind) next one.0 _ one.1 in
      let rest : write_cells next o offset cs vs ≡ Fine after = ap (λ x. write_cells x o offset cs vs) (sym u.1) ∙ one.2 in
      let r = write-cells next o offset cs vs after (stored-sound store o (offset + c.offset) c.kind v sound u.0 h.0) (values-at store next (λ p. refl) (kinds_of cs) vs h.1) rest in
      record { sound = r.sound; same = r.same }

-- accesses at a place

module _ (statics : List StaticObject) where
  pub fits-of_values : (w : World) (x : Access) (vs : Values) → AreValues w.activations w.store (kinds_of (cells_of x)) vs → Fits (Some x) w vs
  fits-of_values w (Scalar kind) [] h = absurd h
  fits-of_values w (Scalar kind) (v ∷ []) h = (h.0, refl)
  fits-of_values w (Scalar kind) (v ∷ u ∷ vs) h = absurd h.1
  fits-of_values w (Struct count cells) vs h = h

  at-fine : {A : Type 0} (at : Value) (access : Object → ℕ → Checked A) (a : A) → at_place at access ≡ Fine a → (o : Object) × (offset : ℕ) × (access o offset ≡ Fine a)
  at-fine (Pointer o offset) access a e = (o, offset, e)
  at-fine (Number z) access a e = absurd (cc)
  at-fine Null access a e = absurd (cc)
  at-fine Unset access a e = absurd (cc)

  pub right-read : (x : Access) (at : Value) (s : State) → IsSoundWorld statics s.world → IsRight statics s.world (Fits (Some x)) (read_at x at s)
  right-read x at s sane =
      let store = s.world.store in
      right-checked statics (Fits (Some x)) s (at_place at (λ o offset. read_cells store o offset (cells_of x))) sane
      (λ vs e. let p = at-fine at (λ o offset. read_cells store o offset (cells_of x)) vs e in
      fits-of_values s.world x vs (read-cells statics s.world.activations store sane.store p.0 p.1 (cells_of x) vs p.2))

  -- what is stored fits the cells, and the store stays sound
  abbrev Goes : Access → Values → World → Store → Type 0
  Goes x vs w after =
      Stored statics w.activations w.store after × AreValues w.activations w.store (kinds_of (cells_of x)) vs

  left-store : (x : Access) (vs : Values) (after : Store) (t : State) → IsSoundWorld statics t.world → Goes x vs t.world after → IsRight statics t.world (Fits (Some x)) (Gives vs (record { world = record t.world { store = after }; fuel = t.fuel }))
  left-store x vs after t sane h =
      let w : World = record t.world { store = after } in
      record {
        by = (
          record { store = h.0.sound; input = sane.input },
          record { more = omega arith; depth = refl; same = h.0.same },
          fits-of_values w x vs (values-at statics t.world.activations t.world.store after h.0.same (kinds_of (cells_of x)) vs h.1),
        );
      }

  pub right-write : (x : Access) (at : Value) (vs : Values) (s : State) → IsSoundWorld statics s.world → AreValues s.world.activations s.world.store (kinds_of (cells_of x)) vs → IsRight statics s.world (Fits (Some x)) (write_at x at vs s)
  right-write x at vs s sane h =
      let store = s.world.store in
      right-bind statics
      (right-checked statics (Goes x vs) s (at_place at (λ o offset. write_cells store o offset (cells_of x) vs)) sane
      (λ after e. let p = at-fine at (λ o offset. write_cells store o offset (cells_of x) vs) after e in
      (write-cells statics s.world.activations store p.0 p.1 (cells_of x) vs after sane.store h p.2, h)))
      (λ after t sane kept g. left-store x vs after t sane g)
