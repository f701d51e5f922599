-- Members of structs that stand at no place: their cells are cells of the whole.
use Rattle.std.proofs.Common.{◌≡◌, ℕ, zero, suc, ◌+◌, ◌-◌, ◌*◌, ◌%◌, ◌<◌, List, [], ◌∷◌, ◌++◌, length, take, drop, true, false, refl, sym, ap, ◌∙◌, subst, arith}
use Rattle.std.specs.Prelude.{Some, slice_get}
use Rattle.std.proofs.Math.Nat.{mod-eq_of_lt, mod_self}
use Rattle.std.proofs.lemmas.Option.{slice_get_within, get_or_from_slice_get}
use Rattle.im_num.specs.declared.kind.Kind.{Kind}
use Rattle.im_word.specs.Words.{Name}
use Rattle.im_ctype.specs.declared.cell.Cell.{Cell}
use Rattle.im_ctype.specs.declared.member.MemberPlace.{MemberPlace}
use Rattle.im_ctype.specs.Types.{CType, void, integer, pointer, array, unsized, struct, function, Member, Structs, members_of, is_array, is_struct, kind_of}
use Rattle.im_ctype.specs.Built.{built_from}
use Rattle.im_ctype.specs.Layout.{Layout, empty_layout, scalar_layout, moved_cell, moved, repeated, round_up, layout_at, layout_in, with_member, members_in, struct_in, layouts, layout}
use Rattle.im_ctype.specs.Members.{places}
use Rattle.im_ctype.proofs.Steps.{member-from-first}
use Rattle.im_typed.specs.Program.{Access, Struct, Expr, Func, Prog}
use Rattle.im_typed.specs.Values.{cells_of}
use Rattle.im_typed.specs.Typing.{kinds_of, cell_offset, InPlace, IsPart, IsAccess}
use Rattle.im_rules.specs.TypeTests.{is_complete_in, has_member}
use Rattle.im_rules.specs.Terms.{Value, access_of}
use Rattle.im_rules.specs.Conversions.{place_among, member_among, struct_number, part_of}
use Rattle.im_rules_sound.specs.Sound.{gives, IsSoundValue, IsSized}
use Rattle.im_rules_sound_expressions.specs.Bounded.{IsBounded, AreBoundedStructs}
use Rattle.im_rules_sound.proofs.Members.{found}
use Rattle.im_rules_sound_expressions.proofs.Types.{each-at, some-cells, sized-bounded}

-- the first cell of a layout stands at its start

abbrev AtStart : List Cell → Type 0
AtStart [] = Unit {0}
AtStart (c ∷ cs) = c.offset ≡ 0

record Starts (l : Layout) : Type 0 where
  pub empty : l.cells ≡ [] → l.size ≡ 0
  pub first : AtStart l.cells

round-zero : (a : ℕ) → round_up 0 a ≡ 0
round-zero zero = mod_self 0
round-zero (suc a) =
    let z : 0 % suc a ≡ 0 = mod-eq_of_lt (omega arith) in
    let same : suc a - 0 ≡ suc a = omega arith in
    let self = mod_self (suc a) in
    ap (λ r. 0 + (suc a - r) % suc a) z ∙ ap (λ r. 0 + r % suc a) same ∙ omega (arith, self)

start-moved : (cs : List Cell) → AtStart cs → AtStart (moved 0 cs)
start-moved [] h = tt
start-moved (c ∷ cs) h = omega (arith, h)

start-append : (cs ds : List Cell) → AtStart cs → (cs ≡ [] → AtStart ds) → AtStart (cs ++ ds)
start-append [] ds h k = k refl
start-append (c ∷ cs) ds h k = h

starts-empty : Starts empty_layout
starts-empty = record { empty = λ e. refl; first = tt }

starts-scalar : (k : Kind) → Starts (scalar_layout k)
starts-scalar k = record { empty = λ e. absurd (cc); first = refl }

none-moved : (d : ℕ) (cs : List Cell) → moved d cs ≡ [] → cs ≡ []
none-moved d [] e = refl
none-moved d (c ∷ cs) e = absurd (cc)

none-both : (cs ds : List Cell) → cs ++ ds ≡ [] → (cs ≡ []) × (ds ≡ [])
none-both [] ds e = (refl, e)
none-both (c ∷ cs) ds e = absurd (cc)

none-repeated : (at n : ℕ) (e : Layout) → e.cells ≡ [] → repeated at n e ≡ []
none-repeated at zero e h = refl
none-repeated at (suc n) e h = ap (λ cs. moved at cs ++ repeated (at + e.size) n e) h ∙ none-repeated (at + e.size) n e h

starts-array : (n : ℕ) (e : Layout) → Starts e → Starts (record { size = n * e.size; align = e.align; cells = repeated 0 n e })
starts-array zero e h = record { empty = λ k. omega arith; first = tt }
starts-array (suc n) e h = record {
  empty = λ k.
      let both = none-both (moved 0 e.cells) (repeated (0 + e.size) n e) k in
      let size = h.empty (none-moved 0 e.cells both.0) in
      by-size e.size size;
  first = start-append (moved 0 e.cells) (repeated (0 + e.size) n e) (start-moved e.cells h.first) (λ k. subst AtStart (sym (none-repeated (0 + e.size) n e (none-moved 0 e.cells k))) tt);
}
  where
    by-size : (s : ℕ) → s ≡ 0 → suc n * s ≡ 0
    by-size s e = subst (λ z. suc n * z ≡ 0) (sym e) (omega arith)

starts-member : (s m : Layout) → Starts s → Starts m → Starts (with_member s m)
starts-member s m hs hm = record {
  empty = λ k.
      let both = none-both s.cells (moved (round_up s.size m.align) m.cells) k in
      let none = hs.empty both.0 in
      let size = hm.empty (none-moved (round_up s.size m.align) m.cells both.1) in
      let at : round_up s.size m.align ≡ 0 = ap (λ z. round_up z m.align) none ∙ round-zero m.align in
      omega (arith, at, size);
  first = start-append s.cells (moved (round_up s.size m.align) m.cells) hs.first (λ k. subst (λ d. AtStart (moved d m.cells)) (sym (ap (λ z. round_up z m.align) (hs.empty k) ∙ round-zero m.align)) (start-moved m.cells hm.first));
}

abbrev AllStart : List Layout → Type 0
AllStart done = (n : ℕ) → Starts (layout_at done n)

starts-in : (done : List Layout) (t : CType) → AllStart done → Starts (layout_in done t)
starts-in done void g = starts-empty
starts-in done (integer i) g = starts-scalar (kind_of i)
starts-in done (pointer c t) g = starts-scalar _
starts-in done (array t n) g = starts-array n (layout_in done t) (starts-in done t g)
starts-in done (unsized t) g = starts-empty
starts-in done (struct n) g = g n
starts-in done (function r ps) g = starts-empty

starts-members : (done : List Layout) (ms : List Member) (s : Layout) → AllStart done → Starts s → Starts (members_in done ms s)
starts-members done [] s g h = h
starts-members done (m ∷ ms) s g h = starts-members done ms (with_member s (layout_in done m.type)) g (starts-member s (layout_in done m.type) h (starts-in done m.type g))

starts-struct : (done : List Layout) (ms : List Member) → AllStart done → Starts (struct_in done ms)
starts-struct done ms g =
    let h = starts-members done ms empty_layout g starts-empty in
    record {
      empty = λ k. ap (λ z. round_up z (members_in done ms empty_layout).align) (h.empty k) ∙ round-zero (members_in done ms empty_layout).align;
      first = h.first;
    }

starts-push : (done : List Layout) (l : Layout) → Starts l → AllStart done → AllStart (done ++ l ∷ [])
starts-push [] l h g zero = h
starts-push [] l h g (suc n) = starts-empty
starts-push (k ∷ done) l h g zero = g zero
starts-push (k ∷ done) l h g (suc n) = starts-push done l h (λ m. g (suc m)) n

starts-from : (done : List Layout) (ss : Structs) → AllStart done → AllStart (built_from struct_in done ss)
starts-from done [] g = g
starts-from done (ms ∷ ss) g = starts-from (done ++ struct_in done ms ∷ []) ss (starts-push done (struct_in done ms) (starts-struct done ms g) g)

starts : (ss : Structs) (t : CType) → Starts (layout ss t)
starts ss t = starts-in (layouts ss) t (starts-from [] ss (λ n. starts-empty))

-- cells in place

kinds-moved : (d : ℕ) (cs : List Cell) → kinds_of (moved d cs) ≡ kinds_of cs
kinds-moved d [] = refl
kinds-moved d (c ∷ cs) = ap (λ z. c.kind ∷ z) (kinds-moved d cs)

in-place : (d : ℕ) (cs ds : List Cell) → take (length cs) ds ≡ moved d cs → InPlace d cs ds
in-place d [] ds e = tt
in-place d (c ∷ cs) [] e = absurd (cc)
in-place d (c ∷ cs) (x ∷ ds) e =
    let head : x ≡ moved_cell d c = cc in
    let tail : take (length cs) ds ≡ moved d cs = cc in
    (ap (λ (y : Cell). y.offset) head, ap (λ (y : Cell). y.kind) head, in-place d cs ds tail)

first-dropped : (n : ℕ) (cs ds : List Cell) (c : Cell) → drop n cs ≡ c ∷ ds → slice_get cs n ≡ Some c
first-dropped zero [] ds c e = absurd (cc)
first-dropped zero (x ∷ cs) ds c e = cc
first-dropped (suc n) [] ds c e = absurd (cc)
first-dropped (suc n) (x ∷ cs) ds c e = first-dropped n cs ds c e

-- cells of a part, from a place in the whole on
part-cells : (from d : ℕ) (x : Access) (cells part : List Cell) → cells_of x ≡ part → AtStart part → 0 < length part → take (length part) (drop from cells) ≡ moved d part → IsPart from x (Some (Struct (length cells) cells))
part-cells from d x cells part is start some e = (
  ap (λ cs. kinds_of (take (length cs) (drop from cells))) is ∙ ap kinds_of e ∙ kinds-moved d part ∙ ap kinds_of (sym is),
  subst (λ cs. InPlace (cell_offset (slice_get cells from)) cs (drop from cells)) (sym is) (subst (λ z. InPlace z part (drop from cells)) (sym (base part (drop from cells) refl start some e)) (in-place d part (drop from cells) e)),
)
  where
    base : (ps ds : List Cell) → drop from cells ≡ ds → AtStart ps → 0 < length ps → take (length ps) ds ≡ moved d ps → cell_offset (slice_get cells from) ≡ d
    base [] ds h s lt k = absurd (omega arith)
    base (p ∷ ps) [] h s lt k = absurd (cc)
    base (p ∷ ps) (y ∷ ys) h s lt k =
        let head : y ≡ moved_cell d p = cc in
        let zero : d + p.offset ≡ d = omega (arith, s) in
        ap cell_offset (first-dropped from cells ys y h) ∙ ap (λ (z : Cell). z.offset) head ∙ zero

-- the cells of an access are those of its type
pub access-cells : (known : Structs) (t : CType) → is_array t ≡ false → is_complete_in known t ≡ true → cells_of (access_of known t) ≡ (layout known t).cells
access-cells known (integer i) a o = refl
access-cells known (pointer c t) a o = refl
access-cells known (struct n) a o = refl
access-cells known void a o = absurd (cc)
access-cells known (array t n) a o = absurd (cc)
access-cells known (unsized t) a o = absurd (cc)
access-cells known (function r ps) a o = absurd (cc)

module _ (g : Prog) (f : Func) (known : Structs) (structs : AreBoundedStructs known) where
  gives-access : (t : CType) → is_array t ≡ false → is_complete_in known t ≡ true → Some (access_of known t) ≡ gives known t
  gives-access (integer i) a e = refl
  gives-access (pointer c t) a e = refl
  gives-access (struct n) a e = refl
  gives-access void a e = absurd (cc)
  gives-access (array t n) a e = absurd (cc)
  gives-access (unsized t) a e = absurd (cc)
  gives-access (function r ps) a e = absurd (cc)

  pub access-sound : (t : CType) → IsSized known t → is_complete_in known t ≡ true → IsAccess (access_of known t)
  access-sound (integer i) s e = tt
  access-sound (pointer c t) s e = tt
  access-sound (struct n) s e = s.struct refl
  access-sound void s e = absurd (cc)
  access-sound (array t n) s e = tt
  access-sound (unsized t) s e = absurd (cc)
  access-sound (function r ps) s e = absurd (cc)

  abbrev member : ℕ → Name → Member
  member n x = member_among x (members_of known n)

  abbrev place : ℕ → Name → MemberPlace
  place n x = place_among x (members_of known n) (places known n)

  part-of-struct : (n : ℕ) (e : Expr) (x : Name) → IsSoundValue g f known (record { type = struct n; expr = e }) → has_member x (members_of known n) ≡ true → is_array (member n x).type ≡ false
      → IsSoundValue g f known (part_of known (record { type = struct n; expr = e }) x)
  part-of-struct n e x h has plain =
      let at = found x (members_of known n) (layouts known) empty_layout has in
      let m = member n x in
      let fine = each-at (λ (y : Member). IsBounded known y.type × (is_complete_in known y.type ≡ true)) (members_of known n) at.number m (structs.members n) at.member in
      let sized = sized-bounded known m.type structs fine.0 fine.1 in
      let cells = member-from-first known n at.number m (place n x) structs.complete (slice_get_within (members_of known n) at.number m at.member)
      (get_or_from_slice_get (members_of known n) at.number m m at.member)
      (get_or_from_slice_get (places known n) at.number (place n x) (place n x) at.place) in
      record {
        plain = plain;
        typed = (
          access-sound m.type sized fine.1,
          h.typed,
          subst (IsPart (place n x).first_cell (access_of known m.type)) (sym h.shape) (part-cells (place n x).first_cell (place n x).offset (access_of known m.type) (layout known (struct n)).cells (layout known m.type).cells (access-cells known m.type plain fine.1) (starts known m.type).first (some-cells known m.type structs fine.1) cells),
        );
        shape = gives-access m.type plain fine.1;
      }

  pub parts : (v : Value) (x : Name) → IsSoundValue g f known v → is_struct v.type ≡ true → has_member x (members_of known (struct_number v.type)) ≡ true → is_array (part_of known v x).type ≡ false → IsSoundValue g f known (part_of known v x)
  parts v x h is has plain = by-type v.type refl h has plain
    where
      by-type : (t : CType) → v.type ≡ t → IsSoundValue g f known (record { type = t; expr = v.expr }) → has_member x (members_of known (struct_number t)) ≡ true → is_array (part_of known (record { type = t; expr = v.expr }) x).type ≡ false → IsSoundValue g f known (part_of known (record { type = t; expr = v.expr }) x)
      by-type (struct n) e k has plain = part-of-struct n v.expr x k has plain
      by-type void e k has plain = absurd (cc)
      by-type (integer i) e k has plain = absurd (cc)
      by-type (pointer c t) e k has plain = absurd (cc)
      by-type (array t n) e k has plain = absurd (cc)
      by-type (unsized t) e k has plain = absurd (cc)
      by-type (function r ps) e k has plain = absurd (cc)
