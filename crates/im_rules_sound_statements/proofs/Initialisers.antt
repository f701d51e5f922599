-- What an initialiser gives stands in its object, each cell once.
use Rattle.std.proofs.Common.{◌≡◌, ℕ, zero, suc, ◌+◌, ◌*◌, ◌<◌, ◌≤◌, List, [], ◌∷◌, ◌++◌, length, map, true, refl, sym, ap, ◌∙◌, subst, arith, append_assoc}
use Rattle.std.specs.Prelude.{Some, pos, slice_get}
use Rattle.std.proofs.lemmas.Bool.{ltb-true}
use Rattle.im_num.specs.Kinds.{kind_size}
use Rattle.im_num.proofs.Wrapping.{wrap-of_kind}
use Rattle.im_word.specs.Words.{Name}
use Rattle.im_ctree.specs.Tree as t
use Rattle.im_ctype.specs.declared.cell.Cell.{Cell}
use Rattle.im_ctype.specs.declared.integer.Integer.{Integer}
use Rattle.im_ctype.specs.declared.integer.Integer.TheVariants.{Char, SignedChar, UnsignedChar, Short, UnsignedShort, Int, UnsignedInt, Long, UnsignedLong}
use Rattle.im_ctype.specs.declared.member.MemberPlace.{MemberPlace}
use Rattle.im_ctype.specs.Types.{CType, void, integer, pointer, array, unsized, struct, function, Member, Structs, members_of, is_character, kind_of}
use Rattle.im_ctype.specs.Layout.{Layout, empty_layout, repeated, moved, round_up, layout, layout_in, layouts, with_member, members_in, struct_in, MembersAreComplete, AreComplete}
use Rattle.im_ctype.specs.Members.{places_from, place_behind, member_cells}
use Rattle.im_ctype.proofs.CellLists.{complete-element, struct-as-listed}
use Rattle.im_ctype.proofs.MoreStructs.{complete-at}
use Rattle.im_ctype.proofs.Steps.{struct-cells}
use Rattle.im_typed.specs.Program.{Piece, Func, Prog}
use Rattle.im_typed.specs.Values.{cells_of}
use Rattle.im_typed.specs.Meaning.{given_offsets}
use Rattle.im_typed.specs.Typing.{Each, IsPieceOf, StandAmong, AreDistinct}
use Rattle.im_rules.specs.TypeTests.{is_complete_in}
use Rattle.im_rules.specs.Rules.{initializer_count}
use Rattle.im_rules.specs.Context.{Context, behind_strings}
use Rattle.im_rules.specs.Terms.{Term, access_of, size_in}
use Rattle.im_rules.specs.Initialisers.{Shape, side_by_side, in_order, strings_given, strings_among, Item, from_term, byte_items, Initialised, initialised, Shaped, of_one, of_bytes, of_elements, of_members, Elements, no_element, an_element, InMembers, no_member, a_member, piece_of, pieces_of}
use Rattle.im_rules.specs.BodyBreaks.{an_initialiser, some_elements, some_members}
use Rattle.im_rules_limits.specs.Limits.{size_in_first_element, size_in_other_elements, size_in_first_member, size_in_other_members, IsGivenWithin}
use Rattle.im_rules_sound_expressions.specs.Bounded.{IsBounded, IsSoundContext, HasStrings}
use Rattle.im_rules_sound_expressions.specs.Written.{IsWrittenInitialiser, AreWrittenInitialisers}
use Rattle.im_rules_sound.proofs.Operations.{integer-kind}
use Rattle.im_rules_sound_expressions.proofs.Types.{sized-bounded}
use Rattle.im_rules_sound_expressions.proofs.Parts.{access-cells, access-sound}
use Rattle.im_rules_sound_expressions.proofs.Expressions.{expressions, first-strings, last-strings}
use Rattle.im_rules_sound_statements.proofs.Fits.{IsFitted, fitted}
use Rattle.im_rules_sound_statements.proofs.Shapes.{Info, info}
use Rattle.im_rules_sound_statements.proofs.Standing.{Ascending, ascending-lower, ascending-higher, ascending-append, ascending-distinct, type-ascending, stand-first, stand-last, stand-moved, element-stands, elements-stand, own-cells-stand}

-- lists

each-append : {A : Type 0} (P : A → Type 0) (xs ys : List A) → Each P xs → Each P ys → Each P (xs ++ ys)
each-append P [] ys h k = k
each-append P (x ∷ xs) ys h k = (h.0, each-append P xs ys h.1 k)

pieces-append : (known : Structs) (ps qs : List Item) → pieces_of known (ps ++ qs) ≡ pieces_of known ps ++ pieces_of known qs
pieces-append known [] qs = refl
pieces-append known (p ∷ ps) qs = ap (λ zs. piece_of known p ∷ zs) (pieces-append known ps qs)

offsets-append : (ps qs : List Piece) → given_offsets (ps ++ qs) ≡ given_offsets ps ++ given_offsets qs
offsets-append [] qs = refl
offsets-append (p ∷ ps) qs =
    let own = map {A = Cell} (λ c. p.offset + c.offset) (cells_of p.access) in
    ap (λ zs. own ++ zs) (offsets-append ps qs) ∙ sym (append_assoc own (given_offsets ps) (given_offsets qs))

-- members one behind another

members-grow : (done : List Layout) (ms : List Member) (s : Layout) → s.size ≤ (members_in done ms s).size
members-grow done [] s = omega arith
members-grow done (m ∷ ms) s =
    let h = members-grow done ms (with_member s (layout_in done m.type)) in
    omega (arith, h)

listed : (ss : Structs) (n : ℕ) → n < length ss → slice_get ss n ≡ Some (members_of ss n)
listed [] n lt = absurd (omega arith)
listed (x ∷ ss) zero lt = refl
listed (x ∷ ss) (suc n) lt = listed ss n (omega arith)

members-inside : (ss : Structs) (n : ℕ) → AreComplete ss → n < length ss → (members_in (layouts ss) (members_of ss n) empty_layout).size ≤ size_in ss (struct n)
members-inside ss n h lt =
    let e : 0 + n ≡ n = omega arith in
    let complete : MembersAreComplete n (members_of ss n) = subst (λ k. MembersAreComplete k (members_of ss n)) e (complete-at 0 ss n h) in
    let l : (layout ss (struct n)).size ≡ (struct_in (layouts ss) (members_of ss n)).size = ap (λ (x : Layout). x.size) (struct-as-listed ss n (members_of ss n) (listed ss n lt) complete) in
    omega (arith, l)

module _ (g : Prog) (f : Func) (whole : List Cell) where
  -- these items stand among the whole's cells, from an offset on and below another
  record IsPlaced (known : Structs) (low high : ℕ) (ps : List Item) : Type 0 where
    pub pieces : Each (IsPieceOf g f whole) (pieces_of known ps)
    pub ascends : Ascending low high (given_offsets (pieces_of known ps))

  placed-append : (known : Structs) (low mid high : ℕ) (ps qs : List Item) → IsPlaced known low mid ps → IsPlaced known mid high qs → IsPlaced known low high (ps ++ qs)
  placed-append known low mid high ps qs h k = record {
    pieces = subst (Each (IsPieceOf g f whole)) (sym (pieces-append known ps qs)) (each-append (IsPieceOf g f whole) (pieces_of known ps) (pieces_of known qs) h.pieces k.pieces);
    ascends = subst (Ascending low high) (sym (ap given_offsets (pieces-append known ps qs) ∙ offsets-append (pieces_of known ps) (pieces_of known qs))) (ascending-append low mid high (given_offsets (pieces_of known ps)) (given_offsets (pieces_of known qs)) h.ascends k.ascends);
  }

  -- the bytes of a string

  bytes-from : (known : Structs) (i : Integer) (n at : ℕ) (s : Name) → kind_size (kind_of i) ≡ 1 → length s ≤ n → StandAmong whole at (repeated 0 n (layout known (integer i))) → IsPlaced known at (at + n * size_in known (integer i)) (byte_items at (integer i) s)
  bytes-from known i n at [] size le k = record { pieces = tt; ascends = omega arith }
  bytes-from known i zero at (b ∷ s) size le k = absurd (omega (arith, le))
  bytes-from known i (suc n) at (b ∷ s) size le k =
      let first = element-stands whole at n (layout known (integer i)) k in
      let one : at + kind_size (kind_of i) ≡ at + 1 = omega (arith, size) in
      let last : StandAmong whole (at + 1) (repeated 0 n (layout known (integer i))) = subst (λ z. StandAmong whole z (repeated 0 n (layout known (integer i)))) one (elements-stand whole at n (layout known (integer i)) k) in
      let rest = bytes-from known i n (at + 1) s size (omega (arith, le)) last in
      let high : at + 1 + n * size_in known (integer i) ≡ at + suc n * size_in known (integer i) = count n (size_in known (integer i)) size in
      record {
        pieces = ((tt, (integer-kind i, wrap-of_kind (kind_of i) (pos b)), refl, first), rest.pieces);
        ascends = (
          omega arith,
          ascending-lower (suc (at + 0)) (at + 1) (at + suc n * size_in known (integer i)) (given_offsets (pieces_of known (byte_items (at + 1) (integer i) s))) (omega arith)
              (subst (λ z. Ascending (at + 1) z (given_offsets (pieces_of known (byte_items (at + 1) (integer i) s)))) high rest.ascends),
        );
      }
    where
      count : (m z : ℕ) → z ≡ 1 → at + 1 + m * z ≡ at + suc m * z
      count m z e = subst (λ y. at + 1 + m * y ≡ at + suc m * y) (sym e) (omega arith)

  bytes-placed : (known : Structs) (e : CType) (n at : ℕ) (s : Name) → is_character e ≡ true → length s ≤ n → StandAmong whole at (layout known (array e n)).cells → IsPlaced known at (at + size_in known (array e n)) (byte_items at e s)
  bytes-placed known (integer Char) n at s c le k = bytes-from known Char n at s refl le k
  bytes-placed known (integer SignedChar) n at s c le k = bytes-from known SignedChar n at s refl le k
  bytes-placed known (integer UnsignedChar) n at s c le k = bytes-from known UnsignedChar n at s refl le k
  bytes-placed known (integer Short) n at s c le k = absurd (cc)
  bytes-placed known (integer UnsignedShort) n at s c le k = absurd (cc)
  bytes-placed known (integer Int) n at s c le k = absurd (cc)
  bytes-placed known (integer UnsignedInt) n at s c le k = absurd (cc)
  bytes-placed known (integer Long) n at s c le k = absurd (cc)
  bytes-placed known (integer UnsignedLong) n at s c le k = absurd (cc)
  bytes-placed known void n at s c le k = absurd (cc)
  bytes-placed known (pointer d a) n at s c le k = absurd (cc)
  bytes-placed known (array a m) n at s c le k = absurd (cc)
  bytes-placed known (unsized a) n at s c le k = absurd (cc)
  bytes-placed known (struct m) n at s c le k = absurd (cc)
  bytes-placed known (function r ps) n at s c le k = absurd (cc)

  behind-strings-sound : (ss : List Name) (c : Context) → IsSoundContext g f c → IsSoundContext g f (behind_strings ss c)
  behind-strings-sound ss c h = record { structs = h.structs; entities = h.entities; statics = h.statics }

  -- what is asked of an object that is initialised
  record IsAt (c : Context) (a : CType) (at : ℕ) : Type 0 where
    pub context : IsSoundContext g f c
    pub bounded : IsBounded c.known a
    pub complete : is_complete_in c.known a ≡ true
    pub stands : StandAmong whole at (layout c.known a).cells

  one-placed : (c : Context) (a : CType) (at : ℕ) (e : t.Expression) (x : Term) → IsAt c a at → IsFitted g f c.known a x → IsPlaced c.known at (at + size_in c.known a) (record { offset = at; type = a; source = from_term e x } ∷ [])
  one-placed c a at e x h fit =
      let cells = access-cells c.known a fit.plain h.complete in
      let sized = sized-bounded c.known a h.context.structs h.bounded h.complete in
      let high = at + size_in c.known a in
      let own = map {A = Cell} (λ z. at + z.offset) (cells_of (access_of c.known a)) in
      let ascends : Ascending at high own = subst (λ zs. Ascending at high (map {A = Cell} (λ z. at + z.offset) zs)) (sym cells) (type-ascending c.known a at) in
      record {
        pieces = ((access-sound g f c.known h.context.structs a sized h.complete, fit.typed, fit.shape, subst (StandAmong whole at) (sym cells) h.stands), tt);
        ascends = ascending-append at high high own [] ascends (omega arith);
      }

  mutual
    initialised-placed : {c : Context} {a : CType} {at : ℕ} {i : t.Initializer} {ps : List Item} → Initialised c a at i ps → IsWrittenInitialiser i → IsAt c a at → HasStrings g c (strings_given c.known a i) → IsGivenWithin c (an_initialiser a at i) → IsPlaced c.known at (at + size_in c.known a) ps
    initialised-placed {c = c} {a = a} {at = at} {i = i} (initialised m s) w h st l = shaped-placed s (info g f c a at i m.0 w st l) h

    shaped-placed : {c : Context} {a : CType} {at : ℕ} {s : Shape} {ps : List Item} → Shaped c a at s ps → Info g c a at s → IsAt c a at → IsPlaced c.known at (at + size_in c.known a) ps
    shaped-placed {c = c} {a = a} {at = at} (of_one {e = e} {x = x} d m) i h =
        let good = expressions g f c e x d i.written h.context i.strings i.within in
        one-placed c a at e x h (fitted g f c.known a x good.0 m.0)
    shaped-placed {c = c} {a = a} {at = at} (of_bytes {e = e} {s = s}) i h =
        subst (λ z. StandAmong whole at (layout c.known z).cells → IsPlaced c.known at (at + size_in c.known z) (byte_items at e s)) (sym i.is)
        (λ k. bytes-placed c.known e i.count at s i.character i.fits k) h.stands
    shaped-placed {c = c} {a = a} {at = at} (of_elements {e = e} {ps = ps} s) i h =
        let own : IsAt c (array e i.count) at = subst (λ z. IsAt c z at) i.type h in
        subst (λ z. IsPlaced c.known at (at + size_in c.known z) ps) (sym i.type)
        (elements-placed s i.count i.fits i.written own.context own.bounded.0 (complete-element (length c.known) e i.count own.complete) i.strings i.within own.stands)
    shaped-placed {c = c} {a = a} {at = at} (of_members {n = n} {ps = ps} s) i h =
        let own : IsAt c (struct n) at = subst (λ z. IsAt c z at) i.type h in
        let cells = struct-cells c.known n own.context.structs.complete in
        let inside = members-inside c.known n own.context.structs.complete (ltb-true n (length c.known) own.complete) in
        let placed = members-placed s empty_layout refl (own.context.structs.members n) i.written own.context i.strings i.within (subst (StandAmong whole at) cells own.stands) in
        let start : at + 0 ≡ at = omega arith in
        let low : IsPlaced c.known at (at + (members_in (layouts c.known) (members_of c.known n) empty_layout).size) ps = subst (λ z. IsPlaced c.known z (at + (members_in (layouts c.known) (members_of c.known n) empty_layout).size) ps) start placed in
        subst (λ z. IsPlaced c.known at (at + size_in c.known z) ps) (sym i.type)
        (record { pieces = low.pieces; ascends = ascending-higher at (at + (members_in (layouts c.known) (members_of c.known n) empty_layout).size) (at + size_in c.known (struct n)) (given_offsets (pieces_of c.known ps)) (omega (arith, inside)) low.ascends })

    elements-placed : {c : Context} {e : CType} {at : ℕ} {is : t.Initializers} {ps : List Item} → Elements c e at is ps → (n : ℕ) → initializer_count is ≤ n → AreWrittenInitialisers is → IsSoundContext g f c → IsBounded c.known e → is_complete_in c.known e ≡ true
        → HasStrings g c (strings_among c.known (side_by_side e) is) → IsGivenWithin c (some_elements e at is) → StandAmong whole at (repeated 0 n (layout c.known e)) → IsPlaced c.known at (at + n * size_in c.known e) ps
    elements-placed no_element n le w h b k st l z = record { pieces = tt; ascends = omega arith }
    elements-placed (an_element i s) zero le w h b k st l z = absurd (omega (arith, le))
    elements-placed {c = c} {e = e} {at = at} (an_element {i = i} {is = is} {ps = ps} {qs = qs} d s) (suc n) le w h b k st l z =
        let size = size_in c.known e in
        let first : IsAt c e at = record { context = h; bounded = b; complete = k; stands = element-stands whole at n (layout c.known e) z } in
        let one = initialised-placed d w.0 first (first-strings g f c (strings_given c.known e i) (strings_among c.known (side_by_side e) is) st) (λ m y. l m (size_in_first_element y)) in
        let others = elements-placed s n (omega (arith, le)) w.1 (behind-strings-sound (strings_given c.known e i) c h) b k (last-strings g f c.next_string (strings_given c.known e i) (strings_among c.known (side_by_side e) is) st) (λ m y. l m (size_in_other_elements y)) (elements-stand whole at n (layout c.known e) z) in
        let high : at + size + n * size ≡ at + suc n * size = grind arith in
        subst (λ y. IsPlaced c.known at y (ps ++ qs)) high (placed-append c.known at (at + size) (at + size + n * size) ps qs one others)

    members-placed : {c : Context} {ms : List Member} {os : List MemberPlace} {at : ℕ} {is : t.Initializers} {ps : List Item} → InMembers c ms os at is ps → (so_far : Layout) → os ≡ places_from (layouts c.known) ms so_far
        → Each {A = Member} (λ m. IsBounded c.known m.type × (is_complete_in c.known m.type ≡ true)) ms → AreWrittenInitialisers is → IsSoundContext g f c
        → HasStrings g c (strings_among c.known (in_order ms) is) → IsGivenWithin c (some_members ms os at is) → StandAmong whole at (member_cells (layouts c.known) ms os) → IsPlaced c.known (at + so_far.size) (at + (members_in (layouts c.known) ms so_far).size) ps
    members-placed {c = c} {ms = ms} no_member so_far os b w h st l z =
        let grown = members-grow (layouts c.known) ms so_far in
        record { pieces = tt; ascends = omega (arith, grown) }
    members-placed {c = c} {at = at} (a_member {m = m} {ms = ms} {o = o} {os = os} {i = i} {is = is} {ps = ps} {qs = qs} d s) so_far placed b w h st l z =
        let own = layout c.known m.type in
        let here : o ≡ place_behind so_far own = cc in
        let there : os ≡ places_from (layouts c.known) ms (with_member so_far own) = cc in
        let offset : o.offset ≡ round_up so_far.size own.align = ap (λ (y : MemberPlace). y.offset) here in
        let cells = stand-moved whole at o.offset own.cells (stand-first whole at (moved o.offset own.cells) (member_cells (layouts c.known) ms os) z) in
        let first : IsAt c m.type (at + o.offset) = record { context = h; bounded = b.0.0; complete = b.0.1; stands = cells } in
        let one = initialised-placed d w.0 first (first-strings g f c (strings_given c.known m.type i) (strings_among c.known (in_order ms) is) st) (λ n y. l n (size_in_first_member y)) in
        let others = members-placed s (with_member so_far own) there b.1 w.1 (behind-strings-sound (strings_given c.known m.type i) c h) (last-strings g f c.next_string (strings_given c.known m.type i) (strings_among c.known (in_order ms) is) st) (λ n y. l n (size_in_other_members y)) (stand-last whole at (moved o.offset own.cells) (member_cells (layouts c.known) ms os) z) in
        let low : so_far.size ≤ o.offset = omega (arith, offset) in
        let mid : at + o.offset + own.size ≡ at + (round_up so_far.size own.align + own.size) = omega (arith, offset) in
        let front : IsPlaced c.known (at + so_far.size) (at + (round_up so_far.size own.align + own.size)) ps = record {
          pieces = one.pieces;
          ascends = ascending-lower (at + so_far.size) (at + o.offset) (at + (round_up so_far.size own.align + own.size)) (given_offsets (pieces_of c.known ps)) (omega (arith, low)) (subst (λ y. Ascending (at + o.offset) y (given_offsets (pieces_of c.known ps))) mid one.ascends);
        } in
        placed-append c.known (at + so_far.size) (at + (round_up so_far.size own.align + own.size)) (at + (members_in (layouts c.known) ms (with_member so_far own)).size) ps qs front others

pub initialisers : (g : Prog) (f : Func) (c : Context) (a : CType) (i : t.Initializer) (ps : List Item) → Initialised c a 0 i ps → IsWrittenInitialiser i → IsSoundContext g f c → IsBounded c.known a → is_complete_in c.known a ≡ true → HasStrings g c (strings_given c.known a i) → IsGivenWithin c (an_initialiser a 0 i)
    → Each (IsPieceOf g f (layout c.known a).cells) (pieces_of c.known ps) × AreDistinct (given_offsets (pieces_of c.known ps))
initialisers g f c a i ps d w h b k st l =
    let own : IsAt g f (layout c.known a).cells c a 0 = record { context = h; bounded = b; complete = k; stands = own-cells-stand c.known a } in
    let placed = initialised-placed g f (layout c.known a).cells d w own st l in
    (placed.pieces, ascending-distinct 0 (0 + size_in c.known a) (given_offsets (pieces_of c.known ps)) placed.ascends)
