-- A table with one struct more.
use Rattle.std.proofs.Common.{◌≡◌, inl, inr, ℕ, zero, suc, ◌+◌, ◌<◌, ◌≤◌, true, false, Bool, ◌&&◌, nat_lt, List, [], ◌∷◌, ◌++◌, map, length, get_or, Some, refl, sym, ap, ◌∙◌, subst, arith, length-append}
use Rattle.std.specs.Prelude.{slice_get}
use Rattle.std.specs.List.{All}
use Rattle.std.proofs.lemmas.Bool.{ltb-true, lt-ltb}
use Rattle.std.proofs.lemmas.List.{length-map, map-append}
use Rattle.std.proofs.lemmas.List.Elements.{All-append, All-cons, All-nil}
use Rattle.std.proofs.lemmas.Option.{slice_get_within, slice_get-get_or, get_or_from_slice_get}
use Rattle.im_ctype.specs.declared.extent.Extent.{Extent}
use Rattle.im_ctype.specs.declared.member.Member as rust
use Rattle.im_ctype.specs.declared.node.TypeNode.{TypeNode}
use Rattle.im_ctype.specs.declared.node.TypeNode.TheVariants as node
use Rattle.im_ctype.specs.Types.{CType, void, integer, pointer, array, unsized, struct, function, Member, Structs, members_of, is_complete}
use Rattle.im_ctype.specs.Layout.{Layout, empty_layout, layout_in, with_member, layouts, struct_in, MembersAreComplete, AreCompleteFrom, AreComplete}
use Rattle.im_ctype.specs.Members.{place_behind, places_from, places_in, places}
use Rattle.im_ctype.specs.Table as table
use Rattle.im_ctype.specs.Table.{Table, type_of_node, types_of, structs_of, with_struct}
use Rattle.im_ctype.specs.Kept.{extent_of, kept_extent, AreMembersIn, IsKept, Entry}
use Rattle.im_ctype.specs.Table.{IsSound}
use Rattle.im_ctype.proofs.Building.{length-built, built-push}
use Rattle.im_ctype.proofs.CellLists.{layout_in-more, complete-element}
use Rattle.im_ctype.proofs.Numbered.{type-of-node, count-structs}
use Rattle.im_ctype.proofs.Grown.{one-of}

-- what is complete stays so

and-both : (a b : Bool) → a ≡ true → b ≡ true → (a && b) ≡ true
and-both a b e f = rw (e, f) refl

and-first : (a b : Bool) → (a && b) ≡ true → a ≡ true
and-first true b h = refl
and-first false b h = cc

pub complete-more : (a b : ℕ) (ty : CType) → a ≤ b → is_complete a ty ≡ true → is_complete b ty ≡ true
complete-more a b void le h = cc
complete-more a b (integer i) le h = refl
complete-more a b (pointer c t) le h = refl
complete-more a b (array t n) le h =
    and-both (nat_lt 0 n) (is_complete b t) (and-first (nat_lt 0 n) (is_complete a t) h) (complete-more a b t le (complete-element a t n h))
complete-more a b (unsized t) le h = cc
complete-more a b (struct n) le h = lt-ltb n b (omega (arith, ltb-true n a h))
complete-more a b (function r ps) le h = cc

sound-known : (a b : ℕ) (types : List CType) (n : TypeNode) → a ≤ b → IsSound a types n → IsSound b types n
sound-known a b types node.Void le s = tt
sound-known a b types (node.Integer i) le s = tt
sound-known a b types (node.Pointer c t) le s = tt
sound-known a b types (node.Array t k) le s = complete-more a b (array (table.type_in types t) k) le s
sound-known a b types (node.Struct k) le s = tt

complete-push : (known : ℕ) (ss : Structs) (ms : List Member) → AreCompleteFrom known ss → MembersAreComplete (known + length ss) ms → AreCompleteFrom known (ss ++ ms ∷ [])
complete-push known [] ms h k =
    let e : known + 0 ≡ known = omega arith in
    (subst (λ n. MembersAreComplete n ms) e k, tt)
complete-push known (x ∷ ss) ms h k =
    let e : known + length (x ∷ ss) ≡ suc known + length ss = omega arith in
    (h.0, complete-push (suc known) ss ms h.1 (subst (λ n. MembersAreComplete n ms) e k))

pub complete-at : (known : ℕ) (ss : Structs) (n : ℕ) → AreCompleteFrom known ss → MembersAreComplete (known + n) (members_of ss n)
complete-at known [] n h = λ k d lt. absurd (omega arith)
complete-at known (ms ∷ ss) zero h =
    let e : known ≡ known + 0 = omega arith in
    subst (λ k. MembersAreComplete k ms) e h.0
complete-at known (ms ∷ ss) (suc n) h =
    let e : suc known + n ≡ known + suc n = omega arith in
    subst (λ k. MembersAreComplete k (members_of ss n)) e (complete-at (suc known) ss n h.1)

-- extents and places stay

map-same : {X Y : Type 0} (f g : X → Y) (xs : List X) → ((i : ℕ) (x : X) → slice_get xs i ≡ Some x → f x ≡ g x) → map f xs ≡ map g xs
map-same f g [] h = refl
map-same f g (x ∷ xs) h = ap (λ y. y ∷ map f xs) (h 0 x refl) ∙ ap (λ ys. g x ∷ ys) (map-same f g xs (λ i y is. h (suc i) y is))

kept-more : (done more : List Layout) (types : List CType) (n : TypeNode) → IsSound (length done) types n → kept_extent (done ++ more) (type_of_node types n) ≡ kept_extent done (type_of_node types n)
kept-more done more types node.Void s = refl
kept-more done more types (node.Integer i) s = refl
kept-more done more types (node.Pointer c t) s = refl
kept-more done more types (node.Array t k) s = ap extent_of (layout_in-more done more (array (table.type_in types t) k) s)
kept-more done more types (node.Struct k) s = refl

places-more : (done more : List Layout) (ms : List Member) (s : Layout) → MembersAreComplete (length done) ms → places_from (done ++ more) ms s ≡ places_from done ms s
places-more done more [] s h = refl
places-more done more (m ∷ ms) s h =
    ap (λ (l : Layout). place_behind s l ∷ places_from (done ++ more) ms (with_member s l)) (layout_in-more done more m.type (h 0 m (omega arith)))
    ∙ ap (λ ps. place_behind s (layout_in done m.type) ∷ ps) (places-more done more ms (with_member s (layout_in done m.type)) (λ k d lt. h (suc k) d (omega arith)))

members-before : (ss : Structs) (ms : List Member) (n : ℕ) → n < length ss → members_of (ss ++ ms ∷ []) n ≡ members_of ss n
members-before [] ms n lt = absurd (omega arith)
members-before (x ∷ ss) ms zero lt = refl
members-before (x ∷ ss) ms (suc n) lt = members-before ss ms n (omega arith)

members-last : (ss : Structs) (ms : List Member) → members_of (ss ++ ms ∷ []) (length ss) ≡ ms
members-last [] ms = refl
members-last (x ∷ ss) ms = members-last ss ms

members-weaker : (a b : ℕ) (ms : List Member) → a ≤ b → MembersAreComplete a ms → MembersAreComplete b ms
members-weaker a b ms le h = λ k d lt. complete-more a b (get_or ms k d).type le (h k d lt)

all-push : {X : Type 0} (P : X → Type 0) (xs : List X) (x : X) → All P xs → P x → All P (xs ++ x ∷ [])
all-push P xs x h p = All-append P xs (x ∷ []) h (All-cons P x [] p (All-nil P))

module _ (t : Table) (es : List Extent) (ks : List Entry) (ms : List rust.Member) (h : IsKept t es ks) (known : AreMembersIn (length t.nodes) ms) (complete : MembersAreComplete (length t.structs) (table.members_in (types_of t) ms)) where
  abbrev plain : List Member
  plain = table.members_in (types_of t) ms

  count : length (structs_of t) ≡ length t.structs
  count = length-map {A = List rust.Member} t.structs (table.members_in (types_of t))

  count-layouts : length (layouts (structs_of t)) ≡ length t.structs
  count-layouts = length-built struct_in (structs_of t) ∙ count

  structs-with : structs_of (with_struct t ms) ≡ structs_of t ++ plain ∷ []
  structs-with = map-append {A = List rust.Member} (table.members_in (types_of t)) t.structs (ms ∷ [])

  layouts-with : layouts (structs_of (with_struct t ms)) ≡ layouts (structs_of t) ++ struct_in (layouts (structs_of t)) plain ∷ []
  layouts-with = ap layouts structs-with ∙ built-push struct_in (structs_of t) plain

  complete-now : MembersAreComplete (length (layouts (structs_of t))) plain
  complete-now = subst (λ n. MembersAreComplete n plain) (sym count-layouts) complete

  kept-same : (i : ℕ) (ty : CType) → slice_get (types_of t) i ≡ Some ty → kept_extent (layouts (structs_of t)) ty ≡ kept_extent (layouts (structs_of (with_struct t ms))) ty
  kept-same i ty is =
      let l = length-built type_of_node t.nodes in
      let lt = slice_get_within (types_of t) i ty is in
      let n = get_or t.nodes i node.Void in
      let at : slice_get t.nodes i ≡ Some n = slice_get-get_or t.nodes i node.Void (omega (arith, l, lt)) in
      let e : ty ≡ type_of_node (types_of t) n = sym (get_or_from_slice_get (types_of t) i ty void is) ∙ type-of-node t.nodes i n h.nodes at in
      let s = subst (λ k. IsSound k (types_of t) n) (sym count-layouts) (h.sound i n at) in
      let m = kept-more (layouts (structs_of t)) (struct_in (layouts (structs_of t)) plain ∷ []) (types_of t) n s in
      ap (kept_extent (layouts (structs_of t))) e ∙ sym m ∙ ap (λ ls. kept_extent ls (type_of_node (types_of t) n)) (sym layouts-with)
      ∙ ap (kept_extent (layouts (structs_of (with_struct t ms)))) (sym e)

  places-before : (n : ℕ) → n < length t.structs → places (structs_of (with_struct t ms)) n ≡ places (structs_of t) n
  places-before n lt =
      let c = complete-at 0 (structs_of t) n h.complete in
      let z : 0 + n ≤ length (layouts (structs_of t)) = omega (arith, lt, count-layouts) in
      let m = members-weaker (0 + n) (length (layouts (structs_of t))) (members_of (structs_of t) n) z c in
      ap (λ ss. places ss n) structs-with
      ∙ ap (λ xs. places_in (layouts (structs_of t ++ plain ∷ [])) xs) (members-before (structs_of t) plain n (omega (arith, lt, count)))
      ∙ ap (λ ls. places_in ls (members_of (structs_of t) n)) (built-push struct_in (structs_of t) plain)
      ∙ places-more (layouts (structs_of t)) (struct_in (layouts (structs_of t)) plain ∷ []) (members_of (structs_of t) n) empty_layout m

  places-last : (n : ℕ) → n ≡ length t.structs → places (structs_of (with_struct t ms)) n ≡ places_in (layouts (structs_of t)) plain
  places-last n e =
      let f : n ≡ length (structs_of t) = e ∙ sym count in
      ap (λ ss. places ss n) structs-with
      ∙ ap (λ xs. places_in (layouts (structs_of t ++ plain ∷ [])) xs) (ap (members_of (structs_of t ++ plain ∷ [])) f ∙ members-last (structs_of t) plain)
      ∙ ap (λ ls. places_in ls plain) (built-push struct_in (structs_of t) plain)
      ∙ places-more (layouts (structs_of t)) (struct_in (layouts (structs_of t)) plain ∷ []) plain empty_layout complete-now

  pub kept-struct : (k : Entry) → k.places ≡ places_in (layouts (structs_of t)) plain → k.extent ≡ extent_of (struct_in (layouts (structs_of t)) plain) → IsKept (with_struct t ms) es (ks ++ k ∷ [])
  kept-struct k at is =
      let a = length-append t.structs (ms ∷ []) in
      let n = count-structs t es ks h in
      let m : MembersAreComplete (0 + length (structs_of t)) plain =
      (let z : length t.structs ≡ 0 + length (structs_of t) = omega (arith, count) in subst (λ j. MembersAreComplete j plain) z complete) in
      record {
        nodes = h.nodes;
        sound = λ i x at. sound-known (length t.structs) (length (t.structs ++ ms ∷ [])) (types_of t) x (omega (arith, a)) (h.sound i x at);
        members = all-push (AreMembersIn (length t.nodes)) t.structs ms h.members known;
        complete = subst (λ (ss : Structs). AreComplete ss) (sym structs-with) (complete-push 0 (structs_of t) plain h.complete m);
        extents = h.extents ∙ map-same _ _ (types_of t) kept-same;
        struct_extents = map-append {A = Entry} (λ x. x.extent) ks (k ∷ []) ∙ ap (λ xs. xs ++ k.extent ∷ []) h.struct_extents
            ∙ ap (λ x. map {A = Layout} extent_of (layouts (structs_of t)) ++ x ∷ []) is
            ∙ sym (map-append {A = Layout} extent_of (layouts (structs_of t)) (struct_in (layouts (structs_of t)) plain ∷ []))
            ∙ ap (map {A = Layout} extent_of) (sym layouts-with);
        struct_places = λ i x here. elim (one-of ks k x i here) [
          | inl p ↦ h.struct_places i x p ∙ sym (places-before i (omega (arith, slice_get_within ks i x p, n)))
          | inr p ↦ ap (λ (y : Entry). y.places) (sym p.1) ∙ at ∙ sym (places-last i (p.0 ∙ n))
        ];
      }
