-- A table with one type more.
use Rattle.std.proofs.Common.{◌≡◌, ◌⊎◌, inl, inr, ℕ, zero, suc, ◌≤◌, true, List, [], ◌∷◌, ◌++◌, map, length, get_or, Some, refl, sym, ap, ◌∙◌, subst, arith, length-append}
use Rattle.std.specs.Prelude.{slice_get}
use Rattle.std.specs.List.{All}
use Rattle.std.proofs.lemmas.List.{get_or_append_left, map-append}
use Rattle.std.proofs.lemmas.Option.{slice_get_within, none-some, same_Some}
use Rattle.std.proofs.Math.Seq.{get_or-append_seam}
use Rattle.im_ctype.specs.declared.extent.Extent.{Extent}
use Rattle.im_ctype.specs.declared.member.Member as rust
use Rattle.im_ctype.specs.declared.node.TypeId.{TypeId}
use Rattle.im_ctype.specs.declared.node.TypeNode.{TypeNode}
use Rattle.im_ctype.specs.declared.node.TypeNode.TheVariants as node
use Rattle.im_ctype.specs.Types.{CType, void, array, Member, Structs, is_complete}
use Rattle.im_ctype.specs.Layout.{Layout, layouts, AreComplete}
use Rattle.im_ctype.specs.Members.{places}
use Rattle.im_ctype.specs.Table.{Table, type_in, type_of_node, types_of, structs_of, member_in, members_in, IsTypeOf, IsGrown}
use Rattle.im_ctype.specs.Kept.{extent_of, kept_extent, AreNodes, AreMembersIn, IsKept, Entry}
use Rattle.im_ctype.specs.Table.{IsEarlier, IsSound}
use Rattle.im_ctype.proofs.Building.{length-built, built-push}
use Rattle.im_ctype.proofs.Numbered.{type-of-node}

-- an item of a list with one more is that one, or one of those before it
pub one-of : {X : Type 0} (xs : List X) (x y : X) (i : ℕ) → slice_get (xs ++ x ∷ []) i ≡ Some y → (slice_get xs i ≡ Some y) ⊎ ((i ≡ length xs) × (x ≡ y))
one-of [] x y zero h = inr (refl, same_Some x y h)
one-of [] x y (suc i) h = absurd (none-some y h)
one-of (z ∷ zs) x y zero h = inl h
one-of (z ∷ zs) x y (suc i) h = elim (one-of zs x y i h) [
  | inl p ↦ inl p
  | inr p ↦ inr (ap suc p.0, p.1)
]

-- members whose types stand among the first ones see no more of the types
members-same : (types more : List CType) (ms : List rust.Member) → AreMembersIn (length types) ms → members_in (types ++ more) ms ≡ members_in types ms
members-same types more [] h = refl
members-same types more (m ∷ ms) h =
    let e = get_or_append_left types more void m.ty.0 (h 0 m (omega arith)) in
    let r = members-same types more ms (λ k d lt. h (suc k) d (omega arith)) in
    ap (λ t. let x : Member = record { name = m.name.items; constant = m.constant; type = t } in x ∷ members_in (types ++ more) ms) e
    ∙ ap (λ xs. member_in types m ∷ xs) r

structs-same : (types more : List CType) (ss : List (List rust.Member)) → All (AreMembersIn (length types)) ss → map {A = List rust.Member} (members_in (types ++ more)) ss ≡ map {A = List rust.Member} (members_in types) ss
structs-same types more [] h = refl
structs-same types more (ms ∷ ss) h =
    let e = members-same types more ms (h 0 ms (omega arith)) in
    let r = structs-same types more ss (λ k d lt. h (suc k) d (omega arith)) in
    ap (λ x. x ∷ map {A = List rust.Member} (members_in (types ++ more)) ss) e ∙ ap (λ xs. members_in types ms ∷ xs) r

sound-more : (known : ℕ) (types more : List CType) (n : TypeNode) → IsEarlier (length types) n → IsSound known types n → IsSound known (types ++ more) n
sound-more known types more node.Void h s = tt
sound-more known types more (node.Integer i) h s = tt
sound-more known types more (node.Pointer c t) h s = tt
sound-more known types more (node.Array t k) h s =
    subst (λ x. is_complete known (array x k) ≡ true) (sym (get_or_append_left types more void t.0 h)) s
sound-more known types more (node.Struct k) h s = tt

earlier-more : (i k : ℕ) (n : TypeNode) → i ≤ k → IsEarlier i n → IsEarlier k n
earlier-more i k node.Void le h = tt
earlier-more i k (node.Integer j) le h = tt
earlier-more i k (node.Pointer c t) le h = omega arith
earlier-more i k (node.Array t c) le h = omega arith
earlier-more i k (node.Struct j) le h = tt

members-more : (n k : ℕ) (ms : List rust.Member) → n ≤ k → AreMembersIn n ms → AreMembersIn k ms
members-more n k ms le h = λ i d lt. let g = h i d lt in omega arith

abbrev pub with_node : Table → TypeNode → Table
with_node table n = record { nodes = table.nodes ++ n ∷ []; structs = table.structs }

module _ (table : Table) (es : List Extent) (ks : List Entry) (n : TypeNode) (h : IsKept table es ks) where
  pub types-with : types_of (with_node table n) ≡ types_of table ++ type_of_node (types_of table) n ∷ []
  types-with = built-push type_of_node table.nodes n

  pub structs-with : structs_of (with_node table n) ≡ structs_of table
  structs-with =
      let l = length-built type_of_node table.nodes in
      ap (λ ts. map {A = List rust.Member} (members_in ts) table.structs) types-with
      ∙ structs-same (types_of table) (type_of_node (types_of table) n ∷ []) table.structs
      (subst (λ k. All (AreMembersIn k) table.structs) (sym l) h.members)

  pub grown-with : IsGrown table (with_node table n)
  grown-with =
      let l = length-built type_of_node table.nodes in
      let m = length-append table.nodes (n ∷ []) in
      record {
        longer = omega arith;
        types = λ ty known. ap (λ ts. type_in ts ty) types-with ∙ get_or_append_left (types_of table) _ void ty.0 (omega arith);
        structs = structs-with;
      }

  pub is-type-with : (ty : TypeId) → ty.0 ≡ length table.nodes → IsTypeOf (with_node table n) (type_of_node (types_of table) n) ty
  is-type-with ty e =
      let l = length-built type_of_node table.nodes in
      let m = length-append table.nodes (n ∷ []) in
      let k : ty.0 ≡ length (types_of table) = omega arith in
      record {
        known = omega arith;
        type = ap (λ ts. type_in ts ty) types-with ∙ ap (λ i. get_or (types_of table ++ type_of_node (types_of table) n ∷ []) i void) k ∙ get_or-append_seam (types_of table) (type_of_node (types_of table) n) [] void;
      }

  pub kept-with : (e : Extent) → AreNodes (table.nodes ++ n ∷ []) → IsEarlier (length table.nodes) n → IsSound (length table.structs) (types_of table) n → e ≡ kept_extent (layouts (structs_of table)) (type_of_node (types_of table) n) → IsKept (with_node table n) (es ++ e ∷ []) ks
  kept-with e nodes earlier sound is =
      let l = length-built type_of_node table.nodes in
      let m = length-append table.nodes (n ∷ []) in
      let t = type_of_node (types_of table) n in
      let f = kept_extent (layouts (structs_of table)) in
      record {
        nodes = nodes;
        sound = λ i x at. subst (λ ts. IsSound (length table.structs) ts x) (sym types-with)
            (elim (one-of table.nodes n x i at) [
              | inl p ↦ sound-more (length table.structs) (types_of table) (t ∷ []) x
                  (let lt = slice_get_within table.nodes i x p in earlier-more i (length (types_of table)) x (omega arith) (h.nodes.earlier i x p)) (h.sound i x p)
              | inr p ↦ subst (λ y. IsSound (length table.structs) (types_of table ++ t ∷ []) y) p.1
                  (sound-more (length table.structs) (types_of table) (t ∷ []) n (subst (λ k. IsEarlier k n) (sym l) earlier) sound)
            ]);
        members = λ k d lt. members-more (length table.nodes) (length (table.nodes ++ n ∷ [])) _ (omega arith) (h.members k d lt);
        complete = subst (λ (ss : Structs). AreComplete ss) (sym structs-with) h.complete;
        extents = ap (λ xs. xs ++ e ∷ []) h.extents ∙ ap (λ x. map f (types_of table) ++ x ∷ []) is ∙ sym (map-append f (types_of table) (t ∷ []))
            ∙ ap (map f) (sym types-with) ∙ ap (λ ss. map (kept_extent (layouts ss)) (types_of (with_node table n))) (sym structs-with);
        struct_extents = subst (λ (ss : Structs). map {A = Entry} (λ k. k.extent) ks ≡ map {A = Layout} extent_of (layouts ss)) (sym structs-with) h.struct_extents;
        struct_places = λ i k at. h.struct_places i k at ∙ ap (λ ss. places ss i) (sym structs-with);
      }

pub grown-none : (table : Table) → IsGrown table table
grown-none table = record { longer = omega arith; types = λ ty known. refl; structs = refl }

pub is-type-found : (table : Table) (es : List Extent) (ks : List Entry) (n : TypeNode) (ty : TypeId) → IsKept table es ks → slice_get table.nodes ty.0 ≡ Some n → IsTypeOf table (type_of_node (types_of table) n) ty
is-type-found table es ks n ty h is =
    record { known = slice_get_within table.nodes ty.0 n is; type = type-of-node table.nodes ty.0 n h.nodes is }

abbrev pub with_nodes : Table → List TypeNode → Table
with_nodes table ns = record { nodes = ns; structs = table.structs }

pub type-pushed : (t now : Table) (ns : List TypeNode) (es : List Extent) (ks : List Entry) (n : TypeNode) (ty : TypeId) → IsKept now es ks → now ≡ t → ns ≡ now.nodes ++ n ∷ [] → ty.0 ≡ length now.nodes → IsTypeOf (with_nodes now ns) (type_of_node (types_of t) n) ty
type-pushed t now ns es ks n ty h v e number =
    subst (λ (x : Table). IsTypeOf (with_nodes now ns) (type_of_node (types_of x) n) ty) v
    (subst (λ (xs : List TypeNode). IsTypeOf (with_nodes now xs) (type_of_node (types_of now) n) ty) (sym e) (is-type-with now es ks n h ty number))

pub grown-pushed : (t now : Table) (ns : List TypeNode) (es : List Extent) (ks : List Entry) (n : TypeNode) → IsKept now es ks → now ≡ t → ns ≡ now.nodes ++ n ∷ [] → IsGrown t (with_nodes now ns)
grown-pushed t now ns es ks n h v e =
    subst (λ (x : Table). IsGrown x (with_nodes now ns)) v
    (subst (λ (xs : List TypeNode). IsGrown now (with_nodes now xs)) (sym e) (grown-with now es ks n h))
