-- The types of a table by their numbers, and what is kept beside them.
use Rattle.std.proofs.Common.{◌≡◌, ℕ, ◌<◌, List, ◌++◌, length, get_or, Some, refl, sym, ap, ◌∙◌, arith}
use Rattle.std.specs.Prelude.{slice_get}
use Rattle.std.proofs.lemmas.List.{get_or-map, length-map, get_or_append_left}
use Rattle.std.proofs.lemmas.Option.{slice_get_within, get_or_from_slice_get}
use Rattle.im_ctype.specs.Built.{built}
use Rattle.im_ctype.specs.declared.extent.Extent.{Extent}
use Rattle.im_ctype.specs.declared.node.TypeNode.{TypeNode}
use Rattle.im_ctype.specs.declared.node.TypeNode.TheVariants as node
use Rattle.im_ctype.specs.Types.{CType, void}
use Rattle.im_ctype.specs.Layout.{Layout, empty_layout, layout_in, layouts, layout_at, struct_in}
use Rattle.im_ctype.specs.Table.{Table, type_in, type_of_node, types_of, structs_of}
use Rattle.im_ctype.specs.Kept.{extent_of, kept_extent, AreNodes, IsKept, Entry}
use Rattle.im_ctype.specs.Table.{IsEarlier}
use Rattle.im_ctype.proofs.Building.{length-built, built-at}

-- a node is settled by the nodes before it
settled : (n : TypeNode) (i : ℕ) → IsEarlier i n → (done more : List CType) → length done ≡ i → type_of_node (done ++ more) n ≡ type_of_node done n
settled node.Void i h done more e = refl
settled (node.Integer k) i h done more e = refl
settled (node.Pointer c t) i h done more e = let g = get_or_append_left done more void t.0 (omega arith) in cc
settled (node.Array t k) i h done more e = let g = get_or_append_left done more void t.0 (omega arith) in cc
settled (node.Struct k) i h done more e = refl

pub type-of-node : (nodes : List TypeNode) (i : ℕ) (n : TypeNode) → AreNodes nodes → slice_get nodes i ≡ Some n → get_or (built type_of_node nodes) i void ≡ type_of_node (built type_of_node nodes) n
type-of-node nodes i n h is =
    built-at type_of_node nodes i n void (slice_get_within nodes i n is) (get_or_from_slice_get nodes i n n is) (settled n i (h.earlier i n is))

-- what is no struct has its extent beside it
pub kept-of-node : (types : List CType) (done : List Layout) (n : TypeNode) → ((k : ℕ) → n ≡ node.Struct k → ⊥) → kept_extent done (type_of_node types n) ≡ extent_of (layout_in done (type_of_node types n))
kept-of-node types done node.Void h = refl
kept-of-node types done (node.Integer i) h = refl
kept-of-node types done (node.Pointer c t) h = refl
kept-of-node types done (node.Array t k) h = refl
kept-of-node types done (node.Struct k) h = absurd (h k refl)

pub count-kept : (table : Table) (es : List Extent) (ks : List Entry) → IsKept table es ks → length es ≡ length table.nodes
count-kept table es ks h =
    ap length h.extents ∙ length-map (types_of table) (kept_extent (layouts (structs_of table))) ∙ length-built type_of_node table.nodes

pub kept-at : (table : Table) (es : List Extent) (ks : List Entry) (i : ℕ) (n : TypeNode) (e : Extent) → IsKept table es ks → slice_get table.nodes i ≡ Some n → ((k : ℕ) → n ≡ node.Struct k → ⊥) → get_or es i e ≡ extent_of (layout_in (layouts (structs_of table)) (get_or (types_of table) i void))
kept-at table es ks i n e h is other =
    let done = layouts (structs_of table) in
    let l = length-built type_of_node table.nodes in
    let lt = slice_get_within table.nodes i n is in
    let t = type-of-node table.nodes i n h.nodes is in
    ap (λ xs. get_or xs i e) h.extents
    ∙ get_or-map (kept_extent done) (types_of table) i void e (omega arith)
    ∙ ap (kept_extent done) t ∙ kept-of-node (types_of table) done n other ∙ ap (λ x. extent_of (layout_in done x)) (sym t)

pub count-structs : (table : Table) (es : List Extent) (ks : List Entry) → IsKept table es ks → length ks ≡ length table.structs
count-structs table es ks h =
    let a = length-map {A = Entry} ks (λ k. k.extent) in
    let b = ap length h.struct_extents in
    let c = length-map {A = Layout} (layouts (structs_of table)) extent_of in
    let d = length-built struct_in (structs_of table) in
    let e = length-map table.structs (Rattle.im_ctype.specs.Table.members_in (types_of table)) in
    omega arith

pub struct-extent-at : (table : Table) (es : List Extent) (ks : List Entry) (n : ℕ) (k : Entry) → IsKept table es ks → n < length ks → get_or ks n k ≡ k → k.extent ≡ extent_of (layout_at (layouts (structs_of table)) n)
struct-extent-at table es ks n k h lt is =
    let a = length-map {A = Entry} ks (λ x. x.extent) in
    let b = ap length h.struct_extents in
    let c = length-map {A = Layout} (layouts (structs_of table)) extent_of in
    let m : n < length (layouts (structs_of table)) = omega arith in
    ap (λ (x : Entry). x.extent) (sym is)
    ∙ sym (get_or-map {X = Entry} (λ x. x.extent) ks n k k.extent lt)
    ∙ ap (λ xs. get_or xs n k.extent) h.struct_extents
    ∙ get_or-map {X = Layout} extent_of (layouts (structs_of table)) n empty_layout k.extent m
