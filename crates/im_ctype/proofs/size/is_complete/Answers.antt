use Rattle.std.proofs.Common.{◌≡◌, ◌⊎◌, inl, inr, ℕ, Bool, true, List, refl, sym, ap, ◌∙◌, length}
use Rattle.im_ctype.specs.declared.integer.Integer.{Integer}
use Rattle.im_ctype.specs.declared.node.TypeId.{TypeId}
use Rattle.im_ctype.specs.declared.node.TypeNode.{TypeNode}
use Rattle.im_ctype.specs.declared.node.TypeNode.TheVariants as node
use Rattle.im_ctype.specs.Types.{CType, is_complete}
use Rattle.im_ctype.specs.Table.{IsSound, type_of_node, types_of}
use Rattle.im_ctype.proofs.size.is_complete.Goals as goal

abbrev IsObject : TypeNode → Type 0
IsObject n = ((i : Integer) × (n ≡ node.Integer i)) ⊎ (((c : Bool) × (t : TypeId) × (n ≡ node.Pointer c t)) ⊎ ((t : TypeId) × (k : ℕ) × (n ≡ node.Array t k)))

none-void : IsObject node.Void → ⊥
none-void (inl p) = let e = p.1 in cc
none-void (inr (inl p)) = let e = p.2 in cc
none-void (inr (inr p)) = let e = p.2 in cc

none-struct : (m : ℕ) → IsObject (node.Struct m) → ⊥
none-struct m (inl p) = let e = p.1 in cc
none-struct m (inr (inl p)) = let e = p.2 in cc
none-struct m (inr (inr p)) = let e = p.2 in cc

complete : (known : ℕ) (types : List CType) (n : TypeNode) → IsSound known types n → IsObject n → true ≡ is_complete known (type_of_node types n)
complete known types node.Void s i = absurd (none-void i)
complete known types (node.Integer k) s i = refl
complete known types (node.Pointer c t) s i = refl
complete known types (node.Array t k) s i = sym s
complete known types (node.Struct m) s i = absurd (none-struct m i)

pub returns-in-Integer : goal.returns-in-Integer
returns-in-Integer c =
    complete (length c.args.table.now.structs) (types_of c.args.table.now) c.node.result c.node.ensures.sound c.in-Integer.is
    ∙ ap (is_complete (length c.args.table.now.structs)) (sym c.node.ensures.type_is)
