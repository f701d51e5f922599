-- Nodes are compared by their parts.
use Rattle.std.proofs.Common.{◌≡◌, nat_eq, Bool, true, false, ◌&&◌, refl, ap, ◌∙◌}
use Rattle.std.proofs.lemmas.Bool.{eqb-true, eq-eqb}
use Rattle.im_ctype.specs.contracts.node.TypeNodePartialEq.TheImpl as node_eq
use Rattle.im_ctype.specs.declared.integer.Integer.{Integer}
use Rattle.im_ctype.specs.declared.integer.Integer.TheVariants.{Char, SignedChar, UnsignedChar, Short, UnsignedShort, Int, UnsignedInt, Long, UnsignedLong}
use Rattle.im_ctype.specs.declared.node.TypeId.{TypeId}
use Rattle.im_ctype.specs.declared.node.TypeNode.{TypeNode}
use Rattle.im_ctype.specs.declared.node.TypeNode.TheVariants as node

integer-same : (i j : Integer) → node_eq.eq-value.it (node.Integer i) (node.Integer j) ≡ true → i ≡ j
integer-same Char Char h = refl
integer-same SignedChar SignedChar h = refl
integer-same UnsignedChar UnsignedChar h = refl
integer-same Short Short h = refl
integer-same UnsignedShort UnsignedShort h = refl
integer-same Int Int h = refl
integer-same UnsignedInt UnsignedInt h = refl
integer-same Long Long h = refl
integer-same UnsignedLong UnsignedLong h = refl
integer-same i j h = cc

and-parts : (a b : Bool) → (a && b) ≡ true → (a ≡ true) × (b ≡ true)
and-parts true b h = (refl, h)
and-parts false b h = cc

pub same-number : (t u : TypeId) → t.0 ≡ u.0 → t ≡ u
same-number t u e = ap (λ n. let x : TypeId = record { 0 = n } in x) e

pub eq-same : (x y : TypeNode) → node_eq.eq-value.it x y ≡ true → x ≡ y
eq-same node.Void node.Void h = refl
eq-same (node.Integer i) (node.Integer j) h = ap node.Integer (integer-same i j h)
eq-same (node.Pointer true t) (node.Pointer true u) h = ap (node.Pointer true) (same-number t u (eqb-true t.0 u.0 h))
eq-same (node.Pointer false t) (node.Pointer false u) h = ap (node.Pointer false) (same-number t u (eqb-true t.0 u.0 h))
eq-same (node.Array t c) (node.Array u d) h =
    let p = and-parts (nat_eq t.0 u.0) (nat_eq c d) h in
    ap (λ x. node.Array x c) (same-number t u (eqb-true t.0 u.0 p.0)) ∙ ap (node.Array u) (eqb-true c d p.1)
eq-same (node.Struct c) (node.Struct d) h = ap node.Struct (eqb-true c d h)
eq-same x y h = cc

pub eq-itself : (x : TypeNode) → node_eq.eq-value.it x x ≡ true
eq-itself node.Void = refl
eq-itself (node.Integer Char) = refl
eq-itself (node.Integer SignedChar) = refl
eq-itself (node.Integer UnsignedChar) = refl
eq-itself (node.Integer Short) = refl
eq-itself (node.Integer UnsignedShort) = refl
eq-itself (node.Integer Int) = refl
eq-itself (node.Integer UnsignedInt) = refl
eq-itself (node.Integer Long) = refl
eq-itself (node.Integer UnsignedLong) = refl
eq-itself (node.Pointer true t) = eq-eqb t.0 t.0 refl
eq-itself (node.Pointer false t) = eq-eqb t.0 t.0 refl
eq-itself (node.Array t c) =
    let e = eq-eqb t.0 t.0 refl in
    let f = eq-eqb c c refl in
    let g : (nat_eq t.0 t.0 && nat_eq c c) ≡ true = rw (e, f) refl in
    g
eq-itself (node.Struct c) = eq-eqb c c refl
