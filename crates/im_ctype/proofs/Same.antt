-- Types are told apart by their numbers.
use Rattle.std.proofs.Common.{◌≡◌, ℕ, zero, suc, ◌<◌, ◌≤◌, nat_eq, Bool, true, false, ◌&&◌, List, [], ◌∷◌, length, get_or, Some, refl, sym, ap, ◌∙◌, arith}
use Rattle.std.specs.Prelude.{slice_get}
use Rattle.std.proofs.lemmas.Bool.{eqb-true, eq-eqb}
use Rattle.std.proofs.lemmas.Option.{slice_get-get_or}
use Rattle.im_ctype.specs.Built.{built}
use Rattle.im_ctype.specs.declared.integer.Integer.{Integer}
use Rattle.im_ctype.specs.declared.integer.Integer.TheVariants.{Char, SignedChar, UnsignedChar, Short, UnsignedShort, Int, UnsignedInt, Long, UnsignedLong}
use Rattle.im_ctype.specs.declared.node.TypeId.{TypeId}
use Rattle.im_ctype.specs.declared.node.TypeNode.{TypeNode}
use Rattle.im_ctype.specs.declared.node.TypeNode.TheVariants as node
use Rattle.im_ctype.specs.Types.{CType, void, integer, pointer, array, unsized, struct, function, CTypes, no_types, more_types, integer_number, same_integer, same_bool, same_type, same_types}
use Rattle.im_ctype.specs.Table.{type_in, type_of_node}
use Rattle.im_ctype.specs.Kept.{AreNodes}
use Rattle.im_ctype.specs.Table.{IsEarlier}
use Rattle.im_ctype.proofs.Compared.{same-number}
use Rattle.im_ctype.proofs.Numbered.{type-of-node}

-- the same by the test, and equal

and-parts : (a b : Bool) → (a && b) ≡ true → (a ≡ true) × (b ≡ true)
and-parts true b h = (refl, h)
and-parts false b h = cc

and-true : (a b : Bool) → a ≡ true → b ≡ true → (a && b) ≡ true
and-true a b e f = rw (e, f) refl

abbrev integers : List Integer
integers = Char ∷ SignedChar ∷ UnsignedChar ∷ Short ∷ UnsignedShort ∷ Int ∷ UnsignedInt ∷ Long ∷ UnsignedLong ∷ []

abbrev integer_of : ℕ → Integer
integer_of n = get_or integers n Char

integer-back : (i : Integer) → integer_of (integer_number i) ≡ i
integer-back Char = refl
integer-back SignedChar = refl
integer-back UnsignedChar = refl
integer-back Short = refl
integer-back UnsignedShort = refl
integer-back Int = refl
integer-back UnsignedInt = refl
integer-back Long = refl
integer-back UnsignedLong = refl

integer-is : (i j : Integer) → same_integer i j ≡ true → i ≡ j
integer-is i j h =
    sym (integer-back i) ∙ ap integer_of (eqb-true (integer_number i) (integer_number j) h) ∙ integer-back j

integer-itself : (i : Integer) → same_integer i i ≡ true
integer-itself i = eq-eqb (integer_number i) (integer_number i) refl

bool-is : (b c : Bool) → same_bool b c ≡ true → b ≡ c
bool-is true true h = refl
bool-is false false h = refl
bool-is b c h = cc

bool-itself : (b : Bool) → same_bool b b ≡ true
bool-itself true = refl
bool-itself false = refl

mutual
  pub same-is : (a b : CType) → same_type a b ≡ true → a ≡ b
  same-is void void h = refl
  same-is (integer i) (integer j) h = ap integer (integer-is i j h)
  same-is (pointer c a) (pointer d b) h =
      let p = and-parts (same_bool c d) (same_type a b) h in
      ap (λ x. pointer x a) (bool-is c d p.0) ∙ ap (pointer d) (same-is a b p.1)
  same-is (array a m) (array b n) h =
      let p = and-parts (nat_eq m n) (same_type a b) h in
      ap (λ x. array x m) (same-is a b p.1) ∙ ap (array b) (eqb-true m n p.0)
  same-is (unsized a) (unsized b) h = ap unsized (same-is a b h)
  same-is (struct m) (struct n) h = ap struct (eqb-true m n h)
  same-is (function r ps) (function s qs) h =
      let p = and-parts (same_type r s) (same_types ps qs) h in
      ap (λ x. function x ps) (same-is r s p.0) ∙ ap (function s) (sames-are ps qs p.1)
  same-is a b h = cc

  pub sames-are : (ps qs : CTypes) → same_types ps qs ≡ true → ps ≡ qs
  sames-are no_types no_types h = refl
  sames-are (more_types p ps) (more_types q qs) h =
      let r = and-parts (same_type p q) (same_types ps qs) h in
      ap (λ x. more_types x ps) (same-is p q r.0) ∙ ap (more_types q) (sames-are ps qs r.1)
  sames-are ps qs h = cc

mutual
  pub same-itself : (a : CType) → same_type a a ≡ true
  same-itself void = refl
  same-itself (integer i) = integer-itself i
  same-itself (pointer c a) = and-true (same_bool c c) (same_type a a) (bool-itself c) (same-itself a)
  same-itself (array a n) = and-true (nat_eq n n) (same_type a a) (eq-eqb n n refl) (same-itself a)
  same-itself (unsized a) = same-itself a
  same-itself (struct n) = eq-eqb n n refl
  same-itself (function r ps) = and-true (same_type r r) (same_types ps ps) (same-itself r) (sames-itself ps)

  pub sames-itself : (ps : CTypes) → same_types ps ps ≡ true
  sames-itself no_types = refl
  sames-itself (more_types p ps) = and-true (same_type p p) (same_types ps ps) (same-itself p) (sames-itself ps)

-- two numbers of one type are one

module _ (nodes : List TypeNode) (h : AreNodes nodes) where
  abbrev types : List CType
  types = built type_of_node nodes

  node-at : (t : TypeId) → t.0 < length nodes → slice_get nodes t.0 ≡ Some (get_or nodes t.0 node.Void)
  node-at t lt = slice_get-get_or nodes t.0 node.Void lt

  -- parts below k are told apart, so nodes of such parts are
  same-node : (k a b : ℕ) → ((t u : TypeId) → t.0 < k → u.0 < k → t.0 < length nodes → u.0 < length nodes → type_in types t ≡ type_in types u → t ≡ u) → a ≤ k → b ≤ k → a < length nodes → b < length nodes → (m n : TypeNode) → IsEarlier a m → IsEarlier b n → type_of_node types m ≡ type_of_node types n → m ≡ n
  same-node k a b parts la lb xa xb node.Void node.Void em en e = refl
  same-node k a b parts la lb xa xb (node.Integer i) (node.Integer j) em en e = let f : i ≡ j = cc in ap node.Integer f
  same-node k a b parts la lb xa xb (node.Pointer c t) (node.Pointer d u) em en e =
      let f : c ≡ d = cc in
      let g : type_in types t ≡ type_in types u = cc in
      let p = parts t u (omega arith) (omega arith) (omega arith) (omega arith) g in
      ap (λ x. node.Pointer x t) f ∙ ap (node.Pointer d) p
  same-node k a b parts la lb xa xb (node.Array t m) (node.Array u n) em en e =
      let f : m ≡ n = cc in
      let g : type_in types t ≡ type_in types u = cc in
      let p = parts t u (omega arith) (omega arith) (omega arith) (omega arith) g in
      ap (node.Array t) f ∙ ap (λ x. node.Array x n) p
  same-node k a b parts la lb xa xb (node.Struct m) (node.Struct n) em en e = let f : m ≡ n = cc in ap node.Struct f
  same-node k a b parts la lb xa xb m n em en e = cc

  told-apart : (k : ℕ) (t u : TypeId) → t.0 < k → u.0 < k → t.0 < length nodes → u.0 < length nodes → type_in types t ≡ type_in types u → t ≡ u
  told-apart zero t u lt lu xt xu e = absurd (omega arith)
  told-apart (suc k) t u lt lu xt xu e =
      let m = get_or nodes t.0 node.Void in
      let n = get_or nodes u.0 node.Void in
      let at = node-at t xt in
      let au = node-at u xu in
      let f : type_of_node types m ≡ type_of_node types n = sym (type-of-node nodes t.0 m h at) ∙ e ∙ type-of-node nodes u.0 n h au in
      let s = same-node k t.0 u.0 (told-apart k) (omega arith) (omega arith) xt xu m n (h.earlier t.0 m at) (h.earlier u.0 n au) f in
      same-number t u (h.different t.0 u.0 m at (au ∙ ap Some (sym s)))

  pub one-number : (t u : TypeId) → t.0 < length nodes → u.0 < length nodes → type_in types t ≡ type_in types u → t ≡ u
  one-number t u xt xu e = told-apart (length nodes) t u xt xu xt xu e

  pub same-by-number : (t u : TypeId) → t.0 < length nodes → u.0 < length nodes → nat_eq t.0 u.0 ≡ same_type (type_in types t) (type_in types u)
  same-by-number t u xt xu = by (nat_eq t.0 u.0) refl (same_type (type_in types t) (type_in types u)) refl
    where
      by : (b : Bool) → nat_eq t.0 u.0 ≡ b → (c : Bool) → same_type (type_in types t) (type_in types u) ≡ c → b ≡ c
      by true e true f = refl
      by false e false f = refl
      by true e false f =
          let s = same-number t u (eqb-true t.0 u.0 e) in
          let g = ap (λ x. same_type (type_in types t) (type_in types x)) s in
          let i = same-itself (type_in types t) in
          cc
      by false e true f =
          let s = one-number t u xt xu (same-is (type_in types t) (type_in types u) f) in
          let g = eq-eqb t.0 u.0 (ap (λ (x : TypeId). x.0) s) in
          cc
