-- Names, sizes of bounded types, and cells that lie one behind another.
use Rattle.std.proofs.Common.{◌≡◌, ℕ, zero, suc, ◌*◌, ◌<◌, ◌≤◌, nat_lt, List, [], ◌∷◌, length, Bool, true, false, refl, ap, ◌∙◌, subst, arith}
use Rattle.std.specs.Prelude.{Some, nat_eq, slice_get, if◌then◌else◌}
use Rattle.std.proofs.lemmas.Bool.{eqb-true, ltb-true}
use Rattle.im_num.specs.declared.kind.Kind.{Kind}
use Rattle.im_num.specs.declared.kind.Kind.TheVariants.{I8, U8, I16, U16, I32, U32, Ptr}
use Rattle.im_num.specs.Kinds.{kind_size}
use Rattle.im_word.specs.Words.{Name}
use Rattle.im_store.proofs.Same.{both-true}
use Rattle.im_ctype.specs.declared.cell.Cell.{Cell}
use Rattle.im_ctype.specs.Types.{CType, void, integer, pointer, array, unsized, struct, function, Structs, kind_of}
use Rattle.im_ctype.specs.Layout.{layout}
use Rattle.im_ctype.specs.Laws.{end_of}
use Rattle.im_ctype.proofs.Places.{Chained, Aligned, multiple-mod, sound, few-cells, length-repeated}
use Rattle.im_typed.specs.Typing.{Each, AreLaidOut, IsObject}
use Rattle.im_rules.specs.TypeTests.{same_name, is_complete_in, points_to_complete, target_of}
use Rattle.im_rules.specs.Scopes.{Entity, Scopes, nothing, opened, named, tagged, meaning}
use Rattle.im_rules.specs.Terms.{size_in}
use Rattle.im_rules_sound.specs.Sound.{MovesWell, IsSized}
use Rattle.im_rules_sound_expressions.specs.Bounded.{IsBounded, AreBoundedStructs, EachEntity}

-- names

pub same-name-is : (a b : Name) → same_name a b ≡ true → a ≡ b
same-name-is [] [] e = refl
same-name-is [] (y ∷ b) e = absurd (cc)
same-name-is (x ∷ a) [] e = absurd (cc)
same-name-is (x ∷ a) (y ∷ b) e =
    let both = both-true (nat_eq x y) (same_name a b) e in
    ap (λ z. z ∷ a) (eqb-true x y both.0) ∙ ap (λ z. y ∷ z) (same-name-is a b both.1)

-- what a name means has what each entity has
pub each-meaning : (P : Name → Entity → Type 0) (s : Scopes) (x : Name) (e : Entity) → EachEntity P s → meaning s x ≡ Some e → P x e
each-meaning P nothing x e h is = absurd (cc)
each-meaning P (opened s) x e h is = each-meaning P s x e h is
each-meaning P (tagged y t s) x e h is = each-meaning P s x e h is
each-meaning P (named y d s) x e h is = by-name (same_name y x) refl (λ k. each-meaning P s x e h.1 k) is
  where
    by-name : (b : Bool) → same_name y x ≡ b → (meaning s x ≡ Some e → P x e) → (if b then Some d else meaning s x) ≡ Some e → P x e
    by-name true same later k =
        let entity : d ≡ e = cc in
        subst (λ n. P n e) (same-name-is y x same) (subst (P y) entity h.0)
    by-name false same later k = later k

pub each-kept : (P Q : Name → Entity → Type 0) (s : Scopes) → ((x : Name) (e : Entity) → P x e → Q x e) → EachEntity P s → EachEntity Q s
each-kept P Q nothing k h = tt
each-kept P Q (opened s) k h = each-kept P Q s k h
each-kept P Q (tagged y t s) k h = each-kept P Q s k h
each-kept P Q (named y d s) k h = (k y d h.0, each-kept P Q s k h.1)

-- cells

pub kind-small : (k : Kind) → (0 < kind_size k) × (kind_size k ≤ 4)
kind-small I8 = (omega arith, omega arith)
kind-small U8 = (omega arith, omega arith)
kind-small I16 = (omega arith, omega arith)
kind-small U16 = (omega arith, omega arith)
kind-small I32 = (omega arith, omega arith)
kind-small U32 = (omega arith, omega arith)
kind-small Ptr = (omega arith, omega arith)

chained-laid : (a low high size : ℕ) (cs : List Cell) → Chained low high cs → Aligned a cs → high ≤ size → AreLaidOut low size cs
chained-laid a low high size [] h k le = omega (arith, h, le)
chained-laid a low high size (c ∷ cs) h k le = (h.0, multiple-mod (kind_size c.kind) c.offset k.1, chained-laid a (end_of c) high size cs h.1 k.2 le)

pub laid-out : (known : Structs) (t : CType) (size : ℕ) → size_in known t ≤ size → AreLaidOut 0 size (layout known t).cells
laid-out known t size le =
    let s = sound known t in
    chained-laid (layout known t).align 0 (layout known t).size size (layout known t).cells s.placed.chained s.placed.aligned le

-- sizes

pub sized-bounded : (known : Structs) (t : CType) → AreBoundedStructs known → IsBounded known t → is_complete_in known t ≡ true → IsSized known t
sized-bounded known void s b e = absurd (cc)
sized-bounded known (integer i) s b e = record { size = (let k = (kind-small (kind_of i)).1 in omega (arith, k)); struct = λ h. absurd (cc) }
sized-bounded known (pointer c t) s b e = record { size = omega arith; struct = λ h. absurd (cc) }
sized-bounded known (array t n) s b e = record { size = b.2; struct = λ h. absurd (cc) }
sized-bounded known (unsized t) s b e = absurd (cc)
sized-bounded known (function r ps) s b e = absurd (cc)
sized-bounded known (struct n) s b e =
    let lt = ltb-true n (length known) e in
    record { size = s.sizes n lt; struct = λ h. (refl, s.cells n lt, laid-out known (struct n) 1048576 (s.sizes n lt)) }

product : (a b : ℕ) → 0 < a → 0 < b → 0 < a * b
product zero b p q = absurd (omega (arith, p))
product (suc a) b p q = grind (arith, p, q)

-- an object of a complete type has a byte
pub some-bytes : (known : Structs) (t : CType) → AreBoundedStructs known → is_complete_in known t ≡ true → 0 < size_in known t
some-bytes known void s e = absurd (cc)
some-bytes known (integer i) s e = (kind-small (kind_of i)).0
some-bytes known (pointer c t) s e = omega arith
some-bytes known (array t n) s e =
    let both = both-true (nat_lt 0 n) (is_complete_in known t) e in
    let lt = ltb-true 0 n both.0 in
    product n (size_in known t) lt (some-bytes known t s both.1)
some-bytes known (unsized t) s e = absurd (cc)
some-bytes known (function r ps) s e = absurd (cc)
some-bytes known (struct n) s e =
    let k = s.cells n (ltb-true n (length known) e) in
    let l = few-cells known (struct n) in
    omega (arith, k, l)

pub moves-well : (known : Structs) (t : CType) → AreBoundedStructs known → IsBounded known t → MovesWell known t
moves-well known (pointer c t) s b = λ e. let z = sized-bounded known t s b e in (some-bytes known t s e, z.size)
moves-well known void s b = λ e. absurd (cc)
moves-well known (integer i) s b = λ e. absurd (cc)
moves-well known (array t n) s b = λ e. absurd (cc)
moves-well known (unsized t) s b = λ e. absurd (cc)
moves-well known (struct n) s b = λ e. absurd (cc)
moves-well known (function r ps) s b = λ e. absurd (cc)

pub target-sized : (known : Structs) (t : CType) → AreBoundedStructs known → IsBounded known t → points_to_complete known t ≡ true → IsSized known (target_of t)
target-sized known (pointer c t) s b e = sized-bounded known t s b e
target-sized known void s b e = absurd (cc)
target-sized known (integer i) s b e = absurd (cc)
target-sized known (array t n) s b e = absurd (cc)
target-sized known (unsized t) s b e = absurd (cc)
target-sized known (struct n) s b e = absurd (cc)
target-sized known (function r ps) s b e = absurd (cc)

pub target-bounded : (known : Structs) (t : CType) → IsBounded known t → IsBounded known (target_of t)
target-bounded known (pointer c t) b = b
target-bounded known void b = b
target-bounded known (integer i) b = b
target-bounded known (array t n) b = b
target-bounded known (unsized t) b = b
target-bounded known (struct n) b = b
target-bounded known (function r ps) b = b

pub each-at : {A : Type 0} (P : A → Type 0) (xs : List A) (i : ℕ) (x : A) → Each P xs → slice_get xs i ≡ Some x → P x
each-at P [] i x h is = absurd (cc)
each-at P (y ∷ xs) zero x h is =
    let same : y ≡ x = cc in
    subst P same h.0
each-at P (y ∷ xs) (suc i) x h is = each-at P xs i x h.1 is

-- and it has a cell
pub some-cells : (known : Structs) (t : CType) → AreBoundedStructs known → is_complete_in known t ≡ true → 0 < length (layout known t).cells
some-cells known void s e = absurd (cc)
some-cells known (integer i) s e = omega arith
some-cells known (pointer c t) s e = omega arith
some-cells known (array t n) s e =
    let both = both-true (nat_lt 0 n) (is_complete_in known t) e in
    let some = product n (length (layout known t).cells) (ltb-true 0 n both.0) (some-cells known t s both.1) in
    let l = length-repeated 0 n (layout known t) in
    omega (arith, some, l)
some-cells known (unsized t) s e = absurd (cc)
some-cells known (function r ps) s e = absurd (cc)
some-cells known (struct n) s e = s.cells n (ltb-true n (length known) e)

-- an object of a complete type is one of the language
pub complete-is-object : (known : Structs) (t : CType) → size_in known t ≤ 1048576 → IsObject (layout known t).size (layout known t).cells
complete-is-object known t le = (le, laid-out known t (size_in known t) (omega arith))
