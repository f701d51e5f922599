-- Members and items one by one, and the string literals that stand in them.
use Rattle.std.proofs.Common.{◌≡◌, ℕ, zero, suc, ◌+◌, ◌<◌, ◌≤◌, List, [], ◌∷◌, ◌++◌, length, drop, get_or, refl, sym, ap, ◌∙◌, arith, length-append, true, false, if◌then◌else◌}
use Rattle.std.specs.Prelude.{slice_get, Option, Some, None}
use Rattle.std.proofs.lemmas.List.{drop_more}
use Rattle.std.proofs.lemmas.Option.{slice_get_read, slice_get_past}
use Rattle.im_check_shapes.specs.im_word.Words.{Name}
use Rattle.im_ctree.specs.declared.declaration.Initializer as ini
use Rattle.im_ctree.specs.Shape.{initializer_of}
use Rattle.im_ctree.specs.Tree as t
use Rattle.im_ctype.specs.declared.member.Member as rust
use Rattle.im_ctype.specs.Table.{Table, members_at, members_in, structs_of, type_in, types_of}
use Rattle.im_ctype.specs.Types.{CType, void, Member, Structs, members_of}
use Rattle.im_ctype.proofs.Steps.{plain-members}
use Rattle.im_check_shapes.specs.im_rules.Initialisers.{Slots, in_order, first_slot, other_slots, slots_of, strings_given, strings_among}
use Rattle.im_check_shapes.specs.im_rules.Rules.{is_string_for}
use Rattle.im_check_shapes.specs.im_rules.Strings.{strings_in}
use Rattle.im_ctree_parts.specs.Lists.{initializers_from}
use Rattle.im_check_shapes.proofs.Falls.{size_of, sizes_of}

abbrev slot_type : List CType → Option rust.Member → CType
slot_type types None = void
slot_type types (Some m) = type_in types m.ty

slot : (types : List CType) (ms : List rust.Member) (i : ℕ) → first_slot (in_order (drop i (members_in types ms))) ≡ slot_type types (slice_get ms i)
slot types [] zero = refl
slot types [] (suc i) = refl
slot types (x ∷ xs) zero = refl
slot types (x ∷ xs) (suc i) = slot types xs i

slot_of : (g : Table) (n i : ℕ) → first_slot (in_order (drop i (members_of (structs_of g) n))) ≡ slot_type (types_of g) (slice_get (members_at g n) i)
slot_of g n i = ap (λ (ms : List Member). first_slot (in_order (drop i ms))) (plain-members g n) ∙ slot (types_of g) (members_at g n) i

-- the member at a place, and void past them
member_there : (g : Table) (n i : ℕ) (m : rust.Member) → slice_get (members_at g n) i ≡ Some m → type_in (types_of g) m.ty ≡ first_slot (in_order (drop i (members_of (structs_of g) n)))
member_there g n i m h = sym (slot_of g n i ∙ ap (slot_type (types_of g)) h)

member_past : (g : Table) (n i : ℕ) → slice_get (members_at g n) i ≡ None → void ≡ first_slot (in_order (drop i (members_of (structs_of g) n)))
member_past g n i h = sym (slot_of g n i ∙ ap (slot_type (types_of g)) h)

pub slot_there : (g : Table) (n i : ℕ) (ms : List rust.Member) (m : rust.Member) → ms ≡ members_at g n → i < length ms → m ≡ get_or ms i m → type_in (types_of g) m.ty ≡ first_slot (in_order (drop i (members_of (structs_of g) n)))
slot_there g n i ms m same within is =
    member_there g n i m (ap (λ (xs : List rust.Member). slice_get xs i) (sym same) ∙ slice_get_read ms (length ms) i m refl within is)

pub slot_past : (g : Table) (n i : ℕ) (ms : List rust.Member) → ms ≡ members_at g n → length ms ≤ i → void ≡ first_slot (in_order (drop i (members_of (structs_of g) n)))
slot_past g n i ms same past =
    member_past g n i (ap (λ (xs : List rust.Member). slice_get xs i) (sym same) ∙ slice_get_past ms i past)

others : (ms : List Member) (i : ℕ) → other_slots (in_order (drop i ms)) ≡ in_order (drop (suc i) ms)
others [] zero = refl
others [] (suc i) = refl
others (m ∷ ms) zero = refl
others (m ∷ ms) (suc i) = others ms i

pub others_on : (ms : List Member) (i : ℕ) → other_slots (in_order (drop i ms)) ≡ in_order (drop (i + 1) ms)
others_on ms i =
    let e : suc i ≡ i + 1 = omega arith in
    others ms i ∙ ap (λ k. in_order (drop k ms)) e

pub items_from : (xs : List ini.Initializer) (i : ℕ) (x : ini.Initializer) → i < length xs → x ≡ get_or xs i x → drop i xs ≡ x ∷ drop (i + 1) xs
items_from xs i x within is = drop_more xs i x within ∙ ap (λ y. y ∷ drop (i + 1) xs) (sym is)

passed : (done end whole : ℕ) (ss : List Name) (rest : List Name) → done + length (ss ++ rest) ≡ whole → end ≡ done + length ss → end + length rest ≡ whole
passed done end whole ss rest e f = omega (arith, length-append ss rest)

abbrev left : Structs → Slots → List ini.Initializer → ℕ
left known k is = length (strings_among known k (initializers_from is))

-- one member more
pub member_more : (known : Structs) (ms : List Member) (xs : List ini.Initializer) (i j done end whole : ℕ) (x : ini.Initializer) (a : CType) → i < length xs → x ≡ get_or xs i x
    → a ≡ first_slot (in_order (drop j ms))
    → done + left known (in_order (drop j ms)) (drop i xs) ≡ whole
    → end ≡ done + length (strings_given known a (initializer_of x))
    → end + left known (in_order (drop (j + 1) ms)) (drop (i + 1) xs) ≡ whole
member_more known ms xs i j done end whole x a within is there so_far this =
    let e = ap (λ z. done + left known (in_order (drop j ms)) z) (items_from xs i x within is) in
    let given : end ≡ done + length (strings_given known (first_slot (in_order (drop j ms))) (initializer_of x)) =
    this ∙ ap (λ b. done + length (strings_given known b (initializer_of x))) there in
    let on = passed done end whole (strings_given known (first_slot (in_order (drop j ms))) (initializer_of x)) (strings_among known (other_slots (in_order (drop j ms))) (initializers_from (drop (i + 1) xs))) (sym e ∙ so_far) given in
    ap (λ k. end + left known k (drop (i + 1) xs)) (sym (others_on ms j)) ∙ on

-- an initialiser by its form

pub of_string : (known : Structs) (a : CType) (i : t.Initializer) → is_string_for a i ≡ true → strings_given known a i ≡ []
of_string known a (t.value_initializer e) h = ap (λ b. if b then [] else strings_in e) h
of_string known a (t.braced_initializer at is) h = ap (λ b. if b then [] else strings_among known (slots_of known a) is) h

pub of_value : (known : Structs) (a : CType) (e : t.Expression) → is_string_for a (t.value_initializer e) ≡ false → strings_given known a (t.value_initializer e) ≡ strings_in e
of_value known a e h = ap (λ b. if b then [] else strings_in e) h

pub of_list : (known : Structs) (a : CType) (at : ℕ) (is : t.Initializers) → is_string_for a (t.braced_initializer at is) ≡ false → strings_given known a (t.braced_initializer at is) ≡ strings_among known (slots_of known a) is
of_list known a at is h = ap (λ b. if b then [] else strings_among known (slots_of known a) is) h

-- an initialiser is no larger than all of a list
pub fits_in : (xs : List ini.Initializer) (i : ℕ) (x : ini.Initializer) → i < length xs → x ≡ get_or xs i x → size_of (initializer_of x) ≤ sizes_of (initializers_from xs)
fits_in [] i x within is = absurd (omega arith)
fits_in (y ∷ ys) zero x within is =
    let e : size_of (initializer_of x) ≡ size_of (initializer_of y) = ap (λ (z : ini.Initializer). size_of (initializer_of z)) is in
    let d : sizes_of (initializers_from (y ∷ ys)) ≡ size_of (initializer_of y) + sizes_of (initializers_from ys) = refl in
    omega (arith, e, d)
fits_in (y ∷ ys) (suc i) x within is =
    let h : size_of (initializer_of x) ≤ sizes_of (initializers_from ys) = fits_in ys i x (omega arith) is in
    let d : sizes_of (initializers_from (y ∷ ys)) ≡ size_of (initializer_of y) + sizes_of (initializers_from ys) = refl in
    omega (arith, h, d)
