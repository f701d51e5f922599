-- The sizes that count of a type and of a struct: the list has those that the relation has.
use Rattle.std.proofs.Common.{◌≡◌, ◌⊎◌, inl, inr, ◌≤◌, ℕ, zero, suc, List, [], ◌∷◌, refl, sym, subst, Bool, true, false, nat_le, arith}
use Rattle.std.specs.List.{Contains}
use Rattle.std.proofs.lemmas.List.Elements.{Contains-append_left, Contains-append_right, Contains-append_cases}
use Rattle.std.proofs.lemmas.Bool.Decides.{nat_tests}
use Rattle.im_rules.specs.im_ctype.Types.{CType, void, integer, pointer, array, unsized, struct, function, Member, Structs}
use Rattle.im_rules.specs.Terms.{size_in}
use Rattle.im_rules_limits.specs.Limits.{size_limit, size_of_element, Counted, own_size, size_in_element, AreMembersWithin}
use Rattle.im_rules_asked.specs.Sizes.{is_within, where_within, counted, members_counted, are_within, struct_counted}
use Rattle.im_rules_asked.proofs.Right.{left, right, joined}

pub most_of : (a b : ℕ) → nat_le a b ≡ true → a ≤ b
most_of a b h = grind (arith, nat_tests)

pub most_is : (a b : ℕ) → a ≤ b → nat_le a b ≡ true
most_is a b h = grind (arith, nat_tests)

-- one element

pub itself : (n : ℕ) (ns : List ℕ) → Contains (n ∷ ns) n
itself n ns = (0, omega arith, refl)

pub only_one : (n k : ℕ) → Contains (n ∷ []) k → n ≡ k
only_one n k (zero, below, same) = same
only_one n k (suc i, below, same) = absurd (omega arith)

pub here_counted : (h : Bool) (n : ℕ) → h ≡ true → Contains (where_within h n) n
here_counted true n p = itself n []
here_counted false n p = absurd (cc)

pub of_counted : (h : Bool) (n k : ℕ) → Contains (where_within h n) k → (h ≡ true) × (n ≡ k)
of_counted true n k c = (refl, only_one n k c)
of_counted false n k c = let below = c.1 in absurd (omega arith)

-- types

pub counted_is : (known : Structs) (a : CType) {k : ℕ} → Counted known a k → Contains (counted known a) k
counted_is known void (own_size w) = itself (size_in known void) []
counted_is known (integer i) (own_size w) = itself (size_in known (integer i)) []
counted_is known (pointer c a) (own_size w) = itself (size_in known (pointer c a)) []
counted_is known (array e n) (own_size w) =
    Contains-append_right (counted known e)
    (where_within (is_within (size_in known e)) (size_in known (array e n)))
    (size_in known (array e n))
    (here_counted (is_within (size_in known e)) (size_in known (array e n))
    (most_is (size_in known e) size_limit w))
counted_is known (array e n) {k = k} (size_in_element h) =
    Contains-append_left (counted known e)
    (where_within (is_within (size_in known e)) (size_in known (array e n))) k
    (counted_is known e h)
counted_is known (unsized e) (own_size w) = itself (size_in known (unsized e)) []
counted_is known (struct n) (own_size w) = itself (size_in known (struct n)) []
counted_is known (function r ps) (own_size w) = itself (size_in known (function r ps)) []

plain_counted : (known : Structs) (a : CType) {k : ℕ} → size_of_element known a ≤ size_limit
    → Contains (size_in known a ∷ []) k → Counted known a k
plain_counted known a {k = k} w c =
    subst (λ z. Counted known a z) (only_one (size_in known a) k c) (own_size w)

array_counted : (known : Structs) (e : CType) (n : ℕ) {k : ℕ}
    → (Contains (counted known e) k → Counted known e k)
    → Contains (counted known e) k ⊎ Contains (where_within (is_within (size_in known e)) (size_in known (array e n))) k
    → Counted known (array e n) k
array_counted known e n f (inl c) = size_in_element (f c)
array_counted known e n {k = k} f (inr c) =
    let p = of_counted (is_within (size_in known e)) (size_in known (array e n)) k c in
    subst (λ z. Counted known (array e n) z) p.1
    (own_size (most_of (size_in known e) size_limit p.0))

pub is_counted : (known : Structs) (a : CType) {k : ℕ} → Contains (counted known a) k → Counted known a k
is_counted known void c = plain_counted known void (omega arith) c
is_counted known (integer i) c = plain_counted known (integer i) (omega arith) c
is_counted known (pointer q a) c = plain_counted known (pointer q a) (omega arith) c
is_counted known (array e n) {k = k} c =
    array_counted known e n (λ d. is_counted known e d) (Contains-append_cases (counted known e)
    (where_within (is_within (size_in known e)) (size_in known (array e n))) k c)
is_counted known (unsized e) c = plain_counted known (unsized e) (omega arith) c
is_counted known (struct n) c = plain_counted known (struct n) (omega arith) c
is_counted known (function r ps) c = plain_counted known (function r ps) (omega arith) c

-- members

within_all : (known : Structs) (ms : List Member) → AreMembersWithin known ms → are_within known ms ≡ true
within_all known [] h = refl
within_all known (m ∷ ms) h =
    joined (is_within (size_in known m.type)) (are_within known ms)
    (most_is (size_in known m.type) size_limit (h m (0, omega arith, refl)))
    (within_all known ms (λ x c. h x (Contains-append_right (m ∷ []) ms x c)))

all_within : (known : Structs) (ms : List Member) → are_within known ms ≡ true
    → (m : Member) → Contains ms m → size_in known m.type ≤ size_limit
all_within known [] p m c = let below = c.1 in absurd (omega arith)
all_within known (x ∷ ms) p m (zero, below, same) =
    subst (λ (z : Member). size_in known z.type ≤ size_limit) same
    (most_of (size_in known x.type) size_limit (left (is_within (size_in known x.type)) (are_within known ms) p))
all_within known (x ∷ ms) p m (suc i, below, same) =
    all_within known ms (right (is_within (size_in known x.type)) (are_within known ms) p) m
    (i, omega arith, same)

members_in : (known : Structs) (ms : List Member) (m : Member) (k : ℕ) → Contains ms m
    → Contains (counted known m.type) k → Contains (members_counted known ms) k
members_in known [] m k c h = let below = c.1 in absurd (omega arith)
members_in known (x ∷ ms) m k (zero, below, same) h =
    Contains-append_left (counted known x.type) (members_counted known ms) k
    (subst (λ (z : Member). Contains (counted known z.type) k) (sym same) h)
members_in known (x ∷ ms) m k (suc i, below, same) h =
    Contains-append_right (counted known x.type) (members_counted known ms) k
    (members_in known ms m k (i, omega arith, same) h)

-- a member that has the size
abbrev pub HasMember : Structs → List Member → ℕ → Type 0
HasMember known ms k = (m : Member) × Contains ms m × Counted known m.type k

behind_one : (known : Structs) (x : Member) (ms : List Member) {k : ℕ} → HasMember known ms k → HasMember known (x ∷ ms) k
behind_one known x ms h = (h.0, Contains-append_right (x ∷ []) ms h.0 h.1, h.2)

member_of : (known : Structs) (x : Member) (ms : List Member) {k : ℕ}
    → (Contains (members_counted known ms) k → HasMember known ms k)
    → Contains (counted known x.type) k ⊎ Contains (members_counted known ms) k
    → HasMember known (x ∷ ms) k
member_of known x ms f (inl c) = (x, (0, omega arith, refl), is_counted known x.type c)
member_of known x ms f (inr c) = behind_one known x ms (f c)

members_of : (known : Structs) (ms : List Member) {k : ℕ} → Contains (members_counted known ms) k → HasMember known ms k
members_of known [] c = let below = c.1 in absurd (omega arith)
members_of known (x ∷ ms) {k = k} c =
    member_of known x ms (λ d. members_of known ms d)
    (Contains-append_cases (counted known x.type) (members_counted known ms) k c)

-- structs

pub struct_own : (known : Structs) (ms : List Member) (n : ℕ) → AreMembersWithin known ms
    → Contains (struct_counted known ms n) (size_in known (struct n))
struct_own known ms n h =
    Contains-append_right (members_counted known ms)
    (where_within (are_within known ms) (size_in known (struct n))) (size_in known (struct n))
    (here_counted (are_within known ms) (size_in known (struct n)) (within_all known ms h))

pub struct_member : (known : Structs) (ms : List Member) (n : ℕ) (m : Member) {k : ℕ} → Contains ms m
    → Counted known m.type k → Contains (struct_counted known ms n) k
struct_member known ms n m {k = k} c h =
    Contains-append_left (members_counted known ms)
    (where_within (are_within known ms) (size_in known (struct n))) k
    (members_in known ms m k c (counted_is known m.type h))

-- a member has the size, or the struct itself
pub data StructHas (known : Structs) (ms : List Member) (n : ℕ) : ℕ → Type 0 where
  a_member_has : {k : ℕ} (m : Member) → Contains ms m → Counted known m.type k → StructHas known ms n k
  struct_has : AreMembersWithin known ms → StructHas known ms n (size_in known (struct n))

either_has : (known : Structs) (ms : List Member) (n : ℕ) {k : ℕ}
    → Contains (members_counted known ms) k ⊎ Contains (where_within (are_within known ms) (size_in known (struct n))) k
    → StructHas known ms n k
either_has known ms n (inl c) = let h = members_of known ms c in a_member_has h.0 h.1 h.2
either_has known ms n {k = k} (inr c) =
    let p = of_counted (are_within known ms) (size_in known (struct n)) k c in
    subst (λ z. StructHas known ms n z) p.1 (struct_has (λ m d. all_within known ms p.0 m d))

pub of_struct_counted : (known : Structs) (ms : List Member) (n : ℕ) {k : ℕ} → Contains (struct_counted known ms n) k
    → StructHas known ms n k
of_struct_counted known ms n {k = k} c =
    either_has known ms n (Contains-append_cases (members_counted known ms)
    (where_within (are_within known ms) (size_in known (struct n))) k c)
