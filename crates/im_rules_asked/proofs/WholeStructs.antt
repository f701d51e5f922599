-- Each member of a struct whose list has ended has a complete type, so an initialiser of an object that rule 16 doesn't refuse
-- has a shape, and what stands in its braces has a place.
use Rattle.std.proofs.Common.{◌≡◌, ◌≤◌, ℕ, zero, suc, Bool, true, false, ◌&&◌, ◌||◌, nat_lt, List, [], ◌∷◌, ◌++◌, length, length-append, Some, refl, ap, subst, arith}
use Rattle.std.specs.Prelude.{if◌then◌else◌}
use Rattle.std.proofs.lemmas.Bool.Decides.{nat_tests}
use Rattle.im_rules.specs.im_ctree.Tree as t
use Rattle.im_rules.specs.im_ctype.Types.{CType, void, integer, pointer, array, unsized, struct, function, Member, Structs, members_of, is_complete, is_function}
use Rattle.im_rules.specs.im_ctype.Layout.{Layout, empty_layout, layout_in, layouts, with_member}
use Rattle.im_rules.specs.im_ctype.Members.{places_from, places}
use Rattle.im_rules.specs.Rules.{initializer_count, is_string_for, is_list_for, is_one_expression, rule_16}
use Rattle.im_rules.specs.Initialisers.{elements, members, misshapen, shape, string_shape, one_shape, element_shape, struct_shape}
use Rattle.im_rules_asked.proofs.Counting.{most_of}
use Rattle.im_rules_asked.proofs.RightBodies.{is_list, no_elements, no_members}

-- where so many structs have their member lists
abbrev pub AreWhole : ℕ → List Member → Type 0
AreWhole k [] = Unit {0}
AreWhole k (m ∷ ms) = (is_complete k m.type ≡ true) × AreWhole k ms

abbrev pub HasWhole : ℕ → Structs → Type 0
HasWhole k known = (n : ℕ) → AreWhole k (members_of known n)

abbrev pub IsWhole : Structs → Type 0
IsWhole known = HasWhole (length known) known

-- with more structs

less : (k l n : ℕ) → k ≤ l → nat_lt n k ≡ true → nat_lt n l ≡ true
less k l n h p = grind (arith, nat_tests)

both_true : (a b c : Bool) → (b ≡ true → c ≡ true) → (a && b) ≡ true → (a && c) ≡ true
both_true true b c f p = f p
both_true false b c f p = p

complete_more : (k l : ℕ) (a : CType) → k ≤ l → is_complete k a ≡ true → is_complete l a ≡ true
complete_more k l void h p = p
complete_more k l (integer i) h p = p
complete_more k l (pointer c a) h p = p
complete_more k l (array a n) h p =
    both_true (nat_lt 0 n) (is_complete k a) (is_complete l a) (λ q. complete_more k l a h q) p
complete_more k l (unsized a) h p = p
complete_more k l (struct n) h p = less k l n h p
complete_more k l (function r ps) h p = p

pub whole_more : (k l : ℕ) (ms : List Member) → k ≤ l → AreWhole k ms → AreWhole l ms
whole_more k l [] h w = tt
whole_more k l (m ∷ ms) h w = (complete_more k l m.type h w.0, whole_more k l ms h w.1)

pub whole_both : (k : ℕ) (ms ns : List Member) → AreWhole k ms → AreWhole k ns → AreWhole k (ms ++ ns)
whole_both k [] ns v w = w
whole_both k (m ∷ ms) ns v w = (v.0, whole_both k ms ns v.1 w)

last_whole : (k : ℕ) (known : Structs) (ms : List Member) → HasWhole k known → AreWhole k ms
    → HasWhole k (known ++ ms ∷ [])
last_whole k [] ms w v zero = v
last_whole k [] ms w v (suc n) = tt
last_whole k (x ∷ known) ms w v zero = w zero
last_whole k (x ∷ known) ms w v (suc n) = last_whole k known ms (λ i. w (suc i)) v n

pub one_more : (known : Structs) (ms : List Member) → length known ≤ length (known ++ ms ∷ [])
one_more known ms = let l = length-append known (ms ∷ []) in omega (arith, l)

pub struct_whole : (known : Structs) (ms : List Member) → IsWhole known → AreWhole (length known) ms
    → IsWhole (known ++ ms ∷ [])
struct_whole known ms w v =
    let k = length known in
    let l = length (known ++ ms ∷ []) in
    last_whole l known ms (λ n. whole_more k l (members_of known n) (one_more known ms) (w n))
    (whole_more k l ms (one_more known ms) v)

-- an object that an initialiser gives is complete, or rule 16 refuses that of a function

abbrev pub is_fit : ℕ → CType → Bool
is_fit k a = is_complete k a || is_function a

pub complete_fit : (k : ℕ) (a : CType) → is_complete k a ≡ true → is_fit k a ≡ true
complete_fit k a p = ap (λ b. b || is_function a) p

element_complete : (a b : Bool) → ((a && b) || false) ≡ true → b ≡ true
element_complete true true p = refl
element_complete true false p = absurd (cc)
element_complete false b p = absurd (cc)

element_fit : (k : ℕ) (e : CType) (n : ℕ) → is_fit k (array e n) ≡ true → is_fit k e ≡ true
element_fit k e n p = complete_fit k e (element_complete (nat_lt 0 n) (is_complete k e) p)

-- the shape of what is in braces

one_no_list : (k : ℕ) (is : t.Initializers) → is_list (one_shape (t.braced_initializer k is)) ≡ false
one_no_list k t.no_initializers = refl
one_no_list k (t.more_initializers (t.value_initializer e) t.no_initializers) = refl
one_no_list k (t.more_initializers (t.value_initializer e) (t.more_initializers i is)) = refl
one_no_list k (t.more_initializers (t.braced_initializer j js) is) = refl

string_no_list : (e : CType) (k : ℕ) (is : t.Initializers)
    → is_list (string_shape e (t.braced_initializer k is)) ≡ false
string_no_list e k t.no_initializers = refl
string_no_list e k (t.more_initializers (t.value_initializer (t.string_literal at s)) t.no_initializers) =
    refl
string_no_list e k (t.more_initializers (t.value_initializer (t.string_literal at s)) (t.more_initializers i is)) =
    refl
string_no_list e k (t.more_initializers (t.value_initializer x) is) = refl
string_no_list e k (t.more_initializers (t.braced_initializer j js) is) = refl

-- elements of an array are fit where it is

array_elements : (b : Bool) (m k : ℕ) (is js : t.Initializers) (e x : CType)
    → (if b then string_shape e (t.braced_initializer k is) else elements e is) ≡ elements x js
    → is_fit m e ≡ true → is_fit m x ≡ true
array_elements true m k is js e x p q = absurd (no_elements (string_no_list e k is) p)
array_elements false m k is js e x p q = let same : e ≡ x = cc in subst (λ z. is_fit m z ≡ true) same q

pub elements_fit : (m : ℕ) (a : CType) (k : ℕ) (is js : t.Initializers) (x : CType)
    → shape a (t.braced_initializer k is) ≡ elements x js
    → is_fit m a ≡ true → is_fit m x ≡ true
elements_fit m void k is js x p q = absurd (cc)
elements_fit m (integer i) k is js x p q = absurd (no_elements (one_no_list k is) p)
elements_fit m (pointer c a) k is js x p q = absurd (no_elements (one_no_list k is) p)
elements_fit m (array e n) k is js x p q =
    array_elements (is_string_for (array e n) (t.braced_initializer k is)) m k is js e x p
    (element_fit m e n q)
elements_fit m (unsized e) k is js x p q = absurd (cc)
elements_fit m (struct n) k is js x p q = absurd (cc)
elements_fit m (function r ps) k is js x p q = absurd (cc)

-- no more stand in braces than the struct has members

array_members : (b : Bool) (e : CType) (k : ℕ) (is js : t.Initializers) (m : ℕ)
    → (if b then string_shape e (t.braced_initializer k is) else elements e is) ≡ members m js → ⊥
array_members true e k is js m p = no_members (string_no_list e k is) p
array_members false e k is js m p = cc

pub members_few : (known : Structs) (a : CType) (k : ℕ) (is js : t.Initializers) (m : ℕ)
    → shape a (t.braced_initializer k is) ≡ members m js
    → rule_16 known a (t.braced_initializer k is) ≡ true
    → initializer_count is ≤ length (members_of known m)
members_few known void k is js m p q = absurd (cc)
members_few known (integer i) k is js m p q = absurd (no_members (one_no_list k is) p)
members_few known (pointer c a) k is js m p q = absurd (no_members (one_no_list k is) p)
members_few known (array e n) k is js m p q =
    absurd (array_members (is_string_for (array e n) (t.braced_initializer k is)) e k is js m p)
members_few known (unsized e) k is js m p q = absurd (cc)
members_few known (struct n) k is js m p q =
    let same : n ≡ m = cc in
    subst (λ (z : ℕ). initializer_count is ≤ length (members_of known z)) same
    (most_of (initializer_count is) (length (members_of known n)) q)
members_few known (function r ps) k is js m p q = absurd (cc)

many_places : (done : List Layout) (ms : List Member) (l : Layout) → length (places_from done ms l) ≡ length ms
many_places done [] l = refl
many_places done (m ∷ ms) l = ap suc (many_places done ms (with_member l (layout_in done m.type)))

-- each member has a place
pub places_many : (known : Structs) (n : ℕ) → length (places known n) ≡ length (members_of known n)
places_many known n = many_places (layouts known) (members_of known n) empty_layout

-- what rule 16 doesn't refuse has a shape

one_shaped : (i : t.Initializer) → is_one_expression i ≡ true → one_shape i ≡ misshapen → ⊥
one_shaped (t.value_initializer e) p q = cc
one_shaped (t.braced_initializer k t.no_initializers) p q = cc
one_shaped (t.braced_initializer k (t.more_initializers (t.value_initializer e) t.no_initializers)) p q =
    cc
one_shaped (t.braced_initializer k (t.more_initializers (t.value_initializer e) (t.more_initializers i is))) p q =
    cc
one_shaped (t.braced_initializer k (t.more_initializers (t.braced_initializer j js) is)) p q = cc

string_shaped : (e : CType) (n : ℕ) (i : t.Initializer) → is_string_for (array e n) i ≡ true
    → string_shape e i ≡ misshapen → ⊥
string_shaped e n (t.value_initializer (t.string_literal at s)) p q = cc
string_shaped e n (t.value_initializer x) p q = cc
string_shaped e n (t.braced_initializer k t.no_initializers) p q = cc
string_shaped e n (t.braced_initializer k (t.more_initializers (t.value_initializer (t.string_literal at s)) t.no_initializers)) p q =
    cc
string_shaped e n (t.braced_initializer k (t.more_initializers (t.value_initializer (t.string_literal at s)) (t.more_initializers i is))) p q =
    cc
string_shaped e n (t.braced_initializer k (t.more_initializers (t.value_initializer x) is)) p q = cc
string_shaped e n (t.braced_initializer k (t.more_initializers (t.braced_initializer j js) is)) p q =
    cc

list_shaped : (e : CType) (n : ℕ) (i : t.Initializer) → is_list_for (Some n) i ≡ true
    → element_shape e i ≡ misshapen → ⊥
list_shaped e n (t.value_initializer x) p q = cc
list_shaped e n (t.braced_initializer k is) p q = cc

array_shaped : (e : CType) (n : ℕ) (i : t.Initializer) (u b : Bool) → is_string_for (array e n) i ≡ b
    → (if u then b else is_list_for (Some n) i) ≡ true
    → (if b then string_shape e i else element_shape e i) ≡ misshapen → ⊥
array_shaped e n i u true s p q = string_shaped e n i s q
array_shaped e n i true false s p q = cc
array_shaped e n i false false s p q = list_shaped e n i p q

struct_shaped : (n : ℕ) (i : t.Initializer) → struct_shape n i ≡ misshapen → ⊥
struct_shaped n (t.value_initializer e) q = cc
struct_shaped n (t.braced_initializer k is) q = cc

pub has_shape : (known : Structs) (m : ℕ) (a : CType) (i : t.Initializer) → is_fit m a ≡ true
    → rule_16 known a i ≡ true → shape a i ≡ misshapen → ⊥
has_shape known m void i f p q = cc
has_shape known m (integer j) i f p q = one_shaped i p q
has_shape known m (pointer c a) i f p q = one_shaped i p q
has_shape known m (array e n) i f p q =
    array_shaped e n i (is_string_for (unsized e) i) (is_string_for (array e n) i) refl p q
has_shape known m (unsized e) i f p q = cc
has_shape known m (struct n) i f p q = struct_shaped n i q
has_shape known m (function r ps) i f p q = cc
