-- What the rule on members says of a struct that has the member, and of one that hasn't.
use Rattle.std.proofs.Common.{◌≡◌, Bool, true, false, not, ◌&&◌, nat_lt, length, refl, ap, ◌∙◌}
use Rattle.std.proofs.lemmas.Bool.{false≢true}
use Rattle.im_check_conversions.specs.im_word.Words.{Name}
use Rattle.im_ctype.specs.Types.{CType, void, integer, pointer, array, unsized, struct, function, Structs, members_of, is_array}
use Rattle.im_typed.specs.Program.{Expr, Place}
use Rattle.im_check_conversions.specs.im_rules.Rules.{rule_21_dot, rule_21_arrow}
use Rattle.im_check_conversions.specs.im_rules.Conversions.{member_among, struct_number}
use Rattle.im_check_conversions.specs.im_rules.Terms.{Term, lvalue, value, value_of, operand_of}
use Rattle.im_check_conversions.specs.im_rules.TypeTests.{has_member, members_in}
use Rattle.im_check_members.proofs.Named.{find-some, find-none, has-complete}

and-false : (b : Bool) → (b && false) ≡ false
and-false true = refl
and-false false = refl

pub lvalue-dot : (known : Structs) (k : Bool) (t : CType) (p : Place) (x : Name) → has_member x (members_in known t) ≡ true → rule_21_dot known (operand_of (lvalue k t p)) x ≡ true
lvalue-dot known k void p x h = absurd (false≢true h)
lvalue-dot known k (integer i) p x h = absurd (false≢true h)
lvalue-dot known k (pointer c t) p x h = absurd (false≢true h)
lvalue-dot known k (array t n) p x h = absurd (false≢true h)
lvalue-dot known k (unsized t) p x h = absurd (false≢true h)
lvalue-dot known k (function r ps) p x h = absurd (false≢true h)
lvalue-dot known k (struct n) p x h = rw (find-some x (members_of known n) h) refl

pub lvalue-none : (known : Structs) (k : Bool) (t : CType) (p : Place) (x : Name) → has_member x (members_in known t) ≡ false → rule_21_dot known (operand_of (lvalue k t p)) x ≡ false
lvalue-none known k void p x h = refl
lvalue-none known k (integer i) p x h = refl
lvalue-none known k (pointer c t) p x h = refl
lvalue-none known k (array t n) p x h = refl
lvalue-none known k (unsized t) p x h = refl
lvalue-none known k (function r ps) p x h = refl
lvalue-none known k (struct n) p x h = rw (find-none x (members_of known n) h) refl

pub value-none : (known : Structs) (t : CType) (e : Expr) (x : Name) → has_member x (members_in known t) ≡ false → rule_21_dot known (operand_of (value (record { type = t; expr = e }))) x ≡ false
value-none known void e x h = refl
value-none known (integer i) e x h = refl
value-none known (pointer c t) e x h = refl
value-none known (array t n) e x h = refl
value-none known (unsized t) e x h = refl
value-none known (function r ps) e x h = refl
value-none known (struct n) e x h = rw (find-none x (members_of known n) h) refl

-- of a value a member is taken that is no array
pub value-dot : (known : Structs) (t : CType) (e : Expr) (x : Name) (b : Bool) → has_member x (members_in known t) ≡ true → is_array (member_among x (members_of known (struct_number t))).type ≡ b → rule_21_dot known (operand_of (value (record { type = t; expr = e }))) x ≡ not b
value-dot known void e x b h a = absurd (false≢true h)
value-dot known (integer i) e x b h a = absurd (false≢true h)
value-dot known (pointer c t) e x b h a = absurd (false≢true h)
value-dot known (array t n) e x b h a = absurd (false≢true h)
value-dot known (unsized t) e x b h a = absurd (false≢true h)
value-dot known (function r ps) e x b h a = absurd (false≢true h)
value-dot known (struct n) e x b h a = rw (find-some x (members_of known n) h) (ap not a)

pub arrow-has : (known : Structs) (c : Bool) (t : CType) (e : Expr) (x : Name) → has_member x (members_in known t) ≡ true → rule_21_arrow known (operand_of (value (record { type = pointer c t; expr = e }))) x ≡ true
arrow-has known c void e x h = absurd (false≢true h)
arrow-has known c (integer i) e x h = absurd (false≢true h)
arrow-has known c (pointer k t) e x h = absurd (false≢true h)
arrow-has known c (array t n) e x h = absurd (false≢true h)
arrow-has known c (unsized t) e x h = absurd (false≢true h)
arrow-has known c (function r ps) e x h = absurd (false≢true h)
arrow-has known c (struct n) e x h = rw (has-complete x known n h) h

pub arrow-none : (known : Structs) (c : Bool) (t : CType) (e : Expr) (x : Name) → has_member x (members_in known t) ≡ false → rule_21_arrow known (operand_of (value (record { type = pointer c t; expr = e }))) x ≡ false
arrow-none known c void e x h = refl
arrow-none known c (integer i) e x h = refl
arrow-none known c (pointer k t) e x h = refl
arrow-none known c (array t n) e x h = refl
arrow-none known c (unsized t) e x h = refl
arrow-none known c (function r ps) e x h = refl
arrow-none known c (struct n) e x h = ap (λ b. nat_lt n (length known) && b) h ∙ and-false (nat_lt n (length known))

-- an lvalue is asked as what it is as a value
pub as-value : (known : Structs) (y : Term) (x : Name) → rule_21_arrow known (operand_of (value (value_of known y))) x ≡ rule_21_arrow known (operand_of y) x
as-value known (value v) x = refl
as-value known (lvalue k void p) x = refl
as-value known (lvalue k (integer i) p) x = refl
as-value known (lvalue k (pointer c t) p) x = refl
as-value known (lvalue k (array t n) p) x = refl
as-value known (lvalue k (unsized t) p) x = refl
as-value known (lvalue k (function r ps) p) x = refl
as-value known (lvalue k (struct n) p) x = refl
