-- No size in an initialiser is over the limit, where none in its parts is.
use Rattle.std.proofs.Common.{◌≡◌, ℕ, ◌+◌, List, [], ◌∷◌, sym, subst}
use Rattle.im_check_expressions.specs.im_word.Words.{Name}
use Rattle.im_ctree.specs.Tree as t
use Rattle.im_ctype.specs.declared.member.MemberPlace.{MemberPlace}
use Rattle.im_ctype.specs.Members.{places}
use Rattle.im_ctype.specs.Types.{CType, Member, members_of}
use Rattle.im_check_expressions.specs.im_rules.Breaks.{an_expression}
use Rattle.im_check_expressions.specs.im_rules.BodyBreaks.{an_initialiser, some_elements, some_members}
use Rattle.im_check_expressions.specs.im_rules.Context.{Context, behind_strings}
use Rattle.im_check_expressions.specs.im_rules.Initialisers as n
use Rattle.im_check_expressions.specs.im_rules.Terms.{size_in}
use Rattle.im_check_expressions.specs.im_rules_limits.Limits.{Sized, GivenSized, size_in_value, size_in_elements, size_in_members, size_in_first_element, size_in_other_elements, size_in_first_member, size_in_other_members, IsWithin, IsGivenWithin}

-- the sizes in an initialiser are those of what stands in its form
abbrev FormSized : Context → ℕ → ℕ → n.Shape → Type 0
FormSized c at k (n.one e) = Sized c (an_expression e) k
FormSized c at k (n.bytes e s) = ⊥
FormSized c at k (n.elements e is) = GivenSized c (some_elements e at is) k
FormSized c at k (n.members m is) = GivenSized c (some_members (members_of c.known m) (places c.known m) at is) k
FormSized c at k n.misshapen = ⊥

of_form : {c : Context} {a : CType} {at k : ℕ} {i : t.Initializer} → GivenSized c (an_initialiser a at i) k → FormSized c at k (n.shape a i)
of_form {c = c} {at = at} {k = k} (size_in_value form s) = subst (λ z. FormSized c at k z) (sym form) s
of_form {c = c} {at = at} {k = k} (size_in_elements form s) = subst (λ z. FormSized c at k z) (sym form) s
of_form {c = c} {at = at} {k = k} (size_in_members form s) = subst (λ z. FormSized c at k z) (sym form) s

in_form : {c : Context} {a : CType} {at k : ℕ} {i : t.Initializer} {s : n.Shape} → n.shape a i ≡ s → GivenSized c (an_initialiser a at i) k → FormSized c at k s
in_form {c = c} {at = at} {k = k} form sized = subst (λ z. FormSized c at k z) form (of_form sized)

pub value_within : {c : Context} {a : CType} {at : ℕ} {i : t.Initializer} {e : t.Expression} → n.shape a i ≡ n.one e → IsWithin c (an_expression e) → IsGivenWithin c (an_initialiser a at i)
value_within form within = λ k sized. within k (in_form form sized)

pub bytes_within : {c : Context} {a e : CType} {at : ℕ} {i : t.Initializer} {s : Name} → n.shape a i ≡ n.bytes e s → IsGivenWithin c (an_initialiser a at i)
bytes_within form = λ k sized. absurd (in_form form sized)

pub elements_within : {c : Context} {a e : CType} {at : ℕ} {i : t.Initializer} {is : t.Initializers} → n.shape a i ≡ n.elements e is → IsGivenWithin c (some_elements e at is) → IsGivenWithin c (an_initialiser a at i)
elements_within form within = λ k sized. within k (in_form form sized)

pub members_within : {c : Context} {a : CType} {m at : ℕ} {i : t.Initializer} {is : t.Initializers} → n.shape a i ≡ n.members m is → IsGivenWithin c (some_members (members_of c.known m) (places c.known m) at is) → IsGivenWithin c (an_initialiser a at i)
members_within form within = λ k sized. within k (in_form form sized)

pub no_element_within : {c : Context} {e : CType} {at : ℕ} → IsGivenWithin c (some_elements e at t.no_initializers)
no_element_within k sized = elim sized [ ]

pub element_within : {c : Context} {e : CType} {at : ℕ} {i : t.Initializer} {is : t.Initializers}
    → IsGivenWithin c (an_initialiser e at i)
    → IsGivenWithin (behind_strings (n.strings_given c.known e i) c) (some_elements e (at + size_in c.known e) is)
    → IsGivenWithin c (some_elements e at (t.more_initializers i is))
element_within first others k (size_in_first_element sized) = first k sized
element_within first others k (size_in_other_elements sized) = others k sized

pub no_member_within : {c : Context} {ms : List Member} {os : List MemberPlace} {at : ℕ} → IsGivenWithin c (some_members ms os at t.no_initializers)
no_member_within k sized = elim sized [ ]

pub member_within : {c : Context} {m : Member} {ms : List Member} {o : MemberPlace} {os : List MemberPlace} {at : ℕ} {i : t.Initializer} {is : t.Initializers}
    → IsGivenWithin c (an_initialiser m.type (at + o.offset) i)
    → IsGivenWithin (behind_strings (n.strings_given c.known m.type i) c) (some_members ms os at is)
    → IsGivenWithin c (some_members (m ∷ ms) (o ∷ os) at (t.more_initializers i is))
member_within first others k (size_in_first_member sized) = first k sized
member_within first others k (size_in_other_members sized) = others k sized
