-- Sizes of members, one behind the other, and of their struct.
use Rattle.std.proofs.Common.{◌≡◌, ◌⊎◌, ◌≤◌, ℕ, zero, suc, ◌+◌, List, [], ◌∷◌, drop, inl, inr, Result, Ok, Err, MatchResult, refl, sym, subst, arith}
use Rattle.std.specs.List.{Contains}
use Rattle.std.proofs.lemmas.List.Elements.{Contains-append_right, Contains-append_cases}
use Rattle.im_ctype.specs.Types.{struct, Member, Structs}
use Rattle.im_rules.specs.Terms.{size_in}
use Rattle.im_rules_limits.specs.Limits.{size_limit, AreMembersWithin}
use Rattle.im_rules_limits.proofs.Counted.{counted-within}
use Rattle.im_check_sizes.specs.Sizes.{AllFit, IsTooLarge, IsOver}
use Rattle.im_check_stop.specs.declared.stop.Stop.{Stop}
use Rattle.im_check_stop.specs.declared.stop.Stop.TheVariants.{Rule, Large, Memory}
use Rattle.im_check_place.specs.Fields.{field_of, fields_of}
use Rattle.im_check_place.specs.declared.field.Field.{Field}
use Rattle.im_check_file_specifiers.specs.Sizes.{MembersFit, IsMemberOver, StructFits, IsStructOver}

no_member_fits : (known : Structs) (m : Member) → Contains [] m → AllFit known m.type
no_member_fits known m c = let below = c.1 in absurd (omega arith)

one_fits : (known : Structs) (n : Member) → AllFit known n.type → (m : Member) → Contains (n ∷ []) m → AllFit known m.type
one_fits known n h m (zero, below, same) = subst (λ (z : Member). AllFit known z.type) same h
one_fits known n h m (suc i, below, same) = absurd (omega arith)

both_fit : (known : Structs) (n : Member) (ms : List Member) → AllFit known n.type → MembersFit known ms → (m : Member) → Contains (n ∷ []) m ⊎ Contains ms m → AllFit known m.type
both_fit known n ms h g m (inl c) = one_fits known n h m c
both_fit known n ms h g m (inr c) = g m c

more_fit : (known : Structs) (n : Member) (ms : List Member) → AllFit known n.type → MembersFit known ms → (m : Member) → Contains (n ∷ ms) m → AllFit known m.type
more_fit known n ms h g m c = both_fit known n ms h g m (Contains-append_cases (n ∷ []) ms m c)

-- how far members are within the limit
pub record FitsReached (known : Structs) (fs : List Field) (i : ℕ) : Type 0 where
  pub within : MembersFit known (fields_of (drop i fs)) → MembersFit known (fields_of fs)
  pub among : (m : Member) → Contains (fields_of (drop i fs)) m → Contains (fields_of fs) m

pub fits_none : (known : Structs) (fs : List Field) → FitsReached known fs 0
fits_none known fs = record { within = λ h. h; among = λ m c. c }

pub fits_more : {known : Structs} {fs : List Field} {i : ℕ} {f : Field}
    → drop i fs ≡ f ∷ drop (i + 1) fs
    → FitsReached known fs i
    → AllFit known (field_of f).type
    → FitsReached known fs (i + 1)
fits_more {known = known} {fs = fs} {i = i} {f = f} at r h =
    let rest = fields_of (drop (i + 1) fs) in
    record {
      within = λ g. r.within (subst (λ zs. MembersFit known (fields_of zs)) (sym at) (more_fit known (field_of f) rest h g));
      among = λ m c. r.among m (subst (λ zs. Contains (fields_of zs) m) (sym at) (Contains-append_right (field_of f ∷ []) rest m c));
    }

pub fits_all : {known : Structs} {fs : List Field} {i : ℕ} → drop i fs ≡ [] → FitsReached known fs i → MembersFit known (fields_of fs)
fits_all {known = known} ends r = r.within (subst (λ zs. MembersFit known (fields_of zs)) (sym ends) (no_member_fits known))

pub member_over : {known : Structs} {fs : List Field} {i : ℕ} {f : Field} (stop : Stop)
    → drop i fs ≡ f ∷ drop (i + 1) fs
    → FitsReached known fs i
    → IsOver known (field_of f).type stop
    → IsMemberOver known (fields_of fs) stop
member_over (Rule rule token) at r h = absurd h
member_over {i = i} {f = f} (Large bytes) at r h =
    ((field_of f, r.among (field_of f) (subst (λ zs. Contains (fields_of zs) (field_of f)) (sym at) (0, omega arith, refl)), h.0), h.1)
member_over Memory at r h = tt

-- with their struct

pub are_within : (known : Structs) (ms : List Member) → MembersFit known ms → AreMembersWithin known ms
are_within known ms h = λ m c. counted-within known m.type (h m c)

pub struct_over : (known : Structs) (ms : List Member) (n : ℕ) (stop : Stop) → IsMemberOver known ms stop → IsStructOver known ms n stop
struct_over known ms n (Rule rule token) h = absurd h
struct_over known ms n (Large bytes) h = (inl h.0, h.1)
struct_over known ms n Memory h = tt

itself_over : (known : Structs) (ms : List Member) (n : ℕ) (stop : Stop) → MembersFit known ms → IsTooLarge (size_in known (struct n)) stop → IsStructOver known ms n stop
itself_over known ms n (Rule rule token) all h = absurd h
itself_over known ms n (Large bytes) all h = (inr (are_within known ms all, h.0), h.1)
itself_over known ms n Memory all h = tt

pub struct_told : (known : Structs) (ms : List Member) (n : ℕ) (result : Result Unit Stop)
    → MembersFit known ms
    → MatchResult result (λ u. size_in known (struct n) ≤ size_limit) (IsTooLarge (size_in known (struct n)))
    → MatchResult result (λ u. StructFits known ms n) (IsStructOver known ms n)
struct_told known ms n (Ok u) all h = (all, h)
struct_told known ms n (Err stop) all h = itself_over known ms n stop all h
