-- Sizes of nodes at file scope are within the limit where those of their parts are.
use Rattle.std.proofs.Common.{◌≡◌, ℕ, ◌+◌, ◌≤◌, ℤ, pos, ◌+ℤ◌, false, List, [], ◌∷◌, length, Option, sym, ap, subst}
use Rattle.im_check_expressions.specs.im_word.Words.{Name}
use Rattle.im_ctree.specs.Tree as t
use Rattle.im_ctype.specs.Types.{CType, struct, Member}
use Rattle.im_rules.specs.Breaks.{an_expression, a_declarator}
use Rattle.im_rules.specs.Context.{Context}
use Rattle.im_rules.specs.Declared.{Qualified}
use Rattle.im_rules.specs.Strings.{strings_of_declarator, strings_maybe}
use Rattle.im_rules.specs.Terms.{size_in}
use Rattle.im_rules.specs.Rules.{named_in}
use Rattle.im_rules.specs.FileScope.{FilePlace, past_strings, Level, of_members, with_list_begun, with_struct, number_in, with_enumerator}
use Rattle.im_rules.specs.TypedUnit.{IsNumber, Specify, AreMembers, AreFields}
use Rattle.im_rules.specs.UnitBreaks.{FileNode, file_specifiers, some_named, some_members, some_fields, some_enumerators, begins_with_list, named_part, struct_members, enum_constants, other_enumerators, member_specifiers, member_fields, other_members, other_fields, enumerator_value, field_declarator}
use Rattle.im_rules.proofs.UnitOnce.{number_once, specify_once, members_once, fields_once}
use Rattle.im_rules_limits.specs.Limits.{size_limit, FileSized, of_struct, of_member, size_in_file_part, size_in_file_inner, IsWithin, IsFileWithin}
use Rattle.im_check_file_specifiers.specs.Enumerators.{IsValueWithin}
use Rattle.im_check_file_specifiers.specs.Sizes.{MembersFit, StructFits}

-- without a list

unlisted_within : (f : FilePlace) (first : ℕ) (ss : List t.Specifier) (k : ℕ) → begins_with_list ss ≡ false → FileSized f (some_named first ss) k → k ≤ size_limit
unlisted_within f first ss k none (of_struct d w) = absurd cc
unlisted_within f first ss k none (of_member d c s) = absurd cc
unlisted_within f first ss k none (size_in_file_part struct_members s) = absurd cc
unlisted_within f first ss k none (size_in_file_part enum_constants s) = absurd cc
unlisted_within f first ss k none (size_in_file_inner p s) = elim p [ ]

pub words_within : (f : FilePlace) (l : Level) (at : ℕ) (xs : t.SpecifierList) → IsFileWithin f (some_named at (named_in xs)) → (k : ℕ) → FileSized f (file_specifiers l (t.specifiers at xs)) k → k ≤ size_limit
words_within f l at xs w k (size_in_file_part (named_part m) s) = w k s
words_within f l at xs w k (size_in_file_inner p s) = elim p [ ]

pub without_within : (f : FilePlace) (l : Level) (at : ℕ) (xs : t.SpecifierList) → begins_with_list (named_in xs) ≡ false → IsFileWithin f (file_specifiers l (t.specifiers at xs))
without_within f l at xs none = words_within f l at xs (λ k s. unlisted_within f at (named_in xs) k none s)

-- enumeration constants

pub no_enumerators_within : (f : FilePlace) (next : ℤ) (k : ℕ) → FileSized f (some_enumerators next t.no_enumerators) k → k ≤ size_limit
no_enumerators_within f next k (size_in_file_part p s) = elim p [ ]
no_enumerators_within f next k (size_in_file_inner p s) = elim p [ ]

pub enumerators_within : (f : FilePlace) (next : ℤ) (at : ℕ) (x : Name) (e : t.MaybeExpression) (es : t.Enumerators) (z : Option ℤ)
    → IsNumber f.context next e z
    → IsValueWithin f e
    → IsFileWithin (with_enumerator x z e (past_strings (strings_maybe e) f)) (some_enumerators (number_in z +ℤ pos 1) es)
    → (k : ℕ) → FileSized f (some_enumerators next (t.more_enumerators at x e es)) k → k ≤ size_limit
enumerators_within f next at x e es z n v w k (size_in_file_part (other_enumerators n') s) =
    w k (subst (λ (y : Option ℤ). FileSized (with_enumerator x y e (past_strings (strings_maybe e) f)) (some_enumerators (number_in y +ℤ pos 1) es) k) (sym (number_once n n')) s)
enumerators_within f next at x e es z n v w k (size_in_file_inner enumerator_value s) = v k s

pub enum_within : (f : FilePlace) (first at : ℕ) (x : Option Name) (es : t.Enumerators) (ss : List t.Specifier)
    → IsFileWithin f (some_enumerators (pos 0) es)
    → (k : ℕ) → FileSized f (some_named first (t.enum_specifier at x es ∷ ss)) k → k ≤ size_limit
enum_within f first at x es ss w k (size_in_file_part enum_constants s) = w k s
enum_within f first at x es ss w k (size_in_file_inner p s) = elim p [ ]

-- members

pub no_fields_within : (f : FilePlace) (q : Qualified) (k : ℕ) → FileSized f (some_fields q t.no_declarators) k → k ≤ size_limit
no_fields_within f q k (size_in_file_part p s) = elim p [ ]
no_fields_within f q k (size_in_file_inner p s) = elim p [ ]

pub fields_within : (f : FilePlace) (q : Qualified) (d : t.Declarator) (ds : t.Declarators)
    → IsWithin f.context (a_declarator q d)
    → IsFileWithin (past_strings (strings_of_declarator d) f) (some_fields q ds)
    → (k : ℕ) → FileSized f (some_fields q (t.more_declarators d ds)) k → k ≤ size_limit
fields_within f q d ds v w k (size_in_file_part other_fields s) = w k s
fields_within f q d ds v w k (size_in_file_inner field_declarator s) = v k s

pub no_members_within : (f : FilePlace) (k : ℕ) → FileSized f (some_members t.no_members) k → k ≤ size_limit
no_members_within f k (size_in_file_part p s) = elim p [ ]
no_members_within f k (size_in_file_inner p s) = elim p [ ]

pub members_within : (f g h : FilePlace) (at : ℕ) (xs : t.SpecifierList) (q : Qualified) (ds : t.Declarators) (ms : t.Members) (fields : List Member)
    → Specify of_members f xs q g
    → AreFields q g ds fields h
    → IsFileWithin f (file_specifiers of_members (t.specifiers at xs))
    → IsFileWithin g (some_fields q ds)
    → IsFileWithin h (some_members ms)
    → (k : ℕ) → FileSized f (some_members (t.more_members (t.specifiers at xs) ds ms)) k → k ≤ size_limit
members_within f g h at xs q ds ms fields s a u v w k (size_in_file_part member_specifiers z) = u k z
members_within f g h at xs q ds ms fields s a u v w k (size_in_file_inner p z) = elim p [ ]
members_within f g h at xs q ds ms fields s a u v w k (size_in_file_part (member_fields {g = g'} {q = q'} s') z) =
    let p = specify_once s s' in
    let z₁ = subst (λ (j : FilePlace). FileSized j (some_fields q' ds) k) (sym p.1) z in
    v k (subst (λ (o : Qualified). FileSized g (some_fields o ds) k) (sym p.0) z₁)
members_within f g h at xs q ds ms fields s a u v w k (size_in_file_part (other_members {g = g'} {h = h'} {q = q'} {fields = fields'} s' a') z) =
    let p = specify_once s s' in
    let a₁ = subst (λ (j : FilePlace). AreFields q' j ds fields' h') (sym p.1) a' in
    let b = fields_once a (subst (λ (o : Qualified). AreFields o g ds fields' h') (sym p.0) a₁) in
    w k (subst (λ (j : FilePlace). FileSized j (some_members ms) k) (sym b.1) z)

pub struct_within : (f g : FilePlace) (first at : ℕ) (x : Option Name) (ms : t.Members) (ss : List t.Specifier) (fields : List Member)
    → AreMembers (with_list_begun at x f) ms fields g
    → StructFits (with_struct fields g).context.known fields (length g.context.known)
    → IsFileWithin (with_list_begun at x f) (some_members ms)
    → (k : ℕ) → FileSized f (some_named first (t.struct_specifier at x ms ∷ ss)) k → k ≤ size_limit
struct_within f g first at x ms ss fields d fits w k (of_struct {g = g'} {fields = fields'} d' small) =
    let p = members_once d d' in
    let fits₁ = subst (λ (j : FilePlace). size_in (with_struct fields j).context.known (struct (length j.context.known)) ≤ size_limit) p.1 fits.1 in
    subst (λ (y : List Member). size_in (with_struct y g').context.known (struct (length g'.context.known)) ≤ size_limit) p.0 fits₁
struct_within f g first at x ms ss fields d fits w k (of_member {g = g'} {fields = fields'} {m = m} d' among counted) =
    let p = members_once d d' in
    let fit₁ = subst (λ (j : FilePlace). MembersFit (with_struct fields j).context.known fields) p.1 fits.0 in
    let fit₂ : MembersFit (with_struct fields' g').context.known fields' = subst (λ (y : List Member). MembersFit (with_struct y g').context.known y) p.0 fit₁ in
    fit₂ m among k counted
struct_within f g first at x ms ss fields d fits w k (size_in_file_part struct_members s) = w k s
struct_within f g first at x ms ss fields d fits w k (size_in_file_inner p s) = elim p [ ]
