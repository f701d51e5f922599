-- For private contracts: lists of members and of enumerators.
use Rattle.std.specs.Prelude.{◌≡◌, ℕ, false, not, ◌&&◌, List, ◌++◌, length, Option, Vec}
use Rattle.std.specs.Global.{Global}
use Rattle.std.specs.Option.{option_map}
use Rattle.im_check_expressions.specs.im_word.Words.{Name}
use Rattle.im_ctree.specs.Tree as t
use Rattle.im_ctype.specs.declared.integer.Integer.TheVariants.{Int}
use Rattle.im_ctype.specs.Types.{CType, integer, struct, Member}
use Rattle.im_rules.specs.Declared.{Qualified}
use Rattle.im_rules.specs.FileScope.{FilePlace, tag_asked, has_begun, with_struct}
use Rattle.im_rules.specs.Scopes.{at_file_scope}
use Rattle.im_rules.specs.TypedUnit.{AreMembers, AreFields}
use Rattle.im_rules.specs.UnitBreaks.{some_members, some_fields}
use Rattle.im_rules_limits.specs.Limits.{IsFileWithin}
use Rattle.im_check_file_specifiers.specs.Answers.{IsRest}
use Rattle.im_check_file_specifiers.specs.declared.lists.Standing.{Standing}
use Rattle.im_check_place.specs.declared.field.Field.{Field}
use Rattle.im_check_place.specs.Fields.{fields_of}

abbrev pub tag_of : Option (Vec ℕ Global) → Option Name
tag_of x = option_map (λ name. name.items) x

abbrev pub plain : CType → Qualified
plain a = record { constant = false; type = a }

abbrev pub enum_type : Qualified
enum_type = plain (integer Int)

abbrev pub struct_type : ℕ → Qualified
struct_type n = plain (struct n)

-- where a member list of that tag stands
pub record IsStanding (s : Standing) (f : FilePlace) (x : Option Name) : Type 0 where
  pub tag : s.is_tag_free ≡ tag_asked f.context.scopes x
  pub first : s.is_first ≡ (at_file_scope f.context.scopes && not (has_begun x f.begun))

-- the struct of these members has that number
pub record IsEnded (before : FilePlace) (ms : List Member) (n : ℕ) (after : FilePlace) : Type 0 where
  pub number : n ≡ length before.context.known
  pub place : after ≡ with_struct ms before

-- the declarators of a declaration of members add these members
pub record FieldsAdded (q : Qualified) (before : FilePlace) (ds : t.Declarators) (old new : List Field) (after : FilePlace) : Type 0 where
  pub fields : List Member
  pub added : fields_of new ≡ fields_of old ++ fields
  pub typed : AreFields q before ds fields after
  pub within : IsFileWithin before (some_fields q ds)

-- the first of declarators adds a member: whatever the others add stands behind it
pub record GoesOnFields (q : Qualified) (before : FilePlace) (all : t.Declarators) (old new : List Field) (rest : t.Declarators) (after : FilePlace) : Type 0 where
  pub fields : List Member
  pub added : fields_of new ≡ fields_of old ++ fields
  pub gives : (ms : List Member) (g : FilePlace) → AreFields q after rest ms g → AreFields q before all (fields ++ ms) g
  pub behind : IsRest before (some_fields q all) after (some_fields q rest)

-- the first of declarations of members adds members, likewise
pub record GoesOnMembers (before : FilePlace) (all : t.Members) (old new : List Field) (rest : t.Members) (after : FilePlace) : Type 0 where
  pub fields : List Member
  pub added : fields_of new ≡ fields_of old ++ fields
  pub gives : (ms : List Member) (g : FilePlace) → AreMembers after rest ms g → AreMembers before all (fields ++ ms) g
  pub behind : IsRest before (some_members all) after (some_members rest)
