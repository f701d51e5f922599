-- What expressions are typed to is well typed, and types are within the limit of sizes.
use Rattle.std.specs.Prelude.{◌≡◌, true, false}
use Rattle.im_word.specs.Words.{Name}
use Rattle.im_ctree.specs.Tree as t
use Rattle.im_ctype.specs.Types.{Structs, is_struct, is_array, members_of}
use Rattle.im_typed.specs.Program.{Func, Prog}
use Rattle.im_rules.specs.TypeTests.{has_member}
use Rattle.im_rules.specs.Strings.{strings_in}
use Rattle.im_rules.specs.Context.{Context}
use Rattle.im_rules.specs.Terms.{Value, Term, type_in}
use Rattle.im_rules.specs.Conversions.{struct_number, part_of}
use Rattle.im_rules.specs.Declared.{Qualified, Declared}
use Rattle.im_rules.specs.Typed.{Typed, Names, Declares}
use Rattle.im_rules.specs.Breaks.{an_expression, a_type_name, a_declarator}
use Rattle.im_rules_limits.specs.Limits.{IsWithin}
use Rattle.im_rules_sound.specs.Sound.{IsSoundValue, IsSoundTerm}
use Rattle.im_rules_sound_expressions.specs.Bounded.{IsBounded, AreBoundedStructs, AreBoundedTypedefs, IsSoundContext, HasStrings}
use Rattle.im_rules_sound_expressions.specs.Written.{IsWritten}

-- a member of a struct that stands at no place
abbrev pub PartsLaw : Type 0
PartsLaw =
    (g : Prog) (f : Func) (known : Structs) (v : Value) (x : Name) → AreBoundedStructs known → IsSoundValue g f known v
    → is_struct v.type ≡ true → has_member x (members_of known (struct_number v.type)) ≡ true
    → is_array (part_of known v x).type ≡ false → IsSoundValue g f known (part_of known v x)

-- what a declarator declares and what a type name names are within the limit of sizes
abbrev pub DeclaresLaw : Type 0
DeclaresLaw =
    (c : Context) (q : Qualified) (d : t.Declarator) (y : Declared) → Declares c q d y → AreBoundedStructs c.known
    → AreBoundedTypedefs c → IsBounded c.known q.type → IsWithin c (a_declarator q d) → IsBounded c.known y.type

abbrev pub NamesLaw : Type 0
NamesLaw =
    (c : Context) (n : t.TypeName) (q : Qualified) → Names c n q → AreBoundedStructs c.known → AreBoundedTypedefs c
    → IsWithin c (a_type_name n) → IsBounded c.known q.type

-- expressions (C11 6.5), in a context of which the program has all names and literals
abbrev pub ExpressionsLaw : Type 0
ExpressionsLaw =
    (g : Prog) (f : Func) (c : Context) (e : t.Expression) (x : Term) → Typed c e x → IsWritten e → IsSoundContext g f c
    → HasStrings g c (strings_in e) → IsWithin c (an_expression e)
    → IsSoundTerm g f c.known x × IsBounded c.known (type_in x)
