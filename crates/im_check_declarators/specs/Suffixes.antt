-- What is given and answered of suffixes.
use Rattle.std.specs.Prelude.{◌≡◌, ◌<◌, ◌≤◌, ℕ, ℤ, List, [], ◌∷◌, map, Option, Some, None, Box, Vec, MatchResult, Result}
use Rattle.std.specs.Global.{Global}
use Rattle.im_ctree.specs.Tree as t
use Rattle.im_ctree.specs.declared.declarator.SuffixKind as xk
use Rattle.im_ctree.specs.declared.expression.Expression.{Expression}
use Rattle.im_rules.specs.Context.{Context, in_new_scope, behind, behind_parameters}
use Rattle.im_ctype.specs.Types.{Structs}
use Rattle.im_rules.specs.Terms.{Term, constant_in, size_in}
use Rattle.im_rules.specs.Declared as d
use Rattle.im_rules.specs.Demands.{Meets}
use Rattle.im_rules.specs.Typed.{Typed, Suffixed, AreParameters}
use Rattle.im_rules.specs.Breaks.{Node, an_expression, some_suffixes, some_parameters, Broken}
use Rattle.im_check_sizes.specs.im_rules_limits.Limits.{size_limit, Sized, IsWithin}
use Rattle.im_check_stop.specs.declared.stop.Stop.{Stop}
use Rattle.im_check_stop.specs.declared.stop.Stop.TheVariants.{Rule, Large, Memory}
use Rattle.im_check_stop.specs.Answers.{IsRefusal}
use Rattle.im_check_type_specifiers.specs.declared.qualified.Qualified.{Qualified}
use Rattle.im_check_type_specifiers.specs.Specified.{qualified_of}
use Rattle.im_check_declarators.specs.declared.declared.Declared.{Declared}
use Rattle.im_check_declarators.specs.declared.given.Given.{Given}
use Rattle.im_check_declarators.specs.declared.given.Given.TheVariants as g
use Rattle.im_check_declarators.specs.Shape.{declared_of}

-- a length has this value as a constant expression, or is none; each size in it is within the limit
pub record HasLength (c : Context) (e : t.Expression) (z : Option ℤ) : Type 0 where
  pub term : Term
  pub typed : Typed c e term
  pub value : constant_in term ≡ z
  pub within : IsWithin c (an_expression e)

-- what stands in suffixes is typed: each length has its value, and each function's parameters are declared so, in a scope
-- of their own; each size in them is within the limit
abbrev pub AreGiven : Context → t.Suffixes → List Given → Type 0
AreGiven c t.no_suffixes [] = Unit {0}
AreGiven c (t.array_suffix at (t.an_expression e) ss) (g.Length z ∷ gs) =
    HasLength c e z × AreGiven (behind e c) ss gs
AreGiven c (t.array_suffix at t.no_expression ss) (g.Open ∷ gs) = AreGiven c ss gs
AreGiven c (t.function_suffix at ps ss) (g.Parameters ds ∷ gs) =
    AreParameters (in_new_scope c) 0 ps (map declared_of ds.items) × IsWithin (in_new_scope c) (some_parameters 0 ps) × AreGiven (behind_parameters ps c) ss gs
AreGiven c _ _ = ⊥

-- what is given of a suffix: of an array the value of its length, or that there is none, of a function its parameters
abbrev pub IsLength : Given → Type 0
IsLength x = (z : Option ℤ) × (x ≡ g.Length z)

abbrev pub IsParameters : Given → Type 0
IsParameters x = (ds : Vec Declared Global) × (x ≡ g.Parameters ds)

abbrev pub IsGivenLength : Option (Box Expression Global) → Given → Type 0
IsGivenLength None x = x ≡ g.Open
IsGivenLength (Some e) x = IsLength x

abbrev pub IsGivenOf : xk.SuffixKind → Given → Type 0
IsGivenOf (xk.Array' xk.SuffixKind-Array-0-None') x = x ≡ g.Open
IsGivenOf (xk.Array' (xk.SuffixKind-Array-0-Some' p i e)) x = IsLength x
IsGivenOf (xk.Function' m ps) x = IsParameters x

-- a node of this one breaks the rule at the token, or names a type of so many bytes, over the limit; or memory ran out
abbrev pub IsFault : Context → Node → Stop → Type 0
IsFault c n (Rule rule token) = Broken c n rule token
IsFault c n (Large bytes) = Sized c n bytes × (size_limit < bytes)
IsFault c n Memory = Unit {0}

-- wherever these structs have their member lists, these suffixes make that type of the first one, and each size in them is
-- within the limit
abbrev pub AreSuffixed : Structs → d.Qualified → t.Suffixes → List Given → d.Qualified → Type 0
AreSuffixed known base ss gs q = (c : Context) → c.known ≡ known → AreGiven c ss gs → Suffixed c base ss q × IsWithin c (some_suffixes base ss)

-- the type that suffixes make, with each size in them within the limit, or a node in them that is at fault
abbrev pub SuffixesDone : Context → d.Qualified → t.Suffixes → Result Qualified Stop → Type 0
SuffixesDone c base ss result = MatchResult result (λ r. Suffixed c base ss (qualified_of r) × IsWithin c (some_suffixes base ss)) (IsFault c (some_suffixes base ss))

-- an array's element where all that is asked is so, and else a rule that refuses
abbrev pub IsElement : Context → d.Qualified → ℕ → Result Unit Stop → Type 0
IsElement c q at result = MatchResult result (λ u. Meets (d.element_asks c q)) (IsRefusal (d.element_asks c q) at)

-- an array's length likewise
abbrev pub IsCount : Context → d.Qualified → Option ℤ → ℕ → Result ℕ Stop → Type 0
IsCount c q value at result = MatchResult result (λ n. Meets (d.length_asks c q value) × (n ≡ d.count_of value)) (IsRefusal (d.length_asks c q value) at)

-- what refuses an array of these elements: a rule, or its bytes, where those of an element are within the limit
abbrev pub IsArrayFault : Context → d.Qualified → Option ℤ → ℕ → Stop → Type 0
IsArrayFault c q value at (Rule rule token) = IsRefusal (d.length_asks c q value) at (Rule rule token)
IsArrayFault c q value at (Large bytes) =
    Meets (d.length_asks c q value) × (bytes ≡ size_in c.known (d.array_of q value).type) × (size_limit < bytes) × (size_in c.known q.type ≤ size_limit)
IsArrayFault c q value at Memory = Unit {0}

-- an array of these elements whose bytes are within the limit, where all that is asked is so
abbrev pub IsArray : Context → d.Qualified → Option ℤ → ℕ → Result Qualified Stop → Type 0
IsArray c q value at result =
    MatchResult result (λ r. Meets (d.length_asks c q value) × (qualified_of r ≡ d.array_of q value) × (size_in c.known (d.array_of q value).type ≤ size_limit)) (IsArrayFault c q value at)
