-- What is answered of specifiers.
use Rattle.std.specs.Prelude.{◌≡◌, ℕ, List, [], ◌∷◌, Option, MatchResult, Result}
use Rattle.im_check_scopes.specs.im_word.Words.{Name}
use Rattle.im_ctree.specs.Tree as t
use Rattle.im_ctree.specs.declared.specifier.Specifier.{Specifier}
use Rattle.im_check_scopes.specs.im_rules.Rules.{named_in, keywords_in, rule_1}
use Rattle.im_check_scopes.specs.im_rules.Context.{Context}
use Rattle.im_check_scopes.specs.im_rules.Demands.{Demand, asks}
use Rattle.im_check_scopes.specs.im_rules.Demands as m
use Rattle.im_check_scopes.specs.im_rules.Declared as d
use Rattle.im_check_scopes.specs.im_rules.Declared.{specified, specified_asks}
use Rattle.im_types.specs.Shape.{type_of}
use Rattle.im_check_scopes.specs.declared.entity.Entry.{Entry}
use Rattle.im_check_scopes.specs.Shape.{scopes_of}
use Rattle.im_check_stop.specs.declared.stop.Stop.{Stop}
use Rattle.im_check_stop.specs.Answers.{IsRefusal}
use Rattle.im_ctree_parts.specs.Lists.{specifier_in}
use Rattle.im_check_type_specifiers.specs.declared.qualified.Qualified.{Qualified}

-- the context of these scopes and of a unit with these member lists; all else is as in another one
abbrev pub at_place : Context → List Entry → List (Option Name) → Context
at_place k es lists =
    record {
      scopes = scopes_of es;
      known = k.known;
      next_string = k.next_string;
      unit = record { statics = k.unit.statics; bodies = k.unit.bodies; lists = lists };
    }

abbrev pub qualified_of : Qualified → d.Qualified
qualified_of q = record { constant = q.constant; type = type_of q.ty }

-- that type where all that is asked is so, and else a rule that refuses
abbrev pub IsQualified : List Demand → d.Qualified → ℕ → Result Qualified Stop → Type 0
IsQualified asked q at result = MatchResult result (λ y. m.Meets asked × (qualified_of y ≡ q)) (IsRefusal asked at)

-- it is the first of these
abbrev pub IsFirst : Specifier → List t.Specifier → Type 0
IsFirst s ss = (rest : List t.Specifier) × (ss ≡ specifier_in s ∷ rest)

-- it is a struct, an enum or a typedef name
abbrev pub IsNamed : Specifier → Type 0
IsNamed s = named_in (t.more_specifiers (specifier_in s) t.no_specifiers) ≡ specifier_in s ∷ []

-- what is asked of specifiers whose storage words are asked about elsewhere, but for their number
abbrev pub file_asks : Context → t.SpecifierList → List Demand
file_asks c xs = asks 1 (rule_1 xs) ∷ specified_asks c (named_in xs)

-- their type without their own `const`
abbrev pub base_of : Context → t.SpecifierList → d.Qualified
base_of c xs = specified c (named_in xs) (keywords_in xs)
