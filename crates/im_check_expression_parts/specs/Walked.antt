-- What the walk over a part answers, and the place behind the part.
use Rattle.std.specs.Prelude.{◌≡◌, ℕ, ◌+◌, List, ◌∷◌, map, MatchResult, Result}
use Rattle.im_check_declarators.specs.im_word.Words.{Name}
use Rattle.im_check_declarators.specs.im_ctree.Tree as t
use Rattle.im_check_declarators.specs.im_ctype.Table.{Table}
use Rattle.im_rules.specs.Terms as r
use Rattle.im_rules.specs.Strings.{strings_in, strings_of_suffixes, strings_of_parameters}
use Rattle.im_rules.specs.Declared as d
use Rattle.im_rules.specs.Typed.{Typed, AreParameters}
use Rattle.im_rules.specs.Breaks.{an_expression, some_suffixes, some_parameters}
use Rattle.im_check_declarators.specs.im_rules_limits.Limits.{IsWithin}
use Rattle.im_check_declarators.specs.im_check_stop.declared.stop.Stop.{Stop}
use Rattle.im_check_operands.specs.declared.term.Term.{Term}
use Rattle.im_check_operands.specs.Shape.{term_in}
use Rattle.im_check_declarators.specs.im_check_type_specifiers.Tags.{IsGrown}
use Rattle.im_check_declarators.specs.declared.given.Given.{Given}
use Rattle.im_check_declarators.specs.Suffixes.{AreGiven, IsFault}
use Rattle.im_check_place.specs.declared.place.Place.{Place}
use Rattle.im_check_place.specs.Contexts.{context_of, behind_strings}

-- the terms that arguments are typed to
abbrev pub terms_in : Table → List Term → List r.Term
terms_in types xs = map {A = Term} (term_in types) xs

-- an expression's term with the place behind it, and each size in it within the limit; or a node in it that is at fault
abbrev pub IsTyped : Place → t.Expression → Place → Result Term Stop → Type 0
IsTyped p e after result = MatchResult result (λ x. Typed (context_of p) e (term_in p.structs x) × (after ≡ behind_strings (strings_in e) p) × IsWithin (context_of p) (an_expression e)) (IsFault (context_of p) (an_expression e))

-- behind these string literals, with entries of the scopes behind the others
pub record IsBehind (ss : List Name) (before after : Place) : Type 0 where
  pub grown : IsGrown before.scope after.scope
  pub all_else : after ≡ record (behind_strings ss before) { scope = after.scope }

-- what stands in the first of suffixes is given: whatever is given of the others is given behind it, and what is at fault in
-- them is at fault in all
pub record GoesOnGiven (before : Place) (all : t.Suffixes) (g : Given) (rest : t.Suffixes) (after : Place) : Type 0 where
  pub gives : (gs : List Given) → AreGiven (context_of after) rest gs → AreGiven (context_of before) all (g ∷ gs)
  pub faults : (q : d.Qualified) (stop : Stop) → IsFault (context_of after) (some_suffixes q rest) stop → IsFault (context_of before) (some_suffixes q all) stop
  pub place : behind_strings (strings_of_suffixes rest) after ≡ behind_strings (strings_of_suffixes all) before

-- the first of parameters is declared, likewise; sizes in all are within the limit where those in the others are
pub record GoesOnParameters (before : Place) (n : ℕ) (all : t.Parameters) (y : d.Declared) (rest : t.Parameters) (after : Place) : Type 0 where
  pub gives : (ds : List d.Declared) → AreParameters (context_of after) (n + 1) rest ds → AreParameters (context_of before) n all (y ∷ ds)
  pub faults : (stop : Stop) → IsFault (context_of after) (some_parameters (n + 1) rest) stop → IsFault (context_of before) (some_parameters n all) stop
  pub within : IsWithin (context_of after) (some_parameters (n + 1) rest) → IsWithin (context_of before) (some_parameters n all)
  pub scopes : (ds : List d.Declared) → (d.with_parameters (n + 1) rest ds (context_of after)).scopes ≡ (d.with_parameters n all (y ∷ ds) (context_of before)).scopes
  pub grown : IsGrown before.scope after.scope
  pub place : record (behind_strings (strings_of_parameters rest) after) { scope = before.scope } ≡ behind_strings (strings_of_parameters all) before
