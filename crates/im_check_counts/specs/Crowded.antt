-- The first function whose parameters take more words than they may take.
use Rattle.std.specs.Prelude.{◌≡◌, ℕ, ◌<◌, ◌≤◌, List, ◌∷◌, ◌++◌, Option, Some, None, Contains}
use Rattle.im_check_outline.specs.im_rules.Scopes.{Scopes, meaning}
use Rattle.im_rules_limits.specs.Limits.{Head, words_meant, words_taken, parameter_limit}
use Rattle.im_check_counts.specs.declared.crowded.Crowded.{Crowded}

-- the first of these functions whose parameters take too many, and so many they take; its first token, and its name
pub record CrowdedAmong (g : Scopes) (hs : List Head) (words token : ℕ) (name : List ℕ) : Type 0 where
  pub before : List Head
  pub behind : List Head
  pub place : hs ≡ before ++ record { token = token; name = name } ∷ behind
  pub within : (n : ℕ) → Contains (words_taken g before) n → n ≤ parameter_limit
  pub is_words : words ≡ words_meant (meaning g name)
  pub over : parameter_limit < words

-- the parameters of none take too many, or this one is the first
abbrev pub IsCrowdedIn : Scopes → List Head → Option Crowded → Type 0
IsCrowdedIn g hs None = (n : ℕ) → Contains (words_taken g hs) n → n ≤ parameter_limit
IsCrowdedIn g hs (Some function) = CrowdedAmong g hs function.words function.at function.name.now
