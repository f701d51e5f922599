-- What is kept beside the entries of the scopes, so that a search is no walk.
use Rattle.std.specs.Prelude.{◌≡◌, ℕ, List, [], ◌∷◌, ◌++◌, map, Option}
use Rattle.im_check_name_map.specs.im_word.Words.{Name}
use Rattle.im_check_name_map.specs.Numbers.{number_of}
use Rattle.im_check_scopes.specs.declared.entity.Entry.{Entry}
use Rattle.im_check_scopes.specs.declared.scope.Kept.{Kept}
use Rattle.im_check_scopes.specs.Search.{is_opening, is_named, is_tagged, is_alike, last_place}

abbrev pub entries_of : List Kept → List Entry
entries_of ks = map (λ k. k.entry) ks

-- each has the place of the last one before it that is alike
abbrev pub AreShadowed : List Entry → List Kept → Type 0
AreShadowed before [] = Unit {0}
AreShadowed before (k ∷ ks) = (k.shadowed ≡ last_place (is_alike k.entry) before) × AreShadowed (before ++ k.entry ∷ []) ks

-- names and tags have the places of their last entries
pub record IsIndexed (ks : List Kept) (name_places tag_places : List (Name × Option ℕ)) (opening : Option ℕ) : Type 0 where
  pub names : (x : Name) → number_of name_places x ≡ last_place (is_named x) (entries_of ks)
  pub tags : (x : Name) → number_of tag_places x ≡ last_place (is_tagged x) (entries_of ks)
  pub innermost : opening ≡ last_place is_opening (entries_of ks)
  pub shadowed : AreShadowed [] ks
