-- Lists of names and of tags, with the place that each has.
use Rattle.std.specs.Prelude.{◌≡◌, ℕ, List, [], ◌∷◌, map, Option, Some, None, Vec}
use Rattle.std.specs.Global.{Global}
use Rattle.std.specs.Option.{option_map}
use Rattle.im_rules.specs.im_word.Words.{Name}
use Rattle.im_rules.specs.Outline.{list_number}
use Rattle.im_check_name_map.specs.Numbers.{number_of}

abbrev pub names_of : List (Vec ℕ Global) → List Name
names_of xs = map (λ x. x.items) xs

abbrev pub tags_of : List (Option (Vec ℕ Global)) → List (Option Name)
tags_of xs = map (option_map (λ x. x.items)) xs

abbrev pub all_tags : List Name → List (Option Name)
all_tags xs = map Some xs

-- each name has the number of its first place in the list
abbrev pub HasPlaces : List (Option Name) → List (Name × Option ℕ) → Type 0
HasPlaces tags numbers = (x : Name) → number_of numbers x ≡ list_number x tags
