-- Which statics an image can name.
use Rattle.std.specs.Prelude.{◌≡◌, ℕ, ◌<◌, ◌^◌, ◌&&◌, nat_lt, Bool, true, List, length}
use Rattle.std.specs.List.{list_all}
use Rattle.im_image.specs.Contents.{is_name_byte}
use Rattle.im_typed.specs.im_store.Statics.{StaticObject}

-- letters, digits, _ and $, at least one of them, and fewer than 2^32
abbrev pub is_name : List ℕ → Bool
is_name bytes = nat_lt 0 (length bytes) && nat_lt (length bytes) (2 ^ 32) && list_all is_name_byte bytes

abbrev pub HasCell : StaticObject → Type 0
HasCell o = 0 < length o.cells

abbrev pub IsNamable : StaticObject → Type 0
IsNamable o = HasCell o × (is_name o.name ≡ true)
