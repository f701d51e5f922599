-- What names and tags mean at a place of the text (C11 6.2.1, 6.2.3).
use Rattle.std.specs.Prelude.{ℕ, ℤ, Bool, true, false, Option, Some, None, if◌then◌else◌}
use Rattle.im_ctree.specs.im_word.Words.{Name}
use Rattle.im_typed.specs.im_ctype.Types.{CType}
use Rattle.im_typed.specs.im_serve.declared.service.Service.{Service}
use Rattle.im_rules.specs.TypeTests.{same_name}

-- a static by its number, or an object of the function by its number
pub data Storage : Type 0 where
  static_object local_object : ℕ → Storage

-- a function of the unit by its number, one that has no body, or a service
pub data Callee : Type 0 where
  a_body : ℕ → Callee
  no_body : Callee
  a_service : Service → Callee

-- what an ordinary name means; `constant` is the const of an object, of a function's result, of what a typedef name means
pub data Entity : Type 0 where
  an_object : (constant : Bool) → CType → Storage → Entity
  a_function : Callee → (constant : Bool) → CType → Entity
  an_enumerator : ℤ → Entity
  a_typedef : (constant : Bool) → CType → Entity

-- what a tag means
pub data Tag : Type 0 where
  struct_tag : ℕ → Tag
  enum_tag : Tag

-- a scope is opened in those round it, or a name or a tag is declared in the innermost one
pub data Scopes : Type 0 where
  nothing : Scopes
  opened : Scopes → Scopes
  named : Name → Entity → Scopes → Scopes
  tagged : Name → Tag → Scopes → Scopes

-- what a name means: its innermost declaration, and of these the last
abbrev pub meaning : Scopes → Name → Option Entity
meaning nothing x = None
meaning (opened g) x = meaning g x
meaning (named y e g) x = if same_name y x then Some e else meaning g x
meaning (tagged y t g) x = meaning g x

abbrev pub tag_meaning : Scopes → Name → Option Tag
tag_meaning nothing x = None
tag_meaning (opened g) x = tag_meaning g x
tag_meaning (named y e g) x = tag_meaning g x
tag_meaning (tagged y t g) x = if same_name y x then Some t else tag_meaning g x

-- what the name means in the innermost scope alone
abbrev pub meaning_here : Scopes → Name → Option Entity
meaning_here nothing x = None
meaning_here (opened g) x = None
meaning_here (named y e g) x = if same_name y x then Some e else meaning_here g x
meaning_here (tagged y t g) x = meaning_here g x

-- what the tag means in the innermost scope alone
abbrev pub tag_meaning_here : Scopes → Name → Option Tag
tag_meaning_here nothing x = None
tag_meaning_here (opened g) x = None
tag_meaning_here (named y e g) x = tag_meaning_here g x
tag_meaning_here (tagged y t g) x = if same_name y x then Some t else tag_meaning_here g x

-- no scope is opened but that of the file
abbrev pub at_file_scope : Scopes → Bool
at_file_scope nothing = true
at_file_scope (opened g) = false
at_file_scope (named y e g) = at_file_scope g
at_file_scope (tagged y t g) = at_file_scope g
