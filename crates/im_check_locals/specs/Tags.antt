-- For private contracts: declarations in a block that are `struct s;` alone.
use Rattle.std.specs.Prelude.{◌≡◌, ℕ, Bool, true, false}
use Rattle.im_check_initialisers.specs.im_word.Words.{Name}
use Rattle.im_ctree.specs.Tree as t
use Rattle.im_rules.specs.Context.{Context}
use Rattle.im_rules.specs.Rules.{named_in}
use Rattle.im_rules.specs.Declared as d

abbrev pub is_struct_tag : t.Specifier → Bool
is_struct_tag (t.struct_tag at x) = true
is_struct_tag s = false

-- it asks what its specifiers ask, and declares the tags that they mention
pub record IsOrdinary (xs : t.SpecifierList) (ds : t.InitDeclarators) : Type 0 where
  pub asks : (c : Context) → d.declaration_asks c xs ds ≡ d.specifiers_ask c xs
  pub scopes : (c : Context) → d.tags_declared c xs ds ≡ d.tags_in c (named_in xs)

abbrev pub lone : ℕ → Name → t.SpecifierList
lone at x = t.more_specifiers (t.struct_tag at x) t.no_specifiers

-- it is `struct s;` alone, of this tag at this token
pub record IsAlone (at : ℕ) (x : Name) (xs : t.SpecifierList) (ds : t.InitDeclarators) : Type 0 where
  pub specifiers : xs ≡ lone at x
  pub declarators : ds ≡ t.no_init_declarators
