-- A declaration in a block is `struct s;` alone, or it asks what its specifiers ask and declares the tags that they mention.
use Rattle.std.proofs.Common.{◌≡◌, ℕ, refl}
use Rattle.im_ctree.specs.im_word.Words.{Name}
use Rattle.im_ctree.specs.Tree as t
use Rattle.im_rules.specs.Context.{Context}
use Rattle.im_rules.specs.Rules.{named_in}
use Rattle.im_rules.specs.Declared.{specifiers_ask, tags_in, declaration_asks, tags_declared}

pub data Form : t.SpecifierList → t.InitDeclarators → Type 0 where
  alone : {at : ℕ} {x : Name} → Form (t.more_specifiers (t.struct_tag at x) t.no_specifiers) t.no_init_declarators
  ordinary : {xs : t.SpecifierList} {ds : t.InitDeclarators}
      → ((c : Context) → declaration_asks c xs ds ≡ specifiers_ask c xs)
      → ((c : Context) → tags_declared c xs ds ≡ tags_in c (named_in xs))
      → Form xs ds

pub form_of : (xs : t.SpecifierList) (ds : t.InitDeclarators) → Form xs ds
form_of t.no_specifiers ds = ordinary (λ c. refl) (λ c. refl)
form_of (t.more_specifiers (t.word_specifier at w) xs) ds = ordinary (λ c. refl) (λ c. refl)
form_of (t.more_specifiers (t.typedef_specifier at x) xs) ds = ordinary (λ c. refl) (λ c. refl)
form_of (t.more_specifiers (t.struct_specifier at x ms) xs) ds = ordinary (λ c. refl) (λ c. refl)
form_of (t.more_specifiers (t.enum_specifier at x es) xs) ds = ordinary (λ c. refl) (λ c. refl)
form_of (t.more_specifiers (t.enum_tag at x) xs) ds = ordinary (λ c. refl) (λ c. refl)
form_of (t.more_specifiers (t.struct_tag at x) (t.more_specifiers y ys)) ds = ordinary (λ c. refl) (λ c. refl)
form_of (t.more_specifiers (t.struct_tag at x) t.no_specifiers) (t.more_init_declarators d i ds) = ordinary (λ c. refl) (λ c. refl)
form_of (t.more_specifiers (t.struct_tag at x) t.no_specifiers) t.no_init_declarators = alone
