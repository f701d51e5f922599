use Rattle.std.proofs.Common.{◌≡◌, refl}
use Rattle.im_ctree.specs.declared.specifier.SpecifierWord.TheVariants as w
use Rattle.im_ctree.specs.Tree as t
use Rattle.im_ctree.specs.Typedefs.{has_typedef}
use Rattle.im_rules.specs.Rules.{is_typedef}
use Rattle.im_rules.proofs.laws.typedef_names_law.Goals as goal

same-by : (xs : t.SpecifierList) → has_typedef xs ≡ is_typedef xs
same-by t.no_specifiers = refl
same-by (t.more_specifiers (t.word_specifier p w.Typedef) xs) = refl
same-by (t.more_specifiers (t.word_specifier p w.Extern) xs) = same-by xs
same-by (t.more_specifiers (t.word_specifier p w.Static) xs) = same-by xs
same-by (t.more_specifiers (t.word_specifier p w.Const) xs) = same-by xs
same-by (t.more_specifiers (t.word_specifier p w.Void) xs) = same-by xs
same-by (t.more_specifiers (t.word_specifier p w.Char) xs) = same-by xs
same-by (t.more_specifiers (t.word_specifier p w.Short) xs) = same-by xs
same-by (t.more_specifiers (t.word_specifier p w.Int) xs) = same-by xs
same-by (t.more_specifiers (t.word_specifier p w.Long) xs) = same-by xs
same-by (t.more_specifiers (t.word_specifier p w.Signed) xs) = same-by xs
same-by (t.more_specifiers (t.word_specifier p w.Unsigned) xs) = same-by xs
same-by (t.more_specifiers (t.typedef_specifier p n) xs) = same-by xs
same-by (t.more_specifiers (t.struct_tag p n) xs) = same-by xs
same-by (t.more_specifiers (t.enum_tag p n) xs) = same-by xs
same-by (t.more_specifiers (t.struct_specifier p n ms) xs) = same-by xs
same-by (t.more_specifiers (t.enum_specifier p n es) xs) = same-by xs

pub returns-clause-names : goal.returns-clause-names
returns-clause-names c = refl

pub returns-clause-typedefs : goal.returns-clause-typedefs
returns-clause-typedefs c = same-by
