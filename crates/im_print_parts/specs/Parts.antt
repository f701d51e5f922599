-- The words of one item of a list in a tree, for private contracts.
use Rattle.std.specs.Prelude.{ℕ, Bool, true, false, cond, nat_lt, List, [], ◌∷◌, ◌++◌, Option, Some, None, Box}
use Rattle.std.specs.declared.vec.Vec.{Vec}
use Rattle.std.specs.Global.{Global}
use Rattle.im_tok.specs.declared.keyword.Keyword.{Keyword}
use Rattle.im_tok.specs.declared.punctuator.Punctuator.{Punctuator}
use Rattle.im_tok.specs.declared.punctuator.Punctuator.TheVariants as punctuator
use Rattle.im_word.specs.Words.{Name, Word, name, keyword, mark}
use Rattle.im_ctree.specs.declared.expression.Expression.{Expression}
use Rattle.im_ctree.specs.declared.specifier.Specifier.{Specifier}
use Rattle.im_ctree.specs.declared.specifier.Specifiers as ss
use Rattle.im_ctree.specs.declared.specifier.Member as mb
use Rattle.im_ctree.specs.declared.specifier.Enumerator as en
use Rattle.im_ctree.specs.declared.declarator.Declarator as dc
use Rattle.im_ctree.specs.declared.declarator.Star.{Star}
use Rattle.im_ctree.specs.declared.declarator.Suffix.{Suffix}
use Rattle.im_ctree.specs.declared.declarator.Parameter as pm
use Rattle.im_ctree.specs.declared.declaration.Initializer.{Initializer}
use Rattle.im_ctree.specs.declared.declaration.InitDeclarator.{InitDeclarator}
use Rattle.im_ctree.specs.declared.statement.Statement.{Statement}
use Rattle.im_ctree.specs.declared.statement.BlockItem as bi
use Rattle.im_ctree.specs.declared.unit.Function.{Function}
use Rattle.im_ctree.specs.Tree as t
use Rattle.im_ctree.specs.Shape.{declarator_of, initializer_of, maybe_initializer_of, declaration_of, statement_of}
use Rattle.im_ctree.specs.Typedefs.{has_type_from, typedef_names, names_behind}
use Rattle.im_print_relation.specs.Printed as printed
use Rattle.im_ctree_parts.specs.Lists.{expression_in, maybe_from, specifier_in, list_from, declarators_from, declarator_from, with_suffix, statement_in}

-- the comma before an item of a list, where one stands before it
abbrev pub comma_words : Bool → List Word
comma_words true = mark punctuator.Comma ∷ []
comma_words false = []

-- items with commas between them; the Bool says whether an item stands before them
abbrev pub separated : {X : Type 0} → (X → List Word) → Bool → List X → List Word
separated words behind [] = []
separated words behind (x ∷ xs) = (comma_words behind ++ words x) ++ separated words true xs

-- an expression with an operand with which a chain goes on: an index, a call, a cast or a comma
abbrev pub is_link : t.Expression → Bool
is_link (t.index p a b) = true
is_link (t.call p a bs) = true
is_link (t.cast p n a) = true
is_link (t.comma p a b) = true
is_link e = false

-- a parenthesis of an operand, where it stands in some
abbrev pub parenthesis : ℕ → t.Expression → Punctuator → List Word
parenthesis n a p = cond (nat_lt (printed.binding a) n) (mark p ∷ []) []

-- what stands before that operand, and what behind it
abbrev pub before_first : List Name → t.Expression → List Word
before_first T (t.index p a b) = parenthesis 15 a punctuator.OpenParen
before_first T (t.call p a bs) = parenthesis 15 a punctuator.OpenParen
before_first T (t.cast p n a) = mark punctuator.OpenParen ∷ (printed.type_name T n ++ (mark punctuator.CloseParen ∷ parenthesis 13 a punctuator.OpenParen))
before_first T e = []

abbrev pub behind_first : List Name → t.Expression → List Word
behind_first T (t.index p a b) = parenthesis 15 a punctuator.CloseParen ++ (mark punctuator.OpenBracket ∷ (printed.expression T b ++ (mark punctuator.CloseBracket ∷ [])))
behind_first T (t.call p a bs) = parenthesis 15 a punctuator.CloseParen ++ (mark punctuator.OpenParen ∷ (printed.arguments T bs ++ (mark punctuator.CloseParen ∷ [])))
behind_first T (t.cast p n a) = parenthesis 13 a punctuator.CloseParen
behind_first T (t.comma p a b) = mark punctuator.Comma ∷ printed.at_binding 1 b (printed.expression T b)
behind_first T e = []

abbrev pub argument_words : List Name → Expression → List Word
argument_words T e = printed.at_binding 1 (expression_in e) (printed.expression T (expression_in e))

abbrev pub specifier_words : List Name → Specifier → List Word
specifier_words T s = printed.specifier T (specifier_in s)

abbrev pub member_words : List Name → mb.Member → List Word
member_words T m = printed.specifier_list T (list_from (ss.out-Specifiers (mb.out-Member m).specifiers).items.items) ++ (printed.declarators T (has_type_from false (list_from (ss.out-Specifiers (mb.out-Member m).specifiers).items.items)) (declarators_from (mb.out-Member m).declarators.items) ++ (mark punctuator.Semicolon ∷ []))

abbrev pub enumerator_words : List Name → en.Enumerator → List Word
enumerator_words T e = name (en.out-Enumerator e).name.items ∷ printed.enumerator_value T (maybe_from (en.out-Enumerator e).value)

abbrev pub declarator_words : List Name → dc.Declarator → List Word
declarator_words T d = printed.declarator T (declarator_of d)

-- a declarator behind others
abbrev pub next_declarator : List Name → dc.Declarator → List Word
next_declarator T d = mark punctuator.Comma ∷ declarator_words T d

abbrev pub star_words : Star → List Word
star_words s = mark punctuator.Star ∷ printed.consts s.consts

abbrev pub suffix_words : List Name → Suffix → List Word
suffix_words T s = printed.suffixes T (with_suffix s.at s.kind t.no_suffixes)

abbrev pub parameter_words : List Name → pm.Parameter → List Word
parameter_words T p = printed.specifier_list T (list_from (ss.out-Specifiers (pm.out-Parameter p).specifiers).items.items) ++ printed.maybe_declarator T (declarator_from (pm.out-Parameter p).declarator)

abbrev pub initializer_words : List Name → Initializer → List Word
initializer_words T i = printed.initializer T (initializer_of i)

-- a declarator and its initialiser, behind others
abbrev pub next_init_declarator : List Name → InitDeclarator → List Word
next_init_declarator T d = mark punctuator.Comma ∷ (printed.declarator T (declarator_of d.declarator) ++ printed.maybe_initializer T (maybe_initializer_of d.initializer))

-- a struct's or an enum's tag, where it has one
abbrev pub tag_words : Keyword → Option (Vec ℕ Global) → List Word
tag_words k None = keyword k ∷ []
tag_words k (Some n) = keyword k ∷ name n.items ∷ []

-- an item of a block, and the typedef names behind it
abbrev pub item_words : List Name → bi.BlockItem → List Word
item_words T (bi.Declaration d) = printed.declaration T (declaration_of d)
item_words T (bi.Statement' i s) = printed.statement T (statement_of i s)

abbrev pub names_behind_item : List Name → bi.BlockItem → List Name
names_behind_item T (bi.Declaration d) = typedef_names T (declaration_of d)
names_behind_item T (bi.Statement' i s) = names_behind T (statement_of i s)

-- the statement behind `else`, where one is written
abbrev pub other_from : Option (Box Statement Global) → t.MaybeStatement
other_from None = t.no_statement
other_from (Some b) = t.a_statement (statement_in b.value)

-- a function definition up to its body
abbrev pub signature_words : List Name → Function → List Word
signature_words T f = printed.specifier_list T (list_from (ss.out-Specifiers f.specifiers).items.items) ++ printed.behind_specifiers T (has_type_from false (list_from (ss.out-Specifiers f.specifiers).items.items)) (declarator_of f.declarator) (printed.declarator T (declarator_of f.declarator))
