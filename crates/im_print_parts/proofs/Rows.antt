-- The lists of a tree are printed item by item.
use Rattle.std.proofs.Common.{◌≡◌, ◌<◌, ◌≤◌, ◌+◌, ◌-◌, ℕ, zero, suc, List, [], ◌∷◌, ◌++◌, length, take, drop, get_or, take_all, true, arith, cond, lt-ltb, refl, sym, ap, ap₂, ◌∙◌, append_assoc, Bool, false, Option, Some, None, Box, Vec, Global}
use Rattle.std.proofs.lemmas.List.{drop_more}
use Rattle.im_tok.specs.declared.keyword.Keyword.TheVariants as key
use Rattle.im_tok.specs.declared.punctuator.Punctuator.TheVariants as punctuator
use Rattle.im_word.specs.Words.{Name, Word, name, keyword, mark}
use Rattle.im_ctree.specs.declared.expression.Expression.{Expression}
use Rattle.im_ctree.specs.declared.specifier.Specifiers as ss
use Rattle.im_ctree.specs.declared.specifier.SpecifierKind as sk
use Rattle.im_ctree.specs.declared.specifier.Member as mb
use Rattle.im_ctree.specs.declared.specifier.Enumerator as en
use Rattle.im_ctree.specs.declared.declarator.Declarator as dc
use Rattle.im_ctree.specs.declared.declarator.Star.{Star}
use Rattle.im_ctree.specs.declared.declarator.Suffix.{Suffix}
use Rattle.im_ctree.specs.declared.declarator.SuffixKind as xk
use Rattle.im_ctree.specs.declared.declarator.Parameter as pm
use Rattle.im_ctree.specs.declared.declaration.Initializer as ini
use Rattle.im_ctree.specs.declared.declaration.Initializer.{Initializer}
use Rattle.im_ctree.specs.declared.declaration.Declaration.{Declaration}
use Rattle.im_ctree.specs.declared.declaration.InitDeclarator.{InitDeclarator}
use Rattle.im_ctree.specs.declared.statement.BlockItem as bi
use Rattle.im_ctree.specs.declared.unit.External.TheVariants as ext
use Rattle.im_ctree.specs.declared.unit.Function.{Function}
use Rattle.im_ctree.specs.Tree as t
use Rattle.im_ctree.specs.Shape.{specifier_of, declaration_of, external_of, declarator_of, maybe_expression_of, parameters_of, initializer_of, maybe_initializer_of, init_declarators_of, block_items_of}
use Rattle.im_ctree.specs.Typedefs.{has_type_from, names_behind_items}
use Rattle.im_print_relation.specs.Printed as printed
use Rattle.im_print_parts.specs.Output.{each, spaced, Writes}
use Rattle.im_print_parts.proofs.Writing.{writes_append, writes_same, written, next}
use Rattle.im_print_parts.specs.Parts as parts
use Rattle.im_ctree_parts.specs.Lists.{expressions_from, list_from, maybe_from, members_from, enumerators_from, declarators_from, declarator_from, stars_in, with_suffix, suffixes_from, parameters_from, initializers_from}
use Rattle.im_ctree_parts.proofs.Shapes.{struct_tree, enum_tree, function_suffix, list_tree, member_shape, enumerator_shape, parameter_shape, specifiers_shape}

pub split_first : {X : Type 0} (xs : List X) (x : X) → 1 ≤ length xs → x ≡ get_or xs 0 x → xs ≡ x ∷ take (length xs - 1) (drop 1 xs)
split_first [] x some is = absurd (omega arith)
split_first (y ∷ ys) x some is = ap₂ ◌∷◌ (sym is) (sym (take_all _ ys (omega arith)))

-- the first item and those behind it
pub writes_items : {X : Type 0} {a b c : List ℕ} (row : List X → List Word) (first : X → List Word) (others : X → List Word)
    → ((x : X) (xs : List X) → row (x ∷ xs) ≡ first x ++ each others xs)
    → (xs : List X) (x : X)
    → 1 ≤ length xs
    → x ≡ get_or xs 0 x
    → Writes a b (first x)
    → Writes b c (each others (take (length xs - 1) (drop 1 xs)))
    → Writes a c (row xs)
writes_items row first others more xs x some is one rest =
    writes_same (sym (ap row (split_first xs x some is) ∙ more x (take (length xs - 1) (drop 1 xs)))) (writes_append one rest)

-- an expression in parentheses, where it binds too loosely
pub parenthesized : {a b : List ℕ} (n : ℕ) (e : t.Expression) (u : List Word) → printed.binding e < n → Writes a b (printed.in_parentheses u) → Writes a b (printed.at_binding n e u)
parenthesized n e u loose w = writes_same (sym (ap (λ b. cond b (printed.in_parentheses u) u) (lt-ltb (printed.binding e) n loose))) w

-- one item more of a list with commas
pub separated_step : {X : Type 0} {a b : List ℕ} (words : X → List Word) (behind : Bool) (xs : List X) (i : ℕ) (x : X)
    → Writes a b (parts.comma_words behind ++ words x)
    → i < length xs
    → x ≡ get_or xs i x
    → b ++ spaced (parts.separated words true (drop (i + 1) xs)) ≡ a ++ spaced (parts.separated words behind (drop i xs))
separated_step {a = a} words behind xs i x w within is =
    written (parts.separated words true (drop (i + 1) xs)) w
    ∙ ap (λ z. a ++ spaced (parts.separated words behind z)) (sym (next xs i x within is))

tail_separated : (T : List Name) (xs : List Expression) → printed.argument_tail T (expressions_from xs) ≡ parts.separated (parts.argument_words T) true xs
tail_separated T [] = refl
tail_separated T (x ∷ xs) = ap (λ z. mark punctuator.Comma ∷ (parts.argument_words T x ++ z)) (tail_separated T xs)

pub arguments_separated : (T : List Name) (xs : List Expression) → printed.arguments T (expressions_from xs) ≡ parts.separated (parts.argument_words T) false xs
arguments_separated T [] = refl
arguments_separated T (x ∷ xs) = ap (λ z. parts.argument_words T x ++ z) (tail_separated T xs)

member_parts : (T : List Name) (m : mb.Member) (rest : List Word)
    → printed.specifier_list T (list_from (ss.out-Specifiers (mb.out-Member m).specifiers).items.items) ++ (printed.declarators T (has_type_from false (list_from (ss.out-Specifiers (mb.out-Member m).specifiers).items.items)) (declarators_from (mb.out-Member m).declarators.items) ++ (mark punctuator.Semicolon ∷ rest))
    ≡ parts.member_words T m ++ rest
member_parts T m rest =
    let s = printed.specifier_list T (list_from (ss.out-Specifiers (mb.out-Member m).specifiers).items.items) in
    let d = printed.declarators T (has_type_from false (list_from (ss.out-Specifiers (mb.out-Member m).specifiers).items.items)) (declarators_from (mb.out-Member m).declarators.items) in
    sym (append_assoc s (d ++ (mark punctuator.Semicolon ∷ [])) rest ∙ ap (λ z. s ++ z) (append_assoc d (mark punctuator.Semicolon ∷ []) rest))

pub members_each : (T : List Name) (ms : List mb.Member) → printed.members T (members_from ms) ≡ each (parts.member_words T) ms
members_each T [] = refl
members_each T (m ∷ ms) =
    ap (printed.members T) (member_shape m (members_from ms))
    ∙ member_parts T m (printed.members T (members_from ms))
    ∙ ap (λ z. parts.member_words T m ++ z) (members_each T ms)

pub declarators_each : (T : List Name) (ds : List dc.Declarator) → printed.declarator_tail T (declarators_from ds) ≡ each (parts.next_declarator T) ds
declarators_each T [] = refl
declarators_each T (d ∷ ds) = ap (λ z. parts.next_declarator T d ++ z) (declarators_each T ds)

pub declarators_first : (T : List Name) (typed : Bool) (d : dc.Declarator) (ds : List dc.Declarator)
    → printed.declarators T typed (declarators_from (d ∷ ds)) ≡ printed.behind_specifiers T typed (declarator_of d) (parts.declarator_words T d) ++ each (parts.next_declarator T) ds
declarators_first T typed d ds = ap (λ z. printed.behind_specifiers T typed (declarator_of d) (parts.declarator_words T d) ++ z) (declarators_each T ds)

more_enumerators : (T : List Name) (es : List en.Enumerator) → printed.enumerator_tail T (enumerators_from es) ≡ parts.separated (parts.enumerator_words T) true es
more_enumerators T [] = refl
more_enumerators T (e ∷ es) = ap (printed.enumerator_tail T) (enumerator_shape e (enumerators_from es)) ∙ ap (λ z. mark punctuator.Comma ∷ (parts.enumerator_words T e ++ z)) (more_enumerators T es)

pub enumerators_separated : (T : List Name) (es : List en.Enumerator) → printed.enumerators T (enumerators_from es) ≡ parts.separated (parts.enumerator_words T) false es
enumerators_separated T [] = refl
enumerators_separated T (e ∷ es) = ap (printed.enumerators T) (enumerator_shape e (enumerators_from es)) ∙ ap (λ z. parts.enumerator_words T e ++ z) (more_enumerators T es)

parameter_parts : (T : List Name) (p : pm.Parameter) (rest : List Word)
    → printed.specifier_list T (list_from (ss.out-Specifiers (pm.out-Parameter p).specifiers).items.items) ++ (printed.maybe_declarator T (declarator_from (pm.out-Parameter p).declarator) ++ rest) ≡ parts.parameter_words T p ++ rest
parameter_parts T p rest = sym (append_assoc (printed.specifier_list T (list_from (ss.out-Specifiers (pm.out-Parameter p).specifiers).items.items)) (printed.maybe_declarator T (declarator_from (pm.out-Parameter p).declarator)) rest)

more_parameters : (T : List Name) (ps : List pm.Parameter) → printed.parameter_tail T (parameters_from ps) ≡ parts.separated (parts.parameter_words T) true ps
more_parameters T [] = refl
more_parameters T (p ∷ ps) =
    ap (printed.parameter_tail T) (parameter_shape p (parameters_from ps))
    ∙ ap (λ z. mark punctuator.Comma ∷ z) (parameter_parts T p (printed.parameter_tail T (parameters_from ps)))
    ∙ ap (λ z. mark punctuator.Comma ∷ (parts.parameter_words T p ++ z)) (more_parameters T ps)

pub parameters_separated : (T : List Name) (ps : List pm.Parameter) → printed.parameters T (parameters_from ps) ≡ parts.separated (parts.parameter_words T) false ps
parameters_separated T [] = refl
parameters_separated T (p ∷ ps) =
    ap (printed.parameters T) (parameter_shape p (parameters_from ps))
    ∙ parameter_parts T p (printed.parameter_tail T (parameters_from ps))
    ∙ ap (λ z. parts.parameter_words T p ++ z) (more_parameters T ps)

suffix_more : (T : List Name) (at : ℕ) (k : xk.SuffixKind) (rest : t.Suffixes) → printed.suffixes T (with_suffix at k rest) ≡ printed.suffixes T (with_suffix at k t.no_suffixes) ++ printed.suffixes T rest
suffix_more T at (xk.Array' e) rest = ap (λ z. mark punctuator.OpenBracket ∷ z) (sym (append_assoc (printed.array_length T (maybe_expression_of e)) (mark punctuator.CloseBracket ∷ []) (printed.suffixes T rest)))
suffix_more T at (xk.Function' m ps) rest = ap (λ z. mark punctuator.OpenParen ∷ z) (sym (append_assoc (printed.parameters T (parameters_of ps)) (mark punctuator.CloseParen ∷ []) (printed.suffixes T rest)))

pub suffixes_each : (T : List Name) (xs : List Suffix) → printed.suffixes T (suffixes_from xs) ≡ each (parts.suffix_words T) xs
suffixes_each T [] = refl
suffixes_each T (x ∷ xs) = suffix_more T x.at x.kind (suffixes_from xs) ∙ ap (λ z. parts.suffix_words T x ++ z) (suffixes_each T xs)

-- one item more, read at its index
pub each_got : {X : Type 0} {a b : List ℕ} (words : X → List Word) (xs : List X) (i : ℕ) (d : X)
    → Writes a b (words (get_or xs i d))
    → i < length xs
    → b ++ spaced (each words (drop (i + 1) xs)) ≡ a ++ spaced (each words (drop i xs))
each_got {a = a} words xs i d w within = written (each words (drop (i + 1) xs)) w ∙ ap (λ z. a ++ spaced (each words z)) (sym (drop_more xs i d within))

pub consts_more : (n : ℕ) → 0 < n → keyword key.Const ∷ printed.consts (n - 1) ≡ printed.consts n
consts_more zero some = absurd (omega arith)
consts_more (suc n) some = let e : suc n - 1 ≡ n = omega arith in ap (λ m. keyword key.Const ∷ printed.consts m) e

pub stars_each : (xs : List Star) → printed.stars (stars_in xs) ≡ each parts.star_words xs
stars_each [] = refl
stars_each (x ∷ xs) = ap (λ z. parts.star_words x ++ z) (stars_each xs)

more_initializers : (T : List Name) (xs : List Initializer) → printed.initializer_tail T (initializers_from xs) ≡ parts.separated (parts.initializer_words T) true xs
more_initializers T [] = refl
more_initializers T (x ∷ xs) = ap (λ z. mark punctuator.Comma ∷ (parts.initializer_words T x ++ z)) (more_initializers T xs)

pub initializers_separated : (T : List Name) (xs : List Initializer) → printed.initializers T (initializers_from xs) ≡ parts.separated (parts.initializer_words T) false xs
initializers_separated T [] = refl
initializers_separated T (x ∷ xs) = ap (λ z. parts.initializer_words T x ++ z) (more_initializers T xs)

pub init_declarators_each : (T : List Name) (ds : List InitDeclarator) → printed.init_declarator_tail T (init_declarators_of ds) ≡ each (parts.next_init_declarator T) ds
init_declarators_each T [] = refl
init_declarators_each T (d ∷ ds) =
    ap (λ z. mark punctuator.Comma ∷ z) (sym (append_assoc (printed.declarator T (declarator_of d.declarator)) (printed.maybe_initializer T (maybe_initializer_of d.initializer)) (printed.init_declarator_tail T (init_declarators_of ds))))
    ∙ ap (λ z. parts.next_init_declarator T d ++ z) (init_declarators_each T ds)

pub init_declarators_first : (T : List Name) (typed : Bool) (d : InitDeclarator) (ds : List InitDeclarator)
    → printed.init_declarators T typed (init_declarators_of (d ∷ ds)) ≡ printed.behind_specifiers T typed (declarator_of d.declarator) (printed.declarator T (declarator_of d.declarator)) ++ (printed.maybe_initializer T (maybe_initializer_of d.initializer) ++ each (parts.next_init_declarator T) ds)
init_declarators_first T typed d ds = ap (λ z. printed.behind_specifiers T typed (declarator_of d.declarator) (printed.declarator T (declarator_of d.declarator)) ++ (printed.maybe_initializer T (maybe_initializer_of d.initializer) ++ z)) (init_declarators_each T ds)

pub items_more : (T : List Name) (x : bi.BlockItem) (xs : List bi.BlockItem) → printed.items T (block_items_of (x ∷ xs)) ≡ parts.item_words T x ++ printed.items (parts.names_behind_item T x) (block_items_of xs)
items_more T (bi.Declaration d) xs = refl
items_more T (bi.Statement' i s) xs = refl

pub items_known : (T : List Name) (x : bi.BlockItem) (xs : List bi.BlockItem) → names_behind_items T (block_items_of (x ∷ xs)) ≡ names_behind_items (parts.names_behind_item T x) (block_items_of xs)
items_known T (bi.Declaration d) xs = refl
items_known T (bi.Statement' i s) xs = refl

-- a struct and an enum, by their tags and what stands in braces
pub struct_words : (T : List Name) (at : ℕ) (tag : Option (Vec ℕ Global)) (ms : Vec mb.Member Global)
    → printed.specifier T (specifier_of at (sk.Struct tag ms)) ≡ parts.tag_words key.Struct tag ++ (mark punctuator.OpenBrace ∷ (each (parts.member_words T) ms.items ++ (mark punctuator.CloseBrace ∷ [])))
struct_words T at None ms = ap (printed.specifier T) (struct_tree at None ms) ∙ ap (λ z. keyword key.Struct ∷ mark punctuator.OpenBrace ∷ (z ++ (mark punctuator.CloseBrace ∷ []))) (members_each T ms.items)
struct_words T at (Some n) ms = ap (printed.specifier T) (struct_tree at (Some n) ms) ∙ ap (λ z. keyword key.Struct ∷ name n.items ∷ mark punctuator.OpenBrace ∷ (z ++ (mark punctuator.CloseBrace ∷ []))) (members_each T ms.items)

pub enum_words : (T : List Name) (at : ℕ) (tag : Option (Vec ℕ Global)) (es : Vec en.Enumerator Global)
    → printed.specifier T (specifier_of at (sk.Enum tag es)) ≡ parts.tag_words key.Enum tag ++ (mark punctuator.OpenBrace ∷ (printed.enumerators T (enumerators_from es.items) ++ (mark punctuator.CloseBrace ∷ [])))
enum_words T at None es = ap (printed.specifier T) (enum_tree at None es)
enum_words T at (Some n) es = ap (printed.specifier T) (enum_tree at (Some n) es)

array_tree : (at : ℕ) (e : Option (Box Expression Global)) (rest : t.Suffixes) → with_suffix at (xk.Array e) rest ≡ t.array_suffix at (maybe_from e) rest
array_tree at None rest = refl
array_tree at (Some b) rest = refl

pub array_words : (T : List Name) (at : ℕ) (e : Option (Box Expression Global)) → printed.suffixes T (with_suffix at (xk.Array e) t.no_suffixes) ≡ mark punctuator.OpenBracket ∷ (printed.array_length T (maybe_from e) ++ (mark punctuator.CloseBracket ∷ []))
array_words T at e = ap (printed.suffixes T) (array_tree at e t.no_suffixes)

pub function_words : (T : List Name) (at : ℕ) (ps : Vec pm.Parameter Global) → printed.suffixes T (with_suffix at (xk.Function ps) t.no_suffixes) ≡ mark punctuator.OpenParen ∷ (printed.parameters T (parameters_from ps.items) ++ (mark punctuator.CloseParen ∷ []))
function_words T at ps = ap (printed.suffixes T) (function_suffix at ps t.no_suffixes)

pub list_words : (T : List Name) (at : ℕ) (is : Vec Initializer Global) → printed.initializer T (initializer_of (ini.List at is)) ≡ printed.initializer T (t.braced_initializer 0 (initializers_from is.items))
list_words T at is = ap (printed.initializer T) (list_tree at is)

pub declaration_words : (T : List Name) (d : Declaration)
    → printed.specifier_list T (list_from (ss.out-Specifiers d.specifiers).items.items) ++ (printed.init_declarators T (has_type_from false (list_from (ss.out-Specifiers d.specifiers).items.items)) (init_declarators_of d.declarators.items) ++ (mark punctuator.Semicolon ∷ [])) ≡ printed.declaration T (declaration_of d)
declaration_words T d = sym (ap (λ z. printed.declaration T (t.declaration z (init_declarators_of d.declarators.items))) (specifiers_shape d.specifiers))

pub definition_words : (T : List Name) (f : Function) → parts.signature_words T f ++ printed.block T (t.block f.body.at (block_items_of f.body.items.items)) ≡ printed.external T (external_of (ext.Function f))
definition_words T f =
    let d = declarator_of f.declarator in
    let b = t.block f.body.at (block_items_of f.body.items.items) in
    let xs = list_from (ss.out-Specifiers f.specifiers).items.items in
    append_assoc (printed.specifier_list T xs) (printed.behind_specifiers T (has_type_from false xs) d (printed.declarator T d)) (printed.block T b)
    ∙ sym (ap (λ z. printed.external T (t.function_definition z d b)) (specifiers_shape f.specifiers))
