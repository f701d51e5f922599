-- Blocks and what stands in them, part by part.
use Rattle.std.proofs.Common.{◌≡◌, ℕ, ◌<◌, List, [], ◌∷◌, ◌++◌, length, map, drop, sym, refl, ap, ◌∙◌, subst, arith, append_assoc}
use Rattle.std.specs.Prelude.{Option, Some, None}
use Rattle.im_tok.specs.declared.keyword.Keyword.TheVariants as key
use Rattle.im_tok.specs.declared.punctuator.Punctuator.TheVariants.{OpenBrace, CloseBrace, Semicolon}
use Rattle.im_word.specs.Words.{Name, Word, keyword, mark}
use Rattle.im_ctree.specs.Operators as op
use Rattle.im_ctree.specs.Tree as tree
use Rattle.im_ctree.specs.Units as units
use Rattle.im_ctree.specs.Typedefs.{names_behind_items}
use Rattle.im_ctree.specs.Follow.{StartsExpression, StartsSpecifier, at_typedef, at_word, at_struct, at_enum}
use Rattle.im_ctree.specs.declared.statement.BlockItem.{BlockItem}
use Rattle.im_ctree.proofs.Ranks.{expression_starts, expression_opens, apart}
use Rattle.im_parse_core.specs.Reads.{Family, head, Reads, Refuses, Within}
use Rattle.im_parse_core.specs.Parts.{Both, both, After, after, Made, made, Done, done}
use Rattle.im_parse_core.specs.Places.{IsAt}
use Rattle.im_parse_core.specs.Lists.{before}
use Rattle.im_parse_core.specs.Repeats.{Repeated, no_more, one_more, moved}
use Rattle.im_parse_core.proofs.Steps.{Apart, Into, start, line, word, missing, part, refused, node, all, as_closed, first_line}
use Rattle.im_parse_core.proofs.Repeats as rows
use Rattle.im_parse_core.proofs.SeparatedLists.{closed_apart}
use Rattle.im_parse_expression.specs.Parsing.{Anything, Closed, BeginsSpecifiers, by_keyword}
use Rattle.im_parse_expression.proofs.BinaryLines.{starts_of}
use Rattle.im_parse_expression.proofs.MemberLines.{specifiers_begin}
use Rattle.im_parse_statement.specs.Statements.{AfterItem, AfterStatement, ExpressionLine, ItemTree, declared, stated, add_item, item_tree, names_behind_item, IsItem, a_declaration, a_statement}
use Rattle.im_parse_statement.proofs.Forms.{Line, keyword_line, block_line, expression_line, line_of, word_start, head_start, block_start, start_same}

some_word : {x y : Word} → Some x ≡ Some y → x ≡ y
some_word e = cc

-- a word that no statement begins with
pub record Stray (T : List Name) (x : Word) : Type 0 where
  pub unstarted : word_start x ≡ None
  pub no_brace : x ≡ mark OpenBrace → ⊥
  pub no_semicolon : x ≡ mark Semicolon → ⊥
  pub no_expression : StartsExpression T x → ⊥

maybe_stray : {T : List Name} {p : ℕ} {e : tree.MaybeExpression} {u : List Word} {x : Word} → Stray T x → units.IsMaybeExpression T p e u → (r : List Word) → head ((u ++ (mark Semicolon ∷ [])) ++ r) ≡ Some x → ⊥
maybe_stray stray units.nothing r e = stray.no_semicolon (sym (some_word e))
maybe_stray {T = T} stray (units.something d) r e =
    let s = expression_starts d in
    stray.no_expression (subst (StartsExpression T) (some_word (ap (λ z. head ((z ++ (mark Semicolon ∷ [])) ++ r)) (sym s.2) ∙ e)) s.3)

line_stray : {T : List Name} {p q : ℕ} {s : tree.Statement} {x : Word} (u r : List Word) → Stray T x → ExpressionLine T p q s u → head (u ++ r) ≡ Some x → ⊥
line_stray _ r stray (both e (after done)) at = maybe_stray stray e r at

statement_stray : {T : List Name} {p : ℕ} {s : tree.Statement} {x : Word} {u : List Word} → Stray T x → (r : List Word) → head (u ++ r) ≡ Some x → Line T p s u → ⊥
statement_stray {x = x} stray r e (keyword_line y d) =
    let at : None ≡ Some y = sym stray.unstarted ∙ ap head_start (sym e) ∙ start_same y in cc at
statement_stray {u = u} stray r e (block_line d) = stray.no_brace (some_word (sym e ∙ block_start u r d))
statement_stray {u = u} stray r e (expression_line d) = line_stray u r stray d e

starts_no_else : {T : List Name} → StartsExpression T (keyword key.Else) → ⊥
starts_no_else s = elim s [ ]

stray_else : (T : List Name) → Stray T (keyword key.Else)
stray_else T = record { unstarted = refl; no_brace = λ e. cc e; no_semicolon = λ e. cc e; no_expression = starts_no_else }

stray_brace : (T : List Name) → Stray T (mark CloseBrace)
stray_brace T = record { unstarted = refl; no_brace = λ e. cc e; no_semicolon = λ e. cc e; no_expression = λ s. omega (arith, expression_opens s) }

specifier_start : {T : List Name} {x : Word} → StartsSpecifier T x → word_start x ≡ None
specifier_start (at_typedef is) = refl
specifier_start (at_word op.typedef) = refl
specifier_start (at_word op.extern) = refl
specifier_start (at_word op.static) = refl
specifier_start (at_word op.const) = refl
specifier_start (at_word op.void) = refl
specifier_start (at_word op.char) = refl
specifier_start (at_word op.short) = refl
specifier_start (at_word op.int) = refl
specifier_start (at_word op.long) = refl
specifier_start (at_word op.signed) = refl
specifier_start (at_word op.unsigned) = refl
specifier_start at_struct = refl
specifier_start at_enum = refl

specifier_mark : {T : List Name} {m : _} → StartsSpecifier T (mark m) → ⊥
specifier_mark s = elim s [ ]

stray_specifier : {T : List Name} {x : Word} → StartsSpecifier T x → Stray T x
stray_specifier {T = T} s = record {
  unstarted = specifier_start s;
  no_brace = λ e. specifier_mark (subst (StartsSpecifier T) e s);
  no_semicolon = λ e. specifier_mark (subst (StartsSpecifier T) e s);
  no_expression = λ e. apart e s;
}

specifier_at : {T : List Name} (m : List Word) → BeginsSpecifiers T (head m) → (x : Word) × (head m ≡ Some x) × StartsSpecifier T x
specifier_at [] h = elim h [ ]
specifier_at (x ∷ v) h = (x, refl, starts_of h)

pub declaration_begins : {T : List Name} {p : ℕ} {d : tree.Declaration} {u : List Word} (z : List Word) → units.IsDeclaration T p d u → BeginsSpecifiers T (head (u ++ z))
declaration_begins {T = T} z (units.declares_none {u = u} s) = subst (λ y. BeginsSpecifiers T (head y)) (sym (append_assoc u (mark Semicolon ∷ []) z)) (specifiers_begin ((mark Semicolon ∷ []) ++ z) s)
declaration_begins {T = T} z (units.declares {u = u} {v = v} s none ds) = subst (λ y. BeginsSpecifiers T (head y)) (sym (append_assoc u (v ++ (mark Semicolon ∷ [])) z)) (specifiers_begin ((v ++ (mark Semicolon ∷ [])) ++ z) s)

begins_no_else : {T : List Name} → BeginsSpecifiers T (Some (keyword key.Else)) → ⊥
begins_no_else (by_keyword one) = omega (arith, one)

begins_no_brace : {T : List Name} → BeginsSpecifiers T (Some (mark CloseBrace)) → ⊥
begins_no_brace h = elim h [ ]

item_else : {T : List Name} {q : ℕ} {a : ItemTree} {u : List Word} (z : List Word) → IsItem T q a u → head (u ++ z) ≡ Some (keyword key.Else) → ⊥
item_else {T = T} z (a_declaration d) e = begins_no_else (subst (BeginsSpecifiers T) e (declaration_begins z d))
item_else {T = T} z (a_statement s) e = statement_stray (stray_else T) z e (line_of s)

item_brace : {T : List Name} {q : ℕ} {a : ItemTree} {u : List Word} (z : List Word) → IsItem T q a u → head (u ++ z) ≡ Some (mark CloseBrace) → ⊥
item_brace {T = T} z (a_declaration d) e = begins_no_brace (subst (BeginsSpecifiers T) e (declaration_begins z d))
item_brace {T = T} z (a_statement s) e = statement_stray (stray_brace T) z e (line_of s)

-- { decl | stmt }
abbrev Row : List Name → Family tree.BlockItems
Row T = Repeated IsItem names_behind_item add_item tree.no_items T

row_of : {T : List Name} {p : ℕ} {is : tree.BlockItems} {u : List Word} → units.IsBlockItems T p is u → Row T p is u
row_of units.no_item = no_more
row_of (units.next_declaration d rest) = one_more (a_declaration d) (row_of rest)
row_of (units.next_statement s rest) = one_more (a_statement s) (row_of rest)

of_row : {T : List Name} {p : ℕ} {is : tree.BlockItems} {u : List Word} → Row T p is u → units.IsBlockItems T p is u
of_row no_more = units.no_item
of_row (one_more (a_declaration d) rest) = units.next_declaration d (of_row rest)
of_row (one_more (a_statement s) rest) = units.next_statement s (of_row rest)

abbrev Braced : tree.BlockItems → Family tree.BlockItems
Braced b = After (mark CloseBrace) (Done b)

abbrev pub Items : List Name → Family tree.BlockItems
Items T = Closed CloseBrace (units.IsBlockItems T)

abbrev pub InItems : List Name → List Word → ℕ → List ItemTree → List Name → ℕ → Type 0
InItems T words p xs T' q = Within (Items T) Anything p (drop p words) (rows.Rest IsItem names_behind_item add_item tree.no_items Braced xs T') Anything q (drop q words) (λ t. t)

abbrev pub NextItem : List Name → List Word → ℕ → List ItemTree → List Name → ℕ → Type 0
NextItem T words p xs T' q = Within (Items T) Anything p (drop p words) (rows.Next IsItem names_behind_item add_item tree.no_items Braced xs T') Anything q (drop q words) (λ t. t)

pub items_start : (words : List Word) (T : List Name) (p : ℕ) → InItems T words p [] T p
items_start words T p = first_line {G = λ t r. head r ≡ Some (mark CloseBrace)} (Row T) (closed_apart (mark CloseBrace)) (λ t u d. of_row d) (λ t u r e d f. row_of d) (start (Items T) Anything p (drop p words))

brace_first : {k : ℕ} {b t : tree.BlockItems} (u r : List Word) → Braced b k t u → head (u ++ r) ≡ Some (mark CloseBrace)
brace_first _ r (after d) = refl

pub items_more : (words : List Word) (xs : List ItemTree) {T T' : List Name} {p q : ℕ} → (head (drop q words) ≡ Some (mark CloseBrace) → ⊥) → InItems T words p xs T' q → NextItem T words p xs T' q
items_more words xs other from = rows.one Braced xs (λ k t u r e d f. other (sym e ∙ brace_first u r d)) from

item_ends : (a : ItemTree) (m : List Word) → (head m ≡ Some (keyword key.Else) → ⊥) → AfterItem a m
item_ends (declared d) m other = tt
item_ends (stated s) m other = λ taken. other

braced_ends : (a : ItemTree) (b t : tree.BlockItems) (k : ℕ) (v r : List Word) → Braced b k t v → AfterItem a (v ++ r)
braced_ends a b t k v r d = item_ends a (v ++ r) (λ e. let h : Some (mark CloseBrace) ≡ Some (keyword key.Else) = sym (brace_first v r d) ∙ e in cc h)

item_apart : (xs : List ItemTree) (T' : List Name) → Apart (λ a. rows.Rest IsItem names_behind_item add_item tree.no_items Braced (xs ++ a ∷ []) (names_behind_item T' a)) Anything AfterItem
item_apart xs T' = rows.apart_item Braced AfterItem xs T' (λ a a' k u z d. item_ends a (u ++ z) (item_else z d)) (λ a b k t v r d f. braced_ends a (before add_item (xs ++ a ∷ []) b) t k v r d)

some_braced : (b : tree.BlockItems) (k : ℕ) → (t : tree.BlockItems) × (v : List Word) × Braced b k t v
some_braced b k = (b, mark CloseBrace ∷ [], after done)

pub refuses_item : (words : List Word) (xs : List ItemTree) {T T' : List Name} {p q n : ℕ} → NextItem T words p xs T' q → Refuses (IsItem T') AfterItem q (drop q words) n (drop n words) → Refuses (Items T) Anything p (drop p words) n (drop n words)
refuses_item words xs {T' = T'} from one = refused (rows.completes_item Braced xs T' some_braced) (item_apart xs T') one from

pub items_next : (words : List Word) (xs : List ItemTree) {T T' T'' : List Name} {p q n : ℕ} {a : ItemTree} → T'' ≡ names_behind_item T' a → NextItem T words p xs T' q → Reads (IsItem T') AfterItem q (drop q words) a n (drop n words) → InItems T words p (xs ++ a ∷ []) T'' n
items_next words xs {T = T} {T' = T'} {p = p} {n = n} {a = a} same from one = subst (λ z. InItems T words p (xs ++ a ∷ []) z n) (sym same) (part (item_apart xs T') one from)

pub reads_items : (words : List Word) (xs : List ItemTree) {T T' : List Name} {p q n : ℕ} → IsAt (mark CloseBrace) words q n → InItems T words p xs T' q → Reads (Items T) Anything p (drop p words) (before add_item xs tree.no_items) n (drop n words)
reads_items words xs at from = all (word at (rows.over Braced xs (λ a u z d e. item_brace z d (e ∙ ap head at.here)) from))

pub items_item : (items : List BlockItem) (x : BlockItem) → map item_tree (items ++ x ∷ []) ≡ map item_tree items ++ item_tree x ∷ []
items_item [] x = refl
items_item (y ∷ items) x = ap (λ z. item_tree y ∷ z) (items_item items x)

-- the typedef names behind items
behind_add : (T : List Name) (a : ItemTree) (is : tree.BlockItems) → names_behind_items T (add_item a is) ≡ names_behind_items (names_behind_item T a) is
behind_add T (declared d) is = refl
behind_add T (stated s) is = refl

pub moved_items : (T : List Name) (xs : List ItemTree) → moved names_behind_item T xs ≡ names_behind_items T (before add_item xs tree.no_items)
moved_items T [] = refl
moved_items T (x ∷ xs) = moved_items (names_behind_item T x) xs ∙ sym (behind_add T x (before add_item xs tree.no_items))

pub moved_next : (T T' T'' : List Name) (items : List BlockItem) (x : BlockItem) → T' ≡ moved names_behind_item T (map item_tree items) → T'' ≡ names_behind_item T' (item_tree x) → T'' ≡ moved names_behind_item T (map item_tree (items ++ x ∷ []))
moved_next T T' T'' items x before' same = same ∙ ap (λ z. names_behind_item z (item_tree x)) before' ∙ sym (rows.moved_more names_behind_item T (map item_tree items) (item_tree x)) ∙ ap (λ z. moved names_behind_item T z) (sym (items_item items x))

-- an item has a word
full : (u : List Word) {x : Word} (z : List Word) → (head (u ++ z) ≡ Some x → ⊥) → head z ≡ Some x → 0 < length u
full [] z other e = absurd (other e)
full (y ∷ u) z other e = omega arith

pub item_advances : {T : List Name} {q n : ℕ} {w m : List Word} {a : ItemTree} → Reads (IsItem T) AfterItem q w a n m → q < n
item_advances one = omega (arith, one.place, full one.front (mark CloseBrace ∷ []) (item_brace (mark CloseBrace ∷ []) one.derived) refl)

-- "{" { decl | stmt } "}"
abbrev BlockLine : List Name → ℕ → Family tree.Block
BlockLine T p = After (mark OpenBrace) (Both (units.IsBlockItems T) (λ is. After (mark CloseBrace) (Done (tree.block p is))))

block_into : (T : List Name) (q : ℕ) → Into (BlockLine T q) (units.IsBlock T) q
block_into T q t _ (after (both is (after done))) = units.a_block is

block_back : (T : List Name) (q : ℕ) → Into (units.IsBlock T) (BlockLine T q) q
block_back T q t _ (units.a_block is) = after (both is (after done))

abbrev ABlock : List Name → List Word → ℕ → Type 0
ABlock T words p = Within (units.IsBlock T) Anything p (drop p words) (BlockLine T p) Anything p (drop p words) (λ t. t)

block_line' : (words : List Word) (T : List Name) (p : ℕ) → ABlock T words p
block_line' words T p = line (BlockLine T p) (block_into T p) (λ t u r e d f. block_back T p t u d) (start (units.IsBlock T) Anything p (drop p words))

pub misses_brace : (words : List Word) (T : List Name) {p : ℕ} → (head (drop p words) ≡ Some (mark OpenBrace) → ⊥) → Refuses (units.IsBlock T) Anything p (drop p words) p (drop p words)
misses_brace words T {p = p} other = missing (λ q. (tree.block p tree.no_items, mark CloseBrace ∷ [], both units.no_item (after done))) other (block_line' words T p)

abbrev pub InBlock : List Name → List Word → ℕ → ℕ → Type 0
InBlock T words p k = Within (units.IsBlock T) Anything p (drop p words) (Both (Items T) (λ is. Done (tree.block p is))) Anything k (drop k words) (λ t. t)

pub in_block : (words : List Word) (T : List Name) {p k : ℕ} → IsAt (mark OpenBrace) words p k → InBlock T words p k
in_block words T {p = p} at = as_closed (word at (block_line' words T p))

pub refuses_items : (words : List Word) {T : List Name} {p k n : ℕ} → InBlock T words p k → Refuses (Items T) Anything k (drop k words) n (drop n words) → Refuses (units.IsBlock T) Anything p (drop p words) n (drop n words)
refuses_items words {p = p} from one = refused (λ is q. (tree.block p is, [], done)) (λ a q t v r d e. tt) one from

pub reads_block : (words : List Word) {T : List Name} {p k n : ℕ} {is : tree.BlockItems} → InBlock T words p k → Reads (Items T) Anything k (drop k words) is n (drop n words) → Reads (units.IsBlock T) Anything p (drop p words) (tree.block p is) n (drop n words)
reads_block words from one = all (part (λ a q t v r d e. tt) one from)

-- one item
declared_into : (T : List Name) (q : ℕ) → Into (Made declared (units.IsDeclaration T)) (IsItem T) q
declared_into T q t _ (made d) = a_declaration d

declared_back : (T : List Name) (q : ℕ) (m : List Word) → BeginsSpecifiers T (head m) → (t : ItemTree) (u r : List Word) → head (u ++ r) ≡ head m → IsItem T q t u → Made declared (units.IsDeclaration T) q t u
declared_back T q m begins t u r e (a_declaration d) = made d
declared_back T q m begins t u r e (a_statement s) = let k = specifier_at m begins in absurd (statement_stray (stray_specifier k.2) r (e ∙ k.1) (line_of s))

pub item_declared : (words : List Word) (T : List Name) {p : ℕ} → BeginsSpecifiers T (head (drop p words)) → Within (IsItem T) AfterItem p (drop p words) (units.IsDeclaration T) Anything p (drop p words) declared
item_declared words T {p = p} begins =
    node (line (Made declared (units.IsDeclaration T)) (declared_into T p) (λ t u r e d f. declared_back T p (drop p words) begins t u r e d) (start (IsItem T) AfterItem p (drop p words)))

stated_into : (T : List Name) (q : ℕ) → Into (Made stated (units.IsStatement T)) (IsItem T) q
stated_into T q t _ (made s) = a_statement s

stated_back : (T : List Name) (q : ℕ) (m : List Word) → (BeginsSpecifiers T (head m) → ⊥) → (t : ItemTree) (u r : List Word) → head (u ++ r) ≡ head m → IsItem T q t u → Made stated (units.IsStatement T) q t u
stated_back T q m other t u r e (a_declaration d) = absurd (other (subst (BeginsSpecifiers T) e (declaration_begins r d)))
stated_back T q m other t u r e (a_statement s) = made s

pub item_stated : (words : List Word) (T : List Name) {p : ℕ} → (BeginsSpecifiers T (head (drop p words)) → ⊥) → Within (IsItem T) AfterItem p (drop p words) (units.IsStatement T) AfterStatement p (drop p words) stated
item_stated words T {p = p} other =
    node (line (Made stated (units.IsStatement T)) (stated_into T p) (λ t u r e d f. stated_back T p (drop p words) other t u r e d) (start (IsItem T) AfterItem p (drop p words)))

-- what a `for` begins with
init_into : (T : List Name) (q : ℕ) → Into (Made tree.for_declaration (units.IsDeclaration T)) (units.IsForInit T) q
init_into T q t _ (made d) = units.begins_with_declaration d

init_back : (T : List Name) (q : ℕ) (m : List Word) → BeginsSpecifiers T (head m) → (t : tree.ForInit) (u r : List Word) → head (u ++ r) ≡ head m → units.IsForInit T q t u → Made tree.for_declaration (units.IsDeclaration T) q t u
init_back T q m begins t u r e (units.begins_with_declaration d) = made d
init_back T q m begins t _ r e (units.begins_with_expression x) = let k = specifier_at m begins in absurd (maybe_stray (stray_specifier k.2) x r (e ∙ k.1))

pub init_declared : (words : List Word) (T : List Name) {p : ℕ} → BeginsSpecifiers T (head (drop p words)) → Within (units.IsForInit T) Anything p (drop p words) (units.IsDeclaration T) Anything p (drop p words) tree.for_declaration
init_declared words T {p = p} begins =
    node (line (Made tree.for_declaration (units.IsDeclaration T)) (init_into T p) (λ t u r e d f. init_back T p (drop p words) begins t u r e d) (start (units.IsForInit T) Anything p (drop p words)))

valued_into : (T : List Name) (q : ℕ) → Into (Made tree.for_expression (Closed Semicolon (units.IsMaybeExpression T))) (units.IsForInit T) q
valued_into T q t _ (made (both x (after done))) = units.begins_with_expression x

valued_back : (T : List Name) (q : ℕ) (m : List Word) → (BeginsSpecifiers T (head m) → ⊥) → (t : tree.ForInit) (u r : List Word) → head (u ++ r) ≡ head m → units.IsForInit T q t u → Made tree.for_expression (Closed Semicolon (units.IsMaybeExpression T)) q t u
valued_back T q m other t u r e (units.begins_with_declaration d) = absurd (other (subst (BeginsSpecifiers T) e (declaration_begins r d)))
valued_back T q m other t _ r e (units.begins_with_expression x) = made (both x (after done))

pub init_valued : (words : List Word) (T : List Name) {p : ℕ} → (BeginsSpecifiers T (head (drop p words)) → ⊥) → Within (units.IsForInit T) Anything p (drop p words) (Closed Semicolon (units.IsMaybeExpression T)) Anything p (drop p words) tree.for_expression
init_valued words T {p = p} other =
    node (line (Made tree.for_expression (Closed Semicolon (units.IsMaybeExpression T))) (valued_into T p) (λ t u r e d f. valued_back T p (drop p words) other t u r e d) (start (units.IsForInit T) Anything p (drop p words)))
