-- Declarations, part by part.
use Rattle.std.proofs.Common.{◌≡◌, ℕ, suc, ◌+◌, ◌<◌, List, [], ◌∷◌, ◌++◌, length, map, drop, sym, refl, ap, ◌∙◌, subst, arith, append_assoc, length-append, Bool, false}
use Rattle.std.specs.Prelude.{Option, Some, None}
use Rattle.std.proofs.lemmas.List.{append-nil}
use Rattle.im_tok.specs.declared.punctuator.Punctuator.TheVariants.{Comma, Semicolon, Assign, Star}
use Rattle.im_word.specs.Words.{Name, Word, name, mark}
use Rattle.im_ctree.specs.declared.declaration.InitDeclarator.{InitDeclarator}
use Rattle.im_ctree.specs.Tree as tree
use Rattle.im_ctree.specs.Grammar as g
use Rattle.im_ctree.specs.Units as units
use Rattle.im_ctree.specs.Typedefs.{has_type}
use Rattle.im_ctree.specs.Follow.{SpecifierEnds, Separated, closes, close_declaration, at_comma, head_rank, Starting, StartsDeclarator, at_declared, at_star, at_paren}
use Rattle.im_ctree.proofs.Ranks.{blocked, separated_rank, starting_append, meets}
use Rattle.im_ctree.proofs.Behind.{declarator_starts, starting_follows, separated_ends}
use Rattle.im_parse_core.specs.Reads.{Family, Ending, head, Reads, Refuses, Within}
use Rattle.im_parse_core.specs.Parts.{Both, both, After, after, Made, made, Done, done}
use Rattle.im_parse_core.specs.Places.{IsAt}
use Rattle.im_parse_core.specs.Lists.{before}
use Rattle.im_parse_core.specs.Repeats.{Repeated, no_more, one_more}
use Rattle.im_parse_core.proofs.Steps.{Apart, Completes, Into, cons_of, start, line, line_at, word, missing, part, refused, node, all, last, last_refused, first_line}
use Rattle.im_parse_core.proofs.Conditions.{ends, line_where, SomeWhere, IntoWhere}
use Rattle.im_parse_core.proofs.SeparatedLists.{Others, Behind, Before, opened, refuses_listed, listed, another, no_other, closed_apart, item_apart, item_completes}
use Rattle.im_parse_core.proofs.Repeats.{first}
use Rattle.im_parse_expression.specs.Parsing.{Anything, Closed, Below}
use Rattle.im_parse_expression.specs.Declaring.{GoesOn, by_name, AfterSpecifiers, AfterDeclarator, AfterParameter}
use Rattle.im_parse_expression.specs.Initializing.{InitDeclaratorTree, IsInitDeclarator, an_init_declarator, add_init_declarator, init_declarator_tree, InitTail, last_init, next_init, InitsBehind, inits_behind}
use Rattle.im_parse_expression.proofs.DeclaratorForms.{separated_after}
use Rattle.im_parse_expression.proofs.MemberLines.{some_declarator, goes_front, goes_list, declarator_goes, none_goes, star_stops}

-- [ "=" init ]
none_into : (T : List Name) (q : ℕ) → Into (Done tree.no_initializer) (units.IsMaybeInitializer T) q
none_into T q t _ done = units.not_initialized

none_back : (T : List Name) (q : ℕ) (m : List Word) → (head m ≡ Some (mark Assign) → ⊥) → (t : tree.MaybeInitializer) (u r : List Word) → head (u ++ r) ≡ head m → units.IsMaybeInitializer T q t u → Done tree.no_initializer q t u
none_back T q m other t _ r e units.not_initialized = done
none_back T q m other t _ r e (units.initialized i) = absurd (other (sym e))

pub reads_uninitialized : (words : List Word) (T : List Name) {p : ℕ} → (head (drop p words) ≡ Some (mark Assign) → ⊥) → Reads (units.IsMaybeInitializer T) (Below 2) p (drop p words) tree.no_initializer p (drop p words)
reads_uninitialized words T {p = p} other = all (line (Done tree.no_initializer) (none_into T p) (λ t u r e d f. none_back T p (drop p words) other t u r e d) (start (units.IsMaybeInitializer T) (Below 2) p (drop p words)))

abbrev InitLine : List Name → Family tree.MaybeInitializer
InitLine T = After (mark Assign) (Made tree.an_initializer (units.IsInitializer T))

init_into : (T : List Name) (q : ℕ) → Into (InitLine T) (units.IsMaybeInitializer T) q
init_into T q t _ (after (made i)) = units.initialized i

init_back : (T : List Name) (q : ℕ) (t : tree.MaybeInitializer) (u r v : List Word) → u ++ r ≡ mark Assign ∷ v → units.IsMaybeInitializer T q t u → head_rank r < 2 → InitLine T q t u
init_back T q t _ r v eq units.not_initialized e = absurd (blocked 2 e eq (omega arith))
init_back T q t _ r v eq (units.initialized i) e = after (made i)

pub init_start : (words : List Word) (T : List Name) {p k : ℕ} → IsAt (mark Assign) words p k → Within (units.IsMaybeInitializer T) (Below 2) p (drop p words) (units.IsInitializer T) (Below 2) k (drop k words) tree.an_initializer
init_start words T {p = p} at = node (word at (line_at (mark Assign) (InitLine T) (ap head at.here) (init_into T p) (λ t u r v eq d e. init_back T p t u r v eq d e) (start (units.IsMaybeInitializer T) (Below 2) p (drop p words))))

-- declarator [ "=" init ]
abbrev InitialOf : List Name → tree.Declarator → Family InitDeclaratorTree
InitialOf T d = Made (λ i. let x : InitDeclaratorTree = (d, i) in x) (units.IsMaybeInitializer T)

pair_into : (T : List Name) (q : ℕ) → Into (Both (g.IsDeclarator T false) (InitialOf T)) (IsInitDeclarator T) q
pair_into T q t _ (both d (made i)) = an_init_declarator d i

pair_back : (T : List Name) (q : ℕ) → Into (IsInitDeclarator T) (Both (g.IsDeclarator T false) (InitialOf T)) q
pair_back T q t _ (an_init_declarator d i) = both d (made i)

initial_ends : (T : List Name) → Apart (InitialOf T) AfterParameter AfterDeclarator
initial_ends T d q t _ r (made units.not_initialized) e = separated_after d r e
initial_ends T d q t _ r (made (units.initialized i)) e = (omega arith, refl, refl)

abbrev pub AnInit : List Name → List Word → ℕ → Type 0
AnInit T words p = Within (IsInitDeclarator T) AfterParameter p (drop p words) (Both (g.IsDeclarator T false) (InitialOf T)) AfterParameter p (drop p words) (λ t. t)

pub pair_start : (words : List Word) (T : List Name) (p : ℕ) → AnInit T words p
pair_start words T p = line (Both (g.IsDeclarator T false) (InitialOf T)) (pair_into T p) (λ t u r e d f. pair_back T p t u d) (start (IsInitDeclarator T) AfterParameter p (drop p words))

pub refuses_its_declarator : (words : List Word) {T : List Name} {p n : ℕ} → AnInit T words p → Refuses (g.IsDeclarator T false) AfterDeclarator p (drop p words) n (drop n words) → Refuses (IsInitDeclarator T) AfterParameter p (drop p words) n (drop n words)
refuses_its_declarator words {T = T} from one' = refused (λ d q. ((d, tree.no_initializer), [], made units.not_initialized)) (initial_ends T) one' from

pub its_initializer : (words : List Word) {T : List Name} {p q : ℕ} {d : tree.Declarator} → AnInit T words p → Reads (g.IsDeclarator T false) AfterDeclarator p (drop p words) d q (drop q words) → Within (IsInitDeclarator T) AfterParameter p (drop p words) (units.IsMaybeInitializer T) (Below 2) q (drop q words) (λ i. let x : InitDeclaratorTree = (d, i) in x)
its_initializer words {T = T} from one' = ends (Below 2) (λ t r e. separated_rank e) (node (part (initial_ends T) one' from))

-- initdecl { "," initdecl } ";"
abbrev Row : List Name → Family tree.InitDeclarators
Row T = Others (IsInitDeclarator T) add_init_declarator tree.no_init_declarators (mark Comma)

more_words : (u v w : List Word) → u ++ (v ++ (mark Comma ∷ w)) ≡ (u ++ v) ++ (mark Comma ∷ w)
more_words u v w = sym (append_assoc u v (mark Comma ∷ w))

list_of : {T : List Name} {p k : ℕ} {a : InitDeclaratorTree} {b : tree.InitDeclarators} {u v : List Word} → IsInitDeclarator T p a u → Row T k b v → k ≡ p + length u → units.IsInitDeclarators T p (add_init_declarator a b) (u ++ v)
list_of {T = T} {p = p} (an_init_declarator {d = d'} {i = i'} {u = u} {v = v} d i) no_more e = subst (units.IsInitDeclarators T p (tree.more_init_declarators d' i' tree.no_init_declarators)) (sym (append-nil (u ++ v))) (units.last_declarator d i)
list_of {T = T} {p = p} (an_init_declarator {d = d'} {i = i'} {u = u} {v = v} d i) (one_more {a = a} {b = b} {v = z} (after {u = w} x) rest) e =
    subst (units.IsInitDeclarators T p (tree.more_init_declarators d' i' (add_init_declarator a b))) (more_words u v (w ++ z))
    (units.next_declarator d i (list_of {p = suc (p + length u + length v)} (subst (λ k. IsInitDeclarator T k a w) (omega (arith, e, length-append u v)) x) rest (omega (arith, e, length-append u v))))

row_of : {T : List Name} {p q : ℕ} {d : tree.Declarator} {i : tree.MaybeInitializer} {t : tree.InitDeclarators} {w : List Word} → Both (IsInitDeclarator T) (λ a. Made (add_init_declarator a) (Row T)) p t w → p ≡ suc q → Made (tree.more_init_declarators d i) (Row T) q (tree.more_init_declarators d i t) (mark Comma ∷ w)
row_of {T = T} {q = q} (both {a = a} {u = u} {v = v} x (made {t = b} rest)) e = made (one_more (after (subst (λ k. IsInitDeclarator T k a u) e x)) (subst (λ k. Row T k b v) (omega (arith, e)) rest))

of_list : {T : List Name} {p : ℕ} {t : tree.InitDeclarators} {u : List Word} → units.IsInitDeclarators T p t u → Both (IsInitDeclarator T) (λ a. Made (add_init_declarator a) (Row T)) p t u
of_list {T = T} {p = p} (units.last_declarator {d = d'} {i = i'} {u = u} {v = v} d i) =
    subst (Both (IsInitDeclarator T) (λ a. Made (add_init_declarator a) (Row T)) p (tree.more_init_declarators d' i' tree.no_init_declarators)) (append-nil (u ++ v)) (both (an_init_declarator d i) (made no_more))
of_list {T = T} {p = p} (units.next_declarator {d = d'} {i = i'} {ds = ds'} {u = u} {v = v} {w = w} d i ds) =
    subst (Both (IsInitDeclarator T) (λ a. Made (add_init_declarator a) (Row T)) p (tree.more_init_declarators d' i' ds')) (sym (more_words u v w))
    (both (an_init_declarator d i) (row_of (of_list ds) (omega (arith, length-append u v))))

list_into : (T : List Name) (q : ℕ) → Into (Both (IsInitDeclarator T) (λ a. Made (add_init_declarator a) (Row T))) (units.IsInitDeclarators T) q
list_into T q t _ (both x (made rest)) = list_of x rest refl

abbrev pub NextInit : Family tree.InitDeclarators → List Name → List Word → ℕ → List InitDeclaratorTree → ℕ → Type 0
NextInit D T words p xs q = Within (Closed Semicolon D) Anything p (drop p words) (Before (IsInitDeclarator T) add_init_declarator tree.no_init_declarators (mark Comma) (mark Semicolon) xs) Anything q (drop q words) (λ t. t)

abbrev pub InInits : Family tree.InitDeclarators → List Name → List Word → ℕ → List InitDeclaratorTree → ℕ → Type 0
InInits D T words p xs q = Within (Closed Semicolon D) Anything p (drop p words) (Behind (IsInitDeclarator T) add_init_declarator tree.no_init_declarators (mark Comma) (mark Semicolon) xs) Anything q (drop q words) (λ t. t)

pub inits_start : (words : List Word) (T : List Name) (p : ℕ) → NextInit (units.IsInitDeclarators T) T words p [] p
inits_start words T p = opened (units.IsInitDeclarators T) (IsInitDeclarator T) add_init_declarator tree.no_init_declarators (mark Comma) (mark Semicolon) (list_into T p) (λ t u r e d f. of_list d) (start (Closed Semicolon (units.IsInitDeclarators T)) Anything p (drop p words))

comma_ends : (a : InitDeclaratorTree) (z : List Word) → AfterParameter a (mark Comma ∷ z)
comma_ends a z = at_comma

semicolon_ends : (a : InitDeclaratorTree) (z : List Word) → AfterParameter a (mark Semicolon ∷ z)
semicolon_ends a z = closes close_declaration

pub refuses_init : (words : List Word) (xs : List InitDeclaratorTree) {D : Family tree.InitDeclarators} {T : List Name} {p q n : ℕ} → NextInit D T words p xs q → Refuses (IsInitDeclarator T) AfterParameter q (drop q words) n (drop n words) → Refuses (Closed Semicolon D) Anything p (drop p words) n (drop n words)
refuses_init words xs from one' = refuses_listed AfterParameter xs comma_ends semicolon_ends from one'

pub inits_next : (words : List Word) (xs : List InitDeclaratorTree) {D : Family tree.InitDeclarators} {T : List Name} {p q n : ℕ} {a : InitDeclaratorTree} → NextInit D T words p xs q → Reads (IsInitDeclarator T) AfterParameter q (drop q words) a n (drop n words) → InInits D T words p (xs ++ a ∷ []) n
inits_next words xs from one' = listed AfterParameter xs comma_ends semicolon_ends from one'

pub inits_more : (words : List Word) (xs : List InitDeclaratorTree) {D : Family tree.InitDeclarators} {T : List Name} {p q n : ℕ} → IsAt (mark Comma) words q n → InInits D T words p xs q → NextInit D T words p xs n
inits_more words xs at from = another xs (λ e. cc e) at from

pub misses_semicolon : (words : List Word) (xs : List InitDeclaratorTree) {D : Family tree.InitDeclarators} {T : List Name} {p q : ℕ} → (head (drop q words) ≡ Some (mark Comma) → ⊥) → InInits D T words p xs q → (head (drop q words) ≡ Some (mark Semicolon) → ⊥) → Refuses (Closed Semicolon D) Anything p (drop p words) q (drop q words)
misses_semicolon words xs comma from other = missing (λ q. (before add_init_declarator xs tree.no_init_declarators, [], done)) other (no_other xs comma from)

pub reads_inits : (words : List Word) (xs : List InitDeclaratorTree) {D : Family tree.InitDeclarators} {T : List Name} {p q n : ℕ} → (head (drop q words) ≡ Some (mark Comma) → ⊥) → InInits D T words p xs q → IsAt (mark Semicolon) words q n → Reads (Closed Semicolon D) Anything p (drop p words) (before add_init_declarator xs tree.no_init_declarators) n (drop n words)
reads_inits words xs comma from at = all (word at (no_other xs comma from))

pub inits_item : (items : List InitDeclarator) (x : InitDeclarator) → map init_declarator_tree (items ++ x ∷ []) ≡ map init_declarator_tree items ++ init_declarator_tree x ∷ []
inits_item [] x = refl
inits_item (y ∷ items) x = ap (λ z. init_declarator_tree y ∷ z) (inits_item items x)

-- specs [ initdecl { "," initdecl } ] ";"
pub data DeclarationRest (T : List Name) (s : tree.Specifiers) : ℕ → tree.Declaration → List Word → Type 0 where
  none_declared : {q : ℕ} → DeclarationRest T s q (tree.declaration s tree.no_init_declarators) (mark Semicolon ∷ [])
  some_declared : {q : ℕ} {ds : tree.InitDeclarators} {v : List Word} → (GoesOn T (has_type s) (head v) → ⊥) → units.IsInitDeclarators T q ds v → DeclarationRest T s q (tree.declaration s ds) (v ++ (mark Semicolon ∷ []))

goes_head : {T : List Name} {b : Bool} {v : List Word} → g.GoesOnSpecifiers T b v → GoesOn T b (head v)
goes_head (g.a_typedef_name is) = by_name is

declared_head : {T : List Name} {b : Bool} {v : List Word} → Starting StartsDeclarator v → (g.GoesOnSpecifiers T b v → ⊥) → GoesOn T b (head v) → ⊥
declared_head {v = v} s none goes = declarator_goes [] s none (goes_front v [] goes)

semicolon_word : {x : Word} → StartsDeclarator x → Some x ≡ Some (mark Semicolon) → ⊥
semicolon_word at_declared e = cc e
semicolon_word at_star e = cc e
semicolon_word at_paren e = cc e

inits_starts : {T : List Name} {q : ℕ} {ds : tree.InitDeclarators} {v : List Word} → units.IsInitDeclarators T q ds v → Starting StartsDeclarator v
inits_starts (units.last_declarator {u = u} {v = v} d i) = starting_append u v (declarator_starts d)
inits_starts (units.next_declarator {u = u} {v = v} {w = w} d i ds) = starting_append u (v ++ (mark Comma ∷ w)) (declarator_starts d)

declaration_into : (T : List Name) (q : ℕ) → Into (Both (g.IsSpecifiers T) (DeclarationRest T)) (units.IsDeclaration T) q
declaration_into T q t _ (both ss none_declared) = units.declares_none ss
declaration_into T q t _ (both ss (some_declared {v = v} none ds)) = units.declares ss (λ h. none (goes_head h)) ds

declaration_back : (T : List Name) (q : ℕ) → Into (units.IsDeclaration T) (Both (g.IsSpecifiers T) (DeclarationRest T)) q
declaration_back T q t _ (units.declares_none ss) = both ss none_declared
declaration_back T q t _ (units.declares {v = v} ss none ds) = both ss (some_declared (declared_head (inits_starts ds) none) ds)

declaration_ends : (T : List Name) → Apart (DeclarationRest T) Anything (AfterSpecifiers T)
declaration_ends T s q t _ r none_declared e = separated_ends (closes close_declaration)
declaration_ends T s q t _ r (some_declared {v = v} none ds) e = subst (SpecifierEnds T (has_type s)) (sym (append_assoc v (mark Semicolon ∷ []) r)) (starting_follows v (inits_starts ds) (λ h. none (goes_head h)) ((mark Semicolon ∷ []) ++ r))

abbrev pub ADeclaration : List Name → List Word → ℕ → Type 0
ADeclaration T words p = Within (units.IsDeclaration T) Anything p (drop p words) (Both (g.IsSpecifiers T) (DeclarationRest T)) Anything p (drop p words) (λ t. t)

pub declaration_start : (words : List Word) (T : List Name) (p : ℕ) → ADeclaration T words p
declaration_start words T p = line (Both (g.IsSpecifiers T) (DeclarationRest T)) (declaration_into T p) (λ t u r e d f. declaration_back T p t u d) (start (units.IsDeclaration T) Anything p (drop p words))

pub refuses_declaration : (words : List Word) {T : List Name} {p n : ℕ} → ADeclaration T words p → Refuses (g.IsSpecifiers T) (AfterSpecifiers T) p (drop p words) n (drop n words) → Refuses (units.IsDeclaration T) Anything p (drop p words) n (drop n words)
refuses_declaration words {T = T} from one' = refused (λ s q. (tree.declaration s tree.no_init_declarators, mark Semicolon ∷ [], none_declared)) (declaration_ends T) one' from

no_semicolon : {T : List Name} {q : ℕ} {ds : tree.InitDeclarators} {v : List Word} (z : List Word) → units.IsInitDeclarators T q ds v → head (v ++ z) ≡ Some (mark Semicolon) → ⊥
no_semicolon z ds e = let s = inits_starts ds in semicolon_word s.3 (ap (λ y. head (y ++ z)) (sym s.2) ∙ e)

nothing_into : (T : List Name) (s : tree.Specifiers) (q : ℕ) → Into (After (mark Semicolon) (Done (tree.declaration s tree.no_init_declarators))) (DeclarationRest T s) q
nothing_into T s q t _ (after done) = none_declared

nothing_back : (T : List Name) (s : tree.Specifiers) (q : ℕ) (t : tree.Declaration) (u r v : List Word) → u ++ r ≡ mark Semicolon ∷ v → DeclarationRest T s q t u → After (mark Semicolon) (Done (tree.declaration s tree.no_init_declarators)) q t u
nothing_back T s q t _ r v eq none_declared = after done
nothing_back T s q t _ r v eq (some_declared {v = w} none ds) = absurd (no_semicolon ((mark Semicolon ∷ []) ++ r) ds (ap head (sym (append_assoc w (mark Semicolon ∷ []) r) ∙ eq)))

pub reads_nothing : (words : List Word) {T : List Name} {p q k : ℕ} {s : tree.Specifiers} → ADeclaration T words p → Reads (g.IsSpecifiers T) (AfterSpecifiers T) p (drop p words) s q (drop q words) → IsAt (mark Semicolon) words q k → Reads (units.IsDeclaration T) Anything p (drop p words) (tree.declaration s tree.no_init_declarators) k (drop k words)
reads_nothing words {T = T} {q = q} {s = s} from one' at =
    all (word at (line_at (mark Semicolon) (After (mark Semicolon) (Done (tree.declaration s tree.no_init_declarators))) (ap head at.here) (nothing_into T s q) (λ t u r v eq d e. nothing_back T s q t u r v eq d) (part (declaration_ends T) one' from)))

abbrev InitsOf : List Name → tree.Specifiers → Family tree.Declaration
InitsOf T s = Made (tree.declaration s) (Closed Semicolon (units.IsInitDeclarators T))

inits_into : (T : List Name) (s : tree.Specifiers) (q : ℕ) → IntoWhere (InitsOf T s) (DeclarationRest T s) (λ o. GoesOn T (has_type s) o → ⊥) q
inits_into T s q t _ c (made (both {u = u} ds (after done))) = some_declared (λ h. c (goes_front u (mark Semicolon ∷ []) h)) ds

inits_back : (T : List Name) (s : tree.Specifiers) (q : ℕ) (m : List Word) → (head m ≡ Some (mark Semicolon) → ⊥) → (t : tree.Declaration) (u r : List Word) → head (u ++ r) ≡ head m → DeclarationRest T s q t u → InitsOf T s q t u
inits_back T s q m other t _ r e none_declared = absurd (other (sym e))
inits_back T s q m other t _ r e (some_declared none ds) = made (both ds (after done))

inits_some : (T : List Name) (s : tree.Specifiers) (q : ℕ) → SomeWhere (InitsOf T s) (λ o. GoesOn T (has_type s) o → ⊥) q
inits_some T s q = record {
  tree = tree.declaration s (tree.more_init_declarators (tree.declarator q (0 ∷ []) (tree.name_core []) tree.no_suffixes) tree.no_initializer tree.no_init_declarators);
  words = mark Star ∷ name [] ∷ mark Semicolon ∷ [];
  derived = made (both (units.last_declarator (some_declarator T false q) units.not_initialized) (after done));
  so = star_stops;
}

pub declared_inits : (words : List Word) {T : List Name} {p q : ℕ} {s : tree.Specifiers} → ADeclaration T words p → Reads (g.IsSpecifiers T) (AfterSpecifiers T) p (drop p words) s q (drop q words) → (GoesOn T (has_type s) (head (drop q words)) → ⊥) → (head (drop q words) ≡ Some (mark Semicolon) → ⊥) → Within (units.IsDeclaration T) Anything p (drop p words) (Closed Semicolon (units.IsInitDeclarators T)) Anything q (drop q words) (tree.declaration s)
declared_inits words {T = T} {q = q} {s = s} from one' goes other =
    node (line_where (InitsOf T s) (λ o. GoesOn T (has_type s) o → ⊥) (inits_into T s q) (λ t u r e d f. inits_back T s q (drop q words) other t u r e d) (λ t d. none_goes) goes (inits_some T s q) (part (declaration_ends T) one' from))

-- behind the first declarator
row_tail : {T : List Name} {p : ℕ} {t : tree.InitDeclarators} {u : List Word} → Row T p t u → InitTail T p t u
row_tail no_more = last_init
row_tail {T = T} (one_more {a = a} {b = b} {v = v} (after {u = u} x) rest) = next_init (list_of x rest (omega arith))

row_again : {T : List Name} {q : ℕ} {t : tree.InitDeclarators} {w : List Word} → Both (IsInitDeclarator T) (λ a. Made (add_init_declarator a) (Row T)) (suc q) t w → Row T q t (mark Comma ∷ w)
row_again {T = T} (both {v = v} x (made {t = b} rest)) = one_more (after x) (subst (λ k. Row T k b v) (omega arith) rest)

tail_row : {T : List Name} {p : ℕ} {t : tree.InitDeclarators} {u : List Word} → InitTail T p t u → Row T p t u
tail_row last_init = no_more
tail_row (next_init ds) = row_again (of_list ds)

abbrev InitialAnd : List Name → tree.Declarator → Family tree.InitDeclarators
InitialAnd T d = Both (units.IsMaybeInitializer T) (λ i. Made (tree.more_init_declarators d i) (Row T))

behind_into : (T : List Name) (d : tree.Declarator) (q : ℕ) → Into (InitialAnd T d) (InitsBehind T d) q
behind_into T d q t _ (both i (made rest)) = inits_behind i (row_tail rest)

behind_back : (T : List Name) (d : tree.Declarator) (q : ℕ) → Into (InitsBehind T d) (InitialAnd T d) q
behind_back T d q t _ (inits_behind i rest) = both i (made (tail_row rest))

abbrev pub ABehind : List Name → List Word → ℕ → tree.Declarator → Type 0
ABehind T words p d = Within (Closed Semicolon (InitsBehind T d)) Anything p (drop p words) (Both (units.IsMaybeInitializer T) (λ i. Behind (IsInitDeclarator T) add_init_declarator tree.no_init_declarators (mark Comma) (mark Semicolon) (let x : InitDeclaratorTree = (d, i) in x ∷ []))) Anything p (drop p words) (λ t. t)

pub behind_start : (words : List Word) (T : List Name) (p : ℕ) (d : tree.Declarator) → ABehind T words p d
behind_start words T p d = first (λ b. After (mark Semicolon) (Done b)) (first_line {G = λ t r. head r ≡ Some (mark Semicolon)} (InitialAnd T d) (closed_apart (mark Semicolon)) (behind_into T d p) (λ t u r e x f. behind_back T d p t u x) (start (Closed Semicolon (InitsBehind T d)) Anything p (drop p words)))

pair_ends : (T : List Name) (d : tree.Declarator) → Apart (λ i. Behind (IsInitDeclarator T) add_init_declarator tree.no_init_declarators (mark Comma) (mark Semicolon) (let x : InitDeclaratorTree = (d, i) in x ∷ [])) Anything (Below 2)
pair_ends T d i q t v r x e = item_apart {X = IsInitDeclarator T} {cons = add_init_declarator} {nil = tree.no_init_declarators} {between = mark Comma} {close = mark Semicolon} (Below 2) [] (λ a z. omega arith) (λ a z. omega arith) (d, i) q t v r x e

pub refuses_first : (words : List Word) {T : List Name} {p n : ℕ} {d : tree.Declarator} → ABehind T words p d → Refuses (units.IsMaybeInitializer T) (Below 2) p (drop p words) n (drop n words) → Refuses (Closed Semicolon (InitsBehind T d)) Anything p (drop p words) n (drop n words)
refuses_first words {T = T} {d = d} from one' = refused (λ i q. item_completes {X = IsInitDeclarator T} {cons = add_init_declarator} {nil = tree.no_init_declarators} {between = mark Comma} {close = mark Semicolon} [] (d, i) q) (pair_ends T d) one' from

pub first_next : (words : List Word) {T : List Name} {p n : ℕ} {d : tree.Declarator} {i : tree.MaybeInitializer} → ABehind T words p d → Reads (units.IsMaybeInitializer T) (Below 2) p (drop p words) i n (drop n words) → InInits (InitsBehind T d) T words p (let x : InitDeclaratorTree = (d, i) in x ∷ []) n
first_next words {T = T} {d = d} from one' = part (pair_ends T d) one' from
