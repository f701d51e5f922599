-- External declarations, part by part.
use Rattle.std.proofs.Common.{◌≡◌, ℕ, ◌+◌, List, [], ◌∷◌, ◌++◌, length, drop, sym, refl, ap, ◌∙◌, subst, arith, append_assoc, Bool, true, false}
use Rattle.std.specs.Prelude.{Some, cond}
use Rattle.std.proofs.lemmas.List.{append-nil}
use Rattle.im_tok.specs.declared.punctuator.Punctuator.TheVariants.{OpenBrace, Semicolon, Star}
use Rattle.im_word.specs.Words.{Name, Word, name, mark}
use Rattle.im_ctree.specs.Tree as tree
use Rattle.im_ctree.specs.Grammar as g
use Rattle.im_ctree.specs.Units as units
use Rattle.im_ctree.specs.Typedefs.{has_type, has_typedef, typedef_names}
use Rattle.im_ctree.specs.Follow.{SpecifierEnds, Starting, StartsDeclarator, at_declared, at_star, at_paren, closes, close_declaration}
use Rattle.im_ctree.proofs.Behind.{declarator_starts, declarator_follows, separated_ends}
use Rattle.im_parse_core.specs.Reads.{Family, head, Reads, Refuses, Within}
use Rattle.im_parse_core.specs.Parts.{Both, both, After, after, Made, made, Done, done}
use Rattle.im_parse_core.specs.Places.{IsAt}
use Rattle.im_parse_core.proofs.Steps.{Apart, Into, start, line, line_at, word, part, refused, node, all}
use Rattle.im_parse_core.proofs.Conditions.{line_where, SomeWhere, IntoWhere}
use Rattle.im_parse_expression.specs.Parsing.{Anything, Closed}
use Rattle.im_parse_expression.specs.Declaring.{GoesOn, by_name, AfterSpecifiers, AfterDeclarator}
use Rattle.im_parse_expression.specs.Initializing.{last_init, next_init, InitsBehind, inits_behind}
use Rattle.im_parse_expression.proofs.MemberLines.{some_declarator, goes_front, declarator_goes, star_stops, none_goes}
use Rattle.im_parse.specs.Externals.{DeclaratorRest, a_body, more_declared, ExternalRest, none_declared, first_declared}

-- the declarators of a declaration, of which the first is read alone
init_list : {T : List Name} {p : ℕ} {d : tree.Declarator} {ds : tree.InitDeclarators} {v w : List Word} → g.IsDeclarator T false p d v → InitsBehind T d (p + length v) ds w → units.IsInitDeclarators T p ds (v ++ w)
init_list {T = T} {p = p} {d = d'} {v = v} d (inits_behind {i = i'} {u = u} i last_init) =
    subst (λ z. units.IsInitDeclarators T p (tree.more_init_declarators d' i' tree.no_init_declarators) (v ++ z)) (sym (append-nil u)) (units.last_declarator d i)
init_list d (inits_behind i (next_init ds)) = units.next_declarator d i ds

list_init : {T : List Name} {p : ℕ} {ds : tree.InitDeclarators} {w : List Word} → units.IsInitDeclarators T p ds w → Both (g.IsDeclarator T false) (λ d. InitsBehind T d) p ds w
list_init {T = T} {p = p} (units.last_declarator {d = d'} {i = i'} {u = u} {v = v} d i) =
    subst (λ z. Both (g.IsDeclarator T false) (λ d. InitsBehind T d) p (tree.more_init_declarators d' i' tree.no_init_declarators) (u ++ z)) (append-nil v) (both d (inits_behind i last_init))
list_init (units.next_declarator d i ds) = both d (inits_behind i (next_init ds))

goes_head : {T : List Name} {b : Bool} {v : List Word} → g.GoesOnSpecifiers T b v → GoesOn T b (head v)
goes_head (g.a_typedef_name is) = by_name is

goes_more : {T : List Name} {b : Bool} {v : List Word} (z : List Word) → g.GoesOnSpecifiers T b v → g.GoesOnSpecifiers T b (v ++ z)
goes_more z (g.a_typedef_name is) = g.a_typedef_name is

declared_head : {T : List Name} {b : Bool} {v : List Word} → Starting StartsDeclarator v → (g.GoesOnSpecifiers T b v → ⊥) → GoesOn T b (head v) → ⊥
declared_head {v = v} s none goes = declarator_goes [] s none (goes_front v [] goes)

none_more : {T : List Name} {b : Bool} (v w : List Word) → (GoesOn T b (head v) → ⊥) → Starting StartsDeclarator v → g.GoesOnSpecifiers T b (v ++ w) → ⊥
none_more [] w none s h = absurd (let e : [] ≡ s.0 ∷ s.1 = s.2 in cc)
none_more (x ∷ v) w none s h = none (goes_head h)

-- specs ( [ initdecl { "," initdecl } ] ";" | declarator block )
external_into : (T : List Name) (q : ℕ) → Into (Both (g.IsSpecifiers T) (ExternalRest T)) (units.IsExternal T) q
external_into T q t _ (both s none_declared) = units.a_declaration (units.declares_none s)
external_into T q t _ (both s (first_declared none d (a_body b))) = units.a_definition s (λ h. none (goes_head h)) d b
external_into T q t _ (both {a = s'} {u = u} s (first_declared {u = v} none d (more_declared {ds = ds} {u = w} i))) =
    subst (λ z. units.IsExternal T q (tree.external_declaration (tree.declaration s' ds)) (u ++ z)) (append_assoc v w (mark Semicolon ∷ []))
    (units.a_declaration (units.declares s (λ h. none_more v w none (declarator_starts d) h) (init_list d i)))

rest_of : {T : List Name} {s : tree.Specifiers} {q : ℕ} {ds : tree.InitDeclarators} {v : List Word} → (g.GoesOnSpecifiers T (has_type s) v → ⊥) → Both (g.IsDeclarator T false) (λ d. InitsBehind T d) q ds v → ExternalRest T s q (tree.external_declaration (tree.declaration s ds)) (v ++ (mark Semicolon ∷ []))
rest_of {T = T} {s = s} {q = q} {ds = ds} none (both {u = u} {v = w} d i) =
    subst (ExternalRest T s q (tree.external_declaration (tree.declaration s ds))) (sym (append_assoc u w (mark Semicolon ∷ [])))
    (first_declared (declared_head (declarator_starts d) (λ h. none (goes_more w h))) d (more_declared i))

external_back : (T : List Name) (q : ℕ) → Into (units.IsExternal T) (Both (g.IsSpecifiers T) (ExternalRest T)) q
external_back T q t _ (units.a_declaration (units.declares_none s)) = both s none_declared
external_back T q t _ (units.a_declaration (units.declares s none ds)) = both s (rest_of none (list_init ds))
external_back T q t _ (units.a_definition s none d b) = both s (first_declared (declared_head (declarator_starts d) none) d (a_body b))

external_ends : (T : List Name) → Apart (ExternalRest T) Anything (AfterSpecifiers T)
external_ends T s q t _ r none_declared e = separated_ends (closes close_declaration)
external_ends T s q t _ r (first_declared {u = v} {v = w} none d rest) e = subst (SpecifierEnds T (has_type s)) (sym (append_assoc v w r)) (declarator_follows v d (λ h. none (goes_head h)) (w ++ r))

abbrev pub AnExternal : List Name → List Word → ℕ → Type 0
AnExternal T words p = Within (units.IsExternal T) Anything p (drop p words) (Both (g.IsSpecifiers T) (ExternalRest T)) Anything p (drop p words) (λ t. t)

pub external_start : (words : List Word) (T : List Name) (p : ℕ) → AnExternal T words p
external_start words T p = line (Both (g.IsSpecifiers T) (ExternalRest T)) (external_into T p) (λ t u r e d f. external_back T p t u d) (start (units.IsExternal T) Anything p (drop p words))

pub refuses_specifiers : (words : List Word) {T : List Name} {p n : ℕ} → AnExternal T words p → Refuses (g.IsSpecifiers T) (AfterSpecifiers T) p (drop p words) n (drop n words) → Refuses (units.IsExternal T) Anything p (drop p words) n (drop n words)
refuses_specifiers words {T = T} from one = refused (λ s q. (tree.external_declaration (tree.declaration s tree.no_init_declarators), mark Semicolon ∷ [], none_declared)) (external_ends T) one from

-- behind the specifiers
abbrev pub InRest : List Name → List Word → ℕ → tree.Specifiers → ℕ → Type 0
InRest T words p s q = Within (units.IsExternal T) Anything p (drop p words) (ExternalRest T s) Anything q (drop q words) (λ t. t)

pub in_rest : (words : List Word) {T : List Name} {p q : ℕ} {s : tree.Specifiers} → AnExternal T words p → Reads (g.IsSpecifiers T) (AfterSpecifiers T) p (drop p words) s q (drop q words) → InRest T words p s q
in_rest words {T = T} from one = part (external_ends T) one from

semicolon_word : {x : Word} → StartsDeclarator x → Some x ≡ Some (mark Semicolon) → ⊥
semicolon_word at_declared e = cc e
semicolon_word at_star e = cc e
semicolon_word at_paren e = cc e

no_semicolon : {T : List Name} {q : ℕ} {d : tree.Declarator} {v : List Word} (z : List Word) → g.IsDeclarator T false q d v → head (v ++ z) ≡ Some (mark Semicolon) → ⊥
no_semicolon z d e = let s = declarator_starts d in semicolon_word s.3 (ap (λ y. head (y ++ z)) (sym s.2) ∙ e)

abbrev Nothing : tree.Specifiers → Family tree.External
Nothing s = After (mark Semicolon) (Done (tree.external_declaration (tree.declaration s tree.no_init_declarators)))

nothing_into : (T : List Name) (s : tree.Specifiers) (q : ℕ) → Into (Nothing s) (ExternalRest T s) q
nothing_into T s q t _ (after done) = none_declared

nothing_back : (T : List Name) (s : tree.Specifiers) (q : ℕ) (t : tree.External) (u r v : List Word) → u ++ r ≡ mark Semicolon ∷ v → ExternalRest T s q t u → Nothing s q t u
nothing_back T s q t _ r v eq none_declared = after done
nothing_back T s q t _ r v eq (first_declared {u = u} {v = w} none d rest) = absurd (no_semicolon (w ++ r) d (ap head (sym (append_assoc u w r) ∙ eq)))

pub reads_nothing : (words : List Word) {T : List Name} {p q k : ℕ} {s : tree.Specifiers} → InRest T words p s q → IsAt (mark Semicolon) words q k → Reads (units.IsExternal T) Anything p (drop p words) (tree.external_declaration (tree.declaration s tree.no_init_declarators)) k (drop k words)
reads_nothing words {T = T} {q = q} {s = s} from at = all (word at (line_at (mark Semicolon) (Nothing s) (ap head at.here) (nothing_into T s q) (λ t u r v eq d e. nothing_back T s q t u r v eq d) from))

-- a declarator stands there
abbrev Named : List Name → tree.Specifiers → Family tree.External
Named T s = Both (g.IsDeclarator T false) (λ d. DeclaratorRest T s d)

named_into : (T : List Name) (s : tree.Specifiers) (q : ℕ) → IntoWhere (Named T s) (ExternalRest T s) (λ o. GoesOn T (has_type s) o → ⊥) q
named_into T s q t _ c (both {u = v} {v = w} d rest) = first_declared (λ h. c (goes_front v w h)) d rest

named_back : (T : List Name) (s : tree.Specifiers) (q : ℕ) (m : List Word) → (head m ≡ Some (mark Semicolon) → ⊥) → (t : tree.External) (u r : List Word) → head (u ++ r) ≡ head m → ExternalRest T s q t u → Named T s q t u
named_back T s q m other t _ r e none_declared = absurd (other (sym e))
named_back T s q m other t _ r e (first_declared none d rest) = both d rest

named_some : (T : List Name) (s : tree.Specifiers) (q : ℕ) → SomeWhere (Named T s) (λ o. GoesOn T (has_type s) o → ⊥) q
named_some T s q = record {
  tree = tree.external_declaration (tree.declaration s (tree.more_init_declarators (tree.declarator q (0 ∷ []) (tree.name_core []) tree.no_suffixes) tree.no_initializer tree.no_init_declarators));
  words = mark Star ∷ name [] ∷ mark Semicolon ∷ [];
  derived = both (some_declarator T false q) (more_declared (inits_behind units.not_initialized last_init));
  so = star_stops;
}

abbrev pub InNamed : List Name → List Word → ℕ → tree.Specifiers → ℕ → Type 0
InNamed T words p s q = Within (units.IsExternal T) Anything p (drop p words) (Named T s) Anything q (drop q words) (λ t. t)

pub in_named : (words : List Word) {T : List Name} {p q : ℕ} {s : tree.Specifiers} → (GoesOn T (has_type s) (head (drop q words)) → ⊥) → (head (drop q words) ≡ Some (mark Semicolon) → ⊥) → InRest T words p s q → InNamed T words p s q
in_named words {T = T} {q = q} {s = s} goes other from =
    line_where (Named T s) (λ o. GoesOn T (has_type s) o → ⊥) (named_into T s q) (λ t u r e d f. named_back T s q (drop q words) other t u r e d) (λ t d. none_goes) goes (named_some T s q) from

named_ends : (T : List Name) (s : tree.Specifiers) → Apart (λ d. DeclaratorRest T s d) Anything AfterDeclarator
named_ends T s d q t _ r (a_body (units.a_block is)) e = (omega arith, refl, refl)
named_ends T s d q t _ r (more_declared (inits_behind units.not_initialized last_init)) e = (omega arith, refl, refl)
named_ends T s d q t _ r (more_declared (inits_behind units.not_initialized (next_init ds))) e = (omega arith, refl, refl)
named_ends T s d q t _ r (more_declared (inits_behind (units.initialized i) rest)) e = (omega arith, refl, refl)

pub refuses_declarator : (words : List Word) {T : List Name} {p q n : ℕ} {s : tree.Specifiers} → InNamed T words p s q → Refuses (g.IsDeclarator T false) AfterDeclarator q (drop q words) n (drop n words) → Refuses (units.IsExternal T) Anything p (drop p words) n (drop n words)
refuses_declarator words {T = T} {s = s} from one =
    refused (λ d q. (tree.external_declaration (tree.declaration s (tree.more_init_declarators d tree.no_initializer tree.no_init_declarators)), mark Semicolon ∷ [], more_declared (inits_behind units.not_initialized last_init))) (named_ends T s) one from

-- behind the first declarator
abbrev pub InDeclarator : List Name → List Word → ℕ → tree.Specifiers → tree.Declarator → ℕ → Type 0
InDeclarator T words p s d q = Within (units.IsExternal T) Anything p (drop p words) (DeclaratorRest T s d) Anything q (drop q words) (λ t. t)

pub in_declarator : (words : List Word) {T : List Name} {p q n : ℕ} {s : tree.Specifiers} {d : tree.Declarator} → InNamed T words p s q → Reads (g.IsDeclarator T false) AfterDeclarator q (drop q words) d n (drop n words) → InDeclarator T words p s d n
in_declarator words {T = T} {s = s} from one = part (named_ends T s) one from

body_into : (T : List Name) (s : tree.Specifiers) (d : tree.Declarator) (q : ℕ) → Into (Made (tree.function_definition s d) (units.IsBlock T)) (DeclaratorRest T s d) q
body_into T s d q t _ (made b) = a_body b

body_back : (T : List Name) (s : tree.Specifiers) (d : tree.Declarator) (q : ℕ) (t : tree.External) (u r v : List Word) → u ++ r ≡ mark OpenBrace ∷ v → DeclaratorRest T s d q t u → Made (tree.function_definition s d) (units.IsBlock T) q t u
body_back T s d q t _ r v eq (a_body b) = made b
body_back T s d q t _ r v eq (more_declared (inits_behind units.not_initialized last_init)) = absurd (let h : Some (mark Semicolon) ≡ Some (mark OpenBrace) = ap head eq in cc)
body_back T s d q t _ r v eq (more_declared (inits_behind units.not_initialized (next_init ds))) = absurd (let h = ap head eq in cc)
body_back T s d q t _ r v eq (more_declared (inits_behind (units.initialized i) rest)) = absurd (let h = ap head eq in cc)

pub in_body : (words : List Word) {T : List Name} {p q k : ℕ} {s : tree.Specifiers} {d : tree.Declarator} → IsAt (mark OpenBrace) words q k → InDeclarator T words p s d q → Within (units.IsExternal T) Anything p (drop p words) (units.IsBlock T) Anything q (drop q words) (tree.function_definition s d)
in_body words {T = T} {q = q} {s = s} {d = d} at from = node (line_at (mark OpenBrace) (Made (tree.function_definition s d) (units.IsBlock T)) (ap head at.here) (body_into T s d q) (λ t u r v eq x e. body_back T s d q t u r v eq x) from)

abbrev Inits : List Name → tree.Specifiers → tree.Declarator → Family tree.External
Inits T s d = Made (λ ds. tree.external_declaration (tree.declaration s ds)) (Closed Semicolon (InitsBehind T d))

inits_into : (T : List Name) (s : tree.Specifiers) (d : tree.Declarator) (q : ℕ) → Into (Inits T s d) (DeclaratorRest T s d) q
inits_into T s d q t _ (made (both i (after done))) = more_declared i

inits_back : (T : List Name) (s : tree.Specifiers) (d : tree.Declarator) (q : ℕ) (m : List Word) → (head m ≡ Some (mark OpenBrace) → ⊥) → (t : tree.External) (u r : List Word) → head (u ++ r) ≡ head m → DeclaratorRest T s d q t u → Inits T s d q t u
inits_back T s d q m other t _ r e (a_body (units.a_block is)) = absurd (other (sym e))
inits_back T s d q m other t _ r e (more_declared i) = made (both i (after done))

pub in_inits : (words : List Word) {T : List Name} {p q : ℕ} {s : tree.Specifiers} {d : tree.Declarator} → (head (drop q words) ≡ Some (mark OpenBrace) → ⊥) → InDeclarator T words p s d q → Within (units.IsExternal T) Anything p (drop p words) (Closed Semicolon (InitsBehind T d)) Anything q (drop q words) (λ ds. tree.external_declaration (tree.declaration s ds))
in_inits words {T = T} {q = q} {s = s} {d = d} other from = node (line (Inits T s d) (inits_into T s d q) (λ t u r e x f. inits_back T s d q (drop q words) other t u r e x) from)

-- a declaration that declares nothing adds no typedef names
cond_same : (b : Bool) (T : List Name) → cond b T T ≡ T
cond_same true T = refl
cond_same false T = refl

pub none_behind : (T : List Name) (s : tree.Specifiers) → T ≡ typedef_names T (tree.declaration s tree.no_init_declarators)
none_behind T (tree.specifiers p xs) = sym (cond_same (has_typedef xs) T)
