-- The members of a struct, part by part.
use Rattle.std.proofs.Common.{◌≡◌, ℕ, suc, ◌+◌, ◌<◌, List, [], ◌∷◌, ◌++◌, length, map, drop, sym, refl, ap, ◌∙◌, subst, arith, append_assoc, length-append, Bool, true, false}
use Rattle.std.specs.Prelude.{Option, Some, None}
use Rattle.im_tok.specs.declared.punctuator.Punctuator.TheVariants.{CloseBrace, Comma, Semicolon, Star}
use Rattle.im_tok.specs.declared.keyword.Keyword.TheVariants.{Int}
use Rattle.im_word.specs.Words.{Name, Word, name, keyword, mark}
use Rattle.im_ctree.specs.declared.specifier.SpecifierWord.TheVariants as sw
use Rattle.im_ctree.specs.declared.declarator.Declarator.{Declarator}
use Rattle.im_ctree.specs.declared.specifier.Member.{Member}
use Rattle.im_ctree.specs.Operators as op
use Rattle.im_ctree.specs.Tree as tree
use Rattle.im_ctree.specs.Grammar as g
use Rattle.im_ctree.specs.Shape.{declarator_of}
use Rattle.im_ctree.specs.Typedefs.{has_type}
use Rattle.im_ctree.specs.Follow.{SpecifierEnds, Starting, StartsDeclarator, at_declared, at_star, at_paren, StartsSpecifier}
use Rattle.im_ctree.proofs.Ranks.{specifiers_starts, starting_append}
use Rattle.im_ctree.proofs.Behind.{declarator_starts, declarator_follows}
use Rattle.im_parse_core.specs.Reads.{Family, Ending, head, Reads, Refuses, Within}
use Rattle.im_parse_core.specs.Parts.{Both, both, After, after, Made, made, Done, done}
use Rattle.im_parse_core.specs.Places.{IsAt}
use Rattle.im_parse_core.specs.Lists.{before}
use Rattle.im_parse_core.specs.Repeats.{Repeated, no_more, one_more}
use Rattle.im_parse_core.proofs.Steps.{Apart, Completes, Into, start, line, word, missing, part, refused, node, all, first_line}
use Rattle.im_parse_core.proofs.Conditions.{line_where, SomeWhere, IntoWhere}
use Rattle.im_parse_core.proofs.Repeats.{Rest, Next, one, over, apart_item, completes_item, first}
use Rattle.im_parse_core.proofs.SeparatedLists.{Others, Behind, Before, opened, refuses_listed, listed, another, no_other, closed_apart}
use Rattle.im_parse_expression.specs.Parsing.{Anything, Closed, BeginsSpecifiers}
use Rattle.im_parse_expression.specs.Declaring.{GoesOn, by_keyword, by_name, AfterSpecifiers, AfterDeclarator, IsDeclarators, declarators, MemberTree, IsMember, a_member, add_member, member_tree}
use Rattle.im_parse_expression.proofs.BinaryLines.{begins}

-- a declarator that begins with a star
pub some_declarator : (T : List Name) (b : Bool) (q : ℕ) → g.IsDeclarator T b q (tree.declarator q (0 ∷ []) (tree.name_core []) tree.no_suffixes) (mark Star ∷ name [] ∷ [])
some_declarator T b q = g.a_name [] (g.a_star g.no_const g.no_star) g.no_suffix

-- declarator { "," declarator } ";"
abbrev DeclaratorRow : List Name → Family tree.Declarators
DeclaratorRow T = Others (g.IsDeclarator T false) tree.more_declarators tree.no_declarators (mark Comma)

row_tail : {T : List Name} {p : ℕ} {ds : tree.Declarators} {u : List Word} → DeclaratorRow T p ds u → g.DeclaratorTail T p ds u
row_tail no_more = g.last_declarator
row_tail {T = T} (one_more {b = b} {v = v} (after {u = u} d) rest) = g.next_declarator d (subst (λ k. g.DeclaratorTail T k b v) (omega arith) (row_tail rest))

tail_row : {T : List Name} {p : ℕ} {ds : tree.Declarators} {u : List Word} → g.DeclaratorTail T p ds u → DeclaratorRow T p ds u
tail_row g.last_declarator = no_more
tail_row {T = T} (g.next_declarator {ds = b} {u = u} {v = v} d rest) = one_more (after d) (subst (λ k. DeclaratorRow T k b v) (omega arith) (tail_row rest))

abbrev pub NextDeclarator : List Name → List Word → ℕ → List tree.Declarator → ℕ → Type 0
NextDeclarator T words p xs q = Within (Closed Semicolon (IsDeclarators T)) Anything p (drop p words) (Before (g.IsDeclarator T false) tree.more_declarators tree.no_declarators (mark Comma) (mark Semicolon) xs) Anything q (drop q words) (λ t. t)

abbrev pub InDeclarators : List Name → List Word → ℕ → List tree.Declarator → ℕ → Type 0
InDeclarators T words p xs q = Within (Closed Semicolon (IsDeclarators T)) Anything p (drop p words) (Behind (g.IsDeclarator T false) tree.more_declarators tree.no_declarators (mark Comma) (mark Semicolon) xs) Anything q (drop q words) (λ t. t)

declarators_into : (T : List Name) (q : ℕ) → Into (Both (g.IsDeclarator T false) (λ a. Made (tree.more_declarators a) (DeclaratorRow T))) (IsDeclarators T) q
declarators_into T q t _ (both d (made rest)) = declarators d (row_tail rest)

declarators_back : (T : List Name) (q : ℕ) → Into (IsDeclarators T) (Both (g.IsDeclarator T false) (λ a. Made (tree.more_declarators a) (DeclaratorRow T))) q
declarators_back T q t _ (declarators d rest) = both d (made (tail_row rest))

pub declarators_start : (words : List Word) (T : List Name) (p : ℕ) → NextDeclarator T words p [] p
declarators_start words T p = opened (IsDeclarators T) (g.IsDeclarator T false) tree.more_declarators tree.no_declarators (mark Comma) (mark Semicolon) (declarators_into T p) (λ t u r e d f. declarators_back T p t u d) (start (Closed Semicolon (IsDeclarators T)) Anything p (drop p words))

comma_ends : (a : tree.Declarator) (z : List Word) → AfterDeclarator a (mark Comma ∷ z)
comma_ends a z = (omega arith, refl, refl)

semicolon_ends : (a : tree.Declarator) (z : List Word) → AfterDeclarator a (mark Semicolon ∷ z)
semicolon_ends a z = (omega arith, refl, refl)

pub refuses_declarator : (words : List Word) (xs : List tree.Declarator) {T : List Name} {p q n : ℕ} → NextDeclarator T words p xs q → Refuses (g.IsDeclarator T false) AfterDeclarator q (drop q words) n (drop n words) → Refuses (Closed Semicolon (IsDeclarators T)) Anything p (drop p words) n (drop n words)
refuses_declarator words xs from one' = refuses_listed AfterDeclarator xs comma_ends semicolon_ends from one'

pub declarators_next : (words : List Word) (xs : List tree.Declarator) {T : List Name} {p q n : ℕ} {a : tree.Declarator} → NextDeclarator T words p xs q → Reads (g.IsDeclarator T false) AfterDeclarator q (drop q words) a n (drop n words) → InDeclarators T words p (xs ++ a ∷ []) n
declarators_next words xs from one' = listed AfterDeclarator xs comma_ends semicolon_ends from one'

pub declarators_more : (words : List Word) (xs : List tree.Declarator) {T : List Name} {p q n : ℕ} → IsAt (mark Comma) words q n → InDeclarators T words p xs q → NextDeclarator T words p xs n
declarators_more words xs at from = another xs (λ e. cc e) at from

pub misses_semicolon : (words : List Word) (xs : List tree.Declarator) {T : List Name} {p q : ℕ} → (head (drop q words) ≡ Some (mark Comma) → ⊥) → InDeclarators T words p xs q → (head (drop q words) ≡ Some (mark Semicolon) → ⊥) → Refuses (Closed Semicolon (IsDeclarators T)) Anything p (drop p words) q (drop q words)
misses_semicolon words xs comma from other = missing (λ q. (before tree.more_declarators xs tree.no_declarators, [], done)) other (no_other xs comma from)

pub reads_declarators : (words : List Word) (xs : List tree.Declarator) {T : List Name} {p q n : ℕ} → (head (drop q words) ≡ Some (mark Comma) → ⊥) → InDeclarators T words p xs q → IsAt (mark Semicolon) words q n → Reads (Closed Semicolon (IsDeclarators T)) Anything p (drop p words) (before tree.more_declarators xs tree.no_declarators) n (drop n words)
reads_declarators words xs comma from at = all (word at (no_other xs comma from))

pub declarators_item : (items : List Declarator) (x : Declarator) → map declarator_of (items ++ x ∷ []) ≡ map declarator_of items ++ declarator_of x ∷ []
declarators_item [] x = refl
declarators_item (y ∷ items) x = ap (λ z. declarator_of y ∷ z) (declarators_item items x)

-- what stands behind specifiers goes on with none of them
pub goes_front : {T : List Name} {b : Bool} (v z : List Word) → GoesOn T b (head v) → GoesOn T b (head (v ++ z))
goes_front [] z h = elim h [ ]
goes_front (x ∷ v) z h = h

pub goes_list : {T : List Name} {b : Bool} {v : List Word} → g.GoesOnSpecifiers T b v → (z : List Word) → GoesOn T b (head (v ++ z))
goes_list (g.a_typedef_name is) z = by_name is

declared_goes : {T : List Name} {b : Bool} {x : Word} {v : List Word} → StartsDeclarator x → GoesOn T b (Some x) → g.GoesOnSpecifiers T b (x ∷ v)
declared_goes at_declared (by_name is) = g.a_typedef_name is
declared_goes at_star h = elim h [ ]
declared_goes at_paren h = elim h [ ]

pub declarator_goes : {T : List Name} {b : Bool} {v : List Word} (z : List Word) → Starting StartsDeclarator v → (g.GoesOnSpecifiers T b v → ⊥) → GoesOn T b (head (v ++ z)) → ⊥
declarator_goes {T = T} {b = b} z s none goes = none (subst (g.GoesOnSpecifiers T b) (sym s.2) (declared_goes s.3 (subst (λ y. GoesOn T b (head (y ++ z))) s.2 goes)))

pub star_stops : {T : List Name} {b : Bool} → GoesOn T b (Some (mark Star)) → ⊥
star_stops h = elim h [ ]

pub none_goes : {T : List Name} {b : Bool} → GoesOn T b None → ⊥
none_goes h = elim h [ ]

pub list_follows : {T : List Name} {b : Bool} {q : ℕ} {ds : tree.Declarators} {v : List Word} → IsDeclarators T q ds v → (GoesOn T b (head v) → ⊥) → (z : List Word) → SpecifierEnds T b (v ++ z)
list_follows {T = T} {b = b} (declarators {u = u} {v = w} d rest) none z = subst (SpecifierEnds T b) (sym (append_assoc u w z)) (declarator_follows u d (λ h. none (goes_list h w)) (w ++ z))

-- specs declarator { "," declarator } ";"
pub data MemberRest (T : List Name) (s : tree.Specifiers) : ℕ → MemberTree → List Word → Type 0 where
  member_rest : {q : ℕ} {ds : tree.Declarators} {v : List Word} → (GoesOn T (has_type s) (head v) → ⊥) → IsDeclarators T q ds v → MemberRest T s q (s, ds) (v ++ (mark Semicolon ∷ []))

member_into : (T : List Name) (q : ℕ) → Into (Both (g.IsSpecifiers T) (MemberRest T)) (IsMember T) q
member_into T q t _ (both s (member_rest none ds)) = a_member s none ds

member_back : (T : List Name) (q : ℕ) → Into (IsMember T) (Both (g.IsSpecifiers T) (MemberRest T)) q
member_back T q t _ (a_member s none ds) = both s (member_rest none ds)

rest_ends : (T : List Name) → Apart (MemberRest T) Anything (AfterSpecifiers T)
rest_ends T s q t _ r (member_rest {v = v} none ds) e = subst (SpecifierEnds T (has_type s)) (sym (append_assoc v (mark Semicolon ∷ []) r)) (list_follows ds none ((mark Semicolon ∷ []) ++ r))

some_rest : (T : List Name) → Completes (MemberRest T)
some_rest T s q = ((s, tree.more_declarators (tree.declarator q (0 ∷ []) (tree.name_core []) tree.no_suffixes) tree.no_declarators), mark Star ∷ name [] ∷ mark Semicolon ∷ [], member_rest star_stops (declarators (some_declarator T false q) g.last_declarator))

abbrev pub AMember : List Name → List Word → ℕ → Type 0
AMember T words p = Within (IsMember T) Anything p (drop p words) (Both (g.IsSpecifiers T) (MemberRest T)) Anything p (drop p words) (λ t. t)

pub member_start : (words : List Word) (T : List Name) (p : ℕ) → AMember T words p
member_start words T p = line (Both (g.IsSpecifiers T) (MemberRest T)) (member_into T p) (λ t u r e d f. member_back T p t u d) (start (IsMember T) Anything p (drop p words))

pub refuses_its_specifiers : (words : List Word) {T : List Name} {p n : ℕ} → AMember T words p → Refuses (g.IsSpecifiers T) (AfterSpecifiers T) p (drop p words) n (drop n words) → Refuses (IsMember T) Anything p (drop p words) n (drop n words)
refuses_its_specifiers words {T = T} from one' = refused (some_rest T) (rest_ends T) one' from

abbrev DeclaratorsOf : List Name → tree.Specifiers → Family MemberTree
DeclaratorsOf T s = Made (λ ds. let m : MemberTree = (s, ds) in m) (Closed Semicolon (IsDeclarators T))

where_into : (T : List Name) (s : tree.Specifiers) (q : ℕ) → IntoWhere (DeclaratorsOf T s) (MemberRest T s) (λ o. GoesOn T (has_type s) o → ⊥) q
where_into T s q t _ c (made (both {u = u} ds (after done))) = member_rest (λ h. c (goes_front u (mark Semicolon ∷ []) h)) ds

where_back : (T : List Name) (s : tree.Specifiers) (q : ℕ) → Into (MemberRest T s) (DeclaratorsOf T s) q
where_back T s q t _ (member_rest none ds) = made (both ds (after done))

where_some : (T : List Name) (s : tree.Specifiers) (q : ℕ) → SomeWhere (DeclaratorsOf T s) (λ o. GoesOn T (has_type s) o → ⊥) q
where_some T s q = record {
  tree = (s, tree.more_declarators (tree.declarator q (0 ∷ []) (tree.name_core []) tree.no_suffixes) tree.no_declarators);
  words = mark Star ∷ name [] ∷ mark Semicolon ∷ [];
  derived = made (both (declarators (some_declarator T false q) g.last_declarator) (after done));
  so = star_stops;
}

pub after_specifiers : (words : List Word) {T : List Name} {p q : ℕ} {s : tree.Specifiers} → AMember T words p → Reads (g.IsSpecifiers T) (AfterSpecifiers T) p (drop p words) s q (drop q words) → (GoesOn T (has_type s) (head (drop q words)) → ⊥) → Within (IsMember T) Anything p (drop p words) (Closed Semicolon (IsDeclarators T)) Anything q (drop q words) (λ ds. let m : MemberTree = (s, ds) in m)
after_specifiers words {T = T} {q = q} {s = s} from one' other =
    node (line_where (DeclaratorsOf T s) (λ o. GoesOn T (has_type s) o → ⊥) (where_into T s q) (λ t u r e d f. where_back T s q t u d) (λ t d. none_goes) other (where_some T s q) (part (rest_ends T) one' from))

-- member { member } "}"
abbrev MemberRow : List Name → Family tree.Members
MemberRow T = Repeated (λ (s : Unit {0}). IsMember T) (λ s a. s) add_member tree.no_members tt

members_words : (u v w x : List Word) → u ++ (v ++ (w ++ (mark Semicolon ∷ x))) ≡ (u ++ ((v ++ w) ++ (mark Semicolon ∷ []))) ++ x
members_words u v w x =
    ap (λ z. u ++ z) (sym (append_assoc v w (mark Semicolon ∷ x)) ∙ sym (append_assoc (v ++ w) (mark Semicolon ∷ []) x)) ∙ sym (append_assoc u ((v ++ w) ++ (mark Semicolon ∷ [])) x)

members_place : (p : ℕ) (u v w : List Word) → p + length (u ++ ((v ++ w) ++ (mark Semicolon ∷ []))) ≡ suc (p + length u + length v + length w)
members_place p u v w = omega (arith, length-append u ((v ++ w) ++ (mark Semicolon ∷ [])), length-append (v ++ w) (mark Semicolon ∷ []), length-append v w)

member_first : {T : List Name} {p : ℕ} {m : MemberTree} {ms : tree.Members} {w x : List Word} → IsMember T p m w → g.MemberTail T (p + length w) ms x → g.IsMembers T p (add_member m ms) (w ++ x)
member_first {T = T} {p = p} {ms = ms} {x = x} (a_member {s = s} {u = u} ss none (declarators {d = d'} {ds = ds'} {u = v} {v = w} d ds)) rest =
    subst (g.IsMembers T p (tree.more_members s (tree.more_declarators d' ds') ms)) (members_words u v w x) (g.first_member ss (λ h. none (goes_list h w)) d ds (subst (λ k. g.MemberTail T k ms x) (members_place p u v w) rest))

members_tail : {T : List Name} {p : ℕ} {ms : tree.Members} {u : List Word} → MemberRow T p ms u → g.MemberTail T p ms u
members_tail no_more = g.last_member
members_tail (one_more m rest) = g.next_member (member_first m (members_tail rest))

tail_members : {T : List Name} {p : ℕ} {ms : tree.Members} {u : List Word} → g.MemberTail T p ms u → MemberRow T p ms u
tail_members g.last_member = no_more
tail_members {T = T} {p = p} (g.next_member (g.first_member {s = s} {d = d'} {ds = ds'} {ms = ms} {u = u} {v = v} {w = w} {x = x} ss none d ds rest)) =
    subst (MemberRow T p (tree.more_members s (tree.more_declarators d' ds') ms)) (sym (members_words u v w x))
    (one_more (a_member ss (declarator_goes w (declarator_starts d) none) (declarators d ds)) (subst (λ k. MemberRow T k ms x) (sym (members_place p u v w)) (tail_members rest)))

members_into : (T : List Name) (q : ℕ) → Into (Both (IsMember T) (λ m. Made (add_member m) (MemberRow T))) (g.IsMembers T) q
members_into T q t _ (both m (made rest)) = member_first m (members_tail rest)

members_back : (T : List Name) (q : ℕ) → Into (g.IsMembers T) (Both (IsMember T) (λ m. Made (add_member m) (MemberRow T))) q
members_back T q t _ (g.first_member {s = s} {d = d'} {ds = ds'} {ms = ms} {u = u} {v = v} {w = w} {x = x} ss none d ds rest) =
    subst (Both (IsMember T) (λ m. Made (add_member m) (MemberRow T)) q (tree.more_members s (tree.more_declarators d' ds') ms)) (sym (members_words u v w x))
    (both (a_member ss (declarator_goes w (declarator_starts d) none) (declarators d ds)) (made (subst (λ k. MemberRow T k ms x) (sym (members_place q u v w)) (tail_members rest))))

abbrev Braced : tree.Members → Family tree.Members
Braced b = After (mark CloseBrace) (Done b)

abbrev pub NextMember : List Name → List Word → ℕ → List MemberTree → ℕ → Type 0
NextMember T words p xs q = Within (Closed CloseBrace (g.IsMembers T)) Anything p (drop p words) (Next (λ (s : Unit {0}). IsMember T) (λ s a. s) add_member tree.no_members Braced xs tt) Anything q (drop q words) (λ t. t)

abbrev pub InMembers : List Name → List Word → ℕ → List MemberTree → ℕ → Type 0
InMembers T words p xs q = Within (Closed CloseBrace (g.IsMembers T)) Anything p (drop p words) (Rest (λ (s : Unit {0}). IsMember T) (λ s a. s) add_member tree.no_members Braced xs tt) Anything q (drop q words) (λ t. t)

pub members_start : (words : List Word) (T : List Name) (p : ℕ) → NextMember T words p [] p
members_start words T p = first Braced (first_line {G = λ t r. head r ≡ Some (mark CloseBrace)} (Both (IsMember T) (λ m. Made (add_member m) (MemberRow T))) (closed_apart (mark CloseBrace)) (members_into T p) (λ t u r e d f. members_back T p t u d) (start (Closed CloseBrace (g.IsMembers T)) Anything p (drop p words)))

some_braced : (b : tree.Members) (k : ℕ) → (t : tree.Members) × (v : List Word) × Braced b k t v
some_braced b k = (b, mark CloseBrace ∷ [], after done)

pub refuses_member : (words : List Word) (xs : List MemberTree) {T : List Name} {p q n : ℕ} → NextMember T words p xs q → Refuses (IsMember T) Anything q (drop q words) n (drop n words) → Refuses (Closed CloseBrace (g.IsMembers T)) Anything p (drop p words) n (drop n words)
refuses_member words xs from one' = refused (completes_item Braced xs tt some_braced) (λ a q t v r d e. tt) one' from

pub members_next : (words : List Word) (xs : List MemberTree) {T : List Name} {p q n : ℕ} {a : MemberTree} → NextMember T words p xs q → Reads (IsMember T) Anything q (drop q words) a n (drop n words) → InMembers T words p (xs ++ a ∷ []) n
members_next words xs from one' = part (λ a q t v r d e. tt) one' from

brace_clash : (T : List Name) (b : tree.Members) (m : List Word) → BeginsSpecifiers T (head m) → (k : ℕ) (t : tree.Members) (u r : List Word) → head (u ++ r) ≡ head m → Braced b k t u → ⊥
brace_clash T b m goes k t _ r e (after d) = elim (subst (BeginsSpecifiers T) (sym e) goes) [ ]

pub members_more : (words : List Word) (xs : List MemberTree) {T : List Name} {p q : ℕ} → BeginsSpecifiers T (head (drop q words)) → InMembers T words p xs q → NextMember T words p xs q
members_more words xs {T = T} {q = q} goes from = one Braced xs (λ k t u r e d f. brace_clash T (before add_member xs tree.no_members) (drop q words) goes k t u r e d) from

pub specifiers_begin : {T : List Name} {p : ℕ} {s : tree.Specifiers} {u : List Word} (z : List Word) → g.IsSpecifiers T p s u → BeginsSpecifiers T (head (u ++ z))
specifiers_begin {T = T} z d = let s = specifiers_starts d in subst (λ y. BeginsSpecifiers T (head (y ++ z))) (sym s.2) (begins s.3)

member_begins : {T : List Name} {p : ℕ} {m : MemberTree} {u : List Word} (z : List Word) → IsMember T p m u → BeginsSpecifiers T (head (u ++ z))
member_begins {T = T} z (a_member {u = u} {v = v} ss none ds) = subst (λ y. BeginsSpecifiers T (head y)) (sym (append_assoc u (v ++ (mark Semicolon ∷ [])) z)) (specifiers_begin ((v ++ (mark Semicolon ∷ [])) ++ z) ss)

members_end : (words : List Word) (xs : List MemberTree) {T : List Name} {p q : ℕ} → (BeginsSpecifiers T (head (drop q words)) → ⊥) → InMembers T words p xs q → Within (Closed CloseBrace (g.IsMembers T)) Anything p (drop p words) (Braced (before add_member xs tree.no_members)) Anything q (drop q words) (λ t. t)
members_end words xs {T = T} other from = over Braced xs (λ a u z d e. other (subst (BeginsSpecifiers T) e (member_begins z d))) from

pub misses_brace : (words : List Word) (xs : List MemberTree) {T : List Name} {p q : ℕ} → (BeginsSpecifiers T (head (drop q words)) → ⊥) → InMembers T words p xs q → (head (drop q words) ≡ Some (mark CloseBrace) → ⊥) → Refuses (Closed CloseBrace (g.IsMembers T)) Anything p (drop p words) q (drop q words)
misses_brace words xs none from other = missing (λ q. (before add_member xs tree.no_members, [], done)) other (members_end words xs none from)

pub reads_members : (words : List Word) (xs : List MemberTree) {T : List Name} {p q n : ℕ} → (BeginsSpecifiers T (head (drop q words)) → ⊥) → InMembers T words p xs q → IsAt (mark CloseBrace) words q n → Reads (Closed CloseBrace (g.IsMembers T)) Anything p (drop p words) (before add_member xs tree.no_members) n (drop n words)
reads_members words xs none from at = all (word at (members_end words xs none from))

pub members_item : (items : List Member) (x : Member) → map member_tree (items ++ x ∷ []) ≡ map member_tree items ++ member_tree x ∷ []
members_item [] x = refl
members_item (y ∷ items) x = ap (λ z. member_tree y ∷ z) (members_item items x)

member_length : {T : List Name} {q n : ℕ} {m : MemberTree} (u : List Word) → IsMember T q m u → n ≡ q + length u → q < n
member_length _ (a_member {u = u} {v = v} ss none ds) e = omega (arith, e, length-append u (v ++ (mark Semicolon ∷ [])), length-append v (mark Semicolon ∷ []))

pub member_advances : {T : List Name} {q n : ℕ} {w m : List Word} {x : MemberTree} → Reads (IsMember T) Anything q w x n m → q < n
member_advances one' = member_length one'.front one'.derived one'.place
