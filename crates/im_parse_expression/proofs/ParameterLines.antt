-- Parameters and type names, part by part.
use Rattle.std.proofs.Common.{◌≡◌, ℕ, suc, ◌+◌, ◌<◌, List, [], ◌∷◌, ◌++◌, length, map, drop, sym, refl, ap, ◌∙◌, subst, arith, append_assoc, length-append, inl, inr, Bool}
use Rattle.std.specs.Prelude.{Option, Some, None, ◌⊎◌}
use Rattle.im_tok.specs.declared.punctuator.Punctuator.TheVariants.{OpenParen, CloseParen, Comma}
use Rattle.im_word.specs.Words.{Name, Word, mark}
use Rattle.im_ctree.specs.declared.declarator.Parameter.{Parameter}
use Rattle.im_ctree.specs.Tree as tree
use Rattle.im_ctree.specs.Grammar as g
use Rattle.im_ctree.specs.Typedefs.{has_type}
use Rattle.im_ctree.specs.Follow.{SpecifierEnds, Separated, closes, close_paren, at_comma, Starting, StartsDeclarator, StartsAbstract, at_abstract_star, at_abstract_paren, at_abstract_bracket}
use Rattle.im_ctree.proofs.Ranks.{parameter_starts, not_specifier}
use Rattle.im_ctree.proofs.Behind.{declarator_starts, declarator_follows, abstract_starts, maybe_abstract_follows, separated_ends}
use Rattle.im_parse_core.specs.Reads.{Family, Ending, head, Reads, Refuses, Within}
use Rattle.im_parse_core.specs.Parts.{Both, both, After, after, Made, made, Done, done}
use Rattle.im_parse_core.specs.Places.{IsAt}
use Rattle.im_parse_core.specs.Lists.{before}
use Rattle.im_parse_core.specs.Repeats.{Repeated, no_more, one_more}
use Rattle.im_parse_core.proofs.Steps.{Apart, Completes, Into, start, line, line_at, word, missing, part, refused, node, all, last, last_refused, nothing, as_closed, first_line, first_line_at, flat, flat_done, flat_made}
use Rattle.im_parse_core.proofs.Conditions.{line_where, SomeWhere, IntoWhere}
use Rattle.im_parse_core.proofs.SeparatedLists.{Others, Behind, Before, opened, refuses_listed, listed, another, no_other, closed_apart}
use Rattle.im_parse_expression.specs.Parsing.{Anything, Closed}
use Rattle.im_parse_expression.specs.declared.form.Form.TheVariants.{Either, Abstract}
use Rattle.im_parse_expression.specs.Declaring.{GoesOn, by_keyword, by_name, AfterSpecifiers, AfterParameter, IsMaybeForm, no_form, a_form, ParameterTree, add_parameter, parameter_tree}
use Rattle.im_parse_expression.specs.Declaring as d
use Rattle.im_parse_expression.proofs.MemberLines.{declarator_goes, goes_front, none_goes, specifiers_begin}

-- a parameter behind its specifiers
pub data ParameterRest (T : List Name) (s : tree.Specifiers) : ℕ → ParameterTree → List Word → Type 0 where
  parameter_rest : {q : ℕ} {m : tree.MaybeDeclarator} {v : List Word} → (GoesOn T (has_type s) (head v) → ⊥) → IsMaybeForm T Either q m v → ParameterRest T s q (s, m) v

goes_head : {T : List Name} {b : Bool} {v : List Word} → g.GoesOnSpecifiers T b v → GoesOn T b (head v)
goes_head (g.a_typedef_name is) = by_name is

declared_head : {T : List Name} {b : Bool} {v : List Word} → Starting StartsDeclarator v → (g.GoesOnSpecifiers T b v → ⊥) → GoesOn T b (head v) → ⊥
declared_head {v = v} s none goes = declarator_goes [] s none (goes_front v [] goes)

abstract_word : {T : List Name} {b : Bool} {x : Word} → StartsAbstract x → GoesOn T b (Some x) → ⊥
abstract_word at_abstract_star h = elim h [ ]
abstract_word at_abstract_paren h = elim h [ ]
abstract_word at_abstract_bracket h = elim h [ ]

pub abstract_head : {T : List Name} {b : Bool} {v : List Word} → Starting StartsAbstract v → GoesOn T b (head v) → ⊥
abstract_head {T = T} {b = b} s goes = abstract_word s.3 (subst (λ y. GoesOn T b (head y)) s.2 goes)

parameter_into : (T : List Name) (q : ℕ) → Into (Both (g.IsSpecifiers T) (ParameterRest T)) (d.Parameter T) q
parameter_into T q t _ (both ss (parameter_rest none no_form)) = g.other_parameter ss g.no_abstract
parameter_into T q t _ (both ss (parameter_rest none (a_form (inl x)))) = g.named_parameter ss (λ h. none (goes_head h)) x
parameter_into T q t _ (both ss (parameter_rest none (a_form (inr x)))) = g.other_parameter ss (g.an_abstract x)

parameter_split : (T : List Name) (q : ℕ) (s : tree.Specifiers) (m : tree.MaybeDeclarator) (u : List Word) → g.IsParameter T q s m u → Both (g.IsSpecifiers T) (ParameterRest T) q (s, m) u
parameter_split T q s m _ (g.named_parameter ss none x) = both ss (parameter_rest (declared_head (declarator_starts x) none) (a_form (inl x)))
parameter_split T q s m _ (g.other_parameter ss g.no_abstract) = both ss (parameter_rest none_goes no_form)
parameter_split T q s m _ (g.other_parameter ss (g.an_abstract x)) = both ss (parameter_rest (abstract_head (abstract_starts x)) (a_form (inr x)))

parameter_ends : (T : List Name) → Apart (ParameterRest T) AfterParameter (AfterSpecifiers T)
parameter_ends T s q t _ r (parameter_rest none no_form) e = separated_ends e
parameter_ends T s q t _ r (parameter_rest {v = v} none (a_form (inl x))) e = declarator_follows v x (λ h. none (goes_head h)) r
parameter_ends T s q t _ r (parameter_rest none (a_form (inr x))) e = maybe_abstract_follows (g.an_abstract x) r e

parameter_completes : (T : List Name) → Completes (ParameterRest T)
parameter_completes T s q = ((s, tree.no_declarator), [], parameter_rest none_goes no_form)

abbrev pub AParameter : List Name → List Word → ℕ → Type 0
AParameter T words p = Within (d.Parameter T) AfterParameter p (drop p words) (Both (g.IsSpecifiers T) (ParameterRest T)) AfterParameter p (drop p words) (λ t. t)

pub parameter_start : (words : List Word) (T : List Name) (p : ℕ) → AParameter T words p
parameter_start words T p = line (Both (g.IsSpecifiers T) (ParameterRest T)) (parameter_into T p) (λ t u r e x f. parameter_split T p t.0 t.1 u x) (start (d.Parameter T) AfterParameter p (drop p words))

pub refuses_parameter_specifiers : (words : List Word) {T : List Name} {p n : ℕ} → AParameter T words p → Refuses (g.IsSpecifiers T) (AfterSpecifiers T) p (drop p words) n (drop n words) → Refuses (d.Parameter T) AfterParameter p (drop p words) n (drop n words)
refuses_parameter_specifiers words {T = T} from one' = refused (parameter_completes T) (parameter_ends T) one' from

abbrev DeclaredOf : List Name → tree.Specifiers → Family ParameterTree
DeclaredOf T s = Made (λ m. let x : ParameterTree = (s, m) in x) (IsMaybeForm T Either)

where_into : (T : List Name) (s : tree.Specifiers) (q : ℕ) → IntoWhere (DeclaredOf T s) (ParameterRest T s) (λ o. GoesOn T (has_type s) o → ⊥) q
where_into T s q t _ c (made x) = parameter_rest c x

where_back : (T : List Name) (s : tree.Specifiers) (q : ℕ) → Into (ParameterRest T s) (DeclaredOf T s) q
where_back T s q t _ (parameter_rest none x) = made x

where_some : (T : List Name) (s : tree.Specifiers) (q : ℕ) → SomeWhere (DeclaredOf T s) (λ o. GoesOn T (has_type s) o → ⊥) q
where_some T s q = record { tree = (s, tree.no_declarator); words = []; derived = made no_form; so = none_goes }

pub parameter_declared : (words : List Word) {T : List Name} {p q : ℕ} {s : tree.Specifiers} → AParameter T words p → Reads (g.IsSpecifiers T) (AfterSpecifiers T) p (drop p words) s q (drop q words) → (GoesOn T (has_type s) (head (drop q words)) → ⊥) → Within (d.Parameter T) AfterParameter p (drop p words) (IsMaybeForm T Either) AfterParameter q (drop q words) (λ m. let x : ParameterTree = (s, m) in x)
parameter_declared words {T = T} {q = q} {s = s} from one' other =
    node (line_where (DeclaredOf T s) (λ o. GoesOn T (has_type s) o → ⊥) (where_into T s q) (λ t u r e x f. where_back T s q t u x) (λ t x. none_goes) other (where_some T s q) (part (parameter_ends T) one' from))

-- [ param { "," param } ] ")"
abbrev ParameterRow : List Name → Family tree.Parameters
ParameterRow T = Others (d.Parameter T) add_parameter tree.no_parameters (mark Comma)

row_tail : {T : List Name} {p : ℕ} {qs : tree.Parameters} {u : List Word} → ParameterRow T p qs u → g.ParameterTail T p qs u
row_tail no_more = g.last_parameter
row_tail {T = T} (one_more {b = b} {v = v} (after {u = u} x) rest) = g.next_parameter x (subst (λ k. g.ParameterTail T k b v) (omega arith) (row_tail rest))

parameter_of : {T : List Name} {p : ℕ} {s : tree.Specifiers} {m : tree.MaybeDeclarator} {u : List Word} → g.IsParameter T (suc p) s m u → After (mark Comma) (d.Parameter T) p (s, m) (mark Comma ∷ u)
parameter_of x = after x

tail_row : {T : List Name} {p : ℕ} {qs : tree.Parameters} {u : List Word} → g.ParameterTail T p qs u → ParameterRow T p qs u
tail_row g.last_parameter = no_more
tail_row {T = T} (g.next_parameter {qs = b} {u = u} {v = v} x rest) = one_more (parameter_of x) (subst (λ k. ParameterRow T k b v) (omega arith) (tail_row rest))

abbrev pub NextParameter : List Name → List Word → ℕ → List ParameterTree → ℕ → Type 0
NextParameter T words p xs q = Within (Closed CloseParen (g.IsParameters T)) Anything p (drop p words) (Before (d.Parameter T) add_parameter tree.no_parameters (mark Comma) (mark CloseParen) xs) Anything q (drop q words) (λ t. t)

abbrev pub InParameters : List Name → List Word → ℕ → List ParameterTree → ℕ → Type 0
InParameters T words p xs q = Within (Closed CloseParen (g.IsParameters T)) Anything p (drop p words) (Behind (d.Parameter T) add_parameter tree.no_parameters (mark Comma) (mark CloseParen) xs) Anything q (drop q words) (λ t. t)

none_into : (T : List Name) (q : ℕ) → Into (Done tree.no_parameters) (g.IsParameters T) q
none_into T q t _ done = g.no_parameter

none_back : (T : List Name) (q : ℕ) (t : tree.Parameters) (u r v : List Word) → u ++ r ≡ mark CloseParen ∷ v → g.IsParameters T q t u → Done tree.no_parameters q t u
none_back T q t _ r v eq g.no_parameter = done
none_back T q t _ r v eq (g.first_parameter {u = u} {v = w} x rest) = absurd (not_specifier u (w ++ r) close_paren (parameter_starts x) (sym eq ∙ append_assoc u w r))

pub reads_none : (words : List Word) {T : List Name} {p k : ℕ} → IsAt (mark CloseParen) words p k → Reads (Closed CloseParen (g.IsParameters T)) Anything p (drop p words) tree.no_parameters k (drop k words)
reads_none words {T = T} {p = p} at =
    all (word at (flat_done (first_line_at {G = λ t r. head r ≡ Some (mark CloseParen)} (mark CloseParen) (Done tree.no_parameters) (closed_apart (mark CloseParen)) (ap head at.here) (none_into T p) (λ t u r v eq x e. none_back T p t u r v eq x) (start (Closed CloseParen (g.IsParameters T)) Anything p (drop p words)))))

parameters_into : (T : List Name) (q : ℕ) → Into (Both (d.Parameter T) (λ a. Made (add_parameter a) (ParameterRow T))) (g.IsParameters T) q
parameters_into T q t _ (both x (made rest)) = g.first_parameter x (row_tail rest)

first_of_list : {T : List Name} {q : ℕ} {s : tree.Specifiers} {m : tree.MaybeDeclarator} {qs : tree.Parameters} {u v : List Word} → g.IsParameter T q s m u → ParameterRow T (q + length u) qs v → Both (d.Parameter T) (λ a. Made (add_parameter a) (ParameterRow T)) q (tree.more_parameters s m qs) (u ++ v)
first_of_list {T = T} {q = q} {s = s} {m = m} {u = u} x rest = let a : ParameterTree = (s, m) in let y : d.Parameter T q a u = x in both y (made rest)

parameters_back : (T : List Name) (q : ℕ) (m : List Word) → (head m ≡ Some (mark CloseParen) → ⊥) → (t : tree.Parameters) (u r : List Word) → head (u ++ r) ≡ head m → g.IsParameters T q t u → head r ≡ Some (mark CloseParen) → Both (d.Parameter T) (λ a. Made (add_parameter a) (ParameterRow T)) q t u
parameters_back T q m other t _ r e g.no_parameter f = absurd (other (sym e ∙ f))
parameters_back T q m other t _ r e (g.first_parameter x rest) f = first_of_list x (tail_row rest)

pub parameters_start : (words : List Word) {T : List Name} {p : ℕ} → (head (drop p words) ≡ Some (mark CloseParen) → ⊥) → NextParameter T words p [] p
parameters_start words {T = T} {p = p} other = opened (g.IsParameters T) (d.Parameter T) add_parameter tree.no_parameters (mark Comma) (mark CloseParen) (parameters_into T p) (parameters_back T p (drop p words) other) (start (Closed CloseParen (g.IsParameters T)) Anything p (drop p words))

comma_ends : (a : ParameterTree) (z : List Word) → AfterParameter a (mark Comma ∷ z)
comma_ends a z = at_comma

paren_ends : (a : ParameterTree) (z : List Word) → AfterParameter a (mark CloseParen ∷ z)
paren_ends a z = closes close_paren

pub refuses_parameter : (words : List Word) (xs : List ParameterTree) {T : List Name} {p q n : ℕ} → NextParameter T words p xs q → Refuses (d.Parameter T) AfterParameter q (drop q words) n (drop n words) → Refuses (Closed CloseParen (g.IsParameters T)) Anything p (drop p words) n (drop n words)
refuses_parameter words xs from one' = refuses_listed AfterParameter xs comma_ends paren_ends from one'

pub parameters_next : (words : List Word) (xs : List ParameterTree) {T : List Name} {p q n : ℕ} {a : ParameterTree} → NextParameter T words p xs q → Reads (d.Parameter T) AfterParameter q (drop q words) a n (drop n words) → InParameters T words p (xs ++ a ∷ []) n
parameters_next words xs from one' = listed AfterParameter xs comma_ends paren_ends from one'

pub parameters_more : (words : List Word) (xs : List ParameterTree) {T : List Name} {p q n : ℕ} → IsAt (mark Comma) words q n → InParameters T words p xs q → NextParameter T words p xs n
parameters_more words xs at from = another xs (λ e. cc e) at from

pub misses_paren : (words : List Word) (xs : List ParameterTree) {T : List Name} {p q : ℕ} → (head (drop q words) ≡ Some (mark Comma) → ⊥) → InParameters T words p xs q → (head (drop q words) ≡ Some (mark CloseParen) → ⊥) → Refuses (Closed CloseParen (g.IsParameters T)) Anything p (drop p words) q (drop q words)
misses_paren words xs comma from other = missing (λ q. (before add_parameter xs tree.no_parameters, [], done)) other (no_other xs comma from)

pub reads_parameters : (words : List Word) (xs : List ParameterTree) {T : List Name} {p q n : ℕ} → (head (drop q words) ≡ Some (mark Comma) → ⊥) → InParameters T words p xs q → IsAt (mark CloseParen) words q n → Reads (Closed CloseParen (g.IsParameters T)) Anything p (drop p words) (before add_parameter xs tree.no_parameters) n (drop n words)
reads_parameters words xs comma from at = all (word at (no_other xs comma from))

pub parameters_item : (items : List Parameter) (x : Parameter) → map parameter_tree (items ++ x ∷ []) ≡ map parameter_tree items ++ parameter_tree x ∷ []
parameters_item [] x = refl
parameters_item (y ∷ items) x = ap (λ z. parameter_tree y ∷ z) (parameters_item items x)

-- specs [ abstract ] ")"
abbrev TypeLine : List Name → tree.Specifiers → Family tree.TypeName
TypeLine T s = Made (tree.type_name s) (IsMaybeForm T Abstract)

maybe_abstract : {T : List Name} {q : ℕ} {m : tree.MaybeDeclarator} {u : List Word} → IsMaybeForm T Abstract q m u → g.IsMaybeAbstract T q m u
maybe_abstract no_form = g.no_abstract
maybe_abstract (a_form x) = g.an_abstract x

abstract_maybe : {T : List Name} {q : ℕ} {m : tree.MaybeDeclarator} {u : List Word} → g.IsMaybeAbstract T q m u → IsMaybeForm T Abstract q m u
abstract_maybe g.no_abstract = no_form
abstract_maybe (g.an_abstract x) = a_form x

type_into : (T : List Name) (q : ℕ) → Into (Both (g.IsSpecifiers T) (TypeLine T)) (g.IsTypeName T) q
type_into T q t _ (both ss (made x)) = g.a_type_name ss (maybe_abstract x)

type_back : (T : List Name) (q : ℕ) → Into (g.IsTypeName T) (Both (g.IsSpecifiers T) (TypeLine T)) q
type_back T q t _ (g.a_type_name ss x) = both ss (made (abstract_maybe x))

abbrev TypeRest : List Name → tree.Specifiers → Family tree.TypeName
TypeRest T s = Both (TypeLine T s) (λ t. After (mark CloseParen) (Done t))

type_ends : (T : List Name) → Apart (TypeRest T) Anything (AfterSpecifiers T)
type_ends T s q t _ r (both {u = u} (made x) (after {u = w} y)) e = subst (SpecifierEnds T (has_type s)) (sym (append_assoc u (mark CloseParen ∷ w) r)) (maybe_abstract_follows (maybe_abstract x) (mark CloseParen ∷ (w ++ r)) (closes close_paren))

type_completes : (T : List Name) → Completes (TypeRest T)
type_completes T s q = (tree.type_name s tree.no_declarator, mark CloseParen ∷ [], both (made no_form) (after done))

abbrev pub AType : List Name → List Word → ℕ → Type 0
AType T words p = Within (Closed CloseParen (g.IsTypeName T)) Anything p (drop p words) (Both (g.IsSpecifiers T) (TypeRest T)) Anything p (drop p words) (λ t. t)

pub type_start : (words : List Word) (T : List Name) (p : ℕ) → AType T words p
type_start words T p = flat (first_line {G = λ t r. head r ≡ Some (mark CloseParen)} (Both (g.IsSpecifiers T) (TypeLine T)) (closed_apart (mark CloseParen)) (type_into T p) (λ t u r e x f. type_back T p t u x) (start (Closed CloseParen (g.IsTypeName T)) Anything p (drop p words)))

pub refuses_type_specifiers : (words : List Word) {T : List Name} {p n : ℕ} → AType T words p → Refuses (g.IsSpecifiers T) (AfterSpecifiers T) p (drop p words) n (drop n words) → Refuses (Closed CloseParen (g.IsTypeName T)) Anything p (drop p words) n (drop n words)
refuses_type_specifiers words {T = T} from one' = refused (type_completes T) (type_ends T) one' from

abbrev pub TypeDeclared : List Name → List Word → ℕ → tree.Specifiers → ℕ → Type 0
TypeDeclared T words p s q = Within (Closed CloseParen (g.IsTypeName T)) Anything p (drop p words) (Both (IsMaybeForm T Abstract) (λ m. After (mark CloseParen) (Done (tree.type_name s m)))) Anything q (drop q words) (λ t. t)

pub type_declared : (words : List Word) {T : List Name} {p q : ℕ} {s : tree.Specifiers} → AType T words p → Reads (g.IsSpecifiers T) (AfterSpecifiers T) p (drop p words) s q (drop q words) → TypeDeclared T words p s q
type_declared words {T = T} from one' = flat_made (part (type_ends T) one' from)

close_ends : (s : tree.Specifiers) → Apart {A = tree.MaybeDeclarator} (λ m. After (mark CloseParen) (Done (tree.type_name s m))) Anything AfterParameter
close_ends s m q t _ r (after y) e = closes close_paren

pub refuses_type_declarator : (words : List Word) {T : List Name} {p q n : ℕ} {s : tree.Specifiers} → TypeDeclared T words p s q → Refuses (IsMaybeForm T Abstract) AfterParameter q (drop q words) n (drop n words) → Refuses (Closed CloseParen (g.IsTypeName T)) Anything p (drop p words) n (drop n words)
refuses_type_declarator words {s = s} from one' = refused (λ m q. (tree.type_name s m, mark CloseParen ∷ [], after done)) (close_ends s) one' from

pub misses_type_end : (words : List Word) {T : List Name} {p q n : ℕ} {s : tree.Specifiers} {m : tree.MaybeDeclarator} → TypeDeclared T words p s q → Reads (IsMaybeForm T Abstract) AfterParameter q (drop q words) m n (drop n words) → (head (drop n words) ≡ Some (mark CloseParen) → ⊥) → Refuses (Closed CloseParen (g.IsTypeName T)) Anything p (drop p words) n (drop n words)
misses_type_end words {s = s} {m = m} from one' other = missing (λ q. (tree.type_name s m, [], done)) other (part (close_ends s) one' from)

pub reads_type : (words : List Word) {T : List Name} {p q n k : ℕ} {s : tree.Specifiers} {m : tree.MaybeDeclarator} → TypeDeclared T words p s q → Reads (IsMaybeForm T Abstract) AfterParameter q (drop q words) m n (drop n words) → IsAt (mark CloseParen) words n k → Reads (Closed CloseParen (g.IsTypeName T)) Anything p (drop p words) (tree.type_name s m) k (drop k words)
reads_type words {s = s} from one' at = all (word at (part (close_ends s) one' from))
