-- Chains of first operands: where their links lead, and what is known of a link from its first operand.
use Rattle.std.proofs.Common.{◌≡◌, ◌≤◌, ℕ, Bool, true, false, List, [], ◌∷◌, ◌++◌, Option, Some, None, Result, Ok, refl, sym, ap, subst}
use Rattle.std.proofs.lemmas.Option.{none-some}
use Rattle.im_ctree.specs.Tree as t
use Rattle.im_ctree.specs.Shape.{expression_of}
use Rattle.im_ctree.specs.declared.expression.Expression.{size-Expression}
use Rattle.im_ctree.specs.declared.expression.ExpressionKind as k
use Rattle.im_ctree_parts.specs.Lists.{expression_in}
use Rattle.im_check_expression_parts.specs.im_rules.Scopes.{Scopes}
use Rattle.im_check_expression_parts.specs.im_rules.Strings.{strings_named}
use Rattle.im_check_expression_parts.specs.im_rules.Breaks as b
use Rattle.im_check_expression_parts.specs.im_rules.Breaks.{an_expression, first_token}
use Rattle.im_check_expression_parts.specs.im_rules.Conversions as c
use Rattle.im_check_expression_parts.specs.im_rules.Demands as d
use Rattle.im_check_expression_parts.specs.im_rules.Demands.{callee_of, is_function_meant}
use Rattle.im_check_expression_parts.specs.im_rules.Terms as r
use Rattle.im_check_declarators.specs.im_ctype.Table.{Table, structs_of}
use Rattle.im_check_declarators.specs.im_check_stop.declared.stop.Stop.{Stop}
use Rattle.im_check_declarators.specs.im_types.Shape.{type_of}
use Rattle.im_check_scopes.specs.Shape.{scopes_of}
use Rattle.im_check_operands.specs.declared.term.Term.{Term}
use Rattle.im_check_operands.specs.Answers.{IsMade}
use Rattle.im_check_operands.specs.Shape.{term_in}
use Rattle.im_check_type_specifiers.specs.declared.qualified.Qualified.{Qualified}
use Rattle.im_check_declarators.specs.Suffixes.{IsFault}
use Rattle.im_check_place.specs.declared.place.Place.{Place}
use Rattle.im_check_place.specs.Contexts.{context_of}
use Rattle.im_check_expression_parts.specs.Walked.{IsTyped}
use Rattle.im_check_expression_parts.proofs.Made.{fault_of}
use Rattle.im_check_expression_parts.proofs.Forms.{Read, cast, second_fault, callee_fault}
use Rattle.im_check_expressions.specs.Links.{callee_if, first_of, IsNamed, IsLinked}
use Rattle.im_check_expressions.specs.declared.links.Link.{Link}

-- first operands

abbrev given : t.Expression → Option t.Expression → t.Expression
given e None = e
given e (Some f) = f

same_first : (a f : t.Expression) → Some a ≡ Some f → a ≡ f
same_first a f h = ap (given a) h

callee_none : (named : Bool) (f : t.Expression) → callee_if named f ≡ None → named ≡ true
callee_none true f h = refl
callee_none false f h = absurd (none-some f (sym h))

callee_some : (named : Bool) (f g : t.Expression) → callee_if named f ≡ Some g → (named ≡ false) × (Some f ≡ Some g)
callee_some true f g h = absurd (none-some g h)
callee_some false f g h = (refl, h)

-- a call with which a chain ends is one of a function by its name
pub named_callee : (s : Scopes) (at : ℕ) (f : t.Expression) (es : t.Expressions) (e : t.Expression) → e ≡ t.call at f es → first_of s e ≡ None → is_function_meant (callee_of s f) ≡ true
named_callee s at f es e same h = callee_none (is_function_meant (callee_of s f)) f (subst (λ z. first_of s z ≡ None) same h)

-- another one is of what no function's name is
pub unnamed_callee : (s : Scopes) (at : ℕ) (f : t.Expression) (es : t.Expressions) (g : t.Expression) → first_of s (t.call at f es) ≡ Some g → (is_function_meant (callee_of s f) ≡ false) × (Some f ≡ Some g)
unnamed_callee s at f es g h = callee_some (is_function_meant (callee_of s f)) f g h

-- a first operand that stands where its link does
pub read_first : (p q r : Place) (a f : t.Expression) (x : Term) → Some a ≡ Some f → q ≡ p → IsTyped q f r (Ok x) → Read p a x r
read_first p q r a f x h same typed =
    subst (λ z. Read p z x r) (sym (same_first a f h)) (subst (λ (z : Place). Read z f x r) same typed)

moved : (p q : Place) (a f : t.Expression) (stop : Stop) → Some a ≡ Some f → q ≡ p → IsFault (context_of q) (an_expression f) stop → IsFault (context_of p) (an_expression a) stop
moved p q a f stop h same fault =
    subst (λ z. IsFault (context_of p) (an_expression z) stop) (sym (same_first a f h)) (subst (λ (z : Place). IsFault (context_of z) (an_expression f) stop) same fault)

-- a fault of a first operand is one of its link
link_fault : (p q : Place) (e f : t.Expression) (named : Option Qualified) (stop : Stop) → IsLinked p e named q f → IsFault (context_of q) (an_expression f) stop → IsFault (context_of p) (an_expression e) stop
link_fault p q (t.index at a e) f None stop h fault = fault_of b.indexed stop (moved p q a f stop h.first h.type_named fault)
link_fault p q (t.call at g es) f None stop h fault =
    let is = unnamed_callee (scopes_of p.scope) at g es f h.first in
    callee_fault p at g es stop is.0 (moved p q g f stop is.1 h.type_named fault)
link_fault p q (t.member_of at a m) f None stop h fault = fault_of b.whole stop (moved p q a f stop h.first h.type_named fault)
link_fault p q (t.arrow_to at a m) f None stop h fault = fault_of b.pointer_to_whole stop (moved p q a f stop h.first h.type_named fault)
link_fault p q (t.post_step at op a) f None stop h fault = fault_of b.post_stepped stop (moved p q a f stop h.first h.type_named fault)
link_fault p q (t.comma at a e) f None stop h fault = fault_of b.before_comma stop (moved p q a f stop h.first h.type_named fault)
link_fault p q (t.cast at n a) f (Some ty) stop h fault =
    second_fault p (strings_named n) b.cast_operand h.type_named.1 stop (subst (λ z. IsFault (context_of q) (an_expression z) stop) (sym (same_first a f h.first)) fault)
link_fault p q (t.cast at n a) f None stop h fault = absurd h.type_named
link_fault p q (t.index at a e) f (Some ty) stop h fault = absurd h.type_named
link_fault p q (t.call at g es) f (Some ty) stop h fault = absurd h.type_named
link_fault p q (t.member_of at a m) f (Some ty) stop h fault = absurd h.type_named
link_fault p q (t.arrow_to at a m) f (Some ty) stop h fault = absurd h.type_named
link_fault p q (t.post_step at op a) f (Some ty) stop h fault = absurd h.type_named
link_fault p q (t.comma at a e) f (Some ty) stop h fault = absurd h.type_named
link_fault p q (t.identifier at x) f named stop h fault = absurd (none-some f h.first)
link_fault p q (t.integer_constant at n) f named stop h fault = absurd (none-some f h.first)
link_fault p q (t.character_constant at n) f named stop h fault = absurd (none-some f h.first)
link_fault p q (t.string_literal at s) f named stop h fault = absurd (none-some f h.first)
link_fault p q (t.pre_step at op a) f named stop h fault = absurd (none-some f h.first)
link_fault p q (t.unary at op a) f named stop h fault = absurd (none-some f h.first)
link_fault p q (t.size_of_expression at a) f named stop h fault = absurd (none-some f h.first)
link_fault p q (t.size_of_type at n) f named stop h fault = absurd (none-some f h.first)
link_fault p q (t.binary at op a e) f named stop h fault = absurd (none-some f h.first)
link_fault p q (t.conditional at a e g) f named stop h fault = absurd (none-some f h.first)
link_fault p q (t.assign at op a e) f named stop h fault = absurd (none-some f h.first)

-- the token that an expression is told by
pub token_is : (at : ℕ) (e : k.ExpressionKind) → first_token (expression_of at e) ≡ at
token_is at (k.Identifier n) = refl
token_is at (k.Number n) = refl
token_is at (k.Character n) = refl
token_is at (k.Text s) = refl
token_is at (k.Index' p i a q j e) = refl
token_is at (k.Call' p i f m es) = refl
token_is at (k.Member' p i a n) = refl
token_is at (k.Arrow' p i a n) = refl
token_is at (k.PostStep' o p i a) = refl
token_is at (k.PreStep' o p i a) = refl
token_is at (k.Unary' o p i a) = refl
token_is at (k.SizeOfExpression' p i a) = refl
token_is at (k.SizeOfType' p n) = refl
token_is at (k.Cast' p n q i a) = refl
token_is at (k.Binary' o p i a q j e) = refl
token_is at (k.Conditional' p i a q j e s l f) = refl
token_is at (k.Assign' o p i a q j e) = refl
token_is at (k.Comma' p i a q j e) = refl

-- a cast, from its type and the term of its operand
pub cast_linked : (p q : Place) {after : Place} {types : Table} (e f : t.Expression) (ty : Qualified) (at : ℕ) (x : Term) (result : Result Term Stop)
    → IsLinked p e (Some ty) q f → IsTyped q f after (Ok x) → types ≡ after.structs → first_token e ≡ at
    → IsMade types (d.cast_asks (type_of ty.ty) (term_in types x)) (r.value (c.casted (type_of ty.ty) (r.value_of (structs_of types) (term_in types x)))) at result
    → IsTyped p e after result
cast_linked p q {after = after} {types = types} (t.cast at' n a) f ty at x result h typed u token m =
    cast p at' ty x result h.type_named (subst (λ z. Read q z x after) (sym (same_first a f h.first)) typed) u (subst (λ i. IsMade types (d.cast_asks (type_of ty.ty) (term_in types x)) (r.value (c.casted (type_of ty.ty) (r.value_of (structs_of types) (term_in types x)))) i result) (sym token) m)
cast_linked p q (t.index at' a e) f ty at x result h typed u token m = absurd h.type_named
cast_linked p q (t.call at' g es) f ty at x result h typed u token m = absurd h.type_named
cast_linked p q (t.member_of at' a n) f ty at x result h typed u token m = absurd h.type_named
cast_linked p q (t.arrow_to at' a n) f ty at x result h typed u token m = absurd h.type_named
cast_linked p q (t.post_step at' op a) f ty at x result h typed u token m = absurd h.type_named
cast_linked p q (t.comma at' a e) f ty at x result h typed u token m = absurd h.type_named
cast_linked p q (t.identifier at' n) f ty at x result h typed u token m = absurd h.type_named
cast_linked p q (t.integer_constant at' n) f ty at x result h typed u token m = absurd h.type_named
cast_linked p q (t.character_constant at' n) f ty at x result h typed u token m = absurd h.type_named
cast_linked p q (t.string_literal at' s) f ty at x result h typed u token m = absurd h.type_named
cast_linked p q (t.pre_step at' op a) f ty at x result h typed u token m = absurd h.type_named
cast_linked p q (t.unary at' op a) f ty at x result h typed u token m = absurd h.type_named
cast_linked p q (t.size_of_expression at' a) f ty at x result h typed u token m = absurd h.type_named
cast_linked p q (t.size_of_type at' n) f ty at x result h typed u token m = absurd h.type_named
cast_linked p q (t.binary at' op a e) f ty at x result h typed u token m = absurd h.type_named
cast_linked p q (t.conditional at' a e g) f ty at x result h typed u token m = absurd h.type_named
cast_linked p q (t.assign at' op a e) f ty at x result h typed u token m = absurd h.type_named

-- links from an expression at a place, the outermost one first, lead to that operand at that place; none is deeper than this
abbrev pub Outer : ℕ → Place → t.Expression → List Link → Place → t.Expression → Type 0
Outer n p e [] q f = (q ≡ p) × (f ≡ e)
Outer n p e (l ∷ ls) q f = (e ≡ expression_in l.whole.now) × (size-Expression l.whole.now ≤ n) × (r : Place) × (g : t.Expression) × IsLinked p e l.named r g × Outer n r g ls q f

-- the last of them
pub record Last (n : ℕ) (p : Place) (e : t.Expression) (ls : List Link) (l : Link) (q : Place) (f : t.Expression) : Type 0 where
  pub place : Place
  pub outer : Outer n p e ls place (expression_in l.whole.now)
  pub linked : IsLinked place (expression_in l.whole.now) l.named q f
  pub below : size-Expression l.whole.now ≤ n

snoc : (n : ℕ) (p : Place) (e : t.Expression) (ls : List Link) (l : Link) (q r : Place) (f : t.Expression) → Outer n p e ls q (expression_in l.whole.now) → IsLinked q (expression_in l.whole.now) l.named r f → size-Expression l.whole.now ≤ n → Outer n p e (ls ++ l ∷ []) r f
snoc n p e [] l q r f h linked below =
    let here = subst (λ (z : Place). IsLinked z (expression_in l.whole.now) l.named r f) h.0 linked in
    (sym h.1, below, r, f, subst (λ z. IsLinked p z l.named r f) h.1 here, (refl, refl))
snoc n p e (m ∷ ls) l q r f h linked below = (h.0, h.1, h.2, h.3, h.4, snoc n h.2 h.3 ls l q r f h.5 linked below)

last : (n : ℕ) (p : Place) (e : t.Expression) (ls : List Link) (l : Link) (q : Place) (f : t.Expression) → Outer n p e (ls ++ l ∷ []) q f → Last n p e ls l q f
last n p e [] l q f h = record {
  place = p;
  outer = (refl, sym h.0);
  linked = subst (λ z. IsLinked p z l.named q f) h.0 (subst (λ z. IsLinked p e l.named q z) (sym h.5.1) (subst (λ (z : Place). IsLinked p e l.named z h.3) (sym h.5.0) h.4));
  below = h.1;
}
last n p e (m ∷ ls) l q f h =
    let rest = last n h.2 h.3 ls l q f h.5 in
    record { place = rest.place; outer = (h.0, h.1, h.2, h.3, h.4, rest.outer); linked = rest.linked; below = rest.below }

-- one link more, and one less
pub link_down : (n : ℕ) (p : Place) (e : t.Expression) (ls all : List Link) (l : Link) (q r : Place) (f g : t.Expression) → all ≡ ls ++ l ∷ [] → g ≡ expression_in l.whole.now → Outer n p e ls q g → IsLinked q g l.named r f → size-Expression l.whole.now ≤ n → Outer n p e all r f
link_down n p e ls all l q r f g more same h linked below =
    subst (λ z. Outer n p e z r f) (sym more) (snoc n p e ls l q r f (subst (λ z. Outer n p e ls q z) same h) (subst (λ z. IsLinked q z l.named r f) same linked) below)

pub link_up : (n : ℕ) (p : Place) (e : t.Expression) (ls all : List Link) (l : Link) (q : Place) (f : t.Expression) → all ≡ ls ++ l ∷ [] → Outer n p e all q f → Last n p e ls l q f
link_up n p e ls all l q f less h = last n p e ls l q f (subst (λ z. Outer n p e z q f) less h)

-- a fault of what links lead to is one of the whole
pub outer_fault : (n : ℕ) (p : Place) (e : t.Expression) (ls : List Link) (q : Place) (f : t.Expression) (stop : Stop) → Outer n p e ls q f → IsFault (context_of q) (an_expression f) stop → IsFault (context_of p) (an_expression e) stop
outer_fault n p e [] q f stop h fault =
    subst (λ z. IsFault (context_of p) (an_expression z) stop) h.1 (subst (λ (z : Place). IsFault (context_of z) (an_expression f) stop) h.0 fault)
outer_fault n p e (l ∷ ls) q f stop h fault = link_fault p h.2 e h.3 l.named stop h.4 (outer_fault n h.2 h.3 ls q f stop h.5 fault)

-- the term of what links lead to
pub record Reached (n : ℕ) (p : Place) (e : t.Expression) (ls : List Link) (x : Term) (after : Place) : Type 0 where
  pub place : Place
  pub operand : t.Expression
  pub outer : Outer n p e ls place operand
  pub typed : Read place operand x after

-- with no link it is the whole's
pub whole_typed : (n : ℕ) (p : Place) (e : t.Expression) (ls : List Link) (x : Term) (after : Place) → ls ≡ [] → Reached n p e ls x after → Read p e x after
whole_typed n p e ls x after none h =
    let same : Outer n p e [] h.place h.operand = subst (λ z. Outer n p e z h.place h.operand) none h.outer in
    subst (λ z. Read p z x after) same.1 (subst (λ (z : Place). Read z h.operand x after) same.0 h.typed)

-- what is no cast names no type
pub named_none : (p : Place) (at : ℕ) (e : k.ExpressionKind) → ((n : _) (a : _) → e ≡ k.Cast n a → ⊥) → IsNamed p (expression_of at e) None p
named_none p at (k.Identifier n) other = refl
named_none p at (k.Number n) other = refl
named_none p at (k.Character n) other = refl
named_none p at (k.Text s) other = refl
named_none p at (k.Index' r i a q j e) other = refl
named_none p at (k.Call' r i f m es) other = refl
named_none p at (k.Member' r i a n) other = refl
named_none p at (k.Arrow' r i a n) other = refl
named_none p at (k.PostStep' o r i a) other = refl
named_none p at (k.PreStep' o r i a) other = refl
named_none p at (k.Unary' o r i a) other = refl
named_none p at (k.SizeOfExpression' r i a) other = refl
named_none p at (k.SizeOfType' r n) other = refl
named_none p at (k.Cast' r n q i a) other = other (record { ptr = r.ptr; alloc = r.alloc; value = n }) (record { ptr = q.ptr; alloc = q.alloc; value = record { at = i; kind = a } }) refl
named_none p at (k.Binary' o r i a q j e) other = refl
named_none p at (k.Conditional' r i a q j e s l f) other = refl
named_none p at (k.Assign' o r i a q j e) other = refl
named_none p at (k.Comma' r i a q j e) other = refl
