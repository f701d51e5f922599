-- What the parsing functions of specifiers, declarators and type names promise.
use Rattle.std.specs.Prelude.{ℕ, suc, ◌+◌, ◌<◌, ◌≡◌, ◌⊎◌, Bool, true, false, List, [], ◌∷◌, ◌++◌, length, map, drop, Result, MatchResult, Option, Some, None}
use Rattle.std.specs.List.{Contains}
use Rattle.std.specs.declared.vec.Vec.{Vec}
use Rattle.im_tok.specs.declared.punctuator.Punctuator.TheVariants as punctuator
use Rattle.im_tok.specs.declared.punctuator.Punctuator.TheVariants.{OpenParen, CloseParen, OpenBrace, CloseBrace, OpenBracket, CloseBracket, Semicolon, Comma}
use Rattle.im_tok.specs.declared.keyword.Keyword.{Keyword}
use Rattle.im_word.specs.Words.{Name, Word, name, keyword, mark}
use Rattle.im_ctree.specs.declared.specifier.SpecifierWord.{SpecifierWord}
use Rattle.im_ctree.specs.Operators as op
use Rattle.im_ctree.specs.Tree as t
use Rattle.im_ctree.specs.Grammar as g
use Rattle.im_ctree.specs.Typedefs.{has_type}
use Rattle.im_ctree.specs.Follow.{head_rank, head_brace, head_star, keyword_specifier, SpecifierEnds, Separated}
use Rattle.im_ctree.specs.Shape.{specifier_of, specifiers_of, declarator_of, declarators_of, maybe_expression_of, maybe_declarator_of, parameters_of}
use Rattle.im_ctree.specs.declared.specifier.Specifier.{Specifier}
use Rattle.im_ctree.specs.declared.specifier.Member as mb
use Rattle.im_ctree.specs.declared.specifier.Enumerator as en
use Rattle.im_ctree.specs.declared.declarator.Declarator as dc
use Rattle.im_ctree.specs.declared.declarator.Star.{Star}
use Rattle.im_ctree.specs.declared.declarator.Suffix.{Suffix}
use Rattle.im_ctree.specs.declared.declarator.SuffixKind as xk
use Rattle.im_ctree.specs.declared.declarator.Parameter as pm
use Rattle.im_parse_core.specs.Reads.{Family, Ending, head}
use Rattle.im_parse_core.specs.Lists.{before}
use Rattle.im_parse_core.specs.Places.{IsAt}
use Rattle.im_parse_core.specs.declared.stop.Stop.{Stop}
use Rattle.im_parse_core.specs.declared.stop.Stop.TheVariants.{Memory}
use Rattle.im_parse_expression.specs.declared.form.Form.{Form}
use Rattle.im_parse_expression.specs.declared.form.Form.TheVariants.{Declared, Guarded, Either, Abstract}

-- what a function gives that makes this, or runs out of memory
abbrev pub Makes : {R A : Type 0} → (R → A) → Result R Stop → A → Type 0
Makes shape result node = MatchResult result (λ made. shape made ≡ node) (λ stop. stop ≡ Memory)

-- specifiers go on with this word; the Bool says whether a type stands before it
pub data GoesOn (T : List Name) : Bool → Option Word → Type 0 where
  by_keyword : {a : Bool} {k : Keyword} → keyword_specifier k ≡ 1 → GoesOn T a (Some (keyword k))
  by_name : {n : Name} → Contains T n → GoesOn T false (Some (name n))

abbrev pub specifier_tree : Specifier → t.Specifier
specifier_tree s = specifier_of s.at s.kind

abbrev pub specifier_list : {G : Type 0} → Vec Specifier G → t.SpecifierList
specifier_list items = before t.more_specifiers (map specifier_tree items.items) t.no_specifiers

-- a tag alone isn't followed by a brace
abbrev pub Unbraced : Ending t.Specifier
Unbraced s r = head_brace r ≡ 0

abbrev pub AfterSpecifiers : List Name → Ending t.Specifiers
AfterSpecifiers T s r = SpecifierEnds T (has_type s) r

-- what may stand behind `struct` or `enum`: a tag, a list in braces, or both
pub data IsBraced {A : Type 0} (M : Family A) (full : Option Name → A → t.Specifier) (tag : Name → t.Specifier) : ℕ → t.Specifier → List Word → Type 0 where
  untagged : {p : ℕ} {a : A} {u : List Word} → M (suc p) a u → IsBraced M full tag p (full None a) (mark OpenBrace ∷ (u ++ (mark CloseBrace ∷ [])))
  tagged : {p : ℕ} (n : Name) {a : A} {u : List Word} → M (suc (suc p)) a u → IsBraced M full tag p (full (Some n) a) (name n ∷ mark OpenBrace ∷ (u ++ (mark CloseBrace ∷ [])))
  tag_alone : {p : ℕ} (n : Name) → IsBraced M full tag p (tag n) (name n ∷ [])

-- behind `struct`, and behind `enum`, which is word s
abbrev pub IsStructRest : List Name → ℕ → Family t.Specifier
IsStructRest T s = IsBraced (g.IsMembers T) (t.struct_specifier s) (t.struct_tag s)

abbrev pub IsEnumRest : List Name → ℕ → Family t.Specifier
IsEnumRest T s = IsBraced (g.IsEnumerators T) (t.enum_specifier s) (t.enum_tag s)

-- declarator { "," declarator }
pub data IsDeclarators (T : List Name) : ℕ → t.Declarators → List Word → Type 0 where
  declarators : {p : ℕ} {d : t.Declarator} {ds : t.Declarators} {u v : List Word} → g.IsDeclarator T false p d u → g.DeclaratorTail T (p + length u) ds v → IsDeclarators T p (t.more_declarators d ds) (u ++ v)

abbrev pub declarators_tree : {G : Type 0} → Vec dc.Declarator G → t.Declarators
declarators_tree items = before t.more_declarators (map declarator_of items.items) t.no_declarators

-- a member's specifiers and its declarators
abbrev pub MemberTree : Type 0
MemberTree = t.Specifiers × t.Declarators

abbrev pub add_member : MemberTree → t.Members → t.Members
add_member m ms = t.more_members m.0 m.1 ms

abbrev pub member_tree : mb.Member → MemberTree
member_tree (mb.Member' s m ds) = (specifiers_of s, declarators_of ds)

abbrev pub members_tree : {G : Type 0} → Vec mb.Member G → t.Members
members_tree items = before add_member (map member_tree items.items) t.no_members

-- specs declarator { "," declarator } ";"
pub data IsMember (T : List Name) : ℕ → MemberTree → List Word → Type 0 where
  a_member : {p : ℕ} {s : t.Specifiers} {ds : t.Declarators} {u v : List Word}
      → g.IsSpecifiers T p s u
      → (GoesOn T (has_type s) (head v) → ⊥)
      → IsDeclarators T (p + length u) ds v
      → IsMember T p (s, ds) (u ++ (v ++ (mark Semicolon ∷ [])))

-- an enumerator's number, name and value
abbrev pub EnumeratorTree : Type 0
EnumeratorTree = ℕ × Name × t.MaybeExpression

abbrev pub add_enumerator : EnumeratorTree → t.Enumerators → t.Enumerators
add_enumerator e es = t.more_enumerators e.0 e.1 e.2 es

abbrev pub enumerator_tree : en.Enumerator → EnumeratorTree
enumerator_tree (en.Enumerator' at n e) = (at, n.items, maybe_expression_of e)

abbrev pub enumerators_tree : {G : Type 0} → Vec en.Enumerator G → t.Enumerators
enumerators_tree items = before add_enumerator (map enumerator_tree items.items) t.no_enumerators

-- Name [ "=" cond ]
pub data IsEnumerator (T : List Name) : ℕ → EnumeratorTree → List Word → Type 0 where
  an_enumerator : {p : ℕ} (n : Name) {e : t.MaybeExpression} {u : List Word} → g.IsValue T (suc p) e u → IsEnumerator T p (p, n, e) (name n ∷ u)

-- which declarators are read: those that declare a name; in a parameter, those with a name in parentheses, and those
-- with a name or without one; and those without a name
abbrev pub IsForm : List Name → Form → Family t.Declarator
IsForm T Declared = g.IsDeclarator T false
IsForm T Guarded = g.IsDeclarator T true
IsForm T Either = λ p d u. g.IsDeclarator T true p d u ⊎ g.IsAbstract T p d u
IsForm T Abstract = g.IsAbstract T

abbrev pub head_named : List Word → ℕ
head_named (name n ∷ v) = 1
head_named _ = 0

-- what may stand behind a declarator
abbrev pub AfterDeclarator : {A : Type 0} → Ending A
AfterDeclarator d r = (head_rank r < 14) × (head_star r ≡ 0) × (head_named r ≡ 0)

abbrev pub stars_tree : {G : Type 0} → Vec Star G → List ℕ
stars_tree stars = map (λ (star : Star). star.consts) stars.items

abbrev pub Stars : Family (List ℕ)
Stars p ns u = g.IsStars ns u

abbrev pub AfterStars : Ending (List ℕ)
AfterStars ns r = head_star r < 1

abbrev pub Consts : Family ℕ
Consts p n u = g.IsConsts n u

abbrev pub AfterConsts : Ending ℕ
AfterConsts n r = head_star r < 2

-- a form that has a name of its own, and one that may have none
pub data HasName : Form → Type 0 where
  declared : HasName Declared
  guarded : HasName Guarded
  either : HasName Either

pub data MayBeNameless : Form → Type 0 where
  either_nameless : MayBeNameless Either
  abstract : MayBeNameless Abstract

-- a declarator of the first form may have in parentheses one of the second, which begins as these words do
pub data IsInner (T : List Name) : Form → Form → List Word → Type 0 where
  declared_inner : {v : List Word} → IsInner T Declared Declared v
  guarded_inner : {v : List Word} → (g.OpensParameters T v → ⊥) → IsInner T Guarded Guarded v
  named_inner : {v : List Word} → (g.OpensParameters T v → ⊥) → (head v ≡ Some (mark punctuator.Star) → ⊥) → IsInner T Either Guarded v
  either_inner : {v : List Word} → head v ≡ Some (mark punctuator.Star) → IsInner T Either Either v
  abstract_inner : {v : List Word} → head v ≡ Some (mark punctuator.Star) → IsInner T Abstract Abstract v

abbrev pub NotEmpty : List ℕ → List Word → Type 0
NotEmpty ns v = (ns ≡ [] → ⊥) ⊎ (v ≡ [] → ⊥)

-- what stands behind the stars of a declarator of this form, which begins at word s
pub data IsStarred (T : List Name) (f : Form) (s : ℕ) (ns : List ℕ) : ℕ → t.Declarator → List Word → Type 0 where
  with_name : {p : ℕ} (n : Name) {ts : t.Suffixes} {u : List Word} → HasName f → g.IsSuffixes T (suc p) ts u → IsStarred T f s ns p (t.declarator s ns (t.name_core n) ts) (name n ∷ u)
  with_inner : {h : Form} {p : ℕ} (d : t.Declarator) {ts : t.Suffixes} {v w : List Word}
      → IsInner T f h v
      → IsForm T h (suc p) d v
      → g.IsSuffixes T (suc (suc p + length v)) ts w
      → IsStarred T f s ns p (t.around s ns d ts) (mark OpenParen ∷ (v ++ (mark CloseParen ∷ w)))
  nameless : {p : ℕ} {ts : t.Suffixes} {u : List Word} → MayBeNameless f → NotEmpty ns u → g.IsSuffixes T p ts u → IsStarred T f s ns p (t.declarator s ns t.absent_core ts) u

-- one suffix
pub data SuffixTree : Type 0 where
  one_array : ℕ → t.MaybeExpression → SuffixTree
  one_function : ℕ → t.Parameters → SuffixTree

abbrev pub add_suffix : SuffixTree → t.Suffixes → t.Suffixes
add_suffix (one_array p e) ts = t.array_suffix p e ts
add_suffix (one_function p qs) ts = t.function_suffix p qs ts

abbrev pub suffix_kind : ℕ → xk.SuffixKind → SuffixTree
suffix_kind at (xk.Array' e) = one_array at (maybe_expression_of e)
suffix_kind at (xk.Function' m ps) = one_function at (parameters_of ps)

abbrev pub suffix_tree : Suffix → SuffixTree
suffix_tree s = suffix_kind s.at s.kind

abbrev pub suffixes_tree : {G : Type 0} → Vec Suffix G → t.Suffixes
suffixes_tree items = before add_suffix (map suffix_tree items.items) t.no_suffixes

pub data IsSuffix (T : List Name) : ℕ → SuffixTree → List Word → Type 0 where
  an_array : {p : ℕ} {e : t.MaybeExpression} {u : List Word} → g.IsLength T (suc p) e u → IsSuffix T p (one_array p e) (mark OpenBracket ∷ (u ++ (mark CloseBracket ∷ [])))
  a_function : {p : ℕ} {qs : t.Parameters} {u : List Word} → g.IsParameters T (suc p) qs u → IsSuffix T p (one_function p qs) (mark OpenParen ∷ (u ++ (mark CloseParen ∷ [])))

-- a parameter's specifiers and its declarator
abbrev pub ParameterTree : Type 0
ParameterTree = t.Specifiers × t.MaybeDeclarator

abbrev pub add_parameter : ParameterTree → t.Parameters → t.Parameters
add_parameter q qs = t.more_parameters q.0 q.1 qs

abbrev pub parameter_tree : pm.Parameter → ParameterTree
parameter_tree (pm.Parameter' s d) = (specifiers_of s, maybe_declarator_of d)

abbrev pub parameters_tree : {G : Type 0} → Vec pm.Parameter G → t.Parameters
parameters_tree items = before add_parameter (map parameter_tree items.items) t.no_parameters

abbrev pub Parameter : List Name → Family ParameterTree
Parameter T p q u = g.IsParameter T p q.0 q.1 u

abbrev pub AfterParameter : {A : Type 0} → Ending A
AfterParameter q r = Separated r

abbrev pub maybe_tree : Option dc.Declarator → t.MaybeDeclarator
maybe_tree None = t.no_declarator
maybe_tree (Some d) = t.a_declarator (declarator_of d)

-- [ declarator ] of this form
pub data IsMaybeForm (T : List Name) (f : Form) : ℕ → t.MaybeDeclarator → List Word → Type 0 where
  no_form : {p : ℕ} → IsMaybeForm T f p t.no_declarator []
  a_form : {p : ℕ} {d : t.Declarator} {u : List Word} → IsForm T f p d u → IsMaybeForm T f p (t.a_declarator d) u

-- a specifier of one keyword stands at place i, and the next word at place n
pub record WordAt (words : List Word) (i : ℕ) (x : SpecifierWord) (n : ℕ) : Type 0 where
  pub keyword' : Keyword
  pub is : op.IsSpecifierWord x keyword'
  pub at : IsAt (keyword keyword') words i n

abbrev pub NoWord : List Word → ℕ → Type 0
NoWord words i = (x : SpecifierWord) (k : Keyword) → op.IsSpecifierWord x k → head (drop i words) ≡ Some (keyword k) → ⊥

pub data IsNamed : Option Word → Type 0 where
  is_named : (n : Name) → IsNamed (Some (name n))

-- a suffix begins with this word
pub data BeginsSuffix : Option Word → Type 0 where
  by_bracket : BeginsSuffix (Some (mark OpenBracket))
  by_paren : BeginsSuffix (Some (mark OpenParen))

-- a declarator that may have no name begins with this word
pub data BeginsForm : Form → Option Word → Type 0 where
  by_suffix : {f : Form} {o : Option Word} → BeginsSuffix o → BeginsForm f o
  by_star : {f : Form} → BeginsForm f (Some (mark punctuator.Star))
  by_its_name : {f : Form} {n : Name} → HasName f → BeginsForm f (Some (name n))

-- a declarator whose parentheses aren't kept
abbrev pub joined : ℕ → List ℕ → t.Declarator → t.Suffixes → t.Declarator
joined p ns (t.declarator q ms c ts) us = t.declarator p (ns ++ ms) c (t.append_suffixes ts us)
