-- What the next word says of specifiers and declarators.
use Rattle.std.proofs.Common.{◌≡◌, ℕ, List, [], ◌∷◌, sym, refl, ap, ◌∙◌, subst, Bool, true, false, inl, inr}
use Rattle.std.specs.Prelude.{Option, Some, None, IsTrue, ◌↔◌, ◌⊎◌}
use Rattle.std.specs.List.{Contains}
use Rattle.im_tok.specs.declared.keyword.Keyword.{Keyword}
use Rattle.im_tok.specs.declared.keyword.Keyword.TheVariants as key
use Rattle.im_tok.specs.declared.punctuator.Punctuator.{Punctuator}
use Rattle.im_tok.specs.declared.punctuator.Punctuator.TheVariants.{CloseParen, OpenParen, OpenBracket, Star}
use Rattle.im_word.specs.Words.{Name, Word, name, keyword, mark}
use Rattle.im_ctree.specs.Grammar as g
use Rattle.im_ctree.specs.Follow.{keyword_specifier, StartsSpecifier, at_typedef, at_word, at_struct, at_enum}
use Rattle.im_ctree.proofs.Behind.{word_goes}
use Rattle.im_parse_core.specs.Reads.{head}
use Rattle.im_parse_expression.specs.declared.form.Form.{Form}
use Rattle.im_parse_expression.specs.declared.form.Form.TheVariants.{Declared, Guarded, Either, Abstract}
use Rattle.im_parse_expression.specs.Parsing.{BeginsSpecifiers}
use Rattle.im_parse_expression.specs.Parsing as b
use Rattle.im_parse_expression.specs.Declaring.{MayBeNameless, GoesOn, by_keyword, by_name, IsNamed, is_named, BeginsSuffix, by_bracket, by_paren, BeginsForm, by_suffix, by_star, by_its_name, HasName, declared, guarded, either}
use Rattle.im_parse_expression.proofs.BinaryLines.{starts_of}

pub yes : {P : Type 0} → P → IsTrue true ↔ P
yes p = (λ h. p, λ h. refl)

pub no : {P : Type 0} → (P → ⊥) → IsTrue false ↔ P
no other = (λ h. absurd (let e : false ≡ true = h in cc), λ p. absurd (other p))

pub isnt_so : {P : Type 0} {b : Bool} → IsTrue b ↔ P → b ≡ false → P → ⊥
isnt_so both e p = let h : false ≡ true = sym e ∙ both.1 p in cc

pub same_as : {P Q : Type 0} {b : Bool} → IsTrue b ↔ P → (P → Q) → (Q → P) → IsTrue b ↔ Q
same_as both f g' = (λ h. f (both.0 h), λ q. both.1 (g' q))

-- specifiers that go on, with no type before them and with one
pub goes_untyped : {T : List Name} {a : Bool} {o : Option Word} → a ≡ false → BeginsSpecifiers T o → GoesOn T a o
goes_untyped e (b.by_keyword k) = by_keyword k
goes_untyped {T = T} e (b.by_name {n = n} is) = subst (λ z. GoesOn T z (Some (name n))) (sym e) (by_name is)

pub goes_begins : {T : List Name} {a : Bool} {o : Option Word} → GoesOn T a o → BeginsSpecifiers T o
goes_begins (by_keyword k) = b.by_keyword k
goes_begins (by_name is) = b.by_name is

pub goes_typed : {T : List Name} {a : Bool} {o : Option Word} → (IsNamed o → ⊥) → BeginsSpecifiers T o → GoesOn T a o
goes_typed other (b.by_keyword k) = by_keyword k
goes_typed other (b.by_name {n = n} is) = absurd (other (is_named n))

pub named_goes : {T : List Name} {a : Bool} {o : Option Word} → a ≡ true → IsNamed o → GoesOn T a o → ⊥
named_goes e (is_named n) (by_name is) = let h : false ≡ true = e in cc

-- what opens a parameter list
opens_word : {T : List Name} {x : Word} {v : List Word} → StartsSpecifier T x → g.OpensParameters T (x ∷ v)
opens_word (at_typedef is) = g.at_typedef_name is
opens_word (at_word is) = g.at_word is
opens_word at_struct = g.at_struct
opens_word at_enum = g.at_enum

pub opens_begins : {T : List Name} (m : List Word) → BeginsSpecifiers T (head m) → g.OpensParameters T m
opens_begins [] h = elim h [ ]
opens_begins (x ∷ v) h = opens_word (starts_of h)

pub opens_close : {T : List Name} (m : List Word) → head m ≡ Some (mark CloseParen) → g.OpensParameters T m
opens_close [] e = absurd (let h : None ≡ Some (mark CloseParen) = e in cc)
opens_close {T = T} (x ∷ v) e = let h : Some x ≡ Some (mark CloseParen) = e in let k : x ≡ mark CloseParen = cc in subst (λ z. g.OpensParameters T (z ∷ v)) (sym k) g.at_close

pub begins_opened : {T : List Name} {m : List Word} → g.OpensParameters T m → (head m ≡ Some (mark CloseParen) → ⊥) → BeginsSpecifiers T (head m)
begins_opened g.at_close other = absurd (other refl)
begins_opened (g.at_typedef_name is) other = b.by_name is
begins_opened (g.at_word is) other = b.by_keyword (word_goes is)
begins_opened g.at_struct other = b.by_keyword refl
begins_opened g.at_enum other = b.by_keyword refl

-- suffixes
pub suffix_paren : {o : Option Word} → (o ≡ Some (mark OpenBracket) → ⊥) → BeginsSuffix o → o ≡ Some (mark OpenParen)
suffix_paren other by_bracket = absurd (other refl)
suffix_paren other by_paren = refl

pub bracket_suffix : {o : Option Word} → o ≡ Some (mark OpenBracket) → BeginsSuffix o
bracket_suffix e = subst BeginsSuffix (sym e) by_bracket

pub paren_suffix : {o : Option Word} → o ≡ Some (mark OpenParen) → BeginsSuffix o
paren_suffix e = subst BeginsSuffix (sym e) by_paren

-- forms
pub form_star : {f : Form} {o : Option Word} → o ≡ Some (mark Star) → BeginsForm f o
form_star {f = f} e = subst (BeginsForm f) (sym e) by_star

pub form_name : {f : Form} {o : Option Word} → HasName f → IsNamed o → BeginsForm f o
form_name h (is_named n) = by_its_name h

pub form_only : {f : Form} {o : Option Word} → (BeginsSuffix o → ⊥) → (o ≡ Some (mark Star) → ⊥) → BeginsForm f o → IsNamed o × HasName f
form_only no_suffix no_star (by_suffix s) = absurd (no_suffix s)
form_only no_suffix no_star by_star = absurd (no_star refl)
form_only no_suffix no_star (by_its_name {n = n} h) = (is_named n, h)

pub unnamed : {o : Option Word} → ((n : Name) → o ≡ Some (name n) → ⊥) → IsNamed o → ⊥
unnamed other (is_named n) = other n refl

pub abstract_unnamed : HasName Abstract → ⊥
abstract_unnamed h = elim h [ ]

pub declared_named : MayBeNameless Declared → ⊥
declared_named h = elim h [ ]

pub guarded_named : MayBeNameless Guarded → ⊥
guarded_named h = elim h [ ]
