-- What begins behind the stars of a declarator.
use Rattle.std.proofs.Common.{◌≡◌, ℕ, List, [], ◌∷◌, sym, refl, ap, ◌∙◌, subst, Bool, true, false, drop}
use Rattle.std.specs.Prelude.{Option, Some, None, IsTrue, ◌↔◌}
use Rattle.im_tok.specs.declared.punctuator.Punctuator.TheVariants.{Star, OpenParen}
use Rattle.im_word.specs.Words.{Name, Word, name, mark}
use Rattle.im_ctree.specs.Grammar as g
use Rattle.im_parse_core.specs.Reads.{head}
use Rattle.im_parse_core.specs.Places.{IsAt}
use Rattle.im_parse_core.specs.declared.stop.Stop.{Stop}
use Rattle.im_parse_core.specs.declared.stop.Stop.TheVariants.{Syntax}
use Rattle.im_parse_expression.specs.declared.form.Form.{Form}
use Rattle.im_parse_expression.specs.declared.form.Form.TheVariants.{Declared, Guarded, Either, Abstract}
use Rattle.im_parse_expression.specs.Declaring.{HasName, MayBeNameless, IsInner, guarded_inner, named_inner, either_inner, abstract_inner, BeginsSuffix, by_bracket, by_paren}
use Rattle.im_parse_expression.specs.Cores.{NoInner, IsNameless, NoCore, IsCoreless, at_once, inside, StopsCore}

some_same : {x y : Word} → Some x ≡ Some y → x ≡ y
some_same e = cc

-- the first word alone says whether a parameter list opens
pub opens_moved : {T : List Name} {m : List Word} (v : List Word) → head v ≡ head m → g.OpensParameters T m → g.OpensParameters T v
opens_moved [] e g.at_close = absurd cc
opens_moved [] e (g.at_typedef_name is) = absurd cc
opens_moved [] e (g.at_word is) = absurd cc
opens_moved [] e g.at_struct = absurd cc
opens_moved [] e g.at_enum = absurd cc
opens_moved {T = T} (x ∷ v) e g.at_close = subst (λ z. g.OpensParameters T (z ∷ v)) (sym (some_same e)) g.at_close
opens_moved {T = T} (x ∷ v) e (g.at_typedef_name is) = subst (λ z. g.OpensParameters T (z ∷ v)) (sym (some_same e)) (g.at_typedef_name is)
opens_moved {T = T} (x ∷ v) e (g.at_word is) = subst (λ z. g.OpensParameters T (z ∷ v)) (sym (some_same e)) (g.at_word is)
opens_moved {T = T} (x ∷ v) e g.at_struct = subst (λ z. g.OpensParameters T (z ∷ v)) (sym (some_same e)) g.at_struct
opens_moved {T = T} (x ∷ v) e g.at_enum = subst (λ z. g.OpensParameters T (z ∷ v)) (sym (some_same e)) g.at_enum

pub opens_unstarred : {T : List Name} {m : List Word} → g.OpensParameters T m → head m ≡ Some (mark Star) → ⊥
opens_unstarred g.at_close e = cc
opens_unstarred (g.at_typedef_name is) e = cc
opens_unstarred (g.at_word is) e = cc
opens_unstarred g.at_struct e = cc
opens_unstarred g.at_enum e = cc

pub either_opened : {T : List Name} {m : List Word} (h : Form) (v : List Word) → g.OpensParameters T m → head v ≡ head m → IsInner T Either h v → ⊥
either_opened h v opens e (named_inner shut other) = shut (opens_moved v e opens)
either_opened h v opens e (either_inner star) = opens_unstarred opens (sym e ∙ star)

pub abstract_unstarred : {T : List Name} (m : List Word) (h : Form) (v : List Word) → (head m ≡ Some (mark Star) → ⊥) → head v ≡ head m → IsInner T Abstract h v → ⊥
abstract_unstarred m h v other e (abstract_inner star) = other (sym e ∙ star)

-- the answers of the function
pub stops_inside : {T : List Name} {f : Form} (unstarred : Bool) {words : List Word} {i k : ℕ} {stop : Stop} → IsAt (mark OpenParen) words i k → (stop ≡ Syntax k) × (f ≡ Guarded) × g.OpensParameters T (drop k words) → StopsCore T f unstarred words i stop
stops_inside {T = T} {f = f} unstarred {words = words} {i = i} {k = k} at h =
    subst (λ z. StopsCore T f unstarred words i z) (sym h.0) (subst (λ z. IsCoreless T z unstarred words i k) (sym h.1) (inside at h.2))

paren_name : {words : List Word} {i k : ℕ} → IsAt (mark OpenParen) words i k → (n : Name) → head (drop i words) ≡ Some (name n) → ⊥
paren_name at n e = let h : Some (mark OpenParen) ≡ Some (name n) = sym (ap head at.here) ∙ e in cc

-- no second place stands behind the parenthesis
same_place : {words : List Word} {x y : Word} {i k l : ℕ} → IsAt x words i k → IsAt y words i l → l ≡ k
same_place at at' = at'.next ∙ sym at.next

pub nameless_inside : {T : List Name} {f : Form} {unstarred : Bool} {words : List Word} {i k : ℕ} → IsAt (mark OpenParen) words i k → MayBeNameless f × NoInner T f words k → IsNameless T f unstarred words i
nameless_inside {T = T} {f = f} {words = words} at h = record {
  form = h.0;
  unnamed = λ has n e. paren_name at n e;
  outer = λ l at'. subst (NoInner T f words) (sym (same_place at at')) h.1;
  begins = λ e. subst BeginsSuffix (sym (ap head at.here)) by_paren;
}

pub nameless_outside : {T : List Name} {f : Form} {unstarred : Bool} {words : List Word} {i : ℕ} → (head (drop i words) ≡ Some (mark OpenParen) → ⊥) → (HasName f → (n : Name) → head (drop i words) ≡ Some (name n) → ⊥) → MayBeNameless f × (unstarred ≡ true → BeginsSuffix (head (drop i words))) → IsNameless T f unstarred words i
nameless_outside paren unnamed h = record {
  form = h.0;
  unnamed = unnamed;
  outer = λ l at. absurd (paren (ap head at.here));
  begins = h.1;
}

bool_true : (b : Bool) → (b ≡ false → ⊥) → b ≡ true
bool_true true other = refl
bool_true false other = absurd (other refl)

pub no_core : {T : List Name} {f : Form} {unstarred : Bool} {words : List Word} {i : ℕ} → (head (drop i words) ≡ Some (mark OpenParen) → ⊥) → (HasName f → (n : Name) → head (drop i words) ≡ Some (name n) → ⊥) → (MayBeNameless f × (unstarred ≡ true → BeginsSuffix (head (drop i words))) → ⊥) → IsCoreless T f unstarred words i i
no_core {unstarred = unstarred} paren unnamed other = at_once (record {
  paren = paren;
  unnamed = unnamed;
  named = λ may. (bool_true unstarred (λ e. other (may, λ h. absurd (let k : false ≡ true = sym e ∙ h in cc))), λ s. other (may, λ h. s));
})
