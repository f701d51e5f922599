-- How a declarator goes on behind its stars, for private contracts.
use Rattle.std.specs.Prelude.{ℕ, suc, ◌≡◌, Bool, true, List, drop, Result, MatchResult, Option, Some, None, MatchOption}
use Rattle.im_tok.specs.declared.punctuator.Punctuator.TheVariants.{OpenParen}
use Rattle.im_word.specs.Words.{Name, Word, name, mark}
use Rattle.im_ctree.specs.Grammar.{OpensParameters}
use Rattle.im_parse_core.specs.Reads.{head}
use Rattle.im_parse_core.specs.Places.{IsAt}
use Rattle.im_parse_core.specs.declared.stop.Stop.{Stop}
use Rattle.im_parse_core.specs.declared.stop.Stop.TheVariants.{Syntax, Memory}
use Rattle.im_parse_expression.specs.declared.form.Form.{Form}
use Rattle.im_parse_expression.specs.declared.form.Form.TheVariants.{Guarded}
use Rattle.im_parse_expression.specs.declared.core_start.CoreStart.{CoreStart}
use Rattle.im_parse_expression.specs.declared.core_start.CoreStart.TheVariants as c
use Rattle.im_parse_expression.specs.Declaring.{HasName, MayBeNameless, IsInner, BeginsSuffix}

-- no declarator stands in parentheses that open before place k
abbrev pub NoInner : List Name → Form → List Word → ℕ → Type 0
NoInner T f words k = (h : Form) (v : List Word) → head v ≡ head (drop k words) → IsInner T f h v → ⊥

-- what a parenthesis before place k begins
abbrev pub IsInnerAt : List Name → Form → List Word → ℕ → Result (Option Form) Stop → Type 0
IsInnerAt T f words k result = MatchResult result
    (λ found. MatchOption found (MayBeNameless f × NoInner T f words k) (λ h. IsInner T f h (drop k words)))
    (λ stop. (stop ≡ Syntax k) × (f ≡ Guarded) × OpensParameters T (drop k words))

-- what stands there is no core: a suffix, or nothing behind stars
pub record IsNameless (T : List Name) (f : Form) (unstarred : Bool) (words : List Word) (i : ℕ) : Type 0 where
  pub form : MayBeNameless f
  pub unnamed : HasName f → (n : Name) → head (drop i words) ≡ Some (name n) → ⊥
  pub outer : (k : ℕ) → IsAt (mark OpenParen) words i k → NoInner T f words k
  pub begins : unstarred ≡ true → BeginsSuffix (head (drop i words))

abbrev pub IsCore : List Name → Form → Bool → List Word → ℕ → CoreStart → Type 0
IsCore T f unstarred words i (c.Name n k) = HasName f × IsAt (name n.now) words i k
IsCore T f unstarred words i (c.Inner h k) = IsAt (mark OpenParen) words i k × IsInner T f h (drop k words)
IsCore T f unstarred words i c.Nothing = IsNameless T f unstarred words i

-- nothing of a declarator begins at place i
pub record NoCore (f : Form) (unstarred : Bool) (words : List Word) (i : ℕ) : Type 0 where
  pub paren : head (drop i words) ≡ Some (mark OpenParen) → ⊥
  pub unnamed : HasName f → (n : Name) → head (drop i words) ≡ Some (name n) → ⊥
  pub named : MayBeNameless f → (unstarred ≡ true) × (BeginsSuffix (head (drop i words)) → ⊥)

-- why there is no core
pub data IsCoreless (T : List Name) : Form → Bool → List Word → ℕ → ℕ → Type 0 where
  at_once : {f : Form} {unstarred : Bool} {words : List Word} {i : ℕ} → NoCore f unstarred words i → IsCoreless T f unstarred words i i
  inside : {unstarred : Bool} {words : List Word} {i k : ℕ} → IsAt (mark OpenParen) words i k → OpensParameters T (drop k words) → IsCoreless T Guarded unstarred words i k

abbrev pub StopsCore : List Name → Form → Bool → List Word → ℕ → Stop → Type 0
StopsCore T f unstarred words i (Syntax k) = IsCoreless T f unstarred words i k
StopsCore T f unstarred words i Memory = Unit {0}

abbrev pub IsCoreAt : List Name → Form → Bool → List Word → ℕ → Result CoreStart Stop → Type 0
IsCoreAt T f unstarred words i result = MatchResult result (IsCore T f unstarred words i) (StopsCore T f unstarred words i)
