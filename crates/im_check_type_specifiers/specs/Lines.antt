-- Type words by how often each of them stands among specifiers.
use Rattle.std.specs.Prelude.{◌≡◌, Bool, ◌&&◌, List, [], ◌∷◌, Option, Some, None, nat_eq, if◌then◌else◌}
use Rattle.im_ctree.specs.declared.specifier.SpecifierWord.{SpecifierWord}
use Rattle.im_ctype.specs.Types.{CType, void, integer}
use Rattle.im_check_scopes.specs.im_rules.Rules.{count_word}
use Rattle.im_check_type_specifiers.specs.declared.line.Counts.{Counts}
use Rattle.im_check_type_specifiers.specs.declared.line.Line.{Line}
use Rattle.im_check_type_specifiers.specs.declared.line.WordType.{WordType}
use Rattle.im_check_type_specifiers.specs.declared.line.WordType.TheVariants as w

abbrev pub word_type_of : WordType → CType
word_type_of w.Void = void
word_type_of (w.Integer i) = integer i

-- these words stand so often
pub record IsCounted (n : Counts) (ks : List SpecifierWord) : Type 0 where
  pub void : count_word 1 ks ≡ n.void
  pub char : count_word 2 ks ≡ n.char
  pub short : count_word 3 ks ≡ n.short
  pub int : count_word 4 ks ≡ n.int
  pub long : count_word 5 ks ≡ n.long
  pub signed : count_word 6 ks ≡ n.signed
  pub unsigned : count_word 7 ks ≡ n.unsigned

abbrev pub same_counts : Counts → Counts → Bool
same_counts m n =
    nat_eq m.void n.void && (nat_eq m.char n.char && (nat_eq m.short n.short && (nat_eq m.int n.int && (nat_eq m.long n.long && (nat_eq m.signed n.signed && nat_eq m.unsigned n.unsigned)))))

-- the type of the first of these lines that has such counts
abbrev pub typed_by : List Line → Counts → Option CType
typed_by [] n = None
typed_by (l ∷ ls) n = if same_counts l.counts n then Some (word_type_of l.ty) else typed_by ls n
