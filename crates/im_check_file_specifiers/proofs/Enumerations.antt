-- Enums with their lists.
use Rattle.std.proofs.Common.{◌≡◌, ℕ, pos, List, ◌∷◌, Option, sym, subst}
use Rattle.im_check_expressions.specs.im_word.Words.{Name}
use Rattle.im_ctree.specs.Tree as t
use Rattle.im_ctree.specs.declared.specifier.SpecifierWord.{SpecifierWord}
use Rattle.im_rules.specs.Demands.{Meets}
use Rattle.im_rules.specs.FileScope.{FilePlace, enum_asks, with_enum_tag}
use Rattle.im_rules.specs.TypedUnit.{NamesType, an_enum, AreEnumerators}
use Rattle.im_rules.specs.UnitBreaks.{FileBroken, here_in_file, within_file, at_enum, enum_constants, some_named, some_enumerators}
use Rattle.im_rules_limits.specs.Limits.{size_in_file_part, IsFileWithin}
use Rattle.im_check_stop.specs.declared.stop.Stop.{Stop}
use Rattle.im_check_stop.specs.declared.stop.Stop.TheVariants.{Rule, Large, Memory}
use Rattle.im_check_stop.specs.Answers.{IsRefusal}
use Rattle.im_check_file_specifiers.specs.Answers.{IsFileFault}
use Rattle.im_check_file_specifiers.specs.Lists.{enum_type}
use Rattle.im_check_file_specifiers.proofs.Within.{enum_within}

pub enum_refused : (f : FilePlace) (at first : ℕ) (x : Option Name) (es : t.Enumerators) (ss : List t.Specifier) (stop : Stop) → IsRefusal (enum_asks f.context.scopes x) at stop
    → IsFileFault f (some_named first (t.enum_specifier at x es ∷ ss)) stop
enum_refused f at first x es ss (Rule rule token) r = subst (λ z. FileBroken f (some_named first (t.enum_specifier at x es ∷ ss)) rule z) (sym r.1) (here_in_file (at_enum r.0))
enum_refused f at first x es ss (Large bytes) r = absurd r
enum_refused f at first x es ss Memory r = tt

pub enum_inside : (f : FilePlace) (at first : ℕ) (x : Option Name) (es : t.Enumerators) (ss : List t.Specifier) (stop : Stop) → IsFileFault f (some_enumerators (pos 0) es) stop
    → IsFileFault f (some_named first (t.enum_specifier at x es ∷ ss)) stop
enum_inside f at first x es ss (Rule rule token) h = within_file enum_constants h
enum_inside f at first x es ss (Large bytes) h = (size_in_file_part enum_constants h.0, h.1)
enum_inside f at first x es ss Memory h = tt

pub enum_done : (f g h : FilePlace) (at first : ℕ) (x : Option Name) (es : t.Enumerators) (ss : List t.Specifier) (ks : List SpecifierWord)
    → Meets (enum_asks f.context.scopes x)
    → AreEnumerators f (pos 0) es g × IsFileWithin f (some_enumerators (pos 0) es)
    → h ≡ with_enum_tag x g
    → NamesType f (t.enum_specifier at x es ∷ ss) ks enum_type h × IsFileWithin f (some_named first (t.enum_specifier at x es ∷ ss))
enum_done f g h at first x es ss ks meets d place =
    (subst (λ z. NamesType f (t.enum_specifier at x es ∷ ss) ks enum_type z) (sym place) (an_enum meets d.0), enum_within f first at x es ss d.1)
