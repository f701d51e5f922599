-- What the table's matches say of the command that the words name.
use Rattle.std.proofs.Common.{ap, refl, sym, true, false, inl, inr, ℕ, suc, Bool, arith, length, List, Option, Some, None, [], ◌∷◌, ◌≡◌, ◌≢◌, ◌∙◌}
use Rattle.std.specs.Prelude.{◌==◌, if◌then◌else◌}
use Rattle.std.proofs.lemmas.Bool.Decides.{nat_tests}
use Rattle.clap.specs.Kinds.{HasKind, Kinds}
use Rattle.clap.specs.Values.{kind_of}
use Rattle.clap.specs.declared.error.Error.{Error}
use Rattle.clap.specs.declared.error.kind.ErrorKind.TheVariants as kind
use Rattle.clap.specs.Words.{App, Row, Text, fault_of, is_simple, is_simple_and_free, subcommand_of}
use Rattle.clap.specs.Walk.{is_empty}
use Rattle.clap.proofs.OnLiterals.{clap_on_literals}
use Rattle.im_cmd_words.specs.Table.{command_line}
use Rattle.im_cmd_words.specs.Named.{Asked, asked, is_faultless, named}

pub is_simple_line : is_simple command_line ≡ true
unfolding clap_on_literals
is_simple_line = refl

pub is_free_line : is_simple_and_free command_line ≡ true
unfolding clap_on_literals
is_free_line = refl

-- where clap finds no fault in the words, they name what its matches ask for
pub named_where_faultless : (table : App) → table ≡ command_line → (words : List Text) (found : Option (Text × List Row)) (what : Asked)
    → fault_of table words ≡ [] → found ≡ subcommand_of table words → asked found ≡ Some what → named words ≡ Some what
named_where_faultless table table_is words found what fault found_is asks =
    let faultless : is_faultless words ≡ true = ap is_empty (ap (λ (a : App). fault_of a words) (sym table_is) ∙ fault) in
    let same : found ≡ subcommand_of command_line words = found_is ∙ ap (λ (a : App). subcommand_of a words) table_is in
    rw (faultless, ← same) asks

-- where clap's matches ask for nothing, the words name nothing
pub none_where_unasked : (table : App) → table ≡ command_line → (words : List Text) (found : Option (Text × List Row)) → found ≡ subcommand_of table words → asked found ≡ None → named words ≡ None
none_where_unasked table table_is words found found_is asks = go (is_faultless words)
  where
    same : found ≡ subcommand_of command_line words
    same = found_is ∙ ap (λ (a : App). subcommand_of a words) table_is

    go : (b : Bool) → (if b then asked (subcommand_of command_line words) else None) ≡ None
    go true = ap asked (sym same) ∙ asks
    go false = refl

not_zero : (n : ℕ) → (suc n == 0) ≡ false
not_zero n = grind (arith, nat_tests)

some_fault : (kinds : Kinds) (error : Error) → HasKind kinds error → kind_of error ≢ kind.OutOfMemory → is_empty kinds ≡ false
some_fault [] error (inl starved) other = absurd (other starved)
some_fault [] error (inr among) other = absurd among
some_fault (first ∷ kinds) error has other = not_zero (length kinds)

-- where clap's fault isn't want of memory, the words name nothing
pub none_where_faulty : (table : App) → table ≡ command_line → (words : List Text) (error : Error) → HasKind (fault_of table words) error → kind_of error ≢ kind.OutOfMemory → named words ≡ None
none_where_faulty table table_is words error has other =
    let faulty : is_faultless words ≡ false = ap is_empty (ap (λ (a : App). fault_of a words) (sym table_is)) ∙ some_fault (fault_of table words) error has other in
    rw faulty refl
