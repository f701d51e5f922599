-- A first word that is no command has a fault.
use Rattle.std.proofs.Common.{ap, refl, sym, true, false, true≢false, ℕ, zero, suc, Bool, List, [], ◌∷◌, Option, Some, None, ◌≡◌, ◌∙◌, ◌==◌, ◌||◌, codes, cond, drop, length}
use Rattle.std.specs.Prelude.{encode_utf8, option_map, slice_get, slice_index_or}
use Rattle.std.specs.Option.{option_map_or}
use Rattle.std.specs.Str.{bytes_eq, chars}
use Rattle.clap.specs.Kinds.{Kinds, or_else}
use Rattle.clap.specs.Lexer.{long_of, short_of}
use Rattle.clap.specs.Simple.{names_of, new_rule}
use Rattle.clap.specs.Words.{Rule, Text}
use Rattle.clap.specs.Walk.{Held, Walk, after_flag, bundle_met, bundle_step, idle, long_or_other, nothing_held, plain, short_or_plain, subcommand_met, subcommand_or_other, trailing, walk_from, walked}
use Rattle.clap.specs.Faults.{bundle_fault, bundle_step_fault, flag_word_fault, flags_fault, long_fault, other_fault, short_fault, step_fault, turn_fault, walk_fault}
use Rattle.clap.proofs.OnLiterals.{clap_on_literals}
use Rattle.clap.proofs.SimpleLemmas.{is_nil}
use Rattle.im_cmd_words.specs.Named.{is_faultless}
use Rattle.im_cmd_words.proofs.OperandLemmas.{line}
use Rattle.im_cmd_words.proofs.RowLemmas.{has_kind}

or_has : (a b : Kinds) → has_kind a ≡ true → has_kind (or_else a b) ≡ true
or_has [] b h = absurd (true≢false (sym h))
or_has (k ∷ ks) b h = refl

-- the one flag that may stand before the command's name
abbrev help : Rule
help = slice_index_or line.top.rules 0 (new_rule [])

abbrev begun : Walk
begun = walk_from nothing_held

abbrev first_turn : Text → Kinds
first_turn name = turn_fault line.top (names_of line) begun name

long_kind : (is_help : Bool) (v : Option Text) → has_kind (long_fault line.top.rules false (cond (is_help || false) (Some help) None) v nothing_held) ≡ true
long_kind true None = refl
long_kind true (Some v) = refl
long_kind false v = refl

short_kind : (is_help : Bool) (rest : Text) (goes : Held → Kinds) → has_kind (short_fault line.top.rules false (cond (is_help || false) (Some help) None) rest nothing_held goes) ≡ true
short_kind true rest goes = refl
short_kind false rest goes = refl

bundle_kind : (n : ℕ) (flags name : Text) → has_kind (or_else (flags_fault line.top.rules false n flags 0 nothing_held)
    (step_fault line.top 1 (after_flag line.top.rules idle name (bundle_met line.top.rules n flags 0 plain nothing_held).0 (bundle_met line.top.rules n flags 0 plain nothing_held).1).0
    (after_flag line.top.rules idle name (bundle_met line.top.rules n flags 0 plain nothing_held).0 (bundle_met line.top.rules n flags 0 plain nothing_held).1).1)) ≡ true
unfolding flags_fault bundle_met
bundle_kind zero flags name = refl
bundle_kind (suc k) flags name = go (slice_get (chars flags) 0)
  where
    go : (o : Option ℕ) → has_kind (or_else (bundle_step_fault line.top.rules false o flags 0 nothing_held (flags_fault line.top.rules false k))
        (step_fault line.top 1 (after_flag line.top.rules idle name (bundle_step line.top.rules o flags 0 plain nothing_held (bundle_met line.top.rules k)).0 (bundle_step line.top.rules o flags 0 plain nothing_held (bundle_met line.top.rules k)).1).0
        (after_flag line.top.rules idle name (bundle_step line.top.rules o flags 0 plain nothing_held (bundle_met line.top.rules k)).0 (bundle_step line.top.rules o flags 0 plain nothing_held (bundle_met line.top.rules k)).1).1)) ≡ true
    go None = refl
    go (Some x) = or_has _ _ (short_kind (104 == x) (drop (length (encode_utf8 x)) flags) (flags_fault line.top.rules false k (drop (length (encode_utf8 x)) flags) 0))

short_word_kind : (o : Option Text) (name : Text) → has_kind (or_else (option_map_or (λ flags. bundle_fault line.top.rules false flags nothing_held) o [])
    (step_fault line.top 1 (short_or_plain line.top.rules idle name o nothing_held).0 (short_or_plain line.top.rules idle name o nothing_held).1)) ≡ true
short_word_kind None name = refl
short_word_kind (Some flags) name = bundle_kind (length flags) flags name

flag_word_kind : (o : Option (Text × Option Text)) (name : Text) → has_kind (or_else (flag_word_fault line.top.rules false o name nothing_held)
    (step_fault line.top 1 (long_or_other line.top.rules idle name o nothing_held).0 (long_or_other line.top.rules idle name o nothing_held).1)) ≡ true
flag_word_kind (Some p) name = or_has _ _ (long_kind (bytes_eq (codes "help") p.0) p.1)
flag_word_kind None name = short_word_kind (short_of name) name

pub stray_kind : (name : Text) → subcommand_met (names_of line) idle name ≡ None → bytes_eq name (45 ∷ 45 ∷ []) ≡ false → has_kind (first_turn name) ≡ true
stray_kind name none dashes =
    ap (λ (o : Option Text). has_kind (or_else (other_fault line.top o name nothing_held)
    (step_fault line.top 1 (subcommand_or_other line.top.rules o idle 1 name nothing_held).0 (subcommand_or_other line.top.rules o idle 1 name nothing_held).1))) none
    ∙ ap (λ (b : Bool). has_kind (or_else (cond b [] (flag_word_fault line.top.rules false (long_of name) name nothing_held))
    (step_fault line.top 1 (cond b (nothing_held, trailing 1) (long_or_other line.top.rules idle name (long_of name) nothing_held)).0
    (cond b (nothing_held, trailing 1) (long_or_other line.top.rules idle name (long_of name) nothing_held)).1))) dashes
    ∙ flag_word_kind (long_of name) name

-- a fault of the first word is one of the table's
pub first_refused : (program name : Text) (rest : List Text) → has_kind (first_turn name) ≡ true → is_faultless (program ∷ name ∷ rest) ≡ true → ⊥
unfolding walk_fault
first_refused program name rest kind faultless =
    true≢false (sym (or_has (or_else (first_turn name) (walk_fault line.top (names_of line) (walked line.top.rules (names_of line) begun name) rest)) _ (or_has (first_turn name) _ kind))
    ∙ ap has_kind (is_nil _ faultless))

pub help_refused : (program : Text) (rest : List Text) → is_faultless (program ∷ codes "help" ∷ rest) ≡ true → ⊥
unfolding clap_on_literals
help_refused program rest e = first_refused program (codes "help") rest refl e

pub dashes_refused : (program : Text) (rest : List Text) → is_faultless (program ∷ codes "--" ∷ rest) ≡ true → ⊥
unfolding clap_on_literals
dashes_refused program [] e = true≢false (sym e)
dashes_refused program (x ∷ rest) e = true≢false (sym e)

pub nothing_refused : is_faultless [] ≡ true → ⊥
unfolding clap_on_literals
nothing_refused e = true≢false (sym e)

pub name_refused : (program : Text) → is_faultless (program ∷ []) ≡ true → ⊥
unfolding clap_on_literals
name_refused program e = true≢false (sym e)

abbrev label : ℕ → Text × List Text
label k = slice_index_or (names_of line) k ([], [])

pub no_command : (name : Text) → bytes_eq (codes "build") name ≡ false → bytes_eq (codes "run") name ≡ false → bytes_eq (codes "exec") name ≡ false
    → bytes_eq (codes "dump") name ≡ false → bytes_eq (codes "upgrade") name ≡ false → bytes_eq (codes "report") name ≡ false → bytes_eq (codes "eval") name ≡ false → bytes_eq (codes "gen") name ≡ false → bytes_eq (codes "check") name ≡ false → bytes_eq (codes "help") name ≡ false → subcommand_met (names_of line) idle name ≡ None
no_command name b r x d u p v g k h = λ i. option_map (λ s. s.0) (cond (b i || false) (Some (label 0)) (cond (r i || false) (Some (label 1))
    (cond (x i || false) (Some (label 2)) (cond (d i || false) (Some (label 3)) (cond (u i || false) (Some (label 4)) (cond (p i || false) (Some (label 5)) (cond (v i || false) (Some (label 6)) (cond (g i || false) (Some (label 7)) (cond (k i || false) (Some (label 8)) (cond (h i || false) (Some (label 9)) None))))))))))
