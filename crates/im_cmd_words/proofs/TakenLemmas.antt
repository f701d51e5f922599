-- Words in which clap finds no fault name a command.
use Rattle.std.proofs.Common.{ap, ap₂, arith, refl, sym, subst, ◌⊎◌, inl, inr, true, false, not, ℕ, pos, Bool, List, [], ◌∷◌, Option, Some, None, ◌≡◌, ◌∙◌, ◌&&◌, ◌||◌, ◌^◌, ◌<◌, codes, cond, drop, take, is_some, length, nat_lt, ◌≤◌}
use Rattle.std.specs.Prelude.{if◌then◌else◌, IfSome, option_and_then, option_map, slice_index_or}
use Rattle.std.specs.List.{list_all}
use Rattle.std.specs.Str.{bytes_eq}
use Rattle.std.specs.Str.Parse.{digits_value}
use Rattle.std.proofs.lemmas.Slice.Eq.{bytes_eq-Decides}
use Rattle.std.proofs.lemmas.Bool.{le-ltb, leb-true, lt-ltb}
use Rattle.clap.specs.Kinds.{Kinds, range_kinds}
use Rattle.clap.specs.Words.{Row, Rule, Shape, Text, fault_of, first_of, subcommand_of}
use Rattle.clap.specs.Walk.{is_empty, nothing_held, rows_after, settled, walk, walk_from}
use Rattle.clap.specs.Faults.{check_fault, defaults_fault, level_fault, repeat_fault, settle_fault, use_fault, walk_fault}
use Rattle.clap.specs.Simple.{new_rule}
use Rattle.clap.specs.ValueTests.{is_signed_in}
use Rattle.clap.specs.declared.builder.value_parser.ValueParser.TheVariants.{Signed}
use Rattle.clap.specs.declared.error.kind.ErrorKind.TheVariants.{MissingRequiredArgument}
use Rattle.clap.proofs.SimpleLemmas.{is_nil}
use Rattle.im_cmd_words.specs.Table.{command_line}
use Rattle.clap.proofs.WalkLemmas.{both}
use Rattle.im_cmd_words.specs.Numbers.{is_numeral, number_between, optional_between, plain_number, starts_plainly, within}
use Rattle.im_cmd_words.specs.declared.command.BuildOptions.{BuildOptions}
use Rattle.im_cmd_words.specs.Named.{Asked, build_asked, building_asked, builds, check_asked, checks, dump_asked, dumps, eval_asked, evaluates, exec_asked, executes, gen_asked, generates, is_faultless, IsPlain, is_set, named, number_asked, report_asked, reports, run_asked, runs, text_found, upgrade_asked, upgrades}
use Rattle.im_cmd_words.proofs.OperandLemmas.{asked_of, build_fault, build_found, build_named, check_named, check_word_fault, check_word_found, command_shape, dump_fault, dump_found, dump_named, eval_fault, eval_found, eval_named, exec_fault, exec_found, exec_named, gen_fault, gen_found, gen_named, report_fault, report_found, report_named, run_fault, run_found, run_named, upgrade_fault, upgrade_found, upgrade_named}
use Rattle.im_cmd_words.proofs.FirstWordLemmas.{dashes_refused, first_refused, help_refused, name_refused, no_command, nothing_refused, stray_kind}
use Rattle.im_cmd_words.proofs.OptionLemmas.{first_apart, reads}
use Rattle.im_cmd_words.proofs.RowLemmas.{AllGood, AllSound, Fits, Holds, Sets, Sound, defaults_give, first_good, fits, optional_good, given_holds, kinds_accept, level_good, no_kind, none_first, none_then, set_sound, text_fit, is_number}

-- ---- numbers

-- a text that begins plainly, and that clap's parser takes between these bounds
pub record IsRead (least most : ℕ) (text : Text) : Type 0 where
  pub number : plain_number text ≡ Some (digits_value 10 text)
  pub above : least ≤ digits_value 10 text
  pub under : digits_value 10 text ≤ most

number_read : (least most : ℕ) (text : Text) → most < 2 ^ 32 → is_signed_in (pos least) (pos most) text ≡ true → starts_plainly text ≡ true → IsRead least most text
number_read least most text small fit plain =
    let read : reads least most text false false ≡ true =
    sym (ap₂ (reads least most text) (first_apart text 45 plain (omega arith)) (first_apart text 43 plain (omega arith))) ∙ fit in
    let parts = both (is_numeral text) _ read in
    let bounds = both _ _ (both _ _ parts.1).1 in
    let low : least ≤ digits_value 10 text = leb-true least (digits_value 10 text) bounds.0 in
    let high : digits_value 10 text ≤ most = leb-true (digits_value 10 text) most bounds.1 in
    let below : nat_lt (digits_value 10 text) (2 ^ 32) ≡ true = lt-ltb _ _ (omega (arith, high, small)) in
    record { number = (λ i. cond (plain i && (parts.0 i && below i)) (Some (digits_value 10 text)) None); above = low; under = high }

between_read : (least most : ℕ) (text : Text) → IsRead least most text → number_between least most text ≡ Some (digits_value 10 text)
between_read least most text read =
    let low : nat_lt (digits_value 10 text) least ≡ false = le-ltb _ _ read.above in
    let high : nat_lt most (digits_value 10 text) ≡ false = le-ltb _ _ read.under in
    ap (option_and_then (within least most)) read.number ∙ (λ i. if low i || high i then None else Some (digits_value 10 text))

-- ---- the arguments of the table

abbrev one_value_sets : Rule → Type 0
one_value_sets a = (again : Bool) (rows : List Row) → use_fault again a [] rows ≡ [] → ⊥

text_sound : (a : Rule) → Sets a → is_number a.id ≡ false → one_value_sets a → Sound a
text_sound a sets other one = set_sound a sets (text_fit a other (λ again rows e. absurd (one again rows e)))

number_fit : (a : Rule) (name : Text) → a.id ≡ name → one_value_sets a
    → ((again : Bool) (v : Text) (vs : List Text) (rows : List Row) → use_fault again a (v ∷ vs) rows ≡ [] → list_all (fits name) (v ∷ vs) ≡ true) → Fits a
number_fit a name named one tested again [] rows e = absurd (one again rows e)
number_fit a name named one tested again (v ∷ vs) rows e = ap (λ id. list_all (fits id) (v ∷ vs)) named ∙ tested again v vs rows e

abbrev rule_at : ℕ → ℕ → Rule
rule_at shape k = slice_index_or (command_shape shape).rules k (new_rule [])

build_sound : AllSound (command_shape 0).rules
build_sound = (
  text_sound (rule_at 0 0) (λ values rows. refl) refl (λ again rows e. no_kind _ _ e),
  refl,
  (
    text_sound (rule_at 0 1) (λ values rows. refl) refl (λ again rows e. no_kind _ _ e),
    refl,
    (
      set_sound (rule_at 0 2) (λ values rows. refl) (number_fit (rule_at 0 2) (codes "stack") refl (λ again rows e. no_kind _ _ e)
          (λ again v vs rows e. kinds_accept false (Signed (pos 256) (pos 1048576)) (v ∷ vs) (none_then (repeat_fault again (codes "stack") rows) _ (none_then (range_kinds 1 1 (length (v ∷ vs))) _ e)))),
      refl,
      (
        set_sound (rule_at 0 3) (λ values rows. refl) (number_fit (rule_at 0 3) (codes "out-cap") refl (λ again rows e. no_kind _ _ e)
            (λ again v vs rows e. kinds_accept false (Signed (pos 0) (pos 1048576)) (v ∷ vs) (none_then (repeat_fault again (codes "out-cap") rows) _ (none_then (range_kinds 1 1 (length (v ∷ vs))) _ e)))),
        refl,
        (
          set_sound (rule_at 0 4) (λ values rows. refl) (number_fit (rule_at 0 4) (codes "max-gap") refl (λ again rows e. no_kind _ _ e)
              (λ again v vs rows e. kinds_accept false (Signed (pos 160) (pos 1000000)) (v ∷ vs) (none_then (repeat_fault again (codes "max-gap") rows) _ (none_then (range_kinds 1 1 (length (v ∷ vs))) _ e)))),
          refl,
          (λ again values rows e g. g, refl, tt),
        ),
      ),
    ),
  ),
)

run_sound : AllSound (command_shape 1).rules
run_sound = (
  text_sound (rule_at 1 0) (λ values rows. refl) refl (λ again rows e. no_kind _ _ e),
  refl,
  (
    text_sound (rule_at 1 1) (λ values rows. refl) refl (λ again rows e. no_kind _ _ e),
    refl,
    (
      set_sound (rule_at 1 2) (λ values rows. refl) (number_fit (rule_at 1 2) (codes "stack") refl (λ again rows e. no_kind _ _ e)
          (λ again v vs rows e. kinds_accept false (Signed (pos 256) (pos 1048576)) (v ∷ vs) (none_then (repeat_fault again (codes "stack") rows) _ (none_then (range_kinds 1 1 (length (v ∷ vs))) _ e)))),
      refl,
      (
        set_sound (rule_at 1 3) (λ values rows. refl) (number_fit (rule_at 1 3) (codes "out-cap") refl (λ again rows e. no_kind _ _ e)
            (λ again v vs rows e. kinds_accept false (Signed (pos 0) (pos 1048576)) (v ∷ vs) (none_then (repeat_fault again (codes "out-cap") rows) _ (none_then (range_kinds 1 1 (length (v ∷ vs))) _ e)))),
        refl,
        (
          set_sound (rule_at 1 4) (λ values rows. refl) (number_fit (rule_at 1 4) (codes "max-gap") refl (λ again rows e. no_kind _ _ e)
              (λ again v vs rows e. kinds_accept false (Signed (pos 160) (pos 1000000)) (v ∷ vs) (none_then (repeat_fault again (codes "max-gap") rows) _ (none_then (range_kinds 1 1 (length (v ∷ vs))) _ e)))),
          refl,
          (
            text_sound (rule_at 1 5) (λ values rows. refl) refl (λ again rows e. no_kind _ _ e),
            refl,
            (
              text_sound (rule_at 1 6) (λ values rows. refl) refl (λ again rows e. no_kind _ _ e),
              refl,
              (
                set_sound (rule_at 1 7) (λ values rows. refl) (number_fit (rule_at 1 7) (codes "steps") refl (λ again rows e. no_kind _ _ e)
                    (λ again v vs rows e. kinds_accept false (Signed (pos 0) (pos 4294967295)) (v ∷ vs) (none_then (repeat_fault again (codes "steps") rows) _ (none_then (range_kinds 1 1 (length (v ∷ vs))) _ e)))),
                refl,
                (
                  set_sound (rule_at 1 8) (λ values rows. refl) (text_fit (rule_at 1 8) refl (λ again rows e. refl)),
                  refl,
                  (text_sound (rule_at 1 9) (λ values rows. refl) refl (λ again rows e. no_kind _ _ e), refl, (λ again values rows e g. g, refl, tt)),
                ),
              ),
            ),
          ),
        ),
      ),
    ),
  ),
)

exec_sound : AllSound (command_shape 2).rules
exec_sound = (
  text_sound (rule_at 2 0) (λ values rows. refl) refl (λ again rows e. no_kind _ _ e),
  refl,
  (
    text_sound (rule_at 2 1) (λ values rows. refl) refl (λ again rows e. no_kind _ _ e),
    refl,
    (
      text_sound (rule_at 2 2) (λ values rows. refl) refl (λ again rows e. no_kind _ _ e),
      refl,
      (
        set_sound (rule_at 2 3) (λ values rows. refl) (number_fit (rule_at 2 3) (codes "steps") refl (λ again rows e. no_kind _ _ e)
            (λ again v vs rows e. kinds_accept false (Signed (pos 0) (pos 4294967295)) (v ∷ vs) (none_then (repeat_fault again (codes "steps") rows) _ (none_then (range_kinds 1 1 (length (v ∷ vs))) _ e)))),
        refl,
        (
          set_sound (rule_at 2 4) (λ values rows. refl) (text_fit (rule_at 2 4) refl (λ again rows e. refl)),
          refl,
          (
            text_sound (rule_at 2 5) (λ values rows. refl) refl (λ again rows e. no_kind _ _ e),
            refl,
            (text_sound (rule_at 2 6) (λ values rows. refl) refl (λ again rows e. no_kind _ _ e), refl, (λ again values rows e g. g, refl, tt)),
          ),
        ),
      ),
    ),
  ),
)

dump_sound : AllSound (command_shape 3).rules
dump_sound = (text_sound (rule_at 3 0) (λ values rows. refl) refl (λ again rows e. no_kind _ _ e), refl, (λ again values rows e g. g, refl, tt))

upgrade_sound : AllSound (command_shape 4).rules
upgrade_sound = (text_sound (rule_at 4 0) (λ values rows. refl) refl (λ again rows e. no_kind _ _ e), refl, (text_sound (rule_at 4 1) (λ values rows. refl) refl (λ again rows e. no_kind _ _ e), refl, (λ again values rows e g. g, refl, tt)))

report_sound : AllSound (command_shape 5).rules
report_sound = (
  text_sound (rule_at 5 0) (λ values rows. refl) refl (λ again rows e. no_kind _ _ e),
  refl,
  (
    set_sound (rule_at 5 1) (λ values rows. refl) (number_fit (rule_at 5 1) (codes "stack") refl (λ again rows e. no_kind _ _ e)
        (λ again v vs rows e. kinds_accept false (Signed (pos 256) (pos 1048576)) (v ∷ vs) (none_then (repeat_fault again (codes "stack") rows) _ (none_then (range_kinds 1 1 (length (v ∷ vs))) _ e)))),
    refl,
    (
      set_sound (rule_at 5 2) (λ values rows. refl) (number_fit (rule_at 5 2) (codes "out-cap") refl (λ again rows e. no_kind _ _ e)
          (λ again v vs rows e. kinds_accept false (Signed (pos 0) (pos 1048576)) (v ∷ vs) (none_then (repeat_fault again (codes "out-cap") rows) _ (none_then (range_kinds 1 1 (length (v ∷ vs))) _ e)))),
      refl,
      (
        set_sound (rule_at 5 3) (λ values rows. refl) (number_fit (rule_at 5 3) (codes "max-gap") refl (λ again rows e. no_kind _ _ e)
            (λ again v vs rows e. kinds_accept false (Signed (pos 160) (pos 1000000)) (v ∷ vs) (none_then (repeat_fault again (codes "max-gap") rows) _ (none_then (range_kinds 1 1 (length (v ∷ vs))) _ e)))),
        refl,
        (λ again values rows e g. g, refl, tt),
      ),
    ),
  ),
)

eval_sound : AllSound (command_shape 6).rules
eval_sound = (
  text_sound (rule_at 6 0) (λ values rows. refl) refl (λ again rows e. no_kind _ _ e),
  refl,
  (
    set_sound (rule_at 6 1) (λ values rows. refl) (number_fit (rule_at 6 1) (codes "stack") refl (λ again rows e. no_kind _ _ e)
        (λ again v vs rows e. kinds_accept false (Signed (pos 256) (pos 1048576)) (v ∷ vs) (none_then (repeat_fault again (codes "stack") rows) _ (none_then (range_kinds 1 1 (length (v ∷ vs))) _ e)))),
    refl,
    (
      set_sound (rule_at 6 2) (λ values rows. refl) (number_fit (rule_at 6 2) (codes "out-cap") refl (λ again rows e. no_kind _ _ e)
          (λ again v vs rows e. kinds_accept false (Signed (pos 0) (pos 1048576)) (v ∷ vs) (none_then (repeat_fault again (codes "out-cap") rows) _ (none_then (range_kinds 1 1 (length (v ∷ vs))) _ e)))),
      refl,
      (
        set_sound (rule_at 6 3) (λ values rows. refl) (number_fit (rule_at 6 3) (codes "max-gap") refl (λ again rows e. no_kind _ _ e)
            (λ again v vs rows e. kinds_accept false (Signed (pos 160) (pos 1000000)) (v ∷ vs) (none_then (repeat_fault again (codes "max-gap") rows) _ (none_then (range_kinds 1 1 (length (v ∷ vs))) _ e)))),
        refl,
        (
          text_sound (rule_at 6 4) (λ values rows. refl) refl (λ again rows e. no_kind _ _ e),
          refl,
          (
            set_sound (rule_at 6 5) (λ values rows. refl) (number_fit (rule_at 6 5) (codes "fuel") refl (λ again rows e. no_kind _ _ e)
                (λ again v vs rows e. kinds_accept false (Signed (pos 0) (pos 4294967295)) (v ∷ vs) (none_then (repeat_fault again (codes "fuel") rows) _ (none_then (range_kinds 1 1 (length (v ∷ vs))) _ e)))),
            refl,
            (
              set_sound (rule_at 6 6) (λ values rows. refl) (text_fit (rule_at 6 6) refl (λ again rows e. refl)),
              refl,
              (λ again values rows e g. g, refl, tt),
            ),
          ),
        ),
      ),
    ),
  ),
)

gen_sound : AllSound (command_shape 7).rules
gen_sound = (
  set_sound (rule_at 7 0) (λ values rows. refl) (number_fit (rule_at 7 0) (codes "N") refl (λ again rows e. no_kind _ _ e)
      (λ again v vs rows e. kinds_accept false (Signed (pos 1) (pos 300)) (v ∷ vs) (none_then (repeat_fault again (codes "N") rows) _ (none_then (range_kinds 1 1 (length (v ∷ vs))) _ e)))),
  refl,
  (λ again values rows e g. g, refl, tt),
)

check_sound : AllSound (command_shape 8).rules
check_sound = (text_sound (rule_at 8 0) (λ values rows. refl) refl (λ again rows e. no_kind _ _ e), refl, (λ again values rows e g. g, refl, tt))

-- ---- a level of the table without a fault

level_facts : (s : Shape) → AllSound s.rules → (words : List Text) → level_fault s [] nothing_held words false [] ≡ []
    → (AllGood (rows_after s.rules [] words)) × (check_fault s (rows_after s.rules [] words) false ≡ [])
level_facts s sound words e =
    let walked_over = walk_fault s [] (walk_from nothing_held) words in
    let settles = settle_fault s.rules s.args_override_self (walk s.rules [] nothing_held words).held in
    let fills = defaults_fault (settled s.rules (walk s.rules [] nothing_held words).held).rows s.rules in
    let later = none_then walked_over _ e in
    (level_good s sound words (none_first walked_over _ e) (none_first settles _ later), none_then fills _ (none_then settles _ later))

-- the arguments that a level wants are given
required_one : (a : Bool) → cond (not a || false) (MissingRequiredArgument ∷ []) [] ≡ [] → a ≡ true
required_one true e = refl
required_one false e = absurd (no_kind _ _ e)

required_two : (a b : Bool) → cond (not a || (not b || false)) (MissingRequiredArgument ∷ []) [] ≡ [] → (a ≡ true) × (b ≡ true)
required_two true true e = (refl, refl)
required_two true false e = absurd (no_kind _ _ e)
required_two false b e = absurd (no_kind _ _ e)

abbrev rows_at : ℕ → List Text → List Row
rows_at shape words = rows_after (command_shape shape).rules [] words

abbrev Passes : ℕ → List Text → Type 0
Passes shape words = level_fault (command_shape shape) [] nothing_held words false [] ≡ []

abbrev Plainly : Option Text → Type 0
Plainly text = IfSome text (λ text. starts_plainly text ≡ true)

-- the numbers of the options and operands begin plainly
pub record ArePlain (found : Text → Option Text) : Type 0 where
  pub steps : Plainly (found (codes "steps"))
  pub fuel : Plainly (found (codes "fuel"))
  pub stack : Plainly (found (codes "stack"))
  pub out_cap : Plainly (found (codes "out-cap"))
  pub gap : Plainly (found (codes "max-gap"))
  pub count : Plainly (found (codes "N"))

abbrev in_rows : List Row → Text → Option Text
in_rows rows name = first_of name rows

-- the number that the rows hold for a name
steps_of : (rows : List Row) → Holds (codes "steps") rows → ArePlain (in_rows rows) → (n : ℕ) × (option_and_then plain_number (first_of (codes "steps") rows) ≡ Some n)
steps_of rows held plain =
    let begins : starts_plainly held.text ≡ true = subst Plainly held.is_first plain.steps in
    (digits_value 10 held.text, ap (option_and_then plain_number) held.is_first ∙ (number_read 0 4294967295 held.text (omega arith) held.fit begins).number)

fuel_of : (rows : List Row) → Holds (codes "fuel") rows → ArePlain (in_rows rows) → (n : ℕ) × (option_and_then plain_number (first_of (codes "fuel") rows) ≡ Some n)
fuel_of rows held plain =
    let begins : starts_plainly held.text ≡ true = subst Plainly held.is_first plain.fuel in
    (digits_value 10 held.text, ap (option_and_then plain_number) held.is_first ∙ (number_read 0 4294967295 held.text (omega arith) held.fit begins).number)

stack_of : (rows : List Row) → Holds (codes "stack") rows → ArePlain (in_rows rows) → (n : ℕ) × (number_asked (codes "stack") 256 1048576 rows ≡ Some n)
stack_of rows held plain =
    let begins : starts_plainly held.text ≡ true = subst Plainly held.is_first plain.stack in
    (digits_value 10 held.text, ap (option_and_then (number_between 256 1048576)) held.is_first ∙ between_read 256 1048576 held.text (number_read 256 1048576 held.text (omega arith) held.fit begins))

out_cap_of : (rows : List Row) → Holds (codes "out-cap") rows → ArePlain (in_rows rows) → (n : ℕ) × (number_asked (codes "out-cap") 0 1048576 rows ≡ Some n)
out_cap_of rows held plain =
    let begins : starts_plainly held.text ≡ true = subst Plainly held.is_first plain.out_cap in
    (digits_value 10 held.text, ap (option_and_then (number_between 0 1048576)) held.is_first ∙ between_read 0 1048576 held.text (number_read 0 1048576 held.text (omega arith) held.fit begins))

count_of : (rows : List Row) → Holds (codes "N") rows → ArePlain (in_rows rows) → (n : ℕ) × (number_asked (codes "N") 1 300 rows ≡ Some n)
count_of rows held plain =
    let begins : starts_plainly held.text ≡ true = subst Plainly held.is_first plain.count in
    (digits_value 10 held.text, ap (option_and_then (number_between 1 300)) held.is_first ∙ between_read 1 300 held.text (number_read 1 300 held.text (omega arith) held.fit begins))

-- the number that the rows hold for the longest gap, or none
gap_of : (rows : List Row) → (first_of (codes "max-gap") rows ≡ None) ⊎ Holds (codes "max-gap") rows → ArePlain (in_rows rows)
    → (limit : Option ℕ) × (optional_between 160 1000000 (first_of (codes "max-gap") rows) ≡ Some limit)
gap_of rows (inl none) plain = (None, ap (λ (o : Option Text). optional_between 160 1000000 o) none)
gap_of rows (inr held) plain =
    let begins : starts_plainly held.text ≡ true = subst Plainly held.is_first plain.gap in (
      Some (digits_value 10 held.text),
      ap (λ (o : Option Text). optional_between 160 1000000 o) held.is_first
          ∙ ap (option_map Some) (between_read 160 1000000 held.text (number_read 160 1000000 held.text (omega arith) held.fit begins)),
    )

building_of : (rows : List Row) → AllGood rows → Holds (codes "stack") rows → Holds (codes "out-cap") rows → ArePlain (in_rows rows)
    → (building : BuildOptions) × (building_asked rows ≡ Some building)
building_of rows good stack out_cap plain =
    let bytes = stack_of rows stack plain in
    let most = out_cap_of rows out_cap plain in
    let limit = gap_of rows (optional_good (codes "max-gap") rows good) plain in (
      record { stack = bytes.0; out_cap = most.0; max_gap = limit.0 },
      (λ i. option_and_then (λ b. option_and_then (λ m. option_map (λ g. record { stack = b; out_cap = m; max_gap = g }) (limit.1 i)) (most.1 i)) (bytes.1 i)),
    )

abbrev rows_before : ℕ → List Text → List Row
rows_before shape words = (settled (command_shape shape).rules (walk (command_shape shape).rules [] nothing_held words).held).rows

build_read : (words : List Text) → Passes 0 words → ArePlain (in_rows (rows_at 0 words)) → is_some (build_asked (rows_at 0 words)) ≡ true
build_read words e plain =
    let rows = rows_at 0 words in
    let facts = level_facts (command_shape 0) build_sound words e in
    let given = required_two _ _ facts.1 in
    let source = given_holds (codes "SRC") rows facts.0 given.0 in
    let image = given_holds (codes "IMG") rows facts.0 given.1 in
    let stack = first_good (codes "stack") rows facts.0
    (defaults_give (take 2 (command_shape 0).rules) (drop 3 (command_shape 0).rules) (rule_at 0 2) (rows_before 0 words) refl refl) in
    let out_cap = first_good (codes "out-cap") rows facts.0
    (defaults_give (take 3 (command_shape 0).rules) (drop 4 (command_shape 0).rules) (rule_at 0 3) (rows_before 0 words) refl refl) in
    let building = building_of rows facts.0 stack out_cap plain in
    (λ i. is_some (option_and_then (λ b. option_and_then (λ s. option_map (λ m. builds s m b) (image.is_first i)) (source.is_first i)) (building.1 i)))

report_read : (words : List Text) → Passes 5 words → ArePlain (in_rows (rows_at 5 words)) → is_some (report_asked (rows_at 5 words)) ≡ true
report_read words e plain =
    let rows = rows_at 5 words in
    let facts = level_facts (command_shape 5) report_sound words e in
    let source = given_holds (codes "SRC") rows facts.0 (required_one _ facts.1) in
    let stack = first_good (codes "stack") rows facts.0
    (defaults_give (take 1 (command_shape 5).rules) (drop 2 (command_shape 5).rules) (rule_at 5 1) (rows_before 5 words) refl refl) in
    let out_cap = first_good (codes "out-cap") rows facts.0
    (defaults_give (take 2 (command_shape 5).rules) (drop 3 (command_shape 5).rules) (rule_at 5 2) (rows_before 5 words) refl refl) in
    let building = building_of rows facts.0 stack out_cap plain in
    (λ i. is_some (option_and_then (λ b. option_map (λ s. reports s b) (source.is_first i)) (building.1 i)))

eval_read : (words : List Text) → Passes 6 words → ArePlain (in_rows (rows_at 6 words)) → is_some (eval_asked (rows_at 6 words)) ≡ true
eval_read words e plain =
    let rows = rows_at 6 words in
    let facts = level_facts (command_shape 6) eval_sound words e in
    let source = given_holds (codes "SRC") rows facts.0 (required_one _ facts.1) in
    let stack = first_good (codes "stack") rows facts.0
    (defaults_give (take 1 (command_shape 6).rules) (drop 2 (command_shape 6).rules) (rule_at 6 1) (rows_before 6 words) refl refl) in
    let out_cap = first_good (codes "out-cap") rows facts.0
    (defaults_give (take 2 (command_shape 6).rules) (drop 3 (command_shape 6).rules) (rule_at 6 2) (rows_before 6 words) refl refl) in
    let fuel = first_good (codes "fuel") rows facts.0
    (defaults_give (take 5 (command_shape 6).rules) (drop 6 (command_shape 6).rules) (rule_at 6 5) (rows_before 6 words) refl refl) in
    let building = building_of rows facts.0 stack out_cap plain in
    let number = fuel_of rows fuel plain in
    (λ i. is_some (option_and_then (λ b. option_and_then (λ evaluation. option_map (λ s. evaluates s b evaluation) (source.is_first i)) (option_map (λ n. record {
      input = first_of (codes "input") rows;
      fuel = n;
      vars = is_set (codes "vars") rows;
    }) (number.1 i))) (building.1 i)))

dump_read : (words : List Text) → Passes 3 words → is_some (dump_asked (rows_at 3 words)) ≡ true
dump_read words e =
    let facts = level_facts (command_shape 3) dump_sound words e in
    let image = given_holds (codes "IMG") (rows_at 3 words) facts.0 (required_one _ facts.1) in
    ap (λ o. is_some (option_map dumps o)) image.is_first

upgrade_read : (words : List Text) → Passes 4 words → is_some (upgrade_asked (rows_at 4 words)) ≡ true
upgrade_read words e =
    let facts = level_facts (command_shape 4) upgrade_sound words e in
    let given = required_two _ _ facts.1 in
    let old = given_holds (codes "IN") (rows_at 4 words) facts.0 given.0 in
    let new = given_holds (codes "OUT") (rows_at 4 words) facts.0 given.1 in
    (λ i. is_some (option_and_then (λ o. option_map (λ n. upgrades o n) (new.is_first i)) (old.is_first i)))

gen_read : (words : List Text) → Passes 7 words → ArePlain (in_rows (rows_at 7 words)) → is_some (gen_asked (rows_at 7 words)) ≡ true
gen_read words e plain =
    let rows = rows_at 7 words in
    let facts = level_facts (command_shape 7) gen_sound words e in
    let held = given_holds (codes "N") rows facts.0 (required_one _ facts.1) in
    ap (λ o. is_some (option_map generates o)) (count_of rows held plain).1

check_read : (words : List Text) → Passes 8 words → is_some (check_asked (rows_at 8 words)) ≡ true
check_read words e =
    let facts = level_facts (command_shape 8) check_sound words e in
    let source = given_holds (codes "SRC") (rows_at 8 words) facts.0 (required_one _ facts.1) in
    ap (λ o. is_some (option_map checks o)) source.is_first

exec_read : (words : List Text) → Passes 2 words → ArePlain (in_rows (rows_at 2 words)) → is_some (exec_asked (rows_at 2 words)) ≡ true
exec_read words e plain =
    let rows = rows_at 2 words in
    let facts = level_facts (command_shape 2) exec_sound words e in
    let image = given_holds (codes "IMG") rows facts.0 (required_one _ facts.1) in
    let steps = first_good (codes "steps") rows facts.0
    (defaults_give (take 3 (command_shape 2).rules) (drop 4 (command_shape 2).rules) (rule_at 2 3) (rows_before 2 words) refl refl) in
    let number = steps_of rows steps plain in
    (λ i. is_some (option_and_then (λ options. option_map (λ m. executes m options (first_of (codes "resume") rows)) (image.is_first i)) (option_map (λ n. record {
      input = first_of (codes "input") rows;
      trace = first_of (codes "trace") rows;
      steps = n;
      vars = is_set (codes "vars") rows;
      save = first_of (codes "save") rows;
    }) (number.1 i))))

run_read : (words : List Text) → Passes 1 words → ArePlain (in_rows (rows_at 1 words)) → is_some (run_asked (rows_at 1 words)) ≡ true
run_read words e plain =
    let rows = rows_at 1 words in
    let facts = level_facts (command_shape 1) run_sound words e in
    let given = required_two _ _ facts.1 in
    let source = given_holds (codes "SRC") rows facts.0 given.0 in
    let image = given_holds (codes "IMG") rows facts.0 given.1 in
    let stack = first_good (codes "stack") rows facts.0
    (defaults_give (take 2 (command_shape 1).rules) (drop 3 (command_shape 1).rules) (rule_at 1 2) (rows_before 1 words) refl refl) in
    let out_cap = first_good (codes "out-cap") rows facts.0
    (defaults_give (take 3 (command_shape 1).rules) (drop 4 (command_shape 1).rules) (rule_at 1 3) (rows_before 1 words) refl refl) in
    let steps = first_good (codes "steps") rows facts.0
    (defaults_give (take 7 (command_shape 1).rules) (drop 8 (command_shape 1).rules) (rule_at 1 7) (rows_before 1 words) refl refl) in
    let building = building_of rows facts.0 stack out_cap plain in
    let number = steps_of rows steps plain in
    (λ i. is_some (option_and_then (λ b. option_and_then (λ options. option_and_then (λ s. option_map (λ m. runs s m b options) (image.is_first i)) (source.is_first i)) (option_map (λ n. record {
      input = first_of (codes "input") rows;
      trace = first_of (codes "trace") rows;
      steps = n;
      vars = is_set (codes "vars") rows;
      save = first_of (codes "save") rows;
    }) (number.1 i))) (building.1 i)))

-- ---- the words after the program's name

abbrev Taken : List Text → Type 0
Taken words = is_faultless words ≡ true → ArePlain (λ name. text_found name words) → is_some (named words) ≡ true

row_taken : (asks : List Row → Option Asked) (name : Text) (shape : ℕ) (words rest : List Text) → named words ≡ asked_of asks (command_shape shape) rest
    → fault_of command_line words ≡ level_fault (command_shape shape) [] nothing_held rest false []
    → subcommand_of command_line words ≡ Some (name, rows_at shape rest)
    → (Passes shape rest → ArePlain (in_rows (rows_at shape rest)) → is_some (asks (rows_at shape rest)) ≡ true) → Taken words
row_taken asks name shape words rest is fault found read faultless plain =
    let none = sym fault ∙ is_nil _ faultless in
    let begins = subst (λ (o : Option (Text × List Row)). ArePlain (λ text. option_and_then (λ p. first_of text p.1) o)) found plain in
    ap is_some (is ∙ ap (λ (k : Kinds). if is_empty k then asks (rows_at shape rest) else None) none) ∙ read none begins

build_taken : (program : Text) (rest : List Text) → Taken (program ∷ codes "build" ∷ rest)
build_taken program rest = row_taken build_asked (codes "build") 0 (program ∷ codes "build" ∷ rest) rest
    (build_named program rest) (build_fault program rest) (build_found program rest) (build_read rest)

run_taken : (program : Text) (rest : List Text) → Taken (program ∷ codes "run" ∷ rest)
run_taken program rest = row_taken run_asked (codes "run") 1 (program ∷ codes "run" ∷ rest) rest
    (run_named program rest) (run_fault program rest) (run_found program rest) (run_read rest)

exec_taken : (program : Text) (rest : List Text) → Taken (program ∷ codes "exec" ∷ rest)
exec_taken program rest = row_taken exec_asked (codes "exec") 2 (program ∷ codes "exec" ∷ rest) rest
    (exec_named program rest) (exec_fault program rest) (exec_found program rest) (exec_read rest)

dump_taken : (program : Text) (rest : List Text) → Taken (program ∷ codes "dump" ∷ rest)
dump_taken program rest = row_taken dump_asked (codes "dump") 3 (program ∷ codes "dump" ∷ rest) rest
    (dump_named program rest) (dump_fault program rest) (dump_found program rest) (λ e plain. dump_read rest e)

upgrade_taken : (program : Text) (rest : List Text) → Taken (program ∷ codes "upgrade" ∷ rest)
upgrade_taken program rest = row_taken upgrade_asked (codes "upgrade") 4 (program ∷ codes "upgrade" ∷ rest) rest
    (upgrade_named program rest) (upgrade_fault program rest) (upgrade_found program rest) (λ e plain. upgrade_read rest e)

report_taken : (program : Text) (rest : List Text) → Taken (program ∷ codes "report" ∷ rest)
report_taken program rest = row_taken report_asked (codes "report") 5 (program ∷ codes "report" ∷ rest) rest
    (report_named program rest) (report_fault program rest) (report_found program rest) (report_read rest)

eval_taken : (program : Text) (rest : List Text) → Taken (program ∷ codes "eval" ∷ rest)
eval_taken program rest = row_taken eval_asked (codes "eval") 6 (program ∷ codes "eval" ∷ rest) rest
    (eval_named program rest) (eval_fault program rest) (eval_found program rest) (eval_read rest)

gen_taken : (program : Text) (rest : List Text) → Taken (program ∷ codes "gen" ∷ rest)
gen_taken program rest = row_taken gen_asked (codes "gen") 7 (program ∷ codes "gen" ∷ rest) rest
    (gen_named program rest) (gen_fault program rest) (gen_found program rest) (gen_read rest)

check_taken : (program : Text) (rest : List Text) → Taken (program ∷ codes "check" ∷ rest)
check_taken program rest = row_taken check_asked (codes "check") 8 (program ∷ codes "check" ∷ rest) rest
    (check_named program rest) (check_word_fault program rest) (check_word_found program rest) (λ e plain. check_read rest e)

-- a first word that is this text
same_taken : (text name program : Text) (rest : List Text) → bytes_eq text name ≡ true → Taken (program ∷ text ∷ rest) → Taken (program ∷ name ∷ rest)
same_taken text name program rest same taken = subst (λ (n : Text). Taken (program ∷ n ∷ rest)) ((bytes_eq-Decides text name).0 same) taken

other_taken : (name program : Text) (rest : List Text) → bytes_eq (codes "build") name ≡ false → bytes_eq (codes "run") name ≡ false → bytes_eq (codes "exec") name ≡ false
    → bytes_eq (codes "dump") name ≡ false → bytes_eq (codes "upgrade") name ≡ false → bytes_eq (codes "report") name ≡ false → bytes_eq (codes "eval") name ≡ false → bytes_eq (codes "gen") name ≡ false → bytes_eq (codes "check") name ≡ false → bytes_eq (codes "help") name ≡ false
    → (b : Bool) → bytes_eq name (codes "--") ≡ b → Taken (program ∷ name ∷ rest)
other_taken name program rest b r x d u p v g k h true t =
    subst (λ (n : Text). Taken (program ∷ n ∷ rest)) (sym ((bytes_eq-Decides name (codes "--")).0 t)) (λ faultless plain. absurd (dashes_refused program rest faultless))
other_taken name program rest b r x d u p v g k h false t = λ faultless plain. absurd (first_refused program name rest (stray_kind name (no_command name b r x d u p v g k h) t) faultless)

word_taken : (name program : Text) (rest : List Text) (b r x d u p v g k h : Bool) → bytes_eq (codes "build") name ≡ b → bytes_eq (codes "run") name ≡ r
    → bytes_eq (codes "exec") name ≡ x → bytes_eq (codes "dump") name ≡ d → bytes_eq (codes "upgrade") name ≡ u → bytes_eq (codes "report") name ≡ p
    → bytes_eq (codes "eval") name ≡ v → bytes_eq (codes "gen") name ≡ g → bytes_eq (codes "check") name ≡ k → bytes_eq (codes "help") name ≡ h → Taken (program ∷ name ∷ rest)
word_taken name program rest true r x d u p v g k h bt rt xt dt ut pt vt gt kt ht = same_taken (codes "build") name program rest bt (build_taken program rest)
word_taken name program rest false true x d u p v g k h bt rt xt dt ut pt vt gt kt ht = same_taken (codes "run") name program rest rt (run_taken program rest)
word_taken name program rest false false true d u p v g k h bt rt xt dt ut pt vt gt kt ht = same_taken (codes "exec") name program rest xt (exec_taken program rest)
word_taken name program rest false false false true u p v g k h bt rt xt dt ut pt vt gt kt ht = same_taken (codes "dump") name program rest dt (dump_taken program rest)
word_taken name program rest false false false false true p v g k h bt rt xt dt ut pt vt gt kt ht = same_taken (codes "upgrade") name program rest ut (upgrade_taken program rest)
word_taken name program rest false false false false false true v g k h bt rt xt dt ut pt vt gt kt ht = same_taken (codes "report") name program rest pt (report_taken program rest)
word_taken name program rest false false false false false false true g k h bt rt xt dt ut pt vt gt kt ht = same_taken (codes "eval") name program rest vt (eval_taken program rest)
word_taken name program rest false false false false false false false true k h bt rt xt dt ut pt vt gt kt ht = same_taken (codes "gen") name program rest gt (gen_taken program rest)
word_taken name program rest false false false false false false false false true h bt rt xt dt ut pt vt gt kt ht = same_taken (codes "check") name program rest kt (check_taken program rest)
word_taken name program rest false false false false false false false false false true bt rt xt dt ut pt vt gt kt ht =
    same_taken (codes "help") name program rest ht (λ faultless plain. absurd (help_refused program rest faultless))
word_taken name program rest false false false false false false false false false false bt rt xt dt ut pt vt gt kt ht =
    other_taken name program rest bt rt xt dt ut pt vt gt kt ht (bytes_eq name (codes "--")) refl

pub faultless_taken : (words : List Text) → is_faultless words ≡ true → IsPlain (codes "steps") words → IsPlain (codes "fuel") words → IsPlain (codes "stack") words
    → IsPlain (codes "out-cap") words → IsPlain (codes "max-gap") words → IsPlain (codes "N") words → is_some (named words) ≡ true
faultless_taken [] e steps fuel stack out_cap gap count = absurd (nothing_refused e)
faultless_taken (program ∷ []) e steps fuel stack out_cap gap count = absurd (name_refused program e)
faultless_taken (program ∷ name ∷ rest) e steps fuel stack out_cap gap count =
    word_taken name program rest _ _ _ _ _ _ _ _ _ _ refl refl refl refl refl refl refl refl refl refl e
    (record { steps = steps; fuel = fuel; stack = stack; out_cap = out_cap; gap = gap; count = count })
