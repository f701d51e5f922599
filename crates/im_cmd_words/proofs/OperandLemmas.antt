-- Words after the command's name, where each of them is a file.
use Rattle.std.proofs.Common.{ap, ap₂, refl, sym, true, false, ℕ, Bool, List, [], ◌∷◌, Option, Some, None, ◌≡◌, ◌∙◌, ◌==◌, codes, is_some}
use Rattle.std.specs.Prelude.{if◌then◌else◌, slice_index_or}
use Rattle.std.specs.List.{fold}
use Rattle.clap.specs.Kinds.{Kinds, or_else}
use Rattle.clap.specs.Words.{App, Row, Shape, Text, fault_of, subcommand_of}
use Rattle.clap.specs.Walk.{Held, Rule, Step, Waiting, Walk, after_step, finished, idle, is_empty, nothing_held, option, plain_word, positional, rows_after, settled, subcommand_met, walk, walk_from, walked, walked_from, word_met}
use Rattle.clap.specs.Simple.{built, entered, names_of, new_shape}
use Rattle.clap.specs.Faults.{check_fault, defaults_fault, entered_fault, level_fault, settle_fault, step_fault, turn_fault, walk_fault, word_fault}
use Rattle.clap.proofs.FaultLemmas.{stopped_fault}
use Rattle.clap.proofs.WalkLemmas.{walk_stopped}
use Rattle.clap.proofs.OnLiterals.{clap_on_literals}
use Rattle.im_cmd_words.specs.Table.{command_line}
use Rattle.im_cmd_words.specs.Named.{Asked, asked, build_asked, builds, check_asked, checks, default_building, default_evaluation, default_options, dump_asked, dumps, eval_asked, evaluates, exec_asked, executes, gen_asked, is_option, named, report_asked, reports, run_asked, runs, upgrade_asked, upgrades}

-- ---- one word

none_met : (waiting : Waiting) (word : Text) → subcommand_met [] waiting word ≡ None
none_met idle word = refl
none_met (option id) word = refl
none_met positional word = refl

-- a word that begins no option is no flag
pub file_met : (c : List Rule) (waiting : Waiting) (position : ℕ) (word : Text) (h : Held) → is_option word ≡ false
    → word_met c [] false waiting position word h ≡ plain_word c waiting word h
file_met c waiting position [] h e = rw (none_met waiting []) refl
file_met c waiting position (x ∷ []) h e = go (x == 45) refl
  where
    go : (b : Bool) → (x == 45) ≡ b → word_met c [] false waiting position (x ∷ []) h ≡ plain_word c waiting (x ∷ []) h
    go true t = rw (none_met waiting (x ∷ []), t) (rw t refl)
    go false t = rw (none_met waiting (x ∷ []), t) (rw t refl)
file_met c waiting position (x ∷ y ∷ rest) h e = rw (none_met waiting (x ∷ y ∷ rest), e) (rw e refl)

pub file_fault : (s : Shape) (waiting : Waiting) (word : Text) (h : Held) → is_option word ≡ false → word_fault s [] false waiting word h ≡ []
file_fault s waiting [] h e = rw (none_met waiting []) refl
file_fault s waiting (x ∷ []) h e = go (x == 45) refl
  where
    go : (b : Bool) → (x == 45) ≡ b → word_fault s [] false waiting (x ∷ []) h ≡ []
    go true t = rw (none_met waiting (x ∷ []), t) (rw t refl)
    go false t = rw (none_met waiting (x ∷ []), t) (rw t refl)
file_fault s waiting (x ∷ y ∷ rest) h e = rw (none_met waiting (x ∷ y ∷ rest), e) (rw e refl)

-- where the walk stands after such a word
abbrev pub taken : List Rule → Walk → Text → Walk
taken c w word = after_step c word w (plain_word c w.waiting word w.held).0 (plain_word c w.waiting word w.held).1

abbrev pub taken_fault : Shape → Walk → Text → Kinds
taken_fault s w word = step_fault s w.position (plain_word s.rules w.waiting word w.held).0 (plain_word s.rules w.waiting word w.held).1

pub file_walked : (c : List Rule) (w : Walk) (word : Text) → w.stopped ≡ None → w.is_trailing ≡ false → is_option word ≡ false
    → walked c [] w word ≡ taken c w word
unfolding walked
file_walked c w word going before plain =
    let met = file_met c w.waiting w.position word w.held plain in
    ap (λ o. walked_from c [] o w word) going
    ∙ ap (λ (b : Bool). after_step c word w (word_met c [] b w.waiting w.position word w.held).0 (word_met c [] b w.waiting w.position word w.held).1) before
    ∙ ap (λ (p : Held × Step). after_step c word w p.0 p.1) met

pub file_turn : (s : Shape) (w : Walk) (word : Text) → w.stopped ≡ None → w.is_trailing ≡ false → is_option word ≡ false
    → turn_fault s [] w word ≡ taken_fault s w word
file_turn s w word going before plain =
    let met = file_met s.rules w.waiting w.position word w.held plain in
    let passes = file_fault s w.waiting word w.held plain in
    ap (λ (o : Option (Text × List Text)). if is_some o then [] else or_else (word_fault s [] w.is_trailing w.waiting word w.held)
    (step_fault s w.position (word_met s.rules [] w.is_trailing w.waiting w.position word w.held).0 (word_met s.rules [] w.is_trailing w.waiting w.position word w.held).1)) going
    ∙ ap (λ (b : Bool). or_else (word_fault s [] b w.waiting word w.held)
    (step_fault s w.position (word_met s.rules [] b w.waiting w.position word w.held).0 (word_met s.rules [] b w.waiting w.position word w.held).1)) before
    ∙ (ap₂ (λ (f : Kinds) (p : Held × Step). or_else f (step_fault s w.position p.0 p.1)) passes met)

-- ---- the command's name

abbrev pub command_shape : ℕ → Shape
command_shape k = slice_index_or (built command_line).subs k (new_shape [])

-- what the words after the command's name ask for
abbrev pub asked_of : (List Row → Option Asked) → Shape → List Text → Option Asked
asked_of asks s words =
    if is_empty (level_fault s [] nothing_held words false []) then asks (rows_after s.rules [] words) else None

last_fault : (k : Kinds) → or_else k [] ≡ k
last_fault [] = refl
last_fault (x ∷ xs) = refl

abbrev pub line : App
line = built command_line

-- the walk over the command's name and the words after it
abbrev stopped_at : Text → List Text → Walk
stopped_at name words = record (walk_from nothing_held) { stopped = Some (name, words) }

-- the fault of the table, by the walk and its own fault
abbrev fault_after : Walk → Kinds → Kinds
fault_after w fault = or_else fault (or_else (entered_fault line w.stopped) (or_else (settle_fault line.top.rules line.top.args_override_self w.held)
    (or_else (defaults_fault (settled line.top.rules w.held).rows line.top.rules)
    (check_fault line.top (finished line.top.rules w.held) (is_some (entered line w.stopped))))))

abbrev answer : Walk → Kinds → Option Asked
answer w fault = if is_empty (fault_after w fault) then asked (entered line w.stopped) else None

answer_is : (program : Text) (words : List Text)
    → named (program ∷ words) ≡ answer (walk line.top.rules (names_of line) nothing_held words) (walk_fault line.top (names_of line) (walk_from nothing_held) words)
answer_is program words = refl

module _ (name : Text) (rest : List Text) (first : walked line.top.rules (names_of line) (walk_from nothing_held) name ≡ stopped_at name []) (passes : turn_fault line.top (names_of line) (walk_from nothing_held) name ≡ []) where
  name_walked : walk line.top.rules (names_of line) nothing_held (name ∷ rest) ≡ stopped_at name rest
  name_walked = ap (λ w. fold (walked line.top.rules (names_of line)) w rest) first
      ∙ sym (walk_stopped line.top.rules (names_of line) (walk_from nothing_held) name [] rest)

  name_passes : walk_fault line.top (names_of line) (walk_from nothing_held) (name ∷ rest) ≡ []
  unfolding walk_fault
  name_passes = ap₂ (λ (f : Kinds) (w : Walk). or_else f (walk_fault line.top (names_of line) w rest)) passes first
      ∙ stopped_fault line.top (names_of line) (walk_from nothing_held) (name, []) rest

  name_answer : (program : Text) → named (program ∷ name ∷ rest) ≡ answer (stopped_at name rest) []
  name_answer program = answer_is program (name ∷ rest) ∙ ap₂ answer name_walked name_passes

  name_fault : (program : Text) → fault_of command_line (program ∷ name ∷ rest) ≡ fault_after (stopped_at name rest) []
  name_fault program = ap₂ fault_after name_walked name_passes

  name_found : (program : Text) → subcommand_of command_line (program ∷ name ∷ rest) ≡ entered line (Some (name, rest))
  name_found program = ap (λ w. entered line w.stopped) name_walked

pub dump_named : (program : Text) (rest : List Text) → named (program ∷ codes "dump" ∷ rest) ≡ asked_of dump_asked (command_shape 3) rest
unfolding clap_on_literals
dump_named program rest =
    name_answer (codes "dump") rest refl refl program
    ∙ ap (λ (k : Kinds). if is_empty k then dump_asked (rows_after (command_shape 3).rules [] rest) else None) (last_fault (level_fault (command_shape 3) [] nothing_held rest false []))

pub build_named : (program : Text) (rest : List Text) → named (program ∷ codes "build" ∷ rest) ≡ asked_of build_asked (command_shape 0) rest
unfolding clap_on_literals
build_named program rest =
    name_answer (codes "build") rest refl refl program
    ∙ ap (λ (k : Kinds). if is_empty k then build_asked (rows_after (command_shape 0).rules [] rest) else None) (last_fault (level_fault (command_shape 0) [] nothing_held rest false []))

pub run_named : (program : Text) (rest : List Text) → named (program ∷ codes "run" ∷ rest) ≡ asked_of run_asked (command_shape 1) rest
unfolding clap_on_literals
run_named program rest =
    name_answer (codes "run") rest refl refl program
    ∙ ap (λ (k : Kinds). if is_empty k then run_asked (rows_after (command_shape 1).rules [] rest) else None) (last_fault (level_fault (command_shape 1) [] nothing_held rest false []))

pub exec_named : (program : Text) (rest : List Text) → named (program ∷ codes "exec" ∷ rest) ≡ asked_of exec_asked (command_shape 2) rest
unfolding clap_on_literals
exec_named program rest =
    name_answer (codes "exec") rest refl refl program
    ∙ ap (λ (k : Kinds). if is_empty k then exec_asked (rows_after (command_shape 2).rules [] rest) else None) (last_fault (level_fault (command_shape 2) [] nothing_held rest false []))

pub upgrade_named : (program : Text) (rest : List Text) → named (program ∷ codes "upgrade" ∷ rest) ≡ asked_of upgrade_asked (command_shape 4) rest
unfolding clap_on_literals
upgrade_named program rest =
    name_answer (codes "upgrade") rest refl refl program
    ∙ ap (λ (k : Kinds). if is_empty k then upgrade_asked (rows_after (command_shape 4).rules [] rest) else None) (last_fault (level_fault (command_shape 4) [] nothing_held rest false []))

pub report_named : (program : Text) (rest : List Text) → named (program ∷ codes "report" ∷ rest) ≡ asked_of report_asked (command_shape 5) rest
unfolding clap_on_literals
report_named program rest =
    name_answer (codes "report") rest refl refl program
    ∙ ap (λ (k : Kinds). if is_empty k then report_asked (rows_after (command_shape 5).rules [] rest) else None) (last_fault (level_fault (command_shape 5) [] nothing_held rest false []))

pub eval_named : (program : Text) (rest : List Text) → named (program ∷ codes "eval" ∷ rest) ≡ asked_of eval_asked (command_shape 6) rest
unfolding clap_on_literals
eval_named program rest =
    name_answer (codes "eval") rest refl refl program
    ∙ ap (λ (k : Kinds). if is_empty k then eval_asked (rows_after (command_shape 6).rules [] rest) else None) (last_fault (level_fault (command_shape 6) [] nothing_held rest false []))

pub gen_named : (program : Text) (rest : List Text) → named (program ∷ codes "gen" ∷ rest) ≡ asked_of gen_asked (command_shape 7) rest
unfolding clap_on_literals
gen_named program rest =
    name_answer (codes "gen") rest refl refl program
    ∙ ap (λ (k : Kinds). if is_empty k then gen_asked (rows_after (command_shape 7).rules [] rest) else None) (last_fault (level_fault (command_shape 7) [] nothing_held rest false []))

pub check_named : (program : Text) (rest : List Text) → named (program ∷ codes "check" ∷ rest) ≡ asked_of check_asked (command_shape 8) rest
unfolding clap_on_literals
check_named program rest =
    name_answer (codes "check") rest refl refl program
    ∙ ap (λ (k : Kinds). if is_empty k then check_asked (rows_after (command_shape 8).rules [] rest) else None) (last_fault (level_fault (command_shape 8) [] nothing_held rest false []))

-- ---- the words after it

-- what the end of the walk and its fault ask for
abbrev pub ended : (List Row → Option Asked) → Shape → Walk → Kinds → Option Asked
ended asks s w fault =
    if is_empty (or_else fault (or_else (settle_fault s.rules s.args_override_self w.held)
    (or_else (defaults_fault (settled s.rules w.held).rows s.rules) (check_fault s (finished s.rules w.held) false))))
    then asks (finished s.rules w.held) else None

pub ended_is : (asks : List Row → Option Asked) (s : Shape) (words : List Text)
    → asked_of asks s words ≡ ended asks s (walk s.rules [] nothing_held words) (walk_fault s [] (walk_from nothing_held) words)
ended_is asks s words = refl

abbrev begun : Walk
begun = walk_from nothing_held

pub one_file : (asks : List Row → Option Asked) (s : Shape) (image : Text) → is_option image ≡ false
    → asked_of asks s (image ∷ []) ≡ ended asks s (taken s.rules begun image) (or_else (taken_fault s begun image) [])
unfolding walk_fault
one_file asks s image plain = ap₂ (λ (w : Walk) (f : Kinds). ended asks s w (or_else f []))
    (file_walked s.rules begun image refl refl plain) (file_turn s begun image refl refl plain)

pub two_files : (asks : List Row → Option Asked) (s : Shape) (source image : Text) → is_option source ≡ false → is_option image ≡ false
    → (taken s.rules begun source).stopped ≡ None → (taken s.rules begun source).is_trailing ≡ false
    → asked_of asks s (source ∷ image ∷ []) ≡ ended asks s (taken s.rules (taken s.rules begun source) image)
    (or_else (taken_fault s begun source) (or_else (taken_fault s (taken s.rules begun source) image) []))
unfolding walk_fault
two_files asks s source image plain also going before =
    let first = file_walked s.rules begun source refl refl plain in
    ap₂ (λ (w : Walk) (f : Kinds). ended asks s (walked s.rules [] w image) (or_else f (or_else (turn_fault s [] w image) [])))
    first (file_turn s begun source refl refl plain)
    ∙ ap₂ (λ (w : Walk) (f : Kinds). ended asks s w (or_else (taken_fault s begun source) (or_else f [])))
    (file_walked s.rules (taken s.rules begun source) image going before also) (file_turn s (taken s.rules begun source) image going before also)

pub dump_files : (program image : Text) → is_option image ≡ false → named (program ∷ codes "dump" ∷ image ∷ []) ≡ Some (dumps image)
unfolding clap_on_literals
dump_files program image plain = dump_named program (image ∷ []) ∙ one_file dump_asked (command_shape 3) image plain

pub exec_files : (program image : Text) → is_option image ≡ false → named (program ∷ codes "exec" ∷ image ∷ []) ≡ Some (executes image default_options None)
unfolding clap_on_literals
exec_files program image plain = exec_named program (image ∷ []) ∙ one_file exec_asked (command_shape 2) image plain

pub build_files : (program source image : Text) → is_option source ≡ false → is_option image ≡ false
    → named (program ∷ codes "build" ∷ source ∷ image ∷ []) ≡ Some (builds source image default_building)
unfolding clap_on_literals
build_files program source image plain also = build_named program (source ∷ image ∷ []) ∙ two_files build_asked (command_shape 0) source image plain also refl refl

pub run_files : (program source image : Text) → is_option source ≡ false → is_option image ≡ false
    → named (program ∷ codes "run" ∷ source ∷ image ∷ []) ≡ Some (runs source image default_building default_options)
unfolding clap_on_literals
run_files program source image plain also = run_named program (source ∷ image ∷ []) ∙ two_files run_asked (command_shape 1) source image plain also refl refl

pub report_files : (program source : Text) → is_option source ≡ false → named (program ∷ codes "report" ∷ source ∷ []) ≡ Some (reports source default_building)
unfolding clap_on_literals
report_files program source plain = report_named program (source ∷ []) ∙ one_file report_asked (command_shape 5) source plain

pub eval_files : (program source : Text) → is_option source ≡ false → named (program ∷ codes "eval" ∷ source ∷ []) ≡ Some (evaluates source default_building default_evaluation)
unfolding clap_on_literals
eval_files program source plain = eval_named program (source ∷ []) ∙ one_file eval_asked (command_shape 6) source plain

pub upgrade_files : (program old new : Text) → is_option old ≡ false → is_option new ≡ false
    → named (program ∷ codes "upgrade" ∷ old ∷ new ∷ []) ≡ Some (upgrades old new)
unfolding clap_on_literals
upgrade_files program old new plain also = upgrade_named program (old ∷ new ∷ []) ∙ two_files upgrade_asked (command_shape 4) old new plain also refl refl

pub check_files : (program source : Text) → is_option source ≡ false → named (program ∷ codes "check" ∷ source ∷ []) ≡ Some (checks source)
unfolding clap_on_literals
check_files program source plain = check_named program (source ∷ []) ∙ one_file check_asked (command_shape 8) source plain

-- what clap finds, and its fault, at each command

pub build_fault : (program : Text) (rest : List Text) → fault_of command_line (program ∷ codes "build" ∷ rest) ≡ level_fault (command_shape 0) [] nothing_held rest false []
unfolding clap_on_literals
build_fault program rest = name_fault (codes "build") rest refl refl program ∙ last_fault (level_fault (command_shape 0) [] nothing_held rest false [])

pub build_found : (program : Text) (rest : List Text) → subcommand_of command_line (program ∷ codes "build" ∷ rest) ≡ Some (codes "build", rows_after (command_shape 0).rules [] rest)
unfolding clap_on_literals
build_found program rest = name_found (codes "build") rest refl refl program

pub run_fault : (program : Text) (rest : List Text) → fault_of command_line (program ∷ codes "run" ∷ rest) ≡ level_fault (command_shape 1) [] nothing_held rest false []
unfolding clap_on_literals
run_fault program rest = name_fault (codes "run") rest refl refl program ∙ last_fault (level_fault (command_shape 1) [] nothing_held rest false [])

pub run_found : (program : Text) (rest : List Text) → subcommand_of command_line (program ∷ codes "run" ∷ rest) ≡ Some (codes "run", rows_after (command_shape 1).rules [] rest)
unfolding clap_on_literals
run_found program rest = name_found (codes "run") rest refl refl program

pub exec_fault : (program : Text) (rest : List Text) → fault_of command_line (program ∷ codes "exec" ∷ rest) ≡ level_fault (command_shape 2) [] nothing_held rest false []
unfolding clap_on_literals
exec_fault program rest = name_fault (codes "exec") rest refl refl program ∙ last_fault (level_fault (command_shape 2) [] nothing_held rest false [])

pub exec_found : (program : Text) (rest : List Text) → subcommand_of command_line (program ∷ codes "exec" ∷ rest) ≡ Some (codes "exec", rows_after (command_shape 2).rules [] rest)
unfolding clap_on_literals
exec_found program rest = name_found (codes "exec") rest refl refl program

pub dump_fault : (program : Text) (rest : List Text) → fault_of command_line (program ∷ codes "dump" ∷ rest) ≡ level_fault (command_shape 3) [] nothing_held rest false []
unfolding clap_on_literals
dump_fault program rest = name_fault (codes "dump") rest refl refl program ∙ last_fault (level_fault (command_shape 3) [] nothing_held rest false [])

pub dump_found : (program : Text) (rest : List Text) → subcommand_of command_line (program ∷ codes "dump" ∷ rest) ≡ Some (codes "dump", rows_after (command_shape 3).rules [] rest)
unfolding clap_on_literals
dump_found program rest = name_found (codes "dump") rest refl refl program

pub upgrade_fault : (program : Text) (rest : List Text) → fault_of command_line (program ∷ codes "upgrade" ∷ rest) ≡ level_fault (command_shape 4) [] nothing_held rest false []
unfolding clap_on_literals
upgrade_fault program rest = name_fault (codes "upgrade") rest refl refl program ∙ last_fault (level_fault (command_shape 4) [] nothing_held rest false [])

pub upgrade_found : (program : Text) (rest : List Text) → subcommand_of command_line (program ∷ codes "upgrade" ∷ rest) ≡ Some (codes "upgrade", rows_after (command_shape 4).rules [] rest)
unfolding clap_on_literals
upgrade_found program rest = name_found (codes "upgrade") rest refl refl program

pub report_fault : (program : Text) (rest : List Text) → fault_of command_line (program ∷ codes "report" ∷ rest) ≡ level_fault (command_shape 5) [] nothing_held rest false []
unfolding clap_on_literals
report_fault program rest = name_fault (codes "report") rest refl refl program ∙ last_fault (level_fault (command_shape 5) [] nothing_held rest false [])

pub report_found : (program : Text) (rest : List Text) → subcommand_of command_line (program ∷ codes "report" ∷ rest) ≡ Some (codes "report", rows_after (command_shape 5).rules [] rest)
unfolding clap_on_literals
report_found program rest = name_found (codes "report") rest refl refl program

pub eval_fault : (program : Text) (rest : List Text) → fault_of command_line (program ∷ codes "eval" ∷ rest) ≡ level_fault (command_shape 6) [] nothing_held rest false []
unfolding clap_on_literals
eval_fault program rest = name_fault (codes "eval") rest refl refl program ∙ last_fault (level_fault (command_shape 6) [] nothing_held rest false [])

pub eval_found : (program : Text) (rest : List Text) → subcommand_of command_line (program ∷ codes "eval" ∷ rest) ≡ Some (codes "eval", rows_after (command_shape 6).rules [] rest)
unfolding clap_on_literals
eval_found program rest = name_found (codes "eval") rest refl refl program

pub gen_fault : (program : Text) (rest : List Text) → fault_of command_line (program ∷ codes "gen" ∷ rest) ≡ level_fault (command_shape 7) [] nothing_held rest false []
unfolding clap_on_literals
gen_fault program rest = name_fault (codes "gen") rest refl refl program ∙ last_fault (level_fault (command_shape 7) [] nothing_held rest false [])

pub gen_found : (program : Text) (rest : List Text) → subcommand_of command_line (program ∷ codes "gen" ∷ rest) ≡ Some (codes "gen", rows_after (command_shape 7).rules [] rest)
unfolding clap_on_literals
gen_found program rest = name_found (codes "gen") rest refl refl program

pub check_word_fault : (program : Text) (rest : List Text) → fault_of command_line (program ∷ codes "check" ∷ rest) ≡ level_fault (command_shape 8) [] nothing_held rest false []
unfolding clap_on_literals
check_word_fault program rest = name_fault (codes "check") rest refl refl program ∙ last_fault (level_fault (command_shape 8) [] nothing_held rest false [])

pub check_word_found : (program : Text) (rest : List Text) → subcommand_of command_line (program ∷ codes "check" ∷ rest) ≡ Some (codes "check", rows_after (command_shape 8).rules [] rest)
unfolding clap_on_literals
check_word_found program rest = name_found (codes "check") rest refl refl program
