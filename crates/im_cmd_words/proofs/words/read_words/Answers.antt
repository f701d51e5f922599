use Rattle.std.proofs.Common.{map, ap, sym, ◌≡◌, ◌∙◌}
use Rattle.std.specs.String.{string_bytes}
use Rattle.clap.specs.Words.{app_of, is_simple, is_simple_and_free, subcommand_rows_of}
use Rattle.im_cmd_words.specs.Named.{meaning}
use Rattle.im_cmd_words.specs.Table.{command_line}
use Rattle.im_cmd_words.proofs.NamedLemmas.{is_simple_line, is_free_line, named_where_faultless, none_where_faulty, none_where_unasked}
use Rattle.im_cmd_words.proofs.words.read_words.Goals as goal

pub returns-in-Some-clause-named : goal.returns-in-Some-clause-named
returns-in-Some-clause-named c =
    let table_is : app_of c.in_ok-table.table ≡ command_line = c.in_ok-table.ensures in
    let fault = c.in-Ok.ensures.kinds (ap is_simple_and_free table_is ∙ is_free_line) in
    let found = c.in-Ok.ensures.matches (ap is_simple table_is ∙ is_simple_line) in
    named_where_faultless (app_of c.in_ok-table.table) table_is (map string_bytes c.args.words.now)
    (subcommand_rows_of c.in-Ok.matches) (meaning c.in-Some.command) fault found.1 (sym c.in-Some.ensures.asked)

pub returns-clause-refused : goal.returns-clause-refused
returns-clause-refused c usage =
    let table_is : app_of c.in_ok-table.table ≡ command_line = c.in_ok-table.ensures in
    none_where_faulty (app_of c.in_ok-table.table) table_is (map string_bytes c.args.words.now) c.in-Err.error
    (c.in-Err.ensures.kinds (ap is_simple_and_free table_is ∙ is_free_line)) (c.refusal.ensures usage)

pub returns-in-Ok-clause-refused : goal.returns-in-Ok-clause-refused
returns-in-Ok-clause-refused c usage =
    let table_is : app_of c.in_ok-table.table ≡ command_line = c.in_ok-table.ensures in
    let found = c.in-Ok.ensures.matches (ap is_simple table_is ∙ is_simple_line) in
    none_where_unasked (app_of c.in_ok-table.table) table_is (map string_bytes c.args.words.now)
    (subcommand_rows_of c.in-Ok.matches) found.1 (sym c.in-None.ensures.asked)
