use Rattle.std.proofs.Common.{◌≡◌, ◌∙◌, [], ap, ap₂, codes, true}
use Rattle.std.proofs.lemmas.Result.{IfOk-weaker}
use Rattle.clap.specs.Simple.{app_of_fields}
use Rattle.clap.specs.Words.{App, app_of, new_app, with_subcommand}
use Rattle.im_cmd_words.specs.Table.{build_row, check_row, command_line, dump_row, eval_row, exec_row, gen_row, report_row, run_row, upgrade_row}
use Rattle.im_cmd_words.proofs.table.command_table.Goals as goal

-- a command must follow
abbrev asking : App → App
asking app = record app { top = record app.top { subcommand_required = true } }

abbrev empty : App
empty = record { top = record command_line.top { is_leaf = true }; subs = [] }

pub returns : goal.returns
returns c =
    let named : app_of c.after_help.result ≡ new_app (codes "intermit") =
    ap app_of_fields c.after_help.ensures ∙ ap app_of_fields c.about.ensures ∙ c.new.ensures.app in
    let start : app_of c.subcommand_required.result ≡ empty = ap app_of_fields c.subcommand_required.ensures ∙ ap asking named in
    let one : app_of c.in_ok-subcommand.field-0 ≡ with_subcommand empty build_row =
    c.in_ok-subcommand.ensures.shape c.in_ok-build_row.ensures.local ∙ ap₂ with_subcommand start c.in_ok-build_row.ensures.row in
    let two : app_of c.in_ok-subcommand-2.field-0 ≡ with_subcommand (with_subcommand empty build_row) run_row =
    c.in_ok-subcommand-2.ensures.shape c.in_ok-run_row.ensures.local ∙ ap₂ with_subcommand one c.in_ok-run_row.ensures.row in
    let three : app_of c.in_ok-subcommand-3.field-0 ≡ with_subcommand (with_subcommand (with_subcommand empty build_row) run_row) exec_row =
    c.in_ok-subcommand-3.ensures.shape c.in_ok-exec_row.ensures.local ∙ ap₂ with_subcommand two c.in_ok-exec_row.ensures.row in
    let four : app_of c.in_ok-subcommand-4.field-0 ≡ with_subcommand (with_subcommand (with_subcommand (with_subcommand empty build_row) run_row) exec_row) dump_row =
    c.in_ok-subcommand-4.ensures.shape c.in_ok-dump_row.ensures.local ∙ ap₂ with_subcommand three c.in_ok-dump_row.ensures.row in
    let five : app_of c.in_ok-subcommand-5.field-0 ≡ with_subcommand (with_subcommand (with_subcommand (with_subcommand (with_subcommand empty build_row) run_row) exec_row) dump_row) upgrade_row =
    c.in_ok-subcommand-5.ensures.shape c.in_ok-upgrade_row.ensures.local ∙ ap₂ with_subcommand four c.in_ok-upgrade_row.ensures.row in
    let six : app_of c.in_ok-subcommand-6.field-0 ≡ with_subcommand (with_subcommand (with_subcommand (with_subcommand (with_subcommand (with_subcommand empty build_row) run_row) exec_row) dump_row) upgrade_row) report_row =
    c.in_ok-subcommand-6.ensures.shape c.in_ok-report_row.ensures.local ∙ ap₂ with_subcommand five c.in_ok-report_row.ensures.row in
    let seven : app_of c.in_ok-subcommand-7.field-0 ≡ with_subcommand (with_subcommand (with_subcommand (with_subcommand (with_subcommand (with_subcommand (with_subcommand empty build_row) run_row) exec_row) dump_row) upgrade_row) report_row) eval_row =
    c.in_ok-subcommand-7.ensures.shape c.in_ok-eval_row.ensures.local ∙ ap₂ with_subcommand six c.in_ok-eval_row.ensures.row in
    let eight : app_of c.in_ok-subcommand-8.field-0 ≡ with_subcommand (with_subcommand (with_subcommand (with_subcommand (with_subcommand (with_subcommand (with_subcommand (with_subcommand empty build_row) run_row) exec_row) dump_row) upgrade_row) report_row) eval_row) gen_row =
    c.in_ok-subcommand-8.ensures.shape c.in_ok-gen_row.ensures.local ∙ ap₂ with_subcommand seven c.in_ok-gen_row.ensures.row in
    IfOk-weaker c.subcommand-9.result _ _ (λ m h. h.shape c.in_ok-check_row.ensures.local
    ∙ ap₂ with_subcommand eight c.in_ok-check_row.ensures.row) c.subcommand-9.ensures
