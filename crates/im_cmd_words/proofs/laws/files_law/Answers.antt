use Rattle.im_cmd_words.proofs.OperandLemmas.{build_files, check_files, dump_files, eval_files, exec_files, report_files, run_files, upgrade_files}
use Rattle.im_cmd_words.proofs.laws.files_law.Goals as goal

pub returns-clause-build : goal.returns-clause-build
returns-clause-build c = build_files

pub returns-clause-run : goal.returns-clause-run
returns-clause-run c = run_files

pub returns-clause-exec : goal.returns-clause-exec
returns-clause-exec c = exec_files

pub returns-clause-dump : goal.returns-clause-dump
returns-clause-dump c = dump_files

pub returns-clause-upgrade : goal.returns-clause-upgrade
returns-clause-upgrade c = upgrade_files

pub returns-clause-report : goal.returns-clause-report
returns-clause-report c = report_files

pub returns-clause-eval : goal.returns-clause-eval
returns-clause-eval c = eval_files

pub returns-clause-check : goal.returns-clause-check
returns-clause-check c = check_files
