use Rattle.im_cmd_words.proofs.BuildingLemmas.{build_options, eval_building, report_options, run_building}
use Rattle.im_cmd_words.proofs.laws.building_law.Goals as goal

pub returns-clause-build : goal.returns-clause-build
returns-clause-build c = build_options

pub returns-clause-run : goal.returns-clause-run
returns-clause-run c = run_building

pub returns-clause-report : goal.returns-clause-report
returns-clause-report c = report_options

pub returns-clause-eval : goal.returns-clause-eval
returns-clause-eval c = eval_building
