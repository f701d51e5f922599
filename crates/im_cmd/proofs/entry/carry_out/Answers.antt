use Rattle.std.proofs.Common.{subst}
use Rattle.im_cmd_words.specs.Named.{HasBounds}
use Rattle.im_cmd.proofs.entry.carry_out.Goals as goal

pub build_source-requires : goal.build_source-requires
build_source-requires g c = subst HasBounds c.in-Build.is c.requires

pub run_source-requires : goal.run_source-requires
run_source-requires g c = subst HasBounds c.in-Run.is c.requires

pub report-requires : goal.report-requires
report-requires g c = subst HasBounds c.in-Report.is c.requires

pub evaluate_source-requires : goal.evaluate_source-requires
evaluate_source-requires g c = subst HasBounds c.in-Eval.is c.requires

pub returns-in-Build : goal.returns-in-Build
returns-in-Build g c = rw c.in-Build.is c.build_source.ensures

pub returns-in-Run : goal.returns-in-Run
returns-in-Run g c = rw c.in-Run.is c.run_source.ensures

pub returns-in-Exec : goal.returns-in-Exec
returns-in-Exec g c = rw c.in-Exec.is c.execute.ensures

pub returns-in-Dump : goal.returns-in-Dump
returns-in-Dump g c = rw c.in-Dump.is c.dump.ensures

pub returns-in-Upgrade : goal.returns-in-Upgrade
returns-in-Upgrade g c = rw c.in-Upgrade.is c.upgrade.ensures

pub returns-in-Report : goal.returns-in-Report
returns-in-Report g c = rw c.in-Report.is c.report.ensures

pub returns-in-Eval : goal.returns-in-Eval
returns-in-Eval g c = rw c.in-Eval.is c.evaluate_source.ensures

pub returns-in-Gen : goal.returns-in-Gen
returns-in-Gen g c = rw c.in-Gen.is (c.generate_and_run.ensures (g.H.Shelf.state c.args.shelf.now))

pub returns-in-Check : goal.returns-in-Check
returns-in-Check g c = rw c.in-Check.is c.check_source.ensures
