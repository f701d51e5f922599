use Rattle.std.proofs.Common.{sym, ap}
use Rattle.std.specs.Prelude.{◌==◌}
use Rattle.im_block.specs.declared.code.Exit.{Exit}
use Rattle.im_cut.specs.Blocks.{turns_to}
use Rattle.im_cut.proofs.Tables.{begins_same, begins_like}
use Rattle.im_cut.proofs.starts.begin_behind.Goals as goal

pub returns-in-Turn-clause-begins : goal.returns-in-Turn-clause-begins
returns-in-Turn-clause-begins c = begins_like (λ d. c.in-Turn.to == d) (turns_to c.args.exit) c.args.table.now c.begin.new.table (λ d. ap (λ (e : Exit). turns_to e d) (sym c.in-Turn.is)) c.begin.ensures.begins

pub returns-in-Jump-clause-begins : goal.returns-in-Jump-clause-begins
returns-in-Jump-clause-begins c = begins_same (turns_to c.args.exit) c.args.table.now (λ d. ap (λ (e : Exit). turns_to e d) c.in-Jump.is)

pub returns-in-Branch-clause-begins : goal.returns-in-Branch-clause-begins
returns-in-Branch-clause-begins c = begins_same (turns_to c.args.exit) c.args.table.now (λ d. ap (λ (e : Exit). turns_to e d) c.in-Branch.is)

pub returns-in-Return-clause-begins : goal.returns-in-Return-clause-begins
returns-in-Return-clause-begins c = begins_same (turns_to c.args.exit) c.args.table.now (λ d. ap (λ (e : Exit). turns_to e d) c.in-Return.is)
