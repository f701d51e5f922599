use Rattle.std.proofs.Common.{rules}
use Rattle.im_cmd_lines.specs.Refusals.{refused_of}
use Rattle.im_cmd.specs.Runs.{no_trace, trace_unread}
use Rattle.im_cmd.proofs.Stages.{trace_starved}
use Rattle.im_cmd.proofs.running.read_trace_file.Goals as goal

pub returns-in-Err : goal.returns-in-Err
returns-in-Err g c = trace_unread (refused_of c.in-Err.refusal) c.in-Err.ensures

pub returns-in-Err-OutOfMemory : goal.returns-in-Err-OutOfMemory
returns-in-Err-OutOfMemory g c = trace_starved _ c.in-Ok.text.items _ _ c.in-Ok.ensures

pub returns : goal.returns
returns g c = no_trace c.in-Ok.text.items c.in-Err-read_trace.fault c.in-Ok.ensures (search rules)
