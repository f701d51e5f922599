use Rattle.std.proofs.Common.{rules}
use Rattle.im_io.proofs.Pieces.{sent_none}
use Rattle.im_cmd_lines.specs.Refusals.{refused_of}
use Rattle.im_cmd_words.specs.Named.{default_building}
use Rattle.im_cmd.specs.Answers.{check_unread, check_starved, check_refused, checked}
use Rattle.im_cmd.specs.Builds.{source_limit}
use Rattle.im_cmd.specs.Outcome.{told}
use Rattle.im_cmd.proofs.Builds.{compiles_of, is_built_of, faulty}
use Rattle.im_cmd.proofs.Refusing.{unchanged_read}
use Rattle.im_cmd.proofs.Reports.{tells_refusal, tells_second}
use Rattle.im_cmd.proofs.checking.check_source.Goals as goal

pub returns-in-Err : goal.returns-in-Err
returns-in-Err g c = record {
  outcome = _;
  comes = check_unread _ (refused_of c.in-Err.refusal) c.in-Err.ensures.read;
  tells = tells_refusal _ _ _ _ _ c.tell_refusal.ensures.status c.tell_refusal.ensures.err;
}

pub returns-in-Ok-compile_named : goal.returns-in-Ok-compile_named
returns-in-Ok-compile_named g c =
    let built = is_built_of c.in-Ok.text.items default_building c.in-Ok-compile_named.field-0 (search rules) (rw c.deref.ensures.value at c.in-Ok-compile_named.ensures) in
    record {
      outcome = _;
      comes = checked _ c.in-Ok-compile_named.field-0 (compiles_of _ _ _ _ _ _ c.in-Ok.ensures.read built);
      tells = told _ _ 0 (sent_none _) (sent_none _);
    }

pub returns-in-OutOfMemory : goal.returns-in-OutOfMemory
returns-in-OutOfMemory g c = record {
  outcome = _;
  comes = check_starved _ (unchanged_read _ _ source_limit _ _ c.in-Ok.ensures.read);
  tells = tells_refusal _ _ _ _ _ c.tell_refusal-in-OutOfMemory.ensures.status c.tell_refusal-in-OutOfMemory.ensures.err;
}

pub returns : goal.returns
returns g c =
    let refused = c.in-Err-compile_named.refused in
    let told = rw c.deref.ensures.value at c.in-Err-compile_named.ensures in
    let wrong = faulty c.in-Ok.text.items refused.fault (search rules) told.is_fault in
    record {
      outcome = _;
      comes = check_refused _ _ refused.fault refused.subject c.in-Ok.ensures.read wrong told.is_subject;
      tells = tells_second _ 3 _ _ _ _ (rw c.deref-in_default.ensures.value at c.tell_fault.ensures);
    }
