use Rattle.im_cmd_words.proofs.MemoryLemmas.{exec_memories, run_memories}
use Rattle.im_cmd_words.proofs.laws.memories_law.Goals as goal

pub returns-clause-exec : goal.returns-clause-exec
returns-clause-exec c = exec_memories

pub returns-clause-run : goal.returns-clause-run
returns-clause-run c = run_memories
