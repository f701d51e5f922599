use Rattle.im_trial_top.proofs.meanings.tell_meaning.Goals as goal

pub eval_framed-requires-clause-typed : goal.eval_framed-requires-clause-typed
eval_framed-requires-clause-typed c = c.requires.typed

pub eval_framed-requires-clause-known : goal.eval_framed-requires-clause-known
eval_framed-requires-clause-known c = record { statics = c.requires.known.statics; objects = c.requires.known.objects }
