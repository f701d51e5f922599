use Rattle.std.proofs.Common.{inl, inr, refl}
use Rattle.im_io.proofs.mem_sink.MemSinkSink.write.Goals.{then-is_refused-via-then-is_refused, then-is_refused-via-else-is_refused+then-nothing_fits}
use Rattle.im_io.proofs.mem_sink.MemSinkSink.write.Goals as goal

pub returns-then-is_refused-clause-refused : goal.returns-then-is_refused-clause-refused
returns-then-is_refused-clause-refused c = rw (← c.self.view_is) (
  λ _. elim c.then-is_refused.branch [
    | then-is_refused-via-then-is_refused w ↦ inl (c.is_refused.ensures.refused.0 w.if-is_refused.true)
    | then-is_refused-via-else-is_refused+then-nothing_fits w ↦ inr (rw (c.capacity.ensures, c.len.ensures, c.self.inside.bytes.ok.0) at (w.nothing_fits.ensures.0 w.if-nothing_fits.true))
  ],
  λ _. refl,
)
