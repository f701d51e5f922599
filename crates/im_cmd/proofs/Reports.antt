-- What is sent, as one text.
use Rattle.std.proofs.Common.{◌≡◌, ℕ, List, [], Result, Ok, Err, refl, sym, subst}
use Rattle.im_io.specs.Sink.{SinkState}
use Rattle.im_io.specs.Whole.{Sends, SentAll}
use Rattle.im_io.proofs.Pieces.{sent_none}
use Rattle.im_cmd_lines.specs.Refusals.{Refused, refusal_line}
use Rattle.im_cmd.specs.Outcome.{Got, whole, part, refused, done, Tells, refusal_told, told, first_cut, second_cut, refusal_status}
use Rattle.im_cmd.specs.Stages.{Finishes, TellsSecond, second_told, second_not_told}

pub got_of : (A F : Type 0) (text : List ℕ) (r : Result A F) (old new : SinkState) → Sends text r old new → Got text old new
got_of A F text (Ok sent) old new h = whole h
got_of A F text (Err fault) old new h = part h

pub tells_refusal : (r : Refused) (out err err' : SinkState) (status : ℕ) → status ≡ refusal_status r → Got (refusal_line r) err err' → Tells out out err err' (refused r) status
tells_refusal r out err err' status e h = subst (Tells out out err err' (refused r)) (sym e) (refusal_told r refl h)

-- a text was sent, or the second sink told that it wasn't
pub tells_text : (A F : Type 0) (text : List ℕ) (r : Result A F) (out out' err err' : SinkState) (status : ℕ) → Sends text r out out' → Finishes r err err' status → Tells out out' err err' (done text [] 0) status
tells_text A F text (Ok sent) out out' err err' status h k = subst (Tells out out' err err' (done text [] 0)) (sym k.1) (told text [] 0 h (subst (SentAll [] err) (sym k.0) (sent_none err)))
tells_text A F text (Err fault) out out' err err' status h k = subst (Tells out out' err err' (done text [] 0)) (sym k.1) (first_cut text [] 0 h k.0)

-- a text for the second sink alone
pub tells_second : (text : List ℕ) (status : ℕ) (out err err' : SinkState) (ended : ℕ) → TellsSecond text status err err' ended → Tells out out err err' (done [] text status) ended
tells_second text status out err err' ended (second_told h) = told [] text status (sent_none out) h
tells_second text status out err err' ended (second_not_told h) = second_cut [] text status (sent_none out) h
