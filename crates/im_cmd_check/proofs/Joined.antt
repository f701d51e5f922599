-- Two texts sent one after the other.
use Rattle.std.proofs.Common.{ℕ, List, [], ◌++◌, Result, Ok, Err, subst}
use Rattle.std.proofs.lemmas.List.{append-nil}
use Rattle.im_io.specs.Sink.{SinkState}
use Rattle.im_io.specs.Whole.{SentAll, SentFirst, Sends}
use Rattle.im_io.proofs.Pieces.{sent_none, sent_then, first_then}

-- the first text failed
pub first_sent : (xs ys : List ℕ) (a b : SinkState) → SentFirst xs a b → SentFirst (xs ++ ys) a b
first_sent xs ys a b h = first_then [] xs ys a a b (sent_none a) h

-- the first text was sent, and then the second, or the first bytes of it
pub sends_then : (A F : Type 0) (xs ys : List ℕ) (r : Result A F) (a b c : SinkState) → SentAll xs a b → Sends ys r b c → Sends (xs ++ ys) r a c
sends_then A F xs ys (Ok done) a b c h k = sent_then xs ys a b c h k
sends_then A F xs ys (Err fault) a b c h k = subst (λ v. SentFirst (xs ++ v) a c) (append-nil ys) (first_then xs ys [] a b c h k)
