-- A well-typed program's ends are right.
use Rattle.std.proofs.Common.{ℕ, ◌<◌, List, [], ◌∷◌}
use Rattle.std.specs.Prelude.{All}
use Rattle.std.proofs.lemmas.List.Elements.{All-head, All-tail}
use Rattle.im_typed.specs.Laws.{EndLaw}
use Rattle.im_typed.specs.Typing.{Each}
use Rattle.im_keeps_source.specs.Laws.{SourceLaw}

each_of : (P : ℕ → Type 0) (xs : List ℕ) → All P xs → Each P xs
each_of P [] h = tt
each_of P (x ∷ xs) h = (All-head P x xs h, each_of P xs (All-tail P x xs h))

pub right : EndLaw → SourceLaw
right ends prog typed = record {
  ends = λ g n fits.
      ends (record { prog = prog; frames = g.frames; stack = g.stack; capacity = g.capacity }) g.input n typed (each_of (λ byte. byte < 256) g.input fits.bytes);
}
