-- Where runs of bytes end.
use Rattle.std.specs.Prelude.{ℕ, ◌≡◌, ◌+◌, ◌-◌, ◌≤◌, ◌<◌, List, length, slice_index, drop}
use Rattle.im_lex.specs.Bytes.{GoesOn}
use Rattle.im_lex.specs.Pieces.{ClosesAt}
use Rattle.im_tok.specs.Literals.{AreElements, elements_length, NoElement, Refused}
use Rattle.im_tok.specs.declared.literal.Element.{Element}
use Rattle.im_tok.specs.declared.literal.ElementFault.{ElementFault}

-- the first n bytes have the property, and the next hasn't
pub record IsRun (Has : ℕ → Type 0) (text : List ℕ) (n : ℕ) : Type 0 where
  pub within : n ≤ length text
  pub each : (i : ℕ) → i < n → Has (slice_index text i)
  pub stops : n < length text → Has (slice_index text n) → ⊥

-- each of the first n bytes goes on the number before it, and the next doesn't
pub record IsNumberEnd (text : List ℕ) (n : ℕ) : Type 0 where
  pub some : 0 < n
  pub within : n ≤ length text
  pub each : (i : ℕ) → 0 < i → i < n → GoesOn (slice_index text (i - 1)) (slice_index text i)
  pub stops : n < length text → GoesOn (slice_index text (n - 1)) (slice_index text n) → ⊥

-- the first `*/` from the third byte on ends at n
pub record IsCommentEnd (text : List ℕ) (n : ℕ) : Type 0 where
  pub some : 4 ≤ n
  pub within : n ≤ length text
  pub closed : ClosesAt text (n - 2)
  pub first : (i : ℕ) → 2 ≤ i → i + 2 < n → ClosesAt text i → ⊥

-- the elements behind the quote, up to where no other stands
pub record ElementsEnd (quote : ℕ) (text : List ℕ) (end count : ℕ) (fault : ElementFault) : Type 0 where
  pub elements : List Element
  pub read : AreElements quote (drop 1 text) elements
  pub place : end ≡ elements_length elements + 1
  pub counted : count ≡ length elements
  pub within : end ≤ length text
  pub none : NoElement quote (drop end text)
  pub refused : Refused fault quote (drop end text)
