-- What a case finds, and what it is read by.
use denote.Bor.{Bor}
use Rattle.std.specs.Prelude.{◌≡◌, ℕ, ◌==◌, ◌⊎◌, List, [], ◌∷◌, ◌++◌, codes, length, nat_lt, Option, Some, None, string_bytes, if◌then◌else◌}
use Rattle.std.specs.List.{position_or_len, before_first, after_first}
use Rattle.im_trial.specs.declared.case.Case.{Case}
use Rattle.im_trial.specs.declared.stop.Stop.{Stop}
use Rattle.im_trial.specs.declared.stop.Stop.TheVariants.{Row, Memory, Files}

-- a text without the blank in front of it
abbrev pub without_blank : List ℕ → List ℕ
without_blank [] = []
without_blank (byte ∷ bytes) = if byte == 32 then bytes else byte ∷ bytes

abbrev pub found_in : Option Stop → List ℕ → List ℕ
found_in None text = without_blank text
found_in (Some Row) text = codes "no case"
found_in (Some Memory) text = codes "out of memory"
found_in (Some Files) text = codes "no file"

-- what a case finds in all: one that ended early finds why
abbrev pub found_of : Case → List ℕ
found_of case = found_in case.stop (string_bytes case.text)

-- what ended a case first is why it ended
abbrev pub first_stop : Option Stop → Stop → Option Stop
first_stop None stop = Some stop
first_stop (Some first) stop = Some first

-- a case is ended, and has found no more
pub record IsEnded (stop : Stop) (before after : Case) : Type 0 where
  pub same : after.text ≡ before.text
  pub why : after.stop ≡ first_stop before.stop stop

-- a text is found behind what was found before, or the case ends; what ended it before is why it ended, and else memory ran out
pub record Finds (text : List ℕ) (before after : Case) : Type 0 where
  pub found : after.stop ≡ None → string_bytes after.text ≡ string_bytes before.text ++ text
  pub ended : (stop : Stop) → before.stop ≡ Some stop → after.stop ≡ Some stop
  pub why : before.stop ≡ None → (after.stop ≡ None) ⊎ (after.stop ≡ Some Memory)

-- why nothing was made of what a row says: memory ran out, or the row says nothing
abbrev pub Refuses : {T : Type 0} → Option T → Stop → Type 0
Refuses said Memory = Unit
Refuses said Row = said ≡ None
Refuses said Files = ⊥

-- a case ends for its row where that says nothing, and else stays as it is
abbrev pub EndsUnless : {T : Type 0} → Option T → Case → Case → Type 0
EndsUnless None before after = IsEnded Row before after
EndsUnless (Some said) before after = after ≡ before

-- what a row says is made, and the case stays as it is; or nothing is, and it ends
abbrev pub Reads : {T : Type 0} → Option (List T) → List T → Case → Case → Type 0
Reads said made before after = ((said ≡ Some made) × (after ≡ before)) ⊎ ((made ≡ []) × ((stop : Stop) × Refuses said stop × IsEnded stop before after))

-- the texts before and behind the first such byte; none where there is no such byte
abbrev pub parted_at : ℕ → List ℕ → Option (List ℕ × List ℕ)
parted_at mark text = if nat_lt (position_or_len (λ byte. byte == mark) text) (length text) then Some (before_first (λ byte. byte == mark) text, after_first (λ byte. byte == mark) text) else None

abbrev pub Parts : Option (List ℕ × List ℕ) → Bor (List ℕ) × Bor (List ℕ) → Type 0
Parts None made = (made.0.now ≡ []) × (made.1.now ≡ [])
Parts (Some parts) made = (made.0.now ≡ parts.0) × (made.1.now ≡ parts.1)
