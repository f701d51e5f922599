-- Cases that end, and texts without a blank in front.
use Rattle.std.proofs.Common.{◌≡◌, ◌≢◌, ℕ, ◌==◌, List, [], ◌∷◌, Option, Some, None, Result, MatchResult, unwrap_or, refl, sym, ap, subst, inr, ◌∙◌}
use Rattle.std.specs.Option.{ok_or}
use Rattle.std.proofs.lemmas.Option.{none-some}
use Rattle.im_trial.specs.declared.case.Case.{Case}
use Rattle.im_trial.specs.declared.stop.Stop.{Stop}
use Rattle.im_trial.specs.declared.stop.Stop.TheVariants.{Row, Memory}
use Rattle.im_trial.specs.Finding.{EndsUnless, Finds, IsEnded, first_stop, without_blank}
use Rattle.im_trial.proofs.Tests.{other, same_of}

pub no_blank : (text : List ℕ) → ((rest : List ℕ) → text ≢ 32 ∷ rest) → without_blank text ≡ text
no_blank [] h = refl
no_blank (byte ∷ bytes) h = other (byte == 32) bytes (byte ∷ bytes) (λ e. h bytes (ap (λ b. b ∷ bytes) (same_of byte 32 e)))

not_none : (ended : Option Stop) (stop : Stop) → first_stop ended stop ≡ None → ⊥
not_none None stop e = none-some stop (sym e)
not_none (Some first) stop e = none-some first (sym e)

-- a case that is ended for want of memory has found whatever text, since it has ended
pub end_finds : (text : List ℕ) (before after : Case) → after.stop ≡ first_stop before.stop Memory → Finds text before after
end_finds text before after h = record {
  found = λ e. absurd (not_none before.stop Memory (sym h ∙ e));
  ended = λ first e. h ∙ subst (λ ended. first_stop ended Memory ≡ Some first) (sym e) refl;
  why = λ e. inr (h ∙ ap (λ ended. first_stop ended Memory) e);
}

-- a value that is read, or nothing
pub value_read : {T : Type 0} (said : Option T) (read : Result T Stop) (value nothing : T) → read ≡ ok_or said Row → MatchResult read (λ v. value ≡ v) (λ _. value ≡ nothing) → value ≡ unwrap_or said nothing
value_read None read value nothing e h = subst (λ r. MatchResult r (λ v. value ≡ v) (λ _. value ≡ nothing)) e h
value_read (Some v) read value nothing e h = subst (λ r. MatchResult r (λ v. value ≡ v) (λ _. value ≡ nothing)) e h

pub case_read : {T : Type 0} (said : Option T) (read : Result T Stop) (before after : Case) → read ≡ ok_or said Row → MatchResult read (λ _. after ≡ before) (λ stop. IsEnded stop before after) → EndsUnless said before after
case_read None read before after e h = subst (λ r. MatchResult r (λ _. after ≡ before) (λ stop. IsEnded stop before after)) e h
case_read (Some v) read before after e h = subst (λ r. MatchResult r (λ _. after ≡ before) (λ stop. IsEnded stop before after)) e h
