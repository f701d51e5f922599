-- Outcomes of a meaning that another refines.
use Rattle.std.proofs.Common.{◌≡◌, ℕ, sym, subst, ◌∙◌}
use Rattle.std.specs.Prelude.{ℤ, List}
use Rattle.im_num.specs.Variables.{Variable}
use Rattle.im_image.specs.Contents.{ImageValue}
use Rattle.im_device.specs.Shows.{output_of}
use Rattle.im_store.specs.Outcomes.{Outcome, End, IsDefined, Refines}
use Rattle.im_keeps.specs.Keeps.{Meaning, IsRightFor, Begins, output_in, device_after, EndsOn, KeepsOn}
use Rattle.im_keeps.specs.Laws.{RefinesMeaning, RefinedLaw}

-- an end of the source is an end of the target
end_of_target : (new old : Outcome) (reason : ℕ) (status : ℤ) (output : List ℕ) (variables : List Variable) → Refines new old → old ≡ End reason status output variables → new ≡ End reason status output variables
end_of_target new old reason status output variables r e = r (subst IsDefined (sym e) tt) ∙ e

right_of_target : (new old : Outcome) → Refines new old → IsDefined old → IsDefined new
right_of_target new old r d = subst IsDefined (sym (r d)) d

module _ (source target : Meaning) (r : RefinesMeaning target source) where
  target_is_right : (input : List ℕ) → IsRightFor source input → IsRightFor target input
  target_is_right input right fuel = right_of_target (target input fuel) (source input fuel) (r input fuel) (right fuel)

  same : (input : List ℕ) → IsRightFor source input → (fuel : ℕ) → target input fuel ≡ source input fuel
  same input right fuel = r input fuel (right fuel)

  ends_on_source : (input : List ℕ) → IsRightFor source input → EndsOn target input → EndsOn source input
  ends_on_source input right e = record {
    fuel = e.fuel;
    reason = e.reason;
    status = e.status;
    output = e.output;
    variables = e.variables;
    ends = sym (same input right e.fuel) ∙ e.ends;
  }

  moved : (front : List ℕ) (input : List ℕ) → IsRightFor source input → (fuel : ℕ) × Begins front (output_in (target input fuel)) → (fuel : ℕ) × Begins front (output_in (source input fuel))
  moved front input right b = (b.0, subst (λ o. Begins front (output_in o)) (same input right b.0) b.1)

  goes_on : (image : ImageValue) (gap : ℕ) (input : List ℕ) → IsRightFor source input → KeepsOn target image gap input → KeepsOn source image gap input
  goes_on image gap input right k = record {
    safe = k.safe;
    begins = λ periods. moved (output_of image.form (device_after image input periods).mem) input right (k.begins periods);
    ended = λ periods halted. ends_on_source input right (k.ended periods halted);
    grows = k.grows;
    commits = k.commits;
    reaches = λ fuel periods long. subst (λ o. Begins (output_in o) (output_of image.form (device_after image input periods).mem)) (same input right fuel) (k.reaches fuel periods long);
  }

pub refined : RefinedLaw
refined source target image gap r k = record {
  ending = λ input fuel reason status output variables is_input e.
      k.ending input fuel reason status output variables is_input (end_of_target (target input fuel) (source input fuel) reason status output variables (r input fuel) e);
  going_on = λ input is_input right. goes_on source target r image gap input right (k.going_on input is_input (target_is_right source target r input right));
}
