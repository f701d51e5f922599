-- What the run that never loses power has to show, for the image to keep it.
use Rattle.std.specs.Prelude.{◌≡◌, ℕ, ◌+◌, ◌*◌, ◌≤◌, true, List, [], ◌∷◌, length, ℤ}
use Rattle.im_num.specs.Variables.{Variable}
use Rattle.im_image.specs.declared.form.Form.TheVariants.{TwoLengths}
use Rattle.im_image.specs.Contents.{ImageValue, ObjectValue}
use Rattle.im_device.specs.Load.{memory_of}
use Rattle.im_device.specs.Shows.{output_of}
use Rattle.im_replay_path.specs.Sections.{flips}
use Rattle.im_ckpt.specs.Runs.{State, flip, ends}
use Rattle.im_replay.specs.Uninterrupted.{uninterrupted}
use Rattle.im_replay.specs.Compiled.{IsReplayable}
use Rattle.im_replay.specs.Replays.{GapAtMost}
use Rattle.im_replay.specs.Output.{ShowsSafely}
use Rattle.im_keeps.specs.Keeps.{Meaning, Begins, output_in, Shows, EndsOn, KeepsEnd, KeepsOn}

-- objects stand behind the register buffers
abbrev pub AreHigh : List ObjectValue → Type 0
AreHigh [] = Unit {0}
AreHigh (object ∷ others) = (384 ≤ object.at) × AreHigh others

-- the run of one endless period on this image and input
abbrev pub run_of : ImageValue → List ℕ → ℕ → State
run_of image input = uninterrupted (memory_of image input)

-- the image and its code have what the replay theorem asks
pub record IsReady (image : ImageValue) (input : List ℕ) (code : ℕ) : Type 0 where
  pub form : image.form ≡ TwoLengths
  pub objects : AreHigh image.objects
  pub compiled : IsReplayable (memory_of image input) code
  pub shows : ShowsSafely (run_of image input)

-- that run ends at this time, after at most c commits, and shows so much
pub record EndsShowing (image : ImageValue) (input : List ℕ) (time c reason : ℕ) (status : ℤ) (output : List ℕ) (variables : List Variable) : Type 0 where
  pub ended : ends (run_of image input) time ≡ true
  pub commits : (t : ℕ) → flips (flip (run_of image input)) t ≤ c
  pub shown : Shows image (run_of image input time).mem reason status output variables

abbrev pub EndKeptLaw : Type 0
EndKeptLaw = (image : ImageValue) (input : List ℕ) (code gap fuel time c reason : ℕ) (status : ℤ) (output : List ℕ) (variables : List Variable) → IsReady image input code
    → GapAtMost (run_of image input) gap → EndsShowing image input time c reason status output variables → c ≤ (2 * fuel + 1) * length image.words
    → KeepsEnd image gap input fuel reason status output variables

-- at this time that run shows so much, after at most c commits
pub record ShowsBy (image : ImageValue) (input : List ℕ) (c : ℕ) (output : List ℕ) : Type 0 where
  pub time : ℕ
  pub commits : flips (flip (run_of image input)) time ≤ c
  pub shown : output_of image.form (run_of image input time).mem ≡ output

-- what that run shows is always a part of what the source writes, and it ends only where the source does; what the source
-- writes with so much fuel is shown after few commits
pub record RunsAs (meaning : Meaning) (image : ImageValue) (input : List ℕ) : Type 0 where
  pub begins : (t : ℕ) → (fuel : ℕ) × Begins (output_of image.form (run_of image input t).mem) (output_in (meaning input fuel))
  pub ended : (t : ℕ) → ends (run_of image input) t ≡ true → EndsOn meaning input
  pub shows : (fuel : ℕ) → ShowsBy image input ((2 * fuel + 2) * length image.words) (output_in (meaning input fuel))

abbrev pub RunKeptLaw : Type 0
RunKeptLaw = (meaning : Meaning) (image : ImageValue) (input : List ℕ) (code gap : ℕ) → IsReady image input code → GapAtMost (run_of image input) gap → RunsAs meaning image input → KeepsOn meaning image gap input
