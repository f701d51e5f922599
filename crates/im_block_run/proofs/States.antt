-- What is shown of states.
use Rattle.std.proofs.Common.{◌≡◌, ◌∙◌, ap, sym, subst, refl, List, reverse, [], ◌∷◌, ◌++◌}
use Rattle.std.specs.Prelude.{Result as Either}
use Rattle.std.proofs.lemmas.List.{reverse-append}
use Rattle.im_block.specs.declared.unit.Unit.{Unit as Blocks}
use Rattle.im_block.specs.Meaning as m
use Rattle.im_block.specs.Meaning.{Next, Goes, Stops}
use Rattle.im_block_run.specs.Shown.{IsFrame, AreFrames, IsState, Follows}
use Rattle.im_block_run.specs.declared.state.Frame.{Frame}
use Rattle.im_block_run.specs.declared.state.State.{State}
use Rattle.im_block_run.specs.declared.stop.Stop.{Stop}

-- the next of those that wait
pub last-first : (all left : List Frame) (f : Frame) → all ≡ left ++ f ∷ [] → reverse all ≡ f ∷ reverse left
last-first all left f e = ap reverse e ∙ reverse-append left (f ∷ [])

pub waits-more : (all left : List Frame) (f : Frame) (s : m.Frame) (ss : List m.Frame) → all ≡ left ++ f ∷ [] → IsFrame f s → AreFrames (reverse left) ss → AreFrames (reverse all) (s ∷ ss)
waits-more all left f s ss e one rest = subst (λ (fs : List Frame). AreFrames fs (s ∷ ss)) (sym (last-first all left f e)) (one, rest)

first-of : (f : Frame) (fs : List Frame) (ss : List m.Frame) → AreFrames (f ∷ fs) ss → (s : m.Frame) × (rest : List m.Frame) × (ss ≡ s ∷ rest) × IsFrame f s × AreFrames fs rest
first-of f fs [] h = absurd h
first-of f fs (s ∷ ss) h = (s, ss, refl, h.0, h.1)

pub none-waits : (ss : List m.Frame) → AreFrames [] ss → ss ≡ []
none-waits [] h = refl
none-waits (s ∷ ss) h = absurd h

pub first-waits : (all left : List Frame) (f : Frame) (ss : List m.Frame) → all ≡ left ++ f ∷ [] → AreFrames (reverse all) ss → (s : m.Frame) × (rest : List m.Frame) × (ss ≡ s ∷ rest) × IsFrame f s × AreFrames (reverse left) rest
first-waits all left f ss e h = first-of f (reverse left) ss (subst (λ (fs : List Frame). AreFrames fs ss) (last-first all left f e) h)

-- a state in which the frame changed
pub with-frame : (a : State) (s : m.State) (f : Frame) (t : m.Frame) → IsState a s → IsFrame f t → IsState (record a { frame = f }) (record s { frame = t })
with-frame a s f t h is = record {
  running = record { frame = is; callers = h.running.callers; input = h.running.input; output = h.running.output; fuel = h.running.fuel };
  begun = h.begun;
  held = h.held;
}

-- what follows an equal step
pub follows-as : {R : Type 0} (u : Blocks) (result : Either R Stop) (a : State) (x y : Next) → x ≡ y → Follows u result a y → Follows u result a x
follows-as u result a x y e h = subst (λ (r : Next). Follows u result a r) (sym e) h
