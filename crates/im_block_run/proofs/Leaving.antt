-- Exits: back to a caller, or the end of the run.
use Rattle.std.proofs.Common.{◌≡◌, ◌∙◌, ℕ, ap, sym, subst, List, [], ◌∷◌, ◌++◌, reverse, Bor}
use Rattle.std.specs.Prelude.{ℤ, Bool, Vec, if◌then◌else◌}
use Rattle.std.specs.declared.alloc.Global.{Global}
use Rattle.im_num.specs.Kinds.{wrap}
use Rattle.im_num.specs.declared.kind.Kind.TheVariants.{I32}
use Rattle.im_store.specs.declared.number.Number.{Number}
use Rattle.im_store.specs.declared.undefined.Undefined.{Undefined}
use Rattle.im_store.specs.Checks.{Checked, Fine, Bad}
use Rattle.im_store.specs.Objects as o
use Rattle.im_store.specs.Objects.{ends}
use Rattle.im_block.specs.declared.code.Exit.TheVariants.{Branch}
use Rattle.im_block.specs.declared.unit.Unit.{Unit as Blocks}
use Rattle.im_block.specs.Meaning as m
use Rattle.im_block.specs.Meaning.{Setting, Next, on_checked}
use Rattle.im_eval_store.specs.Living.{Holds}
use Rattle.im_block_run.specs.Shown.{plain, AreFrames, IsFrame, IsState, GoesTo, Halts}
use Rattle.im_block_run.specs.declared.state.Frame.{Frame}
use Rattle.im_block_run.specs.declared.state.State.{State}
use Rattle.im_block_run.specs.declared.stop.Stop.TheVariants as stop
use Rattle.im_block_run.proofs.Plain.{ended}
use Rattle.im_block_run.proofs.States.{first-waits, none-waits}

module _ (u : Blocks) (g : Setting) (a : State) (s : m.State) (h : IsState a s) (v : o.Value) where
  none-back : a.callers.items ≡ [] → s.callers ≡ []
  none-back e = none-waits s.callers (subst (λ (fs : List Frame). AreFrames (reverse fs) s.callers) e h.running.callers)

  -- main returned
  abbrev returning : Checked ℤ → Next
  returning c = on_checked c (λ z. m.Stops (m.ended u 0 (wrap I32 z) s) (m.Restores s.frame.active ∷ []))

  pub main-bad : (b : State) (why : Undefined) → a.callers.items ≡ [] → m.number_of v ≡ Bad why → Halts u (stop.Undefined why) b (m.back u g s.callers v s)
  main-bad b why e n = ([], ap (λ fs. m.back u g fs v s) (none-back e) ∙ ap returning n)

  pub main-returned : (callers : Vec Frame Global) (n status : Number) → a.callers.items ≡ [] → callers.items ≡ [] → m.number_of v ≡ Fine n.value → status.value ≡ wrap I32 n.value
      → Halts u (stop.Returned status) (record a { callers = callers }) (m.back u g s.callers v s)
  main-returned callers n status e none is same = (
    s,
    m.Restores s.frame.active ∷ [],
    ap (λ fs. m.back u g fs v s) (none-back e) ∙ ap returning is ∙ ap (λ z. m.Stops (m.ended u 0 z s) (m.Restores s.frame.active ∷ [])) (sym same),
    record {
      running = record {
        frame = h.running.frame;
        callers =
            subst (λ (fs : List Frame). AreFrames (reverse fs) s.callers) (sym none) (subst (λ (ss : List m.Frame). AreFrames [] ss) (sym (none-back e)) tt);
        input = h.running.input;
        output = h.running.output;
        fuel = h.running.fuel;
      };
      begun = h.begun;
      held = h.held;
    },
  )

  -- an activation returned to its caller
  pub returned-to : (b : State) (left : List Frame) (f new : Frame) → a.callers.items ≡ left ++ f ∷ [] → ((t : m.Frame) → IsFrame f t → IsFrame new (record t { registers = m.with_register t.registers f.to v })) → b.frame ≡ new
      → b.callers.items ≡ left → b.begun ≡ a.begun → b.input ≡ a.input → b.output ≡ a.output → b.fuel ≡ a.fuel → Holds b.memory a.begun (ends (plain s.store) a.frame.number)
      → GoesTo b (m.back u g s.callers v s)
  returned-to b left f new e set frame callers begun input output fuel held =
      let w = first-waits a.callers.items left f s.callers e h.running.callers in
      let t = w.0 in
      let back : m.Frame = record t { registers = m.with_register t.registers t.to v } in
      let number : s.frame.active.number ≡ a.frame.number = ap (λ (x : m.Active). x.number) h.running.frame.active in
      let there : Holds b.memory a.begun (plain (ends s.store s.frame.active.number)) =
      subst (λ n. Holds b.memory a.begun (plain (ends s.store n))) (sym number) (ended b.memory.activations.items a.begun a.frame.number s.store held) in (
        record s { frame = back; callers = w.1; store = ends s.store s.frame.active.number },
        m.Restores s.frame.active ∷ [],
        ap (λ fs. m.back u g fs v s) w.2,
        record {
          running = record {
            frame =
                subst (λ (x : Frame). IsFrame x back) (sym frame)
                (subst (λ (n : ℕ). IsFrame new (record t { registers = m.with_register t.registers n v })) (sym w.3.to) (set t w.3));
            callers = subst (λ (fs : List Frame). AreFrames (reverse fs) w.1) (sym callers) w.4;
            input = h.running.input ∙ sym (ap (λ (x : Bor (List ℕ)). x.now) input);
            output = h.running.output ∙ sym (ap (λ (x : Vec ℕ Global). x.items) output);
            fuel = h.running.fuel ∙ sym fuel;
          };
          begun = h.begun ∙ sym begun;
          held = subst (λ n. Holds b.memory n (plain (ends s.store s.frame.active.number))) (sym begun) there;
        },
      )

-- a branch
pub branches : (u : Blocks) (g : Setting) (s : m.State) (on x y : ℕ) (test : Bool) → m.condition s.store (s.frame.registers on) ≡ Fine test → m.leaves u g (Branch on x y) s ≡ m.goes_to u g (if test then x else y) s.fuel s
branches u g s on x y test e = ap (λ (c : Checked Bool). on_checked c (λ holds. m.goes_to u g (if holds then x else y) s.fuel s)) e

pub branches-bad : (u : Blocks) (g : Setting) (a : State) (s : m.State) (on x y : ℕ) (why : Undefined) → m.condition s.store (s.frame.registers on) ≡ Bad why → Halts u (stop.Undefined why) a (m.leaves u g (Branch on x y) s)
branches-bad u g a s on x y why e = ([], ap (λ (c : Checked Bool). on_checked c (λ holds. m.goes_to u g (if holds then x else y) s.fuel s)) e)
