-- A function is entered, or not.
use Rattle.std.proofs.Common.{◌≡◌, ℕ, zero, suc, ◌+◌, ◌<◌, ◌≤◌, List, [], ◌∷◌, map, take, length, refl, sym, ap, ◌∙◌, subst, arith, Ok, Err}
use Rattle.std.specs.Prelude.{Some, None, slice_get, sum_by, nat_le, Bool}
use Rattle.std.proofs.lemmas.Bool.{le-leb, leb-true}
use Rattle.std.proofs.lemmas.List.Sums.{sum_by-cons}
use Rattle.im_store.specs.declared.undefined.Undefined.TheVariants.{MissingResult}
use Rattle.im_store.specs.Objects as o
use Rattle.im_eval_store.proofs.Finding.{by-test}
use Rattle.im_typed.specs.Program.{Func}
use Rattle.im_typed.specs.Runs.{State, Answer, Gives, Stops, Exhausts, either, exhaust}
use Rattle.im_typed.specs.Programs.{Setting, entering, first_object, frame_of}
use Rattle.im_eval_machine.specs.declared.code.Layout.{Layout}
use Rattle.im_eval_machine.specs.declared.here.Here.{Here}
use Rattle.im_eval_machine.specs.declared.machine.Machine.{Machine}
use Rattle.im_eval_machine.specs.declared.stopped.Stopped.TheVariants.{Undefined, StackExhausted}
use Rattle.im_eval_machine.specs.Activations.{Entered, entered, begin_in, enter_one, enters_function}
use Rattle.im_eval_machine.specs.Begun.{HasBegun}
use Rattle.im_eval_machine.specs.Settings.{ArePlans, AreLayouts, local_shapes}
use Rattle.im_eval_machine.specs.Shown.{IsStep}
use Rattle.im_eval_machine.specs.Small.{small_func}

pub no-function : (first : ℕ) (fs : List Func) (ls : List Layout) (k : ℕ) → AreLayouts first fs ls → slice_get ls k ≡ None → slice_get (map small_func fs) k ≡ None
no-function first [] [] k are e = refl
no-function first [] (l ∷ ls) k are e = absurd are
no-function first (f ∷ fs) [] k are e = absurd are
no-function first (f ∷ fs) (l ∷ ls) zero are e = absurd (cc)
no-function first (f ∷ fs) (l ∷ ls) (suc k) are e = no-function (first + length f.objects) fs ls k are.2 e

-- the function of a layout
pub record IsLaidAt (first k : ℕ) (fs : List Func) (l : Layout) (f : Func) : Type 0 where
  pub there : slice_get (map small_func fs) k ≡ Some f
  pub plans : ArePlans (local_shapes f.objects) l.plans.items
  pub begins : l.first ≡ first + sum_by (λ (g : Func). length g.objects) (take k (map small_func fs))

pub the-function : (first : ℕ) (fs : List Func) (ls : List Layout) (k : ℕ) (l : Layout) → AreLayouts first fs ls → slice_get ls k ≡ Some l → (f : Func) × IsLaidAt first k fs l f
the-function first [] [] k l are e = absurd (cc)
the-function first [] (m ∷ ls) k l are e = absurd are
the-function first (f ∷ fs) [] k l are e = absurd are
the-function first (f ∷ fs) (m ∷ ls) zero l are e =
    let same : m ≡ l = cc in (
      small_func f,
      record {
        there = refl;
        plans = subst (λ (x : Layout). ArePlans (local_shapes f.objects) x.plans.items) same are.1;
        begins = sym (ap (λ (x : Layout). x.first) same) ∙ are.0 ∙ plus first;
      },
    )
  where
    plus : (n : ℕ) → n ≡ n + 0
    plus n = omega arith
the-function first (f ∷ fs) (m ∷ ls) (suc k) l are e =
    let r = the-function (first + length f.objects) fs ls k l are.2 e in
    let begins = r.1.begins in (
      r.0,
      record {
        there = r.1.there;
        plans = r.1.plans;
        begins = begins ∙ plus first (length f.objects) (sum_by (λ (g : Func). length g.objects) (take k (map small_func fs)))
            ∙ ap (λ n. first + n) (sym (sum_by-cons (λ (g : Func). length g.objects) (small_func f) (take k (map small_func fs))));
      },
    )
  where
    plus : (a b c : ℕ) → (a + b) + c ≡ a + (b + c)
    plus a b c = omega arith

module _ (g : Setting) (k : ℕ) (args : List o.Value) where
  pub misses : (m : Machine) → slice_get g.prog.funcs k ≡ None → IsStep {R = Here} entered (Err (Undefined MissingResult)) m m (enters_function g k args)
  misses m e = record { fuel = omega arith; ends = λ s h. ap (λ f. enter_one g k f args s) e }

  full : (f : Func) (s : State) → g.stack < s.world.depth + frame_of g k → enter_one g k (Some f) args s ≡ Stops (Exhausts s.world.output s.world.store)
  full f s lt =
      by-test (nat_le (s.world.depth + frame_of g k) g.stack)
      (λ t. absurd (let le = leb-true (s.world.depth + frame_of g k) g.stack t in omega arith))
      (λ t. ap (λ (b : Bool). either b (begin_in g k f args s.world) exhaust s) t)

  pub is-full : (m : Machine) (f : Func) → slice_get g.prog.funcs k ≡ Some f → g.stack < m.depth + frame_of g k → IsStep {R = Here} entered (Err StackExhausted) m m (enters_function g k args)
  is-full m f e lt = record {
    fuel = omega arith;
    ends = λ s h. (
      s.world.store,
      ap (λ r. enter_one g k r args s) e ∙ full f s (subst (λ d. g.stack < d + frame_of g k) (sym h.depth) lt)
          ∙ ap (λ (bytes : List ℕ). let r : Answer Entered = Stops (Exhausts bytes s.world.store) in r) h.output,
      h.held,
    );
  }

  room : (f : Func) (s : State) → s.world.depth + frame_of g k ≤ g.stack → enter_one g k (Some f) args s ≡ begin_in g k f args s.world s
  room f s le = ap (λ (b : Bool). either b (begin_in g k f args s.world) exhaust s) (le-leb (s.world.depth + frame_of g k) g.stack le)

  abbrev arrives : Func → State → ℕ → ℕ → ℕ → Answer Entered
  arrives f s a d n = Gives (record { activation = a; depth = d; first = n }) (record { world = entering a d n f args s.world; fuel = s.fuel })

  pub has-room : (old new : Machine) (f : Func) (l : Layout) (depth : ℕ) (here : Here) → slice_get g.prog.funcs k ≡ Some f → ArePlans (local_shapes f.objects) l.plans.items → l.first ≡ first_object g.prog k → depth ≡ old.depth + frame_of g k → depth ≤ g.stack
      → new.fuel ≡ old.fuel → HasBegun l depth args old new here → IsStep entered (Ok here) old new (enters_function g k args)
  has-room old new f l depth here e plans begins deep fits fuel begun = record {
    fuel = omega arith;
    ends = λ s h.
        let d : s.world.depth + frame_of g k ≡ depth = ap (λ n. n + frame_of g k) h.depth ∙ sym deep in (
          record { world = entering (suc old.activations) depth l.first f args s.world; fuel = s.fuel },
          begun.held f s plans h,
          ap (λ r. enter_one g k r args s) e ∙ room f s (subst (λ n. n ≤ g.stack) (sym d) fits)
              ∙ ap (λ n. arrives f s (suc n) (s.world.depth + frame_of g k) (first_object g.prog k)) h.activations
              ∙ ap (λ n. arrives f s (suc old.activations) n (first_object g.prog k)) d
              ∙ ap (λ n. arrives f s (suc old.activations) depth n) (sym begins)
              ∙ ap (λ x. let r : Answer Entered = Gives x (record { world = entering (suc old.activations) depth l.first f args s.world; fuel = s.fuel }) in r) (sym begun.here_is),
        );
  }
