-- What a section does is a walk.
use Rattle.std.proofs.Common.{◌≡◌, ◌≢◌, ℕ, zero, suc, ◌+◌, ◌<◌, ◌≤◌, ◌⊎◌, inl, inr, true, false, List, [], ◌∷◌, ◌++◌, length, refl, sym, ap, subst, ◌∙◌, arith}
use Rattle.std.specs.Prelude.{not}
use Rattle.im_rv.specs.declared.step.Went.{Went}
use Rattle.im_rv.specs.declared.step.Went.TheVariants.{On, Halted, Faulted}
use Rattle.im_rv.specs.Runs.{step_of}
use Rattle.im_replay_path.specs.Sections.{start}
use Rattle.im_replay_path.proofs.Times.{truth, start-calm}
use Rattle.im_ckpt.specs.Runs.{State, flip, ends, is_on}
use Rattle.im_replay.specs.Sections.{resume}
use Rattle.im_replay.specs.Replays.{GapAtMost}
use Rattle.im_gap.specs.declared.flow.Turn.{Turn}
use Rattle.im_gap.specs.declared.flow.Turn.TheVariants.{Passes, Jumps, Branches, Returns, Stops}
use Rattle.im_rv.specs.Code.{address, instruction_at}
use Rattle.im_gap.specs.Flow.{turn_of, imm_of, IsBehind, Leads, Flow, IsStaticWalk, IsResumeWord}
use Rattle.im_gap.specs.Gap.{IsGap}
use Rattle.im_gap.specs.Flows.{GoesAlong}
use Rattle.im_gap.proofs.Rows.{step_law}

data Kind (t : Turn) : Type 0 where
  A_return : t ≡ Returns → Kind t
  A_stop : t ≡ Stops → Kind t
  Other : t ≢ Returns → t ≢ Stops → Kind t

kind : (t : Turn) → Kind t
kind Passes = Other (λ q. cc) (λ q. cc)
kind Jumps = Other (λ q. cc) (λ q. cc)
kind Branches = Other (λ q. cc) (λ q. cc)
kind Returns = A_return refl
kind Stops = A_stop refl

is_on_then : (w : Went) → not (is_on w) ≡ false → w ≡ On
is_on_then On e = refl
is_on_then Halted e = absurd (let bad : true ≡ false = e in cc)
is_on_then (Faulted at) e = absurd (let bad : true ≡ false = e in cc)

-- a walk, one edge more at its end
abbrev last : ℕ → List ℕ → ℕ
last i [] = i
last i (j ∷ js) = last j js

goes_on : (words : List ℕ) (i : ℕ) (js : List ℕ) (j : ℕ) → IsStaticWalk words i js → Flow words (last i js) j → IsStaticWalk words i (js ++ j ∷ [])
goes_on words i [] j g f = (f, tt)
goes_on words i (k ∷ js) j g f = (g.0, goes_on words k js j g.1 f)

last_on : (i : ℕ) (js : List ℕ) (j : ℕ) → last i (js ++ j ∷ []) ≡ j
last_on i [] j = refl
last_on i (k ∷ js) j = last_on k js j

long_on : (js : List ℕ) (j : ℕ) → length (js ++ j ∷ []) ≡ suc (length js)
long_on [] j = refl
long_on (k ∷ js) j = ap (λ z. suc z) (long_on js j)

module _ (words : List ℕ) (entry k : ℕ) (run : ℕ → State) (a : GoesAlong words entry run) (g : IsGap words entry k) where
  -- one step within a section goes along an edge
  edge : (t i : ℕ) → resume (start (flip run) t) ≤ t → (run t).cpu.pc ≡ address i → i < length words → flip run t ≡ false → ends run t ≡ false → (j : ℕ) × Flow words i j × ((run (suc t)).cpu.pc ≡ address j)
  edge t i l p inside f e =
      let to = a.places (suc t) in
      let next : (step_of (run t).cpu (run t).mem).cpu.pc ≡ (run (suc t)).cpu.pc = sym (ap (λ (z : State). z.cpu.pc) (a.steps t)) in
      elim (kind (turn_of (instruction_at words i))) [
        | A_return r ↦ (
            let c = a.returns t i l p r in
            let same : c.0 ≡ to.0 = (let x = c.2 in let y = to.2 in omega arith) in
            let behind : IsBehind words 1 to.0 = subst (IsBehind words 1) same c.1 in
            (to.0, record { inside = to.1; leads = subst (λ (z : Turn). Leads words i to.0 (imm_of (instruction_at words i)) z) (sym r) behind }, to.2))
        | A_stop s ↦ absurd (elim (a.stops t i l p s) [
          | inl x ↦ (let bad : true ≡ false = sym x ∙ f in cc)
          | inr x ↦ (let bad : true ≡ false = sym x ∙ e in cc)
        ])
        | Other r s ↦ (to.0, step_law words (run t).cpu (run t).mem i to.0 a.few (a.code t) inside to.1 p (next ∙ to.2) (is_on_then (step_of (run t).cpu (run t).mem).went e) r s, to.2)
      ]

  Ending : ℕ → Type 0
  Ending s = (e : ℕ) × (start (flip run) e ≡ s) × (resume s ≤ e) × ((flip run e ≡ true) ⊎ (ends run e ≡ true)) × (e + 33 < resume s + k)

  -- after n steps from the resume word a walk of n edges, unless the section has come to its end
  walks : (s i : ℕ) → start (flip run) s ≡ s → IsResumeWord words entry i → (run (resume s)).cpu.pc ≡ address i → (n : ℕ) → Ending s ⊎ ((js : List ℕ) × (length js ≡ n) × IsStaticWalk words i js × ((run (n + resume s)).cpu.pc ≡ address (last i js)) × (start (flip run) (n + resume s) ≡ s) × (last i js < length words))
  unfolding Ending
  walks s i b r p zero =
      let q : resume s ≡ 0 + resume s = omega arith in
      inr ([], refl, tt, ap (λ (z : ℕ). (run z).cpu.pc) (sym q) ∙ p, ap (start (flip run)) (sym q) ∙ a.begins s b, r.inside)
  walks s i b r p (suc n) = elim (walks s i b r p n) [
    | inl e ↦ inl e
    | inr w ↦ (
        let t : ℕ = n + resume s in
        let q : suc t ≡ suc n + resume s = omega arith in
        let most = g.most i w.0 r w.2 in
        let long = w.1 in
        let near : t + 33 < resume s + k = omega arith in
        elim (truth (flip run t)) [
          | inl f ↦ inl (t, w.4, omega arith, inl f, near)
          | inr f ↦ elim (truth (ends run t)) [
            | inl e ↦ inl (t, w.4, omega arith, inr e, near)
            | inr e ↦ (
                let x = edge t (last i w.0) (subst (λ (z : ℕ). resume z ≤ t) (sym w.4) (omega arith)) w.3 w.5 f e in
                inr (
                  w.0 ++ x.0 ∷ [],
                  long_on w.0 x.0 ∙ ap (λ (z : ℕ). suc z) w.1,
                  goes_on words i w.0 x.0 w.2 x.1,
                  ap (λ (z : ℕ). (run z).cpu.pc) (sym q) ∙ x.2 ∙ ap address (sym (last_on i w.0 x.0)),
                  ap (start (flip run)) (sym q) ∙ start-calm (flip run) t f ∙ w.4,
                  subst (λ (z : ℕ). z < length words) (sym (last_on i w.0 x.0)) x.1.inside,
                ))
          ]
        ])
  ]

  bounded : (s : ℕ) → start (flip run) s ≡ s → Ending s
  bounded s b =
      let r = a.resumes s b in
      elim (walks s r.0 b r.2 r.1 k) [
        | inl e ↦ e
        | inr w ↦ absurd (let m = g.most r.0 w.0 r.2 w.2 in let l = w.1 in omega arith)
      ]

pub gap_law : (words : List ℕ) (entry k : ℕ) (run : ℕ → State) → GoesAlong words entry run → IsGap words entry k → GapAtMost run k
unfolding Ending
gap_law words entry k run a g = bounded words entry k run a g

pub one_gap_law : (words : List ℕ) (entry k l : ℕ) → IsGap words entry k → IsGap words entry l → k ≡ l
one_gap_law words entry k l a b =
    let x = a.most b.from b.walk b.resumes b.goes in
    let y = b.most a.from a.walk a.resumes a.goes in
    let p = a.reached in let q = b.reached in
    omega arith
