-- Stores at INDEX are among the flips that are heard of a run, and these among the cuts of the code's run.
use Rattle.std.proofs.Common.{◌≡◌, ◌≢◌, ℕ, zero, suc, ◌+◌, ◌≤◌, Bool, true, false, cond, List, [], ◌∷◌, ◌++◌, Option, Some, None, refl, sym, ap, ◌∙◌, subst, arith}
use Rattle.std.specs.Prelude.{◌==◌, ◌&&◌, replicate}
use Rattle.std.proofs.lemmas.Bool.{eqb-true, and_parts}
use Rattle.im_mem.specs.Memory.{Mem, is_place, loaded, stored}
use Rattle.im_mem.specs.Map.{index_at}
use Rattle.im_rv.specs.declared.step.Went.{Went}
use Rattle.im_rv.specs.declared.step.Went.TheVariants.{On, Halted, Faulted}
use Rattle.im_rv.specs.declared.effect.Effect.{Effect}
use Rattle.im_rv.specs.declared.effect.Effect.TheVariants.{Puts, Goes, Loads, Stores, Stops}
use Rattle.im_rv.specs.Steps.{Cpu, sum_of, faulted, effected}
use Rattle.im_rv.specs.Decode.{Line, decode}
use Rattle.im_rv.specs.Runs.{decoded, fetched, step_of}
use Rattle.im_rv.specs.Effects.{decoded_word, effect, effect_by, stores_word}
use Rattle.im_rv_reach.specs.Touches.{Touch, Loaded, Stored, Flipped, touch_of, line_touches, word_touches, touches, touched_on, touched, is_system, heard}
use Rattle.im_ckpt.specs.Runs.{State, effect_at, IsRun, ends}
use Rattle.im_replay.proofs.Bridge.{over_of}
use Rattle.im_keeps_until.proofs.Still.{still}
use Rattle.im_keeps_passes.specs.Machine.{stores_before}
use Rattle.im_block.specs.Meaning.{Event}
use Rattle.im_select_relation.specs.Linking.{Linking}
use Rattle.im_select_relation.specs.Law.{Touches, Nothing, Reading, Writing, Testing, Saving, Restoring, Serving, Cutting}
use Rattle.im_select_executes.proofs.Cuts.{passed_cuts}

abbrev bit : Bool → ℕ
bit b = cond b 1 0

-- flips of a list of touches, and those that are heard of one
abbrev flipped : List Touch → ℕ
flipped [] = 0
flipped (Loaded a n ∷ ts) = flipped ts
flipped (Stored a n ∷ ts) = flipped ts
flipped (Flipped ∷ ts) = 1 + flipped ts

abbrev hits : List Touch → ℕ
hits [] = 0
hits (Loaded a n ∷ ts) = hits ts
hits (Stored a n ∷ ts) = cond (is_system a) (bit (a == index_at)) 0 + hits ts
hits (Flipped ∷ ts) = 1 + hits ts

hits_append : (xs ys : List Touch) → hits (xs ++ ys) ≡ hits xs + hits ys
hits_append [] ys = omega arith
hits_append (Loaded a n ∷ xs) ys = hits_append xs ys
hits_append (Stored a n ∷ xs) ys = let h = hits_append xs ys in omega arith
hits_append (Flipped ∷ xs) ys = let h = hits_append xs ys in omega arith

heard_load : (b : Bool) (a n : ℕ) (ts : List Touch) → flipped (cond b ts (Loaded a n ∷ ts)) ≡ flipped ts
heard_load true a n ts = refl
heard_load false a n ts = refl

heard_store : (b c : Bool) (a n : ℕ) (ts : List Touch) → flipped (cond b (cond c (Flipped ∷ ts) ts) (Stored a n ∷ ts)) ≡ cond b (bit c) 0 + flipped ts
heard_store true true a n ts = refl
heard_store true false a n ts = omega arith
heard_store false c a n ts = omega arith

hits_heard : (ts : List Touch) → flipped (heard ts) ≡ hits ts
hits_heard [] = refl
hits_heard (Loaded a n ∷ ts) = heard_load (is_system a) a n (heard ts) ∙ hits_heard ts
hits_heard (Stored a n ∷ ts) = heard_store (is_system a) (a == index_at) a n (heard ts) ∙ ap (λ k. cond (is_system a) (bit (a == index_at)) 0 + k) (hits_heard ts)
hits_heard (Flipped ∷ ts) = ap (λ k. 1 + k) (hits_heard ts)

-- ---- one step

abbrev one : State → ℕ
one s = bit (stores_word (effect_at s) 0)

small_bit : (b : Bool) → bit b ≤ 1 + 0
small_bit true = omega arith
small_bit false = omega arith

hit_by : (e : Effect) → bit (stores_word e 0) ≤ hits (touch_of e)
hit_by (Puts v target) = omega arith
hit_by (Goes target) = omega arith
hit_by (Loads a n extension) = omega arith
hit_by (Stores a n v) = by (a == 0) refl
  where
    by : (b : Bool) → (a == 0) ≡ b → bit (a == 0 && n == 4 && is_place a n) ≤ cond (is_system a) (bit (a == 0)) 0 + 0
    by true e =
        let z : a ≡ 0 = eqb-true a 0 e in
        subst (λ k. bit (k == 0 && n == 4 && is_place k n) ≤ cond (is_system k) (bit (k == 0)) 0 + 0) (sym z) (small_bit (n == 4 && is_place 0 n))
    by false e = subst (λ b. bit (b && n == 4 && is_place a n) ≤ cond (is_system a) (bit b) 0 + 0) (sym e) (omega arith)
hit_by Stops = omega arith

hit_line : (c : Cpu) (o : Option Line) → bit (stores_word (effect_by c o) 0) ≤ hits (line_touches c o)
hit_line c None = omega arith
hit_line c (Some l) = hit_by (effect c l)

hit_word : (c : Cpu) (o : Option ℕ) → bit (stores_word (effect_by c (decoded_word o)) 0) ≤ hits (word_touches c o)
hit_word c None = omega arith
hit_word c (Some w) = hit_line c (decode w)

hit : (s : State) → one s ≤ hits (touches s.cpu s.mem)
hit s = hit_word s.cpu (loaded s.mem s.cpu.pc 4)

-- a store goes on
stores_on : (c : Cpu) (m : Mem) (rd : ℕ) (e : Effect) → stores_word e 0 ≡ true → (effected c m rd e).went ≡ On
stores_on c m rd (Puts v target) h = refl
stores_on c m rd (Goes target) h = refl
stores_on c m rd (Loads a n extension) h = let bad : false ≡ true = h in cc
stores_on c m rd (Stores a n v) h = by (is_place a n) (and_parts _ _ h).1
  where
    by : (b : Bool) → b ≡ true → (cond b (record { went = On; cpu = record { pc = sum_of c.pc 4; x = c.x }; mem = stored m a n v }) (faulted c m)).went ≡ On
    by true q = refl
    by false q = cc
stores_on c m rd Stops h = let bad : false ≡ true = h in cc

line_on : (c : Cpu) (m : Mem) (o : Option Line) → stores_word (effect_by c o) 0 ≡ true → (decoded c m o).went ≡ On
line_on c m None h = let bad : false ≡ true = h in cc
line_on c m (Some l) h = stores_on c m l.rd (effect c l) h

word_on : (c : Cpu) (m : Mem) (o : Option ℕ) → stores_word (effect_by c (decoded_word o)) 0 ≡ true → (fetched c m o).went ≡ On
word_on c m None h = let bad : false ≡ true = h in cc
word_on c m (Some w) h = line_on c m (decode w) h

none_over : (s : State) → (step_of s.cpu s.mem).went ≢ On → one s ≡ 0
none_over s over = by (stores_word (effect_at s) 0) refl
  where
    by : (b : Bool) → stores_word (effect_at s) 0 ≡ b → bit b ≡ 0
    by true e = absurd (over (word_on s.cpu s.mem (loaded s.mem s.cpu.pc 4) e))
    by false e = refl

-- ---- many steps

module _ (run : ℕ → State) (steps : IsRun run) where
  abbrev ahead : ℕ → ℕ → ℕ
  ahead t zero = 0
  ahead t (suc j) = one (run t) + ahead (suc t) j

  in_order : (t j : ℕ) → stores_before run (t + j) ≡ stores_before run t + ahead t j
  in_order t zero = let q : t + 0 ≡ t = omega arith in let h = ap (stores_before run) q in omega arith
  in_order t (suc j) =
      let q : t + suc j ≡ suc t + j = omega arith in
      let e = ap (stores_before run) q in
      let h = in_order (suc t) j in
      omega arith

  silent : (t : ℕ) → ends run t ≡ true → (step_of (run t).cpu (run t).mem).went ≢ On → (k j : ℕ) → t ≤ k → ahead k j ≡ 0
  silent t end over k zero le = refl
  silent t end over k (suc j) le =
      let here : one (run k) ≡ 0 = ap one (still run steps t end k le) ∙ none_over (run t) over in
      let rest = silent t end over (suc k) j (omega arith) in
      omega arith

  abbrev from : ℕ → ℕ → List Touch
  from t j = touched j (run t).cpu (run t).mem

  still_none : (t j : ℕ) (w : Went) → (step_of (run t).cpu (run t).mem).went ≡ w → w ≢ On → (ts : List Touch) → ahead t (suc j) ≤ hits ts
  still_none t j w e over ts =
      let off : (step_of (run t).cpu (run t).mem).went ≢ On = λ on. over (sym e ∙ on) in
      let none = silent t (over_of (step_of (run t).cpu (run t).mem).went off) off t (suc j) (omega arith) in
      omega arith

  goes : (t j : ℕ) (w : Went) → (step_of (run t).cpu (run t).mem).went ≡ w → ahead (suc t) j ≤ hits (from (suc t) j)
      → ahead t (suc j) ≤ hits (touches (run t).cpu (run t).mem ++ touched_on (touched j) (step_of (run t).cpu (run t).mem).cpu (step_of (run t).cpu (run t).mem).mem w)
  goes t j On e h =
      let same : from (suc t) j ≡ touched j (step_of (run t).cpu (run t).mem).cpu (step_of (run t).cpu (run t).mem).mem = ap (λ (s : State). touched j s.cpu s.mem) (steps t) in
      let k : hits (from (suc t) j) ≡ hits (touched j (step_of (run t).cpu (run t).mem).cpu (step_of (run t).cpu (run t).mem).mem) = ap hits same in
      let a = hits_append (touches (run t).cpu (run t).mem) (touched j (step_of (run t).cpu (run t).mem).cpu (step_of (run t).cpu (run t).mem).mem) in
      let b = hit (run t) in
      omega arith
  goes t j Halted e h = still_none t j Halted e (λ q. cc) (touches (run t).cpu (run t).mem ++ touched_on (touched j) (step_of (run t).cpu (run t).mem).cpu (step_of (run t).cpu (run t).mem).mem Halted)
  goes t j (Faulted at) e h = still_none t j (Faulted at) e (λ q. cc) (touches (run t).cpu (run t).mem ++ touched_on (touched j) (step_of (run t).cpu (run t).mem).cpu (step_of (run t).cpu (run t).mem).mem (Faulted at))

  pub few_stores : (j t : ℕ) → ahead t j ≤ hits (from t j)
  few_stores zero t = omega arith
  few_stores (suc j) t = goes t j (step_of (run t).cpu (run t).mem).went refl (few_stores j (suc t))

-- ---- what the code's run passes

replicated : (k : ℕ) (ts : List Touch) → flipped (replicate k Flipped ++ ts) ≡ k + flipped ts
replicated zero ts = omega arith
replicated (suc k) ts = let h = replicated k ts in omega arith

flips_passed : (p : Linking) (run : List Event) (ts : List Touch) → Touches p run ts → flipped ts ≤ passed_cuts p.flips run
flips_passed p run ts Nothing = omega arith
flips_passed p run ts (Reading site by o i run' ts' h) = flips_passed p run' ts' h
flips_passed p run ts (Writing site by o i run' ts' h) = flips_passed p run' ts' h
flips_passed p run ts (Testing run' ts' h) = flips_passed p run' ts' h
flips_passed p run ts (Saving by run' ts' h) = flips_passed p run' ts' h
flips_passed p run ts (Restoring by run' ts' h) = flips_passed p run' ts' h
flips_passed p run ts (Serving flips run' ts' few h) = let a = flips_passed p run' ts' h in let b = replicated flips ts' in omega arith
flips_passed p run ts (Cutting run' ts' h) = let a = flips_passed p run' ts' h in omega arith

pub stores_few : (run : ℕ → State) → IsRun run → (p : Linking) (events : List Event) (j : ℕ) → Touches p events (heard (touched j (run 0).cpu (run 0).mem)) → stores_before run j ≤ passed_cuts p.flips events
stores_few run steps p events j h =
    let q : 0 + j ≡ j = omega arith in
    let a = in_order run steps 0 j in
    let e = ap (stores_before run) q in
    let b = few_stores run steps j 0 in
    let c = hits_heard (touched j (run 0).cpu (run 0).mem) in
    let d = flips_passed p events (heard (touched j (run 0).cpu (run 0).mem)) h in
    omega arith
