-- Calls and whole programs.
use Rattle.std.proofs.Common.{◌≡◌, ℕ, zero, suc, ◌+◌, ◌≤◌, ◌==◌, List, [], ◌∷◌, map, length, refl, sym, ap, ◌∙◌, arith}
use Rattle.std.specs.Prelude.{Option, Some, None, nat_le, slice_get}
use Rattle.std.proofs.lemmas.List.{length-map}
use Rattle.im_num.specs.Variables.{Variable}
use Rattle.im_store.specs.declared.undefined.Undefined.TheVariants.{MissingResult}
use Rattle.im_store.specs.Objects.{Value, Store}
use Rattle.im_store.specs.Statics.{StaticObject}
use Rattle.im_store.specs.Outcomes.{variables_from}
use Rattle.im_typed.specs.Program.{Func}
use Rattle.im_typed.specs.Runs.{World, State, Fails, Starves, Exhausts, Answer, Gives, Stops}
use Rattle.im_typed.specs.Values.{Values, computes}
use Rattle.im_typed.specs.Meaning.{Calls}
use Rattle.im_typed.specs.Programs.{Setting, first_object, call_result, entering, leaving, frame_of, body_of, enters, called, calls_of, start, run_of_main, outcome_of, meaning}
use Rattle.im_typed.specs.Laws.{GoesOnFrom, Extends, FuelAtMost, ShowsStatics}
use Rattle.im_typed.proofs.Related.{begins_self, Spends, Tame, Grown, Linked, Related, Benign, tame-starve, rel-bind, rel-give, rel-undefined, rel-look, rel-exhaust, rel-either, rel-change, rel-paid-zero, rel-paid-suc}
use Rattle.im_typed.proofs.Parts.{rel-computes}
use Rattle.im_typed.proofs.Induction.{RelatedCalls, rel-does}

entering-benign : (activation depth first : ℕ) (f : Func) (args : List Value) → Benign (entering activation depth first f args)
entering-benign activation depth first f args = record { grown = λ w. begins_self w.output }

leaving-benign : (activation depth : ℕ) → Benign (leaving activation depth)
leaving-benign activation depth = record { grown = λ w. begins_self w.output }

module _ (g : Setting) where
  rel-body : (k b n n' i : ℕ) (f : Func) (args : List Value) (w : World) (calls calls' : Calls) → b ≤ n → b + k ≤ n' → RelatedCalls k b calls calls' → Related k b (body_of g calls n i f args w) (body_of g calls' n' i f args w)
  rel-body k b n n' i f args w calls calls' le le' h =
      let a = suc w.activations in
      let d = w.depth + frame_of g i in
      let first = first_object g.prog i in
      rel-bind (rel-change (entering a d first f args) (entering-benign a d first f args)) (λ _.
      rel-bind (rel-does k b a d first g.capacity calls calls' computes computes h (rel-computes k b) n n' le le' f.body) (λ flow.
      rel-bind (rel-change (leaving a w.depth) (leaving-benign a w.depth)) (λ _.
      rel-give (call_result (i == g.prog.main) flow))))

  rel-enters : (k b n n' i : ℕ) (f : Option Func) (args : List Value) (calls calls' : Calls) → b ≤ n → b + k ≤ n' → RelatedCalls k b calls calls' → Related k b (enters g calls n i f args) (enters g calls' n' i f args)
  rel-enters k b n n' i None args calls calls' le le' h = rel-undefined MissingResult
  rel-enters k b n n' i (Some f) args calls calls' le le' h =
      rel-bind rel-look (λ w. rel-either (nat_le (w.depth + frame_of g i) g.stack)
      (rel-body k b n n' i f args w calls calls' le le' h) rel-exhaust)

  rel-called : (k b n n' i : ℕ) (args : List Value) (calls calls' : Calls) → b ≤ n → b + k ≤ n' → RelatedCalls k b calls calls' → Related k b (called g calls n i args) (called g calls' n' i args)
  rel-called k b n n' i args calls calls' le le' h =
      rel-enters k b n n' i (slice_get g.prog.funcs i) args calls calls' le le' h

  -- calls are tame, however deep
  self-calls : (n : ℕ) → RelatedCalls 0 0 (calls_of g n) (calls_of g n)
  self-calls zero = record { by = λ i args. rel-paid-zero (tame-starve Values) (tame-starve Values) }
  self-calls (suc n) =
      let h = self-calls n in
      let t : (i : ℕ) (args : List Value) → Tame (called g (calls_of g n) n i args) =
      λ i args. (rel-called 0 0 n n i args (calls_of g n) (calls_of g n) (omega arith) (omega arith) h).tame in
      record { by = λ i args. rel-paid-zero (t i args) (t i args) }

  tame-called : (n i : ℕ) (args : List Value) → Tame (called g (calls_of g n) n i args)
  tame-called n i args =
      (rel-called 0 0 n n i args (calls_of g n) (calls_of g n) (omega arith) (omega arith) (self-calls n)).tame

  pub rel-calls : (k b n n' : ℕ) → b ≤ n → b + k ≤ n' → RelatedCalls k b (calls_of g n) (calls_of g n')
  rel-calls k zero zero zero le le' = record { by = λ i args. rel-paid-zero (tame-starve Values) (tame-starve Values) }
  rel-calls k zero zero (suc n') le le' = record { by = λ i args. rel-paid-zero (tame-starve Values) (tame-called n' i args) }
  rel-calls k zero (suc n) zero le le' = record { by = λ i args. rel-paid-zero (tame-called n i args) (tame-starve Values) }
  rel-calls k zero (suc n) (suc n') le le' = record { by = λ i args. rel-paid-zero (tame-called n i args) (tame-called n' i args) }
  rel-calls k (suc b) zero n' le le' = absurd (omega arith)
  rel-calls k (suc b) (suc n) zero le le' = absurd (omega arith)
  rel-calls k (suc b) (suc n) (suc n') le le' =
      let l : b ≤ n = omega arith in
      let l' : b + k ≤ n' = omega arith in
      record { by = λ i args. rel-paid-suc (rel-called k b n n' i args (calls_of g n) (calls_of g n') l l' (rel-calls k b n n' l l')) }

  -- the run of main

  pub rel-main : (k b n n' : ℕ) → b ≤ n → b + k ≤ n' → Related k b (called g (calls_of g n) n g.prog.main []) (called g (calls_of g n') n' g.prog.main [])
  rel-main k b n n' le le' =
      rel-called k b n n' g.prog.main [] (calls_of g n) (calls_of g n') le le' (rel-calls k b n n' le le')

  pub main-linked : (k fuel n n' : ℕ) (input : List ℕ) → fuel ≤ n → fuel + k ≤ n' → Linked k (run_of_main g n input fuel) (run_of_main g n' input (fuel + k))
  main-linked k fuel n n' input le le' = (rel-main k fuel n n' le le').by (start g input fuel) (omega arith)

  pub main-keeps : (fuel n : ℕ) (input : List ℕ) → Spends (start g input fuel) (run_of_main g n input fuel)
  main-keeps fuel n input = (tame-called n g.prog.main []).by (start g input fuel)

  outcome-grown : (o : List ℕ) (r : Answer Values) → Grown o r → GoesOnFrom o (outcome_of g r)
  outcome-grown o (Gives vs t) h = h
  outcome-grown o (Stops (Fails why)) h = tt
  outcome-grown o (Stops (Starves p)) h = h
  outcome-grown o (Stops (Exhausts p store)) h = h

  outcome-extends : (k : ℕ) (r r' : Answer Values) → Linked k r r' → Extends (outcome_of g r) (outcome_of g r')
  outcome-extends k (Gives vs t) r' h = ap (outcome_of g) h
  outcome-extends k (Stops (Fails why)) r' h = ap (outcome_of g) h
  outcome-extends k (Stops (Exhausts o store)) r' h = ap (outcome_of g) h
  outcome-extends k (Stops (Starves o)) r' h = outcome-grown o r' h.0

  pub meaning-extends : (input : List ℕ) (fuel k : ℕ) → Extends (meaning g input fuel) (meaning g input (fuel + k))
  unfolding meaning
  meaning-extends input fuel k =
      outcome-extends k (run_of_main g fuel input fuel) (run_of_main g (fuel + k) input (fuel + k))
      (main-linked k fuel fuel (fuel + k) input (omega arith) (omega arith))

  linked-same : (r r' : Answer Values) → Linked 0 r r' → r' ≡ r
  linked-same (Gives vs t) r' h =
      let e : t.fuel + 0 ≡ t.fuel = omega arith in
      h ∙ ap (λ n. let s : State = record { world = t.world; fuel = n } in Gives vs s) e
  linked-same (Stops (Fails why)) r' h = h
  linked-same (Stops (Exhausts o store)) r' h = h
  linked-same (Stops (Starves o)) r' h = h.1 refl

  pub bound-irrelevant : (input : List ℕ) (fuel n n' : ℕ) → fuel ≤ n → fuel ≤ n' → run_of_main g n' input fuel ≡ run_of_main g n input fuel
  bound-irrelevant input fuel n n' le le' =
      let z : fuel + 0 ≡ fuel = omega arith in
      let l : fuel + 0 ≤ n' = omega arith in
      ap (λ f. run_of_main g n' input f) (sym z) ∙ linked-same (run_of_main g n input fuel) (run_of_main g n' input (fuel + 0)) (main-linked 0 fuel n n' input le l)

  keeps-fuel : (s : State) (r : Answer Values) → Spends s r → FuelAtMost s.fuel r
  keeps-fuel s (Gives vs t) h = h.spent
  keeps-fuel s (Stops why) h = tt

  pub fuel-never-grows : (input : List ℕ) (fuel n : ℕ) → FuelAtMost fuel (run_of_main g n input fuel)
  fuel-never-grows input fuel n = keeps-fuel (start g input fuel) (run_of_main g n input fuel) (main-keeps fuel n input)

  names-shown : (n : ℕ) (statics : List StaticObject) (store : Store) → map {A = Variable} (λ v. v.name) (variables_from n statics store) ≡ map {A = StaticObject} (λ s. s.name) statics
  names-shown n [] store = refl
  names-shown n (s ∷ ss) store = ap (λ names. s.name ∷ names) (names-shown (suc n) ss store)

  cells-shown : (n : ℕ) (statics : List StaticObject) (store : Store) → map {A = Variable} (λ v. length v.cells) (variables_from n statics store) ≡ map {A = StaticObject} (λ s. length s.cells) statics
  cells-shown n [] store = refl
  cells-shown n (s ∷ ss) store =
      ap (λ m. m ∷ map {A = Variable} (λ v. length v.cells) (variables_from (suc n) ss store)) (length-map s.cells _)
      ∙ ap (λ ms. length s.cells ∷ ms) (cells-shown (suc n) ss store)

  outcome-shows : (r : Answer Values) → ShowsStatics g.prog.statics (outcome_of g r)
  outcome-shows (Gives vs t) = (names-shown 0 g.prog.statics t.world.store, cells-shown 0 g.prog.statics t.world.store)
  outcome-shows (Stops (Fails why)) = tt
  outcome-shows (Stops (Starves o)) = tt
  outcome-shows (Stops (Exhausts o store)) = (names-shown 0 g.prog.statics store, cells-shown 0 g.prog.statics store)

  pub statics-shown : (input : List ℕ) (fuel : ℕ) → ShowsStatics g.prog.statics (meaning g input fuel)
  unfolding meaning
  statics-shown input fuel = outcome-shows (run_of_main g fuel input fuel)
