-- Steps of block code one after another, and answers that block code does as.
use Rattle.std.proofs.Common.{◌≡◌, ℕ, suc, List, [], ◌++◌, ◌≤◌, refl, sym, ap, ◌∙◌, append_assoc, append-nil}
use Rattle.im_store.specs.Checks.{Checked, Fine, Bad}
use Rattle.im_store.specs.Objects.{Value, Store}
use Rattle.im_store.specs.Outcomes.{Outcome}
use Rattle.im_store.specs.Statics.{StaticObject}
use Rattle.im_typed.specs.Program.{Prog}
use Rattle.im_typed.specs.Runs.{World, Fails, Starves, Exhausts, Answer, Gives, Stops, Run, checked}
use Rattle.im_typed.specs.Runs as typed
use Rattle.im_typed.specs.Sound.{IsSoundWorld, KeepsWorld, IsRightAt, IsRight}
use Rattle.im_block.specs.declared.unit.Unit.{Unit as Code}
use Rattle.im_block.specs.Meaning.{Setting, Event, State, Goes, Stops as Ends, step}
use Rattle.im_block.specs.Runs.{Over, exec, goes_on}
use Rattle.im_lower_relation.specs.Codes.{Point}
use Rattle.im_typed.proofs.Related.{Spends}
use Rattle.im_lower_relation.specs.Agrees.{Home, Mark, at, Reaches, Finishes, FollowsAt, Follows}

-- what is known of a typed run from a state on, and of what it gives
pub record Right {A : Type 0} (statics : List StaticObject) (s : typed.State) (P : World → A → Type 0) (r : Answer A) : Type 0 where
  pub right : IsRight statics s.world P r
  pub spends : Spends s r

pub record Known {A : Type 0} (statics : List StaticObject) (s : typed.State) (P : World → A → Type 0) (a : A) (t : typed.State) : Type 0 where
  pub sane : IsSoundWorld statics t.world
  pub keeps : KeepsWorld s.world t.world
  pub spent : t.fuel ≤ s.fuel
  pub fits : P t.world a

module _ (u : Code) (g : Setting) where
  pub here : (s : State) → Reaches u g s s
  here s = record { events = []; by = λ k. (k, λ before. ap (exec u g k s) (sym (append-nil before))) }

  pub stepped : {s t : State} (events : List Event) → step u g s ≡ Goes t events → Reaches u g s t
  stepped {s} {t} events e = record { events = events; by = λ k. (suc k, λ before. ap (λ x. goes_on x (exec u g k) before) e) }

  pub further : {s t v : State} → Reaches u g s t → Reaches u g t v → Reaches u g s v
  further {s} {t} {v} h k = record {
    events = h.events ++ k.events;
    by = λ n. (let first = k.by n in let then = h.by first.0 in (then.0, λ before. then.1 before ∙ first.1 (before ++ h.events) ∙ ap (exec u g n v) (append_assoc before h.events k.events)));
  }

  pub ends-later : {s t : State} {o : Outcome} → Reaches u g s t → Finishes u g t o → Finishes u g s o
  ends-later {s} {t} {o} h k = record {
    events = h.events ++ k.events;
    steps = (h.by k.steps).0;
    is = λ before. (h.by k.steps).1 before ∙ k.is (before ++ h.events) ∙ ap (Over o) (append_assoc before h.events k.events);
  }

  pub finished : {s : State} {o : Outcome} (events : List Event) → step u g s ≡ Ends o events → Finishes u g s o
  finished {s} {o} events e = record { events = events; steps = 1; is = λ before. ap (λ x. goes_on x (exec u g 0) before) e }

  module _ (p : Prog) (home : Home) where
    later-at : {A : Type 0} (next : A → Point) (b c : State) (P : A → typed.State → (ℕ → Value) → Store → Type 0) (r : Answer A) → Reaches u g b c → FollowsAt u g p home next c P r → FollowsAt u g p home next b P r
    later-at next b c P (Gives a t) h k = record { mark = k.mark; registers = k.registers; store = k.store; leads = further h k.leads; is = k.is }
    later-at next b c P (Stops (Fails why)) h k = tt
    later-at next b c P (Stops (Starves output)) h k = ends-later h k
    later-at next b c P (Stops (Exhausts output store)) h k = ends-later h k

    pub does-later : {A : Type 0} {next : A → Point} {b c : State} {P : A → typed.State → (ℕ → Value) → Store → Type 0} {r : Answer A} → Reaches u g b c → Follows u g p home next c P r → Follows u g p home next b P r
    does-later {next = next} {b = b} {c = c} {P = P} {r = r} h k = record { by = later-at next b c P r h k.by }

    -- what is checked goes on where it is fine
    pub does-checked : {A B : Type 0} {next : B → Point} {b : State} {Q : B → typed.State → (ℕ → Value) → Store → Type 0} (r : Checked A) (t : typed.State) (then : A → Run B) → ((a : A) → r ≡ Fine a → Follows u g p home next b Q (then a t)) → Follows u g p home next b Q (typed.goes_on (checked r t) then)
    does-checked (Fine a) t then k = k a refl
    does-checked (Bad why) t then k = record { by = tt }

    -- what the typed run keeps is known beside
    joined-at : {A : Type 0} (next : A → Point) (b : State) (s : typed.State) (P : World → A → Type 0) (Q : A → typed.State → (ℕ → Value) → Store → Type 0) (r : Answer A) → IsRightAt p.statics s.world P r → Spends s r → FollowsAt u g p home next b Q r
        → FollowsAt u g p home next b (λ a t registers store. Known p.statics s P a t × Q a t registers store) r
    joined-at next b s P Q (Gives a t) h e k = record { mark = k.mark; registers = k.registers; store = k.store; leads = k.leads; is = (record { sane = h.0; keeps = h.1; fits = h.2; spent = e.spent }, k.is) }
    joined-at next b s P Q (Stops (Fails why)) h e k = tt
    joined-at next b s P Q (Stops (Starves output)) h e k = k
    joined-at next b s P Q (Stops (Exhausts output store)) h e k = k

    pub joined : {A : Type 0} {next : A → Point} {b : State} {s : typed.State} {P : World → A → Type 0} {Q : A → typed.State → (ℕ → Value) → Store → Type 0} {r : Answer A} → Right p.statics s P r → Follows u g p home next b Q r
        → Follows u g p home next b (λ a t registers store. Known p.statics s P a t × Q a t registers store) r
    joined {next = next} {b = b} {s = s} {P = P} {Q = Q} {r = r} h k = record { by = joined-at next b s P Q r h.right.by h.spends k.by }

    weaker-at : {A : Type 0} (next : A → Point) (b : State) (P Q : A → typed.State → (ℕ → Value) → Store → Type 0) (r : Answer A) → ((a : A) (t : typed.State) (registers : ℕ → Value) (store : Store) → P a t registers store → Q a t registers store) → FollowsAt u g p home next b P r → FollowsAt u g p home next b Q r
    weaker-at next b P Q (Gives a t) k h = record { mark = h.mark; registers = h.registers; store = h.store; leads = h.leads; is = k a t h.registers h.store h.is }
    weaker-at next b P Q (Stops (Fails why)) k h = tt
    weaker-at next b P Q (Stops (Starves output)) k h = h
    weaker-at next b P Q (Stops (Exhausts output store)) k h = h

    pub does-weaker : {A : Type 0} {next : A → Point} {b : State} {P Q : A → typed.State → (ℕ → Value) → Store → Type 0} {r : Answer A} → ((a : A) (t : typed.State) (registers : ℕ → Value) (store : Store) → P a t registers store → Q a t registers store) → Follows u g p home next b P r → Follows u g p home next b Q r
    does-weaker {next = next} {b = b} {P = P} {Q = Q} {r = r} k h = record { by = weaker-at next b P Q r k h.by }

    -- from where it has come, steps lead to another point
    moved-at : {A : Type 0} (middle next : A → Point) (b : State) (P : A → typed.State → (ℕ → Value) → Store → Type 0) (r : Answer A) → ((a : A) (n : Mark) (registers : ℕ → Value) (store : Store) (t : typed.State) → (j : Mark) × Reaches u g (at home n (middle a) registers store t) (at home j (next a) registers store t)) → FollowsAt u g p home middle b P r → FollowsAt u g p home next b P r
    moved-at middle next b P (Gives a t) k h =
        let x = k a h.mark h.registers h.store t in
        record { mark = x.0; registers = h.registers; store = h.store; leads = further h.leads x.1; is = h.is }
    moved-at middle next b P (Stops (Fails why)) k h = tt
    moved-at middle next b P (Stops (Starves output)) k h = h
    moved-at middle next b P (Stops (Exhausts output store)) k h = h

    pub does-moved : {A : Type 0} {middle next : A → Point} {b : State} {P : A → typed.State → (ℕ → Value) → Store → Type 0} {r : Answer A} → ((a : A) (n : Mark) (registers : ℕ → Value) (store : Store) (t : typed.State) → (j : Mark) × Reaches u g (at home n (middle a) registers store t) (at home j (next a) registers store t)) → Follows u g p home middle b P r → Follows u g p home next b P r
    does-moved {middle = middle} {next = next} {b = b} {P = P} {r = r} k h = record { by = moved-at middle next b P r k h.by }

  module _ (p : Prog) (home : Home) where
    whole-at : {A : Type 0} (next : A → Point) (b : State) (P : A → typed.State → (ℕ → Value) → Store → Type 0) (r : Answer A) → FollowsAt u g p home next b P (typed.goes_on r typed.give) → FollowsAt u g p home next b P r
    whole-at next b P (Gives a t) h = h
    whole-at next b P (Stops why) h = h

    -- a run behind which nothing comes
    pub does-whole : {A : Type 0} {next : A → Point} {b : State} {P : A → typed.State → (ℕ → Value) → Store → Type 0} {r : Answer A} → Follows u g p home next b P (typed.goes_on r typed.give) → Follows u g p home next b P r
    does-whole {next = next} {b = b} {P = P} {r = r} h = record { by = whole-at next b P r h.by }

  module _ (p : Prog) (home : Home) where
    bound-at : {A B : Type 0} (behind : Home) (middle : A → Point) (next : B → Point) (b : State) (P : A → typed.State → (ℕ → Value) → Store → Type 0) (Q : B → typed.State → (ℕ → Value) → Store → Type 0) (r : Answer A) (then : A → Run B) → FollowsAt u g p home middle b P r
        → ((a : A) (t : typed.State) (n : Mark) (registers : ℕ → Value) (store : Store) → P a t registers store → Follows u g p behind next (at home n (middle a) registers store t) Q (then a t)) → FollowsAt u g p behind next b Q (typed.goes_on r then)
    bound-at behind middle next b P Q (Gives a t) then h k = later-at p behind next b (at home h.mark (middle a) h.registers h.store t) Q (then a t) h.leads (k a t h.mark h.registers h.store h.is).by
    bound-at behind middle next b P Q (Stops (Fails why)) then h k = tt
    bound-at behind middle next b P Q (Stops (Starves output)) then h k = h
    bound-at behind middle next b P Q (Stops (Exhausts output store)) then h k = h

    -- one part of the code, and then the next, which may be one of another activation
    pub does-bind : {A B : Type 0} {behind : Home} {middle : A → Point} {next : B → Point} {b : State} {P : A → typed.State → (ℕ → Value) → Store → Type 0} {Q : B → typed.State → (ℕ → Value) → Store → Type 0} {r : Answer A} {then : A → Run B} → Follows u g p home middle b P r
        → ((a : A) (t : typed.State) (n : Mark) (registers : ℕ → Value) (store : Store) → P a t registers store → Follows u g p behind next (at home n (middle a) registers store t) Q (then a t)) → Follows u g p behind next b Q (typed.goes_on r then)
    does-bind {behind = behind} {middle = middle} {next = next} {b = b} {P = P} {Q = Q} {r = r} {then = then} h k = record { by = bound-at behind middle next b P Q r then h.by k }
