-- Two runs of which the second has more fuel, and what each run keeps.
use Rattle.std.proofs.Common.{◌≡◌, ℕ, zero, suc, ◌+◌, ◌≤◌, List, [], ◌++◌, Bool, true, false, refl, sym, ap, ◌∙◌, subst, arith, append_assoc, append-nil}
use Rattle.im_store.specs.declared.undefined.Undefined.{Undefined}
use Rattle.im_store.specs.Checks.{Checked, Fine, Bad}
use Rattle.im_store.specs.Objects.{Store}
use Rattle.im_typed.specs.Runs.{World, State, Fails, Starves, Exhausts, Answer, Gives, Stops, Run, goes_on, ◌>>=◌, give, undefined, starve, exhaust, look, change, pay, with_fuel, either, checked, in_store}
use Rattle.im_typed.specs.Laws.{Begins}

pub begins_self : (o : List ℕ) → Begins o o
begins_self o = ([], append-nil o)

pub begins_trans : (o p q : List ℕ) → Begins o p → Begins p q → Begins o q
begins_trans o p q (x, e) (y, f) = (x ++ y, sym (append_assoc o x y) ∙ ap (λ l. l ++ y) e ∙ f)

abbrev pub more : ℕ → State → State
more k s = record { world = s.world; fuel = s.fuel + k }

-- what a run that goes on keeps: fuel does not grow, output only grows
pub record After (s t : State) : Type 0 where
  pub spent : t.fuel ≤ s.fuel
  pub grown : Begins s.world.output t.world.output

abbrev pub Spends : {A : Type 0} → State → Answer A → Type 0
Spends s (Gives a t) = After s t
Spends s (Stops (Fails why)) = Unit {0}
Spends s (Stops (Starves o)) = Begins s.world.output o
Spends s (Stops (Exhausts o store)) = Begins s.world.output o

pub record Tame {A : Type 0} (m : Run A) : Type 0 where
  pub by : (s : State) → Spends s (m s)

-- the output of an answer begins with these bytes
abbrev pub Grown : {A : Type 0} → List ℕ → Answer A → Type 0
Grown o (Gives a t) = Begins o t.world.output
Grown o (Stops (Fails why)) = Unit {0}
Grown o (Stops (Starves p)) = Begins o p
Grown o (Stops (Exhausts p store)) = Begins o p

-- an answer, and the answer where k more units of fuel are there
abbrev pub Linked : {A : Type 0} → ℕ → Answer A → Answer A → Type 0
Linked k (Gives a t) r = r ≡ Gives a (more k t)
Linked k (Stops (Fails why)) r = r ≡ Stops (Fails why)
Linked k (Stops (Exhausts o store)) r = r ≡ Stops (Exhausts o store)
Linked k (Stops (Starves o)) r = Grown o r × (k ≡ 0 → r ≡ Stops (Starves o))

-- two runs at states with at most b units of fuel
pub record Related {A : Type 0} (k b : ℕ) (m m' : Run A) : Type 0 where
  pub tame : Tame m
  pub tame' : Tame m'
  pub by : (s : State) → s.fuel ≤ b → Linked k (m s) (m' (more k s))

-- tame runs

keeps-trans : {A : Type 0} (s t : State) (r : Answer A) → After s t → Spends t r → Spends s r
keeps-trans s t (Gives a u) h g =
    let x = h.spent in
    let y = g.spent in
    record { spent = omega arith; grown = begins_trans s.world.output t.world.output u.world.output h.grown g.grown }
keeps-trans s t (Stops (Fails why)) h g = tt
keeps-trans s t (Stops (Starves o)) h g = begins_trans s.world.output t.world.output o h.grown g
keeps-trans s t (Stops (Exhausts o store)) h g = begins_trans s.world.output t.world.output o h.grown g

keeps-goes_on : {A B : Type 0} (s : State) (r : Answer A) (f : A → Run B) → Spends s r → ((a : A) → Tame (f a)) → Spends s (goes_on r f)
keeps-goes_on s (Gives a t) f g h = keeps-trans s t (f a t) g ((h a).by t)
keeps-goes_on s (Stops (Fails why)) f g h = tt
keeps-goes_on s (Stops (Starves o)) f g h = g
keeps-goes_on s (Stops (Exhausts o store)) f g h = g

pub tame-bind : {A B : Type 0} (m : Run A) (f : A → Run B) → Tame m → ((a : A) → Tame (f a)) → Tame (m >>= f)
tame-bind m f g h = record { by = λ s. keeps-goes_on s (m s) f (g.by s) h }

after-self : (s : State) → After s s
after-self s = record { spent = omega arith; grown = begins_self s.world.output }

pub tame-give : {A : Type 0} (a : A) → Tame (give a)
tame-give a = record { by = λ s. after-self s }

pub tame-undefined : (A : Type 0) (why : Undefined) → Tame (undefined {A = A} why)
tame-undefined A why = record { by = λ s. tt }

pub tame-starve : (A : Type 0) → Tame (starve {A = A})
tame-starve A = record { by = λ s. begins_self s.world.output }

pub tame-look : Tame look
tame-look = record { by = λ s. after-self s }

keeps-pay : {A : Type 0} (f : ℕ) (w : World) (m : Run A) → Tame m → Spends (record { world = w; fuel = f }) (pay f w m)
keeps-pay zero w m g = begins_self w.output
keeps-pay (suc f) w m g =
    keeps-trans (record { world = w; fuel = suc f }) (record { world = w; fuel = f }) (m (record { world = w; fuel = f }))
    (record { spent = omega arith; grown = begins_self w.output })
    (g.by (record { world = w; fuel = f }))

pub tame-paid : {A : Type 0} (m : Run A) → Tame m → Tame (with_fuel m)
tame-paid m g = record { by = λ s. keeps-pay s.fuel s.world m g }

pub tame-either : {A : Type 0} (c : Bool) (x y : Run A) → Tame x → Tame y → Tame (either c x y)
tame-either true x y g h = g
tame-either false x y g h = h

pub tame-checked : {A : Type 0} (r : Checked A) → Tame (checked r)
tame-checked (Fine a) = tame-give a
tame-checked {A} (Bad why) = tame-undefined A why

pub tame-in_store : {A : Type 0} (f : Store → Checked A) → Tame (in_store f)
tame-in_store f = tame-bind look (λ w. checked (f w.store)) tame-look (λ w. tame-checked (f w.store))

-- related runs

grown-kept : {A : Type 0} (o : List ℕ) (t : State) (r : Answer A) → Begins o t.world.output → Spends t r → Grown o r
grown-kept o t (Gives a u) h g = begins_trans o t.world.output u.world.output h g.grown
grown-kept o t (Stops (Fails why)) h g = tt
grown-kept o t (Stops (Starves p)) h g = begins_trans o t.world.output p h g
grown-kept o t (Stops (Exhausts p store)) h g = begins_trans o t.world.output p h g

grown-goes_on : {A B : Type 0} (o : List ℕ) (r : Answer A) (f : A → Run B) → Grown o r → ((a : A) → Tame (f a)) → Grown o (goes_on r f)
grown-goes_on o (Gives a t) f g h = grown-kept o t (f a t) g ((h a).by t)
grown-goes_on o (Stops (Fails why)) f g h = tt
grown-goes_on o (Stops (Starves p)) f g h = g
grown-goes_on o (Stops (Exhausts p store)) f g h = g

linked-goes_on : {A B : Type 0} (k b : ℕ) (s : State) (r r' : Answer A) (f f' : A → Run B) → s.fuel ≤ b → Spends s r → Linked k r r' → ((a : A) → Related k b (f a) (f' a)) → Linked k (goes_on r f) (goes_on r' f')
linked-goes_on {B = B} k b s (Gives a t) r' f f' le g e h =
    let x = g.spent in
    subst (λ x. Linked {A = B} k (f a t) (goes_on x f')) (sym e) ((h a).by t (omega arith))
linked-goes_on {B = B} k b s (Stops (Fails why)) r' f f' le g e h = ap (λ x. goes_on {B = B} x f') e
linked-goes_on {B = B} k b s (Stops (Exhausts o store)) r' f f' le g e h = ap (λ x. goes_on {B = B} x f') e
linked-goes_on {B = B} k b s (Stops (Starves o)) r' f f' le g e h =
    (grown-goes_on o r' f' e.0 (λ a. (h a).tame'), λ z. ap (λ x. goes_on {B = B} x f') (e.1 z))

pub rel-bind : {A B : Type 0} {k b : ℕ} {m m' : Run A} {f f' : A → Run B} → Related k b m m' → ((a : A) → Related k b (f a) (f' a)) → Related k b (m >>= f) (m' >>= f')
rel-bind {A} {B} {k} {b} {m} {m'} {f} {f'} g h = record {
  tame = tame-bind m f g.tame (λ a. (h a).tame);
  tame' = tame-bind m' f' g.tame' (λ a. (h a).tame');
  by = λ s le. linked-goes_on k b s (m s) (m' (more k s)) f f' le (g.tame.by s) (g.by s le) h;
}

pub rel-give : {A : Type 0} {k b : ℕ} (a : A) → Related k b (give a) (give a)
rel-give {A} {k} {b} a = record { tame = tame-give a; tame' = tame-give a; by = λ s le. refl }

pub rel-undefined : {A : Type 0} {k b : ℕ} (why : Undefined) → Related k b (undefined {A = A} why) (undefined {A = A} why)
rel-undefined {A} {k} {b} why = record { tame = tame-undefined A why; tame' = tame-undefined A why; by = λ s le. refl }

pub rel-look : {k b : ℕ} → Related k b look look
rel-look {k} {b} = record { tame = tame-look; tame' = tame-look; by = λ s le. refl }

pub rel-exhaust : {A : Type 0} {k b : ℕ} → Related k b (exhaust {A = A}) (exhaust {A = A})
rel-exhaust {A} {k} {b} = record {
  tame = record { by = λ s. begins_self s.world.output };
  tame' = record { by = λ s. begins_self s.world.output };
  by = λ s le. refl;
}

pub rel-checked : {A : Type 0} {k b : ℕ} (r : Checked A) → Related k b (checked r) (checked r)
rel-checked (Fine a) = rel-give a
rel-checked (Bad why) = rel-undefined why

pub rel-in_store : {A : Type 0} {k b : ℕ} (f : Store → Checked A) → Related k b (in_store f) (in_store f)
rel-in_store f = rel-bind rel-look (λ w. rel-checked (f w.store))

-- a change of what a run works on whose output only grows
pub record Benign (f : World → World) : Type 0 where
  pub grown : (w : World) → Begins w.output (f w).output

tame-change : (f : World → World) → Benign f → Tame (change f)
tame-change f c = record { by = λ s. record { spent = omega arith; grown = c.grown s.world } }

pub rel-change : {k b : ℕ} (f : World → World) → Benign f → Related k b (change f) (change f)
rel-change {k} {b} f c = record { tame = tame-change f c; tame' = tame-change f c; by = λ s le. refl }

paid-none : {A : Type 0} (k : ℕ) (w : World) (m : Run A) (n : ℕ) → n ≡ k → Tame m → Grown w.output (pay n w m) × (k ≡ 0 → pay n w m ≡ Stops (Starves w.output))
paid-none {A} k w m n e g = (
  grown-kept w.output (record { world = w; fuel = n }) (pay n w m) (begins_self w.output) (keeps-pay n w m g),
  λ z. ap (λ x. pay {A = A} x w m) (e ∙ z),
)

pub rel-paid-zero : {A : Type 0} {k : ℕ} {m m' : Run A} → Tame m → Tame m' → Related k 0 (with_fuel m) (with_fuel m')
rel-paid-zero {A} {k} {m} {m'} g g' = record {
  tame = tame-paid m g;
  tame' = tame-paid m' g';
  by = λ s le. at_fuel s.fuel s.world le;
}
  where
    at_fuel : (f : ℕ) (w : World) → f ≤ 0 → Linked k (pay f w m) (pay (f + k) w m')
    at_fuel zero w le = paid-none k w m' (0 + k) (omega arith) g'
    at_fuel (suc f) w le = absurd (omega arith)

pub rel-paid-suc : {A : Type 0} {k b : ℕ} {m m' : Run A} → Related k b m m' → Related k (suc b) (with_fuel m) (with_fuel m')
rel-paid-suc {A} {k} {b} {m} {m'} g = record {
  tame = tame-paid m g.tame;
  tame' = tame-paid m' g.tame';
  by = λ s le. at_fuel s.fuel s.world le;
}
  where
    at_fuel : (f : ℕ) (w : World) → f ≤ suc b → Linked k (pay f w m) (pay (f + k) w m')
    at_fuel zero w le = paid-none k w m' (0 + k) (omega arith) g.tame'
    at_fuel (suc f) w le =
        let e : suc (f + k) ≡ suc f + k = omega arith in
        subst (λ n. Linked {A = A} k (m (record { world = w; fuel = f })) (pay n w m')) e (g.by (record { world = w; fuel = f }) (omega arith))

pub rel-down : {A : Type 0} {k b : ℕ} {m m' : Run A} → Related k (suc b) m m' → Related k b m m'
rel-down {A} {k} {b} {m} {m'} g = record { tame = g.tame; tame' = g.tame'; by = λ s le. g.by s (omega arith) }

pub rel-paid : {A : Type 0} {k b : ℕ} {m m' : Run A} → Related k b m m' → Related k b (with_fuel m) (with_fuel m')
rel-paid g = rel-down (rel-paid-suc g)

pub rel-either : {A : Type 0} {k b : ℕ} (c : Bool) {x x' y y' : Run A} → Related k b x x' → Related k b y y' → Related k b (either c x y) (either c x' y')
rel-either true g h = g
rel-either false g h = h
