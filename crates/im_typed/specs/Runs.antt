-- What a run works on, and runs one after another.
use Rattle.std.specs.Prelude.{ℕ, zero, suc, Bool, true, false, List}
use Rattle.im_store.specs.declared.undefined.Undefined.{Undefined}
use Rattle.im_store.specs.Checks.{Checked, Fine, Bad}
use Rattle.im_store.specs.Objects.{Store}

-- what a run works on, but for its fuel: the store; how many activations there were; the bytes of stack in use; the input
-- that is left; the output
pub record World : Type 0 where
  pub store : Store
  pub activations : ℕ
  pub depth : ℕ
  pub input : List ℕ
  pub output : List ℕ

pub record State : Type 0 where
  pub world : World
  pub fuel : ℕ

-- why a run goes no further: undefined behaviour, want of fuel, want of stack
pub data Stop : Type 0 where
  Fails : (why : Undefined) → Stop
  Starves : (output : List ℕ) → Stop
  Exhausts : (output : List ℕ) (store : Store) → Stop

pub data Answer (A : Type 0) : Type 0 where
  Gives : A → State → Answer A
  Stops : Stop → Answer A

abbrev pub Run : Type 0 → Type 0
Run A = State → Answer A

abbrev pub goes_on : {A B : Type 0} → Answer A → (A → Run B) → Answer B
goes_on (Gives a s) next = next a s
goes_on (Stops why) next = Stops why

-- one run, and then the next with what it gave
infixl 10 ◌>>=◌
abbrev pub ◌>>=◌ : {A B : Type 0} → Run A → (A → Run B) → Run B
m >>= next = λ s. goes_on (m s) next

abbrev pub give : {A : Type 0} → A → Run A
give a s = Gives a s

abbrev pub undefined : {A : Type 0} → Undefined → Run A
undefined why s = Stops (Fails why)

abbrev pub starve : {A : Type 0} → Run A
starve s = Stops (Starves s.world.output)

abbrev pub exhaust : {A : Type 0} → Run A
exhaust s = Stops (Exhausts s.world.output s.world.store)

-- looks at what the run works on
abbrev pub look : Run World
look s = Gives s.world s

abbrev pub change : (World → World) → Run (Unit {0})
change f s = Gives tt (record { world = f s.world; fuel = s.fuel })

abbrev pub pay : {A : Type 0} → ℕ → World → Run A → Answer A
pay zero w next = Stops (Starves w.output)
pay (suc fuel) w next = next (record { world = w; fuel = fuel })

-- takes a unit of fuel, where one is left
abbrev pub with_fuel : {A : Type 0} → Run A → Run A
with_fuel next s = pay s.fuel s.world next

abbrev pub either : {A : Type 0} → Bool → Run A → Run A → Run A
either true a b = a
either false a b = b

-- what has no meaning ends the run
abbrev pub checked : {A : Type 0} → Checked A → Run A
checked (Fine a) = give a
checked (Bad why) = undefined why

-- what is looked up in the store
abbrev pub in_store : {A : Type 0} → (Store → Checked A) → Run A
in_store f = look >>= (λ w. checked (f w.store))

abbrev pub leave_store : Store → Run (Unit {0})
leave_store store = change (λ w. record w { store = store })
