-- A line that sets another register in the place of one, and the line behind it that passes the value on.
use Rattle.std.proofs.Common.{◌≡◌, ℕ, ◌<◌, ◌≤◌, List, [], Some, refl, ap}
use Rattle.std.specs.Prelude.{◌==◌, None}
use Rattle.im_block.specs.declared.code.Line.{Line}
use Rattle.im_block.specs.declared.code.Line.TheVariants.{Put, PutNull, Copy, Convert, Unary, Not, Compute, Compare, Move, Distance, Address, Read, Write, Reload, Spill, Cut, Call, Serve}
use Rattle.im_block.specs.declared.unit.Function.{Function}
use Rattle.im_block.specs.Shape.{cost}
use Rattle.im_block.specs.Wellformed.{LineWithin, LineThere, accesses_of_line}
use Rattle.im_alloc_placed.specs.Apart.{IsNoCut}
use Rattle.im_alloc_placed.specs.Placeable.{LineFrom}
use Rattle.im_alloc_relation.specs.Live.{uses, sets}
use Rattle.im_forward.specs.Straight.{target, setting, PassesOn, Copies, Converts}

-- ---- what it sets, and what it leaves

some_is : (a b : ℕ) → Some a ≡ Some b → a ≡ b
some_is a b e = cc

pub sets_target : (t : ℕ) (x : Line) → target x ≡ Some t → (q : ℕ) → sets x q ≡ (q == t)
sets_target t (Put to z) e q = ap (λ z. q == z) (some_is to t e)
sets_target t (PutNull to) e q = ap (λ z. q == z) (some_is to t e)
sets_target t (Copy to from) e q = cc
sets_target t (Convert to kind from) e q = ap (λ z. q == z) (some_is to t e)
sets_target t (Unary to op kind from) e q = ap (λ z. q == z) (some_is to t e)
sets_target t (Not to from) e q = ap (λ z. q == z) (some_is to t e)
sets_target t (Compute to op kind left right) e q = ap (λ z. q == z) (some_is to t e)
sets_target t (Compare to op kind left right) e q = ap (λ z. q == z) (some_is to t e)
sets_target t (Move to size back pointer by) e q = ap (λ z. q == z) (some_is to t e)
sets_target t (Distance to size left right) e q = ap (λ z. q == z) (some_is to t e)
sets_target t (Address to place) e q = ap (λ z. q == z) (some_is to t e)
sets_target t (Read to place kind access) e q = ap (λ z. q == z) (some_is to t e)
sets_target t (Write place kind from access) e q = cc
sets_target t (Reload to slot access) e q = cc
sets_target t (Spill slot from access) e q = cc
sets_target t (Cut cause) e q = cc
sets_target t (Call to i first count) e q = cc
sets_target t (Serve to service None) e q = cc
sets_target t (Serve to service (Some from)) e q = cc

pub sets_setting : (t v : ℕ) (x : Line) → target x ≡ Some t → (q : ℕ) → sets (setting v x) q ≡ (q == v)
sets_setting t v (Put to z) e q = refl
sets_setting t v (PutNull to) e q = refl
sets_setting t v (Copy to from) e q = cc
sets_setting t v (Convert to kind from) e q = refl
sets_setting t v (Unary to op kind from) e q = refl
sets_setting t v (Not to from) e q = refl
sets_setting t v (Compute to op kind left right) e q = refl
sets_setting t v (Compare to op kind left right) e q = refl
sets_setting t v (Move to size back pointer by) e q = refl
sets_setting t v (Distance to size left right) e q = refl
sets_setting t v (Address to place) e q = refl
sets_setting t v (Read to place kind access) e q = refl
sets_setting t v (Write place kind from access) e q = cc
sets_setting t v (Reload to slot access) e q = cc
sets_setting t v (Spill slot from access) e q = cc
sets_setting t v (Cut cause) e q = cc
sets_setting t v (Call to i first count) e q = cc
sets_setting t v (Serve to service None) e q = cc
sets_setting t v (Serve to service (Some from)) e q = cc

pub uses_setting : (v : ℕ) (x : Line) (q : ℕ) → uses (setting v x) q ≡ uses x q
uses_setting v (Put to z) q = refl
uses_setting v (PutNull to) q = refl
uses_setting v (Copy to from) q = refl
uses_setting v (Convert to kind from) q = refl
uses_setting v (Unary to op kind from) q = refl
uses_setting v (Not to from) q = refl
uses_setting v (Compute to op kind left right) q = refl
uses_setting v (Compare to op kind left right) q = refl
uses_setting v (Move to size back pointer by) q = refl
uses_setting v (Distance to size left right) q = refl
uses_setting v (Address to place) q = refl
uses_setting v (Read to place kind access) q = refl
uses_setting v (Write place kind from access) q = refl
uses_setting v (Reload to slot access) q = refl
uses_setting v (Spill slot from access) q = refl
uses_setting v (Cut cause) q = refl
uses_setting v (Call to i first count) q = refl
uses_setting v (Serve to service None) q = refl
uses_setting v (Serve to service (Some from)) q = refl

pub cost_setting : (v : ℕ) (x : Line) → cost (setting v x) ≡ cost x
cost_setting v (Put to z) = refl
cost_setting v (PutNull to) = refl
cost_setting v (Copy to from) = refl
cost_setting v (Convert to kind from) = refl
cost_setting v (Unary to op kind from) = refl
cost_setting v (Not to from) = refl
cost_setting v (Compute to op kind left right) = refl
cost_setting v (Compare to op kind left right) = refl
cost_setting v (Move to size back pointer by) = refl
cost_setting v (Distance to size left right) = refl
cost_setting v (Address to place) = refl
cost_setting v (Read to place kind access) = refl
cost_setting v (Write place kind from access) = refl
cost_setting v (Reload to slot access) = refl
cost_setting v (Spill slot from access) = refl
cost_setting v (Cut cause) = refl
cost_setting v (Call to i first count) = refl
cost_setting v (Serve to service None) = refl
cost_setting v (Serve to service (Some from)) = refl

pub accesses_setting : (v : ℕ) (x : Line) → accesses_of_line (setting v x) ≡ accesses_of_line x
accesses_setting v (Put to z) = refl
accesses_setting v (PutNull to) = refl
accesses_setting v (Copy to from) = refl
accesses_setting v (Convert to kind from) = refl
accesses_setting v (Unary to op kind from) = refl
accesses_setting v (Not to from) = refl
accesses_setting v (Compute to op kind left right) = refl
accesses_setting v (Compare to op kind left right) = refl
accesses_setting v (Move to size back pointer by) = refl
accesses_setting v (Distance to size left right) = refl
accesses_setting v (Address to place) = refl
accesses_setting v (Read to place kind access) = refl
accesses_setting v (Write place kind from access) = refl
accesses_setting v (Reload to slot access) = refl
accesses_setting v (Spill slot from access) = refl
accesses_setting v (Cut cause) = refl
accesses_setting v (Call to i first count) = refl
accesses_setting v (Serve to service None) = refl
accesses_setting v (Serve to service (Some from)) = refl

pub uncut_setting : (v : ℕ) (x : Line) → IsNoCut x → IsNoCut (setting v x)
uncut_setting v (Put to z) h e = h e
uncut_setting v (PutNull to) h e = h e
uncut_setting v (Copy to from) h e = h e
uncut_setting v (Convert to kind from) h e = h e
uncut_setting v (Unary to op kind from) h e = h e
uncut_setting v (Not to from) h e = h e
uncut_setting v (Compute to op kind left right) h e = h e
uncut_setting v (Compare to op kind left right) h e = h e
uncut_setting v (Move to size back pointer by) h e = h e
uncut_setting v (Distance to size left right) h e = h e
uncut_setting v (Address to place) h e = h e
uncut_setting v (Read to place kind access) h e = h e
uncut_setting v (Write place kind from access) h e = h e
uncut_setting v (Reload to slot access) h e = h e
uncut_setting v (Spill slot from access) h e = h e
uncut_setting v (Cut cause) h e = h e
uncut_setting v (Call to i first count) h e = h e
uncut_setting v (Serve to service None) h e = h e
uncut_setting v (Serve to service (Some from)) h e = h e

pub there_setting : (fs : List Function) (v : ℕ) (x : Line) → LineThere fs x → LineThere fs (setting v x)
there_setting fs v (Put to z) h = h
there_setting fs v (PutNull to) h = h
there_setting fs v (Copy to from) h = h
there_setting fs v (Convert to kind from) h = h
there_setting fs v (Unary to op kind from) h = h
there_setting fs v (Not to from) h = h
there_setting fs v (Compute to op kind left right) h = h
there_setting fs v (Compare to op kind left right) h = h
there_setting fs v (Move to size back pointer by) h = h
there_setting fs v (Distance to size left right) h = h
there_setting fs v (Address to place) h = h
there_setting fs v (Read to place kind access) h = h
there_setting fs v (Write place kind from access) h = h
there_setting fs v (Reload to slot access) h = h
there_setting fs v (Spill slot from access) h = h
there_setting fs v (Cut cause) h = h
there_setting fs v (Call to i first count) h = h
there_setting fs v (Serve to service None) h = h
there_setting fs v (Serve to service (Some from)) h = h

pub within_setting : (n v : ℕ) → v < n → (x : Line) → LineWithin n x → LineWithin n (setting v x)
within_setting n v lt (Put to z) h = lt
within_setting n v lt (PutNull to) h = lt
within_setting n v lt (Copy to from) h = h
within_setting n v lt (Convert to kind from) h = (lt, h.1)
within_setting n v lt (Unary to op kind from) h = (lt, h.1)
within_setting n v lt (Not to from) h = (lt, h.1)
within_setting n v lt (Compute to op kind left right) h = (lt, h.1, h.2)
within_setting n v lt (Compare to op kind left right) h = (lt, h.1, h.2)
within_setting n v lt (Move to size back pointer by) h = (lt, h.1, h.2)
within_setting n v lt (Distance to size left right) h = (lt, h.1, h.2)
within_setting n v lt (Address to place) h = (lt, h.1)
within_setting n v lt (Read to place kind access) h = (lt, h.1)
within_setting n v lt (Write place kind from access) h = h
within_setting n v lt (Reload to slot access) h = h
within_setting n v lt (Spill slot from access) h = h
within_setting n v lt (Cut cause) h = h
within_setting n v lt (Call to i first count) h = h
within_setting n v lt (Serve to service None) h = h
within_setting n v lt (Serve to service (Some from)) h = h

pub from_setting : (n v : ℕ) → n ≤ v → (x : Line) → LineFrom n x → LineFrom n (setting v x)
from_setting n v le (Put to z) h = le
from_setting n v le (PutNull to) h = le
from_setting n v le (Copy to from) h = h
from_setting n v le (Convert to kind from) h = (le, h.1)
from_setting n v le (Unary to op kind from) h = (le, h.1)
from_setting n v le (Not to from) h = (le, h.1)
from_setting n v le (Compute to op kind left right) h = (le, h.1, h.2)
from_setting n v le (Compare to op kind left right) h = (le, h.1, h.2)
from_setting n v le (Move to size back pointer by) h = (le, h.1, h.2)
from_setting n v le (Distance to size left right) h = (le, h.1, h.2)
from_setting n v le (Address to place) h = (le, h.1)
from_setting n v le (Read to place kind access) h = (le, h.1)
from_setting n v le (Write place kind from access) h = h
from_setting n v le (Reload to slot access) h = h
from_setting n v le (Spill slot from access) h = h
from_setting n v le (Cut cause) h = h
from_setting n v le (Call to i first count) h = h
from_setting n v le (Serve to service None) h = h
from_setting n v le (Serve to service (Some from)) h = h

pub no_copy : (t : ℕ) (x : Line) → target x ≡ Some t → (a b : ℕ) → x ≡ Copy a b → ⊥
no_copy t (Put to z) e a b is = cc
no_copy t (PutNull to) e a b is = cc
no_copy t (Copy to from) e a b is = cc
no_copy t (Convert to kind from) e a b is = cc
no_copy t (Unary to op kind from) e a b is = cc
no_copy t (Not to from) e a b is = cc
no_copy t (Compute to op kind left right) e a b is = cc
no_copy t (Compare to op kind left right) e a b is = cc
no_copy t (Move to size back pointer by) e a b is = cc
no_copy t (Distance to size left right) e a b is = cc
no_copy t (Address to place) e a b is = cc
no_copy t (Read to place kind access) e a b is = cc
no_copy t (Write place kind from access) e a b is = cc
no_copy t (Reload to slot access) e a b is = cc
no_copy t (Spill slot from access) e a b is = cc
no_copy t (Cut cause) e a b is = cc
no_copy t (Call to i first count) e a b is = cc
no_copy t (Serve to service None) e a b is = cc
no_copy t (Serve to service (Some from)) e a b is = cc

pub no_copy_set : (t v : ℕ) (x : Line) → target x ≡ Some t → (a b : ℕ) → setting v x ≡ Copy a b → ⊥
no_copy_set t v (Put to z) e a b is = cc
no_copy_set t v (PutNull to) e a b is = cc
no_copy_set t v (Copy to from) e a b is = cc
no_copy_set t v (Convert to kind from) e a b is = cc
no_copy_set t v (Unary to op kind from) e a b is = cc
no_copy_set t v (Not to from) e a b is = cc
no_copy_set t v (Compute to op kind left right) e a b is = cc
no_copy_set t v (Compare to op kind left right) e a b is = cc
no_copy_set t v (Move to size back pointer by) e a b is = cc
no_copy_set t v (Distance to size left right) e a b is = cc
no_copy_set t v (Address to place) e a b is = cc
no_copy_set t v (Read to place kind access) e a b is = cc
no_copy_set t v (Write place kind from access) e a b is = cc
no_copy_set t v (Reload to slot access) e a b is = cc
no_copy_set t v (Spill slot from access) e a b is = cc
no_copy_set t v (Cut cause) e a b is = cc
no_copy_set t v (Call to i first count) e a b is = cc
no_copy_set t v (Serve to service None) e a b is = cc
no_copy_set t v (Serve to service (Some from)) e a b is = cc

-- ---- the line that passes the value on

module _ (x : Line) (t v : ℕ) where
  pub sets_passing : (y : Line) → PassesOn x t v y → (q : ℕ) → sets y q ≡ (q == v)
  sets_passing y Copies q = refl
  sets_passing y (Converts kind g) q = refl

  pub uses_passing : (y : Line) → PassesOn x t v y → (q : ℕ) → uses y q ≡ (q == t)
  uses_passing y Copies q = refl
  uses_passing y (Converts kind g) q = refl

  pub accesses_passing : (y : Line) → PassesOn x t v y → accesses_of_line y ≡ []
  accesses_passing y Copies = refl
  accesses_passing y (Converts kind g) = refl

  pub within_passing : (n : ℕ) (y : Line) → PassesOn x t v y → LineWithin n y → v < n
  within_passing n y Copies h = h.0
  within_passing n y (Converts kind g) h = h.0

  pub from_passing : (n : ℕ) (y : Line) → PassesOn x t v y → LineFrom n y → n ≤ v
  from_passing n y Copies h = h.0
  from_passing n y (Converts kind g) h = h.0
