-- The homes before the scan, and which registers of the machine are in use then.
use Rattle.std.proofs.Common.{◌≡◌, ◌≢◌, ◌<◌, ◌≤◌, ◌+◌, ◌-◌, ℕ, zero, suc, List, Option, Some, None, length, set, replicate, inl, inr, ⊎_elim, refl, sym, ap, ◌∙◌, arith}
use Rattle.std.proofs.lemmas.Bool.{cases_eq, cases_lt}
use Rattle.std.proofs.lemmas.List.{length-set, length-replicate, get_or-set_same, get_or-set_other}
use Rattle.std.proofs.lemmas.Option.{none-some, same_Some}
use Rattle.im_alloc_relation.specs.Homes.{InRegister}
use Rattle.im_alloc_intervals.specs.declared.marks.Interval.{Interval}
use Rattle.im_alloc_intervals.specs.declared.table.Home.{Home as HomeOf}
use Rattle.im_alloc_intervals.specs.declared.table.Home.TheVariants.{Register}
use Rattle.im_alloc_intervals.specs.Homes.{home_or, home_at}
use Rattle.im_alloc_intervals.specs.Marks.{interval_at}
use Rattle.im_alloc_intervals.specs.Scans.{AreFirst, AreWaiting, last_of, register_at}
use Rattle.im_alloc_intervals.proofs.Adding.{Table}
use Rattle.im_alloc_intervals.proofs.Gets.{set_same, set_other}

at_replicate : (n v : ℕ) → home_at (replicate n (Register 31)) v ≡ InRegister 31
at_replicate zero v = refl
at_replicate (suc n) zero = refl
at_replicate (suc n) (suc v) = at_replicate n v

pub first_begin : (count : ℕ) (of : List HomeOf) → of ≡ replicate count (Register 31) → AreFirst 0 count of
first_begin count of is = record {
  long = ap length is ∙ length-replicate count (Register 31);
  received = λ v lt. absurd (omega arith);
  rest = λ v le. ap (λ (z : List HomeOf). home_at z v) is ∙ at_replicate count v;
}

pub first_next : (q count : ℕ) (of new : List HomeOf) → q < count → AreFirst q count of → new ≡ set of q (Register (10 + q)) → AreFirst (q + 1) count new
first_next q count of new lt x is = record {
  long = ap length is ∙ length-set of q (Register (10 + q)) ∙ x.long;
  received = λ v less.
      ⊎_elim
      (λ (e : v ≡ q). ap (λ (z : ℕ). home_at new z) e ∙ same ∙ ap (λ (z : ℕ). InRegister (10 + z)) (sym e))
      (λ (ne : v ≢ q). other v ne ∙ x.received v (omega arith))
      (cases_eq v q);
  rest = λ v le. other v (λ e. omega arith) ∙ x.rest v (omega arith);
}
  where
    same : home_at new q ≡ InRegister (10 + q)
    same = ap (λ (z : List HomeOf). home_at z q) is ∙ ap home_or (set_same of q (Register (10 + q)) (let long = x.long in omega arith))

    other : (v : ℕ) → v ≢ q → home_at new v ≡ home_at of v
    other v ne = ap (λ (z : List HomeOf). home_at z v) is ∙ ap home_or (set_other of q v (Register (10 + q)) ne)

-- no register is in use
register_none : (n r : ℕ) → register_at (replicate n None) r ≡ None
register_none zero r = refl
register_none (suc n) zero = refl
register_none (suc n) (suc r) = register_none n r

-- but those of the first parameters

pub waiting_begin : (table : Table) (registers : List (Option ℕ)) →
    registers ≡ replicate 32 None → AreWaiting 0 table registers
waiting_begin table registers is = record {
  long = ap length is ∙ length-replicate {A = Option ℕ} 32 None;
  each = λ v lt. absurd (omega arith);
  rest = λ r k. ap (λ (z : List (Option ℕ)). register_at z r) is ∙ register_none 32 r;
}

pub waiting_next : (q : ℕ) (table : Table) (registers new : List (Option ℕ)) (last : Option ℕ) →
    10 + q < 32 → AreWaiting q table registers → last ≡ last_of (interval_at table q) →
    new ≡ set registers (10 + q) last → AreWaiting (q + 1) table new
waiting_next q table registers new last lt x value is = record {
  long = ap length is ∙ length-set registers (10 + q) last ∙ x.long;
  each = λ v less.
      ⊎_elim
      (λ (e : v ≡ q).
      ap (λ (z : ℕ). register_at new (10 + z)) e ∙ same ∙ value
      ∙ ap (λ (z : ℕ). last_of (interval_at table z)) (sym e))
      (λ (ne : v ≢ q). other (10 + v) (λ e. ne (omega arith)) ∙ x.each v (omega arith))
      (cases_eq v q);
  rest = λ r k.
      ⊎_elim
      (λ (low : r < 10). other r (λ e. omega arith) ∙ x.rest r (inl low))
      (λ (high : 10 + (q + 1) ≤ r). other r (λ e. omega arith) ∙ x.rest r (inr (omega arith)))
      k;
}
  where
    same : register_at new (10 + q) ≡ last
    same =
        ap (λ (z : List (Option ℕ)). register_at z (10 + q)) is
        ∙ get_or-set_same registers (10 + q) last None (let long = x.long in omega arith)

    other : (r : ℕ) → r ≢ 10 + q → register_at new r ≡ register_at registers r
    other r ne =
        ap (λ (z : List (Option ℕ)). register_at z r) is
        ∙ get_or-set_other registers (10 + q) r last None ne

-- a register that is in use then is a parameter's
pub record WaitsIn (parameters : ℕ) (table : Table) (r last : ℕ) : Type 0 where
  pub v : ℕ
  pub interval : Interval
  pub less : v < parameters
  pub at : interval_at table v ≡ Some interval
  pub is : interval.last ≡ last
  pub home : 10 + v ≡ r

pub waits_in : (parameters : ℕ) (table : Table) (registers : List (Option ℕ)) →
    AreWaiting parameters table registers → (r last : ℕ) → register_at registers r ≡ Some last →
    WaitsIn parameters table r last
waits_in parameters table registers x r last used =
    ⊎_elim
    (λ (low : r < 10). absurd (none-some last (sym (x.rest r (inl low)) ∙ used)))
    (λ (le : 10 ≤ r).
    ⊎_elim
    (λ (lt : r < 10 + parameters). found le lt)
    (λ (high : 10 + parameters ≤ r). absurd (none-some last (sym (x.rest r (inr high)) ∙ used)))
    (cases_lt r (10 + parameters)))
    (cases_lt r 10)
  where
    found : 10 ≤ r → r < 10 + parameters → WaitsIn parameters table r last
    found le lt =
        let is : 10 + (r - 10) ≡ r = omega arith in
        let less : r - 10 < parameters = omega arith in
        by less is (interval_at table (r - 10)) refl
        (sym (x.each (r - 10) less) ∙ ap (λ (z : ℕ). register_at registers z) is ∙ used)
      where
        by : r - 10 < parameters → 10 + (r - 10) ≡ r → (o : Option Interval) →
            interval_at table (r - 10) ≡ o → last_of o ≡ Some last → WaitsIn parameters table r last
        by less is None at e = absurd (none-some last e)
        by less is (Some i) at e = record {
          v = r - 10;
          interval = i;
          less = less;
          at = at;
          is = same_Some i.last last e;
          home = is;
        }
