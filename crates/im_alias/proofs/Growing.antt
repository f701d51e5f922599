-- One owner's set in a table takes more objects.
use Rattle.std.proofs.Common.{◌≡◌, ◌≢◌, ℕ, zero, suc, ◌+◌, ◌-◌, ◌<◌, List, length, get_or, Bool, true, false, Option, Some, None, refl, sym, ap, ◌∙◌, subst, inl, inr, ⊎_elim, ◌⊎◌, arith}
use mathlib.Core.Path.{fun_ext}
use Rattle.std.specs.Prelude.{slice_get, slice_set, sum_by}
use Rattle.std.proofs.lemmas.Option.{slice_get-get_or, slice_get_within}
use Rattle.std.proofs.lemmas.List.{length-set}
use Rattle.std.proofs.lemmas.List.Sums.{sum_by-set}
use Rattle.im_block.specs.Sections.{Has}
use Rattle.im_block_laws.specs.PointsTo.{Sub}
use Rattle.im_alias.specs.PointsAt.{PointsAt}
use Rattle.im_alias.specs.declared.set.ObjectSet.{ObjectSet}
use Rattle.im_alias.specs.declared.table.RegisterSets.{RegisterSets}
use Rattle.im_alias.specs.declared.table.Owner.TheVariants.{Object, Returned, Register}
use Rattle.im_alias.specs.declared.table.Table.{Table}
use Rattle.im_alias.specs.Ascending.{IsWithin}
use Rattle.im_alias.specs.Sets.{set_in, row_sets, row_in, width, points, set_room, row_room, Put, Grows}
use Rattle.im_alias.proofs.Lists.{at_same, at_other}
use Rattle.im_alias.proofs.Ascendings.{few}

same_place : (i j : ℕ) → (j ≡ i) ⊎ (j ≢ i)
same_place zero zero = inl refl
same_place zero (suc j) = inr (λ e. omega arith)
same_place (suc i) zero = inr (λ e. omega arith)
same_place (suc i) (suc j) = ⊎_elim (λ e. inl (ap suc e)) (λ n. inr (λ e. n (omega arith))) (same_place i j)

module _ (old new : List ObjectSet) (n : ℕ) (from : List ℕ) (changed : Bool) (p : Put old new n from changed) where
  pub at_it : set_in (slice_get new n) ≡ p.set.members.items
  at_it = ap (λ l. set_in (slice_get l n)) p.is ∙ ap set_in (at_same old n p.set p.there)

  pub at_others : (m : ℕ) → m ≢ n → set_in (slice_get new m) ≡ set_in (slice_get old m)
  at_others m h = ap (λ l. set_in (slice_get l m)) p.is ∙ ap set_in (at_other old n m p.set h)

  pub put_length : length new ≡ length old
  put_length = ap length p.is ∙ length-set old n p.set

  pub put_kept : (m : ℕ) → Sub (set_in (slice_get old m)) (set_in (slice_get new m))
  put_kept m = ⊎_elim
      (λ e. λ x h. subst (λ k. Has (set_in (slice_get new k)) x) (sym e) (subst (λ l. Has l x) (sym at_it) (p.adds.kept x (subst (λ k. Has (set_in (slice_get old k)) x) e h))))
      (λ h. λ x k. subst (λ l. Has l x) (sym (at_others m h)) k)
      (same_place n m)

  pub put_upper : (q : ℕ → List ℕ) → ((m : ℕ) → Sub (set_in (slice_get old m)) (q m)) → Sub from (q n) → (m : ℕ) → Sub (set_in (slice_get new m)) (q m)
  put_upper q below h m = ⊎_elim
      (λ e. λ x k. subst (λ j. Has (q j) x) (sym e) (⊎_elim (λ a. below n x a) (λ b. h x b) (p.adds.within x (subst (λ l. Has l x) at_it (subst (λ j. Has (set_in (slice_get new j)) x) e k)))))
      (λ n'. λ x k. below m x (subst (λ l. Has l x) (at_others m n') k))
      (same_place n m)

  pub put_same : changed ≡ false → (m : ℕ) → set_in (slice_get new m) ≡ set_in (slice_get old m)
  put_same e m = ⊎_elim
      (λ i. subst (λ j. set_in (slice_get new j) ≡ set_in (slice_get old j)) (sym i) (at_it ∙ p.adds.same e))
      (λ h. at_others m h)
      (same_place n m)

  pub put_held : changed ≡ false → Sub from (set_in (slice_get old n))
  put_held e x h = subst (λ l. Has l x) (p.adds.same e) (p.adds.held x h)

  was : slice_get old n ≡ Some (get_or old n p.set)
  was = slice_get-get_or old n p.set p.there

  put_sum : (bound : ℕ) → sum_by (set_room bound) new + (bound - length (set_in (slice_get old n))) ≡ sum_by (set_room bound) old + (bound - length p.set.members.items)
  put_sum bound =
      let s = sum_by-set (set_room bound) old n p.set p.set p.there in
      let e : sum_by (set_room bound) new ≡ sum_by (set_room bound) (slice_set old n p.set) = ap (sum_by (set_room bound)) p.is in
      let w : bound - length (set_in (slice_get old n)) ≡ set_room bound (get_or old n p.set) = ap (λ o. bound - length (set_in o)) was in
      omega arith

  pub put_room_same : changed ≡ false → (bound : ℕ) → sum_by (set_room bound) new ≡ sum_by (set_room bound) old
  put_room_same e bound = let s = put_sum bound in let l = ap length (p.adds.same e) in
      let m : bound - length p.set.members.items ≡ bound - length (set_in (slice_get old n)) = ap (λ k. bound - k) l in
      omega arith

  pub put_room_less : (bound : ℕ) → changed ≡ true → IsWithin bound (set_in (slice_get new n)) → sum_by (set_room bound) new < sum_by (set_room bound) old
  put_room_less bound e within =
      let s = put_sum bound in
      let l = p.adds.more e in
      let f = few bound p.set.members.items p.set.ascending (subst (IsWithin bound) at_it within) in
      omega arith

abbrev made : (ℕ → ℕ → List ℕ) → (ℕ → List ℕ) → (ℕ → List ℕ) → PointsAt
made f g h = record { register = f; object = g; result = h }

points_are : (p q : PointsAt) → ((i r : ℕ) → p.register i r ≡ q.register i r) → ((n : ℕ) → p.object n ≡ q.object n) → ((i : ℕ) → p.result i ≡ q.result i) → p ≡ q
points_are p q a b c =
    let x : p.register ≡ q.register = fun_ext (λ i. fun_ext (λ r. a i r)) in
    let y : p.object ≡ q.object = fun_ext b in
    let z : p.result ≡ q.result = fun_ext c in
    ap (λ f. made f p.object p.result) x ∙ ap (λ g. made q.register g p.result) y ∙ ap (λ h. made q.register q.object h) z

pub object_grows : (old new : Table) (n : ℕ) (from : List ℕ) (changed : Bool) → Put old.objects.items new.objects.items n from changed → new.returned.items ≡ old.returned.items → new.registers.items ≡ old.registers.items → Grows (Object n) from old new changed
object_grows old new n from changed p a b =
    let os = old.objects.items in
    let ns = new.objects.items in
    record {
      shape = record { objects = put_length os ns n from changed p; returned = ap length a; registers = ap length b; widths = λ i. ap (λ l. width (slice_get l i)) b };
      kept = record {
        register = λ i r x h. subst (λ l. Has (row_in (slice_get l i) r) x) (sym b) h;
        object = put_kept os ns n from changed p;
        result = λ i x h. subst (λ l. Has (set_in (slice_get l i)) x) (sym a) h;
      };
      same = λ e. (
        points_are (points new) (points old) (λ i r. ap (λ l. row_in (slice_get l i) r) b) (put_same os ns n from changed p e) (λ i. ap (λ l. set_in (slice_get l i)) a),
        put_held os ns n from changed p e,
        λ bound.
            let x = put_room_same os ns n from changed p e bound in
            let y : sum_by (set_room bound) new.returned.items ≡ sum_by (set_room bound) old.returned.items = ap (sum_by (set_room bound)) a in
            let z : sum_by (row_room bound) new.registers.items ≡ sum_by (row_room bound) old.registers.items = ap (sum_by (row_room bound)) b in
            omega arith,
      );
      less = λ bound e h.
          let x = put_room_less os ns n from changed p bound e (h.object n) in
          let y : sum_by (set_room bound) new.returned.items ≡ sum_by (set_room bound) old.returned.items = ap (sum_by (set_room bound)) a in
          let z : sum_by (row_room bound) new.registers.items ≡ sum_by (row_room bound) old.registers.items = ap (sum_by (row_room bound)) b in
          omega arith;
      upper = λ q h k. record {
        register = λ i r x j. h.register i r x (subst (λ l. Has (row_in (slice_get l i) r) x) b j);
        object = put_upper os ns n from changed p q.object h.object k;
        result = λ i x j. h.result i x (subst (λ l. Has (set_in (slice_get l i)) x) a j);
      };
    }

pub returned_grows : (old new : Table) (n : ℕ) (from : List ℕ) (changed : Bool) → Put old.returned.items new.returned.items n from changed → new.objects.items ≡ old.objects.items → new.registers.items ≡ old.registers.items → Grows (Returned n) from old new changed
returned_grows old new n from changed p a b =
    let os = old.returned.items in
    let ns = new.returned.items in
    record {
      shape = record { objects = ap length a; returned = put_length os ns n from changed p; registers = ap length b; widths = λ i. ap (λ l. width (slice_get l i)) b };
      kept = record {
        register = λ i r x h. subst (λ l. Has (row_in (slice_get l i) r) x) (sym b) h;
        object = λ i x h. subst (λ l. Has (set_in (slice_get l i)) x) (sym a) h;
        result = put_kept os ns n from changed p;
      };
      same = λ e. (
        points_are (points new) (points old) (λ i r. ap (λ l. row_in (slice_get l i) r) b) (λ i. ap (λ l. set_in (slice_get l i)) a) (put_same os ns n from changed p e),
        put_held os ns n from changed p e,
        λ bound.
            let x = put_room_same os ns n from changed p e bound in
            let y : sum_by (set_room bound) new.objects.items ≡ sum_by (set_room bound) old.objects.items = ap (sum_by (set_room bound)) a in
            let z : sum_by (row_room bound) new.registers.items ≡ sum_by (row_room bound) old.registers.items = ap (sum_by (row_room bound)) b in
            omega arith,
      );
      less = λ bound e h.
          let x = put_room_less os ns n from changed p bound e (h.result n) in
          let y : sum_by (set_room bound) new.objects.items ≡ sum_by (set_room bound) old.objects.items = ap (sum_by (set_room bound)) a in
          let z : sum_by (row_room bound) new.registers.items ≡ sum_by (row_room bound) old.registers.items = ap (sum_by (row_room bound)) b in
          omega arith;
      upper = λ q h k. record {
        register = λ i r x j. h.register i r x (subst (λ l. Has (row_in (slice_get l i) r) x) b j);
        object = λ i x j. h.object i x (subst (λ l. Has (set_in (slice_get l i)) x) a j);
        result = put_upper os ns n from changed p q.result h.result k;
      };
    }

-- a row among rows
pub record PutRow (old new : List RegisterSets) (i r : ℕ) (from : List ℕ) (changed : Bool) : Type 0 where
  pub row : RegisterSets
  pub before : RegisterSets
  pub was : slice_get old i ≡ Some before
  pub there : i < length old
  pub is : new ≡ slice_set old i row
  pub put : Put before.sets.items row.sets.items r from changed

module _ (old new : List RegisterSets) (i r : ℕ) (from : List ℕ) (changed : Bool) (p : PutRow old new i r from changed) where
  it_is : slice_get new i ≡ Some p.row
  it_is = ap (λ l. slice_get l i) p.is ∙ at_same old i p.row p.there

  others_are : (j : ℕ) → j ≢ i → slice_get new j ≡ slice_get old j
  others_are j h = ap (λ l. slice_get l j) p.is ∙ at_other old i j p.row h

  pub rows_length : length new ≡ length old
  rows_length = ap length p.is ∙ length-set old i p.row

  pub rows_widths : (j : ℕ) → width (slice_get new j) ≡ width (slice_get old j)
  rows_widths j = ⊎_elim
      (λ e. subst (λ k. width (slice_get new k) ≡ width (slice_get old k)) (sym e) (ap width it_is ∙ put_length p.before.sets.items p.row.sets.items r from changed p.put ∙ sym (ap width p.was)))
      (λ h. ap width (others_are j h))
      (same_place i j)

  -- what holds of each set of a row, from what holds of the one that changed and of the others
  pub rows_each : (Q : ℕ → List ℕ → List ℕ → Type 0) → ((s : ℕ) → Q i (row_sets p.before s) (row_sets p.row s)) → ((j s : ℕ) → Q j (row_in (slice_get old j) s) (row_in (slice_get old j) s)) → (j s : ℕ) → Q j (row_in (slice_get old j) s) (row_in (slice_get new j) s)
  rows_each Q here there j s = ⊎_elim
      (λ e. subst (λ k. Q k (row_in (slice_get old k) s) (row_in (slice_get new k) s)) (sym e) (subst (λ o. Q i (row_in o s) (row_in (slice_get new i) s)) (sym p.was) (subst (λ o. Q i (row_sets p.before s) (row_in o s)) (sym it_is) (here s))))
      (λ h. subst (λ o. Q j (row_in (slice_get old j) s) (row_in o s)) (sym (others_are j h)) (there j s))
      (same_place i j)

  pub rows_kept : (j s : ℕ) → Sub (row_in (slice_get old j) s) (row_in (slice_get new j) s)
  rows_kept = rows_each (λ j a b. Sub a b) (put_kept p.before.sets.items p.row.sets.items r from changed p.put) (λ j s x h. h)

  pub rows_same : changed ≡ false → (j s : ℕ) → row_in (slice_get new j) s ≡ row_in (slice_get old j) s
  rows_same e = rows_each (λ j a b. b ≡ a) (put_same p.before.sets.items p.row.sets.items r from changed p.put e) (λ j s. refl)

  pub rows_held : changed ≡ false → Sub from (row_in (slice_get old i) r)
  rows_held e = subst (λ o. Sub from (row_in o r)) (sym p.was) (put_held p.before.sets.items p.row.sets.items r from changed p.put e)

  pub rows_upper : (q : ℕ → ℕ → List ℕ) → ((j s : ℕ) → Sub (row_in (slice_get old j) s) (q j s)) → Sub from (q i r) → (j s : ℕ) → Sub (row_in (slice_get new j) s) (q j s)
  rows_upper q below h j s = ⊎_elim
      (λ e. subst (λ k. Sub (row_in (slice_get new k) s) (q k s)) (sym e) (subst (λ o. Sub (row_in o s) (q i s)) (sym it_is) (put_upper p.before.sets.items p.row.sets.items r from changed p.put (q i) (λ m. subst (λ o. Sub (row_in o m) (q i m)) p.was (below i m)) h s)))
      (λ k. subst (λ o. Sub (row_in o s) (q j s)) (sym (others_are j k)) (below j s))
      (same_place i j)

  before_is : (d : RegisterSets) → get_or old i d ≡ p.before
  before_is d = let e = slice_get-get_or old i d p.there in let f = p.was in cc

  rows_sum : (bound : ℕ) → sum_by (row_room bound) new + row_room bound p.before ≡ sum_by (row_room bound) old + row_room bound p.row
  rows_sum bound =
      let s = sum_by-set (row_room bound) old i p.row p.row p.there in
      let e : sum_by (row_room bound) new ≡ sum_by (row_room bound) (slice_set old i p.row) = ap (sum_by (row_room bound)) p.is in
      let w : row_room bound (get_or old i p.row) ≡ row_room bound p.before = ap (row_room bound) (before_is p.row) in
      omega arith

  pub rows_room_same : changed ≡ false → (bound : ℕ) → sum_by (row_room bound) new ≡ sum_by (row_room bound) old
  rows_room_same e bound =
      let s = rows_sum bound in
      let t = put_room_same p.before.sets.items p.row.sets.items r from changed p.put e bound in
      omega arith

  pub rows_room_less : (bound : ℕ) → changed ≡ true → IsWithin bound (row_in (slice_get new i) r) → sum_by (row_room bound) new < sum_by (row_room bound) old
  rows_room_less bound e within =
      let s = rows_sum bound in
      let t = put_room_less p.before.sets.items p.row.sets.items r from changed p.put bound e (subst (λ o. IsWithin bound (row_in o r)) it_is within) in
      omega arith

pub register_grows : (old new : Table) (i r : ℕ) (from : List ℕ) (changed : Bool) → PutRow old.registers.items new.registers.items i r from changed → new.objects.items ≡ old.objects.items → new.returned.items ≡ old.returned.items → Grows (Register i r) from old new changed
register_grows old new i r from changed p a b =
    let os = old.registers.items in
    let ns = new.registers.items in
    record {
      shape = record { objects = ap length a; returned = ap length b; registers = rows_length os ns i r from changed p; widths = rows_widths os ns i r from changed p };
      kept = record {
        register = rows_kept os ns i r from changed p;
        object = λ j x h. subst (λ l. Has (set_in (slice_get l j)) x) (sym a) h;
        result = λ j x h. subst (λ l. Has (set_in (slice_get l j)) x) (sym b) h;
      };
      same = λ e. (
        points_are (points new) (points old) (rows_same os ns i r from changed p e) (λ j. ap (λ l. set_in (slice_get l j)) a) (λ j. ap (λ l. set_in (slice_get l j)) b),
        rows_held os ns i r from changed p e,
        λ bound.
            let x = rows_room_same os ns i r from changed p e bound in
            let y : sum_by (set_room bound) new.objects.items ≡ sum_by (set_room bound) old.objects.items = ap (sum_by (set_room bound)) a in
            let z : sum_by (set_room bound) new.returned.items ≡ sum_by (set_room bound) old.returned.items = ap (sum_by (set_room bound)) b in
            omega arith,
      );
      less = λ bound e h.
          let x = rows_room_less os ns i r from changed p bound e (h.register i r) in
          let y : sum_by (set_room bound) new.objects.items ≡ sum_by (set_room bound) old.objects.items = ap (sum_by (set_room bound)) a in
          let z : sum_by (set_room bound) new.returned.items ≡ sum_by (set_room bound) old.returned.items = ap (sum_by (set_room bound)) b in
          omega arith;
      upper = λ q h k. record {
        register = rows_upper os ns i r from changed p q.register h.register k;
        object = λ j x m. h.object j x (subst (λ l. Has (set_in (slice_get l j)) x) a m);
        result = λ j x m. h.result j x (subst (λ l. Has (set_in (slice_get l j)) x) b m);
      };
    }

row_within : (rows : List RegisterSets) (i r : ℕ) (o : Option RegisterSets) → slice_get rows i ≡ o → r < width o → i < length rows
row_within rows i r None e h = absurd (omega arith)
row_within rows i r (Some row) e h = slice_get_within rows i row e

pub row_there : (rows : List RegisterSets) (i r : ℕ) → r < width (slice_get rows i) → i < length rows
row_there rows i r h = row_within rows i r (slice_get rows i) refl h
