-- A node behind the others: what then stands where, and which number each node has.
use Rattle.std.proofs.Common.{◌≡◌, ◌<◌, ◌^◌, ◌⊎◌, inl, inr, ℕ, zero, suc, Bool, true, false, cond, List, [], ◌∷◌, ◌++◌, Some, None, length, refl, sym, ap, subst, ◌∙◌, arith}
use Rattle.std.proofs.lemmas.Bool.{false≢true}
use Rattle.std.proofs.lemmas.List.{length-append}
use Rattle.std.proofs.lemmas.Option.{none-some, same_Some}
use Rattle.std.specs.HashMap as hash
use Rattle.std.specs.Map.{lookup}
use Rattle.std.specs.Prelude.{slice_get}
use Rattle.im_ctype.specs.contracts.node.TypeNodePartialEq.TheImpl as node_eq
use Rattle.im_ctype.specs.declared.node.TypeNode.{TypeNode}
use Rattle.im_ctype.specs.Kept.{AreNodes}
use Rattle.im_ctype.specs.Numbered.{AreNumbered}
use Rattle.im_ctype.specs.Table.{IsEarlier}
use Rattle.im_ctype.proofs.Compared.{eq-same, eq-itself}

module _ {X : Type 0} where
  at-pushed : (xs : List X) (x : X) (i : ℕ) (y : X) → slice_get (xs ++ x ∷ []) i ≡ Some y → (slice_get xs i ≡ Some y) ⊎ ((i ≡ length xs) × (y ≡ x))
  at-pushed [] x zero y h = inr (refl, sym (same_Some x y h))
  at-pushed [] x (suc i) y h = absurd (none-some y h)
  at-pushed (z ∷ zs) x zero y h = inl h
  at-pushed (z ∷ zs) x (suc i) y h = by (at-pushed zs x i y h)
    where
      by : (slice_get zs i ≡ Some y) ⊎ ((i ≡ length zs) × (y ≡ x)) → (slice_get zs i ≡ Some y) ⊎ ((suc i ≡ suc (length zs)) × (y ≡ x))
      by (inl k) = inl k
      by (inr k) = inr (ap suc k.0, k.1)

  stays-at : (xs : List X) (x : X) (i : ℕ) (y : X) → slice_get xs i ≡ Some y → slice_get (xs ++ x ∷ []) i ≡ Some y
  stays-at [] x i y h = absurd (none-some y h)
  stays-at (z ∷ zs) x zero y h = h
  stays-at (z ∷ zs) x (suc i) y h = stays-at zs x i y h

  last-at : (xs : List X) (x : X) → slice_get (xs ++ x ∷ []) (length xs) ≡ Some x
  last-at [] x = refl
  last-at (z ∷ zs) x = last-at zs x

module _ (nodes : List TypeNode) (n : TypeNode) (absent : (i : ℕ) → slice_get nodes i ≡ Some n → ⊥) where
  pub nodes-pushed : AreNodes nodes → length nodes < 2 ^ 32 → IsEarlier (length nodes) n → AreNodes (nodes ++ n ∷ [])
  nodes-pushed h few earlier = record {
    few = let l = length-append nodes (n ∷ []) in omega arith;
    earlier = λ i m is. earlier-by i m (at-pushed nodes n i m is);
    different = λ i j m is js. different-by i j m (at-pushed nodes n i m is) (at-pushed nodes n j m js);
  }
    where
      earlier-by : (i : ℕ) (m : TypeNode) → (slice_get nodes i ≡ Some m) ⊎ ((i ≡ length nodes) × (m ≡ n)) → IsEarlier i m
      earlier-by i m (inl k) = h.earlier i m k
      earlier-by i m (inr k) = subst (λ j. IsEarlier j m) (sym k.0) (subst (IsEarlier (length nodes)) (sym k.1) earlier)

      different-by : (i j : ℕ) (m : TypeNode) → (slice_get nodes i ≡ Some m) ⊎ ((i ≡ length nodes) × (m ≡ n)) → (slice_get nodes j ≡ Some m) ⊎ ((j ≡ length nodes) × (m ≡ n)) → i ≡ j
      different-by i j m (inl k) (inl l) = h.different i j m k l
      different-by i j m (inl k) (inr l) = absurd (absent i (k ∙ ap Some l.1))
      different-by i j m (inr k) (inl l) = absurd (absent j (l ∙ ap Some k.1))
      different-by i j m (inr k) (inr l) = k.0 ∙ sym l.0

pub numbers-pushed : {S : Type 0} (nodes : List TypeNode) (n : TypeNode) (numbers more : hash.HashMap TypeNode ℕ S) → AreNumbered nodes numbers
    → ((m : TypeNode) → hash.get node_eq.eq-value.it more m ≡ cond (node_eq.eq-value.it n m) (Some (length nodes)) (hash.get node_eq.eq-value.it numbers m)) → AreNumbered (nodes ++ n ∷ []) more
numbers-pushed nodes n numbers more h set = record {
  found = λ m i is. found-by m i (node_eq.eq-value.it n m) refl (sym (set m) ∙ is);
  absent = λ m i none is. absent-by m i (node_eq.eq-value.it n m) refl (sym (set m) ∙ none) (at-pushed nodes n i m is);
}
  where
    found-by : (m : TypeNode) (i : ℕ) (b : Bool) → node_eq.eq-value.it n m ≡ b → cond b (Some (length nodes)) (hash.get node_eq.eq-value.it numbers m) ≡ Some i → slice_get (nodes ++ n ∷ []) i ≡ Some m
    found-by m i true e k = ap (slice_get (nodes ++ n ∷ [])) (sym (same_Some (length nodes) i k)) ∙ last-at nodes n ∙ ap Some (eq-same n m e)
    found-by m i false e k = stays-at nodes n i m (h.found m i k)

    absent-by : (m : TypeNode) (i : ℕ) (b : Bool) → node_eq.eq-value.it n m ≡ b → cond b (Some (length nodes)) (hash.get node_eq.eq-value.it numbers m) ≡ None → (slice_get nodes i ≡ Some m) ⊎ ((i ≡ length nodes) × (m ≡ n)) → ⊥
    absent-by m i true e k at = cc
    absent-by m i false e k (inl l) = h.absent m i k l
    absent-by m i false e k (inr l) = false≢true (sym e ∙ ap (node_eq.eq-value.it n) l.1 ∙ eq-itself n)

pub numbers-kept : {S : Type 0} (nodes : List TypeNode) (numbers more : hash.HashMap TypeNode ℕ S) → more.entries ≡ numbers.entries → AreNumbered nodes numbers → AreNumbered nodes more
numbers-kept nodes numbers more same h = record {
  found = λ n i is. h.found n i (ap (lookup (node_eq.eq-value.it n)) (sym same) ∙ is);
  absent = λ n i none is. h.absent n i (ap (lookup (node_eq.eq-value.it n)) (sym same) ∙ none) is;
}
