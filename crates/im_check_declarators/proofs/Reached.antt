-- Stars one after the other.
use Rattle.std.proofs.Common.{◌≡◌, ℕ, ◌+◌, ◌<◌, List, [], ◌∷◌, length, drop, get_or, inl, inr, refl, sym, ap, subst, ◌∙◌}
use Rattle.std.proofs.lemmas.List.{drop_more}
use Rattle.im_rules.specs.Declared.{Qualified, starred, with_stars, stars_ask}
use Rattle.im_rules.specs.Demands.{asks, Meets, Refuses}
use Rattle.im_rules.specs.Rules.{rule_10}
use Rattle.im_ctree.specs.declared.declarator.Star.{Star}
use Rattle.im_ctree_parts.specs.Lists.{stars_in}
use Rattle.im_check_stop.specs.declared.stop.Stop.{Stop}
use Rattle.im_check_stop.specs.declared.stop.Stop.TheVariants.{Rule, Large, Memory}
use Rattle.im_check_stop.specs.Answers.{IsRefusal}

pub next : {X : Type 0} (xs : List X) (i : ℕ) (x : X) → i < length xs → x ≡ get_or xs i x → drop i xs ≡ x ∷ drop (i + 1) xs
next xs i x within is = drop_more xs i x within ∙ ap (λ y. y ∷ drop (i + 1) xs) (sym is)

-- how far stars have made a type
pub record StarsReached (base : Qualified) (all : List ℕ) (q : Qualified) (rest : List ℕ) : Type 0 where
  pub made : with_stars base all ≡ with_stars q rest
  pub meets : Meets (stars_ask q rest) → Meets (stars_ask base all)
  pub refuses : (rule : ℕ) → Refuses rule (stars_ask q rest) → Refuses rule (stars_ask base all)

pub reached_none : (q : Qualified) (all : List ℕ) → StarsReached q all q all
reached_none q all = record { made = refl; meets = λ m. m; refuses = λ rule r. r }

pub reached_more : (base : Qualified) (all : List ℕ) (q : Qualified) (k : ℕ) (rest : List ℕ) (y : Qualified)
    → StarsReached base all q (k ∷ rest) → Meets (asks 10 (rule_10 q.type) ∷ []) → y ≡ starred q k
    → StarsReached base all y rest
reached_more base all q k rest y h m e =
    record {
      made = h.made ∙ ap (λ (z : Qualified). with_stars z rest) (sym e);
      meets = λ n. h.meets (m.0, subst (λ (z : Qualified). Meets (stars_ask z rest)) e n);
      refuses = λ rule r. h.refuses rule (inr (subst (λ (z : Qualified). Refuses rule (stars_ask z rest)) e r));
    }

pub reached_fault : (base : Qualified) (all : List ℕ) (q : Qualified) (k : ℕ) (rest : List ℕ) (rule : ℕ)
    → StarsReached base all q (k ∷ rest) → Refuses rule (asks 10 (rule_10 q.type) ∷ []) → Refuses rule (stars_ask base all)
reached_fault base all q k rest rule h (inl r) = h.refuses rule (inl r)
reached_fault base all q k rest rule h (inr r) = absurd r

star_at : (stars : List Star) (i : ℕ) (d : Star) → i < length stars → stars_in (drop i stars) ≡ (get_or stars i d).consts ∷ stars_in (drop (i + 1) stars)
star_at stars i d below = ap stars_in (drop_more stars i d below)

pub star_step : (base : Qualified) (stars : List Star) (i : ℕ) (d : Star) (q y : Qualified) → i < length stars → StarsReached base (stars_in stars) q (stars_in (drop i stars))
    → Meets (asks 10 (rule_10 q.type) ∷ []) × (y ≡ starred q (get_or stars i d).consts)
    → StarsReached base (stars_in stars) y (stars_in (drop (i + 1) stars))
star_step base stars i d q y below h m =
    let now : StarsReached base (stars_in stars) q ((get_or stars i d).consts ∷ stars_in (drop (i + 1) stars)) = subst (λ (ks : List ℕ). StarsReached base (stars_in stars) q ks) (star_at stars i d below) h in
    reached_more base (stars_in stars) q (get_or stars i d).consts (stars_in (drop (i + 1) stars)) y now m.0 m.1

pub star_fault : (base : Qualified) (stars : List Star) (i : ℕ) (d : Star) (q : Qualified) (at : ℕ) (stop : Stop) → i < length stars → StarsReached base (stars_in stars) q (stars_in (drop i stars))
    → IsRefusal (asks 10 (rule_10 q.type) ∷ []) at stop → IsRefusal (stars_ask base (stars_in stars)) at stop
star_fault base stars i d q at (Rule rule token) below h r =
    let now : StarsReached base (stars_in stars) q ((get_or stars i d).consts ∷ stars_in (drop (i + 1) stars)) = subst (λ (ks : List ℕ). StarsReached base (stars_in stars) q ks) (star_at stars i d below) h in
    (reached_fault base (stars_in stars) q (get_or stars i d).consts (stars_in (drop (i + 1) stars)) rule now r.0, r.1)
star_fault base stars i d q at (Large bytes) below h r = absurd r
star_fault base stars i d q at Memory below h r = tt
