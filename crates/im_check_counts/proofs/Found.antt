-- The functions whose parameters take too many words, one behind the other.
use Rattle.std.proofs.Common.{◌≡◌, ℕ, ◌<◌, ◌≤◌, List, [], ◌∷◌, ◌++◌, Option, Some, None, sym, ap, ◌∙◌, subst, arith, append_assoc}
use Rattle.std.specs.List.{Contains}
use Rattle.im_check_outline.specs.im_rules.Scopes.{Scopes, meaning}
use Rattle.im_rules_limits.specs.Limits.{Head, words_meant, words_taken, parameter_limit, IsFirstOver}
use Rattle.im_rules_limits.proofs.First.{one-within, taken-append, within-both}
use Rattle.im_check_counts.specs.declared.crowded.Crowded.{Crowded}
use Rattle.im_check_counts.specs.Crowded.{CrowdedAmong, IsCrowdedIn}

-- the first function has the first count over the limit
pub first_over : {g : Scopes} {hs : List Head} {words token : ℕ} {name : List ℕ} → CrowdedAmong g hs words token name → IsFirstOver (words_taken g hs) words
first_over {g = g} {hs = hs} {words = words} {token = token} {name = name} h =
    let this : Head = record { token = token; name = name } in
    record {
      before = words_taken g h.before;
      behind = words_taken g h.behind;
      place = ap (words_taken g) h.place ∙ taken-append g h.before (this ∷ h.behind)
          ∙ ap (λ (n : ℕ). words_taken g h.before ++ n ∷ words_taken g h.behind) (sym h.is_words);
      within = h.within;
      over = h.over;
    }

-- the steps of the search

none_there : {A : Type 0} (x : A) → Contains [] x → ⊥
none_there x c = let below = c.1 in absurd (omega arith)

pub none_crowded : (g : Scopes) → IsCrowdedIn g [] None
none_crowded g n c = absurd (none_there n c)

pub one_crowded : (g : Scopes) (h : Head) (words token : ℕ) (name : List ℕ) → words ≡ words_meant (meaning g h.name) → parameter_limit < words → token ≡ h.token → name ≡ h.name
    → CrowdedAmong g (h ∷ []) words token name
one_crowded g h words token name is_words over is_token is_name =
    record {
      before = [];
      behind = [];
      place = λ i. record { token = sym is_token i; name = sym is_name i } ∷ [];
      within = λ n c. absurd (none_there n c);
      is_words = is_words ∙ ap (λ x. words_meant (meaning g x)) (sym is_name);
      over = over;
    }

pub one_few : (g : Scopes) (h : Head) (words : ℕ) → words ≡ words_meant (meaning g h.name) → words ≤ parameter_limit → IsCrowdedIn g (h ∷ []) None
one_few g h words is few = one-within (words_meant (meaning g h.name)) (subst (λ (z : ℕ). z ≤ parameter_limit) is few)

pub crowded_here : (g : Scopes) (h : Head) (hs : List Head) (found : Crowded) → IsCrowdedIn g (h ∷ []) (Some found) → IsCrowdedIn g (h ∷ hs) (Some found)
crowded_here g h hs found own =
    let this : Head = record { token = found.at; name = found.name.now } in
    record {
      before = own.before;
      behind = own.behind ++ hs;
      place = ap (λ z. z ++ hs) own.place ∙ append_assoc own.before (this ∷ own.behind) hs;
      within = own.within;
      is_words = own.is_words;
      over = own.over;
    }

pub crowded_behind : (g : Scopes) (h : Head) (hs : List Head) (r : Option Crowded) → IsCrowdedIn g (h ∷ []) None → IsCrowdedIn g hs r → IsCrowdedIn g (h ∷ hs) r
crowded_behind g h hs None few rest = within-both (words_taken g (h ∷ [])) (words_taken g hs) few rest
crowded_behind g h hs (Some found) few rest =
    record {
      before = h ∷ rest.before;
      behind = rest.behind;
      place = ap (λ z. h ∷ z) rest.place;
      within = within-both (words_taken g (h ∷ [])) (words_taken g rest.before) few rest.within;
      is_words = rest.is_words;
      over = rest.over;
    }
