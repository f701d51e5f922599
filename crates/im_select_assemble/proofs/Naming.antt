-- The names of parts as parts are added.
use Rattle.std.proofs.Common.{◌≡◌, ◌<◌, inl, inr, ℕ, ◌+◌, List, [], ◌∷◌, ◌++◌, map, take, length, Some, sym, ap, ◌∙◌, append_assoc, arith}
use Rattle.std.specs.Prelude.{slice_get, codes, String, string_bytes}
use Rattle.std.specs.Global.{Global}
use Rattle.std.proofs.lemmas.Option.{slice_get_cases}
use Rattle.std.proofs.lemmas.List.{map_more, map-append, take_all}
use Rattle.im_rv.specs.declared.code.Part.{Part}
use Rattle.im_select_assemble.specs.Names.{part_names, runtime_names, program_names}

pub named_new : (old : List Part) (part : Part) (name : List ℕ) → string_bytes part.name ≡ name → part_names (old ++ part ∷ []) ≡ part_names old ++ (name ∷ [])
named_new old part name e = map-append (λ (z : Part). string_bytes z.name) old (part ∷ []) ∙ ap (λ z. part_names old ++ (z ∷ [])) e

pub runtime_named : {b d e f g : List (List ℕ)} → b ≡ [] ++ (codes "recovery" ∷ []) → d ≡ b ++ (codes "checkpoint" ∷ []) → e ≡ d ++ (codes "getchar" ∷ []) → f ≡ e ++ (codes "putchar" ∷ []) → g ≡ f ++ (codes "stack" ∷ []) → g ≡ runtime_names
runtime_named r k g p s =
    s ∙ ap (λ z. z ++ (codes "stack" ∷ [])) (p ∙ ap (λ z. z ++ (codes "putchar" ∷ [])) (g ∙ ap (λ z. z ++ (codes "getchar" ∷ [])) (k ∙ ap (λ z. z ++ (codes "checkpoint" ∷ [])) r)))

pub named_on : (names : List (String Global)) (i : ℕ) (base now new : List (List ℕ)) → i < length names →
    now ≡ base ++ map string_bytes (take i names) →
    ((name : String Global) → slice_get names i ≡ Some name → new ≡ now ++ (string_bytes name ∷ [])) →
    new ≡ base ++ map string_bytes (take (i + 1) names)
named_on names i base now new below e h = elim (slice_get_cases names i).1 [
  | inl c ↦
      let m : map string_bytes (take (i + 1) names) ≡ map string_bytes (take i names) ++ (string_bytes c.0 ∷ []) =
      map_more string_bytes names i c.0 below ∙ ap (λ z. map string_bytes (take i names) ++ (string_bytes z ∷ [])) c.3 in
      h c.0 c.2 ∙ ap (λ z. z ++ (string_bytes c.0 ∷ [])) e ∙ append_assoc base (map string_bytes (take i names)) (string_bytes c.0 ∷ []) ∙ ap (λ z. base ++ z) (sym m)
  | inr c ↦ absurd (omega (arith, below, c.0))
]

pub program_named : (names : List (String Global)) (n : ℕ) (first second third : List (List ℕ)) → length names ≡ n →
    first ≡ runtime_names →
    second ≡ first ++ map string_bytes (take n names) →
    third ≡ second ++ (codes "start" ∷ []) →
    third ≡ program_names (map string_bytes names)
program_named names n first second third count r f s =
    let all : map string_bytes (take n names) ≡ map string_bytes names = ap (map string_bytes) (take_all n names (omega (arith, count))) in
    s ∙ ap (λ z. z ++ (codes "start" ∷ [])) (f ∙ ap (λ z. z ++ map string_bytes (take n names)) r ∙ ap (λ z. runtime_names ++ z) all)
    ∙ append_assoc runtime_names (map string_bytes names) (codes "start" ∷ [])
