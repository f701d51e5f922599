-- What lives at the labels of a program.
use Rattle.std.proofs.Common.{◌≡◌, ℕ, zero, suc, ◌+◌, ◌-◌, ◌<◌, ◌≤◌, inl, inr, Bool, true, false, List, [], ◌∷◌, Option, Some, None, length, take, sym, ap, ◌∙◌, arith}
use Rattle.std.specs.Prelude.{◌&&◌, ◌||◌, nat_lt, nat_le, if◌then◌else◌, slice_get}
use Rattle.std.proofs.lemmas.Bool.Decides.{nat_tests}
use Rattle.std.proofs.lemmas.Option.{slice_get_within}
use Rattle.im_block.specs.declared.unit.Function.{Function}
use Rattle.im_block.specs.Shape.{sum_of}
use Rattle.im_select.specs.Emitted.{entry_label}
use Rattle.im_link_laws.specs.Program.{first_label}
use Rattle.im_saved_code.specs.Scan.{is_base}
use Rattle.im_saved_code.specs.LinesLaws.{lives_inside, IsLow, HasEntries, HasBlocks}
use Rattle.im_saved_code.proofs.Scanning.{both, both_are, either, or_left, or_right}

less_is : (a b : ℕ) → a < b → nat_lt a b ≡ true
less_is a b h = grind (arith, nat_tests)

less_not : (a b : ℕ) → b ≤ a → nat_lt a b ≡ false
less_not a b h = grind (arith, nat_tests)

abbrev arguments : Option Function → ℕ → Bool
arguments None r = false
arguments (Some f) r = nat_le 10 r && nat_lt r (10 + f.parameters)

-- wanted i b: what lives at block b of function i
abbrev in_blocks : (ℕ → ℕ → ℕ → Bool) → List Function → ℕ → ℕ → ℕ → Bool
in_blocks wanted [] i b r = false
in_blocks wanted (f ∷ fs) i b r = if nat_lt b (length f.blocks.items) then wanted i b r else in_blocks wanted fs (suc i) (b - length f.blocks.items) r

abbrev beyond_low : (ℕ → ℕ → ℕ → Bool) → List Function → ℕ → ℕ → Bool
beyond_low wanted functions l r = if nat_lt l (entry_label (length functions)) then arguments (slice_get functions (l - 64)) r else in_blocks wanted functions 0 (l - entry_label (length functions)) r

abbrev beside : (ℕ → ℕ → ℕ → Bool) → List Function → ℕ → ℕ → Bool
beside wanted functions l r = if nat_lt l 64 then lives_inside l r else beyond_low wanted functions l r

abbrev pub at_labels : (ℕ → ℕ → ℕ → Bool) → List Function → ℕ → ℕ → Bool
at_labels wanted functions l r = is_base r || beside wanted functions l r

found : (wanted : ℕ → ℕ → ℕ → Bool) (fs : List Function) (i k b r : ℕ) (f : Function) → slice_get fs k ≡ Some f → b < length f.blocks.items → in_blocks wanted fs i (sum_of (λ (z : Function). length z.blocks.items) (take k fs) + b) r ≡ wanted (i + k) b r
found wanted [] i k b r f e h = absurd cc
found wanted (x ∷ xs) i zero b r f e h =
    let same : x ≡ f = cc in
    let n : length x.blocks.items ≡ length f.blocks.items = ap (λ (z : Function). length z.blocks.items) same in
    let z : 0 + b ≡ b = omega arith in
    let i0 : i ≡ i + 0 = omega arith in
    ap (λ c. in_blocks wanted (x ∷ xs) i c r) z
    ∙ ap (λ t. if t then wanted i b r else in_blocks wanted xs (suc i) (b - length x.blocks.items) r) (less_is b (length x.blocks.items) (omega arith))
    ∙ ap (λ c. wanted c b r) i0
found wanted (x ∷ xs) i (suc k) b r f e h =
    let n : ℕ = length x.blocks.items in
    let s : ℕ = sum_of (λ (z : Function). length z.blocks.items) (take k xs) in
    let rest : n + s + b - n ≡ s + b = omega arith in
    let i1 : suc i + k ≡ i + suc k = omega arith in
    ap (λ t. if t then wanted i (n + s + b) r else in_blocks wanted xs (suc i) (n + s + b - n) r) (less_not (n + s + b) n (omega arith))
    ∙ ap (λ c. in_blocks wanted xs (suc i) c r) rest ∙ found wanted xs (suc i) k b r f e h ∙ ap (λ c. wanted c b r) i1

pub labels_low : (wanted : ℕ → ℕ → ℕ → Bool) (functions : List Function) → IsLow (at_labels wanted functions)
labels_low wanted functions = record {
  is = λ l r small. ap (λ t. is_base r || (if t then lives_inside l r else beyond_low wanted functions l r)) (less_is l 64 small);
  base = λ l r s. or_left (is_base r) (beside wanted functions l r) s;
}

pub labels_entries : (wanted : ℕ → ℕ → ℕ → Bool) (functions : List Function) → HasEntries functions (at_labels wanted functions)
labels_entries wanted functions = record {
  only = λ i r f e w. elim (either (is_base r) (beside wanted functions (entry_label i) r) w) [
    | inl s ↦ inl s
    | inr c ↦
        (let d = both (nat_le 10 r) (nat_lt r (10 + f.parameters)) (sym (at_entry i r f e) ∙ c) in
        let d0 = d.0 in
        let d1 = d.1 in
        inr (grind (arith, nat_tests), grind (arith, nat_tests)))
  ];
  all = λ i r f e low high. (
      let a : nat_le 10 r ≡ true = grind (arith, nat_tests) in
      let b : nat_lt r (10 + f.parameters) ≡ true = grind (arith, nat_tests) in
      or_right (is_base r) (beside wanted functions (entry_label i) r) (at_entry i r f e ∙ both_are (nat_le 10 r) (nat_lt r (10 + f.parameters)) a b));
}
  where
    at_entry : (i r : ℕ) (f : Function) → slice_get functions i ≡ Some f → beside wanted functions (entry_label i) r ≡ (nat_le 10 r && nat_lt r (10 + f.parameters))
    at_entry i r f e =
        let within = slice_get_within functions i f e in
        let back : entry_label i - 64 ≡ i = omega arith in
        ap (λ t. if t then lives_inside (entry_label i) r else beyond_low wanted functions (entry_label i) r) (less_not (entry_label i) 64 (omega arith))
        ∙ ap (λ t. if t then arguments (slice_get functions (entry_label i - 64)) r else in_blocks wanted functions 0 (entry_label i - entry_label (length functions)) r) (less_is (entry_label i) (entry_label (length functions)) (omega arith))
        ∙ ap (λ z. arguments z r) (ap (slice_get functions) back ∙ e)

pub labels_blocks : (wanted : ℕ → ℕ → ℕ → Bool) (functions : List Function) (i : ℕ) (f : Function) → slice_get functions i ≡ Some f → HasBlocks (wanted i) (first_label functions i) (length f.blocks.items) (at_labels wanted functions)
labels_blocks wanted functions i f e = record {
  only = λ b r h w. elim (either (is_base r) (beside wanted functions (first_label functions i + b) r) w) [
    | inl s ↦ inl s
    | inr c ↦ inr (sym (at_block b r h) ∙ c)
  ];
  all = λ b r h w. or_right (is_base r) (beside wanted functions (first_label functions i + b) r) (at_block b r h ∙ w);
}
  where
    at_block : (b r : ℕ) → b < length f.blocks.items → beside wanted functions (first_label functions i + b) r ≡ wanted i b r
    at_block b r h =
        let n : ℕ = entry_label (length functions) in
        let s : ℕ = sum_of (λ (z : Function). length z.blocks.items) (take i functions) in
        let l : ℕ = n + s + b in
        let back : l - n ≡ s + b = omega arith in
        let i0 : 0 + i ≡ i = omega arith in
        ap (λ t. if t then lives_inside l r else beyond_low wanted functions l r) (less_not l 64 (omega arith))
        ∙ ap (λ t. if t then arguments (slice_get functions (l - 64)) r else in_blocks wanted functions 0 (l - n) r) (less_not l n (omega arith))
        ∙ ap (λ c. in_blocks wanted functions 0 c r) back ∙ found wanted functions 0 i b r f e h ∙ ap (λ c. wanted c b r) i0
