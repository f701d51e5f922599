-- Lowered code keeps what the record of passes asks.
use Rattle.std.proofs.Common.{◌≡◌, ℕ, suc, ◌+◌, ◌-◌, ◌*◌, ◌<◌, ◌≤◌, ◌^◌, List, [], ◌∷◌, length, map, min, refl, ap, ◌∙◌, arith}
use Rattle.std.specs.Prelude.{All, Some, slice_get, sum_by}
use Rattle.std.proofs.lemmas.List.Elements.{All-head, All-tail}
use Rattle.std.proofs.lemmas.List.Sums.{sum_by-cons}
use Rattle.im_typed.specs.Program.{Func}
use Rattle.im_typed.specs.Counts.{func_nodes, func_need}
use Rattle.im_typed.specs.Typing.{Each}
use Rattle.im_block.specs.declared.unit.Function.{Function}
use Rattle.im_block.specs.Shape.{sum_of, function_cost}
use Rattle.im_lower_relation.specs.Laws.{LowerKeepsLaw, LoweredFormLaw}
use Rattle.im_keeps_source.specs.LoweringLaws.{LowersLaw}

each_of : (P : ℕ → Type 0) (xs : List ℕ) → All P xs → Each P xs
each_of P [] h = tt
each_of P (x ∷ xs) h = (All-head P x xs h, each_of P xs (All-tail P x xs h))

needs-same : (fs : List Func) (cs : List Function) → length cs ≡ length fs → Each {A = Func} (λ f. func_need f < 2 ^ 64) fs
    → ((i : ℕ) (f : Func) (c : Function) → slice_get fs i ≡ Some f → slice_get cs i ≡ Some c → c.need ≡ min (func_need f) (2 ^ 64 - 1))
    → map {A = Function} (λ c. c.need) cs ≡ map {A = Func} (λ f. func_need f) fs
needs-same [] [] many fits h = refl
needs-same [] (c ∷ cs) many fits h = absurd (cc)
needs-same (f ∷ fs) [] many fits h = absurd (cc)
needs-same (f ∷ fs) (c ∷ cs) many fits h =
    let rest : length cs ≡ length fs = cc in
    let first = h 0 f c refl refl in
    let small = fits.0 in
    let same : c.need ≡ func_need f = omega arith in
    ap (λ n. n ∷ map {A = Function} (λ x. x.need) cs) same
    ∙ ap (λ ns. func_need f ∷ ns) (needs-same fs cs rest fits.1 (λ i x y e k. h (suc i) x y e k))

costs-small : (fs : List Func) (cs : List Function) → length cs ≡ length fs
    → ((i : ℕ) (f : Func) (c : Function) → slice_get fs i ≡ Some f → slice_get cs i ≡ Some c → function_cost c ≤ 64 * (func_nodes f + 1))
    → sum_of function_cost cs ≤ 64 * (sum_by func_nodes fs + length fs)
costs-small [] [] many h = omega arith
costs-small [] (c ∷ cs) many h = absurd (cc)
costs-small (f ∷ fs) [] many h = absurd (cc)
costs-small (f ∷ fs) (c ∷ cs) many h =
    let rest : length cs ≡ length fs = cc in
    let first = h 0 f c refl refl in
    let others = costs-small fs cs rest (λ i x y e k. h (suc i) x y e k) in
    let sum = sum_by-cons func_nodes f fs in
    omega arith

pub promises : LowerKeepsLaw → LoweredFormLaw → LowersLaw
promises keeps form prog code typed limits fits lowered sized placeable uncut =
    let formed = form prog code typed limits lowered sized in
    record {
      runs = λ g n input defined.
          keeps (record { prog = prog; frames = g.frames; stack = g.stack; capacity = g.capacity }) code typed lowered g.input n (each_of (λ byte. byte < 256) g.input input.bytes) defined;
      statics = lowered.statics;
      needs = needs-same prog.funcs code.functions.items lowered.count fits.functions (λ i f c e k. (lowered.functions i f c e k).need);
      ordered = formed.1;
      well_formed = formed.0;
      placeable = placeable;
      uncut = uncut;
      cost = costs-small prog.funcs code.functions.items lowered.count (λ i f c e k. (sized.functions i f c e k).small);
    }
