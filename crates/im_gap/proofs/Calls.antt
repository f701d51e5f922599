-- The code of a call within a call: a number for each word that falls along each edge.
use Rattle.std.proofs.Common.{◌≡◌, ℕ, zero, suc, ◌<◌, ◌≤◌, ◌⊎◌, inl, inr, true, false, List, [], ◌∷◌, refl, ap, arith}
use Rattle.std.specs.Prelude.{slice_index}
use Rattle.im_rv.specs.Code.{instruction_at}
use Rattle.im_gap.specs.Flow.{links, IsBehind, Flow}
use Rattle.im_gap.specs.Laws.{nested_calls, CallsLaw}
use Rattle.im_gap.proofs.Walking.{rank_law}

abbrev ranks : List ℕ
ranks = 5 ∷ 1 ∷ 0 ∷ 4 ∷ 1 ∷ 2 ∷ 3 ∷ 2 ∷ 0 ∷ 2 ∷ []

abbrev rank : ℕ → ℕ
rank i = slice_index ranks i

small : (i : ℕ) → rank i ≤ 5
small zero = omega arith
small (suc zero) = omega arith
small (suc (suc zero)) = omega arith
small (suc (suc (suc zero))) = omega arith
small (suc (suc (suc (suc zero)))) = omega arith
small (suc (suc (suc (suc (suc zero))))) = omega arith
small (suc (suc (suc (suc (suc (suc zero)))))) = omega arith
small (suc (suc (suc (suc (suc (suc (suc zero))))))) = omega arith
small (suc (suc (suc (suc (suc (suc (suc (suc zero)))))))) = omega arith
small (suc (suc (suc (suc (suc (suc (suc (suc (suc zero))))))))) = omega arith
small (suc (suc (suc (suc (suc (suc (suc (suc (suc (suc i)))))))))) = omega arith

no : {P : Type 0} → false ≡ true → P
no h = absurd (cc)

call_at : (c : ℕ) → links 1 (instruction_at nested_calls c) ≡ true → (c ≡ 0) ⊎ (c ≡ 3)
call_at zero h = inl refl
call_at (suc zero) h = no h
call_at (suc (suc zero)) h = no h
call_at (suc (suc (suc zero))) h = inr refl
call_at (suc (suc (suc (suc zero)))) h = no h
call_at (suc (suc (suc (suc (suc zero))))) h = no h
call_at (suc (suc (suc (suc (suc (suc zero)))))) h = no h
call_at (suc (suc (suc (suc (suc (suc (suc zero))))))) h = no h
call_at (suc (suc (suc (suc (suc (suc (suc (suc zero)))))))) h = no h
call_at (suc (suc (suc (suc (suc (suc (suc (suc (suc zero))))))))) h = no h
call_at (suc (suc (suc (suc (suc (suc (suc (suc (suc (suc c)))))))))) h = no h

-- a return leads to a cut
returned : (j : ℕ) → IsBehind nested_calls 1 j → rank j ≡ 1
returned j b = elim (call_at b.0 b.1) [
  | inl e ↦ ap rank (let z : j ≡ 1 = (let p = b.2 in omega arith) in z)
  | inr e ↦ ap rank (let z : j ≡ 4 = (let p = b.2 in omega arith) in z)
]

falls : (i j : ℕ) → Flow nested_calls i j → rank j < rank i
falls zero j f = (let z : rank j ≡ 4 = ap rank (let y : j ≡ 3 = (let p = f.leads in omega arith) in y) in omega arith)
falls (suc zero) j f = (let z : rank j ≡ 0 = ap rank (let y : j ≡ 8 = (let p = f.leads in omega arith) in y) in omega arith)
falls (suc (suc zero)) j f = absurd f.leads
falls (suc (suc (suc zero))) j f = (let z : rank j ≡ 3 = ap rank (let y : j ≡ 6 = (let p = f.leads in omega arith) in y) in omega arith)
falls (suc (suc (suc (suc zero)))) j f = (let z : rank j ≡ 0 = ap rank (let y : j ≡ 8 = (let p = f.leads in omega arith) in y) in omega arith)
falls (suc (suc (suc (suc (suc zero))))) j f = (let z = returned j f.leads in omega arith)
falls (suc (suc (suc (suc (suc (suc zero)))))) j f = (let z : rank j ≡ 2 = ap rank (let y : j ≡ 7 = (let p = f.leads in omega arith) in y) in omega arith)
falls (suc (suc (suc (suc (suc (suc (suc zero))))))) j f = (let z = returned j f.leads in omega arith)
falls (suc (suc (suc (suc (suc (suc (suc (suc zero)))))))) j f = absurd f.leads
falls (suc (suc (suc (suc (suc (suc (suc (suc (suc zero))))))))) j f = (let z = returned j f.leads in omega arith)
falls (suc (suc (suc (suc (suc (suc (suc (suc (suc (suc i)))))))))) j f = absurd f.leads

pub calls_law : CallsLaw
calls_law = record {
  first = 0;
  resumes = record { inside = omega arith; is = inl refl };
  bound = 5;
  bounded = rank_law nested_calls 0x1000 5 rank falls (λ i r. small i);
}
