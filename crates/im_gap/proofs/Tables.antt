-- The table of the graph, word by word.
use Rattle.std.proofs.Common.{◌≡◌, ℕ, zero, suc, ◌+◌, ◌-◌, ◌<◌, ◌≤◌, ◌⊎◌, inl, inr, true, cond, List, [], ◌∷◌, ◌++◌, length, take, drop, Some, refl, sym, ap, ◌∙◌, arith, append_assoc}
use Rattle.std.specs.Prelude.{slice_get, slice_range, slice_index}
use Rattle.std.proofs.lemmas.List.{drop-append-le, take-append-le, drop_at, take_all, length_push, length-drop, length-append}
use Rattle.std.proofs.lemmas.Option.{slice_get-get_or}
use Rattle.im_rv.specs.Decode.{decode}
use Rattle.im_gap.specs.declared.graph.Node.{Node}
use Rattle.im_gap.specs.declared.flow.Turn.{Turn}
use Rattle.im_rv.specs.Code.{instruction_at}
use Rattle.im_rv.specs.Effects.{decoded_word}
use Rattle.im_gap.specs.Flow.{turn_of, imm_of, links}
use Rattle.im_gap.specs.Table.{following, successors_by, successors_at, behind, Drawn}

pub range_kept : (xs ys : List ℕ) (a b : ℕ) → a ≤ b → b ≤ length xs → slice_range (xs ++ ys) a b ≡ slice_range xs a b
range_kept xs ys a b l m = ap (take (b - a)) (drop-append-le a xs ys (omega arith)) ∙ take-append-le (b - a) (drop a xs) ys (omega (arith, length-drop a xs))

pub range_new : (xs ys : List ℕ) (a b : ℕ) → a ≡ length xs → b ≡ length (xs ++ ys) → slice_range (xs ++ ys) a b ≡ ys
range_new xs ys a b p q = ap (take (b - a)) (drop_at xs ys a (sym p)) ∙ take_all (b - a) ys (omega (arith, length-append xs ys))

pub get_kept : {X : Type 0} → (xs ys : List X) (k : ℕ) → k < length xs → slice_get (xs ++ ys) k ≡ slice_get xs k
get_kept [] ys k l = absurd (omega arith)
get_kept (x ∷ xs) ys zero l = refl
get_kept (x ∷ xs) ys (suc k) l = get_kept xs ys k (omega arith)

pub get_new : {X : Type 0} → (xs : List X) (y : X) → slice_get (xs ++ y ∷ []) (length xs) ≡ Some y
get_new [] y = refl
get_new (x ∷ xs) y = get_new xs y

pub line_here : (words : List ℕ) (k w : ℕ) → k < length words → w ≡ slice_index words k → instruction_at words k ≡ decode w
line_here words k w l e = ap decoded_word (slice_get-get_or words k 0 l) ∙ ap decode (sym e)

pub behind_on : (old now new : List ℕ) (r : ℕ) (words : List ℕ) (k w : ℕ) → k < length words → w ≡ slice_index words k → now ≡ old ++ behind r words k → new ≡ now ++ cond (links r (decode w)) (following (length words) k) [] → new ≡ old ++ behind r words (k + 1)
behind_on old now new r words k w l e a b =
    let q : suc k ≡ k + 1 = omega arith in
    b ∙ ap (λ (z : List ℕ). z ++ cond (links r (decode w)) (following (length words) k) []) a
    ∙ append_assoc old (behind r words k) (cond (links r (decode w)) (following (length words) k) [])
    ∙ ap (λ z. old ++ (behind r words k ++ cond (links r z) (following (length words) k) [])) (sym (line_here words k w l e))
    ∙ ap (λ z. old ++ behind r words z) q

below_or : (j n : ℕ) → j < n + 1 → (j < n) ⊎ (j ≡ n)
below_or j n l = grind arith

pub drawn_on : (words : List ℕ) (i w imm : ℕ) (turn : Turn) (nodes now : List Node) (targets new : List ℕ) (node : Node) → Drawn words i nodes targets → i < length words → w ≡ slice_index words i → turn ≡ turn_of (decode w) → imm ≡ imm_of (decode w) → new ≡ targets ++ successors_by (length words) i imm turn → now ≡ nodes ++ node ∷ [] → node.first ≡ length targets → node.end ≡ length new → node.counts ≡ true → Drawn words (i + 1) now new
drawn_on words i w imm turn nodes now targets new node d l e t m grown pushed first end counts =
    let here = line_here words i w l e in
    let ways : successors_by (length words) i imm turn ≡ successors_at words i = ap (λ z. successors_by (length words) i z turn) (m ∙ ap imm_of (sym here)) ∙ ap (λ z. successors_by (length words) i (imm_of (instruction_at words i)) z) (t ∙ ap turn_of (sym here)) in
    let long : length new ≡ length targets + length (successors_by (length words) i imm turn) = ap length grown ∙ length-append targets (successors_by (length words) i imm turn) in
    record {
      count = (let c = d.count in let p = ap (length {A = Node}) pushed in let q = length_push nodes node in omega arith);
      drawn = λ k b. elim (below_or k i b) [
        | inl old ↦ (
            let r = d.drawn k old in (
              r.0,
              ap (λ (z : List Node). slice_get z k) pushed ∙ get_kept nodes (node ∷ []) k (let c = d.count in omega arith) ∙ r.1,
              r.2,
              (let s = r.3 in omega arith),
              ap (λ (z : List ℕ). slice_range z r.0.first r.0.end) grown ∙ range_kept targets (successors_by (length words) i imm turn) r.0.first r.0.end r.2 r.3 ∙ r.4,
              r.5,
            ))
        | inr q ↦ (
            let at : length nodes ≡ k = d.count ∙ sym q in (
              node,
              ap (λ (z : List Node). slice_get z k) pushed ∙ ap (slice_get (nodes ++ node ∷ [])) (sym at) ∙ get_new nodes node,
              omega arith,
              omega arith,
              ap (λ (z : List ℕ). slice_range z node.first node.end) grown ∙ range_new targets (successors_by (length words) i imm turn) node.first node.end first (end ∙ ap length grown) ∙ ways ∙ ap (successors_at words) (sym q),
              counts,
            ))
      ];
    }
