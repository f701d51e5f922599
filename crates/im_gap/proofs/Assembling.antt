-- The whole table depicts the flow.
use Rattle.std.proofs.Common.{◌≡◌, ◌≢◌, ℕ, suc, ◌+◌, ◌<◌, ◌≤◌, ◌⊎◌, inl, inr, Bool, false, cond, List, [], ◌∷◌, ◌++◌, length, Some, refl, sym, ap, subst, ◌∙◌, arith}
use Rattle.std.specs.Prelude.{slice_get, slice_range}
use Rattle.std.specs.List.{Contains}
use Rattle.std.proofs.lemmas.List.{length_push, length-append}
use Rattle.std.proofs.lemmas.Option.{slice_get_past}
use Rattle.im_gap.specs.declared.graph.Node.{Node}
use Rattle.im_gap.specs.declared.graph.Graph.{Graph}
use Rattle.im_gap.specs.Graph.{successors_of, targets_of, weight_of, node_weight, size_of, HasRange, IsGraph}
use Rattle.im_rv.specs.Code.{instruction_at}
use Rattle.im_gap.specs.declared.flow.Turn.{Turn}
use Rattle.im_gap.specs.declared.flow.Turn.TheVariants.{Returns}
use Rattle.im_gap.specs.Flow.{turn_of, imm_of}
use Rattle.im_gap.specs.Table.{behind, Drawn, Whole, Depicts}
use Rattle.im_gap.proofs.Tables.{range_kept, range_new, get_kept, get_new}
use Rattle.im_gap.proofs.Members.{successors_are, successors_have, return_ways, return_has, behind_are, behind_have}

at_or : (j n : ℕ) → (j < n) ⊎ (n ≤ j)
at_or j n = grind arith

word_or : (j n : ℕ) → (j < n) ⊎ ((j ≡ n) ⊎ (suc n ≤ j))
word_or j n = grind arith

returns_or : (t : Turn) → (t ≡ Returns) ⊎ (t ≢ Returns)
returns_or Turn.Passes = inr (λ q. cc)
returns_or Turn.Jumps = inr (λ q. cc)
returns_or Turn.Branches = inr (λ q. cc)
returns_or Turn.Returns = inl refl
returns_or Turn.Stops = inr (λ q. cc)

-- the words' nodes, and the last one
pub whole_from : (words : List ℕ) (graph : Graph) (nodes : List Node) (targets : List ℕ) (node : Node) → Drawn words (length words) nodes targets → graph.targets.items ≡ targets ++ behind 1 words (length words) → graph.nodes.items ≡ nodes ++ node ∷ [] → node.first ≡ length targets → node.end ≡ length graph.targets.items → node.counts ≡ false → Whole words graph
whole_from words graph nodes targets node d grown pushed first end counts =
    let long : length graph.targets.items ≡ length targets + length (behind 1 words (length words)) = ap length grown ∙ length-append targets (behind 1 words (length words)) in
    let kept : (k : ℕ) → k < length words → slice_get graph.nodes.items k ≡ slice_get nodes k = λ k l. ap (λ (z : List Node). slice_get z k) pushed ∙ get_kept nodes (node ∷ []) k (let c = d.count in omega arith) in
    let lone : slice_get graph.nodes.items (length words) ≡ Some node = ap (λ (z : List Node). slice_get z (length words)) pushed ∙ ap (slice_get (nodes ++ node ∷ [])) (sym d.count) ∙ get_new nodes node in
    let size : length graph.nodes.items ≡ length words + 1 = (let c = d.count in let p = ap (length {A = Node}) pushed in let q = length_push nodes node in omega arith) in
    record {
      count = size;
      each = λ k l. (let r = d.drawn k l in
          ap (targets_of graph.targets.items) (kept k l ∙ r.1) ∙ ap (λ (z : List ℕ). slice_range z r.0.first r.0.end) grown ∙ range_kept targets (behind 1 words (length words)) r.0.first r.0.end r.2 r.3 ∙ r.4);
      last = ap (targets_of graph.targets.items) lone ∙ ap (λ (z : List ℕ). slice_range z node.first node.end) grown ∙ range_new targets (behind 1 words (length words)) node.first node.end first (end ∙ ap length grown);
      one = λ k l. (let r = d.drawn k l in ap node_weight (kept k l ∙ r.1) ∙ ap (λ (z : Bool). cond z 1 0) r.5);
      free = ap node_weight lone ∙ ap (λ (z : Bool). cond z 1 0) counts;
      ranges = λ v. elim (word_or v (length words)) [
        | inl l ↦ (let r = d.drawn v l in subst (HasRange graph.targets.items) (sym (kept v l ∙ r.1)) (r.2, (let s = r.3 in omega arith)))
        | inr (inl e) ↦ subst (HasRange graph.targets.items) (sym (ap (slice_get graph.nodes.items) e ∙ lone)) (omega arith, omega arith)
        | inr (inr past) ↦ subst (HasRange graph.targets.items) (sym (slice_get_past graph.nodes.items v (omega arith))) tt
      ];
    }

module _ (words : List ℕ) (graph : Graph) (w : Whole words graph) where
  pub depicts : Depicts words (successors_of graph) (weight_of graph)
  depicts = record {
    plain = λ i s l t m. (
        let f = successors_are words (length words) i s (imm_of (instruction_at words i)) (turn_of (instruction_at words i)) t (subst (λ (z : List ℕ). Contains z s) (w.each i l) m) in
        record { inside = f.0; leads = f.1 });
    plain_back = λ i s l t f. subst (λ (z : List ℕ). Contains z s) (sym (w.each i l)) (successors_have words (length words) i s (imm_of (instruction_at words i)) (turn_of (instruction_at words i)) t f.inside f.leads);
    returns = λ i s l t m. return_ways words (length words) i s (imm_of (instruction_at words i)) (turn_of (instruction_at words i)) t (subst (λ (z : List ℕ). Contains z s) (w.each i l) m);
    returns_back = λ i l t. subst (λ (z : List ℕ). Contains z (length words)) (sym (w.each i l)) (return_has words (length words) i (imm_of (instruction_at words i)) (turn_of (instruction_at words i)) t);
    shared = λ s m. behind_are words 1 (length words) s (subst (λ (z : List ℕ). Contains z s) w.last m);
    shared_back = λ s c l b e. subst (λ (z : List ℕ). Contains z s) (sym w.last) (behind_have words 1 (length words) s c (omega arith) b e l);
    one = w.one;
    free = w.free;
  }

  inside : (v s : ℕ) → Contains (successors_of graph v) s → s < size_of graph
  inside v s m =
      let size = w.count in
      elim (word_or v (length words)) [
        | inl l ↦ elim (returns_or (turn_of (instruction_at words v))) [
          | inl t ↦ (let e = depicts.returns v s l t m in omega arith)
          | inr t ↦ (let f = depicts.plain v s l t m in let i = f.inside in omega arith)
        ]
        | inr (inl e) ↦ (let h = depicts.shared s (subst (λ (z : ℕ). Contains (successors_of graph z) s) e m) in let i = h.0 in omega arith)
        | inr (inr past) ↦ absurd (let none : successors_of graph v ≡ [] = ap (targets_of graph.targets.items) (slice_get_past graph.nodes.items v (omega arith)) in let l = m.1 in let z = ap (length {A = ℕ}) none in omega arith)
      ]

  pub is_graph : length words ≤ 261120 → IsGraph graph
  is_graph few = record { ranges = w.ranges; inside = inside; few = (let size = w.count in omega arith) }
