-- What holds up to times as late as one likes holds for ever.
use Rattle.std.proofs.Common.{◌<◌, ℕ, ◌+◌, inl, inr, List, arith}
use Rattle.im_ckpt.specs.Runs.{State}
use Rattle.im_keeps_until.specs.Laws.{Owes, OwesAlways}

pub always : (words : List ℕ) (code : ℕ) (run : ℕ → State) → ((t : ℕ) → Owes words code run t) → OwesAlways words code run
always words code run h = record {
  safely = record {
    no_fault = λ t at. (h t).owes.safely.no_fault t at (h t).later;
    fetches = λ t. (h t).owes.safely.fetches t (h t).later;
    writes_plain = λ t a. (h t).owes.safely.writes_plain t a (h t).later;
    reads_plain = λ t a. (h t).owes.safely.reads_plain t a (h t).later;
    cuts = λ t. (h t).owes.safely.cuts t (h t).later;
    needs = λ t k i cut needed. elim needed [
      | inl n ↦ (h n.time).owes.safely.needs t k i n.time (h n.time).later cut (record { later = n.later; used = n.used; unset = n.unset })
      | inr two ↦ (let a = cut.above in (omega arith, (λ q. omega arith), (λ q. omega arith)))
    ];
    needs_first = λ i needed. elim needed [
      | inl n ↦ (h n.time).owes.safely.needs_first i n.time (h n.time).later (record { later = n.later; used = n.used; unset = n.unset })
      | inr two ↦ ((λ q. omega arith), (λ q. omega arith), omega arith)
    ];
    no_war = λ t u a le. (h u).owes.safely.no_war t u a le (h u).later;
  };
  shows = record {
    grows = λ t. (h t).owes.shows.grows t (h t).later;
    one_store = λ t u a v w same.
        let o = h (t + u) in
        let late = o.later in
        o.owes.shows.one_store t u a v w (let q : t < o.j = omega arith in q) (let q : u < o.j = omega arith in q) same;
    first_length = λ t a v. (h t).owes.shows.first_length t a v (h t).later;
    second_length = λ t a v. (h t).owes.shows.second_length t a v (h t).later;
  };
  returns = λ t i. (h t).owes.flows.returns t i (h t).later;
  cuts = λ t m i. (h t).owes.flows.cuts t m i (h t).later;
}
