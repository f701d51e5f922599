use Rattle.std.proofs.Common.{◌≡◌, ◌≤◌, ◌∙◌, ◌+◌, ◌-◌, ◌<◌, ◌++◌, ◌∷◌, [], suc, take, drop, length, sym, ap, subst, arith, length-append}
use Rattle.std.specs.Prelude.{slice_get}
use Rattle.std.specs.Option.{option_map}
use Rattle.im_store.specs.Objects as o
use Rattle.std.proofs.Common.{List}
use Rattle.im_eval_store.specs.declared.value.Value.{Value}
use Rattle.im_eval_store.specs.Shown.{shown}
use Rattle.im_eval_machine.specs.Shown.{shown_all, values}
use Rattle.im_eval_machine.proofs.Accessing.{copy-on, copy-end, shown-more}
use Rattle.im_eval_machine.proofs.found.cells_from.Goals as goal

pub returns-in-None : goal.returns-in-None
returns-in-None c =
    let l = c.copy in
    let vs = values c.args.found.now in
    let n = length l.part.items in
    let said = c.len-in-copy.ensures in
    let whole = l.part.ok in
    let same : c.len-in-copy.result ≡ n = omega arith in
    let got = c.get.ensures ∙ ap (λ k. slice_get vs (c.args.from + k)) same in
    copy-end (take c.args.count (drop c.args.from vs)) (shown_all l.part.items) vs (c.args.from + n) (c.args.count - n) l.invariant.1 (sym got ∙ ap (option_map shown) c.in-None.is)

pub copy-preserved : goal.copy-preserved
copy-preserved c =
    let l = c.copy in
    let vs = values c.args.found.now in
    let n = length l.part.items in
    let v = c.in-Some.value in
    let said = c.len-in-copy.ensures in
    let whole = l.part.ok in
    let same : c.len-in-copy.result ≡ n = omega arith in
    let got = c.get.ensures ∙ ap (λ k. slice_get vs (c.args.from + k)) same in
    let more = c.copy-test.true in
    let len = c.len.ensures in
    let below : n < c.args.count = omega arith in
    let step : c.args.count - n ≡ suc (c.args.count - (n + 1)) = omega arith in
    let longer : length (l.part.items ++ v ∷ []) ≡ n + 1 = length-append l.part.items (v ∷ []) in
    let on = copy-on (take c.args.count (drop c.args.from vs)) (shown_all l.part.items) vs (shown v) (c.args.from + n) (c.args.count - n) (c.args.count - (n + 1)) l.invariant.1 (sym got ∙ ap (option_map shown) c.in-Some.is) step in
    let P : List Value → Type 0 = λ xs. (length xs ≤ c.args.count) × (take c.args.count (drop c.args.from vs) ≡ shown_all xs ++ take (c.args.count - length xs) (drop (c.args.from + length xs) vs)) in
    let shorter : length (l.part.items ++ v ∷ []) ≤ c.args.count = omega (arith, longer, below) in
    let further : c.args.from + length (l.part.items ++ v ∷ []) ≡ c.args.from + n + 1 = omega (arith, longer) in
    subst P (sym c.in_ok-push-in-Some.ensures.items) (
      shorter,
      on ∙ ap (λ (acc : List o.Value). acc ++ take (c.args.count - (n + 1)) (drop (c.args.from + n + 1) vs)) (sym (shown-more l.part.items v))
          ∙ ap (λ k. shown_all (l.part.items ++ v ∷ []) ++ take (c.args.count - k) (drop (c.args.from + n + 1) vs)) (sym longer)
          ∙ ap (λ k. shown_all (l.part.items ++ v ∷ []) ++ take (c.args.count - length (l.part.items ++ v ∷ [])) (drop k vs)) (sym further),
    )
