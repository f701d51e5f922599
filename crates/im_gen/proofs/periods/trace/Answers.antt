use Rattle.std.proofs.Common.{◌≡◌, ◌+◌, ◌++◌, [], ◌∷◌, ap, sym, ◌∙◌, arith}
use Rattle.im_gen.specs.Gen.{gen_period, next_word, sequence}
use Rattle.im_gen.proofs.Steps.{periods_more, sequence_next, trace_done}
use Rattle.im_gen.proofs.periods.trace.Goals as goal

pub loop-init : goal.loop-init
loop-init c =
    let same : c.args.count ≡ c.args.count + 0 = omega arith in
    (c.new-periods.ensures.items, c.last_word-word.ensures ∙ ap (sequence c.args.count) same, omega arith)

pub loop-preserved : goal.loop-preserved
loop-preserved c =
    let n = c.args.count in
    let k = c.loop.counter in
    let i = c.loop.invariant in
    let below = c.loop-test.true in
    let next : n + k + 1 ≡ n + (k + 1) = omega arith in
    let word : c.next_word-word.result ≡ sequence n (n + (k + 1)) =
    c.next_word-word.ensures ∙ ap next_word i.1 ∙ sym (sequence_next n (n + k)) ∙ ap (sequence n) next in (
      c.in_ok-push.ensures.items
          ∙ ap (λ p. c.loop.periods.items ++ p ∷ []) (c.period_of.ensures ∙ ap (gen_period c.args.gap) word)
          ∙ periods_more (λ k. gen_period c.args.gap (sequence n (n + k))) k c.loop.periods.items i.0,
      word,
      omega (arith, below),
    )

pub returns : goal.returns
returns c =
    let i = c.loop.invariant in
    let most = i.2 in
    let over = c.loop-test.false in
    let all : c.loop.counter ≡ 64 = omega (arith, most, over) in
    c.new.ensures ∙ trace_done c.args.count c.args.gap c.loop.counter c.loop.periods.items all i.0
