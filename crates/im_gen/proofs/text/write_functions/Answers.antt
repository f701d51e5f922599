use Rattle.std.proofs.Common.{◌≡◌, ◌+◌, ◌++◌, ap, sym, ◌∙◌, arith}
use Rattle.std.specs.List.{flat_map, range_with_len}
use Rattle.std.specs.String.{string_bytes}
use Rattle.std.proofs.lemmas.List.{append-nil}
use Rattle.im_gen.specs.Gen.{function_text, next_word, sequence}
use Rattle.im_gen.proofs.Steps.{sequence_first, sequence_next, texts_more}
use Rattle.im_gen.proofs.text.write_functions.Goals as goal

pub loop-k-init : goal.loop-k-init
loop-k-init c = (sym (append-nil (string_bytes c.args.text.now)), sym (sequence_first c.args.count), omega arith)

pub loop-k-preserved : goal.loop-k-preserved
loop-k-preserved c =
    let n = c.args.count in
    let k = c.loop-k.k in
    let i = c.loop-k.invariant in
    let below = c.loop-k-test.true in
    let word : c.next_word-word.result ≡ sequence n (k + 1) = c.next_word-word.ensures ∙ ap next_word i.1 ∙ sym (sequence_next n k) in (
      c.in_ok-write_function.ensures
          ∙ ap (λ w. string_bytes c.loop-k.text ++ function_text (k + 1) w) word
          ∙ texts_more (λ k. function_text k (sequence n k)) k (string_bytes c.args.text.now) (string_bytes c.loop-k.text) i.0,
      word,
      omega (arith, below),
    )

pub returns : goal.returns
returns c =
    let n = c.args.count in
    let i = c.loop-k.invariant in
    let most = i.2 in
    let over = c.loop-k-test.false in
    let all : c.loop-k.k ≡ n = omega (arith, most, over) in
    i.0 ∙ ap (λ m. string_bytes c.args.text.now ++ flat_map (λ k. function_text k (sequence n k)) (range_with_len 1 m)) all
