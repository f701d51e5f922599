use Rattle.std.proofs.Common.{◌≡◌, ◌++◌, ap, sym, ◌∙◌, arith}
use Rattle.std.specs.List.{flat_map, range_with_len}
use Rattle.std.specs.String.{string_bytes}
use Rattle.std.proofs.lemmas.List.{append-nil}
use Rattle.im_gen.specs.Gen.{call_text}
use Rattle.im_gen.proofs.Steps.{texts_more}
use Rattle.im_gen.proofs.text.write_calls.Goals as goal

pub loop-k-init : goal.loop-k-init
loop-k-init c = (sym (append-nil (string_bytes c.args.text.now)), omega arith)

pub loop-k-preserved : goal.loop-k-preserved
loop-k-preserved c =
    let i = c.loop-k.invariant in
    let below = c.loop-k-test.true in
    (c.in_ok-write_call.ensures ∙ texts_more call_text c.loop-k.k (string_bytes c.args.text.now) (string_bytes c.loop-k.text) i.0, omega (arith, below))

pub returns : goal.returns
returns c =
    let i = c.loop-k.invariant in
    let most = i.1 in
    let over = c.loop-k-test.false in
    let all : c.loop-k.k ≡ c.args.count = omega (arith, most, over) in
    i.0 ∙ ap (λ m. string_bytes c.args.text.now ++ flat_map call_text (range_with_len 1 m)) all
