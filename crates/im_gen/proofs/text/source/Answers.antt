use Rattle.std.proofs.Common.{ℕ, Vec, Global, ap, ◌∙◌}
use Rattle.im_gen.proofs.Steps.{source_done}
use Rattle.im_gen.proofs.text.source.Goals as goal

pub returns : goal.returns
returns c =
    ap (λ (v : Vec ℕ Global). v.items) c.into_bytes.ensures.value
    ∙ source_done c.args.count _ _ _ _ _ _ c.new-text.ensures.bytes c.in_ok-push_str.ensures.bytes c.in_ok-write_functions.ensures c.in_ok-push_str-2.ensures.bytes c.in_ok-write_calls.ensures c.in_ok-push_str-3.ensures.bytes
