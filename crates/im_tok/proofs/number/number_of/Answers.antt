use Rattle.std.proofs.Common.{◌≡◌, sym, ◌∙◌}
use Rattle.im_tok.proofs.Numerals.{parts, the_suffix, digits_within, run_at, no_suffix, is_suffix}
use Rattle.std.proofs.lemmas.Option.{none-some}
use Rattle.im_tok.proofs.number.number_of.Goals as goal

pub returns-in_err-suffix : goal.returns-in_err-suffix
returns-in_err-suffix c =
    rw c.from_residual-in_err-suffix.ensures (λ number is.
    let p = parts _ number _ c.in_ok-base.ensures is _ (run_at _ c.radix.ensures c.prefix_length-start.ensures c.digits_end-end.ensures) in
    no_suffix c.args.text.now c.digits_end-end.result c.in_err-suffix.ensures p.suffix p.ends)

pub digits_value-requires-clause-digits : goal.digits_value-requires-clause-digits
digits_value-requires-clause-digits c = λ k d within. digits_within _ _ _ _ _ _ c.radix-2.ensures c.radix.ensures c.digits_end-end.ensures k d within

pub returns-in_err-value : goal.returns-in_err-value
returns-in_err-value c =
    rw c.from_residual-in_err-value.ensures (λ number is.
    let p = parts _ number _ c.in_ok-base.ensures is _ (run_at _ c.radix.ensures c.prefix_length-start.ensures c.digits_end-end.ensures) in
    let e = rw (sym c.radix-2.ensures, sym c.prefix_length-start.ensures) at p.value in
    c.in_err-value.ensures (rw (sym e) p.small))

pub returns-in_err-number_type : goal.returns-in_err-number_type
returns-in_err-number_type c =
    rw c.from_residual-in_err-number_type.ensures (λ number is.
    let p = parts _ number _ c.in_ok-base.ensures is _ (run_at _ c.radix.ensures c.prefix_length-start.ensures c.digits_end-end.ensures) in
    let e : number.value ≡ c.in_ok-value.value = rw (sym c.radix-2.ensures, sym c.prefix_length-start.ensures) at p.value ∙ sym c.in_ok-value.ensures.1 in
    let f = the_suffix p c.in_ok-suffix.suffix (is_suffix c.args.text.now c.digits_end-end.result _ c.in_ok-suffix.ensures) in
    let g = rw e at f in
    none-some number.number_type (sym c.in_err-number_type.was ∙ c.type_of.ensures ∙ g))
