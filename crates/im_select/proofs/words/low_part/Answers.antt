use Rattle.std.proofs.Common.{◌%◌, w32, inl, inr, sym, ◌∙◌, arith}
use Rattle.std.proofs.lemmas.Int.{ints, of_z-to_z}
use Rattle.im_select.proofs.Splitting.{low_cases}
use Rattle.im_select.proofs.words.low_part.Goals as goal

pub returns-then-low-lt2048-clause-value : goal.returns-then-low-lt2048-clause-value
returns-then-low-lt2048-clause-value c =
    of_z-to_z w32 (c.args.word % 4096) (omega arith)
    ∙ elim (low_cases c.args.word) [ inl l ↦ sym l.1 | inr l ↦ (let a = l.0 in absurd (omega (arith, ints))) ]

pub returns-else-low-lt2048-clause-value : goal.returns-else-low-lt2048-clause-value
returns-else-low-lt2048-clause-value c =
    elim (low_cases c.args.word) [ inl l ↦ (let a = l.0 in absurd (omega (arith, ints))) | inr l ↦ (let a = l.0 in let b = l.1 in omega (arith, ints)) ]
