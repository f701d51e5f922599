-- The loop's longest gap: a number for each of its words that falls along each edge, and a walk as long.
use Rattle.std.proofs.Common.{◌≡◌, ℕ, List, [], ◌∷◌, true, inr, refl, arith}
use Rattle.im_gap.specs.Flow.{IsStaticWalk, IsResumeWord}
use Rattle.im_gap.specs.Gap.{IsBounded}
use Rattle.im_gap.specs.Table.{resume_words}
use Rattle.im_replay_witness.proofs.Ranks.{are_below, is_ranked, bounded_by}
use Rattle.im_replay_witness.specs.Loop.{loop_memory}
use Rattle.im_replay_witness.proofs.Laws_of.{loop_law}
use Rattle.im_replay_witness.specs.GapLoop.{loop_words}
use Rattle.im_replay_witness.specs.Laws.{LoopGapLaw, LoopProgressesLaw}
use Rattle.im_replay_witness.proofs.LoopRun.{loop_placed_law}
use Rattle.im_gap.proofs.Progress.{long_periods_law}

abbrev ranks : List ℕ
ranks = 33 ∷ 32 ∷ 31 ∷ 30 ∷ 29 ∷ 28 ∷ 27 ∷ 26 ∷ 25 ∷ 24 ∷ 23 ∷ 22 ∷ 21 ∷ 20 ∷ 19 ∷ 18 ∷ 17 ∷ 16 ∷ 15 ∷ 14 ∷ 13 ∷ 12 ∷ 11 ∷ 10 ∷ 9 ∷ 8 ∷ 7 ∷ 6 ∷ 5 ∷ 4 ∷ 3 ∷ 2 ∷ 1 ∷ 31 ∷ 30 ∷ 29 ∷ 28 ∷ 27 ∷ 26 ∷ 25 ∷ 24 ∷ 23 ∷ 22 ∷ 21 ∷ 20 ∷ 19 ∷ 18 ∷ 17 ∷ 16 ∷ 15 ∷ 14 ∷ 13 ∷ 12 ∷ 11 ∷ 10 ∷ 9 ∷ 8 ∷ 7 ∷ 6 ∷ 5 ∷ 4 ∷ 3 ∷ 2 ∷ 1 ∷ 9 ∷ 8 ∷ 7 ∷ 6 ∷ 5 ∷ 10 ∷ 9 ∷ 8 ∷ 7 ∷ 6 ∷ 11 ∷ 10 ∷ 9 ∷ 8 ∷ 7 ∷ 12 ∷ 11 ∷ 10 ∷ 9 ∷ 8 ∷ 13 ∷ 12 ∷ 11 ∷ 10 ∷ 9 ∷ 14 ∷ 13 ∷ 12 ∷ 11 ∷ 10 ∷ 15 ∷ 14 ∷ 13 ∷ 12 ∷ 11 ∷ 16 ∷ 15 ∷ 14 ∷ 13 ∷ 12 ∷ 17 ∷ 16 ∷ 15 ∷ 14 ∷ 13 ∷ 18 ∷ 17 ∷ 16 ∷ 15 ∷ 14 ∷ 19 ∷ 18 ∷ 17 ∷ 16 ∷ 15 ∷ 20 ∷ 19 ∷ 18 ∷ 17 ∷ 16 ∷ 21 ∷ 20 ∷ 19 ∷ 18 ∷ 17 ∷ 22 ∷ 21 ∷ 20 ∷ 19 ∷ 18 ∷ 23 ∷ 22 ∷ 21 ∷ 20 ∷ 19 ∷ 24 ∷ 23 ∷ 22 ∷ 21 ∷ 20 ∷ 25 ∷ 24 ∷ 23 ∷ 22 ∷ 21 ∷ 26 ∷ 25 ∷ 24 ∷ 23 ∷ 22 ∷ 27 ∷ 26 ∷ 25 ∷ 24 ∷ 23 ∷ 28 ∷ 27 ∷ 26 ∷ 25 ∷ 24 ∷ 29 ∷ 28 ∷ 27 ∷ 26 ∷ 25 ∷ 30 ∷ 29 ∷ 28 ∷ 27 ∷ 26 ∷ 31 ∷ 30 ∷ 29 ∷ 28 ∷ 27 ∷ 32 ∷ 31 ∷ 30 ∷ 29 ∷ 28 ∷ 33 ∷ 32 ∷ 31 ∷ 30 ∷ 29 ∷ 34 ∷ 33 ∷ 32 ∷ 31 ∷ 30 ∷ 35 ∷ 34 ∷ 33 ∷ 32 ∷ 31 ∷ 36 ∷ 35 ∷ 34 ∷ 33 ∷ 32 ∷ 31 ∷ 30 ∷ 29 ∷ 28 ∷ 27 ∷ 26 ∷ 25 ∷ 24 ∷ 23 ∷ 22 ∷ 21 ∷ 20 ∷ 19 ∷ 18 ∷ 17 ∷ 16 ∷ 15 ∷ 14 ∷ 13 ∷ 12 ∷ 11 ∷ 10 ∷ 9 ∷ 8 ∷ 7 ∷ 6 ∷ 5 ∷ 4 ∷ 3 ∷ 2 ∷ 1 ∷ 0 ∷ 1 ∷ 10 ∷ 11 ∷ 0 ∷ []

ranked : is_ranked ranks loop_words ≡ true
unfolding loop_words
ranked = refl

starts_low : are_below ranks 12 (resume_words loop_words 5044) ≡ true
unfolding loop_words
starts_low = refl

bounded : IsBounded loop_words 5044 11
bounded = bounded_by ranks loop_words ranked 5044 11 starts_low

-- jal x0, a; jal x3, E4; the entry; the ladder from x1 on; the flip
abbrev walk : List ℕ
walk = 237 ∷ 64 ∷ 65 ∷ 66 ∷ 67 ∷ 68 ∷ 231 ∷ 232 ∷ 233 ∷ 234 ∷ 235 ∷ []

goes : IsStaticWalk loop_words 238 walk
unfolding loop_words
goes = (
  record { inside = omega arith; leads = refl },
  (
    record { inside = omega arith; leads = refl },
    (
      record { inside = omega arith; leads = refl },
      (
        record { inside = omega arith; leads = refl },
        (
          record { inside = omega arith; leads = refl },
          (
            record { inside = omega arith; leads = refl },
            (
              record { inside = omega arith; leads = refl },
              (
                record { inside = omega arith; leads = refl },
                (
                  record { inside = omega arith; leads = refl },
                  (
                    record { inside = omega arith; leads = refl },
                    (record { inside = omega arith; leads = refl }, tt),
                  ),
                ),
              ),
            ),
          ),
        ),
      ),
    ),
  ),
)

resumes : IsResumeWord loop_words 5044 238
unfolding loop_words
resumes = record { inside = omega arith; is = inr (237, refl, refl) }

pub loop_gap_law : LoopGapLaw
loop_gap_law = record {
  most = λ i js r g. (let l = bounded i js r g in omega arith);
  from = 238;
  walk = walk;
  resumes = resumes;
  goes = goes;
  reached = refl;
}

pub loop_progresses_law : LoopProgressesLaw
loop_progresses_law = long_periods_law loop_memory 5052 loop_words 5044 45 loop_law loop_placed_law loop_gap_law
