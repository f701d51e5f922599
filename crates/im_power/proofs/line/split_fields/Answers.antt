use Rattle.std.proofs.Common.{◌==◌, length, rules, tests}
use Rattle.std.specs.Prelude.{not}
use Rattle.std.proofs.lemmas.Iterator.Consumers.{map_from_collect, YieldsList-at, YieldsList-from_filter}
use Rattle.std.proofs.lemmas.Iterator.Splits.{YieldsList-from_slice_split}
use Rattle.im_power.specs.Text.{fields, is_blank}
use Rattle.im_power.proofs.line.split_fields.Goals as goal

pub returns : goal.returns
unfolding fields
returns c =
    map_from_collect _ c.collect.ensures.ran (YieldsList-from_filter _ (λ field. not (length field == 0)) (YieldsList-at c.filter.ensures.source (YieldsList-from_slice_split _ is_blank c.args.line.now c.split.ensures.rest c.split.ensures.done c.split.ensures.closure (λ x b q k. search (rules, tests)))) c.filter.ensures.closure (λ x b q k. search (rules, tests)))
