use Rattle.im_cmd_words.specs.Named.{default_building}
use Rattle.im_gen.specs.Gen.{gen_source}
use Rattle.im_cmd.proofs.Generations.{gap_small, made_and_run}
use Rattle.im_cmd.proofs.generating.generate.Goals as goal

pub run_made-requires : goal.run_made-requires
run_made-requires c = gap_small (gen_source c.args.count) default_building c.in-Ok.built c.in-Ok.ensures

pub returns-in-Ok-run_made : goal.returns-in-Ok-run_made
returns-in-Ok-run_made c = made_and_run c.args.count c.in-Ok.built _ c.in-Ok.ensures c.in-Ok-run_made.ensures
