-- What the checker gives of a source's tree is what compiling asks.
use Rattle.std.proofs.Common.{ℕ, ◌≤◌, List, length, All, arith}
use Rattle.im_fault.specs.declared.fault.Quantity.TheVariants.{Source}
use Rattle.im_fault.specs.Texts.{limit_of}
use Rattle.im_tok.specs.declared.token.Token.{Token}
use Rattle.im_lex.specs.Tokens.{IsTokenOf}
use Rattle.im_ctree.specs.declared.unit.Tree.{Tree}
use Rattle.im_ctree.specs.Shape.{tree_of}
use Rattle.im_typed.specs.declared.program.Prog.{Prog}
use Rattle.im_typed.specs.ProgramOf.{program_of}
use Rattle.im_rules_sound_spelt.specs.Laws.{WordsLaw, SourcesLaw}
use Rattle.im_rules_sound_spelt.specs.StaticsLaws.{WordNamesLaw, NamableLaw}
use Rattle.im_check.specs.Checked.{IsChecked}
use Rattle.im_driver.specs.Compiled.{IsTreeOf}
use Rattle.im_driver.specs.Steps.{IsReady}
use Rattle.im_driver.proofs.Typed.{AreSmall, well_typed, namable}
use Rattle.im_driver.proofs.Namable.{are_namable}

pub ready : WordsLaw → SourcesLaw → WordNamesLaw → NamableLaw → (source : List ℕ) (tokens : List Token) (tree : Tree) (prog : Prog) → AreSmall source → length source ≤ limit_of Source → All (IsTokenOf source) tokens → IsTreeOf source tokens tree → IsChecked (tree_of tree) prog → IsReady source prog
ready words sources names statics source tokens tree prog small few all is_tree checked =
    let typed = well_typed source small words tokens tree (program_of prog) sources all is_tree.parsed checked.typed checked.within in
    record {
      program = record { tokens = tokens; tree = tree; is_tree = is_tree; typed = checked.typed; within = checked.within };
      is_source = record { known = checked.known; typed = typed.0; within = typed.1 };
      named = are_namable (program_of prog).statics (namable source small words names (omega (arith, few)) tokens tree (program_of prog) statics all is_tree.parsed checked.typed checked.within);
    }
