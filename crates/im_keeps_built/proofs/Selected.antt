-- Selection keeps its line of the record of passes.
use Rattle.std.proofs.Common.{ℕ, List, Option, sym, subst}
use Rattle.im_link.specs.Code.{IsLinkable}
use Rattle.im_typed.specs.declared.program.Prog.{Prog}
use Rattle.im_block.specs.declared.unit.Unit.{Unit as Code}
use Rattle.im_recut.specs.Laws.{RecutKeepsLaw}
use Rattle.im_alloc_relation.specs.Settled.{IsSettled}
use Rattle.im_alloc_laws.specs.Laws.{PlacedCodeLaw}
use Rattle.im_link_laws.specs.Laws.{LinkableLaw}
use Rattle.im_compile.specs.im_saved.Liveness.{IsLiveness, EntersByCuts}
use Rattle.im_saved_code.specs.Laws.{LiveCodeLaw}
use Rattle.im_select_executes.specs.Executing.{HasLiveness}
use Rattle.im_select_executes.specs.Laws.{ExecutesLaw}
use Rattle.im_pack_laws.specs.Places.{linking_in}
use Rattle.im_pack_laws.specs.ImageLaws.{IsImageOf, AllExecute, SelectsLaw}
use Rattle.im_pack_laws.specs.im_keeps_passes.Passes.{setting}
use Rattle.im_compile.specs.declared.options.Options.{Options}
use Rattle.im_compile.specs.declared.built.Built.{Built}
use Rattle.im_compile.specs.Passed.{IsPassed, IsReady, ReadyLaw}
use Rattle.im_compile.specs.Built.{IsBuilt, bytes_of}
use Rattle.im_keeps_built.specs.Laws.{BuiltSelectsLaw}

-- cuts leave what placing settles
settled : PlacedCodeLaw → RecutKeepsLaw → (prog : Prog) (max_gap : Option ℕ) (code : Code) → IsPassed prog max_gap code → IsSettled code
settled placing recut prog max_gap code p =
    placing.recut p.placed code (recut.same p.tags max_gap p.placed code p.recut) (placing.settled p.forced p.placed p.place.placed)

module _ (prog : Prog) (options : Options) (built : Built) (b : IsBuilt prog options built) (able : IsReady prog options.max_gap b.code) (links : LinkableLaw) where
  linkable : IsLinkable b.parts
  linkable = links b.code b.addresses b.layouts b.parts b.assemble able.named

  image_of : IsImageOf b.code b.addresses b.layouts b.parts b.linked options.stack options.out_cap built.image
  image_of = record {
    well_formed = able.well_formed;
    statics_are = record { room = able.room; places = b.place_statics };
    layouts_are = b.lay_out;
    program = b.assemble;
    linkable = linkable;
    linked = b.link;
    packed = b.pack;
    is_image = b.is_image;
  }

  lives : LiveCodeLaw → IsSettled b.code → HasLiveness built.image
  lives living calm =
      let live = living b.code b.addresses b.layouts b.parts b.assemble able.well_formed calm b.linked linkable b.link in
      record {
        live = live.live;
        saved = subst (λ (l : List ℕ). IsLiveness l built.image.entry live.live) (sym b.pack.words)
            (subst (λ n. IsLiveness b.linked.words.items n live.live) (sym b.pack.entry) live.liveness);
        enters = subst (λ (l : List ℕ). EntersByCuts l built.image.entry) (sym b.pack.words)
            (subst (λ n. EntersByCuts b.linked.words.items n) (sym b.pack.entry) live.enters);
      }

  execute : ExecutesLaw → HasLiveness built.image → AllExecute b.code b.addresses b.layouts b.parts b.linked built.image
  execute law live input fits selectable there shown =
      law built.image input b.code (setting (bytes_of b.layouts) built.image input)
      (linking_in b.code b.addresses b.layouts b.parts b.linked built.image input) fits selectable there shown live

pub selects : ReadyLaw → PlacedCodeLaw → RecutKeepsLaw → LinkableLaw → LiveCodeLaw → ExecutesLaw → SelectsLaw → BuiltSelectsLaw
selects ready placing recut links living executes selecting prog options built source b =
    let able = ready prog options.max_gap b.code source b.passed in
    let live = lives prog options built b able links living (settled placing recut prog options.max_gap b.code b.passed) in
    selecting b.code b.addresses b.layouts b.parts b.linked options.stack options.out_cap built.image
    (image_of prog options built b able links)
    (execute prog options built b able links executes live)
