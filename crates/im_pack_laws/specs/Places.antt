-- Where the labels and the objects of a packed program lie.
use Rattle.std.specs.Prelude.{ℕ, suc, ◌==◌, Bool, false, if◌then◌else◌, List, [], ◌∷◌, Option, Some, None, map}
use Rattle.im_rv.specs.declared.code.Line.{Line}
use Rattle.im_rv.specs.declared.code.Part.{Part}
use Rattle.im_rv.specs.declared.code.Code.{Code as Linked}
use Rattle.im_rv.specs.Code.{address}
use Rattle.im_link.specs.Parts.{lines_of}
use Rattle.im_image.specs.Contents.{ImageValue}
use Rattle.im_device.specs.Load.{memory_of}
use Rattle.im_block.specs.declared.unit.Unit.{Unit as Code}
use Rattle.im_block.specs.Meaning.{Setting}
use Rattle.im_frame.specs.declared.layout.Layout.{Layout}
use Rattle.im_select_addresses.specs.Addresses.{place_at, size_at}
use Rattle.im_select_relation.specs.Linking.{Linking}
use Rattle.im_link_laws.specs.Linking.{linking_of}

abbrev pub has_label : Option ℕ → ℕ → Bool
has_label None l = false
has_label (Some m) l = m == l

-- the address of the line with a label, where the first line is the i-th of a code; 0 where there is none
abbrev pub place_among : List Line → ℕ → ℕ → ℕ
place_among [] i l = 0
place_among (line ∷ lines) i l = if has_label line.label l then address i else place_among lines (suc i) l

abbrev pub label_place : List Part → ℕ → ℕ
label_place parts l = place_among (lines_of parts) 0 l

-- the frames of these layouts, an image's stack and capacity, the input
abbrev pub setting_of : List Layout → ImageValue → List ℕ → Setting
setting_of layouts image input =
    record { frames = map (λ (l : Layout). l.frame) layouts; stack = image.stack; capacity = image.out_cap; input = input }

-- the linking of a packed program, loaded with an input
abbrev pub linking_in : Code → List ℕ → List Layout → List Part → Linked → ImageValue → List ℕ → Linking
linking_in u statics layouts parts code image input =
    linking_of u.functions.items (label_place parts) code (memory_of image input) (place_at statics layouts) (size_at u)
