-- The message of a source that is refused: where and why, the line, and a caret under the place.
use Rattle.std.specs.Prelude.{ℕ, ◌+◌, ◌==◌, List, ◌++◌, codes, decimal, drop, length, if◌then◌else◌}
use Rattle.std.specs.List.{flat_map}
use Rattle.im_fault.specs.declared.fault.LineFault.{LineFault}
use Rattle.im_fault.specs.declared.fault.Quantity.{Quantity}
use Rattle.im_fault.specs.declared.fault.SourceFault.{SourceFault}
use Rattle.im_fault.specs.declared.fault.SourceFault.TheVariants.{Line, Limit, OutOfMemory}
use Rattle.im_fault.specs.declared.fault.Subject.{Subject}
use Rattle.im_fault.specs.declared.fault.Subject.TheVariants.{Whole, Named, Declared}
use Rattle.im_cmd_check.specs.declared.runs.Run.TheVariants as run_kind
use Rattle.im_cmd_check.specs.Runs.{part, run}
use Rattle.im_cmd_check.specs.Reading.{Reading, presumed}
use Rattle.im_cmd_check.specs.Sentences.{fault_text, named_text, over_text}

-- the file, its line and its column, counted in bytes from 1
abbrev pub place_text : Reading → List ℕ
place_text reading =
    reading.name ++ (codes ":" ++ (decimal reading.line ++ (codes ":" ++ (decimal (length reading.front + 1) ++ codes ": "))))

-- the line with this front, of which this is the rest of the text
abbrev pub line_text : List ℕ → List ℕ → List ℕ
line_text front rest = front ++ (run run_kind.Line rest ++ codes "\n")

-- what stands in front of the caret: a tab under a tab, and else a blank
abbrev pub under : ℕ → List ℕ
under byte = if byte == 9 then codes "\t" else codes " "

-- a caret under the place
abbrev pub caret_line : List ℕ → List ℕ
caret_line front = flat_map under front ++ codes "^\n"

-- the line, and below it the caret
abbrev pub shown_line : List ℕ → List ℕ → List ℕ
shown_line front rest = line_text front rest ++ caret_line front

abbrev pub line_message : Reading → LineFault → List ℕ → List ℕ → List ℕ
line_message reading why token rest = place_text reading ++ (fault_text why token ++ shown_line reading.front rest)

-- a quantity is over its limit, in what has this name and is declared on the line
abbrev pub declared_message : Reading → Quantity → ℕ → List ℕ → List ℕ → List ℕ
declared_message reading quantity count name rest =
    place_text reading ++ (named_text quantity count name ++ shown_line reading.front rest)

-- a quantity of the subject is over its limit
abbrev pub limit_message : List ℕ → List ℕ → Quantity → ℕ → Subject → List ℕ
limit_message file source quantity count Whole = file ++ (codes ": " ++ over_text quantity count (codes "\n"))
limit_message file source quantity count (Named name) = (file ++ codes ": ") ++ named_text quantity count name.items
limit_message file source quantity count (Declared place name) =
    declared_message (presumed file (part source 0 place.start)) quantity count name.items (drop place.start source)

-- the message of a fault of the source that has this file; a quantity over its limit is counted of the subject
abbrev pub source_message : List ℕ → List ℕ → SourceFault → Subject → List ℕ
source_message file source (Line place why) subject =
    line_message (presumed file (part source 0 place.start)) why (part source place.start place.end) (drop place.start source)
source_message file source (Limit quantity count) subject = limit_message file source quantity count subject
source_message file source OutOfMemory subject = codes "intermit: no memory\n"
