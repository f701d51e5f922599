-- What is said of a refused source.
use Rattle.std.specs.Prelude.{ℕ, List, ◌++◌, codes, decimal}
use Rattle.im_fault.specs.declared.fault.LineFault.{LineFault}
use Rattle.im_fault.specs.declared.fault.LineFault.TheVariants.{BadByte, OpenComment, OpenLiteral, BadEscape, BadNumber, BadDirective, Syntax, Nesting, Dimensions, Rule}
use Rattle.im_fault.specs.declared.fault.Quantity.{Quantity}
use Rattle.im_fault.specs.declared.fault.Quantity.TheVariants.{Source, Parameters, Size, Statics, Frame, Code, Derivations}
use Rattle.im_fault.specs.declared.fault.SourceFault.{SourceFault}
use Rattle.im_fault.specs.declared.fault.SourceFault.TheVariants.{Line, Limit, OutOfMemory}

abbrev pub line_fault_text : LineFault → List ℕ
line_fault_text BadByte = codes "bad byte"
line_fault_text OpenComment = codes "open comment"
line_fault_text OpenLiteral = codes "open literal"
line_fault_text BadEscape = codes "bad escape"
line_fault_text BadNumber = codes "bad number"
line_fault_text BadDirective = codes "bad directive"
line_fault_text Syntax = codes "syntax"
line_fault_text Nesting = codes "nesting over 200"
line_fault_text Dimensions = codes "dimensions over 512"
line_fault_text (Rule number) = codes "rule " ++ decimal number

abbrev pub quantity_name : Quantity → List ℕ
quantity_name Source = codes "source"
quantity_name Parameters = codes "parameters"
quantity_name Size = codes "size"
quantity_name Statics = codes "statics"
quantity_name Frame = codes "frame"
quantity_name Code = codes "code"
quantity_name Derivations = codes "derivations"

-- the most that there may be: parameters of a function, derivations of a type, bytes of the others
abbrev pub limit_of : Quantity → ℕ
limit_of Source = 4194304
limit_of Parameters = 8
limit_of Size = 1048576
limit_of Statics = 1048576
limit_of Frame = 65536
limit_of Code = 1044480
limit_of Derivations = 250

-- behind the name of the source's file
abbrev pub source_fault_text : SourceFault → List ℕ
source_fault_text (Line place why) = codes ":" ++ decimal place.line ++ codes ": " ++ line_fault_text why
source_fault_text (Limit quantity count) =
    codes ": " ++ quantity_name quantity ++ codes " " ++ decimal count ++ codes " over " ++ decimal (limit_of quantity)
source_fault_text OutOfMemory = codes ": no memory"
