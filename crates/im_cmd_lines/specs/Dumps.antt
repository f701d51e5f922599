-- What is printed of an image.
use Rattle.std.specs.Prelude.{ℕ, ◌+◌, Option, Some, None, List, [], ◌∷◌, ◌++◌, length, codes, decimal}
use Rattle.std.specs.List.{flat_map}
use Rattle.std.specs.Fmt.{signed_decimal}
use Rattle.std.specs.Int.{cast_signed, w32}
use Rattle.im_rv.specs.declared.format.Format.{Format}
use Rattle.im_rv.specs.declared.format.Format.TheVariants.{Register, Immediate, Shift, Store, Branch, Upper, Jump, Order, Whole}
use Rattle.im_rv.specs.declared.instr.Op.{Op}
use Rattle.im_rv.specs.declared.instr.Op.TheVariants.{Lui, Auipc, Jal, Jalr, Beq, Bne, Blt, Bge, Bltu, Bgeu, Lb, Lh, Lw, Lbu, Lhu, Sb, Sh, Sw, Addi, Slti, Sltiu, Xori, Ori, Andi, Slli, Srli, Srai, Add, Sub, Sll, Slt, Sltu, Xor, Srl, Sra, Or, And, Mul, Mulh, Mulhsu, Mulhu, Div, Divu, Rem, Remu, Fence, Ebreak}
use Rattle.im_rv.specs.Formats.{format_of}
use Rattle.im_rv.specs.Decode.{Line, decode}
use Rattle.im_mem.specs.Map.{code_start}
use Rattle.im_image.specs.declared.version.Version.{Version}
use Rattle.im_image.specs.declared.version.Version.TheVariants.{One, Two}
use Rattle.im_image.specs.declared.form.Form.{Form}
use Rattle.im_image.specs.Contents.{ImageValue, ObjectValue}
use Rattle.im_image.specs.Text.{version_number, form_number}
use Rattle.im_cmd_lines.specs.Numerals.{hex_word}

-- the operation's name in the manual's assembly text
abbrev pub op_name : Op → List ℕ
op_name Lui = codes "lui"
op_name Auipc = codes "auipc"
op_name Jal = codes "jal"
op_name Jalr = codes "jalr"
op_name Beq = codes "beq"
op_name Bne = codes "bne"
op_name Blt = codes "blt"
op_name Bge = codes "bge"
op_name Bltu = codes "bltu"
op_name Bgeu = codes "bgeu"
op_name Lb = codes "lb"
op_name Lh = codes "lh"
op_name Lw = codes "lw"
op_name Lbu = codes "lbu"
op_name Lhu = codes "lhu"
op_name Sb = codes "sb"
op_name Sh = codes "sh"
op_name Sw = codes "sw"
op_name Addi = codes "addi"
op_name Slti = codes "slti"
op_name Sltiu = codes "sltiu"
op_name Xori = codes "xori"
op_name Ori = codes "ori"
op_name Andi = codes "andi"
op_name Slli = codes "slli"
op_name Srli = codes "srli"
op_name Srai = codes "srai"
op_name Add = codes "add"
op_name Sub = codes "sub"
op_name Sll = codes "sll"
op_name Slt = codes "slt"
op_name Sltu = codes "sltu"
op_name Xor = codes "xor"
op_name Srl = codes "srl"
op_name Sra = codes "sra"
op_name Or = codes "or"
op_name And = codes "and"
op_name Mul = codes "mul"
op_name Mulh = codes "mulh"
op_name Mulhsu = codes "mulhsu"
op_name Mulhu = codes "mulhu"
op_name Div = codes "div"
op_name Divu = codes "divu"
op_name Rem = codes "rem"
op_name Remu = codes "remu"
op_name Fence = codes "fence"
op_name Ebreak = codes "ebreak"

-- a blank and a register's number
abbrev pub register_text : ℕ → List ℕ
register_text number = codes " " ++ decimal number

-- a blank and an immediate, read as a signed number
abbrev pub immediate_text : ℕ → List ℕ
immediate_text immediate = codes " " ++ signed_decimal (cast_signed w32 immediate)

-- rd, rs1, rs2 and the immediate, those of them that the format has
abbrev pub fields_text : Format → Line → List ℕ
fields_text Register line = register_text line.rd ++ register_text line.rs1 ++ register_text line.rs2
fields_text Immediate line = register_text line.rd ++ register_text line.rs1 ++ immediate_text line.imm
fields_text Shift line = register_text line.rd ++ register_text line.rs1 ++ immediate_text line.imm
fields_text Store line = register_text line.rs1 ++ register_text line.rs2 ++ immediate_text line.imm
fields_text Branch line = register_text line.rs1 ++ register_text line.rs2 ++ immediate_text line.imm
fields_text Upper line = register_text line.rd ++ immediate_text line.imm
fields_text Jump line = register_text line.rd ++ immediate_text line.imm
fields_text Order line = register_text line.rd ++ register_text line.rs1 ++ immediate_text line.imm
fields_text Whole line = []

-- a word that is no instruction is just that
abbrev pub instruction_text : Option Line → List ℕ
instruction_text None = codes "word"
instruction_text (Some line) = op_name line.op ++ fields_text (format_of line.op) line

abbrev pub word_line : ℕ → ℕ → List ℕ
word_line at word = hex_word at ++ codes ": " ++ hex_word word ++ codes " " ++ instruction_text (decode word) ++ codes "\n"

-- each word by its address, from the address of the first on
abbrev pub word_lines : ℕ → List ℕ → List ℕ
word_lines at [] = []
word_lines at (word ∷ words) = word_line at word ++ word_lines (at + 4) words

abbrev pub object_line : ObjectValue → List ℕ
object_line object = codes "var " ++ object.name ++ codes " " ++ hex_word object.at ++ codes " " ++ decimal object.size ++ codes "\n"

abbrev pub header_lines : ImageValue → List ℕ
header_lines image =
    codes "version " ++ decimal (version_number image.version)
    ++ codes "\ncode " ++ decimal (length image.words)
    ++ codes "\nstatics " ++ decimal (length image.statics)
    ++ codes "\nstack " ++ decimal image.stack
    ++ codes "\nout-cap " ++ decimal image.out_cap
    ++ codes "\nentry " ++ hex_word image.entry ++ codes "\n"

-- the form, which version 1 doesn't have
abbrev pub form_line : Version → Form → List ℕ
form_line One form = []
form_line Two form = codes "form " ++ decimal (form_number form) ++ codes "\n"

-- the header and the form, the objects, and the code
abbrev pub dump_lines : ImageValue → List ℕ
dump_lines image =
    (header_lines image ++ form_line image.version image.form)
    ++ flat_map object_line image.objects
    ++ word_lines code_start image.words
