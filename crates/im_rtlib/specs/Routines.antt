-- The runtime routines, line by line. x1 is the return address, x10 an argument and a result; x5 to x7 are spare.
use Rattle.std.specs.Prelude.{ℕ, Some, List, [], ◌∷◌, ◌++◌}
use Rattle.im_num.specs.declared.values.Cause.{Cause}
use Rattle.im_num.specs.declared.values.Cause.TheVariants.{Length, Dep}
use Rattle.im_mem.specs.Map.{status_at, reason_at, out_len0_at, out_cap_at, in_len_at, in_pos_at, out_len1_at, out_sel_at}
use Rattle.im_rv.specs.declared.instr.Op.TheVariants.{Lui, Jal, Jalr, Bne, Bgeu, Lw, Lbu, Sb, Sw, Addi, Sltiu, Andi, Add, Ebreak}
use Rattle.im_serve.specs.declared.service.Service.{Service}
use Rattle.im_serve.specs.declared.service.Service.TheVariants.{Getchar, Putchar}
use Rattle.im_rv.specs.Decode.{Line}
use Rattle.im_rv.specs.Lines.{instruction, CodeLine, plain_line}

-- ---- labels: those of the checkpoint's entries E4 to E31 are 4 to 31; those from 64 on are free

abbrev pub getchar_label : ℕ
getchar_label = 32

abbrev pub putchar_label : ℕ
putchar_label = 33

-- the label of a service's routine
abbrev pub service_label : Service → ℕ
service_label Getchar = getchar_label
service_label Putchar = putchar_label

abbrev pub exit_label : ℕ
exit_label = 34

abbrev pub stack_label : ℕ
stack_label = 35

-- inside getchar: the input is at its end
abbrev pub at_end_label : ℕ
at_end_label = 40

-- inside putchar: OUT_LEN1 holds; the length is read; the output has its capacity; OUT_LEN0 is to be stored; the length is stored
abbrev pub second_label : ℕ
second_label = 41

abbrev pub counted_label : ℕ
counted_label = 42

abbrev pub full_label : ℕ
full_label = 43

abbrev pub first_label : ℕ
first_label = 44

abbrev pub stored_label : ℕ
stored_label = 45

-- ---- kinds of lines

abbrev pub labelled : ℕ → Line → CodeLine
labelled label l = record (plain_line l) { label = Some label }

-- an instruction whose distance is that to a label
abbrev pub aimed : ℕ → Line → CodeLine
aimed target l = record (plain_line l) { target = Some target }

-- an access that a cause names
abbrev pub numbered : ℕ → Line → CodeLine
numbered access l = record (plain_line l) { access = Some access }

-- a cut that saves x1, x2 and x5 to x10
abbrev pub cut : Cause → CodeLine
cut cause = record (plain_line (instruction Jal 3 0 0 0)) { target = Some 10; cause = Some cause }

-- jalr x0, 0(x1)
abbrev pub return_line : Line
return_line = instruction Jalr 0 1 0 0

-- addi x10, x0, -1
abbrev pub minus_one_line : Line
minus_one_line = instruction Addi 10 0 0 0xFFFFFFFF

-- ---- getchar: the next byte of the input, or -1 at its end. IN_POS is read in one section and stored in the next.

abbrev pub getchar_first : CodeLine
getchar_first = record (numbered 0 (instruction Lw 5 0 0 in_pos_at)) { label = Some getchar_label }

abbrev pub getchar : List CodeLine
getchar =
    getchar_first
    ∷ plain_line (instruction Lw 6 0 0 in_len_at)
    ∷ aimed at_end_label (instruction Bgeu 0 5 6 0)
    ∷ plain_line (instruction Lui 6 0 0 0x300)
    ∷ plain_line (instruction Add 6 6 5 0)
    ∷ plain_line (instruction Lbu 10 6 0 0)
    ∷ plain_line (instruction Addi 5 5 0 1)
    ∷ cut (Dep 0 1)
    ∷ numbered 1 (instruction Sw 0 0 5 in_pos_at)
    ∷ plain_line return_line
    ∷ labelled at_end_label minus_one_line
    ∷ plain_line return_line
    ∷ []

-- ---- putchar: the byte is appended and given back, or -1 where the output has its capacity. The byte is stored in one section,
-- the new length into the length not selected in the next, and the selector in a third.

-- the new length is stored
abbrev pub middle_cut : CodeLine
middle_cut = record (cut Length) { label = Some stored_label }

abbrev pub byte_lines : List CodeLine
byte_lines =
    labelled putchar_label (instruction Andi 10 10 0 255)
    ∷ plain_line (instruction Lbu 5 0 0 out_sel_at)
    ∷ aimed second_label (instruction Bne 0 5 0 0)
    ∷ plain_line (instruction Lw 6 0 0 out_len0_at)
    ∷ aimed counted_label (instruction Jal 0 0 0 0)
    ∷ labelled second_label (instruction Lw 6 0 0 out_len1_at)
    ∷ labelled counted_label (instruction Lw 7 0 0 out_cap_at)
    ∷ aimed full_label (instruction Bgeu 0 6 7 0)
    ∷ plain_line (instruction Lui 7 0 0 0x400)
    ∷ plain_line (instruction Add 7 7 6 0)
    ∷ plain_line (instruction Sb 0 7 10 0)
    ∷ plain_line (instruction Addi 6 6 0 1)
    ∷ cut Length
    ∷ []

abbrev pub length_lines : List CodeLine
length_lines =
    aimed first_label (instruction Bne 0 5 0 0)
    ∷ plain_line (instruction Sw 0 0 6 out_len1_at)
    ∷ aimed stored_label (instruction Jal 0 0 0 0)
    ∷ labelled first_label (instruction Sw 0 0 6 out_len0_at)
    ∷ middle_cut
    ∷ []

abbrev pub selector_lines : List CodeLine
selector_lines =
    plain_line (instruction Sltiu 5 5 0 1)
    ∷ plain_line (instruction Sb 0 0 5 out_sel_at)
    ∷ cut Length
    ∷ plain_line return_line
    ∷ labelled full_label minus_one_line
    ∷ plain_line return_line
    ∷ []

abbrev pub putchar : List CodeLine
putchar = byte_lines ++ (length_lines ++ selector_lines)

-- the routine of a service
abbrev pub routine : Service → List CodeLine
routine Getchar = getchar
routine Putchar = putchar

-- ---- the two ends. A memory is loaded with STATUS 0 and REASON 0, and nothing else stores there, so each end stores one of them.

-- the program has returned x10: STATUS is that
abbrev pub exit : List CodeLine
exit =
    labelled exit_label (instruction Sw 0 0 10 status_at)
    ∷ plain_line (instruction Ebreak 0 0 0 0)
    ∷ []

-- the stack is exhausted: REASON is 1
abbrev pub stack : List CodeLine
stack =
    labelled stack_label (instruction Addi 5 0 0 1)
    ∷ plain_line (instruction Sw 0 0 5 reason_at)
    ∷ plain_line (instruction Ebreak 0 0 0 0)
    ∷ []
