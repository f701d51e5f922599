-- A sentence for each typing rule, and for what else is wrong in a source.
use Rattle.std.specs.Prelude.{ℕ, ◌==◌, List, [], ◌∷◌, ◌++◌, codes, decimal, if◌then◌else◌}
use Rattle.im_fault.specs.Texts.{limit_of, quantity_name}
use Rattle.im_fault.specs.declared.fault.LineFault.{LineFault}
use Rattle.im_fault.specs.declared.fault.LineFault.TheVariants.{BadByte, OpenComment, OpenLiteral, BadEscape, BadNumber, BadDirective, Syntax, Nesting, Dimensions, Rule}
use Rattle.im_fault.specs.declared.fault.Quantity.{Quantity}
use Rattle.im_fault.specs.declared.fault.Quantity.TheVariants.{Source, Parameters, Size, Statics, Frame, Code, Derivations}

-- what the typing rule of a number asks for
abbrev pub rule_sentence : ℕ → List ℕ
rule_sentence rule =
    if rule == 1 then codes "these words name no type" else
    if rule == 2 then codes "typedef, extern or static can't stand here" else
    if rule == 3 then codes "this name is declared already, or with another type" else
    if rule == 4 then codes "a typedef's name can't name something else" else
    if rule == 5 then codes "this needs a complete object type" else
    if rule == 6 then codes "an array's length is a constant of at least 1" else
    if rule == 7 then codes "a struct's members stand once, at file scope, under different names" else
    if rule == 8 then codes "an enum's list stands once, at file scope, and its constants fit in int" else
    if rule == 9 then codes "functions take integers and pointers, and give these or void" else
    if rule == 10 then codes "no pointer points to void or to a function" else
    if rule == 11 then codes "a body stands behind a function whose parameters have names" else
    if rule == 12 then codes "this is used and has no definition in the source" else
    if rule == 13 then codes "the source needs int main(void) with a body" else
    if rule == 14 then codes "a static's first value is a constant or an address" else
    if rule == 15 then codes "this is no constant expression" else
    if rule == 16 then codes "the initialiser hasn't the shape of its object" else
    if rule == 17 then codes "the value doesn't fit its target" else
    if rule == 18 then codes "this name isn't declared before it, or names a function that isn't called" else
    if rule == 19 then codes "only a function's name is called, with as many arguments as it has parameters" else
    if rule == 20 then codes "a[b] takes a pointer to a complete type and an integer" else
    if rule == 21 then codes "there is no such member here" else
    if rule == 22 then codes "this needs an lvalue" else
    if rule == 23 then codes "an array, or what is const, can't be changed" else
    if rule == 24 then codes "unary * takes a pointer to a complete type" else
    if rule == 25 then codes "the operand has to be an integer, or for ! && || and conditions a pointer" else
    if rule == 26 then codes "this operator takes two integers" else
    if rule == 27 then codes "+ and - take integers, or a pointer to a complete type with an integer or its like" else
    if rule == 28 then codes "an order takes two integers, or two pointers to the same type" else
    if rule == 29 then codes "== and != take two integers, two pointers to the same type, or a pointer and 0" else
    if rule == 30 then codes "this operator can't change its operand so" else
    if rule == 31 then codes "the two results of ?: have no type in common" else
    if rule == 32 then codes "a cast is from an integer to an integer type, or to void" else
    if rule == 33 then codes "sizeof takes a complete object type" else
    if rule == 34 then codes "this statement can't stand here" else
    []

-- in front of the token at the place, and behind it; nothing where none stands there
abbrev pub opening : List ℕ → List ℕ
opening [] = []
opening (byte ∷ bytes) = codes " at '"

abbrev pub closing : List ℕ → List ℕ
closing [] = []
closing (byte ∷ bytes) = codes "'"

-- why the grammar doesn't go on
abbrev pub syntax_sentence : List ℕ → List ℕ
syntax_sentence [] = codes "the text ends too early"
syntax_sentence (byte ∷ bytes) = codes "no unit goes on with it"

-- a fault of this kind, with the number of its rule, the token at its place, and why
abbrev pub told : List ℕ → List ℕ → List ℕ → List ℕ → List ℕ
told kind number token why =
    kind ++ (number ++ (opening token ++ (token ++ (closing token ++ (codes ": " ++ (why ++ codes "\n"))))))

abbrev pub fault_text : LineFault → List ℕ → List ℕ
fault_text BadByte token = told (codes "bad byte") [] token (codes "no token begins with it")
fault_text OpenComment token = told (codes "open comment") [] token (codes "its */ is missing")
fault_text OpenLiteral token =
    told (codes "open literal") [] token (codes "its quotation mark is missing, or it hasn't one character")
fault_text BadEscape token = told (codes "bad escape") [] token (codes "no character is written so")
fault_text BadNumber token = told (codes "bad number") [] token (codes "it is no integer, or no type holds it")
fault_text BadDirective token = told (codes "bad directive") [] token (codes "only line markers begin with #")
fault_text Syntax token = told (codes "syntax") [] token (syntax_sentence token)
fault_text Nesting token = told (codes "nesting over 200") [] token (codes "more than 200 stand in one another")
fault_text Dimensions token = told (codes "dimensions over 512") [] token (codes "more than 512 [..] stand directly behind one another")
fault_text (Rule number) token = told (codes "rule ") (decimal number) token (rule_sentence number)

-- what a limit asks for
abbrev pub limit_sentence : Quantity → List ℕ
limit_sentence Source = codes "a source has at most 4194304 bytes"
limit_sentence Parameters = codes "a function has at most 8 parameters"
limit_sentence Size = codes "a type has at most 1048576 bytes"
limit_sentence Statics = codes "all statics have at most 1048576 bytes"
limit_sentence Frame = codes "a function's locals and temporary values have at most 65536 bytes"
limit_sentence Code = codes "all code has at most 1044480 bytes"
limit_sentence Derivations = codes "a typedef name stands for at most 250 pointers, arrays and functions"

-- so much of the quantity, over its limit, and what stands behind that
abbrev pub over_text : Quantity → ℕ → List ℕ → List ℕ
over_text quantity count behind =
    quantity_name quantity ++ (codes " " ++ (decimal count ++ (codes " over " ++ (decimal (limit_of quantity) ++ behind))))

-- in front of a name; nothing where there is none
abbrev pub within : List ℕ → List ℕ
within [] = []
within (byte ∷ bytes) = codes " in '"

-- in what has this name, and what the limit asks for
abbrev pub named_text : Quantity → ℕ → List ℕ → List ℕ
named_text quantity count name =
    over_text quantity count (within name ++ (name ++ (closing name ++ (codes ": " ++ (limit_sentence quantity ++ codes "\n")))))
