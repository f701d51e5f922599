use Rattle.std.proofs.Common.{refl}
use Rattle.im_rules.specs.Typed.{of_identifier, of_number, of_declarator, of_name, no_suffix, of_function as function_suffix, no_parameter, a_parameter, of_no_declarator}
use Rattle.im_rules.specs.Initialisers.{initialised, of_one}
use Rattle.im_rules.specs.Statements.{of_return_value, no_item, a_statement}
use Rattle.im_rules.specs.TypedUnit.{of_specifiers, no_list, gives_nothing, gives_values, none_declared, one_declared, of_declaration, of_function, no_external, an_external, of_unit}
use Rattle.im_rules.proofs.examples.unit_example.Goals as goal

pub returns : goal.returns
returns c =
    of_unit
    (an_external (of_declaration (of_specifiers (refl, tt) (no_list tt)) (one_declared (of_declarator tt no_suffix of_name) (refl, (refl, (refl, (refl, (refl, (refl, tt)))))) gives_nothing none_declared))
    (an_external (of_declaration (of_specifiers (refl, tt) (no_list tt)) (one_declared (of_declarator tt no_suffix of_name) (refl, (refl, (refl, (refl, (refl, (refl, tt)))))) (gives_values (initialised (refl, tt) (of_one of_number (refl, tt))) ((refl, tt), tt)) none_declared))
    (an_external (of_declaration (of_specifiers (refl, tt) (no_list tt)) (one_declared (of_declarator tt no_suffix of_name) (refl, (refl, (refl, (refl, (refl, (refl, tt)))))) gives_nothing none_declared))
    (an_external (of_function (of_specifiers (refl, tt) (no_list tt)) (of_declarator tt (function_suffix no_suffix (a_parameter (refl, (refl, tt)) of_no_declarator (refl, tt) no_parameter) (refl, tt)) of_name) (refl, tt) (refl, (refl, (refl, (refl, (refl, (refl, tt)))))) (a_parameter (refl, (refl, tt)) of_no_declarator (refl, tt) no_parameter) (a_statement (of_return_value (of_identifier (refl, (refl, tt))) (refl, (refl, tt))) no_item))
    no_external))))
    (refl, tt)
