-- Functions that are defined, by longer tables of types.
use Rattle.std.proofs.Common.{◌≡◌, true, List, [], ◌∷◌, ◌++◌, length, refl, sym, ap, ◌∙◌, append_assoc}
use Rattle.std.proofs.lemmas.List.{append-nil}
use Rattle.im_check_file_functions.specs.im_ctype.Table.{Table, structs_of}
use Rattle.im_check_file_functions.specs.im_ctype.Types.{Structs}
use Rattle.im_check_file_functions.specs.im_typed.Program.{Func}
use Rattle.im_check_defined.specs.declared.function.Defined.{Defined}
use Rattle.im_check_defined.specs.Functions.{all_complete, function_in, IsDefined, AreDefined}

one_longer : {a : Table} {k : Func} {f : Defined} (b : Table) (more : Structs) → structs_of b ≡ structs_of a ++ more → IsDefined a k f → IsDefined b k f
one_longer b more longer one =
    record {
      types = one.types;
      longer = record {
        more = one.longer.more ++ more;
        structs = longer ∙ ap (λ z. z ++ more) one.longer.structs ∙ append_assoc (structs_of one.types) one.longer.more more;
      };
      complete = one.complete;
      same = one.same;
    }

pub defined_longer : (a b : Table) (more : Structs) → structs_of b ≡ structs_of a ++ more → (ks : List Func) (fs : List Defined) → AreDefined a ks fs → AreDefined b ks fs
defined_longer a b more longer [] [] h = tt
defined_longer a b more longer [] (f ∷ fs) h = absurd h
defined_longer a b more longer (k ∷ ks) [] h = absurd h
defined_longer a b more longer (k ∷ ks) (f ∷ fs) h = (one_longer b more longer h.0, defined_longer a b more longer ks fs h.1)

pub defined_two : (types : Table) (ks : List Func) (fs : List Defined) (ls : List Func) (gs : List Defined) → AreDefined types ks fs → AreDefined types ls gs → AreDefined types (ks ++ ls) (fs ++ gs)
defined_two types [] [] ls gs h j = j
defined_two types [] (f ∷ fs) ls gs h j = absurd h
defined_two types (k ∷ ks) [] ls gs h j = absurd h
defined_two types (k ∷ ks) (f ∷ fs) ls gs h j = (h.0, defined_two types ks fs ls gs h.1 j)

pub defined_one : (types : Table) (f : Defined) → all_complete (length (structs_of types)) f.objects.items ≡ true → AreDefined types (function_in types f ∷ []) (f ∷ [])
defined_one types f complete = (record { types = types; longer = record { more = []; structs = sym (append-nil (structs_of types)) }; complete = complete; same = refl }, tt)
