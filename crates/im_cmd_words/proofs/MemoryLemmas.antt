-- Words after the command's name, the files of memories among them.
use Rattle.std.proofs.Common.{ap, refl, sym, false, List, [], ◌∷◌, ◌++◌, Option, Some, None, ◌≡◌, ◌∙◌, codes, map}
use Rattle.std.specs.Prelude.{IfSome}
use Rattle.clap.specs.Words.{Text}
use Rattle.clap.proofs.OnLiterals.{clap_on_literals}
use Rattle.im_cmd_words.specs.Named.{default_building, exec_asked, executes, is_option, memory_words, named, run_asked, runs, saving_options}
use Rattle.im_cmd_words.proofs.OperandLemmas.{asked_of, command_shape, exec_named, run_named}
use Rattle.im_cmd_words.proofs.OptionLemmas.{Word, given_words, text_of, value, words_read}

abbrev memories_read : Option Text → Option Text → List Word
memories_read save resume = given_words (codes "--save") save ++ (given_words (codes "--resume") resume ++ [])

texts_read : (save resume : Option Text) → map text_of (memories_read save resume) ≡ memory_words save resume
texts_read None None = refl
texts_read None (Some resume) = refl
texts_read (Some save) None = refl
texts_read (Some save) (Some resume) = refl

exec_read : (image : Text) → is_option image ≡ false → (save resume : Option Text) → IfSome save (λ file. is_option file ≡ false) → IfSome resume (λ file. is_option file ≡ false)
    → asked_of exec_asked (command_shape 2) (map text_of (value image ∷ [] ++ memories_read save resume)) ≡ Some (executes image (saving_options save) resume)
unfolding clap_on_literals
exec_read image a None None b c =
    words_read exec_asked (command_shape 2) (value image ∷ [] ++ memories_read None None) (refl, refl, a, refl, tt) refl refl
exec_read image a None (Some resume) b c =
    words_read exec_asked (command_shape 2) (value image ∷ [] ++ memories_read None (Some resume)) (refl, refl, a, refl, (refl, (refl, refl, c, refl, tt))) refl refl
exec_read image a (Some save) None b c =
    words_read exec_asked (command_shape 2) (value image ∷ [] ++ memories_read (Some save) None) (refl, refl, a, refl, (refl, (refl, refl, b, refl, tt))) refl refl
exec_read image a (Some save) (Some resume) b c =
    words_read exec_asked (command_shape 2) (value image ∷ [] ++ memories_read (Some save) (Some resume)) (refl, refl, a, refl, (refl, (refl, refl, b, refl, (refl, (refl, refl, c, refl, tt))))) refl refl

pub exec_memories : (program image : Text) (save resume : Option Text) → is_option image ≡ false → IfSome save (λ file. is_option file ≡ false) → IfSome resume (λ file. is_option file ≡ false)
    → named (program ∷ codes "exec" ∷ image ∷ memory_words save resume) ≡ Some (executes image (saving_options save) resume)
exec_memories program image save resume a b c =
    exec_named program (image ∷ memory_words save resume)
    ∙ ap (λ words. asked_of exec_asked (command_shape 2) (image ∷ words)) (sym (texts_read save resume))
    ∙ exec_read image a save resume b c

run_read : (source image : Text) → is_option source ≡ false → is_option image ≡ false → (save : Option Text) → IfSome save (λ file. is_option file ≡ false)
    → asked_of run_asked (command_shape 1) (map text_of (value source ∷ value image ∷ [] ++ memories_read save None)) ≡ Some (runs source image default_building (saving_options save))
unfolding clap_on_literals
run_read source image a i None b =
    words_read run_asked (command_shape 1) (value source ∷ value image ∷ [] ++ memories_read None None) (refl, refl, a, refl, (refl, refl, i, refl, tt)) refl refl
run_read source image a i (Some save) b =
    words_read run_asked (command_shape 1) (value source ∷ value image ∷ [] ++ memories_read (Some save) None) (refl, refl, a, refl, (refl, refl, i, refl, (refl, (refl, refl, b, refl, tt)))) refl refl

pub run_memories : (program source image : Text) (save : Option Text) → is_option source ≡ false → is_option image ≡ false → IfSome save (λ file. is_option file ≡ false)
    → named (program ∷ codes "run" ∷ source ∷ image ∷ memory_words save None) ≡ Some (runs source image default_building (saving_options save))
run_memories program source image save a i b =
    run_named program (source ∷ image ∷ memory_words save None)
    ∙ ap (λ words. asked_of run_asked (command_shape 1) (source ∷ image ∷ words)) (sym (texts_read save None))
    ∙ run_read source image a i save b
