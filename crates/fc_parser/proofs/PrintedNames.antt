-- The pieces that are names.
use Rattle.std.proofs.Common.{ℕ, List, [], ◌∷◌, refl}
use Rattle.fc_values.specs.Names.{IsName}
use Rattle.fc_lexer.specs.Kinds.{NameOf}
use Rattle.fc_lexer.proofs.Letters.{is_named, letter_begins, letter_no_space, name_parts}
use Rattle.fc_parser.proofs.PrintedRuns.{InWord, InSpace, Meets, Inner}
use Rattle.fc_parser.proofs.PrintedWords.{letters_run}

pub name_run : (x : List ℕ) → IsName x → Inner InWord x (NameOf x ∷ [])
name_run [] h = cc
name_run (b ∷ bs) h =
    let parts = name_parts b bs h in
    record {
      run = letters_run b bs (NameOf (b ∷ bs)) (letter_begins b parts.0) parts.1 (is_named b bs parts.2);
      no_semi = refl;
    }

pub name_starts : (x : List ℕ) → IsName x → Meets InSpace x
name_starts [] h = cc
name_starts (b ∷ bs) h = letter_no_space b (name_parts b bs h).0
