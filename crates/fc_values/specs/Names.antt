-- The words of the language, and what a name is.
use Rattle.std.specs.Prelude.{ℕ, Bool, true, false, ◌≡◌, ◌&&◌, ◌||◌, ◌==◌, nat_le, is_none, List, [], ◌∷◌, Option, codes}
use Rattle.std.specs.List.{find, list_all}
use Rattle.std.specs.Str.{bytes_eq}
use Rattle.fc_values.specs.declared.names.Word.{Word}
use Rattle.fc_values.specs.declared.names.Word.TheVariants as word

-- a byte lies from the first to the second, both included
abbrev pub is_between : ℕ → ℕ → ℕ → Bool
is_between least greatest b = nat_le least b && nat_le b greatest

-- `0` to `9`
abbrev pub is_digit : ℕ → Bool
is_digit b = is_between 48 57 b

-- `a` to `z` and `A` to `Z`
abbrev pub is_letter : ℕ → Bool
is_letter b = is_between 97 122 b || is_between 65 90 b

-- what follows the first letter of a name: letters, digits and `_`
abbrev pub is_name_byte : ℕ → Bool
is_name_byte b = is_letter b || is_digit b || (b == 95)

-- how a word is written
abbrev pub spelling : Word → List ℕ
spelling word.Ceiling = codes "ceiling"
spelling word.Input = codes "input"
spelling word.Metric = codes "metric"
spelling word.Def = codes "def"
spelling word.Main = codes "main"
spelling word.Let = codes "let"
spelling word.In = codes "in"
spelling word.If = codes "if"
spelling word.Nbr = codes "nbr"
spelling word.Rep = codes "rep"
spelling word.Sense = codes "sense"
spelling word.Uid = codes "uid"
spelling word.NbrLink = codes "nbrLink"
spelling word.Not = codes "not"
spelling word.And = codes "and"
spelling word.Or = codes "or"
spelling word.True = codes "true"
spelling word.False = codes "false"
spelling word.Int = codes "int"
spelling word.Bool = codes "bool"
spelling word.Field = codes "field"
spelling word.Min = codes "min"
spelling word.Max = codes "max"
spelling word.Mux = codes "mux"
spelling word.Fst = codes "fst"
spelling word.Snd = codes "snd"
spelling word.MinHoodLoc = codes "minHoodLoc"
spelling word.MaxHoodLoc = codes "maxHoodLoc"
spelling word.SumHood = codes "sumHood"
spelling word.AnyHood = codes "anyHood"
spelling word.AllHood = codes "allHood"
spelling word.Share = codes "share"
spelling word.Rise = codes "rise"
spelling word.Language = codes "language"

-- all of them
abbrev pub words : List Word
words =
    word.Ceiling ∷ word.Input ∷ word.Metric ∷ word.Def ∷ word.Main ∷ word.Let ∷
    word.In ∷ word.If ∷ word.Nbr ∷ word.Rep ∷ word.Sense ∷ word.Uid ∷
    word.NbrLink ∷ word.Not ∷ word.And ∷ word.Or ∷ word.True ∷ word.False ∷
    word.Int ∷ word.Bool ∷ word.Field ∷ word.Min ∷ word.Max ∷ word.Mux ∷
    word.Fst ∷ word.Snd ∷ word.MinHoodLoc ∷ word.MaxHoodLoc ∷ word.SumHood ∷ word.AnyHood ∷
    word.AllHood ∷ word.Share ∷ word.Rise ∷ word.Language ∷ []

-- a word has this spelling
abbrev pub is_spelled : List ℕ → Word → Bool
is_spelled name w = bytes_eq (spelling w) name

-- the word of this spelling, if there is one
unfoldable pub word_of : List ℕ → Option Word
word_of name = find (is_spelled name) words

-- a letter, then letters, digits and `_`, and no word
abbrev pub is_name : List ℕ → Bool
is_name [] = false
is_name (b ∷ bs) = is_letter b && list_all is_name_byte bs && is_none (word_of (b ∷ bs))

abbrev pub IsName : List ℕ → Type 0
IsName x = is_name x ≡ true
