-- The pieces that are words.
use Rattle.std.proofs.Common.{ℕ, ◌≡◌, true, List, [], ◌∷◌, refl, ap, ◌∙◌, sym, subst}
use Rattle.std.specs.List.{list_all}
use Rattle.fc_values.specs.declared.names.Word.{Word}
use Rattle.fc_values.specs.declared.names.Word.TheVariants as word
use Rattle.fc_lexer.specs.declared.bytes.Class.TheVariants.{Letter}
use Rattle.fc_values.specs.Names.{is_name_byte}
use Rattle.fc_lexer.specs.Bytes.{begun_class, is_rest}
use Rattle.fc_lexer.specs.Kinds.{TokenKind, WordOf, token_kind_as, word_or_name_of}
use Rattle.fc_values.specs.Names.{spelling, word_of}
use Rattle.fc_lexer.specs.Apart.{Breaks, kind_as}
use Rattle.fc_parser.proofs.PrintedRuns.{InWord, Follows, Run, Inner, one_piece}

breaks_letter : (others text : List ℕ) → Follows InWord text → Breaks Letter others text
breaks_letter others [] h = tt
breaks_letter others (c ∷ text) h = h

-- letters, which are a word or a name
pub letters_run : (first : ℕ) (others : List ℕ) (k : TokenKind) → begun_class first ≡ Letter → list_all is_name_byte others ≡ true
    → word_or_name_of (first ∷ others) ≡ k → Run InWord (first ∷ others) (k ∷ [])
letters_run first others k c r e =
    one_piece InWord first others (k ∷ [])
    (ap (λ class. is_rest class others) c ∙ r)
    (λ text f. subst (λ class. Breaks class others text) (sym c) (breaks_letter others text f))
    (ap (λ class. kind_as (token_kind_as class (first ∷ others) others)) c ∙ ap (λ kind. kind ∷ []) e)

word_run : (first : ℕ) (others : List ℕ) (w : Word) → begun_class first ≡ Letter → list_all is_name_byte others ≡ true
    → word_or_name_of (first ∷ others) ≡ WordOf w → Inner InWord (first ∷ others) (WordOf w ∷ [])
word_run first others w c r e = record { run = letters_run first others (WordOf w) c r e; no_semi = refl }

-- a word as it is written
pub spelled : (w : Word) → Inner InWord (spelling w) (WordOf w ∷ [])
unfolding begun_class word_of
spelled word.Ceiling = word_run _ _ word.Ceiling refl refl refl
spelled word.Input = word_run _ _ word.Input refl refl refl
spelled word.Metric = word_run _ _ word.Metric refl refl refl
spelled word.Def = word_run _ _ word.Def refl refl refl
spelled word.Main = word_run _ _ word.Main refl refl refl
spelled word.Let = word_run _ _ word.Let refl refl refl
spelled word.In = word_run _ _ word.In refl refl refl
spelled word.If = word_run _ _ word.If refl refl refl
spelled word.Nbr = word_run _ _ word.Nbr refl refl refl
spelled word.Rep = word_run _ _ word.Rep refl refl refl
spelled word.Sense = word_run _ _ word.Sense refl refl refl
spelled word.Uid = word_run _ _ word.Uid refl refl refl
spelled word.NbrLink = word_run _ _ word.NbrLink refl refl refl
spelled word.Not = word_run _ _ word.Not refl refl refl
spelled word.And = word_run _ _ word.And refl refl refl
spelled word.Or = word_run _ _ word.Or refl refl refl
spelled word.True = word_run _ _ word.True refl refl refl
spelled word.False = word_run _ _ word.False refl refl refl
spelled word.Int = word_run _ _ word.Int refl refl refl
spelled word.Bool = word_run _ _ word.Bool refl refl refl
spelled word.Field = word_run _ _ word.Field refl refl refl
spelled word.Min = word_run _ _ word.Min refl refl refl
spelled word.Max = word_run _ _ word.Max refl refl refl
spelled word.Mux = word_run _ _ word.Mux refl refl refl
spelled word.Fst = word_run _ _ word.Fst refl refl refl
spelled word.Snd = word_run _ _ word.Snd refl refl refl
spelled word.MinHoodLoc = word_run _ _ word.MinHoodLoc refl refl refl
spelled word.MaxHoodLoc = word_run _ _ word.MaxHoodLoc refl refl refl
spelled word.SumHood = word_run _ _ word.SumHood refl refl refl
spelled word.AnyHood = word_run _ _ word.AnyHood refl refl refl
spelled word.AllHood = word_run _ _ word.AllHood refl refl refl
spelled word.Share = word_run _ _ word.Share refl refl refl
spelled word.Rise = word_run _ _ word.Rise refl refl refl
spelled word.Language = word_run _ _ word.Language refl refl refl
