-- The grammar, as relations between the kinds of tokens and what they spell.
--
--   local  = int | bool | ( local , local )
--   type   = local | field local
--   expr   = let NAME = expr in expr | disj
--   disj   = conj { or conj }                 left to right
--   conj   = comp { and comp }                left to right
--   comp   = sum [ ( < | = ) sum ]
--   sum    = prod { ( + | - ) prod }          left to right
--   prod   = unary { * unary }                left to right
--   unary  = not unary | atom
--
-- The levels from `disj` to `unary` are the strengths 1 to 6 of the canonical text, and an atom has the strength 7.
use Rattle.std.specs.Prelude.{ℕ, suc, ◌≡◌, Bool, true, false, List, [], ◌∷◌, ◌++◌, Option, Some, None}
use Rattle.fc_values.specs.declared.builtins.Builtin.{Builtin}
use Rattle.fc_values.specs.declared.builtins.Builtin.TheVariants as b
use Rattle.fc_values.specs.declared.types.InputTy.TheVariants as input
use Rattle.fc_values.specs.Types.{LocalType, IntType, BoolType, PairType, ValueType, TypeLocal, TypeField}
use Rattle.fc_lexer.specs.declared.tokens.Mark.TheVariants as mark
use Rattle.fc_values.specs.declared.names.Word.{Word}
use Rattle.fc_values.specs.declared.names.Word.TheVariants as word
use Rattle.fc_lexer.specs.Kinds.{TokenKind, NumberOf, WordOf, NameOf, MarkOf}
use Rattle.fc_syntax.specs.Terms.{SourceTerm, IntTerm, TruthTerm, VarTerm, UidTerm, NbrLinkTerm, SenseTerm, ApplyTerm}
use Rattle.fc_syntax.specs.Terms.{NbrTerm, RepTerm, ShareTerm, IfTerm, LetTerm, CallTerm, SourceTerms, NoTerms, MoreTerms}
use Rattle.fc_syntax.specs.Terms.{Parameter, Declaration, LanguageIs, CeilingIs, InputIs, MetricIs, DefIs, MainIs}
use Rattle.fc_syntax.specs.Text.{builtin_strength, left_asks}
use Rattle.fc_values.specs.BuiltinTypes.{arity}
use Rattle.fc_syntax.specs.Printable.{IsNumber, IsOfLanguage, count}

-- the builtin that stands between two operands
abbrev pub operator : TokenKind → Option Builtin
operator (WordOf word.Or) = Some b.Or
operator (WordOf word.And) = Some b.And
operator (MarkOf mark.Less) = Some b.Less
operator (MarkOf mark.Is) = Some b.Equal
operator (MarkOf mark.Plus) = Some b.Add
operator (MarkOf mark.Minus) = Some b.Sub
operator (MarkOf mark.Star) = Some b.Mul
operator _ = None

-- the builtin that stands before its arguments in brackets
abbrev pub named : Word → Option Builtin
named word.Min = Some b.Min
named word.Max = Some b.Max
named word.Mux = Some b.Mux
named word.Fst = Some b.Fst
named word.Snd = Some b.Snd
named word.MinHoodLoc = Some b.MinHoodLoc
named word.MaxHoodLoc = Some b.MaxHoodLoc
named word.SumHood = Some b.SumHood
named word.AnyHood = Some b.AnyHood
named word.AllHood = Some b.AllHood
named word.Rise = Some b.Rise
named _ = None

-- one expression, and two
abbrev pub one : SourceTerm → SourceTerms
one e = MoreTerms e NoTerms

abbrev pub two : SourceTerm → SourceTerm → SourceTerms
two e f = MoreTerms e (MoreTerms f NoTerms)

-- The expressions of a language; the flag says whether it is language 2.
mutual
  -- expr
  pub data Expression (second : Bool) : List TokenKind → SourceTerm → Type 0 where
    binding : (x : List ℕ) (ts us : List TokenKind) (e f : SourceTerm) → Expression second ts e → Expression second us f
        → Expression second (WordOf word.Let ∷ NameOf x ∷ MarkOf mark.Is
        ∷ (ts ++ (WordOf word.In ∷ us))) (LetTerm x e f)
    operation : (ts : List TokenKind) (e : SourceTerm) → Operation second 1 ts e → Expression second ts e

  -- An expression at a place that asks this strength: disj 1, conj 2, comp 3, sum 4, prod 5, unary 6, atom 7. What
  -- stands left of an operator may be of the operator's own strength, but at a comparison it is stronger.
  pub data Operation (second : Bool) : ℕ → List TokenKind → SourceTerm → Type 0 where
    between : (n : ℕ) (k : TokenKind) (o : Builtin) (ts us : List TokenKind) (e f : SourceTerm) → operator k ≡ Some o
        → builtin_strength o ≡ n
        → Operation second (left_asks n) ts e → Operation second (suc n) us f
        → Operation second n (ts ++ (k ∷ us)) (ApplyTerm o (two e f))
    negation : (n : ℕ) (ts : List TokenKind) (e : SourceTerm) → n ≡ 6 → Operation second n ts e
        → Operation second n (WordOf word.Not ∷ ts) (ApplyTerm b.Not (one e))
    stronger : (n : ℕ) (ts : List TokenKind) (e : SourceTerm) → Operation second (suc n) ts e → Operation second n ts e
    atom : (n : ℕ) (ts : List TokenKind) (e : SourceTerm) → n ≡ 7 → Atom second ts e → Operation second n ts e

  pub data Atom (second : Bool) : List TokenKind → SourceTerm → Type 0 where
    number : (n : ℕ) → IsNumber n → Atom second (NumberOf n ∷ []) (IntTerm n)
    yes : Atom second (WordOf word.True ∷ []) (TruthTerm true)
    no : Atom second (WordOf word.False ∷ []) (TruthTerm false)
    uid : Atom second (WordOf word.Uid ∷ []) UidTerm
    nbr_link : Atom second (WordOf word.NbrLink ∷ []) NbrLinkTerm
    variable : (x : List ℕ) → Atom second (NameOf x ∷ []) (VarTerm x)
    sense : (x : List ℕ) → Atom second (WordOf word.Sense ∷ NameOf x ∷ []) (SenseTerm x)
    -- f ( [ expr { , expr } ] )
    call : (f : List ℕ) (ts : List TokenKind) (es : SourceTerms) → Arguments second ts es
        → Atom second (NameOf f ∷ MarkOf mark.OpenRound ∷ (ts ++ (MarkOf mark.CloseRound ∷ []))) (CallTerm f es)
    -- a builtin's word, and as many arguments as it has
    builtin : (w : Word) (o : Builtin) (ts : List TokenKind) (es : SourceTerms) → named w ≡ Some o
        → IsOfLanguage second o
        → count es ≡ arity o → Arguments second ts es
        → Atom second (WordOf w ∷ MarkOf mark.OpenRound ∷ (ts ++ (MarkOf mark.CloseRound ∷ []))) (ApplyTerm o es)
    -- nbr { expr }
    nbr : (ts : List TokenKind) (e : SourceTerm) → Expression second ts e
        → Atom second (WordOf word.Nbr ∷ MarkOf mark.OpenCurly ∷ (ts ++ (MarkOf mark.CloseCurly ∷ []))) (NbrTerm e)
    -- rep ( expr ) { ( NAME ) => expr }
    rep : (x : List ℕ) (ts us : List TokenKind) (e f : SourceTerm) → Expression second ts e → Expression second us f
        → Atom second (WordOf word.Rep ∷ MarkOf mark.OpenRound
        ∷ (ts ++ (MarkOf mark.CloseRound ∷ MarkOf mark.OpenCurly ∷ MarkOf mark.OpenRound ∷ NameOf x
        ∷ MarkOf mark.CloseRound ∷ MarkOf mark.Arrow ∷ (us ++ (MarkOf mark.CloseCurly ∷ []))))) (RepTerm e x f)
    -- share ( expr ) { ( NAME ) => expr }
    share : (x : List ℕ) (ts us : List TokenKind) (e f : SourceTerm) → second ≡ true → Expression second ts e
        → Expression second us f
        → Atom second (WordOf word.Share ∷ MarkOf mark.OpenRound
        ∷ (ts ++ (MarkOf mark.CloseRound ∷ MarkOf mark.OpenCurly ∷ MarkOf mark.OpenRound ∷ NameOf x
        ∷ MarkOf mark.CloseRound ∷ MarkOf mark.Arrow ∷ (us ++ (MarkOf mark.CloseCurly ∷ []))))) (ShareTerm e x f)
    -- if ( expr ) { expr } { expr }
    choice : (ts us vs : List TokenKind) (c e f : SourceTerm) → Expression second ts c → Expression second us e
        → Expression second vs f
        → Atom second (WordOf word.If ∷ MarkOf mark.OpenRound
        ∷ (ts ++ (MarkOf mark.CloseRound ∷ MarkOf mark.OpenCurly
        ∷ (us ++ (MarkOf mark.CloseCurly ∷ MarkOf mark.OpenCurly
        ∷ (vs ++ (MarkOf mark.CloseCurly ∷ []))))))) (IfTerm c e f)
    -- ( expr ), which leaves no trace
    bracket : (ts : List TokenKind) (e : SourceTerm) → Expression second ts e
        → Atom second (MarkOf mark.OpenRound ∷ (ts ++ (MarkOf mark.CloseRound ∷ []))) e
    -- ( expr , expr )
    pair : (ts us : List TokenKind) (e f : SourceTerm) → Expression second ts e → Expression second us f
        → Atom second (MarkOf mark.OpenRound
        ∷ (ts ++ (MarkOf mark.Comma ∷ (us ++ (MarkOf mark.CloseRound ∷ []))))) (ApplyTerm b.Pair (two e f))

  -- [ expr { , expr } ]
  pub data Arguments (second : Bool) : List TokenKind → SourceTerms → Type 0 where
    none : Arguments second [] NoTerms
    some : (ts us : List TokenKind) (e : SourceTerm) (es : SourceTerms) → Expression second ts e
        → MoreArguments second us es
        → Arguments second (ts ++ us) (MoreTerms e es)

  -- { , expr }
  pub data MoreArguments (second : Bool) : List TokenKind → SourceTerms → Type 0 where
    no_more : MoreArguments second [] NoTerms
    more : (ts us : List TokenKind) (e : SourceTerm) (es : SourceTerms) → Expression second ts e
        → MoreArguments second us es
        → MoreArguments second (MarkOf mark.Comma ∷ (ts ++ us)) (MoreTerms e es)

-- local
pub data LocalIs : List TokenKind → LocalType → Type 0 where
  int_type : LocalIs (WordOf word.Int ∷ []) IntType
  bool_type : LocalIs (WordOf word.Bool ∷ []) BoolType
  pair_type : (ts us : List TokenKind) (s t : LocalType) → LocalIs ts s → LocalIs us t
      → LocalIs (MarkOf mark.OpenRound
      ∷ (ts ++ (MarkOf mark.Comma ∷ (us ++ (MarkOf mark.CloseRound ∷ []))))) (PairType s t)

-- type
pub data TypeIs : List TokenKind → ValueType → Type 0 where
  local_type : (ts : List TokenKind) (t : LocalType) → LocalIs ts t → TypeIs ts (TypeLocal t)
  field_type : (ts : List TokenKind) (t : LocalType) → LocalIs ts t → TypeIs (WordOf word.Field ∷ ts) (TypeField t)

-- NAME : type
pub data ParameterIs : List TokenKind → Parameter → Type 0 where
  parameter : (x : List ℕ) (ts : List TokenKind) (t : ValueType) → TypeIs ts t
      → ParameterIs (NameOf x ∷ MarkOf mark.Colon ∷ ts) (record { name = x; type = t })

-- { , NAME : type }
pub data MoreParametersAre : List TokenKind → List Parameter → Type 0 where
  no_more : MoreParametersAre [] []
  more : (ts us : List TokenKind) (p : Parameter) (ps : List Parameter) → ParameterIs ts p → MoreParametersAre us ps
      → MoreParametersAre (MarkOf mark.Comma ∷ (ts ++ us)) (p ∷ ps)

-- [ NAME : type { , NAME : type } ]
pub data ParametersAre : List TokenKind → List Parameter → Type 0 where
  none : ParametersAre [] []
  some : (ts us : List TokenKind) (p : Parameter) (ps : List Parameter) → ParameterIs ts p → MoreParametersAre us ps
      → ParametersAre (ts ++ us) (p ∷ ps)

-- a declaration with its `;`
pub data DeclarationIs (second : Bool) : List TokenKind → Declaration → Type 0 where
  -- language 2 ;
  language : DeclarationIs second (WordOf word.Language ∷ NumberOf 2 ∷ MarkOf mark.Semi ∷ []) (LanguageIs 2)
  -- ceiling NUMBER ;
  ceiling : (n : ℕ) → IsNumber n
      → DeclarationIs second (WordOf word.Ceiling ∷ NumberOf n ∷ MarkOf mark.Semi ∷ []) (CeilingIs n)
  -- input NAME : bool ;
  truth_input : (x : List ℕ)
      → DeclarationIs second (WordOf word.Input ∷ NameOf x ∷ MarkOf mark.Colon ∷ WordOf word.Bool ∷ MarkOf mark.Semi
      ∷ []) (InputIs x input.Truth)
  -- input NAME : int NUMBER .. NUMBER ;
  whole_input : (x : List ℕ) (least greatest : ℕ) → IsNumber least → IsNumber greatest
      → DeclarationIs second (WordOf word.Input ∷ NameOf x ∷ MarkOf mark.Colon ∷ WordOf word.Int ∷ NumberOf least
      ∷ MarkOf mark.Dots ∷ NumberOf greatest ∷ MarkOf mark.Semi ∷ []) (InputIs x (input.Whole least greatest))
  -- metric NUMBER .. NUMBER ;
  metric : (least greatest : ℕ) → IsNumber least → IsNumber greatest
      → DeclarationIs second (WordOf word.Metric ∷ NumberOf least ∷ MarkOf mark.Dots ∷ NumberOf greatest
      ∷ MarkOf mark.Semi ∷ []) (MetricIs least greatest)
  -- def NAME ( parameters ) : type = expr ;
  definition : (f : List ℕ) (ts us vs : List TokenKind) (ps : List Parameter) (t : ValueType) (e : SourceTerm)
      → ParametersAre ts ps → TypeIs us t → Expression second vs e
      → DeclarationIs second (WordOf word.Def ∷ NameOf f ∷ MarkOf mark.OpenRound
      ∷ (ts ++ (MarkOf mark.CloseRound ∷ MarkOf mark.Colon
      ∷ (us ++ (MarkOf mark.Is ∷ (vs ++ (MarkOf mark.Semi ∷ []))))))) (DefIs f ps t e)
  -- main = expr ;
  main : (ts : List TokenKind) (e : SourceTerm) → Expression second ts e
      → DeclarationIs second (WordOf word.Main ∷ MarkOf mark.Is ∷ (ts ++ (MarkOf mark.Semi ∷ []))) (MainIs e)
