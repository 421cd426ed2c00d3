-- The programs that can be printed: those of the grammar's forms.
use Rattle.std.specs.Prelude.{ℕ, ◌+◌, ◌≤◌, ◌≡◌, Bool, true, false, List, [], ◌∷◌}
use Rattle.fc_values.specs.Names.{IsName}
use Rattle.fc_values.specs.declared.limits.TheConstants.{GREATEST}
use Rattle.fc_values.specs.declared.builtins.Builtin.{Builtin}
use Rattle.fc_values.specs.declared.builtins.Builtin.TheVariants as b
use Rattle.fc_values.specs.BuiltinTypes.{arity}
use Rattle.fc_values.specs.declared.types.InputTy.{InputTy}
use Rattle.fc_values.specs.declared.types.InputTy.TheVariants as input
use Rattle.fc_syntax.specs.Terms.{SourceTerm, IntTerm, TruthTerm, VarTerm, UidTerm, NbrLinkTerm, SenseTerm, ApplyTerm}
use Rattle.fc_syntax.specs.Terms.{NbrTerm, RepTerm, ShareTerm, IfTerm, LetTerm, CallTerm, SourceTerms, NoTerms, MoreTerms}
use Rattle.fc_syntax.specs.Terms.{Parameter, Declaration, LanguageIs, CeilingIs, InputIs, MetricIs, DefIs, MainIs}

-- a number that a program may have
abbrev pub IsNumber : ℕ → Type 0
IsNumber n = n ≤ GREATEST

-- how many expressions stand in a row
abbrev pub count : SourceTerms → ℕ
count NoTerms = 0
count (MoreTerms e es) = count es + 1

-- the builtins of a language, where the flag says whether it is language 2
abbrev pub IsOfLanguage : Bool → Builtin → Type 0
IsOfLanguage second b.Rise = second ≡ true
IsOfLanguage second _ = Unit {0}

-- an expression of the grammar of a language
abbrev mutual
  pub IsExpression : Bool → SourceTerm → Type 0
  IsExpression second (IntTerm n) = IsNumber n
  IsExpression second (TruthTerm b) = Unit {0}
  IsExpression second (VarTerm x) = IsName x
  IsExpression second UidTerm = Unit {0}
  IsExpression second NbrLinkTerm = Unit {0}
  IsExpression second (SenseTerm x) = IsName x
  IsExpression second (ApplyTerm b es) = IsOfLanguage second b × (count es ≡ arity b) × AreExpressions second es
  IsExpression second (NbrTerm e) = IsExpression second e
  IsExpression second (RepTerm e x b) = IsExpression second e × IsName x × IsExpression second b
  IsExpression second (ShareTerm e x b) = (second ≡ true) × IsExpression second e × IsName x × IsExpression second b
  IsExpression second (IfTerm c a b) = IsExpression second c × IsExpression second a × IsExpression second b
  IsExpression second (LetTerm x a b) = IsName x × IsExpression second a × IsExpression second b
  IsExpression second (CallTerm f es) = IsName f × AreExpressions second es

  pub AreExpressions : Bool → SourceTerms → Type 0
  AreExpressions second NoTerms = Unit {0}
  AreExpressions second (MoreTerms e es) = IsExpression second e × AreExpressions second es

abbrev pub IsInputType : InputTy → Type 0
IsInputType input.Truth = Unit {0}
IsInputType (input.Whole least greatest) = IsNumber least × IsNumber greatest

abbrev pub HaveNames : List Parameter → Type 0
HaveNames [] = Unit {0}
HaveNames (p ∷ ps) = IsName p.name × HaveNames ps

-- an input, a metric or a definition
abbrev pub IsInner : Bool → Declaration → Type 0
IsInner second (InputIs x t) = IsName x × IsInputType t
IsInner second (MetricIs least greatest) = IsNumber least × IsNumber greatest
IsInner second (DefIs f params result body) = IsName f × HaveNames params × IsExpression second body
IsInner second _ = ⊥

-- a `main`
abbrev pub IsMain : Bool → Declaration → Type 0
IsMain second (MainIs e) = IsExpression second e
IsMain second _ = ⊥

-- inputs, metrics and definitions, and then a `main` that ends them
abbrev pub EndWithMain : Bool → List Declaration → Type 0
EndWithMain second [] = ⊥
EndWithMain second (d ∷ []) = IsMain second d
EndWithMain second (d ∷ next ∷ ds) = IsInner second d × EndWithMain second (next ∷ ds)

-- a ceiling, and what may follow it
abbrev pub BeginWithCeiling : Bool → List Declaration → Type 0
BeginWithCeiling second (CeilingIs n ∷ ds) = IsNumber n × EndWithMain second ds
BeginWithCeiling second _ = ⊥

-- A program of the grammar: in its language's order, with numbers and names of the tokens, and with each builtin's
-- number of arguments.
abbrev pub IsPrintable : List Declaration → Type 0
IsPrintable (LanguageIs n ∷ ds) = (n ≡ 2) × BeginWithCeiling true ds
IsPrintable ds = BeginWithCeiling false ds
