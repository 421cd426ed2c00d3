-- Programs, without where they lie in memory.
use Rattle.std.specs.Prelude.{ℕ, Bool, List, [], ◌∷◌, map}
use Rattle.fc_values.specs.declared.builtins.Builtin.{Builtin}
use Rattle.fc_values.specs.declared.types.InputTy.{InputTy}
use Rattle.fc_values.specs.Types.{ValueType, type_of}
use Rattle.fc_syntax.specs.declared.tree.Expr.{Expr, fold-Expr}
use Rattle.fc_syntax.specs.declared.tree.Expr.TheOpen.{Expr-F}
use Rattle.fc_syntax.specs.declared.tree.Param.{Param}
use Rattle.fc_syntax.specs.declared.tree.Decl.{Decl}
use Rattle.fc_syntax.specs.declared.tree.Decl.TheVariants as decl
use Rattle.fc_syntax.specs.declared.tree.Program.{Program}

-- an expression, whose names are lists of bytes, and the expressions in a row that it holds
mutual
  pub data SourceTerm : Type 0 where
    IntTerm : ℕ → SourceTerm
    TruthTerm : Bool → SourceTerm
    VarTerm : List ℕ → SourceTerm
    UidTerm : SourceTerm
    NbrLinkTerm : SourceTerm
    SenseTerm : List ℕ → SourceTerm
    ApplyTerm : Builtin → SourceTerms → SourceTerm
    NbrTerm : SourceTerm → SourceTerm
    RepTerm : SourceTerm → List ℕ → SourceTerm → SourceTerm
    ShareTerm : SourceTerm → List ℕ → SourceTerm → SourceTerm
    IfTerm : SourceTerm → SourceTerm → SourceTerm → SourceTerm
    LetTerm : List ℕ → SourceTerm → SourceTerm → SourceTerm
    CallTerm : List ℕ → SourceTerms → SourceTerm

  pub data SourceTerms : Type 0 where
    NoTerms : SourceTerms
    MoreTerms : SourceTerm → SourceTerms → SourceTerms

-- expressions in a row, from a list
abbrev pub terms : List SourceTerm → SourceTerms
terms [] = NoTerms
terms (e ∷ es) = MoreTerms e (terms es)

abbrev pub term_step : Expr-F SourceTerm → SourceTerm
term_step (Expr-F.Int n) = IntTerm n
term_step (Expr-F.Truth b) = TruthTerm b
term_step (Expr-F.Var x) = VarTerm x.text.items
term_step Expr-F.Uid = UidTerm
term_step Expr-F.NbrLink = NbrLinkTerm
term_step (Expr-F.Sense x) = SenseTerm x.text.items
term_step (Expr-F.Apply b args) = ApplyTerm b (terms args.items)
term_step (Expr-F.Nbr e) = NbrTerm e.value
term_step (Expr-F.Rep e x b) = RepTerm e.value x.text.items b.value
term_step (Expr-F.Share e x b) = ShareTerm e.value x.text.items b.value
term_step (Expr-F.If c a b) = IfTerm c.value a.value b.value
term_step (Expr-F.Let x a b) = LetTerm x.text.items a.value b.value
term_step (Expr-F.Call f args) = CallTerm f.text.items (terms args.items)

-- the expression that a tree is
abbrev pub term_of : Expr → SourceTerm
term_of = fold-Expr SourceTerm term_step

-- a parameter: its name and its type
pub record Parameter : Type 0 where
  pub name : List ℕ
  pub type : ValueType

abbrev pub parameter_of : Param → Parameter
parameter_of p = record { name = p.name.text.items; type = type_of p.ty }

-- a declaration; a program is a list of them
pub data Declaration : Type 0 where
  LanguageIs : ℕ → Declaration
  CeilingIs : ℕ → Declaration
  InputIs : List ℕ → InputTy → Declaration
  MetricIs : ℕ → ℕ → Declaration
  DefIs : List ℕ → List Parameter → ValueType → SourceTerm → Declaration
  MainIs : SourceTerm → Declaration

abbrev pub declaration_of : Decl → Declaration
declaration_of (decl.Language n) = LanguageIs n
declaration_of (decl.Ceiling n) = CeilingIs n
declaration_of (decl.Input x t) = InputIs x.text.items t
declaration_of (decl.Metric least greatest) = MetricIs least greatest
declaration_of (decl.Def name params result body) =
    DefIs name.text.items (map parameter_of params.items) (type_of result) (term_of body)
declaration_of (decl.Main e) = MainIs (term_of e)

-- the declarations of a program, in order
abbrev pub program_of : Program → List Declaration
program_of p = map declaration_of p.decls.items
