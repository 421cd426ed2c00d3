-- What the earlier declarations have declared.
use Rattle.std.specs.Prelude.{ℕ, if◌then◌else◌, List, [], ◌∷◌, ◌++◌, Option, Some, None, bytes_eq}
use Rattle.fc_values.specs.Types.{ValueType, Input, Declarations}
use Rattle.fc_syntax.specs.Terms.{SourceTerm, Parameter, Declaration, LanguageIs, CeilingIs, InputIs, MetricIs, DefIs, MainIs}

-- a defined function: its name, its parameters, the type of its result, and its body
pub record Function : Type 0 where
  pub name : List ℕ
  pub params : List Parameter
  pub result : ValueType
  pub body : SourceTerm

-- the ceiling, the inputs and the functions in order, and the least and greatest of the metric where there is one
pub record Earlier : Type 0 where
  pub ceiling : ℕ
  pub inputs : List Input
  pub metric : Option (ℕ × ℕ)
  pub functions : List Function

-- before the first declaration
abbrev pub nothing_declared : Earlier
nothing_declared = record { ceiling = 0; inputs = []; metric = None; functions = [] }

-- after one more declaration
abbrev pub with_declaration : Earlier → Declaration → Earlier
with_declaration B (LanguageIs n) = B
with_declaration B (CeilingIs n) = record { ceiling = n; inputs = B.inputs; metric = B.metric; functions = B.functions }
with_declaration B (InputIs x t) =
    record {
      ceiling = B.ceiling;
      inputs = B.inputs ++ record { name = x; type = t }
          ∷ [];
      metric = B.metric;
      functions = B.functions;
    }
with_declaration B (MetricIs least greatest) =
    record { ceiling = B.ceiling; inputs = B.inputs; metric = Some (least, greatest); functions = B.functions }
with_declaration B (DefIs f params result body) =
    record {
      ceiling = B.ceiling;
      inputs = B.inputs;
      metric = B.metric;
      functions = B.functions
          ++ record { name = f; params = params; result = result; body = body } ∷ [];
    }
with_declaration B (MainIs e) = B

abbrev pub with_declarations : Earlier → List Declaration → Earlier
with_declarations B [] = B
with_declarations B (d ∷ ds) = with_declarations (with_declaration B d) ds

-- what a program declares; without a metric it is 1..1
abbrev pub metric_least : Option (ℕ × ℕ) → ℕ
metric_least None = 1
metric_least (Some m) = m.0

abbrev pub metric_greatest : Option (ℕ × ℕ) → ℕ
metric_greatest None = 1
metric_greatest (Some m) = m.1

abbrev pub declared_before : Earlier → Declarations
declared_before B =
    record {
      ceiling = B.ceiling;
      inputs = B.inputs;
      least = metric_least B.metric;
      greatest = metric_greatest B.metric;
    }

abbrev pub declared_by : List Declaration → Declarations
declared_by ds = declared_before (with_declarations nothing_declared ds)

-- the input, and the function, of a name
abbrev pub input_named : List ℕ → List Input → Option Input
input_named x [] = None
input_named x (i ∷ is) = if bytes_eq x i.name then Some i else input_named x is

abbrev pub function_named : List ℕ → List Function → Option Function
function_named x [] = None
function_named x (f ∷ fs) = if bytes_eq x f.name then Some f else function_named x fs

-- the parameters and binders in scope, each with its type, the nearest first
abbrev pub Scope : Type 0
Scope = List Parameter

abbrev pub with_variable : List ℕ → ValueType → Scope → Scope
with_variable x t scope = record { name = x; type = t } ∷ scope

-- the type of the nearest parameter or binder with a name
abbrev pub type_in : List ℕ → Scope → Option ValueType
type_in x [] = None
type_in x (p ∷ scope) = if bytes_eq x p.name then Some p.type else type_in x scope
