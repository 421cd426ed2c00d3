-- Typed programs.
use Rattle.std.specs.Prelude.{◌≡◌, ◌<◌, ◌^◌, length}
use Rattle.fc_values.specs.Types.{Declarations}
use Rattle.fc_syntax.specs.declared.tree.Program.{Program}
use Rattle.fc_syntax.specs.Terms.{program_of}
use Rattle.fc_syntax.specs.Printable.{IsPrintable}
use Rattle.fc_types.specs.Before.{declared_by}
use Rattle.fc_types.specs.Typing.{IsTyped}

-- what contracts see of a typed program: the program, and what it declares
pub record TypedProgram : Type 0 where
  pub program : Program
  pub declared : Declarations

-- the program is typed and can be printed, it has fewer than 2^32 declarations, and it declares these
pub record IsTypedProgram (p : TypedProgram) : Type 0 where
  pub typed : IsTyped (program_of p.program)
  pub printable : IsPrintable (program_of p.program)
  pub few : length p.program.decls.items < 2 ^ 32
  pub declared : p.declared ≡ declared_by (program_of p.program)
