-- What a contract sees of the sources and sinks in memory.
use Rattle.std.specs.Prelude.{ℕ, List}

-- a source in memory
pub record SourceState : Type 0 where
  -- the bytes that are left
  pub left : List ℕ
  -- how many bytes a call gives at most
  pub most : ℕ
  -- the numbers of the calls that fail, where the first call is 1
  pub fails : List ℕ
  -- how many calls there were
  pub calls : ℕ
  -- how many of them failed
  pub faults : ℕ

-- a sink in memory
pub record SinkState : Type 0 where
  -- the bytes that were taken, in order
  pub taken : List ℕ
  -- how many bytes it takes in all
  pub room : ℕ
  -- how many bytes a call takes at most
  pub most : ℕ
  -- the numbers of the calls that fail, where the first call is 1
  pub fails : List ℕ
  -- how many calls there were
  pub calls : ℕ
  -- how many of them failed
  pub faults : ℕ

-- a sink in memory that fails only where its room is full
pub record CalmState : Type 0 where
  -- the bytes that were taken, in order
  pub taken : List ℕ
  -- how many bytes it takes in all
  pub room : ℕ
  -- how many calls failed
  pub faults : ℕ
