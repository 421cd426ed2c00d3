-- The texts that loops write: numbers, and walks.
use Rattle.std.proofs.Common.{ℕ, List}
use Rattle.walks.specs.declared.types.Evidence.{Evidence}
use Rattle.walks.specs.Walks.{claim_of}
use Rattle.fc_trace.specs.Texts.{walks_text}

-- the text of walks in code
abbrev pub claim_text : List Evidence → List ℕ
claim_text es = walks_text (claim_of es)
