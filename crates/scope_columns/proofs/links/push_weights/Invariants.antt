use Rattle.std.proofs.Common.{◌≡◌, ◌++◌, drop}
use Rattle.alignment.specs.References.{nears_of}
use Rattle.scope_columns.specs.Words.{weights_of}
use Rattle.scope_columns.proofs.links.push_weights.Given as goal

abbrev pub invariant-loop-n : goal.invariant-loop-n
invariant-loop-n l =
    l.words.items ++ weights_of (nears_of (drop l.n-index l.near))
    ≡ l.initial.words.items ++ weights_of (nears_of l.near)
