-- What the walk over `rep` and `share` finds.
use Rattle.std.specs.Prelude.{ℕ, ◌≡◌, List, [], ◌∷◌, ◌++◌, Some, None}
use Rattle.fc_nodes.specs.Terms.{term_at}
use Rattle.fc_nodes.specs.Program.{Program, unfolding_of}
use Rattle.interval_facts.specs.Ranges.{range_of}
use Rattle.fragment_check.specs.declared.kinds.Pattern.{Pattern}
use Rattle.fragment_check.specs.declared.faults.PatternFault.{PatternFault}
use Rattle.fragment_check.specs.declared.faults.PatternFault.TheVariants as fault
use Rattle.fragment_check.specs.Patterns.{JudgedPlace, judged, first_refused, patterns_in}

-- what is said of the `rep` and `share` in the term at a place, and in terms one after another
abbrev pub judged_at : Program → ℕ → List JudgedPlace
judged_at P p = judged P.declared.ceiling (range_of (unfolding_of P)) p (term_at P.nodes p)

abbrev pub judged_at_all : Program → List ℕ → List JudgedPlace
judged_at_all P [] = []
judged_at_all P (k ∷ ks) = judged_at P k ++ judged_at_all P ks

-- each has a pattern, and these are added
abbrev pub Finds : List JudgedPlace → List (ℕ × Pattern) → List (ℕ × Pattern) → Type 0
Finds js old new = (first_refused js ≡ None) × (new ≡ old ++ patterns_in js)

-- the fault is the first one without a pattern, or want of memory
abbrev pub Refuses : List JudgedPlace → PatternFault → Type 0
Refuses js (fault.Refused p why) = first_refused js ≡ Some (p, why)
Refuses js fault.Memory = Unit {0}
