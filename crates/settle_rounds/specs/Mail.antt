-- What is reached over message links after so many rounds.
use Rattle.std.specs.Prelude.{ℕ, true, ◌≡◌, ◌≤◌, List, Some}
use Rattle.fc_values.specs.Values.{LocalValue}
use Rattle.fc_values.specs.Trees.{TreeExport}
use Rattle.fc_nodes.specs.Program.{Program, Unfolding, unfolding_of, IsProgram}
use Rattle.topology.specs.Networks.{Network, IsNetwork, Lives}
use Rattle.message_links.specs.MailCores.{MailCore, MailEntryValue, MailRun, IsMailStart}
use Rattle.message_links.specs.MailRounds.{posts_of, HasMailRounds}
use Rattle.value_bounds.specs.BoundValues.{value_left}
use Rattle.settle_rounds.specs.Rounds.{bounds_after, is_reached}

-- from every mail core on a network from which a log may start, every mail log with so many rounds leads to an export
-- of the device with this value
abbrev pub MailReachedAt : Unfolding → Network → ℕ → ℕ → LocalValue → Type 0
MailReachedAt U N k d v = (start last : MailCore) (log : List MailEntryValue) → IsMailStart U start → start.core.net ≡ N
    → MailRun U 0 start log last → HasMailRounds N 0 (posts_of start) log k
    → (e : TreeExport) × (last.core.exports d ≡ Some e) × (e.value ≡ v)

abbrev pub BoundsReachMail : Type 0
BoundsReachMail = (P : Program) (N : Network) → IsProgram P → IsNetwork N → N.declared ≡ P.declared → (k d : ℕ)
    → Lives N d → is_reached (bounds_after (unfolding_of P) N k d) ≡ true → (m : ℕ) → k ≤ m
    → MailReachedAt (unfolding_of P) N m d (value_left (bounds_after (unfolding_of P) N k d).value)
