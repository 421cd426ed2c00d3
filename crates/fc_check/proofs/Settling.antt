-- What a scene settles to: something, and one thing.
use Rattle.std.proofs.Common.{ℕ, ◌≡◌, Bool, false, List, length, Option, refl, ap, ◌∙◌, sym, subst}
use Rattle.fc_values.specs.Values.{LocalValue}
use Rattle.fc_nodes.specs.Program.{IsProgram, Program, Unfolding, unfolding_of}
use Rattle.topology.specs.Networks.{IsNetwork}
use Rattle.firing_core.specs.CoreViews.{CoreValue, core_of, program_of}
use Rattle.firing_core.specs.Cores.{Core, IsGood}
use Rattle.envelopes.specs.Exactly.{exact_envelope}
use Rattle.envelopes.proofs.Exact.{exact_is, exact_may_live}
use Rattle.bound_rounds.specs.Rounds.{BoundTable}
use Rattle.settle_rounds.specs.References.{IsSettledFrom}
use Rattle.settle_rounds.specs.Rounds.{any_table}
use Rattle.settle_rounds.specs.Starts.{growing_cap}
use Rattle.settle_rounds.specs.Within.{OneStartWithin, StartsHoldWithin}
use Rattle.net_json.specs.Scenes.{SceneValue}
use Rattle.command_words.specs.declared.commands.Start.{Start}
use Rattle.command_words.specs.declared.commands.Start.TheVariants.{Any, Table}
use Rattle.command_frame.specs.Agreement.{Agree}
use Rattle.command_frame.specs.Answers.{AnswerValue}
use Rattle.command_frame.specs.Causes.{Judged, Accepted}
use Rattle.command_frame.specs.Starts.{start_of}
use Rattle.command_frame.proofs.Agreeing.{both_plain}
use Rattle.fc_check.specs.Settles.{SettlesScene, StartsFrom}
use Rattle.fc_check.proofs.SameRounds.{settling_same}
use Rattle.fc_check.proofs.SameRounds.{Agree as TablesAgree}

-- ---- one thing
tables_agree : OneStartWithin → (U : Unfolding) (s : SceneValue) → IsNetwork s.net → (from : Start) (a b : BoundTable)
    → StartsFrom from U s a → StartsFrom from U s b → TablesAgree s.net a b
tables_agree start U s net Any a b h g d lives = ap (λ (t : BoundTable). t d) (h ∙ sym g)
tables_agree start U s net Table a b h g d lives =
    start U (exact_envelope s.net) s.net (exact_is s.net net) (growing_cap (length s.net.devices)) (start_of s) a b h g
    d (exact_may_live s.net d lives)

pub one_scene : OneStartWithin → (facts : Bool) (from : Start) (U : Unfolding) (s : SceneValue) → IsNetwork s.net
    → (j k : Judged AnswerValue) → SettlesScene facts from U s j → SettlesScene facts from U s k → Agree false j k
one_scene start facts from U s net j k h g =
    let agree = tables_agree start U s net from h.table g.table h.starts g.starts in
    both_plain false j k _ _
    (h.settled ∙ ap Accepted (settling_same facts U s.net net h.table g.table agree)) g.settled

-- ---- something
pub some_table : StartsHoldWithin → (P : Program) → IsProgram P → (s : SceneValue) → IsGood (unfolding_of P) (start_of s)
    → (from : Start) → (table : BoundTable) × StartsFrom from (unfolding_of P) s table
some_table starts P is s good Any = (any_table (unfolding_of P), refl)
some_table starts P is s good Table =
    (starts P (exact_envelope s.net) is (start_of s) good (growing_cap (length s.net.devices))).some

-- ---- what the code does
-- what settles from a core
abbrev IsSettledOn : Unfolding → Core → ℕ → List (Option (ℕ × LocalValue)) → Type 0
IsSettledOn U c cap os =
    IsSettledFrom U (exact_envelope c.net) c.net (growing_cap (length c.net.devices)) cap c os

-- and from one in code that is the start of a scene
pub from_start : (P : Program) (s : SceneValue) (core : CoreValue) (cap : ℕ) (os : List (Option (ℕ × LocalValue)))
    → core.program ≡ P → core_of core ≡ start_of s
    → IsSettledOn (program_of core) (core_of core) cap os → IsSettledOn (unfolding_of P) (start_of s) cap os
from_start P s core cap os program starts h =
    subst (λ (c : Core). IsSettledOn (unfolding_of P) c cap os) starts
    (subst (λ (Q : Program). IsSettledOn (unfolding_of Q) (core_of core) cap os) program h)
