-- Bounds from which rounds are counted, of a core in code that is the start of a scene.
use Rattle.std.proofs.Common.{ℕ, ◌≡◌, List, subst}
use Rattle.fc_nodes.specs.Program.{Program, unfolding_of}
use Rattle.firing_core.specs.CoreViews.{CoreValue, core_of, program_of}
use Rattle.firing_core.specs.Cores.{Core}
use Rattle.bound_firing.specs.declared.firing.ExportBound.{ExportBound as FlatBound}
use Rattle.envelopes.specs.Envelopes.{Envelope}
use Rattle.settle_rounds.specs.References.{StartBounds}
use Rattle.net_json.specs.Scenes.{SceneValue}
use Rattle.command_frame.specs.Starts.{start_of}

pub from_start : (P : Program) (s : SceneValue) (E : Envelope) (core : CoreValue) (most : ℕ) (xs : List FlatBound)
    → core.program ≡ P → core_of core ≡ start_of s → StartBounds (program_of core) E core.net most (core_of core) xs
    → StartBounds (unfolding_of P) E s.net most (start_of s) xs
from_start P s E core most xs program starts h =
    subst (λ (c : Core). StartBounds (unfolding_of P) E c.net most c xs) starts
    (subst (λ (Q : Program). StartBounds (unfolding_of Q) E core.net most (core_of core) xs) program h)
