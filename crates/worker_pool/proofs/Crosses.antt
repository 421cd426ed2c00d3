-- A room that is kept and an edit with its firing may cross threads, and what workers share may be used by several. Each
-- is shown from its parts, since a search that goes down through whole types runs out of steps.
use denote.Param.Send.{IsSend, IsSync, sendable}
use denote.Param.SendFields.{declared_sync}
use denote.RattleType.{RattleType}
use denote.Ref.{NamedLft}
use Rattle.std.proofs.Crossing.{crosses, Box-send, Box-sync}
use Rattle.std.specs.contracts.option.Option as Option
use Rattle.fc_values.specs.contracts.values.Local as Local
use Rattle.fc_values.specs.contracts.exports.Export as Export
use Rattle.fc_values.proofs.values.Local.TheLaws.TheKnot.{send-Local, sync-Local}
use Rattle.value_trees.specs.contracts.published.Published as Published
use Rattle.value_trees.specs.contracts.copies.Snap as Snap
use Rattle.firing_core.specs.contracts.rooms.Room as Room
use Rattle.export_table.proofs.Crosses.{alloc_sync, program_sync, shared_sync}
use Rattle.firing_core.specs.contracts.entries.Edit as Edit
use Rattle.export_table.specs.contracts.firing.Firing as Firing
use Rattle.worker_pool.specs.contracts.bell.Bell as Bell
use Rattle.worker_pool.specs.contracts.mixes.Mix as Mix
use Rattle.worker_pool.specs.contracts.crews.Crew as Crew

local_send : IsSend (Local.the_field).row
local_send = send-Local (search sendable) (search sendable) Box-send

local_sync : IsSync (Local.the_field).row
local_sync = sync-Local (search sendable) (search sendable) Box-sync

export_send : IsSend (Export.the_field).row
export_send = search (local_send, sendable, crosses) depth 40 fits 20000

export_sync : IsSync (Export.the_field).row
export_sync = search (local_sync, sendable, crosses) depth 40 fits 20000

published_send : IsSend (Published.the_field).row
published_send = search (export_send, export_sync, sendable, crosses) depth 40 fits 20000

snap_send : IsSend (Snap.the_field).row
snap_send = search (published_send, local_send, sendable, crosses) depth 40 fits 20000

room_send : IsSend Room.the_row
room_send = search (snap_send, sendable, crosses) depth 40 fits 20000

pub rooms_send : IsSend (Option.the_row Room.the_row)
rooms_send = search (room_send, sendable, crosses) depth 40 fits 20000

firing_send : IsSend (Firing.the_field).row
firing_send = search (snap_send, sendable, crosses) depth 40 fits 20000

edit_send : IsSend (Edit.the_field).row
edit_send = search (export_send, local_send, sendable, crosses) depth 40 fits 20000

mix_send : IsSend Mix.the_row
mix_send = search (firing_send, edit_send, sendable, crosses) depth 40 fits 20000

pub mixes_send : IsSend (Option.the_row Mix.the_row)
mixes_send = search (mix_send, sendable, crosses) depth 40 fits 20000

bell_sync : IsSync Bell.the_row
bell_sync = search (sendable, crosses) depth 40 fits 20000

pub crew_sync : (ℓ : NamedLft) (G : RattleType) → IsSync G → IsSync (Crew.the_row ℓ G)
crew_sync ℓ G gate = declared_sync (Crew.the_type ℓ G) (
  alloc_sync,
  (
    shared_sync,
    (
      program_sync,
      (
        bell_sync,
        (
          search sendable,
          (
            search sendable,
            (search (sendable, crosses), (search (gate, sendable), tt)),
          ),
        ),
      ),
    ),
  ),
)
