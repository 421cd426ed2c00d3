-- Crates above cite this module: the parts of a book, its program and its rooms may cross threads. Each is shown from its
-- own parts, since a search that goes down through whole types runs out of steps, and finds no way through the recursive
-- types.
use denote.Param.Send.{IsSend, IsSync, sendable}
use Rattle.std.proofs.Crossing.{crosses, Box-send, Box-sync}
use Rattle.fc_values.specs.contracts.values.Local as Local
use Rattle.fc_values.specs.contracts.types.LocalTy as LocalTy
use Rattle.fc_values.specs.contracts.exports.Export as Export
use Rattle.fc_values.proofs.values.Local.TheLaws.TheKnot.{send-Local, sync-Local}
use Rattle.fc_values.proofs.types.LocalTy.TheLaws.TheKnot.{send-LocalTy, sync-LocalTy}
use Rattle.fc_values.specs.contracts.types.Declared as Declared
use Rattle.fc_nodes.specs.contracts.nodes.Op as Op
use Rattle.fc_nodes.specs.contracts.nodes.Node as Node
use Rattle.fc_nodes.specs.contracts.layouts.Layout as Layout
use Rattle.fc_nodes.specs.contracts.program.Unfolded as Unfolded
use Rattle.topology.specs.contracts.networks.Network as Network
use Rattle.value_trees.specs.contracts.published.Published as Published
use Rattle.value_trees.specs.contracts.copies.Snap as Snap
use Rattle.firing_core.specs.contracts.cores.Core as Core
use Rattle.firing_core.specs.contracts.entries.Entry as Entry
use Rattle.firing_core.specs.contracts.books.Book as Book

local_send : IsSend (Local.the_field).row
local_send = send-Local (search sendable) (search sendable) Box-send

local_sync : IsSync (Local.the_field).row
local_sync = sync-Local (search sendable) (search sendable) Box-sync

type_send : IsSend (LocalTy.the_field).row
type_send = send-LocalTy Box-send

type_sync : IsSync (LocalTy.the_field).row
type_sync = sync-LocalTy Box-sync

export_send : IsSend (Export.the_field).row
export_send = search (local_send, sendable, crosses) depth 40 fits 20000

export_sync : IsSync (Export.the_field).row
export_sync = search (local_sync, sendable, crosses) depth 40 fits 20000

declared_send : IsSend (Declared.the_field).row
declared_send = search (sendable, crosses) depth 40 fits 20000

declared_sync : IsSync (Declared.the_field).row
declared_sync = search (sendable, crosses) depth 40 fits 20000

op_send : IsSend (Op.the_field).row
op_send = search (local_send, sendable, crosses) depth 40 fits 20000

op_sync : IsSync (Op.the_field).row
op_sync = search (local_sync, sendable, crosses) depth 40 fits 20000

node_send : IsSend (Node.the_field).row
node_send = search (op_send, type_send, sendable, crosses) depth 40 fits 20000

node_sync : IsSync (Node.the_field).row
node_sync = search (op_sync, type_sync, sendable, crosses) depth 40 fits 20000

layout_send : IsSend (Layout.the_field).row
layout_send = search (local_send, sendable, crosses) depth 40 fits 20000

layout_sync : IsSync (Layout.the_field).row
layout_sync = search (local_sync, sendable, crosses) depth 40 fits 20000

pub unfolded_send : IsSend (Unfolded.the_field).row
unfolded_send = search (declared_send, node_send, layout_send, sendable, crosses) depth 40 fits 20000

pub unfolded_sync : IsSync (Unfolded.the_field).row
unfolded_sync = search (declared_sync, node_sync, layout_sync, sendable, crosses) depth 40 fits 20000

network_send : IsSend (Network.the_field).row
network_send = search (local_send, sendable, crosses) depth 40 fits 20000

network_sync : IsSync (Network.the_field).row
network_sync = search (local_sync, sendable, crosses) depth 40 fits 20000

published_send : IsSend (Published.the_field).row
published_send = search (export_send, export_sync, sendable, crosses) depth 40 fits 20000

published_sync : IsSync (Published.the_field).row
published_sync = search (export_send, export_sync, sendable, crosses) depth 40 fits 20000

snap_send : IsSend (Snap.the_field).row
snap_send = search (published_send, local_send, sendable, crosses) depth 40 fits 20000

snap_sync : IsSync (Snap.the_field).row
snap_sync = search (published_sync, local_sync, sendable, crosses) depth 40 fits 20000

pub entry_send : IsSend (Entry.the_field).row
entry_send = search (export_send, local_send, sendable, crosses) depth 40 fits 20000

entry_sync : IsSync (Entry.the_field).row
entry_sync = search (export_sync, local_sync, sendable, crosses) depth 40 fits 20000

core_send : IsSend (Core.the_field).row
core_send = search (unfolded_send, unfolded_sync, network_send, published_send, snap_send, sendable, crosses) depth 40 fits 20000

core_sync : IsSync (Core.the_field).row
core_sync = search (unfolded_send, unfolded_sync, network_sync, published_sync, snap_sync, sendable, crosses) depth 40 fits 20000

pub book_send : IsSend (Book.the_field).row
book_send = search (unfolded_send, unfolded_sync, core_send, entry_send, sendable, crosses) depth 40 fits 20000

pub book_sync : IsSync (Book.the_field).row
book_sync = search (unfolded_send, unfolded_sync, core_sync, entry_sync, sendable, crosses) depth 40 fits 20000
