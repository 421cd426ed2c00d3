-- Crates above cite this module: a shared table, passes to it and what else workers share may cross threads. Each is
-- shown from its own parts, since a search that goes down through whole types runs out of steps.
use denote.Param.Send.{IsSend, IsSync, sendable}
use Rattle.std.proofs.Crossing.{crosses}
use Rattle.std.specs.contracts.sync.Arc as Arc
use Rattle.std.specs.contracts.alloc.Global as Global
use Rattle.std.specs.contracts.impls.GlobalAllocator.TheImpl as allocates
use Rattle.fc_nodes.specs.contracts.program.Unfolded as Unfolded
use Rattle.firing_core.proofs.Crosses.{unfolded_send, unfolded_sync, book_send, entry_send}
use Rattle.turn_lock.proofs.lock.TurnLock.TheSendSync.{the_sync as lock_sync}
use Rattle.turn_lock.proofs.lock.Pass.TheSendSync.{the_send as send_of_pass}
use Rattle.turn_lock.specs.contracts.lock.Pass as Pass
use Rattle.export_table.specs.contracts.held.HeldLogged.TheImpl.{ghosts}
use Rattle.export_table.specs.contracts.item.Item as Item
use Rattle.export_table.specs.contracts.held.Held as Held
use Rattle.export_table.specs.contracts.shared.Shared as Shared

item_send : IsSend (Item.the_field).row
item_send = search (entry_send, sendable, crosses) depth 40 fits 20000

held_send : IsSend (Held.the_field).row
held_send = search (book_send, sendable, crosses) depth 40 fits 20000

pub shared_sync : IsSync Shared.the_row
shared_sync = search (lock_sync, held_send, sendable, crosses) depth 40 fits 20000

pub pass_send : IsSend (Pass.the_row Held.the_row Item.the_row ghosts)
pass_send = search (send_of_pass, held_send, item_send, sendable, crosses) depth 40 fits 20000

pub program_sync : IsSync (Arc.the_row Unfolded.the_row Global.the_row allocates.ghosts)
program_sync = search (unfolded_send, unfolded_sync, sendable, crosses) depth 40 fits 20000

pub alloc_sync : IsSync Global.the_row
alloc_sync = search (sendable, crosses) depth 40 fits 20000
