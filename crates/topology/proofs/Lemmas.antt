-- Crates above cite this module: the neighbours and inputs of a device, what a change keeps, one device more or less.
pub use Rattle.topology.proofs.Neighbours.{IsNear, AllNear, AllAbove, near_split, near_apart, above_first, above_second, near_rises, near_fits, near_one, near_none, near_mutual, near_linked}
pub use Rattle.topology.proofs.Changed.{no_fault, CanLink, can_link, link_fits, linked_network, unlinked_network, set_none, input_network, CanJoin, can_join, joined_network, left_network}
pub use Rattle.topology.proofs.Lists.{map_insert}
pub use Rattle.topology.proofs.Devices.{in_at, at_in, input_none, inputs_fit, insert_in, insert_rises, drop_in, drop_gone, drop_length, put_numbers}
pub use Rattle.topology.proofs.NearEach.{map_remove, remove_device}
