use Rattle.std.proofs.Common.{◌≡◌, [], drop}
use Rattle.edit_commands.specs.Values.{read_bytes, reading, Bytes}
use Rattle.edit_commands.specs.Narrow.{atom_part, pair_part, reading_of, StandsBefore}
use Rattle.edit_commands.proofs.values.part_of.Given as goal

abbrev pub invariant-loop-at : goal.invariant-loop-at
invariant-loop-at l =
    (read_bytes atom_part pair_part (reading [] (Bytes [])) l.text ≡ read_bytes atom_part pair_part (reading_of l.text l.at l.halves.items l.since) (drop l.at l.text))
    × StandsBefore l.at l.since
