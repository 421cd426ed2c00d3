-- The words of faults.
use Rattle.std.specs.Prelude.{ℕ, List, codes}
use Rattle.fc_types.specs.declared.faults.TypeKind.{TypeKind}
use Rattle.fc_types.specs.declared.faults.TypeKind.TheVariants as kind
use Rattle.topology.specs.declared.types.NetFault.{NetFault}
use Rattle.topology.specs.declared.types.NetFault.TheVariants as net
use Rattle.command_frame.specs.declared.refusal.LineFault.{LineFault}
use Rattle.command_frame.specs.declared.refusal.LineFault.TheVariants.{Form, Net, Kept, Flying, NotFlying, Empty}

-- the word of a fault of typing
abbrev pub kind_word : TypeKind → List ℕ
kind_word kind.Range = codes "range"
kind_word kind.Twice = codes "twice"
kind_word kind.Unknown = codes "unknown"
kind_word kind.Literal = codes "literal"
kind_word kind.Count = codes "count"
kind_word kind.Mismatch = codes "mismatch"
kind_word kind.NotLocal = codes "not-local"
kind_word kind.Result = codes "result"
kind_word kind.Wide = codes "wide"

-- the word of a network's refusal. `degree` and `devices` are never written, since they are limits
abbrev pub net_word : NetFault → List ℕ
net_word net.Twice = codes "twice"
net_word net.NoDevice = codes "no-device"
net_word net.SelfLink = codes "self-link"
net_word net.Degree = codes "degree"
net_word net.Weight = codes "weight"
net_word net.NoLink = codes "no-link"
net_word net.NoInput = codes "no-input"
net_word net.InputType = codes "input-type"
net_word net.InputRange = codes "input-range"
net_word net.Devices = codes "devices"
net_word net.InFlight = codes "in-flight"
net_word net.Last = codes "last"

-- the word of a fault of a line: no line of its kind of text, a network's refusal, a kept list that no export has, a
-- begin of a device in flight, an end of one that isn't, and a message that isn't there
abbrev pub line_word : LineFault → List ℕ
line_word Form = codes "form"
line_word (Net fault) = net_word fault
line_word Kept = codes "kept"
line_word Flying = codes "flying"
line_word NotFlying = codes "not-flying"
line_word Empty = codes "empty"
