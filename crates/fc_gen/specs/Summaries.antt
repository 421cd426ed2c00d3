-- The summary of a scenario that has run.
use Rattle.std.specs.Prelude.{ℕ, Bool, true, false, ◌-◌, ◌&&◌, nat_eq, List, [], ◌∷◌, ◌++◌, take, drop, codes}
use Rattle.std.specs.Prelude.{Option, Some, None, option_map, count_by, sum_by}
use Rattle.std.specs.Fmt.{decimal}
use Rattle.fc_values.specs.Fields.{Entries}
use Rattle.fc_values.specs.Values.{LocalValue, IntValue, BoolValue, PairValue, compare_truths, is_equal}
use Rattle.fc_nodes.specs.declared.verdicts.Verdict.TheVariants as verdict
use Rattle.topology.specs.Networks.{NetDevice}
use Rattle.firing_core.specs.declared.entries.Part.{Part}
use Rattle.firing_core.specs.Cores.{Core}
use Rattle.firing_core.specs.Entries.{EntryValue, BeginEntry, EndEntry, IdleEntry, EditEntry}
use Rattle.report.specs.Texts.{export_value}
use Rattle.report.specs.Verdicts.{verdict_text}

-- ---- firings: those that end in the part of the log that the line `run` has made
abbrev pub is_end : EntryValue → Bool
is_end (BeginEntry d) = false
is_end (EndEntry d) = true
is_end IdleEntry = false
is_end (EditEntry e) = false

-- the entries of a part of a log
abbrev pub entries_of_part : List EntryValue → Part → List EntryValue
entries_of_part log p = take (p.to - p.from) (drop p.from log)

abbrev pub firings_in : List EntryValue → List Part → ℕ
firings_in log [] = 0
firings_in log (p ∷ ps) = count_by is_end (entries_of_part log p)

-- ---- devices: those whose export has the value of a field
abbrev pub same_value : LocalValue → LocalValue → Bool
same_value (IntValue a) (IntValue b) = nat_eq a b
same_value (BoolValue a) (BoolValue b) = is_equal (compare_truths a b)
same_value (PairValue a b) (PairValue c d) = same_value a c && same_value b d
same_value _ _ = false

-- the value of a device's export
abbrev pub held_in : Core → ℕ → Option LocalValue
held_in core d = option_map export_value (core.exports d)

abbrev pub is_held : Option LocalValue → LocalValue → Bool
is_held None v = false
is_held (Some w) v = same_value w v

-- whether a device's export has the value of an entry of a field
abbrev pub agrees : Core → ℕ × LocalValue → Bool
agrees core e = is_held (held_in core e.0) e.1

abbrev pub agreeing : Core → Entries → ℕ
agreeing core field = count_by (agrees core) field

-- ---- values: the sum of the integers that devices hold
abbrev pub integer_of : LocalValue → ℕ
integer_of (IntValue n) = n
integer_of _ = 0

abbrev pub integer_in : Option LocalValue → ℕ
integer_in None = 0
integer_in (Some v) = integer_of v

abbrev pub held_integer : Core → NetDevice → ℕ
held_integer core d = integer_in (held_in core d.id)

abbrev pub held_sum : Core → ℕ
held_sum core = sum_by (held_integer core) core.net.devices

-- ---- the text
abbrev pub count_line : List ℕ → ℕ → List ℕ
count_line name count = name ++ codes " " ++ decimal count ++ codes "\n"

-- the number, the devices, the verdict's line, and how many firings ended, how many devices agree, and the sum
abbrev pub summary_text : ℕ → ℕ → ℕ → ℕ → ℕ → ℕ → List ℕ
summary_text number devices rounds firings agree sum =
    count_line (codes "number") number ++ count_line (codes "devices") devices
    ++ codes "verdict " ++ verdict_text (verdict.Yes rounds) ++ count_line (codes "firings") firings
    ++ count_line (codes "agree") agree ++ count_line (codes "sum") sum
