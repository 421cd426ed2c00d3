-- Values that are too wide for every type of a program: they are not kept, since nothing asks what is in them.
use Rattle.std.specs.Prelude.{ℕ, ◌+◌, ◌<◌, ◌≤◌, nat_le, if◌then◌else◌, List, [], ◌∷◌, map, reverse}
use Rattle.std.specs.Prelude.{Option, option_map, MatchOption, slice_index, slice_range, ◌≡◌, length}
use Rattle.fc_values.specs.Values.{LocalValue, IntValue, BoolValue, PairValue, local_of}
use Rattle.topology.specs.Networks.{NetDevice}
use Rattle.edit_commands.specs.declared.values.TheConstants.{MOST_LEAVES}
use Rattle.edit_commands.specs.declared.values.ValuePart.{ValuePart}
use Rattle.edit_commands.specs.declared.values.ValuePart.TheVariants as part
use Rattle.edit_commands.specs.declared.values.Since.{Since as SinceCode}
use Rattle.edit_commands.specs.declared.values.Since.TheVariants as since
use Rattle.edit_commands.specs.Values.{Since, Bytes, Closed, Reading, reading, opens, parts, closes, goes_on, read_byte}
use Rattle.edit_commands.specs.EditLines.{EditLine, LinkLine, UnlinkLine, SetLine, PokeLine, JoinLine, LeaveLine, device_with}

-- the whole numbers and truth values in a value
abbrev pub leaves_in : LocalValue → ℕ
leaves_in (IntValue n) = 1
leaves_in (BoolValue b) = 1
leaves_in (PairValue v w) = leaves_in v + leaves_in w

-- a pair that fits no type of a program, since its integers are above every ceiling
abbrev pub stand_in : LocalValue
stand_in = PairValue (IntValue 4294967295) (IntValue 4294967295)

-- No type has more leaves than these. A wider value fits none, and a pair stands for it that fits none either.
abbrev pub narrow : LocalValue → LocalValue
narrow v = if nat_le (leaves_in v) MOST_LEAVES then v else stand_in

abbrev pub narrow_device : NetDevice → NetDevice
narrow_device x = device_with x.id (map narrow x.inputs)

abbrev pub narrow_line : EditLine → EditLine
narrow_line (LinkLine a b w) = LinkLine a b w
narrow_line (UnlinkLine a b) = UnlinkLine a b
narrow_line (SetLine d i v) = SetLine d i (narrow v)
narrow_line (PokeLine d v ks) = PokeLine d (narrow v) (map narrow ks)
narrow_line (JoinLine x) = JoinLine (narrow_device x)
narrow_line (LeaveLine d) = LeaveLine d

-- a value with its leaves, or one with more than any type has
pub data PartValue : Type 0 where
  SmallPart : LocalValue → ℕ → PartValue
  WidePart : PartValue

abbrev pub atom_part : LocalValue → PartValue
atom_part v = SmallPart v 1

abbrev pub pair_part : PartValue → PartValue → PartValue
pair_part WidePart q = WidePart
pair_part (SmallPart v m) WidePart = WidePart
pair_part (SmallPart v m) (SmallPart w n) =
    if nat_le (m + n) MOST_LEAVES then SmallPart (PairValue v w) (m + n) else WidePart

-- what is shown of a part
abbrev pub shown_part : PartValue → LocalValue
shown_part (SmallPart v n) = v
shown_part WidePart = stand_in

-- ---- the code's parts

abbrev pub part_of : ValuePart → PartValue
part_of (part.Small v n) = SmallPart (local_of v) n
part_of part.Wide = WidePart

-- the open pairs, of which the code has the innermost last
unfoldable pub open_of : List (Option ValuePart) → List (Option PartValue)
open_of ps = reverse (map (option_map part_of) ps)

-- the last bracket that is open is taken, if one is
abbrev pub half_of : Option ValuePart → Option PartValue
half_of p = option_map part_of p

abbrev pub TakesHalf : List (Option ValuePart) → List (Option ValuePart) → Option (Option ValuePart) → Type 0
TakesHalf old new taken = MatchOption taken (open_of old ≡ []) (λ p. open_of old ≡ half_of p ∷ open_of new)

-- what stands since the last mark, in a text up to an index
abbrev pub since_of : List ℕ → ℕ → SinceCode → Since PartValue
since_of text i (since.Bytes start) = Bytes (slice_range text start i)
since_of text i (since.Closed p) = Closed (part_of p)

-- it begins at the index or before
abbrev pub StandsBefore : ℕ → SinceCode → Type 0
StandsBefore i (since.Bytes start) = start ≤ i
StandsBefore i (since.Closed p) = Unit {0}

abbrev pub reading_of : List ℕ → ℕ → List (Option ValuePart) → SinceCode → Reading PartValue
reading_of text i ps s = reading (open_of ps) (since_of text i s)

-- what is read of a text before an index
abbrev pub ReadsTo : ℕ → List (Option ValuePart) → Option SinceCode → (List ℕ → Option (Reading PartValue)) → Type 0
ReadsTo i ps o next = (text : List ℕ) → i ≤ length text → option_map (reading_of text i ps) o ≡ next text

-- what is read of a text before an index and a byte: a bracket that opens, a comma, a bracket that closes, or any other
abbrev pub ReadsOpening : ℕ → SinceCode → List (Option ValuePart) → List (Option ValuePart) → Option SinceCode → Type 0
ReadsOpening i s old new o = ReadsTo (i + 1) new o (λ text. opens (open_of old) (since_of text i s))

abbrev pub ReadsComma : ℕ → Option ValuePart → List (Option ValuePart) → List (Option ValuePart) → Option SinceCode
    → Type 0
ReadsComma i p old new o = ReadsTo (i + 1) new o (λ text. parts (open_of old) (half_of p))

abbrev pub ReadsClosing : Option ValuePart → List (Option ValuePart) → List (Option ValuePart) → Option ValuePart
    → Type 0
ReadsClosing p old new o =
    option_map (λ q. reading (open_of new) (Closed (part_of q))) o ≡ closes pair_part (open_of old) (half_of p)

abbrev pub ReadsOther : ℕ → SinceCode → Option SinceCode → Type 0
ReadsOther i s o =
    (os : List (Option PartValue)) (text : List ℕ) → i < length text
    → option_map (λ t. reading os (since_of text (i + 1) t)) o ≡ goes_on os (since_of text i s) (slice_index text i)

abbrev pub ReadsByte : List ℕ → ℕ → SinceCode → List (Option ValuePart) → List (Option ValuePart) → Option SinceCode
    → Type 0
ReadsByte text i s old new o =
    option_map (reading_of text (i + 1) new) o
    ≡ read_byte atom_part pair_part (reading_of text i old s) (slice_index text i)
