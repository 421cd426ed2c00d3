-- The text of a value, and how it is read.
use Rattle.std.specs.Prelude.{ℕ, true, false, ◌≡◌, ◌↔◌, ◌==◌, ◌++◌, if◌then◌else◌, List, []}
use Rattle.std.specs.Prelude.{◌∷◌, Option, Some, None, option_map, option_and_then, codes}
use Rattle.std.specs.Str.{bytes_eq}
use Rattle.fc_values.specs.Values.{LocalValue, IntValue, BoolValue, PairValue}
use Rattle.fc_values.specs.Numbers.{number_of}

-- a number, `true` or `false`
abbrev pub atom_of : List ℕ → Option LocalValue
atom_of text =
    if bytes_eq text (codes "true") then Some (BoolValue true) else
    if bytes_eq text (codes "false") then Some (BoolValue false) else option_map IntValue (number_of text)

-- the text of a value: a number, a truth value, or `(v,w)` with the texts of two values
pub data IsValueText : List ℕ → LocalValue → Type 0 where
  AtomText : (text : List ℕ) (v : LocalValue) → atom_of text ≡ Some v → IsValueText text v
  PairText : (s t : List ℕ) (v w : LocalValue) → IsValueText s v → IsValueText t w
      → IsValueText (40 ∷ (s ++ 44 ∷ (t ++ 41 ∷ []))) (PairValue v w)

-- Reading goes from the front, byte by byte, with what an atom gives and what two parts of a pair give. It keeps the
-- brackets that are open, the innermost first, each with its first part where its comma has come, and what stands since
-- the last mark: some bytes, or a pair that was closed.
pub data Since (A : Type 0) : Type 0 where
  Bytes : List ℕ → Since A
  Closed : A → Since A

pub record Reading (A : Type 0) : Type 0 where
  pub open_pairs : List (Option A)
  pub since : Since A

abbrev pub reading : {A : Type 0} → List (Option A) → Since A → Reading A
reading os s = record { open_pairs = os; since = s }

abbrev pub part_since : {A : Type 0} → (LocalValue → A) → Since A → Option A
part_since atom (Bytes bs) = option_map atom (atom_of bs)
part_since atom (Closed x) = Some x

-- a bracket opens where nothing stands since the last mark
abbrev pub opens : {A : Type 0} → List (Option A) → Since A → Option (Reading A)
opens os (Bytes []) = Some (reading (None ∷ os) (Bytes []))
opens os (Bytes (b ∷ bs)) = None
opens os (Closed x) = None

-- a comma comes behind a first part
abbrev pub parts : {A : Type 0} → List (Option A) → Option A → Option (Reading A)
parts [] x = None
parts (Some x ∷ os) y = None
parts (None ∷ os) None = None
parts (None ∷ os) (Some x) = Some (reading (Some x ∷ os) (Bytes []))

-- a bracket closes behind a second part
abbrev pub closes : {A : Type 0} → (A → A → A) → List (Option A) → Option A → Option (Reading A)
closes both [] y = None
closes both (None ∷ os) y = None
closes both (Some x ∷ os) None = None
closes both (Some x ∷ os) (Some y) = Some (reading os (Closed (both x y)))

-- any other byte goes on with an atom
abbrev pub goes_on : {A : Type 0} → List (Option A) → Since A → ℕ → Option (Reading A)
goes_on os (Bytes bs) b = Some (reading os (Bytes (bs ++ b ∷ [])))
goes_on os (Closed x) b = None

abbrev pub read_byte : {A : Type 0} → (LocalValue → A) → (A → A → A) → Reading A → ℕ → Option (Reading A)
read_byte atom both r b =
    if b == 40 then opens r.open_pairs r.since else
    if b == 44 then parts r.open_pairs (part_since atom r.since) else
    if b == 41 then closes both r.open_pairs (part_since atom r.since) else goes_on r.open_pairs r.since b

abbrev pub read_bytes : {A : Type 0} → (LocalValue → A) → (A → A → A) → Reading A → List ℕ → Option (Reading A)
read_bytes atom both r [] = Some r
read_bytes atom both r (b ∷ bs) = option_and_then (λ s. read_bytes atom both s bs) (read_byte atom both r b)

-- what is read where no bracket is open at the end
abbrev pub when_closed : {A : Type 0} → List (Option A) → Option A → Option A
when_closed [] x = x
when_closed (o ∷ os) x = None

abbrev pub whole_part : {A : Type 0} → (LocalValue → A) → Reading A → Option A
whole_part atom r = when_closed r.open_pairs (part_since atom r.since)

unfoldable pub value_with : {A : Type 0} → (LocalValue → A) → (A → A → A) → List ℕ → Option A
value_with atom both text = option_and_then (whole_part atom) (read_bytes atom both (reading [] (Bytes [])) text)

-- the value that a text writes, if it writes one
abbrev pub written_value : List ℕ → Option LocalValue
written_value text = value_with (λ v. v) PairValue text

-- so values are read from exactly their texts
abbrev pub ValuesAreRead : Type 0
ValuesAreRead = (text : List ℕ) (v : LocalValue) → (written_value text ≡ Some v) ↔ IsValueText text v
