-- What the code reads is what is read, with a pair in place of what is too wide.
use Rattle.std.proofs.Common.{ℕ, ◌≡◌, ◌+◌, ◌≤◌, ◌<◌, List, [], ◌∷◌, Bool, true, false, nat_le, map, refl, ap, ◌∙◌, Some, None, arith}
use Rattle.std.specs.Prelude.{Option, option_map, option_and_then, if◌then◌else◌, ◌==◌, codes}
use Rattle.std.specs.Str.{bytes_eq}
use Rattle.std.proofs.lemmas.Bool.Decides.{nat_tests}
use Rattle.fc_values.specs.Values.{LocalValue, IntValue, BoolValue, PairValue}
use Rattle.fc_values.specs.Numbers.{number_of}
use Rattle.edit_commands.specs.Values.{Since, Bytes, Closed, Reading, reading, part_since, opens, parts, closes, goes_on, read_byte, read_bytes, when_closed, whole_part, value_with, written_value, atom_of}
use Rattle.edit_commands.specs.Narrow.{leaves_in, stand_in, narrow, PartValue, SmallPart, WidePart, atom_part, pair_part, shown_part}

-- the part of a value
abbrev pub part : LocalValue → PartValue
part v = if nat_le (leaves_in v) 8 then SmallPart v (leaves_in v) else WidePart

pub some_leaf : (v : LocalValue) → 1 ≤ leaves_in v
some_leaf (IntValue n) = omega arith
some_leaf (BoolValue b) = omega arith
some_leaf (PairValue v w) = omega (arith, some_leaf v, some_leaf w)

shown_part-part : (v : LocalValue) → shown_part (part v) ≡ narrow v
shown_part-part v = by_test (nat_le (leaves_in v) 8)
  where
    by_test : (b : Bool) → shown_part (if b then SmallPart v (leaves_in v) else WidePart) ≡ (if b then v else stand_in)
    by_test true = refl
    by_test false = refl

-- a pair's part is made of the parts of its parts
pair-part : (v w : LocalValue) → pair_part (part v) (part w) ≡ part (PairValue v w)
pair-part v w = by_tests (nat_le (leaves_in v) 8) (nat_le (leaves_in w) 8) refl refl
  where
    off : (b : Bool) → nat_le (leaves_in v + leaves_in w) 8 ≡ b → b ≡ false → WidePart ≡ (if nat_le (leaves_in v + leaves_in w) 8 then SmallPart (PairValue v w) (leaves_in v + leaves_in w) else WidePart)
    off b e f = let g : nat_le (leaves_in v + leaves_in w) 8 ≡ false = e ∙ f in rw g refl

    by_tests : (a b : Bool) → nat_le (leaves_in v) 8 ≡ a → nat_le (leaves_in w) 8 ≡ b
        → pair_part (if a then SmallPart v (leaves_in v) else WidePart) (if b then SmallPart w (leaves_in w) else WidePart) ≡ part (PairValue v w)
    by_tests true true e f = refl
    by_tests true false e f =
        let q : 8 < leaves_in w = grind (arith, nat_tests) in
        off _ refl (grind (arith, nat_tests))
    by_tests false b e f =
        let q : 8 < leaves_in v = grind (arith, nat_tests) in
        off _ refl (grind (arith, nat_tests))

-- an atom has one leaf
atom-part : (text : List ℕ) → option_map atom_part (atom_of text) ≡ option_map part (atom_of text)
atom-part text = by_tests (bytes_eq text (codes "true")) (bytes_eq text (codes "false")) (number_of text)
  where
    by_tests : (a b : Bool) (n : Option ℕ)
        → option_map atom_part (if a then Some (BoolValue true) else if b then Some (BoolValue false) else option_map IntValue n)
        ≡ option_map part (if a then Some (BoolValue true) else if b then Some (BoolValue false) else option_map IntValue n)
    by_tests true b n = refl
    by_tests false true n = refl
    by_tests false false None = refl
    by_tests false false (Some n) = refl

abbrev same : LocalValue → LocalValue
same v = v

abbrev parts_since : Since LocalValue → Since PartValue
parts_since (Bytes bs) = Bytes bs
parts_since (Closed v) = Closed (part v)

abbrev parts_open : List (Option LocalValue) → List (Option PartValue)
parts_open os = map (option_map part) os

abbrev parts_reading : Reading LocalValue → Reading PartValue
parts_reading r = reading (parts_open r.open_pairs) (parts_since r.since)

since-part : (s : Since LocalValue) → part_since atom_part (parts_since s) ≡ option_map part (part_since same s)
since-part (Bytes bs) = atom-part bs ∙ by_cases (atom_of bs)
  where
    by_cases : (o : Option LocalValue) → option_map part o ≡ option_map part (option_map same o)
    by_cases None = refl
    by_cases (Some v) = refl
since-part (Closed v) = refl

opens-part : (os : List (Option LocalValue)) (s : Since LocalValue) → opens (parts_open os) (parts_since s) ≡ option_map parts_reading (opens os s)
opens-part os (Bytes []) = refl
opens-part os (Bytes (b ∷ bs)) = refl
opens-part os (Closed v) = refl

parts-part : (os : List (Option LocalValue)) (o : Option LocalValue) → parts (parts_open os) (option_map part o) ≡ option_map parts_reading (parts os o)
parts-part [] o = refl
parts-part (Some v ∷ os) o = refl
parts-part (None ∷ os) None = refl
parts-part (None ∷ os) (Some v) = refl

closes-part : (os : List (Option LocalValue)) (o : Option LocalValue) → closes pair_part (parts_open os) (option_map part o) ≡ option_map parts_reading (closes PairValue os o)
closes-part [] o = refl
closes-part (None ∷ os) o = refl
closes-part (Some v ∷ os) None = refl
closes-part (Some v ∷ os) (Some w) = ap (λ p. Some (reading (parts_open os) (Closed p))) (pair-part v w)

goes_on-part : (os : List (Option LocalValue)) (s : Since LocalValue) (b : ℕ) → goes_on (parts_open os) (parts_since s) b ≡ option_map parts_reading (goes_on os s b)
goes_on-part os (Bytes bs) b = refl
goes_on-part os (Closed v) b = refl

step-part : (r : Reading LocalValue) (b : ℕ) → read_byte atom_part pair_part (parts_reading r) b ≡ option_map parts_reading (read_byte same PairValue r b)
step-part r b = by_tests (b == 40) (b == 44) (b == 41)
  where
    by_tests : (x y z : Bool)
        → (if x then opens (parts_open r.open_pairs) (parts_since r.since) else
        if y then parts (parts_open r.open_pairs) (part_since atom_part (parts_since r.since)) else
        if z then closes pair_part (parts_open r.open_pairs) (part_since atom_part (parts_since r.since)) else goes_on (parts_open r.open_pairs) (parts_since r.since) b)
        ≡ option_map parts_reading
        (if x then opens r.open_pairs r.since else
        if y then parts r.open_pairs (part_since same r.since) else
        if z then closes PairValue r.open_pairs (part_since same r.since) else goes_on r.open_pairs r.since b)
    by_tests true y z = opens-part r.open_pairs r.since
    by_tests false true z = ap (parts (parts_open r.open_pairs)) (since-part r.since) ∙ parts-part r.open_pairs (part_since same r.since)
    by_tests false false true = ap (closes pair_part (parts_open r.open_pairs)) (since-part r.since) ∙ closes-part r.open_pairs (part_since same r.since)
    by_tests false false false = goes_on-part r.open_pairs r.since b

steps-part : (r : Reading LocalValue) (bs : List ℕ) → read_bytes atom_part pair_part (parts_reading r) bs ≡ option_map parts_reading (read_bytes same PairValue r bs)
steps-part r [] = refl
steps-part r (b ∷ bs) =
    ap (option_and_then (λ s. read_bytes atom_part pair_part s bs)) (step-part r b) ∙ after (read_byte same PairValue r b) (λ s. steps-part s bs)
  where
    after : (o : Option (Reading LocalValue)) → ((s : Reading LocalValue) → read_bytes atom_part pair_part (parts_reading s) bs ≡ option_map parts_reading (read_bytes same PairValue s bs))
        → option_and_then (λ s. read_bytes atom_part pair_part s bs) (option_map parts_reading o) ≡ option_map parts_reading (option_and_then (λ s. read_bytes same PairValue s bs) o)
    after None h = refl
    after (Some s) h = h s

whole-part : (r : Reading LocalValue) → whole_part atom_part (parts_reading r) ≡ option_map part (whole_part same r)
whole-part r = by_list r.open_pairs ∙ refl
  where
    by_list : (os : List (Option LocalValue)) → when_closed (parts_open os) (part_since atom_part (parts_since r.since)) ≡ option_map part (when_closed os (part_since same r.since))
    by_list [] = since-part r.since
    by_list (o ∷ os) = refl

value-part : (text : List ℕ) → value_with atom_part pair_part text ≡ option_map part (written_value text)
unfolding value_with
value-part text =
    ap (option_and_then (whole_part atom_part)) (steps-part (reading [] (Bytes [])) text) ∙ after (read_bytes same PairValue (reading [] (Bytes [])) text)
  where
    after : (o : Option (Reading LocalValue)) → option_and_then (whole_part atom_part) (option_map parts_reading o) ≡ option_map part (option_and_then (whole_part same) o)
    after None = refl
    after (Some s) = whole-part s

-- what is shown of the part of a text
pub shown_is_narrow : (text : List ℕ) → option_map shown_part (value_with atom_part pair_part text) ≡ option_map narrow (written_value text)
shown_is_narrow text = ap (option_map shown_part) (value-part text) ∙ after (written_value text)
  where
    after : (o : Option LocalValue) → option_map shown_part (option_map part o) ≡ option_map narrow o
    after None = refl
    after (Some v) = ap Some (shown_part-part v)
