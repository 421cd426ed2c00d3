-- An input is cut into sections by the lines that are exactly `%%`.
use Rattle.std.specs.Prelude.{ℕ, ◌≡◌, ◌≢◌, ◌≤◌, Bool, cond, List, [], ◌∷◌, ◌++◌, length, codes}
use Rattle.std.specs.Str.{bytes_eq}
use Rattle.fc_io.specs.Lines.{lines_of, line_text}
use Rattle.command_frame.specs.declared.refusal.Refusal.TheVariants.{Sections}
use Rattle.command_frame.specs.Causes.{Cause, Plainly, Judged, Refused}

-- a line that separates sections
abbrev pub is_separator : List ℕ → Bool
is_separator line = bytes_eq (line_text line) (codes "%%")

-- more text before the first section
abbrev pub onto_section : List ℕ → List (List ℕ) → List (List ℕ)
onto_section text [] = text ∷ []
onto_section text (section ∷ sections) = (text ++ section) ∷ sections

-- the sections of a list of lines
abbrev pub sections_from : List (List ℕ) → List (List ℕ)
sections_from [] = [] ∷ []
sections_from (line ∷ lines) =
    cond (is_separator line) ([] ∷ sections_from lines) (onto_section line (sections_from lines))

-- the sections of an input: what stands between the lines that separate
abbrev pub sections_of : List ℕ → List (List ℕ)
sections_of input = sections_from (lines_of input)

-- no section is longer than this
abbrev pub AreWithin : ℕ → List (List ℕ) → Type 0
AreWithin most [] = Unit {0}
AreWithin most (section ∷ sections) = (length section ≤ most) × AreWithin most sections

-- the cause where a command takes another number of sections
abbrev pub other_section_count : List (List ℕ) → Cause
other_section_count sections = Plainly (Sections (length sections))

-- what a command that takes one section, two, or three, does with the sections of an input. Any other number is refused
abbrev pub WithOne : {A : Type 0} → (List ℕ → Judged A → Type 0) → List (List ℕ) → Judged A → Type 0
WithOne P (one ∷ []) j = P one j
WithOne P sections j = j ≡ Refused (other_section_count sections)

abbrev pub WithTwo : {A : Type 0} → (List ℕ → List ℕ → Judged A → Type 0) → List (List ℕ) → Judged A → Type 0
WithTwo P (one ∷ two ∷ []) j = P one two j
WithTwo P sections j = j ≡ Refused (other_section_count sections)

abbrev pub WithThree : {A : Type 0} → (List ℕ → List ℕ → List ℕ → Judged A → Type 0) → List (List ℕ) → Judged A
    → Type 0
WithThree P (one ∷ two ∷ three ∷ []) j = P one two three j
WithThree P sections j = j ≡ Refused (other_section_count sections)

-- sections of another number, and the cause that this is
abbrev pub IsOther : ℕ → List (List ℕ) → Cause → Type 0
IsOther takes sections cause = (length sections ≢ takes) × (cause ≡ other_section_count sections)

-- the law: no section is longer than its input
abbrev pub SectionsAreWithin : Type 0
SectionsAreWithin = (input : List ℕ) (most : ℕ) → length input ≤ most → AreWithin most (sections_of input)
