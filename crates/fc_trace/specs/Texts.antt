-- The text of walks: for each device its number, its value and the devices of its walk, one space between.
use Rattle.std.specs.Prelude.{ℕ, List, ◌++◌, codes, flat_map}
use Rattle.std.specs.Fmt.{decimal}
use Rattle.walks.specs.Walks.{EvidenceValue}

abbrev pub number_after_space : ℕ → List ℕ
number_after_space n = codes " " ++ decimal n

abbrev pub numbers_after : List ℕ → List ℕ
numbers_after ns = flat_map number_after_space ns

abbrev pub walk_line : EvidenceValue → List ℕ
walk_line e = decimal e.device ++ number_after_space e.value ++ numbers_after e.walk ++ codes "\n"

abbrev pub walks_text : List EvidenceValue → List ℕ
walks_text es = flat_map walk_line es
