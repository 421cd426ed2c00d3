-- The lines of facts: what each node of a program is, with its type, its range and its level.
use Rattle.std.specs.Prelude.{ℕ, zero, suc, List, [], ◌++◌, Option, None, Some, codes, slice_index_or as get_or}
use Rattle.std.specs.Fmt.{decimal}
use Rattle.fc_values.specs.declared.builtins.Builtin.{Builtin}
use Rattle.fc_values.specs.declared.builtins.Builtin.TheVariants as op
use Rattle.fc_values.specs.Types.{ValueType}
use Rattle.fc_syntax.specs.Text.{builtin_word, type_text}
use Rattle.fc_nodes.specs.Terms.{Leaf, Literal, Variable, Sense, Uid, NbrLink, ByRep, ByShare, Term, Plain, Apply, Nbr, Evolve, If, Let, term_type, size, Sort, OfLeaf, OfApply, OfNbr, OfEvolve, OfIf, OfLet}
use Rattle.fc_nodes.specs.Subterms.{subterm_at}
use Rattle.fc_nodes.specs.Program.{Unfolding}
use Rattle.interval_facts.specs.Ranges.{RangeValue, IntRange, BoolRange, PairRange}
use Rattle.report.specs.Texts.{value_text}

abbrev pub leaf_text : Leaf → List ℕ
leaf_text (Literal v) = value_text v
leaf_text (Variable n) = codes "var " ++ decimal n
leaf_text (Sense i) = codes "sense " ++ decimal i
leaf_text Uid = codes "uid"
leaf_text NbrLink = codes "nbrLink"

-- the mark or word of a builtin; in the text of a program a pair has none
abbrev pub mark_text : Builtin → List ℕ
mark_text op.Pair = codes "pair"
mark_text builtin = builtin_word builtin

-- what the root of a term is
abbrev pub root_sort : Term → Sort
root_sort (Plain t l) = OfLeaf l
root_sort (Apply t o xs) = OfApply o
root_sort (Nbr t a) = OfNbr
root_sort (Evolve t e a b) = OfEvolve e
root_sort (If t c a b) = OfIf
root_sort (Let t a b) = OfLet

abbrev pub sort_text : Sort → List ℕ
sort_text (OfLeaf l) = leaf_text l
sort_text (OfApply builtin) = mark_text builtin
sort_text OfNbr = codes "nbr"
sort_text (OfEvolve ByRep) = codes "rep"
sort_text (OfEvolve ByShare) = codes "share"
sort_text OfIf = codes "if"
sort_text OfLet = codes "let"

-- a range: the ends of integers, `-` for truth values, and one for each component of a pair
abbrev pub range_text : RangeValue → List ℕ
range_text (IntRange least greatest) = decimal least ++ codes ".." ++ decimal greatest
range_text BoolRange = codes "-"
range_text (PairRange r s) = codes "(" ++ range_text r ++ codes "," ++ range_text s ++ codes ")"

-- a level: `-` where there is none
abbrev pub level_text : Option ℕ → List ℕ
level_text None = codes "-"
level_text (Some level) = decimal level

-- a node at a place: the place, what the node is, and its type
abbrev pub node_text : ℕ → Sort → ValueType → List ℕ
node_text place s t = decimal place ++ codes " " ++ sort_text s ++ codes " " ++ type_text t

-- the line of the node at the root of a term: behind it its range and its level
abbrev pub fact_line : ℕ → Term → RangeValue → Option ℕ → List ℕ
fact_line place u range level =
    node_text place (root_sort u) (term_type u)
    ++ codes " " ++ range_text range ++ codes " " ++ level_text level ++ codes "\n"

abbrev pub fact_at : Unfolding → List RangeValue → List (Option ℕ) → ℕ → List ℕ
fact_at U ranges levels place =
    fact_line place (subterm_at place U.main) (get_or ranges place BoolRange) (get_or levels place None)

-- the lines of the nodes before a place
abbrev pub facts_before : Unfolding → List RangeValue → List (Option ℕ) → ℕ → List ℕ
facts_before U ranges levels zero = []
facts_before U ranges levels (suc place) = facts_before U ranges levels place ++ fact_at U ranges levels place

-- a line for each node, by their places
abbrev pub facts_text : Unfolding → List RangeValue → List (Option ℕ) → List ℕ
facts_text U ranges levels = facts_before U ranges levels (size U.main)
