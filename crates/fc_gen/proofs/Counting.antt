-- Counts: of equal logs, of values that are the same, and of entries that all pass.
use Rattle.std.proofs.Common.{ℕ, suc, ◌≡◌, ◌+◌, Bool, true, false, ◌&&◌, cond, Some, nat_eq, List, [], ◌∷◌, length, map, refl, sym, ap, ap₂, ◌∙◌, arith}
use Rattle.std.specs.Prelude.{count_by, sum_by}
use Rattle.std.proofs.lemmas.Bool.Decides.{nat_tests}
use Rattle.std.proofs.lemmas.List.Sums.{sum_by-cons}
use Rattle.fc_nodes.specs.Program.{Unfolding}
use Rattle.fc_values.proofs.Booleans.{or_true}
use Rattle.fc_values.specs.Fields.{is_in}
use Rattle.topology.specs.Networks.{NetDevice, numbers}
use Rattle.firing_core.specs.Cores.{Core}
use Rattle.fc_values.specs.Values.{LocalValue, IntValue, BoolValue, PairValue, compare_truths, is_equal}
use Rattle.firing_core.specs.Entries.{EntryValue, BeginEntry, EndEntry, IdleEntry, EditEntry}
use Rattle.edit_commands.specs.Agreement.{SameEntry, SameEntries}
use Rattle.fc_gen.specs.Summaries.{agrees, held_in, held_integer, integer_in, integer_of, is_end, is_held, same_value}

same_end : (U : Unfolding) (e f : EntryValue) → SameEntry U e f → is_end e ≡ is_end f
same_end U (BeginEntry d) f h = ap is_end (sym h)
same_end U (EndEntry d) f h = ap is_end (sym h)
same_end U IdleEntry f h = ap is_end (sym h)
same_end U (EditEntry e) (EditEntry f) h = refl
same_end U (EditEntry e) (BeginEntry d) h = absurd h
same_end U (EditEntry e) (EndEntry d) h = absurd h
same_end U (EditEntry e) IdleEntry h = absurd h

-- logs that agree end as many firings
pub same_ends : (U : Unfolding) (es fs : List EntryValue) → SameEntries U es fs → count_by is_end es ≡ count_by is_end fs
same_ends U [] [] h = refl
same_ends U [] (f ∷ fs) h = absurd h
same_ends U (e ∷ es) [] h = absurd h
same_ends U (e ∷ es) (f ∷ fs) h =
    sum_by-cons _ e es ∙ ap₂ (λ b n. cond b 1 0 + n) (same_end U e f h.0) (same_ends U es fs h.1) ∙ sym (sum_by-cons _ f fs)

-- a value is the same as itself
same_truth : (b : Bool) → is_equal (compare_truths b b) ≡ true
same_truth true = refl
same_truth false = refl

both : (a b : Bool) → a ≡ true → b ≡ true → (a && b) ≡ true
both true b e h = h
both false b e h = e

pub same_itself : (v : LocalValue) → same_value v v ≡ true
same_itself (IntValue n) = grind (arith, nat_tests)
same_itself (BoolValue b) = same_truth b
same_itself (PairValue a b) = both (same_value a a) (same_value b b) (same_itself a) (same_itself b)

-- ---- what devices of a list hold
abbrev pub EachHolds : Core → (ℕ → LocalValue) → List ℕ → Type 0
EachHolds core F ds = (d : ℕ) → is_in d ds ≡ true → held_in core d ≡ Some (F d)

pub first_in : (d : ℕ) (ds : List ℕ) → is_in d (d ∷ ds) ≡ true
first_in d ds = let here : nat_eq d d ≡ true = grind (arith, nat_tests) in rw here refl

rest_hold : (core : Core) (F : ℕ → LocalValue) (d : ℕ) (ds : List ℕ) → EachHolds core F (d ∷ ds) → EachHolds core F ds
rest_hold core F d ds h e i = h e (or_true (nat_eq e d) (is_in e ds) i)

-- where each holds the value of a field, all agree with it
pub all_agree : (core : Core) (F : ℕ → LocalValue) (ds : List ℕ) → EachHolds core F ds
    → count_by (agrees core) (map (λ (d : ℕ). (d, F d)) ds) ≡ length ds
all_agree core F [] h = refl
all_agree core F (d ∷ ds) h =
    let here : agrees core (d, F d) ≡ true = ap (λ o. is_held o (F d)) (h d (first_in d ds)) ∙ same_itself (F d) in
    sum_by-cons _ (d, F d) (map (λ (d : ℕ). (d, F d)) ds)
    ∙ ap₂ (λ b n. cond b 1 0 + n) here (all_agree core F ds (rest_hold core F d ds h)) ∙ add_one (length ds)
  where
    add_one : (n : ℕ) → 1 + n ≡ suc n
    add_one n = omega arith

-- and the sum is that of its values
pub all_summed : (core : Core) (F : ℕ → LocalValue) (ds : List NetDevice) → EachHolds core F (numbers ds)
    → sum_by (held_integer core) ds ≡ sum_by (λ (d : NetDevice). integer_of (F d.id)) ds
all_summed core F [] h = refl
all_summed core F (d ∷ ds) h =
    sum_by-cons _ d ds
    ∙ ap₂ (λ m n. m + n) (ap integer_in (h d.id (first_in d.id (numbers ds)))) (all_summed core F ds (rest_hold core F d.id (numbers ds) h))
    ∙ sym (sum_by-cons _ d ds)
