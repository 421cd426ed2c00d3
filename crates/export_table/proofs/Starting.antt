-- What the type of the locked value keeps at the opening.
use Rattle.std.proofs.Common.{◌≡◌, ℕ, ◌≤◌, List, [], ◌∷◌, length, drop, map, refl, sym, ap, ◌∙◌, subst, arith, is_none, None}
use Rattle.topology.specs.Networks.{numbers}
use Rattle.firing_core.specs.Entries.{EntryValue, entries_of}
use Rattle.firing_core.specs.Cores.{Core}
use Rattle.firing_core.specs.CoreViews.{CoreValue, core_of}
use Rattle.firing_core.specs.Books.{BookValue, IsSameBook}
use Rattle.firing_core.specs.Stretches.{begins}
use Rattle.export_table.specs.Items.{Opening}
use Rattle.export_table.specs.Begins.{begun_in, since_join}
use Rattle.export_table.specs.Agendas.{AgendaValue, first_row}
use Rattle.export_table.specs.Holding.{IsHeld, Plans, opening_of, row_of}
use Rattle.export_table.proofs.Keeping.{entries_length}
use Rattle.export_table.proofs.Planning.{map_same}
use Rattle.export_table.proofs.Orders.{next_first}

drop_all : (xs : List EntryValue) → drop (length xs) xs ≡ []
drop_all [] = refl
drop_all (x ∷ xs) = drop_all xs

begun_first : (o : Opening) (log : List EntryValue) (d : ℕ) → o.front ≡ length log → begun_in o log d ≡ 0
begun_first o log d front = ap (λ es. begins d (since_join d es)) (ap (λ n. drop n log) front ∙ drop_all log)

plans_first : (o : Opening) (log : List EntryValue) (c : Core) (a : AgendaValue) → o.front ≡ length log → ((d : ℕ) → c.flying d ≡ None) → a.rounds ≡ o.rounds → a.rows ≡ map first_row (numbers c.net.devices) → Plans o log c a
plans_first o log c a front rests rounds rows = record {
  rounds = rounds;
  rows = rows ∙ map_same (row_of o log c) first_row (numbers c.net.devices) (λ d. λ i. record { device = d; begun = sym (begun_first o log d front) i; rests = is_none (sym (rests d) i) });
}

-- a table holds its book from the opening on
pub held_first : (b b' : BookValue) (turns : ℕ) (a : AgendaValue) → IsSameBook b b' → turns ≤ b'.spare → ((d : ℕ) → (core_of b.core).flying d ≡ None) → a.rows ≡ map first_row (numbers b.core.net.devices)
    → IsHeld (record { book = b'; rounds = a.rounds; turns = turns; front = length b.log }) a
held_first b b' turns a same spare rests rows = record {
  past = omega (arith, long);
  room = omega (arith, long, spare);
  plans = plans_first (opening_of b' a.rounds turns (length b.log)) (entries_of b'.log) (core_of b'.core) a first still refl
      (subst (λ (k : CoreValue). a.rows ≡ map first_row (numbers k.net.devices)) (sym same.core) rows);
  within = λ d small. let none = begun_first (opening_of b' a.rounds turns (length b.log)) (entries_of b'.log) d first in omega (arith, none);
  next = next_first (opening_of b' a.rounds turns (length b.log)) (entries_of b'.log) first;
}
  where
    long : length b'.log ≡ length b.log
    long = ap length same.log

    first : length b.log ≡ length (entries_of b'.log)
    first = sym long ∙ sym (entries_length b'.log)

    still : (d : ℕ) → (core_of b'.core).flying d ≡ None
    still d = ap (λ (k : CoreValue). (core_of k).flying d) same.core ∙ rests d
