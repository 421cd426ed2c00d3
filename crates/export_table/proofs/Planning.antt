-- The agenda after each step of the core: its rows are those of the devices there.
use Rattle.std.proofs.Common.{◌≡◌, ◌≢◌, ℕ, zero, suc, ◌+◌, ◌<◌, ◌≤◌, List, [], ◌∷◌, ◌++◌, length, map, refl, sym, ap, ◌∙◌, subst, arith, Bool, true, false, not, nat_eq, nat_lt, nat_le, is_some, is_none, get_or, Option, Some, None, if◌then◌else◌}
use Rattle.std.specs.Prelude.{slice_set}
use Rattle.std.specs.List.{insert, remove}
use Rattle.std.proofs.lemmas.Bool.{eq-eqb, ne_eqb}
use Rattle.fc_nodes.specs.Program.{Unfolding}
use Rattle.topology.specs.declared.types.NetFault.TheVariants as fault
use Rattle.fc_values.specs.Fields.{Rises, is_in}
use Rattle.fc_values.proofs.Rising.{rises_tail, rises_apart, later_above}
use Rattle.fc_values.proofs.Booleans.{or_no}
use Rattle.fc_values.proofs.Lists.{insert_prefix}
use Rattle.topology.specs.Networks.{NetDevice, Network, Lives, lives, numbers}
use Rattle.topology.specs.Changes.{first_fault}
use Rattle.topology.proofs.Lemmas.{can_join, map_insert, map_remove, remove_device, put_numbers}
use Rattle.firing_core.proofs.Views.{many_numbers}
use Rattle.firing_core.specs.Entries.{EditValue, LinkEdit, UnlinkEdit, SetEdit, PokeEdit, JoinEdit, LeaveEdit, EntryValue, BeginEntry, EndEntry, IdleEntry, EditEntry}
use Rattle.firing_core.specs.Cores.{Core, Step, put, copy_of, edit_fault, edited}
use Rattle.export_table.specs.declared.agenda.Row.{Row}
use Rattle.export_table.specs.declared.agenda.Change.{Change}
use Rattle.export_table.specs.declared.agenda.Change.TheVariants as change
use Rattle.export_table.specs.Items.{Opening}
use Rattle.export_table.specs.Begins.{begun_in, is_join}
use Rattle.export_table.specs.Agendas.{AgendaValue, row_at, first_row, begun_row, ended_row}
use Rattle.export_table.specs.Changes.{IsChange, after_change, room_for}
use Rattle.export_table.specs.Holding.{Plans, row_of}
use Rattle.export_table.proofs.Counting.{begun_other, begun_more, begun_none}

-- ---- rows of a list of devices

pub row_map : (f : ℕ → Row) (ns : List ℕ) (i : ℕ) → i < length ns → row_at (map f ns) i ≡ f (get_or ns i 0)
row_map f [] i l = absurd (omega (arith, l))
row_map f (n ∷ ns) zero l = refl
row_map f (n ∷ ns) (suc i) l = row_map f ns i (omega (arith, l))

pub map_same : (f g : ℕ → Row) (ns : List ℕ) → ((e : ℕ) → g e ≡ f e) → map g ns ≡ map f ns
map_same f g [] s = refl
map_same f g (n ∷ ns) s = λ i. s n i ∷ map_same f g ns s i

-- where only the row of one device changes, which isn't there
map_absent : (f g : ℕ → Row) (d : ℕ) (ns : List ℕ) → is_in d ns ≡ false → ((e : ℕ) → e ≢ d → g e ≡ f e) → map g ns ≡ map f ns
map_absent f g d [] a s = refl
map_absent f g d (n ∷ ns) a s = let k = or_no (nat_eq d n) (is_in d ns) a in
    λ i. s n (λ e. let t : nat_eq d n ≡ true = eq-eqb d n (sym e) in absurd (cc (k.0, t))) i ∷ map_absent f g d ns k.1 s i

-- and where it is there
map_put : (f g : ℕ → Row) (d : ℕ) (ns : List ℕ) (i : ℕ) → Rises ns → i < length ns → get_or ns i 0 ≡ d → ((e : ℕ) → e ≢ d → g e ≡ f e) → map g ns ≡ slice_set (map f ns) i (g d)
map_put f g d [] i r l at s = absurd (omega (arith, l))
map_put f g d (n ∷ ns) zero r l at s = λ i. g (at i) ∷ map_absent f g d ns (subst (λ k. is_in k ns ≡ false) at (rises_apart n ns r)) s i
map_put f g d (n ∷ ns) (suc j) r l at s =
    λ i. s n (λ e. n_apart e) i ∷ map_put f g d ns j (rises_tail n ns r) (omega (arith, l)) at s i
  where
    n_apart : n ≡ d → ⊥
    n_apart e = let low = later_above n ns r j (omega (arith, l)) in omega (arith, low, at, e)

-- ---- what an entry leaves of a device

-- the row of a device: what it has begun, and whether it flies
pub row_is : (o : Opening) (log log' : List EntryValue) (c c' : Core) (d : ℕ) → c'.flying d ≡ c.flying d → begun_in o log' d ≡ begun_in o log d → row_of o log' c' d ≡ row_of o log c d
row_is o log log' c c' d flies begun = λ i. record { device = d; begun = begun i; rests = is_none (flies i) }

pub put_same : {X : Type 0} (f : ℕ → Option X) (d : ℕ) (v : Option X) → put f d v d ≡ v
put_same f d v = ap (λ b. if b then v else f d) (eq-eqb d d refl)

put_other : {X : Type 0} (f : ℕ → Option X) (d e : ℕ) (v : Option X) → e ≢ d → put f d v e ≡ f e
put_other f d e v n = ap (λ b. if b then v else f e) (ne_eqb e d n)

not_other : (d e : ℕ) → e ≢ d → nat_eq d e ≡ false
not_other d e n = ne_eqb d e (λ s. n (sym s))

-- nothing changes
plans_same : (o : Opening) (log log' : List EntryValue) (c c' : Core) (a a' : AgendaValue) → Plans o log c a → numbers c'.net.devices ≡ numbers c.net.devices
    → ((e : ℕ) → row_of o log' c' e ≡ row_of o log c e) → a'.rounds ≡ a.rounds → a'.rows ≡ a.rows → Plans o log' c' a'
plans_same o log log' c c' a a' p there same rounds rows = record {
  rounds = rounds ∙ p.rounds;
  rows = rows ∙ (p.rows ∙ (sym (map_same (row_of o log c) (row_of o log' c') (numbers c.net.devices) same) ∙ ap (map (row_of o log' c')) (sym there)));
}

-- the row of one device changes, which has this place
plans_at : (o : Opening) (log log' : List EntryValue) (c c' : Core) (a a' : AgendaValue) (d i : ℕ) (change : Row → Row) → Plans o log c a → Rises (numbers c.net.devices) → i < length (numbers c.net.devices) → get_or (numbers c.net.devices) i 0 ≡ d
    → numbers c'.net.devices ≡ numbers c.net.devices → ((e : ℕ) → e ≢ d → row_of o log' c' e ≡ row_of o log c e) → row_of o log' c' d ≡ change (row_of o log c d) → a'.rounds ≡ a.rounds → a'.rows ≡ slice_set a.rows i (change (row_at a.rows i)) → Plans o log' c' a'
plans_at o log log' c c' a a' d i change p r within at there other here rounds rows = record {
  rounds = rounds ∙ p.rounds;
  rows = rows ∙ (ap (λ l. slice_set l i (change (row_at l i))) p.rows ∙ (ap (λ k. slice_set (map f ns) i (change k)) (row_map f ns i within) ∙ (ap (λ k. slice_set (map f ns) i (change (f k))) at
      ∙ (ap (slice_set (map f ns) i) (sym here) ∙ (sym (map_put f (row_of o log' c') d ns i r within at other) ∙ ap (map (row_of o log' c')) (sym there))))));
}
  where
    f : ℕ → Row
    f = row_of o log c

    ns : List ℕ
    ns = numbers c.net.devices

numbers_long : (ns : List NetDevice) (i : ℕ) → i < length ns → i < length (numbers ns)
numbers_long ns i l = omega (arith, l, many_numbers ns)

-- a device has its place in the network that the book's core has
pub place_in : (n m : Network) (d i : ℕ) → n ≡ m → i < length n.devices → get_or (numbers n.devices) i 0 ≡ d → (i < length (numbers m.devices)) × (get_or (numbers m.devices) i 0 ≡ d)
place_in n m d i same within at = subst (λ (k : Network). (i < length (numbers k.devices)) × (get_or (numbers k.devices) i 0 ≡ d)) same (numbers_long n.devices i within, at)

can_leave : (c : Core) (d : ℕ) → edit_fault c (LeaveEdit d) ≡ None → Lives c.net d
can_leave c d ok = by_test (lives c.net d) refl ok
  where
    by_test : (b : Bool) → lives c.net d ≡ b → first_fault ((not b, fault.NoDevice) ∷ (is_some (c.flying d), fault.InFlight) ∷ (nat_le (length c.net.devices) 1, fault.Last) ∷ []) ≡ None → Lives c.net d
    by_test true t h = t
    by_test false t h = absurd (cc)

-- ---- one entry more

module _ (U : Unfolding) (o : Opening) (log : List EntryValue) (c c' : Core) (a a' : AgendaValue) (p : Plans o log c a) (past : o.front ≤ length log) (rounds : a'.rounds ≡ a.rounds) where
  pub plans_idle : Step U c IdleEntry c' → a'.rows ≡ a.rows → Plans o (log ++ IdleEntry ∷ []) c' a'
  plans_idle step rows = plans_same o log (log ++ IdleEntry ∷ []) c c' a a' p (ap (λ (k : Core). numbers k.net.devices) step)
      (λ e. row_is o log (log ++ IdleEntry ∷ []) c c' e (ap (λ (k : Core). k.flying e) step) (begun_other o log IdleEntry e past refl refl)) rounds rows

  module _ (d i : ℕ) (rises : Rises (numbers c.net.devices)) (within : i < length (numbers c.net.devices)) (at : get_or (numbers c.net.devices) i 0 ≡ d) where
    pub plans_begin : Step U c (BeginEntry d) c' → a'.rows ≡ slice_set a.rows i (begun_row (row_at a.rows i)) → Plans o (log ++ BeginEntry d ∷ []) c' a'
    plans_begin step rows = plans_at o log (log ++ BeginEntry d ∷ []) c c' a a' d i begun_row p rises within at (ap (λ (k : Core). numbers k.net.devices) step.2)
        (λ e n. row_is o log (log ++ BeginEntry d ∷ []) c c' e (ap (λ (k : Core). k.flying e) step.2 ∙ put_other c.flying d e (Some (copy_of c.net c.exports d)) n) (begun_other o log (BeginEntry d) e past refl (not_other d e n)))
        (λ j. record { device = d; begun = begun j; rests = is_none (flies j) }) rounds rows
      where
        begun : begun_in o (log ++ BeginEntry d ∷ []) d ≡ begun_in o log d + 1
        begun = begun_more o log (BeginEntry d) d past refl (eq-eqb d d refl)

        flies : c'.flying d ≡ Some (copy_of c.net c.exports d)
        flies = ap (λ (k : Core). k.flying d) step.2 ∙ put_same c.flying d (Some (copy_of c.net c.exports d))

    pub plans_end : Step U c (EndEntry d) c' → a'.rows ≡ slice_set a.rows i (ended_row (row_at a.rows i)) → Plans o (log ++ EndEntry d ∷ []) c' a'
    plans_end step rows = plans_at o log (log ++ EndEntry d ∷ []) c c' a a' d i ended_row p rises within at (ap (λ (k : Core). numbers k.net.devices) step.after)
        (λ e n. row_is o log (log ++ EndEntry d ∷ []) c c' e (ap (λ (k : Core). k.flying e) step.after ∙ put_other c.flying d e None n) (begun_other o log (EndEntry d) e past refl refl))
        (λ j. record { device = d; begun = begun_other o log (EndEntry d) d past refl refl j; rests = is_none (flies j) }) rounds rows
      where
        flies : c'.flying d ≡ None
        flies = ap (λ (k : Core). k.flying d) step.after ∙ put_same c.flying d None

  plans_join : (x : NetDevice) → lives c.net x.id ≡ false → c' ≡ edited U c (JoinEdit x) → a'.rows ≡ insert a.rows (room_for x.id c.net.devices) (first_row x.id) → Plans o (log ++ EditEntry (JoinEdit x) ∷ []) c' a'
  plans_join x new is rows = record {
    rounds = rounds ∙ p.rounds;
    rows = rows ∙ (ap (λ l. insert l place (first_row x.id)) p.rows ∙ ((λ j. insert (sym others j) place (sym here j)) ∙ (sym (map_insert g ns place x.id) ∙ ap (map g) there)));
  }
    where
      g : ℕ → Row
      g = row_of o (log ++ EditEntry (JoinEdit x) ∷ []) c'

      ns : List ℕ
      ns = numbers c.net.devices

      place : ℕ
      place = room_for x.id c.net.devices

      others : map g ns ≡ map (row_of o log c) ns
      others = map_absent (row_of o log c) g x.id ns new (λ e n. row_is o log (log ++ EditEntry (JoinEdit x) ∷ []) c c' e (ap (λ (k : Core). k.flying e) is ∙ put_other c.flying x.id e None n) (begun_other o log (EditEntry (JoinEdit x)) e past (not_other x.id e n) refl))

      flies : c'.flying x.id ≡ None
      flies = ap (λ (k : Core). k.flying x.id) is ∙ put_same c.flying x.id None

      here : g x.id ≡ first_row x.id
      here = λ j. record { device = x.id; begun = begun_none o log (EditEntry (JoinEdit x)) x.id past (eq-eqb x.id x.id refl) j; rests = is_none (flies j) }

      there : insert ns place x.id ≡ numbers c'.net.devices
      there = sym (ap (λ (k : Core). numbers k.net.devices) is
          ∙ (ap numbers (sym (insert_prefix (λ (n : NetDevice). nat_lt n.id x.id) x c.net.devices)) ∙ map_insert (λ (n : NetDevice). n.id) c.net.devices place x))

  plans_leave : (d i : ℕ) → Rises (numbers c.net.devices) → i < length c.net.devices → get_or (numbers c.net.devices) i 0 ≡ d → c' ≡ edited U c (LeaveEdit d) → a'.rows ≡ remove a.rows i → Plans o (log ++ EditEntry (LeaveEdit d) ∷ []) c' a'
  plans_leave d i rises within at is rows = record {
    rounds = rounds ∙ p.rounds;
    rows = rows ∙ (ap (λ l. remove l i) p.rows ∙ (ap (λ l. remove l i) (sym same) ∙ (sym (map_remove g ns i) ∙ ap (map g) there)));
  }
    where
      g : ℕ → Row
      g = row_of o (log ++ EditEntry (LeaveEdit d) ∷ []) c'

      ns : List ℕ
      ns = numbers c.net.devices

      same : map g ns ≡ map (row_of o log c) ns
      same = map_same (row_of o log c) g ns (λ e. row_is o log (log ++ EditEntry (LeaveEdit d) ∷ []) c c' e (ap (λ (k : Core). k.flying e) is) (begun_other o log (EditEntry (LeaveEdit d)) e past refl refl))

      there : remove ns i ≡ numbers c'.net.devices
      there = sym (map_remove (λ (n : NetDevice). n.id) c.net.devices i) ∙ (ap numbers (remove_device d i c.net.devices rises (numbers_long c.net.devices i within) at) ∙ sym (ap (λ (k : Core). numbers k.net.devices) is))

  -- an edit that leaves the devices there
  plans_stay : (x : EditValue) (ch : Change) → ch ≡ change.Nothing → a'.rows ≡ after_change a.rows ch → numbers c'.net.devices ≡ numbers c.net.devices → ((e : ℕ) → c'.flying e ≡ c.flying e) → ((e : ℕ) → is_join e (EditEntry x) ≡ false) → Plans o (log ++ EditEntry x ∷ []) c' a'
  plans_stay x ch none rows there flies stays = plans_same o log (log ++ EditEntry x ∷ []) c c' a a' p there
      (λ e. row_is o log (log ++ EditEntry x ∷ []) c c' e (flies e) (begun_other o log (EditEntry x) e past (stays e) refl)) rounds (rows ∙ ap (after_change a.rows) none)

  pub plans_edit : (x : EditValue) (ch : Change) → Rises (numbers c.net.devices) → IsChange c.net.devices x ch → a'.rows ≡ after_change a.rows ch → edit_fault c x ≡ None → Step U c (EditEntry x) c' → Plans o (log ++ EditEntry x ∷ []) c' a'
  plans_edit (LinkEdit x y z) ch rises is rows ok step = plans_stay (LinkEdit x y z) ch is rows (ap (λ (k : Core). numbers k.net.devices) step.after) (λ e. ap (λ (k : Core). k.flying e) step.after) (λ e. refl)
  plans_edit (UnlinkEdit x y) ch rises is rows ok step = plans_stay (UnlinkEdit x y) ch is rows (ap (λ (k : Core). numbers k.net.devices) step.after) (λ e. ap (λ (k : Core). k.flying e) step.after) (λ e. refl)
  plans_edit (SetEdit d i v) ch rises is rows ok step = plans_stay (SetEdit d i v) ch is rows (ap (λ (k : Core). numbers k.net.devices) step.after ∙ put_numbers d i v c.net.devices) (λ e. ap (λ (k : Core). k.flying e) step.after) (λ e. refl)
  plans_edit (PokeEdit d x) ch rises is rows ok step = plans_stay (PokeEdit d x) ch is rows (ap (λ (k : Core). numbers k.net.devices) step.after) (λ e. ap (λ (k : Core). k.flying e) step.after) (λ e. refl)
  plans_edit (JoinEdit x) ch rises is rows ok step = plans_join x (can_join c.net x ok).new step.after (rows ∙ ap (after_change a.rows) is.0)
  plans_edit (LeaveEdit d) (change.Join place e) rises is rows ok step = absurd is
  plans_edit (LeaveEdit d) (change.Leave place) rises is rows ok step = plans_leave d place rises is.0 is.1 step.after rows
  plans_edit (LeaveEdit d) change.Nothing rises is rows ok step = let there = can_leave c d ok in absurd (cc (is, there))
