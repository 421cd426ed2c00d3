-- Rows that may begin are devices that may begin.
use Rattle.std.proofs.Common.{◌≡◌, ℕ, ◌<◌, ◌≤◌, ◌↔◌, List, length, get_or, refl, sym, ap, ◌∙◌, subst, arith, Bool, true, false, nat_lt, is_none, Option, Some, None}
use Rattle.std.proofs.lemmas.Bool.{false≢true, ltb-true, ltb-false}
use Rattle.std.proofs.lemmas.List.{length-map}
use mathlib.Core.Logic.{dite}
use native.Mathlib.Decide.{ℕ_discrete}
use Rattle.fc_values.specs.Fields.{Rises}
use Rattle.fc_values.proofs.Rising.{rises_at}
use Rattle.topology.specs.Networks.{Lives, numbers}
use Rattle.topology.proofs.Lemmas.{in_at, at_in}
use Rattle.firing_core.specs.Entries.{EntryValue}
use Rattle.firing_core.specs.Cores.{Core}
use Rattle.export_table.specs.declared.agenda.Row.{Row}
use Rattle.export_table.specs.Items.{Opening}
use Rattle.export_table.specs.Begins.{begun_in, MayBegin, IsNext, NoneMayBegin, AllBegun}
use Rattle.export_table.specs.Agendas.{AgendaValue, HasEnded, MayBeginRow, IsNextRow, RowsRest, row_at}
use Rattle.export_table.specs.Holding.{Plans, row_of}
use Rattle.export_table.proofs.Planning.{row_map}

none_is : {X : Type 0} (x : Option X) → is_none x ≡ true → x ≡ None
none_is None t = refl
none_is (Some x) t = absurd (false≢true t)

is_some_or : {X : Type 0} (x : Option X) → (is_none x ≡ false → ⊥) → x ≡ None
is_some_or None f = refl
is_some_or (Some x) f = absurd (f refl)

module _ (o : Opening) (log : List EntryValue) (c : Core) (a : AgendaValue) (p : Plans o log c a) (rises : Rises (numbers c.net.devices)) where
  abbrev ns : List ℕ
  ns = numbers c.net.devices

  pub rows_length : length a.rows ≡ length ns
  rows_length = ap length p.rows ∙ length-map ns (row_of o log c)

  -- the row at a place is that of the device at this place
  pub row_here : (i : ℕ) → i < length a.rows → row_at a.rows i ≡ row_of o log c (get_or ns i 0)
  row_here i l = ap (λ r. row_at r i) p.rows ∙ row_map (row_of o log c) ns i (omega (arith, l, rows_length))

  -- no other device is behind it
  ended_all : (n : ℕ) → ((i : ℕ) → i < length a.rows → HasEnded n (row_at a.rows i)) → (e : ℕ) → Lives c.net e → (n ≤ begun_in o log e) × (begun_in o log e ≡ n → c.flying e ≡ None)
  ended_all n each e there =
      let k = in_at e ns there in
      let h = subst (λ d. HasEnded n (row_of o log c d)) k.2 (subst (HasEnded n) (row_here k.0 (omega (arith, k.1, rows_length))) (each k.0 (omega (arith, k.1, rows_length)))) in
      (h.0, λ same. is_some_or (c.flying e) (λ f. let more = h.1 f in omega (arith, more, same)))

  may_begin : (i : ℕ) → MayBeginRow a i → MayBegin o log c (get_or ns i 0)
  may_begin i m =
      let d = get_or ns i 0 in
      let here : row_at a.rows i ≡ row_of o log c d = row_here i m.within in
      let within = m.within in
      record {
        there = at_in d ns i (omega (arith, within, rows_length)) refl;
        rests = none_is (c.flying d) (sym (ap (λ (r : Row). r.rests) here) ∙ m.rests);
        some = let some = m.some in let begun = ap (λ (r : Row). r.begun) here in let rounds = p.rounds in omega (arith, some, begun, rounds);
        pace = ended_all (begun_in o log d) (subst (λ n. (j : ℕ) → j < length a.rows → HasEnded n (row_at a.rows j)) (ap (λ (r : Row). r.begun) here) m.pace);
      }

  row_may : (i : ℕ) → i < length a.rows → MayBegin o log c (get_or ns i 0) → MayBeginRow a i
  row_may i l m =
      let d = get_or ns i 0 in
      let here : row_at a.rows i ≡ row_of o log c d = row_here i l in
      record {
        within = l;
        rests = ap (λ (r : Row). r.rests) here ∙ ap is_none m.rests;
        some = let some = m.some in let begun = ap (λ (r : Row). r.begun) here in let rounds = p.rounds in omega (arith, some, begun, rounds);
        pace = subst (λ n. (j : ℕ) → j < length a.rows → HasEnded n (row_at a.rows j)) (sym (ap (λ (r : Row). r.begun) here))
            (λ j k. let e = get_or ns j 0 in let pace = m.pace e (at_in e ns j (omega (arith, k, rows_length)) refl) in
            subst (HasEnded (begun_in o log d)) (sym (row_here j k)) (
              pace.0,
              λ f. dite (ℕ_discrete (begun_in o log e) (begun_in o log d))
                  (λ same. absurd (false≢true (sym f ∙ ap is_none (pace.1 same))))
                  (λ other. let low = pace.0 in omega (arith, low, other)),
            ));
      }

  pub next_is : (i : ℕ) → IsNextRow a i → IsNext o log c (row_at a.rows i).device
  next_is i n = subst (IsNext o log c) (sym (ap (λ (r : Row). r.device) (row_here i (n.may).within))) (record {
    may = may_begin i n.may;
    smallest = λ e less m.
        let k = in_at e ns m.there in
        let l : k.0 < length a.rows = omega (arith, k.1, rows_length) in
        n.smallest k.0 (before k.0 k.1 (subst (λ q. q < get_or ns i 0) (sym k.2) less)) (row_may k.0 l (subst (MayBegin o log c) (sym k.2) m));
  })
    where
      -- numbers rise with their places
      before : (j : ℕ) → j < length ns → get_or ns j 0 < get_or ns i 0 → j < i
      before j within less = by_test (nat_lt j i) refl
        where
          by_test : (b : Bool) → nat_lt j i ≡ b → j < i
          by_test true t = ltb-true j i t
          by_test false t = let high = ltb-false j i t in dite (ℕ_discrete j i)
              (λ same. let e = ap (λ k. get_or ns k 0) same in absurd (omega (arith, e, less)))
              (λ other. let more = rises_at ns rises i j (omega (arith, high, other)) within in absurd (omega (arith, more, less)))

  pub none_may : (b : Bool) → RowsRest a b → NoneMayBegin o log c
  none_may b r d m = let k = in_at d ns m.there in r.none k.0 (row_may k.0 (omega (arith, k.1, rows_length)) (subst (MayBegin o log c) (sym k.2) m))

  pub all_over : (b : Bool) → RowsRest a b → (b ≡ true) ↔ AllBegun o log c
  all_over b r = (
    (λ t d there. let k = in_at d ns there in let l : k.0 < length a.rows = omega (arith, k.1, rows_length) in
        let begun = ap (λ (q : Row). q.begun) (row_here k.0 l) ∙ ap (begun_in o log) k.2 in let rounds = p.rounds in let all = (r.over).0 t k.0 l in omega (arith, begun, rounds, all)),
    (λ all. (r.over).1 (λ i l. let e = get_or ns i 0 in let begun = ap (λ (q : Row). q.begun) (row_here i l) in let rounds = p.rounds in
        let each = all e (at_in e ns i (omega (arith, l, rows_length)) refl) in omega (arith, begun, rounds, each))),
  )

-- the device of the row that an agenda found is next, and has its place
pub found_next : (o : Opening) (log : List EntryValue) (c : Core) (a a' : AgendaValue) (i d : ℕ) → Plans o log c a → Rises (numbers c.net.devices) → a' ≡ a → IsNextRow a i → d ≡ (row_at a'.rows i).device
    → IsNext o log c d × (i < length (numbers c.net.devices)) × (get_or (numbers c.net.devices) i 0 ≡ d)
found_next o log c a a' i d p rises same n is =
    let device : d ≡ (row_at a.rows i).device = is ∙ ap (λ (b : AgendaValue). (row_at b.rows i).device) same in
    let within = (n.may).within in let long = rows_length o log c a p rises in (
      subst (IsNext o log c) (sym device) (next_is o log c a p rises i n),
      omega (arith, within, long),
      sym (device ∙ ap (λ (r : Row). r.device) (row_here o log c a p rises i within)),
    )
