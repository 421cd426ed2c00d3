-- Crates above cite this module: pairs of fields, entry by entry.
use Rattle.std.proofs.Common.{◌≡◌, ℕ, zero, suc, ◌<◌, List, [], ◌∷◌, length, get_or, refl, ap, subst, arith, Bool, true, false, ◌||◌, nat_eq, nat_lt}
use Rattle.std.proofs.lemmas.List.{length-map}
use Rattle.std.specs.Prelude.{filter}
use Rattle.fc_values.specs.Types.{ValueType, TypeLocal, TypeField}
use Rattle.fc_values.specs.Values.{LocalValue, IntValue}
use Rattle.fc_values.specs.Fields.{Entries, AnyValue, ValueLocal, ValueField, FitsOver, devices, device_of, with_entry, is_in, restricted}
use Rattle.fc_values.specs.Positions.{argument_nth}
use Rattle.growth_facts.specs.Beside.{Pairs, FieldPair}

module _ (P : ℕ → LocalValue → LocalValue → Type 0) where
  pub pairs_nth : (es fs : Entries) (i : ℕ) → Pairs P es fs → i < length es → P (get_or (devices es) i 0) (get_or es i (0, IntValue 0)).1 (get_or fs i (0, IntValue 0)).1
  pairs_nth [] fs i h l = absurd (omega (arith, l))
  pairs_nth (x ∷ es) [] i h l = absurd h
  pairs_nth (x ∷ es) (y ∷ fs) zero h l = h.1
  pairs_nth (x ∷ es) (y ∷ fs) (suc i) h l = pairs_nth es fs i h.2 (omega (arith, l))

  -- at a position of two fields over the devices ds
  pub field_nth : (m : ℕ) (ds : List ℕ) (t : ValueType) (v w : AnyValue) (i : ℕ) → i < length ds → FieldPair P v w → FitsOver m ds t v → P (get_or ds i 0) (argument_nth i v) (argument_nth i w)
  field_nth m ds (TypeField t) (ValueField es) (ValueField fs) i l h g =
      let long = ap length g.0 in subst (λ xs. P (get_or xs i 0) (get_or es i (0, IntValue 0)).1 (get_or fs i (0, IntValue 0)).1) g.0 (pairs_nth es fs i h (omega (arith, l, long, length-map es device_of)))
  field_nth m ds (TypeLocal t) (ValueField es) (ValueField fs) i l h g = absurd g
  field_nth m ds t (ValueField es) (ValueLocal w) i l h g = absurd h
  field_nth m ds t (ValueLocal v) w i l h g = absurd h

  pub pairs_with : (d : ℕ) (v w : LocalValue) (es fs : Entries) → P d v w → Pairs P es fs → Pairs P (with_entry d v es) (with_entry d w fs)
  pairs_with d v w [] [] h k = (refl, h, tt)
  pairs_with d v w [] (f ∷ fs) h k = absurd k
  pairs_with d v w (e ∷ es) [] h k = absurd k
  pairs_with d v w (e ∷ es) (f ∷ fs) h k = by_test (nat_lt d e.0) refl (pairs_with d v w es fs h k.2)
    where
      by_test : (c : Bool) → nat_lt d e.0 ≡ c → Pairs P (with_entry d v es) (with_entry d w fs) → Pairs P (with_entry d v (e ∷ es)) (with_entry d w (f ∷ fs))
      by_test true q r = let q' : nat_lt d f.0 ≡ true = subst (λ n. nat_lt d n ≡ true) k.0 q in rw (q, q') (refl, h, k)
      by_test false q r = let q' : nat_lt d f.0 ≡ false = subst (λ n. nat_lt d n ≡ false) k.0 q in rw (q, q') (k.0, k.1, r)

  pub pairs_cut : (q : ℕ → Bool) (es fs : Entries) → Pairs P es fs → Pairs P (filter (λ (e : ℕ × LocalValue). q e.0) es) (filter (λ (e : ℕ × LocalValue). q e.0) fs)
  pairs_cut q [] [] k = tt
  pairs_cut q [] (f ∷ fs) k = absurd k
  pairs_cut q (e ∷ es) [] k = absurd k
  pairs_cut q (e ∷ es) (f ∷ fs) k = by_test (q e.0) refl (pairs_cut q es fs k.2)
    where
      by_test : (c : Bool) → q e.0 ≡ c → Pairs P (filter (λ (e : ℕ × LocalValue). q e.0) es) (filter (λ (e : ℕ × LocalValue). q e.0) fs)
          → Pairs P (filter (λ (e : ℕ × LocalValue). q e.0) (e ∷ es)) (filter (λ (e : ℕ × LocalValue). q e.0) (f ∷ fs))
      by_test true i r = let i' : q f.0 ≡ true = subst (λ n. q n ≡ true) k.0 i in rw (i, i') (k.0, k.1, r)
      by_test false i r = let i' : q f.0 ≡ false = subst (λ n. q n ≡ false) k.0 i in rw (i, i') r

  pub field_cut : (d : ℕ) (ms : List ℕ) (v w : AnyValue) → FieldPair P v w → FieldPair P (restricted d ms v) (restricted d ms w)
  field_cut d ms (ValueField es) (ValueField fs) k = pairs_cut (λ n. nat_eq n d || is_in n ms) es fs k
  field_cut d ms (ValueField es) (ValueLocal w) k = absurd k
  field_cut d ms (ValueLocal v) w k = absurd k
