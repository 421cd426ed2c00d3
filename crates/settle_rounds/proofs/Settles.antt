-- Settle rounds, one round more; and after a round behind which nothing changes.
use Rattle.std.proofs.Common.{◌≡◌, ℕ, zero, suc, ◌+◌, ◌<◌, ◌≤◌, List, [], ◌∷◌, length, map, get_or, refl, sym, ◌∙◌, ap}
use Rattle.std.proofs.Common.{arith, Bool, true, false, Option, Some, None, option_map, if◌then◌else◌, All, IsSome, ◌⊎◌}
use Rattle.std.proofs.Common.{inl, inr}
use Rattle.std.proofs.lemmas.Bool.{cases_eq}
use Rattle.std.proofs.lemmas.List.{get_or_default}
use Rattle.fc_values.specs.Values.{LocalValue}
use Rattle.fc_nodes.specs.Program.{Unfolding}
use Rattle.value_bounds.specs.BoundValues.{value_left}
use Rattle.value_bounds.specs.References.{local_bound_in}
use Rattle.bound_firing.specs.declared.firing.ExportBound.{ExportBound as FlatBound}
use Rattle.bound_firing.specs.Exports.{ExportBound}
use Rattle.envelopes.specs.Envelopes.{Envelope, ids, IsEnvelope}
use Rattle.settle_rounds.specs.declared.settling.Settled.{Settled}
use Rattle.bound_rounds.specs.declared.rounds.RoundKind.TheVariants as kind
use Rattle.bound_rounds.specs.Rounds.{BoundTable, rounds_within}
use Rattle.settle_rounds.specs.Rounds.{is_reached}
use Rattle.settle_rounds.specs.Settling.{IsStillWithin, first_reached, settle_round, RoundsAre}
use Rattle.settle_rounds.specs.SettleTimes.{settles_to, all_settle_to}
use Rattle.bound_rounds.specs.Tables.{device_at, Stand}
use Rattle.settle_rounds.specs.References.{settled_in, noted, AreNoted}
use Rattle.settle_rounds.proofs.Still.{rounds_settle}
use Rattle.bound_rounds.proofs.Standing.{map_at, at_map, many_numbers, stand_at}
use Rattle.bound_rounds.proofs.Rounding.{at_lives}

-- none of the rounds that were looked at reaches the device
first_none : (b : ℕ → ExportBound) (n j : ℕ) → first_reached b n j ≡ None → (i : ℕ) → j ≤ i → i < j + n
    → is_reached (b i) ≡ false
first_none b zero j e i l h = absurd (omega (arith, l, h))
first_none b (suc n) j e i l h = by_test (is_reached (b j)) refl e (cases_eq i j) (first_none b n (suc j))
  where
    by_test : (c : Bool) → is_reached (b j) ≡ c → (if c then Some j else first_reached b n (suc j)) ≡ None
        → (i ≡ j) ⊎ (i ≡ j → ⊥)
        → (first_reached b n (suc j) ≡ None → (i : ℕ) → suc j ≤ i → i < suc j + n → is_reached (b i) ≡ false)
        → is_reached (b i) ≡ false
    by_test true q g p ih = absurd cc
    by_test false q g (inl p) ih = ap (λ x. is_reached (b x)) p ∙ q
    by_test false q g (inr p) ih = ih g i (omega (arith, l, p)) (omega (arith, h))

module _ (U : Unfolding) (E : Envelope) (envelope : IsEnvelope E) (S : BoundTable) where
  abbrev are : RoundsAre U E S
  are = rounds_settle U E envelope S

  none_before : (j d : ℕ) → settle_round U E S j d ≡ None → (i : ℕ) → i ≤ j
      → is_reached (rounds_within U E S i d) ≡ false
  none_before j d e i l = first_none (λ k. rounds_within U E S k d) (suc j) 0 e i (omega arith) (omega (arith, l))

  none_after : (j d : ℕ) → ((i : ℕ) → i ≤ j → is_reached (rounds_within U E S i d) ≡ false)
      → settle_round U E S j d ≡ None
  none_after j d h = by_round (settle_round U E S j d) refl
    where
      by_round : (o : Option ℕ) → settle_round U E S j d ≡ o → o ≡ None
      by_round None e = refl
      by_round (Some k) e =
          let r : is_reached (rounds_within U E S k d) ≡ true = (are.settles j d k e).reached in
          let q : is_reached (rounds_within U E S k d) ≡ false = h k (are.within j d k e) in
          let x : true ≡ false = sym r ∙ q in
          absurd cc

  round_stays : (j m d k : ℕ) → settle_round U E S j d ≡ Some k → j ≤ m → settle_round U E S m d ≡ Some k
  round_stays j m d k e l = let w = are.within j d k e in are.found m d k (omega (arith, w, l)) (are.settles j d k e)

  -- one round more
  next_round : (j d : ℕ) → settles_to U E S (suc j) d ≡ noted (suc j) (rounds_within U E S (suc j) d).sure
      (rounds_within U E S (suc j) d).value (settles_to U E S j d)
  next_round j d = by_round (settle_round U E S j d) refl
    where
      f : ℕ → ℕ × LocalValue
      f k = (k, value_left (rounds_within U E S k d).value)

      by_reached : settle_round U E S j d ≡ None → (c : Bool) → is_reached (rounds_within U E S (suc j) d) ≡ c
          → option_map {U = ℕ × LocalValue} (λ k. (k, value_left (rounds_within U E S k d).value))
          (settle_round U E S (suc j) d) ≡ (if c then Some (suc j, value_left (rounds_within U E S (suc j) d).value)
          else None)
      by_reached e true r =
          let s = are.found (suc j) d (suc j) (omega arith) (record {
            reached = r;
            before =
                λ i l. none_before j d e i (omega (arith, l));
          }) in
          ap (option_map {U = ℕ × LocalValue} (λ k. (k, value_left (rounds_within U E S k d).value))) s
      by_reached e false r = ap (option_map {U = ℕ × LocalValue} (λ k. (k, value_left (rounds_within U E S k d).value)))
          (none_after (suc j) d before)
        where
          before : (i : ℕ) → i ≤ suc j → is_reached (rounds_within U E S i d) ≡ false
          before i l = elim (cases_eq i (suc j)) [
            | inl q ↦ ap (λ x. is_reached (rounds_within U E S x d)) q
                ∙ r
            | inr q ↦ none_before j d e i (omega (arith, l, q))
          ]

      by_round : (o : Option ℕ) → settle_round U E S j d ≡ o
          → option_map {U = ℕ × LocalValue} (λ k. (k, value_left (rounds_within U E S k d).value))
          (settle_round U E S (suc j) d)
          ≡ noted (suc j) (rounds_within U E S (suc j) d).sure (rounds_within U E S (suc j) d).value
          (option_map {U = ℕ × LocalValue} (λ k. (k, value_left (rounds_within U E S k d).value)) o)
      by_round None e = by_reached e (is_reached (rounds_within U E S (suc j) d)) refl
      by_round (Some k) e = ap (option_map {U = ℕ × LocalValue} (λ k. (k, value_left (rounds_within U E S k d).value)))
          (round_stays j (suc j) d k e (omega arith))

  -- ---- the answers for all devices

  -- with what is noted after a round, out of what was known before
  noted_settle : (j : ℕ) (was : ℕ → Option (ℕ × LocalValue))
      → ((d : ℕ)
      → settles_to U E S j d ≡ noted j (rounds_within U E S j d).sure (rounds_within U E S j d).value (was d))
      → (bs : List FlatBound) (xs ys : List (Option Settled)) → length bs ≡ length E.devices
      → length xs ≡ length E.devices → length ys ≡ length E.devices
      → Stand U E (rounds_within U E S j) bs → AreNoted j bs (length xs) xs ys
      → map (option_map settled_in) xs ≡ map was (ids E.devices)
      → map (option_map settled_in) ys ≡ all_settle_to U E S j
  noted_settle j was next bs xs ys lb lx ly s n e = let m = many_numbers E in
      at_map (option_map settled_in) (settles_to U E S j) 0 ys (ids E.devices) (omega (arith, ly, m))
      (λ i o k. at i o (omega (arith, k, m)) bs refl)
    where
      at : (i : ℕ) (o : Option Settled) → i < length E.devices → (es : List FlatBound) → bs ≡ es
          → option_map settled_in (get_or ys i o) ≡ settles_to U E S j (device_at E i)
      at i o k [] q = absurd (omega (arith, k, lb, ap length q))
      at i o k (b ∷ es) q =
          let t = stand_at U E (rounds_within U E S j) bs s i b k in
          let sure : (get_or bs i b).sure ≡ (rounds_within U E S j (device_at E i)).sure =
          ap (λ (x : ExportBound). x.sure) t in
          let value : local_bound_in (get_or bs i b).value ≡ (rounds_within U E S j (device_at E i)).value =
          ap (λ (x : ExportBound). x.value) t in
          let old : option_map settled_in (get_or xs i o) ≡ was (device_at E i) =
          map_at (option_map settled_in) was xs (ids E.devices) e i o 0
          (let m = many_numbers E in omega (arith, k, m)) in
          n i b o (omega (arith, k, lx))
          ∙ ap (λ x. noted j x (local_bound_in (get_or bs i b).value) (option_map settled_in (get_or xs i o))) sure
          ∙ ap (λ x. noted j (rounds_within U E S j (device_at E i)).sure x (option_map settled_in (get_or xs i o)))
          value
          ∙ ap (noted j (rounds_within U E S j (device_at E i)).sure (rounds_within U E S j (device_at E i)).value) old
          ∙ sym (next (device_at E i))

  -- before the first round
  first_round : (d : ℕ) → settles_to U E S 0 d ≡ noted 0 (S d).sure (S d).value None
  first_round d = by_test (is_reached (S d))
    where
      by_test : (c : Bool) → option_map {U = ℕ × LocalValue} (λ k. (k, value_left (rounds_within U E S k d).value))
          (if c then Some 0 else None) ≡ (if c then Some (0, value_left (S d).value) else None)
      by_test true = refl
      by_test false = refl

  pub first_settle : (bs : List FlatBound) (xs ys : List (Option Settled)) → length bs ≡ length E.devices
      → length xs ≡ length E.devices → length ys ≡ length E.devices → Stand U E S bs
      → All (λ (o : Option Settled). o ≡ None) xs → AreNoted 0 bs (length xs) xs ys
      → map (option_map settled_in) ys ≡ all_settle_to U E S 0
  first_settle bs xs ys lb lx ly s h n = let m = many_numbers E in
      noted_settle 0 (λ d. None) first_round bs xs ys lb lx ly s n
      (at_map (option_map settled_in) (λ (d : ℕ). None) 0 xs (ids E.devices) (omega (arith, lx, m))
      (λ i o k. ap (option_map settled_in) (h i o (omega (arith, k, lx, m)))))

  -- after one round more
  pub more_settle : (j : ℕ) (bs : List FlatBound) (xs ys : List (Option Settled)) → length bs ≡ length E.devices
      → length xs ≡ length E.devices → length ys ≡ length E.devices
      → Stand U E (rounds_within U E S (suc j)) bs → AreNoted (suc j) bs (length xs) xs ys
      → map (option_map settled_in) xs ≡ all_settle_to U E S j
      → map (option_map settled_in) ys ≡ all_settle_to U E S (suc j)
  more_settle j bs xs ys lb lx ly s n e =
      noted_settle (suc j) (settles_to U E S j) (next_round j) bs xs ys lb lx ly s n e

  same_settle : (j m : ℕ) → ((i : ℕ) → i < length E.devices → settle_round U E S m (device_at E i)
      ≡ settle_round U E S j (device_at E i)) → all_settle_to U E S j ≡ all_settle_to U E S m
  same_settle j m h = let n = many_numbers E in
      at_map (settles_to U E S j) (settles_to U E S m) 0 (ids E.devices) (ids E.devices) refl
      (λ i a k. ap (settles_to U E S j) (get_or_default (ids E.devices) i a 0 k)
      ∙ ap (option_map {U = ℕ × LocalValue} (λ r. (r, value_left (rounds_within U E S r (device_at E i)).value)))
      (sym (h i (omega (arith, k, n)))))

  -- nothing changes any more
  pub still_settle : (i j m : ℕ) → IsStillWithin kind.Firing U E S i → i ≤ j → j ≤ m
      → all_settle_to U E S j ≡ all_settle_to U E S m
  still_settle i j m s l h = same_settle j m (λ p k. by_round p k (settle_round U E S j (device_at E p)) refl)
    where
      by_round : (p : ℕ) → p < length E.devices → (o : Option ℕ) → settle_round U E S j (device_at E p) ≡ o
          → settle_round U E S m (device_at E p) ≡ settle_round U E S j (device_at E p)
      by_round p k None e = are.never m (device_at E p) i s (at_lives E p k)
          (λ q w. none_before j (device_at E p) e q (omega (arith, l, w))) ∙ sym e
      by_round p k (Some r) e = round_stays j m (device_at E p) r e h ∙ sym e

  -- each device has settled
  pub all_settle : (j m : ℕ) (xs : List (Option Settled)) → length xs ≡ length E.devices
      → map (option_map settled_in) xs ≡ all_settle_to U E S j → All (λ (o : Option Settled). IsSome o) xs → j ≤ m
      → all_settle_to U E S j ≡ all_settle_to U E S m
  all_settle j m xs l e a h = same_settle j m (λ p k. by_round p k (settle_round U E S j (device_at E p)) refl)
    where
      by_round : (p : ℕ) → p < length E.devices → (o : Option ℕ) → settle_round U E S j (device_at E p) ≡ o
          → settle_round U E S m (device_at E p) ≡ settle_round U E S j (device_at E p)
      by_round p k (Some r) q = round_stays j m (device_at E p) r q h ∙ sym q
      by_round p k None q =
          let here = map_at (option_map settled_in) (settles_to U E S j) xs (ids E.devices) e p None 0
          (let n = many_numbers E in omega (arith, k, n)) in
          let none : option_map settled_in (get_or xs p None) ≡ None = here
          ∙ ap (option_map {U = ℕ × LocalValue} (λ i. (i, value_left (rounds_within U E S i (device_at E p)).value)))
          q in
          absurd (not_some (get_or xs p None) none (a p None (omega (arith, k, l))))
        where
          not_some : (o : Option Settled) → option_map settled_in o ≡ None → IsSome o → ⊥
          not_some None e s = let x : false ≡ true = s in absurd cc
          not_some (Some x) e s = absurd cc
