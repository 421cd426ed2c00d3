-- What is noted of the bounds of a device, with one table more.
use Rattle.std.proofs.Common.{◌≡◌, ℕ, zero, suc, ◌<◌, ◌≤◌, List, [], ◌∷◌, ◌++◌, length, get_or, refl, sym, ◌∙◌, ap, subst}
use Rattle.std.proofs.Common.{arith, Bool, true, false, not, ◌||◌, ◌⊎◌, inl, inr, map}
use Rattle.std.specs.declared.alloc.Global.{Global}
use Rattle.std.specs.declared.vec.Vec.{Vec}
use Rattle.std.specs.Prelude.{slice_set}
use Rattle.std.proofs.lemmas.Bool.{cases_eq}
use Rattle.std.proofs.lemmas.List.{get_or_default, get_or-set_same}
use Rattle.fc_nodes.specs.Program.{Unfolding}
use Rattle.value_bounds.specs.BoundValues.{BoundValue}
use Rattle.value_bounds.specs.References.{local_bound_in}
use Rattle.bound_firing.specs.declared.firing.ExportBound.{ExportBound as FlatBound}
use Rattle.bound_firing.specs.Exports.{ExportBound}
use Rattle.envelopes.specs.Envelopes.{Envelope, surely_lives}
use Rattle.bound_rounds.specs.Rounds.{BoundTable, rounds_within, HasBound}
use Rattle.bound_rounds.specs.Tables.{Stand, device_at}
use Rattle.bound_rounds.proofs.Standing.{stand_at}
use Rattle.last_bounds.specs.declared.changes.Change.{Change}
use Rattle.last_bounds.specs.References.{ChangeValue, change_in, changes_in, NoneNoted, SomeTo, IsNoted, known, added}
use Rattle.last_bounds.specs.References.{IsNotedIf, AreNoted, EachIs, InTurn, FoundBy, AreChanges, AllChanges}

-- ---- one change more

each_push : (P : ChangeValue → Type 0) (cs : List ChangeValue) (c : ChangeValue) → EachIs P cs → P c
    → EachIs P (cs ++ c ∷ [])
each_push P [] c h p = (p, tt)
each_push P (x ∷ cs) c h p = (h.0, each_push P cs c h.1 p)

few_more : (n : ℕ) (cs : List ChangeValue) → EachIs (λ c. c.0 < n) cs → EachIs (λ c. c.0 < suc n) cs
few_more n [] h = tt
few_more n (c ∷ cs) h = let l = h.0 in (omega (arith, l), few_more n cs h.1)

turn_push : (n : ℕ) (b : BoundValue) (cs : List ChangeValue) → InTurn cs → EachIs (λ c. c.0 < n) cs
    → InTurn (cs ++ (n, b) ∷ [])
turn_push n b [] t f = (tt, tt)
turn_push n b (c ∷ cs) t f = (each_push (λ e. c.0 < e.0) cs (n, b) t.0 f.0, turn_push n b cs t.1 f.1)

found_push : (i : ℕ) (b : BoundValue) (cs : List ChangeValue) (c : ChangeValue) → FoundBy i b cs
    → FoundBy i b (cs ++ c ∷ [])
found_push i b [] c h = absurd h
found_push i b (x ∷ cs) c (inl h) = inl h
found_push i b (x ∷ cs) c (inr h) = inr (found_push i b cs c h)

found_here : (n : ℕ) (b : BoundValue) (cs : List ChangeValue) → FoundBy n b (cs ++ (n, b) ∷ [])
found_here n b [] = inl (refl, omega arith)
found_here n b (c ∷ cs) = inr (found_here n b cs)

some_found : (n : ℕ) (b : BoundValue) (cs : List ChangeValue) → EachIs (λ c. c.0 < n) cs → SomeTo b cs
    → FoundBy n b cs
some_found n b [] f s = absurd s
some_found n b (c ∷ cs) f (inl e) = let l = f.0 in inl (e, omega (arith, l))
some_found n b (c ∷ cs) f (inr s) = inr (some_found n b cs f.1 s)

-- a change at a place is one of them
pub some_at : (b : BoundValue) (cs : List Change) (i : ℕ) (c : Change) → i < length cs
    → local_bound_in (get_or cs i c).bound ≡ b → SomeTo b (map change_in cs)
some_at b [] i c l e = absurd (omega (arith, l))
some_at b (x ∷ cs) zero c l e = inl e
some_at b (x ∷ cs) (suc i) c l e = inr (some_at b cs i c (omega (arith, l)) e)

-- ---- the changes of a device, with one table more

module _ (U : Unfolding) (E : Envelope) (start : BoundTable) (d : ℕ) where
  abbrev value_after : ℕ → BoundValue
  value_after n = (rounds_within U E start n d).value

  abbrev is_there : ℕ → Bool
  is_there n = (rounds_within U E start n d).sure || not (surely_lives E d)

  there_has : (s a : Bool) → (s || not a) ≡ true → (s ≡ true) ⊎ (a ≡ false)
  there_has true a e = inl refl
  there_has false false e = inr refl
  there_has false true e = absurd cc

  has_there : (s a : Bool) → (s ≡ true) ⊎ (a ≡ false) → (s || not a) ≡ true
  has_there true a h = refl
  has_there false false h = refl
  has_there false true (inl e) = absurd cc
  has_there false true (inr e) = absurd cc

  -- before the first table
  none_yet : (cs : List ChangeValue) → cs ≡ [] → AreChanges U E start d 0 cs
  none_yet [] e = record { has = tt; few = tt; turn = tt; found = λ i b l h. absurd (omega (arith, l)) }
  none_yet (c ∷ cs) e = absurd cc

  module _ (n : ℕ) (cs : List ChangeValue) (h : AreChanges U E start d n cs) where
    next_added : HasBound U E start n d (value_after n) → AreChanges U E start d (suc n) (cs ++ (n, value_after n) ∷ [])
    next_added here = record {
      has = each_push (λ c. HasBound U E start c.0 d c.1) cs (n, value_after n) h.has here;
      few = each_push (λ c. c.0 < suc n) cs (n, value_after n) (few_more n cs h.few) (omega arith);
      turn = turn_push n (value_after n) cs h.turn h.few;
      found = λ i b l k. elim (cases_eq i n) [
        | inl q ↦
            let is = (subst (λ x. HasBound U E start x d b) q k).is in
            subst (λ x. FoundBy x b (cs ++ (n, value_after n) ∷ [])) (sym q)
            (subst (λ w. FoundBy n w (cs ++ (n, value_after n) ∷ [])) is (found_here n (value_after n) cs))
        | inr q ↦ found_push i b cs (n, value_after n) (h.found i b (omega (arith, l, q)) k)
      ];
    }

    next_known : SomeTo (value_after n) cs → AreChanges U E start d (suc n) cs
    next_known s = record {
      has = h.has;
      few = few_more n cs h.few;
      turn = h.turn;
      found = λ i b l k. elim (cases_eq i n) [
        | inl q ↦
            let is = (subst (λ x. HasBound U E start x d b) q k).is in
            subst (λ x. FoundBy x b cs) (sym q)
            (subst (λ w. FoundBy n w cs) is (some_found n (value_after n) cs h.few s))
        | inr q ↦ h.found i b (omega (arith, l, q)) k
      ];
    }

    next_open : is_there n ≡ false → AreChanges U E start d (suc n) cs
    next_open e = record {
      has = h.has;
      few = few_more n cs h.few;
      turn = h.turn;
      found = λ i b l k. elim (cases_eq i n) [
        | inl q ↦
            let there = (subst (λ x. HasBound U E start x d b) q k).there in
            let yes : is_there n ≡ true =
            has_there (rounds_within U E start n d).sure (surely_lives E d) there in
            absurd (let z : true ≡ false = sym yes ∙ e in cc)
        | inr q ↦ h.found i b (omega (arith, l, q)) k
      ];
    }

    next_noted : is_there n ≡ true → (b : BoundValue) → b ≡ value_after n → (es : List ChangeValue)
        → IsNoted n b cs es → AreChanges U E start d (suc n) es
    next_noted t b e es (known s) = next_known (subst (λ w. SomeTo w cs) e s)
    next_noted t b e es added =
        let here : HasBound U E start n d (value_after n) = record {
          is = refl;
          there = there_has (rounds_within U E start n d).sure (surely_lives E d) t;
        } in
        subst (λ w. AreChanges U E start d (suc n) (cs ++ (n, w) ∷ [])) (sym e) (next_added here)

    next_changes : (t : Bool) → is_there n ≡ t → (b : BoundValue) → b ≡ value_after n → (es : List ChangeValue)
        → IsNotedIf t n b cs es → AreChanges U E start d (suc n) es
    next_changes true t b e es x = next_noted t b e es x
    next_changes false t b e es x = subst (AreChanges U E start d (suc n)) (sym x) (next_open t)

-- ---- those of all devices

module _ (U : Unfolding) (E : Envelope) (start : BoundTable) where
  pub all_none : (vs : List (Vec Change Global)) → length vs ≡ length E.devices → NoneNoted vs
      → AllChanges U E start 0 vs
  all_none vs m h i v l =
      none_yet U E start (device_at E i) (changes_in (get_or vs i v))
      (ap (map change_in) (h i v (omega (arith, l, m))))

  pub all_next : (n : ℕ) (bs : List FlatBound) (old new : List (Vec Change Global)) → length bs ≡ length E.devices
      → Stand U E (rounds_within U E start n) bs → AllChanges U E start n old
      → AreNoted E n bs (length E.devices) old new → AllChanges U E start (suc n) new
  all_next n bs old new m s h noted i v l = by_list bs refl
    where
      by_list : (es : List FlatBound) → bs ≡ es → AreChanges U E start (device_at E i) (suc n) (changes_in (get_or new i v))
      by_list [] q = absurd (omega (arith, l, m, ap length q))
      by_list (b ∷ es) q =
          let t = stand_at U E (rounds_within U E start n) bs s i b l in
          let sure : (get_or bs i b).sure ≡ (rounds_within U E start n (device_at E i)).sure =
          ap (λ (x : ExportBound). x.sure) t in
          next_changes U E start (device_at E i) n (changes_in (get_or old i v)) (h i v l)
          ((get_or bs i b).sure || not (surely_lives E (device_at E i)))
          (ap (λ x. x || not (surely_lives E (device_at E i))) (sym sure))
          (local_bound_in (get_or bs i b).value) (ap (λ (x : ExportBound). x.value) t) (changes_in (get_or new i v))
          (noted i b v l)

-- ---- one place more

module _ (E : Envelope) (j : ℕ) (bs : List FlatBound) (k : ℕ) (old now new : List (Vec Change Global))
    (done : AreNoted E j bs k old now) (ahead : (i : ℕ) (v : Vec Change Global) → k ≤ i → get_or now i v ≡ get_or old i v)
    (others : (i : ℕ) (v : Vec Change Global) → (i ≡ k → ⊥) → get_or new i v ≡ get_or now i v)
    (here : (b : FlatBound) (v : Vec Change Global)
    → IsNotedIf ((get_or bs k b).sure || not (surely_lives E (device_at E k))) j
    (local_bound_in (get_or bs k b).value) (changes_in (get_or now k v)) (changes_in (get_or new k v))) where
  pub noted_more : AreNoted E j bs (suc k) old new
  noted_more i b v l = elim (cases_eq i k) [
    | inl q ↦ subst (λ x. IsNotedIf ((get_or bs x b).sure || not (surely_lives E (device_at E x))) j
        (local_bound_in (get_or bs x b).value) (changes_in (get_or old x v)) (changes_in (get_or new x v))) (sym q)
        (subst (λ w. IsNotedIf ((get_or bs k b).sure || not (surely_lives E (device_at E k))) j
        (local_bound_in (get_or bs k b).value) (changes_in w) (changes_in (get_or new k v)))
        (ahead k v (omega arith)) (here b v))
    | inr q ↦ subst (λ w. IsNotedIf ((get_or bs i b).sure || not (surely_lives E (device_at E i))) j
        (local_bound_in (get_or bs i b).value) (changes_in (get_or old i v)) (changes_in w)) (sym (others i v q))
        (done i b v (omega (arith, l, q)))
  ]

module _ (E : Envelope) (j : ℕ) (bs : List FlatBound) (k : ℕ) (now : List (Vec Change Global)) (b0 : FlatBound)
    (within : k < length bs) (is : b0 ≡ get_or bs k b0) where
  abbrev flag_of : FlatBound → Bool
  flag_of b = b.sure || not (surely_lives E (device_at E k))

  -- the bound there is noted
  pub here_noted : flag_of b0 ≡ true → (v0 x : Vec Change Global) → k < length now
      → IsNoted j (local_bound_in b0.value) (changes_in (get_or now k v0)) (changes_in x) → (b : FlatBound) (v : Vec Change Global)
      → IsNotedIf (flag_of (get_or bs k b)) j (local_bound_in (get_or bs k b).value) (changes_in (get_or now k v))
      (changes_in (get_or (slice_set now k x) k v))
  here_noted t v0 x h noted b v =
      let same : b0 ≡ get_or bs k b = is ∙ get_or_default bs k b0 b within in
      let old : get_or now k v0 ≡ get_or now k v = get_or_default now k v0 v h in
      let new : get_or (slice_set now k x) k v ≡ x = get_or-set_same now k x v h in
      subst (λ y. IsNotedIf (flag_of y) j (local_bound_in y.value) (changes_in (get_or now k v))
      (changes_in (get_or (slice_set now k x) k v))) same
      (subst (λ u. IsNotedIf (flag_of b0) j (local_bound_in b0.value) (changes_in u)
      (changes_in (get_or (slice_set now k x) k v))) old
      (subst (λ z. IsNotedIf (flag_of b0) j (local_bound_in b0.value) (changes_in (get_or now k v0)) (changes_in z))
      (sym new) (subst (λ f. IsNotedIf f j (local_bound_in b0.value) (changes_in (get_or now k v0)) (changes_in x)) (sym t)
      noted)))

  -- nothing is
  pub here_open : flag_of b0 ≡ false → (b : FlatBound) (v : Vec Change Global)
      → IsNotedIf (flag_of (get_or bs k b)) j (local_bound_in (get_or bs k b).value) (changes_in (get_or now k v))
      (changes_in (get_or now k v))
  here_open t b v =
      let same : b0 ≡ get_or bs k b = is ∙ get_or_default bs k b0 b within in
      subst (λ f. IsNotedIf f j (local_bound_in (get_or bs k b).value) (changes_in (get_or now k v))
      (changes_in (get_or now k v))) (sym t ∙ ap flag_of same) refl
