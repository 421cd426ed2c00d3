-- The firings of a round, one device after another.
use Rattle.std.proofs.Common.{◌≡◌, ℕ, suc, ◌<◌, List, length, get_or, get_or-set_same, get_or-set_other, sym, ◌∙◌}
use Rattle.std.proofs.Common.{subst, arith, Bool, true, false, ◌⊎◌, inl, inr}
use Rattle.std.specs.Prelude.{slice_set}
use Rattle.std.proofs.lemmas.Bool.{cases_eq}
use Rattle.std.proofs.lemmas.List.{length-set}
use Rattle.std.proofs.lemmas.List.Elements.{All-set}
use Rattle.fc_nodes.specs.Program.{Unfolding}
use Rattle.fc_nodes.specs.Terms.{kept}
use Rattle.bound_firing.specs.declared.firing.ExportBound.{ExportBound as FlatBound}
use Rattle.bound_firing.specs.ExportReferences.{export_bound_in}
use Rattle.envelopes.specs.Envelopes.{Envelope}
use Rattle.bound_rounds.specs.declared.rounds.RoundKind.{RoundKind}
use Rattle.bound_rounds.specs.Rounds.{BoundTable, next_within}
use Rattle.bound_rounds.specs.Tables.{device_at, Stand, FitTable, AreDue, IsFired, AreFired}
use Rattle.bound_rounds.proofs.Standing.{stand_at}

module _ (k : RoundKind) (U : Unfolding) (E : Envelope) (table : BoundTable) where
  -- one device more
  pub fired_more : (changed : List Bool) (drafts more : List FlatBound) (n : ℕ) (c : Bool) → n < length changed
      → AreFired k U E table changed drafts n
      → ((i : ℕ) (x : FlatBound) → i < n → get_or more i x ≡ get_or drafts i x)
      → ((x : FlatBound) → IsFired k U E table (device_at E n) c (get_or more n x))
      → AreFired k U E table (slice_set changed n c) more (suc n)
  fired_more changed drafts more n c h before same next i x l = by_place (cases_eq i n)
    where
      by_place : (i ≡ n) ⊎ (i ≡ n → ⊥) → IsFired k U E table (device_at E i) (get_or (slice_set changed n c) i false)
          (get_or more i x)
      by_place (inl e) =
          let q = get_or-set_same changed n c false h in
          subst (λ p. IsFired k U E table (device_at E p) (get_or (slice_set changed n c) p false) (get_or more p x))
          (sym e) (subst (λ b. IsFired k U E table (device_at E n) b (get_or more n x)) (sym q) (next x))
      by_place (inr other) =
          let q = get_or-set_other changed n i c false other in
          let below : i < n = omega (arith, l, other) in
          subst (λ b. IsFired k U E table (device_at E i) b (get_or more i x)) (sym q)
          (subst (λ b. IsFired k U E table (device_at E i) (get_or changed i false) b) (sym (same i x below))
          (before i x below))

  -- a device that isn't due stays
  pub stays_fired : (due : List Bool) (n : ℕ) → AreDue k U E table due → n < length E.devices
      → get_or due n true ≡ false → (x : FlatBound) → IsFired k U E table (device_at E n) false x
  stays_fired due n d h e x =
      record { same = λ q. d.same n h e; other = λ q. absurd cc; next = λ q. absurd cc }

  -- one whose draft is made
  pub is_fired : (xs : List FlatBound) (n : ℕ) (c : Bool) (x : FlatBound) → Stand U E table xs → n < length E.devices
      → export_bound_in U x ≡ next_within k U E table (device_at E n)
      → (c ≡ false → export_bound_in U x ≡ export_bound_in U (get_or xs n x))
      → (c ≡ true → export_bound_in U x ≡ export_bound_in U (get_or xs n x) → ⊥)
      → IsFired k U E table (device_at E n) c x
  is_fired xs n c x s h e q r = record {
    same = λ f. sym e ∙ q f ∙ stand_at U E table xs s n x h;
    other = λ t m. r t (e ∙ m ∙ sym (stand_at U E table xs s n x h));
    next = λ f. e;
  }

-- with another draft of as many slots
pub fit_set : (U : Unfolding) (E : Envelope) (xs : List FlatBound) (k : ℕ) (x : FlatBound) → FitTable U E xs
    → length x.slots.items ≡ kept U.main → FitTable U E (slice_set xs k x)
fit_set U E xs k x f e = record {
  many = length-set xs k x ∙ f.many;
  slots = All-set (λ (b : FlatBound). length b.slots.items ≡ kept U.main) xs k x e f.slots;
}
