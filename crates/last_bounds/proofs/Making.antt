-- What is said of one device more.
use Rattle.std.proofs.Common.{◌≡◌, ℕ, suc, ◌<◌, List, [], ◌∷◌, ◌++◌, length, get_or, sym, ◌∙◌, ap, subst, arith}
use Rattle.std.proofs.Common.{Bool, inl, inr}
use Rattle.std.specs.declared.alloc.Global.{Global}
use Rattle.std.specs.declared.vec.Vec.{Vec}
use Rattle.std.proofs.lemmas.Bool.{cases_eq}
use Rattle.std.proofs.lemmas.List.{get_or-map, get_or_default, get_or_push, get_or_append_left}
use Rattle.value_bounds.specs.BoundValues.{BoundValue}
use Rattle.value_bounds.specs.declared.bounds.LocalBound.{LocalBound}
use Rattle.value_bounds.specs.References.{local_bound_in, local_bounds_in}
use Rattle.bound_firing.specs.declared.firing.ExportBound.{ExportBound as FlatBound}
use Rattle.envelopes.specs.Envelopes.{Envelope, surely_lives}
use Rattle.bound_rounds.specs.Tables.{device_at}
use Rattle.last_bounds.specs.declared.changes.Change.{Change}
use Rattle.last_bounds.specs.declared.lasts.LastBound.{LastBound as FlatLast}
use Rattle.last_bounds.specs.References.{changes_in, IsMade, AreMade}

module _ (E : Envelope) (firsts : List LocalBound) (bs : List FlatBound) (vs : List (Vec Change Global)) (n k : ℕ) where
  -- that of the device at a place, out of what stands there
  pub made_at : (d : ℕ) (sure : Bool) (s : LocalBound) (b : FlatBound) (v : Vec Change Global) (l : FlatLast)
      → device_at E k ≡ d → sure ≡ surely_lives E (device_at E k) → s ≡ get_or firsts k s → k < length firsts
      → k < length bs → k < length vs
      → IsMade d sure (local_bound_in s) (local_bound_in (get_or bs k b).value) (changes_in (get_or vs k v)) n l
      → (a : BoundValue) (e : FlatBound) (w : Vec Change Global)
      → IsMade (device_at E k) (surely_lives E (device_at E k)) (get_or (local_bounds_in firsts) k a)
      (local_bound_in (get_or bs k e).value) (changes_in (get_or vs k w)) n l
  made_at d sure s b v l at live is hs hb hv made a e w =
      let first = ap local_bound_in is ∙ sym (get_or-map local_bound_in firsts k s a hs) in
      let bound = get_or_default bs k b e hb in
      let change = get_or_default vs k v w hv in
      subst (λ z. IsMade (device_at E k) (surely_lives E (device_at E k)) (get_or (local_bounds_in firsts) k a)
      (local_bound_in (get_or bs k e).value) (changes_in z) n l) change
      (subst (λ (z : FlatBound). IsMade (device_at E k) (surely_lives E (device_at E k))
      (get_or (local_bounds_in firsts) k a) (local_bound_in z.value) (changes_in (get_or vs k v)) n l) bound
      (subst (λ z. IsMade (device_at E k) (surely_lives E (device_at E k)) z
      (local_bound_in (get_or bs k b).value) (changes_in (get_or vs k v)) n l) first
      (subst (λ z. IsMade (device_at E k) z (local_bound_in s) (local_bound_in (get_or bs k b).value)
      (changes_in (get_or vs k v)) n l) live
      (subst (λ z. IsMade z sure (local_bound_in s) (local_bound_in (get_or bs k b).value)
      (changes_in (get_or vs k v)) n l) (sym at) made))))

  pub made_more : (ls : List FlatLast) (x : FlatLast) → length ls ≡ k
      → AreMade E (local_bounds_in firsts) bs vs n k ls
      → ((a : BoundValue) (e : FlatBound) (w : Vec Change Global)
      → IsMade (device_at E k) (surely_lives E (device_at E k)) (get_or (local_bounds_in firsts) k a)
      (local_bound_in (get_or bs k e).value) (changes_in (get_or vs k w)) n x)
      → AreMade E (local_bounds_in firsts) bs vs n (suc k) (ls ++ x ∷ [])
  made_more ls x long made here i a e w l h = elim (cases_eq i k) [
    | inl q ↦ subst (IsMade (device_at E i) (surely_lives E (device_at E i)) (get_or (local_bounds_in firsts) i a)
        (local_bound_in (get_or bs i e).value) (changes_in (get_or vs i w)) n)
        (sym (get_or_push ls x l i (long ∙ sym q)))
        (subst (λ p. IsMade (device_at E p) (surely_lives E (device_at E p)) (get_or (local_bounds_in firsts) p a)
        (local_bound_in (get_or bs p e).value) (changes_in (get_or vs p w)) n x) (sym q) (here a e w))
    | inr q ↦ subst (IsMade (device_at E i) (surely_lives E (device_at E i)) (get_or (local_bounds_in firsts) i a)
        (local_bound_in (get_or bs i e).value) (changes_in (get_or vs i w)) n)
        (sym (get_or_append_left ls (x ∷ []) l i (omega (arith, h, q, long)))) (made i a e w l (omega (arith, h, q)))
  ]
