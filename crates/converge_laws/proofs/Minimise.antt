-- The body of the minimising pattern: from a stage of what is heard to the next stage of the result.
use Rattle.std.proofs.Common.{◌≡◌, ℕ, suc, ◌≤◌, ◌<◌, ◌+◌, List, [], ◌∷◌, length, get_or, refl, sym, ◌∙◌, ap, subst, arith, inl, inr, Bool, true, false, Some, nat_eq, nat_lt, min}
use Rattle.std.specs.Prelude.{if◌then◌else◌}
use Rattle.std.proofs.lemmas.List.{length-map}
use Rattle.std.proofs.lemmas.Bool.Decides.{nat_tests}
use Rattle.fc_values.specs.Types.{LocalType, ValueType, TypeLocal, TypeField}
use Rattle.fc_values.specs.Values.{LocalValue, IntValue, Fits, compare_values, is_less, lesser}
use Rattle.fc_values.specs.Fields.{Entries, AnyValue, ValueLocal, ValueField, devices, device_of, rises, AllFit, FitsOver}
use Rattle.fc_values.specs.Builtins.{others, least_of, builtin_value}
use Rattle.fc_values.specs.BuiltinTypes.{inner}
use Rattle.fc_values.specs.Positions.{argument_nth}
use Rattle.fc_nodes.specs.Terms.{Evolution, Term, Apply, NoMore, More, term_type}
use Rattle.fc_nodes.specs.Variables.{occurs}
use Rattle.growth_facts.specs.Leads.{lead, Close}
use Rattle.growth_facts.specs.Beside.{IsPart, FieldPair, Beside, apart, heard, joined, no_more, one_more}
use Rattle.growth_facts.proofs.Closeness.{lesser_close}
use Rattle.growth_facts.specs.Growth.{Grows, growth_of}
use Rattle.interval_facts.specs.Ranges.{RangeValue, LiesIn}
use Rattle.growth_facts.proofs.FieldPairs.{field_nth}
use Rattle.growth_facts.proofs.Grow.{heard_uses, apply_not_heard, both_fit, above_law, same_law}
use Rattle.fc_values.specs.declared.builtins.Builtin.TheVariants as op

pub lesser_fits : (m : ℕ) (s : LocalType) (a b : LocalValue) → Fits m s a → Fits m s b → Fits m s (lesser a b)
lesser_fits m s a b f g = by_test (is_less (compare_values b a))
  where
    by_test : (c : Bool) → Fits m s (if c then b else a)
    by_test true = g
    by_test false = f

-- the least of two fields and local values that are close
pub least_close : (k m d : ℕ) (s : LocalType) (es fs : Entries) (l l' : LocalValue) → devices es ≡ devices fs → AllFit m s es → AllFit m s fs → Fits m s l → Fits m s l' → Close k l l'
    → ((i : ℕ) → i < length es → Close k (get_or es i (0, IntValue 0)).1 (get_or fs i (0, IntValue 0)).1) → Close k (least_of l (others d es)) (least_of l' (others d fs))
least_close k m d s [] [] l l' q h h' f f' c at = c
least_close k m d s [] (y ∷ fs) l l' q h h' f f' c at = absurd cc
least_close k m d s (x ∷ es) [] l l' q h h' f f' c at = absurd cc
least_close k m d s (x ∷ es) (y ∷ fs) l l' q h h' f f' c at =
    let first : x.0 ≡ y.0 = cc in
    let rest : devices es ≡ devices fs = cc in
    by_test (nat_eq x.0 d) refl first
    (least_close k m d s es fs l l' rest h.1 h'.1 f f' c (λ i u. at (suc i) (omega (arith, u))))
    (least_close k m d s es fs (lesser l x.1) (lesser l' y.1) rest h.1 h'.1 (lesser_fits m s l x.1 f h.0) (lesser_fits m s l' y.1 f' h'.0) (lesser_close k m s l l' x.1 y.1 f f' h.0 h'.0 c (at 0 (omega arith))) (λ i u. at (suc i) (omega (arith, u))))
  where
    by_test : (b : Bool) → nat_eq x.0 d ≡ b → x.0 ≡ y.0 → Close k (least_of l (others d es)) (least_of l' (others d fs)) → Close k (least_of (lesser l x.1) (others d es)) (least_of (lesser l' y.1) (others d fs))
        → Close k (least_of l (others d (x ∷ es))) (least_of l' (others d (y ∷ fs)))
    by_test true t z u v = let t' : nat_eq y.0 d ≡ true = subst (λ n. nat_eq n d ≡ true) z t in rw (t, t') u
    by_test false t z u v = let t' : nat_eq y.0 d ≡ false = subst (λ n. nat_eq n d ≡ false) z t in rw (t, t') v

pub record Hood (d : ℕ) (h l : AnyValue) (r : LocalValue) : Type 0 where
  pub entries : Entries
  pub own : LocalValue
  pub field : h ≡ ValueField entries
  pub local : l ≡ ValueLocal own
  pub result : least_of own (others d entries) ≡ r

pub hood_is : (m d : ℕ) (h l : AnyValue) (r : LocalValue) → builtin_value op.MinHoodLoc m d (h ∷ l ∷ []) ≡ Some (ValueLocal r) → Hood d h l r
hood_is m d (ValueField es) (ValueLocal l) r e = record { entries = es; own = l; field = refl; local = refl; result = cc }
hood_is m d (ValueField es) (ValueField fs) r e = absurd cc
hood_is m d (ValueLocal v) l r e = absurd cc

module _ (m d k c : ℕ) (ds : List ℕ) (e : Evolution) (x : ℕ) (f : ℕ → LocalValue) (rs : ℕ → RangeValue) (rising : rises ds ≡ true) where
  -- close to the solution's value at the device
  abbrev pub NearTo : ℕ → LocalValue → LocalValue → Type 0
  NearTo n v w = Close k v w × (w ≡ f n)

  abbrev Near : AnyValue → AnyValue → Type 0
  Near = FieldPair NearTo

  abbrev Part : ℕ → Term → AnyValue → Type 0
  Part = IsPart m ds rs

  part : (p : ℕ) (h : Term) (w : AnyValue) → Part p h w → FitsOver m ds (term_type h) w × LiesIn (rs p) w
  part p h w z = z

  -- an entry of what grows by c
  entry_close : (p : ℕ) (h : Term) (v w : AnyValue) → Beside m d ds e x Near Part p h v w → growth_of m rs e x p h ≡ Grows c → (i : ℕ) → i < length ds → Close (min m (k + c)) (argument_nth i v) (argument_nth i w)
  entry_close p h v w b g i l = by_test (nat_lt (lead (f (get_or ds i 0))) k) refl
    where
      close_same : (a z : LocalValue) → NearTo (get_or ds i 0) a z → lead (f (get_or ds i 0)) < k → a ≡ z
      close_same a z n u = by_case n.0
        where
          by_case : Close k a z → a ≡ z
          by_case (inl q) = q
          by_case (inr q) = let q' = ap lead n.1 in absurd (omega (arith, q.1, q', u))

      close_high : (a z : LocalValue) → NearTo (get_or ds i 0) a z → k ≤ lead (f (get_or ds i 0)) → (k ≤ lead a) × (k ≤ lead z)
      close_high a z n u = by_case n.0
        where
          q' : lead z ≡ lead (f (get_or ds i 0))
          q' = ap lead n.1

          by_case : Close k a z → (k ≤ lead a) × (k ≤ lead z)
          by_case (inl q) = let s = ap lead q in (omega (arith, s, q', u), omega (arith, q', u))
          by_case (inr q) = q

      by_test : (b : Bool) → nat_lt (lead (f (get_or ds i 0))) k ≡ b → Close (min m (k + c)) (argument_nth i v) (argument_nth i w)
      by_test true q = inl (same_law m d ds e x Near Part rs rising part i k l (λ v w t n g g'. close_same (argument_nth i v) (argument_nth i w) (field_nth NearTo m ds t v w i l n g) (grind (arith, q, nat_tests))) b c g)
      by_test false q = inr (above_law m d ds e x Near Part rs rising part i k l (λ v w t n g g'. close_high (argument_nth i v) (argument_nth i w) (field_nth NearTo m ds t v w i l n g) (grind (arith, q, nat_tests))) b c g)

  apart_is : {p : ℕ} {h : Term} {v w : AnyValue} → Beside m d ds e x Near Part p h v w → occurs x h ≡ false → v ≡ w
  apart_is (apart p h o q z) n = q
  apart_is (heard p h o z g g') n = let u = heard_uses e x h o in absurd cc
  apart_is (joined p t o xs vs ws rule u b q q') n = absurd cc

  hoods_close : (s : LocalType) (hv lv hw lw : AnyValue) (r z : LocalValue) (th tl : ValueType) → Hood d hv lv r → Hood d hw lw z → lv ≡ lw → FitsOver m ds th hv → FitsOver m ds th hw → FitsOver m ds tl lv → inner th ≡ inner tl
      → ((i : ℕ) → i < length ds → Close (min m (k + c)) (argument_nth i hv) (argument_nth i hw)) → Close (min m (k + c)) r z
  hoods_close s hv lv hw lw r z (TypeField t) (TypeLocal u) a b q f f' g tt' at =
      let same : t ≡ u = tt' in
      let fe : (devices a.entries ≡ ds) × AllFit m t a.entries = subst (FitsOver m ds (TypeField t)) a.field f in
      let ff : (devices b.entries ≡ ds) × AllFit m t b.entries = subst (FitsOver m ds (TypeField t)) b.field f' in
      let own : a.own ≡ b.own = let q1 : ValueLocal a.own ≡ ValueLocal b.own = sym a.local ∙ q ∙ b.local in cc in
      let fo : Fits m t a.own = subst (λ y. Fits m y a.own) (sym same) (subst (FitsOver m ds (TypeLocal u)) a.local g) in
      let long = ap length fe.0 in
      let near : (i : ℕ) → i < length a.entries → Close (min m (k + c)) (get_or a.entries i (0, IntValue 0)).1 (get_or b.entries i (0, IntValue 0)).1 = λ i l.
      subst (λ y. Close (min m (k + c)) (get_or a.entries i (0, IntValue 0)).1 (argument_nth i y)) b.field (subst (λ y. Close (min m (k + c)) (argument_nth i y) (argument_nth i hw)) a.field (at i (omega (arith, l, long, length-map a.entries device_of)))) in
      let c' = least_close (min m (k + c)) m d t a.entries b.entries a.own b.own (fe.0 ∙ sym ff.0) fe.1 ff.1 fo (subst (Fits m t) own fo) (inl own) near in
      subst (λ y. Close (min m (k + c)) y z) a.result (subst (λ y. Close (min m (k + c)) (least_of a.own (others d a.entries)) y) b.result c')
  hoods_close s hv lv hw lw r z (TypeLocal t) tl a b q f f' g tt' at = let f1 : FitsOver m ds (TypeLocal t) (ValueField a.entries) = subst (FitsOver m ds (TypeLocal t)) a.field f in absurd f1
  hoods_close s hv lv hw lw r z (TypeField t) (TypeField u) a b q f f' g tt' at = let g1 : FitsOver m ds (TypeField u) (ValueLocal a.own) = subst (FitsOver m ds (TypeField u)) a.local g in absurd g1

  -- the minimising body
  pub grows : (p : ℕ) (t : ValueType) (h l : Term) (r z : LocalValue) → occurs x l ≡ false → growth_of m rs e x (suc p) h ≡ Grows c → inner (term_type h) ≡ inner (term_type l)
      → Beside m d ds e x Near Part p (Apply t op.MinHoodLoc (More h (More l NoMore))) (ValueLocal r) (ValueLocal z) → Close (min m (k + c)) r z
  grows p t h l r z o g ty (apart p' h' o' q k') = inl (let q' : ValueLocal r ≡ ValueLocal z = q in cc)
  grows p t h l r z o g ty (heard p' h' o' n f1 f2) = absurd (apply_not_heard e x t op.MinHoodLoc (More h (More l NoMore)) o')
  grows p t h l r z o g ty (joined p' t' o' xs vs ws rule u (one_more p1 h1 ts hv hw vs1 ws1 bh (one_more p2 l1 ts2 lv lw vs2 ws2 bl (no_more p3))) q q') =
      let fh = both_fit m d ds e x Near Part rs rising part bh in
      let fl = both_fit m d ds e x Near Part rs rising part bl in
      hoods_close (inner t) hv lv hw lw r z (term_type h) (term_type l) (hood_is m d hv lv r q) (hood_is m d hw lw z q') (apart_is bl o) fh.0 fh.1 fl.0 ty (entry_close (suc p) h hv hw bh g)
