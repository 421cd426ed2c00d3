-- A begin that nothing answers is a flight, with the copy that was taken there.
use Rattle.std.proofs.Common.{◌≡◌, ◌⊎◌, ⊎_elim, ℕ, zero, suc, ◌+◌, ◌<◌, List, [], ◌∷◌, ◌++◌, map, take, length, refl, sym, ap, ◌∙◌, subst, inl, inr, arith, Option, Some, None, if◌then◌else◌, length-append}
use Rattle.std.proofs.lemmas.Option.{none-some}
use Rattle.std.proofs.lemmas.Bool.{eq-eqb, ne_eqb}
use Rattle.std.proofs.lemmas.List.{append_assoc, append-nil, map-append}
use mathlib.Core.Logic.{dite}
use native.Mathlib.Decide.{ℕ_discrete}
use mathlib.Core.Option.{some, some-injective, some-ne-none}
use lib.ListN.{get_elem?}
use Rattle.fc_values.specs.Trees.{Copy}
use Rattle.fc_nodes.specs.Program.{Unfolding}
use Rattle.turn_lock.specs.Logs.{IsUnanswered}
use Rattle.firing_core.specs.Entries.{EditValue, EntryValue, BeginEntry, EndEntry, IdleEntry, EditEntry}
use Rattle.firing_core.specs.Cores.{Core, Step, Run, IsGood, copy_of}
use Rattle.firing_core.specs.Rounds.{HasEnd}
use Rattle.firing_core.specs.Laws.{FlightsStay, RunsCut}
use Rattle.export_table.specs.Items.{Opening, ItemValue, OpeningItem, WrittenItem, items_of}
use Rattle.export_table.specs.Answers.{after_item, begun_from, last_begin, item_answers, item_at, answers}

-- ---- lists of items

entry_or : EntryValue → ItemValue → EntryValue
entry_or e (OpeningItem o) = e
entry_or e (WrittenItem x) = x

written_same : (x y : EntryValue) → WrittenItem x ≡ WrittenItem y → x ≡ y
unfolding entry_or
written_same x y e = ap (entry_or x) e

pub cut_at : (log : List EntryValue) (p : ℕ) (e : EntryValue) → get_elem? (map WrittenItem log) p ≡ some (WrittenItem e) → (front : List EntryValue) × (rest : List EntryValue) × (log ≡ front ++ e ∷ rest) × (length front ≡ p)
cut_at [] p e is = absurd (some-ne-none (WrittenItem e) (sym is))
cut_at (x ∷ xs) zero e is = ([], xs, ap (λ y. y ∷ xs) (written_same x e (some-injective (WrittenItem x) (WrittenItem e) is)), refl)
cut_at (x ∷ xs) (suc p) e is = let t = cut_at xs p e is in (x ∷ t.0, t.1, ap (λ l. x ∷ l) t.2, omega (arith, t.3))

begun_snoc : (d n : ℕ) (was : Option ℕ) (xs : List ItemValue) (x : ItemValue) → begun_from d n was (xs ++ x ∷ []) ≡ after_item d (n + length xs) (begun_from d n was xs) x
begun_snoc d n was [] x = let e : n ≡ n + 0 = omega arith in ap (λ k. after_item d k was x) e
begun_snoc d n was (y ∷ ys) x = let e : (n + 1) + length ys ≡ n + length (y ∷ ys) = omega arith in
    begun_snoc d (n + 1) (after_item d n was y) ys x ∙ ap (λ k. after_item d k (begun_from d (n + 1) (after_item d n was y) ys) x) e

last_snoc : (d : ℕ) (o : Opening) (pre : List EntryValue) (x : EntryValue) → last_begin d (items_of o (pre ++ x ∷ [])) ≡ after_item d (suc (length pre)) (last_begin d (items_of o pre)) (WrittenItem x)
last_snoc d o pre x = ap (λ l. last_begin d (OpeningItem o ∷ l)) (map-append WrittenItem pre (x ∷ []))
    ∙ (begun_snoc d 0 None (items_of o pre) (WrittenItem x) ∙ ap (λ k. after_item d k (last_begin d (items_of o pre)) (WrittenItem x)) (omega (arith, length-map pre)))
  where
    length-map : (l : List EntryValue) → length (map WrittenItem l) ≡ length l
    length-map [] = refl
    length-map (y ∷ ys) = omega (arith, length-map ys)

item_here : (xs : List ItemValue) (x : ItemValue) (ys : List ItemValue) → item_at (xs ++ x ∷ ys) (length xs) ≡ Some x
item_here [] x ys = refl
item_here (z ∷ xs) x ys = item_here xs x ys

pub take_all : {A : Type 0} (xs ys : List A) → take (length xs) (xs ++ ys) ≡ xs
take_all [] ys = refl
take_all (x ∷ xs) ys = ap (λ l. x ∷ l) (take_all xs ys)

pub answers_here : (xs : List ItemValue) (x : ItemValue) (ys : List ItemValue) → answers (xs ++ x ∷ ys) (length xs) ≡ item_answers xs (Some x)
answers_here xs x ys = λ i. item_answers (take_all xs (x ∷ ys) i) (item_here xs x ys i)

-- ---- ends

end_snoc : (d : ℕ) (es : List EntryValue) (x : EntryValue) → HasEnd d (es ++ x ∷ []) → HasEnd d es ⊎ (x ≡ EndEntry d)
end_snoc d [] x (inl e) = inr e
end_snoc d [] x (inr n) = absurd n
end_snoc d (y ∷ ys) x (inl e) = inl (inl e)
end_snoc d (y ∷ ys) x (inr n) = ⊎_elim (λ h. inl (inr h)) (λ e. inr e) (end_snoc d ys x n)

device_of : EntryValue → ℕ
device_of (BeginEntry d) = d
device_of (EndEntry d) = d
device_of IdleEntry = 0
device_of (EditEntry e) = 0

is_end : EntryValue → Type 0
is_end (BeginEntry d) = ⊥
is_end (EndEntry d) = Unit {0}
is_end IdleEntry = ⊥
is_end (EditEntry e) = ⊥

pub begin_not_end : (e d : ℕ) → BeginEntry e ≡ EndEntry d → ⊥
unfolding is_end
begin_not_end e d p = subst is_end (sym p) tt

pub idle_not_end : (d : ℕ) → IdleEntry ≡ EndEntry d → ⊥
unfolding is_end
idle_not_end d p = subst is_end (sym p) tt

pub edit_not_end : (x : EditValue) (d : ℕ) → EditEntry x ≡ EndEntry d → ⊥
unfolding is_end
edit_not_end x d p = subst is_end (sym p) tt

same_end : (e d : ℕ) → EndEntry e ≡ EndEntry d → e ≡ d
unfolding device_of
same_end e d p = ap device_of p

module _ (U : Unfolding) (o : Opening) (start core : Core) (good : IsGood U start) (flights : FlightsStay) (cuts : RunsCut) (front : List EntryValue) (before : Core) (led : Run U start front before) (d : ℕ) where
  abbrev Open : List EntryValue → Type 0
  Open log = IsUnanswered answers (items_of o log) (suc (length front))

  -- the copy that the begin takes
  abbrev Taken : Option Copy
  Taken = Some (copy_of before.net before.exports d)

  flies_after : (mid : List EntryValue) (c : Core) → (HasEnd d mid → ⊥) → Run U start (front ++ BeginEntry d ∷ mid) c → c.flying d ≡ Taken
  flies_after mid c none run = flights U start before c front mid d good led run none

  -- no end of the device follows, and no begin of it
  stays_open : (mid tail : List EntryValue) → (HasEnd d mid → ⊥) → last_begin d (items_of o (front ++ BeginEntry d ∷ mid)) ≡ Some (suc (length front)) → Open ((front ++ BeginEntry d ∷ mid) ++ tail)
      → Run U start ((front ++ BeginEntry d ∷ mid) ++ tail) core
      → (HasEnd d tail → ⊥) × (last_begin d (items_of o ((front ++ BeginEntry d ∷ mid) ++ tail)) ≡ Some (suc (length front)))
  stays_open mid [] none last free run = ((λ h. h), ap (λ l. last_begin d (items_of o l)) (append-nil (front ++ BeginEntry d ∷ mid)) ∙ last)
  stays_open mid (x ∷ xs) none last free run = by_entry x refl
      (λ other keeps. let r = stays_open (mid ++ x ∷ []) xs (λ t. ⊎_elim none other (end_snoc d mid x t))
      (ap (λ l. last_begin d (items_of o l)) (sym more) ∙ (last_snoc d o (front ++ BeginEntry d ∷ mid) x ∙ (ap (λ w. after_item d (suc (length (front ++ BeginEntry d ∷ mid))) w (WrittenItem x)) last ∙ keeps)))
      (subst Open shift free) (subst (λ l. Run U start l core) shift run) in
      ((λ h. ⊎_elim (λ e. absurd (other e)) r.0 h), ap (λ l. last_begin d (items_of o l)) shift ∙ r.1))
    where
      pre : List EntryValue
      pre = front ++ BeginEntry d ∷ mid

      more : pre ++ x ∷ [] ≡ front ++ BeginEntry d ∷ (mid ++ x ∷ [])
      more = append_assoc front (BeginEntry d ∷ mid) (x ∷ [])

      shift : pre ++ x ∷ xs ≡ (front ++ BeginEntry d ∷ (mid ++ x ∷ [])) ++ xs
      shift = sym (append_assoc pre (x ∷ []) xs) ∙ ap (λ l. l ++ xs) more

      split : (middle : Core) × Run U start pre middle × Run U middle (x ∷ xs) core
      split = (cuts U start core pre (x ∷ xs)).0 run

      flown : split.0.flying d ≡ Taken
      flown = flies_after mid split.0 none split.1

      answered : (e : ℕ) → x ≡ EndEntry e → e ≡ d → ⊥
      answered e is same = free (length (items_of o pre))
          (subst (λ l. length (items_of o pre) < length l) (sym items) (let l = length-append (items_of o pre) (WrittenItem x ∷ map WrittenItem xs) in omega (arith, l)))
          (subst (λ l. answers l (length (items_of o pre)) ≡ Some (suc (length front))) (sym items)
          (answers_here (items_of o pre) (WrittenItem x) (map WrittenItem xs) ∙ (ap (λ y. item_answers (items_of o pre) (Some (WrittenItem y))) is ∙ (ap (λ k. last_begin k (items_of o pre)) same ∙ last))))
        where
          items : items_of o (pre ++ x ∷ xs) ≡ items_of o pre ++ WrittenItem x ∷ map WrittenItem xs
          items = ap (λ l. OpeningItem o ∷ l) (map-append WrittenItem pre (x ∷ xs))

      by_entry : {X : Type 0} → (y : EntryValue) → x ≡ y
          → ((x ≡ EndEntry d → ⊥) → after_item d (suc (length pre)) (Some (suc (length front))) (WrittenItem x) ≡ Some (suc (length front)) → X) → X
      by_entry (BeginEntry e) is go = dite (ℕ_discrete e d)
          (λ same. absurd (none-some (copy_of before.net before.exports d) (sym (begins e is same) ∙ flown)))
          (λ other. go (λ t. begin_not_end e d (sym is ∙ t)) (ap (λ z. after_item d (suc (length pre)) (Some (suc (length front))) (WrittenItem z)) is ∙ ap (λ b. if b then Some (suc (length pre)) else Some (suc (length front))) (ne_eqb e d other)))
        where
          begins : (e : ℕ) → x ≡ BeginEntry e → e ≡ d → split.0.flying d ≡ None
          begins e is same = ap split.0.flying (sym same) ∙ (subst (λ z. (next : Core) × Step U split.0 z next × Run U next xs core) is split.2).1.1
      by_entry (EndEntry e) is go = dite (ℕ_discrete e d) (λ same. absurd (answered e is same))
          (λ other. go (λ t. other (same_end e d (sym is ∙ t))) (ap (λ z. after_item d (suc (length pre)) (Some (suc (length front))) (WrittenItem z)) is))
      by_entry IdleEntry is go = go (λ t. idle_not_end d (sym is ∙ t)) (ap (λ z. after_item d (suc (length pre)) (Some (suc (length front))) (WrittenItem z)) is)
      by_entry (EditEntry e) is go = go (λ t. edit_not_end e d (sym is ∙ t)) (ap (λ z. after_item d (suc (length pre)) (Some (suc (length front))) (WrittenItem z)) is)

  opened : (rest : List EntryValue) → Open (front ++ BeginEntry d ∷ rest) → Run U start (front ++ BeginEntry d ∷ rest) core
      → (HasEnd d rest → ⊥) × (last_begin d (items_of o (front ++ BeginEntry d ∷ rest)) ≡ Some (suc (length front)))
  opened rest free run = let r = stays_open [] rest (λ t. t) began (subst Open same free) (subst (λ l. Run U start l core) same run) in (r.0, ap (λ l. last_begin d (items_of o l)) same ∙ r.1)
    where
      same : front ++ BeginEntry d ∷ rest ≡ (front ++ BeginEntry d ∷ []) ++ rest
      same = sym (append_assoc front (BeginEntry d ∷ []) rest)

      began : last_begin d (items_of o (front ++ BeginEntry d ∷ [])) ≡ Some (suc (length front))
      began = last_snoc d o front (BeginEntry d) ∙ ap (λ b. if b then Some (suc (length front)) else last_begin d (items_of o front)) (eq-eqb d d refl)

  -- so the device flies, with the copy of that begin
  pub open_flies : (rest : List EntryValue) → Open (front ++ BeginEntry d ∷ rest) → Run U start (front ++ BeginEntry d ∷ rest) core → core.flying d ≡ Taken
  open_flies rest free run = flies_after rest core (opened rest free run).0 run

  -- and that begin is its last one
  pub open_last : (rest : List EntryValue) → Open (front ++ BeginEntry d ∷ rest) → Run U start (front ++ BeginEntry d ∷ rest) core → last_begin d (items_of o (front ++ BeginEntry d ∷ rest)) ≡ Some (suc (length front))
  open_last rest free run = (opened rest free run).1
