-- Crates above cite this module: runs that are cut and joined.
use Rattle.std.proofs.Common.{◌≡◌, ◌↔◌, inl, inr, List, [], ◌∷◌, ◌++◌, refl, sym, ◌∙◌, ap, subst, Bool, true, false}
use Rattle.fc_values.proofs.Booleans.{or_no}
use Rattle.fc_nodes.specs.Program.{Unfolding}
use Rattle.firing_core.specs.Entries.{EntryValue, BeginEntry, EndEntry, IdleEntry, EditEntry}
use Rattle.firing_core.specs.Cores.{Core, Step, Run}
use Rattle.firing_core.specs.Rounds.{is_edit, has_edit, after_edit}
use Rattle.firing_core.specs.Laws.{EndsInEdit, CutAtEdit}

-- a run that is cut
pub record Cut (U : Unfolding) (c last : Core) (front rest : List EntryValue) : Type 0 where
  pub middle : Core
  pub first : Run U c front middle
  pub second : Run U middle rest last

pub run_cut : (U : Unfolding) (c last : Core) (front rest : List EntryValue) → Run U c (front ++ rest) last → Cut U c last front rest
run_cut U c last [] rest r = record { middle = c; first = refl; second = r }
run_cut U c last (e ∷ es) rest r =
    let k = run_cut U r.0 last es rest r.2 in
    record { middle = k.middle; first = (r.0, r.1, k.first); second = k.second }

pub run_join : (U : Unfolding) (a b c : Core) (xs ys : List EntryValue) → Run U a xs b → Run U b ys c → Run U a (xs ++ ys) c
run_join U a b c [] ys r s = subst (λ (k : Core). Run U k ys c) r s
run_join U a b c (x ∷ xs) ys r s = (r.0, r.1, run_join U r.0 b c xs ys r.2 s)

pub run_parts : (U : Unfolding) (c last : Core) (front rest : List EntryValue)
    → (Run U c (front ++ rest) last ↔ ((middle : Core) × Run U c front middle × Run U middle rest last))
run_parts U c last front rest = (
  λ r. let k = run_cut U c last front rest r in (k.middle, k.first, k.second),
  λ p. run_join U c p.0 last front rest p.1 p.2,
)

-- ---- logs without an edit

plain_step : (U : Unfolding) (c next : Core) (e : EntryValue) → is_edit e ≡ false → Step U c e next → next.net ≡ c.net
plain_step U c next (BeginEntry d) q s = ap (λ (k : Core). k.net) s.2
plain_step U c next (EndEntry d) q s = ap (λ (k : Core). k.net) s.after
plain_step U c next IdleEntry q s = ap (λ (k : Core). k.net) s
plain_step U c next (EditEntry e) q s = absurd cc

pub plain_net : (U : Unfolding) (c last : Core) (log : List EntryValue) → has_edit log ≡ false → Run U c log last → last.net ≡ c.net
plain_net U c last [] q r = ap (λ (k : Core). k.net) r
plain_net U c last (e ∷ es) q r =
    let p = or_no (is_edit e) (has_edit es) q in
    plain_net U r.0 last es p.1 r.2 ∙ plain_step U c r.0 e p.0 r.1

-- ---- the part after the last edit

record Suffix (log : List EntryValue) : Type 0 where
  front : List EntryValue
  cut : log ≡ front ++ after_edit log
  edit : EndsInEdit front
  plain : has_edit (after_edit log) ≡ false

-- one more entry in front of a part that ends in an edit, where it isn't empty
longer : (e : EntryValue) (front : List EntryValue) → (front ≡ [] → ⊥) → EndsInEdit front → EndsInEdit (e ∷ front)
longer e front u (inl q) = absurd (u q)
longer e front u (inr k) = inr (e ∷ k.0, k.1, ap (λ (l : List EntryValue). e ∷ l) k.2)

suffix : (log : List EntryValue) → Suffix log
suffix [] = record { front = []; cut = refl; edit = inl refl; plain = refl }
suffix (e ∷ es) = by_rest (has_edit es) refl (is_edit e) refl (suffix es)
  where
    has_front : (front rest : List EntryValue) → has_edit es ≡ true → es ≡ front ++ rest → has_edit rest ≡ false → front ≡ [] → ⊥
    has_front front rest t p q n = clash (has_edit es) t (ap has_edit (p ∙ ap (λ (l : List EntryValue). l ++ rest) n) ∙ q)
      where
        clash : (b : Bool) → b ≡ true → b ≡ false → ⊥
        clash true p q = absurd cc
        clash false p q = absurd cc

    is_it : (e : EntryValue) → is_edit e ≡ true → EndsInEdit (e ∷ [])
    is_it (BeginEntry d) q = absurd cc
    is_it (EndEntry d) q = absurd cc
    is_it IdleEntry q = absurd cc
    is_it (EditEntry x) q = inr ([], x, refl)

    by_rest : (b : Bool) → has_edit es ≡ b → (a : Bool) → is_edit e ≡ a → Suffix es → Suffix (e ∷ es)
    by_rest true t a q s =
        let p : after_edit (e ∷ es) ≡ after_edit es = rw t refl in
        record {
          front = e ∷ s.front;
          cut = ap (λ (l : List EntryValue). e ∷ l) s.cut ∙ ap (λ (l : List EntryValue). e ∷ s.front ++ l) (sym p);
          edit = longer e s.front (has_front s.front (after_edit es) t s.cut s.plain) s.edit;
          plain = ap has_edit p ∙ s.plain;
        }
    by_rest false t true q s =
        let p : after_edit (e ∷ es) ≡ es = rw (t, q) refl in
        record { front = e ∷ []; cut = ap (λ (l : List EntryValue). e ∷ l) (sym p); edit = is_it e q; plain = ap has_edit p ∙ t }
    by_rest false t false q s =
        let p : after_edit (e ∷ es) ≡ e ∷ es = rw (t, q) refl in
        record { front = []; cut = sym p; edit = inl refl; plain = ap has_edit p ∙ rw (q, t) refl }

pub cut_at_edit : (U : Unfolding) (c last : Core) (log : List EntryValue) → Run U c log last → CutAtEdit U c last log
cut_at_edit U c last log r =
    let s = suffix log in
    let k = run_cut U c last s.front (after_edit log) (subst (λ (l : List EntryValue). Run U c l last) s.cut r) in
    record {
      front = s.front;
      middle = k.middle;
      cut = s.cut;
      edit = s.edit;
      plain = s.plain;
      first = k.first;
      second = k.second;
      net = plain_net U k.middle last (after_edit log) s.plain k.second;
    }
