-- Flights along a log: what begins and doesn't fly at the end has ended, and what doesn't fly can't end.
use Rattle.std.proofs.Common.{◌≡◌, ℕ, ◌+◌, ◌≤◌, List, [], ◌∷◌, refl, sym, ap, ◌∙◌, arith, inl, inr, Bool, true, false, nat_eq, if◌then◌else◌, Some, None}
use Rattle.std.proofs.lemmas.Bool.{eqb-true, eq-eqb}
use Rattle.std.proofs.lemmas.Option.{none-some}
use Rattle.fc_values.specs.Trees.{Copy}
use Rattle.fc_nodes.specs.Program.{Unfolding}
use Rattle.firing_core.specs.Entries.{EditValue, LinkEdit, UnlinkEdit, SetEdit, PokeEdit, JoinEdit, LeaveEdit, EntryValue, BeginEntry, EndEntry, IdleEntry, EditEntry}
use Rattle.firing_core.specs.Cores.{Core, Map, put, copy_of, Run, edited}
use Rattle.firing_core.specs.Rounds.{has_edit, HasEnd, HasFiring}
use Rattle.firing_core.specs.Stretches.{begins, NoneFlies}

put_some : (f : Map Copy) (x d : ℕ) (v : Copy) → ((s : Copy) × (f d ≡ Some s)) → (s : Copy) × (put f x (Some v) d ≡ Some s)
put_some f x d v h = by_test (nat_eq d x)
  where
    by_test : (b : Bool) → (s : Copy) × ((if b then Some v else f d) ≡ Some s)
    by_test true = (v, refl)
    by_test false = h

-- a flight that isn't there at the end has ended
pub flies_ends : (U : Unfolding) (d : ℕ) (log : List EntryValue) (c last : Core) → has_edit log ≡ false → Run U c log last → (s : Copy) × (c.flying d ≡ Some s) → last.flying d ≡ None → HasEnd d log
flies_ends U d [] c last p r f n = absurd (none-some f.0 (sym n ∙ (ap (λ (k : Core). k.flying d) r ∙ f.1)))
flies_ends U d (BeginEntry x ∷ es) c last p r f n =
    let g = put_some c.flying x d (copy_of c.net c.exports x) f in
    inr (flies_ends U d es r.0 last p r.2 (g.0, ap (λ (k : Core). k.flying d) r.1.2 ∙ g.1) n)
flies_ends U d (EndEntry x ∷ es) c last p r f n = by_test (nat_eq d x) refl (λ g. flies_ends U d es r.0 last p r.2 g n)
  where
    by_test : (b : Bool) → nat_eq d x ≡ b → (((s : Copy) × (r.0.flying d ≡ Some s)) → HasEnd d es) → HasEnd d (EndEntry x ∷ es)
    by_test true q ih = inl (ap EndEntry (sym (eqb-true d x q)))
    by_test false q ih = inr (ih (f.0, ap (λ (k : Core). k.flying d) (r.1).after ∙ (ap (λ (b : Bool). if b then None else c.flying d) q ∙ f.1)))
flies_ends U d (IdleEntry ∷ es) c last p r f n = inr (flies_ends U d es r.0 last p r.2 (f.0, ap (λ (k : Core). k.flying d) r.1 ∙ f.1) n)
flies_ends U d (EditEntry e ∷ es) c last p r f n = absurd cc

-- what begins and doesn't fly at the end has fired
pub begun_fires : (U : Unfolding) (d : ℕ) (log : List EntryValue) (c last : Core) → has_edit log ≡ false → Run U c log last → 1 ≤ begins d log → last.flying d ≡ None → HasFiring d log
begun_fires U d [] c last p r b n = absurd (omega (arith, b))
begun_fires U d (BeginEntry x ∷ es) c last p r b n = by_test (nat_eq x d) refl b (λ l. begun_fires U d es r.0 last p r.2 l n)
  where
    here : nat_eq x d ≡ true → HasEnd d es
    here q = flies_ends U d es r.0 last p r.2 (copy_of c.net c.exports x, ap (λ (k : Core). k.flying d) r.1.2 ∙ ap (λ (t : Bool). if t then Some (copy_of c.net c.exports x) else c.flying d) (eq-eqb d x (sym (eqb-true x d q)))) n

    by_test : (t : Bool) → nat_eq x d ≡ t → 1 ≤ (if t then begins d es + 1 else begins d es) → (1 ≤ begins d es → HasFiring d es) → HasFiring d (BeginEntry x ∷ es)
    by_test true q l ih = inl (ap BeginEntry (eqb-true x d q), here q)
    by_test false q l ih = inr (ih l)
begun_fires U d (EndEntry x ∷ es) c last p r b n = inr (begun_fires U d es r.0 last p r.2 b n)
begun_fires U d (IdleEntry ∷ es) c last p r b n = inr (begun_fires U d es r.0 last p r.2 b n)
begun_fires U d (EditEntry e ∷ es) c last p r b n = absurd cc

-- ---- what doesn't fly can't end

edit_lands : (U : Unfolding) (c : Core) (e : EditValue) (d : ℕ) → c.flying d ≡ None → (edited U c e).flying d ≡ None
edit_lands U c (LinkEdit a b w) d n = n
edit_lands U c (UnlinkEdit a b) d n = n
edit_lands U c (SetEdit x i v) d n = n
edit_lands U c (PokeEdit x e) d n = n
edit_lands U c (JoinEdit x) d n = by_test (nat_eq d x.id)
  where
    by_test : (b : Bool) → (if b then None else c.flying d) ≡ None
    by_test true = refl
    by_test false = n
edit_lands U c (LeaveEdit x) d n = n

pub grounded : (U : Unfolding) (d : ℕ) (log : List EntryValue) (c last : Core) → Run U c log last → c.flying d ≡ None → begins d log ≡ 0 → HasEnd d log → ⊥
grounded U d [] c last r n b h = h
grounded U d (BeginEntry x ∷ es) c last r n b (inl e) = absurd cc
grounded U d (BeginEntry x ∷ es) c last r n b (inr h) = by_test (nat_eq x d) refl b (λ m z. grounded U d es r.0 last r.2 m z h)
  where
    no : true ≡ false → ⊥
    no t = absurd cc

    apart : (t : Bool) → nat_eq d x ≡ t → nat_eq x d ≡ false → t ≡ false
    apart true s q = absurd (no (sym (eq-eqb x d (sym (eqb-true d x s))) ∙ q))
    apart false s q = refl

    by_test : (t : Bool) → nat_eq x d ≡ t → (if t then begins d es + 1 else begins d es) ≡ 0 → (r.0.flying d ≡ None → begins d es ≡ 0 → ⊥) → ⊥
    by_test true q z ih = absurd (omega (arith, z))
    by_test false q z ih = ih (ap (λ (k : Core). k.flying d) r.1.2 ∙ (ap (λ (t : Bool). if t then Some (copy_of c.net c.exports x) else c.flying d) (apart (nat_eq d x) refl q) ∙ n)) z
grounded U d (EndEntry x ∷ es) c last r n b (inl e) = none-some (r.1).copy (sym n ∙ (ap c.flying (same_end d x e) ∙ (r.1).flies))
  where
    ended_by : EntryValue → ℕ
    ended_by (BeginEntry y) = 0
    ended_by (EndEntry y) = y
    ended_by IdleEntry = 0
    ended_by (EditEntry y) = 0

    same_end : (d x : ℕ) → EndEntry x ≡ EndEntry d → d ≡ x
    same_end d x e = sym (ap ended_by e)
grounded U d (EndEntry x ∷ es) c last r n b (inr h) = grounded U d es r.0 last r.2 (ap (λ (k : Core). k.flying d) (r.1).after ∙ by_test (nat_eq d x)) b h
  where
    by_test : (t : Bool) → (if t then None else c.flying d) ≡ None
    by_test true = refl
    by_test false = n
grounded U d (IdleEntry ∷ es) c last r n b (inl e) = absurd cc
grounded U d (IdleEntry ∷ es) c last r n b (inr h) = grounded U d es r.0 last r.2 (ap (λ (k : Core). k.flying d) r.1 ∙ n) b h
grounded U d (EditEntry x ∷ es) c last r n b (inl e) = absurd cc
grounded U d (EditEntry x ∷ es) c last r n b (inr h) = grounded U d es r.0 last r.2 (ap (λ (k : Core). k.flying d) (r.1).after ∙ edit_lands U c x d n) b h

-- ---- a device that fires alone

pub lands : (f : Map Copy) (d : ℕ) (v : Copy) → ((e : ℕ) → f e ≡ None) → (e : ℕ) → put (put f d (Some v)) d None e ≡ None
lands f d v n e = by_test (nat_eq e d)
  where
    by_test : (b : Bool) → (if b then None else (if b then Some v else f e)) ≡ None
    by_test true = refl
    by_test false = n e

pub alone_lands : (U : Unfolding) (c last : Core) (d : ℕ) → Run U c (BeginEntry d ∷ EndEntry d ∷ []) last → NoneFlies c → NoneFlies last
alone_lands U c last d r n e =
    let s = r.1 in let t = r.2.1 in
    ap (λ (k : Core). k.flying e) r.2.2 ∙ (ap (λ (k : Core). k.flying e) t.after
    ∙ (ap (λ (k : Core). put k.flying d None e) s.2 ∙ lands c.flying d (copy_of c.net c.exports d) n e))
