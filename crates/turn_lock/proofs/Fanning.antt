-- What notes add, and what passes that were split off bring back.
use Rattle.std.proofs.Common.{◌≡◌, ℕ, ◌+◌, ◌<◌, ◌≤◌, List, [], ◌∷◌, ◌++◌, map, drop, replicate, length, refl, ap, sym, subst, ◌∙◌, inl, inr, ◌⊎◌, arith, Bool, true, false, cond, ltb, ⊎_elim}
use Rattle.std.proofs.lemmas.List.{append_assoc}
use Rattle.std.proofs.Common.{length-append}
use Rattle.turn_lock.specs.Logs.{In, StartsWith, merged, put_in, without, last_of}
use Rattle.turn_lock.specs.Passes.{IsBelow, PassView, Closed, opened, kept_part, new_part, joined}
use Rattle.turn_lock.specs.Noting.{Noted, Went}
use Rattle.turn_lock.proofs.Lists.{merged_length, in_snoc, in_last, last_snoc, from_merged, without_last}
use Rattle.atomic_table.specs.Seated.{TableId}

-- what begins the beginning begins the whole
starts_trans : (xs ys zs : List ℕ) → StartsWith xs ys → StartsWith ys zs → StartsWith xs zs
starts_trans xs ys zs p q = (q.0 ++ p.0, p.1 ∙ (ap (λ l. l ++ p.0) q.1 ∙ append_assoc zs q.0 p.0))

past : (xs ys : List ℕ) → drop (length xs) (xs ++ ys) ≡ ys
past [] ys = refl
past (x ∷ xs) ys = past xs ys

-- two entries, by place
by_place : (p q a b : ℕ) (t : Bool) → (map (λ (z : ℕ × ℕ). z.1) (cond t ((q, b) ∷ (p, a) ∷ []) ((p, a) ∷ (q, b) ∷ [])) ≡ a ∷ b ∷ []) ⊎ (map (λ (z : ℕ × ℕ). z.1) (cond t ((q, b) ∷ (p, a) ∷ []) ((p, a) ∷ (q, b) ∷ [])) ≡ b ∷ a ∷ [])
by_place p q a b true = inr refl
by_place p q a b false = inl refl

-- what the two passes of a lock wrote is all that was written
pub both : (lock : TableId) (log y : List ℕ) (a b : ℕ) (v w1 w2 : PassView ℕ) → Noted (kept_part 1 (opened lock log 2)) w1 a → Noted (new_part 1 (opened lock log 2)) w2 b → v ≡ joined w1 w2 → StartsWith v.seen w1.seen
    → Closed (λ n. n) v y → (y ≡ log ++ a ∷ b ∷ []) ⊎ (y ≡ log ++ b ∷ a ∷ [])
both lock log y a b v w1 w2 one two joins seen closed =
    let p = length one.0 in let q = length two.0 in
    let mine : v.mine ≡ put_in (q, b) ((p, a) ∷ []) = ap (λ (u : PassView ℕ). u.mine) joins ∙ (λ i. merged (one.2 i).mine (two.2 i).mine) in
    let start : v.start ≡ length log = ap (λ (u : PassView ℕ). u.start) joins ∙ ap (λ (u : PassView ℕ). u.start) one.2 in
    let first : StartsWith w1.seen one.0 = (a ∷ [], ap (λ (u : PassView ℕ). u.seen) one.2) in
    let begins = starts_trans y w1.seen log (starts_trans y v.seen w1.seen closed.begins seen) (starts_trans w1.seen one.0 log first one.1) in
    let tail : begins.0 ≡ map (λ (z : ℕ × ℕ). z.1) (put_in (q, b) ((p, a) ∷ [])) = sym (past log begins.0) ∙ ((λ i. drop (sym start i) (sym begins.1 i)) ∙ (closed.whole ∙ ap (map (λ (z : ℕ × ℕ). z.1)) mine)) in
    ⊎_elim (λ e. inl (begins.1 ∙ ap (λ l. log ++ l) (tail ∙ e))) (λ e. inr (begins.1 ∙ ap (λ l. log ++ l) (tail ∙ e))) (by_place p q a b (ltb q p))

-- one note is written
pub went_once : (v w : PassView ℕ) (x : ℕ) → 0 < v.left → Noted v w x → Went v w 1 x
went_once v w x some n = record {
  lock = ap (λ (u : PassView ℕ). u.lock) n.2;
  name = ap (λ (u : PassView ℕ). u.name) n.2;
  out = ap (λ (u : PassView ℕ). u.out) n.2;
  begins = starts_trans w.seen n.0 v.seen (x ∷ [], ap (λ (u : PassView ℕ). u.seen) n.2) n.1;
  left = let e = ap (λ (u : PassView ℕ). u.left) n.2 in omega (arith, e, some);
  mine = let e = ap (λ (u : PassView ℕ). length u.mine) n.2 in e ∙ length-append v.mine ((length n.0, x) ∷ []);
  only = λ p e i. ⊎_elim (λ t. inl t) (λ t. inr (ap (λ (z : ℕ × ℕ). z.1) t)) (in_snoc (p, e) (length n.0, x) v.mine (subst (In (p, e)) (ap (λ (u : PassView ℕ). u.mine) n.2) i));
  same = (ap (λ (u : PassView ℕ). u.turns) n.2, ap (λ (u : PassView ℕ). u.start) n.2);
}

-- both passes wrote theirs, and are one again
pub went : (v w1 w2 w : PassView ℕ) (a b x : ℕ) → IsBelow v → StartsWith w.seen w1.seen → b ≤ v.left → Went (kept_part b v) w1 a x → Went (new_part b v) w2 b x → w ≡ joined w1 w2 → Went v w (a + b) x
went v w1 w2 w a b x below seen fits one other is = record {
  lock = ap (λ (u : PassView ℕ). u.lock) is ∙ one.lock;
  name = ap (λ (u : PassView ℕ). u.name) is ∙ one.name;
  out = ap (λ (u : PassView ℕ). u.out) is ∙ ((λ i. without (last_of (other.name i)) (one.out i)) ∙ (ap (λ k. without k (v.out ++ v.made ∷ [])) (last_snoc v.name v.made) ∙ without_last v.made v.out (λ j i e. let l = below j i in absurd (omega (arith, l, e)))));
  begins = starts_trans w.seen w1.seen v.seen seen one.begins;
  left = let e = ap (λ (u : PassView ℕ). u.left) is in let f = one.left in let h = other.left in omega (arith, e, f, h, fits);
  mine = let e = ap (λ (u : PassView ℕ). length u.mine) is in let m = merged_length w1.mine w2.mine in let f = one.mine in let h = other.mine in omega (arith, e, m, f, h);
  only = λ p e i. ⊎_elim (λ m. one.only p e m) (λ m. ⊎_elim (λ t. absurd t) (λ t. inr t) (other.only p e m)) (from_merged (p, e) w1.mine w2.mine (subst (In (p, e)) (ap (λ (u : PassView ℕ). u.mine) is) i));
  same = (ap (λ (u : PassView ℕ). u.turns) is ∙ one.same.0, ap (λ (u : PassView ℕ). u.start) is ∙ one.same.1);
}

pub comes_back : (v w1 w2 : PassView ℕ) (a b x : ℕ) → Went (kept_part b v) w1 a x → Went (new_part b v) w2 b x → (k : ℕ) × (w2.name ≡ w1.name ++ k ∷ []) × In k w1.out
comes_back v w1 w2 a b x one other = (v.made, other.name ∙ ap (λ l. l ++ v.made ∷ []) (sym one.name), subst (In v.made) (sym one.out) (in_last v.made v.out))

-- entries that are all the same
all_same : (x : ℕ) (xs : List (ℕ × ℕ)) → ((p e : ℕ) → In (p, e) xs → e ≡ x) → map (λ (z : ℕ × ℕ). z.1) xs ≡ replicate (length xs) x
all_same x [] f = refl
all_same x (y ∷ ys) f = λ i. f y.0 y.1 (inl refl) i ∷ all_same x ys (λ p e m. f p e (inr m)) i

-- what is in the closed list where all wrote the same note
pub all : (lock : TableId) (log y : List ℕ) (n x : ℕ) (v : PassView ℕ) → Went (opened lock log n) v n x → Closed (λ z. z) v y → y ≡ log ++ replicate n x
all lock log y n x v w closed =
    let begins = starts_trans y v.seen log closed.begins w.begins in
    let tail = sym (past log begins.0) ∙ ((λ i. drop (sym w.same.1 i) (sym begins.1 i)) ∙ (closed.whole ∙ (all_same x v.mine (λ p e i. ⊎_elim (λ t. absurd t) (λ t. t) (w.only p e i)) ∙ ap (λ k. replicate k x) (w.mine ∙ omega arith)))) in
    begins.1 ∙ ap (λ l. log ++ l) tail
