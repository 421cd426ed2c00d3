-- What a worker does to its pass, turn after turn, and two workers.
use Rattle.std.proofs.Common.{◌≡◌, ℕ, ◌+◌, ◌*◌, ◌-◌, ◌/◌, ◌<◌, ◌≤◌, List, [], ◌∷◌, ◌++◌, length, sym, ap, ◌∙◌, subst, arith, inl, inr, ⊎_elim, false, Option, ◌^◌}
use Rattle.std.proofs.Math.Nat.{add-mul, mul-le-mul_right}
use Rattle.std.proofs.lemmas.List.{append_assoc}
use Rattle.firing_core.specs.Entries.{EntryValue}
use Rattle.firing_core.specs.Cores.{Core}
use Rattle.firing_core.specs.Rounds.{is_edit}
use Rattle.turn_lock.specs.Logs.{StartsWith, In, without, last_of}
use Rattle.turn_lock.specs.Passes.{PassView, IsBelow, kept_part, new_part, joined}
use Rattle.turn_lock.proofs.Lists.{in_snoc, in_last, last_snoc, from_merged, without_last}
use Rattle.export_table.specs.Items.{Opening, ItemValue}
use Rattle.export_table.specs.Turns.{TookTurn}
use Rattle.fc_nodes.specs.Program.{unfolding_of}
use Rattle.firing_core.specs.Rooms.{RoomValue}
use Rattle.export_table.specs.Passing.{TableValue, IsPassOf, on_log}
use Rattle.worker_pool.specs.Working.{FiredOn, AreRooms, Worked, Staffed}
use Rattle.worker_pool.proofs.Keeping.{rooms_cut}

-- what begins the beginning begins the whole
pub starts_trans : (xs ys zs : List EntryValue) → StartsWith xs ys → StartsWith ys zs → StartsWith xs zs
starts_trans xs ys zs p q = (q.0 ++ p.0, p.1 ∙ (ap (λ (l : List EntryValue). l ++ p.0) q.1 ∙ append_assoc zs q.0 p.0))

pub fired_more : (u v w : PassView EntryValue) → FiredOn u v → FiredOn v w → FiredOn u w
fired_more u v w f g = record {
  name = g.name ∙ f.name;
  out = g.out ∙ f.out;
  begins = starts_trans w.seen v.seen u.seen g.begins f.begins;
  plain = λ p e i. ⊎_elim (λ m. f.plain p e m) (λ t. inr t) (g.plain p e i);
}

-- a turn that writes no edit
pub fired_turn : (o : Opening) (v w : PassView EntryValue) (before : List EntryValue) (core : Core) (e : EntryValue) → TookTurn o v w before core e → is_edit e ≡ false → FiredOn v w
fired_turn o v w before core e t plain = record {
  name = ap (λ (u : PassView EntryValue). u.name) t.view;
  out = ap (λ (u : PassView EntryValue). u.out) t.view;
  begins = starts_trans w.seen before v.seen (e ∷ [], ap (λ (u : PassView EntryValue). u.seen) t.view) t.begins;
  plain = λ p x i. ⊎_elim (λ m. inl m) (λ s. inr (ap (λ (z : ℕ × EntryValue). is_edit z.1) s ∙ plain))
      (in_snoc (p, x) (length before, e) v.mine (subst (In (p, x)) (ap (λ (u : PassView EntryValue). u.mine) t.view) i));
}

-- ---- a pass that was split off comes back

pub out_joined : (v w1 w2 w : PassView EntryValue) (b : ℕ) → IsBelow v → w1.out ≡ (kept_part b v).out → w2.name ≡ (new_part b v).name → w ≡ joined w1 w2 → w.out ≡ v.out
out_joined v w1 w2 w b below out name is =
    ap (λ (u : PassView EntryValue). u.out) is
    ∙ ((λ i. without (last_of (name i)) (out i))
    ∙ (ap (λ k. without k (v.out ++ v.made ∷ [])) (last_snoc v.name v.made)
    ∙ without_last v.made v.out (λ j i e. let l = below j i in absurd (omega (arith, l, e)))))

pub fired_joined : (v w1 w2 w : PassView EntryValue) (b : ℕ) → IsBelow v → StartsWith w.seen w1.seen → FiredOn (kept_part b v) w1 → FiredOn (new_part b v) w2 → w ≡ joined w1 w2 → FiredOn v w
fired_joined v w1 w2 w b below seen one other is = record {
  name = ap (λ (u : PassView EntryValue). u.name) is ∙ one.name;
  out = out_joined v w1 w2 w b below one.out other.name is;
  begins = starts_trans w.seen w1.seen v.seen seen one.begins;
  plain = λ p e i. ⊎_elim (λ m. one.plain p e m) (λ m. ⊎_elim (λ t. absurd t) (λ t. inr t) (other.plain p e m)) (from_merged (p, e) w1.mine w2.mine (subst (In (p, e)) (ap (λ (u : PassView EntryValue). u.mine) is) i));
}

pub comes_back : (v w1 w2 : PassView EntryValue) (b : ℕ) → w1.name ≡ v.name → w1.out ≡ v.out ++ v.made ∷ [] → FiredOn (new_part b v) w2 → (k : ℕ) × (w2.name ≡ w1.name ++ k ∷ []) × In k w1.out
comes_back v w1 w2 b name out other = (v.made, other.name ∙ ap (λ l. l ++ v.made ∷ []) (sym name), subst (In v.made) (sym out) (in_last v.made v.out))

-- ---- shares

shares : (w h s : ℕ) → h ≤ w → (w - h) * s + h * s ≡ w * s
shares w h s l = sym (add-mul (w - h) h s) ∙ ap (λ k. k * s) (omega (arith, l))

pub share_of_half : (w s : ℕ) → w / 2 * s ≤ w * s
share_of_half w s = let l : w / 2 ≤ w = omega arith in mul-le-mul_right s l

share_of_rest : (w s : ℕ) → (w - w / 2) * s ≤ w * s
share_of_rest w s = let l : w - w / 2 ≤ w = omega arith in mul-le-mul_right s l

-- what is left of a pass is enough for the workers that are left
first_fits : (w n s left kept : ℕ) → 0 < w → n + w / 2 ≡ w → w * s ≤ left → kept ≡ left - w / 2 * s → (0 < n) × (n * s ≤ kept)
first_fits w n s left kept some cut fits is =
    let same : n * s ≡ (w - w / 2) * s = ap (λ k. k * s) (omega (arith, cut)) in
    let sum = shares w (w / 2) s (omega arith) in
    (omega (arith, some, cut), omega (arith, fits, is, same, sum))

few_of_rest : (w n s most : ℕ) → n + w / 2 ≡ w → w * s < most → n * s < most
few_of_rest w n s most cut few =
    let same : n * s ≡ (w - w / 2) * s = ap (λ k. k * s) (omega (arith, cut)) in
    let l = share_of_rest w s in
    omega (arith, few, same, l)

few_of_half : (w n s most : ℕ) → n ≡ w / 2 → w * s < most → n * s < most
few_of_half w n s most cut few =
    let same : n * s ≡ w / 2 * s = ap (λ k. k * s) cut in
    let l = share_of_half w s in
    omega (arith, few, same, l)

-- ---- the passes of workers

pub worked_more : (t : TableValue) (u v w : PassView ItemValue) → Worked t u v → Worked t v w → Worked t u w
worked_more t u v w f g = record { own = g.own; fired = fired_more (on_log u) (on_log v) (on_log w) f.fired g.fired }

-- what is kept of a pass, where a half of the workers goes, and what goes
pub kept_staff : (t : TableValue) (v kept : PassView ItemValue) (all front back : List (Option RoomValue)) (s : ℕ) → Staffed t v all s → IsPassOf t kept
    → (on_log kept).left ≡ (on_log v).left - length all / 2 * s → all ≡ front ++ back → length back + length all / 2 ≡ length all → Staffed t kept back s
kept_staff t v kept all front back s f own is cut many =
    let fits = first_fits (length all) (length back) s v.left kept.left f.some many f.enough is in
    record {
      own = own;
      rooms = (rooms_cut (unfolding_of t.opening.program) all front back cut f.rooms).0;
      some = fits.0;
      enough = fits.1;
      few = few_of_rest (length all) (length back) s (2 ^ 32) many f.few;
    }

pub given_staff : (t : TableValue) (v given : PassView ItemValue) (all front back : List (Option RoomValue)) (s : ℕ) → Staffed t v all s → IsPassOf t given
    → (on_log given).left ≡ length all / 2 * s → all ≡ front ++ back → length front ≡ length all / 2 → 2 ≤ length all → Staffed t given front s
given_staff t v given all front back s f own is cut many two =
    let same : length front * s ≡ length all / 2 * s = ap (λ k. k * s) many in
    record {
      own = own;
      rooms = (rooms_cut (unfolding_of t.opening.program) all front back cut f.rooms).1;
      some = omega (arith, many, two);
      enough = omega (arith, same, is);
      few = few_of_half (length all) (length front) s (2 ^ 32) many f.few;
    }

pub at_least_two : (n : ℕ) → 0 < n → (n ≡ 1 → ⊥) → 2 ≤ n
at_least_two n some other = omega (arith, some, other)

-- a pass with the turns of all workers
pub all_staff : (t : TableValue) (v : PassView ItemValue) (rs : List (Option RoomValue)) (workers share : ℕ) → IsPassOf t v → AreRooms (unfolding_of t.opening.program) rs → (on_log v).left ≡ workers * share
    → length rs ≡ workers → 0 < workers → workers * share < 2 ^ 31 → Staffed t v rs share
all_staff t v rs workers share own rooms left many some few =
    let same : length rs * share ≡ workers * share = ap (λ k. k * share) many in
    record { own = own; rooms = rooms; some = omega (arith, many, some); enough = omega (arith, same, left); few = omega (arith, same, few) }
