-- A pass to the lock of a table, and the pass over the log for which it stands.
use Rattle.std.proofs.Common.{◌≡◌, ℕ, zero, suc, ◌-◌, List, [], ◌∷◌, ◌++◌, length, drop, map, refl, sym, ap, ◌∙◌, inl, inr, arith, Bool, true, false, ltb}
use Rattle.std.proofs.lemmas.Bool.{ltb-true, ltb-false}
use Rattle.std.proofs.lemmas.List.{map-append}
use mathlib.Core.Bool.{cond}
use mathlib.Core.Option.{some, some-injective, some-ne-none}
use lib.ListN.{get_elem?}
use Rattle.turn_lock.specs.Logs.{StartsWith, In, Rises, ArePlaced, longer, put_in, merged}
use Rattle.turn_lock.specs.Passes.{PassView, wrote, joined}
use Rattle.firing_core.specs.Entries.{EntryValue}
use Rattle.export_table.specs.Items.{Opening, ItemValue, OpeningItem, WrittenItem, items_of}
use Rattle.export_table.specs.Passing.{TableValue, IsPassOf, written, written_at, behind_first, item_at_next, on_log, on_items}

-- ---- lists

pub written_back : (log : List EntryValue) → map written (map WrittenItem log) ≡ log
written_back [] = refl
written_back (e ∷ es) = ap (λ l. e ∷ l) (written_back es)

places_back : (mine : List (ℕ × EntryValue)) → map written_at (map item_at_next mine) ≡ mine
places_back [] = refl
places_back (z ∷ zs) = ap (λ l. z ∷ l) (places_back zs)

pub items_length : (log : List EntryValue) → length (map WrittenItem log) ≡ length log
items_length [] = refl
items_length (e ∷ es) = omega (arith, items_length es)

-- ---- the view, there and back

pub on_log_back : (o : Opening) (u : PassView EntryValue) → on_log (on_items o u) ≡ u
on_log_back o u = λ i. record u { seen = written_back u.seen i; mine = places_back u.mine i }

pub wrote_items : (o : Opening) (u : PassView EntryValue) (log : List EntryValue) (e : EntryValue) → wrote (on_items o u) (items_of o log) (WrittenItem e) ≡ on_items o (wrote u log e)
wrote_items o u log e = λ i. record (on_items o u) { left = u.left - 1; seen = OpeningItem o ∷ sym (map-append WrittenItem log (e ∷ [])) i; mine = mine i }
  where
    mine : map item_at_next u.mine ++ (suc (length (map WrittenItem log)), WrittenItem e) ∷ [] ≡ map item_at_next (u.mine ++ (length log, e) ∷ [])
    mine = ap (λ n. map item_at_next u.mine ++ (suc n, WrittenItem e) ∷ []) (items_length log) ∙ sym (map-append item_at_next u.mine ((length log, e) ∷ []))

ltb_next : (a b : ℕ) → ltb (suc a) (suc b) ≡ ltb a b
ltb_next a b = by_tests (ltb (suc a) (suc b)) (ltb a b) refl refl
  where
    by_tests : (p q : Bool) → ltb (suc a) (suc b) ≡ p → ltb a b ≡ q → p ≡ q
    by_tests true true s t = refl
    by_tests false false s t = refl
    by_tests true false s t = let l = ltb-true (suc a) (suc b) s in let m = ltb-false a b t in absurd (omega (arith, l, m))
    by_tests false true s t = let l = ltb-false (suc a) (suc b) s in let m = ltb-true a b t in absurd (omega (arith, l, m))

longer_items : (o : Opening) (a b : List EntryValue) → longer (items_of o a) (items_of o b) ≡ items_of o (longer a b)
longer_items o a b = ap (λ t. cond t (items_of o b) (items_of o a)) (ap (λ (z : ℕ × ℕ). ltb (suc z.0) (suc z.1)) (λ i. (items_length a i, items_length b i)) ∙ ltb_next (length a) (length b)) ∙ by_test (ltb (length a) (length b))
  where
    by_test : (t : Bool) → cond t (items_of o b) (items_of o a) ≡ items_of o (cond t b a)
    by_test true = refl
    by_test false = refl

put_items : (x : ℕ × EntryValue) (ys : List (ℕ × EntryValue)) → put_in (item_at_next x) (map item_at_next ys) ≡ map item_at_next (put_in x ys)
put_items x [] = refl
put_items x (y ∷ ys) = ap (λ t. cond t (item_at_next x ∷ item_at_next y ∷ map item_at_next ys) (item_at_next y ∷ put_in (item_at_next x) (map item_at_next ys))) (ltb_next x.0 y.0)
    ∙ by_test (ltb x.0 y.0) (put_items x ys)
  where
    by_test : (t : Bool) → put_in (item_at_next x) (map item_at_next ys) ≡ map item_at_next (put_in x ys)
        → cond t (item_at_next x ∷ item_at_next y ∷ map item_at_next ys) (item_at_next y ∷ put_in (item_at_next x) (map item_at_next ys)) ≡ map item_at_next (cond t (x ∷ y ∷ ys) (y ∷ put_in x ys))
    by_test true h = refl
    by_test false h = ap (λ l. item_at_next y ∷ l) h

merged_items : (xs ys : List (ℕ × EntryValue)) → merged (map item_at_next xs) (map item_at_next ys) ≡ map item_at_next (merged xs ys)
merged_items xs [] = refl
merged_items xs (y ∷ ys) = ap (put_in (item_at_next y)) (merged_items xs ys) ∙ put_items y (merged xs ys)

pub joined_items : (o : Opening) (u w : PassView EntryValue) → joined (on_items o u) (on_items o w) ≡ on_items o (joined u w)
joined_items o u w = λ i. record (joined (on_items o u) (on_items o w)) { seen = longer_items o u.seen w.seen i; mine = merged_items u.mine w.mine i }

-- ---- passes of a table

-- a pass that stands for one over the log
pub pass_of : (t : TableValue) (u : PassView EntryValue) (v : PassView ItemValue) → v ≡ on_items t.opening u → u.lock ≡ t.lock → u.turns ≡ t.opening.turns → u.start ≡ t.opening.front
    → IsPassOf t v × (on_log v ≡ u)
pass_of t u v is lock turns start = (
  record {
    lock = ap (λ (p : PassView ItemValue). p.lock) is ∙ lock;
    opening = is ∙ ap (on_items t.opening) (sym back);
    turns = ap (λ (p : PassView ItemValue). p.turns) is ∙ turns;
    start = ap (λ (p : PassView EntryValue). p.start) back ∙ start;
  },
  back,
)
  where
    back : on_log v ≡ u
    back = ap on_log is ∙ on_log_back t.opening u

pub pass_joined : (t : TableValue) (v w z : PassView ItemValue) → IsPassOf t v → IsPassOf t w → z ≡ joined v w → IsPassOf t z × (on_log z ≡ joined (on_log v) (on_log w))
pass_joined t v w z k l is = pass_of t (joined (on_log v) (on_log w)) z (is ∙ ((λ i. joined (k.opening i) (l.opening i)) ∙ joined_items t.opening (on_log v) (on_log w))) k.lock k.turns k.start

pub pass_wrote : (t : TableValue) (v w : PassView ItemValue) (log : List EntryValue) (e : EntryValue) → IsPassOf t v → w ≡ wrote v (items_of t.opening log) (WrittenItem e) → IsPassOf t w × (on_log w ≡ wrote (on_log v) log e)
pass_wrote t v w log e k is = pass_of t (wrote (on_log v) log e) w (is ∙ (ap (λ p. wrote p (items_of t.opening log) (WrittenItem e)) k.opening ∙ wrote_items t.opening (on_log v) log e)) k.lock k.turns k.start

-- ---- what a list of items says of the log

opening_or : Opening → List ItemValue → Opening
opening_or o [] = o
opening_or o (OpeningItem p ∷ xs) = p
opening_or o (WrittenItem e ∷ xs) = o

pub begins_items : (o p : Opening) (log seen : List EntryValue) → StartsWith (items_of p log) (items_of o seen) → (p ≡ o) × StartsWith log seen
unfolding opening_or
begins_items o p log seen s = (
  ap (opening_or o) s.1,
  (map written s.0, sym (written_back log) ∙ (ap (λ l. map written (behind_first l)) s.1 ∙ (map-append written (map WrittenItem seen) s.0 ∙ ap (λ l. l ++ map written s.0) (written_back seen)))),
)

in_items : (p : ℕ) (e : EntryValue) (mine : List (ℕ × EntryValue)) → In (p, e) mine → In (suc p, WrittenItem e) (map item_at_next mine)
in_items p e [] i = absurd i
in_items p e (z ∷ zs) (inl is) = inl (ap item_at_next is)
in_items p e (z ∷ zs) (inr i) = inr (in_items p e zs i)

pub own_items : (p : ℕ) (e : EntryValue) (mine : List (ℕ × EntryValue)) → In (p, e) mine → In (suc p, WrittenItem e) (map item_at_next mine)
own_items = in_items

-- each item of the pass is an entry, one place on
pub from_items : (q : ℕ) (x : ItemValue) (mine : List (ℕ × EntryValue)) → In (q, x) (map item_at_next mine) → (p : ℕ) × (e : EntryValue) × (q ≡ suc p) × (x ≡ WrittenItem e) × In (p, e) mine
from_items q x [] i = absurd i
from_items q x (z ∷ zs) (inl is) = (z.0, z.1, ap (λ (y : ℕ × ItemValue). y.0) is, ap (λ (y : ℕ × ItemValue). y.1) is, inl refl)
from_items q x (z ∷ zs) (inr i) = let r = from_items q x zs i in (r.0, r.1, r.2, r.3, inr r.4)

entry_at : (log : List EntryValue) (p : ℕ) (e : EntryValue) → get_elem? (map WrittenItem log) p ≡ some (WrittenItem e) → get_elem? log p ≡ some e
entry_at [] p e is = absurd (some-ne-none (WrittenItem e) (sym is))
entry_at (x ∷ xs) zero e is = ap some (ap written (some-injective (WrittenItem x) (WrittenItem e) is))
entry_at (x ∷ xs) (suc p) e is = entry_at xs p e is

pub placed_items : (o : Opening) (log : List EntryValue) (mine : List (ℕ × EntryValue)) → ArePlaced (items_of o log) (map item_at_next mine) → ArePlaced log mine
placed_items o log mine placed p e i = entry_at log p e (placed (suc p) (WrittenItem e) (in_items p e mine i))

pub rises_items : (mine : List (ℕ × EntryValue)) → Rises (map item_at_next mine) → Rises mine
rises_items [] r = tt
rises_items (z ∷ zs) r = ((λ q e i. let l = r.0 (suc q) (WrittenItem e) (in_items q e zs i) in omega (arith, l)), rises_items zs r.1)

entries_items : (mine : List (ℕ × EntryValue)) → map written (map (λ (z : ℕ × ItemValue). z.1) (map item_at_next mine)) ≡ map (λ (z : ℕ × EntryValue). z.1) mine
entries_items [] = refl
entries_items (z ∷ zs) = ap (λ l. z.1 ∷ l) (entries_items zs)

drop_written : (n : ℕ) (log : List EntryValue) → map written (drop n (map WrittenItem log)) ≡ drop n log
drop_written zero log = written_back log
drop_written (suc n) [] = refl
drop_written (suc n) (e ∷ es) = drop_written n es

pub whole_items : (o : Opening) (n : ℕ) (log : List EntryValue) (mine : List (ℕ × EntryValue)) → drop (suc n) (items_of o log) ≡ map (λ (z : ℕ × ItemValue). z.1) (map item_at_next mine) → drop n log ≡ map (λ (z : ℕ × EntryValue). z.1) mine
whole_items o n log mine is = sym (drop_written n log) ∙ (ap (map written) is ∙ entries_items mine)

pub mine_length : (mine : List (ℕ × EntryValue)) → length (map item_at_next mine) ≡ length mine
mine_length [] = refl
mine_length (z ∷ zs) = omega (arith, mine_length zs)
