-- Each step of a lock keeps its rule.
use Rattle.std.proofs.Common.{◌≡◌, ℕ, ◌+◌, ◌%◌, ◌<◌, ◌≤◌, ◌≢◌, ⊎_elim, List, [], ◌∷◌, ◌++◌, length, get_or, set, sym, refl, ap, ◌∙◌, subst, inl, inr, arith, Option, Some, None, false, length-append}
use Rattle.std.proofs.Math.Nat.{mod-eq_of_lt}
use mathlib.Core.Logic.{dite}
use mathlib.Core.Option.{none, some, some-injective, some-ne-none}
use native.Mathlib.Decide.{ℕ_discrete}
use lib.ListN.{get_elem?}
use lib.Seq.{set-get_or}
use Rattle.std.proofs.lemmas.List.{append-nil}
use Rattle.atomic_table.specs.Seated.{TableId}
use Rattle.atomic_table.specs.Table.{State, Me, step, keeps, takes, gives, stepped, opening, Allows, Act, Valid, carried_after, put_back, rest}
use Rattle.atomic_table.proofs.Lists.{set_else, set_again}
use Rattle.turn_lock.specs.declared.views.SeatView.{SeatView}
use Rattle.turn_lock.specs.declared.views.Stage.{Stage}
use Rattle.turn_lock.specs.declared.views.Stage.TheVariants.{Idle, Waits, Has}
use Rattle.turn_lock.specs.Logs.{StartsWith, In, IsOpen}
use Rattle.turn_lock.specs.Passes.{Turned, MayAnswer}
use Rattle.turn_lock.specs.Seats.{pass_view, opened_seat, staged, served, wrote_seat}
use Rattle.turn_lock.specs.Rule.{total, At, Homes, Slot, tickets_at, tickets_of, left_of, entries_of, Stands, LockFacts, Names, Own, Kept}
use Rattle.turn_lock.specs.Steps.{SeatAgrees, Entered, draws, looks, serves}
use denote.Param.Members.{Once}
use Rattle.std.specs.Borrow.{MutBor}
use Rattle.std.specs.Fn.{FnOnceReturnsAtMut}
use Rattle.turn_lock.proofs.Naming.{names_open, names_same}
use Rattle.turn_lock.proofs.Owning.{own_open, own_same, own_wrote}
use Rattle.turn_lock.proofs.Lists.{total_set, total_le, total_at, each_set, each_one, in_snoc, set_there, put, put_here, put_else}

module _ {T E : Type 0} (list : T → List E) (answers : List E → ℕ → Option ℕ) where
  abbrev V : Type 0
  V = SeatView E

  abbrev S : Type 0
  S = State (Option T) V

  abbrev M : Type 0
  M = Me (Option T) V

  -- who waits has a turn left
  waits_left : (a b : ℕ) (seat : ℕ → ℕ) (log : List E) (homes : Homes T) (id : ℕ) (v : V) (st : Stage) → Stands a b seat log homes id v st → tickets_at st ≤ v.left
  waits_left a b seat log homes id v Idle k = omega arith
  waits_left a b seat log homes id v (Waits t) k = let l = k.3 in omega arith
  waits_left a b seat log homes id v Has k = let l = k.2 in omega arith

  -- a ticket more for another pass
  still : (a b : ℕ) (seat : ℕ → ℕ) (log : List E) (homes : Homes T) (i id : ℕ) (v : V) (st : Stage) → a ≤ b → Stands a b seat log homes id v st → Stands a (b + 1) (put seat b i) log homes id v st
  still a b seat log homes i id v Idle le k = tt
  still a b seat log homes i id v (Waits t) le k = (k.0, omega (arith, k.1), put_else seat b i t (λ e. absurd (omega (arith, k.1))) ∙ k.2, k.3)
  still a b seat log homes i id v Has le k = (omega (arith, k.0), put_else seat b i a (λ e. absurd (omega (arith, k.0))) ∙ k.1, k.2, k.3, k.4)

  waits_not : Stage → Type 0
  waits_not Idle = Unit {0}
  waits_not (Waits t) = Unit {0}
  waits_not Has = ⊥

  number_of : Stage → ℕ
  number_of Idle = 0
  number_of (Waits t) = t
  number_of Has = 0

  ticket_is : {a b : ℕ} → Waits a ≡ Waits b → a ≡ b
  unfolding number_of
  ticket_is e = ap number_of e

  pub idle_has : (st : Stage) → st ≡ Idle → st ≡ Has → ⊥
  idle_has st a b = let x : tickets_at Idle ≡ tickets_at Has = sym (ap tickets_at a) ∙ ap tickets_at b in absurd (omega (arith, x))

  -- the seats change, and the words, the log and the slot stay
  pub core_with : (log : List E) (s : S) (views : List V) (r : LockFacts list log s) → total tickets_of views ≡ total tickets_of s.views → total left_of views ≡ total left_of s.views → total entries_of views ≡ total entries_of s.views
      → ((id : ℕ) (v : V) → At views id v → v.spent ≡ false → (v.turns ≡ r.turns) × (v.start ≡ r.start))
      → ((id : ℕ) (v : V) → At views id v → (p : ℕ) (e : E) → In (p, e) v.mine → r.start ≤ p)
      → ((id : ℕ) (v : V) → At views id v → Stands r.serving r.ticket r.seat log s.homes id v v.stage)
      → Slot list log s.homes views → LockFacts list log record { words = s.words; homes = s.homes; views = views }
  core_with log s views r tickets lefts entries made past stands slot = let d = r.drawn in let sh = r.shared in let cnt = r.counted in record {
    ticket = r.ticket;
    serving = r.serving;
    turns = r.turns;
    start = r.start;
    seat = r.seat;
    words = r.words;
    few = r.few;
    drawn = omega arith;
    shared = omega arith;
    counted = omega arith;
    length_is = r.length_is;
    made = made;
    past = past;
    stands = stands;
    slot = slot;
  }

  -- a pass without the turn changes
  pub slot_stays : (log : List E) (homes : Homes T) (views : List V) (id : ℕ) (v w : V) → get_elem? views id ≡ some v → (v.stage ≡ Has → ⊥) → Slot list log homes views → Slot list log homes (set views id w)
  slot_stays log homes views id v w at not (inl h) = inl h
  slot_stays log homes views id v w at not (inr h) = inr (h.0, h.1, set_else views id h.0 w (λ e. not (ap (λ (u : V). u.stage) (some-injective v h.1 (sym at ∙ (ap (get_elem? views) (sym e) ∙ h.2))) ∙ h.3)) ∙ h.2, h.3)

  pub drawing : (slots id : ℕ) (me : M) → me.0.stage ≡ Idle → me.0.spent ≡ false → 0 < me.0.left → Allows (Kept list answers) slots id me 0 (λ n. (n + 1) % 18446744073709551616) (draws (step slots 0 1 0 none) me)
  drawing slots id me idle live some_left s kept _ at _ = let log = kept.0 in let r = kept.1 in
      let n : ℕ = get_or s.words 0 0 in
      let here : n ≡ r.ticket = ap (λ ws. get_or ws 0 0) r.words in
      let w : V = staged me.0 (Waits n) in
      let sum = total_set tickets_of s.views id me.0 w at in
      let none_before : tickets_of me.0 ≡ 0 = ap tickets_at idle in
      let d = r.drawn in
      let own : Stands r.serving (r.ticket + 1) (put r.seat r.ticket id) log s.homes id w (Waits n) = (omega (arith, here), omega (arith, here), ap (put r.seat r.ticket id) here ∙ put_here r.seat r.ticket id, some_left) in
      let stands = each_set (λ j v. Stands r.serving (r.ticket + 1) (put r.seat r.ticket id) log s.homes j v v.stage) s.views id w own (λ j v other e. still r.serving r.ticket r.seat log s.homes id j v v.stage (omega arith) (r.stands j v e)) in
      let lefts = total_set left_of s.views id me.0 w at in
      let made = total_set entries_of s.views id me.0 w at in let c = r.counted in
      let fits = total_le tickets_of left_of (set s.views id w) (λ j v e. waits_left r.serving (r.ticket + 1) (put r.seat r.ticket id) log s.homes j v v.stage (stands j v e)) in
      let sh = r.shared in
      let few = r.few in
      let small : n + 1 < 18446744073709551616 = omega (arith, here) in
      let next : (n + 1) % 18446744073709551616 ≡ r.ticket + 1 = mod-eq_of_lt small ∙ ap (λ (k : ℕ). k + 1) here in (
        w,
        keeps,
        tt,
        (
          log,
          record {
            ticket = r.ticket + 1;
            serving = r.serving;
            turns = r.turns;
            start = r.start;
            seat = put r.seat r.ticket id;
            words = ap (λ ws. set ws 0 ((n + 1) % 18446744073709551616)) r.words ∙ ap (λ (k : ℕ). k ∷ r.serving ∷ []) next;
            few = r.few;
            drawn = omega arith;
            shared = omega arith;
            length_is = r.length_is;
            past = each_set (λ j x. (p : ℕ) (e : E) → In (p, e) x.mine → r.start ≤ p) s.views id w (r.past id me.0 at) (λ j x _ a. r.past j x a);
            made = each_set (λ j v. v.spent ≡ false → (v.turns ≡ r.turns) × (v.start ≡ r.start)) s.views id w (r.made id me.0 at) (λ j v _ e. r.made j v e);
            counted = omega arith;
            stands = stands;
            slot = slot_stays log s.homes s.views id me.0 w at (idle_has me.0.stage idle) r.slot;
          },
          names_same E s.views id me.0 w at refl refl refl refl live kept.2,
          own_same E answers log s.views id me.0 w at refl (kept.3.begins id me.0 at) kept.3,
        ),
        refl,
      )

  waits_has : (t : ℕ) (st : Stage) → st ≡ Waits t → st ≡ Has → ⊥
  unfolding waits_not
  waits_has t st a b = let P : Stage → Type 0 = waits_not in subst P (sym a ∙ b) tt

  -- once the slot has come out
  out_now : (a b : ℕ) (seat : ℕ → ℕ) (log : List E) (homes homes' : Homes T) (y : T) (id : ℕ) (v : V) (st : Stage) → homes ≡ some (Some y) ∷ [] → Stands a b seat log homes id v st → Stands a b seat log homes' id v st
  out_now a b seat log homes homes' y id v Idle is k = tt
  out_now a b seat log homes homes' y id v (Waits t) is k = k
  out_now a b seat log homes homes' y id v Has is k = absurd (some-ne-none (Some y) (some-injective (some (Some y)) none (ap (λ hs. get_elem? hs 0) (sym is ∙ k.4))))

  same_slot : (log : List E) (homes : Homes T) (views : List V) → (y : T) → homes ≡ some (Some y) ∷ [] → list y ≡ log → Slot list log homes views
  same_slot log homes views y a b = inl (y, a, b)

  pub unchanged : (s : S) (i id : ℕ) (cs : List (ℕ × Option T)) (v : V) → get_elem? s.views id ≡ some v → Kept list answers s → Kept list answers (stepped s i (get_or s.words i 0) id cs v keeps)
  unchanged s i id cs v at k = subst (λ (z : List ℕ × List V). Kept list answers record { words = z.0; homes = s.homes; views = z.1 }) (λ j. (sym (set-get_or s.words i 0) j, sym (set_again s.views id v at) j)) k

  module _ (slots id : ℕ) (me : M) (t : ℕ) (waits : me.0.stage ≡ Waits t) (empty : me.1 ≡ []) (live : me.0.spent ≡ false) where
    takes_it : (s : S) (log : List E) (r : LockFacts list log s) → Names s.views → Own answers log s.views → get_elem? s.views id ≡ some me.0 → get_or s.words 1 0 ≡ t → Slot list log s.homes s.views
        → (w : V) × (a : Act (Option T)) × Valid s.homes me.1 a × Kept list answers (stepped s 1 (get_or s.words 1 0) id me.1 w a) × looks list answers (step slots 1 0 0 none) me (get_or s.words 1 0) (w, carried_after me.1 a)
    takes_it s log r ns os at is (inl h) =
        let y = h.0 in
        let n : ℕ = get_or s.words 1 0 in
        let here : n ≡ r.serving = ap (λ ws. get_or ws 1 0) r.words in
        let w : V = served me.0 (list y) in
        let mine : Stands r.serving r.ticket r.seat log s.homes id me.0 (Waits t) = subst (Stands r.serving r.ticket r.seat log s.homes id me.0) waits (r.stands id me.0 at) in
        let gone : set s.homes 0 none ≡ none ∷ [] = ap (λ hs. set hs 0 none) h.1 in
        let own : Stands r.serving r.ticket r.seat log (set s.homes 0 none) id w Has = (omega (arith, here, is, mine.1), ap r.seat (sym here ∙ is) ∙ mine.2, mine.3, h.2, gone) in
        let sum = total_set tickets_of s.views id me.0 w at in
        let one : tickets_of me.0 ≡ 1 = ap tickets_at waits in
        let lefts = total_set left_of s.views id me.0 w at in
        let d = r.drawn in let sh = r.shared in
        let made = r.made id me.0 at live in let b = os.begins id me.0 at in
        let ent = total_set entries_of s.views id me.0 w at in let cnt = r.counted in
        let len : length (list y) ≡ r.start + r.serving = ap length h.2 ∙ r.length_is in
        let most = total_at left_of s.views id me.0 at in (
          w,
          takes 0 (Some y),
          ap (λ hs. get_elem? hs 0) h.1,
          (
            log,
            record {
              ticket = r.ticket;
              serving = r.serving;
              turns = r.turns;
              start = r.start;
              seat = r.seat;
              words = set-get_or s.words 1 0 ∙ r.words;
              few = r.few;
              drawn = omega arith;
              shared = omega arith;
              length_is = r.length_is;
              past = each_set (λ j x. (p : ℕ) (e : E) → In (p, e) x.mine → r.start ≤ p) s.views id w (r.past id me.0 at) (λ j x _ a. r.past j x a);
              made = each_set (λ j v. v.spent ≡ false → (v.turns ≡ r.turns) × (v.start ≡ r.start)) s.views id w (r.made id me.0 at) (λ j v _ e. r.made j v e);
              counted = omega arith;
              stands = each_set (λ j v. Stands r.serving r.ticket r.seat log (set s.homes 0 none) j v v.stage) s.views id w own (λ j v _ e. out_now r.serving r.ticket r.seat log s.homes (set s.homes 0 none) y j v v.stage h.1 (r.stands j v e));
              slot = inr (id, w, set_there s.views id w me.0 at, refl);
            },
            names_same E s.views id me.0 w at refl refl refl refl live ns,
            own_same E answers log s.views id me.0 w at refl (([], sym h.2 ∙ sym (append-nil (list y))), b.1, b.2) os,
          ),
          inl (
            waits ∙ ap Waits (sym is),
            (
              y,
              (λ lock. record {
                begins = subst (λ l. StartsWith l me.0.seen) (sym h.2) b.0;
                placed = subst (λ l. (p : ℕ) (e : E) → In (p, e) me.0.mine → get_elem? l p ≡ some e) (sym h.2) (os.placed id me.0 at);
                free = subst (λ l. (p : ℕ) (e : E) → In (p, e) me.0.mine → IsOpen answers l me.0.mine p → (j : ℕ) → j < length l → answers l j ≡ Some p → ⊥) (sym h.2) (os.free id me.0 at);
                grown = omega (arith, made.0, made.1);
              }),
              ap (λ l. (w, (0, Some y) ∷ l)) empty,
            ),
          ),
        )
    takes_it s log r ns os at is (inr h) =
        let here : get_or s.words 1 0 ≡ r.serving = ap (λ ws. get_or ws 1 0) r.words in
        let mine : Stands r.serving r.ticket r.seat log s.homes id me.0 (Waits t) = subst (Stands r.serving r.ticket r.seat log s.homes id me.0) waits (r.stands id me.0 at) in
        let theirs : Stands r.serving r.ticket r.seat log s.homes h.0 h.1 Has = subst (Stands r.serving r.ticket r.seat log s.homes h.0 h.1) h.3 (r.stands h.0 h.1 h.2) in
        let same : h.0 ≡ id = sym theirs.1 ∙ (ap r.seat (sym here ∙ is) ∙ mine.2) in
        let one : h.1 ≡ me.0 = some-injective h.1 me.0 (sym h.2 ∙ (ap (get_elem? s.views) same ∙ at)) in
        absurd (waits_has t h.1.stage (ap (λ (u : V). u.stage) one ∙ waits) h.3)

    pub looking : Allows (Kept list answers) slots id me 1 (λ n. n) (looks list answers (step slots 1 0 0 none) me)
    looking s kept _ at _ = dite (ℕ_discrete (get_or s.words 1 0) t)
        (λ is. takes_it s kept.0 kept.1 kept.2 kept.3 at is kept.1.slot)
        (λ other. (me.0, keeps, tt, unchanged s 1 id me.1 me.0 at kept, inr ((λ e. other (ticket_is (sym e ∙ waits))), refl)))

  -- the next is served, for another pass
  moves_on : (a b : ℕ) (seat : ℕ → ℕ) (log log' : List E) (homes homes' : Homes T) (me id : ℕ) (v : V) (st : Stage) → seat a ≡ me → id ≢ me → Stands a b seat log homes id v st → Stands (a + 1) b seat log' homes' id v st
  moves_on a b seat log log' homes homes' me id v Idle mine not k = tt
  moves_on a b seat log log' homes homes' me id v (Waits t) mine not k = (dite (ℕ_discrete t a) (λ e. absurd (not (sym k.2 ∙ (ap seat e ∙ mine)))) (λ n. omega (arith, k.0, n)), k.1, k.2, k.3)
  moves_on a b seat log log' homes homes' me id v Has mine not k = absurd (not (sym k.1 ∙ mine))

  module _ (slots id : ℕ) (me : M) (y : T) (e : E) (has : me.0.stage ≡ Has) (holds : me.1 ≡ (0, Some y) ∷ []) (adds : list y ≡ me.0.seen ++ e ∷ []) (may : MayAnswer answers me.0.seen me.0.mine e) (live : me.0.spent ≡ false)
      (earlier : (log : List E) (j p : ℕ) → answers log j ≡ Some p → p < j) (stays : (log : List E) (e : E) (j : ℕ) → j < length log → answers (log ++ e ∷ []) j ≡ answers log j) where
    pub serving : Allows (Kept list answers) slots id me 1 (λ n. (n + 1) % 18446744073709551616) (serves list (step slots 1 1 0 none) me)
    serving s kept _ at _ =
        let log = kept.0 in let r = kept.1 in
        let n : ℕ = get_or s.words 1 0 in
        let here : n ≡ r.serving = ap (λ ws. get_or ws 1 0) r.words in
        let w : V = wrote_seat me.0 me.0.seen e in
        let mine : Stands r.serving r.ticket r.seat log s.homes id me.0 Has = subst (Stands r.serving r.ticket r.seat log s.homes id me.0) has (r.stands id me.0 at) in
        let longer : list y ≡ log ++ e ∷ [] = adds ∙ ap (λ l. l ++ e ∷ []) mine.3 in
        let back : put_back s.homes me.1 ≡ some (Some y) ∷ [] = ap (put_back s.homes) holds ∙ ap (λ hs. set hs 0 (some (Some y))) mine.4 in
        let sum = total_set tickets_of s.views id me.0 w at in
        let one : tickets_of me.0 ≡ 1 = ap tickets_at has in
        let lefts = total_set left_of s.views id me.0 w at in
        let d = r.drawn in let sh = r.shared in let some_left = mine.2 in let few = r.few in
        let len : length (list y) ≡ length log + 1 = ap length longer ∙ length-append log (e ∷ []) in
        let l = r.length_is in
        let small : n + 1 < 18446744073709551616 = omega (arith, here) in
        let next : (n + 1) % 18446744073709551616 ≡ r.serving + 1 = mod-eq_of_lt small ∙ ap (λ (k : ℕ). k + 1) here in
        let ent = total_set entries_of s.views id me.0 w at in let cnt = r.counted in let more = length-append me.0.mine ((length me.0.seen, e) ∷ []) in
        let bs = kept.3.begins id me.0 at in
        let written : Own answers (list y) (set s.views id w) = subst (λ (z : List E × List E). Own answers z.0 (set s.views id (wrote_seat me.0 z.1 e))) (λ k. (sym longer k, sym mine.3 k))
        (own_wrote E answers earlier stays log s.views id me.0 e at (subst (λ l. MayAnswer answers l me.0.mine e) mine.3 may) kept.3 (bs.1, bs.2)) in (
          w,
          gives,
          tt,
          (
            list y,
            record {
              ticket = r.ticket;
              serving = r.serving + 1;
              turns = r.turns;
              start = r.start;
              seat = r.seat;
              words = ap (λ ws. set ws 1 ((n + 1) % 18446744073709551616)) r.words ∙ ap (λ (k : ℕ). r.ticket ∷ k ∷ []) next;
              few = r.few;
              drawn = omega arith;
              shared = omega arith;
              length_is = omega arith;
              past = each_set (λ j x. (p : ℕ) (e : E) → In (p, e) x.mine → r.start ≤ p) s.views id w (λ p f i. ⊎_elim (λ t. r.past id me.0 at p f t) (λ t. let n = ap (λ (z : ℕ × E). z.0) t in let q = ap length mine.3 in omega (arith, n, q, l)) (in_snoc (p, f) (length me.0.seen, e) me.0.mine i)) (λ j x _ a. r.past j x a);
              made = each_set (λ j v. v.spent ≡ false → (v.turns ≡ r.turns) × (v.start ≡ r.start)) s.views id w (r.made id me.0 at) (λ j v _ e. r.made j v e);
              counted = omega arith;
              stands = each_set (λ j v. Stands (r.serving + 1) r.ticket r.seat (list y) (put_back s.homes me.1) j v v.stage) s.views id w tt (λ j v other at'. moves_on r.serving r.ticket r.seat log (list y) s.homes (put_back s.homes me.1) id j v v.stage mine.1 other (r.stands j v at'));
              slot = inl (y, back, refl);
            },
            names_same E s.views id me.0 w at refl refl refl refl live kept.2,
            written,
          ),
          (y, e, holds, adds, ap (λ c. (w, rest c)) holds),
        )

  pub opens : (y : T) (turns : ℕ) → turns < 9223372036854775808 → Kept list answers (opening (0 ∷ 0 ∷ []) (Some y ∷ []) (opened_seat (list y) turns))
  opens y turns few = (
    list y,
    record {
      ticket = 0;
      serving = 0;
      turns = turns;
      start = length (list y);
      seat = λ t. 0;
      words = refl;
      few = few;
      drawn = refl;
      shared = omega arith;
      length_is = omega arith;
      past = each_one (λ j x. (p : ℕ) (e : E) → In (p, e) x.mine → length (list y) ≤ p) (opened_seat (list y) turns) (λ p e i. absurd i);
      made = each_one (λ j v. v.spent ≡ false → (v.turns ≡ turns) × (v.start ≡ length (list y))) (opened_seat (list y) turns) (λ _. (refl, refl));
      counted = refl;
      stands = each_one (λ j v. Stands 0 0 (λ t. 0) (list y) (some (Some y) ∷ []) j v v.stage) (opened_seat (list y) turns) tt;
      slot = inl (y, refl, refl);
    },
    names_open E (opened_seat (list y) turns) refl refl refl,
    own_open E answers (list y) (opened_seat (list y) turns) refl (([], sym (append-nil (list y))), (list y, refl), (list y, refl)),
  )

  pub looking_at : (slots id : ℕ) (m : M) (v : V) (t : ℕ) → m ≡ (staged v (Waits t), []) → v.spent ≡ false → Allows (Kept list answers) slots id m 1 (λ n. n) (looks list answers (step slots 1 0 0 none) m)
  looking_at slots id m v t e live = looking slots id m t (ap (λ (x : M). x.0.stage) e) (ap (λ (x : M). x.1) e) (ap (λ (x : M). x.0.spent) e ∙ live)

  module _ (earlier : (log : List E) (j p : ℕ) → answers log j ≡ Some p → p < j) (stays : (log : List E) (e : E) (j : ℕ) → j < length log → answers (log ++ e ∷ []) j ≡ answers log j) where
    pub serving_at : (slots id : ℕ) (m : M) (v : V) (x y : T) (e : E) → m ≡ (served v (list x), (0, Some y) ∷ []) → v.spent ≡ false → list y ≡ list x ++ e ∷ [] → MayAnswer answers (list x) v.mine e
        → Allows (Kept list answers) slots id m 1 (λ n. (n + 1) % 18446744073709551616) (serves list (step slots 1 1 0 none) m)
    serving_at slots id m v x y e is live adds may = serving slots id m y e (ap (λ (z : M). z.0.stage) is) (ap (λ (z : M). z.1) is) (adds ∙ ap (λ (z : M). z.0.seen ++ e ∷ []) (sym is))
        (subst (λ (z : V). MayAnswer answers z.seen z.mine e) (sym (ap (λ (z : M). z.0) is)) may) (ap (λ (z : M). z.0.spent) is ∙ live) earlier stays

  first_or : Option T → List (ℕ × Option T) → Option T
  first_or x [] = x
  first_or x (z ∷ zs) = z.1

  some_or : T → Option T → T
  some_or y None = y
  some_or y (Some z) = z

  pub Some-injective : (a b : T) → Some a ≡ Some b → a ≡ b
  unfolding some_or
  Some-injective a b e = ap (some_or b) e

  pub swapped : (m m' : M) (v : V) (x r y : Option T) → m ≡ (v, (0, x) ∷ []) → m.1 ≡ (0, r) ∷ rest m.1 → m' ≡ (m.0, (0, y) ∷ rest m.1) → (x ≡ r) × (m' ≡ (v, (0, y) ∷ []))
  unfolding first_or
  swapped m m' v x r y is was now = (ap (first_or x) (sym (ap (λ (z : M). z.1) is) ∙ was), now ∙ ap (λ (z : M). (z.0, (0, y) ∷ rest z.1)) is)

  module _ {F R : Type 0} (g : Once F (MutBor T × Unit {0}) (R × (MutBor T × Unit {0}))) (f : F) (r : R) where
    pub turned_at : (lock after : TableId) → after ≡ lock → (slots n : ℕ) (v : V) (m w : M) (x y : T) → m ≡ (served v (list x), (0, Some y) ∷ []) → serves list (step slots 1 1 0 none) m n w → SeatAgrees list answers v x
        → FnOnceReturnsAtMut g f x r y → Turned list answers g f (pass_view lock v) (pass_view after w.0) r
    unfolding first_or
    turned_at lock after kept slots n v m w x y is s agrees call =
        let same : s.0 ≡ y = Some-injective s.0 y (ap (first_or (Some y)) (sym s.2 ∙ ap (λ (z : M). z.1) is)) in
        let e = s.1 in
        let w0 : w.0 ≡ wrote_seat v (list x) e = ap (λ (z : M). z.0) s.4 ∙ ap (λ (z : M). wrote_seat z.0 z.0.seen e) is in
        let adds : list y ≡ list x ++ e ∷ [] = ap list (sym same) ∙ (s.3 ∙ ap (λ (z : M). z.0.seen ++ e ∷ []) is) in
        record {
          before = x;
          after = y;
          entry = e;
          agrees = agrees lock;
          call = call;
          left = adds ∙ sym (ap (λ (z : V). z.seen) w0);
          view = λ i. pass_view (kept i) (w0 i);
        }

  pub entered_at : (slots t n : ℕ) (m w : M) (v : V) → m ≡ (staged v (Waits t), []) → n ≡ t → looks list answers (step slots 1 0 0 none) m n w → Entered list answers v w
  entered_at slots t n m w v is same (inl l) =
      let a : SeatAgrees list answers (staged v (Waits t)) l.1.0 = subst (λ (z : M). SeatAgrees list answers z.0 l.1.0) is l.1.1 in
      (l.1.0, (λ lock. a lock), l.1.2 ∙ ap (λ (z : M). (served z.0 (list l.1.0), (0, Some l.1.0) ∷ [])) is)
  entered_at slots t n m w v is same (inr l) = absurd (l.0 (ap (λ (z : M). z.0.stage) is ∙ ap Waits (sym same)))
