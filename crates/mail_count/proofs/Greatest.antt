-- Each mail log has a greatest number of rounds.
use Rattle.std.proofs.Common.{◌≡◌, ◌≤◌, ◌+◌, ℕ, Bool, true, false, ◌&&◌, List, [], ◌∷◌, ◌++◌, length, map, refl, subst, arith, nat_eq, zero-add}
use Rattle.std.proofs.lemmas.Bool.{eqb-true, eq-eqb}
use Rattle.fc_nodes.specs.Program.{Unfolding}
use Rattle.fc_values.specs.Fields.{is_in}
use Rattle.topology.specs.Networks.{Network, NetDevice, IsNetwork, Lives, numbers}
use Rattle.message_links.specs.MailCores.{Message, MailCore, MailEntryValue, AreOld, IsMailStart}
use Rattle.message_links.specs.MailRounds.{Posts, posts_of, posts_along}
use Rattle.message_links.proofs.Reaching.{both_true}
use Rattle.mail_count.specs.Seen.{Seen, missing, IsWhole}
use Rattle.mail_count.specs.Marks.{pair_rows, missing_rows}
use Rattle.mail_count.specs.Laws.{IsGreatestMail, SomeGreatestMail}
use Rattle.mail_count.proofs.OwnPosts.{seen, AreEarlier, Posted}
use Rattle.mail_count.proofs.Covers.{each_true, none_missing}
use Rattle.mail_count.proofs.Counts.{Counted, counted_first, counted_more, counted_round, counted_has, counted_all, early_along}
use Rattle.mail_count.proofs.Tables.{pairs_true, true_pairs}

-- ---- a device, and posts of no end of the log

first_device : (ns : List NetDevice) → 1 ≤ length ns → (d : ℕ) × (is_in d (numbers ns) ≡ true)
first_device [] h = absurd (omega arith)
first_device (n ∷ ns) h = let k : nat_eq n.id n.id ≡ true = eq-eqb n.id n.id refl in (n.id, rw k refl)

pub some_device : (N : Network) → IsNetwork N → (d : ℕ) × Lives N d
some_device N net = first_device N.devices net.some

old_posts : (U : Unfolding) (N : Network) (a b j : ℕ) (ms : List Message) → AreOld U N a b ms → Posted j (map (λ (m : Message). m.sent) ms) → ⊥
old_posts U N a b j [] h k = k
old_posts U N a b j (m ∷ ms) h k = old_posts U N a b j ms h.3 (subst (λ s. Posted j (s ∷ map (λ (m : Message). m.sent) ms)) h.2 k)

pub start_early : (U : Unfolding) (c : MailCore) → IsMailStart U c → AreEarlier 0 (posts_of c)
start_early U c s a b j k = absurd (old_posts U c.core.net a b j (c.transit a b) (s.transit a b) k)

pub early_front : (N : Network) (p : Posts) (front : List MailEntryValue) → AreEarlier 0 p → AreEarlier (length front) (posts_along N 0 p front)
early_front N p front h = subst (λ i. AreEarlier i (posts_along N 0 p front)) (zero-add (length front)) (early_along N 0 p front h)

-- ---- a round is whole or isn't

module _ (N : Network) (net : IsNetwork N) (s : Seen) where
  abbrev is_whole : Bool
  is_whole = nat_eq (missing (map s.fired (numbers N.devices))) 0 && nat_eq (missing_rows (pair_rows N s.brought)) 0

  pub none_left : missing (map s.fired (numbers N.devices)) ≡ 0 → missing_rows (pair_rows N s.brought) ≡ 0 → IsWhole N s
  none_left f b = record { fired = λ d l. each_true s.fired (numbers N.devices) f d l; brought = pairs_true N net s.brought b }

  pub left_none : IsWhole N s → (missing (map s.fired (numbers N.devices)) ≡ 0) × (missing_rows (pair_rows N s.brought) ≡ 0)
  left_none w = (none_missing s.fired (numbers N.devices) w.fired, true_pairs N net s.brought w.brought)

  tested : is_whole ≡ true → IsWhole N s
  tested h =
      let k = both_true (nat_eq (missing (map s.fired (numbers N.devices))) 0) (nat_eq (missing_rows (pair_rows N s.brought)) 0) h in
      none_left (eqb-true (missing (map s.fired (numbers N.devices))) 0 k.0) (eqb-true (missing_rows (pair_rows N s.brought)) 0 k.1)

  refuted : is_whole ≡ false → IsWhole N s → ⊥
  refuted h w =
      let k = left_none w in
      let p = eq-eqb (missing (map s.fired (numbers N.devices))) 0 k.0 in
      let q = eq-eqb (missing_rows (pair_rows N s.brought)) 0 k.1 in
      let r : (true && true) ≡ false = rw (p, q) at h in
      cc

-- ---- the number

module _ (N : Network) (net : IsNetwork N) (p : Posts) (early : AreEarlier 0 p) (log : List MailEntryValue) where
  count_on : (rest : List MailEntryValue) (count : ℕ) (front part : List MailEntryValue) → Counted N p log count front part rest → (k : ℕ) × IsGreatestMail N p log k
  count_on [] count front part c = (count, record { has = counted_has N p log count front part c; greatest = counted_all N p log count front part c })
  count_on (e ∷ rest) count front part c =
      by_test (is_whole N net (seen N (length front) (posts_along N 0 p front) (part ++ e ∷ []))) refl
      (count_on rest (count + 1) (front ++ (part ++ e ∷ [])) []) (count_on rest count front (part ++ e ∷ []))
    where
      by_test : (t : Bool) → is_whole N net (seen N (length front) (posts_along N 0 p front) (part ++ e ∷ [])) ≡ t
          → (Counted N p log (count + 1) (front ++ (part ++ e ∷ [])) [] rest → (k : ℕ) × IsGreatestMail N p log k)
          → (Counted N p log count front (part ++ e ∷ []) rest → (k : ℕ) × IsGreatestMail N p log k)
          → (k : ℕ) × IsGreatestMail N p log k
      by_test true q whole more =
          let d = some_device N net in
          whole (counted_round N p log count front part rest e c d.0 d.1 (early_front N p (front ++ (part ++ e ∷ [])) early)
          (tested N net (seen N (length front) (posts_along N 0 p front) (part ++ e ∷ [])) q))
      by_test false q whole more = more (counted_more N p log count front part rest e c (refuted N net (seen N (length front) (posts_along N 0 p front) (part ++ e ∷ [])) q))

  counted : (k : ℕ) × IsGreatestMail N p log k
  counted = let d = some_device N net in count_on log 0 [] [] (counted_first N p log d.0 d.1 early)

pub some_greatest : SomeGreatestMail
some_greatest U start log s = counted start.core.net s.good.net (posts_of start) (start_early U start s) log
