-- What marks tell of a log, entry by entry.
use Rattle.std.proofs.Common.{◌≡◌, ◌+◌, ℕ, List, [], ◌∷◌, ◌++◌, length, sym, ◌∙◌, ap, subst, Bool, true, false, zero-add}
use Rattle.fc_nodes.specs.Program.{Unfolding}
use Rattle.topology.specs.Networks.{Network, IsNetwork}
use Rattle.message_links.specs.MailCores.{MailCore, MailEntryValue, IsMailStart}
use Rattle.message_links.specs.MailRounds.{Posts, posts_of, posts_along}
use Rattle.mail_count.specs.declared.marks.Marks.{Marks}
use Rattle.mail_count.specs.Marks.{Tells}
use Rattle.mail_count.specs.Laws.{IsGreatestMail}
use Rattle.mail_count.specs.Seen.{Seen, fresh, cleared, noted, IsWhole}
use Rattle.message_links.proofs.Along.{along_more}
use Rattle.mail_count.proofs.OwnPosts.{seen, seen_more, AreEarlier}
use Rattle.mail_count.proofs.Counts.{CountedSoFar, counted_first, counted_more, counted_round, counted_has, counted_all, cleared_fresh}
use Rattle.mail_count.proofs.Greatest.{some_device, start_early, early_front}

pub begin_count : (U : Unfolding) (c : MailCore) → IsMailStart U c → (log : List MailEntryValue) (m : Marks) → Tells c.core.net m (fresh (posts_of c)) → CountedSoFar c.core.net (posts_of c) log 0 log m
begin_count U c s log m t =
    let d = some_device c.core.net s.good.net in
    record { front = []; part = []; counted = counted_first c.core.net (posts_of c) log d.0 d.1 (start_early U c s); tells = t }

module _ (N : Network) (net : IsNetwork N) (p : Posts) (early : AreEarlier 0 p) (log : List MailEntryValue) (count : ℕ) (rest : List MailEntryValue) (e : MailEntryValue) (m next : Marks)
    (c : CountedSoFar N p log count (e ∷ rest) m) (notes : (s : Seen) → Tells N m s → Tells N next (noted N s e)) where
  abbrev after : Seen
  after = seen N (length c.front) (posts_along N 0 p c.front) (c.part ++ e ∷ [])

  told : Tells N next after
  told = subst (λ (s : Seen). Tells N next s) (sym (seen_more N (length c.front) (posts_along N 0 p c.front) c.part e)) (notes (seen N (length c.front) (posts_along N 0 p c.front) c.part) c.tells)

  pub count_more : (b : Bool) → b ≡ false → ((s : Seen) → Tells N next s → IsWhole N s → b ≡ true) → CountedSoFar N p log count rest next
  count_more b q done = record {
    front = c.front;
    part = c.part ++ e ∷ [];
    counted = counted_more N p log count c.front c.part rest e c.counted (λ w. let r = done after told w in absurd cc);
    tells = told;
  }

  pub count_round : (b : Bool) (begun : Marks) → b ≡ true → ((s : Seen) → Tells N next s → b ≡ true → IsWhole N s) → ((s : Seen) → Tells N next s → Tells N begun (cleared s)) → CountedSoFar N p log (count + 1) rest begun
  count_round b begun q whole clears =
      let d = some_device N net in
      let w = whole after told q in
      let at : ℕ = length c.front in
      let now : Posts = posts_along N 0 p c.front in
      let posts : posts_along N 0 p (c.front ++ (c.part ++ e ∷ [])) ≡ posts_along N (length c.front) (posts_along N 0 p c.front) (c.part ++ e ∷ []) =
      along_more N 0 p c.front (c.part ++ e ∷ []) ∙ ap (λ i. posts_along N i (posts_along N 0 p c.front) (c.part ++ e ∷ [])) (zero-add (length c.front)) in
      record {
        front = c.front ++ (c.part ++ e ∷ []);
        part = [];
        counted = counted_round N p log count c.front c.part rest e c.counted d.0 d.1 (early_front N p (c.front ++ (c.part ++ e ∷ [])) early) w;
        tells = subst (λ (r : Posts). Tells N begun (fresh r)) (sym posts)
            (subst (λ (s : Seen). Tells N begun s) (cleared_fresh N at now (c.part ++ e ∷ []) c.counted.early) (clears after told));
      }

-- the whole log is read
pub all_read : (N : Network) (p : Posts) (log : List MailEntryValue) (count : ℕ) (m : Marks) → CountedSoFar N p log count [] m → IsGreatestMail N p log count
all_read N p log count m c = record { has = counted_has N p log count c.front c.part c.counted; greatest = counted_all N p log count c.front c.part c.counted }
