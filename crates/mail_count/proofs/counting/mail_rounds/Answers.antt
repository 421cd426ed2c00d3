use Rattle.std.proofs.Common.{◌≡◌, ◌+◌, ℕ, suc, List, ◌∷◌, map, drop, get_or, sym, ◌∙◌, ap, subst, arith}
use Rattle.std.proofs.Math.Seq.{drop-cons}
use Rattle.std.proofs.lemmas.List.{drop_all}
use Rattle.topology.specs.Networks.{Network, IsNetwork}
use Rattle.firing_core.specs.CoreViews.{CoreValue}
use Rattle.message_links.specs.declared.entries.MailEntry.{MailEntry}
use Rattle.message_links.specs.declared.entries.MailEntry.TheVariants as entry
use Rattle.message_links.specs.MailEntries.{mail_entry, mail_entries}
use Rattle.message_links.specs.MailRounds.{posts_of}
use Rattle.mail_book.specs.MailViews.{MailValue, mail_of, unfolded_of}
use Rattle.mail_count.specs.declared.marks.Marks.{Marks}
use Rattle.mail_count.specs.Marks.{Tells}
use Rattle.mail_count.specs.Seen.{fresh}
use Rattle.mail_count.specs.Laws.{IsGreatestMail}
use Rattle.mail_count.proofs.Counts.{CountedSoFar}
use Rattle.mail_count.proofs.SoFar.{begin_count, count_more, count_round, all_read}
use Rattle.mail_count.proofs.Greatest.{start_early}
use Rattle.mail_count.proofs.counting.mail_rounds.Goals as goal
use Rattle.mail_count.proofs.counting.mail_rounds.Goals.{then-is_done, else-is_done}

pub loop-entry-init : goal.loop-entry-init
loop-entry-init c =
    let book = c.args.book.now in
    let log = map mail_entry c.log-entry-items.result.now in
    let there : c.net-net.result.now ≡ book.start.core.net =
    c.net-net.ensures.value ∙ ap (λ (k : CoreValue). k.net) (c.core.ensures.value ∙ ap (λ (m : MailValue). m.core) c.start.ensures.value) in
    let tells : Tells book.start.core.net c.in_ok-marks.marks (fresh (posts_of (mail_of book.start))) =
    subst (λ (m : MailValue). Tells m.core.net c.in_ok-marks.marks (fresh (posts_of (mail_of m)))) c.start-2.ensures.value c.in_ok-marks.ensures in
    record {
      few = omega arith;
      read = subst (λ (N : Network). CountedSoFar N (posts_of (mail_of book.start)) log 0 log c.in_ok-marks.marks) (sym there)
          (begin_count (unfolded_of book.start) (mail_of book.start) c.start.ensures.book.started log c.in_ok-marks.marks tells);
    }

pub loop-entry-preserved : goal.loop-entry-preserved
loop-entry-preserved c =
    let book = c.args.book.now in
    let items = c.log-entry-items.result.now in
    let log = map mail_entry items in
    let i = c.loop-entry.entry-index in
    let N = c.net-net.result.now in
    let net : IsNetwork N = subst IsNetwork (sym c.net-net.ensures.value) c.net-net.ensures.core.net in
    let p = posts_of (mail_of book.start) in
    let early = start_early (unfolded_of book.start) (mail_of book.start) c.start.ensures.book.started in
    let e : MailEntry = get_or items i (entry.Begin 0) in
    let one : suc i ≡ i + 1 = omega arith in
    let here : drop i items ≡ e ∷ drop (i + 1) items = drop-cons items i (entry.Begin 0) c.loop-entry-test.true ∙ ap (λ n. e ∷ drop n items) one in
    let was : CountedSoFar N p log c.loop-entry.count (mail_entry e ∷ map mail_entry (drop (i + 1) items)) c.loop-entry.marks =
    subst (λ (l : List MailEntry). CountedSoFar N p log c.loop-entry.count (map mail_entry l) c.loop-entry.marks) here c.loop-entry.invariant.read in
    let few = c.loop-entry.invariant.few in
    elim c.if-is_done.branch [
      | then-is_done w ↦ record {
        few = omega (arith, w.count-is, few);
        read = subst (λ (m : Marks). CountedSoFar N p log c.if-is_done.count (map mail_entry (drop (i + 1) items)) m) (sym w.marks-is)
            (subst (λ (n : ℕ). CountedSoFar N p log n (map mail_entry (drop (i + 1) items)) w.begin_round.new.self) (sym w.count-is)
            (count_round N net p early log c.loop-entry.count (map mail_entry (drop (i + 1) items)) (mail_entry e) c.loop-entry.marks c.note.new.self was c.in_ok-note.ensures c.is_done.result w.begin_round.new.self w.if-is_done.true
            (λ s t q. c.is_done.ensures.whole N s net t q) (λ s t. w.begin_round.ensures N s t)));
      }
      | else-is_done w ↦ record {
        few = omega (arith, w.count-is, few);
        read = subst (λ (m : Marks). CountedSoFar N p log c.if-is_done.count (map mail_entry (drop (i + 1) items)) m) (sym w.marks-is)
            (subst (λ (n : ℕ). CountedSoFar N p log n (map mail_entry (drop (i + 1) items)) c.note.new.self) (sym w.count-is)
            (count_more N net p early log c.loop-entry.count (map mail_entry (drop (i + 1) items)) (mail_entry e) c.loop-entry.marks c.note.new.self was c.in_ok-note.ensures c.is_done.result w.if-is_done.false
            (λ s t q. c.is_done.ensures.done N s net t q)));
      }
    ]

module _ (c : goal.After-drop-marks-4) where
  counted : IsGreatestMail c.args.book.now.start.core.net (posts_of (mail_of c.args.book.now.start)) (mail_entries c.args.book.now.log) c.loop-entry.count
  counted =
      let book = c.args.book.now in
      let items = c.log-entry-items.result.now in
      let p = posts_of (mail_of book.start) in
      let there : c.net-net.result.now ≡ book.start.core.net =
      c.net-net.ensures.value ∙ ap (λ (k : CoreValue). k.net) (c.core.ensures.value ∙ ap (λ (m : MailValue). m.core) c.start.ensures.value) in
      let read = all_read c.net-net.result.now p (map mail_entry items) c.loop-entry.count c.loop-entry.marks
      (subst (λ (l : List MailEntry). CountedSoFar c.net-net.result.now p (map mail_entry items) c.loop-entry.count (map mail_entry l) c.loop-entry.marks)
      (drop_all c.loop-entry.entry-index items c.loop-entry-test.false) c.loop-entry.invariant.read) in
      subst (λ (l : List MailEntry). IsGreatestMail book.start.core.net p (mail_entries l) c.loop-entry.count) c.log-entry-items.ensures.value
      (subst (λ (N : Network). IsGreatestMail N p (map mail_entry items) c.loop-entry.count) there read)

pub returns-clause-has : goal.returns-clause-has
returns-clause-has c = (counted c).has

pub returns-clause-greatest : goal.returns-clause-greatest
returns-clause-greatest c = (counted c).greatest
