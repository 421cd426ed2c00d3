-- Rows after exports were heard and sent that a start holds, and that a log may start from there.
use Rattle.std.proofs.Common.{◌≡◌, ◌≤◌, ◌<◌, ◌+◌, ℕ, zero, suc, List, [], ◌∷◌, ◌++◌, length, map, take, get_or, refl, sym, ◌∙◌, ap, subst, arith, Bool, true, false, ◌&&◌, if◌then◌else◌, nat_eq, Option, Some, None}
use Rattle.std.specs.Prelude.{nat_le, option_map}
use Rattle.std.proofs.lemmas.Bool.{eqb-true, leb-true, leb-false}
use Rattle.std.proofs.lemmas.List.{length-append, map-append}
use Rattle.fc_values.specs.declared.exports.Export.{Export}
use Rattle.fc_values.specs.Exports.{export_of}
use Rattle.fc_values.specs.Trees.{TreeExport}
use Rattle.fc_nodes.specs.Program.{Unfolding}
use Rattle.fc_nodes.specs.Flat.{tree_export, IsExport}
use Rattle.value_trees.specs.Copies.{WhereSome}
use Rattle.value_trees.specs.Snaps.{tree_of, IsExportOf}
use Rattle.topology.specs.Networks.{Network, IsNetwork, numbers}
use Rattle.firing_core.specs.Cores.{Core, GoodExport, IsGood}
use Rattle.firing_core.specs.CoreViews.{CoreValue, core_of, program_of}
use Rattle.message_links.specs.MailCores.{Message as MailMessage, MailCore, Pairs, put_pair, rest_of, pushed, Reaches, AreOld, IsMailStart}
use Rattle.message_links.specs.declared.entries.TheConstants.{MOST_IN_TRANSIT}
use Rattle.message_links.proofs.Reaching.{both_true, sender}
use Rattle.mail_book.specs.declared.letters.Letters.{Letters}
use Rattle.mail_book.specs.declared.starts.Post.{Post}
use Rattle.mail_book.specs.Pairs.{AreRows, AtPair}
use Rattle.mail_book.specs.Letters.{message_of, transit_of, AreLetters, AllMessages}
use Rattle.mail_book.specs.Rows.{heard_at, transit_at, AllRows, AreQuiet, PostsTo}
use Rattle.mail_book.specs.Starts.{AreHeld, Hears, PostValue, Sends, heard_after, holding, old_message, post_of, post_values, sent_after}
use Rattle.mail_book.specs.MailViews.{mail_with, mail_of, IsMail}
use Rattle.mail_book.proofs.Copying.{quiet_rows, quiet_mail}
use Rattle.mail_book.proofs.LetterWrites.{rewritten, rewritten_letters, letters_there, transit_read, heard_write, transit_write}
use Rattle.mail_book.proofs.PairLookups.{put_same}
use Rattle.mail_book.proofs.Taking.{take_more}

-- ---- one post after others

heard_snoc : (f : Pairs (Option TreeExport)) (ps : List PostValue) (p : PostValue) → heard_after f (ps ++ p ∷ []) ≡ put_pair (heard_after f ps) p.from p.to (Some p.export)
heard_snoc f [] p = refl
heard_snoc f (q ∷ ps) p = heard_snoc (put_pair f q.from q.to (Some q.export)) ps p

sent_snoc : (f : Pairs (List MailMessage)) (ps : List PostValue) (p : PostValue)
    → sent_after f (ps ++ p ∷ []) ≡ put_pair (sent_after f ps) p.from p.to (pushed (sent_after f ps p.from p.to) (old_message p.export))
sent_snoc f [] p = refl
sent_snoc f (q ∷ ps) p = sent_snoc (put_pair f q.from q.to (pushed (f q.from q.to) (old_message q.export))) ps p

module _ (U : Unfolding) (N : Network) where
  pub held_at : (ps : List Post) (i : ℕ) (p : Post) → AreHeld U N ps → i < length ps → p ≡ get_or ps i p → Reaches N p.from p.to × IsExportOf U p.export
  held_at [] i p h l q = absurd (omega arith)
  held_at (x ∷ ps) zero p h l q = subst (λ (y : Post). Reaches N y.from y.to × IsExportOf U y.export) (sym q) (h.0, h.1)
  held_at (x ∷ ps) (suc i) p h l q = held_at ps i p h.2 (omega arith) q

  values_more : (ps : List Post) (i : ℕ) (p : Post) → i < length ps → p ≡ get_or ps i p → post_values U (take (i + 1) ps) ≡ post_values U (take i ps) ++ post_of U p ∷ []
  values_more ps i p l q = ap (post_values U) (take_more ps i p l q) ∙ map-append (post_of U) (take i ps) (p ∷ [])

  pub hears_more : (ps : List Post) (i : ℕ) (p : Post) (old middle new : List (List Letters)) → i < length ps → p ≡ get_or ps i p
      → Hears U N (post_values U (take i ps)) old middle → Hears U N (post_of U p ∷ []) middle new → Hears U N (post_values U (take (i + 1) ps)) old new
  hears_more ps i p old middle new l q h g = subst (λ (vs : List PostValue). Hears U N vs old new) (sym (values_more ps i p l q)) (record {
    letters = g.letters;
    heard = g.heard ∙ ap (λ f. put_pair f p.from p.to (Some (tree_of U p.export))) h.heard ∙ sym (heard_snoc (heard_at U N old) (post_values U (take i ps)) (post_of U p));
    transit = g.transit ∙ h.transit;
  })

  pub sends_more : (ps : List Post) (i : ℕ) (p : Post) (old middle new : List (List Letters)) → i < length ps → p ≡ get_or ps i p → Reaches N p.from p.to
      → Sends U N (post_values U (take i ps)) old middle → PostsTo U N p.from p.to None (tree_of U p.export) middle new → Sends U N (post_values U (take (i + 1) ps)) old new
  sends_more ps i p old middle new l q linked h g = subst (λ (vs : List PostValue). Sends U N vs old new) (sym (values_more ps i p l q)) (record {
    letters = g.letters;
    heard = g.heard ∙ h.heard;
    transit = (rw linked at g.transit)
        ∙ ap (λ f. put_pair f p.from p.to (pushed (f p.from p.to) (old_message (tree_of U p.export)))) h.transit
        ∙ sym (sent_snoc (transit_at U N old) (post_values U (take i ps)) (post_of U p));
  })

-- ---- one export that is heard

module _ (N : Network) (net : IsNetwork N) (rows : List (List Letters)) (shape : AreRows N (numbers N.devices) rows) (a b : ℕ) (place : ℕ × ℕ) (at : AtPair N a b place)
    (U : Unfolding) (all : AllRows U rows) (e : Export) (typed : IsExportOf U e) where
  pub heard_one : (old l : Letters) (x : Export) → old ≡ get_or (get_or rows place.0 []) place.1 old → export_of x ≡ export_of e → l.heard ≡ Some x → l.transit ≡ old.transit
      → Hears U N (record { from = a; to = b; export = tree_of U e } ∷ []) rows (rewritten N net rows shape a b place at l)
  heard_one old l x is same heard transit =
      let k : AreLetters U old = letters_there N net rows shape a b place at U old is all in
      record {
        letters = rewritten_letters N net rows shape a b place at U l all (record {
          heard = subst (WhereSome (IsExportOf U)) (sym heard) (subst (IsExport U) (sym same) typed);
          transit = subst (λ v. AllMessages U v.items) (sym transit) k.transit;
        });
        heard = heard_write N net rows shape a b place at U l
            ∙ ap (put_pair (heard_at U N rows) a b) (ap (option_map (tree_of U)) heard ∙ ap (λ y. Some (tree_export U y)) same);
        transit = transit_write N net rows shape a b place at U l
            ∙ put_same (transit_at U N rows) a b (transit_of U l) (transit_read N net rows shape a b place at U old is ∙ ap (λ v. map (message_of U) v.items) (sym transit));
      }

-- ---- a log may start from what is held

put_each : {X : Type 0} (Q : ℕ → ℕ → X → Type 0) (f : Pairs X) (a b : ℕ) (x : X) → ((c d : ℕ) → Q c d (f c d)) → Q a b x → (c d : ℕ) → Q c d (put_pair f a b x c d)
put_each {X} Q f a b x all here c d = by_test (nat_eq c a && nat_eq d b) refl
  where
    by_test : (t : Bool) → (nat_eq c a && nat_eq d b) ≡ t → Q c d (if t then x else f c d)
    by_test true q =
        let k = both_true (nat_eq c a) (nat_eq d b) q in
        subst (λ y. Q y d x) (sym (eqb-true c a k.0)) (subst (λ y. Q a y x) (sym (eqb-true d b k.1)) here)
    by_test false q = all c d

some_is : (x y : TreeExport) → ◌≡◌ {A = Option TreeExport} (Some x) (Some y) → x ≡ y
some_is x y q = cc

module _ (U : Unfolding) (N : Network) (net : IsNetwork N) where
  abbrev IsHeard : ℕ → ℕ → Option TreeExport → Type 0
  IsHeard a b o = (e : TreeExport) → o ≡ Some e → Reaches N a b × GoodExport U N a e

  abbrev AreFew : ℕ → ℕ → List MailMessage → Type 0
  AreFew a b ms = AreOld U N a b ms × (length ms ≤ MOST_IN_TRANSIT)

  good_post : (p : Post) → Reaches N p.from p.to → IsExportOf U p.export → GoodExport U N p.from (tree_of U p.export)
  good_post p linked k = record { there = sender N net p.from p.to linked; typed = k.typed }

  heard_good : (ps : List Post) (f : Pairs (Option TreeExport)) → AreHeld U N ps → ((a b : ℕ) → IsHeard a b (f a b)) → (a b : ℕ) → IsHeard a b (heard_after f (post_values U ps) a b)
  heard_good [] f h g = g
  heard_good (p ∷ ps) f h g =
      heard_good ps (put_pair f p.from p.to (Some (tree_of U p.export))) h.2
      (put_each IsHeard f p.from p.to (Some (tree_of U p.export)) g
      (λ e q. (h.0, subst (GoodExport U N p.from) (some_is (tree_of U p.export) e q) (good_post p h.0 h.1))))

  old_rest : (a b : ℕ) (ms : List MailMessage) → AreOld U N a b ms → AreOld U N a b (rest_of ms)
  old_rest a b [] h = tt
  old_rest a b (m ∷ ms) h = h.3

  old_more : (a b : ℕ) (ms : List MailMessage) (e : TreeExport) → AreOld U N a b ms → Reaches N a b → GoodExport U N a e → AreOld U N a b (ms ++ old_message e ∷ [])
  old_more a b [] e h linked k = (linked, k, refl, tt)
  old_more a b (m ∷ ms) e h linked k = (h.0, h.1, h.2, old_more a b ms e h.3 linked k)

  shorter : (ms : List MailMessage) → 1 ≤ length ms → suc (length (rest_of ms)) ≡ length ms
  shorter [] h = absurd (omega arith)
  shorter (m ∷ ms) h = refl

  few_more : (a b : ℕ) (ms : List MailMessage) (e : TreeExport) → AreFew a b ms → Reaches N a b → GoodExport U N a e → AreFew a b (pushed ms (old_message e))
  few_more a b ms e h linked k = by_test (nat_le MOST_IN_TRANSIT (length ms)) refl
    where
      by_test : (t : Bool) → nat_le MOST_IN_TRANSIT (length ms) ≡ t → AreFew a b ((if t then rest_of ms else ms) ++ old_message e ∷ [])
      by_test true q =
          let l = length-append (rest_of ms) (old_message e ∷ []) in
          let full = leb-true MOST_IN_TRANSIT (length ms) q in
          let s = shorter ms (omega arith) in
          let few = h.1 in
          (old_more a b (rest_of ms) e (old_rest a b ms h.0) linked k, omega arith)
      by_test false q =
          let l = length-append ms (old_message e ∷ []) in
          let room = leb-false MOST_IN_TRANSIT (length ms) q in
          (old_more a b ms e h.0 linked k, omega arith)

  sent_good : (ps : List Post) (f : Pairs (List MailMessage)) → AreHeld U N ps → ((a b : ℕ) → AreFew a b (f a b)) → (a b : ℕ) → AreFew a b (sent_after f (post_values U ps) a b)
  sent_good [] f h g = g
  sent_good (p ∷ ps) f h g =
      sent_good ps (put_pair f p.from p.to (pushed (f p.from p.to) (old_message (tree_of U p.export)))) h.2
      (put_each AreFew f p.from p.to (pushed (f p.from p.to) (old_message (tree_of U p.export))) g
      (few_more p.from p.to (f p.from p.to) (tree_of U p.export) (g p.from p.to) h.0 (good_post p h.0 h.1)))

pub holding_starts : (U : Unfolding) (c : Core) (hs ts : List Post) → IsGood U c → AreHeld U c.net hs → AreHeld U c.net ts → IsMailStart U (holding c (post_values U hs) (post_values U ts))
holding_starts U c hs ts good heard transit =
    let sent = sent_good U c.net good.net ts (λ a b. []) transit (λ a b. (tt, omega arith)) in
    record {
      good = good;
      heard = heard_good U c.net good.net hs (λ a b. None) heard (λ a b e q. absurd cc);
      transit = λ a b. (sent a b).0;
      few = λ a b. (sent a b).1;
    }

-- ---- what the code makes

module _ (c : CoreValue) (good : IsGood (program_of c) (core_of c)) (hs ts : List Post) (heard_may : AreHeld (program_of c) c.net hs) (sent_may : AreHeld (program_of c) c.net ts)
    (N : Network) (same : N ≡ c.net) (xs ys : List Post) (xs_are : xs ≡ hs) (ys_are : ys ≡ ts) (none heard sent : List (List Letters)) (quiet : AreQuiet none)
    (hears : (U : Unfolding) → AllRows U none → AreHeld U N xs → Hears U N (post_values U xs) none heard)
    (sends : (U : Unfolding) → AllRows U heard → AreHeld U N ys → Sends U N (post_values U ys) heard sent)
    (shape : AreRows N (numbers N.devices) sent) where
  abbrev U : Unfolding
  U = program_of c

  may : (ps qs : List Post) → ps ≡ qs → AreHeld U c.net qs → AreHeld U N ps
  may ps qs q h = subst (λ (rs : List Post). AreHeld U N rs) (sym q) (subst (λ (M : Network). AreHeld U M qs) (sym same) h)

  was_heard : Hears U c.net (post_values U hs) none heard
  was_heard =
      subst (λ (M : Network). Hears U M (post_values U hs) none heard) same
      (subst (λ (ps : List Post). Hears U N (post_values U ps) none heard) xs_are (hears U (quiet_rows U none quiet) (may xs hs xs_are heard_may)))

  was_sent : Sends U c.net (post_values U ts) heard sent
  was_sent =
      subst (λ (M : Network). Sends U M (post_values U ts) heard sent) same
      (subst (λ (ps : List Post). Sends U N (post_values U ps) heard sent) ys_are (sends U was_heard.letters (may ys ts ys_are sent_may)))

  pub is_mail : IsMail (mail_with c sent)
  is_mail = record { shape = subst (λ (M : Network). AreRows M (numbers M.devices) sent) same shape; letters = was_sent.letters }

  pub holds : mail_of (mail_with c sent) ≡ holding (core_of c) (post_values U hs) (post_values U ts)
  holds =
      let q = quiet_mail c none quiet in
      let h : heard_at U c.net sent ≡ heard_after (λ a b. None) (post_values U hs) =
      was_sent.heard ∙ was_heard.heard ∙ ap (λ (m : MailCore). heard_after m.heard (post_values U hs)) q in
      let t : transit_at U c.net sent ≡ sent_after (λ a b. []) (post_values U ts) =
      was_sent.transit ∙ ap (λ f. sent_after f (post_values U ts)) (was_heard.transit ∙ ap (λ (m : MailCore). m.transit) q) in
      ap (λ f. let m : MailCore = record { core = core_of c; heard = f; transit = transit_at U c.net sent } in m) h
      ∙ ap (λ f. let m : MailCore = record { core = core_of c; heard = heard_after (λ a b. None) (post_values U hs); transit = f } in m) t

  pub starts : IsMailStart U (mail_of (mail_with c sent))
  starts = subst (IsMailStart U) (sym holds) (holding_starts U (core_of c) hs ts good heard_may sent_may)
