-- A mail core in code in which the letters of one ordered pair are changed.
use Rattle.std.proofs.Common.{◌≡◌, ◌<◌, ◌≤◌, ℕ, List, [], length, get_or, sym, subst, Some, Vec, Global}
use Rattle.std.specs.Prelude.{slice_set}
use Rattle.std.specs.Vec.{with_item}
use Rattle.topology.specs.Networks.{Network, IsNetwork}
use Rattle.firing_core.specs.CoreViews.{CoreValue, program_of}
use Rattle.message_links.specs.MailCores.{MailEntryValue, MailDeliver, MailAgain, MailLose, MailStep, without}
use Rattle.message_links.specs.declared.entries.MailFault.TheVariants as fault
use Rattle.mail_book.specs.declared.letters.Letters.{Letters}
use Rattle.mail_book.specs.Pairs.{AtPair}
use Rattle.mail_book.specs.Letters.{AreLetters, Delivers, Repeats}
use Rattle.mail_book.specs.Rows.{lists_of}
use Rattle.mail_book.specs.MailViews.{MailValue, mail_with, mail_of, IsMail}
use Rattle.mail_book.specs.MailReplays.{mail_fault}
use Rattle.mail_book.proofs.LetterWrites.{row_there, item_there, item_is, written_is, rewritten, rewritten_shape, rewritten_letters, letters_there}
use Rattle.mail_book.proofs.MessageSteps.{delivered, repeated, lost, empty_there, past_there}

-- where the pair stands, and the rows, as code has found them
module _ (core : CoreValue) (net : IsNetwork core.net) (rows : List (Vec Letters Global)) (is : IsMail (mail_with core (lists_of rows)))
    (N : Network) (same : N ≡ core.net) (a b row at : ℕ) (place : AtPair N a b (row, at)) where
  pair : AtPair core.net a b (row, at)
  pair = subst (λ (M : Network). AtPair M a b (row, at)) same place

  pub row_in : row < length rows
  row_in = row_there core.net net rows is.shape a b row at pair

  module _ (v : Vec Letters Global) (v_is : v ≡ get_or rows row v) where
    pub item_in : at < length v.items
    item_in = item_there core.net net rows is.shape a b row at pair v v_is

    module _ (old : Letters) (old_is : old ≡ get_or v.items at old) where
      there : old ≡ get_or (get_or (lists_of rows) row []) at old
      there = item_is core.net net rows is.shape a b row at pair v v_is old old_is

      pub old_letters : AreLetters (program_of core) old
      old_letters = letters_there core.net net (lists_of rows) is.shape a b (row, at) pair (program_of core) old there is.letters

      -- the mail core of the code before
      module _ (now : MailValue) (view : mail_with core (lists_of rows) ≡ now) where
        pub empties : old.transit.items ≡ [] → mail_fault (mail_of now) (MailDeliver a b) ≡ Some fault.Empty
        empties e =
            subst (λ (m : MailValue). mail_fault (mail_of m) (MailDeliver a b) ≡ Some fault.Empty) view
            (empty_there core net (lists_of rows) is.shape a b (row, at) pair old there e)

        pub passes : (k : ℕ) → length old.transit.items ≤ k → mail_fault (mail_of now) (MailLose a b k) ≡ Some fault.Empty
        passes k e =
            subst (λ (m : MailValue). mail_fault (mail_of m) (MailLose a b k) ≡ Some fault.Empty) view
            (past_there core net (lists_of rows) is.shape a b (row, at) pair old there k e)

      -- and after
      module _ (l : Letters) where
        abbrev pub changed : MailValue
        changed = mail_with core (lists_of (slice_set rows row (with_item v at l)))

        written : lists_of (slice_set rows row (with_item v at l)) ≡ rewritten core.net net (lists_of rows) is.shape a b (row, at) pair l
        written = written_is core.net net rows is.shape a b row at pair v v_is l

        pub keeps : AreLetters (program_of core) l → IsMail changed
        keeps k =
            subst (λ (rs : List (List Letters)). IsMail (mail_with core rs)) (sym written) (record {
              shape = rewritten_shape core.net net (lists_of rows) is.shape a b (row, at) pair l;
              letters = rewritten_letters core.net net (lists_of rows) is.shape a b (row, at) pair (program_of core) l is.letters k;
            })

        module _ (now : MailValue) (view : mail_with core (lists_of rows) ≡ now) where
          stepped : (e : MailEntryValue) → MailStep (program_of core) 0 (mail_of (mail_with core (lists_of rows))) e (mail_of (mail_with core (rewritten core.net net (lists_of rows) is.shape a b (row, at) pair l)))
              → MailStep (program_of core) 0 (mail_of now) e (mail_of changed)
          stepped e s =
              subst (λ (m : MailValue). MailStep (program_of core) 0 (mail_of m) e (mail_of changed)) view
              (subst (λ (rs : List (List Letters)). MailStep (program_of core) 0 (mail_of (mail_with core (lists_of rows))) e (mail_of (mail_with core rs))) (sym written) s)

          pub delivers : Delivers old l → MailStep (program_of core) 0 (mail_of now) (MailDeliver a b) (mail_of changed)
          delivers d = stepped (MailDeliver a b) (delivered core net (lists_of rows) is.shape a b (row, at) pair old there l 0 d)

          pub repeats : Repeats old l → MailStep (program_of core) 0 (mail_of now) (MailAgain a b) (mail_of changed)
          repeats d = stepped (MailAgain a b) (repeated core net (lists_of rows) is.shape a b (row, at) pair old there l 0 d)

          pub loses : (k : ℕ) → k < length old.transit.items → l.heard ≡ old.heard → l.transit.items ≡ without k old.transit.items
              → MailStep (program_of core) 0 (mail_of now) (MailLose a b k) (mail_of changed)
          loses k h p q = stepped (MailLose a b k) (lost core net (lists_of rows) is.shape a b (row, at) pair old there l 0 k h p q)
