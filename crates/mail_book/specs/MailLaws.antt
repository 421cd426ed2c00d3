-- Laws of mail logs, from mail cores from which a log may start.
use Rattle.std.specs.Prelude.{ℕ, ◌≡◌, ◌⊎◌, List}
use Rattle.fc_nodes.specs.Program.{Program, unfolding_of, IsProgram}
use Rattle.message_links.specs.MailCores.{MailCore, MailEntryValue, MailRun, IsMailStart}
use Rattle.message_links.specs.declared.entries.MailFault.{MailFault}
use Rattle.mail_book.specs.MailReplays.{FailsMailAt}

-- a log leads to a mail core, or has a first entry without a step
abbrev pub MailLogsEnd : Type 0
MailLogsEnd = (P : Program) (start : MailCore) (log : List MailEntryValue) → IsProgram P
    → IsMailStart (unfolding_of P) start
    → ((last : MailCore) × MailRun (unfolding_of P) 0 start log last)
    ⊎ ((index : ℕ) × (why : MailFault) × FailsMailAt (unfolding_of P) start log index why)

-- it leads to one mail core
abbrev pub MailLogsLeadToOne : Type 0
MailLogsLeadToOne = (P : Program) (start a b : MailCore) (log : List MailEntryValue) → IsProgram P
    → IsMailStart (unfolding_of P) start → MailRun (unfolding_of P) 0 start log a
    → MailRun (unfolding_of P) 0 start log b → a ≡ b

-- one entry alone is the first without a step, for one reason
abbrev pub MailLogsFailOnce : Type 0
MailLogsFailOnce = (P : Program) (start : MailCore) (log : List MailEntryValue) (i j : ℕ) (v w : MailFault)
    → IsProgram P → IsMailStart (unfolding_of P) start → FailsMailAt (unfolding_of P) start log i v
    → FailsMailAt (unfolding_of P) start log j w → (i ≡ j) × (v ≡ w)

-- a log that leads to a mail core has no such entry
abbrev pub MailLogsLeadOrFail : Type 0
MailLogsLeadOrFail = (P : Program) (start last : MailCore) (log : List MailEntryValue) (i : ℕ) (why : MailFault)
    → IsProgram P → IsMailStart (unfolding_of P) start → MailRun (unfolding_of P) 0 start log last
    → FailsMailAt (unfolding_of P) start log i why → ⊥
