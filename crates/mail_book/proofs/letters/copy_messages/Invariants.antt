use Rattle.std.proofs.Common.{◌≡◌, take, map}
use Rattle.mail_book.specs.Letters.{letter_of}
use Rattle.mail_book.proofs.letters.copy_messages.Given as goal

abbrev pub invariant-loop-message : goal.invariant-loop-message
invariant-loop-message l = map letter_of l.copies.items ≡ map letter_of (take l.message-index l.messages)
