use denote.Param.Send.{sendable}
use Rattle.std.proofs.Crossing.{crosses}
use Rattle.firing_core.proofs.Crosses.{book_send, book_sync}
use Rattle.network_tests.proofs.crossing.books_cross_threads.Goals as goal

pub join-book-requires-send-F : goal.join-book-requires-send-F
join-book-requires-send-F g c = search (book_send, book_sync, sendable, crosses) depth 40

pub join-book-requires-send-A : goal.join-book-requires-send-A
join-book-requires-send-A g c = search (book_send, book_sync, sendable, crosses) depth 40
