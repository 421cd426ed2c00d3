use Rattle.std.proofs.Common.{◌≡◌, sym, subst, Some}
use Rattle.firing_core.specs.declared.entries.Entry.{Entry}
use Rattle.firing_core.specs.Entries.{BeginEntry, EndEntry, entry_of}
use Rattle.firing_core.specs.Replays.{fault_of}
use Rattle.firing_core.specs.CoreViews.{core_of}
use Rattle.firing_core.specs.Books.{AtIndex, RefusesAt}
use Rattle.firing_core.proofs.Appends.{err_map, at_index_refuses, begin_refused, end_refused}
use Rattle.firing_core.proofs.cores.Core.apply.Goals as goal

pub returns-in-Begin-clause-refused : goal.returns-in-Begin-clause-refused
returns-in-Begin-clause-refused c =
    err_map {P = AtIndex c.args.index c.begin.result} {Q = RefusesAt c.args.index (core_of c.args.self.now) (entry_of c.args.entry.now)} c.at_index.result
    (λ f w. at_index_refuses (core_of c.args.self.now) (entry_of c.args.entry.now) c.args.index c.begin.result f
    (λ why q u. subst (λ (x : Entry). fault_of (core_of c.args.self.now) (entry_of x) ≡ Some why) (sym c.in-Begin.is)
    (begin_refused (fault_of (core_of c.args.self.now) (BeginEntry c.in-Begin.device)) c.begin.result why c.begin.ensures.no_device c.begin.ensures.flying c.begin.ensures.never q u)) w)
    c.at_index.ensures.refused

pub returns-in-End-clause-refused : goal.returns-in-End-clause-refused
returns-in-End-clause-refused c =
    err_map {P = AtIndex c.args.index c.finish.result} {Q = RefusesAt c.args.index (core_of c.args.self.now) (entry_of c.args.entry.now)} c.at_index-in-End.result
    (λ f w. at_index_refuses (core_of c.args.self.now) (entry_of c.args.entry.now) c.args.index c.finish.result f
    (λ why q u. subst (λ (x : Entry). fault_of (core_of c.args.self.now) (entry_of x) ≡ Some why) (sym c.in-End.is)
    (end_refused (core_of c.args.self.now) (EndEntry c.in-End.device) c.finish.result why c.finish.ensures.refused q u)) w)
    c.at_index-in-End.ensures.refused
