use Rattle.std.proofs.Common.{◌≡◌, List, ap, subst, sym, ◌∙◌, length, map}
use Rattle.topology.specs.Networks.{Network, numbers}
use Rattle.firing_core.specs.CoreViews.{CoreValue}
use Rattle.firing_core.specs.declared.entries.Entry.{Entry}
use Rattle.export_table.specs.Agendas.{first_row}
use Rattle.export_table.specs.Holding.{IsHeld}
use Rattle.export_table.proofs.Starting.{held_first}
use Rattle.export_table.proofs.held.Held.new.Goals as goal

pub invariant_of-result : goal.invariant_of-result
invariant_of-result c = let a = c.in-Ok.agenda in let b = c.args.book in
    let net = c.net.ensures.value ∙ ap (λ (k : CoreValue). k.net) c.core.ensures.value in
    subst (λ (log : List Entry). IsHeld (record { book = c.reserve.new.self; rounds = a.rounds; turns = c.args.turns; front = length log }) a) (sym c.log.ensures.value)
    (held_first b c.reserve.new.self c.args.turns a c.reserve.ensures.same c.in-Ok-reserve.ensures.ok c.requires (subst (λ (n : Network). a.rows ≡ map first_row (numbers n.devices)) net c.in-Ok.ensures.rows))
