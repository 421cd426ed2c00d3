use Rattle.std.proofs.Common.{◌∙◌, ap, sym}
use Rattle.std.proofs.lemmas.Bool.{ne_eqb}
use Rattle.std.specs.HashSet as bag
use Rattle.changes.specs.Kept.{same_pair, more_partners}
use Rattle.changes.proofs.Adding.{pair_added, pair_kept, both_counted, one_counted}
use Rattle.changes.proofs.hands.Hand.add_pair.Goals as goal

pub returns-then-are_partners : goal.returns-then-are_partners
returns-then-are_partners g c = λ w. pair_kept c.args.network.now g.told c.args.a c.args.b w c.args.self.now c.are_partners.ensures.network c.requires.1 (sym c.if-are_partners.ensures.at_hand)

pub returns-in_ok-add_partner-2 : goal.returns-in_ok-add_partner-2
returns-in_ok-add_partner-2 g c = λ w.
    let a = c.args.a in
    let b = c.args.b in
    let first = c.in_ok-add_partner.ensures in
    let second = c.in_ok-add_partner-2.ensures in
    pair_added c.args.network.now g.told a b w c.args.self.now c.are_partners.ensures.network c.requires.1 c.add_partner-then-a-b.new.self (second.joined ∙ first.joined)
    c.min.result c.max.result c.min.ensures c.max.ensures (λ q. ap (λ s. bag.contains same_pair s q) (second.linked ∙ first.linked) ∙ c.in_ok-insert.ensures.updates.0 q) (sym c.if-are_partners.ensures.at_hand)
    (both_counted a b (more_partners c.args.self.now) (more_partners c.add_partner.new.self) (more_partners c.add_partner-then-a-b.new.self) (ne_eqb a b c.if-a-b.true) first.partners second.partners)

pub returns-else-a-b : goal.returns-else-a-b
returns-else-a-b g c = λ w.
    let a = c.args.a in
    let b = c.args.b in
    let first = c.in_ok-add_partner.ensures in
    pair_added c.args.network.now g.told a b w c.args.self.now c.are_partners.ensures.network c.requires.1 c.add_partner.new.self first.joined
    c.min.result c.max.result c.min.ensures c.max.ensures (λ q. ap (λ s. bag.contains same_pair s q) first.linked ∙ c.in_ok-insert.ensures.updates.0 q) (sym c.if-are_partners.ensures.at_hand)
    (one_counted a b (more_partners c.args.self.now) (more_partners c.add_partner.new.self) c.if-a-b.false first.partners)
