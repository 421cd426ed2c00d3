use Rattle.std.proofs.Common.{rules, of_calls, ◌∙◌, ap, map, not}
use Rattle.std.proofs.lemmas.Fn.{filter_same}
use Rattle.topology.specs.declared.types.Link.{Link}
use Rattle.topology.specs.Networks.{edge_of}
use Rattle.topology.specs.Changes.{touches}
use Rattle.topology.proofs.Lists.{filter_map_of}
use Rattle.topology.proofs.edits.drop_links.Goals as goal

pub returns-clause-links : goal.returns-clause-links
returns-clause-links c =
    ap (map edge_of) (filter_same _ (λ (l : Link). not (touches c.args.device (edge_of l))) _ (λ x b f k. search (rules, of_calls)) _ _ c.retain.ensures.filtered)
    ∙ filter_map_of edge_of (λ e. not (touches c.args.device e)) c.args.links.now.items
