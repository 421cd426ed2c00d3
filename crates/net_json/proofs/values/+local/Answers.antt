use Rattle.std.proofs.Common.{◌∙◌, sym, map}
use Rattle.std.proofs.lemmas.List.{length-map}
use Rattle.serde_json.specs.View.{view}
use Rattle.net_json.proofs.Shapes.{no_pair}
use Rattle.net_json.proofs.values.+local.Goals as goal

pub pair-returns-then-items-ne2 : goal.pair-returns-then-items-ne2
pair-returns-then-items-ne2 t c = no_pair (map view c.args.items.now) (λ e. c.if-items-ne2.true (sym (length-map c.args.items.now view) ∙ e))
