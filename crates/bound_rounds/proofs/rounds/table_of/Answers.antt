use Rattle.std.proofs.Common.{◌≡◌, ◌∙◌, length, get_or, sym, ap, arith, true}
use Rattle.std.proofs.lemmas.List.{length-map, get_or-replicate}
use Rattle.fc_nodes.specs.Program.{unfolding_of}
use Rattle.envelopes.specs.Code.{maybe_device_of}
use Rattle.bound_rounds.specs.Tables.{slot_counts}
use Rattle.bound_rounds.proofs.Tabled.{fit_drafts}
use Rattle.bound_rounds.proofs.rounds.table_of.Goals as goal

pub returns-clause-ready : goal.returns-clause-ready
returns-clause-ready c k =
    let U = unfolding_of c.args.program.now in
    let E = c.args.envelope.now in
    let count : length c.devices-count.result.now ≡ length E.devices =
    sym (length-map c.devices-count.result.now maybe_device_of) ∙ ap length c.devices-count.ensures.value in
    let due = c.in_ok-due.ensures.items_if_clones_equal (λ y h. h) in
    let many : length c.in_ok-due.due.items ≡ length E.devices = sym c.in_ok-due.due.ok.0 ∙ c.in_ok-due.ensures.len
    ∙ count in record {
      fits = c.requires;
      drafts = fit_drafts U E c.args.bounds.items c.in_ok-drafts.drafts.items
          (c.in_ok-drafts.ensures ∙ ap slot_counts c.deref.ensures.value) c.requires;
      changed = sym c.in_ok-changed.changed.ok.0 ∙ c.in_ok-changed.ensures.len ∙ count;
      many = many;
      due = λ t s. record {
        many = many;
        same = λ i h e.
            let all : get_or c.in_ok-due.due.items i true ≡ true =
            ap (λ xs. get_or xs i true) due ∙ get_or-replicate (length c.devices-count.result.now) i true true
            (omega (arith, h, count)) in
            absurd cc;
      };
    }
