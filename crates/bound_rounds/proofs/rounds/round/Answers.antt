use Rattle.std.proofs.Common.{◌≡◌, ◌∙◌, List, length, refl, sym, ap, subst, arith}
use Rattle.std.specs.List.{list_any}
use Rattle.std.specs.Vec.{with_items}
use Rattle.std.proofs.lemmas.List.{with_items_is}
use Rattle.fc_nodes.specs.Program.{Unfolding, unfolding_of}
use Rattle.bound_firing.specs.declared.firing.ExportBound.{ExportBound as FlatBound}
use Rattle.envelopes.specs.Envelopes.{Envelope}
use Rattle.bound_rounds.specs.declared.rounds.Table.{Table}
use Rattle.bound_rounds.specs.Rounds.{BoundTable, next_within}
use Rattle.bound_rounds.specs.Tables.{Stand, FitTable, AreDue, AreSwapped}
use Rattle.bound_rounds.proofs.Rounding.{fixed, moves, next_stands, next_fits, drafts_fit, all_due, of_swapped}
use Rattle.bound_rounds.proofs.Rounding.{of_marked, none_true, some_true}
use Rattle.bound_rounds.proofs.rounds.round.Goals as goal

-- the table after the firings, and the bounds that are then put into it
module _ (c : goal.After-contains) where
  abbrev U : Unfolding
  U = unfolding_of c.args.program.now

  abbrev E : Envelope
  E = c.args.envelope.now

  abbrev T : Table
  T = c.fire_due.new.table

  abbrev zs : List FlatBound
  zs = c.take_drafts.new.bounds

  swapped : AreSwapped T.changed.items (length T.changed.items) T.bounds.items T.drafts.items zs
  swapped = of_swapped c.deref.result.now T.changed.items c.deref_mut.result.now T.bounds.items
      c.deref_mut-2.result.now T.drafts.items zs c.deref.ensures.value c.deref_mut.ensures.value
      c.deref_mut-2.ensures.value c.take_drafts.ensures.bounds

  long : length zs ≡ length E.devices
  long = c.take_drafts.auto.bounds ∙ ap length c.deref_mut.ensures.value ∙ c.in_ok-fire_due.ensures.fired.fits.many

  put : (with_items T.bounds zs).items ≡ zs
  put = with_items_is T.bounds zs (c.take_drafts.auto.bounds ∙ c.deref_mut.ensures.len)

pub returns-clause-ready : goal.returns-clause-ready
returns-clause-ready c =
    let envelope = c.in_ok-fire_due.ensures.envelope in
    let f = c.in_ok-fire_due.ensures.fired in
    let d = c.deref_mut-2.ensures.value in
    let drafts = of_swapped c.deref.result.now (T c).changed.items c.deref_mut-2.result.now (T c).drafts.items
    c.deref_mut.result.now (T c).bounds.items c.take_drafts.new.drafts c.deref.ensures.value d c.deref_mut.ensures.value
    c.take_drafts.ensures.drafts in
    let many : length c.take_drafts.new.drafts ≡ length (E c).devices = c.take_drafts.auto.drafts ∙ ap length d
    ∙ f.drafts.many in
    let marks : length c.mark_due.new.due ≡ length (E c).devices = c.mark_due.auto.due
    ∙ ap length c.deref_mut-3.ensures.value ∙ f.due in
    let e = with_items_is (T c).drafts c.take_drafts.new.drafts
    (c.take_drafts.auto.drafts ∙ c.deref_mut-2.ensures.len) in
    let e' = with_items_is (T c).due c.mark_due.new.due (c.mark_due.auto.due ∙ c.deref_mut-3.ensures.len) in
    let marked = of_marked (E c) c.deref-2.result.now (T c).changed.items c.mark_due.new.due c.deref-2.ensures.value
    c.mark_due.ensures in
    record {
      fits = subst (FitTable (U c) (E c)) (sym (put c))
          (next_fits c.args.kind (U c) (E c) envelope (T c) f (zs c) (long c) (swapped c));
      drafts = subst (FitTable (U c) (E c)) (sym e)
          (drafts_fit c.args.kind (U c) (E c) envelope (T c) f c.take_drafts.new.drafts many drafts);
      changed = f.changed;
      many = ap length e' ∙ marks;
      due = λ t s. subst (AreDue c.args.kind (U c) (E c) t) (sym e')
          (all_due c.args.kind (U c) (E c) envelope (T c) f (zs c) (long c) (swapped c) c.mark_due.new.due marks marked
          t (subst (Stand (U c) (E c) t) (put c) s));
    }

pub returns-clause-round : goal.returns-clause-round
returns-clause-round c =
    let k = c.args.kind in
    let envelope = c.in_ok-fire_due.ensures.envelope in
    let f = c.in_ok-fire_due.ensures.fired in
    let old : (t : BoundTable) → Stand (U c) (E c) t c.args.table.now.bounds.items
    → Stand (U c) (E c) t (T c).bounds.items =
    λ t s. subst (λ v. Stand (U c) (E c) t v.items) (sym c.in_ok-fire_due.ensures.bounds) s in
    let any = ap (list_any _) (sym c.deref-3.ensures.value) ∙ sym c.contains.ensures.value in
    record {
      next = λ t s. subst (Stand (U c) (E c) (next_within k (U c) (E c) t)) (sym (put c))
          (next_stands k (U c) (E c) envelope (T c) f t (old t s) (zs c) (long c) (swapped c));
      fixed = λ q t s. fixed k (U c) (E c) envelope (T c) f t (old t s)
          (λ i h. none_true _ refl (T c).changed.items (any ∙ q) i (omega (arith, h, f.changed)));
      moves = λ q t s.
          let p = some_true _ refl (T c).changed.items (any ∙ q) in
          moves k (U c) (E c) envelope (T c) f t (old t s) p.place (omega (arith, p.within, f.changed)) p.is_true;
    }
