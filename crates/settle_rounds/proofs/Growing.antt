-- The first bounds of a core: each device has one, they hold the core, and tables that grow out of them still do. One
-- that doesn't grow any more is closed.
use Rattle.std.proofs.Common.{◌≡◌, ℕ, zero, suc, refl, sym, ◌∙◌, ap, subst, Bool, true, false, Option, Some, None}
use Rattle.fc_values.specs.Trees.{TreeExport, Copy}
use Rattle.fc_nodes.specs.Program.{Program, Unfolding, unfolding_of, IsProgram}
use Rattle.fc_nodes.specs.Flat.{IsWellTyped}
use Rattle.device_eval.specs.Copies.{EvaluatesCopy, HasOneExport}
use Rattle.device_eval.proofs.OneExport.{program_export}
use Rattle.topology.specs.Networks.{lives, Lives}
use Rattle.firing_core.specs.Cores.{Core, copy_of, IsGood}
use Rattle.firing_core.specs.Laws.{CopiesFit}
use Rattle.bound_firing.specs.Exports.{ExportBound, any_export, ExportLies}
use Rattle.export_bounds.specs.Exports.{exact_export, either_export}
use Rattle.export_bounds.specs.Laws.{ExportsHold}
use Rattle.bound_rounds.specs.Rounds.{BoundTable, fired_within, grown_within, IsFullWithin}
use Rattle.envelopes.specs.Envelopes.{Envelope, may_live, MayLive, surely_lives}
use Rattle.settle_rounds.specs.Within.{MaybeLies, IsClosedWithin, HoldsCoreWithin, alone, FirstWithin, stands}
use Rattle.settle_rounds.specs.Within.{stands_and_lands, lands, begins, comes, FirstTableWithin, TablesGrowWithin}
use Rattle.envelopes.proofs.Within.{and_right}
use Rattle.settle_rounds.proofs.OneExport.{one_evaluation}

-- ---- tables that grow

module _ (hold : ExportsHold) (U : Unfolding) (E : Envelope) where
  pub full_closed_within : (table : BoundTable) → IsFullWithin U E table → IsClosedWithin U E table
  full_closed_within table full = record {
    fires = λ d l e typed h.
        subst (λ b. ExportLies U b e) (full d l) ((hold U).second (table d) (fired_within U E table d) e h);
    away = λ d l g. sym (ap (λ (b : ExportBound). b.sure) (full d l)) ∙ and_right (table d).sure (surely_lives E d) g;
  }

  still_lies : (b c : ExportBound) (o : Option TreeExport) → MaybeLies U b o → MaybeLies U (either_export U b c) o
  still_lies b c (Some e) h = (hold U).first b c e h
  still_lies b c None h = rw h refl

  pub grown_holds_within : (first : BoundTable) (c : Core) → HoldsCoreWithin U E first c → (i : ℕ)
      → HoldsCoreWithin U E (grown_within U E first i) c
  grown_holds_within first c h zero = h
  grown_holds_within first c h (suc i) =
      let g = grown_holds_within first c h i in
      record {
        exports = λ d l.
            still_lies (grown_within U E first i d) (fired_within U E (grown_within U E first i) d) (c.exports d)
            (g.exports d l);
        flights = λ d l s q e typed v. (hold U).first (grown_within U E first i d)
            (fired_within U E (grown_within U E first i) d) e (g.flights d l s q e typed v);
      }

module _ (fit : CopiesFit) (P : Program) (E : Envelope) (program : IsProgram P) (c : Core)
    (good : IsGood (unfolding_of P) c) where
  abbrev U : Unfolding
  U = unfolding_of P

  -- the one export of the copy of a device in flight, and of the one that a begin of it would take
  landing : (d : ℕ) (s : Copy) → c.flying d ≡ Some s → HasOneExport U s
  landing d s q = program_export P s program (good.flying d s q).fits

  beginning : (d : ℕ) → Lives c.net d → HasOneExport U (copy_of c.net c.exports d)
  beginning d l = program_export P (copy_of c.net c.exports d) program (fit U c d good l)

  -- ---- each device has a first bound

  abbrev Some_first : ℕ → Type 0
  Some_first d = (b : ExportBound) × FirstWithin U E c.net c d b

  first_of : (d : ℕ) → MayLive E d → Some_first d
  first_of d l = by_both (c.exports d) refl (c.flying d) refl
    where
      by_there : c.exports d ≡ None → c.flying d ≡ None → (t : Bool) → lives c.net d ≡ t → Some_first d
      by_there q k true g =
          let one = beginning d g in (exact_export U false one.export, begins one.export g q k one.evaluates)
      by_there q k false g = (alone U E d, comes g q k)

      by_both : (o : Option TreeExport) → c.exports d ≡ o → (f : Option Copy) → c.flying d ≡ f → Some_first d
      by_both (Some e) q None k = (exact_export U (surely_lives E d) e, stands e q k)
      by_both (Some e) q (Some s) k =
          let one = landing d s k in (
            either_export U (exact_export U (surely_lives E d) e) (exact_export U (surely_lives E d) one.export),
            stands_and_lands e s one.export q k one.evaluates,
          )
      by_both None q (Some s) k =
          let one = landing d s k in (exact_export U false one.export, lands s one.export q k one.evaluates)
      by_both None q None k = by_there q k (lives c.net d) refl

  pick : (d : ℕ) (t : Bool) → may_live E d ≡ t → ExportBound
  pick d true l = (first_of d l).0
  pick d false l = any_export U

  first_pick : (d : ℕ) (t : Bool) (l : may_live E d ≡ t) → t ≡ true → FirstWithin U E c.net c d (pick d t l)
  unfolding pick
  first_pick d true l q = (first_of d l).1
  first_pick d false l q = absurd cc

  pub some_first_within : (first : BoundTable) × FirstTableWithin U E c.net c first
  some_first_within = ((λ d. pick d (may_live E d) refl), (λ d l. first_pick d (may_live E d) refl l))

  -- ---- first bounds hold the core

  module _ (hold : ExportsHold) (d : ℕ) (l : MayLive E d) where
    exact_there : (sure : Bool) (e : TreeExport) → c.exports d ≡ Some e → ExportLies U (exact_export U sure e) e
    exact_there sure e q = (hold U).exact sure e (good.exports d e q).typed

    first_export : (b : ExportBound) → FirstWithin U E c.net c d b → MaybeLies U b (c.exports d)
    first_export b (stands e q k) =
        subst (MaybeLies U (exact_export U (surely_lives E d) e)) (sym q) (exact_there (surely_lives E d) e q)
    first_export b (stands_and_lands e s f q k v) =
        subst (MaybeLies U (either_export U (exact_export U (surely_lives E d) e) (exact_export U (surely_lives E d) f))) (sym q)
        ((hold U).first (exact_export U (surely_lives E d) e) (exact_export U (surely_lives E d) f) e
        (exact_there (surely_lives E d) e q))
    first_export b (lands s f q k v) = subst (MaybeLies U (exact_export U false f)) (sym q) refl
    first_export b (begins f g q k v) = subst (MaybeLies U (exact_export U false f)) (sym q) refl
    first_export b (comes g q k) = subst (MaybeLies U (alone U E d)) (sym q) refl

    -- what a copy in flight evaluates to lies in the bound of the landing
    landing_lies : (sure : Bool) (r s : Copy) (f x : TreeExport) → c.flying d ≡ Some r → EvaluatesCopy U r f
        → c.flying d ≡ Some s → IsWellTyped U x → EvaluatesCopy U s x → ExportLies U (exact_export U sure f) x
    landing_lies sure r s f x p v q typed w =
        let z : Some r ≡ Some s = sym p ∙ q in
        let e : r ≡ s = cc in
        subst (λ y. ExportLies U (exact_export U sure y) x)
        (one_evaluation U s x f w (subst (λ y. EvaluatesCopy U y f) e v)) ((hold U).exact sure x typed)

    no_flight : (s : Copy) → c.flying d ≡ Some s → c.flying d ≡ None → ⊥
    no_flight s p q = let z : Some s ≡ None = sym p ∙ q in absurd cc

    first_flight : (b : ExportBound) → FirstWithin U E c.net c d b → (s : Copy) → c.flying d ≡ Some s → (x : TreeExport)
        → IsWellTyped U x → EvaluatesCopy U s x → ExportLies U b x
    first_flight b (stands e q k) s p x typed w = absurd (no_flight s p k)
    first_flight b (stands_and_lands e r f q k v) s p x typed w =
        (hold U).second (exact_export U (surely_lives E d) e) (exact_export U (surely_lives E d) f) x
        (landing_lies (surely_lives E d) r s f x k v p typed w)
    first_flight b (lands r f q k v) s p x typed w = landing_lies false r s f x k v p typed w
    first_flight b (begins f g q k v) s p x typed w = absurd (no_flight s p k)
    first_flight b (comes g q k) s p x typed w = absurd (no_flight s p k)

  pub first_holds_within : ExportsHold → (first : BoundTable) → FirstTableWithin U E c.net c first →
      HoldsCoreWithin U E first c
  first_holds_within hold first b = record {
    exports = λ d l. first_export hold d l (first d) (b d l);
    flights = λ d l s q e typed v. first_flight hold d l (first d) (b d l) s q e typed v;
  }

pub tables_grow_within : CopiesFit → ExportsHold → TablesGrowWithin
tables_grow_within fit hold P E program c good =
    let U = unfolding_of P in
    record {
      some = some_first_within fit P E program c good;
      holds =
          λ first i b. grown_holds_within hold U E first c (first_holds_within fit P E program c good hold first b) i;
      closed = λ table full. full_closed_within hold U E table full;
    }
