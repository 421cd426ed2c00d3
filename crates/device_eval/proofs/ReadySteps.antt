-- Where evaluation may begin, under equal names.
use Rattle.std.proofs.Common.{◌≡◌, ℕ, List, length, subst}
use Rattle.fc_values.specs.declared.exports.Slot.{Slot}
use Rattle.fc_values.specs.Exports.{slots_of}
use Rattle.fc_nodes.specs.Typing.{Scope as Types}
use Rattle.alignment.specs.Scopes.{Vars}
use Rattle.scope_columns.specs.declared.scopes.Sight.{Sight}
use Rattle.alignment.specs.References.{flat_of, numbers_in}
use Rattle.scope_columns.specs.Words.{row_of}
use Rattle.scope_columns.specs.Scopes.{StandBelow, types_in}
use Rattle.device_eval.specs.declared.evaluation.Context.{Context}
use Rattle.device_eval.specs.Contexts.{ReadyIn, bound_in, CanIn, MayIn}

pub ready_as : {c : Context} {q : ℕ} {s : Sight} {ws : List ℕ} {ys : List Slot} {vs : Vars} {types : Types} →
    CanIn c q vs (flat_of s.env.now) (slots_of ys) →
    MayIn c types q vs (flat_of s.env.now) →
    vs ≡ bound_in c s ws → types ≡ types_in s.vars.now →
    StandBelow c.device (length ws) s.vars.now → s.own ≡ row_of c.device (numbers_in s.env.now) → ReadyIn c q s ws ys
ready_as {c} {q} {s} {ws} {ys} {vs} {types} r m e f b o = record {
  ready = subst (λ vs'. CanIn c q vs' (flat_of s.env.now) (slots_of ys)) e r;
  may = subst (λ ts. MayIn c ts q (bound_in c s ws) (flat_of s.env.now)) f
      (subst (λ vs'. MayIn c types q vs' (flat_of s.env.now)) e m);
  sees = record { below = b; own = o };
}
