-- Crates above cite this module: the networks of a log, and whether a device is there all the time.
use Rattle.std.proofs.Common.{◌≡◌, ◌⊎◌, ℕ, List, [], ◌∷◌, ◌++◌, refl, ◌∙◌, ap, Bool, true, false, inl, inr}
use Rattle.fc_values.specs.Trees.{TreeExport}
use Rattle.fc_nodes.specs.Program.{Unfolding}
use Rattle.topology.specs.Networks.{Network, lives, Lives}
use Rattle.firing_core.specs.Entries.{EditValue, LinkEdit, UnlinkEdit, SetEdit, PokeEdit, JoinEdit, LeaveEdit}
use Rattle.firing_core.specs.Entries.{EntryValue, BeginEntry, EndEntry, IdleEntry, EditEntry}
use Rattle.firing_core.specs.Cores.{Map, Core, edited, StepSeeing, Run}
use Rattle.net_moves.specs.Moves.{net_edited, net_next, net_after, Allowed, Stays, IsThere, IsAway}
use Rattle.net_moves.specs.Laws.{RunsMove}

pub edited_net : (U : Unfolding) (c : Core) (x : EditValue) → (edited U c x).net ≡ net_edited c.net x
edited_net U c (LinkEdit a b w) = refl
edited_net U c (UnlinkEdit a b) = refl
edited_net U c (SetEdit d i v) = refl
edited_net U c (PokeEdit d e) = refl
edited_net U c (JoinEdit x) = refl
edited_net U c (LeaveEdit d) = refl

pub step_nets : (U : Unfolding) (t : ℕ → Map TreeExport) (c next : Core) (e : EntryValue) → StepSeeing U t c e next
    → next.net ≡ net_next c.net e
step_nets U t c next (BeginEntry d) s = ap (λ (x : Core). x.net) s.2
step_nets U t c next (EndEntry d) s = ap (λ (x : Core). x.net) s.after
step_nets U t c next IdleEntry s = ap (λ (x : Core). x.net) s
step_nets U t c next (EditEntry x) s = ap (λ (x : Core). x.net) s.after ∙ edited_net U c x

pub run_nets : RunsMove
run_nets U c last [] s = ap (λ (x : Core). x.net) s
run_nets U c last (e ∷ es) s =
    run_nets U s.0 last es s.2 ∙ ap (λ n. net_after n es) (step_nets U (λ d. c.exports) c s.0 e s.1)

-- a device is there all the time, or it isn't at some moment
pub there_or_away : (d : ℕ) (n : Network) (log : List EntryValue) → IsThere d n log ⊎ IsAway d n log
there_or_away d n [] = by_test (lives n d) refl
  where
    by_test : (b : Bool) → lives n d ≡ b → IsThere d n [] ⊎ IsAway d n []
    by_test true q = inl q
    by_test false q = inr q
there_or_away d n (e ∷ es) = by_test (lives n d) refl (there_or_away d (net_next n e) es)
  where
    by_test : (b : Bool) → lives n d ≡ b → IsThere d (net_next n e) es ⊎ IsAway d (net_next n e) es
        → IsThere d n (e ∷ es) ⊎ IsAway d n (e ∷ es)
    by_test true q (inl h) = inl (q, h)
    by_test true q (inr h) = inr (inr h)
    by_test false q h = inr (inl q)

pub stays_first : (In : Allowed) (n : Network) (log : List EntryValue) → Stays In n log → In n
stays_first In n [] h = h
stays_first In n (e ∷ es) h = h.0

pub stays_cut : (In : Allowed) (n : Network) (front rest : List EntryValue) → Stays In n (front ++ rest)
    → Stays In n front × Stays In (net_after n front) rest
stays_cut In n [] rest h = (stays_first In n rest h, h)
stays_cut In n (e ∷ es) rest h =
    let r = stays_cut In (net_next n e) es rest h.2 in ((h.0, h.1, r.0), r.1)

pub there_first : (d : ℕ) (n : Network) (log : List EntryValue) → IsThere d n log → Lives n d
there_first d n [] h = h
there_first d n (e ∷ es) h = h.0
