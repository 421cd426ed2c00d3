-- Crates above cite this module: fields that are alike on some devices have the same entries there, and a network has at
-- most one stable field.
use Rattle.std.proofs.Common.{ℕ, ◌≡◌, List, [], ◌∷◌, refl, ap, ap₂, ◌∙◌, sym, true, map}
use Rattle.std.specs.Prelude.{◌||◌, nat_eq}
use Rattle.std.proofs.lemmas.Bool.{eq-eqb}
use Rattle.fc_values.specs.Values.{LocalValue}
use Rattle.fc_values.specs.Fields.{Entries, is_in}
use Rattle.fc_values.proofs.Booleans.{or_true}
use Rattle.fc_nodes.specs.Program.{Unfolding}
use Rattle.topology.specs.Networks.{Network, numbers}
use Rattle.stable_field.specs.Stable.{IsStableField}

in_here : (n : ℕ) (ns : List ℕ) → is_in n (n ∷ ns) ≡ true
in_here n ns = ap (λ b. b || is_in n ns) (eq-eqb n n refl)

pub same_entries : (f g : ℕ → LocalValue) (ns : List ℕ) → ((d : ℕ) → is_in d ns ≡ true → f d ≡ g d)
    → map {B = ℕ × LocalValue} (λ d. (d, f d)) ns ≡ map {B = ℕ × LocalValue} (λ d. (d, g d)) ns
same_entries f g [] h = refl
same_entries f g (n ∷ ns) h =
    ap₂ (λ v es. (n, v) ∷ es) (h n (in_here n ns)) (same_entries f g ns (λ d k. h d (or_true (nat_eq d n) (is_in d ns) k)))

pub one_field : (U : Unfolding) (N : Network) (es fs : Entries) → IsStableField U N es → IsStableField U N fs → es ≡ fs
one_field U N es fs h g =
    h.values
    ∙ same_entries h.one.field g.one.field (numbers N.devices) (λ d lives. g.one.only h.one.field h.one.solves d lives)
    ∙ sym g.values
