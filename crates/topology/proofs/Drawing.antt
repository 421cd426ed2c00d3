-- The neighbours of each device of a network tell of its links.
use Rattle.std.proofs.Common.{◌≡◌, ◌≢◌, ℕ, suc, ◌<◌, List, [], ◌∷◌, ◌++◌, length, get_or, refl, sym, ◌∙◌, ap, subst, arith, Bool, true, false, nat_eq, nat_lt, if◌then◌else◌, ◌||◌}
use Rattle.std.proofs.lemmas.Bool.{eqb-true, eqb-false, eq-eqb, ltb-true, lt-ltb, ne_eqb}
use Rattle.fc_values.specs.Types.{Declarations}
use Rattle.fc_values.specs.Fields.{Rises, is_in}
use Rattle.topology.specs.Networks.{Edge, Network, numbers, near_in, network_of, BeforeAll, LinksFit}
use Rattle.topology.specs.Nearby.{near_each, links_from, links_in, drawn, IsDrawn}
use Rattle.topology.proofs.Devices.{in_at}
use Rattle.fc_values.proofs.Rising.{later_above, rises_tail}

at_least : (d : ℕ) (ns : List (ℕ × ℕ)) (n : ℕ × ℕ) → n.0 < d → links_from d (n ∷ ns) ≡ links_from d ns
at_least d ns n h = by_test (nat_lt d n.0) refl
  where
    by_test : (q : Bool) → nat_lt d n.0 ≡ q → (if q then record { a = d; b = n.0; weight = n.1 } ∷ links_from d ns else links_from d ns) ≡ links_from d ns
    by_test true e = let k = ltb-true d n.0 e in absurd (omega arith)
    by_test false e = refl

-- a link is told of by its lesser end, and by no other device
by_other : (d : ℕ) (l : Edge) (ls : List Edge) → l.a < l.b → l.a ≢ d → links_from d (near_in d (l ∷ ls)) ≡ links_from d (near_in d ls)
by_other d l ls o u = rw (ne_eqb l.a d u) (by_test (nat_eq l.b d) refl)
  where
    by_test : (q : Bool) → nat_eq l.b d ≡ q → links_from d (if q then (l.a, l.weight) ∷ near_in d ls else near_in d ls) ≡ links_from d (near_in d ls)
    by_test true e = let x = eqb-true l.b d e in at_least d (near_in d ls) (l.a, l.weight) (omega arith)
    by_test false e = refl

by_end : (d : ℕ) (l : Edge) (ls : List Edge) → l.a < l.b → l.a ≡ d → links_from d (near_in d (l ∷ ls)) ≡ l ∷ links_from d (near_in d ls)
by_end d l ls o e = subst (λ m. links_from m (near_in m (l ∷ ls)) ≡ l ∷ links_from m (near_in m ls)) e (rw (eq-eqb l.a l.a refl, lt-ltb l.a l.b o) refl)

-- before all links there is none
none_before : (D : Declarations) (ds : List ℕ) (d : ℕ) (l : Edge) (ms : List Edge) → d < l.a → BeforeAll l ms → LinksFit D ds ms → links_from d (near_in d ms) ≡ []
none_before D ds d l [] h b f = refl
none_before D ds d l (m ∷ ms) h b f = by_other d m ms f.0.order (λ e. let k = b.0.first in absurd (omega arith)) ∙ none_before D ds d l ms h b.1 f.2

append_both : {xs ys us vs : List Edge} → xs ≡ ys → us ≡ vs → xs ++ us ≡ ys ++ vs
append_both {xs} {ys} {us} {vs} e f = ap (λ zs. zs ++ us) e ∙ ap (λ zs. ys ++ zs) f

others_same : (ds : List ℕ) (l : Edge) (ls : List Edge) → l.a < l.b → ((k : ℕ) → k < length ds → l.a ≢ get_or ds k 0) → links_in ds (near_each ds (l ∷ ls)) ≡ links_in ds (near_each ds ls)
others_same [] l ls o u = refl
others_same (d ∷ ds) l ls o u = append_both (by_other d l ls o (u 0 (omega arith))) (others_same ds l ls o (λ k h. u (suc k) (omega arith)))

one_more : (D : Declarations) (all ds : List ℕ) (l : Edge) (ls : List Edge) → Rises ds → l.a < l.b → is_in l.a ds ≡ true → BeforeAll l ls → LinksFit D all ls
    → links_in ds (near_each ds (l ∷ ls)) ≡ l ∷ links_in ds (near_each ds ls)
one_more D all [] l ls r o t b f = absurd (cc)
one_more D all (d ∷ ds) l ls r o t b f = by_test (nat_eq l.a d) refl t (λ u. one_more D all ds l ls (rises_tail d ds r) o u b f)
  where
    by_test : (q : Bool) → nat_eq l.a d ≡ q → (q || is_in l.a ds) ≡ true → (is_in l.a ds ≡ true → links_in ds (near_each ds (l ∷ ls)) ≡ l ∷ links_in ds (near_each ds ls))
        → links_from d (near_in d (l ∷ ls)) ++ links_in ds (near_each ds (l ∷ ls)) ≡ l ∷ (links_from d (near_in d ls) ++ links_in ds (near_each ds ls))
    by_test true e u ih =
        let x = eqb-true l.a d e in
        append_both (by_end d l ls o x) (others_same ds l ls o (λ k h g. let m = later_above d ds r k h in absurd (omega arith)))
    by_test false e u ih =
        let p = in_at l.a ds u in
        let m = later_above d ds r p.0 p.1 in
        let q = p.2 in
        let below : d < l.a = omega arith in
        let none = none_before D all d l ls below b f in
        append_both (by_other d l ls o (eqb-false l.a d e) ∙ none) (ih u)
        ∙ ap (λ xs. l ∷ (xs ++ links_in ds (near_each ds ls))) (sym none)

none_at_all : (ds : List ℕ) → links_in ds (near_each ds []) ≡ []
none_at_all [] = refl
none_at_all (d ∷ ds) = none_at_all ds

pub links_told : (D : Declarations) (ds : List ℕ) (ls : List Edge) → Rises ds → LinksFit D ds ls → links_in ds (near_each ds ls) ≡ ls
links_told D ds [] r f = none_at_all ds
links_told D ds (l ∷ ls) r f = one_more D ds ds l ls r f.0.order f.0.from f.1 f.2 ∙ ap (λ xs. l ∷ xs) (links_told D ds ls r f.2)

-- so a network is what its draft says
pub drawn_is : (n : Network) (lists : List (List (ℕ × ℕ))) → IsDrawn n lists → drawn n.declared n.devices lists ≡ n
drawn_is n lists k =
    ap (network_of n.declared n.devices) (ap (links_in (numbers n.devices)) k.near ∙ links_told n.declared (numbers n.devices) n.links k.network.rising k.network.links)

pub drawn_kept : (n : Network) (lists : List (List (ℕ × ℕ))) → IsDrawn n lists → IsDrawn (drawn n.declared n.devices lists) lists
drawn_kept n lists k = subst (λ v. IsDrawn v lists) (sym (drawn_is n lists k)) k
