-- Where a term stands: its type, the binders in scope with their ranges, and the ranges of its nodes. Each solution there lies
-- in its ranges.
use Rattle.std.proofs.Common.{ℕ, suc, ◌≤◌, ◌+◌, ◌∷◌, refl, Bool, true, false}
use Rattle.fc_values.specs.Types.{ValueType}
use Rattle.fc_values.specs.Values.{LocalValue, Fits}
use Rattle.fc_values.specs.BuiltinTypes.{inner}
use Rattle.fc_nodes.specs.Terms.{Evolution, Term, Terms, Apply, Nbr, Evolve, If, Let, More, term_type, size}
use Rattle.fc_nodes.specs.Typing.{Scope, evolving_type, HasType, HaveTypes}
use Rattle.fc_values.specs.declared.builtins.Builtin.{Builtin}
use Rattle.topology.specs.Networks.{Network, Lives, IsNetwork}
use Rattle.interval_facts.specs.Ranges.{RangeValue, Bounds, full, term_range, node_ranges, all_node_ranges}
use Rattle.interval_facts.specs.Solutions.{Devices, In, ValueMap, ValueMaps, bind, local_map, evolved, where_is, Solves}
use Rattle.interval_facts.specs.Claims.{InRanges}
use Rattle.interval_facts.proofs.Forms.{BoundsFit, range_form}
use Rattle.interval_facts.proofs.Tables.{Shows, shows_first, shows_second, as_many}
use Rattle.interval_facts.proofs.Claims.{BoundsHold, bound_holds, evolved_lies, evolving_form, fewer_hold, term_lies, in_ranges}
use Rattle.converge_laws.proofs.Near.{in_part}

module _ (rs : ℕ → RangeValue) (N : Network) (net : IsNetwork N) (metric : N.declared.least ≤ N.declared.greatest) where
  abbrev M : ℕ
  M = N.declared.ceiling

  pub record Standing (bs : Scope) (cs : Bounds) (p : ℕ) (t : Term) (D : Devices) (V : ValueMaps) : Type 0 where
    pub alive : (d : ℕ) → In D d → Lives N d
    pub typed : HasType N.declared bs p t
    pub fit : BoundsFit bs cs
    pub hold : BoundsHold D cs V
    pub shows : Shows rs p (node_ranges N.declared cs p t)

  pub record StandAll (bs : Scope) (cs : Bounds) (p : ℕ) (xs : Terms) (D : Devices) (V : ValueMaps) : Type 0 where
    pub alive : (d : ℕ) → In D d → Lives N d
    pub typed : HaveTypes N.declared bs p xs
    pub fit : BoundsFit bs cs
    pub hold : BoundsHold D cs V
    pub shows : Shows rs p (all_node_ranges N.declared cs p xs)

  pub ranged : (bs : Scope) (cs : Bounds) (p : ℕ) (t : Term) (D : Devices) (V : ValueMaps) (F : ValueMap) → Standing bs cs p t D V → (s : Solves N p t D V F) → InRanges rs N p t D V F s
  ranged bs cs p t D V F st s = in_ranges N net metric rs t p bs cs D V F st.alive st.typed st.fit st.hold s st.shows

  pub in_arguments : (bs : Scope) (cs : Bounds) (p : ℕ) (t : ValueType) (o : Builtin) (xs : Terms) (D : Devices) (V : ValueMaps) → Standing bs cs p (Apply t o xs) D V → StandAll bs cs (suc p) xs D V
  in_arguments bs cs p t o xs D V st = record { alive = st.alive; typed = st.typed.1; fit = st.fit; hold = st.hold; shows = st.shows.1 }

  pub in_first : (bs : Scope) (cs : Bounds) (p : ℕ) (x : Term) (xs : Terms) (D : Devices) (V : ValueMaps) → StandAll bs cs p (More x xs) D V → Standing bs cs p x D V
  in_first bs cs p x xs D V st = record {
    alive = st.alive;
    typed = st.typed.0;
    fit = st.fit;
    hold = st.hold;
    shows = shows_first rs p (size x) (node_ranges N.declared cs p x) _ (as_many N.declared x cs p) st.shows;
  }

  pub in_rest : (bs : Scope) (cs : Bounds) (p : ℕ) (x : Term) (xs : Terms) (D : Devices) (V : ValueMaps) → StandAll bs cs p (More x xs) D V → StandAll bs cs (p + size x) xs D V
  in_rest bs cs p x xs D V st = record {
    alive = st.alive;
    typed = st.typed.1;
    fit = st.fit;
    hold = st.hold;
    shows = shows_second rs p (size x) (node_ranges N.declared cs p x) _ (as_many N.declared x cs p) st.shows;
  }

  pub in_nbr : (bs : Scope) (cs : Bounds) (p : ℕ) (t : ValueType) (a : Term) (D : Devices) (V : ValueMaps) → Standing bs cs p (Nbr t a) D V → Standing bs cs (suc p) a D V
  in_nbr bs cs p t a D V st = record { alive = st.alive; typed = st.typed.3; fit = st.fit; hold = st.hold; shows = st.shows.1 }

  pub in_body : (bs : Scope) (cs : Bounds) (p : ℕ) (t : ValueType) (e : Evolution) (a u : Term) (D : Devices) (V : ValueMaps) (f : ℕ → LocalValue) → (st : Standing bs cs p (Evolve t e a u) D V)
      → ((d : ℕ) → Fits M st.typed.0 (f d)) → Standing ((p, evolving_type e st.typed.0) ∷ bs) ((p, full M (inner t)) ∷ cs) (suc p + size a) u D (bind p (evolved e N D f) V)
  in_body bs cs p t e a u D V f st fits = record {
    alive = st.alive;
    typed = st.typed.5;
    fit = (refl, evolving_form N net metric e t st.typed.0 st.typed.1, st.fit);
    hold = bound_holds D p (full M (inner t)) (evolved e N D f) cs V (evolved_lies N net metric e t D (local_map f) f (λ d i. let k = st.typed.1 in rw k (fits d)) (λ d i. refl)) st.hold;
    shows = shows_second rs (suc p) (size a) (node_ranges N.declared cs (suc p) a) _ (as_many N.declared a cs (suc p)) st.shows.1;
  }

  pub in_condition : (bs : Scope) (cs : Bounds) (p : ℕ) (t : ValueType) (c u w : Term) (D : Devices) (V : ValueMaps) → Standing bs cs p (If t c u w) D V → Standing bs cs (suc p) c D V
  in_condition bs cs p t c u w D V st = record {
    alive = st.alive;
    typed = st.typed.5;
    fit = st.fit;
    hold = st.hold;
    shows = shows_first rs (suc p) (size c) (node_ranges N.declared cs (suc p) c) _ (as_many N.declared c cs (suc p)) st.shows.1;
  }

  pub in_true : (bs : Scope) (cs : Bounds) (p : ℕ) (t : ValueType) (c u w : Term) (D : Devices) (V : ValueMaps) (k : ℕ → Bool) → Standing bs cs p (If t c u w) D V → Standing bs cs (suc p + size c) u (where_is true D k) V
  in_true bs cs p t c u w D V k st =
      let rest = shows_second rs (suc p) (size c) (node_ranges N.declared cs (suc p) c) _ (as_many N.declared c cs (suc p)) st.shows.1 in
      record {
        alive = λ d i. st.alive d (in_part true D k d i);
        typed = st.typed.6;
        fit = st.fit;
        hold = fewer_hold N net metric true D k cs V st.hold;
        shows = shows_first rs (suc p + size c) (size u) (node_ranges N.declared cs (suc p + size c) u) _ (as_many N.declared u cs (suc p + size c)) rest;
      }

  pub in_false : (bs : Scope) (cs : Bounds) (p : ℕ) (t : ValueType) (c u w : Term) (D : Devices) (V : ValueMaps) (k : ℕ → Bool) → Standing bs cs p (If t c u w) D V
      → Standing bs cs (suc p + size c + size u) w (where_is false D k) V
  in_false bs cs p t c u w D V k st =
      let rest = shows_second rs (suc p) (size c) (node_ranges N.declared cs (suc p) c) _ (as_many N.declared c cs (suc p)) st.shows.1 in
      record {
        alive = λ d i. st.alive d (in_part false D k d i);
        typed = st.typed.7;
        fit = st.fit;
        hold = fewer_hold N net metric false D k cs V st.hold;
        shows = shows_second rs (suc p + size c) (size u) (node_ranges N.declared cs (suc p + size c) u) _ (as_many N.declared u cs (suc p + size c)) rest;
      }

  pub in_bound : (bs : Scope) (cs : Bounds) (p : ℕ) (t : ValueType) (a u : Term) (D : Devices) (V : ValueMaps) → Standing bs cs p (Let t a u) D V → Standing bs cs (suc p) a D V
  in_bound bs cs p t a u D V st = record {
    alive = st.alive;
    typed = st.typed.1;
    fit = st.fit;
    hold = st.hold;
    shows = shows_first rs (suc p) (size a) (node_ranges N.declared cs (suc p) a) _ (as_many N.declared a cs (suc p)) st.shows.1;
  }

  pub in_let : (bs : Scope) (cs : Bounds) (p : ℕ) (t : ValueType) (a u : Term) (D : Devices) (V : ValueMaps) (G : ValueMap) → Standing bs cs p (Let t a u) D V → Solves N (suc p) a D V G
      → Standing ((p, term_type a) ∷ bs) ((p, term_range N.declared cs (suc p) a) ∷ cs) (suc p + size a) u D (bind p G V)
  in_let bs cs p t a u D V G st s = record {
    alive = st.alive;
    typed = st.typed.2;
    fit = (refl, range_form N.declared a bs cs (suc p) st.typed.1 st.fit, st.fit);
    hold = bound_holds D p (term_range N.declared cs (suc p) a) G cs V (term_lies N net metric a (suc p) bs cs D V G st.alive st.typed.1 st.fit st.hold s) st.hold;
    shows = shows_second rs (suc p) (size a) (node_ranges N.declared cs (suc p) a) _ (as_many N.declared a cs (suc p)) st.shows.1;
  }
