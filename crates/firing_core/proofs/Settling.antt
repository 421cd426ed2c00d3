-- Crates above cite this module: flights that are ended one after another.
use Rattle.std.proofs.Common.{◌≡◌, ℕ, zero, suc, ◌<◌, List, [], ◌∷◌, ◌++◌, length, map, get_or, take, drop, refl, sym, ◌∙◌, ap, subst, arith, Bool, true, false, nat_eq, if◌then◌else◌, Option, Some, None, is_some}
use Rattle.std.specs.Prelude.{◌||◌}
use Rattle.std.proofs.lemmas.Bool.{eqb-true}
use Rattle.std.proofs.lemmas.List.{map-append, append_assoc, take-append-drop, length-map}
use Rattle.std.proofs.Math.Seq.{take-suc}
use Rattle.fc_values.specs.Trees.{Copy}
use Rattle.fc_nodes.specs.Program.{Program, Unfolding, unfolding_of}
use Rattle.topology.specs.declared.types.Device.{Device}
use Rattle.topology.specs.Networks.{Network, NetDevice, net_device_of, numbers, IsNetwork}
use Rattle.fc_values.specs.Fields.{is_in}
use Rattle.firing_core.specs.declared.entries.Entry.TheVariants as entry
use Rattle.firing_core.specs.Entries.{EntryValue, entry_of, entries_of}
use Rattle.firing_core.specs.Cores.{Map, put, Core, Run}
use Rattle.firing_core.specs.CoreViews.{CoreValue, core_of}
use Rattle.firing_core.specs.Books.{BookValue, IsSameBook, fliers, in_flight, ends_of, EndsFlights, EndsSome}
use Rattle.firing_core.proofs.Cuts.{run_join}
use Rattle.firing_core.proofs.Slots.{Distinct, rises_distinct, slot_none}
use Rattle.firing_core.proofs.Views.{many_numbers}

-- ---- which devices fly

fliers_append : (f : Map Copy) (xs ys : List ℕ) → fliers f (xs ++ ys) ≡ fliers f xs ++ fliers f ys
fliers_append f [] ys = refl
fliers_append f (x ∷ xs) ys = by_test (is_some (f x)) (fliers_append f xs ys)
  where
    by_test : (b : Bool) → fliers f (xs ++ ys) ≡ fliers f xs ++ fliers f ys → (if b then x ∷ fliers f (xs ++ ys) else fliers f (xs ++ ys)) ≡ (if b then x ∷ fliers f xs else fliers f xs) ++ fliers f ys
    by_test true ih = ap (λ zs. x ∷ zs) ih
    by_test false ih = ih

-- a device that isn't in a list is none of those that fly
fliers_out : (f : Map Copy) (d : ℕ) (xs : List ℕ) → is_in d xs ≡ false → is_in d (fliers f xs) ≡ false
fliers_out f d [] e = refl
fliers_out f d (x ∷ xs) e = by_test (nat_eq d x) refl e (is_some (f x)) (fliers_out f d xs)
  where
    by_test : (a : Bool) → nat_eq d x ≡ a → (a || is_in d xs) ≡ false → (b : Bool) → (is_in d xs ≡ false → is_in d (fliers f xs) ≡ false) → is_in d (if b then x ∷ fliers f xs else fliers f xs) ≡ false
    by_test true t q b ih = absurd cc
    by_test false t q true ih = rw t (ih q)
    by_test false t q false ih = ih q

-- one of a list that flies
fliers_in : (f : Map Copy) (d : ℕ) (xs : List ℕ) → is_in d xs ≡ true → is_some (f d) ≡ true → is_in d (fliers f xs) ≡ true
fliers_in f d [] e s = absurd cc
fliers_in f d (x ∷ xs) e s = by_test (nat_eq d x) refl e (is_some (f x)) refl (fliers_in f d xs)
  where
    by_test : (a : Bool) → nat_eq d x ≡ a → (a || is_in d xs) ≡ true → (b : Bool) → is_some (f x) ≡ b → (is_in d xs ≡ true → is_some (f d) ≡ true → is_in d (fliers f xs) ≡ true) → is_in d (if b then x ∷ fliers f xs else fliers f xs) ≡ true
    by_test true t q true u ih = rw t refl
    by_test true t q false u ih = let y = eqb-true d x t in absurd (clash (is_some (f x)) (sym (ap (λ k. is_some (f k)) y) ∙ s) u)
      where
        clash : (b : Bool) → b ≡ true → b ≡ false → ⊥
        clash true p r = absurd cc
        clash false p r = absurd cc
    by_test false t q true u ih = rw t (ih q s)
    by_test false t q false u ih = ih q s

-- ---- ends, one after another

pub record Ended (c last : Core) (ds : List ℕ) : Type 0 where
  pub net : last.net ≡ c.net
  pub out : (d : ℕ) → is_in d ds ≡ false → last.flying d ≡ c.flying d
  pub none : (d : ℕ) → is_in d ds ≡ true → last.flying d ≡ None

pub run_ends : (U : Unfolding) (c last : Core) (ds : List ℕ) → Run U c (entries_of (ends_of ds)) last → Ended c last ds
run_ends U c last [] r = record { net = ap (λ (k : Core). k.net) r; out = λ d e. ap (λ (k : Core). k.flying d) r; none = λ d e. absurd cc }
run_ends U c last (x ∷ xs) r =
    let ih = run_ends U r.0 last xs r.2 in
    let a = (r.1).after in
    record {
      net = ih.net ∙ ap (λ (k : Core). k.net) a;
      out = λ d e. out_of d ih a (nat_eq d x) refl e;
      none = λ d e. none_of d ih a (is_in d xs) refl e;
    }
  where
    out_of : (d : ℕ) → Ended r.0 last xs → r.0 ≡ record { net = c.net; exports = put c.exports x (Some (r.1).export); flying = put c.flying x None } → (b : Bool) → nat_eq d x ≡ b → (b || is_in d xs) ≡ false → last.flying d ≡ c.flying d
    out_of d ih a true t q = absurd cc
    out_of d ih a false t q = ih.out d q ∙ ap (λ (k : Core). k.flying d) a ∙ ap (λ b. if b then None else c.flying d) t

    none_of : (d : ℕ) → Ended r.0 last xs → r.0 ≡ record { net = c.net; exports = put c.exports x (Some (r.1).export); flying = put c.flying x None } → (b : Bool) → is_in d xs ≡ b → (nat_eq d x || is_in d xs) ≡ true → last.flying d ≡ None
    none_of d ih a true t q = ih.none d t
    none_of d ih a false t q = ih.out d t ∙ ap (λ (k : Core). k.flying d) a ∙ ap (λ b. if b then None else c.flying d) (first (nat_eq d x) (is_in d xs) t q)
      where
        first : (p q : Bool) → q ≡ false → (p || q) ≡ true → p ≡ true
        first true q t e = refl
        first false q t e = absurd cc

-- ---- books whose flights are ended

entries_join : (xs ys : List ℕ) → entries_of (ends_of (xs ++ ys)) ≡ entries_of (ends_of xs) ++ entries_of (ends_of ys)
entries_join xs ys = ap entries_of (map-append (λ d. entry.End d) xs ys) ∙ map-append entry_of (ends_of xs) (ends_of ys)

pub ends_more : (old mid new : BookValue) (xs ys : List ℕ) → EndsFlights old mid xs → EndsFlights mid new ys → EndsFlights old new (xs ++ ys)
ends_more old mid new xs ys f g = record {
  program = g.program ∙ f.program;
  start = g.start ∙ f.start;
  log = g.log ∙ ap (λ l. l ++ ends_of ys) f.log ∙ append_assoc old.log (ends_of xs) (ends_of ys) ∙ ap (λ l. old.log ++ l) (sym (map-append (λ d. entry.End d) xs ys));
  run = subst (λ (l : List EntryValue). Run (unfolding_of old.program) (core_of old.core) l (core_of new.core)) (sym (entries_join xs ys))
      (run_join (unfolding_of old.program) (core_of old.core) (core_of mid.core) (core_of new.core) (entries_of (ends_of xs)) (entries_of (ends_of ys)) f.run
      (subst (λ (p : Program). Run (unfolding_of p) (core_of mid.core) (entries_of (ends_of ys)) (core_of new.core)) f.program g.run));
}

-- nothing but the room in the log is another
pub ends_after : (old mid new : BookValue) (xs : List ℕ) → EndsFlights old mid xs → IsSameBook mid new → EndsFlights old new xs
ends_after old mid new xs f s = record {
  program = s.program ∙ f.program;
  start = s.start ∙ f.start;
  log = s.log ∙ f.log;
  run = subst (λ (c : CoreValue). Run (unfolding_of old.program) (core_of old.core) (entries_of (ends_of xs)) (core_of c)) (sym s.core) f.run;
}

-- ---- the flights of the devices of a core, place by place

-- a device isn't among those before its place
fresh : (is : List ℕ) (p d : ℕ) → Distinct is → p < length is → get_or is p 0 ≡ d → is_in d (take p is) ≡ false
fresh [] p d n h e = absurd (omega arith)
fresh (i ∷ is) zero d n h e = refl
fresh (i ∷ is) (suc p) d n h e = by_test (nat_eq d i) refl (fresh is p d n.1 (omega arith) e)
  where
    by_test : (b : Bool) → nat_eq d i ≡ b → is_in d (take p is) ≡ false → (b || is_in d (take p is)) ≡ false
    by_test true t ih = let y = eqb-true d i t in absurd (n.0 p (omega arith) (e ∙ y))
    by_test false t ih = ih

-- the number of the device at a place
pub number_at : (xs : List Device) (p : ℕ) (x : Device) → p < length xs → get_or (numbers (map net_device_of xs)) p 0 ≡ (get_or xs p x).id
number_at [] p x h = absurd (omega arith)
number_at (y ∷ ys) zero x h = refl
number_at (y ∷ ys) (suc p) x h = number_at ys p x (omega arith)

-- a core's network, read through references
pub record ReadNet (v : CoreValue) (ds : List Device) : Type 0 where
  pub devices : map net_device_of ds ≡ v.net.devices
  pub network : IsNetwork v.net

pub read_net : (v w : CoreValue) (n : Network) (ds : List Device) → v ≡ w → n ≡ v.net → map net_device_of ds ≡ n.devices → IsNetwork n → ReadNet w ds
read_net v w n ds p q e k = subst (λ (u : CoreValue). ReadNet u ds) p (subst (λ (m : Network). m ≡ v.net → map net_device_of ds ≡ m.devices → IsNetwork m → ReadNet v ds) (sym q) (λ r e k. record { devices = e; network = k }) q e k)

pub many_devices : (v : CoreValue) (ds : List Device) → ReadNet v ds → length ds ≡ length (numbers v.net.devices)
many_devices v ds r = sym (length-map ds net_device_of) ∙ ap length r.devices ∙ sym (many_numbers v.net.devices)

-- the flights of the devices before a place are ended
pub record SettledTo (old now : BookValue) (place : ℕ) : Type 0 where
  pub ends : EndsFlights old now (fliers (core_of old.core).flying (take place (numbers old.core.net.devices)))

pub settled_net : (old now : BookValue) (place : ℕ) → SettledTo old now place → now.core.net ≡ old.core.net
settled_net old now place s = (run_ends (unfolding_of old.program) (core_of old.core) (core_of now.core) _ s.ends.run).net

pub settled_more : (old now new : BookValue) (place next : ℕ) (x : Device) (ds es : List Device) → ReadNet old.core ds → ReadNet now.core es → place < length ds → next ≡ suc place
    → SettledTo old now place → EndsFlights now new (fliers (core_of now.core).flying ((get_or es place x).id ∷ [])) → SettledTo old new next
settled_more old now new place next x ds es a b l q s one =
    let d = (get_or es place x).id in
    let m = many_devices old.core ds a in
    let net = settled_net old now place s in
    let z = many_devices now.core es b in
    let w = ap (λ (k : Network). length (numbers k.devices)) net in
    let h : place < length (numbers old.core.net.devices) = omega arith in
    let e : get_or (numbers old.core.net.devices) place 0 ≡ (get_or es place x).id = ap (λ (k : Network). get_or (numbers k.devices) place 0) (sym net) ∙ ap (λ (ns : List NetDevice). get_or (numbers ns) place 0) (sym b.devices) ∙ number_at es place x (omega arith) in
    let n = rises_distinct (numbers old.core.net.devices) a.network.rising in
    let f = (core_of old.core).flying in
    let is = numbers old.core.net.devices in
    let r = run_ends (unfolding_of old.program) (core_of old.core) (core_of now.core) (fliers (core_of old.core).flying (take place (numbers old.core.net.devices))) s.ends.run in
    let same : (core_of now.core).flying d ≡ (core_of old.core).flying d = r.out d (fliers_out (core_of old.core).flying d (take place (numbers old.core.net.devices)) (fresh (numbers old.core.net.devices) place d n h e)) in
    let last : fliers (core_of now.core).flying (d ∷ []) ≡ fliers (core_of old.core).flying (d ∷ []) = ap (λ o. if is_some o then d ∷ [] else []) same in
    let more : take next (numbers old.core.net.devices) ≡ take place (numbers old.core.net.devices) ++ d ∷ [] = ap (λ k. take k (numbers old.core.net.devices)) q ∙ take-suc (numbers old.core.net.devices) place 0 h ∙ ap (λ k. take place (numbers old.core.net.devices) ++ k ∷ []) e in
    record {
      ends = subst (EndsFlights old new) (sym (ap (fliers (core_of old.core).flying) more ∙ fliers_append (core_of old.core).flying (take place (numbers old.core.net.devices)) (d ∷ [])))
          (ends_more old now new _ _ s.ends (subst (EndsFlights now new) last one));
    }

pub take_whole : {X : Type 0} (k : ℕ) (xs : List X) → k ≡ length xs → take k xs ≡ xs
take_whole zero [] e = refl
take_whole zero (x ∷ xs) e = absurd (omega arith)
take_whole (suc k) [] e = absurd (omega arith)
take_whole (suc k) (x ∷ xs) e = ap (λ ys. x ∷ ys) (take_whole k xs (omega arith))

pub settled_all : (old now : BookValue) (count : ℕ) (ds : List Device) → ReadNet old.core ds → count ≡ length ds → SettledTo old now count → EndsFlights old now (in_flight (core_of old.core))
settled_all old now count ds r q s = let m = many_devices old.core ds r in let e : count ≡ length (numbers old.core.net.devices) = q ∙ m in subst (λ ds. EndsFlights old now (fliers (core_of old.core).flying ds)) (take_whole count (numbers old.core.net.devices) e) s.ends

-- a place that is within the devices of the book as it was is within those of the book as it is
pub place_within : (old now : BookValue) (place : ℕ) (ds es : List Device) → ReadNet old.core ds → ReadNet now.core es → place < length ds → SettledTo old now place → place < length es
place_within old now place ds es a b l s =
    let m = many_devices old.core ds a in
    let z = many_devices now.core es b in
    let w = ap (λ (k : Network). length (numbers k.devices)) (settled_net old now place s) in
    omega arith

pub settled_some : (old mid new : BookValue) (place : ℕ) → SettledTo old mid place → IsSameBook mid new → EndsSome old new
settled_some old mid new place s same = record {
  ended = fliers (core_of old.core).flying (take place (numbers old.core.net.devices));
  left = fliers (core_of old.core).flying (drop place (numbers old.core.net.devices));
  flights = ap (fliers (core_of old.core).flying) (sym (take-append-drop place (numbers old.core.net.devices))) ∙ fliers_append (core_of old.core).flying (take place (numbers old.core.net.devices)) (drop place (numbers old.core.net.devices));
  ends = ends_after old mid new _ s.ends same;
}

clash : (b : Bool) → b ≡ true → b ≡ false → ⊥
clash true p r = absurd cc
clash false p r = absurd cc

-- a device of a core that isn't among those in flight has no flight
not_flying : (v : CoreValue) (d : ℕ) → is_in d (in_flight (core_of v)) ≡ false → (core_of v).flying d ≡ None
not_flying v d e = by_place (is_in d (numbers v.net.devices)) refl ((core_of v).flying d) refl
  where
    by_place : (b : Bool) → is_in d (numbers v.net.devices) ≡ b → (o : Option Copy) → (core_of v).flying d ≡ o → (core_of v).flying d ≡ None
    by_place false t o q = slot_none (numbers v.net.devices) _ d t
    by_place true t None q = q
    by_place true t (Some s) q = absurd (clash (is_in d (in_flight (core_of v))) (fliers_in (core_of v).flying d (numbers v.net.devices) t (ap is_some q)) e)

-- after all ends nothing flies
pub none_left : (old now : BookValue) → EndsFlights old now (in_flight (core_of old.core)) → (d : ℕ) → (core_of now.core).flying d ≡ None
none_left old now s d = by_test (is_in d (in_flight (core_of old.core))) refl
  where
    r : Ended (core_of old.core) (core_of now.core) (in_flight (core_of old.core))
    r = run_ends (unfolding_of old.program) (core_of old.core) (core_of now.core) (in_flight (core_of old.core)) s.run

    by_test : (b : Bool) → is_in d (in_flight (core_of old.core)) ≡ b → (core_of now.core).flying d ≡ None
    by_test true t = r.none d t
    by_test false t = r.out d t ∙ not_flying old.core d t
