-- A copy of a core stands for the same core.
use Rattle.std.proofs.Common.{◌≡◌, ℕ, ◌<◌, ◌+◌, List, [], ◌∷◌, ◌++◌, length, map, take, drop, get_or, refl, sym, ◌∙◌, ap, subst, add-one, Option, Some, None}
use Rattle.std.specs.Prelude.{option_map}
use Rattle.std.proofs.lemmas.List.{map-append, length-map}
use Rattle.std.proofs.Math.Seq.{take-suc, drop-cons}
use Rattle.fc_values.specs.declared.exports.Export.{Export}
use Rattle.fc_values.specs.Exports.{export_of}
use Rattle.fc_values.specs.Trees.{Copy}
use Rattle.fc_nodes.specs.Program.{Program, Unfolding}
use Rattle.value_trees.specs.declared.copies.Snap.{Snap}
use Rattle.value_trees.specs.Copies.{WhereSome}
use Rattle.value_trees.specs.Snaps.{tree_of, snap_copy, IsSnap}
use Rattle.topology.specs.Networks.{Network, numbers}
use Rattle.firing_core.specs.Cores.{Core}
use Rattle.firing_core.specs.CoreViews.{CoreValue, core_of, program_of, device_slot, AllExports, AllFlights, AllSnaps, FlightOf, IsCore}
use Rattle.firing_core.proofs.SnapCopies.{own_same, own_export}

snaps_more : (U : Unfolding) (old : List (Option Snap)) (y : Option Snap) → AllSnaps U old → WhereSome (IsSnap U) y → AllSnaps U (old ++ y ∷ [])
snaps_more U [] y a w = (w, tt)
snaps_more U (x ∷ xs) y a w = (a.0, snaps_more U xs y a.1 w)

pub record CopiedTo (U : Unfolding) (xs : List (Option Snap)) (i : ℕ) (made : List (Option Snap)) : Type 0 where
  pub same : map (option_map (snap_copy U)) made ≡ map (option_map (snap_copy U)) (take i xs)
  pub copied : AllSnaps U made
  pub left : AllSnaps U (drop i xs)

-- one more copy
pub copied_next : (U : Unfolding) (xs : List (Option Snap)) (i : ℕ) (x y : Option Snap) (old new : List (Option Snap)) → i < length xs → x ≡ get_or xs i x → new ≡ old ++ y ∷ []
    → option_map (snap_copy U) y ≡ option_map (snap_copy U) x → WhereSome (IsSnap U) y
    → map (option_map (snap_copy U)) old ≡ map (option_map (snap_copy U)) (take i xs) → AllSnaps U old → AllSnaps U (drop i xs) → CopiedTo U xs (i + 1) new
copied_next U xs i x y old new h q n e w s a l =
    let f : Option Snap → Option Copy = option_map (snap_copy U) in
    record {
      same = ap (map f) n ∙ map-append f old (y ∷ []) ∙ ap (λ cs. cs ++ f y ∷ []) s ∙ ap (λ c. map f (take i xs) ++ c ∷ []) (e ∙ ap f q)
          ∙ sym (map-append f (take i xs) (get_or xs i x ∷ [])) ∙ ap (map f) (sym (take-suc xs i x h)) ∙ ap (λ j. map f (take j xs)) (sym (add-one i));
      copied = subst (AllSnaps U) (sym n) (snaps_more U old y a w);
      left = subst (λ j. AllSnaps U (drop j xs)) (sym (add-one i)) (let t = subst (AllSnaps U) (drop-cons xs i x h) l in t.1);
    }

snap_where : (U : Unfolding) (d : ℕ) (x : Option Snap) → WhereSome (FlightOf U d) x → WhereSome (IsSnap U) x
snap_where U d None w = tt
snap_where U d (Some s) w = w.snap

pub snaps_of : (U : Unfolding) (is : List ℕ) (xs : List (Option Snap)) → AllFlights U is xs → AllSnaps U xs
snaps_of U [] [] a = tt
snaps_of U [] (x ∷ xs) a = absurd a
snaps_of U (i ∷ is) [] a = absurd a
snaps_of U (i ∷ is) (x ∷ xs) a = (snap_where U i x a.0, snaps_of U is xs a.1)

flight_again : (U : Unfolding) (d : ℕ) (x y : Option Snap) → option_map (snap_copy U) y ≡ option_map (snap_copy U) x → WhereSome (IsSnap U) y → WhereSome (FlightOf U d) x → WhereSome (FlightOf U d) y
flight_again U d x None e w f = tt
flight_again U d None (Some y) e w f = absurd (cc)
flight_again U d (Some x) (Some y) e w f =
    let h : snap_copy U y ≡ snap_copy U x = cc in
    record { names = ap (λ (c : Copy). c.device) h ∙ f.names; snap = w }

flights_again : (U : Unfolding) (is : List ℕ) (xs ys : List (Option Snap)) → map (option_map (snap_copy U)) ys ≡ map (option_map (snap_copy U)) xs → AllSnaps U ys → AllFlights U is xs → AllFlights U is ys
flights_again U [] [] [] e w f = tt
flights_again U [] [] (y ∷ ys) e w f = absurd (cc)
flights_again U [] (x ∷ xs) ys e w f = absurd f
flights_again U (i ∷ is) [] ys e w f = absurd f
flights_again U (i ∷ is) (x ∷ xs) [] e w f = absurd (cc)
flights_again U (i ∷ is) (x ∷ xs) (y ∷ ys) e w f =
    let h : option_map (snap_copy U) y ≡ option_map (snap_copy U) x = cc in
    let t : map (option_map (snap_copy U)) ys ≡ map (option_map (snap_copy U)) xs = cc in
    (flight_again U i x y h w.0 f.0, flights_again U is xs ys t w.1 f.1)

exports_again : (U : Unfolding) (xs ys : List (Option Export)) → map (option_map export_of) ys ≡ map (option_map export_of) xs → AllExports U xs → AllExports U ys
exports_again U [] [] e a = tt
exports_again U [] (y ∷ ys) e a = absurd (cc)
exports_again U (x ∷ xs) [] e a = tt
exports_again U (x ∷ xs) (y ∷ ys) e a =
    let h : option_map export_of y ≡ option_map export_of x = cc in
    let t : map (option_map export_of) ys ≡ map (option_map export_of) xs = cc in
    (own_export U y x h a.0, exports_again U xs ys t a.1)

trees_again : (U : Unfolding) (xs ys : List (Option Export)) → map (option_map export_of) ys ≡ map (option_map export_of) xs → map (option_map (tree_of U)) ys ≡ map (option_map (tree_of U)) xs
trees_again U [] [] e = refl
trees_again U [] (y ∷ ys) e = absurd (cc)
trees_again U (x ∷ xs) [] e = absurd (cc)
trees_again U (x ∷ xs) (y ∷ ys) e =
    let h : option_map export_of y ≡ option_map export_of x = cc in
    let t : map (option_map export_of) ys ≡ map (option_map export_of) xs = cc in
    let a = own_same U y x h in
    let b = trees_again U xs ys t in
    cc

-- a core and its copy
module _ (v : CoreValue) (k : IsCore v) (xs : List (Option Export)) (ys : List (Option Snap)) (e : map (option_map export_of) xs ≡ map (option_map export_of) v.exports)
    (f : map (option_map (snap_copy (program_of v))) ys ≡ map (option_map (snap_copy (program_of v))) v.flying) (w : AllSnaps (program_of v) ys) where
  kept : IsCore (record { program = v.program; net = v.net; exports = xs; flying = ys })
  kept = record {
    declared = k.declared;
    net = k.net;
    many = sym (length-map xs (option_map export_of)) ∙ ap length e ∙ length-map v.exports (option_map export_of) ∙ k.many;
    exports = exports_again (program_of v) v.exports xs e k.exports;
    flying = flights_again (program_of v) (numbers v.net.devices) v.flying ys f w k.flying;
  }

  same : core_of (record { program = v.program; net = v.net; exports = xs; flying = ys }) ≡ core_of v
  same =
      let a = trees_again (program_of v) v.exports xs e in
      ap (λ ts. let c : Core = record { net = v.net; exports = device_slot (numbers v.net.devices) ts; flying = device_slot (numbers v.net.devices) (map (option_map (snap_copy (program_of v))) ys) } in c) a
      ∙ ap (λ ts. let c : Core = record { net = v.net; exports = device_slot (numbers v.net.devices) (map (option_map (tree_of (program_of v))) v.exports); flying = device_slot (numbers v.net.devices) ts } in c) f

  pub copied_kept : (r : Program) (m : Network) → r ≡ v.program → m ≡ v.net → IsCore (record { program = r; net = m; exports = xs; flying = ys })
  copied_kept r m p q = subst (λ (s : Program). IsCore (record { program = s; net = m; exports = xs; flying = ys })) (sym p) (subst (λ (o : Network). IsCore (record { program = v.program; net = o; exports = xs; flying = ys })) (sym q) kept)

  pub copied_core : (r : Program) (m : Network) → r ≡ v.program → m ≡ v.net → core_of (record { program = r; net = m; exports = xs; flying = ys }) ≡ core_of v
  copied_core r m p q = subst (λ (s : Program). core_of (record { program = s; net = m; exports = xs; flying = ys }) ≡ core_of v) (sym p) (subst (λ (o : Network). core_of (record { program = v.program; net = o; exports = xs; flying = ys }) ≡ core_of v) (sym q) same)
