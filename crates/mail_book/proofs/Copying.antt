-- Copies of rows, and rows in which nothing was heard and nothing is in transit.
use Rattle.std.proofs.Common.{◌≡◌, ℕ, suc, List, [], ◌∷◌, ◌++◌, length, map, refl, sym, ◌∙◌, ap, subst, Bool, true, false, nat_eq, if◌then◌else◌, Option, Some, None}
use Rattle.std.specs.Prelude.{option_map}
use Rattle.std.proofs.Math.Path.{fun_ext}
use Rattle.fc_values.specs.declared.exports.Export.{Export}
use Rattle.fc_values.specs.Exports.{FlatExport, export_of}
use Rattle.fc_nodes.specs.Program.{Unfolding, unfolding_of}
use Rattle.fc_nodes.specs.Flat.{tree_export, IsExport}
use Rattle.value_trees.specs.Copies.{WhereSome}
use Rattle.value_trees.specs.Snaps.{tree_of, IsExportOf}
use Rattle.topology.specs.Networks.{Network, numbers, near}
use Rattle.firing_core.specs.Cores.{Core}
use Rattle.firing_core.specs.CoreViews.{CoreValue, core_of, program_of}
use Rattle.message_links.specs.MailCores.{Message as MailMessage, MailCore}
use Rattle.mail_book.specs.declared.letters.Letters.{Letters}
use Rattle.mail_book.specs.declared.letters.Message.{Message}
use Rattle.mail_book.specs.Pairs.{item_at, at_pair, AreRows}
use Rattle.mail_book.specs.Letters.{letter_of, message_of, heard_of, transit_of, AllMessages, AllLetters, IsQuiet, AllQuiet, SameLetters, SameRow}
use Rattle.mail_book.specs.Rows.{heard_rows, transit_rows, heard_at, transit_at, AllRows, AreQuiet, SameRows}
use Rattle.mail_book.specs.MailViews.{mail_with, mail_of, IsMail, quiet}

module _ (U : Unfolding) where
  -- ---- copies

  heard_same : (o p : Option Export) → option_map export_of p ≡ option_map export_of o → option_map (tree_of U) p ≡ option_map (tree_of U) o
  heard_same None None q = refl
  heard_same None (Some y) q = absurd cc
  heard_same (Some x) None q = absurd cc
  heard_same (Some x) (Some y) q = let e : export_of y ≡ export_of x = cc in ap (λ v. Some (tree_export U v)) e

  heard_kept : (o p : Option Export) → option_map export_of p ≡ option_map export_of o → WhereSome (IsExportOf U) o → WhereSome (IsExportOf U) p
  heard_kept None None q w = tt
  heard_kept None (Some y) q w = absurd cc
  heard_kept (Some x) None q w = tt
  heard_kept (Some x) (Some y) q w = let e : export_of x ≡ export_of y = cc in subst (IsExport U) e w

  abbrev from_letter : FlatExport × Option ℕ → MailMessage
  from_letter l = record { export = tree_export U l.0; sent = l.1 }

  messages_from : (ms : List Message) → map (message_of U) ms ≡ map from_letter (map letter_of ms)
  messages_from [] = refl
  messages_from (m ∷ ms) = ap (λ xs. message_of U m ∷ xs) (messages_from ms)

  messages_kept : (ms ns : List Message) → map letter_of ns ≡ map letter_of ms → AllMessages U ms → AllMessages U ns
  messages_kept [] [] q a = tt
  messages_kept [] (n ∷ ns) q a = absurd cc
  messages_kept (m ∷ ms) [] q a = tt
  messages_kept (m ∷ ms) (n ∷ ns) q a =
      let first : letter_of m ≡ letter_of n = cc in
      let later : map letter_of ns ≡ map letter_of ms = cc in
      (subst (IsExport U) (ap (λ (l : FlatExport × Option ℕ). l.0) first) a.0, messages_kept ms ns later a.1)

  letters_told : (l m : Letters) → SameLetters l m → (heard_of U m ≡ heard_of U l) × (transit_of U m ≡ transit_of U l)
  letters_told l m s = (heard_same l.heard m.heard s.heard, messages_from m.transit.items ∙ ap (map from_letter) s.transit ∙ sym (messages_from l.transit.items))

  row_told : (r s : List Letters) → SameRow r s → (map (heard_of U) s ≡ map (heard_of U) r) × (map (transit_of U) s ≡ map (transit_of U) r)
  row_told [] [] a = (refl, refl)
  row_told [] (m ∷ s) a = absurd a
  row_told (l ∷ r) [] a = absurd a
  row_told (l ∷ r) (m ∷ s) a =
      let h = letters_told l m a.0 in
      let ih = row_told r s a.1 in
      (ap (λ x. x ∷ map (heard_of U) s) h.0 ∙ ap (λ xs. heard_of U l ∷ xs) ih.0, ap (λ x. x ∷ map (transit_of U) s) h.1 ∙ ap (λ xs. transit_of U l ∷ xs) ih.1)

  rows_told : (rs ss : List (List Letters)) → SameRows rs ss → (heard_rows U ss ≡ heard_rows U rs) × (transit_rows U ss ≡ transit_rows U rs)
  rows_told [] [] a = (refl, refl)
  rows_told [] (s ∷ ss) a = absurd a
  rows_told (r ∷ rs) [] a = absurd a
  rows_told (r ∷ rs) (s ∷ ss) a =
      let h = row_told r s a.0 in
      let ih = rows_told rs ss a.1 in
      (ap (λ x. x ∷ heard_rows U ss) h.0 ∙ ap (λ xs. map (heard_of U) r ∷ xs) ih.0, ap (λ x. x ∷ transit_rows U ss) h.1 ∙ ap (λ xs. map (transit_of U) r ∷ xs) ih.1)

  row_kept : (r s : List Letters) → SameRow r s → AllLetters U r → AllLetters U s
  row_kept [] [] a k = tt
  row_kept [] (m ∷ s) a k = absurd a
  row_kept (l ∷ r) [] a k = tt
  row_kept (l ∷ r) (m ∷ s) a k =
      (record { heard = heard_kept l.heard m.heard a.0.heard k.0.heard; transit = messages_kept l.transit.items m.transit.items a.0.transit k.0.transit }, row_kept r s a.1 k.1)

  rows_kept : (rs ss : List (List Letters)) → SameRows rs ss → AllRows U rs → AllRows U ss
  rows_kept [] [] a k = tt
  rows_kept [] (s ∷ ss) a k = absurd a
  rows_kept (r ∷ rs) [] a k = tt
  rows_kept (r ∷ rs) (s ∷ ss) a k = (row_kept r s a.0 k.0, rows_kept rs ss a.1 k.1)

row_long : (r s : List Letters) → SameRow r s → length s ≡ length r
row_long [] [] a = refl
row_long [] (m ∷ s) a = absurd a
row_long (l ∷ r) [] a = absurd a
row_long (l ∷ r) (m ∷ s) a = ap suc (row_long r s a.1)

rows_long : (N : Network) (ds : List ℕ) (rs ss : List (List Letters)) → SameRows rs ss → AreRows N ds rs → AreRows N ds ss
rows_long N [] [] [] a k = tt
rows_long N [] [] (s ∷ ss) a k = absurd a
rows_long N [] (r ∷ rs) ss a k = absurd k
rows_long N (d ∷ ds) [] ss a k = absurd k
rows_long N (d ∷ ds) (r ∷ rs) [] a k = absurd a
rows_long N (d ∷ ds) (r ∷ rs) (s ∷ ss) a k = (row_long r s a.0 ∙ k.0, rows_long N ds rs ss a.1 k.1)

-- a copy of a core beside copies of its rows
pub copied_mail : (c next : CoreValue) (rows copies : List (List Letters)) → next.program ≡ c.program → core_of next ≡ core_of c → SameRows rows copies → mail_of (mail_with next copies) ≡ mail_of (mail_with c rows)
copied_mail c next rows copies program core same =
    let t = rows_told (program_of c) rows copies same in
    ap (λ P. let m : MailCore = record { core = core_of next; heard = heard_at (unfolding_of P) next.net copies; transit = transit_at (unfolding_of P) next.net copies } in m) program
    ∙ ap (λ (k : Core). let m : MailCore = record { core = k; heard = heard_at (program_of c) k.net copies; transit = transit_at (program_of c) k.net copies } in m) core
    ∙ ap (λ hs. let m : MailCore = record { core = core_of c; heard = at_pair c.net None hs; transit = transit_at (program_of c) c.net copies } in m) t.0
    ∙ ap (λ ts. let m : MailCore = record { core = core_of c; heard = heard_at (program_of c) c.net rows; transit = at_pair c.net [] ts } in m) t.1

pub copied_kept : (c next : CoreValue) (rows copies : List (List Letters)) → next.program ≡ c.program → core_of next ≡ core_of c → SameRows rows copies → IsMail (mail_with c rows) → IsMail (mail_with next copies)
copied_kept c next rows copies program core same m = record {
  shape = subst (λ M. AreRows M (numbers M.devices) copies) (sym (ap (λ (k : Core). k.net) core)) (rows_long c.net (numbers c.net.devices) rows copies same m.shape);
  letters = subst (λ P. AllRows (unfolding_of P) copies) (sym program) (rows_kept (program_of c) rows copies same m.letters);
}

-- ---- quiet rows

nothing : {X : Type 0} (z : X) (xs : List ℕ) (n : ℕ) → item_at z xs [] n ≡ z
nothing z [] n = refl
nothing z (x ∷ xs) n = refl

module _ (U : Unfolding) where
  quiet_heard : (is : List ℕ) (r : List Letters) (n : ℕ) → AllQuiet r → item_at None is (map (heard_of U) r) n ≡ None
  quiet_heard [] r n a = refl
  quiet_heard (i ∷ is) [] n a = refl
  quiet_heard (i ∷ is) (l ∷ r) n a = by_test (nat_eq n i) (quiet_heard is r n a.1)
    where
      by_test : (b : Bool) → item_at None is (map (heard_of U) r) n ≡ None → (if b then heard_of U l else item_at None is (map (heard_of U) r) n) ≡ None
      by_test true ih = ap (option_map (tree_of U)) a.0.heard
      by_test false ih = ih

  quiet_transit : (is : List ℕ) (r : List Letters) (n : ℕ) → AllQuiet r → item_at [] is (map (transit_of U) r) n ≡ []
  quiet_transit [] r n a = refl
  quiet_transit (i ∷ is) [] n a = refl
  quiet_transit (i ∷ is) (l ∷ r) n a = by_test (nat_eq n i) (quiet_transit is r n a.1)
    where
      by_test : (b : Bool) → item_at [] is (map (transit_of U) r) n ≡ [] → (if b then transit_of U l else item_at [] is (map (transit_of U) r) n) ≡ []
      by_test true ih = ap (map (message_of U)) a.0.transit
      by_test false ih = ih

  quiet_row_heard : (ns is : List ℕ) (rows : List (List Letters)) (d n : ℕ) → AreQuiet rows → item_at None ns (item_at [] is (heard_rows U rows) d) n ≡ None
  quiet_row_heard ns [] rows d n a = nothing None ns n
  quiet_row_heard ns (i ∷ is) [] d n a = nothing None ns n
  quiet_row_heard ns (i ∷ is) (r ∷ rows) d n a = by_test (nat_eq d i) (quiet_row_heard ns is rows d n a.1)
    where
      by_test : (b : Bool) → item_at None ns (item_at [] is (heard_rows U rows) d) n ≡ None → item_at None ns (if b then map (heard_of U) r else item_at [] is (heard_rows U rows) d) n ≡ None
      by_test true ih = quiet_heard ns r n a.0
      by_test false ih = ih

  quiet_row_transit : (ns is : List ℕ) (rows : List (List Letters)) (d n : ℕ) → AreQuiet rows → item_at [] ns (item_at [] is (transit_rows U rows) d) n ≡ []
  quiet_row_transit ns [] rows d n a = nothing [] ns n
  quiet_row_transit ns (i ∷ is) [] d n a = nothing [] ns n
  quiet_row_transit ns (i ∷ is) (r ∷ rows) d n a = by_test (nat_eq d i) (quiet_row_transit ns is rows d n a.1)
    where
      by_test : (b : Bool) → item_at [] ns (item_at [] is (transit_rows U rows) d) n ≡ [] → item_at [] ns (if b then map (transit_of U) r else item_at [] is (transit_rows U rows) d) n ≡ []
      by_test true ih = quiet_transit ns r n a.0
      by_test false ih = ih

  quiet_letters : (r : List Letters) → AllQuiet r → AllLetters U r
  quiet_letters [] a = tt
  quiet_letters (l ∷ r) a = (record { heard = subst (WhereSome (IsExportOf U)) (sym a.0.heard) tt; transit = subst (AllMessages U) (sym a.0.transit) tt }, quiet_letters r a.1)

  pub quiet_rows : (rows : List (List Letters)) → AreQuiet rows → AllRows U rows
  quiet_rows [] a = tt
  quiet_rows (r ∷ rows) a = (quiet_letters r a.0, quiet_rows rows a.1)

pub quiet_mail : (c : CoreValue) (rows : List (List Letters)) → AreQuiet rows → mail_of (mail_with c rows) ≡ quiet (core_of c)
quiet_mail c rows a =
    let heard : heard_at (program_of c) c.net rows ≡ (λ x y. None) = fun_ext (λ x. fun_ext (λ y. quiet_row_heard (program_of c) _ (numbers c.net.devices) rows y x a)) in
    let transit : transit_at (program_of c) c.net rows ≡ (λ x y. []) = fun_ext (λ x. fun_ext (λ y. quiet_row_transit (program_of c) _ (numbers c.net.devices) rows y x a)) in
    ap (λ f. let m : MailCore = record { core = core_of c; heard = f; transit = transit_at (program_of c) c.net rows } in m) heard
    ∙ ap (λ f. let m : MailCore = record { core = core_of c; heard = λ x y. None; transit = f } in m) transit

pub quiet_more : (r : List Letters) (l : Letters) → AllQuiet r → IsQuiet l → AllQuiet (r ++ l ∷ [])
quiet_more [] l a k = (k, tt)
quiet_more (m ∷ r) l a k = (a.0, quiet_more r l a.1 k)

pub quiet_rows_more : (rows : List (List Letters)) (r : List Letters) → AreQuiet rows → AllQuiet r → AreQuiet (rows ++ r ∷ [])
quiet_rows_more [] r a k = (k, tt)
quiet_rows_more (s ∷ rows) r a k = (a.0, quiet_rows_more rows r a.1 k)

pub shape_more : (N : Network) (ds : List ℕ) (rows : List (List Letters)) (d : ℕ) (r : List Letters) → AreRows N ds rows → length r ≡ length (near N d) → AreRows N (ds ++ d ∷ []) (rows ++ r ∷ [])
shape_more N [] [] d r a k = (k, tt)
shape_more N [] (s ∷ rows) d r a k = absurd a
shape_more N (e ∷ ds) [] d r a k = absurd a
shape_more N (e ∷ ds) (s ∷ rows) d r a k = (a.0, shape_more N ds rows d r a.1 k)

pub same_more : (r s : List Letters) (l m : Letters) → SameRow r s → SameLetters l m → SameRow (r ++ l ∷ []) (s ++ m ∷ [])
same_more [] [] l m a k = (k, tt)
same_more [] (y ∷ s) l m a k = absurd a
same_more (x ∷ r) [] l m a k = absurd a
same_more (x ∷ r) (y ∷ s) l m a k = (a.0, same_more r s l m a.1 k)

pub same_rows_more : (rs ss : List (List Letters)) (r s : List Letters) → SameRows rs ss → SameRow r s → SameRows (rs ++ r ∷ []) (ss ++ s ∷ [])
same_rows_more [] [] r s a k = (k, tt)
same_rows_more [] (y ∷ ss) r s a k = absurd a
same_rows_more (x ∷ rs) [] r s a k = absurd a
same_rows_more (x ∷ rs) (y ∷ ss) r s a k = (a.0, same_rows_more rs ss r s a.1 k)
