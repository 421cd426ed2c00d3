-- Crates above cite this module: what happens to a message, as a step of a mail core.
use Rattle.std.proofs.Common.{◌≡◌, ℕ, zero, suc, ◌<◌, ◌≤◌, List, [], ◌∷◌, length, map, get_or, refl, sym, ◌∙◌, ap, subst, arith, Bool, true, false, Option, Some, None, Vec, Global, vec_len}
use Rattle.std.specs.Prelude.{nat_lt, option_map, ◌==◌}
use Rattle.std.proofs.lemmas.Bool.{eq-eqb}
use Rattle.std.specs.List.{remove}
use Rattle.std.proofs.lemmas.List.{length-map}
use Rattle.fc_values.specs.declared.exports.Export.{Export}
use Rattle.fc_values.specs.Exports.{export_of}
use Rattle.fc_values.specs.Trees.{TreeExport}
use Rattle.fc_nodes.specs.Program.{Unfolding}
use Rattle.fc_nodes.specs.Flat.{tree_export, IsExport}
use Rattle.value_trees.specs.Copies.{WhereSome}
use Rattle.value_trees.specs.Snaps.{tree_of, IsExportOf}
use Rattle.topology.specs.Networks.{IsNetwork, numbers}
use Rattle.firing_core.specs.CoreViews.{CoreValue, core_of, program_of}
use Rattle.message_links.specs.MailCores.{Message as MailMessage, MailCore, MailDeliver, MailAgain, MailLose, put_pair, reaches, without, MailStep}
use Rattle.message_links.specs.declared.entries.MailFault.TheVariants as fault
use Rattle.mail_book.specs.declared.letters.Letters.{Letters}
use Rattle.mail_book.specs.declared.letters.Message.{Message}
use Rattle.mail_book.specs.Pairs.{AreRows, AtPair}
use Rattle.mail_book.specs.Letters.{message_of, heard_of, transit_of, AreLetters, AllMessages, Delivers, Repeats}
use Rattle.mail_book.specs.MailViews.{MailValue, mail_with, mail_of}
use Rattle.mail_book.specs.MailReplays.{message_fault}
use Rattle.mail_book.proofs.PairLookups.{put_same}
use Rattle.mail_book.proofs.LetterWrites.{rewritten, heard_read, transit_read, heard_write, transit_write}

-- an export that is written down as another stands for the same
tree_same : (U : Unfolding) (x : Option Export) (y : Export) → option_map export_of x ≡ Some (export_of y) → option_map (tree_of U) x ≡ Some (tree_of U y)
tree_same U None y q = absurd cc
tree_same U (Some x) y q = let e : export_of x ≡ export_of y = cc in ap (λ v. Some (tree_export U v)) e

without_map : {A B : Type 0} (f : A → B) (i : ℕ) (xs : List A) → map f (without i xs) ≡ without i (map f xs)
without_map f i [] = refl
without_map f zero (x ∷ xs) = refl
without_map f (suc i) (x ∷ xs) = ap (λ ys. f x ∷ ys) (without_map f i xs)

pub without_remove : {A : Type 0} (xs : List A) (i : ℕ) → remove xs i ≡ without i xs
without_remove [] zero = refl
without_remove [] (suc i) = refl
without_remove (x ∷ xs) zero = refl
without_remove (x ∷ xs) (suc i) = ap (λ ys. x ∷ ys) (without_remove xs i)

ge_test : (i n : ℕ) → n ≤ i → nat_lt i n ≡ false
ge_test i n h = grind arith

-- the first of some messages
pub some_items : (v : Vec Message Global) (b : Bool) → b ≡ (vec_len v == 0) → b ≡ false → 0 < length v.items
some_items v b q h = by_length v.items refl
  where
    by_length : (ms : List Message) → v.items ≡ ms → 0 < length ms
    by_length [] e =
        let n : vec_len v ≡ 0 = let k = v.ok.0 in let l = ap (length {A = Message}) e in omega arith in
        let t : (vec_len v == 0) ≡ true = eq-eqb (vec_len v) 0 n in
        absurd cc
    by_length (m ∷ ms) e = omega arith

pub first_there : (ms : List Message) (m : Message) → 0 < length ms → m ≡ get_or ms 0 m → (later : List Message) × (ms ≡ m ∷ later)
first_there [] m h q = absurd (omega arith)
first_there (x ∷ ms) m h q = (ms, ap (λ y. y ∷ ms) (sym q))

-- a core and rows that fit it, and an ordered pair with its letters
module _ (c : CoreValue) (net : IsNetwork c.net) (rows : List (List Letters)) (shape : AreRows c.net (numbers c.net.devices) rows) (a b : ℕ) (place : ℕ × ℕ) (at : AtPair c.net a b place)
    (old : Letters) (is : old ≡ get_or (get_or rows place.0 []) place.1 old) where
  U : Unfolding
  U = program_of c

  abbrev pub before : MailValue
  before = mail_with c rows

  abbrev pub after : Letters → MailValue
  after l = mail_with c (rewritten c.net net rows shape a b place at l)

  in_transit : (mail_of before).transit a b ≡ map (message_of (program_of c)) old.transit.items
  in_transit = transit_read c.net net rows shape a b place at (program_of c) old is

  as_written : (l : Letters) (h : Option TreeExport) (t : List MailMessage) → heard_of (program_of c) l ≡ h → transit_of (program_of c) l ≡ t
      → mail_of (after l) ≡ record { core = core_of c; heard = put_pair (mail_of before).heard a b h; transit = put_pair (mail_of before).transit a b t }
  as_written l h t p q =
      ap (λ f. let m : MailCore = record { core = core_of c; heard = f; transit = (mail_of (after l)).transit } in m) (heard_write c.net net rows shape a b place at (program_of c) l ∙ ap (put_pair (mail_of before).heard a b) p)
      ∙ ap (λ f. let m : MailCore = record { core = core_of c; heard = put_pair (mail_of before).heard a b h; transit = f } in m) (transit_write c.net net rows shape a b place at (program_of c) l ∙ ap (put_pair (mail_of before).transit a b) q)

  pub delivered : (l : Letters) (i : ℕ) → Delivers old l → MailStep (program_of c) i (mail_of before) (MailDeliver a b) (mail_of (after l))
  delivered l i d = record {
    linked = at.reaches;
    oldest = message_of (program_of c) d.oldest;
    later = map (message_of (program_of c)) d.later;
    there = in_transit ∙ ap (map (message_of (program_of c))) d.there;
    after = as_written l (Some (tree_of (program_of c) d.oldest.export)) (map (message_of (program_of c)) d.later) (ap (option_map (tree_of (program_of c))) d.heard) (ap (map (message_of (program_of c))) d.transit);
  }

  pub repeated : (l : Letters) (i : ℕ) → Repeats old l → MailStep (program_of c) i (mail_of before) (MailAgain a b) (mail_of (after l))
  repeated l i d = record {
    linked = at.reaches;
    oldest = message_of (program_of c) d.oldest;
    later = map (message_of (program_of c)) d.later;
    there = in_transit ∙ ap (map (message_of (program_of c))) d.there;
    after = as_written l (Some (tree_of (program_of c) d.oldest.export)) (message_of (program_of c) d.oldest ∷ map (message_of (program_of c)) d.later) (tree_same (program_of c) l.heard d.oldest.export d.heard)
        (ap (λ v. map (message_of (program_of c)) v.items) d.transit ∙ ap (map (message_of (program_of c))) d.there);
  }

  pub lost : (l : Letters) (i k : ℕ) → k < length old.transit.items → l.heard ≡ old.heard → l.transit.items ≡ without k old.transit.items
      → MailStep (program_of c) i (mail_of before) (MailLose a b k) (mail_of (after l))
  lost l i k h p q = record {
    linked = at.reaches;
    there = subst (λ ms. k < length ms) (sym in_transit) (omega (arith, h, length-map old.transit.items (message_of (program_of c))));
    after = as_written l (heard_of (program_of c) old) (without k ((mail_of before).transit a b)) (ap (option_map (tree_of (program_of c))) p)
        (ap (map (message_of (program_of c))) q ∙ without_map (message_of (program_of c)) k old.transit.items ∙ ap (without k) (sym in_transit))
        ∙ ap (λ f. let m : MailCore = record { core = core_of c; heard = f; transit = put_pair (mail_of before).transit a b (without k ((mail_of before).transit a b)) } in m)
        (put_same (mail_of before).heard a b (heard_of (program_of c) old) (heard_read c.net net rows shape a b place at (program_of c) old is));
  }

  -- ---- refusals

  many_there : length ((mail_of before).transit a b) ≡ length old.transit.items
  many_there = ap length in_transit ∙ length-map old.transit.items (message_of (program_of c))

  pub empty_there : old.transit.items ≡ [] → message_fault (reaches c.net a b) (nat_lt 0 (length ((mail_of before).transit a b))) ≡ Some fault.Empty
  empty_there e = let n : length ((mail_of before).transit a b) ≡ 0 = many_there ∙ ap length e in let r = at.reaches in rw (n, r) refl

  pub past_there : (k : ℕ) → length old.transit.items ≤ k → message_fault (reaches c.net a b) (nat_lt k (length ((mail_of before).transit a b))) ≡ Some fault.Empty
  past_there k h = let n = many_there in let r = at.reaches in let t : nat_lt k (length ((mail_of before).transit a b)) ≡ false = ge_test k _ (omega (arith, n, h)) in rw (t, r) refl

-- ---- letters that were changed

pub delivers_letters : (U : Unfolding) (old l : Letters) → Delivers old l → AreLetters U old → AreLetters U l
delivers_letters U old l d k =
    let all : AllMessages U (d.oldest ∷ d.later) = subst (AllMessages U) d.there k.transit in
    record { heard = subst (WhereSome (IsExportOf U)) (sym d.heard) all.0; transit = subst (AllMessages U) (sym d.transit) all.1 }

where_same : (U : Unfolding) (x : Option Export) (y : Export) → option_map export_of x ≡ Some (export_of y) → IsExportOf U y → WhereSome (IsExportOf U) x
where_same U None y q k = tt
where_same U (Some x) y q k = let e : export_of x ≡ export_of y = cc in subst (IsExport U) (sym e) k

pub repeats_letters : (U : Unfolding) (old l : Letters) → Repeats old l → AreLetters U old → AreLetters U l
repeats_letters U old l d k =
    let all : AllMessages U (d.oldest ∷ d.later) = subst (AllMessages U) d.there k.transit in
    record { heard = where_same U l.heard d.oldest.export d.heard all.0; transit = subst (λ v. AllMessages U v.items) (sym d.transit) k.transit }

without_all : (U : Unfolding) (i : ℕ) (ms : List Message) → AllMessages U ms → AllMessages U (without i ms)
without_all U i [] a = tt
without_all U zero (m ∷ ms) a = a.1
without_all U (suc i) (m ∷ ms) a = (a.0, without_all U i ms a.1)

pub lost_letters : (U : Unfolding) (old l : Letters) (i : ℕ) → l.heard ≡ old.heard → l.transit.items ≡ without i old.transit.items → AreLetters U old → AreLetters U l
lost_letters U old l i p q k = record { heard = subst (WhereSome (IsExportOf U)) (sym p) k.heard; transit = subst (AllMessages U) (sym q) (without_all U i old.transit.items k.transit) }

pub same_letters : (U : Unfolding) (old l : Letters) → l.heard ≡ old.heard → l.transit.items ≡ old.transit.items → AreLetters U old → AreLetters U l
same_letters U old l p q k = record { heard = subst (WhereSome (IsExportOf U)) (sym p) k.heard; transit = subst (AllMessages U) (sym q) k.transit }
