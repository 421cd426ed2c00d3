-- An export that is sent to each neighbour of a device, one after another.
use Rattle.std.proofs.Common.{◌≡◌, ℕ, zero, suc, ◌<◌, List, [], ◌∷◌, ◌++◌, length, map, get_or, take, refl, sym, ◌∙◌, ap, subst, arith, Bool, true, false, ◌&&◌, ◌||◌, nat_eq, if◌then◌else◌, Option}
use Rattle.std.specs.Prelude.{nat_le, option_map}
use Rattle.std.proofs.Math.Path.{fun_ext}
use Rattle.std.proofs.lemmas.Bool.{eqb-true, eq-eqb, ne_eqb}
use Rattle.std.proofs.lemmas.List.{map-append, length-map}
use Rattle.fc_values.specs.declared.exports.Export.{Export}
use Rattle.fc_values.specs.Exports.{export_of}
use Rattle.fc_values.specs.Fields.{is_in}
use Rattle.fc_values.specs.Trees.{TreeExport}
use Rattle.fc_nodes.specs.Program.{Unfolding}
use Rattle.fc_nodes.specs.Flat.{tree_export, IsExport}
use Rattle.value_trees.specs.Copies.{WhereSome}
use Rattle.value_trees.specs.Snaps.{tree_of, IsExportOf}
use Rattle.topology.specs.Networks.{Network, IsNetwork, numbers, near}
use Rattle.topology.specs.Nearby.{neighbour_numbers}
use Rattle.message_links.specs.MailCores.{Message as MailMessage, Pairs, put_pair, rest_of, pushed, posted, reaches}
use Rattle.message_links.specs.declared.entries.TheConstants.{MOST_IN_TRANSIT}
use Rattle.message_links.proofs.Reaching.{near_both}
use Rattle.mail_book.specs.declared.letters.Letters.{Letters}
use Rattle.mail_book.specs.declared.letters.Message.{Message}
use Rattle.mail_book.specs.Pairs.{AreRows, AtPair}
use Rattle.mail_book.specs.Letters.{message_of, heard_of, transit_of, AreLetters, AllMessages}
use Rattle.mail_book.specs.Rows.{heard_at, transit_at, AllRows, Posts, PostsTo}
use Rattle.firing_core.proofs.Slots.{Distinct}
use Rattle.mail_book.proofs.PairLookups.{put_same}
use Rattle.mail_book.proofs.LetterWrites.{rewritten, rewritten_shape, rewritten_letters, letters_there, heard_read, transit_read, heard_write, transit_write}

-- ---- one message more

map_pushed : {A B : Type 0} (f : A → B) (xs : List A) (x : A) → map f (pushed xs x) ≡ pushed (map f xs) (f x)
map_pushed {A} f xs x = by_test (nat_le MOST_IN_TRANSIT (length xs)) refl
  where
    rest : (ys : List A) → map f (rest_of ys) ≡ rest_of (map f ys)
    rest [] = refl
    rest (y ∷ ys) = refl

    by_test : (b : Bool) → nat_le MOST_IN_TRANSIT (length xs) ≡ b → map f (pushed xs x) ≡ pushed (map f xs) (f x)
    by_test b q =
        let n = length-map xs f in
        let k : nat_le MOST_IN_TRANSIT (length (map f xs)) ≡ b = rw n q in
        rw (q, k) (by_case b)
      where
        by_case : (b : Bool) → map f ((if b then rest_of xs else xs) ++ x ∷ []) ≡ (if b then rest_of (map f xs) else map f xs) ++ f x ∷ []
        by_case true = map-append f (rest_of xs) (x ∷ []) ∙ ap (λ ys. ys ++ f x ∷ []) (rest xs)
        by_case false = map-append f xs (x ∷ [])

all_rest : (U : Unfolding) (ms : List Message) → AllMessages U ms → AllMessages U (rest_of ms)
all_rest U [] a = tt
all_rest U (m ∷ ms) a = a.1

all_more : (U : Unfolding) (ms : List Message) (m : Message) → AllMessages U ms → IsExportOf U m.export → AllMessages U (ms ++ m ∷ [])
all_more U [] m a k = (k, tt)
all_more U (x ∷ ms) m a k = (a.0, all_more U ms m a.1 k)

all_pushed : (U : Unfolding) (ms : List Message) (m : Message) → AllMessages U ms → IsExportOf U m.export → AllMessages U (pushed ms m)
all_pushed U ms m a k = by_test (nat_le MOST_IN_TRANSIT (length ms))
  where
    by_test : (b : Bool) → AllMessages U ((if b then rest_of ms else ms) ++ m ∷ [])
    by_test true = all_more U (rest_of ms) m (all_rest U ms a) k
    by_test false = all_more U ms m a k

-- ---- to one neighbour

module _ (N : Network) (net : IsNetwork N) (rows : List (List Letters)) (shape : AreRows N (numbers N.devices) rows) (a b : ℕ) (place : ℕ × ℕ) (at : AtPair N a b place)
    (U : Unfolding) (all : AllRows U rows) (e : Export) (typed : IsExportOf U e) (sent : Option ℕ) where
  pub posted_to : (old l : Letters) (m : Message) → old ≡ get_or (get_or rows place.0 []) place.1 old → export_of m.export ≡ export_of e → m.sent ≡ sent → l.heard ≡ old.heard → l.transit.items ≡ pushed old.transit.items m
      → PostsTo U N a b sent (tree_of U e) rows (rewritten N net rows shape a b place at l)
  posted_to old l m is same when heard transit =
      let k : AreLetters U old = letters_there N net rows shape a b place at U old is all in
      let own : IsExportOf U m.export = subst (IsExport U) (sym same) typed in
      let msg : message_of U m ≡ record { export = tree_of U e; sent = sent } =
      ap (λ x. let y : MailMessage = record { export = tree_export U x; sent = m.sent } in y) same ∙ ap (λ x. let y : MailMessage = record { export = tree_of U e; sent = x } in y) when in
      let told : transit_of U l ≡ pushed (transit_at U N rows a b) (record { export = tree_of U e; sent = sent }) =
      ap (map (message_of U)) transit ∙ map_pushed (message_of U) old.transit.items m ∙ ap (λ ms. pushed ms (message_of U m)) (sym (transit_read N net rows shape a b place at U old is)) ∙ ap (pushed (transit_at U N rows a b)) msg in
      let linked : reaches N a b ≡ true = at.reaches in
      record {
        shape = rewritten_shape N net rows shape a b place at l;
        letters = rewritten_letters N net rows shape a b place at U l all (record {
          heard = subst (WhereSome (IsExportOf U)) (sym heard) k.heard;
          transit = subst (AllMessages U) (sym transit) (all_pushed U old.transit.items m k.transit own);
        });
        heard = heard_write N net rows shape a b place at U l ∙ put_same (heard_at U N rows) a b (heard_of U l) (heard_read N net rows shape a b place at U old is ∙ ap (option_map (tree_of U)) (sym heard));
        transit = rw linked (transit_write N net rows shape a b place at U l ∙ ap (put_pair (transit_at U N rows) a b) told);
      }

-- ---- to one neighbour after another

abbrev pub posted_among : {X : Type 0} → List (ℕ × ℕ) → Pairs (List X) → ℕ → X → Pairs (List X)
posted_among ns transit d x a b = if nat_eq a d && is_in b (neighbour_numbers ns) then pushed (transit a b) x else transit a b

-- an export was sent to some of the neighbours
pub record PostsAmong (U : Unfolding) (N : Network) (d : ℕ) (ns : List (ℕ × ℕ)) (sent : Option ℕ) (e : TreeExport) (old new : List (List Letters)) : Type 0 where
  pub shape : AreRows N (numbers N.devices) new
  pub letters : AllRows U new
  pub heard : heard_at U N new ≡ heard_at U N old
  pub transit : transit_at U N new ≡ posted_among ns (transit_at U N old) d (record { export = e; sent = sent })

and_false : (b : Bool) → (b && false) ≡ false
and_false true = refl
and_false false = refl

in_snoc : (b : ℕ) (ns : List (ℕ × ℕ)) (n : ℕ × ℕ) → is_in b (neighbour_numbers (ns ++ n ∷ [])) ≡ (is_in b (neighbour_numbers ns) || nat_eq b n.0)
in_snoc b [] n = by_test (nat_eq b n.0)
  where
    by_test : (t : Bool) → (t || false) ≡ t
    by_test true = refl
    by_test false = refl
in_snoc b (m ∷ ns) n = by_test (nat_eq b m.0) (in_snoc b ns n)
  where
    by_test : (t : Bool) → is_in b (neighbour_numbers (ns ++ n ∷ [])) ≡ (is_in b (neighbour_numbers ns) || nat_eq b n.0) → (t || is_in b (neighbour_numbers (ns ++ n ∷ []))) ≡ ((t || is_in b (neighbour_numbers ns)) || nat_eq b n.0)
    by_test true ih = refl
    by_test false ih = ih

or_last : (u : Bool) → (u || true) ≡ true
or_last true = refl
or_last false = refl

-- one neighbour more, which is none of those before
among_put : {X : Type 0} (ns : List (ℕ × ℕ)) (n : ℕ × ℕ) (f : Pairs (List X)) (d : ℕ) (x : X) → is_in n.0 (neighbour_numbers ns) ≡ false
    → put_pair (posted_among ns f d x) d n.0 (pushed (posted_among ns f d x d n.0) x) ≡ posted_among (ns ++ n ∷ []) f d x
among_put {X} ns n f d x new = fun_ext (λ a. fun_ext (λ b. at a b))
  where
    before : posted_among ns f d x d n.0 ≡ f d n.0
    before = rw new (let k = and_false (nat_eq d d) in rw k refl)

    at : (a b : ℕ) → put_pair (posted_among ns f d x) d n.0 (pushed (posted_among ns f d x d n.0) x) a b ≡ posted_among (ns ++ n ∷ []) f d x a b
    at a b = rw (in_snoc b ns n, before) (by_tests (nat_eq a d) (nat_eq b n.0) (is_in b (neighbour_numbers ns)) refl refl refl)
      where
        by_tests : (s t u : Bool) → nat_eq a d ≡ s → nat_eq b n.0 ≡ t → is_in b (neighbour_numbers ns) ≡ u
            → (if s && t then pushed (f d n.0) x else (if s && u then pushed (f a b) x else f a b)) ≡ (if s && (u || t) then pushed (f a b) x else f a b)
        by_tests false t u p q r = refl
        by_tests true true u p q r =
            let e = eqb-true a d p in let g = eqb-true b n.0 q in
            let k : (u || true) ≡ true = or_last u in
            rw (k, e, g) refl
        by_tests true false true p q r = refl
        by_tests true false false p q r = refl

pub among_more : (U : Unfolding) (N : Network) (d : ℕ) (ns : List (ℕ × ℕ)) (n : ℕ × ℕ) (sent : Option ℕ) (e : TreeExport) (old middle new : List (List Letters)) → is_in n.0 (neighbour_numbers ns) ≡ false → reaches N d n.0 ≡ true
    → PostsAmong U N d ns sent e old middle → PostsTo U N d n.0 sent e middle new → PostsAmong U N d (ns ++ n ∷ []) sent e old new
among_more U N d ns n sent e old middle new far linked p q = record {
  shape = q.shape;
  letters = q.letters;
  heard = q.heard ∙ p.heard;
  transit = (rw linked at q.transit)
      ∙ ap (λ f. put_pair f d n.0 (pushed (f d n.0) (record { export = e; sent = sent }))) p.transit
      ∙ among_put ns n (transit_at U N old) d (record { export = e; sent = sent }) far;
}

-- ---- to all neighbours

pub among_all : (U : Unfolding) (N : Network) (d : ℕ) (ns : List (ℕ × ℕ)) (sent : Option ℕ) (e : TreeExport) (old new : List (List Letters)) → IsNetwork N → ns ≡ near N d → PostsAmong U N d ns sent e old new → Posts U N d sent e old new
among_all U N d ns sent e old new net whole p = record {
  shape = p.shape;
  letters = p.letters;
  heard = p.heard;
  transit = p.transit ∙ fun_ext (λ a. fun_ext (λ b. at a b));
}
  where
    x : MailMessage
    x = record { export = e; sent = sent }

    at : (a b : ℕ) → posted_among ns (transit_at U N old) d x a b ≡ posted N (transit_at U N old) d x a b
    at a b = by_test (nat_eq a d) refl
      where
        by_test : (s : Bool) → nat_eq a d ≡ s → (if s && is_in b (neighbour_numbers ns) then pushed (transit_at U N old a b) x else transit_at U N old a b) ≡ (if s && reaches N a b then pushed (transit_at U N old a b) x else transit_at U N old a b)
        by_test false q = refl
        by_test true q =
            let g = eqb-true a d q in
            let k : is_in b (neighbour_numbers ns) ≡ reaches N a b = ap (λ ms. is_in b (neighbour_numbers ms)) whole ∙ near_both N d b net ∙ ap (λ m. reaches N m b) (sym g) in
            ap (λ u. if u then pushed (transit_at U N old a b) x else transit_at U N old a b) k

-- the neighbour at an index is none of those before
pub fresh_at : (ns : List (ℕ × ℕ)) (i : ℕ) (z : ℕ × ℕ) → Distinct (neighbour_numbers ns) → i < length ns → is_in (get_or ns i z).0 (neighbour_numbers (take i ns)) ≡ false
fresh_at [] i z n h = absurd (omega arith)
fresh_at (m ∷ ns) zero z n h = refl
fresh_at (m ∷ ns) (suc i) z n h =
    let k : nat_eq (get_or ns i z).0 m.0 ≡ false = ne_eqb (get_or ns i z).0 m.0 (λ e. n.0 i (omega (arith, h, length-map ns (λ (x : ℕ × ℕ). x.0))) (numbers_at ns i z (omega arith) ∙ e)) in
    rw k (fresh_at ns i z n.1 (omega arith))
  where
    numbers_at : (xs : List (ℕ × ℕ)) (j : ℕ) (y : ℕ × ℕ) → j < length xs → get_or (neighbour_numbers xs) j 0 ≡ (get_or xs j y).0
    numbers_at [] j y h = absurd (omega arith)
    numbers_at (x ∷ xs) zero y h = refl
    numbers_at (x ∷ xs) (suc j) y h = numbers_at xs j y (omega arith)

pub in_at : (ns : List (ℕ × ℕ)) (i : ℕ) (z : ℕ × ℕ) → i < length ns → is_in (get_or ns i z).0 (neighbour_numbers ns) ≡ true
in_at [] i z h = absurd (omega arith)
in_at (m ∷ ns) zero z h = let k : nat_eq m.0 m.0 ≡ true = eq-eqb m.0 m.0 refl in rw k refl
in_at (m ∷ ns) (suc i) z h = by_test (nat_eq (get_or ns i z).0 m.0) (in_at ns i z (omega arith))
  where
    by_test : (b : Bool) → is_in (get_or ns i z).0 (neighbour_numbers ns) ≡ true → (b || is_in (get_or ns i z).0 (neighbour_numbers ns)) ≡ true
    by_test true h = refl
    by_test false h = h
