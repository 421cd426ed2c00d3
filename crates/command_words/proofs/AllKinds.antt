-- What holds of each kind, by the list of all kinds, and what is found among settings.
use Rattle.std.proofs.Common.{ℕ, ◌≡◌, Bool, true, false, if◌then◌else◌, List, [], ◌∷◌, map, get_or, unwrap_or}
use Rattle.std.proofs.Common.{refl, ap, sym, ◌∙◌, Option, Some}
use Rattle.std.specs.List.{find}
use Rattle.std.specs.Str.{bytes_eq}
use Rattle.std.proofs.lemmas.Slice.Eq.{bytes_eq-Decides}
use Rattle.command_words.specs.declared.settings.Flag.TheVariants.{Facts, Settle, FromTable, Changes, Log, Table}
use Rattle.command_words.specs.declared.settings.Flag.TheVariants.{Rounds}
use Rattle.command_words.specs.declared.settings.Kind.{Kind}
use Rattle.command_words.specs.declared.settings.Kind.TheVariants as kind
use Rattle.command_words.specs.declared.settings.Numbered.TheVariants.{Workers, Devices, Number}
use Rattle.command_words.specs.declared.settings.Setting.{Setting}
use Rattle.command_words.specs.Settings.{found, id_of, kind_of}

abbrev pub all_kinds : List Kind
all_kinds =
    kind.Flag Facts ∷ kind.Flag Settle ∷ kind.Flag FromTable ∷ kind.Flag Changes ∷ kind.Flag Log ∷ kind.Flag Table
    ∷ kind.Flag Rounds ∷ kind.Option Workers ∷ kind.Option Devices ∷ kind.Option Number ∷ kind.Alone ∷ []

-- what is so at each place of the list is so for each kind
pub for_all : {A : Type 0} (f g : Kind → A) → map f all_kinds ≡ map g all_kinds → (k : Kind) → f k ≡ g k
for_all f g e (kind.Flag Facts) = ap (λ xs. get_or xs 0 (f kind.Alone)) e
for_all f g e (kind.Flag Settle) = ap (λ xs. get_or xs 1 (f kind.Alone)) e
for_all f g e (kind.Flag FromTable) = ap (λ xs. get_or xs 2 (f kind.Alone)) e
for_all f g e (kind.Flag Changes) = ap (λ xs. get_or xs 3 (f kind.Alone)) e
for_all f g e (kind.Flag Log) = ap (λ xs. get_or xs 4 (f kind.Alone)) e
for_all f g e (kind.Flag Table) = ap (λ xs. get_or xs 5 (f kind.Alone)) e
for_all f g e (kind.Flag Rounds) = ap (λ xs. get_or xs 6 (f kind.Alone)) e
for_all f g e (kind.Option Workers) = ap (λ xs. get_or xs 7 (f kind.Alone)) e
for_all f g e (kind.Option Devices) = ap (λ xs. get_or xs 8 (f kind.Alone)) e
for_all f g e (kind.Option Number) = ap (λ xs. get_or xs 9 (f kind.Alone)) e
for_all f g e kind.Alone = ap (λ xs. get_or xs 10 (f kind.Alone)) e

-- what is found passes the test
pub find_passes : {A : Type 0} (p : A → Bool) (xs : List A) (x : A) → find p xs ≡ Some x → p x ≡ true
find_passes p [] x e = absurd cc
find_passes p (y ∷ ys) x e = go (find_passes p ys x) (p y) refl e
  where
    same : Some y ≡ Some x → x ≡ y
    same g = cc

    go : (find p ys ≡ Some x → p x ≡ true) → (b : Bool) → p y ≡ b → (if b then Some y else find p ys) ≡ Some x
        → p x ≡ true
    go further true q h = ap p (same h) ∙ q
    go further false q h = further h

-- kinds with one name are the same
abbrev kind_at : List ℕ → Kind
kind_at name = unwrap_or (find (λ k. bytes_eq (id_of k) name) all_kinds) kind.Alone

same_kind : (j k : Kind) → bytes_eq (id_of j) (id_of k) ≡ true → j ≡ k
same_kind j k e =
    sym (at_id j) ∙ ap kind_at ((bytes_eq-Decides (id_of j) (id_of k)).0 e) ∙ at_id k
  where
    at_id : (i : Kind) → kind_at (id_of i) ≡ i
    at_id = for_all (λ i. kind_at (id_of i)) (λ i. i) refl

pub found_kind : (k : Kind) (settings : List Setting) (s : Setting) → found k settings ≡ Some s → kind_of s ≡ k
found_kind k settings s e =
    same_kind (kind_of s) k (find_passes (λ t. bytes_eq (id_of (kind_of t)) (id_of k)) settings s e)
