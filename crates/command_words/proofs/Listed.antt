-- What `clap` reads of a command's words, piece by piece: the rows that it finds list the settings, whatever the digits
-- are.
use Rattle.std.proofs.Common.{ℕ, ◌≡◌, Bool, true, false, ◌&&◌, if◌then◌else◌, is_none, is_some}
use Rattle.std.proofs.Common.{List, [], ◌∷◌, ◌++◌, map, codes, refl, sym, ap, ap₂, ◌∙◌, subst}
use Rattle.std.proofs.Common.{Option, Some, None, option_and_then, option_map}
use Rattle.std.specs.Prelude.{fold, slice_get}
use Rattle.std.specs.List.{find, list_all}
use Rattle.std.specs.Option.{option_or}
use Rattle.std.specs.Str.{bytes_eq}
use Rattle.std.proofs.lemmas.Slice.Eq.{bytes_eq-Decides}
use Rattle.clap.specs.Lexer.{long_of}
use Rattle.clap.specs.Walk.{Held, Row, Walk, arg_by_id, nothing_held, row_text, settled, walk_from}
use Rattle.clap.specs.Walk.{with_default}
use Rattle.clap.specs.Simple.{App, Shape, built, matches_of}
use Rattle.clap.specs.Takes.{settle_passes, takes}
use Rattle.command_words.specs.Words as words
use Rattle.fc_values.specs.Numbers.{number_of}
use Rattle.command_words.specs.declared.choices.CommandName.{CommandName}
use Rattle.command_words.specs.declared.commands.Command.{Command}
use Rattle.command_words.specs.declared.settings.Flag.{Flag}
use Rattle.command_words.specs.declared.settings.Numbered.{Numbered}
use Rattle.command_words.specs.declared.settings.Kind.{Kind}
use Rattle.command_words.specs.declared.settings.Kind.TheVariants as kind
use Rattle.command_words.specs.declared.settings.Setting.{Setting}
use Rattle.command_words.specs.declared.settings.Setting.TheVariants as set
use Rattle.command_words.specs.Options.{IsFlag, IsRead}
use Rattle.command_words.specs.Settings.{are_once, flag_name, found, hyphened, id_of, kind_of, option_name, settings_of}
use Rattle.command_words.specs.Words.{allows, asked, command_from, command_with, is_enough}
use Rattle.command_words.proofs.ClapWalk.{both, rows_are, rows_from, takes_from, takes_is, word_pass, word_walked}
use Rattle.command_words.proofs.ClapWalk.{words_pass, words_walked}
use Rattle.command_words.proofs.AllKinds.{for_all, found_kind}
use Rattle.command_words.proofs.Offered.{Entry, Offers, built_for, first_by, kind_offered}
use Rattle.command_words.proofs.Pieces.{Digits, Piece, Word, Written, alone, apart, are_written, digits_text, flagged}
use Rattle.command_words.proofs.Pieces.{joined, setting_by, word_text, words_by, written_settings, written_words}
use Rattle.command_words.proofs.Rows.{default_in, default_row, found_defaults, found_row, or_none}
use Rattle.command_words.proofs.Steps.{Stands, alone_stands, and_true, apart_stands, between, built_flag, flag_row}
use Rattle.command_words.proofs.Steps.{flag_stands, joined_stands, number_row, with_row}

-- ---- the rows list the settings
-- a row with a text of this number
record HasNumber (name : List ℕ) (row : Option Row) (n : ℕ) : Type 0 where
  pub text : List ℕ
  pub is : row ≡ Some (number_row name text)
  pub writes : number_of text ≡ Some n

abbrev RowOf : Option Row → Option Setting → Type 0
RowOf row None = row ≡ None
RowOf row (Some (set.Flag f)) = row ≡ Some (flag_row (flag_name f))
RowOf row (Some (set.Option o n)) = HasNumber (option_name o) row n
RowOf row (Some (set.Alone n)) = HasNumber (codes "alone") row n

abbrev Lists : (List ℕ → Option Row) → (Kind → Option Setting) → Type 0
Lists look all = (k : Kind) → RowOf (look (id_of k)) (all k)

-- what is set, with a setting more
abbrev with_one : Setting → (Kind → Option Setting) → Kind → Option Setting
with_one s all k = if bytes_eq (id_of (kind_of s)) (id_of k) then Some s else all k

-- the row of a use of a piece
abbrev row_by : Piece → Digits → Row
row_by (flagged f) d = flag_row (flag_name f)
row_by (apart o) d = number_row (option_name o) (digits_text d)
row_by (joined o) d = number_row (option_name o) (digits_text d)
row_by alone d = number_row (codes "alone") (digits_text d)

one_more : (b : Bool) (row : Row) (s : Setting) (r : Option Row) (o : Option Setting) → RowOf (Some row) (Some s)
    → RowOf r o → RowOf (if b then Some row else r) (if b then Some s else o)
one_more true row s r o here there = here
one_more false row s r o here there = there

listed_more : (m : Piece) (d : Digits) (look : List ℕ → Option Row) (all : Kind → Option Setting) → Lists look all
    → Lists (with_row (row_by m d) look) (with_one (setting_by m d) all)
listed_more (flagged f) d look all l k = one_more (bytes_eq (flag_name f) (id_of k)) _ (set.Flag f) _ _ refl (l k)
listed_more (apart o) d look all l k =
    one_more (bytes_eq (option_name o) (id_of k)) _ (set.Option o d.value) _ _
    (record { text = digits_text d; is = refl; writes = d.writes }) (l k)
listed_more (joined o) d look all l k =
    one_more (bytes_eq (option_name o) (id_of k)) _ (set.Option o d.value) _ _
    (record { text = digits_text d; is = refl; writes = d.writes }) (l k)
listed_more alone d look all l k =
    one_more (bytes_eq (codes "alone") (id_of k)) _ (set.Alone d.value) _ _
    (record { text = digits_text d; is = refl; writes = d.writes }) (l k)

-- the place of the next number that stands alone
abbrev place_of : Option Setting → ℕ
place_of None = 1
place_of (Some s) = 2

abbrev IsPlace : Piece → ℕ → Type 0
IsPlace alone place = place ≡ 1
IsPlace m place = Unit {0}

abbrev place_after : Piece → ℕ → ℕ
place_after alone place = 2
place_after m place = place

abbrev is_alone : Kind → Bool
is_alone kind.Alone = true
is_alone k = false

alone_id : (k : Kind) → bytes_eq (id_of k) (codes "alone") ≡ is_alone k
alone_id = for_all (λ k. bytes_eq (id_of k) (codes "alone")) is_alone refl

is_place : (m : Piece) (d : Digits) (all : Kind → Option Setting) → all (kind_of (setting_by m d)) ≡ None
    → IsPlace m (place_of (all kind.Alone))
is_place (flagged f) d all new = tt
is_place (apart o) d all new = tt
is_place (joined o) d all new = tt
is_place alone d all new = ap place_of new

next_place : (m : Piece) (d : Digits) (all : Kind → Option Setting)
    → place_after m (place_of (all kind.Alone)) ≡ place_of (with_one (setting_by m d) all kind.Alone)
next_place (flagged f) d all =
    ap (λ b. place_of (if b then Some (set.Flag f) else all kind.Alone)) (sym (alone_id (kind.Flag f)))
next_place (apart o) d all =
    ap (λ b. place_of (if b then Some (set.Option o d.value) else all kind.Alone)) (sym (alone_id (kind.Option o)))
next_place (joined o) d all =
    ap (λ b. place_of (if b then Some (set.Option o d.value) else all kind.Alone)) (sym (alone_id (kind.Option o)))
next_place alone d all = refl

-- ---- words with two hyphens
abbrev hyphens : List ℕ
hyphens = 45 ∷ 45 ∷ []

no_hyphens : (k : Kind) → bytes_eq (hyphened (id_of k)) hyphens ≡ false
no_hyphens = for_all (λ k. bytes_eq (hyphened (id_of k)) hyphens) (λ k. false) refl

long_word : (k : Kind) → long_of (hyphened (id_of k)) ≡ Some (id_of k, None)
long_word = for_all (λ k. long_of (hyphened (id_of k))) (λ k. Some (id_of k, None)) refl

no_hyphens_joined : (d : Digits) (k : Kind) → bytes_eq (hyphened (id_of k) ++ 61 ∷ digits_text d) hyphens ≡ false
no_hyphens_joined d =
    for_all (λ k. bytes_eq (hyphened (id_of k) ++ 61 ∷ digits_text d) hyphens) (λ k. false) refl

long_joined : (d : Digits) (k : Kind)
    → long_of (hyphened (id_of k) ++ 61 ∷ digits_text d) ≡ Some (id_of k, Some (digits_text d))
long_joined d =
    for_all (λ k. long_of (hyphened (id_of k) ++ 61 ∷ digits_text d)) (λ k. Some (id_of k, Some (digits_text d))) refl

same_bytes : (text : List ℕ) → bytes_eq text text ≡ true
same_bytes text = (bytes_eq-Decides text text).1 refl

-- ---- a setting after others
-- what is set later isn't set yet
abbrev IsApart : (Kind → Option Setting) → List Setting → Type 0
IsApart all later = (k : Kind) → is_some (found k later) ≡ true → all k ≡ None

module _ (s : Setting) (more : List Setting) (all : Kind → Option Setting) (apart_from : IsApart all (s ∷ more)) where
  is_new : all (kind_of s) ≡ None
  is_new =
      apart_from (kind_of s)
      (ap (λ b. is_some (if b then Some s else found (kind_of s) more)) (same_bytes (id_of (kind_of s))))

  apart_more : is_none (found (kind_of s) more) ≡ true → IsApart (with_one s all) more
  apart_more once k later = go (bytes_eq (id_of (kind_of s)) (id_of k)) refl
    where
      never : (o : Option Setting) → is_none o ≡ true → is_some o ≡ true → ⊥
      never None e f = cc (f)
      never (Some t) e f = cc (e)

      go : (b : Bool) → bytes_eq (id_of (kind_of s)) (id_of k) ≡ b → (if b then Some s else all k) ≡ None
      go true e =
          absurd (never (found k more)
          (ap (λ id. is_none (find (λ (t : Setting). bytes_eq (id_of (kind_of t)) id) more))
          (sym ((bytes_eq-Decides (id_of (kind_of s)) (id_of k)).0 e)) ∙ once) later)
      go false e =
          apart_from k (ap (λ b. is_some (if b then Some s else found k more)) e ∙ later)

  all_more : (k : Kind) → option_or (with_one s all k) (found k more) ≡ option_or (all k) (found k (s ∷ more))
  all_more k = go (bytes_eq (id_of (kind_of s)) (id_of k)) refl
    where
      go : (b : Bool) → bytes_eq (id_of (kind_of s)) (id_of k) ≡ b
          → option_or (if b then Some s else all k) (found k more)
          ≡ option_or (all k) (if b then Some s else found k more)
      go true e =
          ap (λ o. option_or o (Some s))
          (sym (apart_from k (ap (λ b. is_some (if b then Some s else found k more)) e)))
      go false e = refl

-- ---- the walk over all the pieces
module _ (s : Shape) where
  abbrev StandsAfter : Piece → Digits → Walk → (List ℕ → Option Row) → ℕ → Type 0
  StandsAfter m d w look place =
      Stands s (words_walked s.rules w (words_by m d)) (with_row (row_by m d) look) (place_after m place)
      × (words_pass s w (words_by m d) ≡ true)

  -- the command takes the kind
  record Takes (k : Kind) : Type 0 where
    pub first : first_by s.rules k ≡ Some (built_for k)
    pub by_id : arg_by_id s.rules (id_of k) ≡ Some (built_for k)

  piece_stands : (m : Piece) (d : Digits) (w : Walk) (look : List ℕ → Option Row) (place : ℕ)
      → Takes (kind_of (setting_by m d)) → look (id_of (kind_of (setting_by m d))) ≡ None
      → IsPlace m place → Stands s w look place → StandsAfter m d w look place
  piece_stands (flagged f) d w look place its new is st =
      flag_stands s (hyphened (flag_name f)) (flag_name f) w look place (no_hyphens (kind.Flag f))
      (long_word (kind.Flag f)) its.first new st
  piece_stands (apart o) d w look place its new is st =
      apart_stands s (hyphened (option_name o)) (option_name o) d w look place (no_hyphens (kind.Option o))
      (long_word (kind.Option o)) (same_bytes (option_name o)) its.first its.by_id new st
  piece_stands (joined o) d w look place its new is st =
      joined_stands s (hyphened (option_name o) ++ 61 ∷ digits_text d) (option_name o) (digits_text d) w look place
      (no_hyphens_joined d (kind.Option o)) (long_joined d (kind.Option o)) its.first new st
  piece_stands alone d w look place its new is st =
      alone_stands s d w look its.first its.by_id new (subst (Stands s w look) is st)

  words_walked_more : (w : Walk) (front back : List Word)
      → words_walked s.rules w (front ++ back) ≡ words_walked s.rules (words_walked s.rules w front) back
  words_walked_more w [] back = refl
  words_walked_more w (word ∷ front) back = words_walked_more (word_walked s.rules w word) front back

  words_pass_more : (w : Walk) (front back : List Word) → words_pass s w front ≡ true
      → words_pass s w (front ++ back) ≡ words_pass s (words_walked s.rules w front) back
  words_pass_more w [] back e = refl
  words_pass_more w (word ∷ front) back e =
      let parts = both (word_pass s w word) (words_pass s (word_walked s.rules w word) front) e in
      ap (λ b. b && words_pass s (word_walked s.rules w word) (front ++ back)) parts.0
      ∙ words_pass_more (word_walked s.rules w word) front back parts.1

  -- where the walk stands, and what its rows list
  record State (w : Walk) (all : Kind → Option Setting) : Type 0 where
    pub look : List ℕ → Option Row
    pub lists : Lists look all
    pub stands : Stands s w look (place_of (all kind.Alone))

  same_state : (w : Walk) (all others : Kind → Option Setting) → ((k : Kind) → all k ≡ others k) → State w all
      → State w others
  same_state w all others same st = record {
    look = st.look;
    lists = λ k. subst (RowOf (st.look (id_of k))) (same k) (st.lists k);
    stands = subst (λ o. Stands s w st.look (place_of o)) (same kind.Alone) st.stands;
  }

  module _ (name : CommandName) (kinds : (k : Kind) → words.takes name k ≡ true → Takes k) where
    all_read : (ws : List Written) (w : Walk) (all : Kind → Option Setting)
        → list_all (allows name) (written_settings ws) ≡ true → are_once (written_settings ws) ≡ true
        → IsApart all (written_settings ws) → State w all
        → State (words_walked s.rules w (written_words ws)) (λ k. option_or (all k) (found k (written_settings ws)))
        × (words_pass s w (written_words ws) ≡ true)
    all_read [] w all a once apart_from st = (same_state w all _ (λ k. sym (or_none (all k))) st, refl)
    all_read (x ∷ ws) w all a once apart_from st =
        let this : Setting = setting_by x.0 x.1 in
        let later : List Setting = written_settings ws in
        let allowed = both (allows name this) (list_all (allows name) later) a in
        let taken = both (words.takes name (kind_of this)) (is_enough this) allowed.0 in
        let first = both (is_none (found (kind_of this) later)) (are_once later) once in
        let new = is_new this later all apart_from in
        let none : st.look (id_of (kind_of this)) ≡ None =
        subst (RowOf (st.look (id_of (kind_of this)))) new (st.lists (kind_of this)) in
        let after = piece_stands x.0 x.1 w st.look (place_of (all kind.Alone)) (kinds (kind_of this) taken.0) none
        (is_place x.0 x.1 all new) st.stands in
        let here : State (words_walked s.rules w (words_by x.0 x.1)) (with_one this all) = record {
          look = with_row (row_by x.0 x.1) st.look;
          lists = listed_more x.0 x.1 st.look all st.lists;
          stands = subst (Stands s (words_walked s.rules w (words_by x.0 x.1)) (with_row (row_by x.0 x.1) st.look))
              (next_place x.0 x.1 all) after.0;
        } in
        let rest = all_read ws (words_walked s.rules w (words_by x.0 x.1)) (with_one this all) allowed.1 first.1
        (apart_more this later all apart_from first.0) here in (
          subst (λ v. State v (λ k. option_or (all k) (found k (this ∷ later))))
              (sym (words_walked_more w (words_by x.0 x.1) (written_words ws)))
              (same_state _ _ _ (all_more this later all apart_from) rest.0),
          words_pass_more w (words_by x.0 x.1) (written_words ws) after.1 ∙ rest.1,
        )

-- ---- what is read
-- a flag that isn't there is shown by its default, or not at all
no_flag : (taken : Bool) (f : Flag)
    → IsFlag (option_and_then row_text (if taken then default_row (built_flag (flag_name f)) else None)) f None
no_flag true f = refl
no_flag false f = refl

same_flag : (f g : Flag) → kind.Flag g ≡ kind.Flag f → set.Flag g ≡ set.Flag f
same_flag f g e = cc

flag_read : (f : Flag) (row default : Option Row) (o : Option Setting) → RowOf row o
    → IsFlag (option_and_then row_text default) f None → ((s : Setting) → o ≡ Some s → kind_of s ≡ kind.Flag f)
    → IsFlag (option_and_then row_text (option_or row default)) f o
flag_read f row default None e unread is =
    subst (λ r. IsFlag (option_and_then row_text (option_or r default)) f None) (sym e) unread
flag_read f row default (Some (set.Flag g)) e unread is =
    subst (λ r. IsFlag (option_and_then row_text (option_or r default)) f (Some (set.Flag g))) (sym e)
    (refl, same_flag f g (is (set.Flag g) refl))
flag_read f row default (Some (set.Option o n)) e unread is = absurd (cc (is (set.Option o n) refl))
flag_read f row default (Some (set.Alone n)) e unread is = absurd (cc (is (set.Alone n) refl))

abbrev first_text : Option Row → Option (List ℕ)
first_text row = option_and_then (λ (r : Row). slice_get r.values 0) row

no_default : (taken : Bool) → ◌≡◌ {A = Option Row} (if taken then None else None) None
no_default true = refl
no_default false = refl

-- a number, and what is made of it
abbrev number_read : (ℕ → Setting) → Option Row → Option Setting
number_read make row = option_map make (option_and_then number_of (first_text row))

none_read : (make : ℕ → Setting) (row default : Option Row) → row ≡ None → default ≡ None
    → number_read make (option_or row default) ≡ None
none_read make row default e f = ap₂ (λ a b. number_read make (option_or a b)) e f

some_read : (make : ℕ → Setting) (name : List ℕ) (row default : Option Row) (n : ℕ) → HasNumber name row n
    → number_read make (option_or row default) ≡ Some (make n)
some_read make name row default n has =
    ap (λ a. number_read make (option_or a default)) has.is ∙ ap (option_map make) has.writes

option_read : (p : Numbered) (row default : Option Row) (o : Option Setting) → RowOf row o → default ≡ None
    → ((s : Setting) → o ≡ Some s → kind_of s ≡ kind.Option p)
    → number_read (set.Option p) (option_or row default) ≡ o
option_read p row default None e unread is = none_read (set.Option p) row default e unread
option_read p row default (Some (set.Flag f)) e unread is = absurd (cc (is (set.Flag f) refl))
option_read p row default (Some (set.Option q n)) e unread is =
    some_read (set.Option p) (option_name q) row default n e
    ∙ ap (λ r. Some (set.Option r n)) (same (is (set.Option q n) refl))
  where
    same : kind.Option q ≡ kind.Option p → p ≡ q
    same h = cc
option_read p row default (Some (set.Alone n)) e unread is = absurd (cc (is (set.Alone n) refl))

alone_read : (row default : Option Row) (o : Option Setting) → RowOf row o → default ≡ None
    → ((s : Setting) → o ≡ Some s → kind_of s ≡ kind.Alone)
    → number_read set.Alone (option_or row default) ≡ o
alone_read row default None e unread is = none_read set.Alone row default e unread
alone_read row default (Some (set.Flag f)) e unread is = absurd (cc (is (set.Flag f) refl))
alone_read row default (Some (set.Option o n)) e unread is = absurd (cc (is (set.Option o n) refl))
alone_read row default (Some (set.Alone n)) e unread is = some_read set.Alone (codes "alone") row default n e

-- the settings that words ask for are what `clap` reads
pub record Reads (name : CommandName) (app : App) (words : List (List ℕ)) (o : Option Command) : Type 0 where
  pub settings : List Setting
  pub is : o ≡ command_with name (λ k. found k settings)
  pub takes : takes app words ≡ true
  pub read : (k : Kind) → IsRead (matches_of app words) k (found k settings)

-- what the settings are of which a command is made
record AreSet (name : CommandName) (settings : List Setting) (c : Option Command) : Type 0 where
  pub allowed : list_all (allows name) settings ≡ true
  pub once : are_once settings ≡ true
  pub is : c ≡ command_with name (λ k. found k settings)

are_set : (name : CommandName) (settings : List Setting) → is_some (command_from name settings) ≡ true
    → AreSet name settings (command_from name settings)
are_set name settings e = go (list_all (allows name) settings) (are_once settings) refl refl e
  where
    go : (a b : Bool) → list_all (allows name) settings ≡ a → are_once settings ≡ b
        → is_some (if a && b then command_with name (λ k. found k settings) else None) ≡ true
        → AreSet name settings (if a && b then command_with name (λ k. found k settings) else None)
    go true true p q h = record { allowed = p; once = q; is = refl }
    go true false p q h = cc
    go false b p q h = cc

module _ (app : App) (name : CommandName) (offers : Offers app name) where
  abbrev top : Shape
  top = (built app).top

  kind_taken : (k : Kind) → words.takes name k ≡ true → Takes top k
  kind_taken k e =
      let is = kind_offered app name offers k in
      record {
        first = ap (λ (t : Entry). t.0) is ∙ ap (λ b. if b then Some (built_for k) else None) e;
        by_id = ap (λ (t : Entry). t.1) is ∙ ap (λ b. if b then Some (built_for k) else None) e;
      }

  default_is : (k : Kind)
      → default_in (id_of k) top.rules ≡ (if words.takes name k then default_row (built_for k) else None)
  default_is k = ap (λ (t : Entry). t.2) (kind_offered app name offers k)

  module _ (h : Held) (look : List ℕ → Option Row)
      (rows : (id : List ℕ) → found_row id (settled top.rules h).rows ≡ look id) where
    abbrev all_rows : List Row
    all_rows = fold with_default (settled top.rules h).rows top.rules

    row_is : (id : List ℕ) → found_row id all_rows ≡ option_or (look id) (default_in id top.rules)
    row_is id =
        found_defaults top.rules (settled top.rules h).rows id
        ∙ ap (λ o. option_or o (default_in id top.rules)) (rows id)

    are_read : (settings : List Setting) → Lists look (λ k. found k settings) → (k : Kind)
        → IsRead all_rows k (found k settings)
    are_read settings l (kind.Flag f) =
        subst (λ o. IsFlag (option_and_then row_text o) f (found (kind.Flag f) settings)) (sym (row_is (flag_name f)))
        (flag_read f (look (flag_name f)) (default_in (flag_name f) top.rules) (found (kind.Flag f) settings)
        (l (kind.Flag f))
        (subst (λ o. IsFlag (option_and_then row_text o) f None) (sym (default_is (kind.Flag f)))
        (no_flag (words.takes name (kind.Flag f)) f))
        (found_kind (kind.Flag f) settings))
    are_read settings l (kind.Option o) =
        ap (number_read (set.Option o)) (row_is (option_name o))
        ∙ option_read o (look (option_name o)) (default_in (option_name o) top.rules) (found (kind.Option o) settings)
        (l (kind.Option o)) (default_is (kind.Option o) ∙ no_default (words.takes name (kind.Option o)))
        (found_kind (kind.Option o) settings)
    are_read settings l kind.Alone =
        ap (number_read set.Alone) (row_is (codes "alone"))
        ∙ alone_read (look (codes "alone")) (default_in (codes "alone") top.rules) (found kind.Alone settings)
        (l kind.Alone) (default_is kind.Alone ∙ no_default (words.takes name kind.Alone))
        (found_kind kind.Alone settings)

  takes_between : (h : Held) (place : ℕ) → settle_passes top.rules top.args_override_self h ≡ true
      → takes_from app (between h place) true ≡ true
  takes_between h place e =
      and_true _ _ offers.simple (and_true _ _ e (and_true _ _ offers.defaults
      (offers.valid (rows_from app (between h place)))))

  -- nothing is read
  at_first : State top (walk_from nothing_held) (λ k. None)
  at_first = record {
    look = λ id. None;
    lists = λ k. refl;
    stands = record { held = nothing_held; is = refl; rows = λ id. refl; passes = refl };
  }

  written_reads : (word : List ℕ) (ws : List Written) → is_some (command_from name (written_settings ws)) ≡ true
      → Reads name app (word ∷ map word_text (written_words ws)) (command_from name (written_settings ws))
  written_reads word ws e =
      let s = are_set name (written_settings ws) e in
      let read = all_read top name kind_taken ws (walk_from nothing_held) (λ k. None) s.allowed s.once (λ k h. refl)
      at_first in
      let stands = read.0.stands in
      record {
        settings = written_settings ws;
        is = s.is;
        takes = takes_is app offers.named word (written_words ws) ∙ ap₂ (takes_from app) stands.is read.1
            ∙ takes_between stands.held (place_of (found kind.Alone (written_settings ws))) stands.passes;
        read = subst (λ rows. (k : Kind) → IsRead rows k (found k (written_settings ws)))
            (sym (rows_are app offers.named word (written_words ws) ∙ ap (rows_from app) stands.is))
            (are_read stands.held read.0.look stands.rows (written_settings ws) read.0.lists);
      }

  pub reads_words : (word : List ℕ) (words : List (List ℕ)) → is_some (asked (Some name) (settings_of words)) ≡ true
      → Reads name app (word ∷ words) (asked (Some name) (settings_of words))
  reads_words word words e = go (settings_of words) refl e
    where
      go : (o : Option (List Setting)) → settings_of words ≡ o → is_some (asked (Some name) o) ≡ true
          → Reads name app (word ∷ words) (asked (Some name) o)
      go None p h = cc
      go (Some settings) p h =
          let w = are_written words settings p in
          subst (λ ws. Reads name app (word ∷ ws) (command_from name settings)) (sym w.words_are)
          (subst (λ ss. Reads name app (word ∷ map word_text (written_words w.written)) (command_from name ss))
          (sym w.settings_are)
          (written_reads word w.written (ap (λ ss. is_some (command_from name ss)) (sym w.settings_are) ∙ h)))
