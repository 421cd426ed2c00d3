-- How the walk of `clap` goes on at one more piece: between two pieces nothing waits, and the rows have one more.
use Rattle.std.proofs.Common.{ℕ, ◌≡◌, Bool, true, false, ◌&&◌, ◌||◌, not, if◌then◌else◌}
use Rattle.std.proofs.Common.{List, [], ◌∷◌, codes, nat_lt, refl, ap, ◌∙◌, Option, Some, None}
use Rattle.std.specs.Option.{option_map_or}
use Rattle.std.specs.Str.{bytes_eq}
use Rattle.clap.specs.Lexer.{long_of}
use Rattle.clap.specs.Simple.{Shape, filled, with_index}
use Rattle.clap.specs.Takes.{flag_word_passes, long_passes, positional_passes, settle_passes}
use Rattle.clap.specs.Takes.{step_passes, turn_passes, use_passes}
use Rattle.clap.specs.Walk.{Held, Row, Rule, Step, Walk, after_flag, after_step, arg_by_id, arg_by_index, arg_by_long}
use Rattle.clap.specs.Walk.{has_row, idle, is_pending, long_met, long_or_other, next, option, option_word, pushed}
use Rattle.clap.specs.Walk.{reacted, reading_by, settled, to_positional, trailing, used, used_by_id}
use Rattle.clap.specs.Walk.{walked}
use Rattle.clap.specs.declared.parser.matches.ValueSource.TheVariants.{CommandLine}
use Rattle.command_words.specs.Options.{alone_rule, flag_rule, number_rule}
use Rattle.command_words.proofs.ClapWalk.{digits_from, digits_pass}
use Rattle.command_words.proofs.Pieces.{Digits, digits_text}
use Rattle.command_words.proofs.Rows.{found_row, found_used, no_row, row_with}

-- ---- the arguments as `clap` builds them
abbrev pub built_flag : List ℕ → Rule
built_flag name = with_index 1 (filled (flag_rule name))

abbrev pub built_number : List ℕ → Rule
built_number name = with_index 1 (filled (number_rule name))

abbrev pub built_alone : Rule
built_alone = with_index 1 (filled (alone_rule (codes "alone")))

abbrev pub flag_row : List ℕ → Row
flag_row name = row_with name (reading_by (built_flag name)) CommandLine (codes "true" ∷ [])

abbrev pub number_row : List ℕ → List ℕ → Row
number_row name text = row_with name (reading_by (built_number name)) CommandLine (text ∷ [])

-- what is looked up, with a row more
abbrev pub with_row : Row → (List ℕ → Option Row) → List ℕ → Option Row
with_row r look id = if bytes_eq r.id id then Some r else look id

-- the walk between two pieces
abbrev pub between : Held → ℕ → Walk
between h position = record {
  held = h;
  waiting = idle;
  position = position;
  is_trailing = false;
  stopped = None;
}

pub record Stands (s : Shape) (w : Walk) (look : List ℕ → Option Row) (position : ℕ) : Type 0 where
  pub held : Held
  pub is : w ≡ between held position
  pub rows : (id : List ℕ) → found_row id (settled s.rules held).rows ≡ look id
  pub passes : settle_passes s.rules s.args_override_self held ≡ true

pub and_true : (a b : Bool) → a ≡ true → b ≡ true → (a && b) ≡ true
and_true true b p q = q
and_true false b p q = cc

and_false : (b : Bool) → (b && false) ≡ false
and_false true = refl
and_false false = refl

or_true : (b : Bool) → (b || true) ≡ true
or_true true = refl
or_true false = refl

module _ (s : Shape) where
  abbrev again : Bool
  again = s.args_override_self

  -- a use of an argument passes where it has no row yet
  abbrev UsedOnce : Rule → List (List ℕ) → Type 0
  UsedOnce a values = (rows : List Row) → has_row a.id rows ≡ false → use_passes again a values rows ≡ true

  once_used : (name : List ℕ) → UsedOnce (built_flag name) []
  once_used name rows e = ap (λ b. (not b || again) && true) e

  once_given : (name text : List ℕ) → UsedOnce (built_number name) (text ∷ [])
  once_given name text rows e = ap (λ b. (not b || again) && true) e

  -- a word that is a flag, or an option with its number
  module _ (text name : List ℕ) (v : Option (List ℕ)) (a : Rule) (values : List (List ℕ)) (h : Held) (position : ℕ)
      (plain : bytes_eq text (45 ∷ 45 ∷ []) ≡ false) (long : long_of text ≡ Some (name, v))
      (at : arg_by_long s.rules name ≡ Some a) where
    abbrev next_walk : Held × Step → Walk
    next_walk met = after_step s.rules text (between h position) met.0 met.1

    abbrev met_by : Option Rule → Held × Step
    met_by o =
        after_flag s.rules idle text (long_met s.rules o v h).0 (long_met s.rules o v h).1

    long_walked : walked s.rules [] (between h position) text ≡ next_walk (met_by (Some a))
    unfolding walked
    long_walked =
        ap (λ b. next_walk (if b then (h, trailing position)
        else long_or_other s.rules idle text (long_of text) h)) plain
        ∙ ap (λ o. next_walk (long_or_other s.rules idle text o h)) long ∙ ap (λ o. next_walk (met_by o)) at

    long_turns : turn_passes s [] (between h position) text
        ≡ (long_passes s.rules again (Some a) v h && step_passes s position (met_by (Some a)).0 (met_by (Some a)).1)
    long_turns =
        ap (λ b. let met = if b then (h, trailing position) else long_or_other s.rules idle text (long_of text) h in
        (b || flag_word_passes s.rules again (long_of text) text h) && step_passes s position met.0 met.1) plain
        ∙ ap (λ o. let met = long_or_other s.rules idle text o h in
        flag_word_passes s.rules again o text h && step_passes s position met.0 met.1) long
        ∙ ap (λ o. long_passes s.rules again o v h && step_passes s position (met_by o).0 (met_by o).1) at

  -- ---- flags
  pub flag_stands : (text name : List ℕ) (w : Walk) (look : List ℕ → Option Row) (position : ℕ)
      → bytes_eq text (45 ∷ 45 ∷ []) ≡ false → long_of text ≡ Some (name, None)
      → arg_by_long s.rules name ≡ Some (built_flag name) → look name ≡ None → Stands s w look position
      → Stands s (walked s.rules [] w text) (with_row (flag_row name) look) position
      × ((turn_passes s [] w text && true) ≡ true)
  flag_stands text name w look position plain long at new st =
      let none = st.rows name ∙ new in (
        record {
          held = reacted s.rules (built_flag name) [] st.held;
          is = ap (λ v. walked s.rules [] v text) st.is
              ∙ long_walked text name None (built_flag name) [] st.held position plain long at;
          rows = λ id. found_used name _ CommandLine _ (settled s.rules st.held).rows id none
              ∙ ap (λ o. if bytes_eq name id then Some (flag_row name) else o) (st.rows id);
          passes = refl;
        },
        ap (λ v. turn_passes s [] v text && true) st.is
            ∙ ap (λ b. b && true) (long_turns text name None (built_flag name) [] st.held position plain long at)
            ∙ ap (λ b. (b && true) && true) (and_true _ _ st.passes
            (once_used name (settled s.rules st.held).rows (no_row name (settled s.rules st.held).rows none))),
      )

  -- ---- numbers of options
  pub joined_stands : (text name digits : List ℕ) (w : Walk) (look : List ℕ → Option Row) (position : ℕ)
      → bytes_eq text (45 ∷ 45 ∷ []) ≡ false → long_of text ≡ Some (name, Some digits)
      → arg_by_long s.rules name ≡ Some (built_number name) → look name ≡ None → Stands s w look position
      → Stands s (walked s.rules [] w text) (with_row (number_row name digits) look) position
      × ((turn_passes s [] w text && true) ≡ true)
  joined_stands text name digits w look position plain long at new st =
      let none = st.rows name ∙ new in (
        record {
          held = reacted s.rules (built_number name) (digits ∷ []) st.held;
          is = ap (λ v. walked s.rules [] v text) st.is
              ∙ long_walked text name (Some digits) (built_number name) (digits ∷ []) st.held position plain long at;
          rows = λ id. found_used name _ CommandLine _ (settled s.rules st.held).rows id none
              ∙ ap (λ o. if bytes_eq name id then Some (number_row name digits) else o) (st.rows id);
          passes = refl;
        },
        ap (λ v. turn_passes s [] v text && true) st.is
            ∙ ap (λ b. b && true)
            (long_turns text name (Some digits) (built_number name) (digits ∷ []) st.held position plain long at)
            ∙ ap (λ b. (b && true) && true) (and_true _ _ st.passes (once_given name digits (settled s.rules st.held).rows
            (no_row name (settled s.rules st.held).rows none))),
      )

  -- a number that is pending is used by the next piece
  pending_stands : (name digits : List ℕ) (h : Held) (look : List ℕ → Option Row) (position : ℕ) (a : Rule)
      → arg_by_id s.rules name ≡ Some a → ((rows : List Row) → use_passes again a (digits ∷ []) rows
      ≡ use_passes again (built_number name) (digits ∷ []) rows)
      → ((rows : List Row) → used a (digits ∷ []) rows ≡ used (built_number name) (digits ∷ []) rows)
      → ((id : List ℕ) → found_row id (settled s.rules h).rows ≡ look id) → look name ≡ None → (w : Walk)
      → w ≡ between (record (settled s.rules h) { pending = Some (name, digits ∷ []) }) position
      → Stands s w (with_row (number_row name digits) look) position
  pending_stands name digits h look position a at passes uses rows new w is =
      let none = rows name ∙ new in
      record {
        held = record (settled s.rules h) { pending = Some (name, digits ∷ []) };
        is = is;
        rows = λ id. ap (λ o. found_row id (used_by_id o (digits ∷ []) (settled s.rules h).rows)) at
            ∙ ap (found_row id) (uses (settled s.rules h).rows)
            ∙ found_used name _ CommandLine _ (settled s.rules h).rows id none
            ∙ ap (λ o. if bytes_eq name id then Some (number_row name digits) else o) (rows id);
        passes = ap (λ o. option_map_or (λ b. use_passes again b (digits ∷ []) (settled s.rules h).rows) o true) at
            ∙ passes (settled s.rules h).rows
            ∙ once_given name digits (settled s.rules h).rows (no_row name (settled s.rules h).rows none);
      }

  pub apart_stands : (text name : List ℕ) (d : Digits) (w : Walk) (look : List ℕ → Option Row) (position : ℕ)
      → bytes_eq text (45 ∷ 45 ∷ []) ≡ false → long_of text ≡ Some (name, None) → bytes_eq name name ≡ true
      → arg_by_long s.rules name ≡ Some (built_number name) → arg_by_id s.rules name ≡ Some (built_number name)
      → look name ≡ None → Stands s w look position
      → Stands s (digits_from d s.rules (walked s.rules [] w text).stopped (walked s.rules [] w text))
      (with_row (number_row name (digits_text d)) look) position
      × ((turn_passes s [] w text && (digits_pass d s (walked s.rules [] w text) && true)) ≡ true)
  apart_stands text name d w look position plain long same at by_id new st =
      let waits : Walk = record (between (record (settled s.rules st.held) { pending = Some (name, []) }) position) {
        waiting = option name;
      } in
      let is : walked s.rules [] w text ≡ waits = ap (λ v. walked s.rules [] v text) st.is
      ∙ long_walked text name None (built_number name) [] st.held position plain long at in
      let turns : turn_passes s [] w text ≡ true = ap (λ v. turn_passes s [] v text) st.is
      ∙ long_turns text name None (built_number name) [] st.held position plain long at
      ∙ ap (λ b. b && true) st.passes in
      let held : Held = record (settled s.rules st.held) { pending = Some (name, digits_text d ∷ []) } in (
        pending_stands name (digits_text d) st.held look position (built_number name) by_id (λ rows. refl) (λ rows. refl)
            st.rows new _
            (ap (λ v. digits_from d s.rules v.stopped v) is
            ∙ ap (λ o. after_step s.rules (digits_text d) waits (option_word o name (digits_text d) waits.held).0
            (next (option_word o name (digits_text d) waits.held).1)) by_id
            ∙ ap (λ b. record (between held position) {
              waiting = if nat_lt (if b then 1 else 0) 1 then option name else idle;
            }) same),
        and_true _ _ turns (ap (λ v. digits_pass d s v && true) is),
      )

  -- ---- a number that stands alone
  pub alone_stands : (d : Digits) (w : Walk) (look : List ℕ → Option Row)
      → arg_by_index s.rules 1 ≡ Some built_alone → arg_by_id s.rules (codes "alone") ≡ Some built_alone
      → look (codes "alone") ≡ None → Stands s w look 1
      → Stands s (digits_from d s.rules w.stopped w) (with_row (number_row (codes "alone") (digits_text d)) look) 2
      × ((digits_pass d s w && true) ≡ true)
  alone_stands d w look at by_id new st =
      let h = st.held in (
        pending_stands (codes "alone") (digits_text d) h look 2 built_alone by_id (λ rows. refl) (λ rows. refl) st.rows new _
            (ap (λ v. digits_from d s.rules v.stopped v) st.is
            ∙ ap (λ o. to_positional s.rules o (digits_text d) (between h 1) h) at
            ∙ ap (λ b. between (pushed (codes "alone") (digits_text d) (if b then h else settled s.rules h)) 2)
            (and_false (is_pending built_alone h.pending))),
        ap (λ v. digits_pass d s v && true) st.is
            ∙ ap (λ o. option_map_or (λ a. positional_passes s.rules again a h) o false && true) at
            ∙ ap (λ b. (b || settle_passes s.rules again h) && true) (and_false (is_pending built_alone h.pending))
            ∙ ap (λ b. b && true) st.passes,
      )
