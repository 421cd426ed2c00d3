-- Crates above cite this module: an edit that a line says, where the line has no fault.
use Rattle.std.proofs.Common.{ℕ, ◌≡◌, ◌≤◌, ◌&&◌, nat_le, Bool, true, false, List, [], ◌∷◌, refl, arith, Some, None, Option, if◌then◌else◌}
use Rattle.std.proofs.lemmas.Bool.Decides.{nat_tests}
use Rattle.std.specs.Prelude.{option_map, option_and_then, IfSome, is_none}
use Rattle.fc_values.specs.BuiltinTypes.{inner}
use Rattle.fc_values.specs.Names.{is_name}
use Rattle.fc_values.specs.Numbers.{number_of}
use Rattle.fc_values.specs.Types.{Input}
use Rattle.fc_values.specs.Values.{LocalValue}
use Rattle.fc_nodes.specs.Program.{Unfolding}
use Rattle.fc_nodes.specs.Terms.{term_type}
use Rattle.value_trees.specs.KeptReads.{has_type, misfit_of}
use Rattle.value_trees.specs.KeptExports.{ListsHaveExports}
use Rattle.topology.specs.Networks.{Network, lives}
use Rattle.firing_core.specs.Cores.{EditFits}
use Rattle.firing_core.specs.Entries.{LinkEdit, UnlinkEdit, SetEdit, PokeEdit, JoinEdit, LeaveEdit}
use Rattle.edit_commands.specs.declared.edits.EditWord.{EditWord}
use Rattle.edit_commands.specs.declared.edits.EditWord.TheVariants as first
use Rattle.edit_commands.specs.declared.types.Fault.{Fault}
use Rattle.edit_commands.specs.Words.{if_device, written_device}
use Rattle.edit_commands.specs.Values.{written_value}
use Rattle.edit_commands.specs.EditLines.{EditLine, LinkLine, UnlinkLine, SetLine, PokeLine, JoinLine, LeaveLine, with_two, with_three, values_of, input_index, device_with, edit_word, edit_line_by, edit_line}
use Rattle.edit_commands.specs.Code.{LineFits}
use Rattle.edit_commands.specs.Judging.{edit_line_fault, edited_network, fits_kept, IsEdit}
use Rattle.edit_commands.proofs.SaidLines.{Said}

-- ---- a device that joins has a number of at most 65,535

two_fit : {A B : Type 0} (f : A → B → EditLine) → ((a : A) (b : B) → LineFits (f a b)) → (o : Option A) (p : Option B) → IfSome (with_two f o p) LineFits
two_fit f h None p = tt
two_fit f h (Some a) None = tt
two_fit f h (Some a) (Some b) = h a b

pub some_mapped : {A B : Type 0} (P : B → Type 0) (f : A → B) → ((a : A) → P (f a)) → (o : Option A) → IfSome (option_map f o) P
some_mapped P f h None = tt
some_mapped P f h (Some a) = h a

three_fit : {A B C : Type 0} (f : A → B → C → EditLine) → ((a : A) (b : B) (c : C) → LineFits (f a b c)) → (o : Option A) (p : Option B) (q : Option C) → IfSome (with_three f o p q) LineFits
three_fit f h None p q = tt
three_fit f h (Some a) p q = two_fit (f a) (h a) p q

device_small : (o : Option ℕ) → IfSome (option_and_then if_device o) (λ n. n ≤ 65535)
device_small None = tt
device_small (Some n) = by_test (nat_le n 65535) refl
  where
    by_test : (b : Bool) → nat_le n 65535 ≡ b → IfSome (if b then Some n else None) (λ m. m ≤ 65535)
    by_test true e = grind (arith, nat_tests)
    by_test false e = tt

join_fits : (o : Option ℕ) (vs : Option (List LocalValue)) → IfSome o (λ n. n ≤ 65535) → IfSome (with_two (λ n ws. JoinLine (device_with n ws)) o vs) LineFits
join_fits None vs h = tt
join_fits (Some n) None h = tt
join_fits (Some n) (Some ws) h = h

set_fits : (b : Bool) (is : List Input) (name : List ℕ) (d : Option ℕ) (v : Option LocalValue) → IfSome (if b then with_two (λ n w. SetLine n (input_index is name) w) d v else None) LineFits
set_fits true is name d v = two_fit (λ n w. SetLine n (input_index is name) w) (λ n w. tt) d v
set_fits false is name d v = tt

by_word : (is : List Input) (o : Option EditWord) (words : List (List ℕ)) → IfSome (edit_line_by is o words) LineFits
by_word is None words = tt
by_word is (Some first.Link) [] = tt
by_word is (Some first.Link) (a ∷ []) = tt
by_word is (Some first.Link) (a ∷ b ∷ []) = tt
by_word is (Some first.Link) (a ∷ b ∷ w ∷ []) = three_fit LinkLine (λ m n k. tt) (number_of a) (number_of b) (number_of w)
by_word is (Some first.Link) (a ∷ b ∷ w ∷ x ∷ words) = tt
by_word is (Some first.Unlink) [] = tt
by_word is (Some first.Unlink) (a ∷ []) = tt
by_word is (Some first.Unlink) (a ∷ b ∷ []) = two_fit UnlinkLine (λ m n. tt) (number_of a) (number_of b)
by_word is (Some first.Unlink) (a ∷ b ∷ c ∷ words) = tt
by_word is (Some first.Set) [] = tt
by_word is (Some first.Set) (d ∷ []) = tt
by_word is (Some first.Set) (d ∷ name ∷ []) = tt
by_word is (Some first.Set) (d ∷ name ∷ v ∷ []) = set_fits (is_name name) is name (number_of d) (written_value v)
by_word is (Some first.Set) (d ∷ name ∷ v ∷ x ∷ words) = tt
by_word is (Some first.Poke) [] = tt
by_word is (Some first.Poke) (d ∷ []) = tt
by_word is (Some first.Poke) (d ∷ v ∷ ks) = three_fit PokeLine (λ n w us. tt) (number_of d) (written_value v) (values_of ks)
by_word is (Some first.Join) [] = tt
by_word is (Some first.Join) (d ∷ vs) = join_fits (written_device d) (values_of vs) (device_small (number_of d))
by_word is (Some first.Leave) [] = tt
by_word is (Some first.Leave) (d ∷ []) = some_mapped LineFits LeaveLine (λ n. tt) (number_of d)
by_word is (Some first.Leave) (d ∷ e ∷ words) = tt

pub edit_fits : (is : List Input) (words : List (List ℕ)) → IfSome (edit_line is words) LineFits
edit_fits is [] = tt
edit_fits is (word ∷ words) = by_word is (edit_word word) words

-- ---- edits

poke_fits : (b k : Bool) (f g : Fault) → (if b then (if k then None else Some f) else Some g) ≡ None → k ≡ true
poke_fits true true f g h = refl
poke_fits true false f g h = absurd cc
poke_fits false k f g h = absurd cc

kept_parts : (a b : Bool) → (a && b) ≡ true → (a ≡ true) × (b ≡ true)
kept_parts true true h = (refl, refl)
kept_parts true false h = absurd cc
kept_parts false b h = absurd cc

no_misfit : (o : Option ℕ) → is_none o ≡ true → o ≡ None
no_misfit None h = refl
no_misfit (Some p) h = absurd cc

module _ (lists : ListsHaveExports) (U : Unfolding) where
  pub an_edit : (n : Network) (flies : ℕ → Bool) (l : EditLine) → LineFits l → edit_line_fault U n flies l ≡ None → Said (IsEdit U) (EditFits U) l
  an_edit n flies (LinkLine a b w) m h = record { thing = LinkEdit a b w; says = refl; fits = tt }
  an_edit n flies (UnlinkLine a b) m h = record { thing = UnlinkEdit a b; says = refl; fits = tt }
  an_edit n flies (SetLine d i v) m h = record { thing = SetEdit d i v; says = refl; fits = tt }
  an_edit n flies (PokeLine d v ks) m h =
      let k = kept_parts (has_type U.declared.ceiling (inner (term_type U.main)) v) (is_none (misfit_of U ks)) (poke_fits (lives n d) (fits_kept U v ks) _ _ h) in
      let x = lists U v ks k.0 (no_misfit (misfit_of U ks) k.1) in
      record { thing = PokeEdit d x.0; says = (refl, x.1); fits = x.1.export }
  an_edit n flies (JoinLine x) m h = record { thing = JoinEdit x; says = refl; fits = m }
  an_edit n flies (LeaveLine d) m h = record { thing = LeaveEdit d; says = refl; fits = tt }

-- ---- the network after an edit

pub edit_declared : (n : Network) (l : EditLine) → (edited_network n l).declared ≡ n.declared
edit_declared n (LinkLine a b w) = refl
edit_declared n (UnlinkLine a b) = refl
edit_declared n (SetLine d i v) = refl
edit_declared n (PokeLine d v ks) = refl
edit_declared n (JoinLine x) = refl
edit_declared n (LeaveLine d) = refl
