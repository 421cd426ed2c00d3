-- Values are read from exactly their texts.
use Rattle.std.proofs.Common.{ℕ, ◌≡◌, Bool, true, false, ◌&&◌, ◌==◌, nat_le, List, [], ◌∷◌, ◌++◌, length, refl, sym, ap, subst, ◌∙◌, Some, None, Option, if◌then◌else◌, arith, append_assoc, append-nil}
use Rattle.std.specs.Prelude.{option_map, option_and_then, codes}
use Rattle.std.specs.List.{list_all}
use Rattle.std.specs.Str.{bytes_eq}
use Rattle.std.specs.Char.{is_ascii_digit}
use Rattle.std.specs.Str.Parse.{digits_value}
use Rattle.std.proofs.lemmas.Bool.Decides.{nat_tests}
use Rattle.std.proofs.lemmas.Slice.Eq.{bytes_eq-Decides}
use Rattle.fc_values.specs.Values.{LocalValue, IntValue, BoolValue, PairValue}
use Rattle.fc_values.specs.Numbers.{number_of}
use Rattle.edit_commands.specs.Values.{atom_of, IsValueText, AtomText, PairText, Since, Bytes, Closed, Reading, reading, part_since, opens, parts, closes, goes_on, read_byte, read_bytes, when_closed, whole_part, value_with, written_value, ValuesAreRead}

abbrev same : LocalValue → LocalValue
same v = v

abbrev Stack : Type 0
Stack = List (Option LocalValue)

abbrev run : Reading LocalValue → List ℕ → Option (Reading LocalValue)
run r bs = read_bytes same PairValue r bs

-- ---- a byte of an atom is no mark

record IsPlain (b : ℕ) : Type 0 where
  opens : (b == 40) ≡ false
  parts : (b == 44) ≡ false
  closes : (b == 41) ≡ false

abbrev AllPlain : List ℕ → Type 0
AllPlain [] = Unit {0}
AllPlain (b ∷ bs) = IsPlain b × AllPlain bs

digit_plain : (b : ℕ) → is_ascii_digit b ≡ true → IsPlain b
digit_plain b h = record { opens = grind (arith, nat_tests); parts = grind (arith, nat_tests); closes = grind (arith, nat_tests) }

digits_plain : (bs : List ℕ) → list_all is_ascii_digit bs ≡ true → AllPlain bs
digits_plain [] h = tt
digits_plain (b ∷ bs) h = both (is_ascii_digit b) (list_all is_ascii_digit bs) h (digit_plain b) (digits_plain bs)
  where
    both : (p q : Bool) → (p && q) ≡ true → (p ≡ true → IsPlain b) → (q ≡ true → AllPlain bs) → IsPlain b × AllPlain bs
    both true q h f g = (f refl, g h)
    both false q h f g = absurd cc

number_plain : (bs : List ℕ) (n : ℕ) → number_of bs ≡ Some n → AllPlain bs
number_plain bs n h = by_tests (nat_le 1 (length bs)) (nat_le (length bs) 7) (list_all is_ascii_digit bs) h (digits_plain bs)
  where
    by_tests : (p q r : Bool) → (if p && q && r then Some (digits_value 10 bs) else None) ≡ Some n → (r ≡ true → AllPlain bs) → AllPlain bs
    by_tests true true true h f = f refl
    by_tests true true false h f = absurd cc
    by_tests true false r h f = absurd cc
    by_tests false q r h f = absurd cc

true_plain : AllPlain (codes "true")
true_plain = (record { opens = refl; parts = refl; closes = refl }, (record { opens = refl; parts = refl; closes = refl }, (record { opens = refl; parts = refl; closes = refl }, (record { opens = refl; parts = refl; closes = refl }, tt))))

false_plain : AllPlain (codes "false")
false_plain = (record { opens = refl; parts = refl; closes = refl }, (record { opens = refl; parts = refl; closes = refl }, (record { opens = refl; parts = refl; closes = refl }, (record { opens = refl; parts = refl; closes = refl }, (record { opens = refl; parts = refl; closes = refl }, tt)))))

atom_plain : (bs : List ℕ) (v : LocalValue) → atom_of bs ≡ Some v → AllPlain bs
atom_plain bs v h = by_tests (bytes_eq bs (codes "true")) (bytes_eq bs (codes "false")) (number_of bs) refl refl refl h
  where
    by_tests : (p q : Bool) (o : Option ℕ) → bytes_eq bs (codes "true") ≡ p → bytes_eq bs (codes "false") ≡ q → number_of bs ≡ o
        → (if p then Some (BoolValue true) else if q then Some (BoolValue false) else option_map IntValue o) ≡ Some v → AllPlain bs
    by_tests true q o e f g k = subst AllPlain (sym ((bytes_eq-Decides bs (codes "true")).0 e)) true_plain
    by_tests false true o e f g k = subst AllPlain (sym ((bytes_eq-Decides bs (codes "false")).0 f)) false_plain
    by_tests false false (Some n) e f g k = number_plain bs n g
    by_tests false false None e f g k = absurd cc

-- ---- a text of a value is read

plain_step : (os : Stack) (ds : List ℕ) (b : ℕ) → IsPlain b → read_byte same PairValue (reading os (Bytes ds)) b ≡ Some (reading os (Bytes (ds ++ b ∷ [])))
plain_step os ds b h = rw (h.opens, h.parts, h.closes) refl

plain_run : (os : Stack) (ds bs rest : List ℕ) → AllPlain bs → run (reading os (Bytes ds)) (bs ++ rest) ≡ run (reading os (Bytes (ds ++ bs))) rest
plain_run os ds [] rest h = ap (λ es. run (reading os (Bytes es)) rest) (sym (append-nil ds))
plain_run os ds (b ∷ bs) rest h =
    ap (option_and_then (λ s. run s (bs ++ rest))) (plain_step os ds b h.0)
    ∙ plain_run os (ds ++ b ∷ []) bs rest h.1
    ∙ ap (λ es. run (reading os (Bytes es)) rest) (append_assoc ds (b ∷ []) bs)

-- after the text of a value stands this value
record Passes (os : Stack) (text : List ℕ) (v : LocalValue) (rest : List ℕ) : Type 0 where
  since : Since LocalValue
  part : part_since same since ≡ Some v
  ran : run (reading os (Bytes [])) (text ++ rest) ≡ run (reading os since) rest

passes : (text : List ℕ) (v : LocalValue) → IsValueText text v → (os : Stack) (rest : List ℕ) → Passes os text v rest
passes text v (AtomText bs w h) os rest = record { since = Bytes bs; part = ap (option_map same) h; ran = plain_run os [] bs rest (atom_plain bs w h) }
passes text v (PairText s t x y h k) os rest =
    let p = passes s x h (None ∷ os) (44 ∷ (t ++ 41 ∷ rest)) in
    let q = passes t y k (Some x ∷ os) (41 ∷ rest) in
    let e : (s ++ 44 ∷ (t ++ 41 ∷ [])) ++ rest ≡ s ++ 44 ∷ (t ++ 41 ∷ rest) =
    append_assoc s (44 ∷ (t ++ 41 ∷ [])) rest ∙ ap (λ us. s ++ 44 ∷ us) (append_assoc t (41 ∷ []) rest) in
    record {
      since = Closed (PairValue x y);
      part = refl;
      ran = ap (run (reading (None ∷ os) (Bytes []))) e
          ∙ p.ran
          ∙ ap (λ o. option_and_then (λ r. run r (t ++ 41 ∷ rest)) (parts (None ∷ os) o)) p.part
          ∙ q.ran
          ∙ ap (λ o. option_and_then (λ r. run r rest) (closes PairValue (Some x ∷ os) o)) q.part;
    }

read_of : (text : List ℕ) (v : LocalValue) → IsValueText text v → written_value text ≡ Some v
unfolding value_with
read_of text v h =
    let p = passes text v h [] [] in
    let e : run (reading [] (Bytes [])) text ≡ Some (reading [] p.since) = ap (run (reading [] (Bytes []))) (sym (append-nil text)) ∙ p.ran in
    ap (option_and_then (whole_part same)) e ∙ p.part

-- ---- what is read is the text of a value

-- the brackets that are open stand for the front of a text
abbrev Spells : Stack → List ℕ → Type 0
Spells [] t = t ≡ []
Spells (None ∷ os) t = (u : List ℕ) × (t ≡ u ++ 40 ∷ []) × Spells os u
Spells (Some v ∷ os) t = (u : List ℕ) × (s : List ℕ) × (t ≡ u ++ 40 ∷ (s ++ 44 ∷ [])) × IsValueText s v × Spells os u

abbrev SpellsSince : Since LocalValue → List ℕ → Type 0
SpellsSince (Bytes bs) u = u ≡ bs
SpellsSince (Closed v) u = IsValueText u v

record IsRead (r : Reading LocalValue) (text : List ℕ) : Type 0 where
  front : List ℕ
  back : List ℕ
  cut : text ≡ front ++ back
  spells : Spells r.open_pairs front
  since : SpellsSince r.since back

part_text : (s : Since LocalValue) (u : List ℕ) (v : LocalValue) → SpellsSince s u → part_since same s ≡ Some v → IsValueText u v
part_text (Bytes bs) u v h e = subst (λ us. IsValueText us v) (sym h) (AtomText bs v (plain (atom_of bs) e))
  where
    plain : (o : Option LocalValue) → option_map same o ≡ Some v → o ≡ Some v
    plain None f = f
    plain (Some w) f = f
part_text (Closed w) u v h e = let f : w ≡ v = cc in subst (IsValueText u) f h

opened : (os : Stack) (s : Since LocalValue) (r : Reading LocalValue) (text front back : List ℕ) → text ≡ front ++ back → Spells os front → SpellsSince s back → opens os s ≡ Some r → IsRead r (text ++ 40 ∷ [])
opened os (Bytes []) r text front back c h k e =
    let f : reading (None ∷ os) (Bytes []) ≡ r = cc in
    subst (λ q. IsRead q (text ++ 40 ∷ [])) f (record {
      front = front ++ 40 ∷ [];
      back = [];
      cut = ap (λ t. t ++ 40 ∷ []) (c ∙ ap (λ b. front ++ b) k ∙ append-nil front) ∙ sym (append-nil (front ++ 40 ∷ []));
      spells = (front, refl, h);
      since = refl;
    })
opened os (Bytes (b ∷ bs)) r text front back c h k e = absurd cc
opened os (Closed v) r text front back c h k e = absurd cc

parted : (os : Stack) (s : Since LocalValue) (o : Option LocalValue) (r : Reading LocalValue) (text front back : List ℕ) → text ≡ front ++ back → Spells os front → SpellsSince s back → part_since same s ≡ o → parts os o ≡ Some r
    → IsRead r (text ++ 44 ∷ [])
parted [] s o r text front back c h k p e = absurd cc
parted (Some w ∷ os) s o r text front back c h k p e = absurd cc
parted (None ∷ os) s None r text front back c h k p e = absurd cc
parted (None ∷ os) s (Some v) r text front back c h k p e =
    let f : reading (Some v ∷ os) (Bytes []) ≡ r = cc in
    let g : (h.0 ++ 40 ∷ []) ++ back ≡ h.0 ++ 40 ∷ back = append_assoc h.0 (40 ∷ []) back in
    subst (λ q. IsRead q (text ++ 44 ∷ [])) f (record {
      front = h.0 ++ 40 ∷ (back ++ 44 ∷ []);
      back = [];
      cut = ap (λ t. t ++ 44 ∷ []) (c ∙ ap (λ t. t ++ back) h.1 ∙ g) ∙ append_assoc h.0 (40 ∷ back) (44 ∷ []) ∙ sym (append-nil (h.0 ++ 40 ∷ (back ++ 44 ∷ [])));
      spells = (h.0, back, refl, part_text s back v k p, h.2);
      since = refl;
    })

closed : (os : Stack) (s : Since LocalValue) (o : Option LocalValue) (r : Reading LocalValue) (text front back : List ℕ) → text ≡ front ++ back → Spells os front → SpellsSince s back → part_since same s ≡ o → closes PairValue os o ≡ Some r
    → IsRead r (text ++ 41 ∷ [])
closed [] s o r text front back c h k p e = absurd cc
closed (None ∷ os) s o r text front back c h k p e = absurd cc
closed (Some w ∷ os) s None r text front back c h k p e = absurd cc
closed (Some w ∷ os) s (Some v) r text front back c h k p e =
    let f : reading os (Closed (PairValue w v)) ≡ r = cc in
    let u : List ℕ = h.0 in
    let t : List ℕ = h.1 in
    let g : ((u ++ 40 ∷ (t ++ 44 ∷ [])) ++ back) ++ 41 ∷ [] ≡ u ++ 40 ∷ (t ++ 44 ∷ (back ++ 41 ∷ [])) =
    append_assoc (u ++ 40 ∷ (t ++ 44 ∷ [])) back (41 ∷ []) ∙ append_assoc u (40 ∷ (t ++ 44 ∷ [])) (back ++ 41 ∷ []) ∙ ap (λ x. u ++ 40 ∷ x) (append_assoc t (44 ∷ []) (back ++ 41 ∷ [])) in
    subst (λ q. IsRead q (text ++ 41 ∷ [])) f (record {
      front = u;
      back = 40 ∷ (t ++ 44 ∷ (back ++ 41 ∷ []));
      cut = ap (λ x. x ++ 41 ∷ []) (c ∙ ap (λ x. x ++ back) h.2) ∙ g;
      spells = h.4;
      since = PairText t back w v h.3 (part_text s back v k p);
    })

gone_on : (os : Stack) (s : Since LocalValue) (b : ℕ) (r : Reading LocalValue) (text front back : List ℕ) → text ≡ front ++ back → Spells os front → SpellsSince s back → goes_on os s b ≡ Some r → IsRead r (text ++ b ∷ [])
gone_on os (Bytes bs) b r text front back c h k e =
    let f : reading os (Bytes (bs ++ b ∷ [])) ≡ r = cc in
    subst (λ q. IsRead q (text ++ b ∷ [])) f (record {
      front = front;
      back = back ++ b ∷ [];
      cut = ap (λ t. t ++ b ∷ []) c ∙ append_assoc front back (b ∷ []);
      spells = h;
      since = ap (λ x. x ++ b ∷ []) k;
    })
gone_on os (Closed v) b r text front back c h k e = absurd cc

is_byte : (b m : ℕ) → (b == m) ≡ true → b ≡ m
is_byte b m h = grind (arith, nat_tests)

stepped : (q r : Reading LocalValue) (text : List ℕ) (b : ℕ) → IsRead q text → read_byte same PairValue q b ≡ Some r → IsRead r (text ++ b ∷ [])
stepped q r text b h e = by_tests (b == 40) (b == 44) (b == 41) refl refl refl e
  where
    at : (m : ℕ) → (b == m) ≡ true → IsRead r (text ++ m ∷ []) → IsRead r (text ++ b ∷ [])
    at m k i = subst (λ x. IsRead r (text ++ x ∷ [])) (sym (is_byte b m k)) i

    by_tests : (x y z : Bool) → (b == 40) ≡ x → (b == 44) ≡ y → (b == 41) ≡ z
        → (if x then opens q.open_pairs q.since else
        if y then parts q.open_pairs (part_since same q.since) else
        if z then closes PairValue q.open_pairs (part_since same q.since) else goes_on q.open_pairs q.since b) ≡ Some r
        → IsRead r (text ++ b ∷ [])
    by_tests true y z i j k f = at 40 i (opened q.open_pairs q.since r text h.front h.back h.cut h.spells h.since f)
    by_tests false true z i j k f = at 44 j (parted q.open_pairs q.since (part_since same q.since) r text h.front h.back h.cut h.spells h.since refl f)
    by_tests false false true i j k f = at 41 k (closed q.open_pairs q.since (part_since same q.since) r text h.front h.back h.cut h.spells h.since refl f)
    by_tests false false false i j k f = gone_on q.open_pairs q.since b r text h.front h.back h.cut h.spells h.since f

ran : (q r : Reading LocalValue) (text bs : List ℕ) → IsRead q text → run q bs ≡ Some r → IsRead r (text ++ bs)
ran q r text [] h e =
    let f : q ≡ r = cc in
    subst (λ t. IsRead r t) (sym (append-nil text)) (subst (λ x. IsRead x text) f h)
ran q r text (b ∷ bs) h e =
    by_case (read_byte same PairValue q b) (λ s f g. subst (IsRead r) (append_assoc text (b ∷ []) bs) (ran s r (text ++ b ∷ []) bs (stepped q s text b h f) g)) refl e
  where
    by_case : (o : Option (Reading LocalValue)) → ((s : Reading LocalValue) → read_byte same PairValue q b ≡ Some s → run s bs ≡ Some r → IsRead r (text ++ b ∷ bs)) → read_byte same PairValue q b ≡ o
        → option_and_then (λ s. run s bs) o ≡ Some r → IsRead r (text ++ b ∷ bs)
    by_case None k f g = absurd cc
    by_case (Some s) k f g = k s f g

ended : (r : Reading LocalValue) (os : Stack) (text front : List ℕ) (back : List ℕ) (v : LocalValue) → text ≡ front ++ back → Spells os front → SpellsSince r.since back → when_closed os (part_since same r.since) ≡ Some v → IsValueText text v
ended r [] text front back v c h k e = let f : text ≡ back = c ∙ ap (λ t. t ++ back) h in subst (λ t. IsValueText t v) (sym f) (part_text r.since back v k e)
ended r (o ∷ os) text front back v c h k e = absurd cc

text_of : (text : List ℕ) (v : LocalValue) → written_value text ≡ Some v → IsValueText text v
unfolding value_with
text_of text v e = by_case (run (reading [] (Bytes [])) text) refl e
  where
    start : IsRead (reading [] (Bytes [])) []
    start = record { front = []; back = []; cut = refl; spells = refl; since = refl }

    by_case : (o : Option (Reading LocalValue)) → run (reading [] (Bytes [])) text ≡ o → option_and_then (whole_part same) o ≡ Some v → IsValueText text v
    by_case None f g = absurd cc
    by_case (Some r) f g = let h = ran (reading [] (Bytes [])) r [] text start f in ended r r.open_pairs text h.front h.back v h.cut h.spells h.since g

pub values_read : ValuesAreRead
values_read text v = (text_of text v, read_of text v)
