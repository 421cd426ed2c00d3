-- A function by its name: the first that has it.
use Rattle.std.proofs.Common.{◌≡◌, ◌⊎◌, inl, inr, refl, sym, ap, ◌∙◌, ℕ, zero, suc, ◌<◌, ◌≤◌, arith, Bool, true, false, cond, List, [], ◌∷◌, ◌++◌, length, map, take, get_or, min, Option, None, Some, append_assoc}
use Rattle.std.specs.Prelude.{bytes_eq, slice_get, slice_index, position}
use Rattle.std.proofs.lemmas.List.Quantifiers.{position-Some}
use Rattle.std.proofs.lemmas.List.{take_all, length-append}
use Rattle.std.proofs.lemmas.Bool.{cases_lt}
use Rattle.fc_syntax.specs.Terms.{SourceTerm, Declaration, LanguageIs, CeilingIs, InputIs, MetricIs, DefIs, MainIs}
use Rattle.fc_syntax.specs.Printable.{IsPrintable, BeginWithCeiling, EndWithMain}
use Rattle.fc_types.specs.Before.{Earlier, nothing_declared, with_declarations}
use Rattle.unfold.specs.Found.{HasMain}
use Rattle.unfold.specs.Nodes.{Nodes}
use Rattle.unfold.specs.Unfolding.{main_expression, main_term}
use Rattle.unfold.specs.Views.{AreCapped, body_count, counted}
use Rattle.unfold.proofs.Sizes.{listed_long, main_size}
use Rattle.std.specs.Borrow.{Bor}
use Rattle.std.specs.Map.{lookup, keys_of}
use Rattle.fc_values.specs.Types.{Input}
use Rattle.fc_types.specs.declared.known.Function.{Function as AFunction}
use Rattle.fc_types.specs.Before.{Function}
use Rattle.fc_types.specs.Views.{function_entry}
use Rattle.unfold.specs.Found.{FirstAt, first_here, first_later, NoneAmong}
use Rattle.unfold.specs.Unfolding.{Meaning, meaning_of, meaning, meanings}
use Rattle.unfold.specs.Counting.{Count, size_of, count, counts}

-- where it is among the entries of a map
first_from : (x : List ℕ) (es : List (Bor (List ℕ) × AFunction)) (j : ℕ) (e : Bor (List ℕ) × AFunction) (d : Bor (List ℕ)) → slice_get es j ≡ Some e → bytes_eq x (get_or (keys_of es) j d).now ≡ true →
    ((k : ℕ) → k < j → bytes_eq x (get_or (keys_of es) k d).now ≡ false) → FirstAt x (map function_entry es) j (function_entry e)
first_from x [] j e d h t f = absurd cc
first_from x (a ∷ es) zero e d h t f = let q : e ≡ a = cc in rw q (first_here t)
first_from x (a ∷ es) (suc j) e d h t f = first_later (f 0 (omega arith)) (first_from x es j e d h t (λ k l. f (suc k) (omega arith)))

pub first_at : (x : List ℕ) (es : List (Bor (List ℕ) × AFunction)) (j : ℕ) (e : Bor (List ℕ) × AFunction) → slice_get es j ≡ Some e → Some j ≡ position (λ k. bytes_eq x k.now) (keys_of es) →
    FirstAt x (map function_entry es) j (function_entry e)
first_at x es j e h p =
    let r = position-Some (λ (k : Bor (List ℕ)). bytes_eq x k.now) (keys_of es) j e.0 (sym p) in
    first_from x es j e e.0 h r.1 r.2

none_by : (x : List ℕ) (e : Bor (List ℕ) × AFunction) (es : List (Bor (List ℕ) × AFunction)) (v : ℕ) (b : Bool) → bytes_eq x e.0.now ≡ b → cond b (Some e.1) (lookup (λ k. bytes_eq x k.now) es) ≡ None →
    (lookup (λ k. bytes_eq x k.now) es ≡ None → NoneAmong x (map function_entry es) v) → (bytes_eq x e.0.now ≡ false) × NoneAmong x (map function_entry es) v
none_by x e es v true q h f = absurd cc
none_by x e es v false q h f = (q, f h)

pub none_from : (x : List ℕ) (es : List (Bor (List ℕ) × AFunction)) (v : ℕ) → lookup (λ k. bytes_eq x k.now) es ≡ None → NoneAmong x (map function_entry es) v
none_from x [] v h = tt
none_from x (e ∷ es) zero h = tt
none_from x (e ∷ es) (suc v) h = none_by x e es v (bytes_eq x e.0.now) refl h (λ q. none_from x es v q)

-- and none before it
pub none_before : {x : List ℕ} {fs : List Function} {j : ℕ} {g : Function} → FirstAt x fs j g → (v : ℕ) → v ≤ j → NoneAmong x fs v
none_before (first_here h) zero l = tt
none_before (first_here h) (suc v) l = absurd (omega arith)
none_before (first_later h f) zero l = tt
none_before (first_later h f) (suc v) l = (h, none_before f v (omega arith))

module _ (x : List ℕ) where
  kept : (ms : List Meaning) (n m : Meaning) → meaning_of x ms ≡ Some m → meaning_of x (ms ++ n ∷ []) ≡ Some m
  kept [] n m h = absurd cc
  kept (k ∷ ms) n m h = kept_by (bytes_eq x k.name) k ms n m h (λ q. kept ms n m q)
    where
      kept_by : (b : Bool) (k : Meaning) (ms : List Meaning) (n m : Meaning) → cond b (Some k) (meaning_of x ms) ≡ Some m → (meaning_of x ms ≡ Some m → meaning_of x (ms ++ n ∷ []) ≡ Some m) →
          cond b (Some k) (meaning_of x (ms ++ n ∷ [])) ≡ Some m
      kept_by true k ms n m q f = q
      kept_by false k ms n m q f = f q

  added : (ms : List Meaning) (n : Meaning) → meaning_of x ms ≡ None → meaning_of x (ms ++ n ∷ []) ≡ cond (bytes_eq x n.name) (Some n) None
  added [] n h = refl
  added (k ∷ ms) n h = added_by (bytes_eq x k.name) k ms n h (λ q. added ms n q)
    where
      added_by : (b : Bool) (k : Meaning) (ms : List Meaning) (n : Meaning) → cond b (Some k) (meaning_of x ms) ≡ None → (meaning_of x ms ≡ None → meaning_of x (ms ++ n ∷ []) ≡ cond (bytes_eq x n.name) (Some n) None) →
          cond b (Some k) (meaning_of x (ms ++ n ∷ [])) ≡ cond (bytes_eq x n.name) (Some n) None
      added_by true k ms n q f = absurd cc
      added_by false k ms n q f = f q

  stays : (is : List Input) (ms : List Meaning) (fs : List Function) (m : Meaning) → meaning_of x ms ≡ Some m → meaning_of x (meanings is ms fs) ≡ Some m
  stays is ms [] m h = h
  stays is ms (f ∷ fs) m h = stays is (ms ++ meaning is ms f ∷ []) fs m (kept ms (meaning is ms f) m h)

pub meaning_none : (x : List ℕ) (is : List Input) (ms : List Meaning) (fs : List Function) (v : ℕ) → meaning_of x ms ≡ None → NoneAmong x fs v → meaning_of x (meanings is ms (take v fs)) ≡ None
meaning_none x is ms [] zero h n = h
meaning_none x is ms [] (suc v) h n = h
meaning_none x is ms (f ∷ fs) zero h n = h
meaning_none x is ms (f ∷ fs) (suc v) h n =
    let e = n.0 in
    let a = added x ms (meaning is ms f) h in
    let b : meaning_of x (ms ++ meaning is ms f ∷ []) ≡ None = a ∙ rw e refl in
    meaning_none x is (ms ++ meaning is ms f ∷ []) fs v b n.1

pub meaning_found : {x : List ℕ} {fs : List Function} {j : ℕ} {g : Function} → FirstAt x fs j g → (is : List Input) (ms : List Meaning) (v : ℕ) → meaning_of x ms ≡ None → j < v →
    meaning_of x (meanings is ms (take v fs)) ≡ Some (meaning is (meanings is ms (take j fs)) g)
meaning_found (first_here h) is ms zero n l = absurd (omega arith)
meaning_found {x = x} (first_here {f = f} {fs = fs} h) is ms (suc v) n l =
    let a = added x ms (meaning is ms f) n in
    let b : meaning_of x (ms ++ meaning is ms f ∷ []) ≡ Some (meaning is ms f) = a ∙ rw h refl in
    stays x is (ms ++ meaning is ms f ∷ []) (take v fs) (meaning is ms f) b
meaning_found (first_later h k) is ms zero n l = absurd (omega arith)
meaning_found {x = x} (first_later {f = f} h k) is ms (suc v) n l =
    let a = added x ms (meaning is ms f) n in
    let b : meaning_of x (ms ++ meaning is ms f ∷ []) ≡ None = a ∙ rw h refl in
    meaning_found k is (ms ++ meaning is ms f ∷ []) v b (omega arith)

append_none : (xs : List Count) → xs ++ [] ≡ xs
append_none [] = refl
append_none (x ∷ xs) = ap (λ l. x ∷ l) (append_none xs)

-- the same of the counts
abbrev NotCounted : List ℕ → List Count → Type 0
NotCounted x [] = Unit {0}
NotCounted x (c ∷ cs) = (bytes_eq x c.name ≡ false) × NotCounted x cs

module _ (x : List ℕ) where
  one_uncounted : (cs : List Count) (c : Count) → NotCounted x cs → bytes_eq x c.name ≡ false → NotCounted x (cs ++ c ∷ [])
  one_uncounted [] c h e = (e, tt)
  one_uncounted (d ∷ cs) c h e = (h.0, one_uncounted cs c h.1 e)

  uncounted : (cs : List Count) → NotCounted x cs → size_of x cs ≡ 1
  uncounted [] h = refl
  uncounted (c ∷ cs) h = let e = h.0 in rw e (uncounted cs h.1)

  counted_new : (cs : List Count) (c : Count) (ds : List Count) → NotCounted x cs → bytes_eq x c.name ≡ true → size_of x ((cs ++ c ∷ []) ++ ds) ≡ c.size
  counted_new [] c ds h e = rw e refl
  counted_new (d ∷ cs) c ds h e = let f = h.0 in rw f (counted_new cs c ds h.1 e)

  counts_more : (cs : List Count) (fs : List Function) → (ds : List Count) × (counts cs fs ≡ cs ++ ds)
  counts_more cs [] = ([], sym (append_none cs))
  counts_more cs (f ∷ fs) =
      let c : Count = record { name = f.name; size = count cs f.body } in
      let r = counts_more (cs ++ c ∷ []) fs in
      (c ∷ r.0, r.1 ∙ append_assoc cs (c ∷ []) r.0)

pub size_none : (x : List ℕ) (cs : List Count) (fs : List Function) (v : ℕ) → NotCounted x cs → NoneAmong x fs v → size_of x (counts cs (take v fs)) ≡ 1
size_none x cs [] zero h n = uncounted x cs h
size_none x cs [] (suc v) h n = uncounted x cs h
size_none x cs (f ∷ fs) zero h n = uncounted x cs h
size_none x cs (f ∷ fs) (suc v) h n = size_none x (cs ++ record { name = f.name; size = count cs f.body } ∷ []) fs v (one_uncounted x cs (record { name = f.name; size = count cs f.body }) h n.0) n.1

pub size_found : {x : List ℕ} {fs : List Function} {j : ℕ} {g : Function} → FirstAt x fs j g → (cs : List Count) (v : ℕ) → NotCounted x cs → j < v →
    size_of x (counts cs (take v fs)) ≡ count (counts cs (take j fs)) g.body
size_found (first_here h) cs zero n l = absurd (omega arith)
size_found {x = x} (first_here {f = f} {fs = fs} h) cs (suc v) n l =
    let c : Count = record { name = f.name; size = count cs f.body } in
    let r = counts_more x (cs ++ c ∷ []) (take v fs) in
    ap (size_of x) r.1 ∙ counted_new x cs c r.0 n h
size_found (first_later h k) cs zero n l = absurd (omega arith)
size_found {x = x} (first_later {f = f} h k) cs (suc v) n l =
    size_found k (cs ++ record { name = f.name; size = count cs f.body } ∷ []) v (one_uncounted x cs (record { name = f.name; size = count cs f.body }) n h) (omega arith)

first_get : {x : List ℕ} {fs : List Function} {j : ℕ} {g : Function} → FirstAt x fs j g → slice_get fs j ≡ Some g
first_get (first_here h) = refl
first_get (first_later h k) = first_get k

-- what is kept for a function is its size
pub capped_found : (B : Earlier) (ns : List ℕ) (x : List ℕ) (j : ℕ) (g : Function) → AreCapped B ns → FirstAt x B.functions j g → j < length ns → slice_index ns j ≡ min 1000000 (size_of x (counted B (length ns)))
capped_found B ns x j g are first l =
    let e = first_get first in
    let s = size_found first [] (length ns) tt l in
    are j l ∙ ap (λ (o : Option Function). min 1000000 (body_count B j o)) e ∙ ap (min 1000000) (sym s)

pub capped_none : (B : Earlier) (ns : List ℕ) (x : List ℕ) → NoneAmong x B.functions (length ns) → 1 ≡ min 1000000 (size_of x (counted B (length ns)))
capped_none B ns x none = let s = size_none x [] B.functions (length ns) tt none in rw s refl

index_front : (ns : List ℕ) (n j : ℕ) → j < length ns → slice_index (ns ++ n ∷ []) j ≡ slice_index ns j
index_front [] n j l = absurd (omega arith)
index_front (m ∷ ns) n zero l = refl
index_front (m ∷ ns) n (suc j) l = index_front ns n j (omega arith)

index_last : (ns : List ℕ) (n j : ℕ) → j ≡ length ns → slice_index (ns ++ n ∷ []) j ≡ n
index_last [] n j e = rw e refl
index_last (m ∷ ns) n zero e = absurd (omega arith)
index_last (m ∷ ns) n (suc j) e = index_last ns n j (omega arith)

-- one count more
pub capped_more : (B : Earlier) (ns : List ℕ) (n : ℕ) (g : Function) → AreCapped B ns → slice_get B.functions (length ns) ≡ Some g → n ≡ min 1000000 (count (counted B (length ns)) g.body) → AreCapped B (ns ++ n ∷ [])
capped_more B ns n g are e q j l = by_place (cases_lt j (length ns))
  where
    by_place : (j < length ns) ⊎ (length ns ≤ j) → slice_index (ns ++ n ∷ []) j ≡ min 1000000 (body_count B j (slice_get B.functions j))
    by_place (inl k) = index_front ns n j k ∙ are j k
    by_place (inr k) =
        let a = length-append ns (n ∷ []) in
        let s : j ≡ length ns = omega (arith, a, l, k) in
        index_last ns n j s ∙ q ∙ rw (s, e) refl

pub entry_get : (es : List (Bor (List ℕ) × AFunction)) (j : ℕ) (e : Bor (List ℕ) × AFunction) → slice_get es j ≡ Some e → slice_get (map function_entry es) j ≡ Some (function_entry e)
entry_get [] j e h = absurd cc
entry_get (a ∷ es) zero e h = let q : a ≡ e = cc in ap (λ (b : Bor (List ℕ) × AFunction). Some (function_entry b)) q
entry_get (a ∷ es) (suc j) e h = entry_get es j e h

-- a program of the grammar has a `main`
ends : (second : Bool) (ds : List Declaration) → EndWithMain second ds → HasMain ds
ends second [] h = h
ends second (MainIs e ∷ ds) h = tt
ends second (LanguageIs n ∷ []) h = h
ends second (CeilingIs n ∷ []) h = h
ends second (InputIs x t ∷ []) h = h
ends second (MetricIs l g ∷ []) h = h
ends second (DefIs f ps r b ∷ []) h = h
ends second (LanguageIs n ∷ d ∷ ds) h = ends second (d ∷ ds) h.1
ends second (CeilingIs n ∷ d ∷ ds) h = ends second (d ∷ ds) h.1
ends second (InputIs x t ∷ d ∷ ds) h = ends second (d ∷ ds) h.1
ends second (MetricIs l g ∷ d ∷ ds) h = ends second (d ∷ ds) h.1
ends second (DefIs f ps r b ∷ d ∷ ds) h = ends second (d ∷ ds) h.1

begins : (second : Bool) (ds : List Declaration) → BeginWithCeiling second ds → HasMain ds
begins second (CeilingIs n ∷ ds) h = ends second ds h.1
begins second _ h = absurd h

pub has_main : (ds : List Declaration) → IsPrintable ds → HasMain ds
has_main [] h = absurd h
has_main (LanguageIs n ∷ ds) h = begins true ds h.1
has_main (CeilingIs n ∷ ds) h = begins false (CeilingIs n ∷ ds) h
has_main (InputIs x t ∷ ds) h = absurd h
has_main (MetricIs l g ∷ ds) h = absurd h
has_main (DefIs f ps r b ∷ ds) h = absurd h
has_main (MainIs e ∷ ds) h = absurd h

-- the count of `main` is the number of nodes
pub counted_main : (ds : List Declaration) (B : Earlier) (n : ℕ) (e : SourceTerm) → B ≡ with_declarations nothing_declared ds → n ≡ length B.functions → e ≡ main_expression ds → count (counted B n) e ≡ length (Nodes ds)
counted_main ds B n e b l m =
    let t : take n B.functions ≡ B.functions = take_all n B.functions (omega arith) in
    ap (λ (fs : List Function). count (counts [] fs) e) t ∙ ap (λ (A : Earlier). count (counts [] A.functions) e) b ∙ ap (count (counts [] (with_declarations nothing_declared ds).functions)) m
    ∙ sym (listed_long (main_term ds) 0 ∙ main_size ds)

-- one more of each of two lists
pub one_longer : {X : Type 0} (ns : List ℕ) (n : ℕ) (ys : List X) (y : X) → length ns ≡ length ys → length (ns ++ n ∷ []) ≡ length (ys ++ y ∷ [])
one_longer ns n ys y e = let a = length-append ns (n ∷ []) in let b = length-append ys (y ∷ []) in omega (arith, a, b, e)
