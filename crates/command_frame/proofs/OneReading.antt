-- Texts are read to one thing.
use Rattle.std.proofs.Common.{ℕ, ◌≡◌, ◌⊎◌, inl, inr, ◌<◌, Bool, true, false, List, length, refl, ap, ◌∙◌, sym, subst, arith, min, Option, Some, None}
use Rattle.std.specs.Prelude.{nat_le}
use Rattle.std.proofs.lemmas.Bool.Decides.{nat_tests}
use Rattle.fc_lexer.specs.Kinds.{TokenView}
use Rattle.fc_lexer.specs.Lexes.{Lexes, IsStuckAt}
use Rattle.fc_lexer.specs.Laws as lexer
use Rattle.fc_syntax.specs.Terms.{Declaration}
use Rattle.fc_parser.specs.Limits.{Passed, TooMany, TooDeep, limit_passed}
use Rattle.fc_parser.specs.Programs.{Derives}
use Rattle.fc_parser.specs.Faults.{FaultAt}
use Rattle.fc_parser.specs.Laws as parser
use Rattle.fc_types.specs.declared.faults.TypeKind.{TypeKind}
use Rattle.fc_types.specs.Typing.{IsTyped}
use Rattle.fc_types.specs.Faults.{FirstFault}
use Rattle.fc_types.specs.Laws as types
use Rattle.fc_nodes.specs.Program.{Unfolding}
use Rattle.net_json.specs.Scenes.{scene_of}
use Rattle.unfold.specs.declared.count.TheConstants.{MOST_COUNTED}
use Rattle.fc_values.specs.declared.limits.TheConstants.{MOST_NODES}
use Rattle.unfold.specs.Nodes.{Nodes}
use Rattle.command_frame.specs.declared.refusal.Refusal.{Refusal}
use Rattle.command_frame.specs.declared.refusal.Refusal.TheVariants.{Lexical, Tokens, Depth, Syntax, Types, Nodes as Size}
use Rattle.command_frame.specs.Causes.{Plainly, InScene, Judged, Accepted, Refused, AndThen}
use Rattle.command_frame.specs.Sources.{IsSource, IsNoSource, lexical, tokens, depth, syntax, IsProgramText, IsNoProgram, no_source, ill_typed, too_large, unfolding_by, ReadsSource, ReadsProgram}
use Rattle.command_frame.specs.Inputs.{InputOf, with_scene, OneSource, OneProgramText, OneInput}

-- a limit is one
limit_same : (ts us : List TokenView) (p q : Option Passed) → ts ≡ us → limit_passed ts ≡ p → limit_passed us ≡ q → p ≡ q
limit_same ts us p q e a b = sym a ∙ ap limit_passed e ∙ b

module _ (one_list : lexer.OneList) (one_stop : lexer.OneStop) (stops_or_lexes : lexer.NeverBoth) (lexes_or_stops : lexer.AlwaysOne)
    (one_program : parser.OneProgram) (one_fault : parser.OneFault) (derives_or_fault : parser.NeverBoth) (fault_or_derives : parser.AlwaysOne) where
  same_source : (text : List ℕ) (ds es : List Declaration) → IsSource text ds → IsSource text es → ds ≡ es
  same_source text ds es s t =
      let e : s.tokens ≡ t.tokens = one_list text s.tokens t.tokens s.lexes t.lexes in
      one_program t.tokens ds es (subst (λ l. Derives l ds) e s.derives) t.derives

  same_refusal : (text : List ℕ) (r s : Refusal) → IsNoSource text r → IsNoSource text s → r ≡ s
  same_refusal text r s (lexical i a) (lexical j b) = ap Lexical (one_stop text i j a b)
  same_refusal text r s (lexical i a) (tokens ts n c l e) = absurd (stops_or_lexes text i ts a l)
  same_refusal text r s (lexical i a) (depth ts n l e) = absurd (stops_or_lexes text i ts a l)
  same_refusal text r s (lexical i a) (syntax ts n k l e f) = absurd (stops_or_lexes text i ts a l)
  same_refusal text r s (tokens ts n c l e) (lexical j b) = absurd (stops_or_lexes text j ts b l)
  same_refusal text r s (tokens ts n c l e) (tokens us m d k f) = let p = limit_same ts us (Some (TooMany n c)) (Some (TooMany m d)) (one_list text ts us l k) e f in ap Tokens cc
  same_refusal text r s (tokens ts n c l e) (depth us m k f) = let p = limit_same ts us (Some (TooMany n c)) (Some (TooDeep m)) (one_list text ts us l k) e f in cc
  same_refusal text r s (tokens ts n c l e) (syntax us m i k f x) = let p = limit_same ts us (Some (TooMany n c)) None (one_list text ts us l k) e f in cc
  same_refusal text r s (depth ts n l e) (lexical j b) = absurd (stops_or_lexes text j ts b l)
  same_refusal text r s (depth ts n l e) (tokens us m d k f) = let p = limit_same ts us (Some (TooDeep n)) (Some (TooMany m d)) (one_list text ts us l k) e f in cc
  same_refusal text r s (depth ts n l e) (depth us m k f) = refl
  same_refusal text r s (depth ts n l e) (syntax us m i k f x) = let p = limit_same ts us (Some (TooDeep n)) None (one_list text ts us l k) e f in cc
  same_refusal text r s (syntax ts n i l e x) (lexical j b) = absurd (stops_or_lexes text j ts b l)
  same_refusal text r s (syntax ts n i l e x) (tokens us m d k f) = let p = limit_same ts us None (Some (TooMany m d)) (one_list text ts us l k) e f in cc
  same_refusal text r s (syntax ts n i l e x) (depth us m k f) = let p = limit_same ts us None (Some (TooDeep m)) (one_list text ts us l k) e f in cc
  same_refusal text r s (syntax ts n i l e x) (syntax us m j k f y) =
      let same = one_fault us n i m j (subst (λ v. FaultAt v n i) (one_list text ts us l k) x) y in
      ap (λ v. Syntax v i) same.0 ∙ ap (Syntax m) same.1

  source_or_refused : (text : List ℕ) (ds : List Declaration) (r : Refusal) → IsSource text ds → IsNoSource text r → ⊥
  source_or_refused text ds r s (lexical i a) = stops_or_lexes text i s.tokens a s.lexes
  source_or_refused text ds r s (tokens ts n c l e) = let p = limit_same s.tokens ts None (Some (TooMany n c)) (one_list text s.tokens ts s.lexes l) s.within e in cc
  source_or_refused text ds r s (depth ts n l e) = let p = limit_same s.tokens ts None (Some (TooDeep n)) (one_list text s.tokens ts s.lexes l) s.within e in cc
  source_or_refused text ds r s (syntax ts n i l e x) = derives_or_fault ts ds n i (subst (λ l. Derives l ds) (one_list text s.tokens ts s.lexes l) s.derives) x

  -- a text is read to one thing at most
  at_most_one : (text : List ℕ) (j k : Judged (List Declaration)) → ReadsSource text j → ReadsSource text k → k ≡ j
  at_most_one text (Accepted ds) (Accepted es) h g = ap Accepted (same_source text es ds g h)
  at_most_one text (Accepted ds) (Refused (Plainly r)) h g = absurd (source_or_refused text ds r h g)
  at_most_one text (Accepted ds) (Refused (InScene r)) h g = absurd g
  at_most_one text (Refused (Plainly r)) (Accepted es) h g = absurd (source_or_refused text es r g h)
  at_most_one text (Refused (Plainly r)) (Refused (Plainly s)) h g = ap (λ x. Refused (Plainly x)) (same_refusal text s r g h)
  at_most_one text (Refused (Plainly r)) (Refused (InScene s)) h g = absurd g
  at_most_one text (Refused (InScene r)) k h g = absurd h

  abbrev Read : List ℕ → Type 0
  Read text = (j : Judged (List Declaration)) × ReadsSource text j

  by_grammar : (text : List ℕ) (ts : List TokenView) → Lexes text ts → limit_passed ts ≡ None
      → ((ds : List Declaration) × Derives ts ds) ⊎ ((number : ℕ) × (line : ℕ) × FaultAt ts number line) → Read text
  by_grammar text ts l e (inl a) = (Accepted a.0, record { tokens = ts; lexes = l; within = e; derives = a.1 })
  by_grammar text ts l e (inr a) = (Refused (Plainly (Syntax a.0 a.1)), syntax ts a.0 a.1 l e a.2)

  by_limit : (text : List ℕ) (ts : List TokenView) → Lexes text ts → (p : Option Passed) → limit_passed ts ≡ p → Read text
  by_limit text ts l None e = by_grammar text ts l e (fault_or_derives ts)
  by_limit text ts l (Some (TooMany number count)) e = (Refused (Plainly (Tokens count)), tokens ts number count l e)
  by_limit text ts l (Some (TooDeep number)) e = (Refused (Plainly Depth), depth ts number l e)

  by_tokens : (text : List ℕ) → ((ts : List TokenView) × Lexes text ts) ⊎ ((i : ℕ) × IsStuckAt text i) → Read text
  by_tokens text (inl a) = by_limit text a.0 a.1 (limit_passed a.0) refl
  by_tokens text (inr a) = (Refused (Plainly (Lexical a.0)), lexical a.0 a.1)

  pub one_source : OneSource
  one_source text = let r = by_tokens text (lexes_or_stops text) in (r.0, r.1, λ k h. at_most_one text r.0 k r.1 h)

-- ---- and so by types and unfolding
module _ (source : OneSource) (typed_or_fault : types.TypedOrAtFault) (not_both : types.NotTypedAtFault) (one_first_fault : types.OneFirstFault) where
  same : (text : List ℕ) (j k : Judged (List Declaration)) → ReadsSource text j → ReadsSource text k → j ≡ k
  same text j k h g = let one = source text in one.2 j h ∙ sym (one.2 k g)

  declared_same : (text : List ℕ) (ds es : List Declaration) → IsSource text ds → IsSource text es → ds ≡ es
  declared_same text ds es h g = let e = same text (Accepted ds) (Accepted es) h g in cc

  refused_same : (text : List ℕ) (r s : Refusal) → IsNoSource text r → IsNoSource text s → r ≡ s
  refused_same text r s h g = let e = same text (Refused (Plainly r)) (Refused (Plainly s)) h g in cc

  never : (text : List ℕ) (ds : List Declaration) (r : Refusal) → IsSource text ds → IsNoSource text r → ⊥
  never text ds r h g = let e = same text (Accepted ds) (Refused (Plainly r)) h g in cc

  same_unfolding : (text : List ℕ) (U V : Unfolding) → IsProgramText text U → IsProgramText text V → U ≡ V
  same_unfolding text U V p q = p.unfolds ∙ ap unfolding_by (declared_same text p.declarations q.declarations p.source q.source) ∙ sym q.unfolds

  same_no_program : (text : List ℕ) (r s : Refusal) → IsNoProgram text r → IsNoProgram text s → r ≡ s
  same_no_program text r s (no_source a x) (no_source b y) = refused_same text r s x y
  same_no_program text r s (no_source a x) (ill_typed ds n k y f) = absurd (never text ds r y x)
  same_no_program text r s (no_source a x) (too_large ds y t l) = absurd (never text ds r y x)
  same_no_program text r s (ill_typed ds n k x f) (no_source b y) = absurd (never text ds s x y)
  same_no_program text r s (ill_typed ds n k x f) (ill_typed es m j y g) =
      let both = one_first_fault es n m k j (subst (λ v. FirstFault v n k) (declared_same text ds es x y) f) g in
      ap (λ v. Types v k) both.0 ∙ ap (Types m) both.1
  same_no_program text r s (ill_typed ds n k x f) (too_large es y t l) = absurd (not_both es n k t (subst (λ v. FirstFault v n k) (declared_same text ds es x y) f))
  same_no_program text r s (too_large ds x t l) (no_source b y) = absurd (never text ds s x y)
  same_no_program text r s (too_large ds x t l) (ill_typed es m j y g) = absurd (not_both ds m j t (subst (λ v. FirstFault v m j) (sym (declared_same text ds es x y)) g))
  same_no_program text r s (too_large ds x t l) (too_large es y u k) = ap (λ v. Size (min MOST_COUNTED (length (Nodes v)))) (declared_same text ds es x y)

  program_or_refused : (text : List ℕ) (U : Unfolding) (r : Refusal) → IsProgramText text U → IsNoProgram text r → ⊥
  program_or_refused text U r p (no_source a x) = never text p.declarations r p.source x
  program_or_refused text U r p (ill_typed ds n k x f) = not_both p.declarations n k p.typed (subst (λ v. FirstFault v n k) (declared_same text ds p.declarations x p.source) f)
  program_or_refused text U r p (too_large ds x t l) = let e = ap (λ v. length (Nodes v)) (declared_same text ds p.declarations x p.source) in omega (arith, e, l, p.few)

  program_at_most_one : (text : List ℕ) (j k : Judged Unfolding) → ReadsProgram text j → ReadsProgram text k → k ≡ j
  program_at_most_one text (Accepted U) (Accepted V) h g = ap Accepted (same_unfolding text V U g h)
  program_at_most_one text (Accepted U) (Refused (Plainly r)) h g = absurd (program_or_refused text U r h g)
  program_at_most_one text (Accepted U) (Refused (InScene r)) h g = absurd g
  program_at_most_one text (Refused (Plainly r)) (Accepted V) h g = absurd (program_or_refused text V r g h)
  program_at_most_one text (Refused (Plainly r)) (Refused (Plainly s)) h g = ap (λ x. Refused (Plainly x)) (same_no_program text s r g h)
  program_at_most_one text (Refused (Plainly r)) (Refused (InScene s)) h g = absurd g
  program_at_most_one text (Refused (InScene r)) k h g = absurd h

  abbrev ReadTyped : List ℕ → Type 0
  ReadTyped text = (j : Judged Unfolding) × ReadsProgram text j

  by_size : (text : List ℕ) (ds : List Declaration) → IsSource text ds → IsTyped ds → (b : Bool) → nat_le (length (Nodes ds)) MOST_NODES ≡ b → ReadTyped text
  by_size text ds h t true e = (Accepted (unfolding_by ds), record { declarations = ds; source = h; typed = t; few = grind (arith, nat_tests); unfolds = refl })
  by_size text ds h t false e =
      let large : MOST_NODES < length (Nodes ds) = grind (arith, nat_tests) in
      (Refused (Plainly (Size (min MOST_COUNTED (length (Nodes ds))))), too_large ds h t large)

  by_types : (text : List ℕ) (ds : List Declaration) → IsSource text ds → IsTyped ds ⊎ ((n : ℕ) × (k : TypeKind) × FirstFault ds n k) → ReadTyped text
  by_types text ds h (inl t) = by_size text ds h t (nat_le (length (Nodes ds)) MOST_NODES) refl
  by_types text ds h (inr a) = (Refused (Plainly (Types a.0 a.1)), ill_typed ds a.0 a.1 h a.2)

  by_source : (text : List ℕ) (j : Judged (List Declaration)) → ReadsSource text j → ReadTyped text
  by_source text (Accepted ds) h = by_types text ds h (typed_or_fault ds)
  by_source text (Refused (Plainly r)) h = (Refused (Plainly r), no_source r h)
  by_source text (Refused (InScene r)) h = absurd h

  pub one_program_text : OneProgramText
  one_program_text text =
      let one = source text in
      let r = by_source text one.0 one.1 in
      (r.0, r.1, λ k h. program_at_most_one text r.0 k r.1 h)

-- ---- and so a scene with its program
module _ (program : OneProgramText) where
  abbrev after : (network : List ℕ) → Judged Unfolding → Judged InputOf
  after network (Accepted U) = with_scene U (scene_of U network)
  after network (Refused cause) = Refused cause

  is_after : (network : List ℕ) (j : Judged Unfolding) → AndThen j (λ U k. k ≡ with_scene U (scene_of U network)) (after network j)
  is_after network (Accepted U) = refl
  is_after network (Refused cause) = refl

  only_after : (network : List ℕ) (j : Judged Unfolding) (k : Judged InputOf) → AndThen j (λ U k. k ≡ with_scene U (scene_of U network)) k → k ≡ after network j
  only_after network (Accepted U) k h = h
  only_after network (Refused cause) k h = h

  pub one_input : OneInput
  one_input text network short =
      let one = program text in (
        after network one.0,
        record { short = short; judged = one.0; reads = one.1; scene = is_after network one.0 },
        λ k h. only_after network h.judged k h.scene ∙ ap (after network) (one.2 h.judged h.reads),
      )
